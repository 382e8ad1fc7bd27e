-- What comparing a keep file with a new image answers.
use Rattle.std.specs.Prelude.{ℕ, List, length}
use Rattle.field.specs.Card.{Card, card_of}
use Rattle.field.specs.Choice.{choose}
use Rattle.superblock.specs.Shape.{in_shape}
use Rattle.checkpoint.specs.declared.Volume.{Volume}
use Rattle.checkpoint.specs.Volume.{Opening, Opened, Refused, opened}
use Rattle.walk.specs.Walk.{view_of}
use Rattle.node.specs.Node.{bounds_of}
use Rattle.compare.specs.declared.Compared.{Compared}
use Rattle.compare.specs.Difference.{Told, difference}
use Rattle.compare.specs.Compare.{refused, verdict}
use Rattle.keep_file.specs.Keep.{numbers_of, Keep, kept_view}
use Rattle.keep_file.specs.Reading.{Read, unreadable, kept, read_keep}

-- Compare's first difference, where the kept side is what the file holds of the card
unfoldable pub keep_difference : Keep → Card → Volume → Told
keep_difference k fresh u =
    difference k.bounds (bounds_of u) (kept_view k) (view_of fresh u) (numbers_of k.nodes) (numbers_of k.blocks)

-- "5 to 8 .. for the new one, with the side", which is 2, then as Compare
abbrev pub after_opening : Keep → Card → Opening → Compared
after_opening k fresh (Opened u) = verdict (keep_difference k fresh u)
after_opening k fresh (Refused answer) = refused answer 2

-- "4 if [the new] image's length is out of shape"
abbrev pub after_reading : Read → List ℕ → Compared
after_reading unreadable fresh = refused 18 0
after_reading (kept k) fresh = choose (in_shape (length fresh)) (after_opening k (card_of fresh) (opened (card_of fresh))) (refused 4 0)

-- "Reading refuses, with 18 and before a new image is tested"
unfoldable pub keep_compared : List ℕ → List ℕ → Compared
keep_compared file fresh = after_reading (read_keep file) fresh
