-- K10, of every reader: fed the image's blocks it comes to what the pull gives; fed other bytes it still answers, after at most 408k + 16
-- blocks for k names; and a block outside the card is never asked for.
use Prim.Native.Nat.{ℕ, ◌+◌, ◌*◌, ◌%◌, ◌≤◌, ◌<◌}
use native.Mathlib.Omega.{arith}
use mathlib.Core.Path.{◌≡◌, refl, sym, ap, ◌∙◌, subst}
use mathlib.Core.Bool.{true, false, ◌&&◌, and-false}
use mathlib.Core.List.{List}
use mathlib.Core.Logic.{⊎_elim}
use lib.ListN.{length}
use borrow.Author.Tests.{ltb-true}
use Rattle.field.specs.Card.{card_of}
use Rattle.field.proofs.Choosing.{either, needed, needed_le}
use Rattle.field.proofs.Blocks.{length_block}
use Rattle.superblock.specs.Shape.{in_shape}
use Rattle.superblock.specs.Areas.{AreasIn}
use Rattle.checkpoint.specs.declared.Volume.{Volume}
use Rattle.checkpoint.specs.Volume.{Opening, Opened, Refused, opened}
use Rattle.checkpoint.proofs.Inside.{volume_in}
use Rattle.checkpoint.proofs.Ways.{shape_opens}
use Rattle.path.specs.Path.{part_count, is_path}
use Rattle.walk.specs.Walk.{empty}
use Rattle.node.specs.Node.{bounds_of, in_main}
use Rattle.pull.specs.Walk.{pull_walk}
use Rattle.pull.specs.Pull.{nodes_most, blocks_most, Lent, lent_in_shape, call_in_shape, pull_run, pulled_from, pulled}
use Rattle.pull.proofs.Sizes.{pull_within}
use Rattle.pull.proofs.Results.{call_refused, call_opens, call_in_shape_lem}
use Rattle.asking.specs.Asking.{Asking, answer, ask, fed, Few, ends, asks}
use Rattle.asking.specs.Open.{Opens, opens, refuses, opens_of}
use Rattle.asking.specs.Pull.{Ending, refused, came, walk_ask, start_in_shape, read_ask, steps, driven, EndingIn, result_of}
use Rattle.asking.proofs.Fed.{fed_asking, fed_open}
use Rattle.asking.proofs.Sizes.{few_le, few_if, few_asking}
use Rattle.asking.proofs.Opening.{OpensIn, few_open, table_on_card}
use Rattle.asking.proofs.Driving.{few_steps, steps_end, driven_ends}

-- ---- how much is asked for, and where
main_on_card : (blocks : ℕ) (v : Volume) → AreasIn blocks v.areas → (b : ℕ) → in_main (bounds_of v) b ≡ true → b < blocks
unfolding in_main
main_on_card blocks v i b h =
    let below = ltb-true b v.areas.main_end (needed (λ p. simp (p, and-false)) h) in
    omega arith

module _ (blocks : ℕ) (path : List ℕ) (index : ℕ) where
  abbrev names : ℕ
  names = part_count path

  few_walk : (x : Opens) → OpensIn blocks x → Few (λ b. b < blocks) (EndingIn names) (nodes_most names + blocks_most names) (walk_ask empty path index x)
  unfolding walk_ask
  few_walk (opens t) i =
      few_asking t (table_on_card blocks t i) (nodes_most names) (blocks_most names) came (main_on_card blocks t.volume i)
      (λ r q n m rise. record { nodes_fit = n; blocks_fit = m; rise = rise; ended = q })
      empty (tt, tt) (omega arith) (omega arith) (pull_within (bounds_of t.volume) path index)
  few_walk (refuses n) i = ends {a = refused n} (omega (arith, i), omega (arith, i))

  pub few_read : Few (λ b. b < blocks) (EndingIn names) (408 * names + 16) (read_ask blocks path index)
  unfolding read_ask start_in_shape
  few_read =
      few_if (start_in_shape blocks path)
      (λ p.
      let least : 2 ≤ blocks = needed_le (λ e. rw e) p in
      few_le (408 * names + 16) (omega arith) (few_open blocks least (walk_ask empty path index) few_walk))
      (λ _. ends {a = refused 4} (omega arith, omega arith))

  -- "Fed other bytes it still answers, after at most 408k + 16 blocks for k names": so many steps, with whatever comes, end it
  pub still_answers : (ls : List (List ℕ)) → length ls ≡ 408 * names + 16
      → (x : Ending) × (steps ls (read_ask blocks path index) ≡ answer x) × EndingIn names x
  still_answers ls e = steps_end ls (omega arith, omega arith) (few_le (length ls) (omega arith) few_read)

  -- "A block number outside the card is never asked for": after any steps
  pub never_outside : (ls : List (List ℕ)) (b : ℕ) (k : List ℕ → Asking Ending) → steps ls (read_ask blocks path index) ≡ ask b k → b < blocks
  never_outside ls b k e =
      asked (subst (λ (a : Asking Ending). Few (λ c. c < blocks) (EndingIn names) (408 * names + 16) a) e
      (few_steps ls (omega arith, omega arith) (few_le (length ls + (408 * names + 16)) (omega arith) few_read)))
    where
      asked : {n : ℕ} → Few (λ c. c < blocks) (EndingIn names) n (ask b k) → b < blocks
      asked (asks p h) = p

-- ---- fed the image's blocks
module _ (image path : List ℕ) (index : ℕ) (lent : Lent) where
  abbrev FedAsPull : Type 0
  FedAsPull = result_of (fed (card_of image).block (read_ask (card_of image).blocks path index)) lent ≡ pulled image path index lent

  -- what follows the opening
  same_opened : (o : Opening) → opened (card_of image) ≡ o
      → result_of (fed (card_of image).block (walk_ask empty path index (opens_of (card_of image) o))) lent ≡ pulled_from (card_of image) o path index lent
  unfolding walk_ask fed pull_run
  same_opened (Opened v) e =
      ap (λ (x : Ending). result_of x lent)
      (fed_asking (card_of image) v (volume_in (card_of image) v e).journal_count came empty (pull_walk (bounds_of v) path index))
  same_opened (Refused n) e = refl

  module _ (whole : length image % 4096 ≡ 0) (room : is_path path ≡ true → lent_in_shape (part_count path) lent ≡ true) where
    -- a reader starts exactly if the image and the path are in shape
    same_start : start_in_shape (card_of image).blocks path ≡ (in_shape (length image) && is_path path)
    unfolding start_in_shape in_shape
    same_start = rw whole

    starts : (in_shape (length image) && is_path path) ≡ true → FedAsPull
    unfolding read_ask
    starts p =
        let image-in : in_shape (length image) ≡ true = needed (λ e. rw e) p in
        let path-in : is_path path ≡ true = needed (λ e. rw (e, and-false)) p in
        let call : call_in_shape image path lent ≡ true = call_in_shape_lem image path index lent image-in path-in (room path-in) in
        rw (same_start, p)
        (ap (λ (x : Ending). result_of x lent) (fed_open (card_of image) (walk_ask empty path index))
        ∙ same_opened (opened (card_of image)) refl
        ∙ sym (call_opens image path index lent (opened (card_of image)) call (shape_opens image image-in)))

    refused_at_once : (in_shape (length image) && is_path path) ≡ false → FedAsPull
    unfolding read_ask fed call_in_shape
    refused_at_once p = rw (same_start, p) (sym (call_refused image path index lent (rw p)))

    -- "Fed the image's blocks, it gives the answer, bytes and lists that the whole-image pull gives."
    pub same_as_pull : result_of (fed (card_of image).block (read_ask (card_of image).blocks path index)) lent ≡ pulled image path index lent
    same_as_pull = ⊎_elim starts refused_at_once (either (in_shape (length image) && is_path path))

    -- step by step: so many steps, each fed the block that was asked for, come to that
    pub steps_as_pull : (x : Ending) × (driven (card_of image).block (408 * part_count path + 16) (read_ask (card_of image).blocks path index) ≡ answer x)
        × (result_of x lent ≡ pulled image path index lent)
    steps_as_pull = (
      fed (card_of image).block (read_ask (card_of image).blocks path index),
      driven_ends (card_of image).block (length_block image) (few_read (card_of image).blocks path index),
      same_as_pull,
    )
