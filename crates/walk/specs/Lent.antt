-- The lists that a walk is lent, as the definitions see them.
use Rattle.std.specs.Prelude.{◌≡◌}
use Rattle.walk.specs.declared.SeenLists.{SeenLists}
use Rattle.checkpoint.specs.declared.open_image.OpenImage.{OpenImage}
use Rattle.checkpoint.specs.OpenImage.{card_in}
use Rattle.walk.specs.Walk.{Lists, View, view_of}

-- an image that opens, as a walk sees it
abbrev pub view_in : OpenImage → View
view_in o = view_of (card_in o) o.volume

-- what stands behind the lists, and how much of it is listed
abbrev pub lent : SeenLists → Lists
lent s =
    record {
      nodes = s.nodes.now.bytes.now;
      blocks = s.blocks.now.bytes.now;
      counts = record { nodes = s.nodes.now.count; blocks = s.blocks.now.count };
    }

-- both lists still stand in the bytes that were lent
abbrev pub SameLent : SeenLists → SeenLists → Type 0
SameLent s t =
    (t.nodes.ghost_name ≡ s.nodes.ghost_name)
    × (t.blocks.ghost_name ≡ s.blocks.ghost_name)
    × (t.nodes.now.bytes.ghost_name ≡ s.nodes.now.bytes.ghost_name)
    × (t.blocks.now.bytes.ghost_name ≡ s.blocks.now.bytes.ghost_name)
