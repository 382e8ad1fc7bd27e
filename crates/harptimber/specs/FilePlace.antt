-- File place as it crosses: "4 unless A is 873 or 923, 3 past the last index, else 0 with the place numbers and slots on the way".
use Rattle.std.specs.Prelude.{ℕ, ◌||◌, [], get_or, eqb}
use Rattle.field.specs.Choice.{choose}
use Rattle.place.specs.declared.Step.{Step}
use Rattle.place.specs.declared.Way.{Way}
use Rattle.place.specs.Place.{place_of}
use Rattle.place.specs.Way.{step, way_of, in_array}
use Rattle.harptimber.specs.declared.FilePlace.{FilePlace}

-- an answer with a way's numbers; a node that the way doesn't have counts as zeros
abbrev pub crossing : ℕ → Way → FilePlace
crossing answer way =
    let node : ℕ → Step = λ k. get_or way.steps k (step 0 0) in
    record {
      answer = answer;
      steps = way.count;
      place0 = (node 0).number;
      slot0 = (node 0).slot;
      place1 = (node 1).number;
      slot1 = (node 1).slot;
      place2 = (node 2).number;
      slot2 = (node 2).slot;
      place3 = (node 3).number;
      slot3 = (node 3).slot;
    }

-- an index with no way is past the last
abbrev pub placed : Way → FilePlace
placed way = crossing (choose (eqb way.count 0) 3 0) way

unfoldable pub file_place : ℕ → ℕ → FilePlace
file_place A index = choose (eqb A 873 || eqb A 923) (placed (in_array (way_of (place_of A index)))) (crossing 4 (in_array []))
