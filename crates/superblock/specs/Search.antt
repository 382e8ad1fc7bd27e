-- The code's answer as the definitions': an error stands for its number.
use Rattle.std.specs.Prelude.{Result, Ok, Err}
use Rattle.answer.specs.declared.Refusal.{Refusal}
use Rattle.answer.specs.Number.{refusal_number}
use Rattle.superblock.specs.declared.Areas.{Areas}
use Rattle.superblock.specs.Areas.{Found, At, Refused}

abbrev pub found_in : Result Areas Refusal → Found
found_in (Ok areas) = At areas
found_in (Err refusal) = Refused (refusal_number refusal)
