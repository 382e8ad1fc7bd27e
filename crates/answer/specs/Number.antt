-- The numbers of the answers that say why there is no data: document 01's.
use Rattle.std.specs.Prelude.{ℕ}
use Rattle.answer.specs.declared.Refusal.{Refusal}
use Rattle.answer.specs.declared.Refusal.TheVariants.{OutOfShape, NoSuperblock, Features, NoCheckpoint, Unreadable}
use Rattle.answer.specs.declared.Stop.{Stop}
use Rattle.answer.specs.declared.Stop.TheVariants.{NoName, PastEnd, NoNode, NodeOutside, ForeignNode, KindNotRead, DataOutside, MalformedSlot}

-- why no card is opened
abbrev pub refusal_number : Refusal → ℕ
refusal_number OutOfShape = 4
refusal_number NoSuperblock = 5
refusal_number Features = 6
refusal_number NoCheckpoint = 7
refusal_number Unreadable = 8

-- what ends a walk
abbrev pub stop_number : Stop → ℕ
stop_number NoName = 2
stop_number PastEnd = 3
stop_number NoNode = 9
stop_number NodeOutside = 10
stop_number ForeignNode = 11
stop_number KindNotRead = 12
stop_number DataOutside = 13
stop_number MalformedSlot = 14
