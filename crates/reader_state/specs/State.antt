-- A state as the definitions see it.
use Rattle.reader_state.specs.declared.state.State.{State}
use Rattle.reader_state.specs.Resume.{Memory, memory}

abbrev pub bytes_in : State → Memory
bytes_in s = memory s.path.now s.first.now s.held.now s.journal.now
