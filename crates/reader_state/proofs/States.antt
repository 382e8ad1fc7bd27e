-- A state's numbers and bytes fit, by the test that it passed.
use Rattle.reader_state.specs.declared.state.State.{State}
use Rattle.reader_state.specs.Fits.{Fits}
use Rattle.reader_state.specs.State.{bytes_in}
use Rattle.reader_state.proofs.Fitting.{fits_in}

pub fit_of : (s : State) → Fits s.at (bytes_in s)
fit_of s = fits_in s.at s.sized s.tested
