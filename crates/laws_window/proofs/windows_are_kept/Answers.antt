use Rattle.rules_machine.specs.Machine.{bodies_of}
use Rattle.rules_moves.proofs.Runs.Units.{bodies_fit}
use Rattle.laws_window.proofs.InWindow.{keeps_windows}
use Rattle.laws_window.proofs.windows_are_kept.Goals as goal

pub returns : goal.returns
returns c = λ script fits. keeps_windows (bodies_of script) (bodies_fit script fits.priorities) script fits
