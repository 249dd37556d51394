use Rattle.rules_machine.specs.Machine.{bodies_of}
use Rattle.rules_machine.specs.Runs.{opening}
use Rattle.rules_moves.proofs.Runs.Units.{bodies_fit}
use Rattle.laws_window.proofs.InWindow.{stands_at}
use Rattle.laws_window.proofs.AsBefore.{runs_as_before}
use Rattle.laws_window.proofs.runs_are_as_before.Goals as goal

pub returns : goal.returns
returns c = λ script fits plain first. runs_as_before (bodies_of script) (bodies_fit script fits.priorities) plain (opening script) (stands_at (bodies_of script) (bodies_fit script fits.priorities) script fits) first
