-- What is told of an instant of the machine over the flat code of a script. This project's own.
use Rattle.std.specs.Prelude.{ℕ, ◌≡◌}
use Rattle.words_script.specs.declared.decl.Script.{Script}
use Rattle.rules_machine.specs.Machine.{run}
use Rattle.rules_machine.specs.Runs.{opening, ticks}
use Rattle.rules_flat_code.specs.FlatBodies.{code_of, flat_bodies}
use Rattle.rules_facts.specs.Facts.{facts}
use Rattle.rules_facts.specs.Shown.{shown_machine}
use Rattle.laws_facts.specs.Shows.{shown_of}

-- its facts and its events are the script's
pub record FlatTellsTheSame (script : Script) (n : ℕ) : Type 0 where
  pub told : facts script (shown_of (flat_bodies (code_of script)) (ticks (flat_bodies (code_of script)) n (opening script)).machine) ≡ facts script (shown_machine script n)
  pub events : (ticks (flat_bodies (code_of script)) n (opening script)).events ≡ (run script n).events
