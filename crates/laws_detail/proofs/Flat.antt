-- The facts and the events of the machine over the flat code of a script are the script's.
use Rattle.std.proofs.Common.{ap, ℕ}
use mathlib.Core.Path.{◌∙◌}
use Rattle.words_script.specs.declared.decl.Script.{Script}
use Rattle.rules_bodies.specs.declared.cursor.Cursor.{Cursor}
use Rattle.rules_machine.specs.Machine.{bodies_of, machine}
use Rattle.rules_machine.specs.Runs.{Ran}
use Rattle.rules_flat_code.specs.FlatBodies.{code_of, flat_bodies}
use Rattle.rules_facts.specs.Facts.{facts}
use Rattle.rules_facts.specs.Shown.{shown_machine}
use Rattle.laws_flat_code.specs.Places.{carry}
use Rattle.laws_flat_code.proofs.Agrees.{flat_agrees, flat_runs}
use Rattle.laws_facts.specs.Shows.{shown_of}
use Rattle.laws_facts.proofs.CarriedFacts.{facts_carry}
use Rattle.laws_facts.proofs.Shows.{shown_of_carries}
use Rattle.laws_detail.specs.Flat.{FlatTellsTheSame}

pub flat_tells_the_same : (script : Script) (n : ℕ) → FlatTellsTheSame script n
flat_tells_the_same script n =
    let q = flat_bodies (code_of script) in
    record {
      told =
          ap (λ (r : Ran Cursor). facts script (shown_of q r.machine)) (flat_runs script n)
          ∙ ap (facts script) (shown_of_carries (carry script) (bodies_of script) q (flat_agrees script) (machine script n))
          ∙ facts_carry (carry script) script (shown_machine script n);
      events = ap (λ (r : Ran Cursor). r.events) (flat_runs script n);
    }
