-- What is shown of the machine over flat code is what is shown of the script's.
use Rattle.std.proofs.Common.{ap, ◌≡◌}
use mathlib.Core.Path.{◌∙◌}
use Rattle.words_script.specs.declared.decl.Script.{Script}
use Rattle.rules_bodies.specs.declared.cursor.Cursor.{Cursor}
use Rattle.rules_bodies.specs.Next.{Place}
use Rattle.rules_machine.specs.declared.frame.BodyOf.{BodyOf}
use Rattle.rules_machine.specs.Bodies.{Bodies}
use Rattle.rules_machine.specs.Machine.{bodies_of, machine}
use Rattle.rules_machine.specs.Runs.{Ran, tick_begun}
use Rattle.rules_machine.specs.State.{Machine}
use Rattle.rules_machine.specs.Turns.{Turn, turn_of}
use Rattle.rules_flat_code.specs.FlatBodies.{code_of, flat_bodies}
use Rattle.rules_facts.specs.Shown.{once_ended, shown_machine, state_text}
use Rattle.laws_places.specs.Carried.{Agree}
use Rattle.laws_places.proofs.CarriedReads.{M}
use Rattle.laws_places.proofs.CarriedTicks.{instant_carries}
use Rattle.laws_flat_code.specs.Places.{carry}
use Rattle.laws_flat_code.proofs.Agrees.{flat_agrees, flat_runs}
use Rattle.laws_facts.specs.Shows.{FlatShows, TellsNoPlace, shown_of}
use Rattle.laws_facts.proofs.CarriedFacts.{facts_carry, once_ended_carries, text_carries}

module _ {P Q : Type 0} (carry : BodyOf → P → Q) (p : Bodies P) (q : Bodies Q) (a : Agree carry p q) where
  -- the machine that is shown of a carried one is the carried one that is shown
  pub shown_of_carries : (m : Machine P) → shown_of q (M carry m) ≡ M carry (shown_of p m)
  shown_of_carries m =
      let ready = (tick_begun p m).machine in
      ap (λ (s : Turn Q). once_ended s.machine.killed s.machine) (instant_carries carry p q a (turn_of m)) ∙ once_ended_carries carry p q a ready.killed ready

pub flat_shows : FlatShows
flat_shows script n =
    let q = flat_bodies (code_of script) in
    let m = machine script n in
    ap (λ (r : Ran Cursor). state_text script (shown_of q r.machine)) (flat_runs script n)
    ∙ ap (state_text script) (shown_of_carries (carry script) (bodies_of script) q (flat_agrees script) m)
    ∙ text_carries (carry script) script (shown_machine script n)

pub tells_no_place : (script : Script) (m : Machine Place) → TellsNoPlace script m
tells_no_place script m = facts_carry (carry script) script m
