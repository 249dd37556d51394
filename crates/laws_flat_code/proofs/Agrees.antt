-- Flat code knows the same of bodies as the trees.
use Rattle.std.proofs.Common.{◌≡◌, ℕ, ◌+◌, List, [], drop, refl, ap, sym, ◌∙◌, Some, None, append-nil, arith, add-zero}
use Rattle.words_numbers.specs.declared.res.Res.TheVariants as res
use Rattle.words_script.specs.Block.{Block, Nothing, Running, Making, Setting, Adding, Taking, Testing, Looping, Guarding}
use Rattle.words_script.specs.declared.decl.Script.{Script}
use Rattle.rules_bodies.specs.declared.cursor.Cursor.{Cursor}
use Rattle.rules_bodies.specs.declared.op.Op.{Op}
use Rattle.rules_bodies.specs.declared.unit.Unit.TheVariants.{Finish}
use Rattle.rules_bodies.specs.Next.{Due, Ended, Outcome, Place, from_place, or_finish, step_number}
use Rattle.rules_bodies.specs.Flat as flat_code
use Rattle.rules_bodies.specs.Flat.{flat, op_number}
use Rattle.rules_bodies.specs.Fetch.{fetched, found_in, ops_of}
use Rattle.rules_bodies.specs.Stands.{step_at}
use Rattle.rules_bodies.proofs.Lands.{landed}
use Rattle.rules_bodies.proofs.Places.{drop-flat, ops_from, places_land}
use Rattle.rules_bodies.proofs.Relative.{place_same}
use Rattle.rules_machine.specs.declared.frame.BodyOf.{BodyOf}
use Rattle.rules_machine.specs.Bodies.{NextUnit, Seen}
use Rattle.rules_machine.specs.Machine.{body_tree, bodies_of, next_in}
use Rattle.laws_places.specs.Carried.{Agree}
use Rattle.laws_places.proofs.CarriedTrace.{runs_carry, trace_over}
use Rattle.laws_places.proofs.CarriedBusy.{busy_over}
use Rattle.laws_flat_code.specs.Places.{at_place, carry}
use Rattle.laws_flat_code.specs.Traces.{FlatBusy, FlatRuns, FlatTraces}
use Rattle.rules_flat_code.proofs.Numbered.{body_ops}
use Rattle.rules_flat_code.specs.FlatBodies.{code_of, cursor_at, flat_bodies, next_unit, number_of}

abbrev pub unit_at : ℕ → Block → NextUnit Place → NextUnit Cursor
unit_at n body x = record { unit = x.unit; place = at_place n body x.place; register = x.register }

-- the end of a body is the place behind its last step
step_at-step_number : (block : Block) (at : ℕ) → step_at at (step_number block) block ≡ at + op_number block
step_at-step_number Nothing at = sym (add-zero at)
step_at-step_number (Running n rest) at = let h = step_at-step_number rest (at + 1) in omega arith
step_at-step_number (Making c rest) at = let h = step_at-step_number rest (at + 1) in omega arith
step_at-step_number (Setting n rest) at = let h = step_at-step_number rest (at + 1) in omega arith
step_at-step_number (Adding n rest) at = let h = step_at-step_number rest (at + 1) in omega arith
step_at-step_number (Taking rest) at = let h = step_at-step_number rest (at + 1) in omega arith
step_at-step_number (Testing named equal inner rest) at = let h = step_at-step_number rest (at + (1 + op_number inner)) in omega arith
step_at-step_number (Looping None inner rest) at = let h = step_at-step_number rest (at + (1 + op_number inner)) in omega arith
step_at-step_number (Looping (Some n) inner rest) at = let h = step_at-step_number rest (at + (2 + op_number inner)) in omega arith
step_at-step_number (Guarding cleanup run inner rest) at = let h = step_at-step_number rest (at + (2 + op_number inner)) in omega arith

outcome_same : (o : Outcome) (n : ℕ) (body : Block) (place : Place) (seen : Seen) →
    next_unit (landed (cursor_at (at_place n body place) seen) 0 body [] (op_number body) [] o)
    ≡ unit_at n body (record { unit = (or_finish body o).unit; place = (or_finish body o).place; register = (or_finish body o).register })
outcome_same (Due u to r) n body place seen = refl
outcome_same (Ended r) n body place seen =
    ap (λ (pc : ℕ). record { unit = Finish; place = record { body = n; pc = pc; register = 0; result = res.Zero; value = 0; counts = record { items = [] } }; register = r })
    (let k = step_at-step_number body 0 in omega arith)

-- the next unit at a place, by the operations of the body
next_same : (code : flat_code.NumberedBodies (List Op)) (n : ℕ) (body : Block) (place : Place) (seen : Seen) → ops_of code n ≡ flat 0 body →
    next_unit (fetched code (cursor_at (at_place n body place) seen)) ≡ unit_at n body (next_in body place seen)
next_same code n body place seen is =
    let c = cursor_at (at_place n body place) seen in
    let lands : fetched code c ≡ landed c 0 body [] (op_number body) [] (from_place seen.result seen.value place body seen.register) =
    ap (λ (ops : List Op). found_in (drop c.pc ops) 0 c) is
    ∙ ap (λ (ops : List Op). found_in ops 0 c) (drop-flat place body ∙ sym (append-nil (ops_from place 0 body)))
    ∙ places_land place c seen.register body 0 [] (op_number body) [] (omega arith)
    ∙ ap (landed c 0 body [] (op_number body) []) (sym (place_same seen.result seen.value place body seen.register)) in
    ap next_unit lands ∙ outcome_same (from_place seen.result seen.value place body seen.register) n body place seen

module _ (script : Script) where
  same : (b : BodyOf) (place : Place) (seen : Seen) → (flat_bodies (code_of script)).next b (carry script b place) seen ≡ unit_at (number_of (code_of script) b) (body_tree script b) ((bodies_of script).next b place seen)
  same b place seen = next_same (code_of script) (number_of (code_of script) b) (body_tree script b) place seen (body_ops script b)

  pub flat_agrees : Agree (carry script) (bodies_of script) (flat_bodies (code_of script))
  flat_agrees = record {
    start = λ b. refl;
    unit = λ b place seen. ap (λ (x : NextUnit Cursor). x.unit) (same b place seen);
    place = λ b place seen. ap (λ (x : NextUnit Cursor). x.place) (same b place seen);
    register = λ b place seen. ap (λ (x : NextUnit Cursor). x.register) (same b place seen);
  }

pub flat_traces : FlatTraces
flat_traces script n = trace_over (carry script) script (flat_bodies (code_of script)) (flat_agrees script) n

pub flat_runs : FlatRuns
flat_runs script n = runs_carry (carry script) (bodies_of script) (flat_bodies (code_of script)) (flat_agrees script) script n

pub flat_busy : FlatBusy
flat_busy script from to = busy_over (carry script) script (flat_bodies (code_of script)) (flat_agrees script) from to
