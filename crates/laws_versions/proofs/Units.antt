-- No unit of a body without a strict setsched gives a thread a strict policy.
use Rattle.std.proofs.Common.{Bool, None, Option, Some, false, refl, subst, suc, sym, true, zero, ℕ, ◌+◌, ◌≡◌}
use Rattle.std.specs.Prelude.{if◌then◌else◌}
use Rattle.words_numbers.specs.declared.res.Res.{Res}
use Rattle.words_script.specs.Block.{Adding, Block, Guarding, Looping, Making, Nothing, Running, Setting, Taking, Testing}
use Rattle.words_script.specs.declared.call.Call.{Call}
use Rattle.words_script.specs.declared.call.Call.TheVariants as call
use Rattle.rules_bodies.specs.declared.unit.Unit as unit_type
use Rattle.rules_bodies.specs.declared.unit.Unit.TheVariants as unit
use Rattle.rules_bodies.specs.Next.{At, Due, Ended, In, Outcome, Place, capped, holds, or_finish, passes_of, rest_of, steps_from}
use Rattle.rules_bodies.proofs.Relative.{and_then, from_head, from_inside, from_place, in_guard, in_loop, in_test, later, later_by, place_same}
use Rattle.rules_machine.specs.Bodies.{Seen}
use Rattle.rules_machine.specs.Machine.{next_in}
use Rattle.rules_flat_code.specs.EachCall.{EachCall}
use Rattle.laws_window.specs.Before.{IsPlainUnit, is_strict_policy}

abbrev pub CallPlain : Call → Type 0
CallPlain (call.Setsched u new) = is_strict_policy new ≡ false
CallPlain other = Unit {0}

abbrev pub BlockPlain : Block → Type 0
BlockPlain block = EachCall CallPlain block

abbrev UnitPlain : unit_type.Unit → Type 0
UnitPlain (unit.Make c) = CallPlain c
UnitPlain other = Unit {0}

-- ---- what a block comes to

abbrev OutcomePlain : Outcome → Type 0
OutcomePlain (Due u place r) = UnitPlain u
OutcomePlain (Ended r) = Unit {0}

later_fits : (o : Outcome) → OutcomePlain o → OutcomePlain (later o)
later_fits (Due u (At i) r) h = h
later_fits (Due u (In i passes place) r) h = h
later_fits (Ended r) h = tt

later_by_fits : (i : ℕ) (o : Outcome) → OutcomePlain o → OutcomePlain (later_by i o)
later_by_fits zero o h = h
later_by_fits (suc i) o h = later_fits (later_by i o) (later_by_fits i o h)

then_fits : (o : Outcome) (after : ℕ → Outcome) → OutcomePlain o → ((r : ℕ) → OutcomePlain (after r)) → OutcomePlain (and_then o after)
then_fits (Due u place r) after h k = h
then_fits (Ended r) after h k = later_fits (after r) (k r)

test_fits : (o : Outcome) → OutcomePlain o → OutcomePlain (in_test o)
test_fits (Due u place r) h = h
test_fits (Ended r) h = tt

loop_fits : (times : Option ℕ) (passes : ℕ) (o : Outcome) → OutcomePlain o → OutcomePlain (in_loop times passes o)
loop_fits times passes (Due u place r) h = h
loop_fits None passes (Ended r) h = tt
loop_fits (Some n) zero (Ended r) h = tt
loop_fits (Some n) (suc zero) (Ended r) h = tt
loop_fits (Some n) (suc (suc passes)) (Ended r) h = tt

guard_fits : (run : Bool) (o : Outcome) → OutcomePlain o → OutcomePlain (in_guard run o)
guard_fits run (Due u place r) h = h
guard_fits run (Ended r) h = tt

if_fits : (b : Bool) (x y : Outcome) → OutcomePlain x → OutcomePlain y → OutcomePlain (if b then x else y)
if_fits true x y h k = h
if_fits false x y h k = k

module _ (result : Res) (value : ℕ) where
  head_fits : (block : Block) (r : ℕ) → BlockPlain block → OutcomePlain (from_head result value block r)
  head_fits Nothing r h = tt
  head_fits (Running n rest) r h = tt
  head_fits (Making c rest) r h = h.0
  head_fits (Setting n rest) r h = later_fits (from_head result value rest (capped n)) (head_fits rest (capped n) h)
  head_fits (Adding n rest) r h = later_fits (from_head result value rest (capped (r + n))) (head_fits rest (capped (r + n)) h)
  head_fits (Taking rest) r h = later_fits (from_head result value rest (capped value)) (head_fits rest (capped value) h)
  head_fits (Testing named equal inner rest) r h =
      then_fits (if holds named equal result then in_test (from_head result value inner r) else Ended r) (from_head result value rest)
      (if_fits (holds named equal result) (in_test (from_head result value inner r)) (Ended r) (test_fits (from_head result value inner r) (head_fits inner r h.0)) tt) (λ r. head_fits rest r h.1)
  head_fits (Looping times inner rest) r h =
      then_fits (in_loop times (passes_of times) (from_head result value inner r)) (from_head result value rest)
      (loop_fits times (passes_of times) (from_head result value inner r) (head_fits inner r h.0)) (λ r. head_fits rest r h.1)
  head_fits (Guarding cleanup run inner rest) r h = tt

  inside_fits : (passes : ℕ) (inside : Block → Outcome) (block : Block) (r : ℕ) → ((b : Block) → BlockPlain b → OutcomePlain (inside b)) → BlockPlain block → OutcomePlain (from_inside result value passes inside block r)
  inside_fits passes inside (Testing named equal inner rest) r k h =
      then_fits (in_test (inside inner)) (from_head result value rest) (test_fits (inside inner) (k inner h.0)) (λ r. head_fits rest r h.1)
  inside_fits passes inside (Looping times inner rest) r k h =
      then_fits (in_loop times passes (inside inner)) (from_head result value rest) (loop_fits times passes (inside inner) (k inner h.0)) (λ r. head_fits rest r h.1)
  inside_fits passes inside (Guarding cleanup run inner rest) r k h = guard_fits run (inside inner) (k inner h.2)
  inside_fits passes inside Nothing r k h = tt
  inside_fits passes inside (Running n rest) r k h = head_fits (Running n rest) r h
  inside_fits passes inside (Making c rest) r k h = head_fits (Making c rest) r h
  inside_fits passes inside (Setting n rest) r k h = head_fits (Setting n rest) r h
  inside_fits passes inside (Adding n rest) r k h = head_fits (Adding n rest) r h
  inside_fits passes inside (Taking rest) r k h = head_fits (Taking rest) r h

  steps_fit : (i : ℕ) (block : Block) → BlockPlain block → BlockPlain (steps_from i block)
  steps_fit zero block h = h
  steps_fit (suc i) block h = steps_fit i (rest_of block) (rest_fits block h)
    where
      rest_fits : (block : Block) → BlockPlain block → BlockPlain (rest_of block)
      rest_fits Nothing h = tt
      rest_fits (Running n rest) h = h
      rest_fits (Making c rest) h = h.1
      rest_fits (Setting n rest) h = h
      rest_fits (Adding n rest) h = h
      rest_fits (Taking rest) h = h
      rest_fits (Testing named equal inner rest) h = h.1
      rest_fits (Looping times inner rest) h = h.1
      rest_fits (Guarding cleanup run inner rest) h = h.3

  place_fits : (place : Place) (block : Block) (r : ℕ) → BlockPlain block → OutcomePlain (from_place result value place block r)
  place_fits (At i) block r h = later_by_fits i (from_head result value (steps_from i block) r) (head_fits (steps_from i block) r (steps_fit i block h))
  place_fits (In i passes place) block r h =
      later_by_fits i (from_inside result value passes (λ inner. from_place result value place inner r) (steps_from i block) r)
      (inside_fits passes (λ inner. from_place result value place inner r) (steps_from i block) r (λ inner k. place_fits place inner r k) (steps_fit i block h))

or_fits : (body : Block) (o : Outcome) → OutcomePlain o → UnitPlain (or_finish body o).unit
or_fits body (Due u place r) h = h
or_fits body (Ended r) h = tt

-- ---- what is asked of a unit

call_plain : (c : Call) → CallPlain c → IsPlainUnit (unit.Make c)
call_plain (call.Setsched u new) h = h
call_plain other h = refl

unit_plain : (u : unit_type.Unit) → UnitPlain u → IsPlainUnit u
unit_plain (unit.Make c) h = call_plain c h
unit_plain other h = refl

pub next_plain : (block : Block) (place : Place) (seen : Seen) → BlockPlain block → IsPlainUnit (next_in block place seen).unit
next_plain block place seen h =
    unit_plain (next_in block place seen).unit
    (subst (λ (o : Outcome). UnitPlain (or_finish block o).unit) (sym (place_same seen.result seen.value place block seen.register))
    (or_fits block (from_place seen.result seen.value place block seen.register) (place_fits seen.result seen.value place block seen.register h)))
