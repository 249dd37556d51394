-- What is fetched is the next unit of the tree.
use Rattle.std.proofs.Common.{◌≡◌, ℕ, zero, suc, ◌+◌, ◌≤◌, Option, None, Some, Bool, true, false, if◌then◌else◌, List, [], ◌∷◌, ◌++◌, drop, slice_get, slice_index_or, refl, ap, sym, subst, ◌∙◌, append-nil, arith, add-zero}
use Rattle.words_numbers.specs.declared.res.Res.{Res}
use Rattle.words_script.specs.Block.{Block, Nothing, Running, Making, Setting, Adding, Taking, Testing, Looping, Guarding}
use Rattle.rules_bodies.specs.declared.cursor.Cursor.{Cursor}
use Rattle.rules_bodies.specs.declared.op.Op.{Op}
use Rattle.rules_bodies.specs.declared.unit.Unit as unit
use Rattle.rules_bodies.specs.Next.{Place, At, In, Outcome, Due, Ended, next, or_finish, register_limit, capped, holds, passes_of, steps_from, step_number}
use Rattle.rules_bodies.proofs.Relative.{later, later_by, and_then, in_test, in_loop, in_guard, end_of_pass, from_head, from_inside, from_place, place_same}
use Rattle.rules_bodies.specs.Flat.{NumberedBodies, flat, op_number}
use Rattle.rules_bodies.specs.Fetch.{found_in, fetched}
use Rattle.rules_bodies.specs.Stands.{step_at, op_at, counts_at, IsBody, Stands, IsPlaced, Fetches}
use Rattle.rules_bodies.proofs.Lands.{placed, landed}
use Rattle.rules_bodies.proofs.Places.{ops_from, drop-flat, places_land}

-- A register stays within its limit.
abbrev register_of : Outcome → ℕ
register_of (Due u place r) = r
register_of (Ended r) = r

abbrev InLimit : Outcome → Type 0
InLimit o = register_of o ≤ register_limit

capped_in_limit : (n : ℕ) → capped n ≤ register_limit
capped_in_limit n = omega arith

later_in_limit : (o : Outcome) → InLimit o → InLimit (later o)
later_in_limit (Due u (At i) r) h = h
later_in_limit (Due u (In i passes place) r) h = h
later_in_limit (Ended r) h = h

later_by_in_limit : (i : ℕ) (o : Outcome) → InLimit o → InLimit (later_by i o)
later_by_in_limit zero o h = h
later_by_in_limit (suc i) o h = later_in_limit (later_by i o) (later_by_in_limit i o h)

and_then_in_limit : (o : Outcome) (after : ℕ → Outcome) → InLimit o → ((r : ℕ) → r ≤ register_limit → InLimit (after r)) → InLimit (and_then o after)
and_then_in_limit (Due u place r) after h on = h
and_then_in_limit (Ended r) after h on = later_in_limit (after r) (on r h)

in_test_in_limit : (o : Outcome) → InLimit o → InLimit (in_test o)
in_test_in_limit (Due u place r) h = h
in_test_in_limit (Ended r) h = h

tested_in_limit : (b : Bool) (o : Outcome) (r : ℕ) → InLimit o → r ≤ register_limit → InLimit (if b then in_test o else Ended r)
tested_in_limit true o r h k = in_test_in_limit o h
tested_in_limit false o r h k = k

end_of_pass_in_limit : (passes r : ℕ) → r ≤ register_limit → InLimit (end_of_pass passes r)
end_of_pass_in_limit zero r h = h
end_of_pass_in_limit (suc zero) r h = h
end_of_pass_in_limit (suc (suc passes)) r h = h

in_loop_in_limit : (times : Option ℕ) (passes : ℕ) (o : Outcome) → InLimit o → InLimit (in_loop times passes o)
in_loop_in_limit None passes (Due u place r) h = h
in_loop_in_limit None passes (Ended r) h = h
in_loop_in_limit (Some n) passes (Due u place r) h = h
in_loop_in_limit (Some n) passes (Ended r) h = end_of_pass_in_limit passes r h

in_guard_in_limit : (run : Bool) (o : Outcome) → InLimit o → InLimit (in_guard run o)
in_guard_in_limit run (Due u place r) h = h
in_guard_in_limit run (Ended r) h = h

module _ (result : Res) (value : ℕ) where
  from_head_in_limit : (block : Block) (r : ℕ) → r ≤ register_limit → InLimit (from_head result value block r)
  from_head_in_limit Nothing r h = h
  from_head_in_limit (Running n rest) r h = h
  from_head_in_limit (Making call rest) r h = h
  from_head_in_limit (Setting n rest) r h = later_in_limit (from_head result value rest (capped n)) (from_head_in_limit rest (capped n) (capped_in_limit n))
  from_head_in_limit (Adding n rest) r h =
      later_in_limit (from_head result value rest (capped (r + n))) (from_head_in_limit rest (capped (r + n)) (capped_in_limit (r + n)))
  from_head_in_limit (Taking rest) r h =
      later_in_limit (from_head result value rest (capped value)) (from_head_in_limit rest (capped value) (capped_in_limit value))
  from_head_in_limit (Testing named equal inner rest) r h =
      and_then_in_limit (if holds named equal result then in_test (from_head result value inner r) else Ended r) (from_head result value rest)
      (tested_in_limit (holds named equal result) (from_head result value inner r) r (from_head_in_limit inner r h) h) (λ r h. from_head_in_limit rest r h)
  from_head_in_limit (Looping times inner rest) r h =
      and_then_in_limit (in_loop times (passes_of times) (from_head result value inner r)) (from_head result value rest)
      (in_loop_in_limit times (passes_of times) (from_head result value inner r) (from_head_in_limit inner r h)) (λ r h. from_head_in_limit rest r h)
  from_head_in_limit (Guarding cleanup run inner rest) r h = h

  from_inside_in_limit : (step : Block) (passes r : ℕ) (inside : Block → Outcome) → r ≤ register_limit → ((inner : Block) → InLimit (inside inner))
      → InLimit (from_inside result value passes inside step r)
  from_inside_in_limit Nothing passes r inside h k = h
  from_inside_in_limit (Running n rest) passes r inside h k = h
  from_inside_in_limit (Making call rest) passes r inside h k = h
  from_inside_in_limit (Setting n rest) passes r inside h k = from_head_in_limit (Setting n rest) r h
  from_inside_in_limit (Adding n rest) passes r inside h k = from_head_in_limit (Adding n rest) r h
  from_inside_in_limit (Taking rest) passes r inside h k = from_head_in_limit (Taking rest) r h
  from_inside_in_limit (Testing named equal inner rest) passes r inside h k =
      and_then_in_limit (in_test (inside inner)) (from_head result value rest) (in_test_in_limit (inside inner) (k inner)) (λ r h. from_head_in_limit rest r h)
  from_inside_in_limit (Looping times inner rest) passes r inside h k =
      and_then_in_limit (in_loop times passes (inside inner)) (from_head result value rest) (in_loop_in_limit times passes (inside inner) (k inner)) (λ r h. from_head_in_limit rest r h)
  from_inside_in_limit (Guarding cleanup run inner rest) passes r inside h k = in_guard_in_limit run (inside inner) (k inner)

  from_place_in_limit : (place : Place) (block : Block) (r : ℕ) → r ≤ register_limit → InLimit (from_place result value place block r)
  from_place_in_limit (At i) block r h =
      later_by_in_limit i (from_head result value (steps_from i block) r) (from_head_in_limit (steps_from i block) r h)
  from_place_in_limit (In i passes place) block r h =
      later_by_in_limit i (from_inside result value passes (λ inner. from_place result value place inner r) (steps_from i block) r)
      (from_inside_in_limit (steps_from i block) passes r (λ inner. from_place result value place inner r) h (λ inner. from_place_in_limit place inner r h))

-- The end of a body is the place behind its last step.
step_at-step_number : (block : Block) (at : ℕ) → step_at at (step_number block) block ≡ at + op_number block
step_at-step_number Nothing at = sym (add-zero at)
step_at-step_number (Running n rest) at = let h = step_at-step_number rest (at + 1) in omega arith
step_at-step_number (Making c rest) at = let h = step_at-step_number rest (at + 1) in omega arith
step_at-step_number (Setting n rest) at = let h = step_at-step_number rest (at + 1) in omega arith
step_at-step_number (Adding n rest) at = let h = step_at-step_number rest (at + 1) in omega arith
step_at-step_number (Taking rest) at = let h = step_at-step_number rest (at + 1) in omega arith
step_at-step_number (Testing named equal inner rest) at = let h = step_at-step_number rest (at + (1 + op_number inner)) in omega arith
step_at-step_number (Looping None inner rest) at = let h = step_at-step_number rest (at + (1 + op_number inner)) in omega arith
step_at-step_number (Looping (Some n) inner rest) at = let h = step_at-step_number rest (at + (2 + op_number inner)) in omega arith
step_at-step_number (Guarding cleanup run inner rest) at = let h = step_at-step_number rest (at + (2 + op_number inner)) in omega arith

-- the operations of a body
pub ops_of-body : (all : List (List Op)) (n : ℕ) (ops : List Op) → slice_get all n ≡ Some ops → slice_index_or all n [] ≡ ops
ops_of-body [] n ops e = cc
ops_of-body (xs ∷ all) zero ops e = cc
ops_of-body (xs ∷ all) (suc n) ops e = ops_of-body all n ops e

-- a cursor that stands for a place, written with that place
standing : (c : Cursor) (pc : ℕ) (counts : List ℕ) → c.pc ≡ pc → c.counts.items ≡ counts → c ≡ placed c pc c.register counts
standing c pc counts e f = ap (λ k. placed c k c.register c.counts.items) e ∙ ap (λ xs. placed c pc c.register xs) f

-- what is fetched at a place that stands for one of a tree
fetched_lands : (code : NumberedBodies (List Op)) (c : Cursor) (body : Block) (place : Place) → IsBody code c.body body → Stands body place c
    → fetched code c ≡ landed c 0 body [] (op_number body) [] (from_place c.result c.value place body c.register)
fetched_lands code c body place is_body stands =
    ap (λ ops. found_in (drop c.pc ops) 0 c) (ops_of-body code.all c.body (flat 0 body) is_body.flat_form)
    ∙ (ap (λ k. found_in (drop k (flat 0 body)) 0 c) stands.at
    ∙ (ap (λ ops. found_in ops 0 c) (drop-flat place body ∙ sym (append-nil (ops_from place 0 body)))
    ∙ (ap (found_in (ops_from place 0 body ++ []) 0) (standing c (op_at place 0 body) (counts_at place [] body) stands.at stands.passes)
    ∙ places_land place c c.register body 0 [] (op_number body) [] (omega arith))))

-- the outcome in a body is its next unit
landed_fetches : (o : Outcome) (body : Block) (place : Place) (c : Cursor) → InLimit o
    → or_finish body o ≡ next body place c.register c.result c.value
    → Fetches body place c (landed c 0 body [] (op_number body) [] o).0 (landed c 0 body [] (op_number body) [] o).1
landed_fetches (Due u to r) body place c h e = record {
  unit = ap (λ n. n.unit) e;
  stands = subst (λ n. Stands body n (placed c (op_at to 0 body) r (counts_at to [] body))) (ap (λ n. n.place) e)
      (record { at = refl; passes = refl; register = h });
  register = ap (λ n. n.register) e;
  body_same = refl;
  result = refl;
  value = refl;
}
landed_fetches (Ended r) body place c h e = record {
  unit = ap (λ n. n.unit) e;
  stands = subst (λ n. Stands body n (placed c (op_number body) r [])) (ap (λ n. n.place) e)
      (record { at = let k = step_at-step_number body 0 in omega arith; passes = refl; register = h });
  register = ap (λ n. n.register) e;
  body_same = refl;
  result = refl;
  value = refl;
}

-- What is fetched is the next unit of the tree, and the cursor after it stands for the place after it.
pub fetched_agrees : (code : NumberedBodies (List Op)) (c : Cursor) (body : Block) (place : Place) → IsBody code c.body body → Stands body place c
    → Fetches body place c (fetched code c).0 (fetched code c).1
fetched_agrees code c body place is_body stands =
    let o = from_place c.result c.value place body c.register in
    subst (λ (p : Cursor × unit.Unit). Fetches body place c p.0 p.1) (sym (fetched_lands code c body place is_body stands))
    (landed_fetches (from_place c.result c.value place body c.register) body place c
    (from_place_in_limit c.result c.value place body c.register stands.register) (ap (or_finish body) (sym (place_same c.result c.value place body c.register))))

-- so the cursor after it is again one that stands for a place
pub fetched_placed : (code : NumberedBodies (List Op)) (c : Cursor) → IsPlaced code c → IsPlaced code (fetched code c).0
fetched_placed code c placed =
    let f = fetched_agrees code c placed.body placed.place placed.is_body placed.stands in
    record {
      body = placed.body;
      is_body = subst (λ n. IsBody code n placed.body) (sym f.body_same) placed.is_body;
      place = (next placed.body placed.place c.register c.result c.value).place;
      stands = f.stands;
    }

-- the same of a cursor and a unit that are what is fetched
pub fetches : (code : NumberedBodies (List Op)) (c new : Cursor) (u : unit.Unit) → fetched code c ≡ (new, u) → (body : Block) (place : Place)
    → IsBody code c.body body → Stands body place c → Fetches body place c new u
fetches code c new u e body place is_body stands =
    subst (λ (p : Cursor × unit.Unit). Fetches body place c p.0 p.1) e (fetched_agrees code c body place is_body stands)

pub stays_placed : (code : NumberedBodies (List Op)) (c new : Cursor) (u : unit.Unit) → fetched code c ≡ (new, u) → IsPlaced code c → IsPlaced code new
stays_placed code c new u e placed = subst (λ (p : Cursor × unit.Unit). IsPlaced code p.0) e (fetched_placed code c placed)
