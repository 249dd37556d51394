-- The search through the operations of a body is safe: a test passes over no more operations than there are, and the counted loops
-- round an operation are those that have passes left.
use Rattle.std.proofs.Common.{◌≡◌, ℕ, zero, suc, ◌+◌, ◌-◌, ◌≤◌, ◌<◌, ◌*◌, Option, None, Some, Bool, true, false, if◌then◌else◌, List, [], ◌∷◌, ◌++◌, length, drop, refl, ap, sym, subst, ◌∙◌, append_assoc, append-nil, length-append, length-take, length-drop, get_or, drop-cons, add-one, arith, add-zero}
use Rattle.std.proofs.lemmas.List.{drop-drop}
use Rattle.std.proofs.Math.ListN.{drop_of_length-le}
use Rattle.std.proofs.Math.Seq.{drop-append_seam}
use Rattle.words_script.specs.Block.{Block, Nothing, Running, Making, Setting, Adding, Taking, Testing, Looping, Guarding}
use Rattle.words_script.specs.Tree.{step_count}
use Rattle.words_script.specs.declared.call.Call.TheVariants as call
use Rattle.rules_bodies.specs.declared.cursor.Cursor.{Cursor}
use Rattle.rules_bodies.specs.declared.op.Op.{Op}
use Rattle.rules_bodies.specs.declared.op.Op.TheVariants as op
use Rattle.rules_bodies.specs.declared.unit.Unit as unit
use Rattle.rules_bodies.specs.declared.unit.Unit.TheVariants.{Finish}
use Rattle.rules_bodies.specs.Next.{Place, At, In, rest_of, steps_from, holds}
use Rattle.rules_bodies.specs.Flat.{NumberedBodies, flat, op_number, nesting}
use Rattle.rules_bodies.specs.Fetch.{Effect, Gives, Skips, moved_on, innermost, outer, after_pass, carried_out, or_search, found_in, ops_of}
use Rattle.rules_bodies.specs.Stands.{step_at, op_at, counts_inside, counts_at, IsPlaced}
use Rattle.script_code.specs.Ready.{open_loops, IsSafe, IsReady}
use Rattle.rules_bodies.proofs.Lands.{length-flat, forever_ops, loop_ops}
use Rattle.rules_bodies.proofs.Places.{ops_inside, ops_from, drop-flat, behind-place}
use Rattle.rules_bodies.proofs.Agrees.{ops_of-body}

pub IsSafe-tail : (o : Op) (ops : List Op) → IsSafe (o ∷ ops) → IsSafe ops
IsSafe-tail (op.Run n) ops h = h
IsSafe-tail (op.Make c) ops h = h
IsSafe-tail (op.Set n) ops h = h
IsSafe-tail (op.Add n) ops h = h
IsSafe-tail op.Take ops h = h
IsSafe-tail (op.Test named equal skip) ops h = h.1
IsSafe-tail (op.Begin n) ops h = h.1
IsSafe-tail (op.Repeat first) ops h = h
IsSafe-tail (op.Again first) ops h = h

pub IsSafe-drop : (n : ℕ) (ops : List Op) → IsSafe ops → IsSafe (drop n ops)
IsSafe-drop zero ops h = h
IsSafe-drop (suc n) [] h = h
IsSafe-drop (suc n) (o ∷ ops) h = IsSafe-drop n ops (IsSafe-tail o ops h)

guard_ops : (at : ℕ) (inner rest : Block) (run : Bool) (ops : List Op)
    → ((flat (at + 1) inner ++ op.Make (call.Pop run) ∷ []) ++ flat (at + (2 + op_number inner)) rest) ++ ops
    ≡ flat (at + 1) inner ++ op.Make (call.Pop run) ∷ (flat (at + (2 + op_number inner)) rest ++ ops)
guard_ops at inner rest run ops = simp append_assoc

-- a block closes as many loops as it begins
pub open_loops-flat : (block : Block) (at : ℕ) (ops : List Op) → open_loops (flat at block ++ ops) ≡ open_loops ops
open_loops-flat Nothing at ops = refl
open_loops-flat (Running n rest) at ops = open_loops-flat rest (at + 1) ops
open_loops-flat (Making c rest) at ops = open_loops-flat rest (at + 1) ops
open_loops-flat (Setting n rest) at ops = open_loops-flat rest (at + 1) ops
open_loops-flat (Adding n rest) at ops = open_loops-flat rest (at + 1) ops
open_loops-flat (Taking rest) at ops = open_loops-flat rest (at + 1) ops
open_loops-flat (Testing named equal inner rest) at ops =
    ap open_loops (append_assoc (flat (at + 1) inner) (flat (at + (1 + op_number inner)) rest) ops)
    ∙ (open_loops-flat inner (at + 1) (flat (at + (1 + op_number inner)) rest ++ ops) ∙ open_loops-flat rest (at + (1 + op_number inner)) ops)
open_loops-flat (Looping None inner rest) at ops =
    ap open_loops (forever_ops at inner rest ops)
    ∙ (open_loops-flat inner at (op.Again at ∷ (flat (at + (1 + op_number inner)) rest ++ ops)) ∙ open_loops-flat rest (at + (1 + op_number inner)) ops)
open_loops-flat (Looping (Some n) inner rest) at ops =
    let h = open_loops-flat inner (at + 1) (op.Repeat (at + 1) ∷ (flat (at + (2 + op_number inner)) rest ++ ops)) in
    let k = open_loops-flat rest (at + (2 + op_number inner)) ops in
    let e = ap open_loops (loop_ops at inner rest ops) in
    omega arith
open_loops-flat (Guarding cleanup run inner rest) at ops =
    ap open_loops (guard_ops at inner rest run ops)
    ∙ (open_loops-flat inner (at + 1) (op.Make (call.Pop run) ∷ (flat (at + (2 + op_number inner)) rest ++ ops)) ∙ open_loops-flat rest (at + (2 + op_number inner)) ops)

-- a test passes over its block
test_safe : (at : ℕ) (inner rest : Block) (ops : List Op) → IsSafe (flat (at + 1) inner ++ (flat (at + (1 + op_number inner)) rest ++ ops))
    → ((op_number inner ≤ length ((flat (at + 1) inner ++ flat (at + (1 + op_number inner)) rest) ++ ops))
    × (open_loops (drop (op_number inner) ((flat (at + 1) inner ++ flat (at + (1 + op_number inner)) rest) ++ ops))
    ≡ open_loops ((flat (at + 1) inner ++ flat (at + (1 + op_number inner)) rest) ++ ops)))
    × IsSafe ((flat (at + 1) inner ++ flat (at + (1 + op_number inner)) rest) ++ ops)
test_safe at inner rest ops h =
    let tail : List Op = flat (at + (1 + op_number inner)) rest ++ ops in
    rw append_assoc (
      (
        let n = length-flat inner (at + 1) in omega (arith, length-append (flat (at + 1) inner) tail),
        ap (λ n. open_loops (drop n (flat (at + 1) inner ++ tail))) (sym (length-flat inner (at + 1)))
            ∙ (ap open_loops (drop-append_seam (flat (at + 1) inner) tail) ∙ sym (open_loops-flat inner (at + 1) tail)),
      ),
      h,
    )

-- the flat form of a block is safe where its loops and those round it are at most 15
pub IsSafe-flat : (block : Block) (at : ℕ) (ops : List Op) → nesting block + open_loops ops ≤ 15 → IsSafe ops → IsSafe (flat at block ++ ops)
IsSafe-flat Nothing at ops h k = k
IsSafe-flat (Running n rest) at ops h k = IsSafe-flat rest (at + 1) ops h k
IsSafe-flat (Making c rest) at ops h k = IsSafe-flat rest (at + 1) ops h k
IsSafe-flat (Setting n rest) at ops h k = IsSafe-flat rest (at + 1) ops h k
IsSafe-flat (Adding n rest) at ops h k = IsSafe-flat rest (at + 1) ops h k
IsSafe-flat (Taking rest) at ops h k = IsSafe-flat rest (at + 1) ops h k
IsSafe-flat (Testing named equal inner rest) at ops h k =
    test_safe at inner rest ops
    (IsSafe-flat inner (at + 1) (flat (at + (1 + op_number inner)) rest ++ ops)
    (let e = open_loops-flat rest (at + (1 + op_number inner)) ops in omega arith)
    (IsSafe-flat rest (at + (1 + op_number inner)) ops (omega arith) k))
IsSafe-flat (Looping None inner rest) at ops h k =
    subst IsSafe (sym (forever_ops at inner rest ops))
    (IsSafe-flat inner at (op.Again at ∷ (flat (at + (1 + op_number inner)) rest ++ ops))
    (let e = open_loops-flat rest (at + (1 + op_number inner)) ops in omega arith)
    (IsSafe-flat rest (at + (1 + op_number inner)) ops (omega arith) k))
IsSafe-flat (Looping (Some n) inner rest) at ops h k =
    let e = open_loops-flat rest (at + (2 + op_number inner)) ops in
    let f = open_loops-flat inner (at + 1) (op.Repeat (at + 1) ∷ (flat (at + (2 + op_number inner)) rest ++ ops)) in
    let g = ap open_loops (loop_ops at inner rest ops) in (
      (omega arith, omega arith),
      subst IsSafe (sym (loop_ops at inner rest ops))
          (IsSafe-flat inner (at + 1) (op.Repeat (at + 1) ∷ (flat (at + (2 + op_number inner)) rest ++ ops)) (omega arith)
          (IsSafe-flat rest (at + (2 + op_number inner)) ops (omega arith) k)),
    )
IsSafe-flat (Guarding cleanup run inner rest) at ops h k =
    subst IsSafe (sym (guard_ops at inner rest run ops))
    (IsSafe-flat inner (at + 1) (op.Make (call.Pop run) ∷ (flat (at + (2 + op_number inner)) rest ++ ops))
    (let e = open_loops-flat rest (at + (2 + op_number inner)) ops in omega arith)
    (IsSafe-flat rest (at + (2 + op_number inner)) ops (omega arith) k))

-- the loops that are open at a place are those with passes left
counts_open-inside : (step : Block) (place : Place) (at passes : ℕ) (counts : List ℕ) (ops : List Op) → open_loops ops ≡ length counts
    → ((inner : Block) (at : ℕ) (counts : List ℕ) (ops : List Op) → open_loops ops ≡ length counts
    → open_loops (ops_from place at inner ++ ops) ≡ length (counts_at place counts inner))
    → open_loops (ops_inside (λ at inner. ops_from place at inner) at step ++ ops)
    ≡ length (counts_inside (λ counts inner. counts_at place counts inner) passes counts step)
counts_open-inside Nothing place at passes counts ops e h = open_loops-flat Nothing at ops ∙ e
counts_open-inside (Running n rest) place at passes counts ops e h = open_loops-flat (Running n rest) at ops ∙ e
counts_open-inside (Making c rest) place at passes counts ops e h = open_loops-flat (Making c rest) at ops ∙ e
counts_open-inside (Setting n rest) place at passes counts ops e h = open_loops-flat (Setting n rest) at ops ∙ e
counts_open-inside (Adding n rest) place at passes counts ops e h = open_loops-flat (Adding n rest) at ops ∙ e
counts_open-inside (Taking rest) place at passes counts ops e h = open_loops-flat (Taking rest) at ops ∙ e
counts_open-inside (Testing named equal inner rest) place at passes counts ops e h =
    ap open_loops (append_assoc (ops_from place (at + 1) inner) (flat (at + (1 + op_number inner)) rest) ops)
    ∙ h inner (at + 1) counts (flat (at + (1 + op_number inner)) rest ++ ops) (open_loops-flat rest (at + (1 + op_number inner)) ops ∙ e)
counts_open-inside (Looping None inner rest) place at passes counts ops e h =
    ap open_loops (append_assoc (ops_from place at inner) (op.Again at ∷ flat (at + (1 + op_number inner)) rest) ops)
    ∙ h inner at counts (op.Again at ∷ (flat (at + (1 + op_number inner)) rest ++ ops)) (open_loops-flat rest (at + (1 + op_number inner)) ops ∙ e)
counts_open-inside (Looping (Some n) inner rest) place at passes counts ops e h =
    let f : open_loops (op.Repeat (at + 1) ∷ (flat (at + (2 + op_number inner)) rest ++ ops)) ≡ length (counts ++ passes ∷ []) =
    let k = open_loops-flat rest (at + (2 + op_number inner)) ops in omega (arith, length-append counts (passes ∷ [])) in
    ap open_loops (append_assoc (ops_from place (at + 1) inner) (op.Repeat (at + 1) ∷ flat (at + (2 + op_number inner)) rest) ops)
    ∙ h inner (at + 1) (counts ++ passes ∷ []) (op.Repeat (at + 1) ∷ (flat (at + (2 + op_number inner)) rest ++ ops)) f
counts_open-inside (Guarding cleanup run inner rest) place at passes counts ops e h =
    ap open_loops (append_assoc (ops_from place (at + 1) inner) (op.Make (call.Pop run) ∷ flat (at + (2 + op_number inner)) rest) ops)
    ∙ h inner (at + 1) counts (op.Make (call.Pop run) ∷ (flat (at + (2 + op_number inner)) rest ++ ops)) (open_loops-flat rest (at + (2 + op_number inner)) ops ∙ e)

pub counts_open : (place : Place) (block : Block) (at : ℕ) (counts : List ℕ) (ops : List Op) → open_loops ops ≡ length counts
    → open_loops (ops_from place at block ++ ops) ≡ length (counts_at place counts block)
counts_open (At i) block at counts ops e = open_loops-flat (steps_from i block) (step_at at i block) ops ∙ e
counts_open (In i passes place) block at counts ops e =
    counts_open-inside (steps_from i block) place (step_at at i block) passes counts ops e
    (λ inner at counts ops e. counts_open place inner at counts ops e)

-- What carrying out an operation leaves to a search that goes on behind n of the operations that follow.
pub record GoesOn (rest : List Op) (c new : Cursor) (n : ℕ) : Type 0 where
  pub same_body : new.body ≡ c.body
  pub same_place : new.pc ≡ c.pc
  pub within : n ≤ length rest
  pub loops : length new.counts.items ≡ open_loops (drop n rest)
  pub few : length new.counts.items ≤ 15
  pub safe : IsSafe (drop n rest)

abbrev GoesOnAfter : List Op → Cursor → Cursor × Effect → Type 0
GoesOnAfter rest c (new, Gives u) = Unit {0}
GoesOnAfter rest c (new, Skips n) = GoesOn rest c new n

length-outer : (counts : List ℕ) (k : ℕ) → length counts ≡ k + 1 → length (outer counts) ≡ k
length-outer counts k e = omega (arith, length-take (length counts - 1) counts)

pass_over : (rest : List Op) (c : Cursor) → IsSafe rest → length c.counts.items ≡ open_loops rest + 1 → length c.counts.items ≤ 15
    → GoesOn rest c (record c { counts = record { items = outer c.counts.items } }) 0
pass_over rest c h e few =
    let k = length-outer c.counts.items (open_loops rest) e in
    record { same_body = refl; same_place = refl; within = omega arith; loops = k; few = omega arith; safe = h }

pass_goes_on : (first : ℕ) (passes : Option ℕ) (rest : List Op) (c : Cursor) → IsSafe rest → length c.counts.items ≡ open_loops rest + 1
    → length c.counts.items ≤ 15 → GoesOnAfter rest c (after_pass first passes c)
pass_goes_on first None rest c h e few = pass_over rest c h e few
pass_goes_on first (Some zero) rest c h e few = pass_over rest c h e few
pass_goes_on first (Some (suc zero)) rest c h e few = pass_over rest c h e few
pass_goes_on first (Some (suc (suc passes))) rest c h e few = tt

test_goes_on : (b : Bool) (skip : ℕ) (rest : List Op) (c : Cursor) → skip ≤ length rest → open_loops (drop skip rest) ≡ open_loops rest
    → IsSafe rest → length c.counts.items ≡ open_loops rest → length c.counts.items ≤ 15 → GoesOn rest c c (if b then 0 else skip)
test_goes_on true skip rest c within same h e few = record { same_body = refl; same_place = refl; within = omega arith; loops = e; few = few; safe = h }
test_goes_on false skip rest c within same h e few =
    record { same_body = refl; same_place = refl; within = within; loops = e ∙ sym same; few = few; safe = IsSafe-drop skip rest h }

goes_on_after : (o : Op) (rest : List Op) (c : Cursor) → IsReady (o ∷ rest) c → GoesOnAfter rest c (carried_out o c)
goes_on_after (op.Run n) rest c h = tt
goes_on_after (op.Make call) rest c h = tt
goes_on_after (op.Set n) rest c h = record { same_body = refl; same_place = refl; within = omega arith; loops = h.loops; few = h.few; safe = h.safe }
goes_on_after (op.Add n) rest c h = record { same_body = refl; same_place = refl; within = omega arith; loops = h.loops; few = h.few; safe = h.safe }
goes_on_after op.Take rest c h = record { same_body = refl; same_place = refl; within = omega arith; loops = h.loops; few = h.few; safe = h.safe }
goes_on_after (op.Test named equal skip) rest c h =
    test_goes_on (holds named equal c.result) skip rest c h.safe.0.0 h.safe.0.1 h.safe.1 h.loops h.few
goes_on_after (op.Begin n) rest c h =
    let some : 0 < open_loops rest = h.safe.0.0 in
    let limit : open_loops rest ≤ 15 = h.safe.0.1 in
    let e : length c.counts.items ≡ open_loops rest - 1 = h.loops in
    let k = length-append c.counts.items (n ∷ []) in
    record { same_body = refl; same_place = refl; within = omega arith; loops = omega arith; few = omega arith; safe = h.safe.1 }
goes_on_after (op.Repeat first) rest c h = pass_goes_on first (innermost c.counts.items) rest c h.safe h.loops h.few
goes_on_after (op.Again first) rest c h = tt

pub goes_on : (o : Op) (rest : List Op) (c new : Cursor) (n : ℕ) → IsReady (o ∷ rest) c → carried_out o c ≡ (new, Skips n) → GoesOn rest c new n
goes_on o rest c new n h f = subst (GoesOnAfter rest c) f (goes_on_after o rest c h)

-- a search goes on behind the operations that are passed over
pub found_in-drop : (xs : List Op) (n : ℕ) (c : Cursor) → n ≤ length xs → found_in xs n c ≡ found_in (drop n xs) 0 (record c { pc = c.pc + n })
found_in-drop xs zero c h = ap (λ pc. found_in xs 0 (record c { pc = pc })) (sym (add-zero c.pc))
found_in-drop [] (suc n) c h = absurd (omega arith)
found_in-drop (x ∷ xs) (suc n) c h =
    let e : (c.pc + 1) + n ≡ c.pc + suc n = omega arith in
    let f : n ≤ length xs = omega arith in
    found_in-drop xs n (moved_on c) f ∙ ap (λ pc. found_in (drop n xs) 0 (record c { pc = pc })) e

nesting-rest_of : (block : Block) → nesting (rest_of block) ≤ nesting block
nesting-rest_of Nothing = omega arith
nesting-rest_of (Running n rest) = omega arith
nesting-rest_of (Making c rest) = omega arith
nesting-rest_of (Setting n rest) = omega arith
nesting-rest_of (Adding n rest) = omega arith
nesting-rest_of (Taking rest) = omega arith
nesting-rest_of (Testing named equal inner rest) = omega arith
nesting-rest_of (Looping times inner rest) = omega arith
nesting-rest_of (Guarding cleanup run inner rest) = omega arith

-- no more counted loops are round a place than blocks stand inside one another
nesting-steps_from : (i : ℕ) (block : Block) → nesting (steps_from i block) ≤ nesting block
nesting-steps_from zero block = omega arith
nesting-steps_from (suc i) block = let h = nesting-steps_from i (rest_of block) in let k = nesting-rest_of block in omega arith

few_inside : (step : Block) (place : Place) (passes : ℕ) (counts : List ℕ)
    → ((inner : Block) (counts : List ℕ) → length (counts_at place counts inner) ≤ length counts + nesting inner)
    → length (counts_inside (λ counts inner. counts_at place counts inner) passes counts step) ≤ length counts + nesting step
few_inside Nothing place passes counts h = omega arith
few_inside (Running n rest) place passes counts h = omega arith
few_inside (Making c rest) place passes counts h = omega arith
few_inside (Setting n rest) place passes counts h = omega arith
few_inside (Adding n rest) place passes counts h = omega arith
few_inside (Taking rest) place passes counts h = omega arith
few_inside (Testing named equal inner rest) place passes counts h = let k = h inner counts in omega arith
few_inside (Looping None inner rest) place passes counts h = let k = h inner counts in omega arith
few_inside (Looping (Some n) inner rest) place passes counts h =
    let k = h inner (counts ++ passes ∷ []) in omega (arith, length-append counts (passes ∷ []))
few_inside (Guarding cleanup run inner rest) place passes counts h = let k = h inner counts in omega arith

few_at : (place : Place) (block : Block) (counts : List ℕ) → length (counts_at place counts block) ≤ length counts + nesting block
few_at (At i) block counts = omega arith
few_at (In i passes place) block counts =
    let h = few_inside (steps_from i block) place passes counts (λ inner counts. few_at place inner counts) in
    let k = nesting-steps_from i block in
    omega arith

-- a cursor that stands for a place is ready for a search through the operations ahead
pub placed_ready : (code : NumberedBodies (List Op)) (c : Cursor) → IsPlaced code c → IsReady (drop c.pc (ops_of code c.body)) c
placed_ready code c h =
    let body = h.body in
    let place = h.place in
    let ops : ops_of code c.body ≡ flat 0 h.body = ops_of-body code.all c.body (flat 0 h.body) h.is_body.flat_form in
    let all : IsSafe (flat 0 h.body) = subst IsSafe (append-nil (flat 0 h.body))
    (IsSafe-flat h.body 0 [] (let n = h.is_body.nested in omega arith) tt) in
    let counted : open_loops (ops_from h.place 0 h.body) ≡ length (counts_at h.place [] h.body) =
    ap open_loops (sym (append-nil (ops_from h.place 0 h.body))) ∙ counts_open h.place h.body 0 [] [] refl in
    let lengths : length c.counts.items ≡ length (counts_at h.place [] h.body) = ap length h.stands.passes in
    let ahead : drop c.pc (ops_of code c.body) ≡ drop (op_at h.place 0 h.body) (flat 0 h.body) =
    ap (λ xs. drop c.pc xs) ops ∙ ap (λ k. drop k (flat 0 h.body)) h.stands.at in
    let few = few_at h.place h.body [] in
    let nested = h.is_body.nested in
    record {
      loops = lengths ∙ (sym counted ∙ ap open_loops (sym (ahead ∙ drop-flat h.place h.body)));
      few = omega arith;
      safe = subst IsSafe (sym ahead) (IsSafe-drop (op_at h.place 0 h.body) (flat 0 h.body) all);
    }

-- it stands before the end of its body's operations or at it, of which there are few enough for a number of 32 bits
pub op_number-step_count : (block : Block) → op_number block ≤ 2 * step_count block
op_number-step_count Nothing = omega arith
op_number-step_count (Running n rest) = let h = op_number-step_count rest in omega arith
op_number-step_count (Making c rest) = let h = op_number-step_count rest in omega arith
op_number-step_count (Setting n rest) = let h = op_number-step_count rest in omega arith
op_number-step_count (Adding n rest) = let h = op_number-step_count rest in omega arith
op_number-step_count (Taking rest) = let h = op_number-step_count rest in omega arith
op_number-step_count (Testing named equal inner rest) = let h = op_number-step_count rest in let k = op_number-step_count inner in omega arith
op_number-step_count (Looping None inner rest) = let h = op_number-step_count rest in let k = op_number-step_count inner in omega arith
op_number-step_count (Looping (Some n) inner rest) = let h = op_number-step_count rest in let k = op_number-step_count inner in omega arith
op_number-step_count (Guarding cleanup run inner rest) = let h = op_number-step_count rest in let k = op_number-step_count inner in omega arith

pub record IsWithin (ops : List Op) (pc : ℕ) : Type 0 where
  pub within : pc ≤ length ops
  pub short : length ops ≤ 131072

pub placed_within : (code : NumberedBodies (List Op)) (c : Cursor) → IsPlaced code c → IsWithin (ops_of code c.body) c.pc
placed_within code c h =
    let ops : ops_of code c.body ≡ flat 0 h.body = ops_of-body code.all c.body (flat 0 h.body) h.is_body.flat_form in
    let lengths : length (ops_of code c.body) ≡ length (flat 0 h.body) = ap length ops in
    let all = length-flat h.body 0 in
    let short = h.is_body.short in
    let count = op_number-step_count h.body in
    let behind = behind-place h.place 0 h.body in
    let number = behind.number in
    let split : length (flat 0 h.body) ≡ length (behind.before ++ ops_from h.place 0 h.body) = ap length behind.all in
    let at = h.stands.at in
    record {
      within = omega (arith, length-append behind.before (ops_from h.place 0 h.body));
      short = omega arith;
    }

-- A search that began at one cursor has come to another one.
pub record SearchesOn (ops : List Op) (from now : Cursor) : Type 0 where
  pub same_body : now.body ≡ from.body
  pub found : found_in (drop now.pc ops) 0 now ≡ found_in (drop from.pc ops) 0 from
  pub ready : IsReady (drop now.pc ops) now
  pub within : now.pc ≤ length ops

-- the operation at a number, and those behind it
drop_at_op : (ops : List Op) (pc : ℕ) (o : Op) → pc < length ops → o ≡ get_or ops pc o → drop pc ops ≡ o ∷ drop (pc + 1) ops
drop_at_op ops pc o past at = drop-cons ops pc o past ∙ (ap (λ x. x ∷ drop (suc pc) ops) (sym at) ∙ ap (λ k. o ∷ drop k ops) (sym (add-one pc)))

pub search_goes_on : (ops : List Op) (from now new : Cursor) (o : Op) (n : ℕ) → SearchesOn ops from now → now.pc < length ops → o ≡ get_or ops now.pc o
    → carried_out o (moved_on now) ≡ (new, Skips n) → SearchesOn ops from (record new { pc = new.pc + n })
search_goes_on ops from now new o n h past at e =
    let split = drop_at_op ops now.pc o past at in
    let on = goes_on o (drop (now.pc + 1) ops) (moved_on now) new n
    (record { loops = h.ready.loops ∙ ap open_loops split; few = h.ready.few; safe = subst IsSafe split h.ready.safe }) e in
    let place = on.same_place in
    let sum : (now.pc + 1) + n ≡ new.pc + n = omega arith in
    let dropped : drop n (drop (now.pc + 1) ops) ≡ drop (new.pc + n) ops =
    drop-drop n (now.pc + 1) ops ∙ ap (λ k. drop k ops) sum in
    let within = on.within in
    record {
      same_body = on.same_body ∙ h.same_body;
      found = ap (λ xs. found_in xs 0 (record new { pc = new.pc + n })) (sym dropped)
          ∙ (sym (found_in-drop (drop (now.pc + 1) ops) n new on.within)
          ∙ (ap (λ p. or_search p (found_in (drop (now.pc + 1) ops))) (sym e)
          ∙ (ap (λ xs. found_in xs 0 now) (sym split) ∙ h.found)));
      ready = record { loops = on.loops ∙ ap open_loops dropped; few = on.few; safe = subst IsSafe dropped on.safe };
      within = omega (arith, length-drop (now.pc + 1) ops);
    }

pub search_finds : (ops : List Op) (from now new : Cursor) (o : Op) (u : unit.Unit) → SearchesOn ops from now → now.pc < length ops → o ≡ get_or ops now.pc o
    → carried_out o (moved_on now) ≡ (new, Gives u) → found_in (drop from.pc ops) 0 from ≡ (new, u)
search_finds ops from now new o u h past at e =
    sym h.found ∙ (ap (λ xs. found_in xs 0 now) (drop_at_op ops now.pc o past at) ∙ ap (λ p. or_search p (found_in (drop (now.pc + 1) ops))) e)

pub search_finishes : (ops : List Op) (from now : Cursor) → SearchesOn ops from now → length ops ≤ now.pc
    → found_in (drop from.pc ops) 0 from ≡ (now, Finish)
search_finishes ops from now h past = sym h.found ∙ ap (λ xs. found_in xs 0 now) (drop_of_length-le ops past)
