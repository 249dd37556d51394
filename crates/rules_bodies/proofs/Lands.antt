-- The units that are found in the flat code are those of the tree.
use Rattle.std.proofs.Common.{◌≡◌, ℕ, zero, suc, ◌+◌, ◌-◌, None, Some, Bool, true, false, if◌then◌else◌, List, [], ◌∷◌, ◌++◌, length, take, slice_get, refl, ap, sym, ◌∙◌, append_assoc, length-append, arith, add-zero}
use Rattle.std.proofs.Math.Seq.{take-append_seam}
use Rattle.words_script.specs.Block.{Block, Nothing, Running, Making, Setting, Adding, Taking, Testing, Looping, Guarding}
use Rattle.words_script.specs.declared.call.Call.TheVariants as call
use Rattle.words_numbers.specs.declared.res.Res.{Res}
use Rattle.rules_bodies.specs.declared.cursor.Cursor.{Cursor}
use Rattle.rules_bodies.specs.declared.op.Op.{Op}
use Rattle.rules_bodies.specs.declared.op.Op.TheVariants as op
use Rattle.rules_bodies.specs.declared.unit.Unit as unit
use Rattle.rules_bodies.specs.declared.unit.Unit.TheVariants.{Make, Jump}
use Rattle.rules_bodies.specs.Next.{At, In, Outcome, Due, Ended, capped, holds, rest_of, steps_from}
use Rattle.rules_bodies.proofs.Relative.{later, later_by, and_then, in_test, in_loop, in_guard, end_of_pass, from_head}
use Rattle.rules_bodies.specs.Flat.{flat, op_number}
use Rattle.rules_bodies.specs.Fetch.{moved_on, innermost, outer, after_pass, or_search, found_in}
use Rattle.rules_bodies.specs.Stands.{head_ops, step_at, op_at, counts_at}

-- The innermost count.
pub slice_get-append_seam : (xs : List ℕ) (n : ℕ) (ys : List ℕ) → slice_get (xs ++ n ∷ ys) (length xs) ≡ Some n
slice_get-append_seam [] n ys = refl
slice_get-append_seam (x ∷ xs) n ys = slice_get-append_seam xs n ys

length-append_one : (xs : List ℕ) (n : ℕ) → length (xs ++ n ∷ []) - 1 ≡ length xs
length-append_one xs n = omega (arith, length-append xs (n ∷ []))

pub innermost-append : (xs : List ℕ) (n : ℕ) → innermost (xs ++ n ∷ []) ≡ Some n
innermost-append xs n = ap (slice_get (xs ++ n ∷ [])) (length-append_one xs n) ∙ slice_get-append_seam xs n []

pub outer-append : (xs : List ℕ) (n : ℕ) → outer (xs ++ n ∷ []) ≡ xs
outer-append xs n = ap (λ k. take k (xs ++ n ∷ [])) (length-append_one xs n) ∙ take-append_seam xs (n ∷ [])

-- The length of the flat form.
pub length-flat : (block : Block) (at : ℕ) → length (flat at block) ≡ op_number block
length-flat Nothing at = refl
length-flat (Running n rest) at = let h = length-flat rest (at + 1) in omega arith
length-flat (Making c rest) at = let h = length-flat rest (at + 1) in omega arith
length-flat (Setting n rest) at = let h = length-flat rest (at + 1) in omega arith
length-flat (Adding n rest) at = let h = length-flat rest (at + 1) in omega arith
length-flat (Taking rest) at = let h = length-flat rest (at + 1) in omega arith
length-flat (Testing named equal inner rest) at =
    let h = length-flat inner (at + 1) in
    let k = length-flat rest (at + (1 + op_number inner)) in
    omega (arith, length-append (flat (at + 1) inner) (flat (at + (1 + op_number inner)) rest))
length-flat (Looping None inner rest) at =
    let h = length-flat inner at in
    let k = length-flat rest (at + (1 + op_number inner)) in
    omega (arith, length-append (flat at inner) (op.Again at ∷ []), length-append (flat at inner ++ op.Again at ∷ []) (flat (at + (1 + op_number inner)) rest))
length-flat (Looping (Some n) inner rest) at =
    let h = length-flat inner (at + 1) in
    let k = length-flat rest (at + (2 + op_number inner)) in
    omega (arith, length-append (flat (at + 1) inner) (op.Repeat (at + 1) ∷ []), length-append (flat (at + 1) inner ++ op.Repeat (at + 1) ∷ []) (flat (at + (2 + op_number inner)) rest))
length-flat (Guarding cleanup run inner rest) at =
    let h = length-flat inner (at + 1) in
    let k = length-flat rest (at + (2 + op_number inner)) in
    omega (arith, length-append (flat (at + 1) inner) (op.Make (call.Pop run) ∷ []), length-append (flat (at + 1) inner ++ op.Make (call.Pop run) ∷ []) (flat (at + (2 + op_number inner)) rest))

-- a cursor with another operation ahead, another register and other passes left
abbrev pub placed : Cursor → ℕ → ℕ → List ℕ → Cursor
placed c pc r counts = record c { pc = pc; register = r; counts = record { items = counts } }

-- passing over operations
pub found_in-append : (xs ys : List Op) (c : Cursor) → found_in (xs ++ ys) (length xs) c ≡ found_in ys 0 (record c { pc = c.pc + length xs })
found_in-append [] ys c = ap (λ pc. found_in ys 0 (record c { pc = pc })) (sym (add-zero c.pc))
found_in-append (x ∷ xs) ys c =
    let e : (c.pc + 1) + length xs ≡ c.pc + length (x ∷ xs) = omega arith in
    found_in-append xs ys (moved_on c) ∙ ap (λ pc. found_in ys 0 (record c { pc = pc })) e

-- Where an outcome in a block leads in the flat code, if the block's first operation is `at`, its end is `end`, the loops round it have
-- these passes left, and these operations stand behind it.
abbrev pub landed : Cursor → ℕ → Block → List ℕ → ℕ → List Op → Outcome → Cursor × unit.Unit
landed c at block counts end ops (Due u place r) = (placed c (op_at place at block) r (counts_at place counts block), u)
landed c at block counts end ops (Ended r) = found_in ops 0 (placed c end r counts)

pub landed-later : (o : Outcome) (c : Cursor) (at : ℕ) (block : Block) (counts : List ℕ) (end : ℕ) (ops : List Op)
    → landed c at block counts end ops (later o) ≡ landed c (at + head_ops block) (rest_of block) counts end ops o
landed-later (Due u (At i) r) c at block counts end ops = refl
landed-later (Due u (In i passes place) r) c at block counts end ops = refl
landed-later (Ended r) c at block counts end ops = refl

pub landed-later_by : (i : ℕ) (o : Outcome) (c : Cursor) (at : ℕ) (block : Block) (counts : List ℕ) (end : ℕ) (ops : List Op)
    → landed c at block counts end ops (later_by i o) ≡ landed c (step_at at i block) (steps_from i block) counts end ops o
landed-later_by zero o c at block counts end ops = refl
landed-later_by (suc i) o c at block counts end ops =
    landed-later (later_by i o) c at block counts end ops ∙ landed-later_by i o c (at + head_ops block) (rest_of block) counts end ops

-- What the end of the first step's block leads to: `from` is the number of the operation behind it, and `on` is what comes of the rest.
module _ (c : Cursor) (at : ℕ) (rest : Block) (counts : List ℕ) (end : ℕ) (ops : List Op) (from : ℕ) (after : ℕ → Outcome)
    (on : (r : ℕ) → found_in (flat from rest ++ ops) 0 (placed c from r counts) ≡ landed c from rest counts end ops (after r)) where
  pub test_lands : (o : Outcome) (named : Res) (equal : Bool) (inner : Block) → from ≡ at + (1 + op_number inner)
      → landed c (at + 1) inner counts from (flat from rest ++ ops) o
      ≡ landed c at (Testing named equal inner rest) counts end ops (and_then (in_test o) after)
  test_lands (Due u place r) named equal inner e = refl
  test_lands (Ended r) named equal inner e =
      on r ∙ (ap (λ k. landed c k rest counts end ops (after r)) e ∙ sym (landed-later (after r) c at (Testing named equal inner rest) counts end ops))

  pub forever_lands : (o : Outcome) (passes : ℕ) (inner : Block) (inner_end : ℕ)
      → landed c at inner counts inner_end (op.Again at ∷ (flat from rest ++ ops)) o
      ≡ landed c at (Looping None inner rest) counts end ops (and_then (in_loop None passes o) after)
  forever_lands (Due u place r) passes inner inner_end = refl
  forever_lands (Ended r) passes inner inner_end = refl

  -- the repetition at the end of a pass
  pass_ends : (passes r n inner_end : ℕ) (inner : Block) → from ≡ at + (2 + op_number inner) → inner_end + 1 ≡ from
      → or_search (after_pass (at + 1) (Some passes) (placed c (inner_end + 1) r (counts ++ passes ∷ []))) (found_in (flat from rest ++ ops))
      ≡ landed c at (Looping (Some n) inner rest) counts end ops (and_then (end_of_pass passes r) after)
  pass_ends zero r n inner_end inner e f =
      ap (λ xs. found_in (flat from rest ++ ops) 0 (placed c (inner_end + 1) r xs)) (outer-append counts zero)
      ∙ (ap (λ k. found_in (flat from rest ++ ops) 0 (placed c k r counts)) f
      ∙ (on r ∙ (ap (λ k. landed c k rest counts end ops (after r)) e ∙ sym (landed-later (after r) c at (Looping (Some n) inner rest) counts end ops))))
  pass_ends (suc zero) r n inner_end inner e f =
      ap (λ xs. found_in (flat from rest ++ ops) 0 (placed c (inner_end + 1) r xs)) (outer-append counts (suc zero))
      ∙ (ap (λ k. found_in (flat from rest ++ ops) 0 (placed c k r counts)) f
      ∙ (on r ∙ (ap (λ k. landed c k rest counts end ops (after r)) e ∙ sym (landed-later (after r) c at (Looping (Some n) inner rest) counts end ops))))
  pass_ends (suc (suc passes)) r n inner_end inner e f =
      ap (λ xs. (placed c (at + 1) r (xs ++ suc passes ∷ []), Jump)) (outer-append counts (suc (suc passes)))

  pub loop_lands : (o : Outcome) (passes n inner_end : ℕ) (inner : Block) → from ≡ at + (2 + op_number inner) → inner_end + 1 ≡ from
      → landed c (at + 1) inner (counts ++ passes ∷ []) inner_end (op.Repeat (at + 1) ∷ (flat from rest ++ ops)) o
      ≡ landed c at (Looping (Some n) inner rest) counts end ops (and_then (in_loop (Some n) passes o) after)
  loop_lands (Due u place r) passes n inner_end inner e f = refl
  loop_lands (Ended r) passes n inner_end inner e f =
      ap (λ count. or_search (after_pass (at + 1) count (placed c (inner_end + 1) r (counts ++ passes ∷ []))) (found_in (flat from rest ++ ops))) (innermost-append counts passes)
      ∙ pass_ends passes r n inner_end inner e f

pub guard_lands : (c : Cursor) (at : ℕ) (rest : Block) (counts : List ℕ) (end : ℕ) (ops : List Op) (o : Outcome)
    (cleanup : ℕ) (run : Bool) (inner : Block) (inner_end : ℕ) → inner_end + 1 ≡ at + (2 + op_number inner)
    → landed c (at + 1) inner counts inner_end (op.Make (call.Pop run) ∷ (flat (at + (2 + op_number inner)) rest ++ ops)) o
    ≡ landed c at (Guarding cleanup run inner rest) counts end ops (in_guard run o)
guard_lands c at rest counts end ops (Due u place r) cleanup run inner inner_end e = refl
guard_lands c at rest counts end ops (Ended r) cleanup run inner inner_end e =
    ap (λ k. (placed c k r counts, Make (call.Pop run))) e

-- the operations of a loop and what stands behind it
pub forever_ops : (at : ℕ) (inner rest : Block) (ops : List Op)
    → ((flat at inner ++ op.Again at ∷ []) ++ flat (at + (1 + op_number inner)) rest) ++ ops
    ≡ flat at inner ++ op.Again at ∷ (flat (at + (1 + op_number inner)) rest ++ ops)
forever_ops at inner rest ops = simp append_assoc

pub loop_ops : (at : ℕ) (inner rest : Block) (ops : List Op)
    → ((flat (at + 1) inner ++ op.Repeat (at + 1) ∷ []) ++ flat (at + (2 + op_number inner)) rest) ++ ops
    ≡ flat (at + 1) inner ++ op.Repeat (at + 1) ∷ (flat (at + (2 + op_number inner)) rest ++ ops)
loop_ops at inner rest ops = simp append_assoc

-- a step without a block, which takes no time
step_lands : (c : Cursor) (at : ℕ) (block : Block) (counts : List ℕ) (end : ℕ) (ops : List Op) (o : Outcome)
    (found : Cursor × unit.Unit) → head_ops block ≡ 1 → found ≡ landed c (at + 1) (rest_of block) counts end ops o
    → found ≡ landed c at block counts end ops (later o)
step_lands c at block counts end ops o found one e =
    e ∙ (ap (λ k. landed c (at + k) (rest_of block) counts end ops o) (sym one) ∙ sym (landed-later o c at block counts end ops))

-- a test at the head of a block, for either outcome of the test
head_test_lands : (c : Cursor) (at r : ℕ) (counts : List ℕ) (end : ℕ) (ops : List Op) (named : Res) (equal : Bool) (inner rest : Block) (b : Bool)
    → ((tail : List Op) → found_in (flat (at + 1) inner ++ tail) 0 (placed c (at + 1) r counts)
    ≡ landed c (at + 1) inner counts (at + (1 + op_number inner)) tail (from_head c.result c.value inner r))
    → ((r : ℕ) → found_in (flat (at + (1 + op_number inner)) rest ++ ops) 0 (placed c (at + (1 + op_number inner)) r counts)
    ≡ landed c (at + (1 + op_number inner)) rest counts end ops (from_head c.result c.value rest r))
    → found_in ((flat (at + 1) inner ++ flat (at + (1 + op_number inner)) rest) ++ ops) (if b then 0 else op_number inner) (placed c (at + 1) r counts)
    ≡ landed c at (Testing named equal inner rest) counts end ops
    (and_then (if b then in_test (from_head c.result c.value inner r) else Ended r) (from_head c.result c.value rest))
head_test_lands c at r counts end ops named equal inner rest true inside on =
    ap (λ xs. found_in xs 0 (placed c (at + 1) r counts)) (append_assoc (flat (at + 1) inner) (flat (at + (1 + op_number inner)) rest) ops)
    ∙ (inside (flat (at + (1 + op_number inner)) rest ++ ops)
    ∙ test_lands c at rest counts end ops (at + (1 + op_number inner)) (from_head c.result c.value rest) on (from_head c.result c.value inner r) named equal inner refl)
head_test_lands c at r counts end ops named equal inner rest false inside on =
    let e : (at + 1) + length (flat (at + 1) inner) ≡ at + (1 + op_number inner) = omega (arith, length-flat inner (at + 1)) in
    ap (λ xs. found_in xs (op_number inner) (placed c (at + 1) r counts)) (append_assoc (flat (at + 1) inner) (flat (at + (1 + op_number inner)) rest) ops)
    ∙ (ap (λ n. found_in (flat (at + 1) inner ++ (flat (at + (1 + op_number inner)) rest ++ ops)) n (placed c (at + 1) r counts)) (sym (length-flat inner (at + 1)))
    ∙ (found_in-append (flat (at + 1) inner) (flat (at + (1 + op_number inner)) rest ++ ops) (placed c (at + 1) r counts)
    ∙ (ap (λ k. found_in (flat (at + (1 + op_number inner)) rest ++ ops) 0 (placed c k r counts)) e
    ∙ (on r ∙ sym (landed-later (from_head c.result c.value rest r) c at (Testing named equal inner rest) counts end ops)))))

-- the operations of a block from its head on come to what the block comes to
pub heads_land : (block : Block) (c : Cursor) (at r : ℕ) (counts : List ℕ) (end : ℕ) (ops : List Op) → end ≡ at + op_number block
    → found_in (flat at block ++ ops) 0 (placed c at r counts) ≡ landed c at block counts end ops (from_head c.result c.value block r)
heads_land Nothing c at r counts end ops e =
    let f : at ≡ end = omega arith in ap (λ k. found_in ops 0 (placed c k r counts)) f
heads_land (Running n rest) c at r counts end ops e = refl
heads_land (Making call rest) c at r counts end ops e = refl
heads_land (Setting n rest) c at r counts end ops e =
    let f : end ≡ (at + 1) + op_number rest = omega arith in
    step_lands c at (Setting n rest) counts end ops (from_head c.result c.value rest (capped n)) _ refl (heads_land rest c (at + 1) (capped n) counts end ops f)
heads_land (Adding n rest) c at r counts end ops e =
    let f : end ≡ (at + 1) + op_number rest = omega arith in
    step_lands c at (Adding n rest) counts end ops (from_head c.result c.value rest (capped (r + n))) _ refl (heads_land rest c (at + 1) (capped (r + n)) counts end ops f)
heads_land (Taking rest) c at r counts end ops e =
    let f : end ≡ (at + 1) + op_number rest = omega arith in
    step_lands c at (Taking rest) counts end ops (from_head c.result c.value rest (capped c.value)) _ refl (heads_land rest c (at + 1) (capped c.value) counts end ops f)
heads_land (Testing named equal inner rest) c at r counts end ops e =
    let f : at + (1 + op_number inner) ≡ (at + 1) + op_number inner = omega arith in
    let g : end ≡ (at + (1 + op_number inner)) + op_number rest = omega arith in
    head_test_lands c at r counts end ops named equal inner rest (holds named equal c.result)
    (λ tail. heads_land inner c (at + 1) r counts (at + (1 + op_number inner)) tail f)
    (λ r. heads_land rest c (at + (1 + op_number inner)) r counts end ops g)
heads_land (Looping None inner rest) c at r counts end ops e =
    let g : end ≡ (at + (1 + op_number inner)) + op_number rest = omega arith in
    ap (λ xs. found_in xs 0 (placed c at r counts)) (forever_ops at inner rest ops)
    ∙ (heads_land inner c at r counts (at + op_number inner) (op.Again at ∷ (flat (at + (1 + op_number inner)) rest ++ ops)) refl
    ∙ forever_lands c at rest counts end ops (at + (1 + op_number inner)) (from_head c.result c.value rest)
    (λ r. heads_land rest c (at + (1 + op_number inner)) r counts end ops g) (from_head c.result c.value inner r) 0 inner (at + op_number inner))
heads_land (Looping (Some n) inner rest) c at r counts end ops e =
    let g : end ≡ (at + (2 + op_number inner)) + op_number rest = omega arith in
    let f : ((at + 1) + op_number inner) + 1 ≡ at + (2 + op_number inner) = omega arith in
    ap (λ xs. found_in xs 0 (placed c (at + 1) r (counts ++ n ∷ []))) (loop_ops at inner rest ops)
    ∙ (heads_land inner c (at + 1) r (counts ++ n ∷ []) ((at + 1) + op_number inner) (op.Repeat (at + 1) ∷ (flat (at + (2 + op_number inner)) rest ++ ops)) refl
    ∙ loop_lands c at rest counts end ops (at + (2 + op_number inner)) (from_head c.result c.value rest)
    (λ r. heads_land rest c (at + (2 + op_number inner)) r counts end ops g) (from_head c.result c.value inner r) n n ((at + 1) + op_number inner) inner refl f)
heads_land (Guarding cleanup run inner rest) c at r counts end ops e = refl
