-- A place of a tree in the flat code: the operations ahead of it, and what they come to.
use Rattle.std.proofs.Common.{◌≡◌, ℕ, zero, suc, ◌+◌, None, Some, List, [], ◌∷◌, ◌++◌, length, drop, refl, ap, sym, ◌∙◌, append_assoc, length-append, arith}
use Rattle.std.proofs.Math.Seq.{drop-append_seam}
use Rattle.words_script.specs.Block.{Block, Nothing, Running, Making, Setting, Adding, Taking, Testing, Looping, Guarding}
use Rattle.words_script.specs.declared.call.Call.TheVariants as call
use Rattle.rules_bodies.specs.declared.cursor.Cursor.{Cursor}
use Rattle.rules_bodies.specs.declared.op.Op.{Op}
use Rattle.rules_bodies.specs.declared.op.Op.TheVariants as op
use Rattle.rules_bodies.specs.Next.{Place, At, In, rest_of, steps_from}
use Rattle.rules_bodies.proofs.Relative.{from_head, from_inside, from_place}
use Rattle.rules_bodies.specs.Flat.{flat, op_number}
use Rattle.rules_bodies.specs.Fetch.{found_in}
use Rattle.rules_bodies.specs.Stands.{head_ops, step_at, number_inside, op_at, counts_inside, counts_at}
use Rattle.rules_bodies.proofs.Lands.{placed, landed, landed-later_by, heads_land, length-flat, test_lands, forever_lands, loop_lands, guard_lands}

-- the operations of the first step
abbrev pub ops_of_head : ℕ → Block → List Op
ops_of_head at Nothing = []
ops_of_head at (Running n rest) = op.Run n ∷ []
ops_of_head at (Making c rest) = op.Make c ∷ []
ops_of_head at (Setting n rest) = op.Set n ∷ []
ops_of_head at (Adding n rest) = op.Add n ∷ []
ops_of_head at (Taking rest) = op.Take ∷ []
ops_of_head at (Testing named equal inner rest) = op.Test named equal (op_number inner) ∷ flat (at + 1) inner
ops_of_head at (Looping None inner rest) = flat at inner ++ op.Again at ∷ []
ops_of_head at (Looping (Some n) inner rest) = op.Begin n ∷ (flat (at + 1) inner ++ op.Repeat (at + 1) ∷ [])
ops_of_head at (Guarding cleanup run inner rest) =
    op.Make (call.Push cleanup) ∷ (flat (at + 1) inner ++ op.Make (call.Pop run) ∷ [])

pub flat-head : (block : Block) (at : ℕ) → flat at block ≡ ops_of_head at block ++ flat (at + head_ops block) (rest_of block)
flat-head Nothing at = refl
flat-head (Running n rest) at = refl
flat-head (Making c rest) at = refl
flat-head (Setting n rest) at = refl
flat-head (Adding n rest) at = refl
flat-head (Taking rest) at = refl
flat-head (Testing named equal inner rest) at = refl
flat-head (Looping None inner rest) at = refl
flat-head (Looping (Some n) inner rest) at = refl
flat-head (Guarding cleanup run inner rest) at = refl

pub length-ops_of_head : (block : Block) (at : ℕ) → length (ops_of_head at block) ≡ head_ops block
length-ops_of_head Nothing at = refl
length-ops_of_head (Running n rest) at = refl
length-ops_of_head (Making c rest) at = refl
length-ops_of_head (Setting n rest) at = refl
length-ops_of_head (Adding n rest) at = refl
length-ops_of_head (Taking rest) at = refl
length-ops_of_head (Testing named equal inner rest) at = let h = length-flat inner (at + 1) in omega arith
length-ops_of_head (Looping None inner rest) at =
    let h = length-flat inner at in omega (arith, length-append (flat at inner) (op.Again at ∷ []))
length-ops_of_head (Looping (Some n) inner rest) at =
    let h = length-flat inner (at + 1) in omega (arith, length-append (flat (at + 1) inner) (op.Repeat (at + 1) ∷ []))
length-ops_of_head (Guarding cleanup run inner rest) at =
    let h = length-flat inner (at + 1) in omega (arith, length-append (flat (at + 1) inner) (op.Make (call.Pop run) ∷ []))

op_number-head : (block : Block) → op_number block ≡ head_ops block + op_number (rest_of block)
op_number-head Nothing = refl
op_number-head (Running n rest) = refl
op_number-head (Making c rest) = refl
op_number-head (Setting n rest) = refl
op_number-head (Adding n rest) = refl
op_number-head (Taking rest) = refl
op_number-head (Testing named equal inner rest) = refl
op_number-head (Looping None inner rest) = refl
op_number-head (Looping (Some n) inner rest) = refl
op_number-head (Guarding cleanup run inner rest) = refl

-- the end of a block, seen from step i
step_at-end : (i : ℕ) (block : Block) (at : ℕ) → step_at at i block + op_number (steps_from i block) ≡ at + op_number block
step_at-end zero block at = refl
step_at-end (suc i) block at =
    let h = step_at-end i (rest_of block) (at + head_ops block) in
    let k = op_number-head block in
    omega arith

-- the operations from a place in the block of the first step on
abbrev pub ops_inside : (ℕ → Block → List Op) → ℕ → Block → List Op
ops_inside inside at (Testing named equal inner rest) = inside (at + 1) inner ++ flat (at + (1 + op_number inner)) rest
ops_inside inside at (Looping None inner rest) = inside at inner ++ op.Again at ∷ flat (at + (1 + op_number inner)) rest
ops_inside inside at (Looping (Some n) inner rest) =
    inside (at + 1) inner ++ op.Repeat (at + 1) ∷ flat (at + (2 + op_number inner)) rest
ops_inside inside at (Guarding cleanup run inner rest) =
    inside (at + 1) inner ++ op.Make (call.Pop run) ∷ flat (at + (2 + op_number inner)) rest
ops_inside inside at block = flat at block

-- the operations from a place to the end of the block
abbrev pub ops_from : Place → ℕ → Block → List Op
ops_from (At i) at block = flat (step_at at i block) (steps_from i block)
ops_from (In i passes place) at block = ops_inside (λ at inner. ops_from place at inner) (step_at at i block) (steps_from i block)

-- Behind so many operations of a block stand these.
pub record Behind (at : ℕ) (block : Block) (pc : ℕ) (ops : List Op) : Type 0 where
  pub before : List Op
  pub all : flat at block ≡ before ++ ops
  pub number : at + length before ≡ pc

pub behind-steps : (i : ℕ) (block : Block) (at : ℕ) → Behind at block (step_at at i block) (flat (step_at at i block) (steps_from i block))
behind-steps zero block at = record { before = []; all = refl; number = omega arith }
behind-steps (suc i) block at =
    let h = behind-steps i (rest_of block) (at + head_ops block) in
    record {
      before = ops_of_head at block ++ h.before;
      all = flat-head block at ∙ (ap (λ xs. ops_of_head at block ++ xs) h.all ∙ sym (append_assoc (ops_of_head at block) h.before _));
      number =
          let n = h.number in
          omega (arith, length-append (ops_of_head at block) h.before, length-ops_of_head block at);
    }

-- the operations behind some of a block that stands among those of a larger one
behind-among : (at : ℕ) (block : Block) (inner_at : ℕ) (inner : Block) (pc : ℕ) (ops front back : List Op)
    → flat at block ≡ front ++ (flat inner_at inner ++ back) → at + length front ≡ inner_at → Behind inner_at inner pc ops
    → Behind at block pc (ops ++ back)
behind-among at block inner_at inner pc ops front back e n h =
    let m = h.number in
    record {
      before = front ++ h.before;
      all = e ∙ (ap (λ xs. front ++ (xs ++ back)) h.all ∙ (ap (λ xs. front ++ xs) (append_assoc h.before ops back) ∙ sym (append_assoc front h.before (ops ++ back))));
      number = omega (arith, length-append front h.before);
    }

behind-behind : (at : ℕ) (block : Block) (step : Block) (step_pc pc : ℕ) (ops : List Op)
    → Behind at block step_pc (flat step_pc step) → Behind step_pc step pc ops → Behind at block pc ops
behind-behind at block step step_pc pc ops g h =
    let m = g.number in
    let n = h.number in
    record {
      before = g.before ++ h.before;
      all = g.all ∙ (ap (λ xs. g.before ++ xs) h.all ∙ sym (append_assoc g.before h.before ops));
      number = omega (arith, length-append g.before h.before);
    }

behind-inside : (step : Block) (at : ℕ) (place : Place)
    → ((at : ℕ) (inner : Block) → Behind at inner (op_at place at inner) (ops_from place at inner))
    → Behind at step (number_inside (λ at inner. op_at place at inner) at step) (ops_inside (λ at inner. ops_from place at inner) at step)
behind-inside Nothing at place h = record { before = []; all = refl; number = omega arith }
behind-inside (Running n rest) at place h = record { before = []; all = refl; number = omega arith }
behind-inside (Making c rest) at place h = record { before = []; all = refl; number = omega arith }
behind-inside (Setting n rest) at place h = record { before = []; all = refl; number = omega arith }
behind-inside (Adding n rest) at place h = record { before = []; all = refl; number = omega arith }
behind-inside (Taking rest) at place h = record { before = []; all = refl; number = omega arith }
behind-inside (Testing named equal inner rest) at place h =
    behind-among at (Testing named equal inner rest) (at + 1) inner (op_at place (at + 1) inner) (ops_from place (at + 1) inner)
    (op.Test named equal (op_number inner) ∷ []) (flat (at + (1 + op_number inner)) rest) refl refl (h (at + 1) inner)
behind-inside (Looping None inner rest) at place h =
    behind-among at (Looping None inner rest) at inner (op_at place at inner) (ops_from place at inner)
    [] (op.Again at ∷ flat (at + (1 + op_number inner)) rest) (append_assoc (flat at inner) (op.Again at ∷ []) _) (omega arith) (h at inner)
behind-inside (Looping (Some n) inner rest) at place h =
    behind-among at (Looping (Some n) inner rest) (at + 1) inner (op_at place (at + 1) inner) (ops_from place (at + 1) inner)
    (op.Begin n ∷ []) (op.Repeat (at + 1) ∷ flat (at + (2 + op_number inner)) rest)
    (ap (λ xs. op.Begin n ∷ xs) (append_assoc (flat (at + 1) inner) (op.Repeat (at + 1) ∷ []) _)) refl (h (at + 1) inner)
behind-inside (Guarding cleanup run inner rest) at place h =
    behind-among at (Guarding cleanup run inner rest) (at + 1) inner (op_at place (at + 1) inner) (ops_from place (at + 1) inner)
    (op.Make (call.Push cleanup) ∷ []) (op.Make (call.Pop run) ∷ flat (at + (2 + op_number inner)) rest)
    (ap (λ xs. op.Make (call.Push cleanup) ∷ xs) (append_assoc (flat (at + 1) inner) (op.Make (call.Pop run) ∷ []) _)) refl (h (at + 1) inner)

pub behind-place : (place : Place) (at : ℕ) (block : Block) → Behind at block (op_at place at block) (ops_from place at block)
behind-place (At i) at block = behind-steps i block at
behind-place (In i passes place) at block =
    behind-behind at block (steps_from i block) (step_at at i block) _ _ (behind-steps i block at)
    (behind-inside (steps_from i block) (step_at at i block) place (λ at inner. behind-place place at inner))

-- the operations ahead of a place
pub drop-flat : (place : Place) (block : Block) → drop (op_at place 0 block) (flat 0 block) ≡ ops_from place 0 block
drop-flat place block =
    let h = behind-place place 0 block in
    let n : op_at place 0 block ≡ length h.before = let m = h.number in omega arith in
    ap (λ xs. drop (op_at place 0 block) xs) h.all ∙ (ap (λ k. drop k (h.before ++ ops_from place 0 block)) n ∙ drop-append_seam h.before (ops_from place 0 block))

-- what the operations from a place in the block of the first step on come to
inside_lands : (step : Block) (place : Place) (c : Cursor) (at r passes : ℕ) (counts : List ℕ) (end : ℕ) (ops : List Op)
    → end ≡ at + op_number step
    → ((inner : Block) (at : ℕ) (counts : List ℕ) (end : ℕ) (ops : List Op) → end ≡ at + op_number inner
    → found_in (ops_from place at inner ++ ops) 0 (placed c (op_at place at inner) r (counts_at place counts inner))
    ≡ landed c at inner counts end ops (from_place c.result c.value place inner r))
    → found_in (ops_inside (λ at inner. ops_from place at inner) at step ++ ops) 0
    (placed c (number_inside (λ at inner. op_at place at inner) at step) r (counts_inside (λ counts inner. counts_at place counts inner) passes counts step))
    ≡ landed c at step counts end ops (from_inside c.result c.value passes (λ inner. from_place c.result c.value place inner r) step r)
inside_lands Nothing place c at r passes counts end ops e h = heads_land Nothing c at r counts end ops e
inside_lands (Running n rest) place c at r passes counts end ops e h = heads_land (Running n rest) c at r counts end ops e
inside_lands (Making call rest) place c at r passes counts end ops e h = heads_land (Making call rest) c at r counts end ops e
inside_lands (Setting n rest) place c at r passes counts end ops e h = heads_land (Setting n rest) c at r counts end ops e
inside_lands (Adding n rest) place c at r passes counts end ops e h = heads_land (Adding n rest) c at r counts end ops e
inside_lands (Taking rest) place c at r passes counts end ops e h = heads_land (Taking rest) c at r counts end ops e
inside_lands (Testing named equal inner rest) place c at r passes counts end ops e h =
    let f : at + (1 + op_number inner) ≡ (at + 1) + op_number inner = omega arith in
    let g : end ≡ (at + (1 + op_number inner)) + op_number rest = omega arith in
    ap (λ xs. found_in xs 0 (placed c (op_at place (at + 1) inner) r (counts_at place counts inner)))
    (append_assoc (ops_from place (at + 1) inner) (flat (at + (1 + op_number inner)) rest) ops)
    ∙ (h inner (at + 1) counts (at + (1 + op_number inner)) (flat (at + (1 + op_number inner)) rest ++ ops) f
    ∙ test_lands c at rest counts end ops (at + (1 + op_number inner)) (from_head c.result c.value rest)
    (λ r. heads_land rest c (at + (1 + op_number inner)) r counts end ops g) (from_place c.result c.value place inner r) named equal inner refl)
inside_lands (Looping None inner rest) place c at r passes counts end ops e h =
    let g : end ≡ (at + (1 + op_number inner)) + op_number rest = omega arith in
    ap (λ xs. found_in xs 0 (placed c (op_at place at inner) r (counts_at place counts inner)))
    (append_assoc (ops_from place at inner) (op.Again at ∷ flat (at + (1 + op_number inner)) rest) ops)
    ∙ (h inner at counts (at + op_number inner) (op.Again at ∷ (flat (at + (1 + op_number inner)) rest ++ ops)) refl
    ∙ forever_lands c at rest counts end ops (at + (1 + op_number inner)) (from_head c.result c.value rest)
    (λ r. heads_land rest c (at + (1 + op_number inner)) r counts end ops g) (from_place c.result c.value place inner r) passes inner (at + op_number inner))
inside_lands (Looping (Some n) inner rest) place c at r passes counts end ops e h =
    let g : end ≡ (at + (2 + op_number inner)) + op_number rest = omega arith in
    let f : ((at + 1) + op_number inner) + 1 ≡ at + (2 + op_number inner) = omega arith in
    ap (λ xs. found_in xs 0 (placed c (op_at place (at + 1) inner) r (counts_at place (counts ++ passes ∷ []) inner)))
    (append_assoc (ops_from place (at + 1) inner) (op.Repeat (at + 1) ∷ flat (at + (2 + op_number inner)) rest) ops)
    ∙ (h inner (at + 1) (counts ++ passes ∷ []) ((at + 1) + op_number inner) (op.Repeat (at + 1) ∷ (flat (at + (2 + op_number inner)) rest ++ ops)) refl
    ∙ loop_lands c at rest counts end ops (at + (2 + op_number inner)) (from_head c.result c.value rest)
    (λ r. heads_land rest c (at + (2 + op_number inner)) r counts end ops g) (from_place c.result c.value place inner r) passes n ((at + 1) + op_number inner) inner refl f)
inside_lands (Guarding cleanup run inner rest) place c at r passes counts end ops e h =
    let f : ((at + 1) + op_number inner) + 1 ≡ at + (2 + op_number inner) = omega arith in
    ap (λ xs. found_in xs 0 (placed c (op_at place (at + 1) inner) r (counts_at place counts inner)))
    (append_assoc (ops_from place (at + 1) inner) (op.Make (call.Pop run) ∷ flat (at + (2 + op_number inner)) rest) ops)
    ∙ (h inner (at + 1) counts ((at + 1) + op_number inner) (op.Make (call.Pop run) ∷ (flat (at + (2 + op_number inner)) rest ++ ops)) refl
    ∙ guard_lands c at rest counts end ops (from_place c.result c.value place inner r) cleanup run inner ((at + 1) + op_number inner) f)

-- the operations of a block from a place on come to what the block comes to from there
pub places_land : (place : Place) (c : Cursor) (r : ℕ) (block : Block) (at : ℕ) (counts : List ℕ) (end : ℕ) (ops : List Op) → end ≡ at + op_number block
    → found_in (ops_from place at block ++ ops) 0 (placed c (op_at place at block) r (counts_at place counts block))
    ≡ landed c at block counts end ops (from_place c.result c.value place block r)
places_land (At i) c r block at counts end ops e =
    let f : end ≡ step_at at i block + op_number (steps_from i block) = let h = step_at-end i block at in omega arith in
    heads_land (steps_from i block) c (step_at at i block) r counts end ops f
    ∙ sym (landed-later_by i (from_head c.result c.value (steps_from i block) r) c at block counts end ops)
places_land (In i passes place) c r block at counts end ops e =
    let f : end ≡ step_at at i block + op_number (steps_from i block) = let h = step_at-end i block at in omega arith in
    inside_lands (steps_from i block) place c (step_at at i block) r passes counts end ops f
    (λ inner at counts end ops e. places_land place c r inner at counts end ops e)
    ∙ sym (landed-later_by i (from_inside c.result c.value passes (λ inner. from_place c.result c.value place inner r) (steps_from i block) r) c at block counts end ops)
