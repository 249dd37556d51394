-- The operations of a list of steps, one step after another.
use Rattle.std.proofs.Common.{◌≡◌, ℕ, zero, suc, ◌+◌, ◌-◌, ◌<◌, ◌≤◌, Bool, None, Some, List, [], ◌∷◌, ◌++◌, length, drop, get_or, drop-cons, add-one, slice_set, refl, ap, sym, ◌∙◌, append_assoc, append-nil, add-zero, length-append, arith}
use Rattle.words_numbers.specs.declared.res.Res.{Res}
use Rattle.words_script.specs.Block.{Block, Nothing, Testing}
use Rattle.words_script.specs.Tree.{block_of, step_count}
use Rattle.words_script.specs.declared.body.Body.TheDeep.{deep-Step}
use Rattle.words_script.specs.declared.call.Call.TheVariants as call
use Rattle.words_script.specs.declared.body.Step.{Step}
use Rattle.words_script.specs.declared.body.Step.TheVariants as step
use Rattle.rules_bodies.specs.declared.op.Op.{Op}
use Rattle.rules_bodies.specs.declared.op.Op.TheVariants as op
use Rattle.rules_bodies.specs.Flat.{flat, op_number}
use Rattle.rules_bodies.proofs.Lands.{length-flat}

flat-last : (head : List Op) (number : ℕ) (steps : List Step) (at : ℕ)
    → head ++ flat (at + number) (block_of steps) ≡ (head ++ []) ++ flat (at + (number + 0)) (block_of steps)
flat-last head number steps at =
    ap (λ xs. xs ++ flat (at + number) (block_of steps)) (sym (append-nil head))
    ∙ ap (λ n. (head ++ []) ++ flat (at + n) (block_of steps)) (sym (add-zero number))

-- the operations of a step, and then those of the steps behind it
pub flat-cons : (s : Step) (steps : List Step) (at : ℕ)
    → flat at (block_of (s ∷ steps)) ≡ flat at (block_of (s ∷ [])) ++ flat (at + op_number (block_of (s ∷ []))) (block_of steps)
flat-cons (step.Run n) steps at = refl
flat-cons (step.Make call) steps at = refl
flat-cons (step.Set n) steps at = refl
flat-cons (step.Add n) steps at = refl
flat-cons step.Take steps at = refl
flat-cons (step.Test res equal body) steps at = flat-last (op.Test res equal (op_number body) ∷ flat (at + 1) body) (1 + op_number body) steps at
flat-cons (step.Loop None body) steps at = flat-last (flat at body ++ op.Again at ∷ []) (1 + op_number body) steps at
flat-cons (step.Loop (Some n) body) steps at =
    flat-last (op.Begin n ∷ (flat (at + 1) body ++ op.Repeat (at + 1) ∷ [])) (2 + op_number body) steps at
flat-cons (step.Guard cleanup body run) steps at =
    flat-last (op.Make (call.Push cleanup) ∷ (flat (at + 1) body ++ op.Make (call.Pop run) ∷ [])) (2 + op_number body) steps at

pub op_number-cons : (s : Step) (steps : List Step) → op_number (block_of (s ∷ steps)) ≡ op_number (block_of (s ∷ [])) + op_number (block_of steps)
op_number-cons (step.Run n) steps = refl
op_number-cons (step.Make call) steps = refl
op_number-cons (step.Set n) steps = refl
op_number-cons (step.Add n) steps = refl
op_number-cons step.Take steps = refl
op_number-cons (step.Test res equal body) steps = omega arith
op_number-cons (step.Loop None body) steps = omega arith
op_number-cons (step.Loop (Some n) body) steps = omega arith
op_number-cons (step.Guard cleanup body run) steps = omega arith

-- Of operations to which a list of steps is to be appended, those of all steps but these stand already.
pub record Flattens (before : List Op) (steps : List Step) (ops : List Op) (left : List Step) : Type 0 where
  pub all : ops ++ flat (length ops) (block_of left) ≡ before ++ flat (length before) (block_of steps)
  pub room : length ops + op_number (block_of left) ≡ length before + op_number (block_of steps)

-- a placeholder at the head of what was appended is replaced
pub slice_set-append_seam : (xs : List Op) (y z : Op) (ys : List Op) → slice_set (xs ++ y ∷ ys) (length xs) z ≡ xs ++ z ∷ ys
slice_set-append_seam [] y z ys = refl
slice_set-append_seam (x ∷ xs) y z ys = ap (λ zs. x ∷ zs) (slice_set-append_seam xs y z ys)

drop_at_step : (steps : List Step) (i : ℕ) (s : Step) → i < length steps → s ≡ get_or steps i s → drop i steps ≡ s ∷ drop (i + 1) steps
drop_at_step steps i s past at =
    drop-cons steps i s past ∙ (ap (λ x. x ∷ drop (suc i) steps) (sym at) ∙ ap (λ k. s ∷ drop k steps) (sym (add-one i)))

-- there is room for the next step
pub room_for : (before : List Op) (steps : List Step) (ops : List Op) (i : ℕ) (s : Step) (limit : ℕ)
    → Flattens before steps ops (drop i steps) → i < length steps → s ≡ get_or steps i s
    → length before + op_number (block_of steps) < limit → length ops + op_number (block_of (s ∷ [])) < limit
room_for before steps ops i s limit h past at room =
    let e = ap (λ xs. op_number (block_of xs)) (drop_at_step steps i s past at) in
    let f = op_number-cons s (drop (i + 1) steps) in
    let all = h.room in
    omega arith

-- the next step is appended
pub flattens_more : (before : List Op) (steps : List Step) (ops new : List Op) (i : ℕ) (s : Step)
    → Flattens before steps ops (drop i steps) → i < length steps → s ≡ get_or steps i s
    → new ≡ ops ++ flat (length ops) (block_of (s ∷ [])) → Flattens before steps new (drop (i + 1) steps)
flattens_more before steps ops new i s h past at e =
    let split = drop_at_step steps i s past at in
    let n : length new ≡ length ops + op_number (block_of (s ∷ [])) =
    let k = ap length e in
    let l = length-flat (block_of (s ∷ [])) (length ops) in
    omega (arith, length-append ops (flat (length ops) (block_of (s ∷ [])))) in
    let count = ap (λ xs. op_number (block_of xs)) split in
    let sum = op_number-cons s (drop (i + 1) steps) in
    let room = h.room in
    record {
      all = ap (λ k. new ++ flat k (block_of (drop (i + 1) steps))) n
          ∙ (ap (λ xs. xs ++ flat (length ops + op_number (block_of (s ∷ []))) (block_of (drop (i + 1) steps))) e
          ∙ (append_assoc ops (flat (length ops) (block_of (s ∷ []))) (flat (length ops + op_number (block_of (s ∷ []))) (block_of (drop (i + 1) steps)))
          ∙ (ap (λ xs. ops ++ xs) (sym (flat-cons s (drop (i + 1) steps) (length ops)))
          ∙ (ap (λ xs. ops ++ flat (length ops) (block_of xs)) (sym split) ∙ h.all))));
      room = omega arith;
    }

-- a test whose block is appended behind its placeholder
pub test_done : (ops marked new : List Op) (placeholder : Op) (res : Res) (equal : Bool) (body : Block)
    → marked ≡ ops ++ placeholder ∷ [] → new ≡ marked ++ flat (length marked) body
    → slice_set new (length ops) (op.Test res equal ((length new - length ops) - 1)) ≡ ops ++ flat (length ops) (Testing res equal body Nothing)
test_done ops marked new placeholder res equal body e f =
    let n : length marked ≡ length ops + 1 = omega (arith, ap length e, length-append ops (placeholder ∷ [])) in
    let whole : new ≡ ops ++ placeholder ∷ flat (length ops + 1) body =
    f ∙ (ap (λ k. marked ++ flat k body) n ∙ (ap (λ xs. xs ++ flat (length ops + 1) body) e ∙ append_assoc ops (placeholder ∷ []) (flat (length ops + 1) body))) in
    let skip : (length new - length ops) - 1 ≡ op_number body =
    let l = length-flat body (length ops + 1) in
    omega (arith, ap length whole, length-append ops (placeholder ∷ flat (length ops + 1) body)) in
    ap (λ k. slice_set new (length ops) (op.Test res equal k)) skip
    ∙ (ap (λ xs. slice_set xs (length ops) (op.Test res equal (op_number body))) whole
    ∙ (slice_set-append_seam ops placeholder (op.Test res equal (op_number body)) (flat (length ops + 1) body)
    ∙ ap (λ xs. ops ++ op.Test res equal (op_number body) ∷ xs) (sym (append-nil (flat (length ops + 1) body)))))

-- a step is no larger than the body that it stands in
deep-head : (s : Step) (steps : List Step) → deep-Step s ≤ step_count (block_of (s ∷ steps))
deep-head (step.Run n) steps = omega arith
deep-head (step.Make call) steps = omega arith
deep-head (step.Set n) steps = omega arith
deep-head (step.Add n) steps = omega arith
deep-head step.Take steps = omega arith
deep-head (step.Test res equal body) steps = omega arith
deep-head (step.Loop times body) steps = omega arith
deep-head (step.Guard cleanup body run) steps = omega arith

step_count-tail : (s : Step) (steps : List Step) → step_count (block_of steps) ≤ step_count (block_of (s ∷ steps))
step_count-tail (step.Run n) steps = omega arith
step_count-tail (step.Make call) steps = omega arith
step_count-tail (step.Set n) steps = omega arith
step_count-tail (step.Add n) steps = omega arith
step_count-tail step.Take steps = omega arith
step_count-tail (step.Test res equal body) steps = omega arith
step_count-tail (step.Loop times body) steps = omega arith
step_count-tail (step.Guard cleanup body run) steps = omega arith

step_count-drop : (i : ℕ) (steps : List Step) → step_count (block_of (drop i steps)) ≤ step_count (block_of steps)
step_count-drop zero steps = omega arith
step_count-drop (suc i) [] = omega arith
step_count-drop (suc i) (s ∷ steps) = let h = step_count-drop i steps in let k = step_count-tail s steps in omega arith

pub deep-at : (steps : List Step) (i : ℕ) (s : Step) → i < length steps → s ≡ get_or steps i s → deep-Step s ≤ step_count (block_of steps)
deep-at steps i s past at =
    let e = ap (λ xs. step_count (block_of xs)) (drop_at_step steps i s past at) in
    let h = deep-head s (drop (i + 1) steps) in
    let k = step_count-drop i steps in
    omega arith
