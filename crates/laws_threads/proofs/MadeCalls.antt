-- What holds of each call of a body's steps holds of each call of its flat code, and of each unit that is fetched there.
use Rattle.std.proofs.Common.{List, None, Option, Some, [], arith, drop, suc, zero, ℕ, ◌+◌, ◌++◌, ◌∷◌}
use Rattle.std.specs.Prelude.{All, map, slice_index_or}
use Rattle.words_script.specs.Block.{Adding, Block, Guarding, Looping, Making, Nothing, Running, Setting, Taking, Testing}
use Rattle.words_script.specs.declared.call.Call.{Call}
use Rattle.words_script.specs.declared.call.Call.TheVariants as call
use Rattle.rules_bodies.specs.declared.cursor.Cursor.{Cursor}
use Rattle.rules_bodies.specs.declared.op.Op.{Op}
use Rattle.rules_bodies.specs.declared.op.Op.TheVariants as op
use Rattle.rules_bodies.specs.declared.unit.Unit as units
use Rattle.rules_bodies.specs.declared.unit.Unit.TheVariants as unit
use Rattle.rules_bodies.specs.Flat.{NumberedBodies, flat, op_number}
use Rattle.rules_bodies.specs.Fetch.{after_pass, carried_out, fetched, found_in, innermost, moved_on, or_search, ops_of}
use Rattle.rules_flat_code.specs.EachCall.{EachCall, EachMade}

module _ (Holds : Call → Type 0) where
  -- ---- flat code

  made_both : (xs ys : List Op) → EachMade Holds xs → EachMade Holds ys → EachMade Holds (xs ++ ys)
  made_both [] ys h k = k
  made_both (op.Run n ∷ xs) ys h k = made_both xs ys h k
  made_both (op.Make c ∷ xs) ys h k = (h.0, made_both xs ys h.1 k)
  made_both (op.Set n ∷ xs) ys h k = made_both xs ys h k
  made_both (op.Add n ∷ xs) ys h k = made_both xs ys h k
  made_both (op.Take ∷ xs) ys h k = made_both xs ys h k
  made_both (op.Test named equal skip ∷ xs) ys h k = made_both xs ys h k
  made_both (op.Begin times ∷ xs) ys h k = made_both xs ys h k
  made_both (op.Repeat first ∷ xs) ys h k = made_both xs ys h k
  made_both (op.Again first ∷ xs) ys h k = made_both xs ys h k

  pub flat_made : (at : ℕ) (block : Block) → EachCall Holds block → EachMade Holds (flat at block)
  flat_made at Nothing h = tt
  flat_made at (Running n rest) h = flat_made (at + 1) rest h
  flat_made at (Making c rest) h = (h.0, flat_made (at + 1) rest h.1)
  flat_made at (Setting n rest) h = flat_made (at + 1) rest h
  flat_made at (Adding n rest) h = flat_made (at + 1) rest h
  flat_made at (Taking rest) h = flat_made (at + 1) rest h
  flat_made at (Testing named equal inner rest) h = made_both (flat (at + 1) inner) (flat (at + (1 + op_number inner)) rest) (flat_made (at + 1) inner h.0) (flat_made (at + (1 + op_number inner)) rest h.1)
  flat_made at (Looping None inner rest) h =
      made_both (flat at inner ++ op.Again at ∷ []) (flat (at + (1 + op_number inner)) rest) (made_both (flat at inner) (op.Again at ∷ []) (flat_made at inner h.0) tt) (flat_made (at + (1 + op_number inner)) rest h.1)
  flat_made at (Looping (Some n) inner rest) h =
      made_both (flat (at + 1) inner ++ op.Repeat (at + 1) ∷ []) (flat (at + (2 + op_number inner)) rest) (made_both (flat (at + 1) inner) (op.Repeat (at + 1) ∷ []) (flat_made (at + 1) inner h.0) tt) (flat_made (at + (2 + op_number inner)) rest h.1)
  flat_made at (Guarding cleanup run inner rest) (push, pop, inside, behind) = (
    push,
    made_both (flat (at + 1) inner ++ op.Make (call.Pop run) ∷ []) (flat (at + (2 + op_number inner)) rest) (made_both (flat (at + 1) inner) (op.Make (call.Pop run) ∷ []) (flat_made (at + 1) inner inside) (pop, tt)) (flat_made (at + (2 + op_number inner)) rest behind),
  )

  -- of each body by its number
  pub all_made : (all : List Block) (n : ℕ) → All (EachCall Holds) all → EachMade Holds (slice_index_or (map (flat 0) all) n [])
  all_made [] n h = tt
  all_made (b ∷ all) zero h = flat_made 0 b (h 0 b (omega arith))
  all_made (b ∷ all) (suc n) h = all_made all n (λ k d lt. h (suc k) d (omega arith))

  -- ---- units

  abbrev pub UnitMakes : units.Unit → Type 0
  UnitMakes (unit.Make c) = Holds c
  UnitMakes other = Unit {0}

  pass_makes : (first : ℕ) (passes : Option ℕ) (ops : List Op) (c : Cursor) → ((skip : ℕ) (d : Cursor) → UnitMakes (found_in ops skip d).1) →
      UnitMakes (or_search (after_pass first passes c) (found_in ops)).1
  pass_makes first None ops c rest = rest 0 _
  pass_makes first (Some zero) ops c rest = rest 0 _
  pass_makes first (Some (suc zero)) ops c rest = rest 0 _
  pass_makes first (Some (suc (suc k))) ops c rest = tt

  made_tail : (o : Op) (ops : List Op) → EachMade Holds (o ∷ ops) → EachMade Holds ops
  made_tail (op.Run k) ops h = h
  made_tail (op.Make c) ops h = h.1
  made_tail (op.Set k) ops h = h
  made_tail (op.Add k) ops h = h
  made_tail op.Take ops h = h
  made_tail (op.Test named equal skip) ops h = h
  made_tail (op.Begin times) ops h = h
  made_tail (op.Repeat first) ops h = h
  made_tail (op.Again first) ops h = h

  step_makes : (o : Op) (ops : List Op) (c : Cursor) → EachMade Holds (o ∷ ops) → ((skip : ℕ) (d : Cursor) → UnitMakes (found_in ops skip d).1) →
      UnitMakes (or_search (carried_out o c) (found_in ops)).1
  step_makes (op.Run k) ops c h rest = tt
  step_makes (op.Make call) ops c h rest = h.0
  step_makes (op.Set k) ops c h rest = rest 0 _
  step_makes (op.Add k) ops c h rest = rest 0 _
  step_makes op.Take ops c h rest = rest 0 _
  step_makes (op.Test named equal skip) ops c h rest = rest _ _
  step_makes (op.Begin times) ops c h rest = rest 0 _
  step_makes (op.Repeat first) ops c h rest = pass_makes first (innermost c.counts.items) ops c rest
  step_makes (op.Again first) ops c h rest = tt

  found_makes : (ops : List Op) (skip : ℕ) (c : Cursor) → EachMade Holds ops → UnitMakes (found_in ops skip c).1
  found_makes [] skip c h = tt
  found_makes (o ∷ ops) (suc skip) c h = found_makes ops skip (moved_on c) (made_tail o ops h)
  found_makes (o ∷ ops) zero c h = step_makes o ops (moved_on c) h (λ skip d. found_makes ops skip d (made_tail o ops h))

  made_drop : (k : ℕ) (ops : List Op) → EachMade Holds ops → EachMade Holds (drop k ops)
  made_drop zero ops h = h
  made_drop (suc k) [] h = h
  made_drop (suc k) (o ∷ ops) h = made_drop k ops (made_tail o ops h)

  pub fetched_makes : (code : NumberedBodies (List Op)) (c : Cursor) → EachMade Holds (ops_of code c.body) → UnitMakes (fetched code c).1
  fetched_makes code c h = found_makes (drop c.pc (ops_of code c.body)) 0 c (made_drop c.pc (ops_of code c.body) h)

-- a weaker fact of each call
pub each_weaker : (Holds Q : Call → Type 0) → ((c : Call) → Holds c → Q c) → (b : Block) → EachCall Holds b → EachCall Q b
each_weaker Holds Q so Nothing h = tt
each_weaker Holds Q so (Running n rest) h = each_weaker Holds Q so rest h
each_weaker Holds Q so (Making c rest) h = (so c h.0, each_weaker Holds Q so rest h.1)
each_weaker Holds Q so (Setting n rest) h = each_weaker Holds Q so rest h
each_weaker Holds Q so (Adding n rest) h = each_weaker Holds Q so rest h
each_weaker Holds Q so (Taking rest) h = each_weaker Holds Q so rest h
each_weaker Holds Q so (Testing named equal inner rest) h = (each_weaker Holds Q so inner h.0, each_weaker Holds Q so rest h.1)
each_weaker Holds Q so (Looping times inner rest) h = (each_weaker Holds Q so inner h.0, each_weaker Holds Q so rest h.1)
each_weaker Holds Q so (Guarding cleanup run inner rest) (push, pop, inside, behind) =
    (so (call.Push cleanup) push, so (call.Pop run) pop, each_weaker Holds Q so inner inside, each_weaker Holds Q so rest behind)

pub all_weaker : (Holds Q : Call → Type 0) → ((c : Call) → Holds c → Q c) → (all : List Block) → All (EachCall Holds) all → All (EachCall Q) all
all_weaker Holds Q so all h = λ k b lt. each_weaker Holds Q so (slice_index_or all k b) (h k b lt)
