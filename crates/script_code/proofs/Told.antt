-- A unit that is told by where its call stands is the unit that was found.
use Rattle.std.proofs.Common.{◌≡◌, ℕ, zero, suc, ◌+◌, ◌≤◌, ◌<◌, Option, None, Some, List, ◌∷◌, length, refl, ap, sym, subst, ◌∙◌, get_or, slice_get, drop, drop-cons, length-drop, arith}
use Rattle.std.proofs.lemmas.Option.{slice_get_read}
use Rattle.words_script.specs.declared.call.Call.{Call}
use Rattle.words_script.specs.declared.call.Call.TheVariants.{Yield}
use Rattle.rules_bodies.specs.declared.cursor.Cursor.{Cursor}
use Rattle.rules_bodies.specs.declared.op.Op.{Op}
use Rattle.rules_bodies.specs.declared.op.Op.TheVariants as op
use Rattle.rules_bodies.specs.declared.unit.Unit as unit
use Rattle.rules_bodies.specs.declared.unit.Unit.TheVariants.{Run, Make, Jump, Finish}
use Rattle.script_code.specs.declared.fetched.Fetched.{Fetched}
use Rattle.script_code.specs.declared.fetched.Fetched.TheVariants as a
use Rattle.script_code.specs.declared.ops.Packed.{Packed}
use Rattle.script_code.specs.declared.ops.Packed.TheVariants as kept
use Rattle.rules_bodies.specs.Fetch.{Effect, Gives, Skips, moved_on, innermost, after_pass, carried_out, fetched, found_in, most_skipped, ops_of}
use Rattle.script_code.specs.Fetched.{StandsIn, call_at, fetched_at, fetched_from, told, unit_in, unit_of}
use Rattle.rules_bodies.specs.Flat.{NumberedBodies}
use Rattle.script_code.specs.Packed.{unpacked}
use Rattle.script_code.specs.Ready.{IsSafe}
use Rattle.script_code.proofs.Safe.{SearchesOn, search_finds, search_goes_on}

-- the call that an effect gives
abbrev made : Cursor × Effect → Call
made (c, Gives (Make call)) = call
made effect = Yield

made_after_pass : (first : ℕ) (passes : Option ℕ) (c : Cursor) → made (after_pass first passes c) ≡ Yield
made_after_pass first None c = refl
made_after_pass first (Some zero) c = refl
made_after_pass first (Some (suc zero)) c = refl
made_after_pass first (Some (suc (suc passes))) c = refl

made_by : (o : Op) (c : Cursor) → made (carried_out o c) ≡ call_at (Some o)
made_by (op.Run n) c = refl
made_by (op.Make call) c = refl
made_by (op.Set n) c = refl
made_by (op.Add n) c = refl
made_by op.Take c = refl
made_by (op.Test named equal skip) c = refl
made_by (op.Begin times) c = refl
made_by (op.Repeat first) c = made_after_pass first (innermost c.counts.items) c
made_by (op.Again first) c = refl

-- the unit that an operation gives, told by the operation's number
unit_told : (ops : List Op) (o : Op) (body n : ℕ) (c new : Cursor) (u : unit.Unit) → slice_get ops n ≡ Some o
    → carried_out o c ≡ (new, Gives u) → u ≡ unit_in ops (fetched_at body n u)
unit_told ops o body n c new (Run k) at e = refl
unit_told ops o body n c new (Make call) at e = ap Make (sym (ap call_at at ∙ (sym (made_by o c) ∙ ap made e)))
unit_told ops o body n c new Jump at e = refl
unit_told ops o body n c new Finish at e = refl

-- the unit that an effect gives
abbrev given : Cursor × Effect → unit.Unit
given (c, Gives u) = u
given (c, Skips n) = Finish

-- the same of an operation as it is kept
module _ (ops : List Op) (calls : List Call) (body n : ℕ) (c new : Cursor) (u : unit.Unit) where
  unit_kept : (packed : Packed) → slice_get ops n ≡ Some (unpacked calls packed) → carried_out (unpacked calls packed) c ≡ (new, Gives u)
      → u ≡ unit_in ops (fetched_from body n packed u)
  unit_kept (kept.Run k) at e = unit_told ops (unpacked calls (kept.Run k)) body n c new u at e
  unit_kept (kept.Make number) at e = unit_told ops (unpacked calls (kept.Make number)) body n c new u at e
  unit_kept (kept.Short short) at e = sym (ap given e)
  unit_kept (kept.Set k) at e = unit_told ops (unpacked calls (kept.Set k)) body n c new u at e
  unit_kept (kept.Add k) at e = unit_told ops (unpacked calls (kept.Add k)) body n c new u at e
  unit_kept kept.Take at e = unit_told ops (unpacked calls kept.Take) body n c new u at e
  unit_kept (kept.Test named equal skip) at e = unit_told ops (unpacked calls (kept.Test named equal skip)) body n c new u at e
  unit_kept (kept.Begin times) at e = unit_told ops (unpacked calls (kept.Begin times)) body n c new u at e
  unit_kept (kept.Repeat first) at e = unit_told ops (unpacked calls (kept.Repeat first)) body n c new u at e
  unit_kept (kept.Again first) at e = unit_told ops (unpacked calls (kept.Again first)) body n c new u at e

-- a search has found the unit that was told, and goes on where none was
abbrev pub SearchTold : List Op → Cursor → Cursor × Option Fetched → Type 0
SearchTold ops from (new, Some f) = found_in (drop from.pc ops) 0 from ≡ (new, unit_in ops f)
SearchTold ops from (new, None) = SearchesOn ops from new

module _ (ops : List Op) (from now : Cursor) (calls : List Call) (packed : Packed) (h : SearchesOn ops from now) (past : now.pc < length ops)
    (at : unpacked calls packed ≡ get_or ops now.pc (unpacked calls packed)) where
  abbrev o : Op
  o = unpacked calls packed

  effect_told : (effect : Cursor × Effect) → carried_out o (moved_on now) ≡ effect → SearchTold ops from (told now.body now.pc packed effect)
  effect_told (c, Gives u) e =
      search_finds ops from now c o u h past at e
      ∙ ap (λ v. (c, v)) (unit_kept ops calls now.body now.pc (moved_on now) c u packed (slice_get_read ops (length ops) now.pc o refl past at) e)
  effect_told (c, Skips n) e = search_goes_on ops from now c o n h past at e

  pub search_told : (after : Cursor × Option Fetched) → told now.body now.pc packed (carried_out o (moved_on now)) ≡ after → SearchTold ops from after
  search_told after e = subst (SearchTold ops from) e (effect_told (carried_out o (moved_on now)) refl)

not_told : (f : Fetched) (m n : ℕ) → Some f ≡ None → m ≤ n
not_told f m n e = absurd cc

-- where no unit is told the cursor has not moved back
moves_pass : (body number first : ℕ) (packed : Packed) (passes : Option ℕ) (c new : Cursor) → told body number packed (after_pass first passes c) ≡ (new, None) → c.pc ≤ new.pc
moves_pass body number first packed None c new e = omega (arith, ap (λ (x : Cursor × Option Fetched). x.0.pc) e)
moves_pass body number first packed (Some zero) c new e = omega (arith, ap (λ (x : Cursor × Option Fetched). x.0.pc) e)
moves_pass body number first packed (Some (suc zero)) c new e = omega (arith, ap (λ (x : Cursor × Option Fetched). x.0.pc) e)
moves_pass body number first packed (Some (suc (suc passes))) c new e = not_told _ c.pc new.pc (ap (λ (x : Cursor × Option Fetched). x.1) e)

pub told_moves : (body number : ℕ) (packed : Packed) (o : Op) (c new : Cursor) → told body number packed (carried_out o c) ≡ (new, None) → c.pc ≤ new.pc
told_moves body number packed (op.Run n) c new e = not_told _ c.pc new.pc (ap (λ (x : Cursor × Option Fetched). x.1) e)
told_moves body number packed (op.Make call) c new e = not_told _ c.pc new.pc (ap (λ (x : Cursor × Option Fetched). x.1) e)
told_moves body number packed (op.Set n) c new e = omega (arith, ap (λ (x : Cursor × Option Fetched). x.0.pc) e)
told_moves body number packed (op.Add n) c new e = omega (arith, ap (λ (x : Cursor × Option Fetched). x.0.pc) e)
told_moves body number packed op.Take c new e = omega (arith, ap (λ (x : Cursor × Option Fetched). x.0.pc) e)
told_moves body number packed (op.Test named equal skip) c new e = omega (arith, ap (λ (x : Cursor × Option Fetched). x.0.pc) e)
told_moves body number packed (op.Begin times) c new e = omega (arith, ap (λ (x : Cursor × Option Fetched). x.0.pc) e)
told_moves body number packed (op.Repeat first) c new e = moves_pass body number first packed (innermost c.counts.items) c new e
told_moves body number packed (op.Again first) c new e = not_told _ c.pc new.pc (ap (λ (x : Cursor × Option Fetched). x.1) e)

-- a test does not pass over more operations than there are
safe_skips : (o : Op) (rest : List Op) → IsSafe (o ∷ rest) → most_skipped o ≤ length rest
safe_skips (op.Run n) rest h = omega arith
safe_skips (op.Make call) rest h = omega arith
safe_skips (op.Set n) rest h = omega arith
safe_skips (op.Add n) rest h = omega arith
safe_skips op.Take rest h = omega arith
safe_skips (op.Test named equal skip) rest h = h.0.0
safe_skips (op.Begin times) rest h = omega arith
safe_skips (op.Repeat first) rest h = omega arith
safe_skips (op.Again first) rest h = omega arith

pub skips_within : (ops : List Op) (pc : ℕ) (o : Op) → IsSafe (drop pc ops) → pc < length ops → o ≡ get_or ops pc o → pc + 1 + most_skipped o ≤ length ops
skips_within ops pc o h past at =
    let split : drop pc ops ≡ o ∷ drop (suc pc) ops = drop-cons ops pc o past ∙ ap (λ x. x ∷ drop (suc pc) ops) (sym at) in
    let skips = safe_skips o (drop (suc pc) ops) (subst IsSafe split h) in
    omega (arith, length-drop (suc pc) ops)

-- what was found in a body is what was found in the code
pub found_in_code : (code : NumberedBodies (List Op)) (body : ℕ) (f : Fetched) → StandsIn body f → unit_in (ops_of code body) f ≡ unit_of code f
found_in_code code body (a.Run n) h = refl
found_in_code code body (a.Make place) h = ap (λ b. Make (call_at (slice_get (ops_of code b) place.op))) (sym h)
found_in_code code body a.Jump h = refl
found_in_code code body a.Finish h = refl
found_in_code code body (a.Short short) h = refl

pub fetched_told : (code : NumberedBodies (List Op)) (ops : List Op) (c new : Cursor) (f : Fetched) → ops ≡ ops_of code c.body
    → found_in (drop c.pc ops) 0 c ≡ (new, unit_in ops f) → StandsIn c.body f → fetched code c ≡ (new, unit_of code f)
fetched_told code ops c new f own found inside =
    ap (λ xs. found_in (drop c.pc xs) 0 c) (sym own)
    ∙ (found ∙ ap (λ u. (new, u)) (ap (λ xs. unit_in xs f) own ∙ found_in_code code c.body f inside))
