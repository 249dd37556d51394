-- Every unit of a well formed script is in its ranges.
use Rattle.std.proofs.Common.{Bool, List, None, Option, Some, [], false, subst, suc, sym, true, zero, ℕ, ◌+◌, ◌∷◌}
use Rattle.std.specs.Prelude.{filter_map, if◌then◌else◌, map, slice_index_or}
use Rattle.words_numbers.specs.declared.res.Res.{Res}
use Rattle.words_script.specs.Block.{Adding, Block, Guarding, Looping, Making, Nothing, Running, Setting, Taking, Testing}
use Rattle.words_script.specs.declared.decl.Decl.{Decl}
use Rattle.words_script.specs.declared.decl.Decl.TheVariants as decl
use Rattle.words_script.specs.declared.decl.Kind.TheVariants as kind
use Rattle.words_script.specs.declared.decl.Script.{Script}
use Rattle.rules_bodies.specs.Next.{At, Due, Ended, In, Outcome, Place, capped, holds, or_finish, passes_of, rest_of, steps_from}
use Rattle.rules_bodies.proofs.Relative.{and_then, from_head, from_inside, from_place, in_guard, in_loop, in_test, later, later_by, place_same}
use Rattle.rules_machine.specs.declared.frame.BodyOf.{BodyOf}
use Rattle.rules_machine.specs.declared.frame.BodyOf.TheVariants as body_of
use Rattle.rules_machine.specs.Bodies.{Bodies, seen_by}
use Rattle.rules_machine.specs.State.{Frame, Thread}
use Rattle.rules_machine.specs.Declarations.{ThreadDecl, cleanup_kind, declared_thread, handler_kind, named, threads_of}
use Rattle.rules_machine.specs.Units.{Following, advances, advancing, begins_finish, cleaning_up, continuing, finishing, following, in_cleanup, in_unit, takes_unit}
use Rattle.rules_machine.specs.Machine.{body_tree, bodies_of}
use Rattle.rules_machine.specs.WellFormed.{BlockFits, DeclsFit, PolicyFits}
use Rattle.rules_moves.specs.UnitRanges.{BodiesFit, UnitFits}
use Rattle.rules_moves.proofs.Waiters.Best.{Each}

-- ---- the unit that a thread is in

module _ {P : Type 0} (bodies : Bodies P) (fits : BodiesFit bodies) where
  advances_fit : (fs : List (Frame P)) (th : Thread P) → UnitFits (advances bodies fs th).unit
  advances_fit [] th = tt
  advances_fit (f ∷ fs) th = fits f.body f.place (seen_by f)

  finish_fits : (fs : List (Frame P)) (th : Thread P) → UnitFits (begins_finish fs th).unit
  finish_fits [] th = tt
  finish_fits (f ∷ fs) th = tt

  pub in_unit_fits : (th : Thread P) → UnitFits (in_unit bodies th).unit
  in_unit_fits th = by_case (following th)
    where
      by_case : (x : Following) → UnitFits (takes_unit bodies x th).unit
      by_case (continuing left) = tt
      by_case advancing = advances_fit th.frames th
      by_case (cleaning_up u) = advances_fit (in_cleanup bodies u th).frames (in_cleanup bodies u th)
      by_case finishing = finish_fits th.frames th

-- ---- what a block comes to

abbrev OutcomeFits : Outcome → Type 0
OutcomeFits (Due u place r) = UnitFits u
OutcomeFits (Ended r) = Unit {0}

later_fits : (o : Outcome) → OutcomeFits o → OutcomeFits (later o)
later_fits (Due u (At i) r) h = h
later_fits (Due u (In i passes place) r) h = h
later_fits (Ended r) h = tt

later_by_fits : (i : ℕ) (o : Outcome) → OutcomeFits o → OutcomeFits (later_by i o)
later_by_fits zero o h = h
later_by_fits (suc i) o h = later_fits (later_by i o) (later_by_fits i o h)

then_fits : (o : Outcome) (after : ℕ → Outcome) → OutcomeFits o → ((r : ℕ) → OutcomeFits (after r)) → OutcomeFits (and_then o after)
then_fits (Due u place r) after h k = h
then_fits (Ended r) after h k = later_fits (after r) (k r)

test_fits : (o : Outcome) → OutcomeFits o → OutcomeFits (in_test o)
test_fits (Due u place r) h = h
test_fits (Ended r) h = tt

loop_fits : (times : Option ℕ) (passes : ℕ) (o : Outcome) → OutcomeFits o → OutcomeFits (in_loop times passes o)
loop_fits times passes (Due u place r) h = h
loop_fits None passes (Ended r) h = tt
loop_fits (Some n) zero (Ended r) h = tt
loop_fits (Some n) (suc zero) (Ended r) h = tt
loop_fits (Some n) (suc (suc passes)) (Ended r) h = tt

guard_fits : (run : Bool) (o : Outcome) → OutcomeFits o → OutcomeFits (in_guard run o)
guard_fits run (Due u place r) h = h
guard_fits run (Ended r) h = tt

if_fits : (b : Bool) (x y : Outcome) → OutcomeFits x → OutcomeFits y → OutcomeFits (if b then x else y)
if_fits true x y h k = h
if_fits false x y h k = k

module _ (result : Res) (value : ℕ) where
  head_fits : (block : Block) (r : ℕ) → BlockFits block → OutcomeFits (from_head result value block r)
  head_fits Nothing r h = tt
  head_fits (Running n rest) r h = tt
  head_fits (Making c rest) r h = h.0
  head_fits (Setting n rest) r h = later_fits (from_head result value rest (capped n)) (head_fits rest (capped n) h)
  head_fits (Adding n rest) r h = later_fits (from_head result value rest (capped (r + n))) (head_fits rest (capped (r + n)) h)
  head_fits (Taking rest) r h = later_fits (from_head result value rest (capped value)) (head_fits rest (capped value) h)
  head_fits (Testing named equal inner rest) r h =
      then_fits (if holds named equal result then in_test (from_head result value inner r) else Ended r) (from_head result value rest)
      (if_fits (holds named equal result) (in_test (from_head result value inner r)) (Ended r) (test_fits (from_head result value inner r) (head_fits inner r h.0)) tt) (λ r. head_fits rest r h.1)
  head_fits (Looping times inner rest) r h =
      then_fits (in_loop times (passes_of times) (from_head result value inner r)) (from_head result value rest)
      (loop_fits times (passes_of times) (from_head result value inner r) (head_fits inner r h.0)) (λ r. head_fits rest r h.1)
  head_fits (Guarding cleanup run inner rest) r h = tt

  inside_fits : (passes : ℕ) (inside : Block → Outcome) (block : Block) (r : ℕ) → ((b : Block) → BlockFits b → OutcomeFits (inside b)) → BlockFits block → OutcomeFits (from_inside result value passes inside block r)
  inside_fits passes inside (Testing named equal inner rest) r k h =
      then_fits (in_test (inside inner)) (from_head result value rest) (test_fits (inside inner) (k inner h.0)) (λ r. head_fits rest r h.1)
  inside_fits passes inside (Looping times inner rest) r k h =
      then_fits (in_loop times passes (inside inner)) (from_head result value rest) (loop_fits times passes (inside inner) (k inner h.0)) (λ r. head_fits rest r h.1)
  inside_fits passes inside (Guarding cleanup run inner rest) r k h = guard_fits run (inside inner) (k inner h.0)
  inside_fits passes inside Nothing r k h = tt
  inside_fits passes inside (Running n rest) r k h = head_fits (Running n rest) r h
  inside_fits passes inside (Making c rest) r k h = head_fits (Making c rest) r h
  inside_fits passes inside (Setting n rest) r k h = head_fits (Setting n rest) r h
  inside_fits passes inside (Adding n rest) r k h = head_fits (Adding n rest) r h
  inside_fits passes inside (Taking rest) r k h = head_fits (Taking rest) r h

  steps_fit : (i : ℕ) (block : Block) → BlockFits block → BlockFits (steps_from i block)
  steps_fit zero block h = h
  steps_fit (suc i) block h = steps_fit i (rest_of block) (rest_fits block h)
    where
      rest_fits : (block : Block) → BlockFits block → BlockFits (rest_of block)
      rest_fits Nothing h = tt
      rest_fits (Running n rest) h = h
      rest_fits (Making c rest) h = h.1
      rest_fits (Setting n rest) h = h
      rest_fits (Adding n rest) h = h
      rest_fits (Taking rest) h = h
      rest_fits (Testing named equal inner rest) h = h.1
      rest_fits (Looping times inner rest) h = h.1
      rest_fits (Guarding cleanup run inner rest) h = h.1

  place_fits : (place : Place) (block : Block) (r : ℕ) → BlockFits block → OutcomeFits (from_place result value place block r)
  place_fits (At i) block r h = later_by_fits i (from_head result value (steps_from i block) r) (head_fits (steps_from i block) r (steps_fit i block h))
  place_fits (In i passes place) block r h =
      later_by_fits i (from_inside result value passes (λ inner. from_place result value place inner r) (steps_from i block) r)
      (inside_fits passes (λ inner. from_place result value place inner r) (steps_from i block) r (λ inner k. place_fits place inner r k) (steps_fit i block h))

or_fits : (body : Block) (o : Outcome) → OutcomeFits o → UnitFits (or_finish body o).unit
or_fits body (Due u place r) h = h
or_fits body (Ended r) h = tt

-- ---- the bodies of a script

abbrev pub ThreadFits : ThreadDecl → Type 0
ThreadFits d = PolicyFits d.policy × BlockFits d.body

pub threads_fit : (ds : List Decl) → DeclsFit ds → Each ThreadFits (filter_map declared_thread ds)
threads_fit [] h = tt
threads_fit (decl.Action signal handler ∷ ds) h = threads_fit ds h.1
threads_fit (decl.Named name (kind.Thread policy start body) ∷ ds) h = (h.0, threads_fit ds h.1)
threads_fit (decl.Named name other ∷ ds) h = threads_fit ds h.1

thread_block : (ds : List ThreadDecl) (t : ℕ) → Each ThreadFits ds → BlockFits (slice_index_or (map (λ (d : ThreadDecl). d.body) ds) t Nothing)
thread_block [] t each = tt
thread_block (d ∷ ds) zero each = each.0.1
thread_block (d ∷ ds) (suc t) each = thread_block ds t each.1

handler_block : (ds : List Decl) (h : ℕ) → DeclsFit ds → BlockFits (slice_index_or (filter_map (named handler_kind) ds) h Nothing)
handler_block [] h k = tt
handler_block (decl.Action signal handler ∷ ds) h k = handler_block ds h k.1
handler_block (decl.Named name (kind.Handler body) ∷ ds) zero k = k.0
handler_block (decl.Named name (kind.Handler body) ∷ ds) (suc h) k = handler_block ds h k.1
handler_block (decl.Named name other ∷ ds) h k = handler_block ds h k.1

cleanup_block : (ds : List Decl) (u : ℕ) → DeclsFit ds → BlockFits (slice_index_or (filter_map (named cleanup_kind) ds) u Nothing)
cleanup_block [] u k = tt
cleanup_block (decl.Action signal handler ∷ ds) u k = cleanup_block ds u k.1
cleanup_block (decl.Named name (kind.Cleanup body) ∷ ds) zero k = k.0
cleanup_block (decl.Named name (kind.Cleanup body) ∷ ds) (suc u) k = cleanup_block ds u k.1
cleanup_block (decl.Named name other ∷ ds) u k = cleanup_block ds u k.1

module _ (script : Script) (known : DeclsFit script.decls) where
  block_fits : (body : BodyOf) → BlockFits (body_tree script body)
  block_fits (body_of.Thread t) = thread_block (threads_of script) t (threads_fit script.decls known)
  block_fits (body_of.Cleanup u) = cleanup_block script.decls u known
  block_fits (body_of.Handler h) = handler_block script.decls h known

  pub bodies_fit : BodiesFit (bodies_of script)
  bodies_fit body place seen =
      let block = body_tree script body in
      subst (λ (o : Outcome). UnitFits (or_finish block o).unit) (sym (place_same seen.result seen.value place block seen.register))
      (or_fits block (from_place seen.result seen.value place block seen.register) (place_fits seen.result seen.value place block seen.register (block_fits body)))
