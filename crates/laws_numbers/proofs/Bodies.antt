-- Every unit of a script in range is in range, with a small register.
use Rattle.std.proofs.Common.{Bool, List, None, Option, Some, [], false, subst, suc, sym, true, zero, ℕ, ◌+◌, ◌∷◌}
use Rattle.std.specs.Prelude.{filter_map, if◌then◌else◌, map, slice_index_or}
use Rattle.words_numbers.specs.declared.res.Res.{Res}
use Rattle.words_script.specs.Block.{Adding, Block, Guarding, Looping, Making, Nothing, Running, Setting, Taking, Testing}
use Rattle.words_script.specs.declared.call.Call.TheVariants as call
use Rattle.words_script.specs.declared.decl.Decl.{Decl}
use Rattle.words_script.specs.declared.decl.Decl.TheVariants as decl
use Rattle.words_script.specs.declared.decl.Kind.TheVariants as kind
use Rattle.words_script.specs.declared.decl.Script.{Script}
use Rattle.rules_bodies.specs.Next.{At, Due, Ended, In, Outcome, Place, capped, holds, or_finish, passes_of, rest_of, steps_from}
use Rattle.rules_bodies.proofs.Relative.{and_then, from_head, from_inside, from_place, in_guard, in_loop, in_test, later, later_by, place_same}
use Rattle.rules_machine.specs.declared.frame.BodyOf.{BodyOf}
use Rattle.rules_machine.specs.declared.frame.BodyOf.TheVariants as body_of
use Rattle.rules_machine.specs.Declarations.{ThreadDecl, cleanup_kind, declared_thread, handler_kind, named, threads_of}
use Rattle.rules_machine.specs.Machine.{body_tree, bodies_of}
use Rattle.rules_flat_code.specs.KnownCalls.{Objects, objects_of}
use Rattle.laws_numbers.specs.Numbers.{Each, IsRegister, PolicySmall}
use Rattle.laws_numbers.specs.Scripts.{BlockSmall, BodiesSmall, CallSmall, DeclSmall, IsInRange, StartSmall, UnitSmall}
use Rattle.laws_numbers.proofs.Turns.{capped_small}

module _ (o : Objects) where
  -- what a block comes to, with a small register
  abbrev OutcomeSmall : Outcome → Type 0
  OutcomeSmall (Due u place r) = UnitSmall o u × IsRegister r
  OutcomeSmall (Ended r) = IsRegister r

  later_small : (x : Outcome) → OutcomeSmall x → OutcomeSmall (later x)
  later_small (Due u (At i) r) h = h
  later_small (Due u (In i passes place) r) h = h
  later_small (Ended r) h = h

  later_by_small : (i : ℕ) (x : Outcome) → OutcomeSmall x → OutcomeSmall (later_by i x)
  later_by_small zero x h = h
  later_by_small (suc i) x h = later_small (later_by i x) (later_by_small i x h)

  then_small : (x : Outcome) (after : ℕ → Outcome) → OutcomeSmall x → ((r : ℕ) → IsRegister r → OutcomeSmall (after r)) → OutcomeSmall (and_then x after)
  then_small (Due u place r) after h k = h
  then_small (Ended r) after h k = later_small (after r) (k r h)

  test_small : (x : Outcome) → OutcomeSmall x → OutcomeSmall (in_test x)
  test_small (Due u place r) h = h
  test_small (Ended r) h = h

  loop_small : (times : Option ℕ) (passes : ℕ) (x : Outcome) → OutcomeSmall x → OutcomeSmall (in_loop times passes x)
  loop_small times passes (Due u place r) h = h
  loop_small None passes (Ended r) h = (tt, h)
  loop_small (Some n) zero (Ended r) h = h
  loop_small (Some n) (suc zero) (Ended r) h = h
  loop_small (Some n) (suc (suc passes)) (Ended r) h = (tt, h)

  guard_small : (run : Bool) (x : Outcome) → CallSmall o (call.Pop run) → OutcomeSmall x → OutcomeSmall (in_guard run x)
  guard_small run (Due u place r) k h = h
  guard_small run (Ended r) k h = (k, h)

  if_small : (b : Bool) (x y : Outcome) → OutcomeSmall x → OutcomeSmall y → OutcomeSmall (if b then x else y)
  if_small true x y h k = h
  if_small false x y h k = k

  module _ (result : Res) (value : ℕ) where
    head_small : (block : Block) (r : ℕ) → BlockSmall o block → IsRegister r → OutcomeSmall (from_head result value block r)
    head_small Nothing r h s = s
    head_small (Running n rest) r h s = (h.0, s)
    head_small (Making c rest) r h s = (h.0, s)
    head_small (Setting n rest) r h s = later_small (from_head result value rest (capped n)) (head_small rest (capped n) h (capped_small n))
    head_small (Adding n rest) r h s = later_small (from_head result value rest (capped (r + n))) (head_small rest (capped (r + n)) h (capped_small (r + n)))
    head_small (Taking rest) r h s = later_small (from_head result value rest (capped value)) (head_small rest (capped value) h (capped_small value))
    head_small (Testing named equal inner rest) r h s =
        then_small (if holds named equal result then in_test (from_head result value inner r) else Ended r) (from_head result value rest)
        (if_small (holds named equal result) (in_test (from_head result value inner r)) (Ended r) (test_small (from_head result value inner r) (head_small inner r h.0 s)) s) (λ r s. head_small rest r h.1 s)
    head_small (Looping times inner rest) r h s =
        then_small (in_loop times (passes_of times) (from_head result value inner r)) (from_head result value rest)
        (loop_small times (passes_of times) (from_head result value inner r) (head_small inner r h.0 s)) (λ r s. head_small rest r h.1 s)
    head_small (Guarding cleanup run inner rest) r h s = (h.0, s)

    inside_small : (passes : ℕ) (inside : Block → Outcome) (block : Block) (r : ℕ) → ((b : Block) → BlockSmall o b → OutcomeSmall (inside b)) → BlockSmall o block → IsRegister r → OutcomeSmall (from_inside result value passes inside block r)
    inside_small passes inside (Testing named equal inner rest) r k h s =
        then_small (in_test (inside inner)) (from_head result value rest) (test_small (inside inner) (k inner h.0)) (λ r s. head_small rest r h.1 s)
    inside_small passes inside (Looping times inner rest) r k h s =
        then_small (in_loop times passes (inside inner)) (from_head result value rest) (loop_small times passes (inside inner) (k inner h.0)) (λ r s. head_small rest r h.1 s)
    inside_small passes inside (Guarding cleanup run inner rest) r k h s = guard_small run (inside inner) h.1 (k inner h.2)
    inside_small passes inside Nothing r k h s = s
    inside_small passes inside (Running n rest) r k h s = head_small (Running n rest) r h s
    inside_small passes inside (Making c rest) r k h s = head_small (Making c rest) r h s
    inside_small passes inside (Setting n rest) r k h s = head_small (Setting n rest) r h s
    inside_small passes inside (Adding n rest) r k h s = head_small (Adding n rest) r h s
    inside_small passes inside (Taking rest) r k h s = head_small (Taking rest) r h s

    rest_small : (block : Block) → BlockSmall o block → BlockSmall o (rest_of block)
    rest_small Nothing h = tt
    rest_small (Running n rest) h = h.1
    rest_small (Making c rest) h = h.1
    rest_small (Setting n rest) h = h
    rest_small (Adding n rest) h = h
    rest_small (Taking rest) h = h
    rest_small (Testing named equal inner rest) h = h.1
    rest_small (Looping times inner rest) h = h.1
    rest_small (Guarding cleanup run inner rest) h = h.3

    steps_small : (i : ℕ) (block : Block) → BlockSmall o block → BlockSmall o (steps_from i block)
    steps_small zero block h = h
    steps_small (suc i) block h = steps_small i (rest_of block) (rest_small block h)

    place_small : (place : Place) (block : Block) (r : ℕ) → BlockSmall o block → IsRegister r → OutcomeSmall (from_place result value place block r)
    place_small (At i) block r h s = later_by_small i (from_head result value (steps_from i block) r) (head_small (steps_from i block) r (steps_small i block h) s)
    place_small (In i passes place) block r h s =
        later_by_small i (from_inside result value passes (λ inner. from_place result value place inner r) (steps_from i block) r)
        (inside_small passes (λ inner. from_place result value place inner r) (steps_from i block) r (λ inner k. place_small place inner r k s) (steps_small i block h) s)

  abbrev FoundSmall : Rattle.rules_bodies.specs.Next.Next → Type 0
  FoundSmall n = UnitSmall o n.unit × IsRegister n.register

  or_small : (body : Block) (x : Outcome) → OutcomeSmall x → FoundSmall (or_finish body x)
  or_small body (Due u place r) h = h
  or_small body (Ended r) h = (tt, h)

-- ---- the bodies of a script

module _ (o : Objects) where
  abbrev pub ThreadDeclSmall : ThreadDecl → Type 0
  ThreadDeclSmall d = PolicySmall d.policy × StartSmall d.start × BlockSmall o d.body

  pub threads_small : (ds : List Decl) → Each (DeclSmall o) ds → Each ThreadDeclSmall (filter_map declared_thread ds)
  threads_small [] h = tt
  threads_small (decl.Action signal handler ∷ ds) h = threads_small ds h.1
  threads_small (decl.Named name (kind.Thread policy start body) ∷ ds) h = (h.0, threads_small ds h.1)
  threads_small (decl.Named name other ∷ ds) h = threads_small ds h.1

  thread_block : (ds : List ThreadDecl) (t : ℕ) → Each ThreadDeclSmall ds → BlockSmall o (slice_index_or (map (λ (d : ThreadDecl). d.body) ds) t Nothing)
  thread_block [] t each = tt
  thread_block (d ∷ ds) zero each = each.0.2
  thread_block (d ∷ ds) (suc t) each = thread_block ds t each.1

  handler_block : (ds : List Decl) (h : ℕ) → Each (DeclSmall o) ds → BlockSmall o (slice_index_or (filter_map (named handler_kind) ds) h Nothing)
  handler_block [] h k = tt
  handler_block (decl.Action signal handler ∷ ds) h k = handler_block ds h k.1
  handler_block (decl.Named name (kind.Handler body) ∷ ds) zero k = k.0
  handler_block (decl.Named name (kind.Handler body) ∷ ds) (suc h) k = handler_block ds h k.1
  handler_block (decl.Named name other ∷ ds) h k = handler_block ds h k.1

  cleanup_block : (ds : List Decl) (u : ℕ) → Each (DeclSmall o) ds → BlockSmall o (slice_index_or (filter_map (named cleanup_kind) ds) u Nothing)
  cleanup_block [] u k = tt
  cleanup_block (decl.Action signal handler ∷ ds) u k = cleanup_block ds u k.1
  cleanup_block (decl.Named name (kind.Cleanup body) ∷ ds) zero k = k.0
  cleanup_block (decl.Named name (kind.Cleanup body) ∷ ds) (suc u) k = cleanup_block ds u k.1
  cleanup_block (decl.Named name other ∷ ds) u k = cleanup_block ds u k.1

module _ (script : Script) (known : IsInRange script) where
  block_small : (body : BodyOf) → BlockSmall (objects_of script) (body_tree script body)
  block_small (body_of.Thread t) = thread_block (objects_of script) (threads_of script) t (threads_small (objects_of script) script.decls known.decls)
  block_small (body_of.Cleanup u) = cleanup_block (objects_of script) script.decls u known.decls
  block_small (body_of.Handler h) = handler_block (objects_of script) script.decls h known.decls

  pub bodies_small : BodiesSmall (objects_of script) (bodies_of script)
  bodies_small body place seen s =
      let o = objects_of script in
      let block = body_tree script body in
      let found : FoundSmall o (or_finish block (Rattle.rules_bodies.specs.Next.from_place seen.result seen.value place block seen.register)) =
      subst (λ (x : Outcome). FoundSmall o (or_finish block x)) (sym (place_same seen.result seen.value place block seen.register))
      (or_small o block (from_place seen.result seen.value place block seen.register) (place_small o seen.result seen.value place block seen.register (block_small body) s)) in
      record { unit = found.0; register = found.1 }
