-- The bodies of a script go from guarded block to guarded block as they push and pop.
use Rattle.std.proofs.Common.{Bool, List, None, Option, Some, [], ap, arith, false, length, refl, suc, sym, true, zero, ℕ, ◌+◌, ◌≤◌, ◌∷◌, ◌++◌, ◌≡◌}
use Rattle.std.specs.Prelude.{filter_map, map, max, slice_index_or, if◌then◌else◌}
use mathlib.Core.Path.{subst}
use Rattle.words_numbers.specs.declared.res.Res.{Res}
use Rattle.words_script.specs.Block.{Adding, Block, Guarding, Looping, Making, Nothing, Running, Setting, Taking, Testing}
use Rattle.words_script.specs.declared.call.Call.{Call}
use Rattle.words_script.specs.declared.call.Call.TheVariants as call
use Rattle.words_script.specs.declared.decl.Decl.{Decl}
use Rattle.words_script.specs.declared.decl.Decl.TheVariants as decl
use Rattle.words_script.specs.declared.decl.Kind.TheVariants as kind
use Rattle.words_script.specs.declared.decl.Script.{Script}
use Rattle.rules_bodies.specs.declared.unit.Unit as units
use Rattle.rules_bodies.specs.declared.unit.Unit.TheVariants as unit
use Rattle.rules_bodies.specs.Next.{At, Due, Ended, In, Outcome, Place, capped, holds, or_finish, passes_of, rest_of, steps_from}
use Rattle.rules_bodies.proofs.Relative.{and_then, from_head, from_inside, from_place, in_guard, in_loop, in_test, later, later_by, place_same}
use Rattle.rules_machine.specs.declared.frame.BodyOf.{BodyOf}
use Rattle.rules_machine.specs.declared.frame.BodyOf.TheVariants as body_of
use Rattle.rules_machine.specs.Declarations.{ThreadDecl, cleanup_kind, declared_thread, handler_kind, named}
use Rattle.rules_machine.specs.Machine.{body_tree, bodies_of}
use Rattle.rules_machine.specs.Promises.{guards_at, guards_in, guards_round}
use Rattle.rules_machine.specs.WellFormed.{DeclsGuarded, StepsPlain, guard_depth, is_guarding}
use Rattle.laws_machine.specs.GuardedBodies.{BodiesGuarded, Guards, most_of}

-- from so many pushed, where a block comes to
abbrev Leads : List ℕ → Block → Outcome → Type 0
Leads before block (Due u place r) = Guards u before (guards_round place block)
Leads before block (Ended r) = before ≡ []

plain_call : (c : Call) (gs : List ℕ) → is_guarding c ≡ false → Guards (unit.Make c) gs gs
plain_call (call.Push u) gs e = absurd (grind arith)
plain_call (call.Pop runs) gs e = absurd (grind arith)
plain_call c gs e = refl

-- ---- steps later, and inside a block

later_leads : (gs : List ℕ) (block : Block) (o : Outcome) → Leads gs (rest_of block) o → Leads gs block (later o)
later_leads gs block (Due u (At i) r) h = h
later_leads gs block (Due u (In i passes place) r) h = h
later_leads gs block (Ended r) h = h

later_by_leads : (gs : List ℕ) (i : ℕ) (block : Block) (o : Outcome) → Leads gs (steps_from i block) o → Leads gs block (later_by i o)
later_by_leads gs zero block o h = h
later_by_leads gs (suc i) block o h = later_leads gs block (later_by i o) (later_by_leads gs i (rest_of block) o h)

then_leads : (gs : List ℕ) (block : Block) (o : Outcome) (after : ℕ → Outcome) → Leads gs block o → ((r : ℕ) → Leads [] (rest_of block) (after r)) → Leads gs block (and_then o after)
then_leads gs block (Due u place r) after h k = h
then_leads gs block (Ended r) after h k = later_leads gs block (after r) (subst (λ (xs : List ℕ). Leads xs (rest_of block) (after r)) (sym h) (k r))

test_leads : (gs : List ℕ) (named : Res) (equal : Bool) (inner rest : Block) (o : Outcome) → Leads gs inner o → Leads gs (Testing named equal inner rest) (in_test o)
test_leads gs named equal inner rest (Due u place r) h = h
test_leads gs named equal inner rest (Ended r) h = h

loop_leads : (gs : List ℕ) (times : Option ℕ) (passes : ℕ) (inner rest : Block) (o : Outcome) → Leads gs inner o → Leads gs (Looping times inner rest) (in_loop times passes o)
loop_leads gs times passes inner rest (Due u place r) h = h
loop_leads gs None passes inner rest (Ended r) h = sym h
loop_leads gs (Some n) zero inner rest (Ended r) h = h
loop_leads gs (Some n) (suc zero) inner rest (Ended r) h = h
loop_leads gs (Some n) (suc (suc passes)) inner rest (Ended r) h = sym h

-- behind one more that was pushed round it
behind : (u : units.Unit) (before after : List ℕ) (c : ℕ) → Guards u before after → (u ≡ unit.Finish → ⊥) → Guards u (before ++ c ∷ []) (after ++ c ∷ [])
behind (unit.Make (call.Push x)) before after c h no' = ap (λ (xs : List ℕ). xs ++ c ∷ []) h
behind (unit.Make (call.Pop runs)) before after c h no' = (h.0, ap (λ (xs : List ℕ). xs ++ c ∷ []) h.1)
behind unit.Finish before after c h no' = absurd (no' refl)
behind u before after c h no' = ap (λ (xs : List ℕ). xs ++ c ∷ []) h

-- a block never finishes a body
abbrev Goes : Outcome → Type 0
Goes (Due u place r) = u ≡ unit.Finish → ⊥
Goes (Ended r) = Unit {0}

guard_leads : (gs : List ℕ) (cleanup : ℕ) (run : Bool) (inner rest : Block) (o : Outcome) → Goes o → Leads gs inner o → Leads (gs ++ cleanup ∷ []) (Guarding cleanup run inner rest) (in_guard run o)
guard_leads gs cleanup run inner rest (Due u place r) go h = behind u gs (guards_round place inner) cleanup h go
guard_leads gs cleanup run inner rest (Ended r) go h = (cleanup, ap (λ (xs : List ℕ). xs ++ cleanup ∷ []) h)

if_leads : (gs : List ℕ) (block : Block) (b : Bool) (x y : Outcome) → Leads gs block x → Leads gs block y → Leads gs block (if b then x else y)
if_leads gs block true x y h k = h
if_leads gs block false x y h k = k

later_goes : (o : Outcome) → Goes o → Goes (later o)
later_goes (Due u (At i) r) h = h
later_goes (Due u (In i passes place) r) h = h
later_goes (Ended r) h = tt

later_by_goes : (i : ℕ) (o : Outcome) → Goes o → Goes (later_by i o)
later_by_goes zero o h = h
later_by_goes (suc i) o h = later_goes (later_by i o) (later_by_goes i o h)

then_goes : (o : Outcome) (after : ℕ → Outcome) → Goes o → ((r : ℕ) → Goes (after r)) → Goes (and_then o after)
then_goes (Due u place r) after h k = h
then_goes (Ended r) after h k = later_goes (after r) (k r)

test_goes : (o : Outcome) → Goes o → Goes (in_test o)
test_goes (Due u place r) h = h
test_goes (Ended r) h = tt

loop_goes : (times : Option ℕ) (passes : ℕ) (o : Outcome) → Goes o → Goes (in_loop times passes o)
loop_goes times passes (Due u place r) h = h
loop_goes None passes (Ended r) h = λ e. absurd (grind arith)
loop_goes (Some n) zero (Ended r) h = tt
loop_goes (Some n) (suc zero) (Ended r) h = tt
loop_goes (Some n) (suc (suc passes)) (Ended r) h = λ e. absurd (grind arith)

guard_goes : (run : Bool) (o : Outcome) → Goes o → Goes (in_guard run o)
guard_goes run (Due u place r) h = h
guard_goes run (Ended r) h = λ e. absurd (grind arith)

if_goes : (b : Bool) (x y : Outcome) → Goes x → Goes y → Goes (if b then x else y)
if_goes true x y h k = h
if_goes false x y h k = k

module _ (result : Res) (value : ℕ) where
  head_goes : (block : Block) (r : ℕ) → Goes (from_head result value block r)
  head_goes Nothing r = tt
  head_goes (Running n rest) r = λ e. absurd (grind arith)
  head_goes (Making c rest) r = λ e. absurd (grind arith)
  head_goes (Setting n rest) r = later_goes (from_head result value rest (capped n)) (head_goes rest (capped n))
  head_goes (Adding n rest) r = later_goes (from_head result value rest (capped (r + n))) (head_goes rest (capped (r + n)))
  head_goes (Taking rest) r = later_goes (from_head result value rest (capped value)) (head_goes rest (capped value))
  head_goes (Testing named equal inner rest) r =
      then_goes (if holds named equal result then in_test (from_head result value inner r) else Ended r) (from_head result value rest)
      (if_goes (holds named equal result) (in_test (from_head result value inner r)) (Ended r) (test_goes (from_head result value inner r) (head_goes inner r)) tt) (head_goes rest)
  head_goes (Looping times inner rest) r =
      then_goes (in_loop times (passes_of times) (from_head result value inner r)) (from_head result value rest) (loop_goes times (passes_of times) (from_head result value inner r) (head_goes inner r)) (head_goes rest)
  head_goes (Guarding cleanup run inner rest) r = λ e. absurd (grind arith)

  inside_goes : (passes : ℕ) (inside : Block → Outcome) (block : Block) (r : ℕ) → ((b : Block) → Goes (inside b)) → Goes (from_inside result value passes inside block r)
  inside_goes passes inside (Testing named equal inner rest) r k = then_goes (in_test (inside inner)) (from_head result value rest) (test_goes (inside inner) (k inner)) (head_goes rest)
  inside_goes passes inside (Looping times inner rest) r k = then_goes (in_loop times passes (inside inner)) (from_head result value rest) (loop_goes times passes (inside inner) (k inner)) (head_goes rest)
  inside_goes passes inside (Guarding cleanup run inner rest) r k = guard_goes run (inside inner) (k inner)
  inside_goes passes inside Nothing r k = tt
  inside_goes passes inside (Running n rest) r k = head_goes (Running n rest) r
  inside_goes passes inside (Making c rest) r k = head_goes (Making c rest) r
  inside_goes passes inside (Setting n rest) r k = head_goes (Setting n rest) r
  inside_goes passes inside (Adding n rest) r k = head_goes (Adding n rest) r
  inside_goes passes inside (Taking rest) r k = head_goes (Taking rest) r

  place_goes : (place : Place) (block : Block) (r : ℕ) → Goes (from_place result value place block r)
  place_goes (At i) block r = later_by_goes i (from_head result value (steps_from i block) r) (head_goes (steps_from i block) r)
  place_goes (In i passes place) block r =
      later_by_goes i (from_inside result value passes (λ inner. from_place result value place inner r) (steps_from i block) r)
      (inside_goes passes (λ inner. from_place result value place inner r) (steps_from i block) r (λ inner. place_goes place inner r))

  head_leads : (block : Block) (r : ℕ) → StepsPlain block → Leads [] block (from_head result value block r)
  head_leads Nothing r h = refl
  head_leads (Running n rest) r h = refl
  head_leads (Making c rest) r h = plain_call c [] h.0
  head_leads (Setting n rest) r h = later_leads [] (Setting n rest) (from_head result value rest (capped n)) (head_leads rest (capped n) h)
  head_leads (Adding n rest) r h = later_leads [] (Adding n rest) (from_head result value rest (capped (r + n))) (head_leads rest (capped (r + n)) h)
  head_leads (Taking rest) r h = later_leads [] (Taking rest) (from_head result value rest (capped value)) (head_leads rest (capped value) h)
  head_leads (Testing named equal inner rest) r h =
      then_leads [] (Testing named equal inner rest) (if holds named equal result then in_test (from_head result value inner r) else Ended r) (from_head result value rest)
      (if_leads [] (Testing named equal inner rest) (holds named equal result) (in_test (from_head result value inner r)) (Ended r) (test_leads [] named equal inner rest (from_head result value inner r) (head_leads inner r h.0)) refl)
      (λ r. head_leads rest r h.1)
  head_leads (Looping times inner rest) r h =
      then_leads [] (Looping times inner rest) (in_loop times (passes_of times) (from_head result value inner r)) (from_head result value rest)
      (loop_leads [] times (passes_of times) inner rest (from_head result value inner r) (head_leads inner r h.0)) (λ r. head_leads rest r h.1)
  head_leads (Guarding cleanup run inner rest) r h = refl

  inside_leads : (passes : ℕ) (inside : Block → Outcome) (round : Block → List ℕ) (block : Block) (r : ℕ) → ((b : Block) → Goes (inside b)) → ((b : Block) → StepsPlain b → Leads (round b) b (inside b)) → StepsPlain block →
      Leads (guards_at round block) block (from_inside result value passes inside block r)
  inside_leads passes inside round (Testing named equal inner rest) r go k h =
      then_leads (round inner) (Testing named equal inner rest) (in_test (inside inner)) (from_head result value rest) (test_leads (round inner) named equal inner rest (inside inner) (k inner h.0)) (λ r. head_leads rest r h.1)
  inside_leads passes inside round (Looping times inner rest) r go k h =
      then_leads (round inner) (Looping times inner rest) (in_loop times passes (inside inner)) (from_head result value rest) (loop_leads (round inner) times passes inner rest (inside inner) (k inner h.0)) (λ r. head_leads rest r h.1)
  inside_leads passes inside round (Guarding cleanup run inner rest) r go k h = guard_leads (round inner) cleanup run inner rest (inside inner) (go inner) (k inner h.0)
  inside_leads passes inside round Nothing r go k h = refl
  inside_leads passes inside round (Running n rest) r go k h = head_leads (Running n rest) r h
  inside_leads passes inside round (Making c rest) r go k h = head_leads (Making c rest) r h
  inside_leads passes inside round (Setting n rest) r go k h = head_leads (Setting n rest) r h
  inside_leads passes inside round (Adding n rest) r go k h = head_leads (Adding n rest) r h
  inside_leads passes inside round (Taking rest) r go k h = head_leads (Taking rest) r h

  rest_plain : (block : Block) → StepsPlain block → StepsPlain (rest_of block)
  rest_plain Nothing h = tt
  rest_plain (Running n rest) h = h
  rest_plain (Making c rest) h = h.1
  rest_plain (Setting n rest) h = h
  rest_plain (Adding n rest) h = h
  rest_plain (Taking rest) h = h
  rest_plain (Testing named equal inner rest) h = h.1
  rest_plain (Looping times inner rest) h = h.1
  rest_plain (Guarding cleanup run inner rest) h = h.1

  steps_plain : (i : ℕ) (block : Block) → StepsPlain block → StepsPlain (steps_from i block)
  steps_plain zero block h = h
  steps_plain (suc i) block h = steps_plain i (rest_of block) (rest_plain block h)

  place_leads : (place : Place) (block : Block) (r : ℕ) → StepsPlain block → Leads (guards_round place block) block (from_place result value place block r)
  place_leads (At i) block r h = later_by_leads [] i block (from_head result value (steps_from i block) r) (head_leads (steps_from i block) r (steps_plain i block h))
  place_leads (In i passes place) block r h =
      later_by_leads (guards_at (guards_round place) (steps_from i block)) i block (from_inside result value passes (λ inner. from_place result value place inner r) (steps_from i block) r)
      (inside_leads passes (λ inner. from_place result value place inner r) (guards_round place) (steps_from i block) r (λ inner. place_goes place inner r) (λ inner k. place_leads place inner r k) (steps_plain i block h))

finish_leads : (gs : List ℕ) (body : Block) (o : Outcome) → Leads gs body o → Guards (or_finish body o).unit gs (guards_round (or_finish body o).place body)
finish_leads gs body (Due u place r) h = h
finish_leads gs body (Ended r) h = (h, refl)

-- ---- how many

at_few : (inside : Block → List ℕ) (block : Block) → ((b : Block) → length (inside b) ≤ guard_depth b) → length (guards_at inside block) ≤ guard_depth block
at_few inside (Guarding cleanup run inner rest) h = let k = h inner in let l = last_length (inside inner) cleanup in let m = left_most (suc (guard_depth inner)) (guard_depth rest) in omega arith
  where
    last_length : (xs : List ℕ) (c : ℕ) → length (xs ++ c ∷ []) ≡ suc (length xs)
    last_length [] c = refl
    last_length (x ∷ xs) c = ap suc (last_length xs c)

    left_most : (a b : ℕ) → a ≤ max a b
    left_most a b = grind arith
at_few inside (Testing named equal inner rest) h = let k = h inner in let m : guard_depth inner ≤ max (guard_depth inner) (guard_depth rest) = grind arith in omega arith
at_few inside (Looping times inner rest) h = let k = h inner in let m : guard_depth inner ≤ max (guard_depth inner) (guard_depth rest) = grind arith in omega arith
at_few inside Nothing h = omega arith
at_few inside (Running n rest) h = omega arith
at_few inside (Making c rest) h = omega arith
at_few inside (Setting n rest) h = omega arith
at_few inside (Adding n rest) h = omega arith
at_few inside (Taking rest) h = omega arith

steps_depth : (i : ℕ) (block : Block) → guard_depth (steps_from i block) ≤ guard_depth block
steps_depth zero block = omega arith
steps_depth (suc i) block = let a = steps_depth i (rest_of block) in let b = rest_depth block in omega arith
  where
    rest_depth : (block : Block) → guard_depth (rest_of block) ≤ guard_depth block
    rest_depth Nothing = omega arith
    rest_depth (Running n rest) = omega arith
    rest_depth (Making c rest) = omega arith
    rest_depth (Setting n rest) = omega arith
    rest_depth (Adding n rest) = omega arith
    rest_depth (Taking rest) = omega arith
    rest_depth (Testing named equal inner rest) = right_most (guard_depth inner) (guard_depth rest)
      where
        right_most : (a b : ℕ) → b ≤ max a b
        right_most a b = grind arith
    rest_depth (Looping times inner rest) = right_most (guard_depth inner) (guard_depth rest)
      where
        right_most : (a b : ℕ) → b ≤ max a b
        right_most a b = grind arith
    rest_depth (Guarding cleanup run inner rest) = right_most (suc (guard_depth inner)) (guard_depth rest)
      where
        right_most : (a b : ℕ) → b ≤ max a b
        right_most a b = grind arith

round_few : (place : Place) (block : Block) → length (guards_round place block) ≤ guard_depth block
round_few (At i) block = omega arith
round_few (In i passes place) block = let a = at_few (guards_round place) (steps_from i block) (round_few place) in let b = steps_depth i block in omega arith

-- ---- of a script

abbrev IsGuarded : ℕ → Block → Type 0
IsGuarded most block = StepsPlain block × (guard_depth block ≤ most)

threads_guarded : (ds : List Decl) (t : ℕ) → DeclsGuarded ds → IsGuarded 8 (slice_index_or (map (λ (d : ThreadDecl). d.body) (filter_map declared_thread ds)) t Nothing)
threads_guarded [] t h = (tt, omega arith)
threads_guarded (decl.Action signal handler ∷ ds) t h = threads_guarded ds t h.1
threads_guarded (decl.Named name (kind.Thread policy start body) ∷ ds) zero h = h.0
threads_guarded (decl.Named name (kind.Thread policy start body) ∷ ds) (suc t) h = threads_guarded ds t h.1
threads_guarded (decl.Named name other ∷ ds) t h = threads_guarded ds t h.1

handlers_guarded : (ds : List Decl) (n : ℕ) → DeclsGuarded ds → IsGuarded 0 (slice_index_or (filter_map (named handler_kind) ds) n Nothing)
handlers_guarded [] n h = (tt, omega arith)
handlers_guarded (decl.Action signal handler ∷ ds) n h = handlers_guarded ds n h.1
handlers_guarded (decl.Named name (kind.Handler body) ∷ ds) zero h = h.0
handlers_guarded (decl.Named name (kind.Handler body) ∷ ds) (suc n) h = handlers_guarded ds n h.1
handlers_guarded (decl.Named name other ∷ ds) n h = handlers_guarded ds n h.1

cleanups_guarded : (ds : List Decl) (n : ℕ) → DeclsGuarded ds → IsGuarded 0 (slice_index_or (filter_map (named cleanup_kind) ds) n Nothing)
cleanups_guarded [] n h = (tt, omega arith)
cleanups_guarded (decl.Action signal handler ∷ ds) n h = cleanups_guarded ds n h.1
cleanups_guarded (decl.Named name (kind.Cleanup body) ∷ ds) zero h = h.0
cleanups_guarded (decl.Named name (kind.Cleanup body) ∷ ds) (suc n) h = cleanups_guarded ds n h.1
cleanups_guarded (decl.Named name other ∷ ds) n h = cleanups_guarded ds n h.1

module _ (script : Script) (known : DeclsGuarded script.decls) where
  block_guarded : (body : BodyOf) → IsGuarded (most_of body) (body_tree script body)
  block_guarded (body_of.Thread t) = threads_guarded script.decls t known
  block_guarded (body_of.Cleanup u) = cleanups_guarded script.decls u known
  block_guarded (body_of.Handler h) = handlers_guarded script.decls h known

  pub bodies_guarded : BodiesGuarded (bodies_of script) (guards_in script)
  bodies_guarded = record {
    start = λ body. refl;
    next = λ body place seen.
        let block = body_tree script body in
        subst (λ (o : Outcome). Guards (or_finish block o).unit (guards_round place block) (guards_round (or_finish block o).place block)) (sym (place_same seen.result seen.value place block seen.register))
        (finish_leads (guards_round place block) block (from_place seen.result seen.value place block seen.register) (place_leads seen.result seen.value place block seen.register (block_guarded body).0));
    few = λ body place. (let a = round_few place (body_tree script body) in let b = (block_guarded body).1 in omega arith);
  }
