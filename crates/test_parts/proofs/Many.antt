-- The threads and timers of a list of declarations, the places of many threads, and sets of signals.
use Rattle.std.proofs.Common.{◌≡◌, ◌<◌, ◌≤◌, ◌++◌, ◌∙◌, ◌∷◌, [], ℕ, suc, List, None, Option, Some, arith, length, refl, replicate, zero}
use Rattle.std.proofs.lemmas.List.{get_or_default, length-replicate}
use Rattle.std.specs.Prelude.{Err, IfOk, Ok, Result, filter_map, slice_index_or}
use Rattle.std.proofs.lemmas.List.Elements.{filter_map-append}
use Rattle.words_script.specs.declared.decl.Decl.{Decl}
use Rattle.parts_waiters.specs.declared.Place.{Place}
use Rattle.parts_waiters.specs.Places.{place_in}
use Rattle.rules_machine.specs.Declarations.{declared_thread, named, timer_kind}

length-filter_map : {X Y : Type 0} (h : X → Option Y) (xs : List X) → length (filter_map h xs) ≤ length xs
length-filter_map h [] = omega arith
length-filter_map {X = X} {Y = Y} h (x ∷ xs) = by_first (h x) refl (length-filter_map h xs)
  where
    by_first : (o : Option Y) → h x ≡ o → length (filter_map h xs) ≤ length xs → length (filter_map h (x ∷ xs)) ≤ suc (length xs)
    by_first None e rest = rw e (omega (arith, rest))
    by_first (Some y) e rest = rw e (omega (arith, rest))

pub few_threads : (decls : List Decl) (n : ℕ) → length decls ≤ n → length (filter_map declared_thread decls) ≤ n
few_threads decls n few = let less = length-filter_map declared_thread decls in omega (arith, less, few)

-- one more that is no timer
pub no_timer_more : (decls new : List Decl) (d : Decl) → new ≡ decls ++ d ∷ [] → named timer_kind d ≡ None → filter_map (named timer_kind) decls ≡ [] → filter_map (named timer_kind) new ≡ []
no_timer_more decls new d is other none = rw (is, filter_map-append, none, other) refl

-- ---- none of many threads waits

nowhere : (n t : ℕ) → place_in (replicate n None) t ≡ None
nowhere zero t = refl
nowhere (suc n) zero = refl
nowhere (suc n) (suc t) = nowhere n t

-- places that are opened, where there was memory for them
pub all_nowhere : {E : Type 0} (r : Result (List (Option Place)) E) (n : ℕ) → IfOk r (λ w. w ≡ replicate n None) → IfOk r (λ w. (t : ℕ) → place_in w t ≡ None)
all_nowhere (Ok w) n is = λ t. rw is (nowhere n t)
all_nowhere (Err e) n is = tt

pub long_nowhere : (places : List (Option Place)) (n : ℕ) → places ≡ replicate n None → length places ≡ n
long_nowhere places n is = rw is (length-replicate n None)

-- ---- a set of a list

pub read_set : (sets : List ℕ) (i v : ℕ) → v ≡ slice_index_or sets i v → i < length sets → v ≡ slice_index_or sets i 0
read_set sets i v e known = e ∙ get_or_default sets i v 0 known
