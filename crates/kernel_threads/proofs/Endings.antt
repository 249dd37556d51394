-- The cleanup handlers of an ending thread.
use Rattle.std.proofs.Common.{◌≡◌, ◌<◌, ℕ, zero, suc, true, List, [], ◌∷◌, None, Some, arith, length, refl, subst}
use Rattle.std.specs.Prelude.{slice_get, slice_index, slice_index_or}
use Rattle.rules_machine.specs.Bodies.{Bodies}
use Rattle.rules_machine.specs.State.{Thread}
use Rattle.rules_machine.specs.Units.{begins_cleanup, begins_finish, choice, takes_unit}
use Rattle.kernel_threads.specs.Handlers.{AreHandlers}

-- a number that is there does not depend on what stands past the end
pub number_known : (ns : List ℕ) (t d : ℕ) → t < length ns → slice_index_or ns t d ≡ slice_index ns t
number_known [] t d lt = absurd (omega arith)
number_known (n ∷ ns) zero d lt = refl
number_known (n ∷ ns) (suc t) d lt = number_known ns t d (omega arith)

-- with no cleanup handler left a thread ends its main body
pub begun_none : {P : Type 0} (bodies : Bodies P) (us : List ℕ) (th : Thread P) → None ≡ slice_get us 0 → takes_unit bodies (choice 0 true us) th ≡ begins_finish th.frames th
begun_none bodies [] th e = refl
begun_none bodies (u ∷ us) th e = absurd cc

-- else the last one begins in a frame of its own
pub begun_some : {P : Type 0} (bodies : Bodies P) (us : List ℕ) (th : Thread P) (u : ℕ) → Some u ≡ slice_get us 0 → takes_unit bodies (choice 0 true us) th ≡ begins_cleanup bodies u th
begun_some bodies [] th u e = absurd cc
begun_some {P} bodies (v ∷ us) th u e = let same : v ≡ u = cc in subst (λ (x : ℕ). takes_unit bodies (choice 0 true (v ∷ us)) th ≡ begins_cleanup bodies x th) same refl

-- and it is one of those that are there
pub first_known : (n u : ℕ) (us : List ℕ) → Some u ≡ slice_get us 0 → AreHandlers n us → u < n
first_known n u [] e all = absurd cc
first_known n u (v ∷ us) e (lt, all) = let same : v ≡ u = cc in subst (λ (x : ℕ). x < n) same lt
