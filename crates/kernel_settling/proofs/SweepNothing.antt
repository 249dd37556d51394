-- A sweep in which nobody takes a record is none.
use Rattle.std.specs.List.{range_with_len}
use Rattle.std.proofs.Common.{◌≡◌, ◌<◌, ◌+◌, ℕ, zero, suc, length, List, [], ◌∷◌, Bool, true, false, ap, arith, refl, sym, ◌∙◌}
use Rattle.std.specs.Prelude.{filter, if◌then◌else◌, map, not, None, Option, Some, ◌&&◌}
use Rattle.rules_lists.specs.Threads.{stands_in, times}
use Rattle.rules_machine.specs.Bodies.{Bodies}
use Rattle.rules_machine.specs.State.{Machine}
use Rattle.rules_machine.specs.Threads.{can_run, thread_numbers, thread_at}
use Rattle.rules_machine.specs.Priorities.{exec}
use Rattle.rules_machine.specs.Settling.{Shift, left_runnable, settled, shift_between, shift_of, shifted_all, stayed}
use Rattle.rules_machine.specs.Turns.{Turn, settles_since}
use Rattle.rules_machine.specs.Delivery.{may_be_interrupted, sweeps, sweeps_all, sweeps_thread, taken_by_sweep, takes_record}
use Rattle.rules_machine.proofs.Standing.{stands}
use Rattle.kernel_settling.specs.Stood.{StoodRight}

passes_all : (p : ℕ → Bool) (us : List ℕ) → ((u : ℕ) → p u ≡ false → times u us ≡ 0) → filter p us ≡ us
passes_all p [] h = refl
passes_all p (u ∷ us) h = by_case (p u) refl (passes_all p us (λ v no. (let all = h v no in omega (arith, all))))
  where
    by_case : (b : Bool) → p u ≡ b → filter p us ≡ us → filter p (u ∷ us) ≡ u ∷ us
    by_case true e rest = rw (e, rest) refl
    by_case false e rest = let none = h u e in absurd (grind arith)

pub all_pass : (p : ℕ → Bool) (lists : List (List ℕ)) → ((u i : ℕ) → p u ≡ false → stands u i lists ≡ 0) → map (filter p) lists ≡ lists
all_pass p [] h = refl
all_pass p (us ∷ lists) h = rw (passes_all p us (λ u no. h u 0 no), all_pass p lists (λ u i no. h u (suc i) no)) refl

module _ {P : Type 0} where
  same_shift : (m : Machine P) (t : ℕ) → shift_of m [] m t ≡ stayed
  same_shift m t = by_case (can_run m t)
    where
      by_case : (b : Bool) → (if b && b && not (stands_in t []) then shift_between (exec m t) (exec m t) else stayed) ≡ stayed
      by_case true = grind arith
      by_case false = refl

  none_shifted : (m : Machine P) (shift : ℕ → Shift) → ((t : ℕ) → shift t ≡ stayed) → (ts : List ℕ) (lists : List (List ℕ)) → shifted_all m shift ts lists ≡ lists
  none_shifted m shift h [] lists = refl
  none_shifted m shift h (t ∷ ts) lists = rw (h t) (none_shifted m shift h ts lists)

  pub settled_nothing : (m : Machine P) → StoodRight m → settled m [] m ≡ m
  settled_nothing m right =
      ap (λ (lists : List (List ℕ)). record m { lists = lists })
      (none_shifted m (shift_of m [] m) (same_shift m) (thread_numbers m) (left_runnable m) ∙ all_pass (can_run m) m.lists (λ u i no. right.others u i no))

pub nothing_taken : {P : Type 0} (m : Machine P) (t : ℕ) → m.pending ≡ [] → taken_by_sweep m t ≡ None
nothing_taken m t none = by_case (may_be_interrupted (thread_at m t)) refl
  where
    by_case : (b : Bool) → may_be_interrupted (thread_at m t) ≡ b → taken_by_sweep m t ≡ None
    by_case true e = rw (e, none) refl
    by_case false e = rw e refl

module _ {P : Type 0} (bodies : Bodies P) where
  visits_none : (s : Turn P) (t : ℕ) → taken_by_sweep s.machine t ≡ None → sweeps_thread bodies s.machine.killed t s ≡ s
  visits_none s t none = by_case s.machine.killed
    where
      by_case : (k : Option ℕ) → sweeps_thread bodies k t s ≡ s
      by_case None = ap (λ r. takes_record bodies r t s) none
      by_case (Some signal) = refl

  sweeps_none : (from many : ℕ) (s : Turn P) → ((t : ℕ) → t < from + many → taken_by_sweep s.machine t ≡ None) → sweeps_all bodies (range_with_len from many) s ≡ s
  sweeps_none from zero s none = refl
  sweeps_none from (suc many) s none =
      ap (sweeps_all bodies (range_with_len (from + 1) many)) (visits_none s from (none from (omega arith)))
      ∙ sweeps_none (from + 1) many s (λ t l. none t (omega (arith, l)))

  pub sweeps_nothing : (s : Turn P) → ((t : ℕ) → t < length s.machine.threads → taken_by_sweep s.machine t ≡ None) → s.direct ≡ [] → StoodRight s.machine → sweeps bodies s ≡ s
  sweeps_nothing s none quiet right =
      ap (settles_since s.machine) (sweeps_none 0 (length s.machine.threads) s (λ t l. none t (omega (arith, l))))
      ∙ ap (λ (ds : List ℕ). record s { machine = settled s.machine ds s.machine; direct = [] }) quiet
      ∙ ap (λ (m : Machine P). record s { machine = m; direct = [] }) (settled_nothing s.machine right)
      ∙ ap (λ (ds : List ℕ). record s { direct = ds }) (sym quiet)
