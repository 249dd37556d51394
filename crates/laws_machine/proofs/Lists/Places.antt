-- Where the threads stand, before and after a settling.
use Rattle.std.proofs.Common.{◌≡◌, ◌<◌, ◌≤◌, ◌-◌, ◌∷◌, ℕ, List, [], suc, Bool, true, false, ap, arith, length, refl}
use Rattle.std.specs.Prelude.{filter, if◌then◌else◌, map, not, ◌==◌, ◌&&◌}
use mathlib.Core.Path.{subst, ◌∙◌}
use Rattle.rules_lists.specs.Threads.{stands_in, times}
use Rattle.rules_lists.specs.Lists.{list_of, to_tail}
use Rattle.rules_machine.specs.State.{Machine}
use Rattle.rules_machine.specs.Threads.{can_run, thread_numbers}
use Rattle.rules_machine.specs.Priorities.{exec}
use Rattle.rules_machine.specs.Settling.{Shift, fell, left_runnable, moved_all, rose, settled, shift_between, shift_of, shifted, shifted_all, stayed}
use Rattle.rules_machine.specs.GoodState.{ListsAreRight}
use Rattle.rules_machine.proofs.Standing.{head_length, head_other, map_length, one_if, stands, stands_kept, tail_length, tail_other}
use Rattle.rules_machine.proofs.SettledPlaces.{settled_places, stands_on_list}
use Rattle.rules_moves.proofs.Waiters.Best.{running_within}

-- each thread that can run stands on the list of its execution priority alone, and no other thread on any
pub record Stand {P : Type 0} (m : Machine P) : Type 0 where
  pub every : length m.lists ≡ 255
  pub runs : (t i : ℕ) → can_run m t ≡ true → stands t i m.lists ≡ one_if (exec m t - 1 == i)
  pub others : (t i : ℕ) → can_run m t ≡ false → stands t i m.lists ≡ 0

pub record HavePriorities {P : Type 0} (m : Machine P) : Type 0 where
  pub positive : (t : ℕ) → t < length m.threads → 1 ≤ exec m t
  pub small : (t : ℕ) → exec m t ≤ 255

-- each thread that came to run has a direct move
abbrev pub HaveCome : {P : Type 0} → Machine P → List ℕ → Machine P → Type 0
HaveCome before direct m = (t : ℕ) → can_run before t ≡ false → can_run m t ≡ true → stands_in t direct ≡ true

module _ {P : Type 0} (before m : Machine P) (direct : List ℕ) (within : (t : ℕ) → exec m t - 1 < 255) where
  length_after : (h : Shift) (t : ℕ) (lists : List (List ℕ)) → length (shifted h t (exec m t) lists) ≡ length lists
  length_after rose t lists = tail_length t (exec m t) lists
  length_after fell t lists = head_length t (exec m t) lists
  length_after stayed t lists = refl

  shifts_length : (shift : ℕ → Shift) (ts : List ℕ) (lists : List (List ℕ)) → length (shifted_all m shift ts lists) ≡ length lists
  shifts_length shift [] lists = refl
  shifts_length shift (t ∷ ts) lists = shifts_length shift ts (shifted (shift t) t (exec m t) lists) ∙ length_after (shift t) t lists

  other_after : (h : Shift) (u t i : ℕ) (lists : List (List ℕ)) → length lists ≡ 255 → (u == t) ≡ false → stands t i (shifted h u (exec m u) lists) ≡ stands t i lists
  other_after rose u t i lists e k = let fits : exec m u - 1 < length lists = rw e (within u) in tail_other u t i (exec m u) lists k fits
  other_after fell u t i lists e k = let fits : exec m u - 1 < length lists = rw e (within u) in head_other u t i (exec m u) lists k fits
  other_after stayed u t i lists e k = refl

  -- a thread that cannot run is not put anywhere
  stays_off : (u t i : ℕ) (lists : List (List ℕ)) → length lists ≡ 255 → can_run m t ≡ false → stands t i lists ≡ 0 → stands t i (shifted (shift_of before direct m u) u (exec m u) lists) ≡ 0
  stays_off u t i lists e off none = by_eq (u == t) refl
    where
      no_shift : (a b c : Bool) (p q : ℕ) → b ≡ false → (if a && b && not c then shift_between p q else stayed) ≡ stayed
      no_shift a b c p q h = grind arith

      by_eq : (b : Bool) → (u == t) ≡ b → stands t i (shifted (shift_of before direct m u) u (exec m u) lists) ≡ 0
      by_eq true same =
          let it : t ≡ u = grind arith in
          let still = no_shift (can_run before u) (can_run m u) (stands_in u direct) (exec before u) (exec m u) (subst (λ (v : ℕ). can_run m v ≡ false) it off) in
          ap (λ (h : Shift). stands t i (shifted h u (exec m u) lists)) still ∙ none
      by_eq false other = other_after (shift_of before direct m u) u t i lists e other ∙ none

  shifts_off : (us : List ℕ) (t i : ℕ) (lists : List (List ℕ)) → length lists ≡ 255 → can_run m t ≡ false → stands t i lists ≡ 0 → stands t i (shifted_all m (shift_of before direct m) us lists) ≡ 0
  shifts_off [] t i lists e off none = none
  shifts_off (u ∷ us) t i lists e off none =
      shifts_off us t i (shifted (shift_of before direct m u) u (exec m u) lists) (length_after (shift_of before direct m u) u lists ∙ e) off (stays_off u t i lists e off none)

  move_off : (b : Bool) (u t i : ℕ) (lists : List (List ℕ)) → can_run m u ≡ b → length lists ≡ 255 → can_run m t ≡ false → stands t i lists ≡ 0 → stands t i (if b then to_tail u (exec m u) lists else lists) ≡ 0
  move_off true u t i lists runs e off none = by_eq (u == t) refl
    where
      by_eq : (b : Bool) → (u == t) ≡ b → stands t i (to_tail u (exec m u) lists) ≡ 0
      by_eq true same = let it : t ≡ u = grind arith in absurd (contra (subst (λ (v : ℕ). can_run m v ≡ false) it off) runs)
        where
          contra : can_run m u ≡ false → can_run m u ≡ true → ⊥
          contra h k = grind arith
      by_eq false other = other_after rose u t i lists e other ∙ none
  move_off false u t i lists runs e off none = none

  moves_off : (us : List ℕ) (t i : ℕ) (lists : List (List ℕ)) → length lists ≡ 255 → can_run m t ≡ false → stands t i lists ≡ 0 → stands t i (moved_all m us lists) ≡ 0
  moves_off [] t i lists e off none = none
  moves_off (u ∷ us) t i lists e off none =
      moves_off us t i (if can_run m u then to_tail u (exec m u) lists else lists) (one (can_run m u) ∙ e) off (move_off (can_run m u) u t i lists refl e off none)
    where
      one : (b : Bool) → length (if b then to_tail u (exec m u) lists else lists) ≡ length lists
      one true = tail_length u (exec m u) lists
      one false = refl

moves_length : {P : Type 0} (m : Machine P) (ts : List ℕ) (lists : List (List ℕ)) → length (moved_all m ts lists) ≡ length lists
moves_length m [] lists = refl
moves_length m (u ∷ us) lists = moves_length m us (if can_run m u then to_tail u (exec m u) lists else lists) ∙ one (can_run m u)
  where
    one : (b : Bool) → length (if b then to_tail u (exec m u) lists else lists) ≡ length lists
    one true = tail_length u (exec m u) lists
    one false = refl

-- that the threads stand right is kept by an effect and its settling
pub stand_again : {P : Type 0} (before m : Machine P) (direct : List ℕ) → Stand before → m.lists ≡ before.lists → HavePriorities m → HaveCome before direct m → Stand (settled before direct m)
stand_again {P} before m direct was same fits come = record {
  every = shifts_length before m direct within (shift_of before direct m) (thread_numbers m) (moved_all m direct (left_runnable m)) ∙ moved_long;
  runs = λ t i runs. settled_places before m direct 255 within long t (running_within m.threads t runs) runs (λ ran j. ap (stands t j) same ∙ was.runs t j ran) (λ off. come t off runs) i;
  others = λ t i off. shifts_off before m direct within (thread_numbers m) t i (moved_all m direct (left_runnable m)) moved_long off
      (moves_off before m direct within direct t i (left_runnable m) left_long off (stands_kept (can_run m) t i m.lists ∙ ap (λ (b : Bool). if b then stands t i m.lists else 0) off));
}
  where
    within : (t : ℕ) → exec m t - 1 < 255
    within t = let s = fits.small t in omega (arith, s)

    long : length m.lists ≡ 255
    long = ap length same ∙ was.every

    left_long : length (left_runnable m) ≡ 255
    left_long = map_length (filter (can_run m)) m.lists ∙ ap length same ∙ was.every

    moved_long : length (moved_all m direct (left_runnable m)) ≡ 255
    moved_long = moves_length m direct (left_runnable m) ∙ map_length (filter (can_run m)) m.lists ∙ ap length same ∙ was.every

-- ---- what that says of the lists of priorities

pub lists_right : {P : Type 0} (m : Machine P) → HavePriorities m → Stand m → ListsAreRight m
lists_right m fits stand = record { each_priority = stand.every; in_range = λ t runs. record { positive = fits.positive t (running_within m.threads t runs); small = fits.small t }; placed = λ t p low high. by_case t p low (can_run m t) refl }
  where
    by_case : (t p : ℕ) → 1 ≤ p → (b : Bool) → can_run m t ≡ b → times t (list_of p m.lists) ≡ (if b && exec m t == p then 1 else 0)
    by_case t p low true runs = stands_on_list m t m.lists (fits.positive t (running_within m.threads t runs)) (λ i. stand.runs t i runs) p low
    by_case t p low false off = stand.others t (p - 1) off

-- ---- where nothing changed since, a settling changes nothing

passes_all : (p : ℕ → Bool) (us : List ℕ) → ((u : ℕ) → p u ≡ false → times u us ≡ 0) → filter p us ≡ us
passes_all p [] h = refl
passes_all p (u ∷ us) h = by_case (p u) refl (passes_all p us (λ v no. (let all = h v no in omega (arith, all))))
  where
    by_case : (b : Bool) → p u ≡ b → filter p us ≡ us → filter p (u ∷ us) ≡ u ∷ us
    by_case true e rest = rw (e, rest) refl
    by_case false e rest = let none = h u e in absurd (grind arith)

all_pass : (p : ℕ → Bool) (lists : List (List ℕ)) → ((u i : ℕ) → p u ≡ false → stands u i lists ≡ 0) → map (filter p) lists ≡ lists
all_pass p [] h = refl
all_pass p (us ∷ lists) h = rw (passes_all p us (λ u no. h u 0 no), all_pass p lists (λ u i no. h u (suc i) no)) refl

none_shifted : {P : Type 0} (m : Machine P) (shift : ℕ → Shift) → ((t : ℕ) → shift t ≡ stayed) → (ts : List ℕ) (lists : List (List ℕ)) → shifted_all m shift ts lists ≡ lists
none_shifted m shift h [] lists = refl
none_shifted m shift h (t ∷ ts) lists = rw (h t) (none_shifted m shift h ts lists)

no_shift : {P : Type 0} (before m : Machine P) → ((t : ℕ) → exec before t ≡ exec m t) → (t : ℕ) → shift_of before [] m t ≡ stayed
no_shift before m same t = by_case (can_run before t) (can_run m t) (exec before t) (exec m t) (same t)
  where
    by_case : (a b : Bool) (p q : ℕ) → p ≡ q → (if a && b && not (stands_in t []) then shift_between p q else stayed) ≡ stayed
    by_case true true p q e = grind arith
    by_case true false p q e = refl
    by_case false b p q e = refl

-- who may run and who has which priority stayed, and the lists stand for it: then the lists stay
pub settled_stays : {P : Type 0} (before m : Machine P) → ((t : ℕ) → exec before t ≡ exec m t) → ((t i : ℕ) → can_run m t ≡ false → stands t i m.lists ≡ 0) → settled before [] m ≡ m
settled_stays before m same off =
    ap (λ (lists : List (List ℕ)). record m { lists = lists })
    (none_shifted m (shift_of before [] m) (no_shift before m same) (thread_numbers m) (left_runnable m) ∙ all_pass (can_run m) m.lists (λ u i no. off u i no))
