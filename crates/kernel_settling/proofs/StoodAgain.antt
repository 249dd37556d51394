-- After a settling all threads stand right again, where each that came to run has a direct move.
use Rattle.std.proofs.Common.{◌≡◌, ◌<◌, ◌-◌, ℕ, List, [], ◌∷◌, Bool, true, false, ap, arith, length, refl, subst, ◌∙◌}
use Rattle.std.specs.Prelude.{filter, if◌then◌else◌, not, ◌==◌, ◌&&◌}
use Rattle.rules_lists.specs.Threads.{stands_in}
use Rattle.rules_lists.specs.Lists.{to_tail}
use Rattle.rules_machine.specs.State.{Machine}
use Rattle.rules_machine.specs.Threads.{can_run, thread_numbers}
use Rattle.rules_machine.specs.Priorities.{exec}
use Rattle.rules_machine.specs.Settling.{Shift, fell, left_runnable, moved_all, rose, settled, shift_between, shift_of, shifted, shifted_all, stayed}
use Rattle.rules_machine.proofs.Standing.{head_length, head_other, map_length, stands, stands_kept, tail_length, tail_other}
use Rattle.rules_machine.proofs.SettledPlaces.{settled_places}
use Rattle.kernel_settling.specs.Settled.{HavePriorities}
use Rattle.kernel_settling.specs.Stood.{StoodRight}
use Rattle.kernel_settling.proofs.SettledSame.{moves_length}
use Rattle.kernel_state.proofs.Waits.{runs_known}

-- each thread that came to run has a direct move
abbrev pub HaveCome : {P : Type 0} → Machine P → List ℕ → Machine P → Type 0
HaveCome before direct m = (t : ℕ) → can_run before t ≡ false → can_run m t ≡ true → stands_in t direct ≡ true

module _ {P : Type 0} (before m : Machine P) (direct : List ℕ) (within : (t : ℕ) → exec m t - 1 < 255) where
  length_after : (h : Shift) (t : ℕ) (lists : List (List ℕ)) → length (shifted h t (exec m t) lists) ≡ length lists
  length_after rose t lists = tail_length t (exec m t) lists
  length_after fell t lists = head_length t (exec m t) lists
  length_after stayed t lists = refl

  shifts_length : (shift : ℕ → Shift) (ts : List ℕ) (lists : List (List ℕ)) → length (shifted_all m shift ts lists) ≡ length lists
  shifts_length shift [] lists = refl
  shifts_length shift (t ∷ ts) lists = shifts_length shift ts (shifted (shift t) t (exec m t) lists) ∙ length_after (shift t) t lists

  other_after : (h : Shift) (u t i : ℕ) (lists : List (List ℕ)) → length lists ≡ 255 → (u == t) ≡ false → stands t i (shifted h u (exec m u) lists) ≡ stands t i lists
  other_after rose u t i lists e k = let fits : exec m u - 1 < length lists = rw e (within u) in tail_other u t i (exec m u) lists k fits
  other_after fell u t i lists e k = let fits : exec m u - 1 < length lists = rw e (within u) in head_other u t i (exec m u) lists k fits
  other_after stayed u t i lists e k = refl

  -- a thread that cannot run is not put anywhere
  stays_off : (u t i : ℕ) (lists : List (List ℕ)) → length lists ≡ 255 → can_run m t ≡ false → stands t i lists ≡ 0 → stands t i (shifted (shift_of before direct m u) u (exec m u) lists) ≡ 0
  stays_off u t i lists e off none = by_eq (u == t) refl
    where
      no_shift : (a b c : Bool) (p q : ℕ) → b ≡ false → (if a && b && not c then shift_between p q else stayed) ≡ stayed
      no_shift a b c p q h = grind arith

      by_eq : (b : Bool) → (u == t) ≡ b → stands t i (shifted (shift_of before direct m u) u (exec m u) lists) ≡ 0
      by_eq true same =
          let it : t ≡ u = grind arith in
          let still = no_shift (can_run before u) (can_run m u) (stands_in u direct) (exec before u) (exec m u) (subst (λ (v : ℕ). can_run m v ≡ false) it off) in
          ap (λ (h : Shift). stands t i (shifted h u (exec m u) lists)) still ∙ none
      by_eq false other = other_after (shift_of before direct m u) u t i lists e other ∙ none

  shifts_off : (us : List ℕ) (t i : ℕ) (lists : List (List ℕ)) → length lists ≡ 255 → can_run m t ≡ false → stands t i lists ≡ 0 → stands t i (shifted_all m (shift_of before direct m) us lists) ≡ 0
  shifts_off [] t i lists e off none = none
  shifts_off (u ∷ us) t i lists e off none =
      shifts_off us t i (shifted (shift_of before direct m u) u (exec m u) lists) (length_after (shift_of before direct m u) u lists ∙ e) off (stays_off u t i lists e off none)

  move_off : (b : Bool) (u t i : ℕ) (lists : List (List ℕ)) → can_run m u ≡ b → length lists ≡ 255 → can_run m t ≡ false → stands t i lists ≡ 0 → stands t i (if b then to_tail u (exec m u) lists else lists) ≡ 0
  move_off true u t i lists runs e off none = by_eq (u == t) refl
    where
      by_eq : (b : Bool) → (u == t) ≡ b → stands t i (to_tail u (exec m u) lists) ≡ 0
      by_eq true same = let it : t ≡ u = grind arith in absurd (contra (subst (λ (v : ℕ). can_run m v ≡ false) it off) runs)
        where
          contra : can_run m u ≡ false → can_run m u ≡ true → ⊥
          contra h k = grind arith
      by_eq false other = other_after rose u t i lists e other ∙ none
  move_off false u t i lists runs e off none = none

  moves_off : (us : List ℕ) (t i : ℕ) (lists : List (List ℕ)) → length lists ≡ 255 → can_run m t ≡ false → stands t i lists ≡ 0 → stands t i (moved_all m us lists) ≡ 0
  moves_off [] t i lists e off none = none
  moves_off (u ∷ us) t i lists e off none =
      moves_off us t i (if can_run m u then to_tail u (exec m u) lists else lists) (one (can_run m u) ∙ e) off (move_off (can_run m u) u t i lists refl e off none)
    where
      one : (b : Bool) → length (if b then to_tail u (exec m u) lists else lists) ≡ length lists
      one true = tail_length u (exec m u) lists
      one false = refl

-- StoodRight is kept by an effect and its settling
pub stood_again : {P : Type 0} (before m : Machine P) (direct : List ℕ) → StoodRight before → m.lists ≡ before.lists → HavePriorities m → HaveCome before direct m → StoodRight (settled before direct m)
stood_again {P} before m direct was same fits come = record {
  every = shifts_length before m direct within (shift_of before direct m) (thread_numbers m) (moved_all m direct (left_runnable m)) ∙ moved_long;
  within = within;
  positive = λ t runs. fits.positive t (runs_known m.threads t runs);
  runs = λ t i runs. settled_places before m direct 255 within long t (runs_known m.threads t runs) runs (λ ran j. ap (stands t j) same ∙ was.runs t j ran) (λ off. come t off runs) i;
  others = λ t i off. shifts_off before m direct within (thread_numbers m) t i (moved_all m direct (left_runnable m)) moved_long off
      (moves_off before m direct within direct t i (left_runnable m) left_long off (stands_kept (can_run m) t i m.lists ∙ ap (λ (b : Bool). if b then stands t i m.lists else 0) off));
}
  where
    within : (t : ℕ) → exec m t - 1 < 255
    within t = let s = fits.small t in omega (arith, s)

    long : length m.lists ≡ 255
    long = ap length same ∙ was.every

    left_long : length (left_runnable m) ≡ 255
    left_long = map_length (filter (can_run m)) m.lists ∙ ap length same ∙ was.every

    moved_long : length (moved_all m direct (left_runnable m)) ≡ 255
    moved_long = moves_length m 255 (λ t. (let s = fits.small t in omega (arith, s))) direct (left_runnable m) ∙ map_length (filter (can_run m)) m.lists ∙ ap length same ∙ was.every
