-- A settling puts each runnable thread where its execution priority says, and takes all others off the lists.
use Rattle.std.proofs.Common.{Bool, List, [], ap, arith, false, length, refl, suc, sym, true, zero, ℕ, ◌+◌, ◌<◌, ◌≤◌, ◌∷◌, ◌≡◌}
use Rattle.std.specs.Prelude.{filter, not, ◌-◌, ◌==◌, ◌&&◌, if◌then◌else◌}
use Rattle.std.specs.List.{range_with_len}
use mathlib.Core.Path.{subst, ◌∙◌}
use Rattle.rules_lists.specs.Threads.{stands_in, times}
use Rattle.rules_lists.specs.Lists.{list_of, to_tail}
use Rattle.rules_machine.specs.State.{Machine}
use Rattle.rules_machine.specs.Threads.{can_run, thread_numbers}
use Rattle.rules_machine.specs.Priorities.{exec}
use Rattle.rules_machine.specs.Settling.{Shift, fell, left_runnable, moved_all, rose, settled, shift_between, shift_of, shifted, shifted_all, stayed}
use Rattle.rules_machine.proofs.Standing.{head_length, head_other, head_self, map_length, one_if, stands, stands_kept, tail_length, tail_other, tail_self}

-- by index: on the list of its execution priority once, and on no other
abbrev pub StandsRight : {P : Type 0} → Machine P → ℕ → List (List ℕ) → Type 0
StandsRight m t lists = (i : ℕ) → stands t i lists ≡ one_if (exec m t - 1 == i)

module _ {P : Type 0} (m : Machine P) (most : ℕ) (within : (t : ℕ) → exec m t - 1 < most) where
  -- ---- one shift

  shifted_length : (h : Shift) (t : ℕ) (lists : List (List ℕ)) → length (shifted h t (exec m t) lists) ≡ length lists
  shifted_length rose t lists = tail_length t (exec m t) lists
  shifted_length fell t lists = head_length t (exec m t) lists
  shifted_length stayed t lists = refl

  shifted_self : (h : Shift) (t : ℕ) (lists : List (List ℕ)) → length lists ≡ most → (h ≡ stayed → StandsRight m t lists) → StandsRight m t (shifted h t (exec m t) lists)
  shifted_self rose t lists e k i = let fits : exec m t - 1 < length lists = rw e (within t) in tail_self t i (exec m t) lists fits
  shifted_self fell t lists e k i = let fits : exec m t - 1 < length lists = rw e (within t) in head_self t i (exec m t) lists fits
  shifted_self stayed t lists e k i = k refl i

  shifted_other : (h : Shift) (u t i : ℕ) (lists : List (List ℕ)) → length lists ≡ most → (u == t) ≡ false → stands t i (shifted h u (exec m u) lists) ≡ stands t i lists
  shifted_other rose u t i lists e k = let fits : exec m u - 1 < length lists = rw e (within u) in tail_other u t i (exec m u) lists k fits
  shifted_other fell u t i lists e k = let fits : exec m u - 1 < length lists = rw e (within u) in head_other u t i (exec m u) lists k fits
  shifted_other stayed u t i lists e k = refl

  -- a shift leaves a thread right that stands right, and puts its own right
  shifted_keeps : (shift : ℕ → Shift) (u t : ℕ) (lists : List (List ℕ)) → length lists ≡ most → StandsRight m t lists → StandsRight m t (shifted (shift u) u (exec m u) lists)
  shifted_keeps shift u t lists e k = by_eq (u == t) refl
    where
      by_eq : (b : Bool) → (u == t) ≡ b → StandsRight m t (shifted (shift u) u (exec m u) lists)
      by_eq true same = let it : t ≡ u = grind arith in
          subst (λ (v : ℕ). StandsRight m v (shifted (shift u) u (exec m u) lists)) (sym it) (shifted_self (shift u) u lists e (λ h. subst (λ (v : ℕ). StandsRight m v lists) it k))
      by_eq false other = λ i. shifted_other (shift u) u t i lists e other ∙ k i

  -- ---- all shifts

  shifts_keep : (shift : ℕ → Shift) (ts : List ℕ) (t : ℕ) (lists : List (List ℕ)) → length lists ≡ most → StandsRight m t lists → StandsRight m t (shifted_all m shift ts lists)
  shifts_keep shift [] t lists e k = k
  shifts_keep shift (u ∷ us) t lists e k =
      shifts_keep shift us t (shifted (shift u) u (exec m u) lists) (shifted_length (shift u) u lists ∙ e) (shifted_keeps shift u t lists e k)

  shifts_place : (shift : ℕ → Shift) (ts : List ℕ) (t : ℕ) (lists : List (List ℕ)) → length lists ≡ most → stands_in t ts ≡ true → (shift t ≡ stayed → StandsRight m t lists) →
      StandsRight m t (shifted_all m shift ts lists)
  shifts_place shift [] t lists e among k = absurd (grind arith)
  shifts_place shift (u ∷ us) t lists e among k = by_eq (u == t) refl (shifts_place shift us t (shifted (shift u) u (exec m u) lists) (shifted_length (shift u) u lists ∙ e))
    where
      by_eq : (b : Bool) → (u == t) ≡ b → (stands_in t us ≡ true → (shift t ≡ stayed → StandsRight m t (shifted (shift u) u (exec m u) lists)) →
          StandsRight m t (shifted_all m shift us (shifted (shift u) u (exec m u) lists))) → StandsRight m t (shifted_all m shift us (shifted (shift u) u (exec m u) lists))
      by_eq true same rest = let it : u ≡ t = grind arith in
          shifts_keep shift us t (shifted (shift u) u (exec m u) lists) (shifted_length (shift u) u lists ∙ e)
          (subst (λ (v : ℕ). StandsRight m v (shifted (shift u) u (exec m u) lists)) it
          (shifted_self (shift u) u lists e (λ h. subst (λ (v : ℕ). shift v ≡ stayed → StandsRight m v lists) (sym it) k h)))
      by_eq false other rest = rest (among_rest other) (λ h i. shifted_other (shift u) u t i lists e other ∙ k h i)
        where
          among_rest : (u == t) ≡ false → stands_in t us ≡ true
          among_rest other = grind arith

  -- ---- the direct moves

  move_length : (b : Bool) (t : ℕ) (lists : List (List ℕ)) → length (if b then to_tail t (exec m t) lists else lists) ≡ length lists
  move_length true t lists = tail_length t (exec m t) lists
  move_length false t lists = refl

  move_other : (b : Bool) (u t i : ℕ) (lists : List (List ℕ)) → length lists ≡ most → (u == t) ≡ false → stands t i (if b then to_tail u (exec m u) lists else lists) ≡ stands t i lists
  move_other true u t i lists e k = shifted_other rose u t i lists e k
  move_other false u t i lists e k = refl

  moves_other : (ts : List ℕ) (t i : ℕ) (lists : List (List ℕ)) → length lists ≡ most → stands_in t ts ≡ false → stands t i (moved_all m ts lists) ≡ stands t i lists
  moves_other [] t i lists e k = refl
  moves_other (u ∷ us) t i lists e k =
      let first : (u == t) ≡ false = grind arith in
      let rest : stands_in t us ≡ false = grind arith in
      moves_other us t i (if can_run m u then to_tail u (exec m u) lists else lists) (move_length (can_run m u) u lists ∙ e) rest ∙ move_other (can_run m u) u t i lists e first

  moves_place : (ts : List ℕ) (t : ℕ) (lists : List (List ℕ)) → length lists ≡ most → can_run m t ≡ true → stands_in t ts ≡ true → StandsRight m t (moved_all m ts lists)
  moves_place [] t lists e run among = absurd (grind arith)
  moves_place (u ∷ us) t lists e run among = again (stands_in t us) refl (moves_place us t next (move_length (can_run m u) u lists ∙ e) run)
    where
      next : List (List ℕ)
      next = if can_run m u then to_tail u (exec m u) lists else lists

      again : (b : Bool) → stands_in t us ≡ b → (stands_in t us ≡ true → StandsRight m t (moved_all m us next)) → StandsRight m t (moved_all m us next)
      again true h rest = rest h
      again false h rest = λ i.
          let it : t ≡ u = grind arith in
          let runs : can_run m u ≡ true = subst (λ (v : ℕ). can_run m v ≡ true) it run in
          let placed : StandsRight m t (to_tail u (exec m u) lists) = subst (λ (v : ℕ). StandsRight m v (to_tail u (exec m u) lists)) (sym it) (shifted_self rose u lists e (λ h. absurd (grind arith))) in
          moves_other us t i next (move_length (can_run m u) u lists ∙ e) h ∙ ap (λ (b : Bool). stands t i (if b then to_tail u (exec m u) lists else lists)) runs ∙ placed i

-- ---- together

among_range : (t a n : ℕ) → a ≤ t → t < a + n → stands_in t (range_with_len a n) ≡ true
among_range t a zero low high = absurd (omega arith)
among_range t a (suc n) low high = by_eq (a == t) refl (λ next. among_range t (a + 1) n next (omega arith))
  where
    by_eq : (b : Bool) → (a == t) ≡ b → (a + 1 ≤ t → stands_in t (range_with_len (a + 1) n) ≡ true) → stands_in t (range_with_len a (suc n)) ≡ true
    by_eq true same rest = grind arith
    by_eq false other rest = let next : a + 1 ≤ t = grind arith in let found = rest next in grind arith

shift_same : (a b : ℕ) → shift_between a b ≡ stayed → a ≡ b
shift_same a b h = grind arith

shift_stays : (a b c : Bool) (p q : ℕ) → a ≡ true → b ≡ true → c ≡ false → (if a && b && not c then shift_between p q else stayed) ≡ stayed → p ≡ q
shift_stays a b c p q ha hb hc h = shift_same p q (grind arith)

moves_length : {P : Type 0} (m : Machine P) (ts : List ℕ) (lists : List (List ℕ)) → length (moved_all m ts lists) ≡ length lists
moves_length m [] lists = refl
moves_length m (u ∷ us) lists = moves_length m us (if can_run m u then to_tail u (exec m u) lists else lists) ∙ one (can_run m u)
  where
    one : (b : Bool) → length (if b then to_tail u (exec m u) lists else lists) ≡ length lists
    one true = tail_length u (exec m u) lists
    one false = refl

-- a thread that stood right, or has a direct move, stands right after the settling
pub settled_places : {P : Type 0} (before m : Machine P) (direct : List ℕ) (most : ℕ) → ((t : ℕ) → exec m t - 1 < most) → length m.lists ≡ most →
    (t : ℕ) → t < length m.threads → can_run m t ≡ true →
    (can_run before t ≡ true → StandsRight before t m.lists) → (can_run before t ≡ false → stands_in t direct ≡ true) → StandsRight m t (settled before direct m).lists
settled_places {P} before m direct most within e t here runs stood came =
    shifts_place m most within (shift_of before direct m) (thread_numbers m) t moved (moves_length m direct (left_runnable m) ∙ left_length) (among_range t 0 (length m.threads) (omega arith) (omega arith))
    (λ stays. by_direct (stands_in t direct) refl (can_run before t) refl stays)
  where
    moved : List (List ℕ)
    moved = moved_all m direct (left_runnable m)

    left_length : length (left_runnable m) ≡ most
    left_length = map_length (filter (can_run m)) m.lists ∙ e

    by_direct : (b : Bool) → stands_in t direct ≡ b → (r : Bool) → can_run before t ≡ r → shift_of before direct m t ≡ stayed → StandsRight m t moved
    by_direct true among r ran stays = moves_place m most within direct t (left_runnable m) left_length runs among
    by_direct false absent false ran stays = absurd (contra (came ran) absent)
      where
        contra : stands_in t direct ≡ true → stands_in t direct ≡ false → ⊥
        contra h k = grind arith
    by_direct false absent true ran stays = λ i.
        let same : exec before t ≡ exec m t = shift_stays (can_run before t) (can_run m t) (stands_in t direct) (exec before t) (exec m t) ran runs absent stays in
        moves_other m most within direct t i (left_runnable m) left_length absent
        ∙ stands_kept (can_run m) t i m.lists
        ∙ ap (λ (b : Bool). if b then stands t i m.lists else 0) runs
        ∙ stood ran i
        ∙ ap (λ (q : ℕ). one_if (q - 1 == i)) same

-- ---- by priority

index_same : (e p : ℕ) → 1 ≤ e → 1 ≤ p → (e - 1 == p - 1) ≡ (e == p)
index_same e p he hp = by_eq (e == p) refl
  where
    by_eq : (b : Bool) → (e == p) ≡ b → (e - 1 == p - 1) ≡ b
    by_eq true h = grind arith
    by_eq false h = grind arith

-- what StandsRight says of the lists of priorities
pub stands_on_list : {P : Type 0} (m : Machine P) (t : ℕ) (lists : List (List ℕ)) → 1 ≤ exec m t → StandsRight m t lists → (p : ℕ) → 1 ≤ p →
    times t (list_of p lists) ≡ (if exec m t == p then 1 else 0)
stands_on_list m t lists high right p some = right (p - 1) ∙ ap one_if (index_same (exec m t) p high some)
