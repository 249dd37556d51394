-- A settling that reads the old priorities off the lists is the machine's, where each thread stood right before.
use Rattle.std.proofs.Common.{◌≡◌, ◌<◌, ◌≤◌, ◌+◌, ◌-◌, ℕ, zero, suc, List, [], ◌∷◌, Bool, true, false, ap, arith, length, refl, subst, sym, ◌∙◌}
use Rattle.std.specs.Prelude.{filter, if◌then◌else◌, not, None, Option, Some, ◌==◌, ◌&&◌}
use Rattle.std.specs.List.{range_with_len}
use Rattle.rules_lists.specs.Threads.{stands_in}
use Rattle.rules_lists.specs.Lists.{prio_of, to_tail}
use Rattle.rules_machine.specs.State.{Machine}
use Rattle.rules_machine.specs.Threads.{can_run, thread_numbers}
use Rattle.rules_machine.specs.Priorities.{exec}
use Rattle.rules_machine.specs.Settling.{Shift, fell, left_runnable, moved_all, rose, settled, shift_between, shift_of, shifted, shifted_all, stayed}
use Rattle.rules_machine.proofs.Standing.{head_length, head_other, map_length, one_if, stands, stands_kept, tail_length, tail_other, tail_self}
use Rattle.kernel_settling.specs.Stood.{StoodRight}
use Rattle.kernel_state.proofs.OnLists.{Where, reads}
use Rattle.kernel_settling.specs.Settled.{placed, placed_all, shifted_from}

-- ---- the shifts

no_shift : (p : ℕ) → shift_between p p ≡ stayed
no_shift p = grind arith

module _ {P : Type 0} (m : Machine P) (most : ℕ) (within : (t : ℕ) → exec m t - 1 < most) where
  shifted_length : (h : Shift) (t : ℕ) (lists : List (List ℕ)) → length (shifted h t (exec m t) lists) ≡ length lists
  shifted_length rose t lists = tail_length t (exec m t) lists
  shifted_length fell t lists = head_length t (exec m t) lists
  shifted_length stayed t lists = refl

  shifted_other : (h : Shift) (u t i : ℕ) (lists : List (List ℕ)) → length lists ≡ most → (u == t) ≡ false → stands t i (shifted h u (exec m u) lists) ≡ stands t i lists
  shifted_other rose u t i lists e k = let fits : exec m u - 1 < length lists = rw e (within u) in tail_other u t i (exec m u) lists k fits
  shifted_other fell u t i lists e k = let fits : exec m u - 1 < length lists = rw e (within u) in head_other u t i (exec m u) lists k fits
  shifted_other stayed u t i lists e k = refl

  where_stays : (o : Option ℕ) (h : Shift) (u t : ℕ) (lists : List (List ℕ)) → length lists ≡ most → (u == t) ≡ false → Where o t lists → Where o t (shifted h u (exec m u) lists)
  where_stays None h u t lists e k w = λ i. shifted_other h u t i lists e k ∙ w i
  where_stays (Some p) h u t lists e k w =
      (w.0, (let same = shifted_length h u lists in rw same w.1), λ i. shifted_other h u t i lists e k ∙ w.2 i)

  -- the machine's shift of a thread is the one that the list tells
  abbrev pub Agrees : (ℕ → Option ℕ) → (ℕ → Shift) → ℕ → Type 0
  Agrees stood shift t = (lists : List (List ℕ)) → (can_run m t ≡ true → Where (stood t) t lists) → shifted (shift t) t (exec m t) lists ≡ placed m t lists

  pub shifts_are : (stood : ℕ → Option ℕ) (shift : ℕ → Shift) → ((t : ℕ) → Agrees stood shift t) → (a n : ℕ) (lists : List (List ℕ)) → length lists ≡ most →
      ((t : ℕ) → a ≤ t → can_run m t ≡ true → Where (stood t) t lists) → shifted_all m shift (range_with_len a n) lists ≡ placed_all m (range_with_len a n) lists
  shifts_are stood shift agrees a zero lists e w = refl
  shifts_are stood shift agrees a (suc n) lists e w =
      shifts_are stood shift agrees (a + 1) n (shifted (shift a) a (exec m a) lists) (shifted_length (shift a) a lists ∙ e)
      (λ t low runs. (let other : (a == t) ≡ false = grind arith in where_stays (stood t) (shift a) a t lists e other (w t (omega arith) runs)))
      ∙ ap (placed_all m (range_with_len (a + 1) n)) (agrees a lists (w a (omega arith)))

  -- ---- the direct moves

  move_length : (b : Bool) (t : ℕ) (lists : List (List ℕ)) → length (if b then to_tail t (exec m t) lists else lists) ≡ length lists
  move_length true t lists = tail_length t (exec m t) lists
  move_length false t lists = refl

  move_other : (b : Bool) (u t i : ℕ) (lists : List (List ℕ)) → length lists ≡ most → (u == t) ≡ false → stands t i (if b then to_tail u (exec m u) lists else lists) ≡ stands t i lists
  move_other true u t i lists e k = shifted_other rose u t i lists e k
  move_other false u t i lists e k = refl

  pub moves_length : (ts : List ℕ) (lists : List (List ℕ)) → length (moved_all m ts lists) ≡ length lists
  moves_length [] lists = refl
  moves_length (u ∷ us) lists = moves_length us (if can_run m u then to_tail u (exec m u) lists else lists) ∙ move_length (can_run m u) u lists

  pub moves_other : (ts : List ℕ) (t i : ℕ) (lists : List (List ℕ)) → length lists ≡ most → stands_in t ts ≡ false → stands t i (moved_all m ts lists) ≡ stands t i lists
  moves_other [] t i lists e k = refl
  moves_other (u ∷ us) t i lists e k =
      let first : (u == t) ≡ false = grind arith in
      let rest : stands_in t us ≡ false = grind arith in
      moves_other us t i (if can_run m u then to_tail u (exec m u) lists else lists) (move_length (can_run m u) u lists ∙ e) rest ∙ move_other (can_run m u) u t i lists e first

  pub moves_place : (ts : List ℕ) (t i : ℕ) (lists : List (List ℕ)) → length lists ≡ most → can_run m t ≡ true → stands_in t ts ≡ true → stands t i (moved_all m ts lists) ≡ one_if (exec m t - 1 == i)
  moves_place [] t i lists e run among = absurd (grind arith)
  moves_place (u ∷ us) t i lists e run among = again (stands_in t us) refl (moves_place us t i (if can_run m u then to_tail u (exec m u) lists else lists) (move_length (can_run m u) u lists ∙ e) run)
    where
      again : (b : Bool) → stands_in t us ≡ b → (stands_in t us ≡ true → stands t i (moved_all m us (if can_run m u then to_tail u (exec m u) lists else lists)) ≡ one_if (exec m t - 1 == i)) → stands t i (moved_all m us (if can_run m u then to_tail u (exec m u) lists else lists)) ≡ one_if (exec m t - 1 == i)
      again true h rest = rest h
      again false h rest =
          let it : t ≡ u = grind arith in
          let runs : can_run m u ≡ true = subst (λ (v : ℕ). can_run m v ≡ true) it run in
          let fits : exec m u - 1 < length lists = rw e (within u) in
          let there : stands u i (to_tail u (exec m u) lists) ≡ one_if (exec m u - 1 == i) = tail_self u i (exec m u) lists fits in
          moves_other us t i (if can_run m u then to_tail u (exec m u) lists else lists) (move_length (can_run m u) u lists ∙ e) h
          ∙ ap (λ (b : Bool). stands t i (if b then to_tail u (exec m u) lists else lists)) runs
          ∙ subst (λ (v : ℕ). stands v i (to_tail u (exec m u) lists) ≡ one_if (exec m v - 1 == i)) (sym it) there

-- ---- together

-- where a thread stood, after the direct moves
abbrev pub stood_at : {P : Type 0} → Machine P → List ℕ → Machine P → ℕ → Option ℕ
stood_at before direct m t = if stands_in t direct then Some (exec m t) else (if can_run before t then Some (exec before t) else None)

module _ {P : Type 0} (before m : Machine P) (direct : List ℕ) (was : StoodRight before) (same : m.lists ≡ before.lists)
    (within : (t : ℕ) → exec m t - 1 < 255) (positive : (t : ℕ) → can_run m t ≡ true → 1 ≤ exec m t) where
  long : length (left_runnable m) ≡ 255
  long = map_length (filter (can_run m)) m.lists ∙ ap length same ∙ was.every

  moved_long : length (moved_all m direct (left_runnable m)) ≡ 255
  moved_long = moves_length m 255 within direct (left_runnable m) ∙ long

  left_at : (t i : ℕ) → can_run m t ≡ true → stands t i (left_runnable m) ≡ stands t i before.lists
  left_at t i runs = stands_kept (can_run m) t i m.lists ∙ ap (λ (b : Bool). if b then stands t i m.lists else 0) runs ∙ ap (stands t i) same

  stood : (t : ℕ) → can_run m t ≡ true → (b : Bool) → stands_in t direct ≡ b → (r : Bool) → can_run before t ≡ r →
      Where (if b then Some (exec m t) else (if r then Some (exec before t) else None)) t (moved_all m direct (left_runnable m))
  stood t runs true among r ran = (positive t runs, (let fits = within t in rw moved_long fits), λ i. moves_place m 255 within direct t i (left_runnable m) long runs among)
  stood t runs false absent true ran = (
    was.positive t ran,
    (let fits = was.within t in rw moved_long fits),
    λ i. moves_other m 255 within direct t i (left_runnable m) long absent ∙ left_at t i runs ∙ was.runs t i ran,
  )
  stood t runs false absent false ran = λ i. moves_other m 255 within direct t i (left_runnable m) long absent ∙ left_at t i runs ∙ was.others t i ran

  agrees_by : (t : ℕ) (lists : List (List ℕ)) (c : Bool) → can_run m t ≡ c → (b : Bool) → stands_in t direct ≡ b → (r : Bool) → can_run before t ≡ r →
      (c ≡ true → Where (if b then Some (exec m t) else (if r then Some (exec before t) else None)) t lists) →
      shifted (if r && c && not b then shift_between (exec before t) (exec m t) else stayed) t (exec m t) lists
      ≡ (if c then shifted_from (prio_of t lists) t (exec m t) lists else lists)
  agrees_by t lists false runs b among true ran w = refl
  agrees_by t lists false runs b among false ran w = refl
  agrees_by t lists true runs true among true ran w = rw (reads (Some (exec m t)) t lists (w refl), no_shift (exec m t)) refl
  agrees_by t lists true runs true among false ran w = rw (reads (Some (exec m t)) t lists (w refl), no_shift (exec m t)) refl
  agrees_by t lists true runs false among true ran w = rw (reads (Some (exec before t)) t lists (w refl)) refl
  agrees_by t lists true runs false among false ran w = rw (reads None t lists (w refl)) refl

  agrees : (t : ℕ) → Agrees m 255 within (stood_at before direct m) (shift_of before direct m) t
  agrees t lists w = agrees_by t lists (can_run m t) refl (stands_in t direct) refl (can_run before t) refl w

  -- the lists of the machine's settling
  pub settled_lists : (settled before direct m).lists ≡ placed_all m (thread_numbers m) (moved_all m direct (left_runnable m))
  settled_lists =
      shifts_are m 255 within (stood_at before direct m) (shift_of before direct m) agrees 0 (length m.threads) (moved_all m direct (left_runnable m)) moved_long
      (λ t low runs. stood t runs (stands_in t direct) refl (can_run before t) refl)
