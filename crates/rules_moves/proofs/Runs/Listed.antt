-- After a settling every listed thread can run, and so the head can.
use Rattle.std.proofs.Common.{Bool, List, None, Option, Some, [], ap, arith, false, inl, inr, refl, suc, sym, true, zero, ℕ, ◌∷◌, ◌++◌, ◌≡◌, ◌⊎◌}
use Rattle.std.specs.Prelude.{filter, map, not, slice_get, slice_index_or, slice_set, ◌-◌, ◌==◌, ◌&&◌, if◌then◌else◌}
use Rattle.std.specs.Option.{option_or}
use mathlib.Core.Path.{subst, ◌∙◌}
use Rattle.rules_lists.specs.Threads.{stands_in}
use Rattle.rules_lists.specs.Lists.{highest, list_of, to_head, to_tail, without}
use Rattle.rules_machine.specs.State.{Machine}
use Rattle.rules_machine.specs.Threads.{can_run, thread_numbers}
use Rattle.rules_machine.specs.Priorities.{exec}
use Rattle.rules_machine.specs.Settling.{Shift, fell, left_runnable, moved_all, rose, settled, shift_between, shift_of, shifted, shifted_all, stayed}
use Rattle.rules_machine.specs.Dispatch.{head}
use Rattle.rules_moves.proofs.Waiters.Best.{Each}

pub each_kept : {X : Type 0} (Law : X → Type 0) (passes : X → Bool) (xs : List X) → Each Law xs → Each Law (filter passes xs)
each_kept Law passes [] each = tt
each_kept {X} Law passes (x ∷ xs) each = split (passes x) refl (each_kept Law passes xs each.1)
  where
    split : (b : Bool) → passes x ≡ b → Each Law (filter passes xs) → Each Law (filter passes (x ∷ xs))
    split true e rest = rw e (each.0, rest)
    split false e rest = rw e rest

each_set : {X : Type 0} (Law : X → Type 0) (xs : List X) (n : ℕ) (x : X) → Each Law xs → Law x → Each Law (slice_set xs n x)
each_set Law [] n x each h = tt
each_set Law (y ∷ ys) zero x each h = (h, each.1)
each_set Law (y ∷ ys) (suc n) x each h = (each.0, each_set Law ys n x each.1 h)

each_at : {X : Type 0} (Law : X → Type 0) (xs : List X) (n : ℕ) (d : X) → Each Law xs → Law d → Law (slice_index_or xs n d)
each_at Law [] n d each h = h
each_at Law (y ∷ ys) zero d each h = each.0
each_at Law (y ∷ ys) (suc n) d each h = each_at Law ys n d each.1 h

each_last : {X : Type 0} (Law : X → Type 0) (xs : List X) (x : X) → Each Law xs → Law x → Each Law (xs ++ x ∷ [])
each_last Law [] x each h = (h, tt)
each_last Law (y ∷ ys) x each h = (each.0, each_last Law ys x each.1 h)

-- the threads of all lists can run
abbrev pub AllRun : {P : Type 0} → Machine P → List (List ℕ) → Type 0
AllRun m lists = Each (Each (λ (t : ℕ). can_run m t ≡ true)) lists

module _ {P : Type 0} (m : Machine P) where
  abbrev Run : List ℕ → Type 0
  Run ts = Each (λ (t : ℕ). can_run m t ≡ true) ts

  filtered : (lists : List (List ℕ)) → AllRun m (map (filter (can_run m)) lists)
  filtered [] = tt
  filtered (ts ∷ lists) = (passing ts, filtered lists)
    where
      passing : (us : List ℕ) → Run (filter (can_run m) us)
      passing [] = tt
      passing (u ∷ us) = split (can_run m u) refl (passing us)
        where
          split : (b : Bool) → can_run m u ≡ b → Run (filter (can_run m) us) → Run (filter (can_run m) (u ∷ us))
          split true e rest = rw e (e, rest)
          split false e rest = rw e rest

  without_runs : (t : ℕ) (lists : List (List ℕ)) → AllRun m lists → AllRun m (without t lists)
  without_runs t [] all = tt
  without_runs t (ts ∷ lists) all = (each_kept (λ (t : ℕ). can_run m t ≡ true) (λ u. not (u == t)) ts all.0, without_runs t lists all.1)

  list_runs : (p : ℕ) (lists : List (List ℕ)) → AllRun m lists → Run (list_of p lists)
  list_runs p lists all = each_at Run lists (p - 1) [] all tt

  tail_runs : (t p : ℕ) (lists : List (List ℕ)) → can_run m t ≡ true → AllRun m lists → AllRun m (to_tail t p lists)
  tail_runs t p lists e all =
      let rest = without_runs t lists all in
      each_set Run (without t lists) (p - 1) (list_of p (without t lists) ++ t ∷ []) rest (each_last (λ (t : ℕ). can_run m t ≡ true) (list_of p (without t lists)) t (list_runs p (without t lists) rest) e)

  head_runs : (t p : ℕ) (lists : List (List ℕ)) → can_run m t ≡ true → AllRun m lists → AllRun m (to_head t p lists)
  head_runs t p lists e all =
      let rest = without_runs t lists all in each_set Run (without t lists) (p - 1) (t ∷ list_of p (without t lists)) rest (e, list_runs p (without t lists) rest)

  moved_runs : (ts : List ℕ) (lists : List (List ℕ)) → AllRun m lists → AllRun m (moved_all m ts lists)
  moved_runs [] lists all = all
  moved_runs (t ∷ ts) lists all = moved_runs ts (if can_run m t then to_tail t (exec m t) lists else lists) (split (can_run m t) refl)
    where
      split : (b : Bool) → can_run m t ≡ b → AllRun m (if b then to_tail t (exec m t) lists else lists)
      split true e = tail_runs t (exec m t) lists e all
      split false e = all

  shifted_runs : (how : Shift) (t : ℕ) (lists : List (List ℕ)) → (how ≡ stayed) ⊎ (can_run m t ≡ true) → AllRun m lists → AllRun m (shifted how t (exec m t) lists)
  shifted_runs stayed t lists e all = all
  shifted_runs rose t lists (inl e) all = absurd (grind arith)
  shifted_runs rose t lists (inr e) all = tail_runs t (exec m t) lists e all
  shifted_runs fell t lists (inl e) all = absurd (grind arith)
  shifted_runs fell t lists (inr e) all = head_runs t (exec m t) lists e all

  all_shifted_run : (shift : ℕ → Shift) → ((t : ℕ) → (shift t ≡ stayed) ⊎ (can_run m t ≡ true)) → (ts : List ℕ) (lists : List (List ℕ)) → AllRun m lists → AllRun m (shifted_all m shift ts lists)
  all_shifted_run shift h [] lists all = all
  all_shifted_run shift h (t ∷ ts) lists all = all_shifted_run shift h ts (shifted (shift t) t (exec m t) lists) (shifted_runs (shift t) t lists (h t) all)

  shift_runs : (before : Machine P) (direct : List ℕ) (t : ℕ) → (shift_of before direct m t ≡ stayed) ⊎ (can_run m t ≡ true)
  shift_runs before direct t = split (can_run before t) (can_run m t) refl
    where
      split : (a b : Bool) → can_run m t ≡ b → ((if a && b && not (stands_in t direct) then shift_between (exec before t) (exec m t) else stayed) ≡ stayed) ⊎ (can_run m t ≡ true)
      split a true e = inr e
      split true false e = inl refl
      split false false e = inl refl

  pub settled_run : (before : Machine P) (direct : List ℕ) → AllRun (settled before direct m) (settled before direct m).lists
  settled_run before direct =
      all_shifted_run (shift_of before direct m) (shift_runs before direct) (thread_numbers m) (moved_all m direct (left_runnable m)) (moved_runs direct (left_runnable m) (filtered m.lists))

  highest_runs : (lists : List (List ℕ)) (t : ℕ) → AllRun m lists → highest lists ≡ Some t → can_run m t ≡ true
  highest_runs [] t all e = absurd (grind arith)
  highest_runs (ts ∷ lists) t all e = of_higher (highest lists) refl (highest_runs lists t all.1)
    where
      of_first : (us : List ℕ) → Run us → slice_get us 0 ≡ Some t → can_run m t ≡ true
      of_first [] run e = absurd (grind arith)
      of_first (u ∷ us) run e = let it : u ≡ t = grind arith in subst (λ (v : ℕ). can_run m v ≡ true) it run.0

      of_higher : (o : Option ℕ) → highest lists ≡ o → (highest lists ≡ Some t → can_run m t ≡ true) → can_run m t ≡ true
      of_higher (Some u) h rest = rest (h ∙ (sym (ap (λ (o : Option ℕ). option_or o (slice_get ts 0)) h) ∙ e))
      of_higher None h rest = of_first ts all.0 (sym (ap (λ (o : Option ℕ). option_or o (slice_get ts 0)) h) ∙ e)

  pub head_can_run : (t : ℕ) → AllRun m m.lists → head m ≡ Some t → can_run m t ≡ true
  head_can_run t all e = highest_runs m.lists t all e
