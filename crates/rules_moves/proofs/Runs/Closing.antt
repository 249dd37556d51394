-- Where only one thread can have an open run, closing the runs of all but the head is a look at that thread alone.
use Rattle.std.proofs.Common.{Bool, List, None, Option, Some, [], ap, arith, false, inl, inr, length, refl, sym, true, ℕ, ◌∷◌, ◌≡◌}
use Rattle.std.specs.Prelude.{nat_lt, not, ◌==◌, ◌&&◌, ◌||◌}
use mathlib.Core.Path.{subst, ◌∙◌}
use Rattle.rules_machine.specs.declared.dispatch.LastDispatch.{LastDispatch}
use Rattle.rules_machine.specs.declared.dispatch.LastDispatch.TheVariants as last
use Rattle.rules_machine.specs.Lists.{is}
use Rattle.rules_machine.specs.State.{Machine, Thread}
use Rattle.rules_machine.specs.Threads.{thread_at, thread_numbers}
use Rattle.rules_machine.specs.Turns.{Turn}
use Rattle.rules_machine.specs.Servers.{closes, closes_of, has_run, plans_if}
use Rattle.rules_moves.proofs.Runs.Preparing.{Closed, beyond, if_none, in_range, member, planned_none, run_at}

module _ {P : Type 0} where
  abbrev pub closes_one : Option ℕ → ℕ → Turn P → Turn P
  closes_one to u s = plans_if (not (is to u) && run_at s u) u s

  -- no run is closed where all that should be are
  unless_head : (to : Option ℕ) (t : ℕ) (s : Turn P) → (is to t ≡ false → run_at s t ≡ false) → closes_one to t s ≡ s
  unless_head to t s off = by_head (is to t) refl
    where
      by_head : (b : Bool) → is to t ≡ b → closes_one to t s ≡ s
      by_head true e = ap (λ (c : Bool). plans_if (not c && run_at s t) t s) e
      by_head false e = ap (λ (c : Bool). plans_if (not c && run_at s t) t s) e ∙ ap (λ (c : Bool). plans_if c t s) (off e)

  nothing_closes : (to : Option ℕ) (ts : List ℕ) (s : Turn P) → Closed to s.machine → closes_of to ts s ≡ s
  nothing_closes to [] s off = refl
  nothing_closes to (t ∷ ts) s off = ap (closes_of to ts) (unless_head to t s (off t)) ∙ nothing_closes to ts s off

  -- all that should be are closed behind that one
  one_closed : (to : Option ℕ) (u : ℕ) (s : Turn P) → ((v : ℕ) → (u == v) ≡ false → run_at s v ≡ false) → Closed to (closes_one to u s).machine
  one_closed to u s only v other = by_same (u == v) refl
    where
      b : Bool
      b = not (is to u) && run_at s u

      here : (c : Bool) → run_at s u ≡ c → is to u ≡ false → run_at (closes_one to u s) u ≡ false
      here true e off = rw (off, e) (planned_none u (thread_at s.machine u).server s refl e)
      here false e off = if_none (not (is to u) && run_at s u) u u s e

      by_same : (c : Bool) → (u == v) ≡ c → run_at (closes_one to u s) v ≡ false
      by_same true e =
          let it : u ≡ v = grind arith in
          subst (λ (w : ℕ). run_at (closes_one to u s) w ≡ false) it (here (run_at s u) refl (subst (λ (w : ℕ). is to w ≡ false) (sym it) other))
      by_same false e = if_none (not (is to u) && run_at s u) u v s (only v e)

  only_closes : (to : Option ℕ) (u : ℕ) (ts : List ℕ) (s : Turn P) → ((v : ℕ) → (u == v) ≡ false → run_at s v ≡ false) → member u ts ≡ true → closes_of to ts s ≡ closes_one to u s
  only_closes to u [] s only found = absurd (grind arith)
  only_closes to u (t ∷ ts) s only found = by_same (t == u) refl (λ later. only_closes to u ts s only later)
    where
      by_same : (c : Bool) → (t == u) ≡ c → (member u ts ≡ true → closes_of to ts s ≡ closes_one to u s) → closes_of to ts (closes_one to t s) ≡ closes_one to u s
      by_same true e rest =
          let it : u ≡ t = grind arith in
          subst (λ (w : ℕ). closes_of to ts (closes_one to w s) ≡ closes_one to u s) it (nothing_closes to ts (closes_one to u s) (one_closed to u s only))
      by_same false e rest =
          let flipped : (u == t) ≡ false = grind arith in
          let later : member u ts ≡ true = grind arith in
          ap (closes_of to ts) (unless_head to t s (λ off. only t flipped)) ∙ rest later

  -- the same, of the thread of the last tick
  abbrev pub closes_last : Option ℕ → LastDispatch → Turn P → Turn P
  closes_last to last.NoTick s = s
  closes_last to last.Idle s = s
  closes_last to (last.Ran u) s = closes_one to u s

  pub closes_latest : (to : Option ℕ) (s : Turn P) → ((u : ℕ) → run_at s u ≡ true → s.machine.last ≡ last.Ran u) → closes to s ≡ closes_last to s.machine.last s
  closes_latest to s latest = by_last s.machine.last refl
    where
      none_at : (u : ℕ) → ((s.machine.last ≡ last.Ran u) → ⊥) → run_at s u ≡ false
      none_at u h = by_run (run_at s u) refl
        where
          by_run : (b : Bool) → run_at s u ≡ b → run_at s u ≡ false
          by_run true e = absurd (h (latest u e))
          by_run false e = e

      ran_same : (u v : ℕ) → last.Ran u ≡ last.Ran v → u ≡ v
      ran_same u v e = ap number e
        where
          number : LastDispatch → ℕ
          number last.NoTick = u
          number last.Idle = u
          number (last.Ran w) = w

      by_last : (l : LastDispatch) → s.machine.last ≡ l → closes to s ≡ closes_last to l s
      by_last last.NoTick e = nothing_closes to (thread_numbers s.machine) s (λ u off. none_at u (λ k. absurd (no_tick u (sym e ∙ k))))
        where
          no_tick : (u : ℕ) → last.NoTick ≡ last.Ran u → ⊥
          no_tick u k = cc
      by_last last.Idle e = nothing_closes to (thread_numbers s.machine) s (λ u off. none_at u (λ k. absurd (idle u (sym e ∙ k))))
        where
          idle : (u : ℕ) → last.Idle ≡ last.Ran u → ⊥
          idle u k = cc
      by_last (last.Ran u) e = by_size (nat_lt u (length s.machine.threads)) refl
        where
          only : (v : ℕ) → (u == v) ≡ false → run_at s v ≡ false
          only v other = none_at v (λ k. let same : u ≡ v = ran_same u v (sym e ∙ k) in grind arith)

          by_size : (b : Bool) → nat_lt u (length s.machine.threads) ≡ b → closes to s ≡ closes_one to u s
          by_size true k = only_closes to u (thread_numbers s.machine) s only (in_range u 0 (length s.machine.threads) (omega arith) (grind arith))
          by_size false k =
              let none : run_at s u ≡ false = ap (λ (th : Thread P). has_run th.server) (beyond s.machine.threads u (grind arith)) in
              nothing_closes to (thread_numbers s.machine) s (λ v off. by_same v (u == v) refl none) ∙ sym (unless_head to u s (λ off. none))
            where
              by_same : (v : ℕ) (c : Bool) → (u == v) ≡ c → run_at s u ≡ false → run_at s v ≡ false
              by_same v true c none = let it : u ≡ v = grind arith in subst (λ (w : ℕ). run_at s w ≡ false) it none
              by_same v false c none = only v c
