-- No thread has run its whole round robin interval between ticks: every move keeps it.
use Rattle.std.proofs.Common.{Bool, List, None, Option, Some, [], ap, arith, false, inl, inr, refl, suc, sym, true, zero, ℕ, ◌+◌, ◌<◌, ◌≤◌, ◌∷◌, ◌≡◌, ◌⊎◌}
use Rattle.std.specs.Prelude.{map, nat_lt, ◌==◌, ◌&&◌, if◌then◌else◌}
use mathlib.Core.Path.{subst}
use Rattle.words_script.specs.declared.decl.Script.{Script}
use Rattle.words_script.specs.declared.policy.Policy.{Policy}
use Rattle.words_script.specs.declared.policy.Policy.TheVariants as policy
use Rattle.words_trace.specs.declared.event.Event.TheVariants as event
use Rattle.rules_server.specs.Server.{ServerState, activate, oldest_pending, plan, refill}
use Rattle.rules_machine.specs.Lists.{changed_at, is}
use Rattle.rules_machine.specs.Bodies.{Bodies}
use Rattle.rules_machine.specs.State.{Machine, Thread, for_end, waits_to_join}
use Rattle.rules_machine.specs.Threads.{can_run, is_blocked, is_runnable, no_thread, thread_at, thread_in}
use Rattle.rules_machine.specs.Declarations.{ThreadDecl, threads_of}
use Rattle.rules_machine.specs.Turns.{Turn, changes, moves, moves_if, tells}
use Rattle.rules_machine.specs.Servers.{activates_if, activates_server, amount_of, at_once, high_server, plans_server, refills_server, regains_high, with_server}
use Rattle.rules_machine.specs.Waking.{ending_with, on_top, put_to_wait, started, woken}
use Rattle.rules_machine.specs.Lives.{with_joiner, without_life, without_top}
use Rattle.rules_machine.specs.Cancellation.{without_cleanup}
use Rattle.rules_machine.specs.Scheduling.{at_priority, with_policy, with_priority}
use Rattle.rules_machine.specs.GoodState.{HasParameters}
use Rattle.rules_machine.specs.Dispatch.{dispatches}
use Rattle.rules_machine.specs.Units.{in_unit}
use Rattle.rules_machine.specs.Ticks.{TickEnd, capacity_in, consumed_in, ends_tick, exhausting, nothing, planning, slice_charged, slice_is_used, slicing, tick_charged, tick_end, without_slice}
use Rattle.rules_machine.specs.Runs.{opening, thread_opened}
use Rattle.rules_machine.specs.WellFormed.{IsWellFormed}
use Rattle.rules_moves.specs.Moves.{Core, MayRenewing, Move, alters, begins, blocks_for, blocks_plainly, core_of, does, drops, ends_with, enters_frame, leaves_frame, lives_no_more, prices, pushed, pushes, recasts, refills_one, rejoins, renews_with, wakes_with}
use Rattle.rules_moves.proofs.Waiters.Best.{Each}
use Rattle.rules_moves.proofs.Waiters.OfThreads.{changed_is}
use Rattle.laws_machine.proofs.Lists.Priorities.{ThreadFits}
use Rattle.rules_moves.proofs.Runs.Ticks.{charged_turn, dispatched}
use Rattle.rules_moves.proofs.Runs.Beside.{TickBeside}
use Rattle.laws_machine.proofs.Lists.Kept.{Placed, Placing, Plans, in_unit_plans}

-- the head's interval may be used up from the charge to the end of the tick
abbrev pub SliceIn : ℕ → Bool → Policy → ℕ → Type 0
SliceIn quantum false p slice = slice < quantum
SliceIn quantum true p slice = (slice < quantum) ⊎ (slice_is_used p slice quantum ≡ true)

abbrev pub SliceOf : {P : Type 0} → ℕ → Bool → Thread P → Type 0
SliceOf quantum b th = SliceIn quantum b th.policy th.slice

pub record Slices {P : Type 0} (who : Option ℕ) (m : Machine P) : Type 0 where
  pub some : 1 ≤ m.quantum
  pub each : (t : ℕ) → SliceOf m.quantum (is who t) (thread_at m t)

fresh : (quantum : ℕ) (b : Bool) (p : Policy) → 1 ≤ quantum → SliceIn quantum b p 0
fresh quantum false p h = h
fresh quantum true p h = inl h

priced_slice : (quantum : ℕ) (b : Bool) (n : ℕ) (p : Policy) (slice : ℕ) → SliceIn quantum b p slice → SliceIn quantum b (at_priority n p) slice
priced_slice quantum false n p slice h = h
priced_slice quantum true n (policy.Fifo p) slice h = h
priced_slice quantum true n (policy.Rr p) slice h = h
priced_slice quantum true n (policy.Sporadic params) slice h = h
priced_slice quantum true n (policy.Strict params) slice h = h

charged_slice : (quantum : ℕ) (p : Policy) (slice : ℕ) → slice < quantum → SliceIn quantum true p (slice_charged p slice)
charged_slice quantum (policy.Fifo p) slice h = inl h
charged_slice quantum (policy.Rr p) slice h = by_eq (slice + 1 == quantum) refl
  where
    by_eq : (b : Bool) → (slice + 1 == quantum) ≡ b → (slice + 1 < quantum) ⊎ ((slice + 1 == quantum) ≡ true)
    by_eq true e = inr e
    by_eq false e = let other : slice + 1 ≡ quantum → ⊥ = λ k. absurd (grind arith) in inl (omega (arith, other))
charged_slice quantum (policy.Sporadic params) slice h = inl h
charged_slice quantum (policy.Strict params) slice h = inl h

module _ {P : Type 0} (bodies : Bodies P) (who : Option ℕ) where
  -- a change of a thread whose interval is right after it where it was
  one : (t : ℕ) (f : Thread P → Thread P) (s : Turn P) → ((b : Bool) (th : Thread P) → SliceOf s.machine.quantum b th → SliceOf s.machine.quantum b (f th)) → Slices who s.machine → Slices who (changes t f s).machine
  one t f s h q = record { some = q.some; each = λ u. of_two u (changed_is no_thread t u f s.machine.threads) }
    where
      of_two : (u : ℕ) → ((t ≡ u) × (thread_in (changed_at no_thread t f s.machine.threads) u ≡ f (thread_at s.machine t))) ⊎ (thread_in (changed_at no_thread t f s.machine.threads) u ≡ thread_at s.machine u) →
          SliceOf s.machine.quantum (is who u) (thread_at (changes t f s).machine u)
      of_two u (inl k) = subst (λ (th : Thread P). SliceOf s.machine.quantum (is who u) th) (sym k.1) (subst (λ (v : ℕ). SliceOf s.machine.quantum (is who v) (f (thread_at s.machine t))) k.0 (h (is who t) (thread_at s.machine t) (q.each t)))
      of_two u (inr k) = subst (λ (th : Thread P). SliceOf s.machine.quantum (is who u) th) (sym k) (q.each u)

  other : (s : Turn P) (m : Machine P) → m.quantum ≡ s.machine.quantum → m.threads ≡ s.machine.threads → Slices who s.machine → Slices who m
  other s m e g q = record {
    some = subst (λ (n : ℕ). 1 ≤ n) (sym e) q.some;
    each = λ t. subst (λ (n : ℕ). SliceOf n (is who t) (thread_in m.threads t)) (sym e) (subst (λ (ths : List (Thread P)). SliceOf s.machine.quantum (is who t) (thread_in ths t)) (sym g) (q.each t));
  }

  activated : (t : ℕ) (o : Option ServerState) (s : Turn P) → Slices who s.machine → Slices who (activates_server t o s).machine
  activated t None s q = q
  activated t (Some server) s q = let k = one t (with_server (activate s.machine.now)) s (λ b th h. h) q in record { some = k.some; each = k.each }

  activated_if : (b : Bool) (t : ℕ) (s : Turn P) → Slices who s.machine → Slices who (activates_if b t s).machine
  activated_if true t s q = activated t (at_once (thread_at s.machine t).server) s q
  activated_if false t s q = q

  refilled : (t : ℕ) (o : Option ServerState) (s : Turn P) → Slices who s.machine → Slices who (refills_server t o s).machine
  refilled t None s q = q
  refilled t (Some server) s q =
      let k = one t (with_server refill) s (λ b th h. h) q in
      activated_if (regains_high server && can_run s.machine t) t (tells (event.Refill t (amount_of (oldest_pending server)) (refill server).capacity) (changes t (with_server refill) s)) (record { some = k.some; each = k.each })

  same_core : (quantum : ℕ) (f : Thread P → Thread P) → ((th : Thread P) → core_of (f th) ≡ core_of th) → (b : Bool) (th : Thread P) → SliceOf quantum b th → SliceOf quantum b (f th)
  same_core quantum f e b th h = subst (λ (c : Core P). SliceIn quantum b c.policy c.slice) (sym (e th)) h

  pub slices_keep : (move : Move P) (s : Turn P) → MayRenewing who move s → Slices who s.machine → Slices who (does bodies move s).machine
  slices_keep (alters t f) s may q = one t f s (same_core s.machine.quantum f may) q
  slices_keep (ends_with t v) s may q = one t (ending_with v) s (λ b th h. h) q
  slices_keep (enters_frame t f) s may q = one t (on_top f) s (λ b th h. h) q
  slices_keep (leaves_frame t) s may q = one t without_top s (λ b th h. h) q
  slices_keep (pushes t u) s may q = one t (pushed u) s (λ b th h. h) q
  slices_keep (drops t) s may q = one t without_cleanup s (λ b th h. h) q
  slices_keep (prices t p) s may q = one t (with_priority p) s (λ b th h. priced_slice s.machine.quantum b p th.policy th.slice h) q
  slices_keep (renews_with active t new) s may q = activated_if active t (changes t (with_policy new s.machine.now) s) (one t (with_policy new s.machine.now) s (λ b th h. fresh s.machine.quantum b new q.some) q)
  slices_keep (wakes_with t e r v) s may q =
      let up = tells e (moves t (changes t (woken r v) s)) in let k = one t (woken r v) s (λ b th h. fresh s.machine.quantum b th.policy q.some) q in
      activated t (at_once (high_server (thread_at up.machine t).server)) up (record { some = k.some; each = k.each })
  slices_keep (blocks_for by wait due) s may q =
      let k = one by.thread (put_to_wait (record { wait = wait; serial = s.machine.next_serial; due = due; call = by.call })) s (λ b th h. h) q in record { some = k.some; each = k.each }
  slices_keep (blocks_plainly by wait due) s may q = absurd may
  slices_keep (begins t mask) s may q =
      let up = tells (event.Start t) (moves t (changes t (started bodies t mask s.machine.now) s)) in let k = one t (started bodies t mask s.machine.now) s (λ b th h. fresh s.machine.quantum b th.policy q.some) q in
      activated t (at_once (thread_at up.machine t).server) up (record { some = k.some; each = k.each })
  slices_keep (lives_no_more t) s may q = let k = one t without_life s (λ b th h. h) q in record { some = k.some; each = k.each }
  slices_keep (recasts t f) s may q = absurd may
  slices_keep (rejoins t j) s may q = one t (with_joiner j) s (λ b th h. h) q
  slices_keep (refills_one t) s may q = refilled t (thread_at s.machine t).server s q
  slices_keep move s may q = record { some = q.some; each = q.each }

  -- ---- the tick's end

  planned : (t : ℕ) (o : Option ServerState) (s : Turn P) → Slices who s.machine → Slices who (plans_server t o s).machine
  planned t None s q = q
  planned t (Some server) s q = let k = one t (with_server plan) s (λ b th h. h) q in record { some = k.some; each = k.each }

  moved : (b : Bool) (t : ℕ) (s : Turn P) → Slices who s.machine → Slices who (moves_if b t s).machine
  moved true t s q = record { some = q.some; each = q.each }
  moved false t s q = q

module _ {P : Type 0} (bodies : Bodies P) where
  abbrev pub In : Bool → ℕ → Machine P → Turn P → Type 0
  In b t before s = Slices (Some t) s.machine

  -- who has used up the interval has no server, and the tick's end gives a new one
  spent : (b some blocked runnable empty used : Bool) → some ≡ false → used ≡ true →
      (if b && some && blocked then planning else if b && some && runnable && empty then exhausting else if used then slicing else nothing) ≡ slicing
  spent true some blocked runnable empty used s u = grind arith
  spent false some blocked runnable empty used s u = grind arith

  no_server : (quantum : ℕ) (p : Policy) (o : Option ServerState) (slice : ℕ) → HasParameters p o → slice_is_used p slice quantum ≡ true → nat_lt 0 (consumed_in o) ≡ false
  no_server quantum (policy.Fifo p) o slice h e = absurd (grind arith)
  no_server quantum (policy.Rr p) o slice h e = ap (λ (o : Option ServerState). nat_lt 0 (consumed_in o)) h
  no_server quantum (policy.Sporadic params) o slice h e = absurd (grind arith)
  no_server quantum (policy.Strict params) o slice h e = absurd (grind arith)

  -- nobody's interval is used up where that of the one thread is not
  let_go : (t : ℕ) (m : Machine P) → (thread_at m t).slice < m.quantum → Slices (Some t) m → Slices None m
  let_go t m h q = record { some = q.some; each = λ u. by_eq u (t == u) refl (q.each u) }
    where
      by_eq : (u : ℕ) (b : Bool) → (t == u) ≡ b → SliceOf m.quantum b (thread_at m u) → (thread_at m u).slice < m.quantum
      by_eq u true e k = let it : t ≡ u = grind arith in subst (λ (v : ℕ). (thread_at m v).slice < m.quantum) it h
      by_eq u false e k = k

  ended_small : (e : TickEnd) (t : ℕ) (s : Turn P) → Slices None s.machine → Slices None (ends_tick e t s).machine
  ended_small planning t s q = planned bodies None t (thread_at s.machine t).server s q
  ended_small exhausting t s q = moved bodies None _ t _ (planned bodies None t (thread_at s.machine t).server (tells (event.Exhaust t) s) (record { some = q.some; each = q.each }))
  ended_small slicing t s q = moved bodies None (can_run s.machine t) t (changes t without_slice s) (one bodies None t without_slice s (λ b th h. fresh s.machine.quantum b th.policy q.some) q)
  ended_small nothing t s q = q

  sliced : (t : ℕ) (s : Turn P) → Slices (Some t) s.machine → Slices None (ends_tick slicing t s).machine
  sliced t s q = moved bodies None (can_run s.machine t) t (changes t without_slice s)
      (let_go t (changes t without_slice s).machine (here (changed_is no_thread t t without_slice s.machine.threads)) (one bodies (Some t) t without_slice s (λ b th h. fresh s.machine.quantum b th.policy q.some) q))
    where
      none_small : (ths : List (Thread P)) (t : ℕ) → (thread_in (changed_at no_thread t without_slice ths) t).slice ≡ 0
      none_small [] t = refl
      none_small (th ∷ ths) zero = refl
      none_small (th ∷ ths) (suc t) = none_small ths t

      here : ((t ≡ t) × (thread_in (changed_at no_thread t without_slice s.machine.threads) t ≡ without_slice (thread_at s.machine t))) ⊎ (thread_in (changed_at no_thread t without_slice s.machine.threads) t ≡ thread_at s.machine t) →
          (thread_at (changes t without_slice s).machine t).slice < s.machine.quantum
      here k = subst (λ (n : ℕ). n < s.machine.quantum) (sym (none_small s.machine.threads t)) q.some

  ended : (b : Bool) (t : ℕ) (s : Turn P) → HasParameters (thread_at s.machine t).policy (thread_at s.machine t).server → Slices (Some t) s.machine →
      Slices None (ends_tick (tick_end b s.machine.quantum (thread_at s.machine t)) t s).machine
  ended b t s has q = by_slice (mine (q.each t))
    where
      mine : SliceOf s.machine.quantum (t == t) (thread_at s.machine t) → ((thread_at s.machine t).slice < s.machine.quantum) ⊎ (slice_is_used (thread_at s.machine t).policy (thread_at s.machine t).slice s.machine.quantum ≡ true)
      mine k = let self : (t == t) ≡ true = grind arith in subst (λ (b : Bool). SliceOf s.machine.quantum b (thread_at s.machine t)) self k

      by_slice : ((thread_at s.machine t).slice < s.machine.quantum) ⊎ (slice_is_used (thread_at s.machine t).policy (thread_at s.machine t).slice s.machine.quantum ≡ true) →
          Slices None (ends_tick (tick_end b s.machine.quantum (thread_at s.machine t)) t s).machine
      by_slice (inl h) = ended_small (tick_end b s.machine.quantum (thread_at s.machine t)) t s (let_go t s.machine h q)
      by_slice (inr u) =
          let th = thread_at s.machine t in
          let e : tick_end b s.machine.quantum th ≡ slicing = spent b (nat_lt 0 (consumed_in th.server)) (is_blocked th.status) (is_runnable th.status) (capacity_in th.server == 0) (slice_is_used th.policy th.slice s.machine.quantum)
          (no_server s.machine.quantum th.policy th.server th.slice has u) u in
          subst (λ (e : TickEnd). Slices None (ends_tick e t s).machine) (sym e) (sliced t s q)

  -- ---- the charge

  charged : (t : ℕ) (s : Turn P) → Slices None s.machine → Slices (Some t) (charged_turn bodies t s).machine
  charged t s q = record { some = q.some; each = λ u. of_two u (changed_is no_thread t u f s.machine.threads) }
    where
      f : Thread P → Thread P
      f th = tick_charged (in_unit bodies (thread_at s.machine t)).thread

      head : SliceIn s.machine.quantum true (f (thread_at s.machine t)).policy (f (thread_at s.machine t)).slice
      head = subst (λ (p : Plans). SliceIn s.machine.quantum true p.policy (slice_charged p.policy p.slice)) (sym (in_unit_plans bodies (thread_at s.machine t))) (charged_slice s.machine.quantum (thread_at s.machine t).policy (thread_at s.machine t).slice (q.each t))

      weaker : (b : Bool) (p : Policy) (slice : ℕ) → slice < s.machine.quantum → SliceIn s.machine.quantum b p slice
      weaker true p slice h = inl h
      weaker false p slice h = h

      of_two : (u : ℕ) → ((t ≡ u) × (thread_in (changed_at no_thread t f s.machine.threads) u ≡ f (thread_at s.machine t))) ⊎ (thread_in (changed_at no_thread t f s.machine.threads) u ≡ thread_at s.machine u) →
          SliceOf s.machine.quantum (t == u) (thread_at (changes t f s).machine u)
      of_two u (inl k) = let it : (t == u) ≡ true = (let e = k.0 in grind arith) in
          subst (λ (b : Bool). SliceOf s.machine.quantum b (thread_at (changes t f s).machine u)) (sym it) (subst (λ (th : Thread P). SliceOf s.machine.quantum true th) (sym k.1) head)
      of_two u (inr k) = subst (λ (th : Thread P). SliceOf s.machine.quantum (t == u) th) (sym k) (weaker (t == u) (thread_at s.machine u).policy (thread_at s.machine u).slice (q.each u))

  -- ---- every run

  fits_in : (ths : List (Thread P)) (t : ℕ) → Each ThreadFits ths → ThreadFits (thread_in ths t)
  fits_in [] t each = (record { positive = omega arith; small = omega arith }, refl)
  fits_in (th ∷ ths) zero each = each.0
  fits_in (th ∷ ths) (suc t) each = fits_in ths t each.1

  dispatched_slices : (to : Option ℕ) (s : Turn P) → Slices None s.machine → Slices None (dispatches to s).machine
  dispatched_slices to s q = subst (Slices None) (sym (dispatched to s)) (record { some = q.some; each = q.each })

  pub slices_tick : TickBeside bodies Placed Placing (λ b t. Placing) (λ b t. Placing) (λ b t. Placed) (Slices None) (λ before s. Slices None s.machine) In In (λ b t. Slices (Some t))
  slices_tick = record {
    opens = λ s still p q. q;
    moves = λ before move s may p q. slices_keep bodies None move s may q;
    settles = λ before s p q. record { some = q.some; each = q.each };
    prepares = record {
      closes = λ t s run q. planned bodies None t (thread_at s.machine t).server s q;
      sent = λ to s off q. dispatched_slices to s q;
      opens = λ t x s runs is may q. activated bodies None t (Some x) s q;
    };
    charges = λ t s still ready runs p q. let k = charged t s q in record { some = k.some; each = k.each };
    unit_moves = λ b t before move s may p q. slices_keep bodies (Some t) move s may q;
    unit_stops = λ b t before. record {
      done = λ s p q. q;
      sleeps = λ by wait due s runs may p q. (
          let k = one bodies (Some t) by.thread (put_to_wait (record { wait = wait; serial = s.machine.next_serial; due = due; call = by.call })) s (λ b th h. h) q in record { some = k.some; each = k.each }
          );
      dozes = λ by wait due s runs may other p q. one bodies (Some t) by.thread (put_to_wait (record { wait = wait; serial = 0; due = due; call = by.call })) s (λ b th h. h) q;
      joins = λ by u s runs other free p q. one bodies (Some t) by.thread (put_to_wait (record { wait = for_end u; serial = 0; due = None; call = by.call })) (changes u (with_joiner (waits_to_join by.thread)) s) (λ b th h. h)
          (one bodies (Some t) u (with_joiner (waits_to_join by.thread)) s (λ b th h. h) q);
    };
    unit_settles = λ b t before s p q. record { some = q.some; each = q.each };
    ends = λ b t s still p q. ended b t s (fits_in s.machine.threads t p.fit.threads).1 q;
    idles = λ s ready p q. record { some = q.some; each = q.each };
  }

-- ---- the opening

opened_slice : (P : Type 0) (ds : List ThreadDecl) (t : ℕ) → (thread_in (map (λ (d : ThreadDecl). thread_opened {P = P} d) ds) t).slice ≡ 0
opened_slice P [] t = refl
opened_slice P (d ∷ ds) zero = refl
opened_slice P (d ∷ ds) (suc t) = opened_slice P ds t

module _ (P : Type 0) (script : Script) (fits : IsWellFormed script) where
  pub opening_slices : Slices None (opening {P = P} script)
  opening_slices = record { some = fits.quantum; each = λ t. subst (λ (n : ℕ). n < script.quantum) (sym (opened_slice P (threads_of script) t)) fits.quantum }
