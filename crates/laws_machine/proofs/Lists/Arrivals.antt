-- Who came to run since a settling has a direct move, and the lists stay until the next one: every move keeps it.
use Rattle.std.proofs.Common.{Bool, List, None, Option, Some, [], ap, arith, false, inl, inr, refl, sym, true, ℕ, ◌∷◌, ◌++◌, ◌≡◌, ◌⊎◌}
use Rattle.std.specs.Prelude.{◌==◌, ◌&&◌}
use mathlib.Core.Path.{subst, ◌∙◌}
use Rattle.rules_lists.specs.Threads.{stands_in}
use Rattle.words_trace.specs.declared.event.Event.TheVariants as event
use Rattle.rules_server.specs.Server.{ServerState, activate, oldest_pending, plan, refill}
use Rattle.rules_machine.specs.Lists.{changed_at}
use Rattle.rules_machine.specs.Bodies.{Bodies}
use Rattle.rules_machine.specs.State.{Machine, Thread, for_end, waits_to_join}
use Rattle.rules_machine.specs.Threads.{can_run, is_runnable, no_thread, thread_at, thread_in}
use Rattle.rules_machine.specs.Turns.{Turn, changes, moves, moves_if, tells}
use Rattle.rules_machine.specs.Servers.{activates_if, activates_server, amount_of, at_once, high_server, plans_server, refills_server, regains_high, with_server}
use Rattle.rules_machine.specs.Waking.{ending_with, on_top, put_to_wait, started, woken}
use Rattle.rules_machine.specs.Lives.{with_joiner, without_life, without_top}
use Rattle.rules_machine.specs.Cancellation.{without_cleanup}
use Rattle.rules_machine.specs.Scheduling.{with_policy, with_priority}
use Rattle.rules_machine.specs.Ticks.{TickEnd, ends_tick, exhausting, nothing, planning, slicing, without_slice}
use Rattle.rules_moves.specs.Moves.{KeepsRenewing, Sleeps, alters, begins, blocks_for, blocks_plainly, directs, drops, ends_with, enters_frame, leaves_frame, lives_no_more, prices, pushed, pushes, recasts, refills_one, rejoins, renews_with, wakes_with}
use Rattle.rules_moves.proofs.Cores.{runnable_seen, same_read}
use Rattle.rules_moves.proofs.Waiters.OfThreads.{changed_is}
use Rattle.laws_machine.proofs.Lists.Places.{HaveCome}

-- the lists are as they were, and who came to run since then has a direct move
pub record Come {P : Type 0} (before : Machine P) (s : Turn P) : Type 0 where
  pub lists : s.machine.lists ≡ before.lists
  pub each : HaveCome before s.direct s.machine

still_in : (t u : ℕ) (us : List ℕ) → stands_in t us ≡ true → stands_in t (us ++ u ∷ []) ≡ true
still_in t u [] h = absurd (grind arith)
still_in t u (v ∷ us) h = by_eq (v == t) refl (still_in t u us)
  where
    by_eq : (b : Bool) → (v == t) ≡ b → (stands_in t us ≡ true → stands_in t (us ++ u ∷ []) ≡ true) → stands_in t (v ∷ us ++ u ∷ []) ≡ true
    by_eq true e rest = grind arith
    by_eq false e rest = let among : stands_in t us ≡ true = grind arith in let k = rest among in grind arith

last_in : (t : ℕ) (us : List ℕ) → stands_in t (us ++ t ∷ []) ≡ true
last_in t [] = grind arith
last_in t (u ∷ us) = grind (arith, last_in t us)

module _ {P : Type 0} (before : Machine P) where
  -- a change after which the thread runs only where it ran
  pub changed_come : (t : ℕ) (f : Thread P → Thread P) (s : Turn P) → (is_runnable (f (thread_at s.machine t)).status ≡ true → can_run s.machine t ≡ true) → Come before s → Come before (changes t f s)
  changed_come t f s h q = record { lists = q.lists; each = λ u off runs. q.each u off (of_two u (changed_is no_thread t u f s.machine.threads) runs) }
    where
      of_two : (u : ℕ) → ((t ≡ u) × (thread_in (changed_at no_thread t f s.machine.threads) u ≡ f (thread_at s.machine t))) ⊎ (thread_in (changed_at no_thread t f s.machine.threads) u ≡ thread_at s.machine u) →
          can_run (changes t f s).machine u ≡ true → can_run s.machine u ≡ true
      of_two u (inl k) runs = subst (λ (i : ℕ). can_run s.machine i ≡ true) k.0 (h (sym (ap (λ (th : Thread P). is_runnable th.status) k.1) ∙ runs))
      of_two u (inr k) runs = sym (ap (λ (th : Thread P). is_runnable th.status) k) ∙ runs

  pub kept_come : (t : ℕ) (f : Thread P → Thread P) (s : Turn P) → ((th : Thread P) → (f th).status ≡ th.status) → Come before s → Come before (changes t f s)
  kept_come t f s h = changed_come t f s (λ runs. sym (ap is_runnable (h (thread_at s.machine t))) ∙ runs)

  -- a change into a thread that does not run
  off_come : (t : ℕ) (f : Thread P → Thread P) (s : Turn P) → ((th : Thread P) → is_runnable (f th).status ≡ false) → Come before s → Come before (changes t f s)
  off_come t f s h = changed_come t f s (λ runs. absurd (contra runs (h (thread_at s.machine t))))
    where
      contra : {b : Bool} → b ≡ true → b ≡ false → ⊥
      contra p q = grind arith

  moved_come : (t : ℕ) (s : Turn P) → Come before s → Come before (moves t s)
  moved_come t s q = record { lists = q.lists; each = λ u off runs. still_in u t s.direct (q.each u off runs) }

  pub moved_if_come : (b : Bool) (t : ℕ) (s : Turn P) → Come before s → Come before (moves_if b t s)
  moved_if_come true t s q = moved_come t s q
  moved_if_come false t s q = q

  -- a thread comes to run
  came : (t : ℕ) (f : Thread P → Thread P) (s : Turn P) → Come before s → Come before (moves t (changes t f s))
  came t f s q = record { lists = q.lists; each = λ u off runs. of_two u off (changed_is no_thread t u f s.machine.threads) runs }
    where
      of_two : (u : ℕ) → can_run before u ≡ false → ((t ≡ u) × (thread_in (changed_at no_thread t f s.machine.threads) u ≡ f (thread_at s.machine t))) ⊎ (thread_in (changed_at no_thread t f s.machine.threads) u ≡ thread_at s.machine u) →
          can_run (changes t f s).machine u ≡ true → stands_in u (s.direct ++ t ∷ []) ≡ true
      of_two u off (inl k) runs = subst (λ (i : ℕ). stands_in i (s.direct ++ t ∷ []) ≡ true) k.0 (last_in t s.direct)
      of_two u off (inr k) runs = still_in u t s.direct (q.each u off (sym (ap (λ (th : Thread P). is_runnable th.status) k) ∙ runs))

  activated_come : (t : ℕ) (o : Option ServerState) (s : Turn P) → Come before s → Come before (activates_server t o s)
  activated_come t None s q = q
  activated_come t (Some server) s q = let k = kept_come t (with_server (activate s.machine.now)) s (λ th. refl) q in record { lists = k.lists; each = k.each }

  activated_if_come : (b : Bool) (t : ℕ) (s : Turn P) → Come before s → Come before (activates_if b t s)
  activated_if_come true t s q = activated_come t (at_once (thread_at s.machine t).server) s q
  activated_if_come false t s q = q

  refilled_come : (t : ℕ) (o : Option ServerState) (s : Turn P) → Come before s → Come before (refills_server t o s)
  refilled_come t None s q = q
  refilled_come t (Some server) s q =
      let k = kept_come t (with_server refill) s (λ th. refl) q in
      activated_if_come (regains_high server && can_run s.machine t) t (tells (event.Refill t (amount_of (oldest_pending server)) (refill server).capacity) (changes t (with_server refill) s)) (record { lists = k.lists; each = k.each })

  planned_come : (t : ℕ) (o : Option ServerState) (s : Turn P) → Come before s → Come before (plans_server t o s)
  planned_come t None s q = q
  planned_come t (Some server) s q = let k = kept_come t (with_server plan) s (λ th. refl) q in record { lists = k.lists; each = k.each }

  pub ended_come : (e : TickEnd) (t : ℕ) (s : Turn P) → Come before s → Come before (ends_tick e t s)
  ended_come planning t s q = planned_come t (thread_at s.machine t).server s q
  ended_come exhausting t s q = moved_if_come _ t _ (planned_come t (thread_at s.machine t).server (tells (event.Exhaust t) s) (record { lists = q.lists; each = q.each }))
  ended_come slicing t s q = moved_if_come (can_run s.machine t) t (changes t without_slice s) (kept_come t without_slice s (λ th. refl) q)
  ended_come nothing t s q = q

  module _ (bodies : Bodies P) (who : Option ℕ) where
    pub come_keep : KeepsRenewing bodies who (Come before)
    come_keep (alters t f) s may q =
        let th = thread_at s.machine t in changed_come t f s (λ runs. same_read is_runnable runnable_seen th (f th) (sym (may th)) ∙ runs) q
    come_keep (directs t) s may q = moved_come t s q
    come_keep (ends_with t v) s may q = kept_come t (ending_with v) s (λ th. refl) q
    come_keep (enters_frame t f) s may q = kept_come t (on_top f) s (λ th. refl) q
    come_keep (leaves_frame t) s may q = kept_come t without_top s (λ th. refl) q
    come_keep (pushes t u) s may q = kept_come t (pushed u) s (λ th. refl) q
    come_keep (drops t) s may q = kept_come t without_cleanup s (λ th. refl) q
    come_keep (prices t p) s may q = kept_come t (with_priority p) s (λ th. refl) q
    come_keep (renews_with active t new) s may q = activated_if_come active t (changes t (with_policy new s.machine.now) s) (kept_come t (with_policy new s.machine.now) s (λ th. refl) q)
    come_keep (wakes_with t e r v) s may q =
        let up = tells e (moves t (changes t (woken r v) s)) in let k = came t (woken r v) s q in
        activated_come t (at_once (high_server (thread_at up.machine t).server)) up (record { lists = k.lists; each = k.each })
    come_keep (blocks_for by wait due) s may q =
        let k = off_come by.thread (put_to_wait (record { wait = wait; serial = s.machine.next_serial; due = due; call = by.call })) s (λ th. refl) q in record { lists = k.lists; each = k.each }
    come_keep (blocks_plainly by wait due) s may q = absurd may
    come_keep (begins t mask) s may q =
        let up = tells (event.Start t) (moves t (changes t (started bodies t mask s.machine.now) s)) in let k = came t (started bodies t mask s.machine.now) s q in
        activated_come t (at_once (thread_at up.machine t).server) up (record { lists = k.lists; each = k.each })
    come_keep (lives_no_more t) s may q = let k = off_come t without_life s (λ th. refl) q in record { lists = k.lists; each = k.each }
    come_keep (recasts t f) s may q = absurd may
    come_keep (rejoins t j) s may q = kept_come t (with_joiner j) s (λ th. refl) q
    come_keep (refills_one t) s may q = refilled_come t (thread_at s.machine t).server s q
    come_keep move s may q = record { lists = q.lists; each = q.each }

    pub come_stop : Sleeps who (Come before) (Come before)
    come_stop = record {
      done = λ s q. q;
      sleeps = λ by wait due s runs may q.
          let k = off_come by.thread (put_to_wait (record { wait = wait; serial = s.machine.next_serial; due = due; call = by.call })) s (λ th. refl) q in record { lists = k.lists; each = k.each };
      dozes = λ by wait due s runs may other q. off_come by.thread (put_to_wait (record { wait = wait; serial = 0; due = due; call = by.call })) s (λ th. refl) q;
      joins = λ by u s runs other free q.
          off_come by.thread (put_to_wait (record { wait = for_end u; serial = 0; due = None; call = by.call })) (changes u (with_joiner (waits_to_join by.thread)) s) (λ th. refl)
          (kept_come u (with_joiner (waits_to_join by.thread)) s (λ th. refl) q);
    }
