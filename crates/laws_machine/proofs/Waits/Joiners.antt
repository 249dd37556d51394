-- Who waits to join a thread waits for its end: every move keeps it.
use Rattle.std.proofs.Common.{Bool, None, Option, Some, ap, arith, false, inl, inr, refl, sym, true, ℕ, ◌≡◌, ◌⊎◌}
use Rattle.std.specs.Prelude.{◌&&◌}
use Rattle.std.specs.Option.{option_map_or}
use mathlib.Core.Path.{subst, ◌∙◌}
use Rattle.words_trace.specs.declared.event.Event.TheVariants as event
use Rattle.rules_server.specs.Server.{ServerState, activate, oldest_pending, refill}
use Rattle.words_script.specs.declared.policy.Policy.{Policy}
use Rattle.rules_machine.specs.Lists.{changed_at}
use Rattle.rules_machine.specs.Bodies.{Bodies}
use Rattle.rules_machine.specs.State.{Status, Thread, Waiting, blocked, dormant, ended, for_end, for_mutex_again, runnable, waits_to_join}
use Rattle.rules_machine.specs.Threads.{can_run, is_dormant, is_runnable, no_thread, thread_at, thread_in, waiting_in, waiting_of}
use Rattle.rules_machine.specs.Turns.{Turn, changes, moves, tells}
use Rattle.rules_machine.specs.Servers.{activates_if, activates_server, amount_of, at_once, high_server, refills_server, regains_high, with_server}
use Rattle.rules_machine.specs.Waking.{ending_with, on_top, put_to_wait, started, woken}
use Rattle.rules_machine.specs.Lives.{with_joiner, without_life, without_top}
use Rattle.rules_machine.specs.Cancellation.{without_cleanup}
use Rattle.rules_machine.specs.Scheduling.{with_policy, with_priority}
use Rattle.rules_machine.specs.GoodState.{is_in_condition_wait}
use Rattle.rules_moves.specs.Moves.{Core, KeepsAwake, Unawaited, alters, begins, blocks_for, blocks_plainly, drops, ends_with, enters_frame, is_for_end, leaves_frame, lives_no_more, prices, pushed, pushes, recasts, refills_one, rejoins, renews_with, wakes_with}
use Rattle.rules_moves.proofs.Cores.{endless_same}
use Rattle.rules_moves.proofs.Waiters.OfThreads.{changed_is}
use Rattle.rules_moves.proofs.Calls.Table.{JoinersWait}

only : {a b : Waiting} → Some a ≡ Some b → a ≡ b
only {a} {b} p = ap out p
  where
    out : Option Waiting → Waiting
    out None = a
    out (Some x) = x

module _ {P : Type 0} (bodies : Bodies P) (who : Option ℕ) where
  -- a change of a thread that leaves its joiner, and either its status or a thread that waits for no end
  pub changed_joiners : (t : ℕ) (f : Thread P → Thread P) (s : Turn P) → ((u : ℕ) → (f (thread_at s.machine t)).joiner ≡ waits_to_join u → (thread_at s.machine t).joiner ≡ waits_to_join u) →
      ((w : Waiting) (v : ℕ) → waiting_of s.machine t ≡ Some w → w.wait ≡ for_end v → w.due ≡ None → (thread_at s.machine v).joiner ≡ waits_to_join t → waiting_in (f (thread_at s.machine t)).status ≡ Some w) → JoinersWait s → JoinersWait (changes t f s)
  changed_joiners t f s hj hw joined v u e = (old.0, still (changed_is no_thread t u f s.machine.threads), old.2, old.3)
    where
      before : (thread_at s.machine v).joiner ≡ waits_to_join u
      before = of_two (changed_is no_thread t v f s.machine.threads)
        where
          of_two : ((t ≡ v) × (thread_in (changed_at no_thread t f s.machine.threads) v ≡ f (thread_at s.machine t))) ⊎ (thread_in (changed_at no_thread t f s.machine.threads) v ≡ thread_at s.machine v) → (thread_at s.machine v).joiner ≡ waits_to_join u
          of_two (inl k) = subst (λ (i : ℕ). (thread_at s.machine i).joiner ≡ waits_to_join u) k.0 (hj u (sym (ap (λ (th : Thread P). th.joiner) k.1) ∙ e))
          of_two (inr k) = sym (ap (λ (th : Thread P). th.joiner) k) ∙ e

      old : (w : Waiting) × (waiting_of s.machine u ≡ Some w) × (w.wait ≡ for_end v) × (w.due ≡ None)
      old = joined v u before

      still : ((t ≡ u) × (thread_in (changed_at no_thread t f s.machine.threads) u ≡ f (thread_at s.machine t))) ⊎ (thread_in (changed_at no_thread t f s.machine.threads) u ≡ thread_at s.machine u) → waiting_of (changes t f s).machine u ≡ Some old.0
      still (inl k) = ap (λ (th : Thread P). waiting_in th.status) k.1
          ∙ hw old.0 v (subst (λ (i : ℕ). waiting_of s.machine i ≡ Some old.0) (sym k.0) old.1) old.2 old.3 (subst (λ (i : ℕ). (thread_at s.machine v).joiner ≡ waits_to_join i) (sym k.0) before)
      still (inr k) = ap (λ (th : Thread P). waiting_in th.status) k ∙ old.1

  kept : (t : ℕ) (f : Thread P → Thread P) (s : Turn P) → ((th : Thread P) → (f th).joiner ≡ th.joiner) → ((th : Thread P) → (f th).status ≡ th.status) → JoinersWait s → JoinersWait (changes t f s)
  kept t f s hj hs = changed_joiners t f s (λ u e. sym (hj (thread_at s.machine t)) ∙ e) (λ w v e h never j. ap waiting_in (hs (thread_at s.machine t)) ∙ e)

  activated_keep : (t : ℕ) (o : Option ServerState) (s : Turn P) → JoinersWait s → JoinersWait (activates_server t o s)
  activated_keep t None s j = j
  activated_keep t (Some server) s j = kept t (with_server (activate s.machine.now)) s (λ th. refl) (λ th. refl) j

  activated_if_keep : (b : Bool) (t : ℕ) (s : Turn P) → JoinersWait s → JoinersWait (activates_if b t s)
  activated_if_keep true t s j = activated_keep t (at_once (thread_at s.machine t).server) s j
  activated_if_keep false t s j = j

  refilled_keep : (t : ℕ) (o : Option ServerState) (s : Turn P) → JoinersWait s → JoinersWait (refills_server t o s)
  refilled_keep t None s j = j
  refilled_keep t (Some server) s j =
      activated_if_keep (regains_high server && can_run s.machine t) t (tells (event.Refill t (amount_of (oldest_pending server)) (refill server).capacity) (changes t (with_server refill) s))
      (kept t (with_server refill) s (λ th. refl) (λ th. refl) j)

  -- a thread whose status says that it does not wait
  pub idle : (t : ℕ) (f : Thread P → Thread P) (s : Turn P) → ((th : Thread P) → (f th).joiner ≡ th.joiner) → waiting_of s.machine t ≡ None → JoinersWait s → JoinersWait (changes t f s)
  idle t f s hj none = changed_joiners t f s (λ u e. sym (hj (thread_at s.machine t)) ∙ e) (λ w v e h never j. absurd (grind arith))

  dormant_idle : (status : Status) → is_dormant status ≡ true → waiting_in status ≡ None
  dormant_idle (dormant at) e = refl
  dormant_idle runnable e = absurd (grind arith)
  dormant_idle (blocked w) e = absurd (grind arith)
  dormant_idle ended e = absurd (grind arith)

  pub running_idle : (status : Status) → is_runnable status ≡ true → waiting_in status ≡ None
  running_idle (dormant at) e = absurd (grind arith)
  running_idle runnable e = refl
  running_idle (blocked w) e = absurd (grind arith)
  running_idle ended e = absurd (grind arith)

  no_end : (t : ℕ) (s : Turn P) → Unawaited s.machine t → (w : Waiting) (v : ℕ) → waiting_of s.machine t ≡ Some w → w.wait ≡ for_end v → (thread_at s.machine v).joiner ≡ waits_to_join t → ⊥
  no_end t s (inl g) w v e h j = let same : g.0 ≡ w = only (sym g.1 ∙ e) in let it : is_for_end g.0.wait ≡ true = ap (λ (x : Waiting). is_for_end x.wait) same ∙ ap is_for_end h in absurd (grind (arith, g.2))
  no_end t s (inr f) w v e h j = f v j

  in_condition : (o : Option Waiting) → option_map_or (λ (w : Waiting). is_in_condition_wait w.wait) o false ≡ true → (w : Waiting) (v : ℕ) → o ≡ Some w → w.wait ≡ for_end v → ⊥
  in_condition None c w v e h = absurd (grind arith)
  in_condition (Some x) c w v e h = let same : x ≡ w = only e in let it : is_in_condition_wait x.wait ≡ false = ap (λ (y : Waiting). is_in_condition_wait y.wait) same ∙ ap is_in_condition_wait h in absurd (grind arith)

  pub joiners_renewed : (active : Bool) (t : ℕ) (new : Policy) (s : Turn P) → JoinersWait s → JoinersWait (activates_if active t (changes t (with_policy new s.machine.now) s))
  joiners_renewed active t new s j = activated_if_keep active t (changes t (with_policy new s.machine.now) s) (kept t (with_policy new s.machine.now) s (λ th. refl) (λ th. refl) j)

  pub joiners_keep : KeepsAwake bodies who JoinersWait
  joiners_keep (alters t f) s may j =
      let th = thread_at s.machine t in
      changed_joiners t f s (λ u e. sym (ap (λ (c : Core P). c.joiner) (may th)) ∙ e) (λ w v e h never k. endless_same (f th) th w (may th) e never) j
  joiners_keep (ends_with t v) s may j = kept t (ending_with v) s (λ th. refl) (λ th. refl) j
  joiners_keep (enters_frame t f) s may j = kept t (on_top f) s (λ th. refl) (λ th. refl) j
  joiners_keep (leaves_frame t) s may j = kept t without_top s (λ th. refl) (λ th. refl) j
  joiners_keep (pushes t u) s may j = kept t (pushed u) s (λ th. refl) (λ th. refl) j
  joiners_keep (drops t) s may j = kept t without_cleanup s (λ th. refl) (λ th. refl) j
  joiners_keep (prices t p) s may j = kept t (with_priority p) s (λ th. refl) (λ th. refl) j
  joiners_keep (renews_with active t new) s may j = absurd may
  joiners_keep (wakes_with t ev r v) s may j =
      let up = tells ev (moves t (changes t (woken r v) s)) in
      activated_keep t (at_once (high_server (thread_at up.machine t).server)) up (changed_joiners t (woken r v) s (λ u e. e) (λ w x e h never k. absurd (no_end t s may.2 w x e h k)) j)
  joiners_keep (blocks_for by (for_mutex_again k how) due) s may j =
      changed_joiners by.thread (put_to_wait (record { wait = for_mutex_again k how; serial = s.machine.next_serial; due = due; call = by.call })) s (λ u e. e)
      (λ w v e h never x. absurd (in_condition (waiting_of s.machine by.thread) may.0 w v e h)) j
  joiners_keep (blocks_for by wait due) s may j = absurd may
  joiners_keep (blocks_plainly by wait due) s may j = absurd may
  joiners_keep (begins t mask) s may j =
      let up = tells (event.Start t) (moves t (changes t (started bodies t mask s.machine.now) s)) in
      activated_keep t (at_once (thread_at up.machine t).server) up (idle t (started bodies t mask s.machine.now) s (λ th. refl) (dormant_idle (thread_at s.machine t).status may) j)
  joiners_keep (lives_no_more t) s may j = idle t without_life s (λ th. refl) (running_idle (thread_at s.machine t).status may.0) j
  joiners_keep (recasts t f) s may j = absurd may
  joiners_keep (rejoins t x) s may j = changed_joiners t (with_joiner x) s (λ u e. absurd (may u e)) (λ w v e h never k. e) j
  joiners_keep (refills_one t) s may j = refilled_keep t (thread_at s.machine t).server s j
  joiners_keep move s may j = j
