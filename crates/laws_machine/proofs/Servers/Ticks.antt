-- Every tick keeps the servers right: its charge, its unit, and its end.
use Rattle.std.proofs.Common.{Bool, None, Option, Some, ap, arith, false, refl, sym, true, ℕ, ◌+◌, ◌≡◌}
use Rattle.std.specs.Prelude.{option_map, ◌==◌}
use mathlib.Core.Path.{subst, ◌∙◌}
use Rattle.words_script.specs.declared.policy.Policy.{Policy}
use Rattle.rules_server.specs.Server.{ServerState, plan}
use Rattle.rules_machine.specs.Bodies.{Bodies}
use Rattle.rules_machine.specs.State.{Machine, Status, Thread, Waiting, blocked, dormant, ended, for_end, runnable, waits_to_join}
use Rattle.rules_machine.specs.Threads.{can_run, is_blocked, is_runnable, no_thread, thread_at}
use Rattle.rules_machine.specs.Turns.{Turn, changes}
use Rattle.rules_machine.specs.Servers.{charged, has_high, has_run, plans_server, with_server}
use Rattle.rules_machine.specs.Waking.{put_to_wait}
use Rattle.rules_machine.specs.Lives.{with_joiner}
use Rattle.rules_machine.specs.Dispatch.{dispatches}
use Rattle.rules_machine.specs.Units.{in_unit}
use Rattle.rules_machine.specs.Ticks.{tick_charged, tick_end}
use Rattle.rules_machine.proofs.Reading.{changed-keeps, thread-other, thread-same}
use Rattle.rules_moves.specs.Moves.{Stops}
use Rattle.rules_moves.proofs.Waiters.Best.{running_within}
use Rattle.rules_moves.proofs.Calls.Commuting.{status_kept}
use Rattle.laws_machine.proofs.Servers.OfThreads.{ThreadIn, ThreadRight, closed_in, fits_serve, only, opening_none, with_other}
use Rattle.laws_machine.proofs.Servers.Moves.{Awake, Threads, activates_right, one, threads_keep, threads_renewed}
use Rattle.rules_moves.proofs.Runs.Preparing.{IsReady}
use Rattle.rules_moves.proofs.Runs.Ticks.{TickKeeps, charged_turn, dispatched}
use Rattle.laws_machine.proofs.Parts.Kept.{PartsRight, parts_keep, parts_renew, parts_stop, parts_tick}
use Rattle.laws_machine.proofs.Servers.Alert.{Alert, NoneOf, alert_keep, alert_renewed, awake_of}
use Rattle.laws_machine.proofs.Servers.Units.{kept_in_unit}
use Rattle.laws_machine.proofs.Servers.Charges.{idle_charged, thread_charged, thread_later}
use Rattle.laws_machine.proofs.Servers.Ends.{ended_right, sleeps_right, thread_ends}

module _ {P : Type 0} (bodies : Bodies P) where
  abbrev pub ServedRight : Turn P → Type 0
  ServedRight s = PartsRight s.machine × Threads bodies None s

  abbrev pub ServedMid : Bool → ℕ → Turn P → Type 0
  ServedMid tolled t s = PartsRight s.machine × Threads bodies (Some t) s × Alert tolled (thread_at s.machine t)

  abbrev pub ServedDone : Bool → ℕ → Turn P → Type 0
  ServedDone tolled t s = PartsRight s.machine × Threads bodies (Some t) s × (tolled ≡ false → NoneOf (thread_at s.machine t).server)

  pub nobody_awake : (s : Turn P) → Awake bodies None s
  nobody_awake s t e = absurd (grind arith)

  -- what a change that leaves servers leaves of one that is idle
  idle_kept : (tolled : Bool) (t u : ℕ) (f : Thread P → Thread P) (s : Turn P) → ((th : Thread P) → (f th).server ≡ th.server) → (tolled ≡ false → NoneOf (thread_at s.machine t).server) → tolled ≡ false → NoneOf (thread_at (changes u f s).machine t).server
  idle_kept tolled t u f s h idle c = subst NoneOf (sym (changed-keeps no_thread u t f (λ th. th.server) h s.machine.threads)) (idle c)

  pub served_stop : (tolled : Bool) (t : ℕ) → Stops (Some t) (ServedMid tolled t) (ServedDone tolled t)
  served_stop tolled t = let parts = parts_stop bodies (Some t) in record {
    done = λ s q. (q.0, q.1, q.2.1);
    renewable = λ u. true;
    renewing = λ active u new s may live e known q. (parts.renewing active u new s (parts_renew bodies (Some t) u) live e known q.0, threads_renewed bodies (Some t) active u new s live (fits_serve new known) q.1, alert_renewed bodies tolled t active u new s q.2);
    sleeps = λ by wait due s runs may q. let w : Waiting = record { wait = wait; serial = s.machine.next_serial; due = due; call = by.call } in
        (parts.sleeps by wait due s runs may q.0, sleeps_right bodies t by.thread w s runs q.1, idle_kept tolled t by.thread (put_to_wait w) s (λ th. refl) q.2.1);
    dozes = λ by wait due s runs may other q. let w : Waiting = record { wait = wait; serial = 0; due = due; call = by.call } in
        (parts.dozes by wait due s runs may other q.0, sleeps_right bodies t by.thread w s runs q.1, idle_kept tolled t by.thread (put_to_wait w) s (λ th. refl) q.2.1);
    joins = λ by u s runs other free q.
        let told = changes u (with_joiner (waits_to_join by.thread)) s in
        let w : Waiting = record { wait = for_end u; serial = 0; due = None; call = by.call } in (
          parts.joins by u s runs other free q.0,
          sleeps_right bodies t by.thread w told (ap is_runnable (status_kept u by.thread (with_joiner (waits_to_join by.thread)) (λ th. refl) s) ∙ runs.0, runs.1) (one bodies (Some t) u (with_joiner (waits_to_join by.thread)) s (λ h. h) q.1),
          idle_kept tolled t by.thread (put_to_wait w) told (λ th. refl) (idle_kept tolled t u (with_joiner (waits_to_join by.thread)) s (λ th. refl) q.2.1),
        );
  }

  pub served_renew : (tolled : Bool) (t u : ℕ) → (served_stop tolled t).renewable u ≡ true
  unfolding served_stop
  served_renew tolled t u = refl

  -- the charge of a tick
  charges_right : (t : ℕ) (s : Turn P) → IsReady (Some t) s.machine → can_run s.machine t ≡ true → Threads bodies None s → Threads bodies (Some t) (charged_turn bodies t s)
  charges_right t s ready runs all u = by_eq (t == u) refl
    where
      th : Thread P
      th = thread_at s.machine t

      f : Thread P → Thread P
      f x = tick_charged (in_unit bodies th).thread

      after : ThreadRight true (s.machine.now + 1) (f th)
      after = subst (λ (x : Status × Policy × Option ServerState). ThreadIn true (s.machine.now + 1) x.0 x.1 (option_map charged x.2)) (sym (kept_in_unit bodies (λ (x : Thread P). (x.status, x.policy, x.server)) (λ fs x. refl) (λ x. refl) th))
          (thread_charged s.machine.now th.status th.policy th.server runs (λ x k may. ready.opened t x refl k may) (all t))

      by_eq : (b : Bool) → (t == u) ≡ b → ThreadRight b (s.machine.now + 1) (thread_at (changes t f s).machine u)
      by_eq true e = let it : t ≡ u = grind arith in
          subst (λ (v : ℕ). ThreadRight true (s.machine.now + 1) (thread_at (changes t f s).machine v)) it (subst (ThreadRight true (s.machine.now + 1)) (sym (thread-same s.machine t f (running_within s.machine.threads t runs))) after)
      by_eq false e = subst (ThreadRight false (s.machine.now + 1)) (sym (thread-other s.machine t u f e)) (thread_later s.machine.now (thread_at s.machine u).status (thread_at s.machine u).policy (thread_at s.machine u).server (ready.closed u e) (all u))

  charges_alert : (t : ℕ) (s : Turn P) → can_run s.machine t ≡ true → Threads bodies None s → Alert (has_high (thread_at s.machine t).server) (thread_at (charged_turn bodies t s).machine t)
  charges_alert t s runs all = subst (Alert (has_high (thread_at s.machine t).server)) (sym (thread-same s.machine t f (running_within s.machine.threads t runs))) after
    where
      th : Thread P
      th = thread_at s.machine t

      f : Thread P → Thread P
      f x = tick_charged (in_unit bodies th).thread

      awake : (status : Status) → is_runnable status ≡ true → is_blocked status ≡ false
      awake (dormant at) p = refl
      awake runnable p = refl
      awake (blocked v) p = absurd (grind arith)
      awake ended p = refl

      after : Alert (has_high th.server) (f th)
      after = subst (λ (x : Status × Policy × Option ServerState). (is_blocked x.0 ≡ false) × (has_high th.server ≡ false → NoneOf (option_map charged x.2)))
          (sym (kept_in_unit bodies (λ (x : Thread P). (x.status, x.policy, x.server)) (λ fs x. refl) (λ x. refl) th))
          (awake th.status runs, idle_charged s.machine.now th.status th.policy th.server (all t))

  pub dispatched_threads : (to : Option ℕ) (s : Turn P) → Threads bodies None s → Threads bodies None (dispatches to s)
  dispatched_threads to s all u = subst (λ (m : Machine P). ThreadRight false m.now (thread_at m u)) (sym (dispatched to s)) (all u)

  -- the run of a strict thread is closed
  closes_right : (t : ℕ) (o : Option ServerState) (s : Turn P) → (thread_at s.machine t).server ≡ o → has_run o ≡ true → Threads bodies None s → Threads bodies None (plans_server t o s)
  closes_right t None s e run all = all
  closes_right t (Some x) s e run all =
      one bodies None t (with_server plan) s (λ h. with_other false false s.machine.now s.machine.now (thread_at s.machine t).status (thread_at s.machine t).status (thread_at s.machine t).policy (thread_at s.machine t).server plan refl
      (λ y. (refl, refl)) (λ y k g. closed_in s.machine.now (thread_at s.machine t).status y (ap has_run (sym k ∙ e) ∙ run) g) h) all

  pub served_tick : TickKeeps bodies ServedRight ServedMid ServedDone
  served_tick = let parts = parts_tick bodies in record {
    moves = λ move s may q. (parts.moves move s may q.0, threads_keep bodies None move s may (nobody_awake s) q.1);
    joined = λ s q. parts.joined s q.0;
    settles = λ before s q. (parts.settles before s q.0, q.1);
    unit_moves = λ tolled t move s may q. (parts_keep bodies (Some t) move s may q.0, threads_keep bodies (Some t) move s may (awake_of bodies tolled t s q.2) q.1, alert_keep bodies tolled t move s may q.2);
    unit_joined = λ tolled t s q. parts.joined s q.0;
    unit_stops = served_stop;
    unit_renews = served_renew;
    unit_settles = λ tolled t before s q. (parts.settles before s q.0, q.1, q.2);
    prepares = record {
      closes = λ t s run q. (parts.prepares.closes t s run q.0, closes_right t (thread_at s.machine t).server s refl run q.1);
      sent = λ to s off q. (parts.prepares.sent to s off q.0, dispatched_threads to s q.1);
      opens = λ t x s runs is may q. (parts.prepares.opens t x s runs is may q.0, activates_right bodies None t (Some x) s (λ y k. ap (λ (z : ServerState). z.consumed) (only (sym k ∙ is)) ∙ opening_none x may) q.1);
    };
    charges = λ t s ready runs q. (parts.charges t s ready runs q.0, charges_right t s ready runs q.1, charges_alert t s runs q.1);
    idles = λ s ready q. (parts.idles s ready q.0, λ u. thread_later s.machine.now (thread_at s.machine u).status (thread_at s.machine u).policy (thread_at s.machine u).server (ready.closed u refl) (q.1 u));
    ends = λ tolled t s q. (parts.ends tolled t s q.0, ended_right bodies t (tick_end tolled s.machine.quantum (thread_at s.machine t)) s q.1 (thread_ends bodies t tolled s.machine.quantum s.machine.now (thread_at s.machine t) q.2 (subst (λ (own : Bool). ThreadRight own s.machine.now (thread_at s.machine t)) (own_is t) (q.1 t))));
  }
    where
      own_is : (t : ℕ) → (t == t) ≡ true
      own_is t = grind arith
