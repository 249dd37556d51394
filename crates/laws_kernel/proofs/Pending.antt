-- The records that are pending are few, and there is a place for each that may become pending.
use Rattle.std.proofs.Common.{◌≡◌, ◌≤◌, ◌<◌, ◌+◌, ℕ, suc, true, false, ap, arith, length}
use Rattle.std.specs.Prelude.{filter_map, is_some, map, nat_le}
use Rattle.rules_bodies.specs.declared.cursor.Cursor.{Cursor}
use Rattle.rules_machine.specs.GoodState.{SerialsAreRight, count_of, serial_of}
use Rattle.rules_machine.specs.Lists.{is}
use Rattle.rules_machine.specs.Signals.{is_counted, record_limit}
use Rattle.rules_machine.specs.State.{Machine, SignalRecord, Thread}
use Rattle.rules_machine.specs.Threads.{catches_signal, waiting_in}
use Rattle.rules_moves.proofs.Waiters.Best.{Each}
use Rattle.laws_machine.proofs.Signals.Records.{RecordsAreRight}
use Rattle.laws_threads.specs.EachThread.{IsSourced}
use Rattle.kernel_state.specs.Pending.{PendingFits}
use Rattle.laws_kernel.specs.Counts.{Counts, HasSerials, counts_of}
use Rattle.laws_kernel.proofs.Members.{all_of, each_of, each_so, of_mapped, second_part}
use Rattle.laws_kernel.proofs.Counting.{all_counted, count_within, none_passes, some_few, some_fewer}
use Rattle.laws_kernel.proofs.ObjectsLaw.{IsNamed, registered_within}

-- ---- the records of a machine

room_left : (n : ℕ) → nat_le record_limit n ≡ false → suc n ≤ 64
room_left n e = grind arith

module _ (c : Counts) (few_timers : c.timers ≤ 32) (few_queues : c.queues ≤ 16) (m : Machine Cursor) (named : Each (IsNamed c) m.pending) where
  timers_named : Each (λ (r : SignalRecord). (k : ℕ) → is r.timer k ≡ true → k < c.timers) m.pending
  timers_named = each_so (IsNamed c) (λ (r : SignalRecord). (k : ℕ) → is r.timer k ≡ true → k < c.timers) m.pending (λ r h. h.timer) named

  queues_named : Each (λ (r : SignalRecord). (q : ℕ) → is r.queue q ≡ true → q < c.queues) m.pending
  queues_named = each_so (IsNamed c) (λ (r : SignalRecord). (q : ℕ) → is r.queue q ≡ true → q < c.queues) m.pending (λ r h. h.queue) named

  -- each serial is paid for by a tick, a timer, a queue or a thread
  pub serials_left : (one_of_timer : (k : ℕ) → count_of (λ (r : SignalRecord). is r.timer k) m.pending ≤ 1) → (one_of_queue : (q : ℕ) → count_of (λ (r : SignalRecord). is r.queue q) m.pending ≤ 1) →
      length m.threads ≤ 256 → SerialsAreRight m → HasSerials m
  serials_left one_of_timer one_of_queue few right early =
      let catching = count_within catches_signal m.threads in
      let of_timers = some_few (λ (r : SignalRecord). r.timer) c.timers m.pending timers_named one_of_timer in
      let of_queues = some_few (λ (r : SignalRecord). r.queue) c.queues m.pending queues_named one_of_queue in
      let paid = right.few in
      omega (arith, few, catching, of_timers, of_queues, paid, early, few_timers, few_queues)

  module _ (counts : counts_of m ≡ c) (sourced : Each IsSourced m.pending) (right : RecordsAreRight m) (serials : SerialsAreRight m) where
    abbrev counted : ℕ
    counted = count_of (λ (r : SignalRecord). is_counted r.code) m.pending

    abbrev timed : ℕ
    timed = count_of (λ (r : SignalRecord). is_some r.timer) m.pending

    abbrev queued : ℕ
    queued = count_of (λ (r : SignalRecord). is_some r.queue) m.pending

    of_three : length m.pending ≤ counted + timed + queued
    of_three = all_counted (λ (r : SignalRecord). is_counted r.code) (λ (r : SignalRecord). is_some r.timer) (λ (r : SignalRecord). is_some r.queue) m.pending sourced

    timed_few : timed ≤ c.timers
    timed_few = some_few (λ (r : SignalRecord). r.timer) c.timers m.pending timers_named right.one_of_timer

    queued_few : queued ≤ c.queues
    queued_few = some_few (λ (r : SignalRecord). r.queue) c.queues m.pending queues_named right.one_of_queue

    pub pending_fits : PendingFits m
    pending_fits = record {
      calls = λ e. let left = room_left counted e in let all = of_three in let t = timed_few in let q = queued_few in omega (arith, left, all, t, q, few_timers, few_queues);
      timers = λ k lt none.
          let here : k < c.timers = (let same = ap (λ (n : Counts). n.timers) counts in omega (arith, lt, same)) in
          let fewer = some_fewer (λ (r : SignalRecord). r.timer) k c.timers m.pending timers_named right.one_of_timer here (none_passes (λ (r : SignalRecord). is r.timer k) m.pending none) in
          let few = right.few in let all = of_three in let q = queued_few in omega (arith, few, all, fewer, q, few_timers, few_queues);
      queues = λ q r e.
          let here : q < c.queues = (let lt = registered_within m.queues q r e in let same = ap (λ (n : Counts). n.queues) counts in omega (arith, lt, same)) in
          let fewer = some_fewer (λ (r : SignalRecord). r.queue) q c.queues m.pending queues_named right.one_of_queue here (right.free q r e) in
          let few = right.few in let all = of_three in let t = timed_few in omega (arith, few, all, fewer, t, few_timers, few_queues);
      youngest = all_of (λ (r : SignalRecord). r.serial < m.next_serial) m.pending
          (of_mapped (λ (n : ℕ). n < m.next_serial) (λ (r : SignalRecord). r.serial) m.pending
          (second_part (λ (n : ℕ). n < m.next_serial) (filter_map (λ (th : Thread Cursor). serial_of (waiting_in th.status)) m.threads) (map (λ (r : SignalRecord). r.serial) m.pending)
          (each_of (λ (n : ℕ). n < m.next_serial) _ serials.below)));
    }
