-- The handling of due items ends: each takes one away of what is still to come, and the bound is enough.
use Rattle.std.proofs.Common.{Bool, List, None, Option, Some, [], ap, arith, false, length, refl, suc, sym, true, zero, ℕ, ◌+◌, ◌<◌, ◌≤◌, ◌∷◌, ◌++◌, ◌≡◌}
use Rattle.std.specs.Prelude.{cond, filter, map, option_and_then}
use mathlib.Core.Path.{subst, ◌∙◌}
use Rattle.words_numbers.specs.declared.item.Item.{Item}
use Rattle.words_numbers.specs.declared.item.Item.TheVariants as item
use Rattle.words_numbers.specs.declared.res.Res.TheVariants as res
use Rattle.rules_bodies.specs.Next.{capped}
use Rattle.words_trace.specs.declared.event.Event.TheVariants as event
use Rattle.rules_machine.specs.declared.frame.BodyOf.TheVariants as body_of
use Rattle.rules_machine.specs.declared.frame.FrameKind.TheVariants as frame
use Rattle.rules_machine.specs.declared.signal.SigAction.{SigAction}
use Rattle.rules_machine.specs.declared.signal.SigAction.TheVariants as action
use Rattle.rules_machine.specs.declared.thread.CondEnd.TheVariants as cond_end
use Rattle.rules_machine.specs.Lists.{numbers}
use Rattle.rules_machine.specs.Bodies.{Bodies}
use Rattle.rules_machine.specs.State.{Machine, SignalRecord, Thread, Timer, Wait, Waiting, for_condition, for_signal, for_time}
use Rattle.rules_machine.specs.Threads.{action_of, thread_at, thread_numbers, timer_at, waiting_in, waiting_of}
use Rattle.rules_machine.specs.Turns.{Turn, changes_pending, settles_since, tells}
use Rattle.rules_machine.specs.Waking.{new_frame, on_top}
use Rattle.rules_machine.specs.Conditions.{reacquires_or_waits, released_mutex}
use Rattle.rules_machine.specs.Signals.{delivers, without_record}
use Rattle.rules_machine.specs.Delivery.{acts, interrupts, sweeps, sweeps_all, sweeps_thread, taken_by_sweep, takes_record, ticks_left}
use Rattle.rules_machine.specs.DueItems.{due_items, due_of_kind, first_item, handles, has_come, instant, item_bound, item_done, item_then, items_done, items_of_threads, next_item, refill_due, start_due, start_in, timeout_due, timer_due, times_out, wait_times_out}
use Rattle.rules_machine.proofs.Coming.{alarm, alarms, bit, changed_loads, coming, contends_falls, count, expires_falls, loads, overrun_falls, owes, refills_falls, starts_falls, wakes_falls}

-- ---- the next item is due

module _ {P : Type 0} (m : Machine P) where
  abbrev pub is_due : Item → Bool
  is_due (item.Refill t) = has_come (refill_due m t) m.now
  is_due (item.Start t) = has_come (start_due m t) m.now
  is_due (item.Timeout t) = has_come (timeout_due m t) m.now
  is_due (item.Timer k) = has_come (timer_due m k) m.now

  abbrev FirstIsDue : List Item → Type 0
  FirstIsDue items = (i : Item) → first_item None items ≡ Some i → is_due i ≡ true

  first_of_both : (xs ys : List Item) → FirstIsDue xs → FirstIsDue ys → FirstIsDue (xs ++ ys)
  first_of_both [] ys h g = g
  first_of_both (x ∷ xs) ys h g = h

  due_of_first : (kind : ℕ → Item) (due : Machine P → ℕ → Option ℕ) → ((n : ℕ) → is_due (kind n) ≡ has_come (due m n) m.now) → (ns : List ℕ) → FirstIsDue (due_of_kind kind due ns m)
  due_of_first kind due h [] = λ i e. absurd (grind arith)
  due_of_first kind due h (n ∷ ns) = split (has_come (due m n) m.now) refl (due_of_first kind due h ns)
    where
      split : (b : Bool) → has_come (due m n) m.now ≡ b → FirstIsDue (due_of_kind kind due ns m) →
          FirstIsDue (map kind (cond b (n ∷ filter (λ (n : ℕ). has_come (due m n) m.now) ns) (filter (λ (n : ℕ). has_come (due m n) m.now) ns)))
      split true come rest i e = let it : kind n ≡ i = grind arith in subst (λ (i : Item). is_due i ≡ true) it (h n ∙ come)
      split false come rest i e = rest i e

  due_items_first : FirstIsDue (due_items m)
  due_items_first =
      let refills_first = due_of_kind item.Refill refill_due (thread_numbers m) m in
      let starts_next = due_of_kind item.Start start_due (thread_numbers m) m in
      let timeouts_next = due_of_kind item.Timeout timeout_due (thread_numbers m) m in
      let timers_last = due_of_kind item.Timer timer_due (numbers m.timers) m in
      first_of_both (refills_first ++ starts_next ++ timeouts_next) timers_last
      (first_of_both (refills_first ++ starts_next) timeouts_next
      (first_of_both refills_first starts_next (due_of_first item.Refill refill_due (λ n. refl) (thread_numbers m)) (due_of_first item.Start start_due (λ n. refl) (thread_numbers m)))
      (due_of_first item.Timeout timeout_due (λ n. refl) (thread_numbers m)))
      (due_of_first item.Timer timer_due (λ n. refl) (numbers m.timers))

  pub next_is_due : (i : Item) → next_item m ≡ Some i → is_due i ≡ true
  next_is_due i e = unless m.killed (due_items m) due_items_first e
    where
      unless : (killed : Option ℕ) (items : List Item) → FirstIsDue items → first_item killed items ≡ Some i → is_due i ≡ true
      unless None items h e = h i e
      unless (Some signal) items h e = absurd (grind arith)

come_counts : (o : Option ℕ) (now : ℕ) → has_come o now ≡ true → count o ≡ 1
come_counts None now e = absurd (grind arith)
come_counts (Some n) now e = refl

at_most_one : (o : Option ℕ) → count o ≤ 1
at_most_one None = omega arith
at_most_one (Some n) = omega arith

bit_small : (b : Bool) → bit b ≤ 1
bit_small true = omega arith
bit_small false = omega arith

alarms_few : (now : ℕ) (ks : List Timer) → alarms now ks ≤ length ks
alarms_few now [] = omega arith
alarms_few now (k ∷ ks) = omega (arith, alarms_few now ks, bit_small (has_come k.due now))

loads_few : {P : Type 0} (ths : List (Thread P)) → loads ths ≤ items_of_threads ths
loads_few [] = omega arith
loads_few (th ∷ ths) = omega (arith, loads_few ths, at_most_one (start_in th.status), at_most_one (option_and_then (λ (w : Waiting). w.due) (waiting_in th.status)))

module _ {P : Type 0} (bodies : Bodies P) where
  -- ---- a sweep adds nothing

  interrupts_falls : (w : Option Waiting) (t : ℕ) (s : Turn P) → coming (interrupts w t s).machine ≤ coming s.machine
  interrupts_falls None t s = omega arith
  interrupts_falls (Some w) t s = omega (arith, wakes_falls t res.Intr (ticks_left w.call w.due s.machine.now) s)

  acts_falls : (a : SigAction) (t : ℕ) (r : SignalRecord) (s : Turn P) → coming (acts bodies a t r s).machine ≤ coming s.machine
  acts_falls action.Kill t r s = omega arith
  acts_falls action.Ignore t r s = omega arith
  acts_falls (action.Handler h) t r s =
      let out = changes_pending (without_record r) s in
      let woken = interrupts (waiting_of s.machine t) t out in
      let told = delivers t r woken in
      omega (
        arith,
        interrupts_falls (waiting_of s.machine t) t out,
        overrun_falls r.timer (tells (event.Deliver t r.signal r.code r.value) woken),
        changed_loads t (on_top (new_frame bodies frame.Signal (body_of.Handler h) (capped r.value))) (λ th. 0) (λ th. omega arith) told.machine.threads,
      )

  takes_record_falls : (r : Option SignalRecord) (t : ℕ) (s : Turn P) → coming (takes_record bodies r t s).machine ≤ coming s.machine
  takes_record_falls None t s = omega arith
  takes_record_falls (Some r) t s = acts_falls (action_of s.machine r.signal) t r s

  sweeps_thread_falls : (killed : Option ℕ) (t : ℕ) (s : Turn P) → coming (sweeps_thread bodies killed t s).machine ≤ coming s.machine
  sweeps_thread_falls None t s = takes_record_falls (taken_by_sweep s.machine t) t s
  sweeps_thread_falls (Some signal) t s = omega arith

  sweeps_all_falls : (ts : List ℕ) (s : Turn P) → coming (sweeps_all bodies ts s).machine ≤ coming s.machine
  sweeps_all_falls [] s = omega arith
  sweeps_all_falls (t ∷ ts) s = omega (arith, sweeps_all_falls ts (sweeps_thread bodies s.machine.killed t s), sweeps_thread_falls s.machine.killed t s)

  sweeps_falls : (s : Turn P) → coming (sweeps bodies s).machine ≤ coming s.machine
  sweeps_falls s = sweeps_all_falls (thread_numbers s.machine) s

  -- ---- a timeout takes one away

  owes_due : (th : Thread P) (w : Waiting) → waiting_in th.status ≡ Some w → count w.due ≤ owes th
  owes_due th w e = rw e (omega arith)

  times_out_of_falls : (wait : Wait) (w : Waiting) (t : ℕ) (s : Turn P) → w.wait ≡ wait → waiting_of s.machine t ≡ Some w → coming (wait_times_out wait t s).machine + count w.due ≤ coming s.machine
  times_out_of_falls (for_condition c k) w t s h e =
      let mutex : option_and_then (λ (w : Waiting). released_mutex w.wait) (waiting_of s.machine t) ≡ Some k = ap (option_and_then (λ (w : Waiting). released_mutex w.wait)) e ∙ ap released_mutex h in
      subst (λ (o : Option ℕ). coming (reacquires_or_waits o t cond_end.Timedout s).machine + count w.due ≤ coming s.machine) (sym mutex)
      (omega (arith, contends_falls k t cond_end.Timedout s, owes_due (thread_at s.machine t) w e))
  times_out_of_falls for_time w t s h e = omega (arith, wakes_falls t res.Zero 0 s, owes_due (thread_at s.machine t) w e)
  times_out_of_falls (for_signal set) w t s h e = omega (arith, wakes_falls t res.Again 0 s, owes_due (thread_at s.machine t) w e)
  times_out_of_falls _ w t s h e = omega (arith, wakes_falls t res.Timedout 0 s, owes_due (thread_at s.machine t) w e)

  times_out_falls : (o : Option Waiting) (t : ℕ) (s : Turn P) → waiting_of s.machine t ≡ o → coming (times_out o t s).machine + count (option_and_then (λ (w : Waiting). w.due) o) ≤ coming s.machine
  times_out_falls None t s e = omega arith
  times_out_falls (Some w) t s e = times_out_of_falls w.wait w t s refl e

  -- ---- each item takes one away

  handles_falls : (i : Item) (s : Turn P) → is_due s.machine i ≡ true → coming (handles bodies i s).machine < coming s.machine
  handles_falls (item.Refill t) s e =
      omega (arith, refills_falls t (thread_at s.machine t).server s refl, come_counts (refill_due s.machine t) s.machine.now e)
  handles_falls (item.Start t) s e = omega (arith, starts_falls bodies t 0 s, come_counts (start_due s.machine t) s.machine.now e)
  handles_falls (item.Timeout t) s e = omega (arith, times_out_falls (waiting_of s.machine t) t s refl, come_counts (timeout_due s.machine t) s.machine.now e)
  handles_falls (item.Timer k) s e = let rung : alarm s.machine.now (timer_at s.machine k) ≡ 1 = ap bit e in omega (arith, expires_falls k s, rung)

  pub item_falls : (s : Turn P) (i : Item) → next_item s.machine ≡ Some i → coming (item_done bodies i s).machine < coming s.machine
  item_falls s i e = omega (arith, handles_falls i s (next_is_due s.machine i e), sweeps_falls (settles_since s.machine (handles bodies i s)))

  -- ---- so the bound is enough

  one_more : (most : ℕ) (s : Turn P) (o : Option Item) → next_item s.machine ≡ o → coming s.machine ≤ suc most →
      ((i : Item) → coming (item_done bodies i s).machine ≤ most → next_item (items_done bodies most (item_done bodies i s)).machine ≡ None) →
      next_item (item_then bodies o (items_done bodies most) s).machine ≡ None
  one_more most s None e small rest = e
  one_more most s (Some i) e small rest = let fell = item_falls s i e in rest i (omega arith)

  pub items_end : (most : ℕ) (s : Turn P) → coming s.machine ≤ most → next_item (items_done bodies most s).machine ≡ None
  items_end zero s small = none_left (next_item s.machine) refl
    where
      none_left : (o : Option Item) → next_item s.machine ≡ o → next_item s.machine ≡ None
      none_left None e = e
      none_left (Some i) e = let fell = item_falls s i e in absurd (omega arith)
  items_end (suc most) s small = one_more most s (next_item s.machine) refl small (λ i h. items_end most (item_done bodies i s) h)

  -- after the items of an instant no item is due at it
  pub instant_ends : (s : Turn P) → next_item (instant bodies s).machine ≡ None
  instant_ends s = items_end (item_bound s.machine) s (omega (arith, loads_few s.machine.threads, alarms_few s.machine.now s.machine.timers))
