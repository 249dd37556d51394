-- What sweeps and due items keep small.
use Rattle.std.proofs.Common.{Bool, List, None, Option, Some, [], arith, false, refl, suc, true, zero, ℕ, ◌^◌, ◌<◌, ◌≤◌, ◌∷◌, ◌≡◌}
use Rattle.std.specs.Prelude.{if◌then◌else◌}
use Rattle.words_numbers.specs.declared.item.Item.{Item}
use Rattle.words_numbers.specs.declared.item.Item.TheVariants as item
use Rattle.words_numbers.specs.declared.res.Res.TheVariants as res
use Rattle.words_script.specs.declared.call.Call.{Call}
use Rattle.words_script.specs.declared.call.Call.TheVariants as call
use Rattle.rules_bodies.specs.Next.{capped}
use Rattle.words_trace.specs.declared.event.Event.TheVariants as event
use Rattle.rules_machine.specs.declared.frame.BodyOf.TheVariants as body_of
use Rattle.rules_machine.specs.declared.frame.FrameKind.TheVariants as frame
use Rattle.rules_machine.specs.declared.signal.SigAction.{SigAction}
use Rattle.rules_machine.specs.declared.signal.SigAction.TheVariants as action
use Rattle.rules_machine.specs.declared.thread.CondEnd.TheVariants as cond_end
use Rattle.rules_machine.specs.Bodies.{Bodies}
use Rattle.rules_machine.specs.State.{SignalRecord, Wait, Waiting, for_condition, for_signal, for_time}
use Rattle.rules_machine.specs.Threads.{action_of, is_live, thread_at, thread_numbers, waiting_of}
use Rattle.rules_machine.specs.Turns.{Turn, changes_pending, settles_since}
use Rattle.rules_machine.specs.Waking.{new_frame, on_top}
use Rattle.rules_machine.specs.Signals.{delivers, selected, without_record}
use Rattle.rules_machine.specs.Delivery.{acts, can_take, interrupts, may_be_interrupted, sweeps, sweeps_all, sweeps_thread, takes_record, ticks_left}
use Rattle.rules_machine.specs.DueItems.{handles, instant, item_bound, item_done, item_then, items_done, next_item, times_out, wait_times_out}
use Rattle.rules_machine.proofs.ItemsEnd.{is_due, next_is_due}
use Rattle.laws_numbers.specs.Numbers.{DueSmall, IsSmall, RecordSmall, TurnSmall}
use Rattle.laws_numbers.proofs.Lists.{live_within, starting_within, waiting_within}
use Rattle.laws_numbers.proofs.Turns.{capped_small, tells_small, wait_of_small, within}
use Rattle.laws_numbers.proofs.Waking.{contends_small, refills_small, starts_small, wakes_small, zero_small}
use Rattle.laws_numbers.proofs.Calls.{delivers_small, expires_small, out_small, plain_small, selected_small}
use Rattle.laws_numbers.proofs.Limits.{ticks_to_small}

left_small : (c : Call) (due : Option ℕ) (now : ℕ) → DueSmall due → IsSmall (ticks_left c due now)
left_small (call.Nanosleep n) (Some due) now h = ticks_to_small (Some due) now h
left_small (call.Nanosleep n) None now h = zero_small
left_small c due now h = zero_small

module _ {P : Type 0} (count top : ℕ) (low : top ≤ 10 ^ 18) where
  abbrev Small : Turn P → Type 0
  Small s = TurnSmall count top s

  -- ---- the sweep

  interrupts_small : (o : Option Waiting) (t : ℕ) (s : Turn P) → waiting_of s.machine t ≡ o → Small s → Small (interrupts o t s)
  interrupts_small None t s e h = h
  interrupts_small (Some w) t s e h =
      wakes_small count top low t res.Intr (ticks_left w.call w.due s.machine.now) s (within count top low t s (waiting_within s.machine.threads t w e) h)
      (left_small w.call w.due s.machine.now (wait_of_small count top low t w s e h).time.due) h

  module _ (bodies : Bodies P) where
    acts_small : (a : SigAction) (t : ℕ) (r : SignalRecord) (s : Turn P) → t < count → RecordSmall r → Small s → Small (acts bodies a t r s)
    acts_small action.Kill t r s lt k h = tells_small count top low (event.Killed r.signal) s k.signal h
    acts_small action.Ignore t r s lt k h = h
    acts_small (action.Handler n) t r s lt k h =
        let out = changes_pending (without_record r) s in
        let woke = interrupts (waiting_of s.machine t) t out in
        let x = delivers t r woke in
        plain_small count top low t (on_top (new_frame bodies frame.Signal (body_of.Handler n) (capped r.value))) x (λ th y. record {
          status = y.status;
          policy = y.policy;
          server = y.server;
          frames = (record { register = capped_small r.value; value = (let capped = capped_small r.value in omega (arith, capped)); left = zero_small }, y.frames);
          exit_value = y.exit_value;
          joiner = y.joiner;
        }) (delivers_small count top low t r woke lt k (interrupts_small (waiting_of s.machine t) t out refl (out_small count top low r s h)))

    sweeps_thread_small : (killed : Option ℕ) (t : ℕ) (s : Turn P) → Small s → Small (sweeps_thread bodies killed t s)
    sweeps_thread_small (Some signal) t s h = h
    sweeps_thread_small None t s h = free_or_not (may_be_interrupted (thread_at s.machine t)) refl
      where
        lives : may_be_interrupted (thread_at s.machine t) ≡ true → is_live (thread_at s.machine t).status ≡ true
        lives e = grind arith

        taken : (o : Option SignalRecord) → t < count → selected s.machine (can_take s.machine t) ≡ o → Small (takes_record bodies o t s)
        taken None lt e = h
        taken (Some r) lt e = acts_small (action_of s.machine r.signal) t r s lt (selected_small count top low (can_take s.machine t) r s e h) h

        free_or_not : (b : Bool) → may_be_interrupted (thread_at s.machine t) ≡ b → Small (takes_record bodies (if b then selected s.machine (can_take s.machine t) else None) t s)
        free_or_not true e = taken (selected s.machine (can_take s.machine t)) (within count top low t s (live_within s.machine.threads t (lives e)) h) refl
        free_or_not false e = h

    sweeps_all_small : (ts : List ℕ) (s : Turn P) → Small s → Small (sweeps_all bodies ts s)
    sweeps_all_small [] s h = h
    sweeps_all_small (t ∷ ts) s h = sweeps_all_small ts (sweeps_thread bodies s.machine.killed t s) (sweeps_thread_small s.machine.killed t s h)

    pub sweeps_small : (s : Turn P) → Small s → Small (sweeps bodies s)
    sweeps_small s h = sweeps_all_small (thread_numbers s.machine) s h

    -- ---- due items

    times_out_of_small : (wait : Wait) (t : ℕ) (s : Turn P) → t < count → Small s → Small (wait_times_out wait t s)
    times_out_of_small (for_condition c k) t s lt h = contends_small count top low t cond_end.Timedout s lt h
    times_out_of_small for_time t s lt h = wakes_small count top low t res.Zero 0 s lt zero_small h
    times_out_of_small (for_signal set) t s lt h = wakes_small count top low t res.Again 0 s lt zero_small h
    times_out_of_small _ t s lt h = wakes_small count top low t res.Timedout 0 s lt zero_small h

    times_out_small : (o : Option Waiting) (t : ℕ) (s : Turn P) → waiting_of s.machine t ≡ o → Small s → Small (times_out o t s)
    times_out_small None t s e h = h
    times_out_small (Some w) t s e h = times_out_of_small w.wait t s (within count top low t s (waiting_within s.machine.threads t w e) h) h

    handles_small : (i : Item) (s : Turn P) → is_due s.machine i ≡ true → Small s → Small (handles bodies i s)
    handles_small (item.Refill t) s e h = refills_small count top low t s h
    handles_small (item.Start t) s e h = starts_small count top low bodies t 0 s (within count top low t s (starting_within s.machine.threads t s.machine.now e) h) h
    handles_small (item.Timeout t) s e h = times_out_small (waiting_of s.machine t) t s refl h
    handles_small (item.Timer k) s e h = expires_small count top low k s h

    item_done_small : (i : Item) (s : Turn P) → next_item s.machine ≡ Some i → Small s → Small (item_done bodies i s)
    item_done_small i s e h = sweeps_small (settles_since s.machine (handles bodies i s)) (handles_small i s (next_is_due s.machine i e) h)

    item_then_small : (o : Option Item) (rest : Turn P → Turn P) (s : Turn P) → next_item s.machine ≡ o → ((s : Turn P) → Small s → Small (rest s)) → Small s → Small (item_then bodies o rest s)
    item_then_small None rest s e keeps h = h
    item_then_small (Some i) rest s e keeps h = keeps (item_done bodies i s) (item_done_small i s e h)

    pub items_done_small : (most : ℕ) (s : Turn P) → Small s → Small (items_done bodies most s)
    items_done_small zero s h = h
    items_done_small (suc most) s h = item_then_small (next_item s.machine) (items_done bodies most) s refl (items_done_small most) h

    pub instant_small : (s : Turn P) → Small s → Small (instant bodies s)
    instant_small s h = items_done_small (item_bound s.machine) s h
