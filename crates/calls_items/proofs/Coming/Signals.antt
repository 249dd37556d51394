-- A thread that came to run by a signal or a timer has a direct move.
use Rattle.std.proofs.Common.{◌≡◌, ℕ, zero, suc, None, Option, Some, ap, refl, sym, ◌∙◌}
use Rattle.std.specs.Prelude.{◌+◌, ◌&&◌}
use Rattle.rules_lists.specs.Threads.{stands_in}
use Rattle.words_numbers.specs.Signals.{has_signal}
use Rattle.words_numbers.specs.declared.res.Res.TheVariants as res
use Rattle.words_trace.specs.declared.event.Event.TheVariants as event
use Rattle.rules_machine.specs.CallNames.{name_of}
use Rattle.rules_machine.specs.Signals.{acceptor, becomes_pending, delivers, generates, is_accepted_or_pends, may_go_to, has_no_room, is_ignore, selected, sends_signal, sets_mask, tells_overrun, waits_signal, takes_signal_or_waits, blocks_for_signal, without_record}
use Rattle.rules_machine.specs.State.{SignalRecord, for_signal}
use Rattle.rules_machine.specs.Threads.{action_of, can_run, timer_at, waiting_of}
use Rattle.rules_machine.specs.Timers.{expires, is_pending_from, overrun_once_more, record_of_timer, signals_expiry}
use Rattle.rules_machine.specs.Turns.{Caller, Turn, changes_pending, changes_timer, returns, tells}
use Rattle.rules_machine.specs.Waiters.{Waiter}
use Rattle.rules_machine.specs.Waking.{call_in, wakes}
use Rattle.calls_items.proofs.Coming.Steps.{Comes, KeepsMoves, blocks_come, changed_come, come_later, fewer_come, if_come, if_keeps, nobody_comes, returned_come, returns_come, returns_fewer, wakes_come, woken_keeps}

-- ---- delivery

overrun_runs : {P : Type 0} (o : Option ℕ) (s : Turn P) (u : ℕ) → can_run (tells_overrun o s).machine u ≡ can_run s.machine u
overrun_runs None s u = refl
overrun_runs (Some k) s u = refl

overrun_direct : {P : Type 0} (o : Option ℕ) (s : Turn P) → (tells_overrun o s).direct ≡ s.direct
overrun_direct None s = refl
overrun_direct (Some k) s = refl

delivers_runs : {P : Type 0} (t : ℕ) (r : SignalRecord) (s : Turn P) (u : ℕ) → can_run (delivers t r s).machine u ≡ can_run s.machine u
delivers_runs t r s u = overrun_runs r.timer (tells (event.Deliver t r.signal r.code r.value) s) u

delivers_keeps : {P : Type 0} (t : ℕ) (r : SignalRecord) (s : Turn P) → KeepsMoves s (delivers t r s)
delivers_keeps t r s u h = ap (stands_in u) (overrun_direct r.timer (tells (event.Deliver t r.signal r.code r.value) s)) ∙ h

delivers_come : {P : Type 0} (t : ℕ) (r : SignalRecord) (s : Turn P) → Comes s (delivers t r s)
delivers_come t r s = fewer_come s.machine (delivers t r s).machine (delivers t r s).direct (λ u h. sym (delivers_runs t r s u) ∙ h)

-- ---- generation

generates_for_come : {P : Type 0} (o : Option Waiter) (r : SignalRecord) (s : Turn P) → Comes s (is_accepted_or_pends o r s)
generates_for_come (Some w) r s =
    let x = delivers w.thread r s in
    let y = wakes w.thread res.Zero r.signal x in
    come_later s.machine x.machine y.machine y.direct (delivers_runs w.thread r s) (wakes_come w.thread res.Zero r.signal x)
generates_for_come None r s = if_come (is_ignore (action_of s.machine r.signal)) _ _ s (nobody_comes s) (fewer_come s.machine (becomes_pending r s).machine s.direct (λ u h. h))

pub generates_come : {P : Type 0} (r : SignalRecord) (s : Turn P) → Comes s (generates r s)
generates_come r s = generates_for_come (acceptor s.machine r) r s

generates_for_keeps : {P : Type 0} (o : Option Waiter) (r : SignalRecord) (s : Turn P) → KeepsMoves s (is_accepted_or_pends o r s)
generates_for_keeps (Some w) r s u h =
    let x = delivers w.thread r s in
    woken_keeps (event.Return w.thread (name_of (call_in (waiting_of x.machine w.thread))) res.Zero r.signal) w.thread res.Zero r.signal x u (delivers_keeps w.thread r s u h)
generates_for_keeps None r s u h = if_keeps (is_ignore (action_of s.machine r.signal)) _ _ s (λ v k. k) (λ v k. k) u h

pub generates_keeps : {P : Type 0} (r : SignalRecord) (s : Turn P) → KeepsMoves s (generates r s)
generates_keeps r s = generates_for_keeps (acceptor s.machine r) r s

-- ---- calls

pub sends_signal_come : {P : Type 0} (b : Caller) (r : SignalRecord) (s : Turn P) → Comes s (sends_signal b r s)
sends_signal_come b r s = if_come (has_no_room s.machine r) _ _ s (returns_come b res.Again 0 s) (returned_come b res.Zero 0 (generates r) s (generates_come r (returns b res.Zero 0 s)))

pub sets_mask_come : {P : Type 0} (b : Caller) (change : ℕ → ℕ) (s : Turn P) → Comes s (sets_mask b change s)
sets_mask_come b change s = changed_come b b.thread (λ th. record th { mask = change th.mask }) res.Zero 0 s (λ th. refl)

waits_ticks_come : {P : Type 0} (ticks : Option ℕ) (b : Caller) (set : ℕ) (s : Turn P) → Comes s (blocks_for_signal ticks b set s)
waits_ticks_come None b set s = blocks_come b (for_signal set) None s
waits_ticks_come (Some zero) b set s = returns_come b res.Again 0 s
waits_ticks_come (Some (suc n)) b set s = blocks_come b (for_signal set) (Some (s.machine.now + suc n)) s

waits_signal_on_come : {P : Type 0} (o : Option SignalRecord) (ticks : Option ℕ) (b : Caller) (set : ℕ) (s : Turn P) → Comes s (takes_signal_or_waits o ticks b set s)
waits_signal_on_come (Some r) ticks b set s =
    let x = delivers b.thread r (changes_pending (without_record r) s) in
    fewer_come s.machine (returns b res.Zero r.signal x).machine (returns b res.Zero r.signal x).direct
    (λ u h. sym (delivers_runs b.thread r (changes_pending (without_record r) s) u) ∙ returns_fewer b res.Zero r.signal x u h)
waits_signal_on_come None ticks b set s = waits_ticks_come ticks b set s

pub waits_signal_come : {P : Type 0} (ticks : Option ℕ) (b : Caller) (set : ℕ) (s : Turn P) → Comes s (waits_signal ticks b set s)
waits_signal_come ticks b set s = waits_signal_on_come (selected s.machine (λ (r : SignalRecord). has_signal set r.signal && may_go_to b.thread r.target)) ticks b set s

-- ---- timers

signals_expiry_come : {P : Type 0} (k : ℕ) (s : Turn P) → Comes s (signals_expiry k s)
signals_expiry_come k s =
    if_come (is_pending_from k s.machine) _ _ s (fewer_come s.machine (changes_timer k overrun_once_more s).machine s.direct (λ u h. h)) (generates_come (record_of_timer k (timer_at s.machine k)) s)

pub expires_come : {P : Type 0} (k : ℕ) (s : Turn P) → Comes s (expires k s)
expires_come k s u off runs = signals_expiry_come k s u off runs
