-- No call changes what is kept.
use Rattle.rules_machine.specs.Servers.{at_once}
use Rattle.std.proofs.Common.{Bool, List, None, Option, Some, [], arith, false, length, refl, suc, true, zero, ℕ, ◌+◌, ◌∷◌, ◌≡◌}
use Rattle.std.specs.Prelude.{nat_lt, not, option_and_then, ◌&&◌}
use mathlib.Core.Path.{◌∙◌}
use Rattle.words_numbers.specs.Signals.{has_signal}
use Rattle.words_numbers.specs.declared.res.Res.TheVariants as res
use Rattle.words_script.specs.declared.call.Call.{Call}
use Rattle.words_script.specs.declared.call.Call.TheVariants as call
use Rattle.words_script.specs.declared.policy.Policy.{Policy}
use Rattle.rules_bodies.specs.declared.unit.Unit.{Unit}
use Rattle.rules_bodies.specs.declared.unit.Unit.TheVariants as unit
use Rattle.words_trace.specs.declared.event.Event.TheVariants as event
use Rattle.rules_machine.specs.declared.frame.FrameKind.{FrameKind}
use Rattle.rules_machine.specs.declared.frame.FrameKind.TheVariants as frame
use Rattle.rules_machine.specs.declared.thread.CondEnd.{CondEnd}
use Rattle.rules_machine.specs.declared.thread.CondEnd.TheVariants as cond_end
use Rattle.rules_machine.specs.Bodies.{Bodies}
use Rattle.rules_machine.specs.Clock.{changes_each, clock_at, clock_limit, due_as_set, moves_times, sets_real_clock, thread_moved, timer_moved}
use Rattle.rules_machine.specs.Lists.{numbers}
use Rattle.rules_machine.specs.State.{Joiner, Message, Registration, SignalRecord, Wait, Waiting, for_condition, for_end, for_message, for_mutex, for_mutex_again, has_joined, nobody, waits_to_join}
use Rattle.rules_machine.specs.Threads.{moment_of, number_of, queue_at, real_time, thread_at, thread_numbers, top_kind, waiting_of}
use Rattle.rules_machine.specs.Waiters.{Waiter, best_waiter, waiters}
use Rattle.rules_machine.specs.Turns.{Caller, Turn, becomes, changes, changes_pending, changes_queue, changes_timer, moves, moves_if, returns, tells, ◌▷◌}
use Rattle.rules_machine.specs.Waking.{started, starts, wakes}
use Rattle.rules_machine.specs.Mutexes.{moves_unless_boosted, owns_boosting, trylock_answer, unlocks}
use Rattle.rules_machine.specs.Conditions.{contends, reacquires_or_waits, released_mutex, signals_best_times, signals_waiter, waits, waits_on_condition}
use Rattle.rules_machine.specs.Semaphores.{blocks_unless_late, wakes_waiter_or_raises_value, tries_semaphore, waits_on_semaphore, waits_semaphore}
use Rattle.rules_machine.specs.Signals.{acceptor, delivers, generates, is_accepted_or_pends, may_go_to, record_of_kill, record_of_sigqueue, selected, sends_signal, tells_overrun, takes_signal_or_waits, blocks_for_signal, without_record}
use Rattle.rules_machine.specs.Timers.{sleeps_until}
use Rattle.rules_machine.specs.Queues.{asks_notification, blocks_unless_nonblock, enters, fired_by_message, message_of, next_message, notifies, takes_message_or_blocks, record_of_notification, registered, sends_message, reaches_receiver_or_queue, takes_over, value_at, waits_to_send, with_message, without_message}
use Rattle.rules_machine.specs.Lives.{creates, ends_frame, joins, wakes_joiner, with_joiner, without_life, without_target}
use Rattle.rules_machine.specs.Cancellation.{acts_if_blocked, cancels, leaves, leaves_wait}
use Rattle.rules_machine.specs.Scheduling.{sets_policy, sets_priority}
use Rattle.rules_machine.specs.Calls.{call_effect, makes_call, unit_effect}
use Rattle.rules_machine.proofs.Kept.{activates_if_kept, activates_server_kept, if_kept, kept, locks_kept, locks_on_kept, releases_kept, returns_from_wait_kept, wakes_cancelled_kept, wakes_kept}

-- ---- conditions

pub contends_for_kept : {P : Type 0} (k : Option ℕ) (t : ℕ) (how : CondEnd) (s : Turn P) → kept (reacquires_or_waits k t how s) ≡ kept s
contends_for_kept None t how s = refl
contends_for_kept (Some k) t how s = grind (arith, returns_from_wait_kept)

pub contends_kept : {P : Type 0} (t : ℕ) (how : CondEnd) (s : Turn P) → kept (contends t how s) ≡ kept s
contends_kept t how s = contends_for_kept (option_and_then (λ (w : Waiting). released_mutex w.wait) (waiting_of s.machine t)) t how s

pub signals_waiter_kept : {P : Type 0} (w : Option Waiter) (s : Turn P) → kept (signals_waiter w s) ≡ kept s
signals_waiter_kept None s = refl
signals_waiter_kept (Some w) s = contends_kept w.thread cond_end.Signalled s

pub signals_best_of_kept : {P : Type 0} (n c : ℕ) (s : Turn P) → kept (signals_best_times n c s) ≡ kept s
signals_best_of_kept zero c s = refl
signals_best_of_kept (suc n) c s =
    signals_waiter_kept (best_waiter (signals_best_times n c s).machine (waits_on_condition c)) (signals_best_times n c s) ∙ signals_best_of_kept n c s

pub waits_kept : {P : Type 0} (by : Caller) (c k : ℕ) (due : Option ℕ) (s : Turn P) → kept (waits by c k due s) ≡ kept s
waits_kept by c k due s = grind (arith, releases_kept)

pub unlocks_kept : {P : Type 0} (by : Caller) (k : ℕ) (s : Turn P) → kept (unlocks by k s) ≡ kept s
unlocks_kept by k s = grind (arith, releases_kept)

-- ---- semaphores

pub blocks_unless_late_kept : {P : Type 0} (by : Caller) (wait : Wait) (due : Option ℕ) (s : Turn P) → kept (blocks_unless_late by wait due s) ≡ kept s
blocks_unless_late_kept by wait due s = grind arith

pub waits_semaphore_kept : {P : Type 0} (by : Caller) (k : ℕ) (due : Option ℕ) (s : Turn P) → kept (waits_semaphore by k due s) ≡ kept s
waits_semaphore_kept by k due s = grind (arith, blocks_unless_late_kept)

pub tries_semaphore_kept : {P : Type 0} (by : Caller) (k : ℕ) (s : Turn P) → kept (tries_semaphore by k s) ≡ kept s
tries_semaphore_kept by k s = grind arith

pub posts_to_kept : {P : Type 0} (w : Option Waiter) (by : Caller) (k : ℕ) (s : Turn P) → kept (wakes_waiter_or_raises_value w by k s) ≡ kept s
posts_to_kept (Some w) by k s = wakes_kept w.thread res.Zero 0 (returns by res.Zero 0 s)
posts_to_kept None by k s = grind arith

-- ---- signals

pub tells_overrun_kept : {P : Type 0} (k : Option ℕ) (s : Turn P) → kept (tells_overrun k s) ≡ kept s
tells_overrun_kept None s = refl
tells_overrun_kept (Some k) s = refl

pub delivers_kept : {P : Type 0} (t : ℕ) (r : SignalRecord) (s : Turn P) → kept (delivers t r s) ≡ kept s
delivers_kept t r s = tells_overrun_kept r.timer (tells (event.Deliver t r.signal r.code r.value) s)

pub generates_for_kept : {P : Type 0} (w : Option Waiter) (r : SignalRecord) (s : Turn P) → kept (is_accepted_or_pends w r s) ≡ kept s
generates_for_kept (Some w) r s = wakes_kept w.thread res.Zero r.signal (delivers w.thread r s) ∙ delivers_kept w.thread r s
generates_for_kept None r s = grind arith

pub generates_kept : {P : Type 0} (r : SignalRecord) (s : Turn P) → kept (generates r s) ≡ kept s
generates_kept r s = generates_for_kept (acceptor s.machine r) r s

pub sends_signal_kept : {P : Type 0} (by : Caller) (r : SignalRecord) (s : Turn P) → kept (sends_signal by r s) ≡ kept s
sends_signal_kept by r s = grind (arith, generates_kept)

pub waits_ticks_kept : {P : Type 0} (n : Option ℕ) (by : Caller) (set : ℕ) (s : Turn P) → kept (blocks_for_signal n by set s) ≡ kept s
waits_ticks_kept None by set s = refl
waits_ticks_kept (Some zero) by set s = refl
waits_ticks_kept (Some (suc n)) by set s = refl

pub waits_signal_on_kept : {P : Type 0} (r : Option SignalRecord) (n : Option ℕ) (by : Caller) (set : ℕ) (s : Turn P) → kept (takes_signal_or_waits r n by set s) ≡ kept s
waits_signal_on_kept (Some r) n by set s = delivers_kept by.thread r (changes_pending (without_record r) s)
waits_signal_on_kept None n by set s = waits_ticks_kept n by set s

pub sleeps_until_kept : {P : Type 0} (by : Caller) (at : ℕ) (s : Turn P) → kept (sleeps_until by at s) ≡ kept s
sleeps_until_kept by at s = grind arith

-- ---- message queues

pub notifies_kept : {P : Type 0} (r : Option Registration) (q : ℕ) (s : Turn P) → kept (notifies r q s) ≡ kept s
notifies_kept None q s = refl
notifies_kept (Some r) q s = generates_kept (record_of_notification q r) (changes_queue q (registered None) s)

pub enters_kept : {P : Type 0} (q : ℕ) (x : Message) (told : Turn P → Turn P) (s : Turn P) → ((s : Turn P) → kept (told s) ≡ kept s) → kept (enters q x told s) ≡ kept s
enters_kept q x told s h =
    notifies_kept (fired_by_message s.machine q) q (told (changes_queue q (with_message x) s)) ∙ h (changes_queue q (with_message x) s)

pub takes_over_kept : {P : Type 0} (w : Option Waiter) (q : ℕ) (s : Turn P) → kept (takes_over w q s) ≡ kept s
takes_over_kept None q s = refl
takes_over_kept (Some w) q s = enters_kept q (message_of w.waiting.wait) (wakes w.thread res.Zero 0) s (wakes_kept w.thread res.Zero 0)

pub blocks_unless_nonblock_kept : {P : Type 0} (by : Caller) (q : ℕ) (wait : Wait) (due : Option ℕ) (s : Turn P) → kept (blocks_unless_nonblock by q wait due s) ≡ kept s
blocks_unless_nonblock_kept by q wait due s = grind (arith, blocks_unless_late_kept)

pub sends_to_kept : {P : Type 0} (w : Option Waiter) (by : Caller) (q : ℕ) (x : Message) (due : Option ℕ) (s : Turn P) → kept (reaches_receiver_or_queue w by q x due s) ≡ kept s
sends_to_kept (Some w) by q x due s = wakes_kept w.thread res.Zero x.value (returns by res.Zero 0 s)
sends_to_kept None by q x due s =
    let entry : kept (enters q x (returns by res.Zero 0) s) ≡ kept s = enters_kept q x (returns by res.Zero 0) s (λ s. refl) in
    grind (arith, blocks_unless_nonblock_kept)

pub sends_message_kept : {P : Type 0} (by : Caller) (q len : ℕ) (x : Message) (due : Option ℕ) (s : Turn P) → kept (sends_message by q len x due s) ≡ kept s
sends_message_kept by q len x due s = grind (arith, sends_to_kept)

pub receives_on_kept : {P : Type 0} (n : Option ℕ) (by : Caller) (q : ℕ) (due : Option ℕ) (s : Turn P) → kept (takes_message_or_blocks n by q due s) ≡ kept s
receives_on_kept (Some n) by q due s =
    takes_over_kept (best_waiter s.machine (waits_to_send q)) q (returns by res.Zero (value_at (queue_at s.machine q).messages n) (changes_queue q (without_message n) s))
receives_on_kept None by q due s = blocks_unless_nonblock_kept by q (for_message q) due s

pub asks_notification_kept : {P : Type 0} (by : Caller) (q : ℕ) (r : Registration) (s : Turn P) → kept (asks_notification by q r s) ≡ kept s
asks_notification_kept by q r s = grind arith

-- ---- threads

pub starts_kept : {P : Type 0} (bodies : Bodies P) (t mask : ℕ) (s : Turn P) → kept (starts bodies t mask s) ≡ kept s
starts_kept bodies t mask s =
    let begun = tells (event.Start t) (moves t (changes t (started bodies t mask s.machine.now) s)) in activates_server_kept t (at_once (thread_at begun.machine t).server) begun

pub creates_kept : {P : Type 0} (bodies : Bodies P) (by : Caller) (u : ℕ) (s : Turn P) → kept (creates bodies by u s) ≡ kept s
creates_kept bodies by u s = grind (arith, starts_kept)

pub joins_kept : {P : Type 0} (by : Caller) (u : ℕ) (s : Turn P) → kept (joins by u s) ≡ kept s
joins_kept by u s = grind arith

pub wakes_joiner_kept : {P : Type 0} (j : Joiner) (t : ℕ) (s : Turn P) → kept (wakes_joiner j t s) ≡ kept s
wakes_joiner_kept nobody t s = refl
wakes_joiner_kept (waits_to_join u) t s = wakes_kept u res.Zero (thread_at s.machine t).exit_value (changes t (with_joiner has_joined) s)
wakes_joiner_kept has_joined t s = refl

pub finishes_in_kept : {P : Type 0} (kind : FrameKind) (t : ℕ) (s : Turn P) → kept (ends_frame kind t s) ≡ kept s
finishes_in_kept frame.Main t s =
    wakes_joiner_kept (thread_at s.machine t).joiner t (changes_pending (without_target t) (tells (event.Exit t) (changes t without_life s)))
finishes_in_kept frame.Cleanup t s = refl
finishes_in_kept frame.Signal t s = refl

-- ---- cancellation and scheduling

pub leaves_kept : {P : Type 0} (wait : Wait) (u : ℕ) (s : Turn P) → kept (leaves wait u s) ≡ kept s
leaves_kept (for_mutex k) u s = refl
leaves_kept (for_mutex_again k how) u s = refl
leaves_kept (for_condition c k) u s = contends_kept u cond_end.Cancelled s
leaves_kept (for_end t) u s = wakes_cancelled_kept u (changes t (with_joiner nobody) s)
leaves_kept _ u s = wakes_cancelled_kept u s

pub leaves_wait_kept : {P : Type 0} (w : Option Waiting) (u : ℕ) (s : Turn P) → kept (leaves_wait w u s) ≡ kept s
leaves_wait_kept None u s = refl
leaves_wait_kept (Some w) u s = leaves_kept w.wait u s

pub acts_if_blocked_kept : {P : Type 0} (u : ℕ) (s : Turn P) → kept (acts_if_blocked u s) ≡ kept s
acts_if_blocked_kept u s = grind (arith, leaves_wait_kept)

pub cancels_kept : {P : Type 0} (by : Caller) (u : ℕ) (s : Turn P) → kept (cancels by u s) ≡ kept s
cancels_kept by u s = grind (arith, acts_if_blocked_kept)

pub sets_priority_kept : {P : Type 0} (by : Caller) (u p : ℕ) (s : Turn P) → kept (sets_priority by u p s) ≡ kept s
sets_priority_kept by u p s = grind arith

pub moves_if_kept : {P : Type 0} (b : Bool) (t : ℕ) (s : Turn P) → kept (moves_if b t s) ≡ kept s
moves_if_kept true t s = refl
moves_if_kept false t s = refl

pub moves_unless_boosted_kept : {P : Type 0} (t : ℕ) (s : Turn P) → kept (moves_unless_boosted t s) ≡ kept s
moves_unless_boosted_kept t s = moves_if_kept (not (owns_boosting s.machine t)) t s

pub sets_policy_kept : {P : Type 0} (by : Caller) (u : ℕ) (new : Policy) (s : Turn P) → kept (sets_policy by u new s) ≡ kept s
sets_policy_kept by u new s = grind (arith, moves_unless_boosted_kept, activates_if_kept)

-- ---- the table

pub changes_each_kept : {P : Type 0} (change : ℕ → Turn P → Turn P) → ((n : ℕ) (s : Turn P) → kept (change n s) ≡ kept s) → (ns : List ℕ) (s : Turn P) → kept (changes_each change ns s) ≡ kept s
changes_each_kept change each [] s = refl
changes_each_kept change each (n ∷ ns) s = changes_each_kept change each ns (change n s) ∙ each n s

pub moves_times_kept : {P : Type 0} (move : ℕ → ℕ) (s : Turn P) → kept (moves_times move s) ≡ kept s
moves_times_kept move s =
    changes_each_kept (λ k. changes_timer k (timer_moved move)) (λ k s. refl) (numbers s.machine.timers) (changes_each (λ t. changes t (thread_moved move)) (thread_numbers s.machine) s)
    ∙ changes_each_kept (λ t. changes t (thread_moved move)) (λ t s. refl) (thread_numbers s.machine) s

pub sets_real_clock_kept : {P : Type 0} (by : Caller) (reading : ℕ) (s : Turn P) → kept (sets_real_clock by reading s) ≡ kept s
sets_real_clock_kept by reading s =
    let set = becomes (λ m. record m { clock = clock_at reading m.now }) s in
    let move = due_as_set s.machine.now (real_time s.machine) reading in
    if_kept (nat_lt clock_limit reading) (returns by res.Inval 0 s) (moves_times move set ▷ returns by res.Zero 0) s refl (moves_times_kept move set)

pub call_effect_kept : {P : Type 0} (bodies : Bodies P) (by : Caller) (call' : Call) (s : Turn P) → kept (call_effect bodies by call' s) ≡ kept s
call_effect_kept bodies by call.Yield s = refl
call_effect_kept bodies by (call.Create u) s = creates_kept bodies by u s
call_effect_kept bodies by (call.Join u) s = joins_kept by u s
call_effect_kept bodies by (call.Cancel u) s = cancels_kept by u s
call_effect_kept bodies by (call.Setprio u p) s = sets_priority_kept by u p s
call_effect_kept bodies by (call.Setsched u new) s = sets_policy_kept by u new s
call_effect_kept bodies by (call.Lock k) s = locks_kept by k None s
call_effect_kept bodies by (call.Timedlock k at) s = locks_kept by k (Some (moment_of s.machine by.thread at)) s
call_effect_kept bodies by (call.Trylock k) s = locks_on_kept (trylock_answer s.machine by.thread k) by k None s
call_effect_kept bodies by (call.Unlock k) s = unlocks_kept by k s
call_effect_kept bodies by (call.Wait c k) s = waits_kept by c k None s
call_effect_kept bodies by (call.Timedwait c k at) s = waits_kept by c k (Some (moment_of s.machine by.thread at)) s
call_effect_kept bodies by (call.Signal c) s =
    let back = returns by res.Zero 0 s in signals_waiter_kept (best_waiter back.machine (waits_on_condition c)) back
call_effect_kept bodies by (call.Broadcast c) s = signals_best_of_kept (length (waiters s.machine (waits_on_condition c))) c (returns by res.Zero 0 s)
call_effect_kept bodies by (call.SemWait k) s = waits_semaphore_kept by k None s
call_effect_kept bodies by (call.SemTimedwait k at) s = waits_semaphore_kept by k (Some (moment_of s.machine by.thread at)) s
call_effect_kept bodies by (call.SemTrywait k) s = tries_semaphore_kept by k s
call_effect_kept bodies by (call.SemPost k) s = posts_to_kept (best_waiter s.machine (waits_on_semaphore k)) by k s
call_effect_kept bodies by (call.Nanosleep n) s = sleeps_until_kept by (s.machine.now + n) s
call_effect_kept bodies by (call.ClockNanosleep at) s = sleeps_until_kept by (moment_of s.machine by.thread at) s
call_effect_kept bodies by (call.ClockSettime at) s = sets_real_clock_kept by (number_of s.machine by.thread at) s
call_effect_kept bodies by (call.Kill signal) s = sends_signal_kept by (record_of_kill signal None) s
call_effect_kept bodies by (call.Tkill u signal) s = grind (arith, sends_signal_kept)
call_effect_kept bodies by (call.Sigqueue signal v) s = sends_signal_kept by (record_of_sigqueue signal (number_of s.machine by.thread v)) s
call_effect_kept bodies by (call.Sigwaitinfo set) s =
    waits_signal_on_kept (selected s.machine (λ (r : SignalRecord). has_signal set r.signal && may_go_to by.thread r.target)) None by set s
call_effect_kept bodies by (call.Sigtimedwait set n) s =
    waits_signal_on_kept (selected s.machine (λ (r : SignalRecord). has_signal set r.signal && may_go_to by.thread r.target)) (Some n) by set s
call_effect_kept bodies by (call.MqSend q len p v) s = sends_message_kept by q len (record { priority = p; value = number_of s.machine by.thread v }) None s
call_effect_kept bodies by (call.MqTimedsend q len p v at) s =
    sends_message_kept by q len (record { priority = p; value = number_of s.machine by.thread v }) (Some (moment_of s.machine by.thread at)) s
call_effect_kept bodies by (call.MqReceive q) s = receives_on_kept (next_message (queue_at s.machine q).messages) by q None s
call_effect_kept bodies by (call.MqTimedreceive q at) s =
    receives_on_kept (next_message (queue_at s.machine q).messages) by q (Some (moment_of s.machine by.thread at)) s
call_effect_kept bodies by (call.MqNotify q signal v) s = asks_notification_kept by q (record { signal = signal; value = number_of s.machine by.thread v }) s
call_effect_kept bodies by _ s = refl

pub makes_call_kept : {P : Type 0} (bodies : Bodies P) (by : Caller) (s : Turn P) → kept (makes_call bodies by s) ≡ kept s
makes_call_kept bodies by s = grind (arith, call_effect_kept)

pub unit_effect_kept : {P : Type 0} (bodies : Bodies P) (t : ℕ) (unit' : Unit) (s : Turn P) → kept (unit_effect bodies t unit' s) ≡ kept s
unit_effect_kept bodies t (unit.Run n) s = refl
unit_effect_kept bodies t (unit.Make call) s = makes_call_kept bodies (record { thread = t; call = call }) s
unit_effect_kept bodies t unit.Jump s = refl
unit_effect_kept bodies t unit.Finish s = finishes_in_kept (top_kind (thread_at s.machine t).frames) t s
