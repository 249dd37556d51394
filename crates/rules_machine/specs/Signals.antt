-- Queued realtime signals: generation, choice and acceptance. XSH 2.4.1, 2.4.2, kill, pthread_kill, sigqueue, sigwaitinfo. This
-- project's own are the thread that accepts among several, and that kill and tkill queue their records, and are refused where 64 are
-- pending.
use Rattle.std.specs.Prelude.{Bool, List, None, Option, Some, [], false, filter, is_none, length, nat_le, nat_lt, not, suc, true, zero, ℕ, ◌+◌, ◌-◌, ◌==◌, ◌&&◌, ◌||◌, ◌∷◌, ◌++◌, if◌then◌else◌, bit_and, bit_or}
use Rattle.words_numbers.specs.Signals.{every_signal, has_signal}
use Rattle.words_numbers.specs.declared.res.Res.TheVariants as res
use Rattle.words_numbers.specs.declared.sig_code.SigCode.{SigCode}
use Rattle.words_numbers.specs.declared.sig_code.SigCode.TheVariants as code
use Rattle.words_trace.specs.declared.event.Event.TheVariants as event
use Rattle.rules_machine.specs.declared.signal.SigAction.{SigAction}
use Rattle.rules_machine.specs.declared.signal.SigAction.TheVariants as action
use Rattle.rules_machine.specs.Lists.{first_by}
use Rattle.rules_machine.specs.State.{Machine, SignalRecord, Timer, Wait, for_signal}
use Rattle.rules_machine.specs.Threads.{action_of}
use Rattle.rules_machine.specs.Waiters.{Waiter, is_served_before, waiters}
use Rattle.rules_machine.specs.Turns.{Caller, Turn, changes, changes_pending, changes_timer, returns, takes_serial, tells, ◌▷◌}
use Rattle.rules_machine.specs.Waking.{blocks, wakes}

-- ---- records

abbrev pub is_kill : SigAction → Bool
is_kill action.Kill = true
is_kill action.Ignore = false
is_kill (action.Handler h) = false

abbrev pub is_ignore : SigAction → Bool
is_ignore action.Kill = false
is_ignore action.Ignore = true
is_ignore (action.Handler h) = false

-- a record of kill, tkill or sigqueue; those of timers and message queues are not counted
abbrev pub is_counted : SigCode → Bool
is_counted code.User = true
is_counted code.Queue = true
is_counted code.Timer = false
is_counted code.Mesgq = false

-- SIGQUEUE_MAX
abbrev pub record_limit : ℕ
record_limit = 64

-- whether a signal that has the target may go to the thread: one for the process may go to each
abbrev pub may_go_to : ℕ → Option ℕ → Bool
may_go_to t None = true
may_go_to t (Some u) = u == t

-- XSH 2.4.2: the lowest signal number first, and of one number the order in which they became pending
abbrev pub is_selected_before : SignalRecord → SignalRecord → Bool
is_selected_before a b = nat_lt a.signal b.signal || (a.signal == b.signal && nat_lt a.serial b.serial)

-- the pending record that is selected among those that pass
abbrev pub selected : {P : Type 0} → Machine P → (SignalRecord → Bool) → Option SignalRecord
selected m passes = first_by is_selected_before (filter passes m.pending)

-- the record is no longer pending
abbrev pub without_record : SignalRecord → List SignalRecord → List SignalRecord
without_record r pending = filter (λ (other : SignalRecord). not (other.serial == r.serial)) pending

-- ---- acceptance

abbrev pub accepts : SignalRecord → Wait → Bool
accepts r (for_signal set) = has_signal set r.signal
accepts r wait = false

-- the thread that accepts a record as it is generated: the best of all that wait for its signal and that it may go to
abbrev pub acceptor : {P : Type 0} → Machine P → SignalRecord → Option Waiter
acceptor m r = first_by is_served_before (filter (λ (w : Waiter). may_go_to w.thread r.target) (waiters m (accepts r)))

-- timer_getoverrun: the count as the timer's signal is delivered or accepted
abbrev pub with_overrun_told : Timer → Timer
with_overrun_told k = record k { overrun = k.extra; extra = 0 }

abbrev pub tells_overrun : {P : Type 0} → Option ℕ → Turn P → Turn P
tells_overrun None s = s
tells_overrun (Some k) s = changes_timer k with_overrun_told s

-- the thread takes the record, by a handler or by a wait
abbrev pub delivers : {P : Type 0} → ℕ → SignalRecord → Turn P → Turn P
delivers t r s = s ▷ tells (event.Deliver t r.signal r.code r.value) ▷ tells_overrun r.timer

-- ---- generation

abbrev pub becomes_pending : {P : Type 0} → SignalRecord → Turn P → Turn P
becomes_pending r s = s ▷ changes_pending (λ (pending : List SignalRecord). pending ++ record r { serial = s.machine.next_serial } ∷ []) ▷ takes_serial

abbrev pub is_accepted_or_pends : {P : Type 0} → Option Waiter → SignalRecord → Turn P → Turn P
is_accepted_or_pends (Some w) r s = s ▷ delivers w.thread r ▷ wakes w.thread res.Zero r.signal
is_accepted_or_pends None r s = if is_ignore (action_of s.machine r.signal) then s else becomes_pending r s

-- a waiting thread accepts the signal, or it is ignored, or it becomes pending
abbrev pub generates : {P : Type 0} → SignalRecord → Turn P → Turn P
generates r s = is_accepted_or_pends (acceptor s.machine r) r s

-- whether as many records are pending as may be queued
abbrev pub is_full : {P : Type 0} → Machine P → Bool
is_full m = nat_le record_limit (length (filter (λ (r : SignalRecord). is_counted r.code) m.pending))

-- EAGAIN of sigqueue: the record would become pending, and there is no room
abbrev pub has_no_room : {P : Type 0} → Machine P → SignalRecord → Bool
has_no_room m r = is_none (acceptor m r) && not (is_ignore (action_of m r.signal)) && is_full m

-- kill, pthread_kill and sigqueue
abbrev pub sends_signal : {P : Type 0} → Caller → SignalRecord → Turn P → Turn P
sends_signal by r s = if has_no_room s.machine r then returns by res.Again 0 s else (s ▷ returns by res.Zero 0 ▷ generates r)

-- SI_USER, by kill to the process, by pthread_kill to a thread (that code for it is this project's own)
abbrev pub record_of_kill : ℕ → Option ℕ → SignalRecord
record_of_kill signal target = record { signal = signal; code = code.User; value = 0; target = target; timer = None; queue = None; serial = 0 }

-- SI_QUEUE, by sigqueue
abbrev pub record_of_sigqueue : ℕ → ℕ → SignalRecord
record_of_sigqueue signal value = record { signal = signal; code = code.Queue; value = value; target = None; timer = None; queue = None; serial = 0 }

-- ---- masks: pthread_sigmask

abbrev pub with_signals : ℕ → ℕ → ℕ
with_signals more set = bit_or set more

abbrev pub without_signals : ℕ → ℕ → ℕ
without_signals fewer set = bit_and set (every_signal - fewer)

abbrev pub sets_mask : {P : Type 0} → Caller → (ℕ → ℕ) → Turn P → Turn P
sets_mask by change s = s ▷ changes by.thread (λ th. record th { mask = change th.mask }) ▷ returns by res.Zero 0

-- ---- waiting for signals: sigwaitinfo, and with ticks sigtimedwait

-- nothing is pending: EAGAIN where no time is given to wait
abbrev pub blocks_for_signal : {P : Type 0} → Option ℕ → Caller → ℕ → Turn P → Turn P
blocks_for_signal None by set s = blocks by (for_signal set) None s
blocks_for_signal (Some zero) by set s = returns by res.Again 0 s
blocks_for_signal (Some (suc n)) by set s = blocks by (for_signal set) (Some (s.machine.now + suc n)) s

abbrev pub takes_signal_or_waits : {P : Type 0} → Option SignalRecord → Option ℕ → Caller → ℕ → Turn P → Turn P
takes_signal_or_waits (Some r) ticks by set s = s ▷ changes_pending (without_record r) ▷ delivers by.thread r ▷ returns by res.Zero r.signal
takes_signal_or_waits None ticks by set s = blocks_for_signal ticks by set s

-- a pending record of the set is accepted, whatever its action and the mask
abbrev pub waits_signal : {P : Type 0} → Option ℕ → Caller → ℕ → Turn P → Turn P
waits_signal ticks by set s = takes_signal_or_waits (selected s.machine (λ (r : SignalRecord). has_signal set r.signal && may_go_to by.thread r.target)) ticks by set s
