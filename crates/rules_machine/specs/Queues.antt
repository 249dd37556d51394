-- Message queues: mq_send, mq_timedsend, mq_receive, mq_timedreceive, mq_notify. This project's own is the EBUSY of mq_notify while
-- the last notification is pending.
use Rattle.std.specs.Prelude.{Bool, List, None, Option, Some, [], false, is_some, length, map, nat_lt, not, position, slice_index_or, ℕ, ◌==◌, ◌&&◌, ◌||◌, ◌∷◌, ◌++◌, if◌then◌else◌}
use Rattle.std.specs.List.{list_any}
use Rattle.words_numbers.specs.declared.res.Res.TheVariants as res
use Rattle.words_numbers.specs.declared.sig_code.SigCode.TheVariants as code
use Rattle.rules_machine.specs.Lists.{greatest, is, without_at}
use Rattle.rules_machine.specs.State.{Machine, Message, Queue, Registration, SignalRecord, Wait, for_message, for_room}
use Rattle.rules_machine.specs.Threads.{queue_at}
use Rattle.rules_machine.specs.Waiters.{Waiter, best_waiter, somebody_waits}
use Rattle.rules_machine.specs.Turns.{Caller, Turn, changes_queue, returns, ◌▷◌}
use Rattle.rules_machine.specs.Waking.{wakes}
use Rattle.rules_machine.specs.Semaphores.{blocks_unless_late}
use Rattle.rules_machine.specs.Signals.{generates}

abbrev pub waits_to_receive : ℕ → Wait → Bool
waits_to_receive q (for_message p) = p == q
waits_to_receive q wait = false

abbrev pub waits_to_send : ℕ → Wait → Bool
waits_to_send q (for_room p message) = p == q
waits_to_send q wait = false

-- ---- notification

abbrev pub registered : Option Registration → Queue → Queue
registered r q = record q { registration = r }

-- SI_MESGQ
abbrev pub record_of_notification : ℕ → Registration → SignalRecord
record_of_notification q r = record { signal = r.signal; code = code.Mesgq; value = r.value; target = None; timer = None; queue = Some q; serial = 0 }

abbrev pub notifies : {P : Type 0} → Option Registration → ℕ → Turn P → Turn P
notifies None q s = s
notifies (Some r) q s = s ▷ changes_queue q (registered None) ▷ generates (record_of_notification q r)

-- the registration that a message fires as it enters: the queue is empty, and no thread waits to receive from it
abbrev pub fired_by_message : {P : Type 0} → Machine P → ℕ → Option Registration
fired_by_message m q = if length (queue_at m q).messages == 0 && not (somebody_waits m (waits_to_receive q)) then (queue_at m q).registration else None

-- whether a registration stands, or the last notification is still pending
abbrev pub is_notifying : {P : Type 0} → Machine P → ℕ → Bool
is_notifying m q = is_some (queue_at m q).registration || list_any (λ (r : SignalRecord). is r.queue q) m.pending

-- mq_notify
abbrev pub asks_notification : {P : Type 0} → Caller → ℕ → Registration → Turn P → Turn P
asks_notification by q r s =
    if is_notifying s.machine q then returns by res.Busy 0 s else (s ▷ changes_queue q (registered (Some r)) ▷ returns by res.Zero 0)

-- ---- messages

abbrev pub with_message : Message → Queue → Queue
with_message message q = record q { messages = q.messages ++ message ∷ [] }

abbrev pub without_message : ℕ → Queue → Queue
without_message n q = record q { messages = without_at n q.messages }

abbrev pub has_room : Queue → Bool
has_room q = nat_lt (length q.messages) q.depth

abbrev pub highest_priority : List Message → ℕ
highest_priority messages = greatest (map (λ (x : Message). x.priority) messages)

-- the number of the next message: the oldest of the highest priority
abbrev pub next_message : List Message → Option ℕ
next_message messages = position (λ (x : Message). x.priority == highest_priority messages) messages

abbrev pub value_at : List Message → ℕ → ℕ
value_at messages n = (slice_index_or messages n (record { priority = 0; value = 0 })).value

-- the message enters, then a call returns or a sender wakes, and the notification comes last
abbrev pub enters : {P : Type 0} → ℕ → Message → (Turn P → Turn P) → Turn P → Turn P
enters q message told s = s ▷ changes_queue q (with_message message) ▷ told ▷ notifies (fired_by_message s.machine q) q

-- EAGAIN of a queue that is O_NONBLOCK, or a wait
abbrev pub blocks_unless_nonblock : {P : Type 0} → Caller → ℕ → Wait → Option ℕ → Turn P → Turn P
blocks_unless_nonblock by q wait due s = if (queue_at s.machine q).is_nonblock then returns by res.Again 0 s else blocks_unless_late by wait due s

-- ---- sending

abbrev pub reaches_receiver_or_queue : {P : Type 0} → Option Waiter → Caller → ℕ → Message → Option ℕ → Turn P → Turn P
reaches_receiver_or_queue (Some w) by q message due s = s ▷ returns by res.Zero 0 ▷ wakes w.thread res.Zero message.value
reaches_receiver_or_queue None by q message due s =
    if has_room (queue_at s.machine q) then enters q message (returns by res.Zero 0) s else blocks_unless_nonblock by q (for_room q message) due s

-- mq_send, and with a time mq_timedsend: a waiting receiver gets the message, and else it enters the queue
abbrev pub sends_message : {P : Type 0} → Caller → ℕ → ℕ → Message → Option ℕ → Turn P → Turn P
sends_message by q len message due s =
    if nat_lt (queue_at s.machine q).longest len then returns by res.Msgsize 0 s
    else reaches_receiver_or_queue (best_waiter s.machine (waits_to_receive q)) by q message due s

-- ---- receiving

abbrev pub message_of : Wait → Message
message_of (for_room q message) = message
message_of wait = record { priority = 0; value = 0 }

-- the message of the best sender enters
abbrev pub takes_over : {P : Type 0} → Option Waiter → ℕ → Turn P → Turn P
takes_over None q s = s
takes_over (Some w) q s = enters q (message_of w.waiting.wait) (wakes w.thread res.Zero 0) s

abbrev pub takes_message_or_blocks : {P : Type 0} → Option ℕ → Caller → ℕ → Option ℕ → Turn P → Turn P
takes_message_or_blocks (Some n) by q due s =
    s ▷ changes_queue q (without_message n) ▷ returns by res.Zero (value_at (queue_at s.machine q).messages n) ▷ takes_over (best_waiter s.machine (waits_to_send q)) q
takes_message_or_blocks None by q due s = blocks_unless_nonblock by q (for_message q) due s

-- mq_receive, and with a time mq_timedreceive
abbrev pub receives_message : {P : Type 0} → Caller → ℕ → Option ℕ → Turn P → Turn P
receives_message by q due s = takes_message_or_blocks (next_message (queue_at s.machine q).messages) by q due s
