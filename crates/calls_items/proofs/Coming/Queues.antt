-- A thread that came to run by a call of a message queue has a direct move.
use Rattle.std.proofs.Common.{ℕ, None, Option, Some}
use Rattle.std.specs.Prelude.{nat_lt}
use Rattle.words_numbers.specs.declared.res.Res.TheVariants as res
use Rattle.rules_machine.specs.Queues.{asks_notification, blocks_unless_nonblock, enters, fired_by_message, has_room, is_notifying, message_of, next_message, notifies, receives_message, takes_message_or_blocks, record_of_notification, registered, sends_message, reaches_receiver_or_queue, takes_over, value_at, waits_to_receive, waits_to_send, with_message, without_message}
use Rattle.rules_machine.specs.State.{Message, Registration, Wait, for_message, for_room}
use Rattle.rules_machine.specs.Threads.{queue_at}
use Rattle.rules_machine.specs.Turns.{Caller, Turn, changes_queue, is_late, returns}
use Rattle.rules_machine.specs.Waiters.{Waiter, best_waiter}
use Rattle.rules_machine.specs.Waking.{wakes}
use Rattle.calls_items.proofs.Coming.Steps.{Comes, KeepsMoves, blocks_come, both_come, if_come, nobody_comes, returned_come, returns_come, wakes_come}
use Rattle.calls_items.proofs.Coming.Signals.{generates_come, generates_keeps}

notifies_come : {P : Type 0} (o : Option Registration) (q : ℕ) (s : Turn P) → Comes s (notifies o q s)
notifies_come None q s = nobody_comes s
notifies_come (Some r) q s = generates_come (record_of_notification q r) (changes_queue q (registered None) s)

notifies_keeps : {P : Type 0} (o : Option Registration) (q : ℕ) (s : Turn P) → KeepsMoves s (notifies o q s)
notifies_keeps None q s u h = h
notifies_keeps (Some r) q s u h = generates_keeps (record_of_notification q r) (changes_queue q (registered None) s) u h

-- where what is told with it brings to run only whom it moves
enters_come : {P : Type 0} (q : ℕ) (message : Message) (told : Turn P → Turn P) (s : Turn P) → Comes s (told (changes_queue q (with_message message) s)) → Comes s (enters q message told s)
enters_come q message told s h =
    let x = told (changes_queue q (with_message message) s) in
    both_come s x (enters q message told s) h (notifies_come (fired_by_message s.machine q) q x) (notifies_keeps (fired_by_message s.machine q) q x)

blocks_unless_nonblock_come : {P : Type 0} (b : Caller) (q : ℕ) (wait : Wait) (due : Option ℕ) (s : Turn P) → Comes s (blocks_unless_nonblock b q wait due s)
blocks_unless_nonblock_come b q wait due s =
    if_come (queue_at s.machine q).is_nonblock _ _ s (returns_come b res.Again 0 s) (if_come (is_late due s.machine) _ _ s (returns_come b res.Timedout 0 s) (blocks_come b wait due s))

sends_to_come : {P : Type 0} (o : Option Waiter) (b : Caller) (q : ℕ) (message : Message) (due : Option ℕ) (s : Turn P) → Comes s (reaches_receiver_or_queue o b q message due s)
sends_to_come (Some w) b q message due s = returned_come b res.Zero 0 (wakes w.thread res.Zero message.value) s (wakes_come w.thread res.Zero message.value (returns b res.Zero 0 s))
sends_to_come None b q message due s =
    if_come (has_room (queue_at s.machine q)) _ _ s (enters_come q message (returns b res.Zero 0) s (returns_come b res.Zero 0 (changes_queue q (with_message message) s)))
    (blocks_unless_nonblock_come b q (for_room q message) due s)

pub sends_message_come : {P : Type 0} (b : Caller) (q len : ℕ) (message : Message) (due : Option ℕ) (s : Turn P) → Comes s (sends_message b q len message due s)
sends_message_come b q len message due s =
    if_come (nat_lt (queue_at s.machine q).longest len) _ _ s (returns_come b res.Msgsize 0 s) (sends_to_come (best_waiter s.machine (waits_to_receive q)) b q message due s)

takes_over_come : {P : Type 0} (o : Option Waiter) (q : ℕ) (s : Turn P) → Comes s (takes_over o q s)
takes_over_come None q s = nobody_comes s
takes_over_come (Some w) q s =
    let message = message_of w.waiting.wait in
    enters_come q message (wakes w.thread res.Zero 0) s (wakes_come w.thread res.Zero 0 (changes_queue q (with_message message) s))

receives_on_come : {P : Type 0} (o : Option ℕ) (b : Caller) (q : ℕ) (due : Option ℕ) (s : Turn P) → Comes s (takes_message_or_blocks o b q due s)
receives_on_come (Some n) b q due s =
    let x = changes_queue q (without_message n) s in
    returned_come b res.Zero (value_at (queue_at s.machine q).messages n) (takes_over (best_waiter s.machine (waits_to_send q)) q) x
    (takes_over_come (best_waiter s.machine (waits_to_send q)) q (returns b res.Zero (value_at (queue_at s.machine q).messages n) x))
receives_on_come None b q due s = blocks_unless_nonblock_come b q (for_message q) due s

pub receives_message_come : {P : Type 0} (b : Caller) (q : ℕ) (due : Option ℕ) (s : Turn P) → Comes s (receives_message b q due s)
receives_message_come b q due s = receives_on_come (next_message (queue_at s.machine q).messages) b q due s

pub asks_notification_come : {P : Type 0} (b : Caller) (q : ℕ) (r : Registration) (s : Turn P) → Comes s (asks_notification b q r s)
asks_notification_come b q r s =
    if_come (is_notifying s.machine q) _ _ s (returns_come b res.Busy 0 s) (returns_come b res.Zero 0 (changes_queue q (registered (Some r)) s))
