-- How a receive comes out.
use Rattle.std.proofs.Common.{◌≡◌, ◌∙◌, ◌<◌, ℕ, true, List, None, Option, Some, ap, refl, subst, sym}
use Rattle.std.specs.Prelude.{IfSome, option_map, slice_set}
use Rattle.std.specs.Option.{option_map_or}
use Rattle.words_numbers.specs.declared.res.Res.{Res}
use Rattle.words_numbers.specs.declared.res.Res.TheVariants as res
use Rattle.parts_tracer.specs.Tells.{Tells}
use Rattle.parts_tracer.specs.declared.tracer.Tracer.{Tracer}
use Rattle.rules_bodies.specs.declared.cursor.Cursor.{Cursor}
use Rattle.rules_machine.specs.Queues.{enters, message_of, next_message, receives_message, takes_message_or_blocks, takes_over, value_at, waits_to_send, without_message}
use Rattle.rules_machine.specs.State.{Machine, Message, Queue, Thread, Wait, Waiting, for_condition, for_end, for_message, for_mutex, for_mutex_again, for_room, for_semaphore, for_signal, for_time}
use Rattle.rules_machine.specs.Threads.{is_blocked, no_thread, queue_at, thread_at, waiting_in, waiting_of}
use Rattle.rules_machine.specs.Turns.{Caller, Turn, answered, changes_queue, returns}
use Rattle.rules_machine.specs.Waiters.{Waiter, best_waiter}
use Rattle.rules_machine.specs.Waking.{wakes}
use Rattle.rules_machine.proofs.Behind.{AddsBehind, wakes_behind}
use Rattle.rules_machine.proofs.BehindCalls.{enters_behind}
use Rattle.rules_machine.proofs.Reading.{changed-keeps}
use Rattle.rules_moves.proofs.Waiters.Best.{best_waits}
use Rattle.kernel_queues.specs.Queues.{next_value, without_next, without_one}
use Rattle.kernel_state.specs.Kernel.{Kernel, after, told, turn}
use Rattle.kernel_state.specs.Pending.{SignalsFit}
use Rattle.kernel_state.specs.Messages.{waiting_message}
use Rattle.calls_generation.proofs.Same.{same_after, same_told}
use Rattle.calls_generation.proofs.Returned.{returned_blocked}
use Rattle.calls_queues.specs.Receives.{hands_out, takes_over_from}

-- ---- the message of a sender

from_room : (q : ℕ) (wait : Wait) (Q : Message → Type 0) → waits_to_send q wait ≡ true → ((p : ℕ) (x : Message) → wait ≡ for_room p x → Q x) → Q (message_of wait)
from_room q (for_mutex k) Q on h = absurd cc
from_room q (for_mutex_again k how) Q on h = absurd cc
from_room q (for_condition c k) Q on h = absurd cc
from_room q (for_end u) Q on h = absurd cc
from_room q (for_semaphore k) Q on h = absurd cc
from_room q for_time Q on h = absurd cc
from_room q (for_room p x) Q on h = h p x refl
from_room q (for_message p) Q on h = absurd cc
from_room q (for_signal set) Q on h = absurd cc

is_message : (m : Machine Cursor) (t : ℕ) (w : Waiting) → waiting_of m t ≡ Some w → waiting_message m t ≡ message_of w.wait
is_message m t w e = ap (λ (o : Option Waiting). option_map_or (λ (v : Waiting). message_of v.wait) o (message_of for_time)) e

-- that of the sender which is served first has a priority from 0 to 31
pub sender_fits : (m : Machine Cursor) (q : ℕ) (o : Option ℕ) → o ≡ option_map (λ (w : Waiter). w.thread) (best_waiter m (waits_to_send q)) → SignalsFit m → IfSome o (λ t. (waiting_message m t).priority < 32)
sender_fits m q o is fits = rw is (by_best (best_waiter m (waits_to_send q)) refl)
  where
    by_best : (best : Option Waiter) → best_waiter m (waits_to_send q) ≡ best → IfSome (option_map (λ (w : Waiter). w.thread) best) (λ t. (waiting_message m t).priority < 32)
    by_best None e = tt
    by_best (Some w) e =
        let so = best_waits m (waits_to_send q) w e in
        subst (λ (x : Message). x.priority < 32) (sym (is_message m w.thread w.waiting so.0))
        (from_room q w.waiting.wait (λ x. x.priority < 32) so.1 (λ p x room. (fits.senders w.thread p x w.waiting so.0 room).1))

module _ (by : Caller) (r : Res) (v : ℕ) (s : Turn Cursor) where
  -- who waits for what is the same once the call has returned
  same_waits : (u : ℕ) → waiting_of (returns by r v s).machine u ≡ waiting_of s.machine u
  same_waits u = changed-keeps no_thread by.thread u (answered r v) (λ (th : Thread Cursor). waiting_in th.status) (λ th. refl) s.machine.threads

  pub same_message : (u : ℕ) → waiting_message (returns by r v s).machine u ≡ waiting_message s.machine u
  same_message u = ap (λ (o : Option Waiting). option_map_or (λ (w : Waiting). message_of w.wait) o (message_of for_time)) (same_waits u)

-- ---- a message leaves

module _ (by : Caller) (q : ℕ) (due : Option ℕ) (k l : Kernel) (taken : l ≡ after (changes_queue q without_next) k) where
  abbrev queue : Queue
  queue = queue_at k.machine q

  abbrev best : Option Waiter
  best = best_waiter k.machine (waits_to_send q)

  -- the message of the sender is that of its wait
  taking : (s : Turn Cursor) → ((u : ℕ) → waiting_of s.machine u ≡ waiting_of k.machine u) → (o : Option Waiter) → best ≡ o → takes_over o q s ≡ takes_over_from (option_map (λ (w : Waiter). w.thread) o) q s
  taking s same None e = refl
  taking s same (Some w) e =
      let so = best_waits k.machine (waits_to_send q) w e in
      ap (λ (x : Message). enters q x (wakes w.thread res.Zero 0) s) (sym (is_message s.machine w.thread w.waiting (same w.thread ∙ so.0)))

  abbrev handed : ℕ → Option ℕ → Turn Cursor → Turn Cursor
  handed value sender s = hands_out by value sender q (changes_queue q without_next s)

  some_is : (value : ℕ) (n o : Option ℕ) → next_message queue.messages ≡ n → o ≡ option_map (value_at queue.messages) n → o ≡ Some value → receives_message by q due (turn k) ≡ handed value (option_map (λ (w : Waiter). w.thread) best) (turn k)
  some_is value None o e is some = absurd cc
  some_is value (Some n) o e is some =
      let read : value_at queue.messages n ≡ value = cc in
      let rest : changes_queue q (without_message n) (turn k) ≡ changes_queue q without_next (turn k) =
      ap (λ (i : Option ℕ). record (turn k) { machine = record (k.machine) { queues = slice_set k.machine.queues q (without_one i queue) } }) (sym e) in
      let s = returns by res.Zero value (changes_queue q without_next (turn k)) in
      ap (λ (i : Option ℕ). takes_message_or_blocks i by q due (turn k)) e
      ∙ ap (λ (t : Turn Cursor). takes_over best q (returns by res.Zero (value_at queue.messages n) t)) rest
      ∙ ap (λ (v : ℕ). takes_over best q (returns by res.Zero v (changes_queue q without_next (turn k)))) read
      ∙ taking s (λ u. same_waits by res.Zero value (changes_queue q without_next (turn k)) u) best refl

  module _ (value : ℕ) (sender o : Option ℕ) (from : sender ≡ option_map (λ (w : Waiter). w.thread) best) (is : o ≡ next_value queue) (some : o ≡ Some value) where
    same : receives_message by q due (turn k) ≡ handed value sender (turn k)
    same = some_is value (next_message queue.messages) o refl is some ∙ ap (λ (w : Option ℕ). handed value w (turn k)) (sym from)

    pub as_handed : (n : Kernel) → n ≡ after (hands_out by value sender q) l → n ≡ after (receives_message by q due) k
    as_handed n e = same_after (receives_message by q due) (handed value sender) k n same (subst (λ (x : Kernel). n ≡ after (hands_out by value sender q) x) taken e)

    pub told_handed : {K : Type 0} (text : K → Option (List ℕ)) (faults : K → ℕ) (a b : Tracer K) → Tells text faults l.names a b (told (hands_out by value sender q) l) →
        Tells text faults k.names a b (told (receives_message by q due) k)
    told_handed text faults a b h =
        same_told text faults (receives_message by q due) (handed value sender) k a b same (subst (λ (x : Kernel). Tells text faults x.names a b (told (hands_out by value sender q) x)) taken h)

-- ---- the sender, once the call has returned

pub sender_stays_blocked : (by : Caller) (r : Res) (v : ℕ) (k l : Kernel) (o : Option ℕ) → l ≡ after (returns by r v) k → IfSome o (λ t. is_blocked (thread_at k.machine t).status ≡ true) →
    IfSome o (λ t. is_blocked (thread_at l.machine t).status ≡ true)
sender_stays_blocked by r v k l None e h = tt
sender_stays_blocked by r v k l (Some t) e h = returned_blocked by r v t k l e h

pub sender_stays_fit : (by : Caller) (r : Res) (v : ℕ) (k l : Kernel) (o : Option ℕ) → l ≡ after (returns by r v) k → IfSome o (λ t. (waiting_message k.machine t).priority < 32) →
    IfSome o (λ t. (waiting_message l.machine t).priority < 32)
sender_stays_fit by r v k l None e h = tt
sender_stays_fit by r v k l (Some t) e h =
    let same : waiting_message l.machine t ≡ waiting_message k.machine t = ap (λ (x : Kernel). waiting_message x.machine t) e ∙ same_message by r v (turn k) t in
    subst (λ (x : Message). x.priority < 32) (sym same) h

pub takes_over_from_behind : (sender : Option ℕ) (q : ℕ) → AddsBehind {P = Cursor} (takes_over_from sender q)
takes_over_from_behind None q told s = refl
takes_over_from_behind (Some w) q told s = enters_behind q (waiting_message s.machine w) (wakes w res.Zero 0) (wakes_behind w res.Zero 0) told s
