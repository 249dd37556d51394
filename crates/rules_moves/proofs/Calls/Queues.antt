-- What every move keeps, message queues keep.
use Rattle.std.proofs.Common.{Bool, List, None, Option, Some, [], ap, arith, false, length, refl, suc, true, zero, ℕ, ◌<◌, ◌≤◌, ◌∷◌, ◌≡◌}
use Rattle.std.specs.Prelude.{is_some, map, nat_lt, not, ◌||◌, slice_index_or, ◌==◌, ◌&&◌, if◌then◌else◌}
use Rattle.std.specs.List.{list_any, position_or_len}
use mathlib.Core.Path.{◌∙◌}
use Rattle.words_numbers.specs.declared.res.Res.{Res}
use Rattle.words_numbers.specs.declared.res.Res.TheVariants as res
use Rattle.rules_machine.specs.Lists.{greatest, is}
use Rattle.rules_machine.specs.Bodies.{Bodies}
use Rattle.rules_machine.specs.State.{Machine, Message, Queue, Registration, SignalRecord, Wait, for_end, for_message, for_room}
use Rattle.rules_machine.specs.Threads.{action_of, no_queue, queue_at}
use Rattle.rules_machine.specs.Waiters.{Waiter, best_waiter, somebody_waits}
use Rattle.rules_machine.specs.Turns.{Caller, Turn, changes_queue, returns}
use Rattle.rules_machine.specs.Waking.{wakes}
use Rattle.rules_machine.specs.Signals.{acceptor, is_accepted_or_pends, is_ignore}
use Rattle.rules_machine.specs.Queues.{asks_notification, blocks_unless_nonblock, fired_by_message, has_room, highest_priority, is_notifying, message_of, next_message, notifies, receives_message, takes_message_or_blocks, record_of_notification, registered, sends_message, reaches_receiver_or_queue, takes_over, value_at, waits_to_receive, waits_to_send, with_message, without_message}
use Rattle.rules_machine.proofs.Reading.{changed-keeps}
use Rattle.rules_moves.specs.Moves.{KeepsAwake, Stops, is_for_end, Runs, May, MayWait, fires, message_in, message_out, message_through, registers}
use Rattle.rules_moves.proofs.Waiters.Best.{nobody_waits}
use Rattle.rules_moves.proofs.Calls.Commuting.{wakes_telling_part}
use Rattle.rules_moves.proofs.Calls.Answers.{acceptor_waits}
use Rattle.rules_moves.proofs.Calls.Objects.{answered_may, answers_done, branch, blocks_unless_late_keep, either, returns_keep, wakes_keep}
use Rattle.rules_moves.proofs.Calls.Signals.{accepted_keep}

-- ---- registrations stay where messages move

registration_kept : {P : Type 0} (q : ℕ) (f : Queue → Queue) → ((x : Queue) → (f x).registration ≡ x.registration) → (s : Turn P) →
    (queue_at (changes_queue q f s).machine q).registration ≡ (queue_at s.machine q).registration
registration_kept q f h s = changed-keeps no_queue q q f (λ (x : Queue). x.registration) h s.machine.queues

fired_stands : {P : Type 0} (m : Machine P) (q : ℕ) (r : Registration) → fired_by_message m q ≡ Some r → (queue_at m q).registration ≡ Some r
fired_stands m q r e = by_test (length (queue_at m q).messages == 0 && not (somebody_waits m (waits_to_receive q))) e
  where
    by_test : (b : Bool) → (if b then (queue_at m q).registration else None) ≡ Some r → (queue_at m q).registration ≡ Some r
    by_test true e = e
    by_test false e = absurd (grind arith)

-- ---- the next message is there, where any is

abbrev priority_of : Message → ℕ
priority_of x = x.priority

found : (xs : List Message) (g : ℕ) → greatest (map priority_of xs) ≡ g → 1 ≤ g → position_or_len (λ (x : Message). x.priority == g) xs < length xs
found [] g e h = absurd (omega arith)
found (x ∷ xs) g e h = split (x.priority == g) refl (found xs g)
  where
    split : (b : Bool) → (x.priority == g) ≡ b → (greatest (map priority_of xs) ≡ g → 1 ≤ g → position_or_len (λ (x : Message). x.priority == g) xs < length xs) →
        position_or_len (λ (x : Message). x.priority == g) (x ∷ xs) < length (x ∷ xs)
    split true k rest = rw k (omega arith)
    split false k rest =
        let other : (x.priority ≡ g) → ⊥ = λ same. grind arith in
        let below : greatest (map priority_of xs) ≡ g = omega arith in
        let more = rest below h in rw k (omega arith)

some_next : (x : Message) (xs : List Message) → position_or_len (λ (y : Message). y.priority == highest_priority (x ∷ xs)) (x ∷ xs) < length (x ∷ xs)
some_next x xs = by_size (highest_priority (x ∷ xs)) refl
  where
    by_size : (g : ℕ) → highest_priority (x ∷ xs) ≡ g → position_or_len (λ (y : Message). y.priority == g) (x ∷ xs) < length (x ∷ xs)
    by_size zero e = let it : (x.priority == 0) ≡ true = grind arith in rw it (omega arith)
    by_size (suc g) e = found (x ∷ xs) (suc g) e (omega arith)

no_next : (xs : List Message) → next_message xs ≡ None → xs ≡ []
no_next [] e = refl
no_next (x ∷ xs) e = absurd (grind (arith, some_next x xs))

receive_not_end : (q : ℕ) (wait : Wait) → waits_to_receive q wait ≡ true → is_for_end wait ≡ false
receive_not_end q (for_end u) e = absurd (grind arith)
receive_not_end q wait e = refl

send_not_end : (q : ℕ) (wait : Wait) → waits_to_send q wait ≡ true → is_for_end wait ≡ false
send_not_end q (for_end u) e = absurd (grind arith)
send_not_end q wait e = refl

module _ {P : Type 0} (bodies : Bodies P) (who : Option ℕ) (Law Done : Turn P → Type 0) (keeps : KeepsAwake bodies who Law) (stops : Stops who Law Done) where
  either' : (b : Bool) (x y : Turn P) → (b ≡ true → Law x) → (b ≡ false → Law y) → Law (if b then x else y)
  either' = either bodies who Law Done keeps stops

  answer : (by : Caller) (r : Res) (v : ℕ) (s : Turn P) → Law s → Law (returns by r v s)
  answer = returns_keep bodies who Law Done keeps stops

  branch' : (b : Bool) (x y : Turn P) → (b ≡ true → Done x) → (b ≡ false → Done y) → Done (if b then x else y)
  branch' = branch bodies who Law Done keeps stops

  reply : (by : Caller) (r : Res) (v : ℕ) (s : Turn P) → Law s → Done (returns by r v s)
  reply = answers_done bodies who Law Done keeps stops

  -- ---- notifications

  pub notifies_keep : (o : Option Registration) (q : ℕ) (s : Turn P) → ((r : Registration) → o ≡ Some r → (queue_at s.machine q).registration ≡ Some r) → Law s → Law (notifies o q s)
  notifies_keep None q s stands k = k
  notifies_keep (Some r) q s stands k = by_acceptor (acceptor cleared.machine (record_of_notification q r)) refl
    where
      cleared : Turn P
      cleared = changes_queue q (registered None) s

      none_new : May who (registers q None) s
      none_new r e = absurd (grind arith)

      by_acceptor : (o : Option Waiter) → acceptor cleared.machine (record_of_notification q r) ≡ o → Law (is_accepted_or_pends o (record_of_notification q r) cleared)
      by_acceptor (Some w) e =
          accepted_keep bodies who Law Done keeps stops w (record_of_notification q r) cleared (acceptor_waits cleared.machine (record_of_notification q r) w e)
          (keeps (registers q None) s none_new k)
      by_acceptor None e =
          either' (is_ignore (action_of cleared.machine r.signal)) _ _ (λ ignored. keeps (registers q None) s none_new k) (λ taken. keeps (fires q r) s (stands r refl, taken) k)

  pub asks_notification_keep : (by : Caller) (q : ℕ) (r : Registration) (s : Turn P) → Law s → Law (asks_notification by q r s)
  asks_notification_keep by q r s k =
      either' (is_notifying s.machine q) _ _ (λ busy. answer by res.Busy 0 s k) (λ idle. answer by res.Zero 0 _ (keeps (registers q (Some r)) s (λ r' e. idle_none (is_some (queue_at s.machine q).registration) (list_any (λ (x : SignalRecord). is x.queue q) s.machine.pending) idle) k))
    where
      idle_none : (a b : Bool) → (a || b) ≡ false → b ≡ false
      idle_none a b e = grind arith

  -- ---- sending

  pub blocks_unless_nonblock_keep : (by : Caller) (q : ℕ) (wait : Wait) (due : Option ℕ) (s : Turn P) → Runs who s.machine by.thread → MayWait who s.machine by.thread wait → Law s → Done (blocks_unless_nonblock by q wait due s)
  blocks_unless_nonblock_keep by q wait due s runs may k =
      branch' (queue_at s.machine q).is_nonblock _ _ (λ nonblock. reply by res.Again 0 s k) (λ b. blocks_unless_late_keep bodies who Law Done keeps stops by wait due s runs may k)

  sends_to_keep : (o : Option Waiter) (by : Caller) (q : ℕ) (x : Message) (due : Option ℕ) (s : Turn P) → Runs who s.machine by.thread → best_waiter s.machine (waits_to_receive q) ≡ o →
      Law s → Done (reaches_receiver_or_queue o by q x due s)
  sends_to_keep (Some w) by q x due s runs e k =
      stops.done _ (wakes_keep bodies who Law Done keeps stops w.thread res.Zero x.value (returns by res.Zero 0 s)
      (answered_may by res.Zero 0 (waits_to_receive q) (receive_not_end q) s w e) (answer by res.Zero 0 s k))
  sends_to_keep None by q x due s runs e k =
      branch' (has_room (queue_at s.machine q)) _ _
      (λ room. stops.done _ (notifies_keep (fired_by_message s.machine q) q (returns by res.Zero 0 (changes_queue q (with_message x) s))
      (λ r fired. registration_kept q (with_message x) (λ y. refl) s ∙ fired_stands s.machine q r fired)
      (answer by res.Zero 0 _ (keeps (message_in q x) s (nobody_waits s.machine (waits_to_receive q) e, room) k))))
      (λ full. blocks_unless_nonblock_keep by q (for_room q x) due s runs (runs, full) k)

  pub sends_message_keep : (by : Caller) (q len : ℕ) (x : Message) (due : Option ℕ) (s : Turn P) → Runs who s.machine by.thread → Law s → Done (sends_message by q len x due s)
  sends_message_keep by q len x due s runs k =
      branch' (nat_lt (queue_at s.machine q).longest len) _ _ (λ long. reply by res.Msgsize 0 s k)
      (λ short. sends_to_keep (best_waiter s.machine (waits_to_receive q)) by q x due s runs refl k)

  -- ---- receiving

  -- a message is out, and the call has its answer
  abbrev taken : Caller → ℕ → ℕ → Turn P → Turn P
  taken by q n s = returns by res.Zero (value_at (queue_at s.machine q).messages n) (changes_queue q (without_message n) s)

  takes_over_keep : (o : Option Waiter) (by : Caller) (q n : ℕ) (s : Turn P) → next_message (queue_at s.machine q).messages ≡ Some n → best_waiter s.machine (waits_to_send q) ≡ o →
      Law s → Law (takes_over o q (taken by q n s))
  takes_over_keep None by q n s next e k =
      answer by res.Zero (value_at (queue_at s.machine q).messages n) _ (keeps (message_out q n) s (next, nobody_waits s.machine (waits_to_send q) e) k)
  takes_over_keep (Some w) by q n s next e k =
      let v = value_at (queue_at s.machine q).messages n in
      let x = message_of w.waiting.wait in
      let out = taken by q n s in
      let through = changes_queue q (with_message x) out in
      let told = wakes w.thread res.Zero 0 through in
      notifies_keep (fired_by_message out.machine q) q told
      (λ r fired. ap (λ (qs : List Queue). (slice_index_or qs q no_queue).registration) (wakes_telling_part (λ (m : Machine P). m.queues) (λ m threads. refl) _ w.thread res.Zero 0 through)
      ∙ registration_kept q (with_message x) (λ y. refl) out ∙ fired_stands out.machine q r fired)
      (wakes_keep bodies who Law Done keeps stops w.thread res.Zero 0 through (answered_may by res.Zero v (waits_to_send q) (send_not_end q) s w e)
      (answer by res.Zero v _ (keeps (message_through q n x) s next k)))

  receives_on_keep : (o : Option ℕ) (by : Caller) (q : ℕ) (due : Option ℕ) (s : Turn P) → next_message (queue_at s.machine q).messages ≡ o → Runs who s.machine by.thread → Law s → Done (takes_message_or_blocks o by q due s)
  receives_on_keep (Some n) by q due s e runs k = stops.done _ (takes_over_keep (best_waiter s.machine (waits_to_send q)) by q n s e refl k)
  receives_on_keep None by q due s e runs k = blocks_unless_nonblock_keep by q (for_message q) due s runs (runs, no_next (queue_at s.machine q).messages e) k

  pub receives_message_keep : (by : Caller) (q : ℕ) (due : Option ℕ) (s : Turn P) → Runs who s.machine by.thread → Law s → Done (receives_message by q due s)
  receives_message_keep by q due s runs k = receives_on_keep (next_message (queue_at s.machine q).messages) by q due s refl runs k
