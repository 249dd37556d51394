-- Nobody waits for a message that is there, or for room that is there: every move keeps it.
use Rattle.std.proofs.Common.{Bool, List, None, Option, Some, [], ap, arith, false, inl, inr, length, refl, suc, sym, true, zero, ℕ, ◌+◌, ◌<◌, ◌≤◌, ◌∷◌, ◌++◌, ◌≡◌, ◌⊎◌}
use Rattle.std.specs.Prelude.{cond, drop, nat_lt, slice_index_or, take, ◌==◌}
use Rattle.std.specs.List.{position_or_len}
use mathlib.Core.Path.{subst, ◌∙◌}
use Rattle.rules_machine.specs.Lists.{changed_at, without_at}
use Rattle.rules_machine.specs.Bodies.{Bodies}
use Rattle.rules_machine.specs.State.{Machine, Message, Queue, Registration, for_message, for_room}
use Rattle.rules_machine.specs.Threads.{no_queue, queue_at}
use Rattle.rules_machine.specs.Waiters.{somebody_waits}
use Rattle.rules_machine.specs.Turns.{Turn, changes_queue}
use Rattle.rules_machine.specs.Queues.{has_room, highest_priority, next_message, registered, waits_to_receive, waits_to_send, with_message, without_message}
use Rattle.rules_machine.proofs.Reading.{changed-twice}
use Rattle.rules_moves.specs.Moves.{Keeps, May, Move, begins, blocks_for, blocks_plainly, does, fires, message_in, message_out, message_through, refills_one, registers, renews_with, wakes_with}
use Rattle.rules_moves.proofs.Calls.Commuting.{wakes_telling_part}
use Rattle.rules_moves.proofs.Waiters.AfterMoves.{part_begun, part_refill, part_renewed, wait_begun, waited_before}
use Rattle.rules_moves.proofs.Waiters.OfThreads.{changed_is}

-- one queue, whom some wait to receive from, and some to send to
pub record QueueRight (x : Queue) (receiving sending : Bool) : Type 0 where
  pub room : length x.messages ≤ x.depth
  pub receivers : receiving ≡ true → x.messages ≡ []
  pub senders : sending ≡ true → length x.messages ≡ x.depth

abbrev pub QueuesAreRight : {P : Type 0} → Machine P → Type 0
QueuesAreRight m = (q : ℕ) → QueueRight (queue_at m q) (somebody_waits m (waits_to_receive q)) (somebody_waits m (waits_to_send q))

contra : {b : Bool} → b ≡ true → b ≡ false → ⊥
contra p q = grind arith

-- fewer wait
fewer : (x : Queue) (a b a' b' : Bool) → (a' ≡ true → a ≡ true) → (b' ≡ true → b ≡ true) → QueueRight x a b → QueueRight x a' b'
fewer x a b a' b' f g h = record { room = h.room; receivers = λ e. h.receivers (f e); senders = λ e. h.senders (g e) }

module _ {P : Type 0} (bodies : Bodies P) (who : Option ℕ) where
  abbrev Law : Turn P → Type 0
  Law s = QueuesAreRight s.machine

  -- a move that touches no queue and blocks nobody on one
  stays : (move : Move P) (s : Turn P) → May who move s → (does bodies move s).machine.queues ≡ s.machine.queues → ((q : ℕ) → wait_begun (waits_to_receive q) move ≡ false) → ((q : ℕ) → wait_begun (waits_to_send q) move ≡ false) →
      Law s → Law (does bodies move s)
  stays move s may e f g h q =
      subst (λ (xs : List Queue). QueueRight (slice_index_or xs q no_queue) (somebody_waits (does bodies move s).machine (waits_to_receive q)) (somebody_waits (does bodies move s).machine (waits_to_send q))) (sym e)
      (fewer (queue_at s.machine q) _ _ _ _ (waited_before (waits_to_receive q) bodies who move s may (f q)) (waited_before (waits_to_send q) bodies who move s may (g q)) (h q))

  -- a queue changes
  one : (q : ℕ) (f : Queue → Queue) (s : Turn P) → (QueueRight (queue_at s.machine q) (somebody_waits s.machine (waits_to_receive q)) (somebody_waits s.machine (waits_to_send q)) →
      QueueRight (f (queue_at s.machine q)) (somebody_waits s.machine (waits_to_receive q)) (somebody_waits s.machine (waits_to_send q))) → Law s → Law (changes_queue q f s)
  one q f s g h p = of_two (changed_is no_queue q p f s.machine.queues)
    where
      of_two : ((q ≡ p) × (slice_index_or (changed_at no_queue q f s.machine.queues) p no_queue ≡ f (queue_at s.machine q))) ⊎ (slice_index_or (changed_at no_queue q f s.machine.queues) p no_queue ≡ queue_at s.machine p) →
          QueueRight (queue_at (changes_queue q f s).machine p) (somebody_waits s.machine (waits_to_receive p)) (somebody_waits s.machine (waits_to_send p))
      of_two (inl e) = subst (λ (x : Queue). QueueRight x (somebody_waits s.machine (waits_to_receive p)) (somebody_waits s.machine (waits_to_send p))) (sym e.1)
          (subst (λ (i : ℕ). QueueRight (f (queue_at s.machine q)) (somebody_waits s.machine (waits_to_receive i)) (somebody_waits s.machine (waits_to_send i))) e.0 (g (h q)))
      of_two (inr e) = subst (λ (x : Queue). QueueRight x (somebody_waits s.machine (waits_to_receive p)) (somebody_waits s.machine (waits_to_send p))) (sym e) (h p)

  none_next : (xs : List Message) (n : ℕ) → next_message xs ≡ Some n → xs ≡ [] → ⊥
  none_next [] n e k = absurd (grind arith)
  none_next (x ∷ xs) n e k = absurd (grind arith)

  longer : (xs : List Message) (x : Message) → length (xs ++ x ∷ []) ≡ suc (length xs)
  longer [] x = refl
  longer (y ∷ ys) x = ap suc (longer ys x)

  one_out : (xs : List Message) (n : ℕ) → n < length xs → suc (length (take n xs ++ drop (n + 1) xs)) ≡ length xs
  one_out [] n h = absurd (omega arith)
  one_out (x ∷ xs) zero h = let same : drop (0 + 1) (x ∷ xs) ≡ xs = refl in refl
  one_out (x ∷ xs) (suc n) h =
      let same : suc n + 1 ≡ suc (n + 1) = omega arith in
      ap (λ (k : ℕ). suc (length (take (suc n) (x ∷ xs) ++ drop k (x ∷ xs)))) same ∙ ap suc (one_out xs n (omega arith))

  next_within : (xs : List Message) (n : ℕ) → next_message xs ≡ Some n → n < length xs
  next_within xs n e = by_test (position_or_len (λ (x : Message). x.priority == highest_priority xs) xs) e
    where
      by_test : (p : ℕ) → cond (nat_lt p (length xs)) (Some p) None ≡ Some n → n < length xs
      by_test p e = by_bool (nat_lt p (length xs)) refl e
        where
          by_bool : (b : Bool) → nat_lt p (length xs) ≡ b → cond b (Some p) None ≡ Some n → n < length xs
          by_bool true h k = let it : p ≡ n = grind arith in subst (λ (j : ℕ). j < length xs) it (grind arith)
          by_bool false h k = absurd (grind arith)

  out_in : (x : Queue) (n : ℕ) (a b : Bool) → next_message x.messages ≡ Some n → b ≡ false → QueueRight x a b → QueueRight (without_message n x) a b
  out_in x n a b next none h = record {
    room = let less = one_out x.messages n (next_within x.messages n next) in let room = h.room in omega arith;
    receivers = λ e. absurd (none_next x.messages n next (h.receivers e));
    senders = λ e. absurd (contra e none);
  }

  through_in : (x : Queue) (n : ℕ) (y : Message) (a b : Bool) → next_message x.messages ≡ Some n → QueueRight x a b → QueueRight (with_message y (without_message n x)) a b
  through_in x n y a b next h =
      let less = one_out x.messages n (next_within x.messages n next) in let more = longer (without_at n x.messages) y in record {
        room = let room = h.room in omega arith;
        receivers = λ e. absurd (none_next x.messages n next (h.receivers e));
        senders = λ e. let full = h.senders e in omega arith;
      }

  in_in : (x : Queue) (y : Message) (a b : Bool) → a ≡ false → has_room x ≡ true → QueueRight x a b → QueueRight (with_message y x) a b
  in_in x y a b none room h =
      let more = longer x.messages y in let small : length x.messages < x.depth = grind arith in record {
        room = omega arith;
        receivers = λ e. absurd (contra e none);
        senders = λ e. let full = h.senders e in absurd (omega arith);
      }

  same_messages : (q : ℕ) (o : Option Registration) (s : Turn P) → Law s → Law (changes_queue q (registered o) s)
  same_messages q o s h = one q (registered o) s (λ g. record { room = g.room; receivers = g.receivers; senders = g.senders }) h

  pub queues_keep : Keeps bodies who Law
  queues_keep (message_in q x) s may h q' = one q (with_message x) s (in_in (queue_at s.machine q) x _ _ may.0 may.1) h q'
  queues_keep (message_out q n) s may h q' = one q (without_message n) s (out_in (queue_at s.machine q) n _ _ may.0 may.1) h q'
  queues_keep (message_through q n x) s may h q' =
      subst (λ (xs : List Queue). (p : ℕ) → QueueRight (slice_index_or xs p no_queue) (somebody_waits s.machine (waits_to_receive p)) (somebody_waits s.machine (waits_to_send p)))
      (sym (changed-twice no_queue q (without_message n) (with_message x) s.machine.queues)) (one q (λ y. with_message x (without_message n y)) s (through_in (queue_at s.machine q) n x _ _ may) h) q'
  queues_keep (registers q o) s may h q' = same_messages q o s h q'
  queues_keep (fires q r) s may h q' = same_messages q None s h q'
  queues_keep (blocks_for by (for_message p) due) s may h q = by_eq (p == q) refl
    where
      by_eq : (b : Bool) → (p == q) ≡ b → QueueRight (queue_at s.machine q) (somebody_waits (does bodies (blocks_for by (for_message p) due) s).machine (waits_to_receive q)) (somebody_waits (does bodies (blocks_for by (for_message p) due) s).machine (waits_to_send q))
      by_eq true e = let it : p ≡ q = grind arith in record {
        room = (h q).room;
        receivers = λ w. subst (λ (i : ℕ). (queue_at s.machine i).messages ≡ []) it may.1;
        senders = λ w. (h q).senders (waited_before (waits_to_send q) bodies who (blocks_for by (for_message p) due) s may refl w);
      }
      by_eq false e = record {
        room = (h q).room;
        receivers = λ w. (h q).receivers (waited_before (waits_to_receive q) bodies who (blocks_for by (for_message p) due) s may e w);
        senders = λ w. (h q).senders (waited_before (waits_to_send q) bodies who (blocks_for by (for_message p) due) s may refl w);
      }
  queues_keep (blocks_for by (for_room p x) due) s may h q = by_eq (p == q) refl
    where
      full : (y : Queue) → has_room y ≡ false → length y.messages ≤ y.depth → length y.messages ≡ y.depth
      full y e room = grind arith

      by_eq : (b : Bool) → (p == q) ≡ b → QueueRight (queue_at s.machine q) (somebody_waits (does bodies (blocks_for by (for_room p x) due) s).machine (waits_to_receive q)) (somebody_waits (does bodies (blocks_for by (for_room p x) due) s).machine (waits_to_send q))
      by_eq true e = let it : p ≡ q = grind arith in record {
        room = (h q).room;
        receivers = λ w. (h q).receivers (waited_before (waits_to_receive q) bodies who (blocks_for by (for_room p x) due) s may refl w);
        senders = λ w. full (queue_at s.machine q) (subst (λ (i : ℕ). has_room (queue_at s.machine i) ≡ false) it may.1) (h q).room;
      }
      by_eq false e = record {
        room = (h q).room;
        receivers = λ w. (h q).receivers (waited_before (waits_to_receive q) bodies who (blocks_for by (for_room p x) due) s may refl w);
        senders = λ w. (h q).senders (waited_before (waits_to_send q) bodies who (blocks_for by (for_room p x) due) s may e w);
      }
  queues_keep (blocks_plainly by (for_message p) due) s may h q' = absurd may
  queues_keep (blocks_plainly by (for_room p x) due) s may h q' = absurd may
  queues_keep (wakes_with t ev r v) s may h q' = stays (wakes_with t ev r v) s may (wakes_telling_part (λ (m : Machine P). m.queues) (λ m threads. refl) ev t r v s) (λ q. refl) (λ q. refl) h q'
  queues_keep (begins t mask) s may h q' = stays (begins t mask) s may (part_begun (λ (m : Machine P). m.queues) (λ m threads. refl) bodies t mask s) (λ q. refl) (λ q. refl) h q'
  queues_keep (renews_with b t new) s may h q' = stays (renews_with b t new) s may (part_renewed (λ (m : Machine P). m.queues) (λ m threads. refl) b t new bodies s) (λ q. refl) (λ q. refl) h q'
  queues_keep (refills_one t) s may h q' = stays (refills_one t) s may (part_refill (λ (m : Machine P). m.queues) (λ m threads. refl) bodies t s) (λ q. refl) (λ q. refl) h q'
  queues_keep move s may h q = stays move s may refl (λ q. refl) (λ q. refl) h q
