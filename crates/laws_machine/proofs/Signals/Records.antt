-- Pending records are few, with one of a timer and one of a queue at most: every move keeps it.
use Rattle.std.proofs.Common.{Bool, List, None, Option, Some, [], ap, arith, false, inl, inr, refl, suc, sym, true, zero, ℕ, ◌≤◌, ◌∷◌, ◌++◌, ◌≡◌, ◌⊎◌}
use Rattle.std.specs.Prelude.{filter, nat_le, slice_index_or, ◌==◌}
use Rattle.std.specs.List.{list_any}
use mathlib.Core.Path.{subst, ◌∙◌}
use Rattle.rules_machine.specs.Lists.{changed_at, is}
use Rattle.rules_machine.specs.Bodies.{Bodies}
use Rattle.rules_machine.specs.State.{Machine, Queue, Registration, SignalRecord}
use Rattle.rules_machine.specs.Threads.{no_queue, queue_at}
use Rattle.rules_machine.specs.Signals.{is_counted, record_limit}
use Rattle.rules_machine.specs.Queues.{record_of_notification, registered, with_message, without_message}
use Rattle.rules_machine.specs.GoodState.{SignalsAreRight, count_of}
use Rattle.rules_machine.specs.Turns.{Turn, changes_queue}
use Rattle.rules_machine.proofs.Reading.{changed-keeps}
use Rattle.rules_moves.specs.Moves.{Keeps, begins, fires, message_in, message_out, message_through, record_in, record_out, records_of_ended, refills_one, registers, renews_with, wakes_with}
use Rattle.rules_moves.proofs.Calls.Commuting.{wakes_telling_part}
use Rattle.rules_moves.proofs.Waiters.AfterMoves.{part_begun, part_refill, part_renewed}

-- what the parts of a machine with records are
pub record RecordsAreRight {P : Type 0} (m : Machine P) : Type 0 where
  pub few : count_of (λ (r : SignalRecord). is_counted r.code) m.pending ≤ record_limit
  pub one_of_timer : (k : ℕ) → count_of (λ (r : SignalRecord). is r.timer k) m.pending ≤ 1
  pub one_of_queue : (q : ℕ) → count_of (λ (r : SignalRecord). is r.queue q) m.pending ≤ 1
  -- no record is pending of a queue with a registration
  pub free : (q : ℕ) (r : Registration) → (queue_at m q).registration ≡ Some r → count_of (λ (r : SignalRecord). is r.queue q) m.pending ≡ 0

pub signals_right : {P : Type 0} (m : Machine P) → RecordsAreRight m → SignalsAreRight m
signals_right m h = record { few = h.few; one_of_timer = h.one_of_timer; one_of_queue = h.one_of_queue }

-- ---- counts

module _ {X : Type 0} (passes : X → Bool) where
  fewer : (keep : X → Bool) (xs : List X) → count_of passes (filter keep xs) ≤ count_of passes xs
  fewer keep [] = omega arith
  fewer keep (x ∷ xs) = let rest = fewer keep xs in grind arith

  with_last : (xs : List X) (x : X) → passes x ≡ true → count_of passes (xs ++ x ∷ []) ≡ suc (count_of passes xs)
  with_last [] x e = grind arith
  with_last (y ∷ ys) x e = let rest = with_last ys x e in grind arith

  without_last : (xs : List X) (x : X) → passes x ≡ false → count_of passes (xs ++ x ∷ []) ≡ count_of passes xs
  without_last [] x e = grind arith
  without_last (y ∷ ys) x e = let rest = without_last ys x e in grind arith

  none_counted : (xs : List X) → list_any passes xs ≡ false → count_of passes xs ≡ 0
  none_counted [] e = refl
  none_counted (x ∷ xs) e = let h : passes x ≡ false = grind arith in let rest : count_of passes xs ≡ 0 = none_counted xs (grind arith) in grind arith

  -- one more, where it passes only if there was room
  last_within : (xs : List X) (x : X) (most : ℕ) → count_of passes xs ≤ most → (passes x ≡ true → suc (count_of passes xs) ≤ most) → count_of passes (xs ++ x ∷ []) ≤ most
  last_within xs x most h room = split (passes x) refl
    where
      split : (b : Bool) → passes x ≡ b → count_of passes (xs ++ x ∷ []) ≤ most
      split true e = let grown = with_last xs x e in let fits = room e in omega arith
      split false e = let same = without_last xs x e in omega arith

-- ---- registrations

cleared : (qs : List Queue) (q : ℕ) → (slice_index_or (changed_at no_queue q (registered None) qs) q no_queue).registration ≡ None
cleared [] q = refl
cleared (x ∷ qs) zero = refl
cleared (x ∷ qs) (suc q) = cleared qs q

only_then : (qs : List Queue) (p q : ℕ) (o : Option Registration) (r : Registration) → (slice_index_or (changed_at no_queue p (registered o) qs) q no_queue).registration ≡ Some r →
    ((p ≡ q) × (o ≡ Some r)) ⊎ ((slice_index_or qs q no_queue).registration ≡ Some r)
only_then [] p q o r e = inr e
only_then (x ∷ qs) zero zero o r e = inl (refl, e)
only_then (x ∷ qs) zero (suc q) o r e = inr e
only_then (x ∷ qs) (suc p) zero o r e = inr e
only_then (x ∷ qs) (suc p) (suc q) o r e = deeper (only_then qs p q o r e)
  where
    deeper : ((p ≡ q) × (o ≡ Some r)) ⊎ ((slice_index_or qs q no_queue).registration ≡ Some r) → ((suc p ≡ suc q) × (o ≡ Some r)) ⊎ ((slice_index_or qs q no_queue).registration ≡ Some r)
    deeper (inl h) = inl (ap suc h.0, h.1)
    deeper (inr h) = inr h

-- ---- every move

module _ {P : Type 0} (bodies : Bodies P) (who : Option ℕ) where
  abbrev Law : Turn P → Type 0
  Law s = RecordsAreRight s.machine

  -- another machine with the same records and registrations
  same_records : (m n : Machine P) → n.pending ≡ m.pending → ((q : ℕ) → (queue_at n q).registration ≡ (queue_at m q).registration) → RecordsAreRight m → RecordsAreRight n
  same_records m n e h q = record {
    few = rw e q.few;
    one_of_timer = λ k. rw e (q.one_of_timer k);
    one_of_queue = λ p. rw e (q.one_of_queue p);
    free = λ p r f. rw e (q.free p r (sym (h p) ∙ f));
  }

  -- fewer records
  fewer_records : (keep : SignalRecord → Bool) (m : Machine P) → RecordsAreRight m → RecordsAreRight (record m { pending = filter keep m.pending })
  fewer_records keep m q = record {
    few = let less = fewer (λ (r : SignalRecord). is_counted r.code) keep m.pending in let h = q.few in omega arith;
    one_of_timer = λ k. let less = fewer (λ (r : SignalRecord). is r.timer k) keep m.pending in let h = q.one_of_timer k in omega arith;
    one_of_queue = λ p. let less = fewer (λ (r : SignalRecord). is r.queue p) keep m.pending in let h = q.one_of_queue p in omega arith;
    free = λ p r f. let less = fewer (λ (r : SignalRecord). is r.queue p) keep m.pending in let h = q.free p r f in omega arith;
  }

  room_left : (n : ℕ) → nat_le record_limit n ≡ false → suc n ≤ record_limit
  room_left n e = grind arith

  none_is : (k : ℕ) → is None k ≡ true → ⊥
  none_is k e = grind arith

  pub records_keep : Keeps bodies who Law
  records_keep (record_in r) s may q =
      let new = record r { serial = s.machine.next_serial } in record {
        few = last_within (λ (r : SignalRecord). is_counted r.code) s.machine.pending new record_limit q.few (λ c. room_left _ (may.0.few c));
        one_of_timer = λ k. last_within (λ (r : SignalRecord). is r.timer k) s.machine.pending new 1 (q.one_of_timer k)
            (λ c. let none = none_counted (λ (r : SignalRecord). is r.timer k) s.machine.pending (may.0.timer k c) in omega arith);
        one_of_queue = λ p. last_within (λ (r : SignalRecord). is r.queue p) s.machine.pending new 1 (q.one_of_queue p) (λ c. absurd (none_is p (ap (λ o. is o p) (sym may.0.queue) ∙ c)));
        free = λ p x f. without_last (λ (r : SignalRecord). is r.queue p) s.machine.pending new (ap (λ o. is o p) may.0.queue) ∙ q.free p x f;
      }
  records_keep (fires p r) s may q =
      let new = record (record_of_notification p r) { serial = s.machine.next_serial } in record {
        few = last_within (λ (r : SignalRecord). is_counted r.code) s.machine.pending new record_limit q.few (λ c. absurd (grind arith));
        one_of_timer = λ k. last_within (λ (r : SignalRecord). is r.timer k) s.machine.pending new 1 (q.one_of_timer k) (λ c. absurd (none_is k c));
        one_of_queue = λ j. last_within (λ (r : SignalRecord). is r.queue j) s.machine.pending new 1 (q.one_of_queue j)
            (λ c. let it : p ≡ j = grind arith in let none = subst (λ (i : ℕ). count_of (λ (x : SignalRecord). is x.queue i) s.machine.pending ≡ 0) it (q.free p r may.0) in omega arith);
        free = λ j x f. of_two j x (only_then s.machine.queues p j None x f) f;
      }
    where
      of_two : (j : ℕ) (x : Registration) → ((p ≡ j) × (None ≡ Some x)) ⊎ ((queue_at s.machine j).registration ≡ Some x) →
          (queue_at (changes_queue p (registered None) s).machine j).registration ≡ Some x →
          count_of (λ (r : SignalRecord). is r.queue j) (s.machine.pending ++ record (record_of_notification p r) { serial = s.machine.next_serial } ∷ []) ≡ 0
      of_two j x (inl h) f = absurd (grind (arith, h.1))
      of_two j x (inr h) f =
          without_last (λ (r : SignalRecord). is r.queue j) s.machine.pending (record (record_of_notification p r) { serial = s.machine.next_serial }) (other (p == j) refl) ∙ q.free j x h
        where
          other : (b : Bool) → (p == j) ≡ b → (p == j) ≡ false
          other false e = e
          other true e =
              let it : p ≡ j = grind arith in
              let none : (queue_at (changes_queue p (registered None) s).machine j).registration ≡ None =
              subst (λ (i : ℕ). (queue_at (changes_queue p (registered None) s).machine i).registration ≡ None) it (cleared s.machine.queues p) in
              absurd (grind arith)
  records_keep (registers p o) s may q = record {
    few = q.few;
    one_of_timer = q.one_of_timer;
    one_of_queue = q.one_of_queue;
    free = λ j x f. of_two j x (only_then s.machine.queues p j o x f);
  }
    where
      of_two : (j : ℕ) (x : Registration) → ((p ≡ j) × (o ≡ Some x)) ⊎ ((queue_at s.machine j).registration ≡ Some x) → count_of (λ (r : SignalRecord). is r.queue j) s.machine.pending ≡ 0
      of_two j x (inl h) = subst (λ (i : ℕ). count_of (λ (r : SignalRecord). is r.queue i) s.machine.pending ≡ 0) h.0 (none_counted (λ (r : SignalRecord). is r.queue p) s.machine.pending (may x h.1))
      of_two j x (inr h) = q.free j x h
  records_keep (record_out r) s may q = fewer_records _ s.machine q
  records_keep (records_of_ended t) s may q = fewer_records _ s.machine q
  records_keep (message_in p x) s may q = same_records s.machine _ refl (λ j. changed-keeps no_queue p j (with_message x) (λ y. y.registration) (λ y. refl) s.machine.queues) q
  records_keep (message_out p n) s may q = same_records s.machine _ refl (λ j. changed-keeps no_queue p j (without_message n) (λ y. y.registration) (λ y. refl) s.machine.queues) q
  records_keep (message_through p n x) s may q = same_records s.machine _ refl
      (λ j. changed-keeps no_queue p j (with_message x) (λ y. y.registration) (λ y. refl) (changes_queue p (without_message n) s).machine.queues
      ∙ changed-keeps no_queue p j (without_message n) (λ y. y.registration) (λ y. refl) s.machine.queues) q
  records_keep (wakes_with t ev r v) s may q = same_records s.machine _ (wakes_telling_part (λ (m : Machine P). m.pending) (λ m threads. refl) ev t r v s)
      (λ j. ap (λ qs. (slice_index_or qs j no_queue).registration) (wakes_telling_part (λ (m : Machine P). m.queues) (λ m threads. refl) ev t r v s)) q
  records_keep (begins t mask) s may q = same_records s.machine _ (part_begun (λ (m : Machine P). m.pending) (λ m threads. refl) bodies t mask s)
      (λ j. ap (λ qs. (slice_index_or qs j no_queue).registration) (part_begun (λ (m : Machine P). m.queues) (λ m threads. refl) bodies t mask s)) q
  records_keep (renews_with b t new) s may q = same_records s.machine _ (part_renewed (λ (m : Machine P). m.pending) (λ m threads. refl) b t new bodies s)
      (λ j. ap (λ qs. (slice_index_or qs j no_queue).registration) (part_renewed (λ (m : Machine P). m.queues) (λ m threads. refl) b t new bodies s)) q
  records_keep (refills_one t) s may q = same_records s.machine _ (part_refill (λ (m : Machine P). m.pending) (λ m threads. refl) bodies t s)
      (λ j. ap (λ qs. (slice_index_or qs j no_queue).registration) (part_refill (λ (m : Machine P). m.queues) (λ m threads. refl) bodies t s)) q
  records_keep move s may q = same_records s.machine _ refl (λ j. refl) q
