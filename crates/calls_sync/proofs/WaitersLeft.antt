-- How many wait for a condition, as one after another of them contends for its mutex.
use Rattle.std.proofs.Common.{◌≡◌, ◌≤◌, ◌+◌, ◌-◌, ◌∙◌, ℕ, zero, suc, Bool, true, false, List, [], ◌∷◌, None, Option, Some, ap, arith, length, refl, subst, sym}
use Rattle.std.specs.Prelude.{option_and_then, option_map, if◌then◌else◌}
use Rattle.words_numbers.specs.declared.res.Res.{Res}
use Rattle.words_numbers.specs.declared.res.Res.TheVariants as res
use Rattle.rules_server.specs.Server.{ServerState, activate}
use Rattle.words_trace.specs.declared.event.Event.{Event}
use Rattle.parts_tracer.specs.declared.tracer.Tracer.{Tracer}
use Rattle.parts_tracer.specs.Tells.{Tells}
use Rattle.rules_bodies.specs.declared.cursor.Cursor.{Cursor}
use Rattle.rules_machine.specs.declared.thread.CondEnd.TheVariants as cond_end
use Rattle.rules_machine.specs.Conditions.{contends, reacquires_or_waits, released_mutex, signals_best, signals_waiter, waits_on_condition}
use Rattle.rules_machine.specs.Lists.{changed_at, first_by, numbers_from}
use Rattle.rules_machine.specs.Mutexes.{is_free, returns_from_wait, taken_by}
use Rattle.rules_machine.specs.Servers.{activates_server, with_server}
use Rattle.rules_machine.specs.State.{Machine, Thread, Wait, Waiting, for_condition, for_end, for_message, for_mutex, for_mutex_again, for_room, for_semaphore, for_signal, for_time}
use Rattle.rules_machine.specs.Threads.{no_thread, thread_in, waiting_of}
use Rattle.rules_machine.specs.Turns.{Caller, Turn, answered, changes, changes_mutex, moves, returns, tells, ◌▷◌}
use Rattle.rules_machine.specs.Waiters.{Waiter, best_waiter, is_served_before, waiters, waits_so}
use Rattle.rules_machine.specs.Waking.{blocks, call_in, put_to_wait, wakes_telling, woken}
use Rattle.rules_moves.proofs.Waiters.Best.{best_waits}
use Rattle.parts_waiters.specs.Ties.{is_object, object_of}
use Rattle.parts_waiters.specs.declared.WaitObj.TheVariants.{Cond}
use Rattle.kernel_state.specs.Kernel.{Kernel, after, told, turn}
use Rattle.kernel_state.proofs.InConditions.{waiters_counted}
use Rattle.kernel_wakes.specs.Waits.{WaitsFit}
use Rattle.calls_sync.proofs.Signalling.{Signalled, none_yet, one_more}

-- ---- one thread of a list passes no more

counted_less : (p : Thread Cursor → Bool) (t a : ℕ) (f : Thread Cursor → Thread Cursor) (ths : List (Thread Cursor)) → p no_thread ≡ false → p (thread_in ths t) ≡ true → p (f (thread_in ths t)) ≡ false →
    suc (length (numbers_from a p (changed_at no_thread t f ths))) ≡ length (numbers_from a p ths)
counted_less p t a f [] nobody on off = absurd (let e : true ≡ false = sym on ∙ nobody in cc)
counted_less p zero a f (x ∷ xs) nobody on off = rw (on, off) refl
counted_less p (suc t) a f (x ∷ xs) nobody on off = by_first (p x) refl (counted_less p t (a + 1) f xs nobody on off)
  where
    by_first : (b : Bool) → p x ≡ b → suc (length (numbers_from (a + 1) p (changed_at no_thread t f xs))) ≡ length (numbers_from (a + 1) p xs) →
        suc (length (numbers_from a p (changed_at no_thread (suc t) f (x ∷ xs)))) ≡ length (numbers_from a p (x ∷ xs))
    by_first true e rest = rw e (ap suc rest)
    by_first false e rest = rw e rest

counted_same : (p : Thread Cursor → Bool) (t a : ℕ) (f : Thread Cursor → Thread Cursor) (ths : List (Thread Cursor)) → ((th : Thread Cursor) → p (f th) ≡ p th) →
    length (numbers_from a p (changed_at no_thread t f ths)) ≡ length (numbers_from a p ths)
counted_same p t a f [] same = refl
counted_same p zero a f (x ∷ xs) same = rw (same x) refl
counted_same p (suc t) a f (x ∷ xs) same = by_first (p x) refl (counted_same p t (a + 1) f xs same)
  where
    by_first : (b : Bool) → p x ≡ b → length (numbers_from (a + 1) p (changed_at no_thread t f xs)) ≡ length (numbers_from (a + 1) p xs) →
        length (numbers_from a p (changed_at no_thread (suc t) f (x ∷ xs))) ≡ length (numbers_from a p (x ∷ xs))
    by_first true e rest = rw e (ap suc rest)
    by_first false e rest = rw e rest

counted_most : (p : Thread Cursor → Bool) (a : ℕ) (ths : List (Thread Cursor)) → length (numbers_from a p ths) ≤ length ths
counted_most p a [] = omega arith
counted_most p a (x ∷ xs) = by_first (p x) refl (counted_most p (a + 1) xs)
  where
    by_first : (b : Bool) → p x ≡ b → length (numbers_from (a + 1) p xs) ≤ length xs → length (numbers_from a p (x ∷ xs)) ≤ suc (length xs)
    by_first true e rest = rw e (omega (arith, rest))
    by_first false e rest = rw e (omega (arith, rest))

none_first : (ws : List Waiter) → first_by is_served_before ws ≡ None → length ws ≡ 0
none_first [] none = refl
none_first (w ∷ ws) none = absurd cc

-- ---- the waiters of a condition

module _ (c : ℕ) where
  abbrev so : Thread Cursor → Bool
  so = waits_so (waits_on_condition c)

  -- how many wait for it
  abbrev pub left : Machine Cursor → ℕ
  left m = length (waiters m (waits_on_condition c))

  counted : (m : Machine Cursor) → left m ≡ length (numbers_from 0 so m.threads)
  counted m = waiters_counted m (waits_on_condition c)

  pub few_left : (m : Machine Cursor) → left m ≤ length m.threads
  few_left m = let most = counted_most so 0 m.threads in let all = counted m in omega (arith, most, all)

  pub none_left : (m : Machine Cursor) → best_waiter m (waits_on_condition c) ≡ None → left m ≡ 0
  none_left m none = none_first (waiters m (waits_on_condition c)) none

  -- an answer leaves them
  pub answered_left : (by : Caller) (r : Res) (v : ℕ) (s : Turn Cursor) → left (returns by r v s).machine ≡ left s.machine
  answered_left by r v s =
      counted (returns by r v s).machine ∙ counted_same so by.thread 0 (λ th. answered r v th) s.machine.threads (λ th. refl) ∙ sym (counted s.machine)

  -- one of them contends
  module _ (s : Turn Cursor) (t : ℕ) (waits : so (thread_in s.machine.threads t) ≡ true) where
    abbrev Fewer : Turn Cursor → Type 0
    Fewer r = suc (length (numbers_from 0 so r.machine.threads)) ≡ length (numbers_from 0 so s.machine.threads)

    activated_fewer : (o : Option ServerState) (r : Turn Cursor) → Fewer r → Fewer (activates_server t o r)
    activated_fewer None r h = h
    activated_fewer (Some server) r h = ap suc (counted_same so t 0 (with_server (activate r.machine.now)) r.machine.threads (λ th. refl)) ∙ h

    woken_fewer : (e : Event) (k : ℕ) → Fewer (s ▷ changes_mutex k (taken_by t) ▷ wakes_telling e t res.Zero 0)
    woken_fewer e k =
        let up = tells e (moves t (changes t (woken res.Zero 0) (changes_mutex k (taken_by t) s))) in
        activated_fewer _ up (counted_less so t 0 (woken res.Zero 0) s.machine.threads refl waits refl)

    by_free : (k : ℕ) (b : Bool) → Fewer (if b then (s ▷ changes_mutex k (taken_by t) ▷ returns_from_wait cond_end.Signalled t)
        else blocks (record { thread = t; call = call_in (waiting_of s.machine t) }) (for_mutex_again k cond_end.Signalled) None s)
    by_free k true = woken_fewer _ k
    by_free k false = counted_less so t 0 (put_to_wait _) s.machine.threads refl waits refl

    by_wait : (o : Option Waiting) → waiting_of s.machine t ≡ o → Fewer (reacquires_or_waits (option_and_then (λ (w : Waiting). released_mutex w.wait) o) t cond_end.Signalled s)
    by_wait None e = absurd (let h : false ≡ true = rw e at waits in cc)
    by_wait (Some w) e = by_object w.wait (rw e at waits)
      where
        by_object : (x : Wait) → waits_on_condition c x ≡ true → Fewer (reacquires_or_waits (released_mutex x) t cond_end.Signalled s)
        by_object (for_condition d k) on = by_free k (is_free s.machine k)
        by_object _ on = absurd cc

    pub contended_fewer : suc (left (contends t cond_end.Signalled s).machine) ≡ left s.machine
    contended_fewer = ap suc (counted (contends t cond_end.Signalled s).machine) ∙ by_wait (waiting_of s.machine t) refl ∙ sym (counted s.machine)

  -- and with the best of them one fewer is left
  pub signalled_fewer : (s : Turn Cursor) (w : Waiter) → best_waiter s.machine (waits_on_condition c) ≡ Some w → suc (left (signals_best c s).machine) ≡ left s.machine
  signalled_fewer s w best =
      let is = best_waits s.machine (waits_on_condition c) w best in
      ap (λ (o : Option Waiter). suc (left (signals_waiter o s).machine)) best ∙ contended_fewer s w.thread (rw is.0 is.1)

-- ---- a broadcast in which some have contended

pub signals_are : (c w : ℕ) (s : Turn Cursor) (o : Option Waiter) → best_waiter s.machine (waits_on_condition c) ≡ o → Some w ≡ option_map (λ (x : Waiter). x.thread) o →
    contends w cond_end.Signalled s ≡ signals_best c s
signals_are c w s None best is = absurd cc
signals_are c w s (Some x) best is = let e : w ≡ x.thread = cc in rw (best, e) refl

-- the waiter that contended is not left
pub contends_fewer : (c : ℕ) (k l : Kernel) (w : ℕ) → Some w ≡ option_map (λ (x : Waiter). x.thread) (best_waiter k.machine (waits_on_condition c)) → l ≡ after (contends w cond_end.Signalled) k →
    suc (left c l.machine) ≡ left c k.machine
contends_fewer c k l w best state = by_best (best_waiter k.machine (waits_on_condition c)) refl best
  where
    by_best : (o : Option Waiter) → best_waiter k.machine (waits_on_condition c) ≡ o → Some w ≡ option_map (λ (x : Waiter). x.thread) o → suc (left c l.machine) ≡ left c k.machine
    by_best None none is = absurd cc
    by_best (Some x) some is =
        let same = signals_are c w (turn k) (Some x) some is in
        ap (λ (m : Kernel). suc (left c m.machine)) state ∙ ap (λ (s : Turn Cursor). suc (left c s.machine)) same ∙ signalled_fewer c (turn k) x some

-- who waits for a condition waits for it as an object
pub on_condition : (c : ℕ) (x : Wait) → waits_on_condition c x ≡ is_object (Cond c) (object_of x)
on_condition c (for_mutex k) = refl
on_condition c (for_mutex_again k how) = refl
on_condition c (for_condition d k) = refl
on_condition c (for_end u) = refl
on_condition c (for_semaphore k) = refl
on_condition c for_time = refl
on_condition c (for_room q message) = refl
on_condition c (for_message q) = refl
on_condition c (for_signal signals) = refl

pub record Broadcasting {K : Type 0} (text : K → Option (List ℕ)) (faults : K → ℕ) (c : ℕ) (start k : Kernel) (a b : Tracer K) : Type 0 where
  pub fewer : left c k.machine ≤ left c start.machine
  pub so : Signalled text faults c start k (left c start.machine - left c k.machine) a b

module _ {K : Type 0} (text : K → Option (List ℕ)) (faults : K → ℕ) (c : ℕ) where
  pub all_left : (start : Kernel) (a : Tracer K) → WaitsFit start.machine → Broadcasting text faults c start start a a
  all_left start a fits =
      let none : 0 ≡ left c start.machine - left c start.machine = omega arith in
      record { fewer = omega arith; so = subst (λ (n : ℕ). Signalled text faults c start start n a a) none (none_yet text faults c start a fits) }

  pub one_fewer : (start k l : Kernel) (w : ℕ) (a b d : Tracer K) → Some w ≡ option_map (λ (x : Waiter). x.thread) (best_waiter k.machine (waits_on_condition c)) →
      Broadcasting text faults c start k a b → l ≡ after (contends w cond_end.Signalled) k → Tells text faults k.names b d (told (contends w cond_end.Signalled) k) →
      Broadcasting text faults c start l a d
  one_fewer start k l w a b d best before state tells =
      let same = signals_are c w (turn k) (best_waiter k.machine (waits_on_condition c)) refl best in
      let state' : l ≡ after (signals_best c) k = state ∙ ap (λ (s : Turn Cursor). record k { machine = s.machine; direct = s.direct }) same in
      let tells' : Tells text faults k.names b d (told (signals_best c) k) = subst (λ (s : Turn Cursor). Tells text faults k.names b d s.events) same tells in
      let less = contends_fewer c k l w best state in
      let fewer = before.fewer in
      let n : (left c start.machine - left c k.machine) + 1 ≡ left c start.machine - left c l.machine = omega (arith, less, fewer) in
      record {
        fewer = omega (arith, less, fewer);
        so = subst (λ (j : ℕ). Signalled text faults c start l j a d) n (one_more text faults c start k l (left c start.machine - left c k.machine) a b d before.so state' tells');
      }

  -- and at the end all of them have
  pub none_is_left : (start k : Kernel) (a b : Tracer K) → None ≡ option_map (λ (x : Waiter). x.thread) (best_waiter k.machine (waits_on_condition c)) → Broadcasting text faults c start k a b →
      Signalled text faults c start k (left c start.machine) a b
  none_is_left start k a b best so = by_best (best_waiter k.machine (waits_on_condition c)) refl best
    where
      by_best : (o : Option Waiter) → best_waiter k.machine (waits_on_condition c) ≡ o → None ≡ option_map (λ (x : Waiter). x.thread) o → Signalled text faults c start k (left c start.machine) a b
      by_best None none is =
          let zero = none_left c k.machine none in
          let n : left c start.machine - left c k.machine ≡ left c start.machine = omega (arith, zero) in
          subst (λ (j : ℕ). Signalled text faults c start k j a b) n so.so
      by_best (Some x) some is = absurd cc
