-- The facts of a modest state are modest.
use Rattle.std.proofs.Common.{◌≡◌, ◌∙◌, ◌+◌, ◌<◌, ◌≤◌, Bool, List, None, Option, Some, [], ◌∷◌, ◌++◌, ap, arith, eqb, false, flat_map, length, map, refl, reverse, suc, sym, true, zero, ℕ, inl, inr, if◌then◌else◌}
use Rattle.std.specs.List.{AllByRecursion, IsDistinct, cons_option, filter, list_any, range_with_len}
use Rattle.std.specs.Prelude.{cond, filter_map, not, ◌==◌, ◌||◌}
use Rattle.std.proofs.lemmas.Grind.{reverse_onto}
use Rattle.std.proofs.lemmas.Bool.{ne_eqb}
use Rattle.std.proofs.lemmas.Bool.Decides.{eqb_tells}
use Rattle.std.proofs.lemmas.List.{length-map}
use borrow.Author.Tests.{clash}
use Rattle.std.proofs.lemmas.Map.Steps.{length-le_from_distinct_below}
use Rattle.words_script.specs.declared.decl.Script.{Script}
use Rattle.words_script.specs.declared.name_kind.NameKind.TheVariants as kind
use Rattle.script_writer.specs.Names.{names_of}
use Rattle.rules_lists.specs.Lists.{times_in_all}
use Rattle.rules_lists.specs.Threads.{times}
use Rattle.rules_machine.specs.Lists.{kept_if, numbers_from, numbers_where}
use Rattle.rules_machine.specs.Priorities.{exec}
use Rattle.rules_machine.specs.State.{Frame, Machine, SignalRecord, Status, Wait, blocked, dormant, ended, runnable}
use Rattle.rules_machine.specs.Threads.{is_live, is_main, no_thread, queue_at, thread_at, waiting_of}
use Rattle.rules_machine.specs.Waiters.{Waiter, is_served_before, waiter_of, waiters, waits_so}
use Rattle.rules_facts.specs.Fact.{Fact}
use Rattle.rules_facts.specs.Facts.{facts, facts_of_objects, facts_of_threads}
use Rattle.rules_facts.specs.Lists.{list_facts, lists_from}
use Rattle.rules_facts.specs.Objects.{condition_waiters, in_service_order, mutex_waiters, owner_fact, semaphore_fact, semaphore_waiters, timer_fact}
use Rattle.rules_facts.specs.Order.{in_order, put_in}
use Rattle.rules_facts.specs.Queues.{is_received_before, messages_fact, registration_fact, senders_and_receivers}
use Rattle.rules_facts.specs.Shown.{ending_record, once_ended, without_taken}
use Rattle.rules_facts.specs.Signals.{pending_of, signal_fact}
use Rattle.rules_facts.specs.Threads.{cancelability_fact, cleanups_fact, frames_fact, inner_bodies, living, mask_fact, pending_fact, status_fact, thread_fact}
use Rattle.kernel_texts.specs.Modest.{AreModest, IsModest, IsModestState, IsModestThread, IsNumber, members_in, number_in}

-- ---- lists

module _ {X : Type 0} (holds : X → Type 0) where
  pub all_both : (xs ys : List X) → AllByRecursion holds xs → AllByRecursion holds ys → AllByRecursion holds (xs ++ ys)
  all_both [] ys a b = b
  all_both (x ∷ xs) ys a b = (a.0, all_both xs ys a.1 b)

  pub all_reverse : (xs : List X) → AllByRecursion holds xs → AllByRecursion holds (reverse xs)
  all_reverse [] a = tt
  all_reverse (x ∷ xs) a = rw (reverse_onto xs x []) (all_both (reverse xs) (x ∷ []) (all_reverse xs a.1) (a.0, tt))

  pub all_below : (f : ℕ → X) (a n : ℕ) → ((k : ℕ) → k < a + n → holds (f k)) → AllByRecursion holds (map f (range_with_len a n))
  all_below f a zero each = tt
  all_below f a (suc n) each = (each a (omega arith), all_below f (a + 1) n (λ k low. each k (omega (arith, low))))

  pub all_of_rows : (f : ℕ → List X) (ns : List ℕ) → ((k : ℕ) → AllByRecursion holds (f k)) → AllByRecursion holds (flat_map f ns)
  all_of_rows f [] each = tt
  all_of_rows f (n ∷ ns) each = all_both (f n) (flat_map f ns) (each n) (all_of_rows f ns each)

  pub all_filtered : (p : X → Bool) (xs : List X) → AllByRecursion holds xs → AllByRecursion holds (filter p xs)
  all_filtered p [] a = tt
  all_filtered p (x ∷ xs) a =
      let rest = all_filtered p xs a.1 in
      let here = a.0 in
      elim (p x) as (λ b. AllByRecursion holds (cond b (x ∷ filter p xs) (filter p xs))) [ true ↦ (here, rest) | false ↦ rest ]

  all_put : (before : X → X → Bool) (x : X) (xs : List X) → holds x → AllByRecursion holds xs → AllByRecursion holds (put_in before x xs)
  all_put before x [] h a = (h, tt)
  all_put before x (y ∷ ys) h a =
      let rest = all_put before x ys h a.1 in
      let here = a.0 in
      let behind = a.1 in
      elim (before y x) as (λ b. AllByRecursion holds (if b then y ∷ put_in before x ys else x ∷ y ∷ ys)) [ true ↦ (here, rest) | false ↦ (h, (here, behind)) ]

  pub all_ordered : (before : X → X → Bool) (xs : List X) → AllByRecursion holds xs → AllByRecursion holds (in_order before xs)
  all_ordered before [] a = tt
  all_ordered before (x ∷ xs) a = all_put before x (in_order before xs) a.0 (all_ordered before xs a.1)

len_filtered : {X : Type 0} (p : X → Bool) (xs : List X) → length (filter p xs) ≤ length xs
len_filtered p [] = omega arith
len_filtered p (x ∷ xs) =
    let rest = len_filtered p xs in
    elim (p x) as (λ b. length (cond b (x ∷ filter p xs) (filter p xs)) ≤ suc (length xs)) [ true ↦ omega (arith, rest) | false ↦ omega (arith, rest) ]

len_put : {X : Type 0} (before : X → X → Bool) (x : X) (xs : List X) → length (put_in before x xs) ≡ suc (length xs)
len_put before x [] = refl
len_put before x (y ∷ ys) =
    let rest = len_put before x ys in
    elim (before y x) as (λ b. length (if b then y ∷ put_in before x ys else x ∷ y ∷ ys) ≡ suc (suc (length ys))) [ true ↦ ap suc rest | false ↦ refl ]

len_ordered : {X : Type 0} (before : X → X → Bool) (xs : List X) → length (in_order before xs) ≡ length xs
len_ordered before [] = refl
len_ordered before (x ∷ xs) = len_put before x (in_order before xs) ∙ ap suc (len_ordered before xs)

len_numbers : {X : Type 0} (n : ℕ) (p : X → Bool) (xs : List X) → length (numbers_from n p xs) ≤ length xs
len_numbers n p [] = omega arith
len_numbers n p (x ∷ xs) =
    let rest = len_numbers (n + 1) p xs in
    elim (p x) as (λ b. length (kept_if b n (numbers_from (n + 1) p xs)) ≤ suc (length xs)) [ true ↦ omega (arith, rest) | false ↦ omega (arith, rest) ]

-- ---- the lists of runnable threads

-- a thread that stands once at most is not there again
times_more : (t : ℕ) (threads : List ℕ) (lists : List (List ℕ)) → times t threads ≤ times_in_all t (threads ∷ lists)
times_more t threads lists = omega arith

abbrev weight : Bool → ℕ
weight b = if b then 1 else 0

apart : (x : ℕ) (xs : List ℕ) → times x xs ≤ 0 → AllByRecursion (λ (y : ℕ). eqb x y ≡ false) xs
apart x [] none = tt
apart x (y ∷ ys) none =
    let rest = apart x ys (omega (arith, none)) in
    elim (eqb_tells y x) [
      | inl same ↦ let one : weight (y == x) ≡ 1 = ap weight same.0 in absurd (omega (arith, none, one))
      | inr other ↦ (ne_eqb x y (λ e. other.1 (sym e)), rest)
    ]

distinct : (xs : List ℕ) → ((t : ℕ) → times t xs ≤ 1) → IsDistinct eqb xs
unfolding IsDistinct
distinct [] once = tt
distinct (x ∷ xs) once =
    let here : times x xs ≤ 0 =
    elim (eqb_tells x x) [
      | inl same ↦ let one : weight (x == x) ≡ 1 = ap weight same.0 in let all = once x in omega (arith, all, one)
      | inr other ↦ absurd (other.1 refl)
    ] in
    (apart x xs here, distinct xs (λ t. let all = once t in omega (arith, all)))

stands : (q : ℕ) (xs : List ℕ) → list_any (eqb q) xs ≡ true → 1 ≤ times q xs
stands q [] h = absurd (clash h)
stands q (x ∷ xs) h =
    elim (eqb_tells x q) [
      | inl same ↦ let one : weight (x == q) ≡ 1 = ap weight same.0 in omega (arith, one)
      | inr other ↦
          let no : eqb q x ≡ false = ne_eqb q x (λ e. other.1 (sym e)) in
          let there = stands q xs (sym (ap (λ (b : Bool). b || list_any (eqb q) xs) no) ∙ h) in
          omega (arith, there)
    ]

list_few : (n : ℕ) (xs : List ℕ) → ((t : ℕ) → times t xs ≤ 1) → ((t : ℕ) → 1 ≤ times t xs → t < n) → length xs ≤ n
list_few n xs once known = length-le_from_distinct_below xs n (distinct xs once) (λ q h. known q (stands q xs h))

lists_modest : (most p : ℕ) (lists : List (List ℕ)) → p + length lists ≤ 256 → ((t : ℕ) → times_in_all t lists ≤ 1) → ((t : ℕ) → 1 ≤ times_in_all t lists → t < most) → AreModest most (lists_from p lists)
lists_modest most p [] low once known = tt
lists_modest most p (threads ∷ lists) low once known =
    let number : IsNumber p = omega (arith, low) in
    let few = list_few most threads (λ t. let all = once t in omega (arith, all)) (λ t some. known t (omega (arith, some))) in
    (record { number = number; few = few }, lists_modest most (p + 1) lists (omega (arith, low)) (λ t. let all = once t in omega (arith, all)) (λ t some. known t (omega (arith, some))))

-- ---- waiters

waiters_few : {P : Type 0} (m : Machine P) (passes : Wait → Bool) (ns : List ℕ) → length (filter_map (λ (t : ℕ). waiter_of t (exec m t) (waiting_of m t)) ns) ≤ length ns
waiters_few m passes [] = omega arith
waiters_few {P} m passes (t ∷ ns) =
    let rest = waiters_few m passes ns in
    elim (waiter_of t (exec m t) (waiting_of m t)) as (λ o. length (cons_option o (filter_map (λ (x : ℕ). waiter_of x (exec m x) (waiting_of m x)) ns)) ≤ suc (length ns)) [
      | None ↦ omega (arith, rest)
      | Some w ↦ omega (arith, rest)
    ]

service_few : {P : Type 0} (m : Machine P) (passes : Wait → Bool) → length (in_service_order m passes) ≤ length m.threads
service_few m passes =
    let mapped = length-map (in_order is_served_before (waiters m passes)) (λ (w : Waiter). w.thread) in
    let ordered = len_ordered is_served_before (waiters m passes) in
    let filtered = waiters_few m passes (numbers_where (waits_so passes) m.threads) in
    let numbered = len_numbers 0 (waits_so passes) m.threads in
    omega (arith, mapped, ordered, filtered, numbered)

-- ---- rows

-- a fact that tells of so few
few_in : (most : ℕ) (f : Fact) → number_in f ≡ 0 → members_in f ≤ most → IsModest most f
few_in most f none few = record { number = omega (arith, none); few = few }

-- a fact that tells of no members
none_in : (most : ℕ) (f : Fact) → number_in f ≡ 0 → members_in f ≡ 0 → IsModest most f
none_in most f none no_members = few_in most f none (omega (arith, no_members))

module _ {P : Type 0} (most : ℕ) (m : Machine P) (ok : IsModestState most m) where
  none : IsModestThread {P = P} most no_thread
  none = record { frames = omega arith; cleanups = omega arith; pending = omega arith }

  living_modest : (t : ℕ) → t < length m.threads → IsModestThread most (living (thread_at m t))
  living_modest t low =
      let here = ok.threads t low in
      let th = thread_at m t in
      elim (is_live th.status) as (λ b. IsModestThread most (if b then th else no_thread)) [ true ↦ here | false ↦ none ]

  status_modest : (t : ℕ) (status : Status) → IsModest most (status_fact m t status)
  status_modest t (dormant at) = none_in most _ refl refl
  status_modest t runnable = none_in most _ refl refl
  status_modest t (blocked w) = none_in most _ refl refl
  status_modest t ended = none_in most _ refl refl

  frames_few : (frames : List (Frame P)) → length (inner_bodies frames) ≤ length frames
  frames_few frames =
      let mapped = length-map (filter (λ (f : Frame P). not (is_main f.kind)) frames) (λ (f : Frame P). f.body) in
      let filtered = len_filtered (λ (f : Frame P). not (is_main f.kind)) frames in
      omega (arith, mapped, filtered)

  frames_modest : (t : ℕ) → t < length m.threads → IsModest most (frames_fact m t)
  frames_modest t low =
      let all = frames_few (living (thread_at m t)).frames in
      let few = (living_modest t low).frames in
      few_in most (frames_fact m t) refl (omega (arith, all, few))

  threads_modest : AreModest most (facts_of_threads m)
  threads_modest =
      let n = length m.threads in
      all_both (IsModest most) _ _ (all_both (IsModest most) _ _ (all_both (IsModest most) _ _ (all_both (IsModest most) _ _ (all_both (IsModest most) _ _
      (all_below (IsModest most) (thread_fact m) 0 n (λ t low. status_modest t (thread_at m t).status))
      (all_below (IsModest most) (frames_fact m) 0 n (λ t low. frames_modest t (omega (arith, low)))))
      (all_below (IsModest most) (mask_fact m) 0 n (λ t low. none_in most (mask_fact m t) refl refl)))
      (all_below (IsModest most) (cancelability_fact m) 0 n (λ t low. none_in most (cancelability_fact m t) refl refl)))
      (all_below (IsModest most) (cleanups_fact m) 0 n (λ t low. few_in most (cleanups_fact m t) refl (living_modest t (omega (arith, low))).cleanups)))
      (all_below (IsModest most) (pending_fact m) 0 n (λ t low. few_in most (pending_fact m t) refl (living_modest t (omega (arith, low))).pending))

  service_modest : (passes : Wait → Bool) → length (in_service_order m passes) ≤ most
  service_modest passes = let all = service_few m passes in let few = ok.few in omega (arith, all, few)

  messages_modest : (q : ℕ) → q < length m.queues → IsModest most (messages_fact m q)
  messages_modest q low =
      let ordered = len_ordered is_received_before (queue_at m q).messages in
      let few = ok.messages q low in
      few_in most (messages_fact m q) refl (omega (arith, ordered, few))

  signal_modest : (signal : ℕ) → signal < 32 → IsModest most (signal_fact m signal)
  signal_modest signal low =
      let p : SignalRecord → Bool = λ r. r.signal == signal in
      let mapped = length-map (filter p m.pending) pending_of in
      let filtered = len_filtered p m.pending in
      let few = ok.pending in
      record { number = omega (arith, low); few = omega (arith, mapped, filtered, few) }

  objects_modest : (script : Script) → AreModest most (facts_of_objects script m)
  objects_modest script =
      all_both (IsModest most) _ _ (all_both (IsModest most) _ _ (all_both (IsModest most) _ _ (all_both (IsModest most) _ _ (all_both (IsModest most) _ _
      (all_both (IsModest most) _ _ (all_both (IsModest most) _ _ (all_both (IsModest most) _ _ (all_both (IsModest most) _ _
      (all_below (IsModest most) (owner_fact m) 0 (length m.mutexes) (λ k low. none_in most (owner_fact m k) refl refl))
      (all_below (IsModest most) (mutex_waiters m) 0 (length m.mutexes) (λ k low. few_in most (mutex_waiters m k) refl (service_modest _))))
      (all_below (IsModest most) (condition_waiters m) 0 (length (names_of kind.Cond script.decls)) (λ k low. few_in most (condition_waiters m k) refl (service_modest _))))
      (all_below (IsModest most) (semaphore_waiters m) 0 (length m.semaphores) (λ k low. few_in most (semaphore_waiters m k) refl (service_modest _))))
      (all_below (IsModest most) (semaphore_fact m) 0 (length m.semaphores) (λ k low. none_in most (semaphore_fact m k) refl refl)))
      (all_below (IsModest most) (messages_fact m) 0 (length m.queues) (λ q low. messages_modest q (omega (arith, low)))))
      (all_of_rows (IsModest most) (senders_and_receivers m) (range_with_len 0 (length m.queues)) (λ q. (few_in most _ refl (service_modest _), (few_in most _ refl (service_modest _), tt)))))
      (all_below (IsModest most) (registration_fact m) 0 (length m.queues) (λ q low. none_in most (registration_fact m q) refl refl)))
      (all_below (IsModest most) (timer_fact m) 0 (length m.timers) (λ k low. none_in most (timer_fact m k) refl refl)))
      (all_below (IsModest most) (signal_fact m) 0 (length m.actions) (λ signal low. signal_modest signal (let few = ok.signals in omega (arith, low, few))))

  listed_modest : AreModest most (list_facts m.lists)
  listed_modest =
      all_reverse (IsModest most) (lists_from 1 m.lists)
      (lists_modest most 1 m.lists (let every = ok.lists.each_priority in omega (arith, every)) ok.lists.once (λ t some. let low = ok.lists.known t some in let few = ok.few in omega (arith, low, few)))

pub state_modest : {P : Type 0} (script : Script) (most : ℕ) (m : Machine P) → IsModestState most m → AreModest most (facts script m)
state_modest script most m ok =
    all_both (IsModest most) _ _ (listed_modest most m ok) (all_both (IsModest most) _ _ (threads_modest most m ok) (objects_modest most m ok script))

-- ---- a process that has ended

module _ {P : Type 0} (most : ℕ) (m : Machine P) (ok : IsModestState most m) where
  fewer_modest : (p : SignalRecord → Bool) → IsModestState most (record m { pending = filter p m.pending })
  fewer_modest p =
      let filtered = len_filtered p m.pending in
      let few = ok.pending in
      record {
        few = ok.few;
        lists = ok.lists;
        threads = ok.threads;
        messages = ok.messages;
        signals = ok.signals;
        pending = omega (arith, filtered, few);
      }

  taken_modest : (r : Option SignalRecord) → IsModestState most (without_taken r m)
  taken_modest None = ok
  taken_modest (Some r) = fewer_modest (λ (other : SignalRecord). not (other.serial == r.serial))

  pub ended_modest : (killed : Option ℕ) → IsModestState most (once_ended killed m)
  ended_modest None = ok
  ended_modest (Some signal) = taken_modest (ending_record m)
