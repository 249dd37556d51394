-- Where the rooms are as large as those of a script's run, the texts of all facts of a state with its threads and objects have room.
use Rattle.std.proofs.Common.{None, Option, Some, ◌≡◌, ◌∙◌, ◌+◌, ◌*◌, ◌<◌, ◌≤◌, List, false, [], ◌∷◌, ◌++◌, ap, arith, flat_map, length, length-append, map, refl, suc, sym, zero, ℕ}
use Rattle.std.specs.List.{AllByRecursion, range_with_len}
use Rattle.std.specs.Prelude.{sum_by}
use Rattle.std.proofs.lemmas.List.{length-map, length-reverse}
use Rattle.std.proofs.lemmas.List.FromFn.{length-map-range_with_len}
use Rattle.std.proofs.lemmas.List.Sums.{sum_by-cons}
use Rattle.words_script.specs.declared.decl.Script.{Script}
use Rattle.words_script.specs.declared.name_kind.NameKind.TheVariants as kind
use Rattle.script_writer.specs.Names.{names_of}
use Rattle.parts_texts.specs.Texts.{Told}
use Rattle.rules_machine.specs.State.{Machine}
use Rattle.rules_machine.specs.Threads.{thread_at}
use Rattle.rules_facts.specs.Fact.{Fact}
use Rattle.rules_facts.specs.Facts.{facts, facts_of_objects, facts_of_threads}
use Rattle.rules_facts.specs.Lists.{list_facts, lists_from}
use Rattle.rules_facts.specs.Objects.{condition_waiters, mutex_waiters, owner_fact, semaphore_fact, semaphore_waiters, timer_fact}
use Rattle.rules_facts.specs.Queues.{messages_fact, registration_fact, senders_and_receivers}
use Rattle.rules_facts.specs.Signals.{signal_fact}
use Rattle.rules_facts.specs.Threads.{cancelability_fact, cleanups_fact, frames_fact, mask_fact, pending_fact, thread_fact}
use Rattle.kernel_texts.specs.Lines.{fact_text}
use Rattle.kernel_texts.specs.Modest.{HasFewMembers, IsModestState, IsModestThread, NamesAreShort}
use Rattle.kernel_texts.specs.Short.{HaveShortTexts}
use Rattle.kernel_texts.specs.Kept.{HaveRoom, HaveSameRooms, texts_of}
use Rattle.kernel_texts.specs.Changed.{subject_text}
use Rattle.kernel_texts.specs.Subjects.{subjects_of}
use Rattle.kernel_texts.specs.Rooms.{AreRooms, HasObjectsOf, HasRooms, IsRoomy, fact_count, facts_told, members_told, no_text}
use Rattle.kernel_texts.specs.declared.rooms.Rooms.{Rooms}
use Rattle.kernel_texts.proofs.ModestFacts.{ended_modest, state_modest}
use Rattle.kernel_texts.proofs.Modest.{subjects_short, texts_short}
use Rattle.rules_facts.specs.Shown.{ending_record, once_ended, without_taken}
use Rattle.rules_machine.specs.State.{SignalRecord}

-- ---- how many facts there are

record Counts (fs : List Fact) (n : ℕ) : Type 0 where
  same : length fs ≡ n

infixl 4 ◌⊕◌
◌⊕◌ : {a b : List Fact} {n k : ℕ} → Counts a n → Counts b k → Counts (a ++ b) (n + k)
◌⊕◌ {a} {b} {n} {k} in_a in_b = let sum = length-append a b in let first = in_a.same in let second = in_b.same in record { same = omega (arith, sum, first, second) }

one_of : (f : ℕ → Fact) (n : ℕ) → Counts (map f (range_with_len 0 n)) n
one_of f n = record { same = length-map-range_with_len f 0 n }

two_from : {P : Type 0} (m : Machine P) (a n : ℕ) → length (flat_map (senders_and_receivers m) (range_with_len a n)) ≡ 2 * n
two_from m a zero = refl
two_from m a (suc n) =
    let rest = two_from m (a + 1) n in
    let here : length (flat_map (senders_and_receivers m) (range_with_len a (suc n))) ≡ suc (suc (length (flat_map (senders_and_receivers m) (range_with_len (a + 1) n)))) = refl in
    omega (arith, rest, here)

lists_count : (p : ℕ) (lists : List (List ℕ)) → length (lists_from p lists) ≡ length lists
lists_count p [] = refl
lists_count p (l ∷ lists) = ap suc (lists_count (p + 1) lists)

module _ {P : Type 0} (script : Script) (m : Machine P) where
  threads_count : Counts (facts_of_threads m) (length m.threads + length m.threads + length m.threads + length m.threads + length m.threads + length m.threads)
  threads_count =
      let n = length m.threads in
      one_of (thread_fact m) n ⊕ one_of (frames_fact m) n ⊕ one_of (mask_fact m) n ⊕ one_of (cancelability_fact m) n ⊕ one_of (cleanups_fact m) n ⊕ one_of (pending_fact m) n

  waiters_count : Counts (flat_map (senders_and_receivers m) (range_with_len 0 (length m.queues))) (2 * length m.queues)
  waiters_count = record { same = two_from m 0 (length m.queues) }

  objects_count : Counts (facts_of_objects script m)
      (length m.mutexes + length m.mutexes + length (names_of kind.Cond script.decls) + length m.semaphores + length m.semaphores + length m.queues + 2 * length m.queues + length m.queues
      + length m.timers + length m.actions)
  objects_count =
      one_of (owner_fact m) (length m.mutexes)
      ⊕ one_of (mutex_waiters m) (length m.mutexes)
      ⊕ one_of (condition_waiters m) (length (names_of kind.Cond script.decls))
      ⊕ one_of (semaphore_waiters m) (length m.semaphores)
      ⊕ one_of (semaphore_fact m) (length m.semaphores)
      ⊕ one_of (messages_fact m) (length m.queues)
      ⊕ waiters_count
      ⊕ one_of (registration_fact m) (length m.queues)
      ⊕ one_of (timer_fact m) (length m.timers)
      ⊕ one_of (signal_fact m) (length m.actions)

  listed_count : Counts (list_facts m.lists) (length m.lists)
  listed_count = record { same = length-reverse (lists_from 1 m.lists) ∙ lists_count 1 m.lists }

  taken_count : (r : Option SignalRecord) → fact_count script (without_taken r m) ≡ fact_count script m
  taken_count None = refl
  taken_count (Some r) = refl

  -- the record that ended the process is no fact of its own
  pub ended_count : (killed : Option ℕ) → fact_count script (once_ended killed m) ≡ fact_count script m
  ended_count None = refl
  ended_count (Some signal) = taken_count (ending_record m)

  pub count_is : length (facts script m) ≡ fact_count script m
  count_is = let all = (listed_count ⊕ (threads_count ⊕ objects_count)).same in omega (arith, all)

-- ---- what they take

sum_short : (one : ℕ) (ts : List (List ℕ)) → AllByRecursion (λ (text : List ℕ). length text < one) ts → sum_by length ts ≤ length ts * one
sum_short one [] all = omega arith
sum_short one (t ∷ ts) all =
    let first = all.0 in
    let rest = sum_short one ts all.1 in
    let sum = sum_by-cons length t ts in
    let more : (1 + length ts) * one ≡ one + length ts * one = grind arith in
    let is : length (t ∷ ts) ≡ 1 + length ts = omega arith in
    let whole : length (t ∷ ts) * one ≡ one + length ts * one = ap (λ (n : ℕ). n * one) is ∙ more in
    omega (arith, first, rest, sum, whole)

-- so many short texts have room
pub have_room : (one count : ℕ) (t : Told) (due : List (List ℕ)) → IsRoomy one count t → length due ≡ count → AllByRecursion (λ (text : List ℕ). length text < one) due → HaveRoom one t due
have_room one count t due roomy same short =
    let sum = sum_short one due short in
    let bytes : length due * one ≡ count * one = ap (λ (n : ℕ). n * one) same in
    let none : sum_by length t.texts ≡ 0 = ap (sum_by length) roomy.empty in
    let no_text : length t.texts ≡ 0 = ap length roomy.empty in
    record {
      fresh = roomy.fresh;
      each = short;
      bytes = omega (arith, sum, bytes, none, roomy.bytes);
      number = omega (arith, same, no_text, roomy.number);
    }

module _ {P : Type 0} (script : Script) (m : Machine P) (names : NamesAreShort script.decls) (lists : length m.lists ≡ 255) (signals : length m.actions ≡ 32) (few : HasFewMembers m)
    (has : HasObjectsOf script m) (one : ℕ) (t : Told) (none : t.texts ≡ []) (h : HasRooms script one t) where
  thread_modest : (u : ℕ) → u < length m.threads → IsModestThread (members_told script) (thread_at m u)
  thread_modest u low =
      let th = few.threads u low in
      let frames = th.frames in
      let cleanups = th.cleanups in
      let pending = th.pending in
      record { frames = omega (arith, frames); cleanups = omega (arith, cleanups); pending = omega (arith, pending) }

  modest : IsModestState (members_told script) m
  modest =
      let threads = has.threads in
      let pending = few.pending in
      record {
        few = omega (arith, threads);
        lists = few.lists;
        threads = thread_modest;
        messages = λ q low. (let held = few.messages q low in let deep = has.depths q in omega (arith, held, deep));
        signals = omega (arith, signals);
        pending = omega (arith, pending);
      }

  pub as_many : fact_count script m ≡ facts_told script
  as_many = (let threads = has.threads in let mutexes = has.mutexes in let semaphores = has.semaphores in let queues = has.queues in let timers = has.timers in omega (arith, lists, signals, threads, mutexes, semaphores, queues, timers))

  roomy : IsRoomy one (fact_count script m) t
  roomy =
      let all : fact_count script m * one ≡ facts_told script * one = ap (λ (n : ℕ). n * one) as_many in
      let number = h.number in
      let bytes = h.bytes in
      let same = as_many in
      record { fresh = h.fresh; empty = none; number = omega (arith, same, number); bytes = omega (arith, all, bytes) }

  -- without the record that ended the process
  pub facts_fit : HaveShortTexts script.decls (facts script (once_ended m.killed m)) → HaveRoom one t (texts_of script.decls (facts script (once_ended m.killed m)))
  facts_fit short =
      let told = once_ended m.killed m in
      have_room one (fact_count script m) t (texts_of script.decls (facts script told)) roomy
      (length-map (facts script told) (fact_text script.decls) ∙ count_is script told ∙ ended_count script m m.killed)
      (texts_short script.decls names (members_told script) one (facts script told) h.long short (state_modest script (members_told script) told (ended_modest (members_told script) m modest m.killed)))

  pub facts_number : length (texts_of script.decls (facts script (once_ended m.killed m))) ≡ facts_told script
  facts_number = length-map (facts script (once_ended m.killed m)) (fact_text script.decls) ∙ count_is script (once_ended m.killed m) ∙ ended_count script m m.killed ∙ as_many

  pub subjects_number : length (subjects_of script.decls (facts script m)) ≡ facts_told script
  subjects_number = length-map (facts script m) (subject_text script.decls) ∙ count_is script m ∙ as_many

  pub subjects_fit : HaveRoom one t (subjects_of script.decls (facts script m))
  subjects_fit =
      have_room one (fact_count script m) t (subjects_of script.decls (facts script m)) roomy
      (length-map (facts script m) (subject_text script.decls) ∙ count_is script m)
      (subjects_short script.decls names (members_told script) one (facts script m) h.long (state_modest script (members_told script) m modest))

-- the rooms stay as large
pub still_rooms : (script : Script) (one next : ℕ) (old new : Told) → HasRooms script one old → next ≡ one → HaveSameRooms old new → new.is_full ≡ false → HasRooms script next new
still_rooms script one next old new h same_one same fresh =
    let long = h.long in
    let number = h.number in
    let most = same.number in
    let bytes = h.bytes in
    let room = same.bytes in
    let each : facts_told script * next ≡ facts_told script * one = ap (λ (n : ℕ). facts_told script * n) same_one in
    record {
      fresh = fresh;
      long = omega (arith, long, same_one);
      number = omega (arith, number, most);
      bytes = omega (arith, bytes, room, each);
    }

-- The rooms of a script's run are so.
pub rooms_hold : (script : Script) (rooms : Rooms) → AreRooms script rooms → HasRooms script rooms.longest (no_text rooms)
rooms_hold script rooms are =
    let most = are.most in
    let long = are.longest in
    let bytes : facts_told script * rooms.longest ≡ rooms.room = ap (λ (n : ℕ). facts_told script * n) are.longest ∙ sym are.room in
    record { fresh = refl; long = omega (arith, long); number = omega (arith, most); bytes = omega (arith, bytes) }
