-- The texts of facts whose numbers have 64 bits are short, and so are those of modest facts where the code that prints them says it.
use Rattle.std.proofs.Common.{◌≡◌, ◌+◌, ◌*◌, ◌<◌, ◌≤◌, ◌^◌, Bool, List, None, Option, Some, [], ◌∷◌, ◌++◌, arith, codes, decimal, false, flat_map, length, length-append, map, refl, suc, true, zero, ℕ}
use Rattle.std.specs.List.{AllByRecursion, filter, range_with_len}
use Rattle.std.specs.Prelude.{cond, ◌==◌}
use Rattle.std.proofs.lemmas.Fmt.{length-decimal-le}
use Rattle.words_numbers.specs.Signals.{every_signal, has_signal}
use Rattle.words_numbers.specs.Words.{sig_code_text, signal_word}
use Rattle.words_numbers.specs.declared.sig_code.SigCode.{SigCode}
use Rattle.words_numbers.specs.declared.sig_code.SigCode.TheVariants as code
use Rattle.words_script.specs.declared.decl.Decl.{Decl}
use Rattle.words_script.specs.declared.name_kind.NameKind.{NameKind}
use Rattle.words_script.specs.declared.name_kind.NameKind.TheVariants as kind
use Rattle.words_trace.specs.Calls.{call_word}
use Rattle.words_trace.specs.declared.event.CallName.{CallName}
use Rattle.words_trace.specs.declared.event.CallName.TheVariants as call
use Rattle.script_lex.specs.Joined.{after_blanks, joined_words}
use Rattle.script_writer.specs.Canon.{Words, flag_words}
use Rattle.script_writer.specs.Names.{name_of}
use Rattle.script_writer.specs.Words.{after_commas, joined_by_commas, set_word, signals_of}
use Rattle.rules_machine.specs.declared.frame.BodyOf.{BodyOf}
use Rattle.rules_machine.specs.declared.frame.BodyOf.TheVariants as body_of
use Rattle.rules_machine.specs.State.{Message}
use Rattle.rules_server.specs.declared.Replenish.{Replenish}
use Rattle.rules_facts.specs.Fact.{Awaited, Blocking, Cancelability, Fact, Pending, Priorities, arming_of, blocked_thread, cancelability, dormant_thread, ended_thread, inner_frames, masked, messages_of, nothing, on_list, one_signal_of, owner, pending_signals, pushed_cleanups, ready_thread, receivers_of, registration_of, replenishments, semaphore_value, senders_of, thing, waiters_of}
use Rattle.rules_facts.specs.Spelled.{awaited_words, body_name, mask_words, message_words, pending_words, replenishment_words, subject, target_word, thread_name, told, until_words, words_if_any}
use Rattle.kernel_texts.specs.Lines.{fact_text, told_text}
use Rattle.kernel_texts.specs.Modest.{AreModest, IsModest, IsNumber, NamesAreShort, members_in, number_in}
use Rattle.kernel_texts.specs.Short.{HasShortText, HaveShortTexts, longest_text}
use Rattle.kernel_texts.specs.Kept.{texts_of}
use Rattle.kernel_texts.specs.Changed.{subject_text}
use Rattle.kernel_texts.specs.Subjects.{subjects_of}

-- ---- numbers of 64 bits

pub record ArePriorities (p : Priorities) : Type 0 where
  pub assigned : IsNumber p.assigned
  pub exec : IsNumber p.exec

pub record IsMessage (message : Message) : Type 0 where
  pub priority : IsNumber message.priority
  pub value : IsNumber message.value

abbrev pub IsPending : Pending → Type 0
IsPending p = IsNumber p.value

-- ---- what words take, each with a blank

abbrev cost : Words → ℕ
cost [] = 0
cost (w ∷ ws) = length w + 1 + cost ws

cost-append : (a b : Words) → cost (a ++ b) ≡ cost a + cost b
cost-append [] b = omega arith
cost-append (w ∷ a) b = let rest = cost-append a b in omega (arith, rest)

after_len : (ws : Words) → length (after_blanks ws) ≡ cost ws
after_len [] = refl
after_len (w ∷ ws) = let rest = after_len ws in let both = length-append w (after_blanks ws) in omega (arith, rest, both)

joined_len : (ws : Words) → length (joined_words ws) ≤ cost ws
joined_len [] = omega arith
joined_len (w ∷ ws) = let rest = after_len ws in let both = length-append w (after_blanks ws) in omega (arith, rest, both)

told_len : (about words : Words) → length (told_text about words) ≤ cost about + cost words + 1
told_len about [] = omega arith
told_len about (w ∷ ws) =
    let joined = joined_len (about ++ w ∷ ws) in
    let whole = length-append (joined_words (about ++ w ∷ ws)) (10 ∷ []) in
    let both = cost-append about (w ∷ ws) in
    omega (arith, joined, whole, both)

pub number_len : (n : ℕ) → IsNumber n → length (decimal n) ≤ 20
number_len n fits = let low : n < 10 ^ 20 = omega (arith, fits) in length-decimal-le 20 n (omega arith) low fits

pub due_short : (due : ℕ) → IsNumber due → length (after_blanks (words_if_any until_words (Some due))) ≤ 38
due_short due fits = let digits = number_len due fits in let whole = length-append (decimal due) [] in omega (arith, digits, whole)

cost_map : {X : Type 0} (f : X → List ℕ) → ((x : X) → length (f x) ≤ 32) → (xs : List X) → cost (map f xs) ≤ 33 * length xs
cost_map f short [] = omega arith
cost_map f short (x ∷ xs) = let here = short x in let rest = cost_map f short xs in omega (arith, here, rest)

cost_flat : {X : Type 0} (f : X → Words) (holds : X → Type 0) → ((x : X) → holds x → cost (f x) ≤ 71) → (xs : List X) → AllByRecursion holds xs → cost (flat_map f xs) ≤ 71 * length xs
cost_flat f holds short [] all = omega arith
cost_flat f holds short (x ∷ xs) all =
    let here = short x all.0 in
    let rest = cost_flat f holds short xs all.1 in
    let both = cost-append (f x) (flat_map f xs) in
    omega (arith, here, rest, both)

-- ---- sets of signals

signal_len : (sig : ℕ) → IsNumber sig → length (signal_word sig) ≤ 22
signal_len sig fits = let digits = number_len sig fits in omega (arith, digits)

low_signal_len : (sig : ℕ) → sig < 32 → length (signal_word sig) ≤ 4
low_signal_len sig low = let digits = length-decimal-le 2 sig (omega arith) (omega (arith, low)) (omega (arith, low)) in omega (arith, digits)

commas_len : (p : ℕ → Bool) (a n : ℕ) → a + n ≤ 32 → length (after_commas (map signal_word (filter p (range_with_len a n)))) ≤ 5 * n
commas_len p a zero low = omega arith
commas_len p a (suc n) low =
    let rest = commas_len p (a + 1) n (omega (arith, low)) in
    let ws = map signal_word (filter p (range_with_len (a + 1) n)) in
    let here = low_signal_len a (omega (arith, low)) in
    let both = length-append (signal_word a) (after_commas ws) in
    elim (p a) as (λ b. length (after_commas (map signal_word (cond b (a ∷ filter p (range_with_len (a + 1) n)) (filter p (range_with_len (a + 1) n))))) ≤ 5 * suc n) [
      | true ↦ omega (arith, rest, here, both)
      | false ↦ omega (arith, rest)
    ]

joined_commas_len : (ws : Words) → length (joined_by_commas ws) ≤ length (after_commas ws)
joined_commas_len [] = omega arith
joined_commas_len (w ∷ ws) = omega arith

set_len : (set : ℕ) → length (set_word set) ≤ 160
set_len set =
    let joined = joined_commas_len (map signal_word (signals_of set)) in
    let commas = commas_len (has_signal set) 0 32 (omega arith) in
    let listed : length (joined_by_commas (map signal_word (signals_of set))) ≤ 160 = omega (arith, joined, commas) in
    elim (set == every_signal) as (λ b. length (cond b (codes "all") (cond (set == 0) (codes "none") (joined_by_commas (map signal_word (signals_of set))))) ≤ 160) [
      | true ↦ omega arith
      | false ↦ elim (set == 0) as (λ b. length (cond b (codes "none") (joined_by_commas (map signal_word (signals_of set)))) ≤ 160) [ true ↦ omega arith | false ↦ listed ]
    ]

mask_cost : (set : ℕ) → cost (mask_words set) ≤ 161
mask_cost set =
    let all = set_len set in
    elim (set == 0) as (λ b. cost (cond b [] (set_word set ∷ [])) ≤ 161) [ true ↦ omega arith | false ↦ omega (arith, all) ]

-- ---- words from a short list

call_len : (c : CallName) → length (call_word c) ≤ 16
call_len call.Yield = omega arith
call_len call.Create = omega arith
call_len call.Join = omega arith
call_len call.Cancel = omega arith
call_len call.Testcancel = omega arith
call_len call.Setcancel = omega arith
call_len call.Push = omega arith
call_len call.Pop = omega arith
call_len call.Exit = omega arith
call_len call.Setprio = omega arith
call_len call.Setsched = omega arith
call_len call.Lock = omega arith
call_len call.Timedlock = omega arith
call_len call.Trylock = omega arith
call_len call.Unlock = omega arith
call_len call.Wait = omega arith
call_len call.Timedwait = omega arith
call_len call.Signal = omega arith
call_len call.Broadcast = omega arith
call_len call.SemWait = omega arith
call_len call.SemTimedwait = omega arith
call_len call.SemTrywait = omega arith
call_len call.SemGetvalue = omega arith
call_len call.SemPost = omega arith
call_len call.Nanosleep = omega arith
call_len call.ClockNanosleep = omega arith
call_len call.Gettime = omega arith
call_len call.RealGettime = omega arith
call_len call.ClockSettime = omega arith
call_len call.TimerSettime = omega arith
call_len call.TimerGettime = omega arith
call_len call.TimerGetoverrun = omega arith
call_len call.Kill = omega arith
call_len call.Tkill = omega arith
call_len call.Sigqueue = omega arith
call_len call.Sigmask = omega arith
call_len call.Sigwaitinfo = omega arith
call_len call.Sigtimedwait = omega arith
call_len call.MqSend = omega arith
call_len call.MqTimedsend = omega arith
call_len call.MqReceive = omega arith
call_len call.MqTimedreceive = omega arith
call_len call.MqNotify = omega arith

code_len : (c : SigCode) → length (sig_code_text c) ≤ 16
code_len code.User = omega arith
code_len code.Queue = omega arith
code_len code.Timer = omega arith
code_len code.Mesgq = omega arith

flag_cost : (word : List ℕ) (holds : Bool) → length word ≤ 16 → cost (flag_words word holds) ≤ 17
flag_cost word true short = omega (arith, short)
flag_cost word false short = omega arith

-- ---- the parts of facts

two_numbers : (a b : ℕ) → IsNumber a → IsNumber b → cost (decimal a ∷ decimal b ∷ []) ≤ 42
two_numbers a b fits_a fits_b = let one = number_len a fits_a in let two = number_len b fits_b in omega (arith, one, two)

message_cost : (message : Message) → IsMessage message → cost (message_words message) ≤ 71
message_cost message fits = let two = two_numbers message.priority message.value fits.priority fits.value in omega (arith, two)

module _ (decls : List Decl) (names : NamesAreShort decls) where
  body_len : (b : BodyOf) → length (body_name decls b) ≤ 32
  body_len (body_of.Thread t) = names.each kind.Thread t
  body_len (body_of.Cleanup u) = names.each kind.Cleanup u
  body_len (body_of.Handler h) = names.each kind.Handler h

  target_len : (t : Option ℕ) → length (target_word decls t) ≤ 32
  target_len None = omega arith
  target_len (Some t) = names.each kind.Thread t

  awaited_cost : (a : Awaited) → cost (awaited_words decls a) ≤ 161
  awaited_cost nothing = omega arith
  awaited_cost (thing sort k) = let one = names.each sort k in omega (arith, one)
  awaited_cost (one_signal_of set) = let one = set_len set in omega (arith, one)

  pending_cost : (p : Pending) → IsPending p → cost (pending_words decls p) ≤ 71
  pending_cost p fits = let one = code_len p.code in let two = number_len p.value fits in let three = target_len p.target in omega (arith, one, two, three)

  about : (word : List ℕ) (of : NameKind) (k : ℕ) → length word ≤ 16 → cost (word ∷ name_of decls of k ∷ []) ≤ 50
  about word of k short = let one = names.each of k in omega (arith, one, short)

  subject_cost : (f : Fact) → IsNumber (number_in f) → cost (subject decls f) ≤ 50
  subject_cost (on_list p threads) fits = let one = number_len p fits in omega (arith, one)
  subject_cost (dormant_thread t) fits = about (codes "thread") kind.Thread t (omega arith)
  subject_cost (ended_thread t) fits = about (codes "thread") kind.Thread t (omega arith)
  subject_cost (ready_thread t priorities) fits = about (codes "thread") kind.Thread t (omega arith)
  subject_cost (blocked_thread t priorities block) fits = about (codes "thread") kind.Thread t (omega arith)
  subject_cost (inner_frames t bodies) fits = about (codes "frames") kind.Thread t (omega arith)
  subject_cost (masked t set) fits = about (codes "mask") kind.Thread t (omega arith)
  subject_cost (cancelability t c) fits = about (codes "cancelability") kind.Thread t (omega arith)
  subject_cost (pushed_cleanups t handlers) fits = about (codes "cleanups") kind.Thread t (omega arith)
  subject_cost (replenishments t planned) fits = about (codes "pending") kind.Thread t (omega arith)
  subject_cost (owner k o) fits = about (codes "mutex") kind.Mutex k (omega arith)
  subject_cost (waiters_of sort k threads) fits = about (codes "waiters") sort k (omega arith)
  subject_cost (semaphore_value k value) fits = about (codes "sem") kind.Sem k (omega arith)
  subject_cost (messages_of q messages) fits = about (codes "messages") kind.Queue q (omega arith)
  subject_cost (senders_of q threads) fits = about (codes "senders") kind.Queue q (omega arith)
  subject_cost (receivers_of q threads) fits = about (codes "receivers") kind.Queue q (omega arith)
  subject_cost (registration_of q r) fits = about (codes "notify") kind.Queue q (omega arith)
  subject_cost (arming_of k a) fits = about (codes "timer") kind.Timer k (omega arith)
  subject_cost (pending_signals signal records) fits = let one = signal_len signal fits in omega (arith, one)

  threads_cost : (ts : List ℕ) → cost (map (thread_name decls) ts) ≤ 71 * length ts + 300
  threads_cost ts = let all = cost_map (thread_name decls) (λ t. names.each kind.Thread t) ts in omega (arith, all)

  cancelability_cost : (c : Cancelability) → cost (told decls (cancelability 0 c)) ≤ 60
  cancelability_cost c =
      let one = flag_cost (codes "requested") c.is_requested (omega arith) in
      let two = flag_cost (codes "disabled") c.is_disabled (omega arith) in
      let three = flag_cost (codes "ending") c.is_ending (omega arith) in
      let front = cost-append (flag_words (codes "requested") c.is_requested) (flag_words (codes "disabled") c.is_disabled) in
      let all = cost-append (flag_words (codes "requested") c.is_requested ++ flag_words (codes "disabled") c.is_disabled) (flag_words (codes "ending") c.is_ending) in
      omega (arith, one, two, three, front, all)

  blocked_cost : (priorities : Priorities) (block : Blocking) → ArePriorities priorities → length (after_blanks (words_if_any until_words block.due)) ≤ 38
      → cost (told decls (blocked_thread 0 priorities block)) ≤ 300
  blocked_cost priorities block fits due =
      let first = two_numbers priorities.assigned priorities.exec fits.assigned fits.exec in
      let call = call_len block.call in
      let what = awaited_cost block.awaited in
      let till = after_len (words_if_any until_words block.due) in
      let both = cost-append (awaited_words decls block.awaited) (words_if_any until_words block.due) in
      omega (arith, first, call, what, till, due, both)

  text_len : (f : Fact) → IsNumber (number_in f) → cost (told decls f) ≤ 71 * members_in f + 300 → length (fact_text decls f) < longest_text (members_in f)
  text_len f number words =
      let about = subject_cost f number in
      let all = told_len (subject decls f) (told decls f) in
      omega (arith, about, words, all)

  pub texts_short : (most one : ℕ) (fs : List Fact) → longest_text most ≤ one → HaveShortTexts decls fs → AreModest most fs → AllByRecursion (λ (text : List ℕ). length text < one) (texts_of decls fs)
  texts_short most one [] large short all = tt
  texts_short most one (f ∷ fs) large short all =
      let here = short.0.short names in
      let few = all.0.few in
      (omega (arith, here, few, large), texts_short most one fs large short.1 all.1)

  subject_len : (most one : ℕ) (f : Fact) → longest_text most ≤ one → IsModest most f → length (subject_text decls f) < one
  subject_len most one f large fits = let about = subject_cost f fits.number in let all = joined_len (subject decls f) in omega (arith, about, all, large)

  pub subjects_short : (most one : ℕ) (fs : List Fact) → longest_text most ≤ one → AreModest most fs → AllByRecursion (λ (text : List ℕ). length text < one) (subjects_of decls fs)
  subjects_short most one [] large all = tt
  subjects_short most one (f ∷ fs) large all = (subject_len most one f large all.0, subjects_short most one fs large all.1)

-- ---- facts

module _ (decls : List Decl) where
  pub list_short : (p : ℕ) (threads : List ℕ) → IsNumber p → HasShortText decls (on_list p threads)
  list_short p threads fits = record { short = λ names. text_len decls names (on_list p threads) fits (threads_cost decls names threads) }

  pub blocked_short : (t : ℕ) (priorities : Priorities) (block : Blocking) → ArePriorities priorities → length (after_blanks (words_if_any until_words block.due)) ≤ 38
      → HasShortText decls (blocked_thread t priorities block)
  blocked_short t priorities block fits due =
      record { short = λ names. let all = blocked_cost decls names priorities block fits due in text_len decls names (blocked_thread t priorities block) (omega arith) (omega (arith, all)) }

  pub dormant_short : (t : ℕ) → HasShortText decls (dormant_thread t)
  dormant_short t = record { short = λ names. text_len decls names (dormant_thread t) (omega arith) (omega arith) }

  pub ended_short : (t : ℕ) → HasShortText decls (ended_thread t)
  ended_short t = record { short = λ names. text_len decls names (ended_thread t) (omega arith) (omega arith) }

  pub ready_short : (t : ℕ) (priorities : Priorities) → ArePriorities priorities → HasShortText decls (ready_thread t priorities)
  ready_short t priorities fits =
      record { short = λ names. let two = two_numbers priorities.assigned priorities.exec fits.assigned fits.exec in text_len decls names (ready_thread t priorities) (omega arith) (omega (arith, two)) }

  pub frames_short : (t : ℕ) (bodies : List BodyOf) → HasShortText decls (inner_frames t bodies)
  frames_short t bodies =
      record { short = λ names. let all = cost_map (body_name decls) (body_len decls names) bodies in text_len decls names (inner_frames t bodies) (omega arith) (omega (arith, all)) }

  pub masked_short : (t set : ℕ) → HasShortText decls (masked t set)
  masked_short t set = record { short = λ names. let all = mask_cost set in text_len decls names (masked t set) (omega arith) (omega (arith, all)) }

  pub cancelability_short : (t : ℕ) (flags : Cancelability) → HasShortText decls (cancelability t flags)
  cancelability_short t flags =
      record { short = λ names. let all = cancelability_cost decls names flags in text_len decls names (cancelability t flags) (omega arith) (omega (arith, all)) }

  pub cleanups_short : (t : ℕ) (handlers : List ℕ) → HasShortText decls (pushed_cleanups t handlers)
  cleanups_short t handlers = record {
    short = λ names.
        let all = cost_map (name_of decls kind.Cleanup) (λ u. names.each kind.Cleanup u) handlers in
        text_len decls names (pushed_cleanups t handlers) (omega arith) (omega (arith, all));
  }

  pub planned_short : (t : ℕ) (plans : List Replenish) → length (after_blanks (flat_map replenishment_words plans)) ≤ 42 * length plans → HasShortText decls (replenishments t plans)
  planned_short t plans within =
      let all = after_len (flat_map replenishment_words plans) in
      record { short = λ names. text_len decls names (replenishments t plans) (omega arith) (omega (arith, all, within)) }

  pub waiters_short : (sort : NameKind) (k : ℕ) (threads : List ℕ) → HasShortText decls (waiters_of sort k threads)
  waiters_short sort k threads = record { short = λ names. text_len decls names (waiters_of sort k threads) (omega arith) (threads_cost decls names threads) }

  pub senders_short : (q : ℕ) (threads : List ℕ) → HasShortText decls (senders_of q threads)
  senders_short q threads = record { short = λ names. text_len decls names (senders_of q threads) (omega arith) (threads_cost decls names threads) }

  pub receivers_short : (q : ℕ) (threads : List ℕ) → HasShortText decls (receivers_of q threads)
  receivers_short q threads = record { short = λ names. text_len decls names (receivers_of q threads) (omega arith) (threads_cost decls names threads) }

  pub messages_short : (q : ℕ) (messages : List Message) → AllByRecursion IsMessage messages → HasShortText decls (messages_of q messages)
  messages_short q messages each =
      let all = cost_flat message_words IsMessage message_cost messages each in
      record { short = λ names. text_len decls names (messages_of q messages) (omega arith) (omega (arith, all)) }

  pub signals_short : (signal : ℕ) (records : List Pending) → IsNumber signal → AllByRecursion IsPending records → HasShortText decls (pending_signals signal records)
  signals_short signal records fits each = record {
    short = λ names.
        let all = cost_flat (pending_words decls) IsPending (pending_cost decls names) records each in
        text_len decls names (pending_signals signal records) fits (omega (arith, all));
  }
