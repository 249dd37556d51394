-- The lines of facts and numbers: the words of a subject, and what is told of it. The form is this project's own.
use Rattle.std.specs.Prelude.{Bool, List, None, Option, Some, [], codes, decimal, flat_map, map, ℕ, ◌==◌, ◌∷◌, ◌++◌, if◌then◌else◌}
use Rattle.words_numbers.specs.Words.{res_text, sig_code_text, signal_word}
use Rattle.words_script.specs.declared.decl.Decl.{Decl}
use Rattle.words_script.specs.declared.name_kind.NameKind.TheVariants as kind
use Rattle.script_writer.specs.Canon.{Words, flag_words}
use Rattle.script_writer.specs.Names.{name_of}
use Rattle.script_writer.specs.Words.{is_nil, set_word}
use Rattle.words_trace.specs.Calls.{call_word}
use Rattle.words_trace.specs.Text.{line_of_words}
use Rattle.rules_server.specs.declared.Replenish.{Replenish}
use Rattle.rules_machine.specs.declared.frame.BodyOf.{BodyOf}
use Rattle.rules_machine.specs.declared.frame.BodyOf.TheVariants as body_of
use Rattle.rules_machine.specs.State.{Message, Registration}
use Rattle.rules_facts.specs.Fact.{Arming, Awaited, Blocking, Cancelability, Fact, Number, Owner, Pending, Priorities, arming_of, blocked_thread, budget, cancelability, counted, dormant_thread, ended_thread, inner_frames, left_of_unit, masked, messages_of, nothing, on_list, one_signal_of, owner, pending_signals, pushed_cleanups, ready_thread, receivers_of, registration_of, replenishments, semaphore_value, senders_of, thing, used_of_slice, waiters_of}

-- words for one that there may be
abbrev pub words_if_any : {X : Type 0} → (X → Words) → Option X → Words
words_if_any words None = []
words_if_any words (Some x) = words x

abbrev pub priorities_words : Priorities → Words
priorities_words p = decimal p.assigned ∷ decimal p.exec ∷ []

abbrev pub until_words : ℕ → Words
until_words due = codes "until" ∷ decimal due ∷ []

-- a set of signals, where it is not empty
abbrev pub mask_words : ℕ → Words
mask_words set = if set == 0 then [] else set_word set ∷ []

abbrev pub cancelability_words : Cancelability → Words
cancelability_words c = flag_words (codes "requested") c.is_requested ++ flag_words (codes "disabled") c.is_disabled ++ flag_words (codes "ending") c.is_ending

abbrev pub replenishment_words : Replenish → Words
replenishment_words r = decimal r.amount ∷ decimal r.due ∷ []

abbrev pub message_words : Message → Words
message_words message = decimal message.priority ∷ decimal message.value ∷ []

abbrev pub registration_words : Registration → Words
registration_words r = signal_word r.signal ∷ decimal r.value ∷ []

abbrev pub arming_words : Arming → Words
arming_words a = decimal a.due ∷ decimal a.interval ∷ []

module _ (decls : List Decl) where
  abbrev pub thread_name : ℕ → List ℕ
  thread_name t = name_of decls kind.Thread t

  abbrev pub body_name : BodyOf → List ℕ
  body_name (body_of.Thread t) = thread_name t
  body_name (body_of.Cleanup u) = name_of decls kind.Cleanup u
  body_name (body_of.Handler h) = name_of decls kind.Handler h

  abbrev pub awaited_words : Awaited → Words
  awaited_words nothing = []
  awaited_words (thing sort k) = name_of decls sort k ∷ []
  awaited_words (one_signal_of set) = set_word set ∷ []

  abbrev pub block_words : Blocking → Words
  block_words b = call_word b.call ∷ (awaited_words b.awaited ++ words_if_any until_words b.due)

  abbrev pub owner_words : Owner → Words
  owner_words o = thread_name o.thread ∷ decimal o.count ∷ []

  -- the thread for which a signal is, or a star where it is for the process
  abbrev pub target_word : Option ℕ → List ℕ
  target_word None = codes "*"
  target_word (Some t) = thread_name t

  abbrev pub pending_words : Pending → Words
  pending_words p = sig_code_text p.code ∷ decimal p.value ∷ target_word p.target ∷ []

  -- ---- facts

  abbrev pub subject : Fact → Words
  subject (on_list p threads) = codes "list" ∷ decimal p ∷ []
  subject (dormant_thread t) = codes "thread" ∷ thread_name t ∷ []
  subject (ended_thread t) = codes "thread" ∷ thread_name t ∷ []
  subject (ready_thread t priorities) = codes "thread" ∷ thread_name t ∷ []
  subject (blocked_thread t priorities block) = codes "thread" ∷ thread_name t ∷ []
  subject (inner_frames t bodies) = codes "frames" ∷ thread_name t ∷ []
  subject (masked t set) = codes "mask" ∷ thread_name t ∷ []
  subject (cancelability t c) = codes "cancelability" ∷ thread_name t ∷ []
  subject (pushed_cleanups t handlers) = codes "cleanups" ∷ thread_name t ∷ []
  subject (replenishments t planned) = codes "pending" ∷ thread_name t ∷ []
  subject (owner k o) = codes "mutex" ∷ name_of decls kind.Mutex k ∷ []
  subject (waiters_of sort k threads) = codes "waiters" ∷ name_of decls sort k ∷ []
  subject (semaphore_value k value) = codes "sem" ∷ name_of decls kind.Sem k ∷ []
  subject (messages_of q messages) = codes "messages" ∷ name_of decls kind.Queue q ∷ []
  subject (senders_of q threads) = codes "senders" ∷ name_of decls kind.Queue q ∷ []
  subject (receivers_of q threads) = codes "receivers" ∷ name_of decls kind.Queue q ∷ []
  subject (registration_of q r) = codes "notify" ∷ name_of decls kind.Queue q ∷ []
  subject (arming_of k a) = codes "timer" ∷ name_of decls kind.Timer k ∷ []
  subject (pending_signals signal records) = codes "signal" ∷ signal_word signal ∷ []

  -- what is told of its subject
  abbrev pub told : Fact → Words
  told (on_list p threads) = map thread_name threads
  told (dormant_thread t) = codes "dormant" ∷ []
  told (ended_thread t) = codes "ended" ∷ []
  told (ready_thread t priorities) = codes "ready" ∷ priorities_words priorities
  told (blocked_thread t priorities block) = codes "blocked" ∷ (priorities_words priorities ++ block_words block)
  told (inner_frames t bodies) = map body_name bodies
  told (masked t set) = mask_words set
  told (cancelability t c) = cancelability_words c
  told (pushed_cleanups t handlers) = map (name_of decls kind.Cleanup) handlers
  told (replenishments t planned) = flat_map replenishment_words planned
  told (owner k o) = words_if_any owner_words o
  told (waiters_of sort k threads) = map thread_name threads
  told (semaphore_value k value) = decimal value ∷ []
  told (messages_of q messages) = flat_map message_words messages
  told (senders_of q threads) = map thread_name threads
  told (receivers_of q threads) = map thread_name threads
  told (registration_of q r) = words_if_any registration_words r
  told (arming_of k a) = words_if_any arming_words a
  told (pending_signals signal records) = flat_map pending_words records

  abbrev pub fact_words : Fact → Words
  fact_words f = subject f ++ told f

  -- a fact that has its subject alone
  abbrev pub is_empty : Fact → Bool
  is_empty f = is_nil (told f)

  abbrev pub fact_line : Fact → List ℕ
  fact_line f = line_of_words (fact_words f)

  -- ---- numbers

  abbrev pub number_words : Number → Words
  number_words (counted t ticks register result value) =
      codes "now" ∷ thread_name t ∷ decimal ticks ∷ decimal register ∷ res_text result ∷ decimal value ∷ []
  number_words (left_of_unit t left) = codes "left" ∷ thread_name t ∷ decimal left ∷ []
  number_words (used_of_slice t slice) = codes "slice" ∷ thread_name t ∷ decimal slice ∷ []
  number_words (budget t capacity consumed activation high refilled) =
      codes "budget" ∷ thread_name t ∷ decimal capacity ∷ decimal consumed ∷ decimal activation ∷ decimal high ∷ decimal refilled ∷ []

  abbrev pub number_line : Number → List ℕ
  number_line n = line_of_words (number_words n)
