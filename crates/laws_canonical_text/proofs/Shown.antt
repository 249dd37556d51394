-- What is written for the meaning of a line is the line of its canonical words.
use Rattle.std.proofs.Common.{◌≡◌, ℕ, List, [], ◌∷◌, refl}
use Rattle.std.specs.Prelude.{decimal}
use Rattle.words_script.specs.Block.{Block}
use Rattle.script_table.specs.declared.form.Form.TheVariants as form
use Rattle.script_table.specs.declared.form.ObjectForm.{ObjectForm}
use Rattle.script_table.specs.declared.form.ObjectForm.TheVariants as object
use Rattle.script_table.specs.declared.form.ActionForm.{ActionForm}
use Rattle.script_table.specs.declared.form.ActionForm.TheVariants as action
use Rattle.script_table.specs.declared.form.BodyForm.{BodyForm}
use Rattle.script_table.specs.declared.form.BodyForm.TheVariants as body
use Rattle.script_table.specs.declared.form.StepForm.{StepForm}
use Rattle.script_table.specs.declared.form.StepForm.TheVariants as step
use Rattle.script_table.specs.declared.form.BlockForm.{BlockForm}
use Rattle.script_table.specs.declared.form.BlockForm.TheVariants as block
use Rattle.script_table.specs.declared.form.CallForm.{CallForm}
use Rattle.script_table.specs.declared.form.CallForm.TheVariants as call
use Rattle.script_table.specs.declared.form.ThreadCall.{ThreadCall}
use Rattle.script_table.specs.declared.form.ThreadCall.TheVariants as thread
use Rattle.script_table.specs.declared.form.MutexCall.{MutexCall}
use Rattle.script_table.specs.declared.form.MutexCall.TheVariants as mutex
use Rattle.script_table.specs.declared.form.SemCall.{SemCall}
use Rattle.script_table.specs.declared.form.SemCall.TheVariants as sem
use Rattle.script_table.specs.declared.form.TimeCall.{TimeCall}
use Rattle.script_table.specs.declared.form.TimeCall.TheVariants as time
use Rattle.script_table.specs.declared.form.SignalCall.{SignalCall}
use Rattle.script_table.specs.declared.form.SignalCall.TheVariants as signal
use Rattle.script_table.specs.declared.form.MessageCall.{MessageCall}
use Rattle.script_table.specs.declared.form.MessageCall.TheVariants as message
use Rattle.script_table.specs.Patterns.{Spot, Keyword, Answer, Number, Operand, Declares, Uses, Signal, Acts, Signals}
use Rattle.script_table.specs.Words.{value_of, set_of}
use Rattle.script_table.specs.Names.{Entry, entry_of}
use Rattle.script_table.specs.Operands.{map_two, operand_at, number_of_kind}
use Rattle.script_table.specs.Calls.{thread_call, mutex_call, sem_call, time_call, signal_call, message_call, call_of}
use Rattle.script_table.specs.Meaning.{object_decl, action_decl, body_decl, plain_step, block_step}
use Rattle.laws_canonical_text.specs.Canonical.{canonical_word, canonical_words}
use Rattle.script_lex.proofs.Rejoined.{both}
use Rattle.laws_canonical_text.proofs.Forms.{places_of}
use Rattle.laws_canonical_text.proofs.Shape.{padded, Holds, first, rest}
use Rattle.std.specs.Prelude.{◌++◌, ◌+◌, ◌≤◌, min, not, nat_lt, nat_le, ◌&&◌, true, false, Option, None, Some, Bool}
use Rattle.std.proofs.Common.{arith, rules, ap, sym}
use Rattle.std.specs.Prelude.{unwrap_or, if◌then◌else◌}
use Rattle.std.specs.Option.{option_map}
use Rattle.words_script.specs.declared.call.Call.TheVariants as calls
use Rattle.words_numbers.specs.declared.res.Res.{Res}
use Rattle.words_numbers.specs.Words.{res_text, signal_word}
use Rattle.words_script.specs.Names.{is_name}
use Rattle.words_script.specs.Tree.{block_of}
use Rattle.words_script.specs.declared.body.Step.{Step}
use Rattle.words_script.specs.declared.decl.Decl.{Decl}
use Rattle.words_script.specs.declared.call.Call.{Call}
use Rattle.words_script.specs.declared.call.Operand as operands
use Rattle.script_table.specs.declared.faults.FaultKind.TheVariants.{ServerRange}
use Rattle.words_script.specs.declared.name_kind.NameKind.{NameKind}
use Rattle.script_table.specs.Faults.{when}
use Rattle.script_table.specs.Patterns.{greatest}
use Rattle.script_table.specs.Words.{signal_of, answer_of}
use Rattle.script_table.specs.Ranges.{is_within, server_faults, word}
use Rattle.script_writer.specs.Names.{name_of}
use Rattle.script_writer.specs.Words.{operand_word, set_word}
use Rattle.script_writer.specs.Canon.{Words, call_words, block_lines, decl_lines, end_words, pop_words}

-- an operand that is written as the word that it is read from
pub record ShowsOperand (word : List ℕ) : Type 0 where
  pub value : operands.Operand
  pub found : operand_at 0 (word ∷ []) ≡ Some value
  pub text : operand_word value ≡ canonical_word Operand word

-- a thing whose number gives its name back
pub record ShowsName (es : List Entry) (ds : List Decl) (kind : NameKind) (word : List ℕ) : Type 0 where
  pub number : ℕ
  pub found : number_of_kind kind (entry_of es word) ≡ Some number
  pub text : name_of ds kind number ≡ word

pub record ShowsSignal (word : List ℕ) : Type 0 where
  pub sig : ℕ
  pub found : signal_of word ≡ Some sig
  pub text : signal_word sig ≡ word

pub record ShowsSet (word : List ℕ) : Type 0 where
  pub set : ℕ
  pub found : set_of word ≡ Some set

pub record ShowsAnswer (word : List ℕ) : Type 0 where
  pub res : Res
  pub found : answer_of word ≡ Some res
  pub text : res_text res ≡ word

-- the word at a place says something that is written as its canonical word; es has the names of the text, and ds are the declarations
abbrev pub Shows : List Entry → List Decl → Spot → List ℕ → Type 0
Shows es ds (Keyword k) word = word ≡ k
Shows es ds Answer word = ShowsAnswer word
Shows es ds (Number low high) word = is_within low high word ≡ true
Shows es ds Operand word = ShowsOperand word
Shows es ds (Declares kind) word = is_name word ≡ true
Shows es ds (Uses kind) word = ShowsName es ds kind word
Shows es ds Signal word = ShowsSignal word
Shows es ds Acts word = ShowsSignal word
Shows es ds Signals word = ShowsSet word

-- the lines of what may be there
abbrev pub shown_call : List Decl → Option Call → List Words
shown_call ds None = []
shown_call ds (Some call) = call_words ds call ∷ []

abbrev pub shown_step : List Decl → Option Step → List Words
shown_step ds None = []
shown_step ds (Some s) = block_lines ds (block_of (s ∷ []))

abbrev pub shown_decl : List Decl → Option Decl → List Words
shown_decl ds None = []
shown_decl ds (Some d) = decl_lines ds d

-- the line that closes a block
abbrev pub closing_words : BlockForm → Bool → Words
closing_words block.Push run = pop_words run
closing_words other run = end_words

-- the parameters of a sporadic server fit one another
pub record ServerFits (high low period budget max : ℕ) : Type 0 where
  pub pending : (nat_le 1 max && nat_le max 16) ≡ true
  pub order : (nat_lt low high && (nat_le 1 budget && nat_le budget period)) ≡ true

abbrev held_values : ℕ → ℕ → ℕ → ℕ → ℕ → Bool
held_values high low period budget max =
    (nat_le 1 (min (greatest + 1) budget) && nat_le (min (greatest + 1) budget) (min (greatest + 1) period)) &&
    ((nat_le 1 (min (greatest + 1) max) && nat_le (min (greatest + 1) max) 16) && nat_lt (min (greatest + 1) low) (min (greatest + 1) high))

not_when : (b : Bool) → when (true && not b) ServerRange ≡ [] → b ≡ true
not_when true e = refl
not_when false e = absurd (let f : (ServerRange ∷ []) ≡ [] = e in cc)

min_small : (n : ℕ) → n ≤ greatest → min (greatest + 1) n ≡ n
min_small n h = omega arith

below : (low high n : ℕ) → (nat_le low n && nat_le n high) ≡ true → n ≤ high
below low high n e = let h = both (nat_le low n) (nat_le n high) e in search rules

pub server_fits : (high low period budget max : ℕ) → (nat_le 1 high && nat_le high 255) ≡ true → (nat_le 1 low && nat_le low 255) ≡ true → (nat_le 0 period && nat_le period greatest) ≡ true
    → (nat_le 0 budget && nat_le budget greatest) ≡ true → (nat_le 0 max && nat_le max greatest) ≡ true → when (true && not (held_values high low period budget max)) ServerRange ≡ [] → ServerFits high low period budget max
server_fits high low period budget max a b c d e f =
    let up = below 1 255 high a in
    let down = below 1 255 low b in
    let p = min_small high (omega arith) in
    let q = min_small low (omega arith) in
    let r = min_small period (below 0 greatest period c) in
    let s = min_small budget (below 0 greatest budget d) in
    let t = min_small max (below 0 greatest max e) in
    let held = not_when (held_values high low period budget max) f in
    let all : ((nat_le 1 budget && nat_le budget period) && ((nat_le 1 max && nat_le max 16) && nat_lt low high)) ≡ true = rw (p, q, r, s, t) at held in
    let one = both (nat_le 1 budget && nat_le budget period) ((nat_le 1 max && nat_le max 16) && nat_lt low high) all in
    let two = both (nat_le 1 max && nat_le max 16) (nat_lt low high) one.1 in
    record { pending = two.0; order = rw (two.1, one.0) refl }

one_word : (a k : List ℕ) (ws : Words) → a ≡ k → (k ∷ ws) ≡ (a ∷ ws)
one_word a k ws e = ap (λ x. x ∷ ws) (sym e)

two_words : (a b k l s : List ℕ) → a ≡ k → b ≡ l → (k ∷ l ∷ s ∷ []) ≡ (a ∷ b ∷ s ∷ [])
two_words a b k l s e f = rw (e, f) refl

-- a call with a set of signals
set_shown : (ds : List Decl) (make : ℕ → Call) (line : List ℕ → Words) (found : Option ℕ) (set : ℕ) → found ≡ Some set → ((n : ℕ) → call_words ds (make n) ≡ line (set_word n))
    → shown_call ds (option_map make found) ≡ line (set_word (unwrap_or found 0)) ∷ []
set_shown ds make line None set e w = absurd (let f : None ≡ Some set = e in cc)
set_shown ds make line (Some n) set e w = ap (λ x. x ∷ []) (w n)

-- a call with a set of signals and a number
set_shown_within : (ds : List Decl) (make : ℕ → ℕ → Call) (line : List ℕ → Words) (found : Option ℕ) (set : ℕ) → found ≡ Some set → (b : Bool) (ticks : ℕ) → b ≡ true
    → ((n : ℕ) → call_words ds (make n ticks) ≡ line (set_word n))
    → shown_call ds (map_two make found (if b then Some ticks else None)) ≡ line (set_word (unwrap_or found 0)) ∷ []
set_shown_within ds make line None set e b ticks is w = absurd (let f : None ≡ Some set = e in cc)
set_shown_within ds make line (Some n) set e true ticks is w = ap (λ x. x ∷ []) (w n)
set_shown_within ds make line (Some n) set e false ticks is w = absurd (let f : false ≡ true = is in cc)

thread_shown : (es : List Entry) (ds : List Decl) (f : ThreadCall) (ws : List (List ℕ)) → Holds (Shows es ds) (places_of (form.Call (call.Thread f))) ws → server_faults (form.Call (call.Thread f)) (padded (places_of (form.Call (call.Thread f))) ws) ≡ []
    → shown_call ds (thread_call es f (padded (places_of (form.Call (call.Thread f))) ws)) ≡ canonical_words (places_of (form.Call (call.Thread f))) (padded (places_of (form.Call (call.Thread f))) ws) ∷ []
thread_shown es ds thread.Yield ws h e = rw h.0 refl
thread_shown es ds thread.Create ws h e = rw (h.1.0.found, h.1.0.text, h.0) refl
thread_shown es ds thread.Join ws h e = rw (h.1.0.found, h.1.0.text, h.0) refl
thread_shown es ds thread.Cancel ws h e = rw (h.1.0.found, h.1.0.text, h.0) refl
thread_shown es ds thread.Testcancel ws h e = rw h.0 refl
thread_shown es ds thread.SetcancelEnable ws h e = rw (h.0, h.1.0) refl
thread_shown es ds thread.SetcancelDisable ws h e = rw (h.0, h.1.0) refl
thread_shown es ds thread.Exit ws h e = rw (h.1.0.found, h.1.0.text, h.0) refl
thread_shown es ds thread.Setprio ws h e = rw (h.1.0.found, h.1.1.0, h.1.0.text, h.0) refl
thread_shown es ds thread.SetschedFifo ws h e = rw (h.1.0.found, h.1.1.1.0, h.1.0.text, h.0, h.1.1.0) refl
thread_shown es ds thread.SetschedRr ws h e = rw (h.1.0.found, h.1.1.1.0, h.1.0.text, h.0, h.1.1.0) refl
thread_shown es ds thread.SetschedSporadic ws h e =
    let s = server_fits (value_of (word 3 (padded (places_of (form.Call (call.Thread thread.SetschedSporadic))) ws))) (value_of (word 4 (padded (places_of (form.Call (call.Thread thread.SetschedSporadic))) ws))) (value_of (word 5 (padded (places_of (form.Call (call.Thread thread.SetschedSporadic))) ws))) (value_of (word 6 (padded (places_of (form.Call (call.Thread thread.SetschedSporadic))) ws))) (value_of (word 7 (padded (places_of (form.Call (call.Thread thread.SetschedSporadic))) ws))) h.1.1.1.0 h.1.1.1.1.0 h.1.1.1.1.1.0 h.1.1.1.1.1.1.0 h.1.1.1.1.1.1.1.0 e in
    rw (h.1.0.found, h.1.1.1.0, h.1.1.1.1.0, h.1.1.1.1.1.0, h.1.1.1.1.1.1.0, s.pending, s.order, h.1.0.text, h.0, h.1.1.0) refl
thread_shown es ds thread.SetschedStrict ws h e =
    let s = server_fits (value_of (word 3 (padded (places_of (form.Call (call.Thread thread.SetschedStrict))) ws))) (value_of (word 4 (padded (places_of (form.Call (call.Thread thread.SetschedStrict))) ws))) (value_of (word 5 (padded (places_of (form.Call (call.Thread thread.SetschedStrict))) ws))) (value_of (word 6 (padded (places_of (form.Call (call.Thread thread.SetschedStrict))) ws))) (value_of (word 7 (padded (places_of (form.Call (call.Thread thread.SetschedStrict))) ws))) h.1.1.1.0 h.1.1.1.1.0 h.1.1.1.1.1.0 h.1.1.1.1.1.1.0 h.1.1.1.1.1.1.1.0 e in
    rw (h.1.0.found, h.1.1.1.0, h.1.1.1.1.0, h.1.1.1.1.1.0, h.1.1.1.1.1.1.0, s.pending, s.order, h.1.0.text, h.0, h.1.1.0) refl

mutex_shown : (es : List Entry) (ds : List Decl) (f : MutexCall) (ws : List (List ℕ)) → Holds (Shows es ds) (places_of (form.Call (call.Mutex f))) ws
    → shown_call ds (mutex_call es f (padded (places_of (form.Call (call.Mutex f))) ws)) ≡ canonical_words (places_of (form.Call (call.Mutex f))) (padded (places_of (form.Call (call.Mutex f))) ws) ∷ []
mutex_shown es ds mutex.Lock ws h = rw (h.1.0.found, h.1.0.text, h.0) refl
mutex_shown es ds mutex.Timedlock ws h = rw (h.1.0.found, h.1.1.0.found, h.1.0.text, h.1.1.0.text, h.0) refl
mutex_shown es ds mutex.TimedlockReal ws h = rw (h.1.0.found, h.1.1.0.found, h.1.0.text, h.1.1.0.text, h.0, h.1.1.1.0) refl
mutex_shown es ds mutex.Trylock ws h = rw (h.1.0.found, h.1.0.text, h.0) refl
mutex_shown es ds mutex.Unlock ws h = rw (h.1.0.found, h.1.0.text, h.0) refl
mutex_shown es ds mutex.Wait ws h = rw (h.1.0.found, h.1.1.0.found, h.1.0.text, h.1.1.0.text, h.0) refl
mutex_shown es ds mutex.Timedwait ws h = rw (h.1.0.found, h.1.1.0.found, h.1.1.1.0.found, h.1.0.text, h.1.1.0.text, h.1.1.1.0.text, h.0) refl
mutex_shown es ds mutex.TimedwaitReal ws h = rw (h.1.0.found, h.1.1.0.found, h.1.1.1.0.found, h.1.0.text, h.1.1.0.text, h.1.1.1.0.text, h.0, h.1.1.1.1.0) refl
mutex_shown es ds mutex.Signal ws h = rw (h.1.0.found, h.1.0.text, h.0) refl
mutex_shown es ds mutex.Broadcast ws h = rw (h.1.0.found, h.1.0.text, h.0) refl

sem_shown : (es : List Entry) (ds : List Decl) (f : SemCall) (ws : List (List ℕ)) → Holds (Shows es ds) (places_of (form.Call (call.Sem f))) ws
    → shown_call ds (sem_call es f (padded (places_of (form.Call (call.Sem f))) ws)) ≡ canonical_words (places_of (form.Call (call.Sem f))) (padded (places_of (form.Call (call.Sem f))) ws) ∷ []
sem_shown es ds sem.Wait ws h = rw (h.1.0.found, h.1.0.text, h.0) refl
sem_shown es ds sem.Timedwait ws h = rw (h.1.0.found, h.1.1.0.found, h.1.0.text, h.1.1.0.text, h.0) refl
sem_shown es ds sem.TimedwaitReal ws h = rw (h.1.0.found, h.1.1.0.found, h.1.0.text, h.1.1.0.text, h.0, h.1.1.1.0) refl
sem_shown es ds sem.Trywait ws h = rw (h.1.0.found, h.1.0.text, h.0) refl
sem_shown es ds sem.Getvalue ws h = rw (h.1.0.found, h.1.0.text, h.0) refl
sem_shown es ds sem.Post ws h = rw (h.1.0.found, h.1.0.text, h.0) refl

time_shown : (es : List Entry) (ds : List Decl) (f : TimeCall) (ws : List (List ℕ)) → Holds (Shows es ds) (places_of (form.Call (call.Time f))) ws
    → shown_call ds (time_call es f (padded (places_of (form.Call (call.Time f))) ws)) ≡ canonical_words (places_of (form.Call (call.Time f))) (padded (places_of (form.Call (call.Time f))) ws) ∷ []
time_shown es ds time.Nanosleep ws h = rw (h.1.0, h.0) refl
time_shown es ds time.ClockNanosleep ws h = rw (h.1.0.found, h.1.0.text, h.0) refl
time_shown es ds time.ClockNanosleepReal ws h = rw (h.1.0.found, h.1.0.text, h.0, h.1.1.0) refl
time_shown es ds time.Gettime ws h = rw h.0 refl
time_shown es ds time.RealGettime ws h = rw h.0 refl
time_shown es ds time.ClockSettime ws h = rw (h.1.0.found, h.1.0.text, h.0) refl
time_shown es ds time.TimerSettimeRel ws h = rw (h.1.0.found, h.1.1.1.0, h.1.1.1.1.0, h.1.0.text, h.0, h.1.1.0) refl
time_shown es ds time.TimerSettimeAbs ws h = rw (h.1.0.found, h.1.1.1.0.found, h.1.1.1.1.0, h.1.0.text, h.1.1.1.0.text, h.0, h.1.1.0) refl
time_shown es ds time.TimerGettime ws h = rw (h.1.0.found, h.1.0.text, h.0) refl
time_shown es ds time.TimerGetoverrun ws h = rw (h.1.0.found, h.1.0.text, h.0) refl

signal_shown : (es : List Entry) (ds : List Decl) (f : SignalCall) (ws : List (List ℕ)) → Holds (Shows es ds) (places_of (form.Call (call.Signal f))) ws
    → shown_call ds (signal_call es f (padded (places_of (form.Call (call.Signal f))) ws)) ≡ canonical_words (places_of (form.Call (call.Signal f))) (padded (places_of (form.Call (call.Signal f))) ws) ∷ []
signal_shown es ds signal.Kill ws h = rw (h.1.0.found, h.1.0.text, h.0) refl
signal_shown es ds signal.Tkill ws h = rw (h.1.0.found, h.1.1.0.found, h.1.0.text, h.1.1.0.text, h.0) refl
signal_shown es ds signal.Sigqueue ws h = rw (h.1.0.found, h.1.1.0.found, h.1.0.text, h.1.1.0.text, h.0) refl
signal_shown es ds signal.SigmaskBlock ws h =
    set_shown ds calls.SigmaskBlock (λ s. first ws ∷ first (rest ws) ∷ s ∷ []) (set_of (first (rest (rest ws)))) h.1.1.0.set h.1.1.0.found (λ n. two_words (first ws) (first (rest ws)) _ _ (set_word n) h.0 h.1.0)
signal_shown es ds signal.SigmaskUnblock ws h =
    set_shown ds calls.SigmaskUnblock (λ s. first ws ∷ first (rest ws) ∷ s ∷ []) (set_of (first (rest (rest ws)))) h.1.1.0.set h.1.1.0.found (λ n. two_words (first ws) (first (rest ws)) _ _ (set_word n) h.0 h.1.0)
signal_shown es ds signal.SigmaskSet ws h =
    set_shown ds calls.SigmaskSet (λ s. first ws ∷ first (rest ws) ∷ s ∷ []) (set_of (first (rest (rest ws)))) h.1.1.0.set h.1.1.0.found (λ n. two_words (first ws) (first (rest ws)) _ _ (set_word n) h.0 h.1.0)
signal_shown es ds signal.Sigwaitinfo ws h =
    set_shown ds calls.Sigwaitinfo (λ s. first ws ∷ s ∷ []) (set_of (first (rest ws))) h.1.0.set h.1.0.found (λ n. one_word (first ws) _ (set_word n ∷ []) h.0)
signal_shown es ds signal.Sigtimedwait ws h =
    let ticks : List ℕ = first (rest (rest ws)) in
    set_shown_within ds calls.Sigtimedwait (λ s. first ws ∷ s ∷ decimal (value_of ticks) ∷ []) (set_of (first (rest ws))) h.1.0.set h.1.0.found (is_within 0 greatest ticks) (value_of ticks) h.1.1.0
    (λ n. one_word (first ws) _ (set_word n ∷ decimal (value_of ticks) ∷ []) h.0)

message_shown : (es : List Entry) (ds : List Decl) (f : MessageCall) (ws : List (List ℕ)) → Holds (Shows es ds) (places_of (form.Call (call.Message f))) ws
    → shown_call ds (message_call es f (padded (places_of (form.Call (call.Message f))) ws)) ≡ canonical_words (places_of (form.Call (call.Message f))) (padded (places_of (form.Call (call.Message f))) ws) ∷ []
message_shown es ds message.Send ws h = rw (h.1.0.found, h.1.1.0, h.1.1.1.0, h.1.1.1.1.0.found, h.1.0.text, h.1.1.1.1.0.text, h.0) refl
message_shown es ds message.Timedsend ws h = rw (h.1.0.found, h.1.1.0, h.1.1.1.0, h.1.1.1.1.0.found, h.1.1.1.1.1.0.found, h.1.0.text, h.1.1.1.1.0.text, h.1.1.1.1.1.0.text, h.0) refl
message_shown es ds message.TimedsendReal ws h = rw (h.1.0.found, h.1.1.0, h.1.1.1.0, h.1.1.1.1.0.found, h.1.1.1.1.1.0.found, h.1.0.text, h.1.1.1.1.0.text, h.1.1.1.1.1.0.text, h.0, h.1.1.1.1.1.1.0) refl
message_shown es ds message.Receive ws h = rw (h.1.0.found, h.1.0.text, h.0) refl
message_shown es ds message.Timedreceive ws h = rw (h.1.0.found, h.1.1.0.found, h.1.0.text, h.1.1.0.text, h.0) refl
message_shown es ds message.TimedreceiveReal ws h = rw (h.1.0.found, h.1.1.0.found, h.1.0.text, h.1.1.0.text, h.0, h.1.1.1.0) refl
message_shown es ds message.Notify ws h = rw (h.1.0.found, h.1.1.0.found, h.1.1.1.0.found, h.1.0.text, h.1.1.0.text, h.1.1.1.0.text, h.0) refl

pub call_shown : (es : List Entry) (ds : List Decl) (f : CallForm) (ws : List (List ℕ)) → Holds (Shows es ds) (places_of (form.Call f)) ws → server_faults (form.Call f) (padded (places_of (form.Call f)) ws) ≡ []
    → shown_call ds (call_of es f (padded (places_of (form.Call f)) ws)) ≡ canonical_words (places_of (form.Call f)) (padded (places_of (form.Call f)) ws) ∷ []
call_shown es ds (call.Thread f) ws h e = thread_shown es ds f ws h e
call_shown es ds (call.Mutex f) ws h e = mutex_shown es ds f ws h
call_shown es ds (call.Sem f) ws h e = sem_shown es ds f ws h
call_shown es ds (call.Time f) ws h e = time_shown es ds f ws h
call_shown es ds (call.Signal f) ws h e = signal_shown es ds f ws h
call_shown es ds (call.Message f) ws h e = message_shown es ds f ws h

pub object_shown : (es : List Entry) (ds : List Decl) (f : ObjectForm) (ws : List (List ℕ)) → Holds (Shows es ds) (places_of (form.Object f)) ws
    → shown_decl ds (object_decl f (padded (places_of (form.Object f)) ws)) ≡ canonical_words (places_of (form.Object f)) (padded (places_of (form.Object f)) ws) ∷ []
object_shown es ds object.MutexNone ws h = rw (h.1.0, h.0, h.1.1.0) refl
object_shown es ds object.MutexNoneRecursive ws h = rw (h.1.0, h.0, h.1.1.0, h.1.1.1.0) refl
object_shown es ds object.MutexInherit ws h = rw (h.1.0, h.0, h.1.1.0) refl
object_shown es ds object.MutexInheritRecursive ws h = rw (h.1.0, h.0, h.1.1.0, h.1.1.1.0) refl
object_shown es ds object.MutexProtect ws h = rw (h.1.0, h.1.1.1.0, h.0, h.1.1.0) refl
object_shown es ds object.MutexProtectRecursive ws h = rw (h.1.0, h.1.1.1.0, h.0, h.1.1.0, h.1.1.1.1.0) refl
object_shown es ds object.Cond ws h = rw (h.1.0, h.0) refl
object_shown es ds object.Sem ws h = rw (h.1.0, h.1.1.0, h.0) refl
object_shown es ds object.Queue ws h = rw (h.1.0, h.1.1.0, h.1.1.1.0, h.0) refl
object_shown es ds object.QueueNonblock ws h = rw (h.1.0, h.1.1.0, h.1.1.1.0, h.0, h.1.1.1.1.0) refl
object_shown es ds object.Timer ws h = rw (h.1.0, h.1.1.0.found, h.1.1.1.0, h.1.1.0.text, h.0) refl
object_shown es ds object.TimerReal ws h = rw (h.1.0, h.1.1.0.found, h.1.1.1.0, h.1.1.0.text, h.0, h.1.1.1.1.0) refl

pub action_shown : (es : List Entry) (ds : List Decl) (f : ActionForm) (ws : List (List ℕ)) → Holds (Shows es ds) (places_of (form.Action f)) ws
    → shown_decl ds (action_decl es f (padded (places_of (form.Action f)) ws)) ≡ canonical_words (places_of (form.Action f)) (padded (places_of (form.Action f)) ws) ∷ []
action_shown es ds action.Ignore ws h = rw (h.1.0.found, h.1.0.text, h.0, h.1.1.0) refl
action_shown es ds action.Run ws h = rw (h.1.0.found, h.1.1.1.0.found, h.1.0.text, h.1.1.1.0.text, h.0, h.1.1.0) refl

pub body_shown : (es : List Entry) (ds : List Decl) (steps : Block) (f : BodyForm) (ws : List (List ℕ)) → Holds (Shows es ds) (places_of (form.Body f)) ws → server_faults (form.Body f) (padded (places_of (form.Body f)) ws) ≡ []
    → shown_decl ds (body_decl f (padded (places_of (form.Body f)) ws) steps) ≡ canonical_words (places_of (form.Body f)) (padded (places_of (form.Body f)) ws) ∷ (block_lines ds steps ++ end_words ∷ [])
body_shown es ds steps body.FifoAt ws h e = rw (h.1.0, h.1.1.1.0, h.1.1.1.1.1.0, h.0, h.1.1.0, h.1.1.1.1.0) refl
body_shown es ds steps body.FifoDormant ws h e = rw (h.1.0, h.1.1.1.0, h.0, h.1.1.0, h.1.1.1.1.0) refl
body_shown es ds steps body.RrAt ws h e = rw (h.1.0, h.1.1.1.0, h.1.1.1.1.1.0, h.0, h.1.1.0, h.1.1.1.1.0) refl
body_shown es ds steps body.RrDormant ws h e = rw (h.1.0, h.1.1.1.0, h.0, h.1.1.0, h.1.1.1.1.0) refl
body_shown es ds steps body.SporadicAt ws h e =
    let s = server_fits (value_of (word 3 (padded (places_of (form.Body body.SporadicAt)) ws))) (value_of (word 4 (padded (places_of (form.Body body.SporadicAt)) ws))) (value_of (word 5 (padded (places_of (form.Body body.SporadicAt)) ws))) (value_of (word 6 (padded (places_of (form.Body body.SporadicAt)) ws))) (value_of (word 7 (padded (places_of (form.Body body.SporadicAt)) ws))) h.1.1.1.0 h.1.1.1.1.0 h.1.1.1.1.1.0 h.1.1.1.1.1.1.0 h.1.1.1.1.1.1.1.0 e in
    rw (h.1.0, h.1.1.1.0, h.1.1.1.1.0, h.1.1.1.1.1.0, h.1.1.1.1.1.1.0, h.1.1.1.1.1.1.1.1.1.0, s.pending, s.order, h.0, h.1.1.0, h.1.1.1.1.1.1.1.1.0) refl
body_shown es ds steps body.StrictAt ws h e =
    let s = server_fits (value_of (word 3 (padded (places_of (form.Body body.StrictAt)) ws))) (value_of (word 4 (padded (places_of (form.Body body.StrictAt)) ws))) (value_of (word 5 (padded (places_of (form.Body body.StrictAt)) ws))) (value_of (word 6 (padded (places_of (form.Body body.StrictAt)) ws))) (value_of (word 7 (padded (places_of (form.Body body.StrictAt)) ws))) h.1.1.1.0 h.1.1.1.1.0 h.1.1.1.1.1.0 h.1.1.1.1.1.1.0 h.1.1.1.1.1.1.1.0 e in
    rw (h.1.0, h.1.1.1.0, h.1.1.1.1.0, h.1.1.1.1.1.0, h.1.1.1.1.1.1.0, h.1.1.1.1.1.1.1.1.1.0, s.pending, s.order, h.0, h.1.1.0, h.1.1.1.1.1.1.1.1.0) refl
body_shown es ds steps body.SporadicDormant ws h e =
    let s = server_fits (value_of (word 3 (padded (places_of (form.Body body.SporadicDormant)) ws))) (value_of (word 4 (padded (places_of (form.Body body.SporadicDormant)) ws))) (value_of (word 5 (padded (places_of (form.Body body.SporadicDormant)) ws))) (value_of (word 6 (padded (places_of (form.Body body.SporadicDormant)) ws))) (value_of (word 7 (padded (places_of (form.Body body.SporadicDormant)) ws))) h.1.1.1.0 h.1.1.1.1.0 h.1.1.1.1.1.0 h.1.1.1.1.1.1.0 h.1.1.1.1.1.1.1.0 e in
    rw (h.1.0, h.1.1.1.0, h.1.1.1.1.0, h.1.1.1.1.1.0, h.1.1.1.1.1.1.0, s.pending, s.order, h.0, h.1.1.0, h.1.1.1.1.1.1.1.1.0) refl
body_shown es ds steps body.StrictDormant ws h e =
    let s = server_fits (value_of (word 3 (padded (places_of (form.Body body.StrictDormant)) ws))) (value_of (word 4 (padded (places_of (form.Body body.StrictDormant)) ws))) (value_of (word 5 (padded (places_of (form.Body body.StrictDormant)) ws))) (value_of (word 6 (padded (places_of (form.Body body.StrictDormant)) ws))) (value_of (word 7 (padded (places_of (form.Body body.StrictDormant)) ws))) h.1.1.1.0 h.1.1.1.1.0 h.1.1.1.1.1.0 h.1.1.1.1.1.1.0 h.1.1.1.1.1.1.1.0 e in
    rw (h.1.0, h.1.1.1.0, h.1.1.1.1.0, h.1.1.1.1.1.0, h.1.1.1.1.1.1.0, s.pending, s.order, h.0, h.1.1.0, h.1.1.1.1.1.1.1.1.0) refl
body_shown es ds steps body.Handler ws h e = rw (h.1.0, h.0) refl
body_shown es ds steps body.Cleanup ws h e = rw (h.1.0, h.0) refl

pub plain_shown : (es : List Entry) (ds : List Decl) (f : StepForm) (ws : List (List ℕ)) → Holds (Shows es ds) (places_of (form.Step f)) ws
    → shown_step ds (plain_step f (padded (places_of (form.Step f)) ws)) ≡ canonical_words (places_of (form.Step f)) (padded (places_of (form.Step f)) ws) ∷ []
plain_shown es ds step.Run ws h = rw (h.1.0, h.0) refl
plain_shown es ds step.Set ws h = rw (h.1.0, h.0) refl
plain_shown es ds step.Add ws h = rw (h.1.0, h.0) refl
plain_shown es ds step.Take ws h = rw h.0 refl

pub block_shown : (es : List Entry) (ds : List Decl) (run : Bool) (body : Block) (f : BlockForm) (ws : List (List ℕ)) → Holds (Shows es ds) (places_of (form.Block f)) ws
    → shown_step ds (block_step es f (padded (places_of (form.Block f)) ws) run body) ≡ canonical_words (places_of (form.Block f)) (padded (places_of (form.Block f)) ws) ∷ (block_lines ds body ++ closing_words f run ∷ [])
block_shown es ds run body block.If ws h = rw (h.1.0.found, h.1.0.text, h.0) refl
block_shown es ds run body block.Unless ws h = rw (h.1.0.found, h.1.0.text, h.0) refl
block_shown es ds run body block.Loop ws h = rw (h.1.0, h.0) refl
block_shown es ds run body block.Forever ws h = rw h.0 refl
block_shown es ds run body block.Push ws h = rw (h.1.0.found, h.1.0.text, h.0) refl
