-- The lines of a trace, as docs/TRACE.md explains them. The form is this project's own.
use Rattle.std.specs.Prelude.{ℕ, ◌<◌, length, List, [], ◌∷◌, ◌++◌, codes, decimal, slice_get, unwrap_or, Option, None, Some}
use Rattle.std.specs.List.{join_with_byte}
use Rattle.words_numbers.specs.Words.{res_text, sig_code_text, signal_word}
use Rattle.words_trace.specs.declared.event.Event.{Event}
use Rattle.words_trace.specs.declared.event.Event.TheVariants as event
use Rattle.words_trace.specs.declared.report.BudgetView.{BudgetView}
use Rattle.words_trace.specs.declared.report.Report.{Report}
use Rattle.words_trace.specs.Calls.{call_word}

-- an event and its time in ticks
pub record Entry : Type 0 where
  pub time : ℕ
  pub event : Event

-- one blank between words, and a line end behind the last
abbrev pub line_of_words : List (List ℕ) → List ℕ
line_of_words words = join_with_byte 32 words ++ 10 ∷ []

-- the name of a thread
abbrev pub name_at : List (List ℕ) → ℕ → List ℕ
name_at names t = unwrap_or (slice_get names t) []

-- the words of an event, behind its time
abbrev pub event_words : List (List ℕ) → Event → List (List ℕ)
event_words names (event.Dispatch t prio) = codes "dispatch" ∷ name_at names t ∷ decimal prio ∷ []
event_words names event.Idle = codes "idle" ∷ []
event_words names (event.Start t) = codes "start" ∷ name_at names t ∷ []
event_words names (event.Return t call res value) =
    codes "return" ∷ name_at names t ∷ call_word call ∷ res_text res ∷ decimal value ∷ []
event_words names (event.Deliver t sig code value) =
    codes "deliver" ∷ name_at names t ∷ signal_word sig ∷ sig_code_text code ∷ decimal value ∷ []
event_words names (event.Activate t capacity) = codes "activate" ∷ name_at names t ∷ decimal capacity ∷ []
event_words names (event.Exhaust t) = codes "exhaust" ∷ name_at names t ∷ []
event_words names (event.Plan t amount due) = codes "plan" ∷ name_at names t ∷ decimal amount ∷ decimal due ∷ []
event_words names (event.Refill t amount capacity) = codes "refill" ∷ name_at names t ∷ decimal amount ∷ decimal capacity ∷ []
event_words names (event.Cancel t) = codes "cancel" ∷ name_at names t ∷ []
event_words names (event.Exit t) = codes "exit" ∷ name_at names t ∷ []
event_words names (event.Killed sig) = codes "killed" ∷ signal_word sig ∷ []
event_words names event.End = codes "end" ∷ []

-- the line of an event
abbrev pub line : List (List ℕ) → ℕ → Event → List ℕ
line names time e = line_of_words (decimal time ∷ event_words names e)

-- the lines of several events
abbrev pub lines : List (List ℕ) → List Entry → List ℕ
lines names [] = []
lines names (e ∷ es) = line names e.time e.event ++ lines names es

-- the words on the server of a sporadic or strict thread: ticks at high priority, initial budget, refilled amounts, capacity
abbrev pub budget_words : Option BudgetView → List (List ℕ)
budget_words None = []
budget_words (Some b) =
    codes "high" ∷ decimal b.high ∷ codes "init" ∷ decimal b.init ∷ codes "refilled" ∷ decimal b.refilled ∷ codes "capacity" ∷ decimal b.capacity ∷ []

-- the words of a thread's closing line
abbrev pub report_words : List (List ℕ) → ℕ → Report → List (List ℕ)
report_words names t report =
    codes "thread" ∷ name_at names t ∷ codes "ticks" ∷ decimal report.ticks ∷ budget_words report.budget

-- the closing line of a thread
abbrev pub report_line : List (List ℕ) → ℕ → Report → List ℕ
report_line names t report = line_of_words (report_words names t report)

-- the thread of an event has a name; all numbers have the ranges of their types
abbrev pub IsNamed : List (List ℕ) → Event → Type 0
IsNamed names (event.Dispatch t prio) = t < length names
IsNamed names event.Idle = Unit {0}
IsNamed names (event.Start t) = t < length names
IsNamed names (event.Return t call res value) = t < length names
IsNamed names (event.Deliver t sig code value) = t < length names
IsNamed names (event.Activate t capacity) = t < length names
IsNamed names (event.Exhaust t) = t < length names
IsNamed names (event.Plan t amount due) = t < length names
IsNamed names (event.Refill t amount capacity) = t < length names
IsNamed names (event.Cancel t) = t < length names
IsNamed names (event.Exit t) = t < length names
IsNamed names (event.Killed sig) = Unit {0}
IsNamed names event.End = Unit {0}
