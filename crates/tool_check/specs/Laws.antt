-- The lines of a trace as the tracer prints them, docs/TRACE.md. The trace format is this project's own.
use Rattle.std.specs.Prelude.{◌≡◌, ◌≤◌, ◌<◌, ℕ, true, List, [], ◌∷◌, ◌++◌, Option, None, Some, ◌⊎◌}
use Rattle.words_script.specs.Names.{is_name}
use Rattle.words_trace.specs.declared.event.Event.{Event}
use Rattle.words_trace.specs.declared.event.Event.TheVariants as event
use Rattle.words_trace.specs.declared.report.BudgetView.{BudgetView}
use Rattle.words_trace.specs.declared.report.Report.{Report}
use Rattle.words_trace.specs.Text.{name_at, line, report_line}
use Rattle.tool_check.specs.declared.form.Form.{Form}
use Rattle.tool_check.specs.declared.form.Form.TheVariants as form
use Rattle.tool_check.specs.Words.{greatest}
use Rattle.tool_check.specs.Lines.{Reading}

abbrev pub form_of : Event → Form
form_of (event.Dispatch t prio) = form.Dispatch
form_of event.Idle = form.Idle
form_of (event.Start t) = form.Start
form_of (event.Return t call res value) = form.Return
form_of (event.Deliver t sig code value) = form.Deliver
form_of (event.Activate t capacity) = form.Activate
form_of (event.Exhaust t) = form.Exhaust
form_of (event.Plan t amount due) = form.Plan
form_of (event.Refill t amount capacity) = form.Refill
form_of (event.Cancel t) = form.Cancel
form_of (event.Exit t) = form.Exit
form_of (event.Killed sig) = form.Killed
form_of event.End = form.End

abbrev pub name_of : List (List ℕ) → Event → List ℕ
name_of names (event.Dispatch t prio) = name_at names t
name_of names event.Idle = []
name_of names (event.Start t) = name_at names t
name_of names (event.Return t call res value) = name_at names t
name_of names (event.Deliver t sig code value) = name_at names t
name_of names (event.Activate t capacity) = name_at names t
name_of names (event.Exhaust t) = name_at names t
name_of names (event.Plan t amount due) = name_at names t
name_of names (event.Refill t amount capacity) = name_at names t
name_of names (event.Cancel t) = name_at names t
name_of names (event.Exit t) = name_at names t
name_of names (event.Killed sig) = []
name_of names event.End = []

abbrev pub nums_of : Event → List ℕ
nums_of (event.Dispatch t prio) = prio ∷ []
nums_of event.Idle = []
nums_of (event.Start t) = []
nums_of (event.Return t call res value) = value ∷ []
nums_of (event.Deliver t sig code value) = sig ∷ value ∷ []
nums_of (event.Activate t capacity) = capacity ∷ []
nums_of (event.Exhaust t) = []
nums_of (event.Plan t amount due) = amount ∷ due ∷ []
nums_of (event.Refill t amount capacity) = amount ∷ capacity ∷ []
nums_of (event.Cancel t) = []
nums_of (event.Exit t) = []
nums_of (event.Killed sig) = sig ∷ []
nums_of event.End = []

-- what the line of an event says
abbrev pub said : List (List ℕ) → ℕ → Event → Reading
said names time e = record { form = form_of e; time = time; name = name_of names e; nums = nums_of e }

abbrev pub form_of_report : Option BudgetView → Form
form_of_report None = form.Thread
form_of_report (Some b) = form.Budget

abbrev pub nums_of_budget : Option BudgetView → List ℕ
nums_of_budget None = []
nums_of_budget (Some b) = b.high ∷ b.init ∷ b.refilled ∷ b.capacity ∷ []

-- what the closing line of a thread says
abbrev pub said_of_report : List (List ℕ) → ℕ → Report → Reading
said_of_report names t report = record {
  form = form_of_report report.budget;
  time = 0;
  name = name_at names t;
  nums = report.ticks ∷ nums_of_budget report.budget;
}

abbrev pub HasName : List (List ℕ) → ℕ → Type 0
HasName names t = is_name (name_at names t) ≡ true

-- the thread has a name, and the numbers are those of a trace
abbrev pub IsSpelled : List (List ℕ) → Event → Type 0
IsSpelled names (event.Dispatch t prio) = HasName names t × (prio ≤ greatest)
IsSpelled names event.Idle = Unit {0}
IsSpelled names (event.Start t) = HasName names t
IsSpelled names (event.Return t call res value) = HasName names t × (value ≤ greatest)
IsSpelled names (event.Deliver t sig code value) = HasName names t × (sig < 32) × (value ≤ greatest)
IsSpelled names (event.Activate t capacity) = HasName names t × (capacity ≤ greatest)
IsSpelled names (event.Exhaust t) = HasName names t
IsSpelled names (event.Plan t amount due) = HasName names t × (amount ≤ greatest) × (due ≤ greatest)
IsSpelled names (event.Refill t amount capacity) = HasName names t × (amount ≤ greatest) × (capacity ≤ greatest)
IsSpelled names (event.Cancel t) = HasName names t
IsSpelled names (event.Exit t) = HasName names t
IsSpelled names (event.Killed sig) = sig < 32
IsSpelled names event.End = Unit {0}

abbrev pub IsBudgetSpelled : Option BudgetView → Type 0
IsBudgetSpelled None = Unit {0}
IsBudgetSpelled (Some b) = (b.high ≤ greatest) × (b.init ≤ greatest) × (b.refilled ≤ greatest) × (b.capacity ≤ greatest)

-- the text, with a line end, is the line of an event, and says r
pub record IsEventLine (text : List ℕ) (r : Reading) : Type 0 where
  pub names : List (List ℕ)
  pub time : ℕ
  pub event : Event
  pub printed : line names time event ≡ text ++ 10 ∷ []
  pub early : time ≤ greatest
  pub spelled : IsSpelled names event
  pub says : r ≡ said names time event

-- the text, with a line end, is the closing line of a thread, and says r
pub record IsReportLine (text : List ℕ) (r : Reading) : Type 0 where
  pub names : List (List ℕ)
  pub thread : ℕ
  pub report : Report
  pub printed : report_line names thread report ≡ text ++ 10 ∷ []
  pub named : HasName names thread
  pub ticks : report.ticks ≤ greatest
  pub budget : IsBudgetSpelled report.budget
  pub says : r ≡ said_of_report names thread report

-- the text is a line of a trace, without its line end, and says r
abbrev pub IsTraceLine : List ℕ → Reading → Type 0
IsTraceLine text r = IsEventLine text r ⊎ IsReportLine text r
