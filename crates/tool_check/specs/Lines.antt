-- The lines of a trace as they are read, without their line ends. The trace format is this project's own.
use Rattle.std.specs.Prelude.{ℕ, Bool, if◌then◌else◌, List, [], ◌∷◌, ◌++◌, Option, None, Some, codes, find, is_some}
use Rattle.std.specs.Str.{bytes_eq}
use Rattle.words_script.specs.Names.{is_name}
use Rattle.script_table.specs.Words.{signal_of, answer_of}
use Rattle.tool_check.specs.declared.form.Form.{Form}
use Rattle.tool_check.specs.declared.form.Form.TheVariants as form
use Rattle.tool_check.specs.declared.form.Part.{Part}
use Rattle.tool_check.specs.declared.form.Part.TheVariants as part
use Rattle.tool_check.specs.declared.lines.TraceLine.{TraceLine}
use Rattle.tool_check.specs.Form.{form_word, parts}
use Rattle.tool_check.specs.Words.{trace_words, number_of, is_call, is_code}

-- the forms of lines that begin with a time
abbrev pub timed_forms : List Form
timed_forms =
    form.Dispatch ∷ form.Idle ∷ form.Start ∷ form.Return ∷ form.Deliver ∷ form.Activate ∷ form.Exhaust ∷ form.Plan ∷ form.Refill
    ∷ form.Cancel ∷ form.Exit ∷ form.Killed ∷ form.End ∷ []

-- the first of some forms whose word it is
abbrev pub form_among : List Form → List ℕ → Option Form
form_among [] word = None
form_among (f ∷ fs) word = if bytes_eq word (form_word f) then Some f else form_among fs word

-- the form whose word it is
abbrev pub timed_form : List ℕ → Option Form
timed_form word = find (λ f. bytes_eq word (form_word f)) timed_forms

-- what is read of a line
pub record Reading : Type 0 where
  pub form : Form
  pub time : ℕ  -- 0 in a closing line
  pub name : List ℕ  -- empty where the form has none
  pub nums : List ℕ  -- the numbers behind the word of the form, signals included, in order

abbrev pub seen : TraceLine → Reading
seen line = record { form = line.form; time = line.time; name = line.name.now; nums = line.nums.items }

abbrev pub kept : Bool → Reading → Option Reading
kept holds r = if holds then Some r else None

abbrev pub named : List ℕ → Reading → Option Reading
named word r = if is_name word then Some (record { form = r.form; time = r.time; name = word; nums = r.nums }) else None

abbrev pub numbered : Option ℕ → Reading → Option Reading
numbered None r = None
numbered (Some n) r = Some (record { form = r.form; time = r.time; name = r.name; nums = r.nums ++ n ∷ [] })

-- a word in its place
abbrev pub with_word : Part → List ℕ → Reading → Option Reading
with_word part.Name word r = named word r
with_word part.Number word r = numbered (number_of word) r
with_word part.Signal word r = numbered (signal_of word) r
with_word part.Call word r = kept (is_call word) r
with_word part.Answer word r = kept (is_some (answer_of word)) r
with_word part.Code word r = kept (is_code word) r
with_word part.Ticks word r = kept (bytes_eq word (codes "ticks")) r
with_word part.High word r = kept (bytes_eq word (codes "high")) r
with_word part.Init word r = kept (bytes_eq word (codes "init")) r
with_word part.Refilled word r = kept (bytes_eq word (codes "refilled")) r
with_word part.Capacity word r = kept (bytes_eq word (codes "capacity")) r

-- a further reading, where there is one
abbrev pub and_read : Option Reading → (Reading → Option Reading) → Option Reading
and_read None rest = None
and_read (Some r) rest = rest r

-- a word in each place, and none beside
abbrev pub with_words : List Part → List (List ℕ) → Reading → Option Reading
with_words [] [] r = Some r
with_words [] (w ∷ ws) r = None
with_words (p ∷ ps) [] r = None
with_words (p ∷ ps) (w ∷ ws) r = and_read (with_word p w r) (with_words ps ws)

-- a line of this form and time, of which nothing else is read yet
abbrev pub begun : Form → ℕ → Reading
begun f time = record { form = f; time = time; name = []; nums = [] }

abbrev pub of_form : Option Form → ℕ → List (List ℕ) → Option Reading
of_form None time words = None
of_form (Some f) time words = with_words (parts f) words (begun f time)

-- behind the time
abbrev pub timed_reading : Option ℕ → List (List ℕ) → Option Reading
timed_reading None words = None
timed_reading (Some time) [] = None
timed_reading (Some time) (w ∷ ws) = of_form (timed_form w) time ws

abbrev pub or_read : Option Reading → Option Reading → Option Reading
or_read None other = other
or_read (Some r) other = Some r

-- behind the word `thread`
abbrev pub closing_reading : List (List ℕ) → Option Reading
closing_reading words = or_read (of_form (Some form.Thread) 0 words) (of_form (Some form.Budget) 0 words)

abbrev pub words_reading : List (List ℕ) → Option Reading
words_reading [] = None
words_reading (w ∷ ws) = if bytes_eq w (codes "thread") then closing_reading ws else timed_reading (number_of w) ws

-- what is read of a line; none where it is no line of a trace
abbrev pub reading : List ℕ → Option Reading
reading line = words_reading (trace_words line)
