-- The first line of a trace that breaks a rule for one of the servers, and the least rule that it breaks. This project's own.
use Rattle.std.specs.Prelude.{ℕ, ◌+◌, ◌==◌, ◌&&◌, not, nat_lt, nat_le, Bool, true, false, if◌then◌else◌, List, [], ◌∷◌, ◌++◌, Option, None, Some, map}
use Rattle.std.specs.List.{list_any, list_all}
use Rattle.std.specs.Str.{bytes_eq}
use Rattle.script_lex.specs.Lines.{lines_of}
use Rattle.tool_check.specs.declared.form.Form.{Form}
use Rattle.tool_check.specs.declared.form.Form.TheVariants as form
use Rattle.tool_check.specs.Lines.{Reading, reading}
pub use Rattle.tool_audit.specs.declared.breach.Breach.{Breach}
use Rattle.tool_audit.specs.Server.{Limits, NamedServer}
use Rattle.tool_audit.specs.Marks.{Mark, mark_of, marks_of}
use Rattle.tool_audit.specs.Ticks.{amount_refilled, high_before, in_all, ran_before}
use Rattle.tool_audit.specs.Rules.{broken_by, lives_in, if_broken}

-- ---- rule 1, of the trace as a whole

abbrev pub is_closing : Form → Bool
is_closing form.Thread = true
is_closing form.Budget = true
is_closing f = false

abbrev pub is_end : Form → Bool
is_end form.End = true
is_end f = false

abbrev pub has_ended : List Reading → Bool
has_ended rs = list_any (λ (r : Reading). is_end r.form) rs

-- times do not fall, and no line stands behind the `end` but closing lines
abbrev pub keeps_order : List Reading → Reading → Bool
keeps_order before r =
    if is_closing r.form then has_ended before
    else not (has_ended before) && list_all (λ (b : Reading). nat_le b.time r.time) before

-- ---- rule 6: closing lines

-- the time of the `end` line
abbrev pub end_time : List Reading → ℕ
end_time [] = 0
end_time (r ∷ rs) = if is_end r.form then r.time else end_time rs

abbrev pub is_closing_of : List ℕ → Reading → Bool
is_closing_of name r = is_closing r.form && bytes_eq r.name name

abbrev pub has_closing : List ℕ → List Reading → Bool
has_closing name rs = list_any (is_closing_of name) rs

-- the ticks, the high ticks, the initial budget, what was refilled, and the capacity
abbrev pub is_right_end : Limits → List Mark → ℕ → Form → List ℕ → Bool
is_right_end s ms end form.Thread (ticks ∷ []) = not (lives_in ms) && ticks == ran_before ms end
is_right_end s ms end form.Budget (ticks ∷ high ∷ init ∷ refilled ∷ capacity ∷ []) =
    lives_in ms && (ticks == ran_before ms end && (high == high_before s ms end && (init == s.budget
    && (refilled == in_all amount_refilled ms && capacity + high == init + refilled))))
is_right_end s ms end f nums = false

abbrev pub keeps_end : NamedServer → List Reading → Reading → Bool
keeps_end s before r =
    if is_closing_of s.name r then not (has_closing s.name before) && is_right_end s.limits (marks_of s.name before) (end_time before) r.form r.nums
    else true

-- ---- the least rule that a line breaks

abbrev pub broken_for : List Reading → Reading → NamedServer → Option ℕ
broken_for before r s =
    if is_closing r.form then if_broken (keeps_end s before r) 6 None
    else broken_by s.limits (marks_of s.name before) (mark_of s.name r)

abbrev pub least : Option ℕ → Option ℕ → Option ℕ
least None b = b
least (Some a) None = Some a
least (Some a) (Some b) = Some (if nat_lt b a then b else a)

abbrev pub broken_for_any : List Reading → Reading → List NamedServer → Option ℕ
broken_for_any before r [] = None
broken_for_any before r (s ∷ servers) = least (broken_for before r s) (broken_for_any before r servers)

abbrev pub broken_by_reading : List NamedServer → List Reading → Option Reading → Option ℕ
broken_by_reading servers before None = Some 1
broken_by_reading servers before (Some r) = if_broken (keeps_order before r) 1 (broken_for_any before r servers)

-- what never comes
abbrev pub broken_behind : List NamedServer → List Reading → Option ℕ
broken_behind servers before =
    if_broken (has_ended before) 1 (if_broken (list_all (λ (s : NamedServer). has_closing s.name before) servers) 6 None)

-- ---- the first breach

abbrev pub and_reading : List Reading → Option Reading → List Reading
and_reading before None = before
and_reading before (Some r) = before ++ r ∷ []

abbrev pub breach_of : Option ℕ → ℕ → Option Breach → Option Breach
breach_of None line rest = rest
breach_of (Some rule) line rest = Some (record { line = line; rule = rule })

-- of these lines, the first of which has this number
abbrev pub breach_from : List NamedServer → List Reading → ℕ → List (Option Reading) → Option Breach
breach_from servers before line [] = breach_of (broken_behind servers before) line None
breach_from servers before line (r ∷ rs) = breach_of (broken_by_reading servers before r) line (breach_from servers (and_reading before r) (line + 1) rs)

-- of the lines of a trace
abbrev pub first_breach : List NamedServer → List ℕ → Option Breach
first_breach servers trace = breach_from servers [] 1 (map reading (lines_of trace))
