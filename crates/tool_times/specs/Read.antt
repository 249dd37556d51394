-- The tasks of a text, or its least fault. The text format is this project's own; lines, words, numbers and names are those of a script.
use Rattle.std.specs.Prelude.{ℕ, ◌+◌, ◌==◌, ◌&&◌, nat_le, not, Bool, if◌then◌else◌, List, [], ◌∷◌, ◌++◌, length, map, slice_get, Option, None, Some, Result, Ok, Err, codes}
use Rattle.std.specs.Str.{bytes_eq}
use Rattle.std.specs.List.{list_all, list_any}
use Rattle.words_script.specs.Names.{is_name}
use Rattle.script_lex.specs.Lines.{lines_of}
use Rattle.script_lex.specs.Words.{line_words, has_bad_byte}
use Rattle.script_table.specs.Words.{is_number, value_of}
use Rattle.tool_times.specs.declared.task.Task.{Task}
use Rattle.tool_times.specs.declared.fault.TaskFault.{TaskFault}
use Rattle.tool_times.specs.declared.fault.TaskFault.TheVariants.{BadByte, UnknownWord, WordCount, BadNumber, NumberRange, BadName, DuplicateName, SamePriority, NoTask}
use Rattle.tool_times.specs.Tasks.{is_taken}
use Rattle.tool_times.specs.Faults.{Fault, when, faults_at}

-- the faults of NAME PRIORITY COST PERIOD BLOCKING, by their spelling
abbrev pub operand_faults : List (List ℕ) → List TaskFault
operand_faults [] = []
operand_faults (name ∷ numbers) = when (not (list_all is_number numbers)) BadNumber ++ when (not (is_name name)) BadName

-- the faults of a line's words
abbrev pub word_faults : List (List ℕ) → List TaskFault
word_faults [] = []
word_faults (first ∷ operands) =
    if not (bytes_eq first (codes "task")) then UnknownWord ∷ []
    else if not (length operands == 5) then WordCount ∷ []
    else operand_faults operands

abbrev pub line_faults : List ℕ → List TaskFault
line_faults line = when (has_bad_byte line) BadByte ++ word_faults (line_words line)

-- Phase 1: each line by itself, from line n on.
abbrev pub phase_one : ℕ → List (List ℕ) → List Fault
phase_one n [] = []
phase_one n (line ∷ lines) = faults_at n (line_faults line) ++ phase_one (n + 1) lines

-- a line that declares a task, with its numbers of any size
pub record Said : Type 0 where
  pub line : ℕ
  pub task : Task

-- what the words of line n declare
abbrev pub said_line : ℕ → List (List ℕ) → List Said
said_line n (keyword ∷ name ∷ p ∷ c ∷ t ∷ b ∷ []) =
    record { line = n; task = record { name = name; priority = value_of p; cost = value_of c; period = value_of t; blocking = value_of b } } ∷ []
said_line n other = []

-- what the lines from n on declare
abbrev pub said_from : ℕ → List (List ℕ) → List Said
said_from n [] = []
said_from n (line ∷ lines) = said_line n (line_words line) ++ said_from (n + 1) lines

abbrev pub names_of : List Said → List (List ℕ)
names_of ss = map (λ s. s.task.name) ss

-- an earlier line declares the name
abbrev pub name_faults : List Said → Said → List TaskFault
name_faults before s = when (list_any (bytes_eq s.task.name) (names_of before)) DuplicateName

-- Phase 2: the names of these lines, behind those.
abbrev pub phase_two : List Said → List Said → List Fault
phase_two before [] = []
phase_two before (s ∷ ss) = faults_at s.line (name_faults before s) ++ phase_two (before ++ s ∷ []) ss

abbrev pub is_within : ℕ → ℕ → ℕ → Bool
is_within low high n = nat_le low n && nat_le n high

abbrev pub in_ranges : Task → Bool
in_ranges t =
    is_within 1 255 t.priority && (is_within 1 1_000_000 t.cost && (is_within 1 1_000_000_000 t.period && nat_le t.blocking 1_000_000))

abbrev pub tasks_of : List Said → List Task
tasks_of ss = map (λ s. s.task) ss

-- a number out of its range, or a priority that an earlier line has
abbrev pub range_faults : List Said → Said → List TaskFault
range_faults before s = when (not (in_ranges s.task)) NumberRange ++ when (is_taken s.task.priority (tasks_of before)) SamePriority

-- Phase 3: the numbers of these lines, behind those.
abbrev pub phase_three : List Said → List Said → List Fault
phase_three before [] = []
phase_three before (s ∷ ss) = faults_at s.line (range_faults before s) ++ phase_three (before ++ s ∷ []) ss

-- where nothing is declared, on the line behind the last
abbrev pub none_fault : ℕ → List Said → List Fault
none_fault behind [] = faults_at behind (NoTask ∷ [])
none_fault behind (s ∷ ss) = []

-- all faults of a text, by phase, then line, then the number of their kind, so that the least is the first
abbrev pub faults : List ℕ → List Fault
faults text =
    let said = said_from 1 (lines_of text) in
    phase_one 1 (lines_of text) ++ (phase_two [] said ++ (phase_three [] said ++ none_fault (1 + length (lines_of text)) said))

abbrev pub verdict : Option Fault → List Task → Result (List Task) Fault
verdict None tasks = Ok tasks
verdict (Some f) tasks = Err f

-- the tasks of a text that has no fault, or else the least fault
abbrev pub read : List ℕ → Result (List Task) Fault
read text = verdict (slice_get (faults text) 0) (tasks_of (said_from 1 (lines_of text)))
