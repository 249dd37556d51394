-- The servers of a head, or its least fault. Each line is `server NAME PERIOD BUDGET MAX`. The format is this project's own; lines, words,
-- numbers and names are those of a script.
use Rattle.std.specs.Prelude.{ℕ, ◌+◌, ◌^◌, ◌==◌, ◌&&◌, nat_le, nat_lt, not, Bool, if◌then◌else◌, List, [], ◌∷◌, ◌++◌, length, map, slice_get, Option, None, Some, Result, Ok, Err, codes}
use Rattle.std.specs.Str.{bytes_eq}
use Rattle.std.specs.List.{list_all, list_any}
use Rattle.words_script.specs.Names.{is_name}
use Rattle.script_lex.specs.Lines.{lines_of}
use Rattle.script_lex.specs.Words.{line_words, has_bad_byte}
use Rattle.script_table.specs.Words.{is_number, value_of}
use Rattle.tool_audit.specs.Server.{Limits, NamedServer}
use Rattle.tool_audit.specs.declared.fault.HeadFault.{HeadFault}
use Rattle.tool_audit.specs.declared.fault.HeadFault.TheVariants.{BadByte, UnknownWord, WordCount, BadNumber, NumberRange, BadName, DuplicateName, TooMany, ServerRange}
use Rattle.tool_audit.specs.Faults.{Fault, when, faults_at}

-- the faults of NAME PERIOD BUDGET MAX, by their spelling
abbrev pub operand_faults : List (List ℕ) → List HeadFault
operand_faults [] = []
operand_faults (name ∷ numbers) = when (not (list_all is_number numbers)) BadNumber ++ when (not (is_name name)) BadName

-- the faults of a line's words
abbrev pub word_faults : List (List ℕ) → List HeadFault
word_faults [] = []
word_faults (first ∷ operands) =
    if not (bytes_eq first (codes "server")) then UnknownWord ∷ []
    else if not (length operands == 4) then WordCount ∷ []
    else operand_faults operands

abbrev pub line_faults : List ℕ → List HeadFault
line_faults line = when (has_bad_byte line) BadByte ++ word_faults (line_words line)

-- Phase 1: each line by itself, from line n on.
abbrev pub phase_one : ℕ → List (List ℕ) → List Fault
phase_one n [] = []
phase_one n (line ∷ lines) = faults_at n (line_faults line) ++ phase_one (n + 1) lines

-- a line that names a server, with its numbers of any size
pub record Said : Type 0 where
  pub line : ℕ
  pub server : NamedServer

-- what the words of line n name
abbrev pub said_line : ℕ → List (List ℕ) → List Said
said_line n (keyword ∷ name ∷ p ∷ b ∷ x ∷ []) =
    record { line = n; server = record { name = name; limits = record { period = value_of p; budget = value_of b; max = value_of x } } } ∷ []
said_line n other = []

-- what the lines from n on name
abbrev pub said_from : ℕ → List (List ℕ) → List Said
said_from n [] = []
said_from n (line ∷ lines) = said_line n (line_words line) ++ said_from (n + 1) lines

abbrev pub servers_of : List Said → List NamedServer
servers_of ss = map (λ (s : Said). s.server) ss

abbrev pub names_of : List Said → List (List ℕ)
names_of ss = map (λ (s : Said). s.server.name) ss

-- an earlier line names the server
abbrev pub name_faults : List Said → Said → List HeadFault
name_faults before s = when (list_any (bytes_eq s.server.name) (names_of before)) DuplicateName

-- Phase 2: the names of these lines, behind those.
abbrev pub phase_two : List Said → List Said → List Fault
phase_two before [] = []
phase_two before (s ∷ ss) = faults_at s.line (name_faults before s) ++ phase_two (before ++ s ∷ []) ss

-- the greatest number of a head
abbrev pub greatest : ℕ
greatest = 10 ^ 18

abbrev pub in_numbers : Limits → Bool
in_numbers s = nat_le s.period greatest && (nat_le s.budget greatest && nat_le s.max greatest)

-- a budget, within the period, and 1 to 16 pending replenishments
abbrev pub in_ranges : Limits → Bool
in_ranges s = nat_lt 0 s.budget && (nat_le s.budget s.period && (nat_le 1 s.max && nat_le s.max 16))

-- a number out of its range, the 257th server or a later one, or one whose numbers do not fit
abbrev pub range_faults : List Said → Said → List HeadFault
range_faults before s = when (not (in_numbers s.server.limits)) NumberRange ++ (when (nat_le 256 (length before)) TooMany ++ when (not (in_ranges s.server.limits)) ServerRange)

-- Phase 3: the numbers of these lines, behind those.
abbrev pub phase_three : List Said → List Said → List Fault
phase_three before [] = []
phase_three before (s ∷ ss) = faults_at s.line (range_faults before s) ++ phase_three (before ++ s ∷ []) ss

-- all faults of a text, by phase, then line, then the number of their kind, so that the least is the first
abbrev pub faults : List ℕ → List Fault
faults text =
    let said = said_from 1 (lines_of text) in
    phase_one 1 (lines_of text) ++ (phase_two [] said ++ phase_three [] said)

abbrev pub verdict : Option Fault → List NamedServer → Result (List NamedServer) Fault
verdict None servers = Ok servers
verdict (Some f) servers = Err f

-- the servers of a text that has no fault, or else the least fault
abbrev pub read_head : List ℕ → Result (List NamedServer) Fault
read_head text = verdict (slice_get (faults text) 0) (servers_of (said_from 1 (lines_of text)))
