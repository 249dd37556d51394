-- What the tool answers to the words of the command line and the bytes of the source.
use Rattle.std.specs.Prelude.{ℕ, ◌≡◌, ◌&&◌, nat_lt, if◌then◌else◌, List, length, codes, Option, None, Some, Result, Ok, Err}
use Rattle.std.specs.Io.KnownBytes.{Appends, Keeps}
use Rattle.parts_io.specs.Causes.{Rose}
use Rattle.parts_io.specs.Bytes.{AppendsPart}
use Rattle.words_script.specs.declared.decl.Script.{Script}
use Rattle.script_writer.specs.Canon.{canon}
use Rattle.script_writer.specs.Upgraded.{upgraded}
use Rattle.script_generator.specs.Generated.{script_of}
use Rattle.script_table.specs.Faults.{Fault, number_of, name_of}
use Rattle.script_table.specs.Table.{patterns}
use Rattle.script_table.specs.Read.{read}
use Rattle.rules_machine.specs.Machine.{closing, machine, names_of, trace}
use Rattle.rules_facts.specs.Detail.{detail}
use Rattle.rules_facts.specs.Shown.{shown}
use Rattle.tool_answers.specs.declared.status.Status.{Status}
use Rattle.tool_answers.specs.declared.status.Status.TheVariants.{Done, Usage, Refused, TooLong, ReadFault, WriteFault, OutOfMemory, Differs, NoTrace, Breach}
use Rattle.tool_answers.specs.declared.command.Command.{Command}
use Rattle.tool_answers.specs.declared.command.Command.TheVariants.{Run, Show, Detail, Check, Audit, Upgrade, ResponseTimes, Gen, Soak}
use Rattle.tool_answers.specs.Command.{command, limit_of, reads}
use Rattle.tool_answers.specs.Message.{refused_line}
use Rattle.tool_check.specs.Divided.{Divided, divided}
use Rattle.tool_check.specs.Comparison.{comparison}
use Rattle.tool_audit.specs.declared.breach.Breach as first
use Rattle.tool_audit.specs.declared.server.NamedServer.{NamedServer}
use Rattle.tool_audit.specs.Faults as head_faults
use Rattle.tool_audit.specs.Head.{read_head}
use Rattle.tool_audit.specs.Breach.{first_breach}
use Rattle.tool_audit.specs.Answer.{breach_text}
use Rattle.tool_times.specs.declared.task.Task.{Task}
use Rattle.tool_times.specs.Faults as task_faults
use Rattle.tool_times.specs.Read as task_lines
use Rattle.tool_times.specs.Answer.{response_lines}

-- a status, and the text that goes with it
pub record Answer : Type 0 where
  pub status : Status
  pub text : List ℕ

abbrev pub usage_line : List ℕ
usage_line = codes "usage: pse52 COMMAND NUMBERS\n"

abbrev pub too_long_line : List ℕ
too_long_line = codes "too long\n"

abbrev pub no_trace_line : List ℕ
no_trace_line = codes "no trace\n"

abbrev pub fault_line : Fault → List ℕ
fault_line f = refused_line f.line (number_of f.kind) (name_of f.kind)

-- a script is run, and a text that is none is refused
abbrev pub run_answer : ℕ → Result Script Fault → Answer
run_answer n (Err fault) = record { status = Refused; text = fault_line fault }
run_answer n (Ok script) = record { status = Done; text = trace script n }

-- what is shown of an instant of a script's run
abbrev pub show_answer : ℕ → Result Script Fault → Answer
show_answer n (Err fault) = record { status = Refused; text = fault_line fault }
show_answer n (Ok script) = record { status = Done; text = shown script n }

-- the trace of a script's run, with the facts that change at each instant
abbrev pub detail_answer : ℕ → Result Script Fault → Answer
detail_answer n (Err fault) = record { status = Refused; text = fault_line fault }
detail_answer n (Ok script) = record { status = Done; text = detail script n }

-- the trace is the one that is due, or lines tell what differs
abbrev pub trace_answer : Option (List ℕ) → Answer
trace_answer None = record { status = Done; text = codes "same\n" }
trace_answer (Some told) = record { status = Differs; text = told }

-- a trace is compared with that of a script's run, and a head that is no script is refused
abbrev pub compared_answer : ℕ → List ℕ → Result Script Fault → Answer
compared_answer n have (Err fault) = record { status = Refused; text = fault_line fault }
compared_answer n have (Ok script) = trace_answer (comparison have (trace script n))

-- the head has the limit of a script
abbrev pub head_answer : ℕ → Divided → Answer
head_answer n d =
    if nat_lt 1_048_576 (length d.head) then record { status = TooLong; text = too_long_line }
    else compared_answer n d.trace (read patterns d.head)

-- an input that is not divided has no trace
abbrev pub divided_answer : ℕ → Option Divided → Answer
divided_answer n None = record { status = NoTrace; text = no_trace_line }
divided_answer n (Some d) = head_answer n d

-- no rule is broken, or a line tells of the first breach
abbrev pub breach_answer : Option first.Breach → Answer
breach_answer None = record { status = Done; text = breach_text None }
breach_answer (Some b) = record { status = Breach; text = breach_text (Some b) }

-- a trace is audited for the servers of a head, and a head with a fault is refused
abbrev pub audited_answer : Result (List NamedServer) head_faults.Fault → List ℕ → Answer
audited_answer (Err f) trace = record { status = Refused; text = refused_line f.line (head_faults.number_of f.kind) (head_faults.name_of f.kind) }
audited_answer (Ok servers) trace = breach_answer (first_breach servers trace)

-- an input that is not divided has no trace
abbrev pub audit_answer : Option Divided → Answer
audit_answer None = record { status = NoTrace; text = no_trace_line }
audit_answer (Some d) = audited_answer (read_head d.head) d.trace

-- a script is written as one of version 2, where that text is no longer than a script may be
abbrev pub upgraded_answer : List ℕ → Answer
upgraded_answer text =
    if nat_lt 1_048_576 (length text) then record { status = TooLong; text = too_long_line }
    else record { status = Done; text = text }

abbrev pub upgrade_answer : Result Script Fault → Answer
upgrade_answer (Err fault) = record { status = Refused; text = fault_line fault }
upgrade_answer (Ok script) = upgraded_answer (canon (upgraded script))

-- the response times of tasks are told, and a text that declares none is refused
abbrev pub responses_answer : ℕ → Result (List Task) task_faults.Fault → Answer
responses_answer bound (Err f) = record { status = Refused; text = refused_line f.line (task_faults.number_of f.kind) (task_faults.name_of f.kind) }
responses_answer bound (Ok tasks) = record { status = Done; text = response_lines bound tasks }

-- the canonical text of the script of a number
abbrev pub generated_answer : ℕ → Answer
generated_answer seed = record { status = Done; text = canon (script_of seed) }

-- the closing lines of a script's run to a tick
abbrev pub closing_lines : Script → ℕ → List ℕ
closing_lines script n = closing (names_of script) (machine script n)

abbrev pub soak_answer : ℕ → ℕ → Answer
soak_answer seed n = record { status = Done; text = closing_lines (script_of seed) n }

-- what a command answers to a text that its limit allows
abbrev pub text_answer : Command → List ℕ → Answer
text_answer (Run n) bytes = run_answer n (read patterns bytes)
text_answer (Show n) bytes = show_answer n (read patterns bytes)
text_answer (Detail n) bytes = detail_answer n (read patterns bytes)
text_answer (Check n) bytes = divided_answer n (divided bytes)
text_answer Audit bytes = audit_answer (divided bytes)
text_answer Upgrade bytes = upgrade_answer (read patterns bytes)
text_answer (ResponseTimes n) bytes = responses_answer n (task_lines.read bytes)
text_answer (Gen seed) bytes = generated_answer seed
text_answer (Soak seed n) bytes = soak_answer seed n

abbrev pub command_answer : Option Command → List ℕ → Answer
command_answer None bytes = record { status = Usage; text = usage_line }
command_answer (Some c) bytes =
    if reads c && nat_lt (limit_of c) (length bytes) then record { status = TooLong; text = too_long_line }
    else text_answer c bytes

abbrev pub answer : List (List ℕ) → List ℕ → Answer
answer words bytes = command_answer (command words) bytes

-- What a status says of the sink's text: with a fault of reading and with want of memory nothing was written, with a
-- fault of writing a part of the text due, and else it is the answer's status and all of its text.
abbrev pub Told : Status → Answer → Option (List ℕ) → Option (List ℕ) → Type 0
Told ReadFault a old new = Keeps old new
Told OutOfMemory a old new = Keeps old new
Told WriteFault a old new = AppendsPart old new a.text
Told Done a old new = (a.status ≡ Done) × Appends old new a.text
Told Usage a old new = (a.status ≡ Usage) × Appends old new a.text
Told Refused a old new = (a.status ≡ Refused) × Appends old new a.text
Told TooLong a old new = (a.status ≡ TooLong) × Appends old new a.text
Told Differs a old new = (a.status ≡ Differs) × Appends old new a.text
Told NoTrace a old new = (a.status ≡ NoTrace) × Appends old new a.text
Told Breach a old new = (a.status ≡ Breach) × Appends old new a.text

-- a fault of writing is told only where the sink's count rose, and nothing else raises it
pub record SinkFaults (status : Status) (before now : ℕ) : Type 0 where
  pub fault : status ≡ WriteFault → Rose before now
  pub no_fault : (status ≡ WriteFault → ⊥) → now ≡ before

-- What a function does that gives an answer: its status says what the sink's text became and tells of the sink's faults, nothing
-- failed to be read, and where memory lacked the sink is as it was.
pub record GivesAnswer {K : Type 0} (text : K → Option (List ℕ)) (faults : K → ℕ) (a : Answer) (status : Status) (old new : K) : Type 0 where
  pub told : Told status a (text old) (text new)
  pub counted : SinkFaults status (faults old) (faults new)
  pub read_whole : status ≡ ReadFault → ⊥
  pub unchanged : status ≡ OutOfMemory → new ≡ old

-- a status that comes with a text
abbrev pub HasText : Status → Type 0
HasText Done = Unit {0}
HasText Usage = Unit {0}
HasText Refused = Unit {0}
HasText TooLong = Unit {0}
HasText Differs = Unit {0}
HasText NoTrace = Unit {0}
HasText Breach = Unit {0}
HasText ReadFault = ⊥
HasText WriteFault = ⊥
HasText OutOfMemory = ⊥
