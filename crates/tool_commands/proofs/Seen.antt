-- What each status says of the command and the text.
use Rattle.std.proofs.Common.{◌≡◌, ℕ, List, Option, None, Some, Result, Ok, Err, refl, subst, Bool, true, false}
use Rattle.std.specs.Prelude.{if◌then◌else◌, length, nat_lt}
use Rattle.std.specs.Io.KnownBytes.{Appends}
use Rattle.words_script.specs.declared.decl.Script.{Script}
use Rattle.script_writer.specs.Canon.{canon}
use Rattle.script_writer.specs.Upgraded.{upgraded}
use Rattle.script_table.specs.Faults.{Fault}
use Rattle.script_table.specs.Table.{patterns}
use Rattle.script_table.specs.Read.{read}
use Rattle.rules_machine.specs.Machine.{trace}
use Rattle.tool_check.specs.Comparison.{comparison}
use Rattle.tool_check.specs.Divided.{Divided, divided}
use Rattle.tool_audit.specs.declared.breach.Breach as first
use Rattle.tool_audit.specs.declared.server.NamedServer.{NamedServer}
use Rattle.tool_audit.specs.Breach.{first_breach}
use Rattle.tool_audit.specs.Faults as head_faults
use Rattle.tool_audit.specs.Head.{read_head}
use Rattle.tool_times.specs.declared.task.Task.{Task}
use Rattle.tool_times.specs.Faults as task_faults
use Rattle.tool_times.specs.Read as task_lines
use Rattle.tool_answers.specs.declared.command.Command.{Command}
use Rattle.tool_answers.specs.declared.command.Command.TheVariants.{Run, Show, Detail, Check, Audit, Upgrade, ResponseTimes, Gen, Soak}
use Rattle.tool_answers.specs.declared.status.Status.{Status}
use Rattle.tool_answers.specs.declared.status.Status.TheVariants.{Done, Usage, Refused, TooLong, ReadFault, WriteFault, OutOfMemory, Differs, NoTrace, Breach}
use Rattle.tool_answers.specs.Answer.{Answer, Told, audit_answer, audited_answer, breach_answer, compared_answer, detail_answer, divided_answer, no_trace_line, responses_answer, run_answer, show_answer, text_answer, too_long_line, trace_answer, upgrade_answer, usage_line}
use Rattle.tool_answers.specs.Command.{Audits, Compares, Divides, HasSecondLimit}

-- the status and the text of an answer that a command may have to a text
abbrev pub Fits : Command → Status → List ℕ → Type 0
Fits c Done text = Unit {0}
Fits c Refused text = Unit {0}
Fits c TooLong text = HasSecondLimit (Some c) × (text ≡ too_long_line)
Fits c Differs text = Compares (Some c)
Fits c Breach text = Audits (Some c)
Fits c NoTrace text = Divides (Some c) × (text ≡ no_trace_line)
Fits c Usage text = ⊥
Fits c ReadFault text = ⊥
Fits c WriteFault text = ⊥
Fits c OutOfMemory text = ⊥

abbrev IsFor : Command → Answer → Type 0
IsFor c a = Fits c a.status a.text

one_of : (c : Command) (b : Bool) (x y : Answer) → IsFor c x → IsFor c y → IsFor c (if b then x else y)
one_of c true x y first second = first
one_of c false x y first second = second

of_run : (n : ℕ) (r : Result Script Fault) → IsFor (Run n) (run_answer n r)
of_run n (Ok script) = tt
of_run n (Err f) = tt

of_show : (n : ℕ) (r : Result Script Fault) → IsFor (Show n) (show_answer n r)
of_show n (Ok script) = tt
of_show n (Err f) = tt

of_detail : (n : ℕ) (r : Result Script Fault) → IsFor (Detail n) (detail_answer n r)
of_detail n (Ok script) = tt
of_detail n (Err f) = tt

of_trace : (n : ℕ) (o : Option (List ℕ)) → IsFor (Check n) (trace_answer o)
of_trace n None = tt
of_trace n (Some told) = tt

of_compared : (n : ℕ) (have : List ℕ) (r : Result Script Fault) → IsFor (Check n) (compared_answer n have r)
of_compared n have (Ok script) = of_trace n (comparison have (trace script n))
of_compared n have (Err f) = tt

of_divided : (n : ℕ) (o : Option Divided) → IsFor (Check n) (divided_answer n o)
of_divided n None = (tt, refl)
of_divided n (Some d) = one_of (Check n) (nat_lt 1_048_576 (length d.head)) _ (compared_answer n d.trace (read patterns d.head)) (tt, refl) (of_compared n d.trace (read patterns d.head))

of_breach : (o : Option first.Breach) → IsFor Audit (breach_answer o)
of_breach None = tt
of_breach (Some b) = tt

of_audited : (r : Result (List NamedServer) head_faults.Fault) (have : List ℕ) → IsFor Audit (audited_answer r have)
of_audited (Ok servers) have = of_breach (first_breach servers have)
of_audited (Err f) have = tt

of_audit : (o : Option Divided) → IsFor Audit (audit_answer o)
of_audit None = (tt, refl)
of_audit (Some d) = of_audited (read_head d.head) d.trace

of_upgrade : (r : Result Script Fault) → IsFor Upgrade (upgrade_answer r)
of_upgrade (Ok script) = one_of Upgrade (nat_lt 1_048_576 (length (canon (upgraded script)))) _ (record { status = Done; text = canon (upgraded script) }) (tt, refl) tt
of_upgrade (Err f) = tt

of_responses : (n : ℕ) (r : Result (List Task) task_faults.Fault) → IsFor (ResponseTimes n) (responses_answer n r)
of_responses n (Ok tasks) = tt
of_responses n (Err f) = tt

-- each command's answer to a text is one that it may have
pub text_fits : (c : Command) (bytes : List ℕ) → Fits c (text_answer c bytes).status (text_answer c bytes).text
text_fits (Run n) bytes = of_run n (read patterns bytes)
text_fits (Show n) bytes = of_show n (read patterns bytes)
text_fits (Detail n) bytes = of_detail n (read patterns bytes)
text_fits (Check n) bytes = of_divided n (divided bytes)
text_fits Audit bytes = of_audit (divided bytes)
text_fits Upgrade bytes = of_upgrade (read patterns bytes)
text_fits (ResponseTimes n) bytes = of_responses n (task_lines.read bytes)
text_fits (Gen seed) bytes = tt
text_fits (Soak seed n) bytes = tt

-- what a status says that was answered to a command, or to none
abbrev pub Seen : Option Command → Status → Option (List ℕ) → Option (List ℕ) → Type 0
Seen o Usage old new = (o ≡ None) × Appends old new usage_line
Seen o TooLong old new = Appends old new too_long_line
Seen o NoTrace old new = Divides o × Appends old new no_trace_line
Seen o Differs old new = Compares o
Seen o Breach old new = Audits o
Seen o Done old new = Unit {0}
Seen o Refused old new = Unit {0}
Seen o ReadFault old new = Unit {0}
Seen o WriteFault old new = Unit {0}
Seen o OutOfMemory old new = Unit {0}

-- the status is that of the answer, so it fits
fits_too : (c : Command) (bytes : List ℕ) (s : Status) → (text_answer c bytes).status ≡ s → Fits c s (text_answer c bytes).text
fits_too c bytes s e = subst (λ (x : Status). Fits c x (text_answer c bytes).text) e (text_fits c bytes)

line_told : (old new : Option (List ℕ)) (text line : List ℕ) → text ≡ line → Appends old new text → Appends old new line
line_told old new text line e told = subst (λ (t : List ℕ). Appends old new t) e told

pub seen_text : (c : Command) (bytes : List ℕ) (s : Status) (old new : Option (List ℕ)) → Told s (text_answer c bytes) old new → Seen (Some c) s old new
seen_text c bytes Usage old new told = absurd (fits_too c bytes Usage told.0)
seen_text c bytes TooLong old new told = line_told old new (text_answer c bytes).text too_long_line (fits_too c bytes TooLong told.0).1 told.1
seen_text c bytes NoTrace old new told = let fits = fits_too c bytes NoTrace told.0 in (fits.0, line_told old new (text_answer c bytes).text no_trace_line fits.1 told.1)
seen_text c bytes Differs old new told = fits_too c bytes Differs told.0
seen_text c bytes Breach old new told = fits_too c bytes Breach told.0
seen_text c bytes Done old new told = tt
seen_text c bytes Refused old new told = tt
seen_text c bytes ReadFault old new told = tt
seen_text c bytes WriteFault old new told = tt
seen_text c bytes OutOfMemory old new told = tt

-- a text that is too long comes of a command with a second limit
pub second_limit : (c : Command) (bytes : List ℕ) (s : Status) (old new : Option (List ℕ)) → Told s (text_answer c bytes) old new → s ≡ TooLong → HasSecondLimit (Some c)
second_limit c bytes s old new told e =
    let long : Told TooLong (text_answer c bytes) old new = subst (λ (x : Status). Told x (text_answer c bytes) old new) e told in
    (fits_too c bytes TooLong long.0).0
