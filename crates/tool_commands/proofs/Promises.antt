-- What is promised of the run of each script that is read or generated.
use Rattle.std.proofs.Common.{◌≡◌, ℕ, List, Ok, refl}
use Rattle.laws_canonical_text.proofs.Again.{upgraded_again}
use Rattle.rules_moves.proofs.Runs.Units.{bodies_fit}
use Rattle.rules_machine.specs.Machine.{bodies_of}
use Rattle.rules_machine.specs.Runs.{opening}
use Rattle.laws_window.specs.Before.{RunsAsBefore}
use Rattle.laws_window.specs.Window.{RunKeepsWindows}
use Rattle.laws_window.proofs.InWindow as windows
use Rattle.rules_bodies.specs.Next.{Place}
use Rattle.script_writer.specs.Canon.{canon}
use Rattle.script_writer.specs.Upgraded.{upgraded}
use Rattle.laws_versions.specs.Versions.{RunsAlike}
use Rattle.laws_versions.proofs.Before as before
use Rattle.laws_numbers.proofs.Spelled as spelled
use Rattle.tool_commands.proofs.Serials.{serial_small}
use Rattle.tool_commands.specs.Audited.{BreaksNoRule}
use Rattle.tool_commands.specs.Spelled.{LinesHaveOneReading, RunHasSmallNumbers}
use Rattle.words_script.specs.declared.decl.Script.{Script}
use Rattle.script_table.specs.Table.{patterns}
use Rattle.script_table.specs.Read.{read}
use Rattle.rules_machine.specs.Promises.{RunKeepsBudgets, RunStaysGood}
use Rattle.laws_machine.proofs.Scripts as laws
use Rattle.laws_threads.specs.HeadRuns.{HeadRuns}
use Rattle.laws_threads.proofs.HeadRuns as heads
use Rattle.script_generator.specs.Generated.{script_of}
use Rattle.laws_accepted.proofs.Reading.{accepted_is_well_formed}
use Rattle.laws_accepted.proofs.Generated.{generated_is_well_formed}

pub head_runs : (script : Script) (k : ℕ) → HeadRuns script k
head_runs = heads.head_runs

pub stays_good : (bytes : List ℕ) (script : Script) → read patterns bytes ≡ Ok script → RunStaysGood script
stays_good bytes script e = laws.stays_good script (accepted_is_well_formed bytes script e)

pub keeps_budgets : (bytes : List ℕ) (script : Script) → read patterns bytes ≡ Ok script → RunKeepsBudgets script
keeps_budgets bytes script e = laws.keeps_budgets script (accepted_is_well_formed bytes script e)

pub generated_stays_good : (number : ℕ) → RunStaysGood (script_of number)
generated_stays_good number = laws.stays_good (script_of number) (generated_is_well_formed number)

pub generated_keeps_budgets : (number : ℕ) → RunKeepsBudgets (script_of number)
generated_keeps_budgets number = laws.keeps_budgets (script_of number) (generated_is_well_formed number)

pub numbers_small : (bytes : List ℕ) (script : Script) → read patterns bytes ≡ Ok script → RunHasSmallNumbers script
numbers_small bytes script e = record {
  at_instants = λ n most. spelled.accepted_numbers bytes script n e most;
  between_items = λ n k most. spelled.accepted_numbers_between bytes script n k e most;
  serial = λ n most. serial_small bytes script n e most;
}

pub one_reading : (bytes : List ℕ) (script : Script) → read patterns bytes ≡ Ok script → LinesHaveOneReading script
one_reading bytes script e n most = spelled.accepted_is_read bytes script n e most

pub breaks_none : (bytes : List ℕ) (script : Script) → read patterns bytes ≡ Ok script → BreaksNoRule script
breaks_none bytes script e n servers most calm each = spelled.accepted_breaks_none bytes script n servers e most calm each

pub keeps_windows : (bytes : List ℕ) (script : Script) → read patterns bytes ≡ Ok script → RunKeepsWindows script
keeps_windows bytes script e =
    let fits = accepted_is_well_formed bytes script e in
    windows.keeps_windows (bodies_of script) (bodies_fit script fits.priorities) script fits

pub reads_upgraded : (bytes : List ℕ) (script : Script) → read patterns bytes ≡ Ok script → read patterns (canon (upgraded script)) ≡ Ok (upgraded script)
reads_upgraded = upgraded_again

pub runs_alike : (script : Script) (n : ℕ) → RunsAlike (upgraded script) script n
runs_alike script n = record { events_same = refl; closing_same = refl; trace_same = refl }

pub runs_as_before : (bytes : List ℕ) (script : Script) → read patterns bytes ≡ Ok script → script.version ≡ 1 → RunsAsBefore (bodies_of script) (opening {P = Place} script)
runs_as_before = before.runs_as_before
