-- A kernel that was just opened: the text of its run, its closing lines after some ticks, and how busy it is.
use Rattle.std.proofs.Common.{◌≡◌, ℕ, ◌∙◌, ap}
use Rattle.words_script.specs.declared.decl.Script.{Script}
use Rattle.rules_bodies.specs.declared.cursor.Cursor.{Cursor}
use Rattle.rules_machine.specs.Machine.{bodies_of, closing, names_of, trace}
use Rattle.rules_machine.specs.Runs.{Ran, opening, ticks}
use Rattle.rules_machine.specs.Eventful.{busy}
use Rattle.rules_machine.specs.Promises.{busy_between}
use Rattle.laws_places.proofs.CarriedBusy.{busy_over}
use Rattle.laws_places.proofs.CarriedTrace.{closing_carries, runs_carry}
use Rattle.rules_flat_code.specs.FlatBodies.{code_of, flat_bodies}
use Rattle.laws_flat_code.specs.Places.{carry}
use Rattle.laws_flat_code.proofs.Agrees.{flat_agrees, flat_traces}
use Rattle.kernel_state.specs.Kernel.{Kernel, opened}
use Rattle.kernel_leaps.specs.Ran.{kernel_trace, ticked_by}
use Rattle.tool_answers.specs.Answer.{closing_lines}

-- it is the trace of the machine over the trees of the script
pub opened_text : (k : Kernel) (script : Script) (n : ℕ) → k ≡ opened script → kernel_trace k n ≡ trace script n
opened_text k script n is = ap (λ (s : Kernel). kernel_trace s n) is ∙ flat_traces script n

-- it is as busy as that machine
pub opened_busy : (k : Kernel) (script : Script) (n : ℕ) → k ≡ opened script → busy (flat_bodies k.code) k.machine 0 n ≡ busy_between script 0 n
opened_busy k script n is =
    ap (λ (s : Kernel). busy (flat_bodies s.code) s.machine 0 n) is ∙ busy_over (carry script) script (flat_bodies (code_of script)) (flat_agrees script) 0 n

-- after n ticks its closing lines are those of that machine
pub opened_closing : (k : Kernel) (script : Script) (n : ℕ) → k ≡ opened script → closing (ticked_by n k).names (ticked_by n k).machine ≡ closing_lines script n
opened_closing k script n is =
    ap (λ (s : Kernel). closing (ticked_by n s).names (ticked_by n s).machine) is
    ∙ (ap (λ (r : Ran Cursor). closing (names_of script) r.machine) (runs_carry (carry script) (bodies_of script) (flat_bodies (code_of script)) (flat_agrees script) script n)
    ∙ closing_carries (carry script) (names_of script) (ticks (bodies_of script) n (opening script)).machine)
