-- The next serial of a run, which the laws of the kernel bound over flat code.
use Rattle.std.proofs.Common.{◌≡◌, ◌≤◌, ◌<◌, ◌^◌, ℕ, List, Ok, ap, arith}
use Rattle.words_script.specs.declared.decl.Script.{Script}
use Rattle.rules_bodies.specs.declared.cursor.Cursor.{Cursor}
use Rattle.script_table.specs.Table.{patterns}
use Rattle.script_table.specs.Read.{read}
use Rattle.rules_machine.specs.Machine.{bodies_of, machine}
use Rattle.rules_machine.specs.Runs.{Ran, opening, ticks}
use Rattle.laws_places.proofs.CarriedTrace.{runs_carry}
use Rattle.rules_flat_code.specs.FlatBodies.{code_of, flat_bodies}
use Rattle.laws_flat_code.specs.Places.{carry}
use Rattle.laws_flat_code.proofs.Agrees.{flat_agrees}
use Rattle.laws_bounds.proofs.Runnable.{accepted_can_be_run}
use Rattle.laws_accepted.proofs.Reading.{accepted_is_well_formed}
use Rattle.laws_kernel.proofs.Kept.{states_fit}
use Rattle.laws_numbers.proofs.Spelled.{accepted_numbers}

pub serial_small : (bytes : List ℕ) (script : Script) (n : ℕ) → read patterns bytes ≡ Ok script → n ≤ 10 ^ 18 → (machine script n).next_serial < 2 ^ 63
serial_small bytes script n e most =
    let same = runs_carry (carry script) (bodies_of script) (flat_bodies (code_of script)) (flat_agrees script) script n in
    let serials : (ticks (flat_bodies (code_of script)) n (opening script)).machine.next_serial ≡ (machine script n).next_serial = ap (λ (r : Ran Cursor). r.machine.next_serial) same in
    let times : (ticks (flat_bodies (code_of script)) n (opening script)).machine.now ≡ (machine script n).now = ap (λ (r : Ran Cursor). r.machine.now) same in
    let early = (accepted_numbers bytes script n e most).early in
    let fits = (states_fit script (accepted_can_be_run bytes script e) (accepted_is_well_formed bytes script e)).each n 0 in
    let small = fits.serial (omega (arith, times, early, most)) in
    omega (arith, small, serials)
