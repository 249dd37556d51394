-- A script of version 1 runs as before.
use Rattle.std.proofs.Common.{ℕ, ◌≡◌, List, Ok}
use Rattle.words_script.specs.declared.decl.Script.{Script}
use Rattle.script_table.specs.Read.{read}
use Rattle.script_table.specs.Table.{patterns}
use Rattle.rules_bodies.specs.Next.{Place}
use Rattle.rules_machine.specs.Machine.{bodies_of}
use Rattle.rules_machine.specs.Runs.{opening}
use Rattle.rules_moves.proofs.Runs.Units.{bodies_fit}
use Rattle.laws_window.specs.Before.{RunsAsBefore}
use Rattle.laws_window.proofs.AsBefore as before
use Rattle.laws_window.proofs.InWindow.{stands_at}
use Rattle.laws_accepted.proofs.Reading.{accepted_is_well_formed}
use Rattle.laws_versions.proofs.Declared.{bodies_plain, opening_plain}
use Rattle.laws_versions.proofs.FirstVersion.{first_is_plain}

pub runs_as_before : (text : List ℕ) (script : Script) → read patterns text ≡ Ok script → script.version ≡ 1 → RunsAsBefore (bodies_of script) (opening {P = Place} script)
runs_as_before text script e one =
    let fits = accepted_is_well_formed text script e in
    let plain = first_is_plain text script e one in
    let bodies = bodies_fit script fits.priorities in
    before.runs_as_before (bodies_of script) bodies (bodies_plain script plain) (opening script) (stands_at (bodies_of script) bodies script fits) (opening_plain script plain)
