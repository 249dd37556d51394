use Rattle.std.proofs.Common.{refl}
use Rattle.laws_versions.proofs.upgraded_scripts_run_alike.Goals as goal

pub returns : goal.returns
returns c script n = record { events_same = refl; closing_same = refl; trace_same = refl }
