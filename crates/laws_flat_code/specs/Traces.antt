-- What the runs over flat code are, and what they print. All of it is this project's own.
use Rattle.std.specs.Prelude.{◌≡◌, ℕ}
use Rattle.words_script.specs.declared.decl.Script.{Script}
use Rattle.rules_machine.specs.Eventful.{busy}
use Rattle.rules_machine.specs.Machine.{run, trace}
use Rattle.rules_machine.specs.Promises.{busy_between}
use Rattle.rules_machine.specs.Runs.{opening, ticks}
use Rattle.laws_places.specs.Carried.{ran_carried}
use Rattle.laws_places.specs.TextOver.{text_over}
use Rattle.rules_flat_code.specs.FlatBodies.{code_of, flat_bodies}
use Rattle.laws_flat_code.specs.Places.{carry}

abbrev pub FlatTraces : Type 0
FlatTraces = (script : Script) (n : ℕ) → text_over (flat_bodies (code_of script)) script n ≡ trace script n

-- after so many ticks the machine is the script's, but for the places of the frames, and its events are the script's
abbrev pub FlatRuns : Type 0
FlatRuns = (script : Script) (n : ℕ) → ticks (flat_bodies (code_of script)) n (opening script) ≡ ran_carried (carry script) (run script n)

-- so many instants between two others are eventful
abbrev pub FlatBusy : Type 0
FlatBusy = (script : Script) (from to : ℕ) → busy (flat_bodies (code_of script)) (opening script) from to ≡ busy_between script from to
