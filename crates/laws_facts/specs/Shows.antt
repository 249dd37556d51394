-- What is shown of a run over any places. All of it is this project's own.
use Rattle.std.specs.Prelude.{List, ℕ, ◌≡◌}
use Rattle.words_script.specs.declared.decl.Script.{Script}
use Rattle.rules_bodies.specs.Next.{Place}
use Rattle.rules_machine.specs.Bodies.{Bodies}
use Rattle.rules_machine.specs.Runs.{opening, tick_begun, ticks}
use Rattle.rules_machine.specs.State.{Machine}
use Rattle.rules_facts.specs.Facts.{facts}
use Rattle.rules_facts.specs.Shown.{once_ended, shown, state_text}
use Rattle.rules_flat_code.specs.FlatBodies.{code_of, flat_bodies}
use Rattle.laws_places.specs.Carried.{machine_carried}
use Rattle.laws_flat_code.specs.Places.{carry}

-- of a machine at an instant, the one that is shown: with the items of the instant handled, and without the record that ended it
abbrev pub shown_of : {P : Type 0} → Bodies P → Machine P → Machine P
shown_of bodies m = let ready = (tick_begun bodies m).machine in once_ended ready.killed ready

-- the text of the instant that so many ticks lead to
abbrev pub shown_over : {P : Type 0} → Bodies P → Script → ℕ → List ℕ
shown_over bodies script n = state_text script (shown_of bodies (ticks bodies n (opening script)).machine)

abbrev pub FlatShows : Type 0
FlatShows = (script : Script) (n : ℕ) → shown_over (flat_bodies (code_of script)) script n ≡ shown script n

-- nothing that is told of a machine is a place
abbrev pub TellsNoPlace : Script → Machine Place → Type 0
TellsNoPlace script m = facts script (machine_carried (carry script) m) ≡ facts script m
