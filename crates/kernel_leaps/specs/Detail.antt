-- What `detail` has told of a run, leap by leap. All of it is this project's own.
use Rattle.std.specs.Prelude.{Bool, List, None, Option, false, length, not, suc, true, ℕ, ◌+◌, ◌-◌, ◌*◌, ◌&&◌, ◌++◌, ◌<◌, ◌≤◌, ◌≡◌, if◌then◌else◌}
use Rattle.words_script.specs.declared.decl.Script.{Script}
use Rattle.rules_bodies.specs.Next.{Place}
use Rattle.rules_machine.specs.Declarations.{actions_of}
use Rattle.rules_machine.specs.DueItems.{next_item}
use Rattle.rules_machine.specs.Eventful.{has_item, next_tick_matters}
use Rattle.rules_machine.specs.Machine.{run}
use Rattle.rules_machine.specs.Runs.{opening, ticks}
use Rattle.rules_flat_code.specs.FlatBodies.{code_of, flat_bodies}
use Rattle.rules_leaps.specs.Leap.{in_leaps}
use Rattle.rules_facts.specs.Detail.{machine_before}
use Rattle.rules_facts.specs.Facts.{facts}
use Rattle.rules_facts.specs.Shown.{shown_machine}
use Rattle.laws_detail.specs.Looks.{told_until}
use Rattle.script_printer.specs.Puts.{Put, outlet}
use Rattle.kernel_texts.specs.Changed.{HaveSameSubjects}
use Rattle.kernel_texts.specs.Kept.{texts_of}
use Rattle.kernel_texts.specs.Subjects.{subjects_of}
use Rattle.kernel_looks.specs.Desk.{HasDeskRooms, IsReady}
use Rattle.kernel_state.specs.Kernel.{Kernel, opened}
use Rattle.kernel_settling.specs.Stood.{StoodRight}
use Rattle.kernel_leaps.specs.Ran.{ticked_by}
use Rattle.kernel_leaps.specs.declared.fact_texts.FactTexts.{FactTexts}
use Rattle.kernel_leaps.specs.declared.detail.Reached.{Reached}

-- all that is told of a run of so many ticks before its closing lines
abbrev pub told_by : Script → ℕ → List ℕ
told_by script n = let done = run script n in told_until script done.events done.machine.now

-- The text due was written to a sink behind what it had, or a part of it and then a write failed.
abbrev pub Writes : {K : Type 0} → (K → Option (List ℕ)) → (K → ℕ) → K → K → Bool → List ℕ → Type 0
Writes text faults before after failed due = Put (outlet text faults false before) (outlet text faults failed after) due

-- What is told of a run to one instant and not to an earlier one was written behind what is told of it to that.
pub record GoesOn {K : Type 0} (text : K → Option (List ℕ)) (faults : K → ℕ) (script : Script) (n later : ℕ) (before after : K) (failed : Bool) : Type 0 where
  pub due : List ℕ
  pub told : told_by script later ≡ told_by script n ++ due
  pub writes : Writes text faults before after failed due

-- The tick that led to an instant of a run neither completed a unit nor used up an interval or a capacity.
pub record IsAfterQuietTick (script : Script) (n : ℕ) : Type 0 where
  pub before : ℕ
  pub is : n ≡ suc before
  pub quiet : next_tick_matters (flat_bodies (code_of script)) (ticks (flat_bodies (code_of script)) before (opening script)).machine ≡ false

-- Where nothing is due at an instant of a run, its facts are those before it.
abbrev pub StayIfIdle : Script → ℕ → Type 0
StayIfIdle script n = next_item (ticks (flat_bodies (code_of script)) n (opening script)).machine ≡ None
    → facts script (shown_machine script n) ≡ facts script (machine_before script n)

-- ---- the texts of the facts

-- No text was without room, and the rooms are as large as the facts of the script's run need.
pub record HaveRoomsFor (script : Script) (t : FactTexts) : Type 0 where
  pub desk : HasDeskRooms script t.next.room t.desk

-- and there is a subject for each of them
pub record AreReady (script : Script) (t : FactTexts) : Type 0 where
  pub desk : IsReady script t.next.room t.desk

-- The texts are those of the facts before an instant of a run, and of the subjects of all facts, in rooms for each later one.
pub record AreBefore (script : Script) (n : ℕ) (t : FactTexts) : Type 0 where
  pub subjects : t.desk.subjects.texts ≡ subjects_of script.decls (facts script (machine_before script n))
  pub told : t.desk.told.texts ≡ texts_of script.decls (facts script (machine_before script n))
  -- which are those of the opening state
  pub same : HaveSameSubjects script.decls (facts script (machine_before script n)) (facts script (opening {P = Place} script))
  pub signals : length (actions_of script) ≡ 32
  pub ready : AreReady script t
  -- and where they are steady, they are those of the facts at it too, unless something is due there
  pub steady : t.are_steady ≡ true → StayIfIdle script n

-- ---- how many steps are left

-- the leaps that are left of a run to its horizon
abbrev pub leaps_left : Script → Reached → ℕ
leaps_left script at = (in_leaps (flat_bodies (code_of script)) at.left (ticks (flat_bodies (code_of script)) at.done (opening script)).machine).count

-- whether the first tick of a leap was told, and its rest comes
abbrev pub is_rest : Script → Reached → Bool
is_rest script at = at.is_quiet && not (has_item (ticks (flat_bodies (code_of script)) at.done (opening script)).machine)

-- two for each leap, of which one was made where the first tick was told
abbrev pub steps_left : Script → Reached → ℕ
steps_left script at = 2 * leaps_left script at - (if is_rest script at then 1 else 0)

-- ---- one leap

-- The telling of a run stops at a failed write, on the way to a later instant.
pub record Stops {K : Type 0} (text : K → Option (List ℕ)) (faults : K → ℕ) (script : Script) (old : Reached) (before after : K) : Type 0 where
  pub later : ℕ
  pub within : later ≤ old.done + old.left
  pub on : GoesOn text faults script old.done later before after true

-- A run was told from one instant to a later one.
pub record HasGoneOn {K : Type 0} (text : K → Option (List ℕ)) (faults : K → ℕ) (script : Script) (old new : Reached) (p : Kernel) (t : FactTexts) (before after : K) : Type 0 where
  pub later : old.done < new.done
  pub all : new.done + new.left ≡ old.done + old.left
  pub state : p ≡ ticked_by new.done (opened script)
  pub stood : StoodRight p.machine
  pub told : GoesOn text faults script old.done new.done before after false
  pub facts : p.machine.killed ≡ None → AreBefore script new.done t
  pub quiet : new.is_quiet ≡ true → IsAfterQuietTick script new.done
