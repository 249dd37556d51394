-- A look at the facts of a state: what was told of each last goes, one by one, and what is told now takes its place. This project's own.
use Rattle.std.specs.Prelude.{Bool, List, decimal, drop, false, length, slice_index_or, sum_by, take, ℕ, ◌+◌, ◌*◌, ◌<◌, ◌≤◌, ◌∷◌, [], ◌++◌, ◌≡◌}
use Rattle.std.specs.List.{AllByRecursion}
use Rattle.words_script.specs.declared.decl.Script.{Script}
use Rattle.parts_texts.specs.Slots.{no_texts}
use Rattle.parts_texts.specs.Texts.{Next}
use Rattle.kernel_texts.specs.Short.{longest_text}
use Rattle.kernel_texts.specs.Changed.{changed_lines}
use Rattle.kernel_texts.specs.Subjects.{AreSubjects}
use Rattle.kernel_texts.specs.Rooms.{HasRooms, facts_told, members_told, no_text}
use Rattle.kernel_texts.specs.declared.rooms.Rooms.{Rooms}
use Rattle.kernel_seen.specs.FactSeen.{IsMemoryOf, no_memory}
use Rattle.kernel_seen.specs.declared.fact_seen.FactSeen.{FactSeen}
use Rattle.kernel_seen.specs.declared.fact_seen.FactSeen.TheVariants as seen
use Rattle.kernel_looks.specs.declared.desk.Desk.{Desk}

-- what the look has still before it: what was told last, and the subjects of that
abbrev pub told_left : Desk → List (List ℕ)
told_left d = drop d.at d.told.texts

abbrev pub subjects_left : Desk → List (List ℕ)
subjects_left d = drop d.at d.subjects.texts

-- what was seen last of the fact that comes
abbrev pub last_seen : Desk → FactSeen
last_seen d = slice_index_or d.seen.facts d.at seen.Unseen

-- The look went on over the facts with these texts: they stand behind those that it had come to, in place of what was told, and the
-- lines of those that change are behind the other lines.
pub record Looked (old new : Desk) (due : List (List ℕ)) : Type 0 where
  pub at : new.at ≡ old.at + length due
  pub front : take new.at new.told.texts ≡ take old.at old.told.texts ++ due
  pub left : told_left new ≡ drop (length due) (told_left old)
  pub lines : new.lines.text ≡ old.lines.text ++ changed_lines old.instant (subjects_left old) (told_left old) due
  pub subjects : new.subjects ≡ old.subjects
  pub instant : new.instant ≡ old.instant

-- the rooms stay
pub record HaveSameSpace (old new : Desk) : Type 0 where
  pub slots : new.told.room ≡ old.told.room
  pub number : length new.told.texts ≡ length old.told.texts
  pub lines : new.lines.room ≡ old.lines.room

-- more bytes than the line of a change has, where its texts are shorter than that
abbrev pub line_room : ℕ → List ℕ → ℕ
line_room one text = one + 22

-- each text and each subject has fewer bytes than the room for one, there is a subject and a place for each text, and room for the lines
pub record HasSpace (one : ℕ) (d : Desk) (due : List (List ℕ)) : Type 0 where
  pub fresh : d.is_full ≡ false
  pub each : AllByRecursion (λ (text : List ℕ). length text < one) due
  pub slots : one ≤ d.told.room
  pub number : d.at + length due ≤ length d.told.texts
  pub subjects : d.at + length due ≤ length d.subjects.texts
  pub short : AllByRecursion (λ (text : List ℕ). length text < one) (subjects_left d)
  pub early : length (decimal d.instant) ≤ 20
  pub bytes : length d.lines.text + sum_by (line_room one) due < d.lines.room

-- The look went on, unless the desk is full; and it is not where there was room.
pub record Went (old new : Desk) (due : List (List ℕ)) : Type 0 where
  pub before : new.is_full ≡ false → old.is_full ≡ false
  pub looked : new.is_full ≡ false → Looked old new due
  pub same : new.is_full ≡ false → HaveSameSpace old new
  pub roomy : (one : ℕ) → HasSpace one old due → new.is_full ≡ false

-- the same, over texts that are each written in the room for one
pub record WentOn (one_old one_new : Next) (old new : Desk) (due : List (List ℕ)) : Type 0 where
  pub before : new.is_full ≡ false → old.is_full ≡ false
  pub looked : new.is_full ≡ false → Looked old new due
  pub same : new.is_full ≡ false → HaveSameSpace old new
  pub same_room : one_new.room ≡ one_old.room
  pub roomy : HasSpace one_old.room old due → new.is_full ≡ false

-- the same over one text, unless a write of it failed; and where one has failed its room is used up
pub record WentOver (one : Next) (failed : Bool) (old new : Desk) : Type 0 where
  pub whole : new.is_full ≡ false → failed ≡ false
  pub before : new.is_full ≡ false → old.is_full ≡ false
  pub looked : new.is_full ≡ false → Looked old new (one.text ∷ [])
  pub same : new.is_full ≡ false → HaveSameSpace old new
  pub roomy : failed ≡ false → (room : ℕ) → HasSpace room old (one.text ∷ []) → new.is_full ≡ false
  pub used : 0 < one.faults → length one.text ≡ one.room

-- ---- a desk that was opened

-- Nothing was told, in rooms of these sizes.
pub record IsOpened (rooms : Rooms) (bytes : ℕ) (d : Desk) : Type 0 where
  pub subjects : d.subjects ≡ no_text rooms
  pub told : d.told ≡ record { texts = no_texts rooms.most; room = rooms.longest }
  pub seen : d.seen ≡ no_memory rooms.most
  pub lines : d.lines ≡ record { text = []; room = bytes; faults = 0 }
  pub is_full : d.is_full ≡ false

-- ---- a desk of a run

-- No text or line was without room, and the rooms are as large as the facts of the script's run need: one for each fact, one for their
-- subjects, and one for the lines of all.
pub record HasDeskRooms (script : Script) (one : ℕ) (d : Desk) : Type 0 where
  pub fresh : d.is_full ≡ false
  pub long : longest_text (members_told script) ≤ one
  pub slots : one ≤ d.told.room
  pub number : length d.told.texts ≡ facts_told script
  pub lines : facts_told script * (one + 22) < d.lines.room
  pub seen : IsMemoryOf script.decls d.told.texts d.seen
  pub subjects : HasRooms script one d.subjects

pub record IsReady (script : Script) (one : ℕ) (d : Desk) : Type 0 where
  pub rooms : HasDeskRooms script one d
  pub subjects : AreSubjects script one d.subjects.texts
