-- Facts that tell the same as last, which a look goes over at once. This project's own.
use Rattle.std.specs.Prelude.{List, [], length, slice_index_or, ℕ, ◌+◌, ◌^◌, ◌∷◌, ◌<◌, ◌≤◌}
use Rattle.words_script.specs.declared.decl.Decl.{Decl}
use Rattle.rules_machine.specs.State.{Machine}
use Rattle.rules_facts.specs.Fact.{Fact}
use Rattle.kernel_texts.specs.Lines.{fact_text}
use Rattle.kernel_texts.specs.Rows.{thread_fact_of}
use Rattle.kernel_texts.specs.declared.rows.ThreadRow.{ThreadRow}
use Rattle.kernel_texts.specs.Kept.{kept_below}
use Rattle.kernel_seen.specs.FactSeen.{IsMemoryOf, TellsShortly}
use Rattle.kernel_looks.specs.declared.ahead.Stretch.{Stretch}
use Rattle.kernel_looks.specs.declared.desk.Desk.{Desk}

-- Each of so many facts that come has a place for what is seen of it, for its text and for its subject.
pub record HavePlaces (d : Desk) (count : ℕ) : Type 0 where
  pub seen : (k : ℕ) → k < count → d.at + k < length d.seen.facts
  pub told : (k : ℕ) → k < count → d.at + k < length d.told.texts
  pub subjects : (k : ℕ) → k < count → d.at + k < length d.subjects.texts
  pub small : d.at + count < 2 ^ 64

-- a stretch of facts from the desk's place on, for which there are places
pub record IsStretch (r : Stretch) (d : Desk) : Type 0 where
  pub within : r.same ≤ r.places
  pub places : HavePlaces d r.places

-- the desk past the facts of a stretch
abbrev pub past : Stretch → Desk → Desk
past r d = record d { at = d.at + r.same }

-- what was told last of the fact at a number tells that fact
abbrev pub IsToldAt : ℕ → Desk → Fact → Type 0
IsToldAt at d f = (decls : List Decl) → IsMemoryOf decls d.told.texts d.seen → TellsShortly decls (slice_index_or d.told.texts at []) f

-- what a row tells of so many threads from a number on
abbrev pub row_from : {P : Type 0} → List Decl → ThreadRow → Machine P → ℕ → ℕ → List (List ℕ)
row_from decls row m from count = kept_below (λ (k : ℕ). fact_text decls (thread_fact_of row m (from + k)) ∷ []) count
