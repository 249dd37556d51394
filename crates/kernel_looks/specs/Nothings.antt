-- A look over many facts that tell nothing. This project's own.
use Rattle.std.specs.Prelude.{Bool, List, [], false, true, ℕ, ◌+◌, ◌-◌, ◌∷◌, ◌++◌}
use Rattle.words_script.specs.declared.decl.Decl.{Decl}
use Rattle.parts_texts.specs.Texts.{Next}
use Rattle.rules_lists.specs.Lists.{list_of}
use Rattle.rules_facts.specs.Fact.{Fact, on_list}
use Rattle.rules_machine.specs.State.{Machine}
use Rattle.kernel_texts.specs.Rows.{list_text}
use Rattle.kernel_texts.specs.declared.rows.ThreadRow.{ThreadRow}
use Rattle.kernel_texts.specs.declared.rows.ThreadRow.TheVariants as thread
use Rattle.kernel_texts.specs.Kept.{kept_below, thread_row_kept}
use Rattle.kernel_seen.specs.FactSeen.{IsMemoryOf}
use Rattle.kernel_looks.specs.Desk.{WentOn}
use Rattle.kernel_looks.specs.declared.desk.Desk.{Desk}

-- so many empty texts
abbrev pub nothings : ℕ → List (List ℕ)
nothings count = kept_below (λ (i : ℕ). [] ∷ []) count

-- Where what is seen of facts was told, the look went on, and it is still so.
pub record WentKnown (old new : Desk) (due : List (List ℕ)) : Type 0 where
  pub went : (decls : List Decl) → IsMemoryOf decls old.told.texts old.seen → (one : Next) → WentOn one one old new due
  pub seen : (decls : List Decl) → IsMemoryOf decls old.told.texts old.seen → IsMemoryOf decls new.told.texts new.seen

-- the rows of what a thread has about it but for what its server has planned
abbrev pub is_inner : ThreadRow → Bool
is_inner thread.Status = false
is_inner thread.Frames = true
is_inner thread.Mask = true
is_inner thread.Cancelability = true
is_inner thread.Cleanups = true
is_inner thread.Pending = false

abbrev pub inner_rows_kept : {P : Type 0} → List Decl → Machine P → List (List ℕ)
inner_rows_kept decls m =
    ((thread_row_kept decls thread.Frames m ++ thread_row_kept decls thread.Mask m) ++ thread_row_kept decls thread.Cancelability m) ++ thread_row_kept decls thread.Cleanups m

-- what is told of the list at a place, that of the greatest priority first
abbrev pub list_at : List (List ℕ) → ℕ → Fact
list_at lists i = on_list (255 - i) (list_of (255 - i) lists)

-- so many lists behind some, that of the greatest priority first
abbrev pub lists_from : List Decl → List (List ℕ) → ℕ → ℕ → List (List ℕ)
lists_from decls lists from count = kept_below (λ (i : ℕ). list_text decls 255 lists (from + i) ∷ []) count
