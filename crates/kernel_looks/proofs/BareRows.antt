-- Rows of threads that have nothing about them.
use Rattle.std.proofs.Common.{◌≡◌, ◌∙◌, ◌*◌, ◌<◌, List, ◌++◌, ap, append_assoc, arith, false, length, refl, sym, true, ℕ}
use Rattle.words_script.specs.declared.decl.Decl.{Decl}
use Rattle.rules_machine.specs.State.{Machine}
use Rattle.kernel_texts.specs.Lines.{fact_text}
use Rattle.kernel_texts.specs.Rows.{thread_fact_of}
use Rattle.kernel_texts.specs.declared.rows.ThreadRow.{ThreadRow}
use Rattle.kernel_texts.specs.declared.rows.ThreadRow.TheVariants as thread
use Rattle.kernel_texts.specs.Kept.{thread_row_kept}
use Rattle.kernel_looks.specs.Nothings.{inner_rows_kept, is_inner, nothings}
use Rattle.kernel_looks.specs.Nothing.{TellsNothing, is_status}
use Rattle.kernel_looks.proofs.Runs.{kept_nothing, nothings_sum}

pub inner_other : (row : ThreadRow) → is_inner row ≡ true → is_status row ≡ false
inner_other thread.Status e = absurd (cc)
inner_other thread.Frames e = refl
inner_other thread.Mask e = refl
inner_other thread.Cancelability e = refl
inner_other thread.Cleanups e = refl
inner_other thread.Pending e = absurd (cc)

-- what holds of each inner row
pub each_inner : (P : ThreadRow → Type 0) → P thread.Frames → P thread.Mask → P thread.Cancelability → P thread.Cleanups → (row : ThreadRow) → is_inner row ≡ true → P row
each_inner P frames mask cancelability cleanups thread.Status e = absurd (cc)
each_inner P frames mask cancelability cleanups thread.Frames e = frames
each_inner P frames mask cancelability cleanups thread.Mask e = mask
each_inner P frames mask cancelability cleanups thread.Cancelability e = cancelability
each_inner P frames mask cancelability cleanups thread.Cleanups e = cleanups
each_inner P frames mask cancelability cleanups thread.Pending e = absurd (cc)

-- four rows behind another one
pub four_behind : (s f m c l : List (List ℕ)) → s ++ (((f ++ m) ++ c) ++ l) ≡ (((s ++ f) ++ m) ++ c) ++ l
four_behind s f m c l =
    sym (append_assoc s ((f ++ m) ++ c) l)
    ∙ ap (λ (x : List (List ℕ)). x ++ l) (sym (append_assoc s (f ++ m) c) ∙ ap (λ (x : List (List ℕ)). x ++ c) (sym (append_assoc s f m)))

pub bare_rows : {P : Type 0} (decls : List Decl) (m : Machine P) → ((row : ThreadRow) → is_inner row ≡ true → (t : ℕ) → t < length m.threads → TellsNothing (thread_fact_of row m t))
    → inner_rows_kept decls m ≡ nothings (4 * length m.threads)
bare_rows decls m h =
    let n = length m.threads in
    let row = λ (r : ThreadRow) (inner : is_inner r ≡ true). kept_nothing (λ (t : ℕ). fact_text decls (thread_fact_of r m t)) n (λ t low. h r inner t low decls) in
    ap (λ (x : List (List ℕ)). ((x ++ thread_row_kept decls thread.Mask m) ++ thread_row_kept decls thread.Cancelability m) ++ thread_row_kept decls thread.Cleanups m) (row thread.Frames refl)
    ∙ ap (λ (x : List (List ℕ)). ((nothings n ++ x) ++ thread_row_kept decls thread.Cancelability m) ++ thread_row_kept decls thread.Cleanups m) (row thread.Mask refl)
    ∙ ap (λ (x : List (List ℕ)). ((nothings n ++ nothings n) ++ x) ++ thread_row_kept decls thread.Cleanups m) (row thread.Cancelability refl)
    ∙ ap (λ (x : List (List ℕ)). ((nothings n ++ nothings n) ++ nothings n) ++ x) (row thread.Cleanups refl)
    ∙ ap (λ (x : List (List ℕ)). (x ++ nothings n) ++ nothings n) (sym (nothings_sum n n (2 * n) (omega arith)))
    ∙ ap (λ (x : List (List ℕ)). x ++ nothings n) (sym (nothings_sum (2 * n) n (3 * n) (omega arith)))
    ∙ sym (nothings_sum (3 * n) n (4 * n) (omega arith))
