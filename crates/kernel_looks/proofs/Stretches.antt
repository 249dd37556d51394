-- A look over facts that tell the same as last.
use Rattle.std.proofs.Common.{◌≡◌, ◌∙◌, ◌+◌, ◌<◌, ◌≤◌, List, [], ◌∷◌, ap, arith, false, subst, suc, sym, true, zero, ℕ}
use Rattle.std.specs.Prelude.{is_some, slice_index_or}
use Rattle.words_script.specs.declared.decl.Decl.{Decl}
use Rattle.parts_texts.specs.Texts.{Next}
use Rattle.rules_facts.specs.Fact.{Fact}
use Rattle.kernel_texts.specs.Lines.{fact_text}
use Rattle.kernel_texts.specs.Kept.{kept_below}
use Rattle.kernel_seen.specs.FactSeen.{IsMemoryOf, IsOf, fact_seen, may_tell}
use Rattle.kernel_seen.specs.declared.fact_seen.FactSeen.{FactSeen}
use Rattle.kernel_seen.specs.declared.fact_seen.FactSeen.TheVariants as seen
use Rattle.kernel_looks.specs.Ahead.{IsStretch, IsToldAt, past}
use Rattle.kernel_looks.specs.Desk.{WentOn}
use Rattle.kernel_looks.specs.Nothing.{TellsNothing}
use Rattle.kernel_looks.specs.declared.ahead.Stretch.{Stretch}
use Rattle.kernel_looks.specs.declared.desk.Desk.{Desk}
use Rattle.kernel_looks.proofs.FactsSeen.{told_here}
use Rattle.kernel_looks.proofs.Looking.{went_none}
use Rattle.kernel_looks.proofs.NothingTold.{nothing_short}
use Rattle.kernel_looks.proofs.Runs.{run_over}

-- a stretch of no fact
pub past_none : (d : Desk) (r : Stretch) → r.same ≡ 0 → past r d ≡ d
past_none d r none = let here : d.at + r.same ≡ d.at = omega (arith, none) in ap (λ (n : ℕ). record d { at = n }) here

-- past a stretch another fact was gone over, and a new stretch begins
pub ahead_other : (one two : Next) (d m e : Desk) (r s : Stretch) (due : List (List ℕ)) → m ≡ past r d → s.same ≡ 0 → WentOn one two m e due → WentOn one two (past r d) (past s e) due
ahead_other one two d m e r s due is none went =
    subst (λ (x : Desk). WentOn one two x (past s e) due) is (subst (λ (x : Desk). WentOn one two m x due) (sym (past_none e s none)) went)

pub past_memory : (decls : List Decl) (d m : Desk) (r : Stretch) → m ≡ past r d → IsMemoryOf decls d.told.texts d.seen → IsMemoryOf decls m.told.texts m.seen
past_memory decls d m r is h = subst (λ (x : Desk). IsMemoryOf decls x.told.texts x.seen) (sym is) h

-- nothing is told, as it was
pub still_nothing : (d : Desk) (at : ℕ) (f : Fact) → TellsNothing f → slice_index_or d.told.texts at [] ≡ [] → IsToldAt at d f
still_nothing d at f none was decls h = record { told = was ∙ sym (none decls); short = nothing_short decls f (none decls) }

-- nothing is told, as the bit shows
pub still_quiet : (d : Desk) (at : ℕ) (f : Fact) → TellsNothing f → may_tell at d.seen.busy ≡ false → IsToldAt at d f
still_quiet d at f none off decls h = record { told = h.quiet at off ∙ sym (none decls); short = nothing_short decls f (none decls) }

-- what was seen is told
pub still_seen : (d : Desk) (at : ℕ) (key : FactSeen) (f : Fact) → slice_index_or d.seen.facts at seen.Unseen ≡ key → is_some (fact_seen key) ≡ true → IsOf f (fact_seen key) → IsToldAt at d f
still_seen d at key f same some is decls h = told_here decls (record d { at = at }) key f same some is h

-- so many facts behind a stretch tell the same as last
pub skip_told : (one : Next) (d : Desk) (r s : Stretch) (f : ℕ → List ℕ) (n : ℕ) → IsStretch r d → r.same + n ≤ r.places → s ≡ record r { same = r.same + n }
    → ((k : ℕ) → k < n → slice_index_or d.told.texts (d.at + (r.same + k)) [] ≡ f k) → WentOn one one (past r d) (past s d) (kept_below (λ (i : ℕ). f i ∷ []) n)
skip_told one d r s f zero stretch few is same =
    let here : d.at + (r.same + 0) ≡ d.at + r.same = omega arith in
    subst (λ (x : Desk). WentOn one one (past r d) x []) (sym (ap (λ (q : Stretch). past q d) is ∙ ap (λ (n : ℕ). record d { at = n }) here)) (went_none one (past r d))
skip_told one d r s f (suc n) stretch few is same =
    let last = stretch.places.told (r.same + n) (omega (arith, few)) in
    let subject = stretch.places.subjects (r.same + n) (omega (arith, few)) in
    let there : d.at + (r.same + suc n) ≡ d.at + r.same + suc n = omega arith in
    run_over one f (suc n) (past r d) (past s d)
    (λ i low. let at : d.at + r.same + i ≡ d.at + (r.same + i) = omega arith in ap (λ (k : ℕ). slice_index_or d.told.texts k []) at ∙ same i low)
    (omega (arith, last)) (omega (arith, subject)) (ap (λ (q : Stretch). past q d) is ∙ ap (λ (n : ℕ). record d { at = n }) there)

-- the same of facts
pub skip_facts : (one : Next) (d : Desk) (r s : Stretch) (f : ℕ → Fact) (n : ℕ) → IsStretch r d → r.same + n ≤ r.places → s ≡ record r { same = r.same + n }
    → ((k : ℕ) → k < n → IsToldAt (d.at + (r.same + k)) d (f k)) → (decls : List Decl) → IsMemoryOf decls d.told.texts d.seen
    → WentOn one one (past r d) (past s d) (kept_below (λ (i : ℕ). fact_text decls (f i) ∷ []) n)
skip_facts one d r s f n stretch few is told decls h =
    skip_told one d r s (λ (k : ℕ). fact_text decls (f k)) n stretch few is (λ k low. let here = told k low decls h in here.told)

pub stretch_skipped : (d : Desk) (r s : Stretch) (n : ℕ) → IsStretch r d → r.same + n ≤ r.places → s ≡ record r { same = r.same + n } → IsStretch s d
stretch_skipped d r s n stretch few is = subst (λ (q : Stretch). IsStretch q d) (sym is) (record { within = few; places = stretch.places })
