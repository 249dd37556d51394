-- What was seen of facts last, and the texts that tell it.
use Rattle.std.proofs.Common.{◌≡◌, ◌≢◌, ◌∙◌, ◌<◌, ◌≤◌, ◌⊎◌, Bool, List, None, Option, Some, [], ◌∷◌, ap, append-nil, arith, false, inl, inr, length, refl, subst, suc, sym, true, zero, ℕ}
use Rattle.std.specs.Prelude.{is_some, replicate, slice_index_or, slice_set, ◌==◌}
use Rattle.std.proofs.lemmas.List.{get_or-replicate, get_or-set_other, get_or-set_same, get_or_past, length-replicate, set_past}
use Rattle.words_script.specs.declared.decl.Decl.{Decl}
use Rattle.parts_texts.specs.Slots.{no_texts}
use Rattle.parts_texts.specs.Texts.{Next}
use Rattle.rules_facts.specs.Fact.{Fact}
use Rattle.kernel_texts.specs.Lines.{fact_text, facts_text}
use Rattle.kernel_texts.specs.Short.{HasShortText, HaveShortTexts}
use Rattle.kernel_seen.specs.FactSeen.{AreSameElse, IsMemoryOf, IsOf, IsOnlyOf, Memory, TellsIfAny, TellsShortly, fact_seen, may_tell, no_memory}
use Rattle.kernel_seen.specs.declared.fact_seen.FactSeen.{FactSeen}
use Rattle.kernel_seen.specs.declared.fact_seen.FactSeen.TheVariants as seen
use Rattle.kernel_looks.specs.Desk.{HasSpace, Looked, Went, WentOn}
use Rattle.kernel_looks.specs.declared.desk.Desk.{Desk}

-- ---- one fact

module _ (decls : List Decl) where
  by_seen : (text : List ℕ) (f : Fact) (key : Option Fact) → is_some key ≡ true → IsOf f key → TellsIfAny decls key text → TellsShortly decls text f
  by_seen text f None e is h = absurd (cc)
  by_seen text f (Some g) e is h = subst (TellsShortly decls text) is h

  -- what was seen of the fact that comes is told there
  pub told_here : (d : Desk) (key : FactSeen) (f : Fact) → slice_index_or d.seen.facts d.at seen.Unseen ≡ key → is_some (fact_seen key) ≡ true → IsOf f (fact_seen key) → IsMemoryOf decls d.told.texts d.seen
      → TellsShortly decls (slice_index_or d.told.texts d.at []) f
  told_here d key f same some is h =
      by_seen (slice_index_or d.told.texts d.at []) f (fact_seen key) some is
      (subst (λ (k : FactSeen). TellsIfAny decls (fact_seen k) (slice_index_or d.told.texts d.at [])) same (h.told d.at))

  -- a text that tells a fact tells what is seen of it
  pub tells_seen : (text : List ℕ) (f : Fact) (key : Option Fact) → IsOf f key → text ≡ fact_text decls f → HasShortText decls f → TellsIfAny decls key text
  tells_seen text f None is told short = tt
  tells_seen text f (Some g) is told short = subst (TellsShortly decls text) (sym is) (record { told = told; short = short })

  -- the same of the only one of some facts
  pub record TellShortly (text : List ℕ) (facts : List Fact) : Type 0 where
    pub told : text ≡ facts_text decls facts
    pub short : HaveShortTexts decls facts

  by_only : (text : List ℕ) (facts : List Fact) (key : Option Fact) → is_some key ≡ true → IsOnlyOf facts key → TellsIfAny decls key text → TellShortly text facts
  by_only text facts None e is h = absurd (cc)
  by_only text facts (Some g) e is h = subst (TellShortly text) is (record { told = h.told ∙ sym (append-nil (fact_text decls g)); short = (h.short, tt) })

  pub only_here : (d : Desk) (key : FactSeen) (facts : List Fact) → slice_index_or d.seen.facts d.at seen.Unseen ≡ key → is_some (fact_seen key) ≡ true → IsOnlyOf facts (fact_seen key) → IsMemoryOf decls d.told.texts d.seen
      → TellShortly (slice_index_or d.told.texts d.at []) facts
  only_here d key facts same some is h =
      by_only (slice_index_or d.told.texts d.at []) facts (fact_seen key) some is
      (subst (λ (k : FactSeen). TellsIfAny decls (fact_seen k) (slice_index_or d.told.texts d.at [])) same (h.told d.at))

  of_one : (text : List ℕ) (g : Fact) → TellShortly text (g ∷ []) → TellsShortly decls text g
  of_one text g h = record { told = h.told ∙ append-nil (fact_text decls g); short = h.short.0 }

  pub tells_only : (text : List ℕ) (facts : List Fact) (key : Option Fact) → IsOnlyOf facts key → text ≡ facts_text decls facts → HaveShortTexts decls facts → TellsIfAny decls key text
  tells_only text facts None is told short = tt
  tells_only text facts (Some g) is told short = of_one text g (subst (TellShortly text) (sym is) (record { told = told; short = short }))

-- a look over one of which the same is told
pub went_on_same : (one : Next) (a b : Desk) (text due : List ℕ) → text ≡ due → Went a b (text ∷ []) → WentOn one one a b (due ∷ [])
went_on_same one a b text due same went = record {
  before = went.before;
  looked = λ e. subst (λ (t : List ℕ). Looked a b (t ∷ [])) same (went.looked e);
  same = went.same;
  same_room = refl;
  roomy = λ space. went.roomy one.room (subst (λ (t : List ℕ). HasSpace one.room a (t ∷ [])) (sym same) space);
}

-- ---- the memory

within : (i n : ℕ) → (i < n) ⊎ (n ≤ i)
within i n = grind arith

apart : (i k : ℕ) → (i ≡ k) ⊎ ((i < k) ⊎ (k < i))
apart i k = grind arith

unlike : (i k : ℕ) → (i < k) ⊎ (k < i) → i ≢ k
unlike i k (inl less) e = omega (arith, e, less)
unlike i k (inr more) e = omega (arith, e, more)

clash : (v : Bool) → v ≡ true → v ≡ false → ⊥
clash v on off = cc

no_length : (x : ℕ) (xs : List ℕ) → (length (x ∷ xs) == 0) ≡ false
no_length x xs = grind arith

-- a text that was seen to be empty
pub none_there : (text : List ℕ) (b : Bool) → b ≡ (length text == 0) → b ≡ true → text ≡ []
none_there [] b is e = refl
none_there (x ∷ xs) b is e = absurd (clash b e (is ∙ no_length x xs))

-- what is put is read there, or nothing is
module _ {X : Type 0} (xs : List X) (at : ℕ) (x d : X) where
  put_other : (i : ℕ) → (i < at) ⊎ (at < i) → slice_index_or (slice_set xs at x) i d ≡ slice_index_or xs i d
  put_other i (inl less) = get_or-set_other xs at i x d (λ e. omega (arith, e, less))
  put_other i (inr more) = get_or-set_other xs at i x d (λ e. omega (arith, e, more))

  put_here : (at < length xs) ⊎ (length xs ≤ at) → (slice_index_or (slice_set xs at x) at d ≡ x) ⊎ (slice_index_or (slice_set xs at x) at d ≡ d)
  put_here (inl place) = inl (get_or-set_same xs at x d place)
  put_here (inr none) = inr (ap (λ (ys : List X). slice_index_or ys at d) (set_past xs at x none) ∙ get_or_past xs at d none)

module _ (decls : List Decl) (texts : List (List ℕ)) (m n : Memory) (at : ℕ) (key : FactSeen) (text : List ℕ) (place : at < length texts)
    (facts : n.facts ≡ slice_set m.facts at key) (none : may_tell at n.busy ≡ false → text ≡ []) (others : AreSameElse at m.busy n.busy) (h : IsMemoryOf decls texts m) (tells : TellsIfAny decls (fact_seen key) text) where
  told_at : (slice_index_or (slice_set m.facts at key) at seen.Unseen ≡ key) ⊎ (slice_index_or (slice_set m.facts at key) at seen.Unseen ≡ seen.Unseen)
      → TellsIfAny decls (fact_seen (slice_index_or (slice_set m.facts at key) at seen.Unseen)) (slice_index_or (slice_set texts at text) at [])
  told_at (inl is) =
      subst (λ (k : FactSeen). TellsIfAny decls (fact_seen k) (slice_index_or (slice_set texts at text) at [])) (sym is)
      (subst (TellsIfAny decls (fact_seen key)) (sym (get_or-set_same texts at text [] place)) tells)
  told_at (inr none) = subst (λ (k : FactSeen). TellsIfAny decls (fact_seen k) (slice_index_or (slice_set texts at text) at [])) (sym none) tt

  told_by : (i : ℕ) → (i ≡ at) ⊎ ((i < at) ⊎ (at < i)) → TellsIfAny decls (fact_seen (slice_index_or (slice_set m.facts at key) i seen.Unseen)) (slice_index_or (slice_set texts at text) i [])
  told_by i (inl is) =
      subst (λ (j : ℕ). TellsIfAny decls (fact_seen (slice_index_or (slice_set m.facts at key) j seen.Unseen)) (slice_index_or (slice_set texts at text) j [])) (sym is)
      (told_at (put_here m.facts at key seen.Unseen (within at (length m.facts))))
  told_by i (inr other) =
      subst (λ (k : FactSeen). TellsIfAny decls (fact_seen k) (slice_index_or (slice_set texts at text) i [])) (sym (put_other m.facts at key seen.Unseen i other))
      (subst (TellsIfAny decls (fact_seen (slice_index_or m.facts i seen.Unseen))) (sym (put_other texts at text [] i other)) (h.told i))

  quiet_by : (i : ℕ) → (i ≡ at) ⊎ ((i < at) ⊎ (at < i)) → may_tell i n.busy ≡ false → slice_index_or (slice_set texts at text) i [] ≡ []
  quiet_by i (inl is) off =
      ap (λ (j : ℕ). slice_index_or (slice_set texts at text) j []) is ∙ get_or-set_same texts at text [] place ∙ none (subst (λ (j : ℕ). may_tell j n.busy ≡ false) is off)
  quiet_by i (inr other) off = put_other texts at text [] i other ∙ h.quiet i (sym (others i (unlike i at other)) ∙ off)

  -- one text more was put, and what is seen of its fact
  pub memory_put : (ts : List (List ℕ)) (s : Memory) → ts ≡ slice_set texts at text → s ≡ n → IsMemoryOf decls ts s
  memory_put ts s told is =
      subst (λ (xs : List (List ℕ)). IsMemoryOf decls xs s) (sym told)
      (subst (IsMemoryOf decls (slice_set texts at text)) (sym is) (record {
        told = λ i. subst (λ (fs : List FactSeen). TellsIfAny decls (fact_seen (slice_index_or fs i seen.Unseen)) (slice_index_or (slice_set texts at text) i [])) (sym facts) (told_by i (apart i at));
        quiet = λ i off. quiet_by i (apart i at) off;
      }))

-- ---- nothing is seen

read_replicate : {X : Type 0} (n i : ℕ) (x : X) → (i < n) ⊎ (n ≤ i) → slice_index_or (replicate n x) i x ≡ x
read_replicate n i x (inl low) = get_or-replicate n i x x low
read_replicate n i x (inr high) = let long = length-replicate n x in get_or_past (replicate n x) i x (omega (arith, long, high))

none_in : (n i : ℕ) → slice_index_or (no_texts n) i [] ≡ []
none_in zero i = refl
none_in (suc n) zero = refl
none_in (suc n) (suc i) = none_in n i

-- and no text tells anything
pub memory_none : (decls : List Decl) (texts : List (List ℕ)) (n k : ℕ) → texts ≡ no_texts k → IsMemoryOf decls texts (no_memory n)
memory_none decls texts n k none = record {
  told = λ i. subst (λ (k : FactSeen). TellsIfAny decls (fact_seen k) (slice_index_or texts i [])) (sym (read_replicate n i seen.Unseen (within i n))) tt;
  quiet = λ i off. ap (λ (ts : List (List ℕ)). slice_index_or ts i []) none ∙ none_in k i;
}
