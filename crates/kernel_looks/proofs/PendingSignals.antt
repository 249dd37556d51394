-- Signals that have no pending record.
use Rattle.std.proofs.Common.{◌≡◌, ◌∙◌, ◌<◌, ◌≤◌, ◌⊎◌, ◌==◌, ⊎_elim, Bool, List, Option, Some, [], ◌∷◌, ap, arith, false, filter, inl, inr, length, map, not, refl, subst, suc, take, true, ℕ}
use Rattle.std.specs.Prelude.{if◌then◌else◌, slice_get, slice_index_or, slice_set}
use Rattle.std.proofs.lemmas.Bool.Decides.{nat_tests}
use Rattle.std.proofs.lemmas.List.{get_or-set_other, get_or-set_same, set_past}
use Rattle.parts_links.proofs.Chains.{decide}
use Rattle.rules_machine.specs.State.{Machine, SignalRecord}
use Rattle.rules_facts.specs.Fact.{pending_signals}
use Rattle.rules_facts.specs.Signals.{pending_of, signal_fact}
use Rattle.kernel_texts.specs.Lines.{fact_text}
use Rattle.kernel_texts.specs.Picked.{is_left_out, left_in}
use Rattle.kernel_texts.proofs.ShortFacts.{all_more}
use Rattle.kernel_looks.specs.Nothing.{TellsNothing}
use Rattle.kernel_looks.specs.PendingSignals.{AreMarked}

apart : (i k : ℕ) → (i ≡ k) ⊎ ((i < k) ⊎ (k < i))
apart i k = grind arith

within : (i n : ℕ) → (i < n) ⊎ (n ≤ i)
within i n = grind arith

-- ---- one mark more

module _ (marked : List Bool) (at : ℕ) where
  stays : (c : ℕ) → (c ≡ at) ⊎ ((c < at) ⊎ (at < c)) → (at < length marked) ⊎ (length marked ≤ at) → slice_index_or marked c false ≡ true → slice_index_or (slice_set marked at true) c false ≡ true
  stays c (inl is) (inl low) on = ap (λ (j : ℕ). slice_index_or (slice_set marked at true) j false) is ∙ get_or-set_same marked at true false low
  stays c (inl is) (inr high) on = ap (λ (bs : List Bool). slice_index_or bs c false) (set_past marked at true high) ∙ on
  stays c (inr (inl less)) any on = get_or-set_other marked at c true false (λ e. omega (arith, e, less)) ∙ on
  stays c (inr (inr more)) any on = get_or-set_other marked at c true false (λ e. omega (arith, e, more)) ∙ on

  marks_stay : (records : List SignalRecord) → AreMarked marked records → AreMarked (slice_set marked at true) records
  marks_stay [] all = tt
  marks_stay (r ∷ records) all = (λ low. stays r.signal (apart r.signal at) (within at (length marked)) (all.0 low), marks_stay records all.1)

-- with the mark of the record that comes
pub mark_more : (marked : List Bool) (records : List SignalRecord) (k : ℕ) (r : SignalRecord) → length marked ≡ 32 → Some r ≡ slice_get records k → AreMarked marked (take k records)
    → AreMarked (slice_set marked r.signal true) (take (suc k) records)
mark_more marked records k r long is all =
    all_more (λ (x : SignalRecord). x.signal < 32 → slice_index_or (slice_set marked r.signal true) x.signal false ≡ true) records k r is (marks_stay marked r.signal (take k records) all)
    (λ low. get_or-set_same marked r.signal true false (omega (arith, long, low)))

-- ---- a signal that is not marked

keep_in : {X : Type 0} (p : X → Bool) (x : X) (xs : List X) → p x ≡ true → filter p (x ∷ xs) ≡ x ∷ filter p xs
keep_in p x xs e = ap (λ (b : Bool). if b then x ∷ filter p xs else filter p xs) e

keep_out : {X : Type 0} (p : X → Bool) (x : X) (xs : List X) → p x ≡ false → filter p (x ∷ xs) ≡ filter p xs
keep_out p x xs e = ap (λ (b : Bool). if b then x ∷ filter p xs else filter p xs) e

clash : (v : Bool) → v ≡ true → v ≡ false → ⊥
clash v on off = cc

another : (s : ℕ) (r : SignalRecord) → (r.signal ≡ s → ⊥) → (r.signal == s) ≡ false
another s r e = grind (arith, nat_tests)

module _ (marked : List Bool) (s : ℕ) (low : s < 32) (off : slice_index_or marked s false ≡ false) where
  not_of : (r : SignalRecord) → (r.signal < 32 → slice_index_or marked r.signal false ≡ true) → r.signal ≡ s → ⊥
  not_of r on is = clash (slice_index_or marked s false) (subst (λ (k : ℕ). k < 32 → slice_index_or marked k false ≡ true) is on low) off

  none_of : (q : SignalRecord → Bool) (records : List SignalRecord) → AreMarked marked records → filter (λ (r : SignalRecord). r.signal == s) (filter q records) ≡ []
  none_of q [] all = refl
  none_of q (r ∷ records) all = ⊎_elim
      (λ e. ap (filter (λ (x : SignalRecord). x.signal == s)) (keep_in q r records e)
      ∙ keep_out (λ (x : SignalRecord). x.signal == s) r (filter q records) (another s r (not_of r all.0)) ∙ none_of q records all.1)
      (λ e. ap (filter (λ (x : SignalRecord). x.signal == s)) (keep_out q r records e) ∙ none_of q records all.1)
      (decide (q r))

  pub signal_silent : {P : Type 0} (m : Machine P) (out : Option ℕ) → AreMarked marked m.pending → TellsNothing (signal_fact (left_in out m) s)
  signal_silent m out all = λ decls.
      ap (λ (rs : List SignalRecord). fact_text decls (pending_signals s (map pending_of rs))) (none_of (λ (r : SignalRecord). not (is_left_out out r.serial)) m.pending all)
