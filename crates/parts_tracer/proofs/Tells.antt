-- The events of several calls, one after another.
use Rattle.std.proofs.Common.{◌≡◌, ℕ, List, [], ◌∷◌, ◌++◌, sym, ◌∙◌, ap, subst, append-nil, Option, true}
use Rattle.words_trace.specs.Text.{Entry, line, lines}
use Rattle.parts_tracer.specs.Prints.{Prints}
use Rattle.parts_tracer.specs.Tells.{Tells}
use Rattle.parts_tracer.specs.declared.tracer.Tracer.{Tracer}
use Rattle.parts_tracer.proofs.Lines.{lines-append}
use Rattle.parts_tracer.proofs.Prints.{prints_nothing, prints_both, prints_stopped}

module _ {K : Type 0} (text : K → Option (List ℕ)) (faults : K → ℕ) (names : List (List ℕ)) where
  -- no event
  pub tells_nothing : (a : Tracer K) → Tells text faults names a a []
  tells_nothing a = record { told = prints_nothing text faults a }

  -- one event
  pub tells_one : (a b : Tracer K) (e : Entry) → Prints text faults a b (line names e.time e.event) → Tells text faults names a b (e ∷ [])
  tells_one a b e printed = record {
    told = subst (λ due. Prints text faults a b due) (sym (append-nil (line names e.time e.event))) printed;
  }

  -- two parts of the events, one after the other
  pub tells_both : (a b c : Tracer K) (xs ys all : List Entry) → Tells text faults names a b xs → Tells text faults names b c ys → xs ++ ys ≡ all
      → Tells text faults names a c all
  tells_both a b c xs ys all first second whole = record {
    told = subst (λ due. Prints text faults a c due) (sym (lines-append names xs ys) ∙ ap (lines names) whole)
        (prints_both text faults a b c (lines names xs) (lines names ys) first.told second.told);
  }

  -- after a failure more events may have come
  pub tells_stopped : (a b : Tracer K) (xs ys all : List Entry) → Tells text faults names a b xs → b.failed ≡ true → xs ++ ys ≡ all
      → Tells text faults names a b all
  tells_stopped a b xs ys all first failed whole = record {
    told = subst (λ due. Prints text faults a b due) (sym (lines-append names xs ys) ∙ ap (lines names) whole)
        (prints_stopped text faults a b (lines names xs) (lines names ys) first.told failed);
  }
