use Rattle.std.proofs.Common.{ℕ, List, [], ◌++◌, sym, append-nil, arith, subst}
use Rattle.parts_bytes.specs.Placed.{Placed}
use Rattle.parts_bytes.proofs.Placed.{placed_then}
use Rattle.parts_tracer.proofs.words.place_budget.Goals as goal

placed_last : {a b xs : List ℕ} {i j : ℕ} → Placed a b i xs j → Placed a b i (xs ++ []) j
placed_last {a} {b} {xs} {i} {j} placed = subst (λ bytes. Placed a b i bytes j) (sym (append-nil xs)) placed

pub returns : goal.returns
returns c =
    record {
      placed = placed_then c.place_word-at.ensures
          (placed_then c.place_number-at.ensures.placed (placed_then c.place_word-at-2.ensures (placed_then c.place_number-at-2.ensures.placed (placed_then c.place_word-at-3.ensures
          (placed_then c.place_number-at-3.ensures.placed (placed_then c.place_word-at-4.ensures (placed_last c.place_number.ensures.placed)))))));
      within = omega arith;
    }
