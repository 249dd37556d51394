-- The lines of statements rise, so that those of canonical lines stand for them in the same order.
use Rattle.std.proofs.Common.{◌≡◌, ◌≤◌, ◌<◌, ℕ, ◌+◌, List, [], ◌∷◌, refl, sym, ◌∙◌, true, false, arith, rules, Option, None, Some}
use mathlib.Core.Logic.{◌⊎◌, inl, inr}
use Rattle.std.specs.Prelude.{nat_lt}
use Rattle.script_table.specs.Patterns.{Row}
use Rattle.script_table.specs.Structure.{Said, row_of_line, said_from}
use Rattle.script_table.specs.Names.{declared, phase_two}
use Rattle.laws_canonical_text.specs.Laws.{AreAnew, canonical_lines}
use Rattle.laws_canonical_text.proofs.Places.{nothing_said, said_none, said_some}
use Rattle.laws_canonical_text.proofs.Naming.{InOrder, Lined, names_alike}
use Rattle.laws_canonical_text.proofs.Table.{IsTable}

-- the lines of two statements at one place of two lists
abbrev pub Paired : List Said → List Said → ℕ → ℕ → Type 0
Paired [] ts a b = ⊥
Paired (s ∷ ss) [] a b = ⊥
Paired (s ∷ ss) (x ∷ ts) a b = ((s.line ≡ a) × (x.line ≡ b)) ⊎ Paired ss ts a b

-- statements whose lines rise from a number on
abbrev pub Rises : ℕ → List Said → Type 0
Rises n [] = Unit {0}
Rises n (s ∷ ss) = (n ≤ s.line) × Rises (s.line + 1) ss

rises_sooner : (n : ℕ) (ss : List Said) → Rises (n + 1) ss → Rises n ss
rises_sooner n [] h = tt
rises_sooner n (s ∷ ss) h = (omega (arith, h.0), h.1)

less : (a b c d : ℕ) → a < c → b < d → nat_lt a c ≡ nat_lt b d
less a b c d p q = let x : nat_lt a c ≡ true = search rules in let y : nat_lt b d ≡ true = search rules in x ∙ sym y

not_less : (a b c d : ℕ) → c ≤ a → d ≤ b → nat_lt a c ≡ nat_lt b d
not_less a b c d p q = let x : nat_lt a c ≡ false = search rules in let y : nat_lt b d ≡ false = search rules in x ∙ sym y

-- the lines of a pair are not before the first ones
above : (ss ts : List Said) (n m a b : ℕ) → Rises n ss → Rises m ts → Paired ss ts a b → (n ≤ a) × (m ≤ b)
above [] ts n m a b p q r = absurd r
above (s ∷ ss) [] n m a b p q r = absurd r
above (s ∷ ss) (x ∷ ts) n m a b p q (inl r) = let u = p.0 in let v = q.0 in let e = r.0 in let f = r.1 in (omega arith, omega arith)
above (s ∷ ss) (x ∷ ts) n m a b p q (inr r) =
    let h = above ss ts (s.line + 1) (x.line + 1) a b p.1 q.1 r in
    let u = p.0 in let v = q.0 in (omega (arith, h.0), omega (arith, h.1))

pub in_order : (ss ts : List Said) (n m : ℕ) → Rises n ss → Rises m ts → InOrder (Paired ss ts)
in_order [] ts n m p q a b c d first second = absurd first
in_order (s ∷ ss) [] n m p q a b c d first second = absurd first
in_order (s ∷ ss) (x ∷ ts) n m p q a b c d (inl first) (inl second) =
    let e = first.0 in let f = first.1 in let g = second.0 in let h = second.1 in not_less a b c d (omega arith) (omega arith)
in_order (s ∷ ss) (x ∷ ts) n m p q a b c d (inl first) (inr second) =
    let e = first.0 in let f = first.1 in
    let h = above ss ts (s.line + 1) (x.line + 1) c d p.1 q.1 second in
    less a b c d (omega (arith, h.0)) (omega (arith, h.1))
in_order (s ∷ ss) (x ∷ ts) n m p q a b c d (inr first) (inl second) =
    let e = second.0 in let f = second.1 in
    let h = above ss ts (s.line + 1) (x.line + 1) a b p.1 q.1 first in
    not_less a b c d (omega (arith, h.0)) (omega (arith, h.1))
in_order (s ∷ ss) (x ∷ ts) n m p q a b c d (inr first) (inr second) =
    in_order ss ts (s.line + 1) (x.line + 1) p.1 q.1 a b c d first second

lined_more : (R S : ℕ → ℕ → Type 0) (ss ts : List Said) → ((a b : ℕ) → R a b → S a b) → Lined R ss ts → Lined S ss ts
lined_more R S [] [] f h = tt
lined_more R S [] (x ∷ ts) f h = absurd h
lined_more R S (s ∷ ss) [] f h = absurd h
lined_more R S (s ∷ ss) (x ∷ ts) f h = (f s.line x.line h.0, lined_more R S ss ts f h.1)

pub lined : (ss ts : List Said) → AreAnew ss ts → Lined (Paired ss ts) ss ts
lined [] [] h = tt
lined [] (x ∷ ts) h = absurd h
lined (s ∷ ss) [] h = absurd h
lined (s ∷ ss) (x ∷ ts) h = (inl (refl, refl), lined_more (Paired ss ts) (Paired (s ∷ ss) (x ∷ ts)) ss ts (λ a b r. inr r) (lined ss ts h.1))

module _ (rows : List Row) (table : IsTable rows) where
  rises_by_row : (row : Option Row) (n : ℕ) (line : List ℕ) (lines : List (List ℕ)) → row_of_line rows line ≡ row → Rises (n + 1) (said_from rows (n + 1) lines) → Rises n (said_from rows n (line ∷ lines))
  rises_by_row None n line lines is h = rw (said_none rows table n line lines is) (rises_sooner n (said_from rows (n + 1) lines) h)
  rises_by_row (Some row) n line lines is h = rw (said_some rows table n line lines row is) (omega arith, h)

  pub said_rises : (lines : List (List ℕ)) (n : ℕ) → Rises n (said_from rows n lines)
  said_rises [] n = rw (nothing_said rows table n) tt
  said_rises (line ∷ lines) n = rises_by_row (row_of_line rows line) n line lines refl (said_rises lines (n + 1))

  pub names_kept : (n m : ℕ) (lines : List (List ℕ)) → phase_two (declared (said_from rows n lines)) (said_from rows n lines) ≡ []
      → AreAnew (said_from rows n lines) (said_from rows m (canonical_lines rows lines))
      → phase_two (declared (said_from rows m (canonical_lines rows lines))) (said_from rows m (canonical_lines rows lines)) ≡ []
  names_kept n m lines e anew =
      let ss : List Said = said_from rows n lines in
      let ts : List Said = said_from rows m (canonical_lines rows lines) in
      names_alike (Paired ss ts) (in_order ss ts n m (said_rises lines n) (said_rises (canonical_lines rows lines) m)) ss ts anew (lined ss ts anew) e
