-- One line of phase 1.
use Rattle.std.proofs.Common.{◌≡◌, ℕ, ◌+◌, List, [], ◌∷◌, ◌++◌, None, Some, sym, ap, ◌∙◌, append_assoc, append-nil}
use Rattle.std.specs.Prelude.{slice_get}
use Rattle.script_lex.specs.Words.{line_words}
use Rattle.tool_audit.specs.declared.fault.HeadFault.{HeadFault}
use Rattle.tool_audit.specs.Faults.{Fault, faults_at}
use Rattle.tool_audit.specs.Head.{Said, line_faults, phase_one, said_from, said_line}

abbrev the_fault : ℕ → HeadFault → Fault
the_fault n kind = record { line = n; kind = kind }

first_of : (n : ℕ) (kinds : List HeadFault) (later : List Fault) (kind : HeadFault) → slice_get kinds 0 ≡ Some kind → slice_get (faults_at n kinds ++ later) 0 ≡ Some (record { line = n; kind = kind })
first_of n [] later kind e = absurd (let none : None ≡ Some kind = e in cc)
first_of n (k ∷ kinds) later kind e =
    let first : Some k ≡ Some kind = e in
    let same : k ≡ kind = cc in
    ap (λ (j : HeadFault). Some (the_fault n j)) same

module _ (n m at : ℕ) (lines rest : List (List ℕ)) (line : List ℕ) (is : lines ≡ line ∷ rest) (is_at : at ≡ n) (is_m : m ≡ n + 1) where
  -- a line with a fault
  pub ends : (all : List Fault) (kind : HeadFault) → slice_get (line_faults line) 0 ≡ Some kind → phase_one n lines ≡ all → slice_get all 0 ≡ Some (record { line = at; kind = kind })
  ends all kind found so_far =
      ap (λ (fs : List Fault). slice_get fs 0) (sym so_far ∙ ap (phase_one n) is)
      ∙ (first_of n (line_faults line) (phase_one (n + 1) rest) kind found ∙ ap (λ (k : ℕ). Some (the_fault k kind)) (sym is_at))

  -- past a line without one
  pub past : (all : List Fault) → line_faults line ≡ [] → phase_one n lines ≡ all → phase_one m rest ≡ all
  past all clean so_far =
      ap (λ (k : ℕ). phase_one k rest) is_m
      ∙ (ap (λ (ks : List HeadFault). faults_at n ks ++ phase_one (n + 1) rest) (sym clean) ∙ (ap (phase_one n) (sym is) ∙ so_far))

  pub says : (xs ys all : List Said) → ys ≡ said_line at (line_words line) → xs ++ said_from n lines ≡ all → (xs ++ ys) ++ said_from m rest ≡ all
  says xs ys all is_ys so_far =
      append_assoc xs ys (said_from m rest)
      ∙ (ap (λ (k : ℕ). xs ++ (ys ++ said_from k rest)) is_m
      ∙ (ap (λ (zs : List Said). xs ++ (zs ++ said_from (n + 1) rest)) (is_ys ∙ ap (λ (k : ℕ). said_line k (line_words line)) is_at)
      ∙ (ap (λ (ls : List (List ℕ)). xs ++ said_from n ls) (sym is) ∙ so_far)))

  pub says_nothing : (xs all : List Said) → [] ≡ said_line at (line_words line) → xs ++ said_from n lines ≡ all → xs ++ said_from m rest ≡ all
  says_nothing xs all none so_far = ap (λ (zs : List Said). zs ++ said_from m rest) (sym (append-nil xs)) ∙ says xs [] all none so_far
