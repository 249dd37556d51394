-- The least fault of the three phases.
use Rattle.std.proofs.Common.{◌≡◌, ◌<◌, ℕ, ◌+◌, List, [], ◌∷◌, ◌++◌, ap, false, Option, None, Some, ◌∙◌, arith, length, subst, sym}
use Rattle.std.specs.Prelude.{Result, Ok}
use Rattle.std.specs.Option.{option_map}
use Rattle.std.proofs.lemmas.Bool.Decides.{nat_tests}
use Rattle.words_script.specs.declared.decl.Script.{Script}
use Rattle.script_reader.specs.declared.end.ScriptEnd.{ScriptEnd}
use Rattle.script_reader.specs.declared.end.ScriptEnd.TheVariants as end
use Rattle.script_table.specs.Faults.{Fault, is_before, least}
use Rattle.script_reader.specs.Ends.{answered, EndsBy, IsRefusal}
use Rattle.script_table.specs.Patterns.{Row}
use Rattle.script_table.specs.Structure.{phase_one, Follows}
use Rattle.script_table.specs.Names.{declared, phase_two}
use Rattle.script_table.specs.Ranges.{phase_three, no_tally}
use Rattle.script_table.specs.Build.{script_of}
use Rattle.script_table.specs.Versions.{most_of}
use Rattle.script_table.specs.Heading.{Beginning}
use Rattle.script_table.specs.Read.{said_in, faults_in, read_in, verdict}
use Rattle.script_reader.proofs.Least.{Each, Each-append, Each-map, or_else, least_cut}
use Rattle.script_reader.proofs.PhaseOne.{From, phase_one-from}
use Rattle.script_reader.proofs.Phases.{two_from, three_from, said_follow}

abbrev Beyond : ℕ → Fault → Type 0
Beyond p f = p < f.phase

abbrev beyond : (p q n : ℕ) → p < q → (f : Fault) → From q n f → Beyond p f
beyond p q n lt f h = let a = h.0 in omega arith

before_no : (p n : ℕ) (x y : Fault) → From p n x → Beyond p y → is_before y x ≡ false
before_no p n x y h k = let a = h.0 in grind (arith, nat_tests)

cut_phases : (p n : ℕ) (xs ys : List Fault) → Each (From p n) xs → Each (Beyond p) ys → Each (λ x. Each (λ y. is_before y x ≡ false) ys) xs
cut_phases p n [] ys a b = tt
cut_phases p n (x ∷ xs) ys a b = (Each-map (Beyond p) (λ y. is_before y x ≡ false) (λ y k. before_no p n x y a.0 k) ys b, cut_phases p n xs ys a.1 b)

by_phases : (n m k : ℕ) (xs ys zs : List Fault) → Each (From 1 n) xs → Each (From 2 m) ys → Each (From 3 k) zs →
    least (xs ++ (ys ++ zs)) ≡ or_else (least xs) (or_else (least ys) (least zs))
by_phases n m k xs ys zs a b c =
    least_cut xs (ys ++ zs) (cut_phases 1 n xs (ys ++ zs) a (Each-append (Beyond 1) ys zs (Each-map (From 2 m) (Beyond 1) (beyond 1 2 m (omega arith)) ys b) (Each-map (From 3 k) (Beyond 1) (beyond 1 3 k (omega arith)) zs c)))
    ∙ ap (or_else (least xs)) (least_cut ys zs (cut_phases 2 m ys zs b (Each-map (From 3 k) (Beyond 2) (beyond 2 3 k (omega arith)) zs c)))

pub least_of_faults : (rows : List Row) (b : Beginning) → least (faults_in rows b) ≡
    or_else (least (phase_one rows b.number (Some []) b.lines))
    (or_else (least (phase_two (declared (said_in rows b)) (said_in rows b))) (least (phase_three (b.number + length b.lines) (no_tally (most_of b.version)) (said_in rows b))))
least_of_faults rows b =
    let last : ℕ = b.number + length b.lines in
    let f : Follows last b.number (said_in rows b) = said_follow rows last b.number b.lines (omega arith) in
    by_phases b.number b.number b.number (phase_one rows b.number (Some []) b.lines) (phase_two (declared (said_in rows b)) (said_in rows b)) (phase_three last (no_tally (most_of b.version)) (said_in rows b))
    (phase_one-from rows b.number (Some []) b.lines)
    (two_from last (declared (said_in rows b)) b.number (said_in rows b) f)
    (three_from last (no_tally (most_of b.version)) b.number (said_in rows b) f)

-- read, by the least faults of the phases
read_by : (rows : List Row) (b : Beginning) → read_in rows b ≡ verdict (or_else (least (phase_one rows b.number (Some []) b.lines))
    (or_else (least (phase_two (declared (said_in rows b)) (said_in rows b))) (least (phase_three (b.number + length b.lines) (no_tally (most_of b.version)) (said_in rows b))))) (script_of b.version (declared (said_in rows b)).names (said_in rows b))
unfolding read_in
read_by rows b = ap (λ o. verdict o (script_of b.version (declared (said_in rows b)).names (said_in rows b))) (least_of_faults rows b)

-- a fault that is answered is the least one
refused : (e : ScriptEnd) (o : Option Fault) (script : Script) (found : Result Script Fault) → found ≡ verdict o script → EndsBy e o → IsRefusal e found
refused end.OutOfMemory o script found is h = tt
refused (end.Fault line kind) None script found is h = absurd (let e : None ≡ Some (end.Fault line kind) = h in cc)
refused (end.Fault line kind) (Some f) script found is h =
    let e : Some (answered f) ≡ Some (end.Fault line kind) = h in
    let l : f.line ≡ line = cc in
    let k : f.kind ≡ kind = cc in
    subst (IsRefusal (end.Fault line kind)) (sym is) (l, k)

ends_first : (e : ScriptEnd) (a r : Option Fault) → EndsBy e a → EndsBy e (or_else a r)
ends_first end.OutOfMemory a r h = tt
ends_first (end.Fault line kind) None r h = absurd (let e : None ≡ Some (end.Fault line kind) = h in cc)
ends_first (end.Fault line kind) (Some f) r h = h

by_fault : (e : ScriptEnd) (o : Option Fault) → option_map answered o ≡ Some e → EndsBy e o
by_fault end.OutOfMemory o h = tt
by_fault (end.Fault line kind) o h = h

module _ (rows : List Row) (b : Beginning) where
  pub ends_in_one : (e : ScriptEnd) → EndsBy e (least (phase_one rows b.number (Some []) b.lines)) → IsRefusal e (read_in rows b)
  ends_in_one e h = refused e _ _ (read_in rows b) (read_by rows b) (ends_first e _ _ h)

  pub ends_in_two : (e : ScriptEnd) → least (phase_one rows b.number (Some []) b.lines) ≡ None →
      option_map answered (least (phase_two (declared (said_in rows b)) (said_in rows b))) ≡ Some e → IsRefusal e (read_in rows b)
  ends_in_two e one h =
      refused e _ _ (read_in rows b) (read_by rows b) (subst (λ o. EndsBy e (or_else o (or_else (least (phase_two (declared (said_in rows b)) (said_in rows b))) (least (phase_three (b.number + length b.lines) (no_tally (most_of b.version)) (said_in rows b)))))) (sym one)
      (ends_first e _ _ (by_fault e _ h)))

  pub ends_in_three : (e : ScriptEnd) → least (phase_one rows b.number (Some []) b.lines) ≡ None →
      least (phase_two (declared (said_in rows b)) (said_in rows b)) ≡ None →
      option_map answered (least (phase_three (b.number + length b.lines) (no_tally (most_of b.version)) (said_in rows b))) ≡ Some e → IsRefusal e (read_in rows b)
  ends_in_three e one two h =
      refused e _ _ (read_in rows b) (read_by rows b) (subst (λ o. EndsBy e (or_else o (or_else (least (phase_two (declared (said_in rows b)) (said_in rows b))) (least (phase_three (b.number + length b.lines) (no_tally (most_of b.version)) (said_in rows b)))))) (sym one)
      (subst (λ o. EndsBy e (or_else o (least (phase_three (b.number + length b.lines) (no_tally (most_of b.version)) (said_in rows b))))) (sym two) (by_fault e _ h)))

  pub no_fault_at_all : least (phase_one rows b.number (Some []) b.lines) ≡ None →
      least (phase_two (declared (said_in rows b)) (said_in rows b)) ≡ None →
      least (phase_three (b.number + length b.lines) (no_tally (most_of b.version)) (said_in rows b)) ≡ None → read_in rows b ≡ Ok (script_of b.version (declared (said_in rows b)).names (said_in rows b))
  no_fault_at_all one two three =
      read_by rows b ∙ (ap (λ o. verdict (or_else o (or_else (least (phase_two (declared (said_in rows b)) (said_in rows b))) (least (phase_three (b.number + length b.lines) (no_tally (most_of b.version)) (said_in rows b))))) (script_of b.version (declared (said_in rows b)).names (said_in rows b))) one
      ∙ (ap (λ o. verdict (or_else o (least (phase_three (b.number + length b.lines) (no_tally (most_of b.version)) (said_in rows b)))) (script_of b.version (declared (said_in rows b)).names (said_in rows b))) two
      ∙ ap (λ o. verdict o (script_of b.version (declared (said_in rows b)).names (said_in rows b))) three))
