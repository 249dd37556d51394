-- The least fault of phases 2 and 3, statement by statement.
use Rattle.std.proofs.Common.{◌≡◌, ◌≤◌, ◌<◌, ℕ, suc, ◌+◌, List, [], ◌∷◌, ◌++◌, ap, true, false, Option, None, Some, sym, ◌∙◌, arith, subst, drop, length, get_or, drop-cons, add-one}
use Rattle.std.specs.Prelude.{option_to_list, ◌==◌}
use Rattle.std.specs.Option.{option_map}
use Rattle.script_table.specs.declared.faults.FaultKind.{FaultKind}
use Rattle.script_table.specs.declared.faults.FaultKind.TheVariants.{NoThread}
use Rattle.script_table.specs.Faults.{Fault, least, least_kind, faults_at, fault, when}
use Rattle.script_table.specs.Patterns.{Row}
use Rattle.script_table.specs.Structure.{Said, Follows, IsRising, said_from, row_of_line}
use Rattle.script_table.specs.Names.{Declared, phase_two, name_faults}
use Rattle.script_table.specs.Ranges.{Tally, phase_three, range_faults, tallied}
use Rattle.script_reader.specs.Ends.{answered}
use Rattle.script_reader.proofs.Least.{Each, Each-append, Each-map, or_else, least_cut, least_at}
use Rattle.script_reader.proofs.PhaseOne.{From, from_at, cut_at}

earlier_too : (p m n : ℕ) → n ≤ m → (f : Fault) → From p m f → From p n f
earlier_too p m n le f h = let a = h.1 in (h.0, omega arith)

-- what comes at a line, and then from later lines
parts_from : (p n line : ℕ) (ks : List FaultKind) (fs : List Fault) → n ≤ line → Each (From p (line + 1)) fs → Each (From p n) (faults_at p line ks ++ fs)
parts_from p n line ks fs le rest =
    Each-append (From p n) (faults_at p line ks) fs
    (Each-map (From p line) (From p n) (earlier_too p line n le) (faults_at p line ks) (from_at p line ks))
    (Each-map (From p (line + 1)) (From p n) (earlier_too p (line + 1) n (omega arith)) fs rest)

pub least_parts : (p line : ℕ) (ks : List FaultKind) (fs : List Fault) → Each (From p (line + 1)) fs → least (faults_at p line ks ++ fs) ≡ or_else (option_map (fault p line) (least_kind ks)) (least fs)
least_parts p line ks fs rest = least_cut (faults_at p line ks) fs (cut_at p line ks fs rest) ∙ ap (λ o. or_else o (least fs)) (least_at p line ks)

pub two_from : (last : ℕ) (es : Declared) (n : ℕ) (ss : List Said) → Follows last n ss → Each (From 2 n) (phase_two es ss)
two_from last es n [] f = tt
two_from last es n (s ∷ ss) f = parts_from 2 n s.line (name_faults es s) (phase_two es ss) f.0 (two_from last es (s.line + 1) ss f.1)

pub rising : (last n : ℕ) (ss : List Said) → Follows last n ss → IsRising last ss
rising last n [] f = tt
rising last n (s ∷ ss) f = f.1

pub at_drop : {X : Type 0} (ss : List X) (i : ℕ) (s : X) → i < length ss → s ≡ get_or ss i s → drop i ss ≡ s ∷ drop (i + 1) ss
at_drop ss i s lt is = rw add-one (drop-cons ss i s lt ∙ ap (λ x. x ∷ drop (suc i) ss) (sym is))

pub two_step : (last : ℕ) (es : Declared) (ss rest : List Said) (s : Said) (all : Option Fault) → ss ≡ s ∷ rest → IsRising last ss → least (phase_two es ss) ≡ all →
    or_else (option_map (fault 2 s.line) (least_kind (name_faults es s))) (least (phase_two es rest)) ≡ all
two_step last es ss rest s all is up so_far =
    let follows : Follows last (s.line + 1) rest = subst (IsRising last) is up in
    sym (least_parts 2 s.line (name_faults es s) (phase_two es rest) (two_from last es (s.line + 1) rest follows)) ∙ (ap (λ x. least (phase_two es x)) (sym is) ∙ so_far)

pub rises_on : (last : ℕ) (ss rest : List Said) (s : Said) → ss ≡ s ∷ rest → IsRising last ss → IsRising last rest
rises_on last ss rest s is up = rising last (s.line + 1) rest (subst (IsRising last) is up)

pub no_fault : (p n : ℕ) (o k : Option FaultKind) (r all : Option Fault) → o ≡ None → o ≡ k → or_else (option_map (fault p n) k) r ≡ all → r ≡ all
no_fault p n o k r all none is e = subst (λ k. or_else (option_map (fault p n) k) r ≡ all) (sym is ∙ none) e

pub a_fault : (p n m : ℕ) (o k : Option FaultKind) (kind : FaultKind) (r all : Option Fault) → m ≡ n → o ≡ Some kind → o ≡ k → or_else (option_map (fault p n) k) r ≡ all →
    option_map answered all ≡ Some (answered (fault p m kind))
a_fault p n m o k kind r all at some is e =
    ap (option_map answered) (sym e ∙ ap (λ k. or_else (option_map (fault p n) k) r) (sym is ∙ some)) ∙ ap (λ n. Some (answered (fault p n kind))) (sym at)

pub three_from : (last : ℕ) (t : Tally) (n : ℕ) (ss : List Said) → Follows last n ss → Each (From 3 n) (phase_three last t ss)
three_from last t n [] f = Each-map (From 3 last) (From 3 n) (earlier_too 3 last n f) (faults_at 3 last (when (t.counts.threads == 0) NoThread)) (from_at 3 last (when (t.counts.threads == 0) NoThread))
three_from last t n (s ∷ ss) f = parts_from 3 n s.line (range_faults (tallied t s.row.form) s) (phase_three last (tallied t s.row.form) ss) f.0 (three_from last (tallied t s.row.form) (s.line + 1) ss f.1)

pub three_step : (last : ℕ) (t u : Tally) (ss rest : List Said) (s : Said) (all : Option Fault) → ss ≡ s ∷ rest → u ≡ tallied t s.row.form → IsRising last ss → least (phase_three last t ss) ≡ all →
    or_else (option_map (fault 3 s.line) (least_kind (range_faults u s))) (least (phase_three last u rest)) ≡ all
three_step last t u ss rest s all is is_u up so_far =
    let follows : Follows last (s.line + 1) rest = subst (IsRising last) is up in
    let v : Tally = tallied t s.row.form in
    let h : or_else (option_map (fault 3 s.line) (least_kind (range_faults v s))) (least (phase_three last v rest)) ≡ all =
    sym (least_parts 3 s.line (range_faults v s) (phase_three last v rest) (three_from last v (s.line + 1) rest follows)) ∙ (ap (λ x. least (phase_three last t x)) (sym is) ∙ so_far) in
    subst (λ w. or_else (option_map (fault 3 s.line) (least_kind (range_faults w s))) (least (phase_three last w rest)) ≡ all) (sym is_u) h

pub three_end : (last : ℕ) (t : Tally) (ss : List Said) (all : Option Fault) → ss ≡ [] → (t.counts.threads == 0) ≡ false → least (phase_three last t ss) ≡ all → all ≡ None
three_end last t ss all is some so_far = sym so_far ∙ (ap (λ x. least (phase_three last t x)) is ∙ ap (λ b. least (faults_at 3 last (when b NoThread))) some)

pub three_none : (last : ℕ) (t : Tally) (ss : List Said) (all : Option Fault) → ss ≡ [] → (t.counts.threads == 0) ≡ true → least (phase_three last t ss) ≡ all → option_map answered all ≡ Some (answered (fault 3 last NoThread))
three_none last t ss all is none so_far = ap (option_map answered) (sym so_far ∙ (ap (λ x. least (phase_three last t x)) is ∙ ap (λ b. least (faults_at 3 last (when b NoThread))) none))

-- the statements of lines rise
follows_more : (last n : ℕ) (ss : List Said) → Follows last (n + 1) ss → Follows last n ss
follows_more last n [] f = omega arith
follows_more last n (s ∷ ss) f = let a = f.0 in (omega arith, f.1)

row_follows : (last n : ℕ) (words : List (List ℕ)) (o : Option Row) (ss : List Said) → Follows last (n + 1) ss → Follows last n (option_to_list (option_map (λ row. record { line = n; row = row; words = words }) o) ++ ss)
row_follows last n words None ss f = follows_more last n ss f
row_follows last n words (Some row) ss f = (omega arith, f)

pub said_follow : (rows : List Row) (last n : ℕ) (lines : List (List ℕ)) → n + length lines ≤ last → Follows last n (said_from rows n lines)
unfolding said_from
said_follow rows last n [] le = omega arith
said_follow rows last n (line ∷ lines) le = row_follows last n _ (row_of_line rows line) (said_from rows (n + 1) lines) (said_follow rows last (n + 1) lines (omega arith))

pub said_rising : (rows : List Row) (last n : ℕ) (lines : List (List ℕ)) → n + length lines ≤ last → IsRising last (said_from rows n lines)
said_rising rows last n lines le = rising last n (said_from rows n lines) (said_follow rows last n lines le)
