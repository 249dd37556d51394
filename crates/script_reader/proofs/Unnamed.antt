-- Places without names declare nothing, and no name is at fault there; so with the keyword of a line.
use Rattle.std.proofs.Common.{◌≡◌, ◌≤◌, ℕ, ◌+◌, List, [], ◌∷◌, ◌++◌, Bool, refl, true, false, ap, sym, ◌∙◌, arith, append_assoc}
use Rattle.std.specs.List.{list_any}
use Rattle.std.specs.Prelude.{None, ◌||◌}
use Rattle.script_table.specs.Faults.{least_kind, faults_at}
use Rattle.script_table.specs.Patterns.{Spot, Keyword, Answer, Number, Operand, Declares, Uses, Signal, Acts, Signals}
use Rattle.script_table.specs.LineFaults.{place_faults}
use Rattle.script_table.specs.Structure.{Said, Follows, IsRising}
use Rattle.script_table.specs.Names.{Declared, declared_at, declared_from, name_fault, name_faults, phase_two}
use Rattle.script_reader.specs.Declarations.{declares, is_named, naming_lines}
use Rattle.script_reader.proofs.Phases.{rising}

pub none_declared : (spots : List Spot) (words : List (List ℕ)) (d : Declared) (n : ℕ) → list_any declares spots ≡ false → declared_at d n spots words ≡ d
none_declared [] words d n e = refl
none_declared (s ∷ ss) [] d n e = refl
none_declared (Keyword k ∷ ss) (w ∷ ws) d n e = none_declared ss ws d n e
none_declared (Answer ∷ ss) (w ∷ ws) d n e = none_declared ss ws d n e
none_declared (Number low high ∷ ss) (w ∷ ws) d n e = none_declared ss ws d n e
none_declared (Operand ∷ ss) (w ∷ ws) d n e = none_declared ss ws d n e
none_declared (Declares kind ∷ ss) (w ∷ ws) d n e = cc
none_declared (Uses kind ∷ ss) (w ∷ ws) d n e = none_declared ss ws d n e
none_declared (Signal ∷ ss) (w ∷ ws) d n e = none_declared ss ws d n e
none_declared (Acts ∷ ss) (w ∷ ws) d n e = cc
none_declared (Signals ∷ ss) (w ∷ ws) d n e = none_declared ss ws d n e

none_at_fault : (spots : List Spot) (words : List (List ℕ)) (d : Declared) (n : ℕ) → list_any is_named spots ≡ false → place_faults (name_fault d n) spots words ≡ []
none_at_fault [] words d n e = refl
none_at_fault (s ∷ ss) [] d n e = refl
none_at_fault (Keyword k ∷ ss) (w ∷ ws) d n e = none_at_fault ss ws d n e
none_at_fault (Answer ∷ ss) (w ∷ ws) d n e = none_at_fault ss ws d n e
none_at_fault (Number low high ∷ ss) (w ∷ ws) d n e = none_at_fault ss ws d n e
none_at_fault (Operand ∷ ss) (w ∷ ws) d n e = none_at_fault ss ws d n e
none_at_fault (Declares kind ∷ ss) (w ∷ ws) d n e = cc
none_at_fault (Uses kind ∷ ss) (w ∷ ws) d n e = cc
none_at_fault (Signal ∷ ss) (w ∷ ws) d n e = none_at_fault ss ws d n e
none_at_fault (Acts ∷ ss) (w ∷ ws) d n e = cc
none_at_fault (Signals ∷ ss) (w ∷ ws) d n e = none_at_fault ss ws d n e

pub no_name_fault : (spots : List Spot) (words : List (List ℕ)) (d : Declared) (n : ℕ) → list_any is_named spots ≡ false → least_kind (place_faults (name_fault d n) spots words) ≡ None
no_name_fault spots words d n e = ap least_kind (none_at_fault spots words d n e)

pub declared_past_keyword : (d : Declared) (n : ℕ) (spots rest : List Spot) (words ahead : List (List ℕ)) (k w : List ℕ) → spots ≡ Keyword k ∷ rest → words ≡ w ∷ ahead → declared_at d n spots words ≡ declared_at d n rest ahead
declared_past_keyword d n spots rest words ahead k w is_spots is_words = rw (is_spots, is_words) refl

pub faults_past_keyword : (d : Declared) (n : ℕ) (spots rest : List Spot) (words ahead : List (List ℕ)) (k w : List ℕ) → spots ≡ Keyword k ∷ rest → words ≡ w ∷ ahead →
    least_kind (place_faults (name_fault d n) spots words) ≡ least_kind (place_faults (name_fault d n) rest ahead)
faults_past_keyword d n spots rest words ahead k w is_spots is_words = rw (is_spots, is_words) refl

not_declared : (s : Spot) → is_named s ≡ false → declares s ≡ false
not_declared (Keyword k) e = refl
not_declared Answer e = refl
not_declared (Number low high) e = refl
not_declared Operand e = refl
not_declared (Declares kind) e = cc
not_declared (Uses kind) e = refl
not_declared Signal e = refl
not_declared Acts e = cc
not_declared Signals e = refl

neither : (a b c d : Bool) → (a ≡ false → c ≡ false) → (b ≡ false → d ≡ false) → (a || b) ≡ false → (c || d) ≡ false
neither true b c d here later e = cc
neither false b c d here later e = let h = here refl in rw h (later e)

none_declares : (spots : List Spot) → list_any is_named spots ≡ false → list_any declares spots ≡ false
none_declares [] e = refl
none_declares (s ∷ ss) e = neither (is_named s) (list_any is_named ss) (declares s) (list_any declares ss) (not_declared s) (none_declares ss) e

-- past a line that names nothing
pub declared_past : (d : Declared) (s : Said) (ss rest : List Said) (all : Declared) → ss ≡ s ∷ rest → list_any is_named s.row.places ≡ false → declared_from d ss ≡ all → declared_from d rest ≡ all
declared_past d s ss rest all is none so_far =
    ap (λ e. declared_from e rest) (sym (none_declared s.row.places s.words d s.line (none_declares s.row.places none))) ∙ (ap (declared_from d) (sym is) ∙ so_far)

pub kept_past : (kept all : List Said) (s : Said) (ss rest : List Said) → ss ≡ s ∷ rest → list_any is_named s.row.places ≡ false → kept ++ naming_lines ss ≡ all → kept ++ naming_lines rest ≡ all
kept_past kept all s ss rest is none so_far =
    let same : naming_lines (s ∷ rest) ≡ naming_lines rest = rw none refl in
    ap (λ ms. kept ++ ms) (sym same) ∙ (ap (λ xs. kept ++ naming_lines xs) (sym is) ∙ so_far)

-- and past one that names something
pub kept_more : (kept all : List Said) (s : Said) (ss rest : List Said) → ss ≡ s ∷ rest → list_any is_named s.row.places ≡ true → kept ++ naming_lines ss ≡ all → (kept ++ s ∷ []) ++ naming_lines rest ≡ all
kept_more kept all s ss rest is some so_far =
    let one : naming_lines (s ∷ rest) ≡ s ∷ naming_lines rest = rw some refl in
    append_assoc kept (s ∷ []) (naming_lines rest) ∙ (ap (λ ms. kept ++ ms) (sym one) ∙ (ap (λ xs. kept ++ naming_lines xs) (sym is) ∙ so_far))

-- lines that name nothing have no fault of phase 2
two_case : (b : Bool) (d : Declared) (s : Said) (ss : List Said) → list_any is_named s.row.places ≡ b → phase_two d (naming_lines ss) ≡ phase_two d ss → phase_two d (naming_lines (s ∷ ss)) ≡ phase_two d (s ∷ ss)
two_case true d s ss e ih = rw e (ap (λ fs. faults_at 2 s.line (name_faults d s) ++ fs) ih)
two_case false d s ss e ih = let none = none_at_fault s.row.places s.words d s.line e in rw (e, none) ih

pub two_of_naming : (d : Declared) (ss : List Said) → phase_two d (naming_lines ss) ≡ phase_two d ss
two_of_naming d [] = refl
two_of_naming d (s ∷ ss) = two_case (list_any is_named s.row.places) d s ss refl (two_of_naming d ss)

-- and they may be left out where lines rise
later : (last m n : ℕ) (ss : List Said) → n ≤ m → Follows last m ss → Follows last n ss
later last m n [] le f = let a = f in omega arith
later last m n (s ∷ ss) le f = let a = f.0 in (omega arith, f.1)

follow_case : (b : Bool) (last n : ℕ) (s : Said) (ss : List Said) → list_any is_named s.row.places ≡ b → Follows last n (s ∷ ss) → Follows last (s.line + 1) (naming_lines ss) → Follows last n (naming_lines (s ∷ ss))
follow_case true last n s ss e f ih = rw e (f.0, ih)
follow_case false last n s ss e f ih = let a = f.0 in rw e (later last (s.line + 1) n (naming_lines ss) (omega arith) ih)

naming_follow : (last n : ℕ) (ss : List Said) → Follows last n ss → Follows last n (naming_lines ss)
naming_follow last n [] f = f
naming_follow last n (s ∷ ss) f = follow_case (list_any is_named s.row.places) last n s ss refl f (naming_follow last (s.line + 1) ss f.1)

pub naming_rising : (last n : ℕ) (ss : List Said) → Follows last n ss → IsRising last (naming_lines ss)
naming_rising last n ss f = rising last n (naming_lines ss) (naming_follow last n ss f)
