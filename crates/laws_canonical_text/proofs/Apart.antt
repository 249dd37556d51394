-- A line's pattern stays the same where another line fits it.
use Rattle.std.proofs.Common.{◌≡◌, ℕ, List, [], ◌∷◌, refl, sym, ◌∙◌, ap, subst, Bool, true, false, not, None, Some, rules}
use Rattle.std.specs.Prelude.{◌||◌, find, cond}
use Rattle.std.specs.List.{list_all}
use Rattle.std.specs.Str.{bytes_eq}
use Rattle.std.proofs.lemmas.Slice.Eq.{bytes_eq-Decides}
use Rattle.script_lex.proofs.Rejoined.{both}
use Rattle.script_table.specs.Patterns.{Spot, Keyword, Answer, Number, Operand, Declares, Uses, Signal, Acts, Signals, Row}
use Rattle.script_table.specs.LineFaults.{stands, fits, fitting_row}
use Rattle.laws_canonical_text.specs.Apart.{differ, apart, all_apart}

pub alone : (a b word : List ℕ) → bytes_eq word a ≡ true → bytes_eq word b ≡ true → bytes_eq a b ≡ true
alone a b word p q =
    let x : word ≡ a = search (rules, bytes_eq-Decides) in
    let y : word ≡ b = search (rules, bytes_eq-Decides) in
    let z : a ≡ b = sym x ∙ y in
    search (rules, bytes_eq-Decides)

both_stand : (s t : Spot) (word : List ℕ) → stands s word ≡ true → stands t word ≡ true → differ s t ≡ false
both_stand (Keyword a) (Keyword b) word p q = ap not (alone a b word p q)
both_stand (Keyword a) Answer word p q = refl
both_stand (Keyword a) (Number low high) word p q = refl
both_stand (Keyword a) Operand word p q = refl
both_stand (Keyword a) (Declares kind) word p q = refl
both_stand (Keyword a) (Uses kind) word p q = refl
both_stand (Keyword a) Signal word p q = refl
both_stand (Keyword a) Acts word p q = refl
both_stand (Keyword a) Signals word p q = refl
both_stand Answer t word p q = refl
both_stand (Number low high) t word p q = refl
both_stand Operand t word p q = refl
both_stand (Declares kind) t word p q = refl
both_stand (Uses kind) t word p q = refl
both_stand Signal t word p q = refl
both_stand Acts t word p q = refl
both_stand Signals t word p q = refl

or_false : (a b : Bool) → a ≡ false → b ≡ false → (a || b) ≡ false
or_false a b p q = rw (p, q) refl

pub clash : {P : Type 0} (b : Bool) → b ≡ true → b ≡ false → P
clash b p q = absurd (let f : true ≡ false = sym p ∙ q in cc)

-- two patterns that one line has are not apart
pub both_fit : (ss ts : List Spot) (words : List (List ℕ)) → fits ss words ≡ true → fits ts words ≡ true → apart ss ts ≡ false
both_fit [] [] words p q = refl
both_fit [] (t ∷ ts) [] p q = clash false q refl
both_fit [] (t ∷ ts) (w ∷ ws) p q = clash false p refl
both_fit (s ∷ ss) [] [] p q = clash false p refl
both_fit (s ∷ ss) [] (w ∷ ws) p q = clash false q refl
both_fit (s ∷ ss) (t ∷ ts) [] p q = clash false p refl
both_fit (s ∷ ss) (t ∷ ts) (w ∷ ws) p q =
    let a = both (stands s w) (fits ss ws) p in
    let b = both (stands t w) (fits ts ws) q in
    or_false (differ s t) (apart ss ts) (both_stand s t w a.0 b.0) (both_fit ss ts ws a.1 b.1)

found_case : (b : Bool) (test p : Row → Bool) (r : Row) (rows : List Row) (row : Row)
    → test r ≡ b → find test (r ∷ rows) ≡ Some row → list_all p (r ∷ rows) ≡ true → (find test rows ≡ Some row → list_all p rows ≡ true → p row ≡ true) → p row ≡ true
found_case true test p r rows row is found all ih =
    let h : Some r ≡ Some row = subst (λ b. cond b (Some r) (find test rows) ≡ Some row) is found in
    let same : r ≡ row = cc in
    subst (λ x. p x ≡ true) same (both (p r) (list_all p rows) all).0
found_case false test p r rows row is found all ih =
    ih (subst (λ b. cond b (Some r) (find test rows) ≡ Some row) is found) (both (p r) (list_all p rows) all).1

-- what holds of all members holds of the one that is found
pub found_passes : (test p : Row → Bool) (rows : List Row) (row : Row) → find test rows ≡ Some row → list_all p rows ≡ true → p row ≡ true
found_passes test p [] row found all = absurd (let f : None ≡ Some row = found in cc)
found_passes test p (r ∷ rows) row found all = found_case (test r) test p r rows row refl found all (found_passes test p rows row)

abbrev is_pattern_of : List (List ℕ) → Row → Bool
is_pattern_of words row = fits row.places words

again_case : (b d : Bool) (words others : List (List ℕ)) (r : Row) (rows : List Row) (row : Row)
    → is_pattern_of words r ≡ b → is_pattern_of others r ≡ d
    → all_apart (r ∷ rows) ≡ true → fitting_row (r ∷ rows) words ≡ Some row → fits row.places others ≡ true
    → (all_apart rows ≡ true → fitting_row rows words ≡ Some row → fitting_row rows others ≡ Some row) → fitting_row (r ∷ rows) others ≡ Some row
again_case true d words others r rows row is other far found fit ih =
    let h : Some r ≡ Some row = subst (λ b. cond b (Some r) (fitting_row rows words) ≡ Some row) is found in
    let same : r ≡ row = cc in
    let fit_r : fits r.places others ≡ true = subst (λ x. fits x.places others ≡ true) (sym same) fit in
    rw fit_r h
again_case false false words others r rows row is other far found fit ih =
    let h = subst (λ b. cond b (Some r) (fitting_row rows words) ≡ Some row) is found in
    rw other (ih (both (list_all (λ x. apart r.places x.places) rows) (all_apart rows) far).1 h)
again_case false true words others r rows row is other far found fit ih =
    let h = subst (λ b. cond b (Some r) (fitting_row rows words) ≡ Some row) is found in
    let parts = both (list_all (λ x. apart r.places x.places) rows) (all_apart rows) far in
    let apart_yes = found_passes (is_pattern_of words) (λ x. apart r.places x.places) rows row h parts.0 in
    let apart_no = both_fit r.places row.places others other fit in
    clash (apart r.places row.places) apart_yes apart_no

-- a line that the pattern of another line fits has that pattern
pub fitting_again : (rows : List Row) (words others : List (List ℕ)) (row : Row)
    → all_apart rows ≡ true → fitting_row rows words ≡ Some row → fits row.places others ≡ true → fitting_row rows others ≡ Some row
fitting_again [] words others row far found fit = absurd (let f : None ≡ Some row = found in cc)
fitting_again (r ∷ rows) words others row far found fit =
    again_case (is_pattern_of words r) (is_pattern_of others r) words others r rows row refl refl far found fit
    (λ f k. fitting_again rows words others row f k fit)

fits_case : (b : Bool) (words : List (List ℕ)) (r : Row) (rows : List Row) (row : Row) → is_pattern_of words r ≡ b → fitting_row (r ∷ rows) words ≡ Some row
    → (fitting_row rows words ≡ Some row → fits row.places words ≡ true) → fits row.places words ≡ true
fits_case true words r rows row is found ih =
    let h : Some r ≡ Some row = subst (λ b. cond b (Some r) (fitting_row rows words) ≡ Some row) is found in
    let same : r ≡ row = cc in
    subst (λ x. fits x.places words ≡ true) same is
fits_case false words r rows row is found ih = ih (subst (λ b. cond b (Some r) (fitting_row rows words) ≡ Some row) is found)

-- the pattern that is found fits the line
pub found_fits : (rows : List Row) (words : List (List ℕ)) (row : Row) → fitting_row rows words ≡ Some row → fits row.places words ≡ true
found_fits [] words row found = absurd (let f : None ≡ Some row = found in cc)
found_fits (r ∷ rows) words row found = fits_case (is_pattern_of words r) words r rows row refl found (found_fits rows words row)
