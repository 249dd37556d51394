-- What holds of a text with lower limits holds with higher ones, and what has a pattern in version 1 has it in version 2.
use Rattle.std.proofs.Common.{◌≡◌, ◌≤◌, ℕ, List, [], ◌∷◌, ◌++◌, refl, sym, ◌∙◌, ap, subst, Bool, true, false, None, Some, arith, inl, inr, ◌⊎◌}
use Rattle.std.specs.Prelude.{cond, find}
use Rattle.std.specs.List.{list_all}
use Rattle.std.proofs.lemmas.Bool.Decides.{nat_tests}
use Rattle.script_lex.proofs.Rejoined.{both}
use Rattle.words_script.specs.declared.name_kind.NameKind.{NameKind}
use Rattle.words_script.specs.declared.name_kind.NameKind.TheVariants as kind
use Rattle.script_table.specs.declared.faults.FaultKind.TheVariants.{TooMany}
use Rattle.script_table.specs.declared.form.Form.{Form}
use Rattle.script_table.specs.declared.form.Form.TheVariants as form
use Rattle.script_table.specs.declared.pattern.Closer.{Closer}
use Rattle.script_table.specs.declared.pattern.Closer.TheVariants as closer
use Rattle.script_table.specs.declared.version.Version.{Version}
use Rattle.script_table.specs.declared.version.Version.TheVariants.{One, Two}
use Rattle.script_table.specs.Versions.{most_of}
use Rattle.script_table.specs.Faults.{faults_at, when}
use Rattle.script_table.specs.Patterns.{Row}
use Rattle.script_table.specs.LineFaults.{fits, fitting_row, fitting_some}
use Rattle.script_table.specs.Structure.{Said, closer_of, closed_by, body_kind}
use Rattle.script_table.specs.Names.{Counts}
use Rattle.script_table.specs.Ranges.{Tally, entered, left, tallied, object_kind, is_over, is_too_many, range_faults, phase_three}
use Rattle.script_table.specs.Table.{patterns, declaration_patterns, step_patterns, call_patterns, strict_declarations, strict_calls}
use Rattle.script_table.specs.Read.{Tables}
use Rattle.laws_canonical_text.specs.Apart.{apart, all_apart}
use Rattle.laws_canonical_text.proofs.Apart.{both_fit, clash, found_fits}
use Rattle.laws_canonical_text.proofs.Limits.{no_kinds, within}
use Rattle.laws_canonical_text.proofs.Places.{both_none}
use Rattle.laws_canonical_text.proofs.Table.{the_table}

-- more of each are allowed
pub over_wider : (n m : ℕ) (c : Counts) (k : NameKind) → n ≤ m → is_over n c k ≡ false → is_over m c k ≡ false
over_wider n m c kind.Thread le e = grind (arith, nat_tests)
over_wider n m c kind.Mutex le e = grind (arith, nat_tests)
over_wider n m c kind.Cond le e = grind (arith, nat_tests)
over_wider n m c kind.Sem le e = grind (arith, nat_tests)
over_wider n m c kind.Queue le e = e
over_wider n m c kind.Timer le e = e
over_wider n m c kind.Handler le e = e
over_wider n m c kind.Cleanup le e = e

abbrev with_most : ℕ → Tally → Tally
with_most k t = record t { most = k }

entered_most : (t : Tally) (c : Closer) → (entered t c).most ≡ t.most
entered_most t closer.End = refl
entered_most t closer.Pop = refl

left_most : (t : Tally) (c : Closer) → (left t c).most ≡ t.most
left_most t closer.End = refl
left_most t closer.Pop = refl

-- lines leave the limits as they are
pub most_kept : (t : Tally) (f : Form) → (tallied t f).most ≡ t.most
most_kept t form.Quantum = refl
most_kept t (form.Object f) = refl
most_kept t (form.Action f) = refl
most_kept t (form.Body f) = refl
most_kept t (form.Step f) = refl
most_kept t (form.Call f) = refl
most_kept t (form.Block f) = entered_most t (closer_of f)
most_kept t (form.Close f) = left_most t (closed_by f)

entered_with : (t : Tally) (k : ℕ) (c : Closer) → entered (with_most k t) c ≡ with_most k (entered t c)
entered_with t k closer.End = refl
entered_with t k closer.Pop = refl

left_with : (t : Tally) (k : ℕ) (c : Closer) → left (with_most k t) c ≡ with_most k (left t c)
left_with t k closer.End = refl
left_with t k closer.Pop = refl

tallied_with : (t : Tally) (k : ℕ) (f : Form) → tallied (with_most k t) f ≡ with_most k (tallied t f)
tallied_with t k form.Quantum = refl
tallied_with t k (form.Object f) = refl
tallied_with t k (form.Action f) = refl
tallied_with t k (form.Body f) = refl
tallied_with t k (form.Step f) = refl
tallied_with t k (form.Call f) = refl
tallied_with t k (form.Block f) = entered_with t k (closer_of f)
tallied_with t k (form.Close f) = left_with t k (closed_by f)

many_wider : (t : Tally) (k : ℕ) (f : Form) → t.most ≤ k → is_too_many t f ≡ false → is_too_many (with_most k t) f ≡ false
many_wider t k form.Quantum le e = e
many_wider t k (form.Object f) le e = over_wider t.most k t.counts (object_kind f) le e
many_wider t k (form.Action f) le e = e
many_wider t k (form.Body f) le e = over_wider t.most k t.counts (body_kind f) le e
many_wider t k (form.Step f) le e = e
many_wider t k (form.Call f) le e = e
many_wider t k (form.Block f) le e = e
many_wider t k (form.Close f) le e = e

not_many : (b : Bool) → when b TooMany ≡ [] → b ≡ false
not_many true e = absurd (let f : (TooMany ∷ []) ≡ [] = e in cc)
not_many false e = refl

range_wider : (t : Tally) (k : ℕ) (s : Said) → t.most ≤ k → range_faults t s ≡ [] → range_faults (with_most k t) s ≡ []
range_wider t k s le e =
    let h = within t s e in
    let few = many_wider t k s.row.form le (not_many (is_too_many t s.row.form) h.1.1) in
    rw (h.0, h.1.0, few) refl

pub limits_wider : (m k : ℕ) (t : Tally) (ss : List Said) → t.most ≤ k → phase_three m t ss ≡ [] → phase_three m (with_most k t) ss ≡ []
limits_wider m k t [] le e = e
limits_wider m k t (s ∷ ss) le e =
    let u : Tally = tallied t s.row.form in
    let split = both_none (faults_at 3 s.line (range_faults u s)) (phase_three m u ss) e in
    let more : u.most ≤ k = subst (λ n. n ≤ k) (sym (most_kept t s.row.form)) le in
    let own = range_wider u k s more (no_kinds s.line (range_faults u s) split.0) in
    ap (λ x. faults_at 3 s.line (range_faults x s) ++ phase_three m x ss) (tallied_with t k s.row.form)
    ∙ (ap (λ ks. faults_at 3 s.line ks ++ phase_three m (with_most k u) ss) own ∙ limits_wider m k u ss more split.1)

-- the pattern is one of these
abbrev In : Row → List Row → Type 0
In row [] = ⊥
In row (r ∷ rows) = (r ≡ row) ⊎ In row rows

in_front : (row : Row) (xs ys : List Row) → In row xs → In row (xs ++ ys)
in_front row [] ys h = absurd h
in_front row (x ∷ xs) ys (inl e) = inl e
in_front row (x ∷ xs) ys (inr h) = inr (in_front row xs ys h)

in_back : (row : Row) (xs ys : List Row) → In row ys → In row (xs ++ ys)
in_back row [] ys h = h
in_back row (x ∷ xs) ys h = inr (in_back row xs ys h)

-- what is so of the members of two lists is so of those of the lists together
in_either : (P : Type 0) (row : Row) (xs ys : List Row) → In row (xs ++ ys) → (In row xs → P) → (In row ys → P) → P
in_either P row [] ys h p q = q h
in_either P row (x ∷ xs) ys (inl e) p q = p (inl e)
in_either P row (x ∷ xs) ys (inr h) p q = in_either P row xs ys h (λ a. p (inr a)) q

in_case : (b : Bool) (test : Row → Bool) (r row : Row) (rows : List Row) → test r ≡ b → find test (r ∷ rows) ≡ Some row → (find test rows ≡ Some row → In row rows) → In row (r ∷ rows)
in_case true test r row rows is found rest =
    let h : Some r ≡ Some row = subst (λ b. cond b (Some r) (find test rows) ≡ Some row) is found in
    let same : r ≡ row = cc in
    inl same
in_case false test r row rows is found rest = inr (rest (subst (λ b. cond b (Some r) (find test rows) ≡ Some row) is found))

found_in : (test : Row → Bool) (rows : List Row) (row : Row) → find test rows ≡ Some row → In row rows
found_in test [] row found = absurd (let f : None ≡ Some row = found in cc)
found_in test (r ∷ rows) row found = in_case (test r) test r row rows refl found (found_in test rows row)

all_pass : (p : Row → Bool) (rows : List Row) (row : Row) → In row rows → list_all p rows ≡ true → p row ≡ true
all_pass p [] row here all = absurd here
all_pass p (r ∷ rows) row (inl e) all = subst (λ x. p x ≡ true) e (both (p r) (list_all p rows) all).0
all_pass p (r ∷ rows) row (inr h) all = all_pass p rows row h (both (p r) (list_all p rows) all).1

abbrev is_pattern_of : List (List ℕ) → Row → Bool
is_pattern_of words row = fits row.places words

member_case : (b : Bool) (words : List (List ℕ)) (r row : Row) (rows : List Row) → is_pattern_of words r ≡ b → all_apart (r ∷ rows) ≡ true → fits row.places words ≡ true → In row (r ∷ rows)
    → (In row rows → fitting_row rows words ≡ Some row) → fitting_row (r ∷ rows) words ≡ Some row
member_case true words r row rows is far fit (inl e) rest = rw is (ap Some e)
member_case true words r row rows is far fit (inr h) rest =
    let yes = all_pass (λ x. apart r.places x.places) rows row h (both (list_all (λ x. apart r.places x.places) rows) (all_apart rows) far).0 in
    clash (apart r.places row.places) yes (both_fit r.places row.places words is fit)
member_case false words r row rows is far fit (inl e) rest = clash (fits row.places words) fit (subst (λ (x : Row). fits x.places words ≡ false) e is)
member_case false words r row rows is far fit (inr h) rest = rw is (rest h)

-- a pattern of the table that fits a line is found
member_found : (words : List (List ℕ)) (rows : List Row) (row : Row) → all_apart rows ≡ true → In row rows → fits row.places words ≡ true → fitting_row rows words ≡ Some row
member_found words [] row far here fit = absurd here
member_found words (r ∷ rows) row far here fit =
    member_case (is_pattern_of words r) words r row rows refl far fit here
    (λ h. member_found words rows row (both (list_all (λ x. apart r.places x.places) rows) (all_apart rows) far).1 h fit)

in_two : (row : Row) → In row (patterns One) → In row (patterns Two)
unfolding patterns
in_two row here =
    let ds = declaration_patterns ++ strict_declarations in
    let cs = call_patterns ++ strict_calls in
    let All : Type 0 = In row (ds ++ (step_patterns ++ cs)) in
    in_either All row declaration_patterns (step_patterns ++ call_patterns) here
    (λ h. in_front row ds (step_patterns ++ cs) (in_front row declaration_patterns strict_declarations h))
    (λ h. in_back row ds (step_patterns ++ cs) (in_either (In row (step_patterns ++ cs)) row step_patterns call_patterns h
    (λ k. in_front row step_patterns cs k)
    (λ k. in_back row step_patterns cs (in_front row call_patterns strict_calls k))))

one_in_two : (words : List (List ℕ)) (row : Row) → fitting_some (patterns One) words ≡ Some row → fitting_some (patterns Two) words ≡ Some row
one_in_two [] row found = absurd (let f : None ≡ Some row = found in cc)
one_in_two (w ∷ ws) row found =
    let words : List (List ℕ) = w ∷ ws in
    member_found words (patterns Two) row (the_table Two).apart (in_two row (found_in (is_pattern_of words) (patterns One) row found)) (found_fits (patterns One) words row found)

-- all that version v has, w has
pub record Widens (tables : Tables) (v w : Version) : Type 0 where
  pub rows : (words : List (List ℕ)) (row : Row) → fitting_some (tables v) words ≡ Some row → fitting_some (tables w) words ≡ Some row
  pub most : most_of v ≤ most_of w

pub as_it_is : (tables : Tables) (v : Version) → Widens tables v v
as_it_is tables v = record { rows = λ words row found. found; most = omega arith }

pub to_two : (v : Version) → Widens patterns v Two
to_two One = record { rows = one_in_two; most = omega arith }
to_two Two = as_it_is patterns Two
