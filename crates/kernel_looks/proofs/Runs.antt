-- A look over many facts that tell nothing.
use Rattle.std.proofs.Common.{◌≡◌, ◌∙◌, ◌+◌, ◌<◌, ◌≤◌, List, [], ◌∷◌, ◌++◌, ap, append-nil, append_assoc, arith, false, length, refl, subst, suc, sym, zero, ℕ}
use Rattle.std.specs.Prelude.{slice_index_or}
use Rattle.words_script.specs.declared.decl.Decl.{Decl}
use Rattle.parts_texts.specs.Texts.{Next}
use Rattle.kernel_texts.specs.Kept.{kept_below}
use Rattle.kernel_seen.specs.FactSeen.{IsMemoryOf, may_tell}
use Rattle.kernel_looks.specs.Nothings.{WentKnown, nothings}
use Rattle.kernel_looks.specs.Desk.{Went, WentOn}
use Rattle.kernel_looks.specs.declared.desk.Desk.{Desk}
use Rattle.kernel_looks.proofs.Looking.{went_both, went_none, went_same}

abbrev no_bytes : List ℕ
no_bytes = []

abbrev no_texts : List (List ℕ)
no_texts = []

abbrev no_next : Next
no_next = record { text = []; room = 0; faults = 0 }

-- ---- empty texts

pub nothings_sum : (a b n : ℕ) → n ≡ a + b → nothings n ≡ nothings a ++ nothings b
nothings_sum a zero n is = let same : n ≡ a = omega (arith, is) in ap nothings same ∙ sym (append-nil (nothings a))
nothings_sum a (suc b) n is =
    let more : n ≡ suc (a + b) = omega (arith, is) in
    ap nothings more ∙ ap (λ (ts : List (List ℕ)). ts ++ [] ∷ []) (nothings_sum a b (a + b) refl) ∙ append_assoc (nothings a) (nothings b) ([] ∷ [])

-- one text for each number, where each is empty
pub kept_nothing : (f : ℕ → List ℕ) (n : ℕ) → ((i : ℕ) → i < n → f i ≡ []) → kept_below (λ (i : ℕ). f i ∷ []) n ≡ nothings n
kept_nothing f zero none = refl
kept_nothing f (suc n) none =
    ap (λ (ts : List (List ℕ)). ts ++ f n ∷ []) (kept_nothing f n (λ i low. none i (omega (arith, low))))
    ∙ ap (λ (t : List ℕ). nothings n ++ t ∷ []) (none n (omega arith))

-- ---- one after the other

pub on_one : (one : Next) (a b : Desk) (due : List (List ℕ)) → Went a b due → WentOn one one a b due
on_one one a b due h = record { before = h.before; looked = h.looked; same = h.same; same_room = refl; roomy = λ space. h.roomy one.room space }

pub known_none : (d : Desk) → WentKnown d d []
known_none d = record { went = λ decls h one. went_none one d; seen = λ decls h. h }

pub known_both : (a b c : Desk) (xs ys : List (List ℕ)) → WentKnown a b xs → WentKnown b c ys → WentKnown a c (xs ++ ys)
known_both a b c xs ys first second = record {
  went = λ decls h one. went_both one one one a b c xs ys (first.went decls h one) (second.went decls (first.seen decls h) one);
  seen = λ decls h. second.seen decls (first.seen decls h);
}

pub known_one : (a b : Desk) → Went a b ([] ∷ []) → ((decls : List Decl) → IsMemoryOf decls a.told.texts a.seen → IsMemoryOf decls b.told.texts b.seen) → WentKnown a b ([] ∷ [])
known_one a b went seen = record { went = λ decls h one. on_one one a b ([] ∷ []) went; seen = seen }

-- ---- facts that told nothing

-- so many texts were told
pub run_over : (one : Next) (f : ℕ → List ℕ) (n : ℕ) (d e : Desk) → ((i : ℕ) → i < n → slice_index_or d.told.texts (d.at + i) [] ≡ f i) → d.at + n ≤ length d.told.texts → d.at + n ≤ length d.subjects.texts
    → e ≡ record d { at = d.at + n } → WentOn one one d e (kept_below (λ (i : ℕ). f i ∷ []) n)
run_over one f zero d e same told subjects is =
    let here : d.at + 0 ≡ d.at = omega arith in
    subst (λ (x : Desk). WentOn one one d x []) (sym (is ∙ ap (λ (n : ℕ). record d { at = n }) here)) (went_none one d)
run_over one f (suc n) d e same told subjects is =
    let mid : Desk = record d { at = d.at + n } in
    let more : d.at + suc n ≡ d.at + n + 1 = omega arith in
    went_both one one one d mid e (kept_below (λ (i : ℕ). f i ∷ []) n) (f n ∷ []) (run_over one f n d mid (λ i low. same i (omega (arith, low))) (omega (arith, told)) (omega (arith, subjects)) refl)
    (on_one one mid e (f n ∷ []) (went_same mid e (f n) (omega (arith, told)) (omega (arith, subjects)) (same n (omega arith)) (is ∙ ap (λ (k : ℕ). record d { at = k }) more)))

-- so many empty texts were told
pub run_on : (one : Next) (n : ℕ) (d e : Desk) → ((i : ℕ) → i < n → slice_index_or d.told.texts (d.at + i) [] ≡ []) → d.at + n ≤ length d.told.texts → d.at + n ≤ length d.subjects.texts
    → e ≡ record d { at = d.at + n } → WentOn one one d e (nothings n)
run_on one n d e none told subjects is = run_over one (λ (i : ℕ). no_bytes) n d e none told subjects is

-- and their bits are clear
pub known_quiet : (d e : Desk) (n : ℕ) → ((i : ℕ) → i < n → may_tell (d.at + i) d.seen.busy ≡ false) → d.at + n ≤ length d.told.texts → d.at + n ≤ length d.subjects.texts
    → e ≡ record d { at = d.at + n } → WentKnown d e (nothings n)
known_quiet d e n quiet told subjects is = record {
  went = λ decls h one. run_on one n d e (λ i low. h.quiet (d.at + i) (quiet i low)) told subjects is;
  seen = λ decls h. subst (λ (x : Desk). IsMemoryOf decls x.told.texts x.seen) (sym is) (record { told = h.told; quiet = h.quiet });
}
