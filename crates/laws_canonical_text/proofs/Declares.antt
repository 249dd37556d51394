-- Which lines declare a name, and of what kind.
use Rattle.std.proofs.Common.{◌≡◌, ℕ, List, [], ◌∷◌, refl, ◌∙◌, ap, Bool, true, false, not, Option, None, Some}
use Rattle.std.specs.Prelude.{◌&&◌}
use Rattle.std.specs.List.{list_all}
use Rattle.script_lex.proofs.Rejoined.{both}
use Rattle.script_table.specs.declared.form.Form.{Form}
use Rattle.script_table.specs.declared.form.Form.TheVariants as form
use Rattle.words_script.specs.declared.name_kind.NameKind.{NameKind}
use Rattle.words_script.specs.declared.name_kind.NameKind.TheVariants as kind
use Rattle.words_script.specs.Kinds.{same_kind}
use Rattle.script_table.specs.Patterns.{Spot, Declares, Uses, Row}
use Rattle.script_table.specs.LineFaults.{stands, fits}
use Rattle.script_table.specs.Structure.{body_kind}
use Rattle.script_table.specs.Ranges.{object_kind}
use Rattle.script_table.specs.Names.{Entry, with_name, Declared, with_declaration, declared_at}
use Rattle.laws_canonical_text.proofs.Shape.{first, rest}

-- the kind of the thing that a line declares
abbrev pub declared_kind : Form → Option NameKind
declared_kind (form.Object f) = Some (object_kind f)
declared_kind (form.Body f) = Some (body_kind f)
declared_kind other = None

abbrev is_declaring : Spot → Bool
is_declaring (Declares kind) = true
is_declaring other = false

abbrev is_using : Spot → Bool
is_using (Uses kind) = true
is_using other = false

abbrev no_declares : List Spot → Bool
no_declares spots = list_all (λ s. not (is_declaring s)) spots

abbrev pub no_uses : List Spot → Bool
no_uses spots = list_all (λ s. not (is_using s)) spots

-- a line declares its second word, and uses no name; or it declares none
abbrev pub by_kind : Option NameKind → List Spot → Bool
by_kind None spots = no_declares spots
by_kind (Some k) [] = false
by_kind (Some k) (s ∷ []) = false
by_kind (Some k) (s ∷ Declares j ∷ spots) = same_kind j k && (not (is_declaring s) && (no_declares spots && no_uses (s ∷ Declares j ∷ spots)))
by_kind (Some k) (s ∷ other ∷ spots) = false

abbrev pub declares_rightly : Row → Bool
declares_rightly row = by_kind (declared_kind row.form) row.places

pub same_kind_is : (a b : NameKind) → same_kind a b ≡ true → a ≡ b
same_kind_is kind.Thread kind.Thread e = refl
same_kind_is kind.Mutex kind.Mutex e = refl
same_kind_is kind.Cond kind.Cond e = refl
same_kind_is kind.Sem kind.Sem e = refl
same_kind_is kind.Queue kind.Queue e = refl
same_kind_is kind.Timer kind.Timer e = refl
same_kind_is kind.Handler kind.Handler e = refl
same_kind_is kind.Cleanup kind.Cleanup e = refl
same_kind_is a b e = absurd (let f : false ≡ true = e in cc)

-- the names after a line
abbrev pub names_after : List Entry → ℕ → Option NameKind → List (List ℕ) → List Entry
names_after es n None words = es
names_after es n (Some k) words = with_name es n k (first (rest words))

one_undeclared : (d : Declared) (n : ℕ) (spot : Spot) (word : List ℕ) → not (is_declaring spot) ≡ true → (with_declaration d n spot word).names ≡ d.names
one_undeclared d n (Declares kind) word e = absurd (let f : false ≡ true = e in cc)
one_undeclared d n other word e = refl

none_declared : (d : Declared) (n : ℕ) (spots : List Spot) (words : List (List ℕ)) → no_declares spots ≡ true → (declared_at d n spots words).names ≡ d.names
none_declared d n [] words e = refl
none_declared d n (spot ∷ spots) [] e = refl
none_declared d n (spot ∷ spots) (word ∷ words) e =
    let h = both (not (is_declaring spot)) (no_declares spots) e in
    none_declared (with_declaration d n spot word) n spots words h.1 ∙ one_undeclared d n spot word h.0

pub declared_names : (d : Declared) (n : ℕ) (k : Option NameKind) (spots : List Spot) (words : List (List ℕ)) → by_kind k spots ≡ true → fits spots words ≡ true
    → (declared_at d n spots words).names ≡ names_after d.names n k words
declared_names d n None spots words e fit = none_declared d n spots words e
declared_names d n (Some k) [] words e fit = absurd (let f : false ≡ true = e in cc)
declared_names d n (Some k) (s ∷ []) words e fit = absurd (let f : false ≡ true = e in cc)
declared_names d n (Some k) (s ∷ Declares j ∷ spots) [] e fit = absurd (let f : false ≡ true = fit in cc)
declared_names d n (Some k) (s ∷ Declares j ∷ spots) (w ∷ []) e fit = absurd (let f : false ≡ true = (both (stands s w) false fit).1 in cc)
declared_names d n (Some k) (s ∷ Declares j ∷ spots) (w ∷ v ∷ words) e fit =
    let a = both (same_kind j k) (not (is_declaring s) && (no_declares spots && no_uses (s ∷ Declares j ∷ spots))) e in
    let b = both (not (is_declaring s)) (no_declares spots && no_uses (s ∷ Declares j ∷ spots)) a.1 in
    let c = both (no_declares spots) (no_uses (s ∷ Declares j ∷ spots)) b.1 in
    none_declared (with_declaration (with_declaration d n s w) n (Declares j) v) n spots words c.0
    ∙ (ap (λ es. with_name es n j v) (one_undeclared d n s w b.0) ∙ ap (λ k. with_name d.names n k v) (same_kind_is j k a.0))
declared_names d n (Some k) (s ∷ other ∷ spots) words e fit = absurd (let f : false ≡ true = e in cc)
