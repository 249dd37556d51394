-- Names of at most 32 bytes.
use Rattle.std.proofs.Common.{◌≡◌, ◌+◌, ◌<◌, ◌≤◌, List, [], ◌∷◌, add-one, arith, drop, drop-cons, false, get_or, length, subst, suc, sym, true, zero, ℕ, if◌then◌else◌}
use Rattle.std.specs.List.{AllByRecursion}
use Rattle.std.specs.Prelude.{slice_get, unwrap_or}
use Rattle.words_script.specs.Kinds.{kind_of, same_kind}
use Rattle.words_script.specs.declared.decl.Decl.{Decl}
use Rattle.words_script.specs.declared.decl.Decl.TheVariants as decl
use Rattle.words_script.specs.declared.name_kind.NameKind.{NameKind}
use Rattle.script_writer.specs.Names.{names_of}
use Rattle.kernel_texts.specs.Modest.{NamesAreShort}

abbrev IsShort : List ℕ → Type 0
IsShort name = length name ≤ 32

abbrev pub HasShortName : Decl → Type 0
HasShortName (decl.Named name sort) = length name ≤ 32
HasShortName (decl.Action signal handler) = Unit {0}

front_short : (of : NameKind) (d : Decl) (rest : List Decl) → HasShortName d → AllByRecursion IsShort (names_of of rest) → AllByRecursion IsShort (names_of of (d ∷ rest))
front_short of (decl.Named name sort) rest short all =
    elim (same_kind (kind_of sort) of) as (λ b. AllByRecursion IsShort (if b then name ∷ names_of of rest else names_of of rest)) [ true ↦ (short, all) | false ↦ all ]
front_short of (decl.Action signal handler) rest short all = all

-- with one more in front
pub rest_short : (of : NameKind) (decls : List Decl) (i : ℕ) (d : Decl) → i < length decls → d ≡ get_or decls i d → HasShortName d
    → AllByRecursion IsShort (names_of of (drop (i + 1) decls)) → AllByRecursion IsShort (names_of of (drop i decls))
rest_short of decls i d inside is short all =
    let next : i + 1 ≡ suc i = add-one i in
    let rest = subst (λ (n : ℕ). AllByRecursion IsShort (names_of of (drop n decls))) next all in
    let front = subst (λ (x : Decl). AllByRecursion IsShort (names_of of (x ∷ drop (suc i) decls))) is (front_short of d (drop (suc i) decls) short rest) in
    subst (λ (ds : List Decl). AllByRecursion IsShort (names_of of ds)) (sym (drop-cons decls i d inside)) front

pub none_left : (of : NameKind) (decls : List Decl) (i : ℕ) → length decls ≤ i → AllByRecursion IsShort (names_of of (drop i decls))
none_left of [] zero past = tt
none_left of [] (suc i) past = tt
none_left of (d ∷ decls) zero past = absurd (omega (arith, past))
none_left of (d ∷ decls) (suc i) past = none_left of decls i (omega (arith, past))

name_short : (names : List (List ℕ)) (k : ℕ) → AllByRecursion IsShort names → length (unwrap_or (slice_get names k) []) ≤ 32
name_short [] k all = omega arith
name_short (n ∷ names) zero all = all.0
name_short (n ∷ names) (suc k) all = name_short names k all.1

pub names_short : (decls : List Decl) → ((of : NameKind) → AllByRecursion IsShort (names_of of decls)) → NamesAreShort decls
names_short decls all = record { each = λ of k. name_short (names_of of decls) k (all of) }
