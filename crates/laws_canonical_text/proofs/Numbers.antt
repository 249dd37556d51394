-- The number of a name is its place among the names of its kind.
use Rattle.std.proofs.Common.{◌≡◌, ◌≤◌, ◌<◌, ℕ, ◌+◌, suc, List, [], ◌∷◌, ◌++◌, length, refl, sym, ◌∙◌, ap, subst, Bool, true, false, None, Some, arith, rules}
use Rattle.std.specs.Prelude.{if◌then◌else◌, slice_get}
use Rattle.std.specs.Str.{bytes_eq}
use Rattle.std.proofs.lemmas.Slice.Eq.{bytes_eq-Decides}
use Rattle.std.proofs.lemmas.Option.{slice_get_within}
use Rattle.words_script.specs.declared.decl.Decl.{Decl}
use Rattle.words_script.specs.declared.name_kind.NameKind.{NameKind}
use Rattle.words_script.specs.declared.name_kind.NameKind.TheVariants as kind
use Rattle.script_table.specs.Names.{Counts, no_counts, counted, count_of, counts_from, Entry, entry_of}
use Rattle.script_table.specs.Ranges.{is_over}
use Rattle.words_script.specs.Kinds.{same_kind}
use Rattle.script_writer.specs.Names.{names_of, name_of}

-- the names of a kind, in order of declaration
abbrev pub names_in : NameKind → List Entry → List (List ℕ)
names_in wanted [] = []
names_in wanted (e ∷ es) = if same_kind e.kind wanted then e.name ∷ names_in wanted es else names_in wanted es

-- each number is how many of its kind stand before
abbrev pub AreNumbered : Counts → List Entry → Type 0
AreNumbered c [] = Unit {0}
AreNumbered c (e ∷ es) = (e.number ≡ count_of c e.kind) × AreNumbered (counted c e.kind) es

counted_one : (c : Counts) (a b : NameKind) → count_of (counted c a) b ≡ (if same_kind a b then count_of c b + 1 else count_of c b)
counted_one c kind.Thread kind.Thread = refl
counted_one c kind.Mutex kind.Mutex = refl
counted_one c kind.Cond kind.Cond = refl
counted_one c kind.Sem kind.Sem = refl
counted_one c kind.Queue kind.Queue = refl
counted_one c kind.Timer kind.Timer = refl
counted_one c kind.Handler kind.Handler = refl
counted_one c kind.Cleanup kind.Cleanup = refl
counted_one c a b = refl

pub numbered_more : (c : Counts) (es : List Entry) (e : Entry) → AreNumbered c es → e.number ≡ count_of (counts_from c es) e.kind → AreNumbered c (es ++ e ∷ [])
numbered_more c [] e h is = (is, tt)
numbered_more c (x ∷ es) e h is = (h.0, numbered_more (counted c x.kind) es e h.1 is)

pub counts_more : (c : Counts) (es : List Entry) (e : Entry) → counts_from c (es ++ e ∷ []) ≡ counted (counts_from c es) e.kind
counts_more c [] e = refl
counts_more c (x ∷ es) e = counts_more (counted c x.kind) es e

names_case : (b : Bool) (name : List ℕ) (all front back : List (List ℕ)) → all ≡ front ++ back → (if b then name ∷ all else all) ≡ (if b then name ∷ front else front) ++ back
names_case true name all front back h = ap (λ x. name ∷ x) h
names_case false name all front back h = h

pub names_more : (wanted : NameKind) (es : List Entry) (e : Entry) → names_in wanted (es ++ e ∷ []) ≡ names_in wanted es ++ names_in wanted (e ∷ [])
names_more wanted [] e = refl
names_more wanted (x ∷ es) e = names_case (same_kind x.kind wanted) x.name (names_in wanted (es ++ e ∷ [])) (names_in wanted es) (names_in wanted (e ∷ [])) (names_more wanted es e)

-- what a name that is found has
record IsAt (c : Counts) (es : List Entry) (word : List ℕ) (e : Entry) : Type 0 where
  at : ℕ
  number : e.number ≡ count_of c e.kind + at
  name : slice_get (names_in e.kind es) at ≡ Some word

later : (c : Counts) (x : Entry) (es : List Entry) (word : List ℕ) (e : Entry) (b : Bool) → same_kind x.kind e.kind ≡ b → IsAt (counted c x.kind) es word e → IsAt c (x ∷ es) word e
later c x es word e true is h =
    let n : count_of (counted c x.kind) e.kind ≡ count_of c e.kind + 1 = counted_one c x.kind e.kind ∙ rw is refl in
    let m = h.number in
    record { at = suc h.at; number = omega arith; name = rw is h.name }
later c x es word e false is h =
    let n : count_of (counted c x.kind) e.kind ≡ count_of c e.kind = counted_one c x.kind e.kind ∙ rw is refl in
    record { at = h.at; number = h.number ∙ ap (λ k. k + h.at) n; name = rw is h.name }

own_kind : (k : NameKind) → same_kind k k ≡ true
own_kind kind.Thread = refl
own_kind kind.Mutex = refl
own_kind kind.Cond = refl
own_kind kind.Sem = refl
own_kind kind.Queue = refl
own_kind kind.Timer = refl
own_kind kind.Handler = refl
own_kind kind.Cleanup = refl

here : (c : Counts) (x : Entry) (es : List Entry) (word : List ℕ) → x.number ≡ count_of c x.kind → word ≡ x.name → IsAt c (x ∷ es) word x
here c x es word number same = record { at = 0; number = omega (arith, number); name = rw (own_kind x.kind) (ap Some (sym same)) }

at_case : (b : Bool) (c : Counts) (x : Entry) (es : List Entry) (word : List ℕ) (e : Entry) → bytes_eq word x.name ≡ b → AreNumbered c (x ∷ es) → entry_of (x ∷ es) word ≡ Some e
    → (entry_of es word ≡ Some e → IsAt (counted c x.kind) es word e) → IsAt c (x ∷ es) word e
at_case true c x es word e is h found rest =
    let f : Some x ≡ Some e = rw is at found in
    let same : x ≡ e = cc in
    let name : word ≡ x.name = search (rules, bytes_eq-Decides) in
    subst (λ y. IsAt c (x ∷ es) word y) same (here c x es word h.0 name)
at_case false c x es word e is h found rest =
    later c x es word e (same_kind x.kind e.kind) refl (rest (rw is at found))

is_at : (c : Counts) (es : List Entry) (word : List ℕ) (e : Entry) → AreNumbered c es → entry_of es word ≡ Some e → IsAt c es word e
is_at c [] word e h found = absurd (let f : None ≡ Some e = found in cc)
is_at c (x ∷ es) word e h found = at_case (bytes_eq word x.name) c x es word e refl h found (is_at (counted c x.kind) es word e h.1)

no_count : (k : NameKind) → count_of no_counts k ≡ 0
no_count kind.Thread = refl
no_count kind.Mutex = refl
no_count kind.Cond = refl
no_count kind.Sem = refl
no_count kind.Queue = refl
no_count kind.Timer = refl
no_count kind.Handler = refl
no_count kind.Cleanup = refl

-- a name's number is its place
at_number : (es : List Entry) → AreNumbered no_counts es → (word : List ℕ) (e : Entry) → entry_of es word ≡ Some e → slice_get (names_in e.kind es) e.number ≡ Some word
at_number es h word e found =
    let p = is_at no_counts es word e h found in
    let none : count_of no_counts e.kind ≡ 0 = no_count e.kind in
    let number : e.number ≡ p.at = p.number ∙ omega (arith, none) in
    rw number p.name

-- a name's number gives back the name
pub gives_name : (es : List Entry) (ds : List Decl) → AreNumbered no_counts es → ((kind : NameKind) → names_of kind ds ≡ names_in kind es)
    → (word : List ℕ) (e : Entry) → entry_of es word ≡ Some e → name_of ds e.kind e.number ≡ word
gives_name es ds h names word e found =
    let at = at_number es h word e found in
    rw (names e.kind, at) refl

-- a name's number is below how many of its kind are declared
pub is_declared : (es : List Entry) (ds : List Decl) → AreNumbered no_counts es → ((kind : NameKind) → names_of kind ds ≡ names_in kind es)
    → (word : List ℕ) (e : Entry) → entry_of es word ≡ Some e → e.number < length (names_of e.kind ds)
is_declared es ds h names word e found = rw (names e.kind) (slice_get_within (names_in e.kind es) e.number word (at_number es h word e found))

-- how many names of a kind there may be
abbrev pub most_of : NameKind → ℕ
most_of kind.Queue = 16
most_of kind.Timer = 32
most_of kind.Handler = 64
most_of kind.Cleanup = 64
most_of other = 256

pub most_of-small : (k : NameKind) → most_of k ≤ 256
most_of-small kind.Queue = omega arith
most_of-small kind.Timer = omega arith
most_of-small kind.Handler = omega arith
most_of-small kind.Cleanup = omega arith
most_of-small other = omega arith

-- there are no more than that
abbrev pub AreFew : Counts → Type 0
AreFew c = (kind : NameKind) → count_of c kind ≤ most_of kind

-- as many names as are counted
length-names_case : (b : Bool) (name : List ℕ) (names : List (List ℕ)) (n m : ℕ) → length names + (if b then n + 1 else n) ≡ m → length (if b then name ∷ names else names) + n ≡ m
length-names_case true name names n m e = omega (arith, e)
length-names_case false name names n m e = e

length-names_in : (c : Counts) (es : List Entry) (k : NameKind) → length (names_in k es) + count_of c k ≡ count_of (counts_from c es) k
length-names_in c [] k = omega arith
length-names_in c (x ∷ es) k =
    length-names_case (same_kind x.kind k) x.name (names_in k es) (count_of c k) (count_of (counts_from c (x ∷ es)) k)
    (subst (λ n. length (names_in k es) + n ≡ count_of (counts_from c (x ∷ es)) k) (counted_one c x.kind k) (length-names_in (counted c x.kind) es k))

-- how many names of a kind are declared
pub length-names : (es : List Entry) (k : NameKind) → length (names_in k es) ≡ count_of (counts_from no_counts es) k
length-names es k =
    let none = no_count k in
    let all = length-names_in no_counts es k in
    omega (arith, none, all)

grows : (n : ℕ) (b : Bool) → n ≤ (if b then n + 1 else n)
grows n true = omega arith
grows n false = omega arith

grows_by : (c : Counts) (es : List Entry) (k : NameKind) → count_of c k ≤ count_of (counts_from c es) k
grows_by c [] k = omega arith
grows_by c (x ∷ es) k =
    let one : count_of c k ≤ count_of (counted c x.kind) k = subst (λ n. count_of c k ≤ n) (sym (counted_one c x.kind k)) (grows (count_of c k) (same_kind x.kind k)) in
    let more = grows_by (counted c x.kind) es k in
    omega (arith, one, more)

below_case : (b : Bool) (c : Counts) (x : Entry) (es : List Entry) (word : List ℕ) (e : Entry) → bytes_eq word x.name ≡ b → AreNumbered c (x ∷ es) → entry_of (x ∷ es) word ≡ Some e
    → (entry_of es word ≡ Some e → e.number < count_of (counts_from (counted c x.kind) es) e.kind) → e.number < count_of (counts_from c (x ∷ es)) e.kind
below_case true c x es word e is h found rest =
    let f : Some x ≡ Some e = rw is at found in
    let same : x ≡ e = cc in
    let one : count_of (counted c x.kind) x.kind ≡ count_of c x.kind + 1 = counted_one c x.kind x.kind ∙ rw (own_kind x.kind) refl in
    let more = grows_by (counted c x.kind) es x.kind in
    let number = h.0 in
    subst (λ y. y.number < count_of (counts_from c (x ∷ es)) y.kind) same (omega (arith, one, more, number))
below_case false c x es word e is h found rest = rest (rw is at found)

-- a name's number is below how many there are
pub number_below : (c : Counts) (es : List Entry) (word : List ℕ) (e : Entry) → AreNumbered c es → entry_of es word ≡ Some e → e.number < count_of (counts_from c es) e.kind
number_below c [] word e h found = absurd (let f : None ≡ Some e = found in cc)
number_below c (x ∷ es) word e h found = below_case (bytes_eq word x.name) c x es word e refl h found (number_below (counted c x.kind) es word e h.1)

few_one : (c : Counts) (a b : NameKind) → AreFew c → is_over 256 (counted c a) a ≡ false → count_of (counted c a) b ≤ most_of b
few_one c kind.Thread kind.Thread h e = search rules
few_one c kind.Mutex kind.Mutex h e = search rules
few_one c kind.Cond kind.Cond h e = search rules
few_one c kind.Sem kind.Sem h e = search rules
few_one c kind.Queue kind.Queue h e = search rules
few_one c kind.Timer kind.Timer h e = search rules
few_one c kind.Handler kind.Handler h e = let f : (c.handlers + 1) + c.cleanups ≤ 64 = search rules in omega arith
few_one c kind.Cleanup kind.Cleanup h e = let f : c.handlers + (c.cleanups + 1) ≤ 64 = search rules in omega arith
few_one c a b h e = h b

-- one more that is not too many
pub few_more : (c : Counts) (kind : NameKind) → AreFew c → is_over 256 (counted c kind) kind ≡ false → AreFew (counted c kind)
few_more c kind h e other = few_one c kind other h e
