-- Canonical lines have no fault of phase 2 where the lines have none.
use Rattle.std.proofs.Common.{◌≡◌, ℕ, List, [], ◌∷◌, ◌++◌, refl, sym, ◌∙◌, ap, Bool, true, false, Option, None, Some}
use Rattle.std.specs.Prelude.{nat_lt, ◌&&◌, if◌then◌else◌}
use Rattle.std.specs.Str.{bytes_eq}
use Rattle.script_table.specs.declared.faults.FaultKind.{FaultKind}
use Rattle.script_table.specs.declared.faults.FaultKind.TheVariants.{DuplicateName}
use Rattle.words_script.specs.declared.name_kind.NameKind.{NameKind}
use Rattle.words_script.specs.declared.name_kind.NameKind.TheVariants as kind
use Rattle.script_table.specs.Faults.{faults_at, fault}
use Rattle.words_script.specs.Kinds.{same_kind}
use Rattle.script_table.specs.Patterns.{Spot, Keyword, Answer, Number, Operand, Declares, Uses, Signal, Acts, Signals}
use Rattle.script_table.specs.LineFaults.{place_faults}
use Rattle.script_table.specs.Structure.{Said}
use Rattle.script_table.specs.Operands.{number_of_kind}
use Rattle.script_table.specs.Names.{Counts, no_counts, counted, count_of, counts_from, Entry, entry_of, with_name, Declared, nothing_declared, with_declaration, declared_at, declared_from, declared, duplicate, used, name_fault, name_faults, phase_two}
use Rattle.laws_canonical_text.specs.Canonical.{canonical_word, canonical_words}
use Rattle.laws_canonical_text.specs.Laws.{AreAnew}
use Rattle.laws_canonical_text.proofs.Places.{both_none}

-- numbers of lines that stand for one another have the same order
abbrev pub InOrder : (ℕ → ℕ → Type 0) → Type 0
InOrder R = (a b c d : ℕ) → R a b → R c d → nat_lt a c ≡ nat_lt b d

-- the same entry, on lines that stand for one another
record Alike (R : ℕ → ℕ → Type 0) (e x : Entry) : Type 0 where
  name : x.name ≡ e.name
  kind : x.kind ≡ e.kind
  number : x.number ≡ e.number
  lines : R e.line x.line

abbrev AllAlike : (R : ℕ → ℕ → Type 0) → List Entry → List Entry → Type 0
AllAlike R [] [] = Unit {0}
AllAlike R [] (x ∷ xs) = ⊥
AllAlike R (e ∷ es) [] = ⊥
AllAlike R (e ∷ es) (x ∷ xs) = Alike R e x × AllAlike R es xs

abbrev Found : (R : ℕ → ℕ → Type 0) → Option Entry → Option Entry → Type 0
Found R None None = Unit {0}
Found R None (Some x) = ⊥
Found R (Some e) None = ⊥
Found R (Some e) (Some x) = Alike R e x

found_case : (R : ℕ → ℕ → Type 0) (b : Bool) (name : List ℕ) (e x : Entry) (es xs : List Entry) → bytes_eq name e.name ≡ b → Alike R e x → Found R (entry_of es name) (entry_of xs name)
    → Found R (entry_of (e ∷ es) name) (entry_of (x ∷ xs) name)
found_case R true name e x es xs is same rest =
    let other : bytes_eq name x.name ≡ true = ap (bytes_eq name) same.name ∙ is in
    rw (is, other) same
found_case R false name e x es xs is same rest =
    let other : bytes_eq name x.name ≡ false = ap (bytes_eq name) same.name ∙ is in
    rw (is, other) rest

found_alike : (R : ℕ → ℕ → Type 0) (name : List ℕ) (es xs : List Entry) → AllAlike R es xs → Found R (entry_of es name) (entry_of xs name)
found_alike R name [] [] h = tt
found_alike R name [] (x ∷ xs) h = absurd h
found_alike R name (e ∷ es) [] h = absurd h
found_alike R name (e ∷ es) (x ∷ xs) h = found_case R (bytes_eq name e.name) name e x es xs refl h.0 (found_alike R name es xs h.1)

counts_alike : (R : ℕ → ℕ → Type 0) (c : Counts) (es xs : List Entry) → AllAlike R es xs → counts_from c xs ≡ counts_from c es
counts_alike R c [] [] h = refl
counts_alike R c [] (x ∷ xs) h = absurd h
counts_alike R c (e ∷ es) [] h = absurd h
counts_alike R c (e ∷ es) (x ∷ xs) h =
    ap (λ k. counts_from (counted c k) xs) h.0.kind ∙ counts_alike R (counted c e.kind) es xs h.1

push_alike : (R : ℕ → ℕ → Type 0) (es xs : List Entry) (e x : Entry) → AllAlike R es xs → Alike R e x → AllAlike R (es ++ e ∷ []) (xs ++ x ∷ [])
push_alike R [] [] e x h same = (same, tt)
push_alike R [] (y ∷ xs) e x h same = absurd h
push_alike R (y ∷ es) [] e x h same = absurd h
push_alike R (y ∷ es) (z ∷ xs) e x h same = (h.0, push_alike R es xs e x h.1 same)

with_case : (R : ℕ → ℕ → Type 0) (a b : Option Entry) (n m : ℕ) (kind : NameKind) (name : List ℕ) (es xs : List Entry)
    → entry_of es name ≡ a → entry_of xs name ≡ b → Found R a b → R n m → AllAlike R es xs → AllAlike R (with_name es n kind name) (with_name xs m kind name)
with_case R None None n m kind name es xs p q found same h =
    let counts = counts_alike R no_counts es xs h in
    rw (p, q) (push_alike R es xs _ _ h (record { name = refl; kind = refl; number = ap (λ c. count_of c kind) counts; lines = same }))
with_case R None (Some x) n m kind name es xs p q found same h = absurd found
with_case R (Some e) None n m kind name es xs p q found same h = absurd found
with_case R (Some e) (Some x) n m kind name es xs p q found same h = rw (p, q) h

with_alike : (R : ℕ → ℕ → Type 0) (n m : ℕ) (kind : NameKind) (name : List ℕ) (es xs : List Entry) → R n m → AllAlike R es xs → AllAlike R (with_name es n kind name) (with_name xs m kind name)
with_alike R n m kind name es xs same h = with_case R (entry_of es name) (entry_of xs name) n m kind name es xs refl refl (found_alike R name es xs h) same h

record AlikeDeclared (R : ℕ → ℕ → Type 0) (d x : Declared) : Type 0 where
  names : AllAlike R d.names x.names
  actions : AllAlike R d.actions x.actions

declaring_alike : (R : ℕ → ℕ → Type 0) (n m : ℕ) (spot : Spot) (word : List ℕ) (d x : Declared) → R n m → AlikeDeclared R d x → AlikeDeclared R (with_declaration d n spot word) (with_declaration x m spot (canonical_word spot word))
declaring_alike R n m (Keyword k) word d x same h = h
declaring_alike R n m Answer word d x same h = h
declaring_alike R n m (Number low high) word d x same h = h
declaring_alike R n m Operand word d x same h = h
declaring_alike R n m (Declares kind) word d x same h = record { names = with_alike R n m kind word d.names x.names same h.names; actions = h.actions }
declaring_alike R n m (Uses kind) word d x same h = h
declaring_alike R n m Signal word d x same h = h
declaring_alike R n m Acts word d x same h = record { names = h.names; actions = with_alike R n m kind.Handler word d.actions x.actions same h.actions }
declaring_alike R n m Signals word d x same h = h

at_alike : (R : ℕ → ℕ → Type 0) (n m : ℕ) (spots : List Spot) (words : List (List ℕ)) (d x : Declared) → R n m → AlikeDeclared R d x → AlikeDeclared R (declared_at d n spots words) (declared_at x m spots (canonical_words spots words))
at_alike R n m [] words d x same h = h
at_alike R n m (spot ∷ spots) [] d x same h = h
at_alike R n m (spot ∷ spots) (word ∷ words) d x same h =
    at_alike R n m spots words (with_declaration d n spot word) (with_declaration x m spot (canonical_word spot word)) same (declaring_alike R n m spot word d x same h)

duplicate_alike : (R : ℕ → ℕ → Type 0) → InOrder R → (n m : ℕ) (a b : Option Entry) → R n m → Found R a b → duplicate m b ≡ duplicate n a
duplicate_alike R order n m None None same h = refl
duplicate_alike R order n m None (Some x) same h = absurd h
duplicate_alike R order n m (Some e) None same h = absurd h
duplicate_alike R order n m (Some e) (Some x) same h =
    ap (λ b. if b then Some DuplicateName else None) (sym (order e.line x.line n m h.lines same))

used_alike : (R : ℕ → ℕ → Type 0) (kind : NameKind) (a b : Option Entry) → Found R a b → used kind b ≡ used kind a
used_alike R kind None None h = refl
used_alike R kind None (Some x) h = absurd h
used_alike R kind (Some e) None h = absurd h
used_alike R kind (Some e) (Some x) h = ap (λ (k : NameKind). used kind (Some (record e { kind = k }))) h.kind

naming_alike : (R : ℕ → ℕ → Type 0) → InOrder R → (n m : ℕ) (spot : Spot) (word : List ℕ) (d x : Declared) → R n m → AlikeDeclared R d x → name_fault x m spot (canonical_word spot word) ≡ name_fault d n spot word
naming_alike R order n m (Keyword k) word d x same h = refl
naming_alike R order n m Answer word d x same h = refl
naming_alike R order n m (Number low high) word d x same h = refl
naming_alike R order n m Operand word d x same h = refl
naming_alike R order n m (Declares kind) word d x same h = duplicate_alike R order n m (entry_of d.names word) (entry_of x.names word) same (found_alike R word d.names x.names h.names)
naming_alike R order n m (Uses kind) word d x same h = used_alike R kind (entry_of d.names word) (entry_of x.names word) (found_alike R word d.names x.names h.names)
naming_alike R order n m Signal word d x same h = refl
naming_alike R order n m Acts word d x same h = duplicate_alike R order n m (entry_of d.actions word) (entry_of x.actions word) same (found_alike R word d.actions x.actions h.actions)
naming_alike R order n m Signals word d x same h = refl

faults_alike : (R : ℕ → ℕ → Type 0) → InOrder R → (n m : ℕ) (spots : List Spot) (words : List (List ℕ)) (d x : Declared) → R n m → AlikeDeclared R d x
    → place_faults (name_fault x m) spots (canonical_words spots words) ≡ place_faults (name_fault d n) spots words
faults_alike R order n m [] words d x same h = refl
faults_alike R order n m (spot ∷ spots) [] d x same h = refl
faults_alike R order n m (spot ∷ spots) (word ∷ words) d x same h =
    rw (naming_alike R order n m spot word d x same h, faults_alike R order n m spots words d x same h) refl

-- statements whose lines stand for one another
abbrev pub Lined : (ℕ → ℕ → Type 0) → List Said → List Said → Type 0
Lined R [] [] = Unit {0}
Lined R [] (x ∷ ts) = ⊥
Lined R (s ∷ ss) [] = ⊥
Lined R (s ∷ ss) (x ∷ ts) = R s.line x.line × Lined R ss ts

from_alike : (R : ℕ → ℕ → Type 0) (ss ts : List Said) (d x : Declared) → AreAnew ss ts → Lined R ss ts → AlikeDeclared R d x → AlikeDeclared R (declared_from d ss) (declared_from x ts)
from_alike R [] [] d x anew lined h = h
from_alike R [] (y ∷ ts) d x anew lined h = absurd anew
from_alike R (s ∷ ss) [] d x anew lined h = absurd anew
from_alike R (s ∷ ss) (y ∷ ts) d x anew lined h =
    rw (anew.0.pattern, anew.0.words)
    (from_alike R ss ts (declared_at d s.line s.row.places s.words) (declared_at x y.line s.row.places (canonical_words s.row.places s.words)) anew.1 lined.1
    (at_alike R s.line y.line s.row.places s.words d x lined.0 h))

pub no_kinds : (n : ℕ) (kinds : List FaultKind) → faults_at 2 n kinds ≡ [] → kinds ≡ []
no_kinds n [] e = refl
no_kinds n (k ∷ ks) e = absurd (let f : (fault 2 n k ∷ faults_at 2 n ks) ≡ [] = e in cc)

phase_alike : (R : ℕ → ℕ → Type 0) → InOrder R → (ss ts : List Said) (d x : Declared) → AreAnew ss ts → Lined R ss ts → AlikeDeclared R d x → phase_two d ss ≡ [] → phase_two x ts ≡ []
phase_alike R order [] [] d x anew lined h e = refl
phase_alike R order [] (y ∷ ts) d x anew lined h e = absurd anew
phase_alike R order (s ∷ ss) [] d x anew lined h e = absurd anew
phase_alike R order (s ∷ ss) (y ∷ ts) d x anew lined h e =
    let split = both_none (faults_at 2 s.line (name_faults d s)) (phase_two d ss) e in
    let own = no_kinds s.line (name_faults d s) split.0 in
    let same = faults_alike R order s.line y.line s.row.places s.words d x lined.0 h in
    let rest = phase_alike R order ss ts d x anew.1 lined.1 h split.1 in
    rw (anew.0.pattern, anew.0.words, same, own, rest) refl

pub names_alike : (R : ℕ → ℕ → Type 0) → InOrder R → (ss ts : List Said) → AreAnew ss ts → Lined R ss ts → phase_two (declared ss) ss ≡ [] → phase_two (declared ts) ts ≡ []
names_alike R order ss ts anew lined e =
    phase_alike R order ss ts (declared ss) (declared ts) anew lined
    (from_alike R ss ts nothing_declared nothing_declared anew lined (record { names = tt; actions = tt })) e

number_alike : (R : ℕ → ℕ → Type 0) (kind : NameKind) (a b : Option Entry) → Found R a b → number_of_kind kind b ≡ number_of_kind kind a
number_alike R kind None None h = refl
number_alike R kind None (Some x) h = absurd h
number_alike R kind (Some e) None h = absurd h
number_alike R kind (Some e) (Some x) h =
    ap (λ (k : NameKind). if same_kind k kind && nat_lt x.number 256 then Some x.number else None) h.kind
    ∙ ap (λ n. if same_kind e.kind kind && nat_lt n 256 then Some n else None) h.number

-- two lists of statements of one length have lines at the same places
any_lined : (ss ts : List Said) → AreAnew ss ts → Lined (λ a b. Unit {0}) ss ts
any_lined [] [] h = tt
any_lined [] (x ∷ ts) h = absurd h
any_lined (s ∷ ss) [] h = absurd h
any_lined (s ∷ ss) (x ∷ ts) h = (tt, any_lined ss ts h.1)

-- the names of statements that are said anew have the same numbers
pub numbers_alike : (ss ts : List Said) → AreAnew ss ts → (kind : NameKind) (word : List ℕ)
    → number_of_kind kind (entry_of (declared ts).names word) ≡ number_of_kind kind (entry_of (declared ss).names word)
numbers_alike ss ts anew kind word =
    let R : ℕ → ℕ → Type 0 = λ a b. Unit {0} in
    let h = from_alike R ss ts nothing_declared nothing_declared anew (any_lined ss ts anew) (record { names = tt; actions = tt }) in
    number_alike R kind (entry_of (declared ss).names word) (entry_of (declared ts).names word) (found_alike R word (declared ss).names (declared ts).names h.names)
