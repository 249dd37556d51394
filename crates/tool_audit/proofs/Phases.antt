-- One line of phase 2.
use Rattle.std.proofs.Common.{◌≡◌, ℕ, suc, ◌+◌, ◌<◌, List, [], ◌∷◌, ◌++◌, length, get_or, take, drop, true, false, Bool, Some, sym, add-one, drop-cons, ap, ◌∙◌, arith}
use Rattle.std.specs.Prelude.{slice_get, map, not, ◌||◌, if◌then◌else◌}
use Rattle.std.specs.Borrow.{Bor}
use Rattle.std.specs.Str.{bytes_eq}
use Rattle.std.proofs.lemmas.List.{map-append}
use Rattle.std.specs.List.{list_any}
use Rattle.std.proofs.lemmas.Grind.{common_steps}
use Rattle.tool_audit.specs.declared.fault.HeadFault.TheVariants.{DuplicateName}
use Rattle.tool_audit.specs.Faults.{Fault, faults_at}
use Rattle.tool_audit.specs.Head.{Said, names_of, name_faults, phase_two}

-- the line at i stands first among those ahead
pub ahead : (xs : List Said) (i : ℕ) (s : Said) → i < length xs → s ≡ get_or xs i s → drop i xs ≡ s ∷ drop (i + 1) xs
ahead xs i s lt is = rw add-one (drop-cons xs i s lt ∙ ap (λ (x : Said). x ∷ drop (suc i) xs) (sym is))

pub behind : (xs : List Said) (i : ℕ) (s : Said) → i < length xs → s ≡ get_or xs i s → take (i + 1) xs ≡ take i xs ++ s ∷ []
behind xs i s lt is = grind (arith, common_steps)

two_step : (xs : List Said) (i : ℕ) (s : Said) (all : List Fault) → i < length xs → s ≡ get_or xs i s → phase_two (take i xs) (drop i xs) ≡ all →
    faults_at s.line (name_faults (take i xs) s) ++ phase_two (take (i + 1) xs) (drop (i + 1) xs) ≡ all
two_step xs i s all lt is so_far =
    rw (behind xs i s lt is) (rw (ahead xs i s lt is) at so_far)

abbrev pub read_at : Bor (List ℕ) → List ℕ
read_at k = k.now

among : (keys : List (Bor (List ℕ))) (k : Bor (List ℕ)) → list_any (λ x. bytes_eq k.now x.now) keys ≡ list_any (bytes_eq k.now) (map read_at keys)
among [] k = λ i. false
among (x ∷ keys) k = ap (λ b. bytes_eq k.now x.now || b) (among keys k)

-- a set of names that has those of the lines before, and whether the name was new when it was put in
pub record Puts (xs : List Said) (i : ℕ) (s : Said) (old new : List (Bor (List ℕ))) (k : Bor (List ℕ)) (added : Bool) : Type 0 where
  pub within : i < length xs
  pub stands : s ≡ get_or xs i s
  pub name : k.now ≡ s.server.name
  pub before : map read_at old ≡ names_of (take i xs)
  pub added_is : added ≡ not (list_any (λ x. bytes_eq k.now x.now) old)
  pub keys : new ≡ (if list_any (λ x. bytes_eq k.now x.now) old then old else old ++ k ∷ [])

turned : (a b : Bool) → a ≡ not b → b ≡ not a
turned a true e = ap not (sym e)
turned a false e = ap not (sym e)

was_there : (xs : List Said) (i : ℕ) (s : Said) (old new : List (Bor (List ℕ))) (k : Bor (List ℕ)) (added : Bool) → Puts xs i s old new k added →
    list_any (bytes_eq s.server.name) (names_of (take i xs)) ≡ list_any (λ x. bytes_eq k.now x.now) old
was_there xs i s old new k added puts =
    ap (λ (n : List ℕ). list_any (bytes_eq n) (names_of (take i xs))) (sym puts.name)
    ∙ (ap (λ (ns : List (List ℕ)). list_any (bytes_eq k.now) ns) (sym puts.before) ∙ sym (among old k))

-- past a line with a new name
pub name_is_new : (xs : List Said) (i : ℕ) (s : Said) (old new : List (Bor (List ℕ))) (k : Bor (List ℕ)) (added : Bool) (all : List Fault) →
    Puts xs i s old new k added → added ≡ true → phase_two (take i xs) (drop i xs) ≡ all →
    (phase_two (take (i + 1) xs) (drop (i + 1) xs) ≡ all) × (map read_at new ≡ names_of (take (i + 1) xs))
name_is_new xs i s old new k added all puts fresh so_far =
    let none : list_any (λ x. bytes_eq k.now x.now) old ≡ false = turned _ _ puts.added_is ∙ ap not fresh in
    let faults = rw (was_there xs i s old new k added puts ∙ none) at (two_step xs i s all puts.within puts.stands so_far) in
    let grown : new ≡ old ++ k ∷ [] = puts.keys ∙ ap (λ (b : Bool). if b then old else old ++ k ∷ []) none in
    let more : names_of (take (i + 1) xs) ≡ names_of (take i xs) ++ s.server.name ∷ [] =
    ap names_of (behind xs i s puts.within puts.stands) ∙ map-append (λ (x : Said). x.server.name) (take i xs) (s ∷ []) in
    let here : map read_at new ≡ map read_at old ++ k.now ∷ [] = ap (map read_at) grown ∙ map-append read_at old (k ∷ []) in
    let same : map read_at old ++ k.now ∷ [] ≡ names_of (take i xs) ++ s.server.name ∷ [] =
    ap (λ (ns : List (List ℕ)). ns ++ k.now ∷ []) puts.before ∙ ap (λ (n : List ℕ). names_of (take i xs) ++ n ∷ []) puts.name in
    (faults, here ∙ (same ∙ sym more))

-- at a line whose name is declared before it
pub name_is_old : (xs : List Said) (i : ℕ) (s : Said) (old new : List (Bor (List ℕ))) (k : Bor (List ℕ)) (added : Bool) (all : List Fault) →
    Puts xs i s old new k added → added ≡ false → phase_two (take i xs) (drop i xs) ≡ all →
    slice_get all 0 ≡ Some (record { line = s.line; kind = DuplicateName })
name_is_old xs i s old new k added all puts stale so_far =
    let there : list_any (λ x. bytes_eq k.now x.now) old ≡ true = turned _ _ puts.added_is ∙ ap not stale in
    let here = rw (was_there xs i s old new k added puts ∙ there) at (two_step xs i s all puts.within puts.stands so_far) in
    ap (λ (fs : List Fault). slice_get fs 0) (sym here)
