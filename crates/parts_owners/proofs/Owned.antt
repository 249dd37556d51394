-- The mutexes that an owner has, looked at one by one.
use Rattle.std.proofs.Common.{Bool, List, arith, drop, false, get_or, length, true, ℕ, ◌+◌, ◌<◌, ◌∷◌, ◌≡◌, refl}
use Rattle.std.specs.Prelude.{filter, if◌then◌else◌, ◌&&◌}
use Rattle.std.specs.List.{list_any}
use Rattle.std.proofs.lemmas.List.{drop_more}
use Rattle.rules_machine.specs.Lists.{is}
use Rattle.rules_machine.specs.Mutexes.{is_boosting}
use Rattle.rules_machine.specs.State.{Mutex}

-- whether the thread owns a boosting one of these
abbrev pub owns_one : ℕ → List Mutex → Bool
owns_one t mutexes = list_any (λ (k : Mutex). is_boosting k.protocol) (filter (λ (k : Mutex). is k.owner t) mutexes)

passed : (a b : Bool) (m : Mutex) (t : ℕ) (ms : List Mutex) → is m.owner t ≡ a → is_boosting m.protocol ≡ b → (a && b) ≡ false → owns_one t ms ≡ owns_one t (m ∷ ms)
passed true true m t ms p q h = absurd (grind arith)
passed true false m t ms p q h = grind (arith, p, q)
passed false b m t ms p q h = grind (arith, p)

taken : (a b : Bool) (m : Mutex) (t : ℕ) (ms : List Mutex) → is m.owner t ≡ a → is_boosting m.protocol ≡ b → (a && b) ≡ true → owns_one t (m ∷ ms) ≡ true
taken true true m t ms p q h = grind (arith, p, q)
taken true false m t ms p q h = absurd (grind arith)
taken false b m t ms p q h = absurd (grind arith)

pub none_more : (t i : ℕ) (mutexes : List Mutex) (m : Mutex) → i < length mutexes → m ≡ get_or mutexes i m → (is m.owner t && is_boosting m.protocol) ≡ false →
    owns_one t (drop (i + 1) mutexes) ≡ owns_one t (drop i mutexes)
none_more t i mutexes m lt read h =
    let rest : drop i mutexes ≡ m ∷ drop (i + 1) mutexes = grind (arith, drop_more mutexes i m lt, read) in
    rw rest (passed (is m.owner t) (is_boosting m.protocol) m t (drop (i + 1) mutexes) refl refl h)

pub found : (t i : ℕ) (mutexes : List Mutex) (m : Mutex) → i < length mutexes → m ≡ get_or mutexes i m → (is m.owner t && is_boosting m.protocol) ≡ true →
    owns_one t (drop i mutexes) ≡ true
found t i mutexes m lt read h =
    let rest : drop i mutexes ≡ m ∷ drop (i + 1) mutexes = grind (arith, drop_more mutexes i m lt, read) in
    rw rest (taken (is m.owner t) (is_boosting m.protocol) m t (drop (i + 1) mutexes) refl refl h)

-- the mutexes that the thread owns
abbrev pub owned_in : ℕ → List Mutex → List Mutex
owned_in t mutexes = filter (λ (k : Mutex). is k.owner t) mutexes

counted_first : (b : Bool) (m : Mutex) (t n new : ℕ) (ms : List Mutex) → is m.owner t ≡ b → new ≡ (if b then n + 1 else n) →
    new + length (owned_in t ms) ≡ n + length (owned_in t (m ∷ ms))
counted_first true m t n new ms e h = rw (e, h) (omega arith)
counted_first false m t n new ms e h = rw (e, h) refl

pub counted_more : (t i n new : ℕ) (mutexes : List Mutex) (m : Mutex) → i < length mutexes → m ≡ get_or mutexes i m → new ≡ (if is m.owner t then n + 1 else n) →
    new + length (owned_in t (drop (i + 1) mutexes)) ≡ n + length (owned_in t (drop i mutexes))
counted_more t i n new mutexes m lt read h =
    let rest : drop i mutexes ≡ m ∷ drop (i + 1) mutexes = grind (arith, drop_more mutexes i m lt, read) in
    rw rest (counted_first (is m.owner t) m t n new (drop (i + 1) mutexes) refl h)
