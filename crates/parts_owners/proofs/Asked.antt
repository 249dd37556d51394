-- What an equation asks for, found mutex by mutex and waiter by waiter.
use Rattle.std.proofs.Common.{Bool, List, [], ap, arith, drop, false, get_or, length, sym, true, ℕ, ◌+◌, ◌++◌, ◌<◌, ◌∙◌, ◌∷◌, ◌≡◌}
use Rattle.std.proofs.Math.Nat.{max-zero, max_comm, zero-max}
use Rattle.std.specs.Prelude.{flat_map, map, max, if◌then◌else◌}
use Rattle.std.proofs.lemmas.List.{drop_more}
use Rattle.rules_machine.specs.Lists.{greatest, is, kept_if, numbers_from}
use Rattle.rules_machine.specs.State.{Mutex}
use Rattle.rules_machine.specs.Priorities.{Claim, owner_ceiling, is_inherit_mutex_of}
use Rattle.parts_owners.specs.Chains.{waiters_in}

-- the waiters of a mutex from thread n on
abbrev pub waiters_from : ℕ → ℕ → List Claim → List ℕ
waiters_from n k claims = numbers_from n (λ (c : Claim). is c.awaited k) claims

-- those that lend to a thread through the mutexes from n on
abbrev pub inherit_waiters_from : ℕ → List Claim → ℕ → List Mutex → List ℕ
inherit_waiters_from n claims t mutexes = flat_map (waiters_in claims) (numbers_from n (is_inherit_mutex_of t) mutexes)

max_assoc : (a b c : ℕ) → max (max a b) c ≡ max a (max b c)
max_assoc a b c = omega arith

-- two that are taken in the other order
max_swap : (a b c : ℕ) → max (max a b) c ≡ max (max a c) b
max_swap a b c = max_assoc a b c ∙ (ap (max a) (max_comm b c) ∙ sym (max_assoc a c b))

pub greatest_append : (e : ℕ → ℕ) (xs ys : List ℕ) → greatest (map e (xs ++ ys)) ≡ max (greatest (map e xs)) (greatest (map e ys))
greatest_append e [] ys = sym (zero-max (greatest (map e ys)))
greatest_append e (x ∷ xs) ys = ap (max (e x)) (greatest_append e xs ys) ∙ sym (max_assoc (e x) (greatest (map e xs)) (greatest (map e ys)))

lent_kept : (e : ℕ → ℕ) (b : Bool) (u best new : ℕ) (ns : List ℕ) → new ≡ (if b then max best (e u) else best) →
    max new (greatest (map e ns)) ≡ max best (greatest (map e (kept_if b u ns)))
lent_kept e true u best new ns h = ap (λ (n : ℕ). max n (greatest (map e ns))) h ∙ max_assoc best (e u) (greatest (map e ns))
lent_kept e false u best new ns h = ap (λ (n : ℕ). max n (greatest (map e ns))) h

pub lent_more : (e : ℕ → ℕ) (u k best new : ℕ) (claims : List Claim) (c : Claim) → u < length claims → c ≡ get_or claims u c →
    new ≡ (if is c.awaited k then max best (e u) else best) →
    max new (greatest (map e (waiters_from (u + 1) k (drop (u + 1) claims)))) ≡ max best (greatest (map e (waiters_from u k (drop u claims))))
lent_more e u k best new claims c lt read h =
    let rest : drop u claims ≡ c ∷ drop (u + 1) claims = drop_more claims u c lt ∙ ap (λ (x : Claim). x ∷ drop (u + 1) claims) (sym read) in
    rw rest (lent_kept e (is c.awaited k) u best new (waiters_from (u + 1) k (drop (u + 1) claims)) h)

asked_kept : (e : ℕ → ℕ) (b : Bool) (claims : List Claim) (k best new ceiling later : ℕ) (ns : List ℕ) →
    new ≡ max (max best ceiling) (if b then greatest (map e (waiters_in claims k)) else 0) →
    max (max new later) (greatest (map e (flat_map (waiters_in claims) ns)))
    ≡ max (max best (max ceiling later)) (greatest (map e (flat_map (waiters_in claims) (kept_if b k ns))))
asked_kept e true claims k best new ceiling later ns h =
    let waiters = greatest (map e (waiters_in claims k)) in
    let others = greatest (map e (flat_map (waiters_in claims) ns)) in
    ap (λ (n : ℕ). max (max n later) others) h
    ∙ (ap (λ (n : ℕ). max n others) (max_swap (max best ceiling) waiters later)
    ∙ (max_assoc (max (max best ceiling) later) waiters others
    ∙ (ap (λ (n : ℕ). max n (max waiters others)) (max_assoc best ceiling later)
    ∙ ap (max (max best (max ceiling later))) (sym (greatest_append e (waiters_in claims k) (flat_map (waiters_in claims) ns))))))
asked_kept e false claims k best new ceiling later ns h =
    let others = greatest (map e (flat_map (waiters_in claims) ns)) in
    ap (λ (n : ℕ). max (max n later) others) (h ∙ max-zero (max best ceiling)) ∙ ap (λ (n : ℕ). max n others) (max_assoc best ceiling later)

-- the most that the ceilings and the waiters of the mutexes from n on give to a thread, and a priority
abbrev pub best_from : (ℕ → ℕ) → List Claim → ℕ → ℕ → ℕ → List Mutex → ℕ
best_from e claims t n best mutexes = max (max best (greatest (map (owner_ceiling t) mutexes))) (greatest (map e (inherit_waiters_from n claims t mutexes)))

pub asked_more : (e : ℕ → ℕ) (claims : List Claim) (t k best new : ℕ) (mutexes : List Mutex) (m : Mutex) → k < length mutexes →
    m ≡ get_or mutexes k m → new ≡ max (max best (owner_ceiling t m)) (if is_inherit_mutex_of t m then greatest (map e (waiters_in claims k)) else 0) →
    best_from e claims t (k + 1) new (drop (k + 1) mutexes) ≡ best_from e claims t k best (drop k mutexes)
asked_more e claims t k best new mutexes m lt read h =
    let rest : drop k mutexes ≡ m ∷ drop (k + 1) mutexes = drop_more mutexes k m lt ∙ ap (λ (x : Mutex). x ∷ drop (k + 1) mutexes) (sym read) in
    rw rest
    (asked_kept e (is_inherit_mutex_of t m) claims k best new (owner_ceiling t m) (greatest (map (owner_ceiling t) (drop (k + 1) mutexes)))
    (numbers_from (k + 1) (is_inherit_mutex_of t) (drop (k + 1) mutexes)) h)
