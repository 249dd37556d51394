-- What a thread is asked for with one mutex more, and where a change of an owner changes no priority.
use Rattle.std.proofs.Common.{Bool, List, None, Option, [], ap, arith, false, get_or, inl, inr, length, refl, set, suc, sym, true, zero, ℕ, ◌+◌, ◌∷◌, ◌<◌, ◌≡◌, ◌∙◌}
use Rattle.std.specs.Prelude.{flat_map, map, max, if◌then◌else◌}
use Rattle.std.proofs.lemmas.Bool.Decides.{eqb_tells}
use Rattle.std.proofs.lemmas.List.{get_or-set_same, length-set}
use Rattle.rules_machine.specs.Lists.{greatest, is, kept_if, numbers_from}
use Rattle.rules_machine.specs.State.{Mutex}
use Rattle.rules_machine.specs.Threads.{mutex_in, no_mutex}
use Rattle.rules_machine.specs.Priorities.{Claim, assigned_in, inherit_waiters_in, is_inherit_mutex_of, owner_ceiling}
use Rattle.rules_machine.specs.Mutexes.{freed, taken_by}
use Rattle.parts_waiters.specs.declared.Place.{Place}
use Rattle.parts_owners.specs.Chains.{Links, Settled, Solves, asked_in, prio_in, through_in, waiters_in, with_mutex}
use Rattle.parts_owners.specs.Moves.{Changes}
use Rattle.parts_owners.proofs.Asked.{greatest_append, inherit_waiters_from}
use Rattle.parts_owners.proofs.Begun.{no_ceiling, no_lending}
use Rattle.parts_owners.proofs.Done.{Begins, finished, settled_after}

-- ---- one mutex more

ceilings : (t k : ℕ) (y d : Mutex) (ms : List Mutex) → k < length ms → owner_ceiling t (get_or ms k d) ≡ 0 →
    greatest (map (owner_ceiling t) (set ms k y)) ≡ max (greatest (map (owner_ceiling t) ms)) (owner_ceiling t y)
ceilings t k y d [] lt none = absurd (omega (arith, lt))
ceilings t zero y d (m ∷ ms) lt none = grind (arith, none)
ceilings t (suc k) y d (m ∷ ms) lt none = let rest = ceilings t k y d ms (omega (arith, lt)) none in grind (arith, rest)

kept_lent : (e : ℕ → ℕ) (claims : List Claim) (b : Bool) (n : ℕ) (ns : List ℕ) →
    greatest (map e (flat_map (waiters_in claims) (kept_if b n ns))) ≡ max (if b then greatest (map e (waiters_in claims n)) else 0) (greatest (map e (flat_map (waiters_in claims) ns)))
kept_lent e claims true n ns = greatest_append e (waiters_in claims n) (flat_map (waiters_in claims) ns)
kept_lent e claims false n ns = grind arith

first_more : (x l : ℕ) → max x l ≡ max (max 0 l) x
first_more x l = grind arith

later_more : (a l x : ℕ) → max a (max l x) ≡ max (max a l) x
later_more a l x = grind arith

lent : (e : ℕ → ℕ) (claims : List Claim) (t n k : ℕ) (y d : Mutex) (ms : List Mutex) → k < length ms → is_inherit_mutex_of t (get_or ms k d) ≡ false →
    greatest (map e (inherit_waiters_from n claims t (set ms k y)))
    ≡ max (greatest (map e (inherit_waiters_from n claims t ms))) (if is_inherit_mutex_of t y then greatest (map e (waiters_in claims (n + k))) else 0)
lent e claims t n k y d [] lt none = absurd (omega (arith, lt))
lent e claims t n zero y d (m ∷ ms) lt none =
    let same : n + 0 ≡ n = omega arith in
    let ns = numbers_from (n + 1) (is_inherit_mutex_of t) ms in
    let old : greatest (map e (inherit_waiters_from n claims t (m ∷ ms))) ≡ max 0 (greatest (map e (flat_map (waiters_in claims) ns))) =
    kept_lent e claims (is_inherit_mutex_of t m) n ns ∙ ap (λ (b : Bool). max (if b then greatest (map e (waiters_in claims n)) else 0) (greatest (map e (flat_map (waiters_in claims) ns)))) none in
    rw (same, old) (kept_lent e claims (is_inherit_mutex_of t y) n ns
    ∙ first_more (if is_inherit_mutex_of t y then greatest (map e (waiters_in claims n)) else 0) (greatest (map e (flat_map (waiters_in claims) ns))))
lent e claims t n (suc k) y d (m ∷ ms) lt none =
    let next : n + suc k ≡ (n + 1) + k = omega arith in
    let a = if is_inherit_mutex_of t m then greatest (map e (waiters_in claims n)) else 0 in
    let ns = numbers_from (n + 1) (is_inherit_mutex_of t) ms in
    let l = greatest (map e (flat_map (waiters_in claims) ns)) in
    let x = if is_inherit_mutex_of t y then greatest (map e (waiters_in claims ((n + 1) + k))) else 0 in
    let rest : greatest (map e (inherit_waiters_from (n + 1) claims t (set ms k y))) ≡ max l x = lent e claims t (n + 1) k y d ms (omega (arith, lt)) none in
    let old : greatest (map e (inherit_waiters_from n claims t (m ∷ ms))) ≡ max a l = kept_lent e claims (is_inherit_mutex_of t m) n ns in
    rw (next, old) (kept_lent e claims (is_inherit_mutex_of t m) n (numbers_from (n + 1) (is_inherit_mutex_of t) (set ms k y)) ∙ ap (max a) rest ∙ later_more a l x)

shuffled : (a c l x y : ℕ) → max (max a (max c x)) (max l y) ≡ max (max (max a c) l) (max x y)
shuffled a c l x y = grind arith

pub asked_with : (claims : List Claim) (ms : List Mutex) (e : ℕ → ℕ) (t k : ℕ) (y : Mutex) → k < length ms →
    owner_ceiling t (mutex_in ms k) ≡ 0 → is_inherit_mutex_of t (mutex_in ms k) ≡ false →
    asked_in claims (set ms k y) e t ≡ max (asked_in claims ms e t) (through_in claims e t k y)
asked_with claims ms e t k y lt ceiling lends =
    let cs = ceilings t k y no_mutex ms lt ceiling in
    let same : 0 + k ≡ k = omega arith in
    let ls = lent e claims t 0 k y no_mutex ms lt lends
    ∙ ap (λ (j : ℕ). max (greatest (map e (inherit_waiters_from 0 claims t ms))) (if is_inherit_mutex_of t y then greatest (map e (waiters_in claims j)) else 0)) same in
    rw (cs, ls)
    (shuffled (assigned_in claims ms t) (greatest (map (owner_ceiling t) ms)) (greatest (map e (inherit_waiters_in claims ms t))) (owner_ceiling t y)
    (if is_inherit_mutex_of t y then greatest (map e (waiters_in claims k)) else 0))

-- ---- where the owner of a mutex changes

pub set_back : (ms : List Mutex) (k : ℕ) (y z : Mutex) → z ≡ get_or ms k no_mutex → set (set ms k y) k z ≡ ms
set_back [] k y z is = refl
set_back (m ∷ ms) zero y z is = ap (λ (x : Mutex). x ∷ ms) is
set_back (m ∷ ms) (suc k) y z is = ap (λ (xs : List Mutex). m ∷ xs) (set_back ms k y z is)

-- a thread that gets nothing through a mutex that it takes is asked for what it has
pub taken_same : (s : Links) (exec : List ℕ) (k t : ℕ) → t < length s.claims → k < length s.mutexes → Settled s exec → (mutex_in s.mutexes k).owner ≡ None →
    prio_in exec t ≡ max (prio_in exec t) (through_in s.claims (prio_in exec) t k (mutex_in (with_mutex k (taken_by t) s).mutexes k)) →
    prio_in exec t ≡ asked_in s.claims (with_mutex k (taken_by t) s).mutexes (prio_in exec) t
taken_same s exec k t known lt settled free through =
    let y = taken_by t (mutex_in s.mutexes k) in
    let was : is (mutex_in s.mutexes k).owner t ≡ false = rw free refl in
    let here : mutex_in (set s.mutexes k y) k ≡ y = get_or-set_same s.mutexes k y no_mutex lt in
    let asks = asked_with s.claims s.mutexes (prio_in exec) t k y lt (no_ceiling t (mutex_in s.mutexes k) was) (no_lending t (mutex_in s.mutexes k) was) in
    through ∙ ap (λ (m : Mutex). max (prio_in exec t) (through_in s.claims (prio_in exec) t k m)) here
    ∙ ap (λ (n : ℕ). max n (through_in s.claims (prio_in exec) t k y)) (settled.right.each t known) ∙ sym asks

between : (e a asks x : ℕ) (rest : ℕ) → e ≡ max asks x → asks ≡ max a rest → e ≡ a → e ≡ asks
between e a asks x rest is more low = grind (arith, is, more, low)

more_than : (a c l : ℕ) → max (max a c) l ≡ max a (max c l)
more_than a c l = grind arith

-- a thread at its assigned priority that frees a mutex is asked for what it has
pub freed_same : (s : Links) (exec : List ℕ) (k t : ℕ) → t < length s.claims → k < length s.mutexes → Settled s exec →
    prio_in exec t ≡ assigned_in s.claims s.mutexes t → prio_in exec t ≡ asked_in s.claims (with_mutex k freed s).mutexes (prio_in exec) t
freed_same s exec k t known lt settled low =
    let y = freed (mutex_in s.mutexes k) in let ms = set s.mutexes k y in let old = mutex_in s.mutexes k in
    let here : mutex_in ms k ≡ y = get_or-set_same s.mutexes k y no_mutex lt in
    let free : is (mutex_in ms k).owner t ≡ false = rw here refl in
    let within : k < length ms = omega (arith, lt, length-set s.mutexes k y) in
    let asks = asked_with s.claims ms (prio_in exec) t k old within (no_ceiling t (mutex_in ms k) free) (no_lending t (mutex_in ms k) free) in
    let back : set ms k old ≡ s.mutexes = set_back s.mutexes k y old refl in
    let was : prio_in exec t ≡ max (asked_in s.claims ms (prio_in exec) t) (through_in s.claims (prio_in exec) t k old) =
    settled.right.each t known ∙ ap (λ (l : List Mutex). asked_in s.claims l (prio_in exec) t) (sym back) ∙ asks in
    between (prio_in exec t) (assigned_in s.claims s.mutexes t) (asked_in s.claims ms (prio_in exec) t) (through_in s.claims (prio_in exec) t k old)
    (max (greatest (map (owner_ceiling t) ms)) (greatest (map (prio_in exec) (inherit_waiters_in s.claims ms t)))) was
    (more_than (assigned_in s.claims s.mutexes t) (greatest (map (owner_ceiling t) ms)) (greatest (map (prio_in exec) (inherit_waiters_in s.claims ms t)))) low

-- ---- where no priority changes

module _ (old new : Links) (exec : List ℕ) (t : ℕ) (places : List (Option Place)) (b : Begins old new exec t places)
    (same : prio_in exec t ≡ asked_in new.claims new.mutexes (prio_in exec) t) where
  right : Solves new.claims new.mutexes (prio_in exec)
  right = record {
    each = λ u lt. elim (eqb_tells u t) [ inl is ↦ rw is.1 same | inr other ↦ b.right.others u lt other.1 ];
  }

  pub still_settled : Settled new exec
  still_settled = settled_after old new exec exec t places b b.each right b.fits

  pub nothing_changes : Changes old new places places None
  nothing_changes = finished old new exec exec t places places None b right (record { length = refl; each = λ u. refl }) b.stand (λ u lt none. refl)
