-- What a right server is, and what is pending once one more replenishment was planned.
use Rattle.std.proofs.Common.{Bool, List, [], ap, arith, false, length, refl, suc, true, ℕ, ◌+◌, ◌<◌, ◌≤◌, ◌∷◌, ◌++◌, ◌≡◌}
use Rattle.std.specs.Prelude.{nat_lt, not, sum_by}
use Rattle.std.proofs.lemmas.Grind.{common_steps}
use Rattle.std.proofs.lemmas.List.Sums.{sum_by-append}
use Rattle.words_numbers.specs.Parameters.{Parameters}
use Rattle.rules_server.specs.declared.Replenish.{Replenish}
use Rattle.rules_server.specs.declared.ServerKind.{ServerKind}
use Rattle.rules_server.specs.declared.ServerKind.TheVariants as kind
use Rattle.rules_server.specs.Calls.{MayPlan}
use Rattle.rules_server.specs.Server as server
use Rattle.rules_server.specs.Server.{ServerState, is_high, joined_after, joins_as, pending_total, plan, replenishment}
use Rattle.rules_machine.specs.State.{Status}
use Rattle.rules_machine.specs.Threads.{is_runnable}
use Rattle.rules_moves.proofs.Waiters.Best.{Each}

-- ---- a server

-- each is due before all that follow it
abbrev pub Rising : List Replenish → Type 0
Rising [] = Unit {0}
Rising (r ∷ rs) = Each (λ (x : Replenish). r.due < x.due) rs × Rising rs

-- one replenishment at least may be pending, and no more is used in a period than there is
abbrev pub Serves : Parameters → Type 0
Serves p = (1 ≤ p.max) × (p.budget ≤ p.period)

pub not_strict : kind.Strict ≡ kind.Sporadic → ⊥
not_strict e = cc

pub record Sound (now : ℕ) (s : ServerState) : Type 0 where
  pub budget : s.capacity + pending_total s + s.consumed ≡ s.params.budget
  pub amounts : Each (λ (r : Replenish). 1 ≤ r.amount) s.pending
  pub few : length s.pending ≤ s.params.max
  pub serves : s.kind ≡ kind.Strict → Serves s.params
  pub rising : Rising s.pending
  pub within : Each (λ (r : Replenish). r.due < now + s.params.period) s.pending
  pub activated : s.activation ≤ now

-- a plan made now would be due behind all others
abbrev pub Fresh : ServerState → Type 0
Fresh s = Each (λ (r : Replenish). r.due < s.activation + s.params.period) s.pending

-- The flag says whether the thread's own unit is under way: then a tick may have left it low, and it may block.
pub record Consumed (own : Bool) (now : ℕ) (status : Status) (s : ServerState) : Type 0 where
  pub fresh : Fresh s
  pub before : s.activation < now
  pub room : MayPlan s.kind s
  -- a strict server's run is one of ticks that follow one another
  pub unbroken : s.kind ≡ kind.Strict → s.activation + s.consumed ≡ now
  pub runs : own ≡ false → (is_runnable status ≡ true) × (is_high s ≡ true)

pub record ServerIn (own : Bool) (now : ℕ) (status : Status) (s : ServerState) : Type 0 where
  pub sound : Sound now s
  pub consumed : 1 ≤ s.consumed → Consumed own now status s
  -- where a tick may be charged, nothing was planned since the activation; a strict server is activated just before
  pub ready : s.kind ≡ kind.Sporadic → is_runnable status ≡ true → is_high s ≡ true → Fresh s

pub each_weaker : {X : Type 0} (A B : X → Type 0) → ((x : X) → A x → B x) → (xs : List X) → Each A xs → Each B xs
each_weaker A B h [] each = tt
each_weaker A B h (x ∷ xs) each = (h x each.0, each_weaker A B h xs each.1)

pub each_more : {X : Type 0} (Law : X → Type 0) (xs : List X) (x : X) → Each Law xs → Law x → Each Law (xs ++ x ∷ [])
each_more Law [] x each h = (h, tt)
each_more Law (y ∷ ys) x each h = (each.0, each_more Law ys x each.1 h)

rising_more : (rs : List Replenish) (x : Replenish) → Rising rs → Each (λ (r : Replenish). r.due < x.due) rs → Rising (rs ++ x ∷ [])
rising_more [] x up below = (tt, tt)
rising_more (r ∷ rs) x up below = (each_more (λ (y : Replenish). r.due < y.due) rs x up.0 below.0, rising_more rs x up.1 below.1)

one_longer : (rs : List Replenish) (x : Replenish) → length (rs ++ x ∷ []) ≡ suc (length rs)
one_longer [] x = refl
one_longer (r ∷ rs) x = ap suc (one_longer rs x)

-- ---- one that joins the last

pub each_joined : (Law : Replenish → Type 0) (r : Replenish) → ((x : Replenish) → Law x → Law (record { amount = x.amount + r.amount; due = r.due })) → (q : Replenish) (rs : List Replenish) → Each Law (q ∷ rs) → Each Law (joined_after r q rs)
each_joined Law r h q [] each = (h q each.0, tt)
each_joined Law r h q (next ∷ rest) each = (each.0, each_joined Law r h next rest each.1)

rising_joined : (r q : Replenish) (rs : List Replenish) → Rising (q ∷ rs) → Each (λ (x : Replenish). x.due < r.due) (q ∷ rs) → Rising (joined_after r q rs)
rising_joined r q [] up below = (tt, tt)
rising_joined r q (next ∷ rest) up below = (each_joined (λ (x : Replenish). q.due < x.due) r (λ x h. below.0) next rest up.0, rising_joined r next rest up.1 below.1)

joined_total : (r q : Replenish) (rs : List Replenish) → sum_by (λ (x : Replenish). x.amount) (joined_after r q rs) ≡ sum_by (λ (x : Replenish). x.amount) (q ∷ rs) + r.amount
joined_total r q [] = grind (arith, common_steps)
joined_total r q (next ∷ rest) =
    let ih = joined_total r next rest in
    let e : sum_by (λ (x : Replenish). x.amount) (q ∷ joined_after r next rest) ≡ q.amount + sum_by (λ (x : Replenish). x.amount) (joined_after r next rest) = grind (arith, common_steps) in
    let f : sum_by (λ (x : Replenish). x.amount) (q ∷ next ∷ rest) ≡ q.amount + sum_by (λ (x : Replenish). x.amount) (next ∷ rest) = grind (arith, common_steps) in
    omega arith

joined_length : (r q : Replenish) (rs : List Replenish) → length (joined_after r q rs) ≡ length (q ∷ rs)
joined_length r q [] = refl
joined_length r q (next ∷ rest) = ap suc (joined_length r next rest)

-- what is pending once one more was planned
pub record Planned (max hi : ℕ) (r : Replenish) (rs after : List Replenish) : Type 0 where
  pub total : sum_by (λ (x : Replenish). x.amount) after ≡ sum_by (λ (x : Replenish). x.amount) rs + r.amount
  pub amounts : Each (λ (x : Replenish). 1 ≤ x.amount) rs → 1 ≤ r.amount → Each (λ (x : Replenish). 1 ≤ x.amount) after
  pub few : length rs ≤ max → length after ≤ max
  pub rising : Rising rs → Each (λ (x : Replenish). x.due < r.due) rs → Rising after
  pub within : Each (λ (x : Replenish). x.due < hi) rs → r.due < hi → Each (λ (x : Replenish). x.due < hi) after

appended : (max hi : ℕ) (r : Replenish) (rs : List Replenish) → length rs < max → Planned max hi r rs (rs ++ r ∷ [])
appended max hi r rs room = record {
  total = let more = sum_by-append (λ (x : Replenish). x.amount) rs (r ∷ []) in let one : sum_by (λ (x : Replenish). x.amount) (r ∷ []) ≡ r.amount = grind (arith, common_steps) in omega arith;
  amounts = λ each some. each_more (λ (x : Replenish). 1 ≤ x.amount) rs r each some;
  few = λ few. let longer = one_longer rs r in omega arith;
  rising = λ up below. rising_more rs r up below;
  within = λ each lt. each_more (λ (x : Replenish). x.due < hi) rs r each lt;
}

joined_to : (max hi : ℕ) (r : Replenish) (rs : List Replenish) → 1 ≤ length rs → Planned max hi r rs (server.joined r rs)
joined_to max hi r [] some = absurd (omega arith)
joined_to max hi r (q ∷ rs) some = record {
  total = joined_total r q rs;
  amounts = λ each one. each_joined (λ (x : Replenish). 1 ≤ x.amount) r (λ x h. omega arith) q rs each;
  few = λ few. let e = joined_length r q rs in omega arith;
  rising = λ up below. rising_joined r q rs up below;
  within = λ each lt. each_joined (λ (x : Replenish). x.due < hi) r (λ x h. lt) q rs each;
}

-- a strict server joins where as many are pending as may be, which is not none
pub planned_of : (k : ServerKind) (s : ServerState) (hi : ℕ) → (k ≡ kind.Strict → 1 ≤ s.params.max) → MayPlan k s → Planned s.params.max hi (replenishment s) s.pending (server.planned_in (joins_as k (length s.pending) s.params.max) (replenishment s) s.pending)
planned_of kind.Sporadic s hi one may = appended s.params.max hi (replenishment s) s.pending may
planned_of kind.Strict s hi one may = by_room (nat_lt (length s.pending) s.params.max) refl
  where
    by_room : (b : Bool) → nat_lt (length s.pending) s.params.max ≡ b → Planned s.params.max hi (replenishment s) s.pending (server.planned_in (not b) (replenishment s) s.pending)
    by_room true e = appended s.params.max hi (replenishment s) s.pending (grind arith)
    by_room false e = let some : 1 ≤ s.params.max = one refl in joined_to s.params.max hi (replenishment s) s.pending (grind arith)
