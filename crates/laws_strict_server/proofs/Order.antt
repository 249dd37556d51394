-- The facts of a strict server: its pending replenishments are in order, and none is overdue.
use Rattle.std.proofs.Common.{◌≡◌, ℕ, ◌+◌, ◌<◌, ◌≤◌, Bool, true, false, Option, None, Some, List, [], ◌∷◌, ◌++◌, length, refl, arith, subst}
use Rattle.std.specs.Prelude.{not, nat_lt, nat_le, ◌&&◌, ◌||◌, ◌==◌, if◌then◌else◌}
use Rattle.std.proofs.lemmas.Grind.{common_steps}
use Rattle.words_numbers.specs.Parameters.{Parameters, AreParameters}
use Rattle.rules_server.specs.declared.Replenish.{Replenish}
use Rattle.rules_server.specs.declared.ServerKind.TheVariants as kind
use Rattle.rules_server.specs.Server.{ServerState, charge, new_server_as, refill_from, replenishment, has_room, joined_after, planned_in}
use Rattle.laws_strict_server.specs.Kinds.{plan_strict}
use Rattle.laws_strict_server.specs.Instants.{Step, after, charges_if, closed, ended, is_high, is_open, opened, opens_if, plans_if, ready, refilled_from, sets_high, ticked}
use Rattle.laws_strict_server.specs.Facts.{DueBefore, IsStrict, NoneEmpty, RisesFrom}
use Rattle.laws_strict_server.proofs.Parts.{Standing}
use Rattle.laws_strict_server.proofs.Window.{after_stands, ended_priced, new_stands, ready_stands, tick_done}

-- ---- lists of replenishments

sooner : (lo lo' : ℕ) (rs : List Replenish) → lo' ≤ lo → RisesFrom lo rs → RisesFrom lo' rs
sooner lo lo' [] le up = tt
sooner lo lo' (r ∷ rs) le up = let e = up.0 in (omega arith, up.1)

before_more : (hi hi' : ℕ) (rs : List Replenish) → hi ≤ hi' → DueBefore hi rs → DueBefore hi' rs
before_more hi hi' [] le all = tt
before_more hi hi' (r ∷ rs) le all = let e = all.0 in (omega arith, before_more hi hi' rs le all.1)

rises_appended : (lo : ℕ) (r : Replenish) (rs : List Replenish) → lo ≤ r.due → DueBefore r.due rs → RisesFrom lo rs → RisesFrom lo (rs ++ r ∷ [])
rises_appended lo r [] le all up = (le, tt)
rises_appended lo r (q ∷ rs) le all up = let e = all.0 in (up.0, rises_appended (q.due + 1) r rs (omega arith) all.1 up.1)

rises_joined : (lo : ℕ) (r q : Replenish) (rs : List Replenish) → lo ≤ r.due → DueBefore r.due (q ∷ rs) → RisesFrom lo (q ∷ rs) → RisesFrom lo (joined_after r q rs)
rises_joined lo r q [] le all up = (le, tt)
rises_joined lo r q (next ∷ rest) le all up = let e = all.0 in (up.0, rises_joined (q.due + 1) r next rest (omega arith) all.1 up.1)

rises_planned : (b : Bool) (lo : ℕ) (r : Replenish) (rs : List Replenish) → lo ≤ r.due → DueBefore r.due rs → RisesFrom lo rs → RisesFrom lo (planned_in b r rs)
rises_planned false lo r rs le all up = rises_appended lo r rs le all up
rises_planned true lo r [] le all up = (le, tt)
rises_planned true lo r (q ∷ rs) le all up = rises_joined lo r q rs le all up

before_appended : (hi : ℕ) (r : Replenish) (rs : List Replenish) → r.due < hi → DueBefore hi rs → DueBefore hi (rs ++ r ∷ [])
before_appended hi r [] lt all = (lt, tt)
before_appended hi r (q ∷ rs) lt all = (all.0, before_appended hi r rs lt all.1)

before_joined : (hi : ℕ) (r q : Replenish) (rs : List Replenish) → r.due < hi → DueBefore hi (q ∷ rs) → DueBefore hi (joined_after r q rs)
before_joined hi r q [] lt all = (lt, tt)
before_joined hi r q (next ∷ rest) lt all = (all.0, before_joined hi r next rest lt all.1)

before_planned : (b : Bool) (hi : ℕ) (r : Replenish) (rs : List Replenish) → r.due < hi → DueBefore hi rs → DueBefore hi (planned_in b r rs)
before_planned false hi r rs lt all = before_appended hi r rs lt all
before_planned true hi r [] lt all = (lt, tt)
before_planned true hi r (q ∷ rs) lt all = before_joined hi r q rs lt all

some_appended : (r : Replenish) (rs : List Replenish) → 1 ≤ r.amount → NoneEmpty rs → NoneEmpty (rs ++ r ∷ [])
some_appended r [] some all = (some, tt)
some_appended r (q ∷ rs) some all = (all.0, some_appended r rs some all.1)

some_joined : (r q : Replenish) (rs : List Replenish) → 1 ≤ r.amount → NoneEmpty (q ∷ rs) → NoneEmpty (joined_after r q rs)
some_joined r q [] some all = (omega arith, tt)
some_joined r q (next ∷ rest) some all = (all.0, some_joined r next rest some all.1)

some_planned : (b : Bool) (r : Replenish) (rs : List Replenish) → 1 ≤ r.amount → NoneEmpty rs → NoneEmpty (planned_in b r rs)
some_planned false r rs some all = some_appended r rs some all
some_planned true r [] some all = (some, tt)
some_planned true r (q ∷ rs) some all = some_joined r q rs some all

joined_length : (r q : Replenish) (rs : List Replenish) → length (joined_after r q rs) ≡ length (q ∷ rs)
joined_length r q [] = refl
joined_length r q (next ∷ rest) = let ih = joined_length r next rest in omega arith

few_planned : (b : Bool) (max : ℕ) (r : Replenish) (rs : List Replenish) → 1 ≤ max → not (nat_lt (length rs) max) ≡ b → length rs ≤ max → length (planned_in b r rs) ≤ max
few_planned false max r rs one is few = grind (arith, common_steps)
few_planned true max r [] one is few = one
few_planned true max r (q ∷ rs) one is few = let e = joined_length r q rs in omega arith

-- ---- the pending replenishments of a server

-- The facts on them. Nothing is due before lo, and a run that is open comes back after all of them.
pub record Orderly (lo now : ℕ) (s : ServerState) : Type 0 where
  pub some_pending : 1 ≤ s.params.max
  pub few : length s.pending ≤ s.params.max
  pub amounts : NoneEmpty s.pending
  pub rising : RisesFrom lo s.pending
  pub within : DueBefore (now + s.params.period) s.pending
  pub fresh : 1 ≤ s.consumed → DueBefore (s.activation + s.params.period) s.pending

-- What is due is carried out, and the rest is due later.
orderly_refilled : (rs : List Replenish) (now : ℕ) (s : ServerState) → s.pending ≡ rs → Orderly now now s → Orderly (now + 1) now (refilled_from rs now s)
orderly_refilled [] now s e ok =
    record { some_pending = ok.some_pending; few = ok.few; amounts = ok.amounts; rising = rw e tt; within = ok.within; fresh = ok.fresh }
orderly_refilled (r ∷ rs) now s e ok = of_two (nat_le r.due now) refl
  where
    rises : RisesFrom now (r ∷ rs)
    rises = rw e at ok.rising

    rest : r.due ≤ now → Orderly (now + 1) now (refill_from (r ∷ rs) s)
    rest come =
        let all : DueBefore (now + s.params.period) (r ∷ rs) = rw e at ok.within in
        let amounts : NoneEmpty (r ∷ rs) = rw e at ok.amounts in
        let few : length (r ∷ rs) ≤ s.params.max = rw e at ok.few in
        let at_now = rises.0 in
        let lo : now + 1 ≤ r.due + 1 = omega arith in
        record {
          some_pending = ok.some_pending;
          few = omega arith;
          amounts = amounts.1;
          rising = sooner (r.due + 1) (now + 1) rs lo rises.1;
          within = all.1;
          fresh = λ c. let f : DueBefore (s.activation + s.params.period) (r ∷ rs) = rw e at ok.fresh c in f.1;
        }

    stops : (rs' : List Replenish) (s' : ServerState) → s'.pending ≡ rs' → Orderly (now + 1) now s' → Orderly (now + 1) now (refilled_from rs' now s')
    stops [] s' e' ok' = ok'
    stops (q ∷ qs) s' e' ok' =
        let up : RisesFrom (now + 1) (q ∷ qs) = rw e' at ok'.rising in
        let later = up.0 in
        let not_yet : nat_le q.due now ≡ false = grind arith in
        rw not_yet ok'

    of_two : (b : Bool) → nat_le r.due now ≡ b → Orderly (now + 1) now (if b then refilled_from rs now (refill_from (r ∷ rs) s) else s)
    of_two true come = stops rs (refill_from (r ∷ rs) s) refl (rest (grind arith))
    of_two false come =
        let up : RisesFrom (now + 1) (r ∷ rs) = (grind arith, rises.1) in
        record { some_pending = ok.some_pending; few = ok.few; amounts = ok.amounts; rising = rw e up; within = ok.within; fresh = ok.fresh }

-- ---- one tick

goes_on : (now : ℕ) (s : ServerState) → Orderly (now + 1) now s → Orderly (now + 1) (now + 1) s
goes_on now s ok = record {
  some_pending = ok.some_pending;
  few = ok.few;
  amounts = ok.amounts;
  rising = ok.rising;
  within = before_more (now + s.params.period) (now + 1 + s.params.period) s.pending (omega arith) ok.within;
  fresh = ok.fresh;
}

-- a run is closed at now, or in the tick that ends one later
closes : (now : ℕ) (s : ServerState) → 1 ≤ s.consumed → now + 1 ≤ s.activation + s.params.period → s.activation ≤ now → Orderly (now + 1) now s →
    Orderly (now + 1) (now + 1) (plan_strict s)
closes now s some later past ok =
    let r = replenishment s in
    let room = not (has_room s) in
    let wide = before_more (now + s.params.period) (now + 1 + s.params.period) s.pending (omega arith) ok.within in
    record {
      some_pending = ok.some_pending;
      few = few_planned room s.params.max r s.pending ok.some_pending refl ok.few;
      amounts = some_planned room r s.pending some ok.amounts;
      rising = rises_planned room (now + 1) r s.pending later (ok.fresh some) ok.rising;
      within = before_planned room (now + 1 + s.params.period) r s.pending (omega arith) wide;
      fresh = λ c. absurd (omega arith);
    }

order_rested : (b : Bool) (now : ℕ) (s : ServerState) → is_open s ≡ b → Standing now s → Orderly (now + 1) now s → Orderly (now + 1) (now + 1) (plans_if b s)
order_rested true now s is st ok =
    let some : 1 ≤ s.consumed = grind arith in
    let run = st.run some in
    let left = st.capacity some in
    closes now s some (omega (arith, st.budget, st.within)) (omega arith) ok
order_rested false now s is st ok = goes_on now s ok

-- the server as its tick is charged
charging : (b : Bool) (now : ℕ) (s : ServerState) → is_open s ≡ b → Standing now s → Orderly (now + 1) now s →
    ((charge (opens_if (not b) now s)).activation + (charge (opens_if (not b) now s)).consumed ≡ now + 1) × Orderly (now + 1) now (charge (opens_if (not b) now s))
charging true now s is st ok =
    let some : 1 ≤ s.consumed = grind arith in
    let run = st.run some in
    (omega arith, record { some_pending = ok.some_pending; few = ok.few; amounts = ok.amounts; rising = ok.rising; within = ok.within; fresh = λ c. ok.fresh some })
charging false now s is st ok =
    let none : s.consumed ≡ 0 = grind arith in
    (omega arith, record { some_pending = ok.some_pending; few = ok.few; amounts = ok.amounts; rising = ok.rising; within = ok.within; fresh = λ c. ok.within })

same_budget : (b : Bool) (now : ℕ) (s : ServerState) → Standing now s → 1 ≤ s.capacity → (charge (opens_if b now s)).consumed ≤ (charge (opens_if b now s)).params.period
same_budget true now s st left = omega (arith, st.budget, st.within)
same_budget false now s st left = omega (arith, st.budget, st.within)

one_more : (b : Bool) (now : ℕ) (s : ServerState) → 1 ≤ (charge (opens_if b now s)).consumed
one_more true now s = omega arith
one_more false now s = omega arith

order_charged : (b : Bool) (now : ℕ) (s : ServerState) → 1 ≤ s.consumed → s.consumed ≤ s.params.period → s.activation + s.consumed ≡ now + 1 →
    Orderly (now + 1) now s → Orderly (now + 1) (now + 1) (plans_if b s)
order_charged true now s some fits run ok = closes now s some (omega arith) (omega arith) ok
order_charged false now s some fits run ok = goes_on now s ok

order_high : (blocks : Bool) (now : ℕ) (s : ServerState) → is_high s ≡ true → Standing now s → Orderly (now + 1) now s →
    Orderly (now + 1) (now + 1) (ended true blocks (charge (opened true now s)))
order_high blocks now s is st ok =
    let left : 1 ≤ s.capacity = grind arith in
    let done = charge (opens_if (not (is_open s)) now s) in
    let both = charging (is_open s) now s refl st ok in
    order_charged (blocks || done.capacity == 0) now done (one_more (not (is_open s)) now s) (same_budget (not (is_open s)) now s st left) both.0 both.1

order_priced : (x : Option ℕ) (lo now : ℕ) (s : ServerState) → Orderly lo now s → Orderly lo now (sets_high x s)
order_priced None lo now s ok = ok
order_priced (Some p) lo now s ok =
    record { some_pending = ok.some_pending; few = ok.few; amounts = ok.amounts; rising = ok.rising; within = ok.within; fresh = ok.fresh }

order_parts : (head b blocks : Bool) (x : Option ℕ) (now : ℕ) (s : ServerState) → is_high s ≡ b → Standing now s → Orderly (now + 1) now s →
    Orderly (now + 1) (now + 1) (ended (head && b) blocks (sets_high x (charges_if (head && b) (opened (head && b) now (closed head s)))))
order_parts false b blocks x now s is st ok = order_priced x (now + 1) (now + 1) (plans_if (is_open s) s) (order_rested (is_open s) now s refl st ok)
order_parts true false blocks x now s is st ok = order_priced x (now + 1) (now + 1) s (goes_on now s ok)
order_parts true true blocks x now s is st ok =
    let done = charge (opened true now s) in
    subst (Orderly (now + 1) (now + 1)) (ended_priced x true blocks done) (order_priced x (now + 1) (now + 1) (ended true blocks done) (order_high blocks now s is st ok))

order_ticked : (x : Step) (now : ℕ) (s : ServerState) → Standing now s → Orderly now now s → Orderly (now + 1) (now + 1) (ticked x now s)
order_ticked x now s st ok =
    order_parts x.is_head (is_high (ready now s)) x.blocks x.priority now (ready now s) refl (ready_stands now s st) (orderly_refilled s.pending now s refl ok)

-- ---- many ticks

order_after : (xs : List Step) (now : ℕ) (s : ServerState) → Standing now s → Orderly now now s → Orderly (now + length xs) (now + length xs) (after xs now s)
order_after [] now s st ok = subst (λ (n : ℕ). Orderly n n s) (omega arith) ok
order_after (x ∷ xs) now s st ok =
    let t = tick_done x now s st in
    subst (λ (n : ℕ). Orderly n n (after xs (now + 1) (ticked x now s))) (omega arith)
    (order_after xs (now + 1) (ticked x now s) t.standing (order_ticked x now s st ok))

new_orderly : (p : Parameters) (now : ℕ) → AreParameters p → Orderly now now (new_server_as kind.Strict p now)
new_orderly p now are = record { some_pending = are.some_pending; few = omega arith; amounts = tt; rising = tt; within = tt; fresh = λ c. absurd (omega arith) }

pub facts : (p : Parameters) (start : ℕ) (steps : List Step) → AreParameters p → IsStrict (start + length steps) (after steps start (new_server_as kind.Strict p start))
facts p start steps are =
    let new = new_stands p start are in
    let st = after_stands steps start (new_server_as kind.Strict p start) new in
    let ok = order_after steps start (new_server_as kind.Strict p start) new (new_orderly p start are) in
    record {
      budget = st.budget;
      few = ok.few;
      amounts = ok.amounts;
      rising = ok.rising;
      within_period = ok.within;
      run = st.run;
      capacity = st.capacity;
      fresh = ok.fresh;
    }
