-- What a server keeps small.
use Rattle.std.proofs.Common.{Bool, List, [], arith, false, length, refl, true, ℕ, ◌+◌, ◌^◌, ◌≤◌, ◌∷◌, ◌++◌, ◌≡◌}
use Rattle.std.specs.Prelude.{min, sum_by, if◌then◌else◌}
use Rattle.std.proofs.lemmas.List.Sums.{sum_by-append}
use Rattle.std.proofs.lemmas.Grind.{common_steps}
use mathlib.Core.Path.{subst}
use Rattle.words_numbers.specs.Parameters.{Parameters}
use Rattle.rules_server.specs.declared.Replenish.{Replenish}
use Rattle.rules_server.specs.declared.ServerKind.{ServerKind}
use Rattle.rules_server.specs.Server.{ServerState, activate, charge, is_high, joined_after, joins_as, new_server_as, oldest_pending, pending_total, plan, planned_in, refill, refill_from, replenishment, set_high}
use Rattle.rules_machine.specs.Servers.{amount_of, charged}
use Rattle.laws_machine.proofs.Servers.Changed.{high_parts}
use Rattle.laws_numbers.specs.Numbers.{Each, IsNumber, IsSmall, ServerSmall}
use Rattle.laws_numbers.proofs.Lists.{each_last}

total_more : (r : Replenish) (rs : List Replenish) → sum_by (λ (x : Replenish). x.amount) (r ∷ rs) ≡ r.amount + sum_by (λ (x : Replenish). x.amount) rs
total_more r rs = grind (arith, common_steps)

total_last : (rs : List Replenish) (r : Replenish) → sum_by (λ (x : Replenish). x.amount) (rs ++ r ∷ []) ≡ sum_by (λ (x : Replenish). x.amount) rs + r.amount
total_last rs r = grind (arith, common_steps, sum_by-append)

pub new_small : (ticks now : ℕ) (k : ServerKind) (p : Parameters) → IsNumber p.budget → IsNumber p.period → now ≤ 10 ^ 18 → ServerSmall ticks (new_server_as k p now)
new_small ticks now k params b p n = record { budget = b; period = p; activation = n; parts = omega (arith); refilled = omega arith; high = omega arith; dues = tt }

pub activate_small : (ticks now : ℕ) (s : ServerState) → now ≤ 10 ^ 18 → ServerSmall ticks s → ServerSmall ticks (activate now s)
activate_small ticks now s n h = record { budget = h.budget; period = h.period; activation = n; parts = h.parts; refilled = h.refilled; high = h.high; dues = h.dues }

pub due_told : (ticks : ℕ) (s : ServerState) → ServerSmall ticks s → IsSmall (replenishment s).due
due_told ticks s h = omega (arith, h.activation, h.period)

-- ---- a plan that becomes the last, or joins it

joined_total : (r q : Replenish) (rs : List Replenish) → sum_by (λ (x : Replenish). x.amount) (joined_after r q rs) ≡ sum_by (λ (x : Replenish). x.amount) (q ∷ rs) + r.amount
joined_total r q [] = grind (arith, common_steps)
joined_total r q (next ∷ rest) =
    let ih = joined_total r next rest in
    let e = total_more q (joined_after r next rest) in
    let f = total_more q (next ∷ rest) in
    omega (arith, ih, e, f)

planned_total : (b : Bool) (r : Replenish) (rs : List Replenish) → sum_by (λ (x : Replenish). x.amount) (planned_in b r rs) ≡ sum_by (λ (x : Replenish). x.amount) rs + r.amount
planned_total false r rs = total_last rs r
planned_total true r [] = grind (arith, common_steps)
planned_total true r (q ∷ rs) = joined_total r q rs

abbrev DueIsSmall : Replenish → Type 0
DueIsSmall r = IsSmall r.due

joined_dues : (r q : Replenish) (rs : List Replenish) → Each DueIsSmall (q ∷ rs) → IsSmall r.due → Each DueIsSmall (joined_after r q rs)
joined_dues r q [] each due = (due, tt)
joined_dues r q (next ∷ rest) each due = (each.0, joined_dues r next rest each.1 due)

planned_dues : (b : Bool) (r : Replenish) (rs : List Replenish) → Each DueIsSmall rs → IsSmall r.due → Each DueIsSmall (planned_in b r rs)
planned_dues false r rs each due = each_last DueIsSmall rs r each due
planned_dues true r [] each due = (due, tt)
planned_dues true r (q ∷ rs) each due = joined_dues r q rs each due

pub plan_small : (ticks : ℕ) (s : ServerState) → ServerSmall ticks s → ServerSmall ticks (plan s)
plan_small ticks s h = let more = planned_total (joins_as s.kind (length s.pending) s.params.max) (replenishment s) s.pending in record {
  budget = h.budget;
  period = h.period;
  activation = h.activation;
  parts = omega (arith, more, h.parts);
  refilled = omega (arith, more, h.refilled);
  high = h.high;
  dues = planned_dues (joins_as s.kind (length s.pending) s.params.max) (replenishment s) s.pending h.dues (due_told ticks s h);
}

min_left : (a b : ℕ) → min a b ≤ a
min_left a b = omega arith

pub refill_small : (ticks : ℕ) (s : ServerState) → ServerSmall ticks s → ServerSmall ticks (refill s)
refill_small ticks s h = by (s.pending) refl
  where
    by : (rs : List Replenish) → s.pending ≡ rs → ServerSmall ticks (refill_from rs s)
    by [] e = h
    by (r ∷ rs) e =
        let more : pending_total s ≡ r.amount + sum_by (λ (x : Replenish). x.amount) rs = rw e (total_more r rs) in
        let low = min_left (s.capacity + r.amount) s.params.budget in
        let dues : Each (λ (x : Replenish). IsSmall x.due) (r ∷ rs) = subst (Each (λ (x : Replenish). IsSmall x.due)) e h.dues in
        record {
          budget = h.budget;
          period = h.period;
          activation = h.activation;
          parts = omega (arith, more, h.parts, low);
          refilled = omega (arith, more, h.refilled);
          high = h.high;
          dues = dues.1;
        }

pub priced_small : (ticks p : ℕ) (s : ServerState) → ServerSmall ticks s → ServerSmall ticks (set_high p s)
priced_small ticks p s h = record { budget = h.budget; period = h.period; activation = h.activation; parts = h.parts; refilled = h.refilled; high = h.high; dues = h.dues }

pub charged_small : (ticks : ℕ) (s : ServerState) → ServerSmall ticks s → ServerSmall (ticks + 1) (charged s)
charged_small ticks s h = by (is_high s) refl
  where
    by : (b : Bool) → is_high s ≡ b → ServerSmall (ticks + 1) (if b then charge s else s)
    by true e =
        let some = (high_parts s e).0 in
        record { budget = h.budget; period = h.period; activation = h.activation; parts = omega (arith, h.parts, some); refilled = omega (arith, h.refilled); high = omega (arith, h.high); dues = h.dues }
    by false e = record { budget = h.budget; period = h.period; activation = h.activation; parts = h.parts; refilled = h.refilled; high = omega (arith, h.high); dues = h.dues }

-- what is told of a server
pub capacity_told : (ticks : ℕ) (s : ServerState) → ServerSmall ticks s → IsSmall s.capacity
capacity_told ticks s h = omega (arith, h.parts)

pub amount_told : (ticks : ℕ) (s : ServerState) → ServerSmall ticks s → IsSmall (replenishment s).amount
amount_told ticks s h = omega (arith, h.parts)

pub refill_told : (ticks : ℕ) (s : ServerState) → ServerSmall ticks s → IsSmall (amount_of (oldest_pending s))
refill_told ticks s h = by s.pending refl
  where
    by : (rs : List Replenish) → s.pending ≡ rs → IsSmall (amount_of (oldest_pending (record s { pending = rs })))
    by [] e = omega arith
    by (r ∷ rs) e = let more : pending_total s ≡ r.amount + sum_by (λ (x : Replenish). x.amount) rs = rw e (total_more r rs) in omega (arith, more, h.parts)

pub refilled_told : (ticks : ℕ) (s : ServerState) → ServerSmall ticks s → IsSmall (refill s).capacity
refilled_told ticks s h = capacity_told ticks (refill s) (refill_small ticks s h)
