-- What each call of a server keeps.
use Rattle.std.proofs.Common.{ap, ◌≡◌, ℕ, zero, suc, ◌+◌, ◌-◌, ◌<◌, ◌≤◌, ◌^◌, List, [], ◌∷◌, length, refl, arith, get_or, rules, subst, sym}
use Rattle.std.specs.Prelude.{sum_by, All, Bool, true, false, ◌++◌, not, remove}
use Rattle.std.proofs.lemmas.Grind.{common_steps}
use Rattle.words_numbers.specs.Parameters.{Parameters, AreParameters}
use Rattle.rules_server.specs.declared.Replenish.{Replenish}
use Rattle.rules_server.specs.declared.ServerKind.{ServerKind}
use Rattle.rules_server.specs.declared.ServerKind.TheVariants as kind
use Rattle.rules_server.specs.Server.{ServerState, charge_ticks, has_room, joined, joined_after, joins_as, new_server_as, plan, planned_in, refill_from, replenishment, IsServer, KeepsBudget}
use Rattle.rules_server.specs.Calls.{MayPlan, ServerCall, Charge, Activate, Plan, Refill, SetHigh, MayCall, after_call, MayCallAll, after_calls}

-- k ticks one after another are k ticks at once
pub charge_ticks_is : (k : ℕ) (s : ServerState) →
    charge_ticks k s ≡ record s { capacity = s.capacity - k; consumed = s.consumed + k; high_total = s.high_total + k }
charge_ticks_is zero s = grind arith
charge_ticks_is (suc k) s = rw (charge_ticks_is k s) (grind arith)

-- no amount is larger than all of them together
amount_le : (rs : List Replenish) (c total : ℕ) → c + sum_by (λ r. r.amount) rs ≤ total →
    (k : ℕ) (d : Replenish) → k < length rs → c + (get_or rs k d).amount ≤ total
amount_le [] c total sum k d lt = absurd (omega arith)
amount_le (r ∷ rs) c total sum zero d lt =
    let e : sum_by (λ x. x.amount) (r ∷ rs) ≡ r.amount + sum_by (λ x. x.amount) rs = grind (arith, common_steps) in
    let f : get_or (r ∷ rs) zero d ≡ r = refl in
    rw f (omega arith)
amount_le (r ∷ rs) c total sum (suc k) d lt =
    let e : sum_by (λ x. x.amount) (r ∷ rs) ≡ r.amount + sum_by (λ x. x.amount) rs = grind (arith, common_steps) in
    amount_le rs c total (omega arith) k d (omega arith)

-- carrying out the oldest one as the code does, with no rounding, is the rule
pub refill_from_is : (rs left : List Replenish) (s : ServerState) (x : Replenish) →
    s.capacity + sum_by (λ r. r.amount) rs + s.consumed ≡ s.params.budget → 0 < length rs → x ≡ get_or rs 0 x → left ≡ remove rs 0 →
    record s { capacity = s.capacity + x.amount; pending = left; refilled_total = s.refilled_total + x.amount } ≡ refill_from rs s
refill_from_is [] left s x sum some first rest = absurd (omega arith)
refill_from_is (r ∷ rs) left s x sum some first rest = grind (arith, common_steps)

-- what is left of the pending ones when the oldest is taken out
pub record Rest (rs left : List Replenish) (x : Replenish) : Type 0 where
  pub sums : x.amount + sum_by (λ r. r.amount) left ≡ sum_by (λ r. r.amount) rs
  pub lengths : length left + 1 ≡ length rs
  pub above_zero : All (λ r. 1 ≤ r.amount) rs → All (λ r. 1 ≤ r.amount) left

pub rest_of : (rs left : List Replenish) (x : Replenish) → 0 < length rs → x ≡ get_or rs 0 x → left ≡ remove rs 0 → Rest rs left x
rest_of [] left x some first rest = absurd (omega arith)
rest_of (r ∷ rs) left x some first rest =
    let head : x ≡ r = first in
    let tail : left ≡ rs = rest in
    rw (head, tail) (record {
      sums = grind (arith, common_steps);
      lengths = grind (arith, common_steps);
      above_zero = λ each k d lt. each (suc k) d (omega arith);
    })

refill_keeps : (rs : List Replenish) (s : ServerState) → rs ≡ s.pending → IsServer s → IsServer (refill_from rs s)
refill_keeps [] s e ok = ok
refill_keeps (r ∷ rs) s e ok =
    let rest = rest_of (r ∷ rs) rs r (omega arith) refl refl in
    let sums : r.amount + sum_by (λ x. x.amount) rs ≡ sum_by (λ x. x.amount) s.pending = rw (← e) rest.sums in
    let lengths : length rs + 1 ≡ length s.pending = rw (← e) rest.lengths in
    record {
      parameters = ok.parameters;
      adds_up = record { budget = omega arith; totals = omega arith };
      activation_small = ok.activation_small;
      high_small = ok.high_small;
      few_pending = omega arith;
      amounts_above_zero = rest.above_zero (subst (λ (ps : List Replenish). All (λ x. 1 ≤ x.amount) ps) (sym e) ok.amounts_above_zero);
    }

-- ---- planning

joined_sum : (r q : Replenish) (rs : List Replenish) → sum_by (λ x. x.amount) (joined_after r q rs) ≡ sum_by (λ x. x.amount) (q ∷ rs) + r.amount
joined_sum r q [] = grind (arith, common_steps)
joined_sum r q (next ∷ rest) =
    let ih = joined_sum r next rest in
    let e : sum_by (λ x. x.amount) (q ∷ joined_after r next rest) ≡ q.amount + sum_by (λ x. x.amount) (joined_after r next rest) = grind (arith, common_steps) in
    let f : sum_by (λ x. x.amount) (q ∷ next ∷ rest) ≡ q.amount + sum_by (λ x. x.amount) (next ∷ rest) = grind (arith, common_steps) in
    omega arith

joined_length : (r q : Replenish) (rs : List Replenish) → length (joined_after r q rs) ≡ length (q ∷ rs)
joined_length r q [] = refl
joined_length r q (next ∷ rest) = let ih = joined_length r next rest in omega arith

joined_above : (r q : Replenish) (rs : List Replenish) → 1 ≤ r.amount → All (λ x. 1 ≤ x.amount) (q ∷ rs) → All (λ x. 1 ≤ x.amount) (joined_after r q rs)
joined_above r q [] some each zero d lt = omega arith
joined_above r q [] some each (suc k) d lt = absurd (omega arith)
joined_above r q (next ∷ rest) some each zero d lt = each zero d (omega arith)
joined_above r q (next ∷ rest) some each (suc k) d lt = joined_above r next rest some (λ j e h. each (suc j) e (omega arith)) k d (omega arith)

joined_after_last : (r q : Replenish) (rs : List Replenish) (last : Replenish) →
    joined_after r q (rs ++ last ∷ []) ≡ q ∷ rs ++ record { amount = last.amount + r.amount; due = r.due } ∷ []
joined_after_last r q [] last = refl
joined_after_last r q (next ∷ rest) last = ap (λ xs. q ∷ xs) (joined_after_last r next rest last)

-- it joins the last
pub joined_last : (r : Replenish) (rs : List Replenish) (last : Replenish) →
    joined r (rs ++ last ∷ []) ≡ rs ++ record { amount = last.amount + r.amount; due = r.due } ∷ []
joined_last r [] last = refl
joined_last r (q ∷ rs) last = joined_after_last r q rs last

-- what is pending after one more was planned
pub record Planned (max : ℕ) (r : Replenish) (rs after : List Replenish) : Type 0 where
  pub sum : sum_by (λ x. x.amount) after ≡ sum_by (λ x. x.amount) rs + r.amount
  pub few : length rs ≤ max → length after ≤ max
  pub above_zero : 1 ≤ r.amount → All (λ x. 1 ≤ x.amount) rs → All (λ x. 1 ≤ x.amount) after

pub appended_is : (max : ℕ) (r : Replenish) (rs : List Replenish) → length rs < max → Planned max r rs (planned_in false r rs)
appended_is max r rs room = record {
  sum = grind (arith, common_steps);
  few = λ few. grind (arith, common_steps);
  above_zero = λ some each. grind (arith, common_steps);
}

pub joined_is : (max : ℕ) (r : Replenish) (rs : List Replenish) → 1 ≤ max → max ≤ length rs → Planned max r rs (joined r rs)
joined_is max r [] one none = absurd (omega arith)
joined_is max r (q ∷ rs) one full = record {
  sum = joined_sum r q rs;
  few = λ few. let e = joined_length r q rs in omega arith;
  above_zero = λ some each. joined_above r q rs some each;
}

pub planned_is : (k : ServerKind) (s : ServerState) (r : Replenish) → 1 ≤ s.params.max → MayPlan k s →
    Planned s.params.max r s.pending (planned_in (joins_as k (length s.pending) s.params.max) r s.pending)
planned_is kind.Sporadic s r one may = appended_is s.params.max r s.pending may
planned_is kind.Strict s r one may = by_room (has_room s) refl
  where
    by_room : (b : Bool) → has_room s ≡ b → Planned s.params.max r s.pending (planned_in (not b) r s.pending)
    by_room true is = appended_is s.params.max r s.pending (grind arith)
    by_room false is = joined_is s.params.max r s.pending one (grind arith)

-- what was consumed is put among the pending ones
pub put_keeps : (s : ServerState) (r : Replenish) (b : Bool) (items : List Replenish) → IsServer s → 1 ≤ s.consumed → MayPlan s.kind s →
    r.amount ≡ s.consumed → b ≡ joins_as s.kind (length s.pending) s.params.max → items ≡ planned_in b r s.pending → IsServer (record s { consumed = 0; pending = items })
put_keeps s r b items ok some may amount joins is =
    let p = planned_is s.kind s r ok.parameters.some_pending may in
    let e : items ≡ planned_in (joins_as s.kind (length s.pending) s.params.max) r s.pending = rw (is, joins) refl in
    let sum : sum_by (λ x. x.amount) items ≡ sum_by (λ x. x.amount) s.pending + r.amount = rw e p.sum in
    record {
      parameters = ok.parameters;
      adds_up = record { budget = omega (arith, sum, amount, ok.adds_up.budget); totals = ok.adds_up.totals };
      activation_small = ok.activation_small;
      high_small = ok.high_small;
      few_pending = rw e (p.few ok.few_pending);
      amounts_above_zero = rw e (p.above_zero (omega arith) ok.amounts_above_zero);
    }

pub plan_keeps : (s : ServerState) → IsServer s → 1 ≤ s.consumed → MayPlan s.kind s → IsServer (plan s)
plan_keeps s ok some may =
    put_keeps s (replenishment s) (joins_as s.kind (length s.pending) s.params.max) (planned_in (joins_as s.kind (length s.pending) s.params.max) (replenishment s) s.pending) ok some may refl refl refl

kept : (call : ServerCall) (s : ServerState) → IsServer s → MayCall call s → IsServer (after_call call s)
kept (Charge k) s ok may = rw (charge_ticks_is k s) (record {
  parameters = ok.parameters;
  adds_up = record { budget = omega arith; totals = omega arith };
  activation_small = ok.activation_small;
  high_small = may.2;
  few_pending = ok.few_pending;
  amounts_above_zero = ok.amounts_above_zero;
})
kept (Activate now) s ok may = search rules
kept Plan s ok may = plan_keeps s ok may.0 may.1
kept Refill s ok may = refill_keeps s.pending s refl ok
kept (SetHigh p) s ok may = search rules

kept_all : (calls : List ServerCall) (s : ServerState) → IsServer s → MayCallAll calls s → IsServer (after_calls calls s)
kept_all [] s ok may = ok
kept_all (call ∷ calls) s ok may = kept_all calls (after_call call s) (kept call s ok may.0) may.1

new_is : (p : Parameters) (kind : ServerKind) (now : ℕ) → AreParameters p → now ≤ 10 ^ 18 → IsServer (new_server_as kind p now)
new_is p kind now ok small = search rules

-- a server keeps its budget
pub keeps_budget : (s : ServerState) → IsServer s → KeepsBudget s
keeps_budget s ok = record { adds_up = ok.adds_up; uncut = amount_le s.pending s.capacity s.params.budget (omega arith) }

pub law : (p : Parameters) (kind : ServerKind) (now : ℕ) (calls : List ServerCall) → AreParameters p → now ≤ 10 ^ 18 →
    MayCallAll calls (new_server_as kind p now) → KeepsBudget (after_calls calls (new_server_as kind p now))
law p kind now calls ok small may = keeps_budget (after_calls calls (new_server_as kind p now)) (kept_all calls (new_server_as kind p now) (new_is p kind now ok small) may)
