-- The books of a server: its account and its fields agree; a new server, an activation and a tick keep them so.
use Rattle.std.proofs.Common.{Bool, List, None, [], ap, arith, length, max, false, refl, suc, sym, true, zero, ℕ, ◌+◌, ◌≤◌, ◌∷◌, ◌++◌, ◌≡◌}
use Rattle.std.specs.Prelude.{All, map, take, ◌||◌, flat_map}
use Rattle.std.specs.List.{sum}
use mathlib.Core.Path.{◌∙◌, ap₂}
use Rattle.rules_server.specs.declared.Replenish.{Replenish}
use Rattle.rules_server.specs.declared.ServerKind.{ServerKind}
use Rattle.rules_server.specs.declared.ServerKind.TheVariants as kind
use Rattle.rules_server.specs.Server.{ServerState, activate, charge, pending_total, set_high, new_server_as}
use Rattle.words_numbers.specs.Parameters.{Parameters}
use Rattle.rules_machine.specs.Budget.{KeepsAccount, Plan, ServerEvent, activated, high_ticks, expected_plans, plan_in, plans_in, refill_amount, refill_amounts, refill_time, refill_times, replenishment_in, used, used_one, FallInto, FollowsPlans, Group, OneByOne, refill_in, refills_in}
use Rattle.rules_machine.specs.Budget.{plans_follow}
use Rattle.rules_moves.proofs.Waiters.Best.{Each}
use Rattle.laws_machine.proofs.Budgets.Entries.{active_last, count_after, count_last, expected_last, filter_map_last, follows_on, group_plans, group_sum, is_active, map_last, none_more, since_after, since_last, stays_active, sum_last}

-- ---- the books

-- a pending plan is carried out at an instant from now on, and at its due instant if that is later
abbrev pub Open : ℕ → Plan → Type 0
Open now p = (now ≤ p.from) × (p.due ≤ p.from) × (p.from ≤ max p.due now)

-- Of a sporadic server: the plans are those that were carried out, and behind them those that are pending.
pub record Single (now : ℕ) (pending : List Replenish) (acc : List ServerEvent) : Type 0 where
  pub done : List Plan
  pub ahead : List Plan
  pub plans : plans_in acc ≡ done ++ ahead
  pub amounts : refill_amounts acc ≡ map (λ (p : Plan). p.amount) done
  pub times : refill_times acc ≡ map (λ (p : Plan). p.from) done
  pub pending_is : pending ≡ map replenishment_in ahead
  pub waiting : Each (Open now) ahead

-- Of a strict one: the plans fall into groups, those that were carried out and those that are pending, and none of these is overdue.
pub record Grouped (now : ℕ) (pending : List Replenish) (acc : List ServerEvent) : Type 0 where
  pub done : List Group
  pub ahead : List Group
  pub plans : flat_map group_plans (done ++ ahead) ≡ map replenishment_in (plans_in acc)
  pub refills : map group_sum done ≡ refills_in acc
  pub pending_is : map group_sum ahead ≡ pending
  pub waiting : Each (λ (r : Replenish). now ≤ r.due) pending

abbrev pub Followed : ServerKind → ℕ → List Replenish → List ServerEvent → Type 0
Followed kind.Sporadic now pending acc = Single now pending acc
Followed kind.Strict now pending acc = Grouped now pending acc

pub record Books (now : ℕ) (s : ServerState) (acc : List ServerEvent) : Type 0 where
  pub followed : Followed s.kind now s.pending acc
  pub high : high_ticks acc + s.capacity ≡ s.params.budget + sum (refill_amounts acc)
  pub high_total : s.high_total ≡ high_ticks acc
  pub refilled_total : s.refilled_total ≡ sum (refill_amounts acc)
  pub budget : s.capacity + pending_total s + s.consumed ≡ s.params.budget
  pub as_expected : map replenishment_in (plans_in acc) ≡ expected_plans s.params.period acc
  pub some : Each (λ (p : Plan). 1 ≤ p.amount) (plans_in acc)
  pub follows : plans_follow false acc ≡ true

-- what was consumed is what was used since the activation: so it is where a tick may be charged
pub record InStep (s : ServerState) (acc : List ServerEvent) : Type 0 where
  pub count : count_after 0 acc ≡ s.consumed
  pub since : since_after 0 acc ≡ s.activation
  pub active : is_active acc ≡ true

-- ---- the law of the budget follows

each_all : {X : Type 0} (Law : X → Type 0) (xs : List X) → Each Law xs → All Law xs
each_all Law [] each k d h = absurd (omega arith)
each_all Law (x ∷ xs) each zero d h = each.0
each_all Law (x ∷ xs) each (suc k) d h = each_all Law xs each.1 k d (omega arith)

take_first : {X : Type 0} (xs ys : List X) → take (length xs) (xs ++ ys) ≡ xs
take_first [] ys = refl
take_first (x ∷ xs) ys = ap (λ zs. x ∷ zs) (take_first xs ys)

amounts_of : (ps : List Plan) → map (λ (r : Replenish). r.amount) (map replenishment_in ps) ≡ map (λ (p : Plan). p.amount) ps
amounts_of [] = refl
amounts_of (p ∷ ps) = ap (λ ns. p.amount ∷ ns) (amounts_of ps)

keeps_single : (now : ℕ) (s : ServerState) (acc : List ServerEvent) → Single now s.pending acc → OneByOne s acc
keeps_single now s acc b = record {
  in_order = rw (b.amounts, b.pending_is, b.plans) (ap (λ ns. map (λ (p : Plan). p.amount) b.done ++ ns) (amounts_of b.ahead) ∙ sym (map_last (λ (p : Plan). p.amount) b.done b.ahead));
  on_time = rw (b.times, b.plans) (sym (take_first (map (λ (p : Plan). p.from) b.done) (map (λ (p : Plan). p.from) b.ahead)) ∙ on_all b.done b.ahead);
}
  where
    on_all : (ps qs : List Plan) → take (length (map (λ (p : Plan). p.from) ps)) (map (λ (p : Plan). p.from) ps ++ map (λ (p : Plan). p.from) qs) ≡ take (length (map (λ (p : Plan). p.from) ps)) (map (λ (p : Plan). p.from) (ps ++ qs))
    on_all ps qs = ap (take (length (map (λ (p : Plan). p.from) ps))) (sym (map_last (λ (p : Plan). p.from) ps qs))

keeps_grouped : (now : ℕ) (s : ServerState) (acc : List ServerEvent) → Grouped now s.pending acc → FallInto (map replenishment_in (plans_in acc)) (refills_in acc ++ s.pending)
keeps_grouped now s acc b = record {
  groups = b.done ++ b.ahead;
  in_order = b.plans;
  each = map_last group_sum b.done b.ahead ∙ ap₂ (λ (rs qs : List Replenish). rs ++ qs) b.refills b.pending_is;
}

pub keeps_account : (now : ℕ) (s : ServerState) (acc : List ServerEvent) → Books now s acc → KeepsAccount s acc
keeps_account now s acc b = record {
  high = b.high;
  high_total = b.high_total;
  refilled_total = b.refilled_total;
  budget = b.budget;
  planned = by_kind s.kind b.followed;
  follows = b.follows;
  as_expected = b.as_expected;
  not_empty = each_all (λ (p : Plan). 1 ≤ p.amount) (plans_in acc) b.some;
}
  where
    by_kind : (k : ServerKind) → Followed k now s.pending acc → FollowsPlans k s acc
    by_kind kind.Sporadic f = keeps_single now s acc f
    by_kind kind.Strict f = keeps_grouped now s acc f

-- ---- a new server

new_followed : (k : ServerKind) (now : ℕ) → Followed k now [] []
new_followed kind.Sporadic now = record { done = []; ahead = []; plans = refl; amounts = refl; times = refl; pending_is = refl; waiting = tt }
new_followed kind.Strict now = record { done = []; ahead = []; plans = refl; refills = refl; pending_is = refl; waiting = tt }

pub new_books : (k : ServerKind) (p : Parameters) (now : ℕ) → Books now (new_server_as k p now) []
new_books k p now = record {
  followed = new_followed k now;
  high = omega arith;
  high_total = refl;
  refilled_total = refl;
  budget = omega arith;
  as_expected = refl;
  some = tt;
  follows = refl;
}

-- another high priority
pub priced_books : (p now : ℕ) (s : ServerState) (acc : List ServerEvent) → Books now s acc → Books now (set_high p s) acc
priced_books p now s acc b = record {
  followed = b.followed;
  high = b.high;
  high_total = b.high_total;
  refilled_total = b.refilled_total;
  budget = b.budget;
  as_expected = b.as_expected;
  some = b.some;
  follows = b.follows;
}

-- ---- an activation

pub ticks_last : (acc : List ServerEvent) (x : ServerEvent) → high_ticks (acc ++ x ∷ []) ≡ high_ticks acc + used_one x
ticks_last acc x = ap sum (map_last used_one acc (x ∷ [])) ∙ sum_last (map used_one acc) (used_one x)

pub plans_stay : (acc : List ServerEvent) (x : ServerEvent) → plan_in x ≡ None → plans_in (acc ++ x ∷ []) ≡ plans_in acc
plans_stay acc x e = filter_map_last plan_in acc x ∙ rw e (none_more (plans_in acc))

pub amounts_stay : (acc : List ServerEvent) (x : ServerEvent) → refill_amount x ≡ None → refill_amounts (acc ++ x ∷ []) ≡ refill_amounts acc
amounts_stay acc x e = filter_map_last refill_amount acc x ∙ rw e (none_more (refill_amounts acc))

pub times_stay : (acc : List ServerEvent) (x : ServerEvent) → refill_time x ≡ None → refill_times (acc ++ x ∷ []) ≡ refill_times acc
times_stay acc x e = filter_map_last refill_time acc x ∙ rw e (none_more (refill_times acc))

pub refills_stay : (acc : List ServerEvent) (x : ServerEvent) → refill_in x ≡ None → refills_in (acc ++ x ∷ []) ≡ refills_in acc
refills_stay acc x e = filter_map_last refill_in acc x ∙ rw e (none_more (refills_in acc))

-- an entry that is neither a plan nor a refill
followed_on : (k : ServerKind) (now : ℕ) (pending : List Replenish) (acc : List ServerEvent) (x : ServerEvent) → plan_in x ≡ None → refill_amount x ≡ None → refill_time x ≡ None → refill_in x ≡ None →
    Followed k now pending acc → Followed k now pending (acc ++ x ∷ [])
followed_on kind.Sporadic now pending acc x p a t r b = record {
  done = b.done;
  ahead = b.ahead;
  plans = plans_stay acc x p ∙ b.plans;
  amounts = amounts_stay acc x a ∙ b.amounts;
  times = times_stay acc x t ∙ b.times;
  pending_is = b.pending_is;
  waiting = b.waiting;
}
followed_on kind.Strict now pending acc x p a t r b = record {
  done = b.done;
  ahead = b.ahead;
  plans = b.plans ∙ ap (map replenishment_in) (sym (plans_stay acc x p));
  refills = b.refills ∙ sym (refills_stay acc x r);
  pending_is = b.pending_is;
  waiting = b.waiting;
}

pub activated_books : (time now : ℕ) (s : ServerState) (acc : List ServerEvent) → Books now s acc → Books now (activate time s) (acc ++ activated time ∷ [])
activated_books time now s acc b =
    let x = activated time in
    let plans' = plans_stay acc x refl in
    let amounts' = amounts_stay acc x refl in
    let ticks' = ticks_last acc x in
    record {
      followed = followed_on s.kind now s.pending acc x refl refl refl refl b.followed;
      high = rw amounts' (let h = b.high in omega arith);
      high_total = let h = b.high_total in omega arith;
      refilled_total = rw amounts' b.refilled_total;
      budget = b.budget;
      as_expected = rw plans' (b.as_expected ∙ sym (expected_last s.params.period 0 0 acc x ∙ none_more (expected_plans s.params.period acc)));
      some = rw plans' b.some;
      follows = follows_on acc x (λ c. refl) b.follows;
    }

always : (b : Bool) → (b || true) ≡ true
always b = grind arith

-- from then on the ticks are counted anew
pub activated_in_step : (time : ℕ) (s : ServerState) (acc : List ServerEvent) → s.consumed ≡ 0 → InStep (activate time s) (acc ++ activated time ∷ [])
activated_in_step time s acc e = record { count = count_last 0 acc (activated time) ∙ sym e; since = since_last 0 acc (activated time); active = active_last acc (activated time) ∙ always (is_active acc) }

-- ---- a tick at the high priority

pub used_books : (now : ℕ) (s : ServerState) (acc : List ServerEvent) → 1 ≤ s.capacity → Books now s acc → Books now (charge s) (acc ++ used ∷ [])
used_books now s acc some b =
    let plans' = plans_stay acc used refl in
    let amounts' = amounts_stay acc used refl in
    let ticks' = ticks_last acc used in
    record {
      followed = followed_on s.kind now s.pending acc used refl refl refl refl b.followed;
      high = rw amounts' (let h = b.high in omega arith);
      high_total = let h = b.high_total in omega arith;
      refilled_total = rw amounts' b.refilled_total;
      budget = let h = b.budget in omega arith;
      as_expected = rw plans' (b.as_expected ∙ sym (expected_last s.params.period 0 0 acc used ∙ none_more (expected_plans s.params.period acc)));
      some = rw plans' b.some;
      follows = follows_on acc used (λ c. refl) b.follows;
    }

pub used_in_step : (s : ServerState) (acc : List ServerEvent) → InStep s acc → InStep (charge s) (acc ++ used ∷ [])
used_in_step s acc h = record { count = count_last 0 acc used ∙ ap (λ (n : ℕ). n + 1) h.count; since = since_last 0 acc used ∙ h.since; active = stays_active acc used h.active }
