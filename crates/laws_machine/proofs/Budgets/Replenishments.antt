-- The books of a server as it plans a replenishment, as one is made, and an instant later.
use Rattle.std.proofs.Common.{Bool, List, [], ap, append_assoc, arith, length, max, false, refl, sym, true, ℕ, ◌+◌, ◌<◌, ◌≤◌, ◌∷◌, ◌++◌, ◌≡◌}
use Rattle.std.specs.Prelude.{map, sum_by, flat_map}
use Rattle.std.proofs.lemmas.List.Sums.{sum_by-append}
use mathlib.Core.Path.{subst, ◌∙◌, ap₂}
use Rattle.rules_server.specs.declared.Replenish.{Replenish}
use Rattle.rules_server.specs.declared.ServerKind.{ServerKind}
use Rattle.rules_server.specs.declared.ServerKind.TheVariants as kind
use Rattle.rules_server.specs.Server.{ServerState, plan, refill, refill_from, replenishment, joined_after, joins_as, planned_in}
use Rattle.rules_machine.specs.Budget.{Plan, ServerEvent, expected_plans, plan_in, planned, plans_in, refill_amount, refill_amounts, refill_time, refilled, replenishment_in, Group, refill_in, refills_in}
use Rattle.rules_moves.proofs.Waiters.Best.{Each}
use Rattle.std.proofs.lemmas.Grind.{common_steps}
use Rattle.laws_machine.proofs.Budgets.Entries.{count_after, each_more, expected_last, filter_map_last, flat_last, follows_on, group_plans, group_sum, map_last, more_after, more_plans, more_sums, none_more, plan_follows, since_after, sum_last}
use Rattle.laws_machine.proofs.Budgets.Accounts.{Books, Followed, Grouped, InStep, Open, Single, amounts_stay, plans_stay, refills_stay, ticks_last, times_stay}

-- ---- a plan

pending_last : (rs : List Replenish) (r : Replenish) → sum_by (λ (x : Replenish). x.amount) (rs ++ r ∷ []) ≡ sum_by (λ (x : Replenish). x.amount) rs + r.amount
pending_last rs r = let both = sum_by-append (λ (x : Replenish). x.amount) rs (r ∷ []) in omega arith

single_planned : (now : ℕ) (pending : List Replenish) (acc : List ServerEvent) (r : Replenish) → Single now pending acc → Single now (pending ++ r ∷ []) (acc ++ planned now r ∷ [])
single_planned now pending acc r b =
    let x = planned now r in
    let made : Plan = record { amount = r.amount; due = r.due; from = max r.due now } in
    record {
      done = b.done;
      ahead = b.ahead ++ made ∷ [];
      plans = filter_map_last plan_in acc x ∙ ap (λ ps. ps ++ made ∷ []) b.plans ∙ append_assoc b.done b.ahead (made ∷ []);
      amounts = amounts_stay acc x refl ∙ b.amounts;
      times = times_stay acc x refl ∙ b.times;
      pending_is = ap (λ rs. rs ++ r ∷ []) b.pending_is ∙ sym (map_last replenishment_in b.ahead (made ∷ []));
      waiting = each_more (Open now) b.ahead made b.waiting (omega arith, omega arith, omega arith);
    }

planned_plans : (now : ℕ) (acc : List ServerEvent) (r : Replenish) → map replenishment_in (plans_in acc) ++ r ∷ [] ≡ map replenishment_in (plans_in (acc ++ planned now r ∷ []))
planned_plans now acc r =
    let made : Plan = record { amount = r.amount; due = r.due; from = max r.due now } in
    sym (map_last replenishment_in (plans_in acc) (made ∷ [])) ∙ ap (map replenishment_in) (sym (filter_map_last plan_in acc (planned now r)))

grouped_appended : (now : ℕ) (pending : List Replenish) (acc : List ServerEvent) (r : Replenish) → now ≤ r.due → Grouped now pending acc → Grouped now (pending ++ r ∷ []) (acc ++ planned now r ∷ [])
grouped_appended now pending acc r due b =
    let new : Group = record { first = r; later = [] } in
    record {
      done = b.done;
      ahead = b.ahead ++ new ∷ [];
      plans = ap (flat_map group_plans) (sym (append_assoc b.done b.ahead (new ∷ []))) ∙ flat_last (b.done ++ b.ahead) (new ∷ []) ∙ ap (λ rs. rs ++ r ∷ []) b.plans ∙ planned_plans now acc r;
      refills = b.refills ∙ sym (refills_stay acc (planned now r) refl);
      pending_is = map_last group_sum b.ahead (new ∷ []) ∙ ap (λ rs. rs ++ r ∷ []) b.pending_is;
      waiting = each_more (λ (x : Replenish). now ≤ x.due) pending r b.waiting due;
    }

each_joined : (Law : Replenish → Type 0) (r : Replenish) → ((x : Replenish) → Law (record { amount = x.amount + r.amount; due = r.due })) → (q : Replenish) (rs : List Replenish) → Each Law (q ∷ rs) → Each Law (joined_after r q rs)
each_joined Law r h q [] each = (h q, tt)
each_joined Law r h q (next ∷ rest) each = (each.0, each_joined Law r h next rest each.1)

grouped_joined : (now : ℕ) (q : Replenish) (rest : List Replenish) (acc : List ServerEvent) (r : Replenish) → now ≤ r.due → Grouped now (q ∷ rest) acc → Grouped now (joined_after r q rest) (acc ++ planned now r ∷ [])
grouped_joined now q rest acc r due b = by_ahead b.ahead refl b.pending_is
  where
    head_of : Replenish → List Replenish → Replenish
    head_of d [] = d
    head_of d (x ∷ xs) = x

    tail_of : List Replenish → List Replenish
    tail_of [] = []
    tail_of (x ∷ xs) = xs

    by_ahead : (gs : List Group) → b.ahead ≡ gs → map group_sum gs ≡ q ∷ rest → Grouped now (joined_after r q rest) (acc ++ planned now r ∷ [])
    by_ahead [] e k = absurd (grind arith)
    by_ahead (g ∷ gs) e k =
        record {
          done = b.done;
          ahead = more_after g gs r;
          plans = flat_last b.done (more_after g gs r) ∙ ap (λ rs. flat_map group_plans b.done ++ rs) (more_plans g gs r)
              ∙ sym (append_assoc (flat_map group_plans b.done) (flat_map group_plans (g ∷ gs)) (r ∷ []))
              ∙ ap (λ rs. rs ++ r ∷ []) (sym (flat_last b.done (g ∷ gs)) ∙ ap (λ hs. flat_map group_plans (b.done ++ hs)) (sym e) ∙ b.plans) ∙ planned_plans now acc r;
          refills = b.refills ∙ sym (refills_stay acc (planned now r) refl);
          pending_is = more_sums g gs r ∙ ap₂ (λ (x : Replenish) (xs : List Replenish). joined_after r x xs) (ap (head_of q) k) (ap tail_of k);
          waiting = each_joined (λ (x : Replenish). now ≤ x.due) r (λ x. due) q rest b.waiting;
        }

grouped_planned : (joins : Bool) (now : ℕ) (pending : List Replenish) (acc : List ServerEvent) (r : Replenish) → now ≤ r.due → Grouped now pending acc → Grouped now (planned_in joins r pending) (acc ++ planned now r ∷ [])
grouped_planned false now pending acc r due b = grouped_appended now pending acc r due b
grouped_planned true now [] acc r due b = grouped_appended now [] acc r due b
grouped_planned true now (q ∷ rest) acc r due b = grouped_joined now q rest acc r due b

followed_planned : (k : ServerKind) (now : ℕ) (s : ServerState) (acc : List ServerEvent) → (k ≡ kind.Strict → now ≤ (replenishment s).due) → Followed k now s.pending acc →
    Followed k now (planned_in (joins_as k (length s.pending) s.params.max) (replenishment s) s.pending) (acc ++ planned now (replenishment s) ∷ [])
followed_planned kind.Sporadic now s acc due b = single_planned now s.pending acc (replenishment s) b
followed_planned kind.Strict now s acc due b = grouped_planned (joins_as kind.Strict (length s.pending) s.params.max) now s.pending acc (replenishment s) (due refl) b

joined_total : (r q : Replenish) (rs : List Replenish) → sum_by (λ (x : Replenish). x.amount) (joined_after r q rs) ≡ sum_by (λ (x : Replenish). x.amount) (q ∷ rs) + r.amount
joined_total r q [] = grind (arith, common_steps)
joined_total r q (next ∷ rest) =
    let ih = joined_total r next rest in
    let e : sum_by (λ (x : Replenish). x.amount) (q ∷ joined_after r next rest) ≡ q.amount + sum_by (λ (x : Replenish). x.amount) (joined_after r next rest) = grind (arith, common_steps) in
    let f : sum_by (λ (x : Replenish). x.amount) (q ∷ next ∷ rest) ≡ q.amount + sum_by (λ (x : Replenish). x.amount) (next ∷ rest) = grind (arith, common_steps) in
    omega arith

planned_total : (joins : Bool) (r : Replenish) (rs : List Replenish) → sum_by (λ (x : Replenish). x.amount) (planned_in joins r rs) ≡ sum_by (λ (x : Replenish). x.amount) rs + r.amount
planned_total false r rs = pending_last rs r
planned_total true r [] = pending_last [] r
planned_total true r (q ∷ rs) = joined_total r q rs

pub planned_books : (now : ℕ) (s : ServerState) (acc : List ServerEvent) → 1 ≤ s.consumed → (s.kind ≡ kind.Strict → now ≤ (replenishment s).due) → InStep s acc → Books now s acc → Books now (plan s) (acc ++ planned now (replenishment s) ∷ [])
planned_books now s acc some due step b =
    let x = planned now (replenishment s) in
    let made : Plan = record { amount = s.consumed; due = s.activation + s.params.period; from = max (s.activation + s.params.period) now } in
    let plans' : plans_in (acc ++ x ∷ []) ≡ plans_in acc ++ made ∷ [] = filter_map_last plan_in acc x in
    let amounts' = amounts_stay acc x refl in
    let ticks' = ticks_last acc x in
    record {
      followed = followed_planned s.kind now s acc due b.followed;
      high = rw amounts' (let h = b.high in omega arith);
      high_total = let h = b.high_total in omega arith;
      refilled_total = rw amounts' b.refilled_total;
      budget = let h = b.budget in let more = planned_total (joins_as s.kind (length s.pending) s.params.max) (replenishment s) s.pending in omega arith;
      as_expected = rw plans' (map_last replenishment_in (plans_in acc) (made ∷ []) ∙ ap (λ rs. rs ++ replenishment s ∷ []) b.as_expected
          ∙ expected_is s acc step ∙ sym (expected_last s.params.period 0 0 acc x));
      some = rw plans' (each_more (λ (p : Plan). 1 ≤ p.amount) (plans_in acc) made b.some some);
      follows = plan_follows acc now (replenishment s) step.active b.follows;
    }
  where
    expected_is : (s : ServerState) (acc : List ServerEvent) → InStep s acc → expected_plans s.params.period acc ++ replenishment s ∷ [] ≡
        expected_plans s.params.period acc ++ record { amount = count_after 0 acc; due = since_after 0 acc + s.params.period } ∷ []
    expected_is s acc step = rw (step.count, step.since) refl

-- ---- a refill

first_pending : (r : Replenish) (rs : List Replenish) → sum_by (λ (x : Replenish). x.amount) (r ∷ rs) ≡ r.amount + sum_by (λ (x : Replenish). x.amount) rs
first_pending r rs = let both = sum_by-append (λ (x : Replenish). x.amount) (r ∷ []) rs in omega arith

amounts_last : (acc : List ServerEvent) (now amount : ℕ) → refill_amounts (acc ++ refilled now amount ∷ []) ≡ refill_amounts acc ++ amount ∷ []
amounts_last acc now amount = filter_map_last refill_amount acc (refilled now amount)

amounts_of_refill : (acc : List ServerEvent) (now amount : ℕ) → refills_in (acc ++ refilled now amount ∷ []) ≡ refills_in acc ++ record { amount = amount; due = now } ∷ []
amounts_of_refill acc now amount = filter_map_last refill_in acc (refilled now amount)

-- of a sporadic server the oldest plan is carried out
single_refilled : (now : ℕ) (oldest : Replenish) (later : List Replenish) (acc : List ServerEvent) → oldest.due ≤ now → Single now (oldest ∷ later) acc → Single now later (acc ++ refilled now oldest.amount ∷ [])
single_refilled now oldest later acc due b = by_ahead b.ahead refl b.pending_is
  where
    head_of : Replenish → List Replenish → Replenish
    head_of d [] = d
    head_of d (r ∷ rs) = r

    tail_of : List Replenish → List Replenish
    tail_of [] = []
    tail_of (r ∷ rs) = rs

    by_ahead : (ps : List Plan) → b.ahead ≡ ps → oldest ∷ later ≡ map replenishment_in ps → Single now later (acc ++ refilled now oldest.amount ∷ [])
    by_ahead [] e k = absurd (grind arith)
    by_ahead (p ∷ ps) e k =
        let x = refilled now oldest.amount in
        let first : oldest ≡ replenishment_in p = ap (head_of oldest) k in
        let waits : Each (Open now) (p ∷ ps) = subst (Each (Open now)) e b.waiting in
        let amount : oldest.amount ≡ p.amount = ap (λ (r : Replenish). r.amount) first in
        let due' : oldest.due ≡ p.due = ap (λ (r : Replenish). r.due) first in
        let low = waits.0.0 in let high' = waits.0.2 in
        let at : now ≡ p.from = omega arith in
        record {
          done = b.done ++ p ∷ [];
          ahead = ps;
          plans = plans_stay acc x refl ∙ b.plans ∙ ap (λ qs. b.done ++ qs) e ∙ sym (append_assoc b.done (p ∷ []) ps);
          amounts = amounts_last acc now oldest.amount ∙ ap (λ ns. ns ++ oldest.amount ∷ []) b.amounts ∙ ap (λ (n : ℕ). map (λ (q : Plan). q.amount) b.done ++ n ∷ []) amount ∙ sym (map_last (λ (q : Plan). q.amount) b.done (p ∷ []));
          times = filter_map_last refill_time acc x ∙ ap (λ ns. ns ++ now ∷ []) b.times ∙ ap (λ (n : ℕ). map (λ (q : Plan). q.from) b.done ++ n ∷ []) at ∙ sym (map_last (λ (q : Plan). q.from) b.done (p ∷ []));
          pending_is = ap tail_of k;
          waiting = waits.1;
        }

-- of a strict one the oldest group is, when it is due
grouped_refilled : (now : ℕ) (oldest : Replenish) (later : List Replenish) (acc : List ServerEvent) → oldest.due ≤ now → Grouped now (oldest ∷ later) acc → Grouped now later (acc ++ refilled now oldest.amount ∷ [])
grouped_refilled now oldest later acc due b = by_ahead b.ahead refl b.pending_is
  where
    head_of : Replenish → List Replenish → Replenish
    head_of d [] = d
    head_of d (r ∷ rs) = r

    tail_of : List Replenish → List Replenish
    tail_of [] = []
    tail_of (r ∷ rs) = rs

    by_ahead : (gs : List Group) → b.ahead ≡ gs → map group_sum gs ≡ oldest ∷ later → Grouped now later (acc ++ refilled now oldest.amount ∷ [])
    by_ahead [] e k = absurd (grind arith)
    by_ahead (g ∷ gs) e k =
        let x = refilled now oldest.amount in
        let first : group_sum g ≡ oldest = ap (head_of oldest) k in
        let soon = b.waiting.0 in
        let at : oldest.due ≡ now = omega arith in
        let last : oldest ≡ record { amount = oldest.amount; due = now } = ap (λ (n : ℕ). record { amount = oldest.amount; due = n }) at in
        record {
          done = b.done ++ g ∷ [];
          ahead = gs;
          plans = ap (flat_map group_plans) (append_assoc b.done (g ∷ []) gs) ∙ ap (λ hs. flat_map group_plans (b.done ++ hs)) (sym e) ∙ b.plans ∙ ap (map replenishment_in) (sym (plans_stay acc x refl));
          refills = map_last group_sum b.done (g ∷ []) ∙ ap₂ (λ (rs : List Replenish) (r : Replenish). rs ++ r ∷ []) b.refills (first ∙ last) ∙ sym (amounts_of_refill acc now oldest.amount);
          pending_is = ap tail_of k;
          waiting = b.waiting.1;
        }

followed_refilled : (k : ServerKind) (now : ℕ) (oldest : Replenish) (later : List Replenish) (acc : List ServerEvent) → oldest.due ≤ now → Followed k now (oldest ∷ later) acc → Followed k now later (acc ++ refilled now oldest.amount ∷ [])
followed_refilled kind.Sporadic now oldest later acc due b = single_refilled now oldest later acc due b
followed_refilled kind.Strict now oldest later acc due b = grouped_refilled now oldest later acc due b

pub refilled_books : (now : ℕ) (s : ServerState) (acc : List ServerEvent) (oldest : Replenish) (later : List Replenish) → s.pending ≡ oldest ∷ later → oldest.due ≤ now →
    Books now s acc → Books now (refill s) (acc ++ refilled now oldest.amount ∷ [])
refilled_books now s acc oldest later e due b =
    let x = refilled now oldest.amount in
    let plans' = plans_stay acc x refl in
    let amounts' = amounts_last acc now oldest.amount in
    let ticks' = ticks_last acc x in
    let total : sum_by (λ (r : Replenish). r.amount) s.pending ≡ oldest.amount + sum_by (λ (r : Replenish). r.amount) later = ap (sum_by (λ (r : Replenish). r.amount)) e ∙ first_pending oldest later in
    let grown = sum_last (refill_amounts acc) oldest.amount in
    let f : Followed s.kind now (oldest ∷ later) acc = subst (λ (rs : List Replenish). Followed s.kind now rs acc) e b.followed in
    let done : Books now (refill_from (oldest ∷ later) s) (acc ++ refilled now oldest.amount ∷ []) = record {
      followed = followed_refilled s.kind now oldest later acc due f;
      high = rw amounts' (let h = b.high in let g = b.budget in omega arith);
      high_total = let h = b.high_total in omega arith;
      refilled_total = rw amounts' (let h = b.refilled_total in omega arith);
      budget = let g = b.budget in omega arith;
      as_expected = rw plans' (b.as_expected ∙ sym (expected_last s.params.period 0 0 acc x ∙ none_more (expected_plans s.params.period acc)));
      some = rw plans' b.some;
      follows = follows_on acc x (λ c. refl) b.follows;
    } in
    subst (λ (rs : List Replenish). Books now (refill_from rs s) (acc ++ refilled now oldest.amount ∷ [])) (sym e) done

-- ---- an instant later

later_followed : (k : ServerKind) (now : ℕ) (pending : List Replenish) (acc : List ServerEvent) → Each (λ (r : Replenish). now < r.due) pending → Followed k now pending acc → Followed k (now + 1) pending acc
later_followed kind.Sporadic now pending acc none b = record {
  done = b.done;
  ahead = b.ahead;
  plans = b.plans;
  amounts = b.amounts;
  times = b.times;
  pending_is = b.pending_is;
  waiting = all_later b.ahead (subst (Each (λ (r : Replenish). now < r.due)) b.pending_is none) b.waiting;
}
  where
    all_later : (ps : List Plan) → Each (λ (r : Replenish). now < r.due) (map replenishment_in ps) → Each (Open now) ps → Each (Open (now + 1)) ps
    all_later [] h k = tt
    all_later (p ∷ ps) h k = let due = h.0 in let low = k.0.0 in let mid = k.0.1 in let high = k.0.2 in ((omega arith, omega arith, omega arith), all_later ps h.1 k.1)
later_followed kind.Strict now pending acc none b = record {
  done = b.done;
  ahead = b.ahead;
  plans = b.plans;
  refills = b.refills;
  pending_is = b.pending_is;
  waiting = all_later pending none;
}
  where
    all_later : (rs : List Replenish) → Each (λ (r : Replenish). now < r.due) rs → Each (λ (r : Replenish). now + 1 ≤ r.due) rs
    all_later [] h = tt
    all_later (r ∷ rs) h = (let due = h.0 in omega arith, all_later rs h.1)

-- where nothing that is pending is due any more
pub later_books : (now : ℕ) (s : ServerState) (acc : List ServerEvent) → Each (λ (r : Replenish). now < r.due) s.pending → Books now s acc → Books (now + 1) s acc
later_books now s acc none b = record {
  followed = later_followed s.kind now s.pending acc none b.followed;
  high = b.high;
  high_total = b.high_total;
  refilled_total = b.refilled_total;
  budget = b.budget;
  as_expected = b.as_expected;
  some = b.some;
  follows = b.follows;
}
