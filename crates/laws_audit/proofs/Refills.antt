-- A refill of a server, and its account.
use Rattle.std.proofs.Common.{Bool, List, None, Some, [], ap, arith, false, refl, sym, true, ℕ, ◌+◌, ◌≤◌, ◌∷◌, ◌≡◌}
use Rattle.std.specs.Prelude.{nat_le, not, option_map, slice_get, drop, min, sum_by, ◌&&◌, ◌==◌}
use Rattle.std.proofs.lemmas.List.Sums.{sum_by-append}
use mathlib.Core.Path.{subst, ◌∙◌}
use Rattle.rules_server.specs.declared.Replenish.{Replenish}
use Rattle.rules_server.specs.Server.{ServerState, is_high, next_due, oldest_pending, pending_total, refill, refill_from}
use Rattle.rules_machine.specs.State.{Status}
use Rattle.rules_machine.specs.Threads.{is_runnable}
use Rattle.rules_machine.specs.Servers.{amount_of, regains_high}
use Rattle.rules_machine.specs.DueItems.{has_come}
use Rattle.laws_machine.proofs.Budgets.Booked.{refill_same}
use Rattle.laws_machine.proofs.Servers.Right.{Sound}
use Rattle.tool_audit.specs.declared.server.Limits.{Limits}
use Rattle.tool_audit.specs.Marks.{Saying, is_refilled}
use Rattle.tool_audit.specs.declared.replay.Planned.{Planned}
use Rattle.tool_audit.specs.Replay.{Account, after_saying, broken_now, fits_oldest, lives}
use Rattle.laws_audit.proofs.Accounts.{Agrees, Booked, Clear, InStep, Pairs, Still, both, is_equal, is_most, unbroken}

first_pending : (r : Replenish) (rs : List Replenish) → sum_by (λ (x : Replenish). x.amount) (r ∷ rs) ≡ r.amount + sum_by (λ (x : Replenish). x.amount) rs
first_pending r rs = let all = sum_by-append (λ (x : Replenish). x.amount) (r ∷ []) rs in omega arith

not_late : (a b : Bool) → a ≡ true → b ≡ false → (a && not b) ≡ true
not_late a b p q = grind arith

abbrev pub refilled_of : ServerState → Saying
refilled_of x = is_refilled (amount_of (oldest_pending x)) (refill x).capacity

module _ (s : Limits) where
  -- what a refill that may come comes to
  abbrev Comes : ℕ → ServerState → Account → List Replenish → Type 0
  Comes now x b rs = (broken_now s b (is_refilled (amount_of (slice_get rs 0)) (refill_from rs x).capacity) ≡ None)
      × Agrees s now (refill_from rs x) (after_saying b (is_refilled (amount_of (slice_get rs 0)) (refill_from rs x).capacity))

  oldest_comes : (now : ℕ) (x : ServerState) (b : Account) (r : Replenish) (rs : List Replenish) (p : Planned) (ps : List Planned) → x.pending ≡ r ∷ rs → b.ahead ≡ p ∷ ps → r.due ≤ now →
      Clear s b → lives b ≡ true → b.now ≡ now → Sound now x → Agrees s now x b → Comes now x b (r ∷ rs)
  oldest_comes now x b r rs p ps e k due c l at sound h =
      let total : pending_total x ≡ r.amount + sum_by (λ (x : Replenish). x.amount) rs = ap (sum_by (λ (x : Replenish). x.amount)) e ∙ first_pending r rs in
      let budget = sound.budget in
      let level = h.level in
      let limit = h.budget in
      let refilled = h.refilled_total in
      let pair : Pairs now (p ∷ ps) (r ∷ rs) = subst (λ (qs : List Planned). Pairs now qs (r ∷ rs)) k (subst (Pairs now b.ahead) e h.pending) in
      let amount = pair.0.0 in let low = pair.0.1 in let high = pair.0.3 in
      let oldest : fits_oldest (slice_get b.ahead 0) b.now r.amount ≡ true = rw k (both (is_equal r.amount p.amount (omega arith)) (is_equal b.now p.from (omega arith))) in
      let capacity : ℕ = min (x.capacity + r.amount) x.params.budget in (
        unbroken (lives b) true ((fits_oldest (slice_get b.ahead 0) b.now r.amount && (capacity + b.high == s.budget + b.refilled + r.amount && nat_le capacity s.budget)) && not b.late) true (true && not b.unpaid) l refl
            (not_late (fits_oldest (slice_get b.ahead 0) b.now r.amount && (capacity + b.high == s.budget + b.refilled + r.amount && nat_le capacity s.budget)) b.late
            (both oldest (both (is_equal (capacity + b.high) (s.budget + b.refilled + r.amount) (omega arith)) (is_most capacity s.budget (omega arith)))) c.late) refl (not_late true b.unpaid refl c.unpaid),
        record {
          level = omega arith;
          planned = h.planned;
          pending = subst (λ (qs : List Planned). Pairs now (drop 1 qs) rs) (sym k) pair.1;
          period = h.period;
          budget = h.budget;
          max = h.max;
          high_total = h.high_total;
          refilled_total = omega arith;
          sporadic = h.sporadic;
        },
      )

  pub refill_comes : (now : ℕ) (x : ServerState) (b : Account) → has_come (next_due x) now ≡ true → Clear s b → lives b ≡ true → b.now ≡ now → Sound now x → Agrees s now x b →
      (broken_now s b (refilled_of x) ≡ None) × Agrees s now (refill x) (after_saying b (refilled_of x))
  refill_comes now x b come c l at sound h = of_lists x.pending b.ahead refl refl come
    where
      unpaired : (rs : List Replenish) (r : Replenish) → x.pending ≡ r ∷ rs → b.ahead ≡ [] → ⊥
      unpaired rs r e k = subst (λ (qs : List Planned). Pairs now qs (r ∷ rs)) k (subst (Pairs now b.ahead) e h.pending)

      of_lists : (rs : List Replenish) (ps : List Planned) → x.pending ≡ rs → b.ahead ≡ ps → has_come (option_map (λ (r : Replenish). r.due) (slice_get rs 0)) now ≡ true → Comes now x b x.pending
      of_lists [] ps e k d = absurd (grind arith)
      of_lists (r ∷ rs) [] e k d = absurd (unpaired rs r e k)
      of_lists (r ∷ rs) (p ∷ ps) e k d = subst (Comes now x b) (sym e) (oldest_comes now x b r rs p ps e k (grind arith) c l at sound h)

  refilled_step : (x : ServerState) (b : Account) (amount capacity : ℕ) → InStep s x b → InStep s (refill x) (after_saying b (is_refilled amount capacity))
  refilled_step x b amount capacity h =
      let same = refill_same x in
      let consumed = same.0 in
      let since = h.since in
      record {
        before = h.before;
        active = h.active ∙ ap (λ (n : ℕ). Some (record { time = n; high = h.before })) (sym same.1);
        since = omega arith;
      }

  -- a refill that does not give the high priority back
  pub refill_stays : (now : ℕ) (status : Status) (x : ServerState) (b : Account) → Agrees s now (refill x) (after_saying b (refilled_of x)) → (regains_high x && is_runnable status) ≡ false → Booked s now status x b → Booked s now status (refill x) (after_saying b (refilled_of x))
  refill_stays now status x b agrees low h = record {
    agrees = agrees;
    consumed = λ some. refilled_step x b (amount_of (oldest_pending x)) (refill x).capacity (h.consumed (subst (λ (n : ℕ). 1 ≤ n) (refill_same x).0 some));
    ready = λ runs high. refilled_step x b (amount_of (oldest_pending x)) (refill x).capacity (h.ready runs (was_high (is_high x) (is_high (refill x)) (is_runnable status) low high runs));
  }
    where
      was_high : (a b c : Bool) → ((not a && b) && c) ≡ false → b ≡ true → c ≡ true → a ≡ true
      was_high a b c e p q = grind arith

  -- and one that does
  pub refill_still : (now : ℕ) (status : Status) (x : ServerState) (b : Account) → Agrees s now (refill x) (after_saying b (refilled_of x)) → x.consumed ≡ 0 → Still s now status (refill x) (after_saying b (refilled_of x))
  refill_still now status x b agrees none = (agrees, (refill_same x).0 ∙ none)
