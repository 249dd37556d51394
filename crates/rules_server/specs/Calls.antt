-- Lists of calls of a server, and the law of the budget over all of them (this project's own).
use Rattle.std.specs.Prelude.{◌≡◌, ℕ, ◌+◌, ◌<◌, ◌≤◌, ◌^◌, List, [], ◌∷◌, length, IsTrue}
use Rattle.words_numbers.specs.Parameters.{Parameters, AreParameters}
use Rattle.rules_server.specs.declared.ServerKind.{ServerKind}
use Rattle.rules_server.specs.declared.ServerKind.TheVariants as kind
use Rattle.rules_server.specs.Server.{ServerState, new_server_as, is_high, charge_ticks, activate, plan, refill, set_high, KeepsBudget}

-- a call that changes a server
pub data ServerCall : Type 0 where
  Charge : ℕ → ServerCall
  Activate : ℕ → ServerCall
  Plan : ServerCall
  Refill : ServerCall
  SetHigh : ℕ → ServerCall

-- what a plan asks for of the number that is pending
abbrev pub MayPlanAs : ServerKind → ℕ → ℕ → Type 0
MayPlanAs kind.Sporadic pending max = pending < max
MayPlanAs kind.Strict pending max = Unit {0}

abbrev pub MayPlan : ServerKind → ServerState → Type 0
MayPlan k s = MayPlanAs k (length s.pending) s.params.max

-- whether the call may be made: what the function of that name requires, and that its argument is of its type
abbrev pub MayCall : ServerCall → ServerState → Type 0
MayCall (Charge k) s = IsTrue (is_high s) × (k ≤ s.capacity) × (s.high_total + k ≤ 10 ^ 18)
MayCall (Activate now) s = (s.consumed ≡ 0) × (now ≤ 10 ^ 18)
MayCall Plan s = (1 ≤ s.consumed) × MayPlan s.kind s
MayCall Refill s = Unit {0}
MayCall (SetHigh p) s = (s.params.low < p) × (p ≤ 255)

-- the server after the call
abbrev pub after_call : ServerCall → ServerState → ServerState
after_call (Charge k) s = charge_ticks k s
after_call (Activate now) s = activate now s
after_call Plan s = plan s
after_call Refill s = refill s
after_call (SetHigh p) s = set_high p s

-- the server after all these calls, from the first on
abbrev pub after_calls : List ServerCall → ServerState → ServerState
after_calls [] s = s
after_calls (call ∷ calls) s = after_calls calls (after_call call s)

-- whether each of them may be made where its turn comes
abbrev pub MayCallAll : List ServerCall → ServerState → Type 0
MayCallAll [] s = Unit {0}
MayCallAll (call ∷ calls) s = MayCall call s × MayCallAll calls (after_call call s)

-- Whatever calls are made of a new server, one after another, it keeps its budget.
abbrev pub BudgetLaw : Type 0
BudgetLaw = (p : Parameters) (kind : ServerKind) (now : ℕ) (calls : List ServerCall) → AreParameters p → now ≤ 10 ^ 18 → MayCallAll calls (new_server_as kind p now) →
    KeepsBudget (after_calls calls (new_server_as kind p now))
