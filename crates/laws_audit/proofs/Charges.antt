-- A tick of a server, and its account.
use Rattle.std.proofs.Common.{Bool, None, Option, Some, ap, arith, false, refl, sym, true, ℕ, ◌+◌, ◌≤◌, ◌≡◌}
use Rattle.std.specs.Prelude.{is_some, nat_le, not, ◌&&◌, ◌||◌, if◌then◌else◌}
use Rattle.std.specs.List.{list_any}
use mathlib.Core.Path.{◌∙◌}
use Rattle.rules_server.specs.Server.{ServerState, charge, is_high}
use Rattle.rules_machine.specs.State.{Status}
use Rattle.rules_machine.specs.Threads.{is_runnable}
use Rattle.rules_machine.specs.Servers.{has_high}
use Rattle.laws_machine.proofs.Budgets.Units.{NotDue}
use Rattle.tool_audit.specs.declared.server.Limits.{Limits}
use Rattle.tool_audit.specs.declared.replay.Planned.{Planned}
use Rattle.tool_audit.specs.Replay.{Account, can_be_high, next_is_high, tick_as}
use Rattle.laws_audit.proofs.Accounts.{Agrees, Booked, Clear, InStep, can_as_server, high_parts, pairs_later}

module _ (s : Limits) where
  low_agrees : (now : ℕ) (x : ServerState) (b : Account) → NotDue now x → Agrees s now x b → Agrees s (now + 1) x (tick_as s false b)
  low_agrees now x b none h =
      let level = h.level in let planned = h.planned in let high = h.high_total in
      record {
        level = omega arith;
        planned = omega arith;
        pending = pairs_later now b.ahead x.pending none h.pending;
        period = h.period;
        budget = h.budget;
        max = h.max;
        high_total = omega arith;
        refilled_total = h.refilled_total;
        sporadic = h.sporadic;
      }

  low_step : (x : ServerState) (b : Account) → InStep s x b → InStep s x (tick_as s false b)
  low_step x b h = let since = h.since in record { before = h.before; active = h.active; since = omega arith }

  -- a tick that is not one at its high priority
  pub low_ticked : (now : ℕ) (status : Status) (x : ServerState) (b : Account) → NotDue now x → Booked s now status x b → Booked s (now + 1) status x (tick_as s false b)
  low_ticked now status x b none h = record { agrees = low_agrees now x b none h.agrees; consumed = λ some. low_step x b (h.consumed some); ready = λ runs high. low_step x b (h.ready runs high) }

  high_step : (x : ServerState) (b : Account) → InStep s x b → InStep s (charge x) (tick_as s true b)
  high_step x b h = let since = h.since in record { before = h.before; active = h.active; since = omega arith }

  -- a tick at its high priority
  pub high_ticked : (now : ℕ) (status : Status) (x : ServerState) (b : Account) → NotDue now x → is_runnable status ≡ true → is_high x ≡ true → Booked s now status x b → Booked s (now + 1) status (charge x) (tick_as s true b)
  high_ticked now status x b none runs high h =
      let a = h.agrees in
      let level = a.level in let planned = a.planned in let total = a.high_total in
      let some = (high_parts s x a.sporadic high).0 in
      let step = high_step x b (h.ready runs high) in
      record {
        agrees = record {
          level = omega arith;
          planned = omega arith;
          pending = pairs_later now b.ahead x.pending none a.pending;
          period = a.period;
          budget = a.budget;
          max = a.max;
          high_total = omega arith;
          refilled_total = a.refilled_total;
          sporadic = a.sporadic;
        };
        consumed = λ some. step;
        ready = λ r k. step;
      }

  -- The tick is high in the account where it is so in the machine: where the thread runs, and its server is high.
  pub ticks_as_charged : (now : ℕ) (b : Account) (runs : Bool) (o : Option ServerState) (x : ServerState) → o ≡ Some x → b.has ≡ runs → Agrees s now x b → next_is_high s b ≡ (runs && has_high o)
  ticks_as_charged now b runs o x e has h =
      ap (λ (c : Bool). c && can_be_high s b) has ∙ ap (λ (c : Bool). runs && c) (can_as_server s now x b h ∙ sym (ap has_high e ∙ by_high (is_high x)))
    where
      by_high : (c : Bool) → is_some (if c then Some x else None) ≡ c
      by_high true = refl
      by_high false = refl

  -- ---- nothing is missing after it

  pub clear_ticked : (high : Bool) (b : Account) → (not b.exited && list_any (λ (p : Planned). nat_le p.from b.now) b.ahead) ≡ false → b.owes ≡ false → Clear s b → Clear s (tick_as s high b)
  clear_ticked high b none paid c = record { late = neither b.late (not b.exited && list_any (λ (p : Planned). nat_le p.from b.now) b.ahead) c.late none; unpaid = neither b.unpaid b.owes c.unpaid paid }
    where
      neither : (p q : Bool) → p ≡ false → q ≡ false → (p || q) ≡ false
      neither p q e k = grind arith

  -- what is owed after a tick: a plan of what was consumed, where nothing is left
  pub owing_ticked : (now : ℕ) (x : ServerState) (b : Account) → is_high x ≡ true → Agrees s now x b → (tick_as s true b).owes ≡ true → (1 ≤ (charge x).consumed) × ((charge x).capacity ≡ 0)
  owing_ticked now x b high h e =
      let level = h.level in
      let some = (high_parts s x h.sporadic high).0 in
      let last : b.high + 1 ≡ s.budget + b.refilled = grind arith in
      (omega arith, omega arith)
