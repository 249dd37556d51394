-- The account of a thread through the charge of a tick.
use Rattle.std.proofs.Common.{Bool, List, None, Option, Some, ap, arith, false, refl, sym, true, ℕ, ◌+◌, ◌≡◌}
use Rattle.std.specs.Prelude.{is_some, nat_le, not, option_map, ◌&&◌, if◌then◌else◌}
use Rattle.std.specs.List.{list_any}
use mathlib.Core.Path.{subst, ◌∙◌}
use Rattle.words_script.specs.declared.policy.Policy.{Policy}
use Rattle.rules_server.specs.Server.{ServerState, charge, is_high}
use Rattle.rules_machine.specs.Lists.{is}
use Rattle.rules_machine.specs.State.{Status, blocked, dormant, ended, runnable}
use Rattle.rules_machine.specs.Threads.{is_dormant, is_live, is_runnable}
use Rattle.rules_machine.specs.Servers.{charged, has_high}
use Rattle.rules_machine.specs.GoodState.{has_server_policy}
use Rattle.laws_machine.proofs.Budgets.Units.{NotDue}
use Rattle.laws_machine.proofs.Servers.OfThreads.{only}
use Rattle.tool_audit.specs.declared.server.Limits.{Limits}
use Rattle.tool_audit.specs.declared.replay.Planned.{Planned}
use Rattle.tool_audit.specs.Replay.{Account, can_be_high, next_is_high, tick, tick_as}
use Rattle.tool_audit.specs.Ticks.{counted_if}
use Rattle.laws_audit.proofs.Accounts.{Booked, none_missing}
use Rattle.laws_audit.proofs.Charges.{clear_ticked, high_ticked, low_ticked, owing_ticked, ticks_as_charged}
use Rattle.laws_audit.proofs.AccountFits.{Fits, Owing, contra, is_ended, runs_lives}

-- ---- the charge

module _ (lim : Limits) where
  is_rule : (rule : Policy) → (live : Bool) → live ≡ true → (p : Policy) → has_server_policy p ≡ true → rule ≡ p → (live && has_server_policy rule) ≡ true
  is_rule rule live e p k same = rw (e, same, k) refl

  -- a thread without a server is dormant, or has ended
  not_live : (status : Status) → is_live status ≡ false → is_dormant status ≡ false → is_ended status ≡ true
  not_live (dormant at) e k = absurd (grind arith)
  not_live runnable e k = absurd (grind arith)
  not_live (blocked w) e k = absurd (grind arith)
  not_live ended e k = refl

  module _ (tolled : Bool) (now : ℕ) (status : Status) (rule : Policy) (server : Option ServerState) (ran : ℕ) (b : Account) (f : Fits lim false tolled (Booked lim) now status rule server ran b)
      (having : is_some server ≡ (is_live status && has_server_policy rule)) (none : (x : ServerState) → server ≡ Some x → NotDue now x) where
    served : has_server_policy rule ≡ true
    served = ap has_server_policy f.limits.1

    -- no refill is missing
    missing : (not b.exited && list_any (λ (p : Planned). nat_le p.from b.now) b.ahead) ≡ false
    missing = by_server server refl
      where
        at_now : list_any (λ (p : Planned). nat_le p.from now) b.ahead ≡ false → (not b.exited && list_any (λ (p : Planned). nat_le p.from b.now) b.ahead) ≡ false
        at_now e = let same : list_any (λ (p : Planned). nat_le p.from b.now) b.ahead ≡ false = subst (λ (n : ℕ). list_any (λ (p : Planned). nat_le p.from n) b.ahead ≡ false) (sym f.at) e in second (not b.exited) same
          where
            second : (c : Bool) {d : Bool} → d ≡ false → (c && d) ≡ false
            second c k = grind arith

        dead : is_some server ≡ false → is_live status ≡ false
        dead e = first (is_live status) (has_server_policy rule) served (sym having ∙ e)
          where
            first : (c d : Bool) → d ≡ true → (c && d) ≡ false → c ≡ false
            first c d p k = grind arith

        by_server : (o : Option ServerState) → server ≡ o → (not b.exited && list_any (λ (p : Planned). nat_le p.from b.now) b.ahead) ≡ false
        by_server (Some x) e = at_now (none_missing now b.ahead x.pending (none x e) (f.each x e).agrees.pending)
        by_server None e = by_dormant (is_dormant status) refl
          where
            by_dormant : (c : Bool) → is_dormant status ≡ c → (not b.exited && list_any (λ (p : Planned). nat_le p.from b.now) b.ahead) ≡ false
            by_dormant true d = at_now (subst (λ (ps : List Planned). list_any (λ (p : Planned). nat_le p.from now) ps ≡ false) (sym (f.blank d).ahead) refl)
            by_dormant false d = first b.exited (list_any (λ (p : Planned). nat_le p.from b.now) b.ahead) (f.exited ∙ not_live status (dead (ap is_some e)) d)
              where
                first : (c d : Bool) → c ≡ true → (not c && d) ≡ false
                first c d p = grind arith

    paid : b.owes ≡ false
    paid = by_owes b.owes refl
      where
        by_owes : (c : Bool) → b.owes ≡ c → b.owes ≡ false
        by_owes true e = absurd (contra (f.owes e).0 refl)
        by_owes false e = e

    -- another thread runs, or none
    pub idle_fits : (T : Bool) → b.has ≡ false → Fits lim false T (Booked lim) (now + 1) status rule server ran (tick lim b)
    idle_fits T has =
        let low : next_is_high lim b ≡ false = ap (λ (c : Bool). c && can_be_high lim b) has in
        subst (λ (c : Bool). Fits lim false T (Booked lim) (now + 1) status rule server ran (tick_as lim c b)) (sym low) (record {
          clear = clear_ticked lim false b missing paid f.clear;
          at = ap (λ (n : ℕ). n + 1) f.at;
          started = f.started;
          exited = f.exited;
          ticks = ap (λ (c : Bool). b.ran + counted_if c 1) has ∙ plus_none b.ran ∙ f.ticks;
          blank = λ d. let k = f.blank d in record { high = plus_none b.high ∙ k.high; refilled = k.refilled; planned = k.planned; ahead = k.ahead };
          limits = f.limits;
          fresh = λ o. absurd (grind arith);
          owes = λ o. absurd (grind arith);
          each = λ x e. low_ticked lim now status x b (none x e) (f.each x e);
        })
      where
        plus_none : (n : ℕ) → n + 0 ≡ n
        plus_none n = omega arith

    -- the thread runs itself
    pub run_fits : b.has ≡ true → is_runnable status ≡ true → Fits lim true (has_high server) (Booked lim) (now + 1) status rule (option_map charged server) (ran + 1) (tick lim b)
    run_fits has runs = by_server server refl
      where
        live : is_live status ≡ true
        live = by_status status runs
          where
            by_status : (st : Status) → is_runnable st ≡ true → is_live st ≡ true
            by_status (dormant at) e = absurd (grind arith)
            by_status runnable e = refl
            by_status (blocked w) e = absurd (grind arith)
            by_status ended e = absurd (grind arith)

        some : is_some server ≡ true
        some = having ∙ is_rule rule (is_live status) live rule served refl

        high_is : (x : ServerState) → server ≡ Some x → has_high server ≡ is_high x
        high_is x e = ap has_high e ∙ by_high (is_high x)
          where
            by_high : (c : Bool) → is_some (if c then Some x else None) ≡ c
            by_high true = refl
            by_high false = refl

        common : (h : Bool) (x : ServerState) → server ≡ Some x → next_is_high lim b ≡ h → is_high x ≡ h → ((y : ServerState) → option_map charged server ≡ Some y → Booked lim (now + 1) status y (tick_as lim h b)) →
            ((tick_as lim h b).owes ≡ true → (has_high server ≡ true) × Owing lim true (has_high server) (option_map charged server)) → Fits lim true (has_high server) (Booked lim) (now + 1) status rule (option_map charged server) (ran + 1) (tick lim b)
        common h x e next high each owing = subst (λ (c : Bool). Fits lim true (has_high server) (Booked lim) (now + 1) status rule (option_map charged server) (ran + 1) (tick_as lim c b)) (sym next) (record {
          clear = clear_ticked lim h b missing paid f.clear;
          at = ap (λ (n : ℕ). n + 1) f.at;
          started = f.started;
          exited = f.exited;
          ticks = ap (λ (c : Bool). b.ran + counted_if c 1) has ∙ ap (λ (n : ℕ). n + 1) f.ticks;
          blank = λ d. absurd (contra d (runs_lives status runs).0);
          limits = f.limits;
          fresh = λ o k. sym high ∙ sym (high_is x e) ∙ k;
          owes = λ o. (refl, (owing o).0, (owing o).1);
          each = each;
        })

        by_server : (o : Option ServerState) → server ≡ o → Fits lim true (has_high server) (Booked lim) (now + 1) status rule (option_map charged server) (ran + 1) (tick lim b)
        by_server None e = absurd (contra some (ap is_some e))
        by_server (Some x) e = by_high (is_high x) refl
          where
            booked : Booked lim now status x b
            booked = f.each x e

            next : next_is_high lim b ≡ is_high x
            next = ticks_as_charged lim now b true server x e has booked.agrees ∙ high_is x e

            by_high : (h : Bool) → is_high x ≡ h → Fits lim true (has_high server) (Booked lim) (now + 1) status rule (option_map charged server) (ran + 1) (tick lim b)
            by_high true k =
                let so : option_map charged server ≡ Some (charge x) = ap (option_map charged) e ∙ ap (λ (c : Bool). Some (if c then charge x else x)) k in
                common true x e (next ∙ k) k
                (λ y m. subst (λ (z : ServerState). Booked lim (now + 1) status z (tick_as lim true b)) (only (sym so ∙ m)) (high_ticked lim now status x b (none x e) runs k booked))
                (λ o. let owed = owing_ticked lim now x b k booked.agrees o in (high_is x e ∙ k, (charge x, so, owed.0, owed.1)))
            by_high false k =
                let so : option_map charged server ≡ Some x = ap (option_map charged) e ∙ ap (λ (c : Bool). Some (if c then charge x else x)) k in
                common false x e (next ∙ k) k
                (λ y m. subst (λ (z : ServerState). Booked lim (now + 1) status z (tick_as lim false b)) (only (sym so ∙ m)) (low_ticked lim now status x b (none x e) booked))
                (λ o. absurd (grind arith))
