-- One tick of the machine: what a strict thread uses in it, and what it may still use.
use Rattle.std.proofs.Common.{Bool, None, Option, Some, ap, arith, false, refl, suc, sym, true, zero, ℕ, ◌+◌, ◌<◌, ◌≤◌, ◌≡◌}
use Rattle.std.specs.Prelude.{is_some, nat_lt, not, option_map, ◌==◌, ◌&&◌, if◌then◌else◌}
use mathlib.Core.Path.{subst, ◌∙◌}
use Rattle.words_numbers.specs.Parameters.{Parameters}
use Rattle.words_numbers.specs.declared.res.Res.TheVariants as res
use Rattle.words_script.specs.declared.call.Call.TheVariants as call
use Rattle.words_script.specs.declared.policy.Policy.{Policy}
use Rattle.rules_bodies.specs.declared.unit.Unit.{Unit}
use Rattle.rules_bodies.specs.declared.unit.Unit.TheVariants as unit
use Rattle.words_trace.specs.declared.event.Event.TheVariants as event
use Rattle.rules_server.specs.Server.{ServerState, activate, charge, is_high}
use Rattle.rules_machine.specs.Lists.{is}
use Rattle.rules_machine.specs.Bodies.{Bodies}
use Rattle.rules_machine.specs.State.{Machine, Status, Thread, blocked, dormant, ended, for_end, runnable, waits_to_join}
use Rattle.rules_machine.specs.Threads.{can_run, is_blocked, is_dormant, is_runnable, lives, thread_at, thread_numbers}
use Rattle.rules_machine.specs.Turns.{Turn, answered, changes, moves_if, returns, settles_since, tells}
use Rattle.rules_machine.specs.Servers.{activates_if, activates_server, charged, has_high, has_run, is_strict, may_open, plans_server, with_server}
use Rattle.rules_machine.specs.Mutexes.{owns_boosting}
use Rattle.rules_machine.specs.Settling.{settled}
use Rattle.rules_machine.specs.Lives.{with_joiner}
use Rattle.rules_machine.specs.Scheduling.{with_policy}
use Rattle.rules_machine.specs.Calls.{unit_effect}
use Rattle.rules_machine.specs.Delivery.{sweeps, sweeps_all}
use Rattle.rules_machine.specs.Dispatch.{dispatches}
use Rattle.rules_machine.specs.Units.{in_unit}
use Rattle.rules_machine.specs.Budget.{renews}
use Rattle.rules_machine.specs.Ticks.{TickEnd, capacity_in, consumed_in, ends_tick, exhausting, nothing, planning, slice_is_used, slicing, tick_charged, tick_end, without_slice}
use Rattle.rules_machine.proofs.Reading.{thread-other, thread-same}
use Rattle.rules_moves.specs.Moves.{KeepsAwake, Stops}
use Rattle.rules_moves.specs.UnitRanges.{BodiesFit, UnitFits}
use Rattle.rules_moves.proofs.Waiters.Best.{running_within}
use Rattle.rules_moves.proofs.Calls.Table.{sweeps_all_keep, unit_keep}
use Rattle.rules_moves.proofs.Runs.Preparing.{IsReady, PreparingKeeps}
use Rattle.rules_moves.proofs.Runs.Ticks.{RoundKeeps, charged_turn, dispatched}
use Rattle.laws_machine.proofs.Parts.Kept.{PartsRight, elsewhere, parts_keep, parts_renew, parts_stop}
use Rattle.laws_machine.proofs.Servers.Changed.{high_parts}
use Rattle.laws_machine.proofs.Servers.OfThreads.{opening_none, run_parts}
use Rattle.laws_machine.proofs.Servers.Units.{kept_in_unit}
use Rattle.laws_machine.proofs.Servers.Ticks.{ServedRight, served_tick}
use Rattle.laws_strict_server.specs.Instants.{one_if}
use Rattle.laws_window.specs.Window.{is_high_of}
use Rattle.laws_window.proofs.Room.{At, Has, Room, activated_room, joined, moves_keep, one, only, planned, slept}

contra : {b : Bool} → b ≡ true → b ≡ false → ⊥
contra a b = grind arith

-- what of a thread goes into a charge
abbrev Part : Type 0
Part = Status × Option ServerState

-- the rule of the tick's end
abbrev by_these : Bool → Bool → Bool → Bool → Bool → Bool → TickEnd
by_these a b c d z full = if a && b && c then planning else if a && b && d && z then exhausting else if full then slicing else nothing

module _ {P : Type 0} (bodies : Bodies P) (known : BodiesFit bodies) (p : Parameters) (d t : ℕ) where
  -- ---- the items of an instant, Close, the dispatch and Open

  module _ (now K : ℕ) (before : now < d) where
    abbrev pub Waiting_for : Turn P → Type 0
    Waiting_for s = ServedRight bodies s × At p d 0 K t now s

    pub waiting_round : RoundKeeps bodies Waiting_for
    waiting_round = let served = served_tick bodies in record {
      moves = λ move s may q. (served.moves move s may q.0, moves_keep p d 0 K t now bodies None (λ e. before) move s may q.1);
      joined = λ s q. served.joined s q.0;
      settles = λ from s q. (served.settles from s q.0, record { now_is = q.1.now_is; here = q.1.here });
    }

    sent : (to : Option ℕ) (s : Turn P) → At p d 0 K t now s → At p d 0 K t now (dispatches to s)
    sent to s q = record {
      now_is = ap (λ (m : Machine P). m.now) (dispatched to s) ∙ q.now_is;
      here = subst (λ (m : Machine P). Has p d 0 K (thread_at m t)) (sym (dispatched to s)) q.here;
    }

    opened : (v : ℕ) (x : ServerState) (s : Turn P) → (thread_at s.machine v).server ≡ Some x → may_open x ≡ true → At p d 0 K t now s → At p d 0 K t now (activates_server v (Some x) s)
    opened v x s is may q =
        let k = one p d 0 K t now v (with_server (activate s.machine.now)) s (λ it q'. record { room = room_of it q'; asleep = q'.asleep }) q in record { now_is = k.now_is; here = k.here }
      where
        room_of : v ≡ t → Has p d 0 K (thread_at s.machine t) → (y : ServerState) → option_map (activate s.machine.now) (thread_at s.machine t).server ≡ Some y → Room p d 0 K y
        room_of it q' y k =
            let here : (thread_at s.machine t).server ≡ Some x = subst (λ (i : ℕ). (thread_at s.machine i).server ≡ Some x) it is in
            subst (Room p d 0 K) (only (sym (ap (option_map (activate s.machine.now)) here) ∙ k)) (activated_room p d 0 K x s.machine.now (opening_none x may) (q'.room x here))

    pub waiting_prepared : PreparingKeeps Waiting_for
    waiting_prepared = let served = served_tick bodies in record {
      closes = λ v s run q. (served.prepares.closes v s run q.0, planned p d 0 K t now v (thread_at s.machine v).server s refl (λ x e. (run_parts x (sym (ap has_run e) ∙ run)).1) q.1);
      sent = λ to s off q. (served.prepares.sent to s off q.0, sent to s q.1);
      opens = λ v x s runs is may q. (served.prepares.opens v x s runs is may q.0, opened v x s is may q.1);
    }

  -- ---- the charge

  -- a tick at the high priority uses one of what may be used
  pub one_used : (now K u : ℕ) (s : Turn P) → At p d 0 K t now s → one_if (is_high_of bodies (Some u) t s.machine) ≤ K
  one_used now K u s q = by_server (thread_at s.machine t).server refl
    where
      small : (a b : Bool) → b ≡ false → one_if (a && b) ≤ K
      small true b e = rw e (omega arith)
      small false b e = omega arith

      some : (a : Bool) → 1 ≤ K → one_if a ≤ K
      some true one = one
      some false one = omega arith

      by_server : (o : Option ServerState) → (thread_at s.machine t).server ≡ o → one_if (u == t && has_high (thread_at s.machine t).server) ≤ K
      by_server None e = small (u == t) (has_high (thread_at s.machine t).server) (ap has_high e)
      by_server (Some x) e = by_high (is_high x) refl
        where
          by_high : (b : Bool) → is_high x ≡ b → one_if (u == t && has_high (thread_at s.machine t).server) ≤ K
          by_high true k = some (u == t && has_high (thread_at s.machine t).server) (let left = (high_parts x k).0 in let r = (q.here.room x e).spent in omega arith)
          by_high false k = small (u == t) (has_high (thread_at s.machine t).server) (ap has_high e ∙ ap (λ (b : Bool). is_some (if b then Some x else None)) k)

  charged_room : (now K : ℕ) (x : ServerState) → d ≤ now + p.period → (may_open x ≡ true → x.activation ≡ now) → Room p d 0 K x → (b : Bool) → is_high x ≡ b → Room p d (one_if b) K (if b then charge x else x)
  charged_room now K x coming opens r true high = record {
    strict = r.strict;
    period = r.period;
    spent = (let left = (high_parts x high).0 in let s = r.spent in omega arith);
    late = λ c. due x.consumed refl;
  }
    where
      three : (a b c : Bool) → a ≡ true → b ≡ true → c ≡ true → (a && b && c) ≡ true
      three a b c p q r = grind arith

      due : (n : ℕ) → x.consumed ≡ n → d ≤ x.activation + p.period
      due zero e = let a = opens (three (is_strict x.kind) (is_high x) (x.consumed == 0) (ap is_strict r.strict) high (rw e refl)) in omega arith
      due (suc n) e = r.late (omega arith)
  charged_room now K x coming opens r false low = record { strict = r.strict; period = r.period; spent = r.spent; late = r.late }

  pub charged_at : (now K u : ℕ) (s : Turn P) → d ≤ now + p.period → IsReady (Some u) s.machine → can_run s.machine u ≡ true → At p d 0 K t now s → At p d (one_if (is_high_of bodies (Some u) t s.machine)) K t (now + 1) (charged_turn bodies u s)
  charged_at now K u s coming ready can q = record { now_is = ap (λ (n : ℕ). n + 1) q.now_is; here = by_eq (u == t) refl }
    where
      f : Thread P → Thread P
      f x = tick_charged (in_unit bodies (thread_at s.machine u)).thread

      not_asleep : (status : Status) → is_runnable status ≡ true → is_dormant status ≡ false
      not_asleep (dormant at) e = absurd (grind arith)
      not_asleep runnable e = refl
      not_asleep (blocked w) e = refl
      not_asleep ended e = refl

      after : (st : Status) (o : Option ServerState) → is_runnable st ≡ true → (thread_at s.machine t).server ≡ o → u ≡ t → ((x : ServerState) → o ≡ Some x → Room p d 0 K x) → (y : ServerState) → option_map charged o ≡ Some y → Room p d (one_if (has_high o)) K y
      after st None r e it rooms y k = absurd (grind arith)
      after st (Some x) r e it rooms y k =
          let here : (thread_at s.machine u).server ≡ Some x = subst (λ (i : ℕ). (thread_at s.machine i).server ≡ Some x) (sym it) e in
          let opens = λ (may : may_open x ≡ true). ready.opened u x refl here may ∙ q.now_is in
          by_high (is_high x) refl (charged_room now K x coming opens (rooms x refl))
        where
          by_high : (b : Bool) → is_high x ≡ b → ((c : Bool) → is_high x ≡ c → Room p d (one_if c) K (if c then charge x else x)) → Room p d (one_if (is_some (if is_high x then Some x else None))) K y
          by_high true h g = subst (Room p d (one_if (is_some (if is_high x then Some x else None))) K) (only (ap (λ (b : Bool). Some (if b then charge x else x)) (sym h) ∙ k)) (rw h (g true h))
          by_high false h g = subst (Room p d (one_if (is_some (if is_high x then Some x else None))) K) (only (ap (λ (b : Bool). Some (if b then charge x else x)) (sym h) ∙ k)) (rw h (g false h))

      mine : u ≡ t → Has p d (one_if (has_high (thread_at s.machine t).server)) K (f (thread_at s.machine u))
      mine it =
          let same = kept_in_unit bodies (λ (x : Thread P). (x.status, x.server)) (λ fs x. refl) (λ x. refl) (thread_at s.machine u) in
          let can' : can_run s.machine t ≡ true = subst (λ (i : ℕ). can_run s.machine i ≡ true) it can in
          record {
            room = λ y k. after (thread_at s.machine t).status (thread_at s.machine t).server can' refl it q.here.room y
                (ap (λ (i : ℕ). option_map charged (thread_at s.machine i).server) (sym it) ∙ sym (ap (λ (x : Part). option_map charged x.1) same) ∙ k);
            asleep = λ k. absurd (contra k (ap (λ (x : Part). is_dormant x.0) same ∙ not_asleep (thread_at s.machine u).status can));
          }

      by_eq : (b : Bool) → (u == t) ≡ b → Has p d (one_if (b && has_high (thread_at s.machine t).server)) K (thread_at (charged_turn bodies u s).machine t)
      by_eq true e =
          let it : u ≡ t = grind arith in
          subst (λ (i : ℕ). Has p d (one_if (has_high (thread_at s.machine t).server)) K (thread_at (charged_turn bodies u s).machine i)) it
          (subst (λ (th : Thread P). Has p d (one_if (has_high (thread_at s.machine t).server)) K th) (sym (thread-same s.machine u (λ th. tick_charged (in_unit bodies (thread_at s.machine u)).thread) (running_within s.machine.threads u can))) (mine it))
      by_eq false e = subst (λ (th : Thread P). Has p d 0 K th) (sym (thread-other s.machine u t (λ th. tick_charged (in_unit bodies (thread_at s.machine u)).thread) e)) q.here

  -- ---- the unit, and the tick's end

  module _ (h K now u : ℕ) where
    abbrev pub Under : Turn P → Type 0
    Under s = PartsRight s.machine × At p d h K t now s

    under_moves : KeepsAwake bodies (Some u) Under
    under_moves move s may q = (parts_keep bodies (Some u) move s may q.0, moves_keep p d h K t now bodies (Some u) (λ e. absurd (grind arith)) move s may q.1)

    other_of : (v : ℕ) → not (v == t) ≡ true → v ≡ t → ⊥
    other_of v e it = absurd (grind arith)

    renewed : (active : Bool) (v : ℕ) (new : Policy) (s : Turn P) → (v ≡ t → ⊥) → At p d h K t now s → At p d h K t now (activates_if active v (changes v (with_policy new s.machine.now) s))
    renewed active v new s other q = other_activated active (changes v (with_policy new s.machine.now) s) (one p d h K t now v (with_policy new s.machine.now) s (λ it. absurd (other it)) q)
      where
        server_other : (o : Option ServerState) (x : Turn P) → At p d h K t now x → At p d h K t now (activates_server v o x)
        server_other None x r = r
        server_other (Some y) x r = let k = one p d h K t now v (with_server (activate x.machine.now)) x (λ it. absurd (other it)) r in record { now_is = k.now_is; here = k.here }

        other_activated : (b : Bool) (x : Turn P) → At p d h K t now x → At p d h K t now (activates_if b v x)
        other_activated true x r = server_other _ x r
        other_activated false x r = r

    under_stops : Stops (Some u) Under Under
    under_stops = let parts = parts_stop bodies (Some u) in record {
      done = λ s q. q;
      renewable = λ v. not (v == t);
      renewing = λ active v new s may live e fits q. (parts.renewing active v new s (parts_renew bodies (Some u) v) live e fits q.0, renewed active v new s (other_of v may) q.1);
      sleeps = λ by wait due s runs may q. (parts.sleeps by wait due s runs may q.0, (let k = slept p d h K t now by.thread (record { wait = wait; serial = s.machine.next_serial; due = due; call = by.call }) s q.1 in record { now_is = k.now_is; here = k.here }));
      dozes = λ by wait due s runs may other q. (parts.dozes by wait due s runs may other q.0, slept p d h K t now by.thread (record { wait = wait; serial = 0; due = due; call = by.call }) s q.1);
      joins = λ by v s runs other free q.
          (parts.joins by v s runs other free q.0, slept p d h K t now by.thread (record { wait = for_end v; serial = 0; due = None; call = by.call }) (changes v (with_joiner (waits_to_join by.thread)) s) (joined p d h K t now v (waits_to_join by.thread) s q.1));
    }

    pub plain_unit : (what : Unit) (s : Turn P) → UnitFits what → can_run s.machine u ≡ true → renews t what ≡ false → Under s → Under (unit_effect bodies u what s)
    unfolding under_stops
    plain_unit what s fits can plain q =
        unit_keep bodies (Some u) Under Under under_moves under_stops (λ s q. q.0.joiners) u what s fits (can, refl) others q
      where
        others : (v : ℕ) → renews v what ≡ true → not (v == t) ≡ true
        others v e = by_eq (v == t) refl
          where
            by_eq : (b : Bool) → (v == t) ≡ b → not b ≡ true
            by_eq true k = let it : v ≡ t = grind arith in absurd (contra (subst (λ (i : ℕ). renews i what ≡ true) it e) plain)
            by_eq false k = refl

    pub settles : (from : Machine P) (s : Turn P) → Under s → Under (settles_since from s)
    settles from s q = (elsewhere s.machine s.machine.now s.machine.last (settled from s.direct s.machine).lists q.0, record { now_is = q.1.now_is; here = q.1.here })

    moved : (b : Bool) (v : ℕ) (s : Turn P) → At p d h K t now s → At p d h K t now (moves_if b v s)
    moved true v s q = record { now_is = q.now_is; here = q.here }
    moved false v s q = q

    pub ended_at : (b : Bool) (quantum : ℕ) (s : Turn P) → At p d h K t now s → At p d h K t now (ends_tick (tick_end b quantum (thread_at s.machine u)) u s)
    ended_at b quantum s q = by_all b (nat_lt 0 (consumed_in th.server)) refl (is_blocked th.status) (is_runnable th.status) (capacity_in th.server == 0) (slice_is_used th.policy th.slice quantum)
      where
        th : Thread P
        th = thread_at s.machine u

        some : nat_lt 0 (consumed_in (thread_at s.machine u).server) ≡ true → (x : ServerState) → (thread_at s.machine u).server ≡ Some x → 1 ≤ x.consumed
        some e x k = let f : nat_lt 0 x.consumed ≡ true = sym (ap (λ (o : Option ServerState). nat_lt 0 (consumed_in o)) k) ∙ e in grind arith

        unsliced : At p d h K t now (changes u without_slice s)
        unsliced = one p d h K t now u without_slice s (λ it q'. record { room = q'.room; asleep = q'.asleep }) q

        no_plan : (full : Bool) → At p d h K t now (ends_tick (if full then slicing else nothing) u s)
        no_plan true = moved (can_run s.machine u) u (changes u without_slice s) unsliced
        no_plan false = q

        by_all : (a b : Bool) → nat_lt 0 (consumed_in (thread_at s.machine u).server) ≡ b → (c e z full : Bool) → At p d h K t now (ends_tick (by_these a b c e z full) u s)
        by_all false b k c e z full = no_plan full
        by_all true false k c e z full = no_plan full
        by_all true true k true e z full = planned p d h K t now u (thread_at s.machine u).server s refl (some k) q
        by_all true true k false false z full = no_plan full
        by_all true true k false true true full =
            moved _ u (plans_server u (thread_at s.machine u).server (tells (event.Exhaust u) s)) (planned p d h K t now u (thread_at s.machine u).server (tells (event.Exhaust u) s) refl (some k) (record { now_is = q.now_is; here = q.here }))
        by_all true true k false true false full = no_plan full

    pub swept : (s : Turn P) → Under s → Under (sweeps bodies s)
    swept s q = settles s.machine (sweeps_all bodies (thread_numbers s.machine) s) (sweeps_all_keep bodies (Some u) Under Under under_moves under_stops (λ s q. q.0.joiners) (thread_numbers s.machine) s q)

    -- a setsched of a thread that does not live answers, and that is all
    pub dead_setsched : (new : Policy) (s : Turn P) → lives s.machine t ≡ false → At p d h K t now s → At p d h K t now (unit_effect bodies u (unit.Make (call.Setsched t new)) s)
    dead_setsched new s dead q = by_life (lives s.machine t) dead
      where
        by_life : (b : Bool) → b ≡ false → At p d h K t now (if b then
            moves_if (not (owns_boosting (activates_if (can_run s.machine t) t (changes t (with_policy new s.machine.now) (returns (record { thread = u; call = call.Setsched t new }) res.Zero 0 s))).machine t)) t
            (activates_if (can_run s.machine t) t (changes t (with_policy new s.machine.now) (returns (record { thread = u; call = call.Setsched t new }) res.Zero 0 s)))
            else returns (record { thread = u; call = call.Setsched t new }) res.Srch 0 s)
        by_life true e = absurd (grind arith)
        by_life false e = let k = one p d h K t now u (answered res.Srch 0) s (λ it q'. record { room = q'.room; asleep = q'.asleep }) q in record { now_is = k.now_is; here = k.here }
