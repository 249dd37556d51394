-- A thread that came to run in a tick has a direct move.
use Rattle.std.proofs.Common.{ℕ, zero, suc, ap, sym, ◌∙◌}
use Rattle.std.specs.Prelude.{None, Option, Some, not}
use Rattle.rules_server.specs.Server.{ServerState, plan}
use Rattle.rules_bodies.specs.declared.cursor.Cursor.{Cursor}
use Rattle.rules_bodies.specs.declared.unit.Unit as unit_type
use Rattle.rules_bodies.specs.declared.unit.Unit.TheVariants as unit
use Rattle.words_trace.specs.declared.event.Event.TheVariants as event
use Rattle.rules_machine.specs.Bodies.{Bodies}
use Rattle.rules_machine.specs.Threads.{can_run, thread_at, top_kind}
use Rattle.rules_machine.specs.Turns.{Turn, changes, tells}
use Rattle.rules_machine.specs.Servers.{plans, plans_server, with_server}
use Rattle.rules_machine.specs.Mutexes.{owns_boosting}
use Rattle.rules_machine.specs.Calls.{unit_effect}
use Rattle.rules_machine.specs.Ticks.{TickEnd, completes_at, ends_tick, exhausting, nothing, planning, slicing, without_slice}
use Rattle.rules_flat_code.specs.KnownCalls.{Objects}
use Rattle.kernel_leaps.specs.Completes.{CanComplete}
use Rattle.calls_items.proofs.Coming.Steps.{Comes, Fewer, changes_fewer, fewer_come, moves_if_machine}
use Rattle.calls_items.proofs.Coming.Lives.{finishes_come}
use Rattle.calls_items.proofs.Coming.Calls.{made_come}
use Rattle.kernel_state.specs.Kernel.{by}

-- ---- units

unit_come : (bodies : Bodies Cursor) (o : Objects) (t : ℕ) (u : unit_type.Unit) (s : Turn Cursor) → CanComplete o (thread_at s.machine t) u → Comes s (unit_effect bodies t u s)
unit_come bodies o t (unit.Run k) s can = fewer_come s.machine s.machine s.direct (λ u r. r)
unit_come bodies o t unit.Jump s can = fewer_come s.machine s.machine s.direct (λ u r. r)
unit_come bodies o t unit.Finish s can = finishes_come (top_kind (thread_at s.machine t).frames) t s
unit_come bodies o t (unit.Make c) s can = made_come bodies (by t c) s

pub completes_come : (bodies : Bodies Cursor) (o : Objects) (left t : ℕ) (u : unit_type.Unit) (s : Turn Cursor) → CanComplete o (thread_at s.machine t) u → Comes s (completes_at bodies left t u s)
completes_come bodies o zero t u s can = unit_come bodies o t u s can
completes_come bodies o (suc left) t u s can = fewer_come s.machine s.machine s.direct (λ u r. r)

-- ---- the rule of the tick's end

plans_fewer : {P : Type 0} (t : ℕ) (o : Option ServerState) (s : Turn P) → Fewer s.machine (plans_server t o s).machine
plans_fewer t None s u r = r
plans_fewer t (Some server) s u r = changes_fewer t (with_server plan) s (λ h. h) u r

pub ends_tick_fewer : {P : Type 0} (e : TickEnd) (t : ℕ) (s : Turn P) → Fewer s.machine (ends_tick e t s).machine
ends_tick_fewer planning t s u r = plans_fewer t (thread_at s.machine t).server s u r
ends_tick_fewer exhausting t s u r =
    let told = tells (event.Exhaust t) s in
    let x = plans t told in
    plans_fewer t (thread_at s.machine t).server told u (sym (ap (λ (m : _). can_run m u) (moves_if_machine (not (owns_boosting x.machine t)) t x)) ∙ r)
ends_tick_fewer slicing t s u r =
    let x = changes t without_slice s in
    changes_fewer t without_slice s (λ h. h) u (sym (ap (λ (m : _). can_run m u) (moves_if_machine (can_run s.machine t) t x)) ∙ r)
ends_tick_fewer nothing t s u r = r
