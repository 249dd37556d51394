-- A run over other places is as busy as the script's run.
use Rattle.std.proofs.Common.{Bool, None, Option, Some, ap, length, refl, suc, sym, zero, ℕ, ◌+◌, ◌-◌, ◌≡◌}
use Rattle.std.specs.Prelude.{filter, is_some, ◌==◌, ◌&&◌, ◌||◌}
use Rattle.std.specs.List.{range_with_len}
use mathlib.Core.Path.{◌∙◌}
use Rattle.words_script.specs.declared.decl.Script.{Script}
use Rattle.rules_bodies.specs.Next.{Place}
use Rattle.rules_machine.specs.declared.frame.BodyOf.{BodyOf}
use Rattle.rules_machine.specs.Bodies.{Bodies}
use Rattle.rules_machine.specs.DueItems.{instant}
use Rattle.rules_machine.specs.Dispatch.{head}
use Rattle.rules_machine.specs.Eventful.{busy, has_item, head_matters, is_eventful, next_tick_matters, tick_matters, unless_ended}
use Rattle.rules_machine.specs.Machine.{bodies_of}
use Rattle.rules_machine.specs.Promises.{busy_between}
use Rattle.rules_machine.specs.Runs.{Ran, opening, ticks}
use Rattle.rules_machine.specs.Servers.{has_high}
use Rattle.rules_machine.specs.State.{Machine, Thread}
use Rattle.rules_machine.specs.Threads.{thread_at}
use Rattle.rules_machine.specs.Ticks.{capacity_in, slice_is_used, tick_charged}
use Rattle.rules_machine.specs.Turns.{Turn, turn_of}
use Rattle.rules_machine.specs.Units.{InUnit, in_unit}
use Rattle.laws_places.specs.Carried.{Agree}
use Rattle.laws_places.proofs.CarriedReads.{C, M, left_carried, same_function, thread_carries}
use Rattle.laws_places.proofs.CarriedTicks.{charged_carries, in_unit_carries, instant_carries, next_item_carries, ticks_carry}
use Rattle.laws_places.proofs.CarriedTrace.{opening_carries}

module _ {P Q : Type 0} (carry : BodyOf → P → Q) (p : Bodies P) (q : Bodies Q) (a : Agree carry p q) where
  matters_carries : (was_high : Bool) (quantum : ℕ) (th : Thread P) → tick_matters was_high quantum (C carry th) ≡ tick_matters was_high quantum th
  matters_carries was_high quantum th =
      ap (λ (n : ℕ). n == 0 || slice_is_used th.policy th.slice quantum || (was_high && capacity_in th.server == 0)) (left_carried carry th.frames)

  head_carries : (to : Option ℕ) (m : Machine P) → head_matters q to (M carry m) ≡ head_matters p to m
  head_carries None m = refl
  head_carries (Some t) m =
      let th = thread_at m t in
      ap (λ (x : Thread Q). tick_matters (has_high x.server) m.quantum (tick_charged (in_unit q x).thread)) (thread_carries carry m t)
      ∙ ap (λ (x : InUnit Q). tick_matters (has_high th.server) m.quantum (tick_charged x.thread)) (in_unit_carries carry p q a th)
      ∙ ap (tick_matters (has_high th.server) m.quantum) (charged_carries carry p q a (in_unit p th).thread)
      ∙ matters_carries (has_high th.server) m.quantum (tick_charged (in_unit p th).thread)

  ended_carries : (killed : Option ℕ) (m : Machine P) → unless_ended q killed (M carry m) ≡ unless_ended p killed m
  ended_carries (Some signal) m = refl
  ended_carries None m = head_carries (head m) m

  next_carries : (m : Machine P) → next_tick_matters q (M carry m) ≡ next_tick_matters p m
  next_carries m =
      let ready = (instant p (turn_of m)).machine in
      ap (λ (s : Turn Q). unless_ended q s.machine.killed s.machine) (instant_carries carry p q a (turn_of m)) ∙ ended_carries ready.killed ready

  item_carries : (m : Machine P) → has_item (M carry m) ≡ has_item m
  item_carries m = ap is_some (next_item_carries carry p q a m)

  eventful_carries : (m : Machine P) (i : ℕ) → is_eventful q (M carry m) i ≡ is_eventful p m i
  eventful_carries m zero = item_carries m
  eventful_carries m (suc j) =
      ap (λ (r : Ran Q). has_item r.machine || next_tick_matters q (ticks q j (M carry m)).machine) (ticks_carry carry p q a (suc j) m)
      ∙ ap (λ (r : Ran Q). has_item (M carry (ticks p (suc j) m).machine) || next_tick_matters q r.machine) (ticks_carry carry p q a j m)
      ∙ ap (λ (b : Bool). b || next_tick_matters q (M carry (ticks p j m).machine)) (item_carries (ticks p (suc j) m).machine)
      ∙ ap (λ (b : Bool). has_item (ticks p (suc j) m).machine || b) (next_carries (ticks p j m).machine)

  busy_carries : (m : Machine P) (from to : ℕ) → busy q (M carry m) from to ≡ busy p m from to
  busy_carries m from to = ap (λ (f : ℕ → Bool). length (filter f (range_with_len (from + 1) (to - from - 1)))) (same_function (is_eventful q (M carry m)) (is_eventful p m) (eventful_carries m))

-- from the opening on
pub busy_over : {Q : Type 0} (carry : BodyOf → Place → Q) (script : Script) (q : Bodies Q) → Agree carry (bodies_of script) q → (from to : ℕ) → busy q (opening script) from to ≡ busy_between script from to
busy_over {Q} carry script q a from to =
    ap (λ (m : Machine Q). busy q m from to) (sym (opening_carries carry script)) ∙ busy_carries carry (bodies_of script) q a (opening script) from to
