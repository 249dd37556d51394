use Rattle.std.proofs.Common.{◌≤◌, List, arith, length, subst, sym}
use Rattle.rules_bodies.specs.declared.cursor.Cursor.{Cursor}
use Rattle.rules_machine.specs.Declarations.{threads_of}
use Rattle.rules_machine.specs.State.{Thread}
use Rattle.kernel_table.specs.Opening.{NoneWaits}
use Rattle.kernel_table.proofs.Armed.{none_armed}
use Rattle.kernel_table.proofs.Expiring.{all_disarmed, disarmed}
use Rattle.kernel_table.proofs.Opening.{all_tied, none_waits}
use Rattle.kernel_table.proofs.RealItems.{none_kept}
use Rattle.kernel_table.proofs.table.Table.open.Goals as goal

pub assign_all-requires-clause-none : goal.assign_all-requires-clause-none
assign_all-requires-clause-none c =
    subst (λ (ths : List (Thread Cursor)). NoneWaits ths) (sym c.in_ok-threads.ensures) (none_waits (threads_of c.args.script.now))

pub invariant_of-result : goal.invariant_of-result
invariant_of-result c = record {
  tied = (let value = c.count.ensures.value in
      let most = c.count.ensures.few in
      let few : length c.in_ok-threads.threads ≤ 256 = omega (arith, value, most) in
      let none = subst (λ (ths : List (Thread Cursor)). NoneWaits ths) (sym c.in_ok-threads.ensures) (none_waits (threads_of c.args.script.now)) in
      all_tied c.in_ok-threads.threads _ c.assign_all.new.chain c.assign_all.new.waits few none c.assign_all.ensures);
  armed = rw c.in_ok-timers.ensures (disarmed c.in_ok-threads.threads _ c.time_all.new.wheel.dues c.requires.timers (all_disarmed c.args.script.now.decls) c.time_all.ensures);
  kept = (let none = subst (λ (ths : List (Thread Cursor)). NoneWaits ths) (sym c.in_ok-threads.ensures) (none_waits (threads_of c.args.script.now)) in
      rw c.in_ok-timers.ensures (none_kept c.in_ok-threads.threads _ _ _ none (all_disarmed c.args.script.now.decls) c.empty.ensures c.empty-2.ensures));
}

pub time_all-requires-clause-first : goal.time_all-requires-clause-first
time_all-requires-clause-first c = rw c.in_ok-wheel.ensures none_armed
