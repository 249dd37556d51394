use Rattle.std.proofs.Common.{◌<◌, ◌∙◌, length, false, None, ap, arith, refl, sym}
use Rattle.rules_machine.specs.Mutexes.{freed, taken_by}
use Rattle.rules_machine.specs.Threads.{no_mutex}
use Rattle.rules_machine.specs.Waking.{woken}
use Rattle.rules_machine.proofs.Reading.{changed-twice}
use Rattle.parts_owners.specs.Chains.{Links}
use Rattle.parts_owners.specs.Moves.{MayPass}
use Rattle.kernel_table.specs.Times.{refill_of, start_of, timeout_of}
use Rattle.kernel_table.specs.RealItems.{waits_for_reading}
use Rattle.kernel_table.proofs.Armed.{armed_waiting}
use Rattle.kernel_table.proofs.Passed.{passed_tied, told_others, told_woken}
use Rattle.kernel_table.proofs.RealItems.{kept_after}
use Rattle.kernel_table.proofs.Runs.{awaiting_started}
use Rattle.kernel_table.proofs.Ties.{placed}
use Rattle.kernel_table.proofs.table.Table.hand_over.Goals as goal

pub invariant_of-self : goal.invariant_of-self
invariant_of-self c =
    let s = c.self.inside in
    let known : c.args.t < length s.threads = rw (← c.self.view_is) at c.requires.known in
    let is = c.wake.ensures ∙ ap (woken c.args.res c.args.value) c.get_mut.ensures.value in
    record {
      tied = rw (c.wake.ensures, c.get_mut.ensures.value) (passed_tied s.timers s.threads s.chain _ s.waits _ c.args.k c.args.t c.args.res c.args.value known c.self.invariant.tied c.pass.ensures);
      armed = armed_waiting s.threads s.timers s.wheel.dues _ c.args.t c.wake.new.self None c.self.invariant.tied.few known (ap refill_of is) (ap start_of is) (ap timeout_of is) c.end_sleep.ensures c.self.invariant.armed;
      kept = kept_after s.threads s.timers s.real_waits _ s.real_expiries c.args.t c.wake.new.self false known (ap waits_for_reading is) c.drop_wait.ensures c.self.invariant.kept;
    }

pub pass-requires-clause-placed : goal.pass-requires-clause-placed
pass-requires-clause-placed c = let s = c.self.inside in placed s.threads s.chain s.waits c.self.invariant.tied

pub returns-clause-table : goal.returns-clause-table
returns-clause-table c =
    let s = c.self.inside in
    let mutexes = ap (λ (l : Links). l.mutexes) c.pass.ensures.chain in
    rw (c.wake.ensures, c.get_mut.ensures.value, mutexes, changed-twice no_mutex c.args.k freed (taken_by c.args.t) s.chain.mutexes, sym c.self.view_is) refl

pub returns-clause-woken : goal.returns-clause-woken
returns-clause-woken c =
    let s = c.self.inside in
    let known : c.args.t < length s.threads = rw (← c.self.view_is) at c.requires.known in
    rw (← c.self.view_is) (told_woken s.timers s.threads s.chain _ s.waits _ c.args.k c.args.t c.args.res c.args.value known c.self.invariant.tied c.pass.ensures)

pub returns-clause-others : goal.returns-clause-others
returns-clause-others c =
    let s = c.self.inside in
    let known : c.args.t < length s.threads = rw (← c.self.view_is) at c.requires.known in
    rw (← c.self.view_is, c.wake.ensures, c.get_mut.ensures.value) (told_others s.timers s.threads s.chain _ s.waits _ c.args.k c.args.t c.args.res c.args.value known c.self.invariant.tied c.pass.ensures)

pub end_sleep-requires-clause-numbers : goal.end_sleep-requires-clause-numbers
end_sleep-requires-clause-numbers c = c.self.invariant.armed.numbers

pub end_sleep-requires-clause-started : goal.end_sleep-requires-clause-started
end_sleep-requires-clause-started c =
    let s = c.self.inside in
    let known : c.args.t < length s.threads = rw (← c.self.view_is) at c.requires.known in
    let may : MayPass s.chain c.args.k c.args.owner c.args.t = c.may_pass.ensures c.if-not-may_pass.false in
    awaiting_started s.threads s.timers s.wheel.dues s.chain s.waits c.args.t c.args.k (omega (arith, known, c.self.invariant.tied.few)) may.waits c.self.invariant.tied c.self.invariant.armed
