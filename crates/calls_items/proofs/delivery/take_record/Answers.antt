use Rattle.std.proofs.Common.{◌∙◌, ap, length, subst, sym}
use Rattle.rules_machine.specs.declared.signal.SigAction.{SigAction}
use Rattle.rules_machine.specs.Delivery.{acts}
use Rattle.rules_machine.specs.Threads.{action_of}
use Rattle.rules_flat_code.specs.FlatBodies.{flat_bodies}
use Rattle.kernel_state.specs.Caught.{CatchesBy}
use Rattle.kernel_state.specs.Does.{Does}
use Rattle.calls_items.proofs.delivery.take_record.Goals as goal

pub act-requires-clause-handler : goal.act-requires-clause-handler
act-requires-clause-handler g c =
    let is = c.action-action.ensures ∙ ap (action_of c.args.p.now.machine) c.signal.ensures in
    subst (CatchesBy (length c.args.p.now.code.handlers)) (sym is) (c.requires.caught.each c.args.r.now.signal)

pub returns : goal.returns
returns g c =
    let p = c.args.p.now in
    let is = c.action-action.ensures ∙ ap (action_of p.machine) c.signal.ensures in
    subst (λ (a : SigAction). Does g.K.Sink.text g.K.Sink.faults (acts (flat_bodies p.code) a c.args.t c.args.r.now) p c.act.new.p c.args.out.now c.act.new.out) is c.act.ensures
