use Rattle.std.proofs.Common.{ap, ◌∙◌}
use Rattle.words_trace.specs.declared.event.Event.TheVariants as event
use Rattle.calls_generation.proofs.Delivered.{delivered_state, delivered_told}
use Rattle.calls_generation.proofs.acceptance.deliver.Goals as goal

pub returns : goal.returns
returns g c = record {
  state = (delivered_state c.args.t c.args.r.now c.args.p.now _ c.timer.result c.timer.ensures c.tell_overrun.ensures);
  told = (let r = c.args.r.now in
      delivered_told g.K.Sink.text g.K.Sink.faults c.args.t r c.args.p.now c.args.out.now _ (event.Deliver c.args.t c.signal.result c.code.result c.value.result)
      (ap (λ s. event.Deliver c.args.t s c.code.result c.value.result) c.signal.ensures
      ∙ ap (λ d. event.Deliver c.args.t r.signal d c.value.result) c.code.ensures
      ∙ ap (λ v. event.Deliver c.args.t r.signal r.code v) c.value.ensures) c.tell.ensures);
}
