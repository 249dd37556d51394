use Rattle.std.proofs.Common.{List, subst, ℕ, ◌∙◌}
use Rattle.parts_io.specs.Bytes.{WritesAll}
use Rattle.kernel_leaps.proofs.Running.{items_fit}
use Rattle.kernel_leaps.proofs.Shown.{named, numbered, text_is}
use Rattle.kernel_leaps.proofs.kernel.Kernel.show.Goals as goal

pub handle_items-requires-clause-fits : goal.handle_items-requires-clause-fits
handle_items-requires-clause-fits g c = rw c.deref_mut.ensures.value (items_fit c.self.inside.parts.value c.self.invariant.quiet c.self.invariant.fits)

-- each object that is told has a number
pub write_state-requires : goal.write_state-requires
write_state-requires g c = record {
  numbered = rw c.deref.ensures (numbered c.args.script.now c.requires.in_run.ticks c.deref_mut.result.now c.handle_items.new.p (c.deref_mut.ensures.value ∙ (c.self.view_is ∙ c.requires.in_run.is)) c.handle_items.ensures.state
      c.requires.runnable c.requires.well_formed c.requires.few);
  named = rw c.deref.ensures (named c.args.script.now c.requires.in_run.ticks c.deref_mut.result.now c.handle_items.new.p (c.deref_mut.ensures.value ∙ (c.self.view_is ∙ c.requires.in_run.is)) c.handle_items.ensures.state);
}

pub returns-clause-written : goal.returns-clause-written
returns-clause-written g c n is =
    subst (λ (text : List ℕ). WritesAll (g.K.Sink.text c.args.sink.now) (g.K.Sink.text c.write_state.new.sink) c.write_state.result text)
    (text_is c.args.script.now n c.deref_mut.result.now c.handle_items.new.p (c.deref_mut.ensures.value ∙ (c.self.view_is ∙ is)) c.handle_items.ensures.state) (rw c.deref.ensures at c.write_state.ensures.written)
