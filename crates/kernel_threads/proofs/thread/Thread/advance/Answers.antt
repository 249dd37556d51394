use Rattle.std.proofs.Common.{refl}
use Rattle.kernel_threads.specs.contracts.thread.Thread.{the_view}
use Rattle.kernel_threads.proofs.thread.Thread.advance.Goals as goal

pub returns : goal.returns
returns g c =
    let goes_on = rw (← c.self.view_is) at c.requires.goes_on in
    rw (← c.self.view_is) (c.begin.ensures (the_view c.self.inside) refl goes_on)
