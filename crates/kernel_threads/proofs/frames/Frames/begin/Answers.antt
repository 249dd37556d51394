use Rattle.std.proofs.Common.{◌∙◌, arith, sym}
use Rattle.kernel_threads.proofs.Advancing.{taken_by_first}
use Rattle.kernel_threads.proofs.frames.Frames.begin.Goals as goal

pub returns : goal.returns
returns g c th is goes_on =
    taken_by_first c.args.code.now c.args.most c.begin.result c.args.steps.now c.begin.new.steps c.index-self-0.result c.begin.new.self c.self.inside.count c.self.inside.items th
    (omega (arith, c.if-self-eq0.false)) (omega (arith, c.self.invariant)) (is ∙ sym c.self.view_is) (rw is c.requires.whole) goes_on c.begin.ensures
