use Rattle.std.proofs.Common.{ap, arith, refl, rules}
use Rattle.rules_bodies.specs.declared.unit.Unit.TheVariants as unit
use Rattle.kernel_threads.specs.View.{frame_of}
use Rattle.kernel_threads.proofs.Passing.{goes_on}
use Rattle.kernel_threads.proofs.frame.Frame.begin.Goals as goal
use Rattle.kernel_threads.proofs.frame.Frame.begin.Goals.{in-Run, in-Jump}

pub units-preserved : goal.units-preserved
units-preserved g c =
    elim c.match-unit.branch [
      | in-Run w ↦
          let f = w.in-Run.ensures in
          rw w.rest-is
          (goes_on c.args.code.now c.units-body.result c.args.most c.units.rest w.in-Run.n c.args.steps.now c.units.steps _ c.args.self.now (frame_of c.units.self-inside) c.fetch-unit.new.at
          (unit.Run w.in-Run.n) (ap (λ units. units.code) c.units-body.ensures) c.units.invariant
          f.fetched f.next f.placed refl refl (omega arith) (omega arith) (search rules))
      | in-Jump w ↦
          let f = w.in-Jump.ensures in
          rw w.rest-is
          (goes_on c.args.code.now c.units-body.result c.args.most c.units.rest 1 c.args.steps.now c.units.steps _ c.args.self.now (frame_of c.units.self-inside) c.fetch-unit.new.at
          unit.Jump (ap (λ units. units.code) c.units-body.ensures) c.units.invariant
          f.fetched f.next f.placed refl refl (omega arith) (omega arith) (search rules))
    ]
