use Rattle.std.proofs.Common.{subst, sym}
use Rattle.kernel_state.specs.Kernel.{Kernel}
use Rattle.kernel_state.specs.Standing.{MachineStands}
use Rattle.kernel_state.proofs.StandOn.{forgotten}
use Rattle.kernel_state.proofs.parts.Parts.forget.Goals as goal

pub invariant_of-self : goal.invariant_of-self
invariant_of-self c =
    let s = c.self.inside in
    let right = subst (λ (k : Kernel). MachineStands k.machine c.args.t) (sym c.self.view_is) c.requires.right in
    record {
      tied = c.self.invariant.tied;
      stand = forgotten s.named.bits c.remove.new.self.bits s.table s.ready.lists c.args.t c.self.invariant.stand c.remove.ensures right;
      modest = c.self.invariant.modest;
    }
