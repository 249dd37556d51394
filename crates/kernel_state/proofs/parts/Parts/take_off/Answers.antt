use Rattle.kernel_state.proofs.StandOn.{taken_off}
use Rattle.kernel_state.proofs.parts.Parts.take_off.Goals as goal

pub invariant_of-self : goal.invariant_of-self
invariant_of-self c =
    let s = c.self.inside in
    record {
      tied = rw c.remove-2.ensures c.self.invariant.tied;
      stand = rw c.remove-2.ensures (taken_off s.named.bits c.remove.new.self.bits s.table s.ready.lists c.args.t c.self.invariant.stand c.remove.ensures);
      modest = c.self.invariant.modest;
    }
