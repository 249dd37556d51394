use Rattle.std.proofs.Common.{◌≡◌, arith, subst, sym, true}
use Rattle.rules_machine.specs.Threads.{can_run}
use Rattle.kernel_state.specs.Kernel.{Kernel}
use Rattle.kernel_state.proofs.StandOn.{put_tail}
use Rattle.kernel_state.proofs.parts.Parts.put_last.Goals as goal

pub invariant_of-self : goal.invariant_of-self
invariant_of-self c =
    let s = c.self.inside in
    let runs = subst (λ (k : Kernel). can_run k.machine c.args.t ≡ true) (sym c.self.view_is) c.requires.runs in
    record {
      tied = rw c.to_tail.ensures c.self.invariant.tied;
      stand = rw c.to_tail.ensures (put_tail s.named.bits c.remove.new.self.bits s.table s.ready.lists c.args.t c.self.invariant.stand c.remove.ensures c.exec-p.result c.exec-p.ensures
          (omega (arith, c.get.ensures)) (omega (arith, c.get.ensures)) runs);
      modest = c.self.invariant.modest;
    }
