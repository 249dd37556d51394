use Rattle.std.proofs.Common.{◌+◌, Option, subst, sym}
use Rattle.rules_server.specs.Server.{ServerState}
use Rattle.kernel_threads.specs.Held.{IsHeld}
use Rattle.kernel_threads.proofs.Charges.{held_after}
use Rattle.kernel_threads.proofs.thread.Thread.run_capacity.Goals as goal

pub invariant_of-self : goal.invariant_of-self
invariant_of-self g c =
    subst (λ (o : Option ServerState). IsHeld c.self.inside.policy o) (sym c.charge_server.ensures) (held_after (c.run_unit-ran.result.passed + c.run_unit-ran.result.ticks) c.self.inside.policy c.self.inside.server c.self.invariant)
