use Rattle.script_generator.proofs.Threads.{one_made}
use Rattle.script_generator.proofs.generated.make.Goals as goal

pub loop-k-preserved : goal.loop-k-preserved
loop-k-preserved c =
    one_made c.loop-k.decls.items c.push.new.self.items _ c.in_ok-thread.field-0 _ c.loop-k.k c.loop-k.draws c.thread.new.draws c.loop-k-test.true
    c.in_ok-thread.ensures c.in_ok-push.ensures.items c.loop-k.invariant
