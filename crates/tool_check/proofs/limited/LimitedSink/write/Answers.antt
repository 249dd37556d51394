use Rattle.std.proofs.Common.{◌≡◌, ◌≤◌, arith}
use Rattle.parts_io.specs.Causes.{raised}
use Rattle.tool_check.proofs.limited.LimitedSink.write.Goals as goal

pub returns-clause-cause : goal.returns-clause-cause
returns-clause-cause c =
    let before : c.append-2.new.self.faults ≡ c.args.self.now.faults = cc in
    let after : c.count_fault.new.self.faults ≡ raised c.append-2.new.self.faults 1 = cc in
    let later : c.append-2.new.self.faults ≤ c.count_fault.new.self.faults = c.count_fault.ensures.later in
    record { later = omega arith; ok = tt; failed = omega arith }
