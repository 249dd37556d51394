use Rattle.std.proofs.Common.{refl}
use Rattle.parts_tracer.proofs.Prints.{printed_all, printed_part}
use Rattle.parts_tracer.proofs.tracer.print.Goals as goal

pub returns-in-Ok : goal.returns-in-Ok
returns-in-Ok g c =
    let done = c.in-Ok.ensures in
    printed_all _ _ _ c.if-failed.false c.if-failed.false (c.requires.whole done.short) done.written done.cause.ok

pub returns-in-Err : goal.returns-in-Err
returns-in-Err g c =
    let done = c.in-Err.ensures in
    printed_part _ _ _ c.if-failed.false refl (c.requires.whole done.short) done.written done.cause.failed done.cause.later
