use Rattle.std.proofs.Common.{refl}
use Rattle.script_printer.proofs.Puts.{put_all, put_part}
use Rattle.script_printer.proofs.printer.Printer.put.Goals as goal

pub returns-in-Ok : goal.returns-in-Ok
returns-in-Ok g c = record { same_sink = refl; put = put_all _ _ _ c.if-self.false c.if-self.false c.in-Ok.ensures.written c.in-Ok.ensures.cause.ok }

pub returns-in-Err : goal.returns-in-Err
returns-in-Err g c = record { same_sink = refl; put = put_part _ _ _ c.if-self.false refl c.in-Err.ensures.written c.in-Err.ensures.cause.failed c.in-Err.ensures.cause.later }
