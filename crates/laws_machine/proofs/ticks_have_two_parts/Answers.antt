use Rattle.rules_machine.specs.Machine.{bodies_of}
use Rattle.rules_machine.proofs.Parts.{finished_in_parts, tick_in_parts}
use Rattle.laws_machine.proofs.ticks_have_two_parts.Goals as goal

pub returns-clause-parts : goal.returns-clause-parts
returns-clause-parts c script m = tick_in_parts (bodies_of script) m

pub returns-clause-finished : goal.returns-clause-finished
returns-clause-finished c script m = finished_in_parts (bodies_of script) m
