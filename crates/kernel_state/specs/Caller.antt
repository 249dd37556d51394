-- Who calls, and what, as the rules say it. This project's own.
use Rattle.rules_machine.specs.Turns as machine
use Rattle.kernel_state.specs.declared.caller.Caller as declared

abbrev pub caller : declared.Caller → machine.Caller
caller by = record { thread = by.thread; call = by.call.now }
