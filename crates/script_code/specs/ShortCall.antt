-- The calls that are kept whole in their operations. This project's own.
use Rattle.std.specs.Prelude.{◌<◌, ◌^◌}
use Rattle.words_script.specs.declared.call.Call.{Call}
use Rattle.words_script.specs.declared.call.Call.TheVariants as call
use Rattle.script_code.specs.declared.short_call.ShortCall.{ShortCall}
use Rattle.script_code.specs.declared.short_call.ShortCall.TheVariants.{Yield, Lock, Unlock, Post, Sleep}

-- the call that it is
abbrev pub call_of_short : ShortCall → Call
call_of_short Yield = call.Yield
call_of_short (Lock k) = call.Lock k
call_of_short (Unlock k) = call.Unlock k
call_of_short (Post k) = call.SemPost k
call_of_short (Sleep n) = call.Nanosleep n

-- a short call sleeps for so few ticks
abbrev pub HasRange : ShortCall → Type 0
HasRange (Sleep n) = n < 2 ^ 32
HasRange short = Unit {0}
