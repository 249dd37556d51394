-- What a call is on.
use Rattle.std.specs.Prelude.{Bool, true, false}
use Rattle.words_script.specs.declared.call.Call.{Call}
use Rattle.words_script.specs.declared.call.Call.TheVariants as call

-- on threads and their cancellation
abbrev pub is_of_threads : Call → Bool
is_of_threads call.Yield = true
is_of_threads (call.Create t) = true
is_of_threads (call.Join t) = true
is_of_threads (call.Cancel t) = true
is_of_threads call.Testcancel = true
is_of_threads (call.Setcancel enable) = true
is_of_threads (call.Push u) = true
is_of_threads (call.Pop run) = true
is_of_threads (call.Exit v) = true
is_of_threads (call.Setprio t p) = true
is_of_threads (call.Setsched t p) = true
is_of_threads other = false

-- on mutexes, conditions and semaphores
abbrev pub is_of_objects : Call → Bool
is_of_objects (call.Lock m) = true
is_of_objects (call.Timedlock m at) = true
is_of_objects (call.Trylock m) = true
is_of_objects (call.Unlock m) = true
is_of_objects (call.Wait c m) = true
is_of_objects (call.Timedwait c m at) = true
is_of_objects (call.Signal c) = true
is_of_objects (call.Broadcast c) = true
is_of_objects (call.SemWait s) = true
is_of_objects (call.SemTimedwait s at) = true
is_of_objects (call.SemTrywait s) = true
is_of_objects (call.SemGetvalue s) = true
is_of_objects (call.SemPost s) = true
is_of_objects other = false

-- on clocks and timers
abbrev pub is_of_time : Call → Bool
is_of_time (call.Nanosleep n) = true
is_of_time (call.ClockNanosleep at) = true
is_of_time call.Gettime = true
is_of_time call.RealGettime = true
is_of_time (call.ClockSettime at) = true
is_of_time (call.TimerSettimeRel k first every) = true
is_of_time (call.TimerSettimeAbs k at every) = true
is_of_time (call.TimerGettime k) = true
is_of_time (call.TimerGetoverrun k) = true
is_of_time other = false
