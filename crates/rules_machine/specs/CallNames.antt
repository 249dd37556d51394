-- The name of a call: the first word of its line.
use Rattle.words_script.specs.declared.call.Call.{Call}
use Rattle.words_script.specs.declared.call.Call.TheVariants as call
use Rattle.words_trace.specs.declared.event.CallName.{CallName}
use Rattle.words_trace.specs.declared.event.CallName.TheVariants as name

abbrev pub name_of : Call → CallName
name_of call.Yield = name.Yield
name_of (call.Create u) = name.Create
name_of (call.Join u) = name.Join
name_of (call.Cancel u) = name.Cancel
name_of call.Testcancel = name.Testcancel
name_of (call.Setcancel on) = name.Setcancel
name_of (call.Push u) = name.Push
name_of (call.Pop runs) = name.Pop
name_of (call.Exit v) = name.Exit
name_of (call.Setprio u p) = name.Setprio
name_of (call.Setsched u policy) = name.Setsched
name_of (call.Lock k) = name.Lock
name_of (call.Timedlock k at) = name.Timedlock
name_of (call.Trylock k) = name.Trylock
name_of (call.Unlock k) = name.Unlock
name_of (call.Wait c k) = name.Wait
name_of (call.Timedwait c k at) = name.Timedwait
name_of (call.Signal c) = name.Signal
name_of (call.Broadcast c) = name.Broadcast
name_of (call.SemWait k) = name.SemWait
name_of (call.SemTimedwait k at) = name.SemTimedwait
name_of (call.SemTrywait k) = name.SemTrywait
name_of (call.SemGetvalue k) = name.SemGetvalue
name_of (call.SemPost k) = name.SemPost
name_of (call.Nanosleep n) = name.Nanosleep
name_of (call.ClockNanosleep at) = name.ClockNanosleep
name_of call.Gettime = name.Gettime
name_of call.RealGettime = name.RealGettime
name_of (call.ClockSettime at) = name.ClockSettime
name_of (call.TimerSettimeRel k n interval) = name.TimerSettime
name_of (call.TimerSettimeAbs k at interval) = name.TimerSettime
name_of (call.TimerGettime k) = name.TimerGettime
name_of (call.TimerGetoverrun k) = name.TimerGetoverrun
name_of (call.Kill signal) = name.Kill
name_of (call.Tkill u signal) = name.Tkill
name_of (call.Sigqueue signal v) = name.Sigqueue
name_of (call.SigmaskBlock set) = name.Sigmask
name_of (call.SigmaskUnblock set) = name.Sigmask
name_of (call.SigmaskSet set) = name.Sigmask
name_of (call.Sigwaitinfo set) = name.Sigwaitinfo
name_of (call.Sigtimedwait set n) = name.Sigtimedwait
name_of (call.MqSend q len p v) = name.MqSend
name_of (call.MqTimedsend q len p v at) = name.MqTimedsend
name_of (call.MqReceive q) = name.MqReceive
name_of (call.MqTimedreceive q at) = name.MqTimedreceive
name_of (call.MqNotify q signal v) = name.MqNotify
