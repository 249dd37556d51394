-- What each call is on: which crate has its effect.
use Rattle.words_script.specs.declared.call.Call.{Call}
use Rattle.words_script.specs.declared.call.Call.TheVariants as call
use Rattle.calls_subjects.specs.declared.Subject.{Subject}
use Rattle.calls_subjects.specs.declared.Subject.TheVariants as subject

abbrev pub subject_of : Call → Subject
subject_of call.Yield = subject.Scheduling
subject_of (call.Create u) = subject.Scheduling
subject_of (call.Setprio u p) = subject.Scheduling
subject_of (call.Setsched u policy) = subject.Scheduling
subject_of (call.Nanosleep n) = subject.Scheduling
subject_of (call.ClockNanosleep at) = subject.Scheduling
subject_of call.Gettime = subject.Scheduling
subject_of call.RealGettime = subject.Scheduling
subject_of (call.Join u) = subject.Threads
subject_of (call.Cancel u) = subject.Threads
subject_of call.Testcancel = subject.Threads
subject_of (call.Setcancel on) = subject.Threads
subject_of (call.Push u) = subject.Threads
subject_of (call.Pop runs) = subject.Threads
subject_of (call.Exit v) = subject.Threads
subject_of (call.Lock k) = subject.Sync
subject_of (call.Timedlock k at) = subject.Sync
subject_of (call.Trylock k) = subject.Sync
subject_of (call.Unlock k) = subject.Sync
subject_of (call.Wait c k) = subject.Sync
subject_of (call.Timedwait c k at) = subject.Sync
subject_of (call.Signal c) = subject.Sync
subject_of (call.Broadcast c) = subject.Sync
subject_of (call.SemWait k) = subject.Sync
subject_of (call.SemTimedwait k at) = subject.Sync
subject_of (call.SemTrywait k) = subject.Sync
subject_of (call.SemGetvalue k) = subject.Sync
subject_of (call.SemPost k) = subject.Sync
subject_of (call.ClockSettime at) = subject.Signals
subject_of (call.TimerSettimeRel k n interval) = subject.Signals
subject_of (call.TimerSettimeAbs k at interval) = subject.Signals
subject_of (call.TimerGettime k) = subject.Signals
subject_of (call.TimerGetoverrun k) = subject.Signals
subject_of (call.Kill signal) = subject.Signals
subject_of (call.Tkill u signal) = subject.Signals
subject_of (call.Sigqueue signal v) = subject.Signals
subject_of (call.SigmaskBlock set) = subject.Signals
subject_of (call.SigmaskUnblock set) = subject.Signals
subject_of (call.SigmaskSet set) = subject.Signals
subject_of (call.Sigwaitinfo set) = subject.Signals
subject_of (call.Sigtimedwait set n) = subject.Signals
subject_of (call.MqSend q len p v) = subject.Queues
subject_of (call.MqTimedsend q len p v at) = subject.Queues
subject_of (call.MqReceive q) = subject.Queues
subject_of (call.MqTimedreceive q at) = subject.Queues
subject_of (call.MqNotify q signal v) = subject.Queues
