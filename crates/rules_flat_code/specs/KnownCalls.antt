-- What a call may name and say: an object that the script declares, and numbers in the ranges of the script language, which is this
-- project's own.
use Rattle.std.specs.Prelude.{ℕ, ◌≤◌, ◌<◌, ◌^◌, length}
use Rattle.words_script.specs.declared.call.Call.{Call}
use Rattle.words_script.specs.declared.call.Call.TheVariants as call
use Rattle.words_script.specs.declared.call.Moment.{Moment}
use Rattle.words_script.specs.declared.call.Moment.TheVariants as moment
use Rattle.words_script.specs.declared.call.Operand.{Operand}
use Rattle.words_script.specs.declared.call.Operand.TheVariants as operand
use Rattle.words_script.specs.declared.decl.Script.{Script}
use Rattle.rules_machine.specs.Declarations.{cleanups_of, mutexes_of, queues_of, semaphores_of, threads_of, timers_of}

-- how many there are of each kind that is numbered
pub record Objects : Type 0 where
  pub threads : ℕ
  pub cleanups : ℕ
  pub mutexes : ℕ
  pub semaphores : ℕ
  pub queues : ℕ
  pub timers : ℕ

abbrev pub objects_of : Script → Objects
objects_of script = record {
  threads = length (threads_of script);
  cleanups = length (cleanups_of script);
  mutexes = length (mutexes_of script);
  semaphores = length (semaphores_of script);
  queues = length (queues_of script);
  timers = length (timers_of script);
}

-- a number of a script
abbrev pub IsNumber : ℕ → Type 0
IsNumber n = n ≤ 10 ^ 18

abbrev pub IsOperand : Operand → Type 0
IsOperand (operand.Num n) = IsNumber n
IsOperand operand.Reg = Unit {0}

abbrev pub IsMoment : Moment → Type 0
IsMoment (moment.Monotonic at) = IsOperand at
IsMoment (moment.Realtime at) = IsOperand at

abbrev pub IsSignal : ℕ → Type 0
IsSignal signal = signal < 32

-- a call names what is declared, and its numbers are in range; conditions have nothing that is kept by number
abbrev pub KnowsObjects : Objects → Call → Type 0
KnowsObjects o call.Yield = Unit {0}
KnowsObjects o (call.Create u) = u < o.threads
KnowsObjects o (call.Join u) = u < o.threads
KnowsObjects o (call.Cancel u) = u < o.threads
KnowsObjects o call.Testcancel = Unit {0}
KnowsObjects o (call.Setcancel on) = Unit {0}
KnowsObjects o (call.Push u) = u < o.cleanups
KnowsObjects o (call.Pop runs) = Unit {0}
KnowsObjects o (call.Exit v) = IsOperand v
KnowsObjects o (call.Setprio u p) = u < o.threads
KnowsObjects o (call.Setsched u policy) = u < o.threads
KnowsObjects o (call.Lock k) = k < o.mutexes
KnowsObjects o (call.Timedlock k at) = (k < o.mutexes) × IsMoment at
KnowsObjects o (call.Trylock k) = k < o.mutexes
KnowsObjects o (call.Unlock k) = k < o.mutexes
KnowsObjects o (call.Wait c k) = k < o.mutexes
KnowsObjects o (call.Timedwait c k at) = (k < o.mutexes) × IsMoment at
KnowsObjects o (call.Signal c) = Unit {0}
KnowsObjects o (call.Broadcast c) = Unit {0}
KnowsObjects o (call.SemWait k) = k < o.semaphores
KnowsObjects o (call.SemTimedwait k at) = (k < o.semaphores) × IsMoment at
KnowsObjects o (call.SemTrywait k) = k < o.semaphores
KnowsObjects o (call.SemGetvalue k) = k < o.semaphores
KnowsObjects o (call.SemPost k) = k < o.semaphores
KnowsObjects o (call.Nanosleep n) = IsNumber n
KnowsObjects o (call.ClockNanosleep at) = IsMoment at
KnowsObjects o call.Gettime = Unit {0}
KnowsObjects o call.RealGettime = Unit {0}
KnowsObjects o (call.ClockSettime at) = IsOperand at
KnowsObjects o (call.TimerSettimeRel k n interval) = (k < o.timers) × IsNumber n × IsNumber interval
KnowsObjects o (call.TimerSettimeAbs k at interval) = (k < o.timers) × IsOperand at × IsNumber interval
KnowsObjects o (call.TimerGettime k) = k < o.timers
KnowsObjects o (call.TimerGetoverrun k) = k < o.timers
KnowsObjects o (call.Kill signal) = IsSignal signal
KnowsObjects o (call.Tkill u signal) = (u < o.threads) × IsSignal signal
KnowsObjects o (call.Sigqueue signal v) = IsSignal signal × IsOperand v
KnowsObjects o (call.SigmaskBlock set) = Unit {0}
KnowsObjects o (call.SigmaskUnblock set) = Unit {0}
KnowsObjects o (call.SigmaskSet set) = Unit {0}
KnowsObjects o (call.Sigwaitinfo set) = Unit {0}
KnowsObjects o (call.Sigtimedwait set n) = IsNumber n
KnowsObjects o (call.MqSend q len p v) = (q < o.queues) × (p < 32) × IsOperand v
KnowsObjects o (call.MqTimedsend q len p v at) = (q < o.queues) × (p < 32) × IsOperand v × IsMoment at
KnowsObjects o (call.MqReceive q) = q < o.queues
KnowsObjects o (call.MqTimedreceive q at) = (q < o.queues) × IsMoment at
KnowsObjects o (call.MqNotify q signal v) = (q < o.queues) × IsSignal signal × IsOperand v
