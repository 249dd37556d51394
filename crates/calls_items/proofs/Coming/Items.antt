-- A thread that a due item brought to run has a direct move.
use Rattle.std.proofs.Common.{ℕ}
use Rattle.std.specs.Prelude.{None, Option, Some}
use Rattle.words_numbers.specs.declared.item.Item.{Item}
use Rattle.words_numbers.specs.declared.item.Item.TheVariants as item
use Rattle.words_numbers.specs.declared.res.Res.TheVariants as res
use Rattle.rules_machine.specs.Bodies.{Bodies}
use Rattle.rules_machine.specs.State.{Wait, Waiting, for_condition, for_end, for_message, for_mutex, for_mutex_again, for_room, for_semaphore, for_signal, for_time}
use Rattle.rules_machine.specs.declared.thread.CondEnd.TheVariants as cond_end
use Rattle.rules_machine.specs.Threads.{thread_at, waiting_of}
use Rattle.rules_machine.specs.Turns.{Turn}
use Rattle.rules_machine.specs.Servers.{refills_server}
use Rattle.rules_machine.specs.DueItems.{handles, times_out, wait_times_out}
use Rattle.calls_items.proofs.Coming.Steps.{Comes, fewer_come, nobody_comes, refills_fewer, starts_come, wakes_come}
use Rattle.calls_items.proofs.Coming.Waits.{contends_come}
use Rattle.calls_items.proofs.Coming.Signals.{expires_come}

times_out_of_come : {P : Type 0} (x : Wait) (t : ℕ) (s : Turn P) → Comes s (wait_times_out x t s)
times_out_of_come (for_mutex k) t s = wakes_come t res.Timedout 0 s
times_out_of_come (for_mutex_again k how) t s = wakes_come t res.Timedout 0 s
times_out_of_come (for_condition c k) t s = contends_come t cond_end.Timedout s
times_out_of_come (for_end u) t s = wakes_come t res.Timedout 0 s
times_out_of_come (for_semaphore k) t s = wakes_come t res.Timedout 0 s
times_out_of_come for_time t s = wakes_come t res.Zero 0 s
times_out_of_come (for_room q message) t s = wakes_come t res.Timedout 0 s
times_out_of_come (for_message q) t s = wakes_come t res.Timedout 0 s
times_out_of_come (for_signal set) t s = wakes_come t res.Again 0 s

times_out_come : {P : Type 0} (w : Option Waiting) (t : ℕ) (s : Turn P) → Comes s (times_out w t s)
times_out_come None t s = nobody_comes s
times_out_come (Some w) t s = times_out_of_come w.wait t s

pub handles_come : {P : Type 0} (bodies : Bodies P) (i : Item) (s : Turn P) → Comes s (handles bodies i s)
handles_come bodies (item.Refill t) s =
    let o = (thread_at s.machine t).server in
    fewer_come s.machine (refills_server t o s).machine (refills_server t o s).direct (refills_fewer t o s)
handles_come bodies (item.Start t) s = starts_come bodies t 0 s
handles_come bodies (item.Timeout t) s = times_out_come (waiting_of s.machine t) t s
handles_come bodies (item.Timer k) s = expires_come k s
