-- What the events of a run say of one thread, by its number. This project's own.
use Rattle.std.specs.Prelude.{ℕ, ◌==◌, Bool, true, false, if◌then◌else◌, List, map}
use Rattle.words_trace.specs.declared.event.Event.{Event}
use Rattle.words_trace.specs.declared.event.Event.TheVariants as event
use Rattle.words_trace.specs.Text.{Entry}
use Rattle.rules_machine.specs.declared.dispatch.LastDispatch.{LastDispatch}
use Rattle.rules_machine.specs.declared.dispatch.LastDispatch.TheVariants as last
use Rattle.tool_audit.specs.Marks.{Mark, Saying, begins, is_given, is_taken, is_activated, exhausts, is_planned, is_refilled, exits, nothing, if_mine}

abbrev pub said_by : ℕ → Event → Saying
said_by t (event.Dispatch u prio) = if u == t then is_given else is_taken
said_by t event.Idle = is_taken
said_by t (event.Start u) = if_mine (u == t) begins
said_by t (event.Return u call res value) = nothing
said_by t (event.Deliver u sig code value) = nothing
said_by t (event.Activate u capacity) = if_mine (u == t) (is_activated capacity)
said_by t (event.Exhaust u) = if_mine (u == t) exhausts
said_by t (event.Plan u amount due) = if_mine (u == t) (is_planned amount due)
said_by t (event.Refill u amount capacity) = if_mine (u == t) (is_refilled amount capacity)
said_by t (event.Cancel u) = nothing
said_by t (event.Exit u) = if_mine (u == t) exits
said_by t (event.Killed sig) = nothing
said_by t event.End = nothing

abbrev pub mark_by : ℕ → Entry → Mark
mark_by t e = record { time = e.time; saying = said_by t e.event }

abbrev pub marks_by : ℕ → List Entry → List Mark
marks_by t es = map (mark_by t) es

-- whether the last dispatch is that of the thread
abbrev pub is_ran : LastDispatch → ℕ → Bool
is_ran last.NoTick t = false
is_ran last.Idle t = false
is_ran (last.Ran u) t = u == t

abbrev pub is_end_event : Event → Bool
is_end_event event.End = true
is_end_event e = false
