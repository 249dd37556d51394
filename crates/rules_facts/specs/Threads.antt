-- What is told of a thread: whether it runs or waits, at which priorities and for what, and what it has about it while it lives.
-- That it is told so is this project's own.
use Rattle.std.specs.Prelude.{List, None, Option, Some, [], filter, map, not, ℕ, if◌then◌else◌}
use Rattle.words_script.specs.declared.name_kind.NameKind.TheVariants as kind
use Rattle.rules_server.specs.Server.{ServerState}
use Rattle.rules_server.specs.declared.Replenish.{Replenish}
use Rattle.rules_machine.specs.declared.frame.BodyOf.{BodyOf}
use Rattle.rules_machine.specs.CallNames.{name_of}
use Rattle.rules_machine.specs.Priorities.{assigned_of, exec}
use Rattle.rules_machine.specs.State.{Frame, Machine, Status, Thread, Wait, Waiting, blocked, dormant, ended, for_condition, for_end, for_message, for_mutex, for_mutex_again, for_room, for_semaphore, for_signal, for_time, runnable}
use Rattle.rules_machine.specs.Threads.{is_live, is_main, no_thread, thread_at}
use Rattle.rules_facts.specs.Fact.{Awaited, Blocking, Cancelability, Fact, Priorities, blocked_thread, cancelability, dormant_thread, ended_thread, inner_frames, masked, nothing, one_signal_of, pushed_cleanups, ready_thread, replenishments, thing}

-- ---- its status

-- Once its condition wait has ended a thread waits for the mutex.
abbrev pub awaited : Wait → Awaited
awaited (for_mutex k) = thing kind.Mutex k
awaited (for_mutex_again k how) = thing kind.Mutex k
awaited (for_condition c k) = thing kind.Cond c
awaited (for_end t) = thing kind.Thread t
awaited (for_semaphore k) = thing kind.Sem k
awaited for_time = nothing
awaited (for_room q message) = thing kind.Queue q
awaited (for_message q) = thing kind.Queue q
awaited (for_signal set) = one_signal_of set

abbrev pub blocking_of : Waiting → Blocking
blocking_of w = record { call = name_of w.call; awaited = awaited w.wait; due = w.due }

abbrev pub priorities_of : {P : Type 0} → Machine P → ℕ → Priorities
priorities_of m t = record { assigned = assigned_of (thread_at m t); exec = exec m t }

abbrev pub status_fact : {P : Type 0} → Machine P → ℕ → Status → Fact
status_fact m t (dormant at) = dormant_thread t
status_fact m t runnable = ready_thread t (priorities_of m t)
status_fact m t (blocked w) = blocked_thread t (priorities_of m t) (blocking_of w)
status_fact m t ended = ended_thread t

abbrev pub thread_fact : {P : Type 0} → Machine P → ℕ → Fact
thread_fact m t = status_fact m t (thread_at m t).status

-- ---- what it has about it

-- a thread that is not live has nothing about it that is told
abbrev pub living : {P : Type 0} → Thread P → Thread P
living th = if is_live th.status then th else no_thread

-- the bodies of the frames above the main one
abbrev pub inner_bodies : {P : Type 0} → List (Frame P) → List BodyOf
inner_bodies {P} frames = map (λ (f : Frame P). f.body) (filter (λ (f : Frame P). not (is_main f.kind)) frames)

abbrev pub frames_fact : {P : Type 0} → Machine P → ℕ → Fact
frames_fact m t = inner_frames t (inner_bodies (living (thread_at m t)).frames)

-- its own mask, to which a signal-catching function adds all signals for its time
abbrev pub mask_fact : {P : Type 0} → Machine P → ℕ → Fact
mask_fact m t = masked t (living (thread_at m t)).mask

abbrev pub cancelability_of : {P : Type 0} → Thread P → Cancelability
cancelability_of th = record { is_requested = th.is_requested; is_disabled = not th.is_enabled; is_ending = th.is_ending }

abbrev pub cancelability_fact : {P : Type 0} → Machine P → ℕ → Fact
cancelability_fact m t = cancelability t (cancelability_of (living (thread_at m t)))

abbrev pub cleanups_fact : {P : Type 0} → Machine P → ℕ → Fact
cleanups_fact m t = pushed_cleanups t (living (thread_at m t)).cleanups

abbrev pub planned : Option ServerState → List Replenish
planned None = []
planned (Some server) = server.pending

abbrev pub pending_fact : {P : Type 0} → Machine P → ℕ → Fact
pending_fact m t = replenishments t (planned (living (thread_at m t)).server)
