-- What is seen of the status of a thread, and the texts that tell it. This project's own.
use Rattle.std.specs.Prelude.{Bool, None, Option, Some, false, true, ℕ}
use Rattle.words_script.specs.declared.name_kind.NameKind.TheVariants as kind
use Rattle.rules_facts.specs.Fact.{Awaited, Fact, blocked_thread, dormant_thread, ended_thread, nothing, one_signal_of, ready_thread, thing}
use Rattle.kernel_seen.specs.declared.seen.Seen.{Seen}
use Rattle.kernel_seen.specs.declared.seen.SeenStatus.{SeenStatus}
use Rattle.kernel_seen.specs.declared.seen.SeenStatus.TheVariants as status
use Rattle.kernel_seen.specs.declared.seen.SeenWait.{SeenWait}
use Rattle.kernel_seen.specs.declared.seen.SeenWait.TheVariants as seen_for

-- what is waited for, by its number
abbrev pub what_of : SeenWait → ℕ → Awaited
what_of seen_for.Nothing n = nothing
what_of seen_for.Mutex n = thing kind.Mutex n
what_of seen_for.Condition n = thing kind.Cond n
what_of seen_for.Semaphore n = thing kind.Sem n
what_of seen_for.Queue n = thing kind.Queue n
what_of seen_for.Thread n = thing kind.Thread n
what_of seen_for.Signal n = one_signal_of n

abbrev pub due_of : Bool → ℕ → Option ℕ
due_of true due = Some due
due_of false due = None

-- the fact of a thread with that status
abbrev pub fact_of : SeenStatus → ℕ → Seen → Fact
fact_of status.Dormant t s = dormant_thread t
fact_of status.Ready t s = ready_thread t (record { assigned = s.assigned; exec = s.exec })
fact_of status.Blocked t s = blocked_thread t (record { assigned = s.assigned; exec = s.exec }) (record { call = s.call; awaited = what_of s.wait s.which; due = due_of s.has_due s.due })
fact_of status.Ended t s = ended_thread t

abbrev pub seen_fact : ℕ → Seen → Fact
seen_fact t s = fact_of s.status t s
