-- Yielding, and scheduling parameters that change: sched_yield, pthread_setschedprio, pthread_setschedparam. That each of them
-- answers ESRCH for a thread that does not live is this project's own.
use Rattle.std.specs.Prelude.{Bool, nat_lt, option_map, true, ℕ, if◌then◌else◌}
use Rattle.words_numbers.specs.declared.res.Res.TheVariants as res
use Rattle.words_script.specs.declared.policy.Policy.{Policy}
use Rattle.words_script.specs.declared.policy.Policy.TheVariants as policy
use Rattle.rules_server.specs.Server.{set_high}
use Rattle.rules_machine.specs.State.{Thread}
use Rattle.rules_machine.specs.Threads.{can_run, thread_at}
use Rattle.rules_machine.specs.Turns.{Caller, Turn, changes, moves, returns, ◌▷◌}
use Rattle.rules_machine.specs.Servers.{activates_if, server_of}
use Rattle.rules_machine.specs.Mutexes.{moves_unless_boosted}
use Rattle.rules_machine.specs.Cancellation.{on_live}

-- sched_yield: the caller becomes the tail of its list, and its round robin interval goes on (this project's own)
abbrev pub yields : {P : Type 0} → Caller → Turn P → Turn P
yields by s = s ▷ moves by.thread ▷ returns by res.Zero 0

-- whether the policy takes the priority: that of a server must be above its low one, else EINVAL
abbrev pub takes_priority : Policy → ℕ → Bool
takes_priority (policy.Fifo old) p = true
takes_priority (policy.Rr old) p = true
takes_priority (policy.Sporadic params) p = nat_lt params.low p
takes_priority (policy.Strict params) p = nat_lt params.low p

abbrev pub at_priority : ℕ → Policy → Policy
at_priority p (policy.Fifo old) = policy.Fifo p
at_priority p (policy.Rr old) = policy.Rr p
at_priority p (policy.Sporadic params) = policy.Sporadic (record params { high = p })
at_priority p (policy.Strict params) = policy.Strict (record params { high = p })

-- of a sporadic or strict thread the high priority alone changes, and its totals go on
abbrev pub with_priority : {P : Type 0} → ℕ → Thread P → Thread P
with_priority p th = record th { policy = at_priority p th.policy; server = option_map (set_high p) th.server }

-- pthread_setschedprio: a runnable thread moves as its priority rises or falls, and not where it stays
abbrev pub sets_priority : {P : Type 0} → Caller → ℕ → ℕ → Turn P → Turn P
sets_priority by u p s =
    on_live by u (λ s. if takes_priority (thread_at s.machine u).policy p then (s ▷ changes u (with_priority p) ▷ returns by res.Zero 0) else returns by res.Inval 0 s) s

abbrev pub with_policy : {P : Type 0} → Policy → ℕ → Thread P → Thread P
with_policy new now th = record th { policy = new; slice = 0; server = server_of new now }

-- pthread_setschedparam: a runnable thread becomes the tail of its list, with a new interval and a new server or none (this project's
-- own)
abbrev pub sets_policy : {P : Type 0} → Caller → ℕ → Policy → Turn P → Turn P
sets_policy by u new s =
    on_live by u (λ s. s ▷ returns by res.Zero 0 ▷ changes u (with_policy new s.machine.now) ▷ activates_if (can_run s.machine u) u ▷ moves_unless_boosted u) s
