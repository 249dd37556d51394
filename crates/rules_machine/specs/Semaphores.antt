-- Semaphores: sem_wait, sem_timedwait, sem_trywait, sem_post, sem_getvalue.
use Rattle.std.specs.Prelude.{Bool, None, Option, Some, false, nat_lt, pred, suc, ℕ, ◌==◌, if◌then◌else◌}
use Rattle.words_numbers.specs.declared.res.Res.TheVariants as res
use Rattle.rules_machine.specs.State.{Wait, for_semaphore}
use Rattle.rules_machine.specs.Threads.{semaphore_at}
use Rattle.rules_machine.specs.Waiters.{Waiter, best_waiter}
use Rattle.rules_machine.specs.Turns.{Caller, Turn, changes_semaphore, is_late, returns, ◌▷◌}
use Rattle.rules_machine.specs.Waking.{blocks, wakes}

-- SEM_VALUE_MAX
abbrev pub semaphore_limit : ℕ
semaphore_limit = 32_767

abbrev pub waits_on_semaphore : ℕ → Wait → Bool
waits_on_semaphore k (for_semaphore j) = j == k
waits_on_semaphore k wait = false

-- a call that must wait: ETIMEDOUT where its time is not in the future, or it blocks
abbrev pub blocks_unless_late : {P : Type 0} → Caller → Wait → Option ℕ → Turn P → Turn P
blocks_unless_late by wait due s = if is_late due s.machine then returns by res.Timedout 0 s else blocks by wait due s

-- sem_wait, and with a time sem_timedwait
abbrev pub waits_semaphore : {P : Type 0} → Caller → ℕ → Option ℕ → Turn P → Turn P
waits_semaphore by k due s =
    if nat_lt 0 (semaphore_at s.machine k) then (s ▷ changes_semaphore k pred ▷ returns by res.Zero 0) else blocks_unless_late by (for_semaphore k) due s

-- sem_trywait
abbrev pub tries_semaphore : {P : Type 0} → Caller → ℕ → Turn P → Turn P
tries_semaphore by k s =
    if semaphore_at s.machine k == 0 then returns by res.Again 0 s else (s ▷ changes_semaphore k pred ▷ returns by res.Zero 0)

abbrev pub wakes_waiter_or_raises_value : {P : Type 0} → Option Waiter → Caller → ℕ → Turn P → Turn P
wakes_waiter_or_raises_value (Some w) by k s = s ▷ returns by res.Zero 0 ▷ wakes w.thread res.Zero 0
wakes_waiter_or_raises_value None by k s =
    if semaphore_at s.machine k == semaphore_limit then returns by res.Overflow 0 s else (s ▷ changes_semaphore k suc ▷ returns by res.Zero 0)

-- sem_post: the best waiter wakes, or the value grows. EOVERFLOW at the greatest value is this project's own.
abbrev pub posts : {P : Type 0} → Caller → ℕ → Turn P → Turn P
posts by k s = wakes_waiter_or_raises_value (best_waiter s.machine (waits_on_semaphore k)) by k s

-- sem_getvalue
abbrev pub reads_semaphore : {P : Type 0} → Caller → ℕ → Turn P → Turn P
reads_semaphore by k s = returns by res.Zero (semaphore_at s.machine k) s
