-- The numbers that a call answers with, waits for and keeps are small.
use Rattle.std.proofs.Common.{List, None, Option, Some, [], arith, false, suc, zero, ℕ, ◌+◌, ◌^◌, ◌-◌, ◌<◌, ◌≤◌, ◌∷◌, ◌≡◌}
use Rattle.std.specs.Prelude.{drop, min, option_map, pred, take, ◌==◌}
use Rattle.words_script.specs.declared.policy.Policy.{Policy}
use Rattle.words_script.specs.declared.policy.Policy.TheVariants as policy
use Rattle.rules_server.specs.Server.{ServerState, set_high}
use Rattle.rules_machine.specs.Lists.{without_at}
use Rattle.rules_machine.specs.State.{Wait, for_room}
use Rattle.rules_machine.specs.Semaphores.{semaphore_limit}
use Rattle.rules_machine.specs.Timers.{first_expiry, next_expiry, overrun_limit, ticks_to}
use Rattle.rules_machine.specs.Queues.{message_of}
use Rattle.rules_machine.specs.Scheduling.{at_priority}
use Rattle.laws_numbers.specs.Numbers.{DueSmall, Each, HasSmall, IsNumber, IsSmall, MessageSmall, PolicySmall, WaitSmall}
use Rattle.laws_numbers.proofs.Lists.{each_both}
use Rattle.laws_numbers.proofs.Servers.{priced_small}
use Rattle.laws_numbers.proofs.Turns.{sum_small}
use Rattle.laws_numbers.proofs.Waking.{zero_small}

pub signal_value : (n : ℕ) → n < 32 → IsSmall n
signal_value n h = omega arith

pub semaphore_value : (n : ℕ) → n ≤ semaphore_limit → IsSmall n
semaphore_value n h = omega arith

pub overrun_value : (n : ℕ) → n ≤ overrun_limit → IsSmall n
overrun_value n h = omega arith

pub once_more : (n : ℕ) → min (n + 1) overrun_limit ≤ overrun_limit
once_more n = omega arith

pub one_more : (n : ℕ) (e : (n == semaphore_limit) ≡ false) → n ≤ semaphore_limit → suc n ≤ semaphore_limit
one_more n e h = grind arith

pub one_less : (n : ℕ) → n ≤ semaphore_limit → pred n ≤ semaphore_limit
one_less n h = omega arith

no_more : (n now : ℕ) → IsSmall n → IsSmall (n - now)
no_more n now h = omega arith

pub ticks_to_small : (o : Option ℕ) (now : ℕ) → DueSmall o → IsSmall (ticks_to o now)
ticks_to_small None now h = zero_small
ticks_to_small (Some n) now h = no_more n now h

pub expiry_small : (n at : ℕ) → IsSmall at → DueSmall (first_expiry n at)
expiry_small zero at h = tt
expiry_small (suc n) at h = h

pub next_small : (now n : ℕ) → now ≤ 10 ^ 18 → IsNumber n → DueSmall (next_expiry now n)
next_small now zero low h = tt
next_small now (suc n) low h = sum_small now (suc n) low h

each_dropped_from : {X : Type 0} (Law : X → Type 0) (n : ℕ) (xs : List X) → Each Law xs → Each Law (drop n xs)
each_dropped_from Law zero xs h = h
each_dropped_from Law (suc n) [] h = tt
each_dropped_from Law (suc n) (x ∷ xs) h = each_dropped_from Law n xs h.1

each_first : {X : Type 0} (Law : X → Type 0) (n : ℕ) (xs : List X) → Each Law xs → Each Law (take n xs)
each_first Law zero xs h = tt
each_first Law (suc n) [] h = tt
each_first Law (suc n) (x ∷ xs) h = (h.0, each_first Law n xs h.1)

pub each_taken : {X : Type 0} (Law : X → Type 0) (n : ℕ) (xs : List X) → Each Law xs → Each Law (without_at n xs)
each_taken Law n xs h = each_both Law (take n xs) (drop (n + 1) xs) (each_first Law n xs h) (each_dropped_from Law (n + 1) xs h)

pub no_message : MessageSmall (record { priority = 0; value = 0 })
no_message = record { priority = omega arith; value = zero_small }

pub wait_message : (w : Wait) → WaitSmall w → MessageSmall (message_of w)
wait_message (for_room q x) h = h
wait_message _ h = no_message

pub priced_has : (p ticks : ℕ) (o : Option ServerState) → HasSmall ticks o → HasSmall ticks (option_map (set_high p) o)
priced_has p ticks None h = tt
priced_has p ticks (Some s) h = priced_small ticks p s h

pub priced_policy : (p : ℕ) (x : Policy) → PolicySmall x → PolicySmall (at_priority p x)
priced_policy p (policy.Fifo old) h = tt
priced_policy p (policy.Rr old) h = tt
priced_policy p (policy.Sporadic params) h = h
priced_policy p (policy.Strict params) h = h

pub each_dropped : {X : Type 0} (Law : X → Type 0) (xs : List X) → Each Law xs → Each Law (drop 1 xs)
each_dropped Law [] h = tt
each_dropped Law (x ∷ xs) h = h.1
