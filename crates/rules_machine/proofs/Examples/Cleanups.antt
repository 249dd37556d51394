-- Worked examples. The cleanup handlers of a thread are those of the blocks round its place.
use Rattle.std.specs.Prelude.{[], refl, ◌∷◌, ◌≡◌}
use Rattle.rules_machine.specs.Priorities.{exec_in}
use Rattle.rules_machine.specs.Threads.{thread_at}
use Rattle.rules_machine.specs.GoodState.{main_guards}
use Rattle.rules_machine.specs.Machine.{machine}
use Rattle.rules_machine.specs.Promises.{guards_in}
use Rattle.rules_machine.proofs.Examples.Mutexes.{cancelled_condition_wait_owns_the_mutex_first_script}

-- after two ticks the first thread has pushed handler 0, inside whose block it is
pub one_handler_is_pushed : (thread_at (machine cancelled_condition_wait_owns_the_mutex_first_script 2) 0).cleanups ≡ 0 ∷ []
unfolding exec_in
one_handler_is_pushed = refl

pub it_is_that_of_the_block_round_the_place : main_guards (guards_in cancelled_condition_wait_owns_the_mutex_first_script) (thread_at (machine cancelled_condition_wait_owns_the_mutex_first_script 2) 0).frames ≡ 0 ∷ []
unfolding exec_in
it_is_that_of_the_block_round_the_place = refl
