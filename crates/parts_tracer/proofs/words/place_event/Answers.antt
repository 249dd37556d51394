use Rattle.std.proofs.Common.{append_assoc, arith}
use Rattle.parts_tracer.proofs.words.place_event.Goals as goal

pub returns-in-Idle : goal.returns-in-Idle
returns-in-Idle g c = record { placed = rw c.in-Idle.is c.place_word.ensures; within = omega arith }

pub returns-in-Dispatch : goal.returns-in-Dispatch
returns-in-Dispatch g c = record { placed = rw (c.in-Dispatch.is, ← c.get.ensures.value) (simp append_assoc at c.place_with_number.ensures.placed); within = omega arith }

pub returns-in-Start : goal.returns-in-Start
returns-in-Start g c = record { placed = rw c.in-Start.is c.place_alone.ensures.placed; within = omega arith }

pub returns-in-Return : goal.returns-in-Return
returns-in-Return g c = record { placed = rw c.in-Return.is c.place_return.ensures.placed; within = omega arith }

pub returns-in-Deliver : goal.returns-in-Deliver
returns-in-Deliver g c = record { placed = rw c.in-Deliver.is c.place_delivery.ensures.placed; within = omega arith }

pub returns-in-Activate : goal.returns-in-Activate
returns-in-Activate g c = record { placed = rw c.in-Activate.is (simp append_assoc at c.place_with_number-in-Activate.ensures.placed); within = omega arith }

pub returns-in-Exhaust : goal.returns-in-Exhaust
returns-in-Exhaust g c = record { placed = rw c.in-Exhaust.is c.place_alone-in-Exhaust.ensures.placed; within = omega arith }

pub returns-in-Plan : goal.returns-in-Plan
returns-in-Plan g c = record { placed = rw (c.in-Plan.is, ← c.get-in-Plan.ensures.value) (simp append_assoc at c.place_with_numbers.ensures.placed); within = omega arith }

pub returns-in-Refill : goal.returns-in-Refill
returns-in-Refill g c = record { placed = rw c.in-Refill.is (simp append_assoc at c.place_with_numbers-in-Refill.ensures.placed); within = omega arith }

pub returns-in-Cancel : goal.returns-in-Cancel
returns-in-Cancel g c = record { placed = rw c.in-Cancel.is c.place_alone-in-Cancel.ensures.placed; within = omega arith }

pub returns-in-Exit : goal.returns-in-Exit
returns-in-Exit g c = record { placed = rw c.in-Exit.is c.place_alone-in-Exit.ensures.placed; within = omega arith }

pub returns-in-Killed : goal.returns-in-Killed
returns-in-Killed g c = record { placed = rw c.in-Killed.is c.place_killed.ensures.placed; within = omega arith }

pub returns-in-End : goal.returns-in-End
returns-in-End g c = record { placed = rw c.in-End.is c.place_word-in-End.ensures; within = omega arith }
