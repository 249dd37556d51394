use Rattle.tool_commands.proofs.carried.carry_out.Goals as goal

-- the steps for the text are those of its answer
pub returns-in-Ok-clause-busy : goal.returns-in-Ok-clause-busy
returns-in-Ok-clause-busy g c = rw c.in-Ok.is (λ n run. rw c.as_slice.ensures.value at (c.answer_text.ensures.busy n run))

pub returns-in-Ok-clause-shows : goal.returns-in-Ok-clause-shows
returns-in-Ok-clause-shows g c = rw c.in-Ok.is (λ n run. rw c.as_slice.ensures.value at (c.answer_text.ensures.shows n run))

pub returns-in-Ok-clause-details : goal.returns-in-Ok-clause-details
returns-in-Ok-clause-details g c = rw c.in-Ok.is (λ n run. rw c.as_slice.ensures.value at (c.answer_text.ensures.details n run))
