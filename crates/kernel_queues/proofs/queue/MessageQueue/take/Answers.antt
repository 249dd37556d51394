use Rattle.std.specs.Option.{is_some}
use Rattle.std.proofs.Common.{◌≡◌, ℕ, Bool, Option, Some, None, true, false, not, refl, sym, subst, ◌∙◌}
use Rattle.parts_arrivals.specs.Arrivals.{highest_rank}
use Rattle.kernel_queues.proofs.Choice.{no_rest, no_value}
use Rattle.kernel_queues.proofs.queue.MessageQueue.take.Goals as goal

is_no_rank : (o : Option ℕ) (b : Bool) → is_some o ≡ not b → b ≡ true → o ≡ None
is_no_rank None b e is = refl
is_no_rank (Some rank) b e is = let clash : true ≡ false = subst (λ x. true ≡ not x) is e in cc

pub returns-then-is_none-clause-value : goal.returns-then-is_none-clause-value
returns-then-is_none-clause-value c =
    let q = c.self.inside in
    let none : highest_rank q.arrivals.order ≡ None = sym c.highest.ensures.value ∙ is_no_rank c.highest.result c.is_none.result c.is_none.ensures c.if-is_none.true in
    rw (← c.self.view_is) (no_value q.values.items q.arrivals.order q.depth q.longest q.is_nonblock q.registration none)

pub returns-then-is_none-clause-rest : goal.returns-then-is_none-clause-rest
returns-then-is_none-clause-rest c =
    let q = c.self.inside in
    let none : highest_rank q.arrivals.order ≡ None = sym c.highest.ensures.value ∙ is_no_rank c.highest.result c.is_none.result c.is_none.ensures c.if-is_none.true in
    rw (← c.self.view_is) (no_rest q.values.items q.arrivals.order q.depth q.longest q.is_nonblock q.registration none)
