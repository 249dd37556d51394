use Rattle.std.proofs.Common.{◌≡◌, ◌∷◌, ◌++◌, [], Some, refl, set, slice_get, sym, ap, ap₂, ◌∙◌, arith}
use Rattle.parts_links.specs.Links.{Lists, list_at}
use Rattle.parts_arrivals.proofs.Orders.{come_is}
use Rattle.parts_arrivals.proofs.Holding.{entered, free, free_below, off_ranks, order_more, seen}
use Rattle.parts_arrivals.proofs.arrivals.Arrivals.enter.Goals as goal

pub push_back-requires-2 : goal.push_back-requires-2
push_back-requires-2 c =
    let a = c.self.inside in let h = c.self.invariant in let n = c.unwrap-node.result in
    let head : Some n ≡ slice_get (list_at a.arrived.lists 1) 0 = sym c.unwrap-node.ensures ∙ c.front.ensures.head in (
      omega (arith, c.requires.rank, h.each_rank),
      omega (arith, free_below a.arrived a.ranked a.ranks.items a.marks a.count h n head, h.same_nodes),
      off_ranks a.arrived a.ranked a.ranks.items a.marks a.count h n (free a.arrived a.ranked a.ranks.items a.marks a.count h n head),
    )

pub overflow_add-self : goal.overflow_add-self
overflow_add-self c = omega (arith, c.self.invariant.tallied, c.self.invariant.counted, c.self.invariant.few)

pub invariant_of-self : goal.invariant_of-self
invariant_of-self c =
    let a = c.self.inside in let n = c.unwrap-node.result in let r = c.args.rank in
    let head : Some n ≡ slice_get (list_at a.arrived.lists 1) 0 = sym c.unwrap-node.ensures ∙ c.front.ensures.head in
    let ages = c.push_back.ensures ∙ ap (λ (l : Lists). record l { lists = set l.lists 0 (list_at l.lists 0 ++ n ∷ []) }) c.unlink.ensures.lists in
    entered a.arrived a.ranked a.ranks.items a.marks a.count c.self.invariant n r head c.requires.rank c.push_back.new.self c.push_back-2.new.self (set a.ranks.items n r)
    c.with_mark-self-inside.result ages c.push_back-2.ensures refl c.with_mark-self-inside.ensures c.stand_once.ensures c.stand_once-2.ensures

pub returns-clause-last : goal.returns-clause-last
returns-clause-last c =
    let a = c.self.inside in let n = c.unwrap-node.result in let r = c.args.rank in
    let head : Some n ≡ slice_get (list_at a.arrived.lists 1) 0 = sym c.unwrap-node.ensures ∙ c.front.ensures.head in
    let ages = c.push_back.ensures ∙ ap (λ (l : Lists). record l { lists = set l.lists 0 (list_at l.lists 0 ++ n ∷ []) }) c.unlink.ensures.lists in
    let order = order_more a.arrived a.ranked a.ranks.items a.marks a.count c.self.invariant n r head c.requires.rank c.push_back.new.self c.push_back-2.new.self (set a.ranks.items n r)
    c.with_mark-self-inside.result ages c.push_back-2.ensures refl in
    rw (← c.self.view_is) (ap₂ seen (ap (λ (l : Lists). l.nodes) ages) order)

pub returns-clause-fresh : goal.returns-clause-fresh
returns-clause-fresh c =
    let a = c.self.inside in let h = c.self.invariant in let n = c.unwrap-node.result in
    let head : Some n ≡ slice_get (list_at a.arrived.lists 1) 0 = sym c.unwrap-node.ensures ∙ c.front.ensures.head in
    rw (← c.self.view_is) (come_is a.ranks.items n (list_at a.arrived.lists 0) ∙ free a.arrived a.ranked a.ranks.items a.marks a.count h n head)
