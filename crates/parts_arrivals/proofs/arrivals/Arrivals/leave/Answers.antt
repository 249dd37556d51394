use Rattle.std.proofs.Common.{◌≡◌, ◌∷◌, true, length, set, subst, sym, ap, ap₂, ◌∙◌, arith}
use Rattle.std.specs.Prelude.{is_some, slice_get}
use Rattle.parts_links.specs.Links.{Lists, list_at}
use Rattle.parts_links.proofs.Standing.{length_without}
use Rattle.parts_arrivals.specs.Arrivals.{Arrivals, has_come}
use Rattle.parts_arrivals.specs.Marks.{ChangesMark}
use Rattle.parts_arrivals.proofs.Holding.{come_below, left, on_ages, on_ranks, order_less, rank_read, seen, stands}
use Rattle.parts_arrivals.proofs.arrivals.Arrivals.leave.Goals as goal

pub unlink-requires : goal.unlink-requires
unlink-requires c =
    let a = c.self.inside in let h = c.self.invariant in let n = c.args.node in
    let came = stands a.arrived a.ranked a.ranks.items a.marks a.count h n (subst (λ (o : Arrivals). has_come n o.order ≡ true) (sym c.self.view_is) c.requires) in
    (come_below a.arrived a.ranked a.ranks.items a.marks a.count h n came, on_ages a.arrived a.ranked a.ranks.items a.marks a.count h n came)

pub push_front-requires : goal.push_front-requires
push_front-requires c =
    let a = c.self.inside in let h = c.self.invariant in let n = c.args.node in
    let came = stands a.arrived a.ranked a.ranks.items a.marks a.count h n (subst (λ (o : Arrivals). has_come n o.order ≡ true) (sym c.self.view_is) c.requires) in
    let came = stands a.arrived a.ranked a.ranks.items a.marks a.count h n (subst (λ (o : Arrivals). has_come n o.order ≡ true) (sym c.self.view_is) c.requires) in
    let is = c.unlink.ensures.lists in (
      omega (arith, h.two, ap (λ (l : Lists). length l.lists) is, length_without n a.arrived.lists),
      omega (arith, come_below a.arrived a.ranked a.ranks.items a.marks a.count h n came, ap (λ (l : Lists). l.nodes) is),
      c.unlink.ensures.gone,
    )

pub unlink-requires-2 : goal.unlink-requires-2
unlink-requires-2 c =
    let a = c.self.inside in let h = c.self.invariant in let n = c.args.node in
    let came = stands a.arrived a.ranked a.ranks.items a.marks a.count h n (subst (λ (o : Arrivals). has_come n o.order ≡ true) (sym c.self.view_is) c.requires) in
    (omega (arith, come_below a.arrived a.ranked a.ranks.items a.marks a.count h n came, h.same_nodes), on_ranks a.arrived a.ranked a.ranks.items a.marks a.count h n came)

pub index-rank-requires : goal.index-rank-requires
index-rank-requires c =
    let a = c.self.inside in let h = c.self.invariant in let n = c.args.node in
    let came = stands a.arrived a.ranked a.ranks.items a.marks a.count h n (subst (λ (o : Arrivals). has_come n o.order ≡ true) (sym c.self.view_is) c.requires) in
    omega (arith, come_below a.arrived a.ranked a.ranks.items a.marks a.count h n came, h.known)

pub front-requires : goal.front-requires
front-requires c =
    let a = c.self.inside in let h = c.self.invariant in let n = c.args.node in
    let came = stands a.arrived a.ranked a.ranks.items a.marks a.count h n (subst (λ (o : Arrivals). has_come n o.order ≡ true) (sym c.self.view_is) c.requires) in
    let read = rank_read a.arrived a.ranked a.ranks.items a.marks a.count h n c.index-rank.result.now came c.index-rank.ensures in
    omega (arith, read, h.small n, h.each_rank, ap (λ (l : Lists). length l.lists) c.unlink-2.ensures.lists, length_without n a.ranked.lists)

pub with_mark-self-inside-requires : goal.with_mark-self-inside-requires
with_mark-self-inside-requires c =
    let a = c.self.inside in let h = c.self.invariant in let n = c.args.node in
    let came = stands a.arrived a.ranked a.ranks.items a.marks a.count h n (subst (λ (o : Arrivals). has_come n o.order ≡ true) (sym c.self.view_is) c.requires) in
    let read = rank_read a.arrived a.ranked a.ranks.items a.marks a.count h n c.index-rank.result.now came c.index-rank.ensures in
    omega (arith, read, h.small n)

pub invariant_of-self : goal.invariant_of-self
invariant_of-self c =
    let a = c.self.inside in let h = c.self.invariant in let n = c.args.node in
    let came = stands a.arrived a.ranked a.ranks.items a.marks a.count h n (subst (λ (o : Arrivals). has_come n o.order ≡ true) (sym c.self.view_is) c.requires) in
    let read = rank_read a.arrived a.ranked a.ranks.items a.marks a.count h n c.index-rank.result.now came c.index-rank.ensures in
    let ages = c.push_front.ensures ∙ ap (λ (l : Lists). record l { lists = set l.lists 1 (n ∷ list_at l.lists 1) }) c.unlink.ensures.lists in
    let is_left = c.is_some-remains.ensures ∙ ap is_some c.front.ensures.head ∙ ap (λ k. is_some (slice_get (list_at c.unlink-2.new.self.lists k) 0)) read in
    let marked = subst (λ k. ChangesMark k c.is_some-remains.result a.marks c.with_mark-self-inside.result) read c.with_mark-self-inside.ensures in
    left a.arrived a.ranked a.ranks.items a.marks a.count h n came c.push_front.new.self c.unlink-2.new.self c.with_mark-self-inside.result c.is_some-remains.result
    ages c.unlink-2.ensures.lists is_left marked c.stand_once.ensures c.stand_once-2.ensures

pub returns : goal.returns
returns c =
    let a = c.self.inside in let h = c.self.invariant in let n = c.args.node in
    let came = stands a.arrived a.ranked a.ranks.items a.marks a.count h n (subst (λ (o : Arrivals). has_come n o.order ≡ true) (sym c.self.view_is) c.requires) in
    let read = rank_read a.arrived a.ranked a.ranks.items a.marks a.count h n c.index-rank.result.now came c.index-rank.ensures in
    let ages = c.push_front.ensures ∙ ap (λ (l : Lists). record l { lists = set l.lists 1 (n ∷ list_at l.lists 1) }) c.unlink.ensures.lists in
    let is_left = c.is_some-remains.ensures ∙ ap is_some c.front.ensures.head ∙ ap (λ k. is_some (slice_get (list_at c.unlink-2.new.self.lists k) 0)) read in
    let order = order_less a.arrived a.ranked a.ranks.items a.marks a.count h n came c.push_front.new.self c.unlink-2.new.self c.with_mark-self-inside.result c.is_some-remains.result
    ages c.unlink-2.ensures.lists is_left in
    rw (← c.self.view_is) (ap₂ seen (ap (λ (l : Lists). l.nodes) ages) order)
