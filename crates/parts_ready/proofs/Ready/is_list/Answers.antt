use Rattle.std.proofs.Common.{◌≡◌, ◌<◌, ◌-◌, ℕ, suc, List, Some, add-one, ap, arith, length, slice_get, subst, sym, take, ◌∙◌}
use Rattle.parts_links.specs.Links.{list_at}
use Rattle.parts_links.proofs.Nth.{follower_get, get_stands}
use Rattle.parts_links.proofs.Standing.{on_at}
use Rattle.parts_links.proofs.Walks.{follows_in}
use Rattle.rules_lists.specs.Lists.{ReadyLists, list_of}
use Rattle.parts_ready.proofs.Walks.{index_get, none_past, same_more, taken_all}
use Rattle.parts_ready.proofs.Ready.is_list.Goals as goal

pub next-node-requires : goal.next-node-requires
next-node-requires c =
    let ls = c.self.inside.links.lists in let n = c.in-Some.here in let k = c.args.p - 1 in
    let at = subst (λ (r : ReadyLists). c.loop-place.node ≡ slice_get (list_of c.args.p r.lists) c.loop-place.place) (sym c.self.view_is) c.loop-place.invariant.0 in
    let stands = get_stands n c.loop-place.place (list_at ls k) (sym c.in-Some.is ∙ at) in
    let within : k < length ls = omega (arith, c.get.ensures.value, c.get.ensures.above_zero, c.get.ensures.small, c.self.invariant.lists.each_priority) in
    (c.stand_once.ensures.small n k within stands, on_at n k ls stands)

pub loop-place-preserved : goal.loop-place-preserved
loop-place-preserved c =
    let ls = c.self.inside.links.lists in let n = c.in-Some.here in let k = c.args.p - 1 in let i = c.loop-place.place in let xs = list_at ls k in
    let at = subst (λ (r : ReadyLists). c.loop-place.node ≡ slice_get (list_of c.args.p r.lists) i) (sym c.self.view_is) c.loop-place.invariant.0 in
    let taken = subst (λ (r : ReadyLists). take i (list_of c.args.p r.lists) ≡ take i c.args.threads.now) (sym c.self.view_is) c.loop-place.invariant.1 in
    let here = sym c.in-Some.is ∙ at in
    let stands = get_stands n i xs here in
    let within : k < length ls = omega (arith, c.get.ensures.value, c.get.ensures.above_zero, c.get.ensures.small, c.self.invariant.lists.each_priority) in
    let next = follows_in c.self.inside.links c.stand_once.ensures n k within stands in
    let follows = follower_get n i xs (c.stand_once.ensures.distinct k within) here in
    let other = ap (λ (x : ℕ). Some x) (c.if-here-from.false ∙ c.from.ensures) ∙ index_get c.args.threads.now i 0 c.loop-place-test.true in
    let more = same_more xs c.args.threads.now i (sym here ∙ other) taken in
    rw add-one (subst
    (λ (r : ReadyLists). (c.next-node.result ≡ slice_get (list_of c.args.p r.lists) (suc i)) × (take (suc i) (list_of c.args.p r.lists) ≡ take (suc i) c.args.threads.now))
    c.self.view_is (c.next-node.ensures.follower ∙ next ∙ follows, more))

pub returns-in-None-node-clause-same : goal.returns-in-None-node-clause-same
returns-in-None-node-clause-same c e =
    let i = c.loop-place.place in let xs = list_of c.args.p c.args.self.now.lists in
    sym (taken_all xs i (sym c.loop-place.invariant.0 ∙ c.in-None-node.is)) ∙ c.loop-place.invariant.1 ∙ taken_all c.args.threads.now i (none_past c.args.threads.now i c.loop-place-test.false)

pub returns-in-Some-node-clause-only : goal.returns-in-Some-node-clause-only
returns-in-Some-node-clause-only c e =
    let i = c.loop-place.place in
    let none = sym c.in-Some-node.is ∙ c.loop-place.invariant.0 ∙ ap (λ (xs : List ℕ). slice_get xs i) e ∙ none_past c.args.threads.now i c.loop-place-test.false in
    absurd (cc)
