use Rattle.std.proofs.Common.{◌≡◌, ◌<◌, ℕ, Option, true, length, IfSome, subst, sym, ◌∙◌, arith}
use Rattle.parts_links.specs.Links.{list_at, on_a_list}
use Rattle.parts_links.proofs.Standing.{head_in, no_head, on_at}
use Rattle.parts_links.proofs.Walks.{follows_in}
use Rattle.parts_wheel.proofs.Moving.{refiling_start, refiling_step, refiling_less, moved_mark, moved_head}
use Rattle.parts_wheel.specs.Slots.{list_for}
use Rattle.parts_wheel.proofs.Filing.{armed_inside, list_small}
use Rattle.parts_wheel.proofs.Stands.{all_marked, filed_unmarked}
use Rattle.parts_wheel.proofs.moves.refile.Goals as goal

pub loop-first-init : goal.loop-first-init
loop-first-init c =
    let s = c.requires.sized in (
      record { nodes = s.0.nodes; lists = s.0.lists; words = c.set.ensures.len ∙ s.0.words },
      s.1,
      c.set.ensures.bit.changed,
      λ k other. c.set.ensures.bit.others k other ∙ c.requires.marked k,
      refiling_start c.args.target c.args.to c.args.dues.now c.args.links.now.lists c.args.passed.now,
      c.front-first.ensures.head,
      λ n e. let l = subst (λ (o : Option ℕ). IfSome o (λ node. (node < c.args.links.now.nodes) × (on_a_list node c.args.links.now.lists ≡ true))) e c.front-first.ensures.stands in
          omega (arith, l.0, s.0.nodes),
    )

pub next-first-requires : goal.next-first-requires
next-first-requires c =
    let i = c.loop-first.invariant in let n = c.in-Some.node in let lists = c.loop-first.links.lists in
    let h = head_in n (list_at lists c.args.target) (sym c.in-Some.is ∙ i.5) in let l = i.6 n c.in-Some.is in (omega (arith, l, i.0.nodes), on_at n c.args.target lists h)

pub refile_one-requires-clause-node : goal.refile_one-requires-clause-node
refile_one-requires-clause-node c =
    let i = c.loop-first.invariant in let n = c.in-Some.node in let lists = c.loop-first.links.lists in
    let h = head_in n (list_at lists c.args.target) (sym c.in-Some.is ∙ i.5) in
    let due = c.requires.nodes.0 n (i.4.within n h) in
    (i.6 n c.in-Some.is, on_at n c.args.target lists h, armed_inside c.args.dues.now n due.0 due.1, c.requires.nodes.1)

pub loop-first-smaller : goal.loop-first-smaller
loop-first-smaller c =
    let i = c.loop-first.invariant in let n = c.in-Some.node in let lists = c.loop-first.links.lists in
    let h = head_in n (list_at lists c.args.target) (sym c.in-Some.is ∙ i.5) in
    let due = c.requires.nodes.0 n (i.4.within n h) in
    refiling_less c.args.target c.args.to n due.0 lists c.refile_one.new.links.lists c.loop-first.passed c.refile_one.new.passed h due.2
    (c.refile_one.ensures.moved due.0 due.1)

pub loop-first-preserved : goal.loop-first-preserved
loop-first-preserved c =
    let i = c.loop-first.invariant in let n = c.in-Some.node in let lists = c.loop-first.links.lists in
    let h = head_in n (list_at lists c.args.target) (sym c.in-Some.is ∙ i.5) in
    let due = c.requires.nodes.0 n (i.4.within n h) in let new = c.refile_one.new.links in
    let moved = c.refile_one.ensures.moved due.0 due.1 in let noted = c.refile_one.ensures.noted due.0 due.1 in
    let inside : c.args.to < due.0 → list_for c.args.to due.0 < length lists = λ lt. let s = list_small c.args.to due.0 lt (c.requires.nodes.1 n due.0 due.1) in omega (arith, s, i.0.lists) in
    let step = refiling_step c.args.target c.args.to n due.0 c.args.dues.now c.args.links.now.lists lists new.lists c.args.passed.now c.loop-first.passed
    c.refile_one.new.passed i.4 h due.1 due.2 inside moved in (
      c.refile_one.ensures.sized.0,
      c.refile_one.ensures.sized.1,
      filed_unmarked c.args.to due.0 c.args.target c.loop-first.occupied c.refile_one.new.occupied due.2 noted i.2,
      λ k other. moved_mark c.args.target c.args.to n due.0 k lists new.lists c.loop-first.passed c.refile_one.new.passed c.loop-first.occupied c.refile_one.new.occupied h inside other moved noted (i.3 k other),
      step,
      c.next-first.ensures.follower ∙ follows_in c.loop-first.links c.stand_once.ensures n c.args.target (omega (arith, c.requires.sized.2, i.0.lists)) h
          ∙ moved_head c.args.target c.args.to n due.0 lists new.lists c.loop-first.passed c.refile_one.new.passed (sym c.in-Some.is ∙ i.5) due.2 moved,
      λ m e. let l = subst (λ (o : Option ℕ). IfSome o (λ node. (node < c.loop-first.links.nodes) × (on_a_list node lists ≡ true))) e c.next-first.ensures.stands in
          omega (arith, l.0, i.0.nodes),
    )

pub returns-clause-empty : goal.returns-clause-empty
returns-clause-empty c = no_head (list_at c.loop-first.links.lists c.args.target) (sym c.in_default.is ∙ c.loop-first.invariant.5)

pub returns-clause-marked : goal.returns-clause-marked
returns-clause-marked c = let i = c.loop-first.invariant in all_marked c.args.target c.loop-first.links.lists c.loop-first.occupied (returns-clause-empty c) i.2 i.3
