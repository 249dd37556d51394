use Rattle.std.proofs.Common.{◌<◌, length, sym, ap, subst₂, ◌∙◌, arith}
use Rattle.kernel_signals.specs.Choice.{first_wanted, is_wanted}
use Rattle.kernel_signals.specs.Walks.{rest_of}
use Rattle.kernel_signals.proofs.Walking.{come_below, first_in, found, next_in, passed, read_record, shorter, skip}
use Rattle.kernel_signals.proofs.choice.first_wanted.Goals as goal

pub loop-at-init : goal.loop-at-init
loop-at-init c =
    let order = c.args.arrivals.now.order in let d = c.first-at.ensures.arrivals.distinct in let w = c.args.wanted.now in let s = c.args.signal in let rs = c.args.records.now in (
      ap (λ o. first_wanted w s rs (rest_of o order)) c.first-at.ensures.value ∙ sym (skip w s rs order d),
      λ n e. let f = first_in s n order d (sym c.first-at.ensures.value ∙ e) in (f.came, f.rank_is),
    )

pub bounds-records-node : goal.bounds-records-node
bounds-records-node c =
    let a = c.args.arrivals.now in let n = c.in-Some.node in
    omega (arith, c.requires.known, come_below n a.nodes a.order c.first-at.ensures.arrivals.each (c.loop-at.invariant.1 n c.in-Some.is).0)

pub returns-then-is_wanted-clause-first : goal.returns-then-is_wanted-clause-first
returns-then-is_wanted-clause-first c =
    let a = c.args.arrivals.now in let n = c.in-Some.node in let d = c.first-at.ensures.arrivals.distinct in let w = c.args.wanted.now in let s = c.args.signal in let rs = c.args.records.now in
    let stands = c.loop-at.invariant.1 n c.in-Some.is in
    let known : n < length rs = omega (arith, c.requires.known, come_below n a.nodes a.order c.first-at.ensures.arrivals.each stands.0) in
    let read = read_record rs n c.index-records-node.result c.index-records-node.is known in
    let agreed = ap (is_wanted w) (sym read) ∙ sym c.is_wanted.ensures ∙ c.if-is_wanted.true in
    sym (found w s rs a.order n stands.0 d stands.1 agreed) ∙ ap (λ o. first_wanted w s rs (rest_of o a.order)) (sym c.in-Some.is) ∙ c.loop-at.invariant.0

pub returns-then-is_wanted-clause-known : goal.returns-then-is_wanted-clause-known
returns-then-is_wanted-clause-known c =
    let a = c.args.arrivals.now in let n = c.in-Some.node in
    come_below n a.nodes a.order c.first-at.ensures.arrivals.each (c.loop-at.invariant.1 n c.in-Some.is).0

pub loop-at-smaller : goal.loop-at-smaller
loop-at-smaller c =
    let a = c.args.arrivals.now in let n = c.in-Some.node in let d = c.first-at.ensures.arrivals.distinct in let w = c.args.wanted.now in let s = c.args.signal in let rs = c.args.records.now in
    let stands = c.loop-at.invariant.1 n c.in-Some.is in
    subst₂ (λ o p. length (rest_of o a.order) < length (rest_of p a.order)) (sym c.next-at.ensures) (sym c.in-Some.is) (shorter w s rs a.order n stands.0 d stands.1)

pub loop-at-preserved : goal.loop-at-preserved
loop-at-preserved c =
    let a = c.args.arrivals.now in let n = c.in-Some.node in let d = c.first-at.ensures.arrivals.distinct in let w = c.args.wanted.now in let s = c.args.signal in let rs = c.args.records.now in
    let stands = c.loop-at.invariant.1 n c.in-Some.is in
    let known : n < length rs = omega (arith, c.requires.known, come_below n a.nodes a.order c.first-at.ensures.arrivals.each stands.0) in
    let read = read_record rs n c.index-records-node.result c.index-records-node.is known in
    let refused = ap (is_wanted w) (sym read) ∙ sym c.is_wanted.ensures ∙ c.if-is_wanted.false in (
      ap (λ o. first_wanted w s rs (rest_of o a.order)) c.next-at.ensures ∙ sym (passed w s rs a.order n stands.0 d stands.1 refused)
          ∙ ap (λ o. first_wanted w s rs (rest_of o a.order)) (sym c.in-Some.is) ∙ c.loop-at.invariant.0,
      λ m e. next_in w s rs a.order n stands.0 d stands.1 m (sym c.next-at.ensures ∙ e),
    )
