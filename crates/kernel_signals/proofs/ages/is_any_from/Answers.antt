use Rattle.std.specs.List.{list_any}
use Rattle.std.proofs.Common.{◌<◌, length, sym, ap, subst₂, ◌∙◌, arith}
use Rattle.kernel_signals.specs.Ages.{is_from}
use Rattle.kernel_signals.specs.Kept.{records_of}
use Rattle.kernel_signals.specs.Walks.{rest_of}
use Rattle.kernel_signals.proofs.ByAge.{after_in, after_shorter, any_here, any_later}
use Rattle.kernel_signals.proofs.Walking.{come_below, oldest_in, read_record, rest_oldest}
use Rattle.kernel_signals.proofs.ages.is_any_from.Goals as goal

pub loop-at-init : goal.loop-at-init
loop-at-init c =
    let order = c.args.arrivals.now.order in let rs = c.args.records.now in let p = is_from c.args.q in (
      ap (λ o. list_any p (records_of rs (rest_of o order))) c.oldest-at.ensures.value ∙ ap (λ o. list_any p (records_of rs o)) (rest_oldest order),
      λ n e. oldest_in n order (sym c.oldest-at.ensures.value ∙ e),
    )

pub bounds-records-node : goal.bounds-records-node
bounds-records-node c =
    let a = c.args.arrivals.now in let n = c.in-Some.node in
    omega (arith, c.requires, come_below n a.nodes a.order c.oldest-at.ensures.arrivals.each (c.loop-at.invariant.1 n c.in-Some.is))

pub returns-then-is_from : goal.returns-then-is_from
returns-then-is_from c =
    let a = c.args.arrivals.now in let n = c.in-Some.node in let rs = c.args.records.now in let p = is_from c.args.q in let d = c.oldest-at.ensures.arrivals.distinct in
    let came = c.loop-at.invariant.1 n c.in-Some.is in
    let known : n < length rs = omega (arith, c.requires, come_below n a.nodes a.order c.oldest-at.ensures.arrivals.each came) in
    let read = read_record rs n c.index-records-node.result c.index-records-node.is known in
    let found = ap p (sym read) ∙ sym c.is_from.ensures ∙ c.if-is_from.true in
    sym (any_here p rs a.order n came d found) ∙ ap (λ o. list_any p (records_of rs (rest_of o a.order))) (sym c.in-Some.is) ∙ c.loop-at.invariant.0

pub loop-at-smaller : goal.loop-at-smaller
loop-at-smaller c =
    let a = c.args.arrivals.now in let n = c.in-Some.node in let rs = c.args.records.now in let p = is_from c.args.q in let d = c.oldest-at.ensures.arrivals.distinct in
    let came = c.loop-at.invariant.1 n c.in-Some.is in
    subst₂ (λ o q. length (rest_of o a.order) < length (rest_of q a.order)) (sym c.after-at.ensures) (sym c.in-Some.is) (after_shorter p rs a.order n came d)

pub loop-at-preserved : goal.loop-at-preserved
loop-at-preserved c =
    let a = c.args.arrivals.now in let n = c.in-Some.node in let rs = c.args.records.now in let p = is_from c.args.q in let d = c.oldest-at.ensures.arrivals.distinct in
    let came = c.loop-at.invariant.1 n c.in-Some.is in
    let known : n < length rs = omega (arith, c.requires, come_below n a.nodes a.order c.oldest-at.ensures.arrivals.each came) in
    let read = read_record rs n c.index-records-node.result c.index-records-node.is known in
    let missed = ap p (sym read) ∙ sym c.is_from.ensures ∙ c.if-is_from.false in (
      ap (λ o. list_any p (records_of rs (rest_of o a.order))) c.after-at.ensures ∙ any_later p rs a.order n came d missed
          ∙ ap (λ o. list_any p (records_of rs (rest_of o a.order))) (sym c.in-Some.is) ∙ c.loop-at.invariant.0,
      λ m e. after_in p rs a.order n came d m (sym c.after-at.ensures ∙ e),
    )
