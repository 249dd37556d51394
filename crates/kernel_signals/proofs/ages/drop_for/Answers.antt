use Rattle.std.proofs.Common.{◌<◌, ◌+◌, ◌++◌, ℕ, List, length, true, sym, ap, ap₂, subst₂, ◌∙◌, arith}
use Rattle.rules_machine.specs.Lists.{is}
use Rattle.rules_machine.specs.State.{SignalRecord}
use Rattle.parts_arrivals.specs.Arrivals.{Arrival, Arrivals, has_come, next_in_order, without_node}
use Rattle.kernel_signals.specs.Ages.{before, kept_for}
use Rattle.kernel_signals.specs.Kept.{counted_in, records_of, weight_of}
use Rattle.kernel_signals.specs.Walks.{rest_of}
use Rattle.kernel_signals.specs.Timed.{AreTimed, with_one_fewer}
use Rattle.kernel_signals.proofs.Timing.{long_fewer, timed_fewer}
use Rattle.kernel_signals.proofs.ByAge.{after_in, after_shorter, counted_more, dropped, few_before, kept_gone, next_same, stayed, still_in}
use Rattle.kernel_signals.proofs.Walking.{come_below, read_record}
use Rattle.kernel_signals.proofs.ages.drop_for.Goals as goal

pub after-at-requires : goal.after-at-requires
after-at-requires c =
    let a = c.args.arrivals.now in let o = a.order in let rs = c.args.records.now in let t = c.args.t in let n = c.in-Some.node in let d = c.oldest-at.ensures.arrivals.distinct in
    let came = c.loop-at.invariant.come n c.in-Some.is in
    let order = ap (λ (b : Arrivals). b.order) c.loop-at.invariant.order ∙ ap (λ q. kept_for t rs (before q o) ++ rest_of q o) c.in-Some.is in
    ap (has_come n) order ∙ still_in t rs o n came d

pub bounds-records-node : goal.bounds-records-node
bounds-records-node c =
    let a = c.args.arrivals.now in let o = a.order in let rs = c.args.records.now in let t = c.args.t in let n = c.in-Some.node in let d = c.oldest-at.ensures.arrivals.distinct in
    let came = c.loop-at.invariant.come n c.in-Some.is in
    omega (arith, c.requires.known, come_below n a.nodes o c.oldest-at.ensures.arrivals.each came)

pub leave-requires : goal.leave-requires
leave-requires c =
    let a = c.args.arrivals.now in let o = a.order in let rs = c.args.records.now in let t = c.args.t in let n = c.in-Some.node in let d = c.oldest-at.ensures.arrivals.distinct in
    let came = c.loop-at.invariant.come n c.in-Some.is in
    let order = ap (λ (b : Arrivals). b.order) c.loop-at.invariant.order ∙ ap (λ q. kept_for t rs (before q o) ++ rest_of q o) c.in-Some.is in
    ap (has_come n) order ∙ still_in t rs o n came d

pub loop-at-smaller-then-is_for : goal.loop-at-smaller-then-is_for
loop-at-smaller-then-is_for c =
    let a = c.args.arrivals.now in let o = a.order in let rs = c.args.records.now in let t = c.args.t in let n = c.in-Some.node in let d = c.oldest-at.ensures.arrivals.distinct in
    let came = c.loop-at.invariant.come n c.in-Some.is in
    let order = ap (λ (b : Arrivals). b.order) c.loop-at.invariant.order ∙ ap (λ q. kept_for t rs (before q o) ++ rest_of q o) c.in-Some.is in
    let next = c.after-at.ensures ∙ ap (next_in_order n) order ∙ next_same t rs o n came d in
    subst₂ (λ q r. length (rest_of q o) < length (rest_of r o)) (sym next) (sym c.in-Some.is) (after_shorter (λ (r : SignalRecord). true) rs o n came d)

pub loop-at-smaller : goal.loop-at-smaller
loop-at-smaller c =
    let a = c.args.arrivals.now in let o = a.order in let rs = c.args.records.now in let t = c.args.t in let n = c.in-Some.node in let d = c.oldest-at.ensures.arrivals.distinct in
    let came = c.loop-at.invariant.come n c.in-Some.is in
    let order = ap (λ (b : Arrivals). b.order) c.loop-at.invariant.order ∙ ap (λ q. kept_for t rs (before q o) ++ rest_of q o) c.in-Some.is in
    let next = c.after-at.ensures ∙ ap (next_in_order n) order ∙ next_same t rs o n came d in
    subst₂ (λ q r. length (rest_of q o) < length (rest_of r o)) (sym next) (sym c.in-Some.is) (after_shorter (λ (r : SignalRecord). true) rs o n came d)

pub loop-at-preserved-then-is_for : goal.loop-at-preserved-then-is_for
loop-at-preserved-then-is_for c =
    let a = c.args.arrivals.now in let o = a.order in let rs = c.args.records.now in let t = c.args.t in let n = c.in-Some.node in let d = c.oldest-at.ensures.arrivals.distinct in
    let came = c.loop-at.invariant.come n c.in-Some.is in
    let order = ap (λ (b : Arrivals). b.order) c.loop-at.invariant.order ∙ ap (λ q. kept_for t rs (before q o) ++ rest_of q o) c.in-Some.is in
    let next = c.after-at.ensures ∙ ap (next_in_order n) order ∙ next_same t rs o n came d in
    let known : n < length rs = omega (arith, c.requires.known, come_below n a.nodes o c.oldest-at.ensures.arrivals.each came) in
    let read = read_record rs n c.index-records-node.result c.index-records-node.is known in
    let goes = ap (λ (r : SignalRecord). is r.target t) (sym read) ∙ ap (λ q. is q t) (sym c.target.ensures) ∙ sym c.is_for.ensures ∙ c.if-is_for.true in
    let whole = c.loop-at.invariant.order ∙ ap (λ q. record a { order = kept_for t rs (before q o) ++ rest_of q o }) c.in-Some.is in
    record {
      order = c.leave.ensures ∙ ap (λ (b : Arrivals). record b { order = without_node n b.order }) whole
          ∙ ap (λ (ys : List Arrival). record a { order = ys }) (dropped t rs o n came d goes ∙ sym (ap (λ q. kept_for t rs (before q o) ++ rest_of q o) next));
      come = λ m e. after_in (λ (r : SignalRecord). true) rs o n came d m (sym next ∙ e);
      long = ap (λ ts. length ts) c.remove.ensures ∙ long_fewer c.timer.result c.loop-at.timed ∙ c.loop-at.invariant.long;
      timed = subst₂ (λ (ts : List ℕ) (b : Arrivals). AreTimed ts (records_of rs b.order)) (sym (c.remove.ensures ∙ ap (λ q. with_one_fewer q c.loop-at.timed) (c.timer.ensures ∙ ap (λ (r : SignalRecord). r.timer) read))) (sym c.leave.ensures)
          (timed_fewer c.loop-at.timed rs n c.loop-at.arrivals.order c.loop-at.invariant.long (ap (λ (b : Arrivals). has_come n b.order) whole ∙ still_in t rs o n came d) c.loop-at.invariant.timed);
      counted = c.loop-at.invariant.counted ∙ ap (λ q. counted_in (records_of rs (kept_for t rs (before q o)))) c.in-Some.is
          ∙ sym (ap (λ (xs : List Arrival). counted_in (records_of rs xs)) (kept_gone t rs o n came d goes)) ∙ sym (ap (λ q. counted_in (records_of rs (kept_for t rs (before q o)))) next);
    }

pub loop-at-preserved : goal.loop-at-preserved
loop-at-preserved c =
    let a = c.args.arrivals.now in let o = a.order in let rs = c.args.records.now in let t = c.args.t in let n = c.in-Some.node in let d = c.oldest-at.ensures.arrivals.distinct in
    let came = c.loop-at.invariant.come n c.in-Some.is in
    let order = ap (λ (b : Arrivals). b.order) c.loop-at.invariant.order ∙ ap (λ q. kept_for t rs (before q o) ++ rest_of q o) c.in-Some.is in
    let next = c.after-at.ensures ∙ ap (next_in_order n) order ∙ next_same t rs o n came d in
    let known : n < length rs = omega (arith, c.requires.known, come_below n a.nodes o c.oldest-at.ensures.arrivals.each came) in
    let read = read_record rs n c.index-records-node.result c.index-records-node.is known in
    let goes = ap (λ (r : SignalRecord). is r.target t) (sym read) ∙ ap (λ q. is q t) (sym c.target.ensures) ∙ sym c.is_for.ensures ∙ c.if-is_for.false in
    let whole = c.loop-at.invariant.order ∙ ap (λ q. record a { order = kept_for t rs (before q o) ++ rest_of q o }) c.in-Some.is in
    let weight = c.weight-stay.ensures.value ∙ ap weight_of (c.code.ensures ∙ ap (λ (r : SignalRecord). r.code) read) in
    let until = c.loop-at.invariant.counted ∙ ap (λ q. counted_in (records_of rs (kept_for t rs (before q o)))) c.in-Some.is in
    record {
      order = whole ∙ ap (λ (ys : List Arrival). record a { order = ys }) (stayed t rs o n came d goes ∙ sym (ap (λ q. kept_for t rs (before q o) ++ rest_of q o) next));
      come = λ m e. after_in (λ (r : SignalRecord). true) rs o n came d m (sym next ∙ e);
      long = c.loop-at.invariant.long;
      timed = c.loop-at.invariant.timed;
      counted = ap₂ (λ k w. k + w) until weight ∙ sym (counted_more t rs o n came d goes) ∙ sym (ap (λ q. counted_in (records_of rs (kept_for t rs (before q o)))) next);
    }

pub overflow_add-stay : goal.overflow_add-stay
overflow_add-stay c =
    let a = c.args.arrivals.now in let o = a.order in let rs = c.args.records.now in let t = c.args.t in let n = c.in-Some.node in let d = c.oldest-at.ensures.arrivals.distinct in
    let came = c.loop-at.invariant.come n c.in-Some.is in
    let until = c.loop-at.invariant.counted ∙ ap (λ q. counted_in (records_of rs (kept_for t rs (before q o)))) c.in-Some.is in
    omega (arith, until, few_before t rs o n came d, c.oldest-at.ensures.arrivals.few, c.requires.few, c.weight-stay.ensures.small)
