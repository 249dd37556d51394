use Rattle.std.specs.Prelude.{bit_and}
use Rattle.std.proofs.Common.{◌+◌, ◌<◌, ◌≡◌, ◌^◌, ap, arith, subst, sym, Option, ℕ, ◌∙◌}
use Rattle.std.proofs.lemmas.Nat.{and_le_l}
use Rattle.kernel_signals.specs.Choice.{NoneBelow}
use Rattle.kernel_signals.proofs.Asking.{HasCome, goes_on, none_here, none_of}
use Rattle.kernel_signals.proofs.choice.lowest.Goals as goal

pub loop-at-init : goal.loop-at-init
loop-at-init c =
    let t = c.args.t in let records = c.args.records.now in let order = c.args.arrivals.now.order in
    let less = and_le_l c.bits.result c.ranks.result in
    subst (λ set. HasCome t set records order c.first_bit-at.result) c.bits.ensures
    (goes_on t c.bits.result c.ranks.result records order c.ranks.ensures.value 0 c.first_bit-at.result (omega (arith, less, c.bits.type_inv)) (λ s l has. absurd (omega (arith, l)))
    c.first_bit-at.ensures.first)

pub loop-at-preserved : goal.loop-at-preserved
loop-at-preserved c =
    let t = c.args.t in let records = c.args.records.now in let order = c.args.arrivals.now.order in let s = c.in-Some.signal in
    let less = and_le_l c.bits.result c.ranks.result in
    let here = subst (λ o. HasCome t c.args.set records order o) c.in-Some.is c.loop-at.invariant in
    let none = sym c.first_wanted-first.ensures.first ∙ none_of c.first_wanted-first.result (sym c.is_some.ensures ∙ c.if-is_some.false) in
    let below = subst (λ set. NoneBelow t set records order (s + 1)) (sym c.bits.ensures) (none_here t c.args.set records order s here.0 none) in
    subst (λ set. HasCome t set records order c.first_bit-at-in-Some.result) c.bits.ensures
    (goes_on t c.bits.result c.ranks.result records order c.ranks.ensures.value (s + 1) c.first_bit-at-in-Some.result (omega (arith, less, c.bits.type_inv)) below
    c.first_bit-at-in-Some.ensures.first)
