use Rattle.std.proofs.Common.{◌-◌, arith}
use Rattle.std.proofs.lemmas.Nat.{and_le_l}
use Rattle.kernel_signals.proofs.Masking.{all_masked, no_others}
use Rattle.kernel_signals.proofs.pending.Pending.are_masked.Goals as goal

pub returns : goal.returns
returns c =
    let p = c.self.inside in let mask = c.bits.result in
    let less = and_le_l c.ranks.result (4294967295 - mask) in
    rw (← c.self.view_is, ← c.bits.ensures) (
      λ yes. all_masked mask c.ranks.result p.records.items p.arrivals.order c.bits.type_inv c.ranks.ensures.value p.arrivals.nodes c.ranks.ensures.arrivals.each c.self.invariant.ranked (c.has_no_bit.ensures.0 yes),
      λ all. c.has_no_bit.ensures.1 (no_others mask c.ranks.result p.records.items p.arrivals.order c.bits.type_inv c.ranks.ensures.value (omega (arith, less, c.ranks.type_inv)) c.self.invariant.ranked all),
    )
