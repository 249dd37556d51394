use Rattle.std.proofs.Common.{◌<◌, length, arith, rules}
use Rattle.std.proofs.lemmas.Grind.{common_steps}
use Rattle.rules_server.proofs.Laws.{rest_of}
use Rattle.parts_server.proofs.Server.refill.Goals as goal

pub invariant_of-self : goal.invariant_of-self
invariant_of-self c =
    let some : 0 < length c.self.inside.pending.items = grind (arith, common_steps, c.is_empty.ensures) in
    let rest = rest_of c.self.inside.pending.items c.remove-oldest.new.self.items c.remove-oldest.result some
    c.remove-oldest.ensures.value c.remove-oldest.ensures.items in
    record {
      parameters = search rules;
      adds_up = record { budget = omega arith; totals = omega arith };
      activation_small = omega arith;
      high_small = omega arith;
      few_pending = omega arith;
      amounts_above_zero = rest.above_zero c.self.invariant.amounts_above_zero;
    }
