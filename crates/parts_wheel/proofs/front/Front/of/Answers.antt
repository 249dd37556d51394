use Rattle.std.proofs.Common.{refl}
use Rattle.std.proofs.lemmas.Option.{IfSome_then}
use Rattle.parts_wheel.proofs.front.Front.of.Goals as goal

pub returns-then-none_passed : goal.returns-then-none_passed
returns-then-none_passed c =
    let next = c.requires.next in
    let none = c.none_passed.ensures c.if-none_passed.true in
    record { later = next.0; none_before = λ i d due. next.0.least i d due (none i d due); lowest = next.1; at_once = IfSome_then c.args.next.first next.1 (λ n k. refl) }

pub returns-else-none_passed : goal.returns-else-none_passed
returns-else-none_passed c = record {
  later = c.requires.next.0;
  none_before = c.requires.early;
  lowest = tt;
  at_once = tt;
}
