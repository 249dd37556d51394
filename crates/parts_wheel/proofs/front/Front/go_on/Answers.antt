use Rattle.std.proofs.Common.{refl, arith}
use Rattle.std.proofs.lemmas.Option.{IfSome_then}
use Rattle.parts_wheel.proofs.front.Front.go_on.Goals as goal

pub returns-in-Some : goal.returns-in-Some
returns-in-Some c =
    let next = c.in-Some.ensures in
    record { later = next.0; none_before = λ i d due. let l = c.requires.0 i d due in next.0.least i d due (omega (arith, l, c.requires.1)); lowest = next.1; at_once = IfSome_then c.in-Some.next.first next.1 (λ n k. refl) }
