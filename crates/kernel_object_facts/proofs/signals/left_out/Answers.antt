use Rattle.std.proofs.Common.{◌≡◌, ◌<◌, ◌-◌, ℕ, Some, None, ap, arith, length, sym, ◌∙◌}
use Rattle.std.specs.List.{range_with_len}
use Rattle.rules_machine.specs.Delivery.{taken_by_sweep}
use Rattle.kernel_texts.proofs.Ending.{first_taken, none_left, none_taken, once_killed, serial_of}
use Rattle.kernel_object_facts.proofs.signals.left_out.Goals as goal

pub loop-number-init : goal.loop-number-init
loop-number-init c =
    let m = c.args.parts.now.machine in
    let all : length m.threads - 0 ≡ length m.threads = omega arith in
    ap (λ (k : ℕ). serial_of m (range_with_len 0 k)) all ∙ sym (once_killed m (sym c.is_killed.ensures ∙ c.if-not-is_killed.false))

pub loop-number-preserved : goal.loop-number-preserved
loop-number-preserved c =
    let m = c.args.parts.now.machine in
    let lt : c.loop-number.number < length m.threads = omega (arith, c.loop-number-test.true, c.count-number-end.ensures.threads) in
    let none : taken_by_sweep m c.loop-number.number ≡ None = ap (taken_by_sweep m) (sym c.tid.ensures) ∙ sym c.next_signal.ensures.value ∙ c.in_default.is in
    none_taken m c.loop-number.number lt none ∙ c.loop-number.invariant

pub returns-in-Some : goal.returns-in-Some
returns-in-Some c =
    let m = c.args.parts.now.machine in
    let lt : c.loop-number.number < length m.threads = omega (arith, c.loop-number-test.true, c.count-number-end.ensures.threads) in
    let some : taken_by_sweep m c.loop-number.number ≡ Some c.in-Some.r = ap (taken_by_sweep m) (sym c.tid.ensures) ∙ sym c.next_signal.ensures.value ∙ c.in-Some.is in
    ap Some c.serial.ensures ∙ sym (first_taken m c.loop-number.number c.in-Some.r lt some) ∙ c.loop-number.invariant

pub returns : goal.returns
returns c =
    let m = c.args.parts.now.machine in
    let all : c.loop-number.number ≡ length m.threads = omega (arith, c.count-number-end.ensures.threads) in
    none_left m c.loop-number.number all ∙ c.loop-number.invariant
