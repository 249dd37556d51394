use Rattle.std.proofs.Common.{◌≡◌, ◌-◌, slice_get}
use Rattle.std.specs.List.{range_with_len}
use Rattle.std.specs.Prelude.{filter_map, length, option_map}
use Rattle.rules_machine.specs.Delivery.{taken_by_sweep}
use Rattle.rules_machine.specs.State.{SignalRecord}
use Rattle.kernel_texts.specs.Rows.{left_out}
use Rattle.kernel_object_facts.proofs.signals.left_out.Given as goal

abbrev pub invariant-loop-number : goal.invariant-loop-number
invariant-loop-number l =
    let m = l.parts.machine in
    option_map (λ (r : SignalRecord). r.serial) (slice_get (filter_map (taken_by_sweep m) (range_with_len l.number (length m.threads - l.number))) 0) ≡ left_out m
