use Rattle.std.proofs.Common.{◌≡◌, ◌∙◌, length, refl, ap, arith, rules, length-append, Err}
use Rattle.std.proofs.lemmas.Grind.{common_steps}
use Rattle.parts_io.proofs.Known.{consumes_none, consumes_more, took_more}
use Rattle.parts_io.proofs.whole.read_whole.Goals as goal
use Rattle.parts_io.proofs.whole.read_whole.Goals as goal

pub loop-bytes-init : goal.loop-bytes-init
loop-bytes-init g c = record {
  short = grind (arith, common_steps);
  bytes = rw c.new-bytes.ensures.items (consumes_none _);
  count = rw c.new-bytes.ensures.items (record { at_least = omega arith; at_most = omega arith });
  faults = refl;
}

pub loop-bytes-preserved : goal.loop-bytes-preserved
loop-bytes-preserved g c =
    let before = c.loop-bytes.invariant in
    let read = c.in_ok-read_piece.ensures in
    let longer = simp length-append at (ap length read.grew.2) in
    record {
      short = omega arith;
      bytes = rw read.grew.2 (consumes_more _ _ _ _ _ before.bytes read.grew.3);
      count = record { at_least = omega arith; at_most = omega arith };
      faults = read.no_fault (λ e. cc) ∙ before.faults;
    }

pub returns-in_err-read_piece : goal.returns-in_err-read_piece
returns-in_err-read_piece g c =
    let before = c.loop-bytes.invariant in
    let read = c.in_err-read_piece.ensures in
    let same : c.from_residual.result ≡ Err c.in_err-read_piece.field-0.0 = search rules in
    rw same (record {
      whole = tt;
      end = tt;
      short = tt;
      count = tt;
      long = λ is. absurd (read.not_long cc);
      long_bytes = λ is. absurd (read.not_long cc);
      fault = λ is. let rose = read.fault cc in omega arith;
      fault_bytes = λ is. took_more _ _ _ _ _ _ _ 0 _ before.bytes before.count (read.none cc) (omega arith);
      no_fault = λ other. read.no_fault (λ is. other cc) ∙ before.faults;
      later = omega arith;
      memory_bytes = λ is. took_more _ _ _ _ _ _ _ _ _ before.bytes before.count (read.lost cc) (omega arith);
    })

pub returns-then-branch-eq0 : goal.returns-then-branch-eq0
returns-then-branch-eq0 g c =
    let before = c.loop-bytes.invariant in
    let read = c.in_ok-read_piece.ensures in
    let longer = simp length-append at (ap length read.grew.2) in
    record {
      whole = rw read.grew.2 (consumes_more _ _ _ _ _ before.bytes read.grew.3);
      end = read.end c.if-branch-eq0.true;
      short = omega arith;
      count = record { at_least = omega arith; at_most = omega arith };
      long = λ e. cc;
      long_bytes = λ e. cc;
      fault = λ e. cc;
      fault_bytes = λ e. cc;
      no_fault = λ _. read.no_fault (λ e. cc) ∙ before.faults;
      later = omega arith;
      memory_bytes = λ e. cc;
    }

pub returns : goal.returns
returns g c =
    let before = c.loop-bytes.invariant in
    record {
      whole = tt;
      end = tt;
      short = tt;
      count = tt;
      long = λ _. record { at_least = omega arith; at_most = omega arith };
      long_bytes = λ _. (c.loop-bytes.bytes.items, omega arith, before.bytes);
      fault = λ e. cc;
      fault_bytes = λ e. cc;
      no_fault = λ _. before.faults;
      later = omega arith;
      memory_bytes = λ e. cc;
    }
