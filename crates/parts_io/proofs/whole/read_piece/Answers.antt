use Rattle.std.proofs.Common.{refl, length, ◌≡◌, sym, take, arith, rules}
use Rattle.parts_io.proofs.Known.{took_none}
use Rattle.std.proofs.lemmas.Grind.{common_steps}
use Rattle.parts_io.proofs.whole.read_piece.Goals as goal

pub returns-in_default : goal.returns-in_default
returns-in_default g c =
    let failed = c.in_default.ensures in
    record {
      bound = tt;
      grew = tt;
      end = tt;
      count = tt;
      fault = λ _. failed.cause.failed;
      no_fault = λ other. absurd (other refl);
      later = failed.cause.later;
      none = λ _. took_none _ _ _ _ failed.bytes failed.count;
      lost = λ e. cc;
      not_long = λ e. cc;
    }

pub returns-then-is_err : goal.returns-then-is_err
returns-then-is_err g c =
    let read = c.in-Ok.ensures in
    let kept : length c.read.new.buf ≡ c.min-size.result = search rules in
    record {
      bound = tt;
      grew = tt;
      end = tt;
      count = tt;
      fault = λ e. cc;
      no_fault = λ _. read.cause.ok;
      later = read.cause.later;
      none = λ e. cc;
      lost = λ _. record {
        bytes = take c.in-Ok.count c.read.new.buf;
        bound = omega arith;
        moved = read.bytes.0;
        count = record { at_least = omega arith; at_most = omega arith };
      };
      not_long = λ e. cc;
    }

pub returns : goal.returns
returns g c =
    let read = c.in-Ok.ensures in
    let kept : length c.read.new.buf ≡ c.min-size.result = search rules in
    record {
      bound = omega arith;
      grew = (take c.in-Ok.count c.read.new.buf, sym read.bound.1, grind (arith, common_steps), read.bytes.0);
      end = λ none. read.bytes.1 none (omega arith);
      count = read.count;
      fault = λ e. cc;
      no_fault = λ _. read.cause.ok;
      later = read.cause.later;
      none = λ e. cc;
      lost = λ e. cc;
      not_long = λ e. cc;
    }
