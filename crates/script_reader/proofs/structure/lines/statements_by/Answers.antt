use Rattle.std.proofs.Common.{sym, ◌∙◌, ap, append-nil}
use Rattle.std.proofs.lemmas.Result.{err_from_is_err_and}
use Rattle.script_lex.specs.Lines.{Ahead}
use Rattle.script_reader.proofs.LineReads.{goes_on, line_ends, says_on, says_all, ends_closed, ends_open, counted, counted_all}
use Rattle.script_reader.proofs.structure.lines.statements_by.Goals as goal

pub returns-in_err-statement : goal.returns-in_err-statement
returns-in_err-statement c =
    let p = err_from_is_err_and c.from_residual-in_err-statement.result c.from_residual-in_err-statement.ensures.1 in
    rw (p.1, p.2) (line_ends _ _ _ _ _ _ _ _ c.in_err-statement.field-0.0 c.in-Some.ensures.line c.in-Some.ensures.number.0 c.in_err-statement.ensures c.loop-line.invariant.faults)

pub loop-line-preserved-in-Continue-branch-4 : goal.loop-line-preserved-in-Continue-branch-4
loop-line-preserved-in-Continue-branch-4 c =
    let h = rw c.in-Some-2.is at c.in_ok-statement.ensures in
    record {
      faults = goes_on _ _ _ _ _ _ _ _ _ c.in-Some.ensures.line c.in-Some.ensures.number.1 h.0 h.2 c.loop-line.invariant.faults;
      said = rw c.in_ok-push.ensures.items (says_on _ _ _ _ _ _ _ _ _ _ c.in-Some.ensures.line c.in-Some.ensures.number.0 c.in-Some.ensures.number.1 h.1 c.loop-line.invariant.said);
      last = counted _ _ _ _ _ _ c.in-Some.ensures.line c.in-Some.ensures.number.1 c.loop-line.invariant.last;
    }

pub loop-line-preserved : goal.loop-line-preserved
loop-line-preserved c =
    let h = rw c.in_default-2.is at c.in_ok-statement.ensures in
    record {
      faults = goes_on _ _ _ _ _ _ _ _ _ c.in-Some.ensures.line c.in-Some.ensures.number.1 h.0 h.2 c.loop-line.invariant.faults;
      said = rw append-nil at (says_on _ _ _ _ _ _ _ _ _ _ c.in-Some.ensures.line c.in-Some.ensures.number.0 c.in-Some.ensures.number.1 h.1 c.loop-line.invariant.said);
      last = counted _ _ _ _ _ _ c.in-Some.ensures.line c.in-Some.ensures.number.1 c.loop-line.invariant.last;
    }

pub returns-then-not-is_empty : goal.returns-then-not-is_empty
returns-then-not-is_empty c =
    let n = c.next_number.ensures ∙ ap (λ (a : Ahead). a.number) c.in_default.ensures.number in
    rw n (ends_open _ _ _ _ _ c.in_default.ensures.line (sym c.is_empty.ensures ∙ c.if-not-is_empty.true) c.loop-line.invariant.faults)

pub returns : goal.returns
returns c = (ends_closed _ _ _ _ _ c.in_default.ensures.line (sym c.is_empty.ensures ∙ c.if-not-is_empty.false) c.loop-line.invariant.faults, says_all _ _ _ _ _ c.in_default.ensures.line c.loop-line.invariant.said, c.next_number-2.ensures ∙ (ap (λ (a : Ahead). a.number) c.in_default.ensures.number ∙ counted_all _ _ _ c.in_default.ensures.line c.loop-line.invariant.last))
