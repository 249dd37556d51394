use Rattle.std.proofs.Common.{not, take, length, sym, ap, ◌∙◌, ◌==◌, arith}
use Rattle.std.proofs.lemmas.List.{take-take}
use Rattle.std.proofs.lemmas.List.Sums.{prefix_len-le-length}
use Rattle.script_lex.proofs.line.Line.comment_start.Goals as goal

pub returns-clause-bytes : goal.returns-clause-bytes
returns-clause-bytes c =
    let line = c.args.self.now.bytes.now in
    let at = c.args.self.now.comment_at in
    let same = c.args.self.now.stands_first in
    let is = c.args.self.now.has_its_comment in
    sym (take-take at (length line) c.args.self.now.ahead.now (omega (arith, is, prefix_len-le-length (λ x. not (x == 35)) line)))
    ∙ (ap (λ xs. take at xs) (sym same) ∙ ap (λ n. take n line) is)

pub returns-clause-bound : goal.returns-clause-bound
returns-clause-bound c = omega (arith, c.args.self.now.has_its_comment, prefix_len-le-length (λ x. not (x == 35)) c.args.self.now.bytes.now)
