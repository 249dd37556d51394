use Rattle.std.proofs.Common.{◌<◌, sym, ◌∙◌, arith}
use Rattle.std.proofs.lemmas.List.{take_rest, length-take-le}
use Rattle.script_lex.proofs.Split.{only_blanks}
use Rattle.script_lex.proofs.Ahead.{first_word, first_place}
use Rattle.script_lex.proofs.words.first_word.Goals as goal

pub returns-then-start-len-clause-words : goal.returns-then-start-len-clause-words
returns-then-start-len-clause-words c = only_blanks _ (sym c.blanks-start.ensures.len ∙ (c.if-start-len.true ∙ sym (length-take-le c.args.len c.args.ahead.now c.requires.room)))

pub returns-clause-words : goal.returns-clause-words
returns-clause-words c =
    let run = simp take_rest at c.run_len-count.ensures.run in
    let some : c.blanks-start.result < c.args.len = omega arith in
    simp take_rest (first_word c.args.ahead.now c.args.len c.blanks-start.result c.run_len-count.result c.requires.room some c.run_len-count.ensures.bound c.blanks-start.ensures.len run)

pub returns-clause-places : goal.returns-clause-places
returns-clause-places c =
    let run = simp take_rest at c.run_len-count.ensures.run in
    let some : c.blanks-start.result < c.args.len = omega arith in
    first_place c.args.ahead.now c.args.at c.args.len c.blanks-start.result c.run_len-count.result c.requires.room some c.run_len-count.ensures.bound c.blanks-start.ensures.len run
