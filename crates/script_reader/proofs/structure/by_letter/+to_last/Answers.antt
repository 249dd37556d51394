use Rattle.std.proofs.Common.{sym, ◌∙◌, map}
use Rattle.script_table.specs.Patterns.{row_of}
use Rattle.script_reader.proofs.Narrowed.{past_last}
use Rattle.script_reader.proofs.structure.by_letter.+to_last.Goals as goal

pub returns-else-begins : goal.returns-else-begins
returns-else-begins t c =
    past_last c.args.byte c.args.patterns.now _ (map row_of c.to_last.result.now) c.in-len1-up.len_at_least (sym c.begins.ensures ∙ c.if-begins.false) c.to_last.ensures
