-- What contracts see of a `Statement`.
use Rattle.script_table.specs.Words.{value_of}
use Rattle.tool_audit.specs.Head.{Said}
use Rattle.tool_audit.specs.declared.statement.Statement.TheInside.{Inside}

abbrev pub said : Inside → Said
said s = record {
  line = s.line;
  server = record {
    name = s.words.name.now;
    limits = record { period = value_of s.words.period.now; budget = value_of s.words.budget.now; max = value_of s.words.max.now };
  };
}
