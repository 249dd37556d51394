-- What contracts see of a `Statement`.
use Rattle.script_table.specs.Words.{value_of}
use Rattle.tool_times.specs.Read.{Said}
use Rattle.tool_times.specs.declared.statement.Statement.TheInside.{Inside}

abbrev pub said : Inside → Said
said s = record {
  line = s.line;
  task = record {
    name = s.words.name.now;
    priority = value_of s.words.priority.now;
    cost = value_of s.words.cost.now;
    period = value_of s.words.period.now;
    blocking = value_of s.words.blocking.now;
  };
}
