use Rattle.std.proofs.Common.{rules}
use Rattle.tool_audit.proofs.Phases.{name_is_new, name_is_old}
use Rattle.tool_audit.proofs.heads.put_names.Goals as goal

pub returns-then-not-branch : goal.returns-then-not-branch
returns-then-not-branch c =
    rw c.line.ensures (name_is_old _ _ c.s-item.result c.loop-s.names.keys c.insert.new.self.keys c.name.result c.in_ok-insert.field-0 _
    (record {
      within = c.loop-s-test.true;
      stands = c.s-item.is;
      name = c.name.ensures;
      before = c.loop-s.invariant.names;
      added_is = c.in_ok-insert.ensures.added;
      keys = c.in_ok-insert.ensures.keys;
    }) (search rules) c.loop-s.invariant.faults)

pub loop-s-preserved : goal.loop-s-preserved
loop-s-preserved c =
    let both = name_is_new _ _ c.s-item.result c.loop-s.names.keys c.insert.new.self.keys c.name.result c.in_ok-insert.field-0 _
    (record {
      within = c.loop-s-test.true;
      stands = c.s-item.is;
      name = c.name.ensures;
      before = c.loop-s.invariant.names;
      added_is = c.in_ok-insert.ensures.added;
      keys = c.in_ok-insert.ensures.keys;
    }) (search rules) c.loop-s.invariant.faults in
    record { faults = both.0; names = both.1 }
