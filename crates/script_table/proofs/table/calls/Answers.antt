use Rattle.script_table.specs.Table.{call_patterns, strict_calls}
use Rattle.script_table.proofs.Fronts as fronts
use Rattle.script_table.proofs.table.calls.Goals as goal

pub slice_bounds-result-end : goal.slice_bounds-result-end
slice_bounds-result-end c = fronts.long_enough 53 c.all_calls.result.now call_patterns strict_calls fronts.calls c.all_calls.ensures

pub returns : goal.returns
returns c = fronts.front 53 c.all_calls.result.now call_patterns strict_calls fronts.calls c.all_calls.ensures
