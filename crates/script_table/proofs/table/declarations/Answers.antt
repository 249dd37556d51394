use Rattle.script_table.specs.Table.{declaration_patterns, strict_declarations}
use Rattle.script_table.proofs.Fronts as fronts
use Rattle.script_table.proofs.table.declarations.Goals as goal

pub slice_bounds-result-end : goal.slice_bounds-result-end
slice_bounds-result-end c = fronts.long_enough 23 c.all_declarations.result.now declaration_patterns strict_declarations fronts.declarations c.all_declarations.ensures

pub returns : goal.returns
returns c = fronts.front 23 c.all_declarations.result.now declaration_patterns strict_declarations fronts.declarations c.all_declarations.ensures
