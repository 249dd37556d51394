-- Places whose words are names, or declare something.
use Rattle.std.specs.Prelude.{Bool, true, false, List}
use Rattle.std.specs.List.{list_any, filter}
use Rattle.script_table.specs.Patterns.{Spot, Declares, Uses, Acts}
use Rattle.script_table.specs.Structure.{Said}

-- a name that is declared, or a signal that gets an action
abbrev pub declares : Spot → Bool
declares (Declares kind) = true
declares Acts = true
declares other = false

-- a name, or a signal that gets an action
abbrev pub is_named : Spot → Bool
is_named (Declares kind) = true
is_named (Uses kind) = true
is_named Acts = true
is_named other = false

-- the lines that name something
abbrev pub names_something : Said → Bool
names_something s = list_any is_named s.row.places

abbrev pub naming_lines : List Said → List Said
naming_lines ss = filter names_something ss
