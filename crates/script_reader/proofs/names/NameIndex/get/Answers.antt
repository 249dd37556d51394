use Rattle.std.proofs.Common.{◌∙◌, ap}
use Rattle.std.specs.Option.{option_map}
use Rattle.script_table.specs.Names.{entry_of}
use Rattle.script_reader.specs.NameMap.{entry_named}
use Rattle.script_reader.proofs.NameEntries.{found}
use Rattle.script_reader.proofs.names.NameIndex.get.Goals as goal

pub returns : goal.returns
returns c =
    ap (option_map (entry_named c.args.name.now)) (c.copied.ensures ∙ c.get.ensures.value)
    ∙ (found c.args.name.now c.self.inside.index.entries ∙ ap (λ es. entry_of es c.args.name.now) c.self.view_is)
