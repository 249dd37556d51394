use Rattle.script_table.specs.Names.{name_fault}
use Rattle.std.proofs.Common.{◌∙◌}
use Rattle.std.proofs.lemmas.List.{take_rest}
use Rattle.script_reader.proofs.FaultsHere.{no_place, no_word, one_more}
use Rattle.script_reader.proofs.names.declarations.Declared.+place_fault.Goals as goal

pub returns-in-empty : goal.returns-in-empty
returns-in-empty t c = no_place (name_fault c.args.self.now c.args.line) _ _ c.in-empty.len_below

pub returns-in-None : goal.returns-in-None
returns-in-None t c = rw c.in-None.ensures.word (no_word (name_fault c.args.self.now c.args.line) c.args.places.now)

pub returns-in-Some : goal.returns-in-Some
returns-in-Some t c =
    let places = c.args.places.now in
    c.lesser_first.ensures
    ∙ rw (c.name_fault-here.ensures, c.place_fault.ensures, take_rest places 1, c.in-Some.ensures.word)
    (one_more (name_fault c.args.self.now c.args.line) places _ _ _ c.in-len1-up.len_at_least)
