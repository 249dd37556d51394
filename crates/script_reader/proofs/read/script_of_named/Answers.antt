use Rattle.std.proofs.Common.{sym, ◌∙◌, ap, map, List}
use Rattle.std.specs.Prelude.{Ok}
use Rattle.std.proofs.lemmas.Result.{err_from_is_err_and}
use Rattle.script_table.specs.Structure.{Said}
use Rattle.script_table.specs.Names.{Declared, Entry, declared}
use Rattle.script_table.specs.Build.{script_of}
use Rattle.script_table.specs.Read.{said_in}
use Rattle.script_reader.specs.Begun.{begun}
use Rattle.script_reader.specs.Declarations.{naming_lines}
use Rattle.script_reader.proofs.Unnamed.{two_of_naming}
use Rattle.script_reader.proofs.Whole.{ends_in_two, ends_in_three, no_fault_at_all}
use Rattle.script_reader.proofs.read.script_of_named.Goals as goal

pub returns-in_err-check_names : goal.returns-in_err-check_names
returns-in_err-check_names c rows ahead is =
    let p = err_from_is_err_and c.from_residual.result c.from_residual.ensures.1 in
    let names = c.requires.declared ∙ ap declared is.said in
    let lines = ap (map (λ s. s.now)) c.as_slice.ensures.value ∙ (c.requires.lines ∙ ap naming_lines is.said) in
    let two = rw (lines, names, two_of_naming) at c.in_err-check_names.ensures in
    rw (p.1, p.2) (ends_in_two rows (begun c.args.version ahead) c.in_err-check_names.field-0.0 is.faultless two)

pub returns-in_err-check_ranges : goal.returns-in_err-check_ranges
returns-in_err-check_ranges c rows ahead is =
    let p = err_from_is_err_and c.from_residual-in_err-check_ranges.result c.from_residual-in_err-check_ranges.ensures.1 in
    let names = c.requires.declared ∙ ap declared is.said in
    let lines = ap (map (λ s. s.now)) c.as_slice.ensures.value ∙ (c.requires.lines ∙ ap naming_lines is.said) in
    let two = rw (lines, names, two_of_naming) at c.in_ok-check_names.ensures in
    let statements = c.as_slice-statements.ensures.value ∙ is.said in
    let three = rw (is.last, statements) at c.in_err-check_ranges.ensures in
    rw (p.1, p.2) (ends_in_three rows (begun c.args.version ahead) c.in_err-check_ranges.field-0.0 is.faultless two three)

pub returns : goal.returns
returns c rows ahead is =
    let said = said_in rows (begun c.args.version ahead) in
    let names = c.requires.declared ∙ ap declared is.said in
    let lines = ap (map (λ s. s.now)) c.as_slice.ensures.value ∙ (c.requires.lines ∙ ap naming_lines is.said) in
    let two = rw (lines, names, two_of_naming) at c.in_ok-check_names.ensures in
    let statements = c.as_slice-statements.ensures.value ∙ is.said in
    let three = rw (is.last, statements) at c.in_ok-check_ranges.ensures in
    let entries = c.names.ensures ∙ ap (λ (d : Declared). d.names) names in
    let built = c.in_ok-script.ensures ∙ (ap (λ (ss : List Said). script_of c.args.version c.names.result.now ss) statements ∙ ap (λ (es : List Entry). script_of c.args.version es said) entries) in
    no_fault_at_all rows (begun c.args.version ahead) is.faultless two three ∙ ap Ok (sym built)
