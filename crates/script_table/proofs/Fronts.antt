-- The patterns in front of those of strict servers.
use Rattle.std.proofs.Common.{◌≡◌, ℕ, ◌≤◌, ◌+◌, List, ◌++◌, length, take, map, refl, sym, ◌∙◌, ap, arith}
use Rattle.script_table.specs.declared.pattern.Pattern.{Pattern}
use Rattle.script_table.specs.Patterns.{Row, row_of}
use Rattle.script_table.specs.Table.{declaration_patterns, call_patterns}
use Rattle.std.proofs.lemmas.List.{take-append-le, take-map, length-map, length-append, length-take-le, take_all}

pub declarations : length declaration_patterns ≡ 23
unfolding declaration_patterns
declarations = refl

pub calls : length call_patterns ≡ 53
unfolding call_patterns
calls = refl

room : (n : ℕ) (ps : List Pattern) (rows more : List Row) → length rows ≡ n → map row_of ps ≡ rows ++ more → n ≤ length ps
room n ps rows more long is =
    let e : length ps ≡ length rows + length more = sym (length-map ps row_of) ∙ (ap length is ∙ length-append rows more) in
    omega (arith, e, long)

pub long_enough : (n : ℕ) (ps : List Pattern) (rows more : List Row) → length rows ≡ n → map row_of ps ≡ rows ++ more → n ≡ length (take n ps)
long_enough n ps rows more long is = sym (length-take-le n ps (room n ps rows more long is))

pub front : (n : ℕ) (ps : List Pattern) (rows more : List Row) → length rows ≡ n → map row_of ps ≡ rows ++ more → map row_of (take n ps) ≡ rows
front n ps rows more long is =
    sym (take-map row_of n ps) ∙ (ap (take n) is ∙ (take-append-le n rows more (omega (arith, long)) ∙ take_all n rows (omega (arith, long))))
