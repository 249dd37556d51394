-- A number behind the keyword that is the only word there.
use Rattle.std.proofs.Common.{◌≡◌, ℕ, List, [], ◌∷◌, Option, None, Some, true, sym, ◌∙◌, ap}
use Rattle.std.specs.Prelude.{IfSome}
use Rattle.script_lex.specs.Words.{words_of}
use Rattle.script_table.specs.Words.{is_number, value_of}
use Rattle.script_table.specs.Ranges.{word}
use Rattle.script_table.proofs.Alone.{number_alone}

pub only_number : (number : Option ℕ) (bytes keyword : List ℕ) (ahead words : List (List ℕ)) →
    IfSome number (λ n. (is_number bytes ≡ true) × (n ≡ value_of bytes)) → words_of bytes ≡ ahead → keyword ∷ ahead ≡ words → IfSome number (λ n. n ≡ value_of (word 1 words))
only_number None bytes keyword ahead words said is_ahead is_words = tt
only_number (Some n) bytes keyword ahead words said is_ahead is_words =
    let two : keyword ∷ bytes ∷ [] ≡ words = ap (λ ws. keyword ∷ ws) (sym (number_alone bytes said.0) ∙ is_ahead) ∙ is_words in
    said.1 ∙ ap (λ ws. value_of (word 1 ws)) two
