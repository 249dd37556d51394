use Rattle.std.proofs.Common.{ap, refl}
use Rattle.script_lex.specs.Words.{WordsAhead}
use Rattle.script_reader.proofs.Headings.{of_bad_line}
use Rattle.script_reader.proofs.structure.heading.by_bad_line.Goals as goal

pub returns-in-None : goal.returns-in-None
returns-in-None c =
    let at = c.requires.number in
    let h = of_bad_line _ _ _ _ _ _ _ _ _ c.requires.lines at.0 at.1 c.in_ok-bytes.ensures c.as_slice.ensures.value (ap (λ (w : WordsAhead). w.words) c.in_bytes-words.ensures) in
    rw (← h, c.in-None.ensures.word, c.requires.bad) refl

pub returns : goal.returns
returns c =
    let at = c.requires.number in
    let h = of_bad_line _ _ _ _ _ _ _ _ _ c.requires.lines at.0 at.1 c.in_ok-bytes.ensures c.as_slice.ensures.value (ap (λ (w : WordsAhead). w.words) c.in_bytes-words.ensures) in
    rw (← h, c.in-Some.ensures.word) c.by_first.ensures
