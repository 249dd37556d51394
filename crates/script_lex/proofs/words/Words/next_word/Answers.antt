use Rattle.std.proofs.Common.{refl, sym, ap, ◌∙◌, arith, length-drop}
use Rattle.std.proofs.lemmas.List.{take_rest}
use Rattle.script_lex.specs.Words.{WordsAhead}
use Rattle.script_lex.proofs.words.Words.next_word.Goals as goal

pub returns-in-None : goal.returns-in-None
returns-in-None c = record { word = sym (ap (λ (w : WordsAhead). w.words) c.self.view_is) ∙ c.in-None.ensures.words; place = refl }

pub returns-in-Some : goal.returns-in-Some
returns-in-Some c =
    let rest = take_rest c.self.inside.ahead.now c.in-Some.passed in
    record {
      word = rw rest (sym (ap (λ (w : WordsAhead). w.words) c.self.view_is) ∙ c.in-Some.ensures.words);
      place = rw rest (sym (ap (λ (w : WordsAhead). w.places) c.self.view_is) ∙ c.in-Some.ensures.places);
    }

pub invariant_of-self : goal.invariant_of-self
invariant_of-self c =
    let ahead = c.self.inside.ahead.now in let passed = c.in-Some.passed in
    let fits = c.self.invariant in
    let bound = c.in-Some.ensures.bound in
    (rw (take_rest ahead passed, length-drop passed ahead) (omega (arith, fits.0, bound)), omega (arith, fits.1, bound))
