use Rattle.std.proofs.Common.{◌∙◌, sym}
use Rattle.script_reader.proofs.Headings.{clean_words, by_next, past_line, at_end}
use Rattle.script_reader.proofs.structure.heading.heading_of.Goals as goal

pub returns-then-has_bad_byte : goal.returns-then-has_bad_byte
returns-then-has_bad_byte c = rw (← c.loop-line.invariant.found, ← c.loop-line.invariant.same) c.by_bad_line.ensures

pub returns-in-Some-next_word : goal.returns-in-Some-next_word
returns-in-Some-next_word c =
    let at = c.in-Some.ensures.number in
    let good = clean_words c.in-Some.line.bytes.now (sym c.has_bad_byte.ensures ∙ c.if-has_bad_byte.false) in
    let h = by_next _ _ _ _ _ _ _ c.in-Some.ensures.line at.1 (good ∙ (sym c.words-words.ensures.words ∙ c.in-Some-next_word.ensures.word)) c.loop-line.invariant.found in
    rw (← h, ← at.0) c.by_first.ensures

pub loop-line-preserved : goal.loop-line-preserved
loop-line-preserved c =
    let at = c.in-Some.ensures.number in
    record {
      found = past_line _ _ _ _ _ _ _ c.in-Some.ensures.line at.1 (sym c.words-words.ensures.words) c.in_default-next_word.ensures.word (sym c.has_bad_byte.ensures ∙ c.if-has_bad_byte.false) c.loop-line.invariant.found;
      same = c.again-lines.ensures;
    }

pub returns : goal.returns
returns c = at_end c.loop-line.rest _ _ _ c.in_default.ensures.line c.begin.ensures.0 (c.begin.ensures.1 ∙ c.loop-line.invariant.same) c.loop-line.invariant.found
