use Rattle.std.proofs.Common.{◌++◌, List, ℕ, decimal, sym, ◌∙◌, ap, subst, arith}
use Rattle.std.proofs.lemmas.Fmt.{decimal_digit}
use Rattle.words_numbers.specs.declared.res.Res.TheVariants as res
use Rattle.words_trace.specs.declared.event.Event.TheVariants as event
use Rattle.words_trace.specs.Text.{event_words}
use Rattle.parts_bytes.specs.Placed.{Placed}
use Rattle.parts_bytes.proofs.Placed.{placed_then}
use Rattle.parts_tracer.specs.Placed.{words_behind}
use Rattle.parts_tracer.proofs.Placed.{line_by_words}
use Rattle.parts_tracer.proofs.common.SuccessLineLine.place.Goals as goal

pub returns-clause-placed : goal.returns-clause-placed
returns-clause-placed c =
    let l = c.self.inside in
    let done = c.place_success in
    let words = event_words l.names.now (event.Return l.thread l.call res.Zero 0) in
    let behind : Placed c.place-at.new.buf done.new.text c.place-at.result (words_behind words) done.result =
    rw (decimal_digit 0 (omega arith)) done.ensures.placed in
    subst (λ (t : List ℕ). Placed c.args.buf.now done.new.text c.args.at t done.result)
    (ap (λ (n : ℕ). decimal n ++ words_behind words) c.get.ensures.value ∙ sym (line_by_words (decimal l.time) words) ∙ c.self.view_is)
    (placed_then c.place-at.ensures.placed behind)
