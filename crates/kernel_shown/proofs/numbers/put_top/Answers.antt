use Rattle.std.proofs.Common.{◌≡◌, ap, arith, ◌∙◌}
use Rattle.words_numbers.specs.Words.{res_text}
use Rattle.script_printer.proofs.Puts.{puts_both}
use Rattle.kernel_texts.proofs.Puts.{puts_as}
use Rattle.kernel_texts.proofs.Ticks.{top_text}
use Rattle.kernel_shown.proofs.numbers.put_top.Goals as goal

pub returns-in-len1-up : goal.returns-in-len1-up
returns-in-len1-up g c =
    let put = puts_both _ _ _ _ _ _ _ c.line.ensures.text c.put_left.ensures in
    let top = top_text c.args.decls.now c.args.t c.args.ticks c.args.frames.now c.top-item.result c.top-item.result (omega arith) c.top-item.is in
    let text : c.as_bytes.result.now ≡ res_text c.top-item.result.result = c.as_bytes.ensures.value ∙ c.text.ensures ∙ ap res_text c.result.ensures in
    puts_as _ _ _ _ _ _ top (rw (c.thread_name.ensures.name, c.register.ensures.value, text, c.value.ensures, c.left.ensures) at put)
