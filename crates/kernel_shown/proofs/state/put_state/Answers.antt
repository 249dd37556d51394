use Rattle.std.proofs.Common.{◌≡◌, List, length, subst, ◌∙◌}
use Rattle.words_script.specs.declared.decl.Decl.{Decl}
use Rattle.script_printer.specs.Puts.{Puts}
use Rattle.script_printer.proofs.Puts.{puts_both}
use Rattle.kernel_texts.specs.Lines.{texts_below}
use Rattle.kernel_texts.specs.Rows.{left_out, list_text, numbers_text, signals_text, threads_text}
use Rattle.kernel_texts.proofs.Puts.{puts_as}
use Rattle.kernel_texts.specs.Picked.{left_in}
use Rattle.kernel_texts.proofs.Whole.{state_told}
use Rattle.kernel_shown.proofs.state.put_state.Goals as goal

pub returns : goal.returns
returns g c =
    let m = c.args.parts.now.machine in
    let same = (c.of.ensures ∙ c.items.ensures) in
    let every : length m.lists ≡ 255 = c.know_rows.ensures.lists in
    let lists = subst (λ (ds : List Decl). Puts g.K.Sink.text g.K.Sink.faults c.put_killed.new.out c.put_lists.new.out (texts_below (list_text ds 255 m.lists) 255)) same c.put_lists.ensures in
    let threads = subst (λ (ds : List Decl). Puts g.K.Sink.text g.K.Sink.faults c.put_lists.new.out c.put_threads.new.out (threads_text ds m)) same c.put_threads.ensures in
    let signals = subst (λ (ds : List Decl). Puts g.K.Sink.text g.K.Sink.faults c.put_objects.new.out c.put_signals.new.out (signals_text ds (left_in (left_out m) m))) same c.put_signals.ensures in
    let numbers = subst (λ (ds : List Decl). Puts g.K.Sink.text g.K.Sink.faults c.put_signals.new.out c.put_all_numbers.new.out (numbers_text ds m)) same c.put_all_numbers.ensures in
    let killed = rw c.killed.ensures at c.put_killed.ensures in
    puts_as _ _ _ _ _ _ (state_told c.args.script.now m every)
    (puts_both _ _ _ _ _ _ _ (puts_both _ _ _ _ _ _ _ (puts_both _ _ _ _ _ _ _ c.put_instant.ensures killed)
    (puts_both _ _ _ _ _ _ _ lists (puts_both _ _ _ _ _ _ _ threads (puts_both _ _ _ _ _ _ _ c.put_objects.ensures signals)))) numbers)
