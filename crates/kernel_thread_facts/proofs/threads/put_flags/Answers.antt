use Rattle.std.proofs.Common.{◌≡◌, ◌++◌, ◌∷◌, [], codes, false}
use Rattle.script_writer.specs.Canon.{flag_words}
use Rattle.script_writer.specs.Words.{is_nil}
use Rattle.script_printer.proofs.Puts.{puts_both}
use Rattle.kernel_texts.proofs.Lines.{flags_line, some_first, some_second, some_third}
use Rattle.kernel_texts.proofs.Puts.{puts_as}
use Rattle.kernel_thread_facts.proofs.threads.put_flags.Goals as goal
use Rattle.kernel_thread_facts.proofs.threads.put_flags.Goals.{else-not-is_requested-via-then-not-is_requested+then-not-is_disabled+else-not-is_ending, else-not-is_requested-via-then-not-is_requested+else-not-is_disabled, else-not-is_requested-via-else-not-is_requested}

pub returns : goal.returns
returns g c =
    let put = puts_both _ _ _ _ _ _ _ c.begin.ensures.text
    (puts_both _ _ _ _ _ _ _ c.put_flag.ensures (puts_both _ _ _ _ _ _ _ c.put_flag-2.ensures (puts_both _ _ _ _ _ _ _ c.put_flag-3.ensures c.end.ensures))) in
    let a = flag_words (codes "requested") c.args.is_requested in
    let b = flag_words (codes "disabled") c.args.is_disabled in
    let d = flag_words (codes "ending") c.args.is_ending in
    let some : is_nil ((a ++ b) ++ d) ≡ false = elim c.else-not-is_requested.branch [
      | else-not-is_requested-via-then-not-is_requested+then-not-is_disabled+else-not-is_ending w ↦
          some_third (codes "requested") (codes "disabled") (codes "ending") c.args.is_requested c.args.is_disabled c.args.is_ending w.if-not-is_ending.false
      | else-not-is_requested-via-then-not-is_requested+else-not-is_disabled w ↦
          some_second (codes "requested") (codes "disabled") (codes "ending") c.args.is_requested c.args.is_disabled c.args.is_ending w.if-not-is_disabled.false
      | else-not-is_requested-via-else-not-is_requested w ↦
          some_first (codes "requested") (codes "disabled") (codes "ending") c.args.is_requested c.args.is_disabled c.args.is_ending w.if-not-is_requested.false
    ] in
    rw c.thread_name.ensures.name at (puts_as _ _ _ _ _ _ (flags_line (codes "cancelability") (c.thread_name.result.now ∷ []) a b d some) put)
