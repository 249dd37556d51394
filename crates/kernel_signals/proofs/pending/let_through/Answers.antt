use Rattle.std.proofs.Common.{Bool, ◌-◌, ◌<◌, ◌^◌, ◌&&◌, ◌||◌, subst, sym, ap, ap₂, ◌∙◌}
use Rattle.std.specs.Prelude.{not, bit_and}
use Rattle.words_numbers.specs.Signals.{has_signal}
use Rattle.kernel_signals.proofs.Selecting.{all_let_through, kills_let_through}
use Rattle.kernel_signals.proofs.pending.let_through.Goals as goal

pub returns-then-runs_handlers : goal.returns-then-runs_handlers
returns-then-runs_handlers c s l =
    let fits = subst (λ n. n < 2 ^ 32) c.bits.ensures c.bits.type_inv in
    ap (λ n. has_signal n s) (c.new.ensures ∙ ap (λ n. 4294967295 - n) c.bits.ensures)
    ∙ all_let_through c.args.mask c.args.kills s fits l
    ∙ ap (λ (b : Bool). not (has_signal c.args.mask s) && (has_signal c.args.kills s || b)) (sym c.if-runs_handlers.true)

pub returns-else-runs_handlers : goal.returns-else-runs_handlers
returns-else-runs_handlers c s l =
    let fits = subst (λ n. n < 2 ^ 32) c.bits-else-runs_handlers-2.ensures c.bits-else-runs_handlers-2.type_inv in
    ap (λ n. has_signal n s) (c.new-else-runs_handlers.ensures ∙ ap₂ (λ k n. bit_and k (4294967295 - n)) c.bits-else-runs_handlers.ensures c.bits-else-runs_handlers-2.ensures)
    ∙ kills_let_through c.args.mask c.args.kills s fits l
    ∙ ap (λ (b : Bool). not (has_signal c.args.mask s) && (has_signal c.args.kills s || b)) (sym c.if-runs_handlers.false)
