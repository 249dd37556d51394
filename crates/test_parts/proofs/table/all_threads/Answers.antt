use Rattle.std.proofs.Common.{◌≤◌, ◌∷◌, [], List, ap, arith, length, length-append, subst, sym}
use Rattle.std.specs.Prelude.{filter_map}
use Rattle.words_script.specs.declared.decl.Decl.{Decl}
use Rattle.rules_machine.specs.Declarations.{declared_thread}
use Rattle.test_parts.proofs.Many.{few_threads, no_timer_more}
use Rattle.test_parts.proofs.table.all_threads.Goals as goal

pub loop-number-preserved : goal.loop-number-preserved
loop-number-preserved c =
    let items = c.in_ok-push.ensures.items in
    let h = c.loop-number.invariant in
    let long = ap length items in
    let sum = length-append c.loop-number.decls.items (c.in_ok-thread_at.field-0 ∷ []) in
    let few = h.0 in
    (omega (arith, long, sum, few), no_timer_more c.loop-number.decls.items _ c.in_ok-thread_at.field-0 items c.in_ok-thread_at.ensures h.1)

pub returns-clause-threads : goal.returns-clause-threads
returns-clause-threads c =
    let few = c.loop-number.invariant.0 in
    let end = c.loop-number.auto.number-end in
    subst (λ (decls : List Decl). length (filter_map declared_thread decls) ≤ 256) (sym c.new.ensures) (few_threads c.loop-number.decls.items 256 (omega (arith, few, end)))
