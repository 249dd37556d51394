use Rattle.std.proofs.Common.{◌∙◌, ap, subst, sym, ℕ, ◌*◌}
use Rattle.kernel_looks.specs.Nothings.{nothings}
use Rattle.kernel_looks.specs.Desk.{WentOn}
use Rattle.kernel_looks.proofs.BareRows.{bare_rows}
use Rattle.kernel_looks.proofs.NothingTold.{nothing_short}
use Rattle.kernel_looks.proofs.look_threads.look_at_inner_rows.Goals as goal

pub returns-then-are_bare_inside-clause-kept : goal.returns-then-are_bare_inside-clause-kept
returns-then-are_bare_inside-clause-kept c =
    let m = c.args.parts.now.machine in
    let ds = c.args.decls.now in
    subst (WentOn c.args.next.now c.args.next.now c.args.desk.now c.go_over_nothings.new.self)
    (ap (λ (n : ℕ). nothings (4 * n)) (c.from.ensures ∙ c.count.ensures.threads) ∙ sym (bare_rows ds m (c.are_bare_inside.ensures c.if-are_bare_inside.true)))
    (c.go_over_nothings.ensures.went ds c.requires.memory c.args.next.now)

pub returns-then-are_bare_inside-clause-short : goal.returns-then-are_bare_inside-clause-short
returns-then-are_bare_inside-clause-short c row inner t low = nothing_short c.args.decls.now _ (c.are_bare_inside.ensures c.if-are_bare_inside.true row inner t low c.args.decls.now)

pub returns-then-are_bare_inside-clause-memory : goal.returns-then-are_bare_inside-clause-memory
returns-then-are_bare_inside-clause-memory c = c.go_over_nothings.ensures.seen c.args.decls.now c.requires.memory
