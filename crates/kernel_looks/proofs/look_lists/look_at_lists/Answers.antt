use Rattle.std.proofs.Common.{◌≡◌, ◌+◌, ◌∷◌, [], ap, arith, subst, sym, ℕ}
use Rattle.kernel_texts.specs.Rows.{list_text}
use Rattle.kernel_texts.specs.Kept.{lists_kept}
use Rattle.kernel_looks.specs.Ahead.{past}
use Rattle.kernel_looks.specs.Desk.{WentOn}
use Rattle.kernel_looks.specs.declared.desk.Desk.{Desk}
use Rattle.kernel_looks.proofs.Rows.{kept_like}
use Rattle.kernel_looks.proofs.Stretches.{past_memory, past_none}
use Rattle.kernel_looks.proofs.look_lists.look_at_lists.Goals as goal

pub returns-clause-kept : goal.returns-clause-kept
returns-clause-kept c =
    let ds = c.args.decls.now in
    let lists = c.args.parts.now.machine.lists in
    subst (λ (d : Desk). WentOn c.args.next.now c.look_at_each_list.new.next c.args.desk.now d (lists_kept ds lists)) (sym c.go_on.ensures)
    (subst (λ (d : Desk). WentOn c.args.next.now c.look_at_each_list.new.next d (past c.look_at_each_list.new.stretch c.look_at_each_list.new.desk) (lists_kept ds lists))
    (past_none c.args.desk.now c.begin-stretch.result c.begin-stretch.ensures.none)
    (subst (WentOn c.args.next.now c.look_at_each_list.new.next (past c.begin-stretch.result c.args.desk.now) (past c.look_at_each_list.new.stretch c.look_at_each_list.new.desk))
    (kept_like (λ (i : ℕ). list_text ds 255 lists (0 + i) ∷ []) (λ (i : ℕ). list_text ds 255 lists i ∷ []) 255 (λ i. let same : 0 + i ≡ i = omega arith in ap (λ (k : ℕ). list_text ds 255 lists k ∷ []) same))
    c.look_at_each_list.ensures.kept))

pub returns-clause-memory : goal.returns-clause-memory
returns-clause-memory c = past_memory c.args.decls.now c.look_at_each_list.new.desk c.go_on.new.self c.look_at_each_list.new.stretch c.go_on.ensures c.look_at_each_list.ensures.memory
