use Rattle.std.proofs.Common.{◌≡◌, ◌+◌, arith, ℕ}
use Rattle.kernel_looks.specs.Nothings.{list_at}
use Rattle.kernel_looks.proofs.Stretches.{ahead_other, past_memory, skip_facts}
use Rattle.kernel_looks.proofs.look_lists.look_at_next_lists.Goals as goal

pub returns-then-same-gt0-clause-kept : goal.returns-then-same-gt0-clause-kept
returns-then-same-gt0-clause-kept c =
    let decls = c.args.decls.now in
    let lists = c.args.parts.now.machine.lists in
    let n = c.lists_ahead-same.result in
    let found = c.lists_ahead-same.ensures in
    let is = c.from.ensures in
    skip_facts c.args.next.now c.args.desk.now c.args.stretch.now c.skip.new.self (λ (k : ℕ). list_at lists (c.args.from + k)) n c.requires.stretch found.places (rw is at c.skip.ensures) found.told decls c.requires.memory

pub tell_list-requires : goal.tell_list-requires
tell_list-requires c = record { memory = past_memory c.args.decls.now c.args.desk.now c.go_on.new.self c.args.stretch.now c.go_on.ensures c.requires.memory }

pub returns-clause-kept : goal.returns-clause-kept
returns-clause-kept c =
    let here : c.args.from + 0 ≡ c.args.from = omega arith in
    rw here (ahead_other _ _ c.args.desk.now c.go_on.new.self _ c.args.stretch.now c.begin.result _ c.go_on.ensures c.begin.ensures.none (rw c.prio_of.ensures at c.tell_list.ensures.kept))
