use Rattle.std.proofs.Common.{◌≡◌, ◌∙◌, ◌+◌, add-one, arith, below_more, subst, ℕ}
use Rattle.kernel_texts.specs.Rows.{thread_fact_of}
use Rattle.kernel_texts.specs.Short.{HasShortText}
use Rattle.kernel_looks.specs.Ahead.{past, row_from}
use Rattle.kernel_looks.specs.Desk.{WentOn}
use Rattle.kernel_looks.proofs.Looking.{went_both}
use Rattle.kernel_looks.proofs.Stretches.{ahead_other, past_memory, skip_facts}
use Rattle.kernel_looks.proofs.look_threads.look_at_next_facts.Goals as goal

pub returns-then-same-most-clause-kept : goal.returns-then-same-most-clause-kept
returns-then-same-most-clause-kept c =
    let decls = c.args.decls.now in
    let m = c.args.parts.now.machine in
    let n = c.from.result in
    let is = c.from.ensures in
    let all : n ≡ c.args.most = is ∙ c.if-same-most.true in
    let found = c.told_ahead-same.ensures in
    let room = found.places in
    subst (λ (k : ℕ). WentOn c.args.next.now c.args.next.now (past c.args.stretch.now c.args.desk.now) (past c.skip.new.self c.args.desk.now) (row_from decls c.args.row m c.args.from k)) all
    (skip_facts c.args.next.now c.args.desk.now c.args.stretch.now c.skip.new.self (λ (k : ℕ). thread_fact_of c.args.row m (c.args.from + k)) n c.requires.stretch (omega (arith, room, is)) c.skip.ensures
    (λ k low. found.told k (omega (arith, low, is))) decls c.requires.memory)

pub returns-then-same-most-clause-short : goal.returns-then-same-most-clause-short
returns-then-same-most-clause-short c k low =
    let all = c.if-same-most.true in
    let here = c.told_ahead-same.ensures.told k (omega (arith, low, all)) c.args.decls.now c.requires.memory in
    here.short

pub look_at_thread_fact-requires-clause-memory : goal.look_at_thread_fact-requires-clause-memory
look_at_thread_fact-requires-clause-memory c = past_memory c.args.decls.now c.args.desk.now c.go_on.new.self c.skip.new.self c.go_on.ensures c.requires.memory

pub returns-clause-kept : goal.returns-clause-kept
returns-clause-kept c =
    let decls = c.args.decls.now in
    let m = c.args.parts.now.machine in
    let n = c.from.result in
    let is = c.from.ensures in
    let found = c.told_ahead-same.ensures in
    let room = found.places in
    let skipped =
    subst (λ (k : ℕ). WentOn c.args.next.now c.args.next.now (past c.args.stretch.now c.args.desk.now) (past c.skip.new.self c.args.desk.now) (row_from decls c.args.row m c.args.from k)) is
    (skip_facts c.args.next.now c.args.desk.now c.args.stretch.now c.skip.new.self (λ (k : ℕ). thread_fact_of c.args.row m (c.args.from + k)) n c.requires.stretch (omega (arith, room, is)) c.skip.ensures
    (λ k low. found.told k (omega (arith, low, is))) decls c.requires.memory) in
    rw add-one
    (went_both _ _ _ _ _ _ _ _ skipped
    (ahead_other _ _ c.args.desk.now c.go_on.new.self _ c.skip.new.self c.begin.result _ c.go_on.ensures c.begin.ensures.none (rw c.tid.ensures at c.look_at_thread_fact.ensures.kept)))

pub returns-clause-short : goal.returns-clause-short
returns-clause-short c =
    let holds = λ (k : ℕ). HasShortText c.args.decls.now (thread_fact_of c.args.row c.args.parts.now.machine (c.args.from + k)) in
    below_more holds c.told_ahead-same.result (λ k low. let here = c.told_ahead-same.ensures.told k low c.args.decls.now c.requires.memory in here.short)
    (rw c.tid.ensures at c.look_at_thread_fact.ensures.short)
