use Rattle.std.proofs.Common.{◌≡◌, ◌+◌, ◌<◌, ◌≤◌, ◌⊎◌, [], ◌∷◌, arith, inl, inr, length, refl, subst, sym, ℕ}
use Rattle.std.specs.Prelude.{◌-◌}
use Rattle.kernel_texts.specs.Lines.{fact_text}
use Rattle.kernel_texts.specs.Rows.{thread_fact_of}
use Rattle.kernel_texts.specs.Short.{HasShortText}
use Rattle.kernel_texts.specs.Kept.{thread_row_kept}
use Rattle.kernel_looks.specs.Ahead.{past}
use Rattle.kernel_looks.specs.Desk.{WentOn}
use Rattle.kernel_looks.specs.declared.desk.Desk.{Desk}
use Rattle.kernel_looks.proofs.Rows.{kept_sum}
use Rattle.kernel_looks.proofs.Looking.{went_both, went_none}
use Rattle.kernel_looks.proofs.Stretches.{past_memory, past_none}
use Rattle.kernel_looks.proofs.look_threads.look_at_thread_row.Goals as goal

within : (i n : ℕ) → (i < n) ⊎ (n ≤ i)
within i n = grind arith

-- what holds below a number, and of so many from there on
both_below : (P : ℕ → Type 0) (a n : ℕ) → ((t : ℕ) → t < a → P t) → ((k : ℕ) → k < n → P (a + k)) → (t : ℕ) → t < a + n → P t
both_below P a n first last t low = by_place (within t a)
  where
    by_place : (t < a) ⊎ (a ≤ t) → P t
    by_place (inl less) = first t less
    by_place (inr more) = let here : a + (t - a) ≡ t = omega (arith, more) in subst P here (last (t - a) (omega (arith, more, low)))

pub loop-number-init : goal.loop-number-init
loop-number-init c = record {
  few = omega arith;
  stretch = c.begin-stretch.ensures.stretch;
  kept = subst (λ (d : Desk). WentOn c.args.next.now c.args.next.now c.args.desk.now d []) (sym (past_none c.args.desk.now c.begin-stretch.result c.begin-stretch.ensures.none)) (went_none _ _);
  short = λ t low. absurd (omega (arith, low));
  memory = c.requires.memory;
}

pub loop-number-preserved : goal.loop-number-preserved
loop-number-preserved c =
    let decls = c.args.decls.now in
    let m = c.args.parts.now.machine in
    let step = c.look_at_next_facts-number.ensures in
    let more = step.few in
    let few = c.loop-number.invariant.few in
    let n = c.look_at_next_facts-number.result in
    record {
      few = omega (arith, more, few);
      stretch = step.stretch;
      kept = subst (WentOn c.args.next.now c.look_at_next_facts-number.new.next c.args.desk.now (past c.look_at_next_facts-number.new.stretch c.look_at_next_facts-number.new.desk))
          (sym (kept_sum (λ (t : ℕ). fact_text decls (thread_fact_of c.args.row m t) ∷ []) c.loop-number.number n (c.loop-number.number + n) refl))
          (went_both _ _ _ _ _ _ _ _ c.loop-number.invariant.kept step.kept);
      short = both_below (λ (t : ℕ). HasShortText decls (thread_fact_of c.args.row m t)) c.loop-number.number n c.loop-number.invariant.short step.short;
      memory = step.memory;
    }

pub returns-clause-kept : goal.returns-clause-kept
returns-clause-kept c =
    let few = c.loop-number.invariant.few in
    let all : c.loop-number.number ≡ length c.args.parts.now.machine.threads = omega (arith, few, c.loop-number-test.false, c.count-count.ensures.threads) in
    subst (λ (d : Desk). WentOn c.args.next.now c.loop-number.next c.args.desk.now d (thread_row_kept c.args.decls.now c.args.row c.args.parts.now.machine)) (sym c.go_on.ensures)
    (rw all at c.loop-number.invariant.kept)

pub returns-clause-memory : goal.returns-clause-memory
returns-clause-memory c = past_memory c.args.decls.now c.loop-number.desk c.go_on.new.self c.loop-number.stretch c.go_on.ensures c.loop-number.invariant.memory

pub returns-clause-short : goal.returns-clause-short
returns-clause-short c =
    let few = c.loop-number.invariant.few in
    let all : c.loop-number.number ≡ length c.args.parts.now.machine.threads = omega (arith, few, c.loop-number-test.false, c.count-count.ensures.threads) in
    rw all at c.loop-number.invariant.short
