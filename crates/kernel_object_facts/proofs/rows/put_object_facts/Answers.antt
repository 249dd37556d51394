use Rattle.std.proofs.Common.{subst, sym}
use Rattle.words_script.specs.declared.name_kind.NameKind.TheVariants as kind
use Rattle.kernel_texts.specs.Rows.{object_facts}
use Rattle.kernel_texts.specs.Short.{HaveShortTexts}
use Rattle.kernel_texts.specs.declared.rows.ObjectRow.{ObjectRow}
use Rattle.kernel_texts.proofs.Modest.{waiters_short}
use Rattle.kernel_texts.proofs.ShortFacts.{both_short}
use Rattle.kernel_object_facts.proofs.rows.put_object_facts.Goals as goal

pub returns-in-Owner-clause-short : goal.returns-in-Owner-clause-short
returns-in-Owner-clause-short g c = subst (λ (row : ObjectRow). HaveShortTexts c.args.decls.now (object_facts row c.args.parts.now.machine c.args.k)) (sym c.in-Owner.is) (c.put_owner.ensures.short, tt)

pub returns-in-MutexWaiters-clause-short : goal.returns-in-MutexWaiters-clause-short
returns-in-MutexWaiters-clause-short g c = subst (λ (row : ObjectRow). HaveShortTexts c.args.decls.now (object_facts row c.args.parts.now.machine c.args.k)) (sym c.in-MutexWaiters.is) (waiters_short c.args.decls.now kind.Mutex c.args.k _, tt)

pub returns-in-ConditionWaiters-clause-short : goal.returns-in-ConditionWaiters-clause-short
returns-in-ConditionWaiters-clause-short g c = subst (λ (row : ObjectRow). HaveShortTexts c.args.decls.now (object_facts row c.args.parts.now.machine c.args.k)) (sym c.in-ConditionWaiters.is) (waiters_short c.args.decls.now kind.Cond c.args.k _, tt)

pub returns-in-SemaphoreWaiters-clause-short : goal.returns-in-SemaphoreWaiters-clause-short
returns-in-SemaphoreWaiters-clause-short g c = subst (λ (row : ObjectRow). HaveShortTexts c.args.decls.now (object_facts row c.args.parts.now.machine c.args.k)) (sym c.in-SemaphoreWaiters.is) (waiters_short c.args.decls.now kind.Sem c.args.k _, tt)

pub returns-in-Value-clause-short : goal.returns-in-Value-clause-short
returns-in-Value-clause-short g c = subst (λ (row : ObjectRow). HaveShortTexts c.args.decls.now (object_facts row c.args.parts.now.machine c.args.k)) (sym c.in-Value.is) (c.put_semaphore.ensures.short, tt)

pub returns-in-Messages-clause-short : goal.returns-in-Messages-clause-short
returns-in-Messages-clause-short g c = subst (λ (row : ObjectRow). HaveShortTexts c.args.decls.now (object_facts row c.args.parts.now.machine c.args.k)) (sym c.in-Messages.is) (c.put_messages.ensures.short, tt)

pub returns-in-QueueWaiters-clause-short : goal.returns-in-QueueWaiters-clause-short
returns-in-QueueWaiters-clause-short g c = subst (λ (row : ObjectRow). HaveShortTexts c.args.decls.now (object_facts row c.args.parts.now.machine c.args.k)) (sym c.in-QueueWaiters.is) (both_short c.args.decls.now c.args.parts.now.machine c.args.k)

pub returns-in-Registration-clause-short : goal.returns-in-Registration-clause-short
returns-in-Registration-clause-short g c = subst (λ (row : ObjectRow). HaveShortTexts c.args.decls.now (object_facts row c.args.parts.now.machine c.args.k)) (sym c.in-Registration.is) (c.put_registration.ensures.short, tt)

pub returns-in-Arming-clause-short : goal.returns-in-Arming-clause-short
returns-in-Arming-clause-short g c = subst (λ (row : ObjectRow). HaveShortTexts c.args.decls.now (object_facts row c.args.parts.now.machine c.args.k)) (sym c.in-Arming.is) (c.put_timer.ensures.short, tt)
