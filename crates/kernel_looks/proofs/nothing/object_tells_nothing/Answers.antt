use Rattle.std.proofs.Common.{subst, sym}
use Rattle.words_script.specs.declared.name_kind.NameKind.TheVariants as kind
use Rattle.kernel_texts.specs.Rows.{object_facts}
use Rattle.kernel_texts.specs.declared.rows.ObjectRow.{ObjectRow}
use Rattle.kernel_looks.specs.Nothing.{TellNothing}
use Rattle.kernel_looks.proofs.NothingTold.{nobody_for}
use Rattle.kernel_looks.proofs.nothing.object_tells_nothing.Goals as goal

pub returns-in-MutexWaiters : goal.returns-in-MutexWaiters
returns-in-MutexWaiters c e =
    subst (λ (row : ObjectRow). TellNothing (object_facts row c.args.parts.now.machine c.args.k)) (sym c.in-MutexWaiters.is)
    (nobody_for c.args.parts.now.machine c.args.k kind.Mutex _ (c.nobody_waits.ensures e))

pub returns-in-ConditionWaiters : goal.returns-in-ConditionWaiters
returns-in-ConditionWaiters c e =
    subst (λ (row : ObjectRow). TellNothing (object_facts row c.args.parts.now.machine c.args.k)) (sym c.in-ConditionWaiters.is)
    (nobody_for c.args.parts.now.machine c.args.k kind.Cond _ (c.nobody_waits-in-ConditionWaiters.ensures e))

pub returns-in-SemaphoreWaiters : goal.returns-in-SemaphoreWaiters
returns-in-SemaphoreWaiters c e =
    subst (λ (row : ObjectRow). TellNothing (object_facts row c.args.parts.now.machine c.args.k)) (sym c.in-SemaphoreWaiters.is)
    (nobody_for c.args.parts.now.machine c.args.k kind.Sem _ (c.nobody_waits-in-SemaphoreWaiters.ensures e))

pub returns-in-Owner : goal.returns-in-Owner
returns-in-Owner c e =
    subst (λ (row : ObjectRow). TellNothing (object_facts row c.args.parts.now.machine c.args.k)) (sym c.in-Owner.is) (c.is_unowned.ensures e)

pub returns-in-Registration : goal.returns-in-Registration
returns-in-Registration c e =
    subst (λ (row : ObjectRow). TellNothing (object_facts row c.args.parts.now.machine c.args.k)) (sym c.in-Registration.is) (c.is_unregistered.ensures e)

pub returns-in-Arming : goal.returns-in-Arming
returns-in-Arming c e =
    subst (λ (row : ObjectRow). TellNothing (object_facts row c.args.parts.now.machine c.args.k)) (sym c.in-Arming.is) (c.is_disarmed.ensures e)
