use Rattle.std.proofs.Common.{ap, arith, length, subst, sym, ◌≡◌, ◌∙◌}
use Rattle.rules_facts.specs.Threads.{inner_bodies, planned}
use Rattle.kernel_texts.specs.declared.rows.ThreadRow.{ThreadRow}
use Rattle.kernel_looks.specs.Nothing.{IsBare}
use Rattle.kernel_looks.proofs.NothingTold.{bare_cancelability, bare_cleanups, bare_frames, bare_mask, bare_pending, no_members}
use Rattle.kernel_looks.proofs.nothing.is_bare.Goals as goal

pub returns-in-Frames : goal.returns-in-Frames
returns-in-Frames c e = subst (λ (row : ThreadRow). IsBare row c.args.thread.now) (sym c.in-Frames.is) (bare_frames c.args.thread.now (ap inner_bodies (sym c.frames.ensures) ∙ c.is_at_main.ensures e))

pub returns-in-Mask : goal.returns-in-Mask
returns-in-Mask c e =
    let zero : c.bits.result ≡ 0 = grind (arith, e) in
    subst (λ (row : ThreadRow). IsBare row c.args.thread.now) (sym c.in-Mask.is) (bare_mask c.args.thread.now (sym c.mask.ensures ∙ sym c.bits.ensures ∙ zero))

pub returns-in-Cancelability : goal.returns-in-Cancelability
returns-in-Cancelability c e =
    subst (λ (row : ThreadRow). IsBare row c.args.thread.now) (sym c.in-Cancelability.is)
    (bare_cancelability c.args.thread.now (c.is_plain.ensures.requested e) (c.is_plain.ensures.enabled e) (c.is_plain.ensures.ending e))

pub returns-in-Cleanups : goal.returns-in-Cleanups
returns-in-Cleanups c e =
    let none : length c.cleanups.result.now ≡ 0 = grind (arith, c.is_empty.ensures, e) in
    subst (λ (row : ThreadRow). IsBare row c.args.thread.now) (sym c.in-Cleanups.is) (bare_cleanups c.args.thread.now (sym c.cleanups.ensures ∙ no_members c.cleanups.result.now none))

pub returns-in-Pending : goal.returns-in-Pending
returns-in-Pending c e = subst (λ (row : ThreadRow). IsBare row c.args.thread.now) (sym c.in-Pending.is) (bare_pending c.args.thread.now (ap planned (sym c.server.ensures) ∙ c.is_unplanned.ensures e))
