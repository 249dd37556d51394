use Rattle.std.proofs.Common.{◌≡◌, ◌≤◌, ◌+◌, ◌-◌, ℕ, arith, subst, sym, ◌∙◌}
use Rattle.parts_tracer.specs.Tells.{Tells}
use Rattle.rules_machine.specs.Eventful.{busy}
use Rattle.rules_machine.specs.Runs.{ticks}
use Rattle.rules_flat_code.specs.FlatBodies.{flat_bodies}
use Rattle.rules_leaps.specs.Leap.{in_leaps}
use Rattle.kernel_leaps.proofs.Ending.{ends_there, told_there, was_ended, was_told}
use Rattle.kernel_leaps.proofs.Leaping.{few_busy, few_steps, leaps_on, not_beyond, not_earlier}
use Rattle.kernel_leaps.proofs.Running.{still_fits, stopped_told}
use Rattle.kernel_leaps.proofs.run.run_leaps.Goals as goal

pub leaps-done-requires-clause-fits : goal.leaps-done-requires-clause-fits
leaps-done-requires-clause-fits g c = still_fits c.args.p.now c.leaps.p c.leaps.done c.leaps.invariant.leaping.running.state c.requires.fits

pub leaps-done-requires-clause-early : goal.leaps-done-requires-clause-early
leaps-done-requires-clause-early g c =
    let far = not_beyond _ _ c.args.p.now c.requires.fits c.leaps.p _ _ _ _ _ _ c.leaps.invariant.leaping in
    let to : c.get.result ≡ c.args.horizon = c.get.ensures.value in
    let from : c.get-2.result ≡ c.args.p.now.machine.now = c.get-2.ensures.value ∙ c.instant.ensures in
    let within = c.leaps.invariant.leaping.within in
    let ahead = c.requires.ahead in
    let limit = c.requires.limit in
    omega (arith, far, to, from, within, ahead, limit)

pub leaps-preserved : goal.leaps-preserved
leaps-preserved g c =
    let on = leaps_on _ _ c.args.p.now c.requires.fits _ _ _ _ _ _ _ _ _ _ _ c.leaps.invariant.leaping c.leaps-done.ensures.within c.leaps-done.ensures.state c.leaps-done.ensures.told
    c.leaps-done.ensures.stood c.leaps-done.ensures.quiet c.leaps-done.ensures.steps in
    record { leaping = on; good = sym c.failed.ensures ∙ c.if-failed.false; alive = sym c.killed-in-leaps.ensures ∙ c.in_default-killed.is }

pub returns-then-failed-clause-told : goal.returns-then-failed-clause-told
returns-then-failed-clause-told g c =
    let p = c.args.p.now in
    let on = leaps_on _ _ c.args.p.now c.requires.fits _ _ _ _ _ _ _ _ _ _ _ c.leaps.invariant.leaping c.leaps-done.ensures.within c.leaps-done.ensures.state c.leaps-done.ensures.told
    c.leaps-done.ensures.stood c.leaps-done.ensures.quiet c.leaps-done.ensures.steps in
    let all : c.get.result - c.get-2.result ≡ c.args.horizon - c.args.p.now.machine.now = (let to = c.get.ensures.value in let from = c.get-2.ensures.value ∙ c.instant.ensures in omega (arith, to, from)) in
    let k : ℕ = c.leaps.done + c.leaps-done.result in
    let d : ℕ = (c.args.horizon - p.machine.now) - k in
    let within = on.within in
    let n : k + d ≡ c.args.horizon - p.machine.now = omega (arith, all, within) in
    subst (λ (j : ℕ). Tells g.K.Sink.text g.K.Sink.faults p.names c.args.out.now c.leaps-done.new.out (ticks (flat_bodies p.code) j p.machine).events) n
    (stopped_told g.K.Sink.text g.K.Sink.faults p c.leaps-done.new.p k d c.args.out.now c.leaps-done.new.out on.running (sym c.failed.ensures ∙ c.if-failed.true))

pub returns-then-failed-clause-fits : goal.returns-then-failed-clause-fits
returns-then-failed-clause-fits g c =
    let on = leaps_on _ _ c.args.p.now c.requires.fits _ _ _ _ _ _ _ _ _ _ _ c.leaps.invariant.leaping c.leaps-done.ensures.within c.leaps-done.ensures.state c.leaps-done.ensures.told
    c.leaps-done.ensures.stood c.leaps-done.ensures.quiet c.leaps-done.ensures.steps in
    still_fits c.args.p.now c.leaps-done.new.p (c.leaps.done + c.leaps-done.result) on.running.state c.requires.fits

pub returns-then-failed-clause-later : goal.returns-then-failed-clause-later
returns-then-failed-clause-later g c =
    let on = leaps_on _ _ c.args.p.now c.requires.fits _ _ _ _ _ _ _ _ _ _ _ c.leaps.invariant.leaping c.leaps-done.ensures.within c.leaps-done.ensures.state c.leaps-done.ensures.told
    c.leaps-done.ensures.stood c.leaps-done.ensures.quiet c.leaps-done.ensures.steps in
    not_earlier _ _ c.args.p.now c.requires.fits _ _ _ _ _ _ _ on

pub returns-then-failed-clause-not_beyond : goal.returns-then-failed-clause-not_beyond
returns-then-failed-clause-not_beyond g c =
    let on = leaps_on _ _ c.args.p.now c.requires.fits _ _ _ _ _ _ _ _ _ _ _ c.leaps.invariant.leaping c.leaps-done.ensures.within c.leaps-done.ensures.state c.leaps-done.ensures.told
    c.leaps-done.ensures.stood c.leaps-done.ensures.quiet c.leaps-done.ensures.steps in
    let all : c.get.result - c.get-2.result ≡ c.args.horizon - c.args.p.now.machine.now = (let to = c.get.ensures.value in let from = c.get-2.ensures.value ∙ c.instant.ensures in omega (arith, to, from)) in
    let far = not_beyond _ _ c.args.p.now c.requires.fits _ _ _ _ _ _ _ on in
    let within = on.within in
    let ahead = c.requires.ahead in
    omega (arith, far, all, within, ahead)

pub returns-then-failed-clause-steps : goal.returns-then-failed-clause-steps
returns-then-failed-clause-steps g c =
    let on = leaps_on _ _ c.args.p.now c.requires.fits _ _ _ _ _ _ _ _ _ _ _ c.leaps.invariant.leaping c.leaps-done.ensures.within c.leaps-done.ensures.state c.leaps-done.ensures.told
    c.leaps-done.ensures.stood c.leaps-done.ensures.quiet c.leaps-done.ensures.steps in
    let all : c.get.result - c.get-2.result ≡ c.args.horizon - c.args.p.now.machine.now = (let to = c.get.ensures.value in let from = c.get-2.ensures.value ∙ c.instant.ensures in omega (arith, to, from)) in
    subst (λ (n : ℕ). c.leaps-done.new.steps ≤ c.args.steps.now + (in_leaps (flat_bodies c.args.p.now.code) n c.args.p.now.machine).count) all
    (few_steps _ _ c.args.p.now c.requires.fits _ _ _ _ _ _ _ on)

pub returns-then-failed-clause-busy : goal.returns-then-failed-clause-busy
returns-then-failed-clause-busy g c =
    let on = leaps_on _ _ c.args.p.now c.requires.fits _ _ _ _ _ _ _ _ _ _ _ c.leaps.invariant.leaping c.leaps-done.ensures.within c.leaps-done.ensures.state c.leaps-done.ensures.told
    c.leaps-done.ensures.stood c.leaps-done.ensures.quiet c.leaps-done.ensures.steps in
    let all : c.get.result - c.get-2.result ≡ c.args.horizon - c.args.p.now.machine.now = (let to = c.get.ensures.value in let from = c.get-2.ensures.value ∙ c.instant.ensures in omega (arith, to, from)) in
    subst (λ (n : ℕ). c.leaps-done.new.steps ≤ c.args.steps.now + busy (flat_bodies c.args.p.now.code) c.args.p.now.machine 0 n + 1) all
    (few_busy _ _ c.args.p.now c.requires.fits _ _ _ _ _ _ _ on)

pub returns-clause-later : goal.returns-clause-later
returns-clause-later g c = not_earlier _ _ c.args.p.now c.requires.fits _ _ _ _ _ _ _ c.leaps.invariant.leaping

pub returns-clause-not_beyond : goal.returns-clause-not_beyond
returns-clause-not_beyond g c =
    let all : c.get.result - c.get-2.result ≡ c.args.horizon - c.args.p.now.machine.now = (let to = c.get.ensures.value in let from = c.get-2.ensures.value ∙ c.instant.ensures in omega (arith, to, from)) in
    let far = not_beyond _ _ c.args.p.now c.requires.fits _ _ _ _ _ _ _ c.leaps.invariant.leaping in
    let within = c.leaps.invariant.leaping.within in
    let ahead = c.requires.ahead in
    omega (arith, far, all, within, ahead)

pub returns-clause-steps : goal.returns-clause-steps
returns-clause-steps g c =
    let all : c.get.result - c.get-2.result ≡ c.args.horizon - c.args.p.now.machine.now = (let to = c.get.ensures.value in let from = c.get-2.ensures.value ∙ c.instant.ensures in omega (arith, to, from)) in
    subst (λ (n : ℕ). c.leaps.steps ≤ c.args.steps.now + (in_leaps (flat_bodies c.args.p.now.code) n c.args.p.now.machine).count) all
    (few_steps _ _ c.args.p.now c.requires.fits _ _ _ _ _ _ _ c.leaps.invariant.leaping)

pub returns-clause-busy : goal.returns-clause-busy
returns-clause-busy g c =
    let all : c.get.result - c.get-2.result ≡ c.args.horizon - c.args.p.now.machine.now = (let to = c.get.ensures.value in let from = c.get-2.ensures.value ∙ c.instant.ensures in omega (arith, to, from)) in
    subst (λ (n : ℕ). c.leaps.steps ≤ c.args.steps.now + busy (flat_bodies c.args.p.now.code) c.args.p.now.machine 0 n + 1) all
    (few_busy _ _ c.args.p.now c.requires.fits _ _ _ _ _ _ _ c.leaps.invariant.leaping)

pub returns-in-Some-killed-clause-fits : goal.returns-in-Some-killed-clause-fits
returns-in-Some-killed-clause-fits g c =
    let on = leaps_on _ _ c.args.p.now c.requires.fits _ _ _ _ _ _ _ _ _ _ _ c.leaps.invariant.leaping c.leaps-done.ensures.within c.leaps-done.ensures.state c.leaps-done.ensures.told
    c.leaps-done.ensures.stood c.leaps-done.ensures.quiet c.leaps-done.ensures.steps in
    still_fits c.args.p.now c.leaps-done.new.p (c.leaps.done + c.leaps-done.result) on.running.state c.requires.fits

pub returns-in-Some-killed-clause-later : goal.returns-in-Some-killed-clause-later
returns-in-Some-killed-clause-later g c =
    let on = leaps_on _ _ c.args.p.now c.requires.fits _ _ _ _ _ _ _ _ _ _ _ c.leaps.invariant.leaping c.leaps-done.ensures.within c.leaps-done.ensures.state c.leaps-done.ensures.told
    c.leaps-done.ensures.stood c.leaps-done.ensures.quiet c.leaps-done.ensures.steps in
    not_earlier _ _ c.args.p.now c.requires.fits _ _ _ _ _ _ _ on

pub returns-in-Some-killed-clause-not_beyond : goal.returns-in-Some-killed-clause-not_beyond
returns-in-Some-killed-clause-not_beyond g c =
    let on = leaps_on _ _ c.args.p.now c.requires.fits _ _ _ _ _ _ _ _ _ _ _ c.leaps.invariant.leaping c.leaps-done.ensures.within c.leaps-done.ensures.state c.leaps-done.ensures.told
    c.leaps-done.ensures.stood c.leaps-done.ensures.quiet c.leaps-done.ensures.steps in
    let all : c.get.result - c.get-2.result ≡ c.args.horizon - c.args.p.now.machine.now = (let to = c.get.ensures.value in let from = c.get-2.ensures.value ∙ c.instant.ensures in omega (arith, to, from)) in
    let far = not_beyond _ _ c.args.p.now c.requires.fits _ _ _ _ _ _ _ on in
    let within = on.within in
    let ahead = c.requires.ahead in
    omega (arith, far, all, within, ahead)

pub returns-in-Some-killed-clause-steps : goal.returns-in-Some-killed-clause-steps
returns-in-Some-killed-clause-steps g c =
    let on = leaps_on _ _ c.args.p.now c.requires.fits _ _ _ _ _ _ _ _ _ _ _ c.leaps.invariant.leaping c.leaps-done.ensures.within c.leaps-done.ensures.state c.leaps-done.ensures.told
    c.leaps-done.ensures.stood c.leaps-done.ensures.quiet c.leaps-done.ensures.steps in
    let all : c.get.result - c.get-2.result ≡ c.args.horizon - c.args.p.now.machine.now = (let to = c.get.ensures.value in let from = c.get-2.ensures.value ∙ c.instant.ensures in omega (arith, to, from)) in
    subst (λ (n : ℕ). c.leaps-done.new.steps ≤ c.args.steps.now + (in_leaps (flat_bodies c.args.p.now.code) n c.args.p.now.machine).count) all
    (few_steps _ _ c.args.p.now c.requires.fits _ _ _ _ _ _ _ on)

pub returns-in-Some-killed-clause-busy : goal.returns-in-Some-killed-clause-busy
returns-in-Some-killed-clause-busy g c =
    let on = leaps_on _ _ c.args.p.now c.requires.fits _ _ _ _ _ _ _ _ _ _ _ c.leaps.invariant.leaping c.leaps-done.ensures.within c.leaps-done.ensures.state c.leaps-done.ensures.told
    c.leaps-done.ensures.stood c.leaps-done.ensures.quiet c.leaps-done.ensures.steps in
    let all : c.get.result - c.get-2.result ≡ c.args.horizon - c.args.p.now.machine.now = (let to = c.get.ensures.value in let from = c.get-2.ensures.value ∙ c.instant.ensures in omega (arith, to, from)) in
    subst (λ (n : ℕ). c.leaps-done.new.steps ≤ c.args.steps.now + busy (flat_bodies c.args.p.now.code) c.args.p.now.machine 0 n + 1) all
    (few_busy _ _ c.args.p.now c.requires.fits _ _ _ _ _ _ _ on)

-- where the process ended in this leap
pub returns-in-Some-killed-clause-state : goal.returns-in-Some-killed-clause-state
returns-in-Some-killed-clause-state g c clean =
    let on = leaps_on _ _ c.args.p.now c.requires.fits _ _ _ _ _ _ _ _ _ _ _ c.leaps.invariant.leaping c.leaps-done.ensures.within c.leaps-done.ensures.state c.leaps-done.ensures.told
    c.leaps-done.ensures.stood c.leaps-done.ensures.quiet c.leaps-done.ensures.steps in
    let all : c.get.result - c.get-2.result ≡ c.args.horizon - c.args.p.now.machine.now = (let to = c.get.ensures.value in let from = c.get-2.ensures.value ∙ c.instant.ensures in omega (arith, to, from)) in
    let ended = sym c.killed-in-leaps.ensures ∙ c.in-Some-killed.is in
    subst (λ (n : ℕ). c.leaps-done.new.p ≡ record c.args.p.now { machine = (ticks (flat_bodies c.args.p.now.code) n c.args.p.now.machine).machine }) all
    (ends_there _ _ c.args.p.now c.leaps-done.new.p _ _ c.in-Some-killed.signal _ _ on.running on.within ended)

pub returns-in-Some-killed-clause-told : goal.returns-in-Some-killed-clause-told
returns-in-Some-killed-clause-told g c =
    let on = leaps_on _ _ c.args.p.now c.requires.fits _ _ _ _ _ _ _ _ _ _ _ c.leaps.invariant.leaping c.leaps-done.ensures.within c.leaps-done.ensures.state c.leaps-done.ensures.told
    c.leaps-done.ensures.stood c.leaps-done.ensures.quiet c.leaps-done.ensures.steps in
    let all : c.get.result - c.get-2.result ≡ c.args.horizon - c.args.p.now.machine.now = (let to = c.get.ensures.value in let from = c.get-2.ensures.value ∙ c.instant.ensures in omega (arith, to, from)) in
    let ended = sym c.killed-in-leaps.ensures ∙ c.in-Some-killed.is in
    subst (λ (n : ℕ). Tells g.K.Sink.text g.K.Sink.faults c.args.p.now.names c.args.out.now c.leaps-done.new.out (ticks (flat_bodies c.args.p.now.code) n c.args.p.now.machine).events) all
    (told_there g.K.Sink.text g.K.Sink.faults c.args.p.now c.leaps-done.new.p _ _ c.in-Some-killed.signal c.args.out.now c.leaps-done.new.out on.running on.within ended)

-- where it had ended before
pub returns-in-Some-clause-state : goal.returns-in-Some-clause-state
returns-in-Some-clause-state g c clean = was_ended c.args.p.now (c.args.horizon - c.args.p.now.machine.now) c.in-Some.signal (sym c.killed.ensures ∙ c.in-Some.is)

pub returns-in-Some-clause-told : goal.returns-in-Some-clause-told
returns-in-Some-clause-told g c =
    was_told g.K.Sink.text g.K.Sink.faults c.args.p.now (c.args.horizon - c.args.p.now.machine.now) c.in-Some.signal c.args.out.now (sym c.killed.ensures ∙ c.in-Some.is)
