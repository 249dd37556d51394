use Rattle.std.proofs.Common.{◌≡◌, ◌<◌, ◌∙◌, ℕ, None, Option, Some, arith, length, refl, subst, sym}
use Rattle.std.specs.Prelude.{IfSome, option_map}
use Rattle.rules_machine.specs.Signals.{accepts, acceptor}
use Rattle.rules_machine.specs.Threads.{thread_at}
use Rattle.rules_machine.specs.Waiters.{Waiter, waits_so}
use Rattle.kernel_state.specs.Kernel.{Kernel}
use Rattle.kernel_state.proofs.Targets.{acceptor_blocked, acceptor_known, aimed_at}
use Rattle.kernel_state.proofs.parts.Parts.acceptor.Goals as goal

-- ---- for the process

pub returns-in-None-clause-value : goal.returns-in-None-clause-value
returns-in-None-clause-value c =
    let r = c.args.r.now in
    let none : c.args.r.now.target ≡ None = cc (c.in-None.is, c.target.ensures) in
    subst (λ (k : Kernel). c.acceptor.result ≡ option_map (λ (w : Waiter). w.thread) (acceptor k.machine r)) c.self.view_is (c.acceptor.ensures r (sym c.signal.ensures) none)

pub returns-in-None-clause-known : goal.returns-in-None-clause-known
returns-in-None-clause-known c =
    let p = c.args.self.now in
    let named = subst (λ (k : Kernel). length k.names ≡ length k.machine.threads) c.self.view_is c.self.invariant.tied.named in
    acceptor_known p.machine c.args.r.now c.acceptor.result (length p.names) named (returns-in-None-clause-value c)

pub returns-in-None-clause-blocked : goal.returns-in-None-clause-blocked
returns-in-None-clause-blocked c = acceptor_blocked c.args.self.now.machine c.args.r.now c.acceptor.result (returns-in-None-clause-value c)

-- ---- for a thread

pub returns-in-Some-clause-value : goal.returns-in-Some-clause-value
returns-in-Some-clause-value c =
    let p = c.args.self.now in
    let r = c.args.r.now in
    let t = c.in-Some.t in
    let aimed : c.args.r.now.target ≡ Some c.in-Some.t = cc (c.in-Some.is, c.target.ensures) in
    let named = subst (λ (k : Kernel). length k.names ≡ length k.machine.threads) c.self.view_is c.self.invariant.tied.named in
    let here = subst (λ (o : Option ℕ). IfSome o (λ u. u < length p.names)) aimed c.requires.target in
    let lt : t < length p.machine.threads = omega (arith, named, here) in
    c.if_awaits.ensures r (sym c.signal-in-Some.ensures) ∙ aimed_at p.machine r t aimed (waits_so (accepts r) (thread_at p.machine t)) refl lt

pub returns-in-Some-clause-known : goal.returns-in-Some-clause-known
returns-in-Some-clause-known c =
    let p = c.args.self.now in
    let named = subst (λ (k : Kernel). length k.names ≡ length k.machine.threads) c.self.view_is c.self.invariant.tied.named in
    acceptor_known p.machine c.args.r.now c.if_awaits.result (length p.names) named (returns-in-Some-clause-value c)

pub returns-in-Some-clause-blocked : goal.returns-in-Some-clause-blocked
returns-in-Some-clause-blocked c = acceptor_blocked c.args.self.now.machine c.args.r.now c.if_awaits.result (returns-in-Some-clause-value c)
