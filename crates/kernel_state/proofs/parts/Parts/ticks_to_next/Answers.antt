use Rattle.std.proofs.Common.{rules, ◌≡◌, ◌≤◌, ◌+◌, ◌^◌, None, Some, subst, sym, ◌∙◌}
use Rattle.rules_machine.specs.Agenda.{agenda}
use Rattle.rules_leaps.specs.Leap.{ticks_to_next}
use Rattle.kernel_state.specs.Kernel.{Kernel}
use Rattle.kernel_state.specs.View.{machine_of}
use Rattle.kernel_state.proofs.Nearest.{near, nearest}
use Rattle.kernel_state.proofs.parts.Parts.ticks_to_next.Goals as goal

pub returns-in-None : goal.returns-in-None
returns-in-None c =
    let m = machine_of c.self.inside in
    subst (λ (k : Kernel). k.machine.now + c.args.most ≤ 10 ^ 18 → c.args.most ≡ ticks_to_next c.args.most k.machine.now (agenda k.machine)) c.self.view_is
    (λ early. nearest c.args.most m.now (agenda m) None early (sym c.in-None.is ∙ c.next_due.ensures)) c.requires

pub returns-in-Some : goal.returns-in-Some
returns-in-Some c =
    let m = machine_of c.self.inside in
    let most = c.args.most in
    let due = c.in-Some.due in
    let least : c.min.result ≡ near most m.now (Some due) = search rules in
    subst (λ (k : Kernel). k.machine.now + most ≤ 10 ^ 18 → c.min.result ≡ ticks_to_next most k.machine.now (agenda k.machine)) c.self.view_is
    (λ early. least ∙ nearest most m.now (agenda m) (Some due) early (sym c.in-Some.is ∙ c.next_due.ensures)) c.requires
