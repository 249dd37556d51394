use Rattle.std.proofs.Common.{ap, subst, sym, ℕ, ◌∙◌, ◌≡◌}
use Rattle.rules_machine.specs.Clock.{due_as_set}
use Rattle.rules_machine.specs.State.{Clock}
use Rattle.rules_machine.specs.Threads.{real_time}
use Rattle.kernel_table.specs.Settings.{times_moved}
use Rattle.kernel_state.specs.Kernel.{Kernel, after}
use Rattle.kernel_state.specs.RealTimes.{AreModest, sets_clock}
use Rattle.kernel_state.specs.View.{kernel_of, machine_of}
use Rattle.kernel_state.proofs.Carried.{tied_again}
use Rattle.kernel_state.proofs.Setting.{kernel_set, many_set, set_modest, stand_set, with_clock, with_table}
use Rattle.kernel_state.proofs.parts.Parts.set_real_clock.Goals as goal

-- the table moves as the clock read before
moved_so : (c : goal.After-self-1) → c.move_times.new.self ≡ times_moved (due_as_set c.self.inside.instant (real_time (machine_of c.self.inside)) c.args.reading) c.self.inside.table
moved_so c =
    let s = c.self.inside in
    let before : c.real_time.result ≡ real_time (machine_of s) = c.real_time.ensures ∙ ap (λ (k : Kernel). real_time k.machine) (sym c.self.view_is) in
    c.move_times.ensures.table ∙ ap (λ (b : ℕ). times_moved (due_as_set s.instant b c.args.reading) s.table) before

pub invariant_of-self : goal.invariant_of-self
invariant_of-self c =
    let s = c.self.inside in
    let new = c.move_times.new.self in
    let move : ℕ → ℕ = due_as_set s.instant (real_time (machine_of s)) c.args.reading in
    record {
      tied = tied_again s.names s.code s.ready.threads s.table.threads new.threads s.direct (many_set move s.table new (moved_so c)) c.self.invariant.tied;
      stand = stand_set move s.table new s.ready.lists s.named.bits (moved_so c) c.move_times.ensures.same c.self.invariant.stand;
      modest = subst (λ (x : Clock). AreModest s.instant x new.threads new.timers) (sym c.at-self-inside.ensures)
          (set_modest s.instant c.args.reading s.clock s.table new (rw (← c.self.view_is) at c.requires.early) c.requires.reading (moved_so c) c.self.invariant.modest);
    }

pub returns : goal.returns
returns c =
    let s = c.self.inside in
    let new = c.move_times.new.self in
    ap (λ (x : Clock). with_clock (with_table (kernel_of s) new) x) c.at-self-inside.ensures
    ∙ kernel_set (kernel_of s) s.table new c.args.reading (moved_so c) ∙ ap (after (sets_clock c.args.reading)) c.self.view_is
