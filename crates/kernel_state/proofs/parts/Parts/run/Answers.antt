use Rattle.std.proofs.Common.{ap, refl, sym, true, ◌∙◌}
use Rattle.rules_bodies.specs.declared.cursor.Cursor.{Cursor}
use Rattle.rules_machine.specs.State.{Thread}
use Rattle.rules_machine.specs.Threads.{is_runnable, thread_in}
use Rattle.rules_flat_code.specs.FlatBodies.{flat_bodies}
use Rattle.kernel_threads.specs.RealDues.{real_due_in}
use Rattle.kernel_table.specs.Table.{with_thread}
use Rattle.kernel_table.proofs.Charges.{run_past, runs_keep}
use Rattle.kernel_state.proofs.Carried.{as_many, fit, tied_again, told_there, told_thread}
use Rattle.kernel_state.proofs.StillModest.{still_modest}
use Rattle.kernel_state.proofs.parts.Parts.run.Goals as goal

pub invariant_of-self : goal.invariant_of-self
invariant_of-self g c =
    let s = c.self.inside in
    let w = c.run-ran in
    let ran = w.ensures.ran in
    let bodies = flat_bodies s.code in
    let f : Thread Cursor → Thread Cursor = run_past bodies ran.units w.result.0.ticks in
    let is = w.ensures.change.table ∙ ap (λ (th : Thread Cursor). with_thread c.args.t (λ old. th) s.table) ran.thread in
    record {
      tied = tied_again s.names s.code s.ready.threads s.table.threads w.new.self.threads s.direct (as_many s.table w.new.self c.args.t f is) c.self.invariant.tied;
      stand = told_thread s.table w.new.self s.ready.lists s.named.bits c.args.t f is c.self.invariant.stand c.take_in.new.self.bits w.result.1
          (λ th runs. runs_keep bodies (λ (x : Thread Cursor). is_runnable x.status) true (λ x fs us. refl) (λ k x e. e) ran.units w.result.0.ticks th runs) c.take_in.ensures w.ensures.change.moved;
      modest = still_modest s.instant s.clock s.table w.new.self c.args.t f is (λ th at h.
          sym (runs_keep bodies (λ (x : Thread Cursor). real_due_in x.status) (real_due_in th.status) (λ x fs us. refl) (λ k x e. e) ran.units w.result.0.ticks th refl) ∙ h) c.self.invariant.modest;
    }

pub take_in-requires : goal.take_in-requires
take_in-requires g c =
    let s = c.self.inside in
    let w = c.run-ran in
    let to_new : Thread Cursor → Thread Cursor = λ th. thread_in w.new.self.threads c.args.t in
    fit s.table w.new.self w.result.1 (as_many s.table w.new.self c.args.t to_new w.ensures.change.table) c.self.invariant.tied.few (told_there s.table w.new.self w.result.1 w.ensures.change.moved)
