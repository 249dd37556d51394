use Rattle.std.proofs.Common.{length, refl, rules, subst, sym, ◌≡◌, ◌≤◌}
use Rattle.rules_bodies.specs.Next.{capped}
use Rattle.rules_bodies.specs.declared.cursor.Cursor.{Cursor}
use Rattle.rules_machine.specs.declared.frame.BodyOf.TheVariants as body_of
use Rattle.rules_machine.specs.declared.frame.FrameKind.TheVariants as frame
use Rattle.rules_machine.specs.Bodies.{Bodies}
use Rattle.rules_machine.specs.Delivery.{interrupts}
use Rattle.rules_machine.specs.Signals.{delivers, without_record}
use Rattle.rules_machine.specs.Threads.{thread_at, waiting_of}
use Rattle.rules_machine.specs.Turns.{Turn, changes, changes_pending, ◌▷◌}
use Rattle.rules_machine.specs.Waking.{new_frame, on_top}
use Rattle.rules_flat_code.specs.FlatBodies.{flat_bodies}
use Rattle.kernel_state.specs.Kernel.{Kernel, after, turn}
use Rattle.kernel_state.proofs.Turns.{then_state_in}
use Rattle.calls_items.proofs.Interrupted.{interrupted_long}
use Rattle.calls_items.proofs.delivery.run_handler.Goals as goal

pub catch_signal-requires-clause-room : goal.catch_signal-requires-clause-room
catch_signal-requires-clause-room g c =
    let p = c.args.p.now in
    let t = c.args.t in
    let r = c.args.r.now in
    let long = interrupted_long (waiting_of p.machine t) t t r (changes_pending (without_record r) (turn p)) in
    subst (λ (k : Kernel). length (thread_at k.machine t).frames ≤ 2) (sym c.interrupt_by.ensures.state) (rw long c.requires.frames)

pub returns : goal.returns
returns g c = record {
  state = (let p = c.args.p.now in
      let t = c.args.t in
      let r = c.args.r.now in
      let mid = c.interrupt_by.new.p in
      let last = subst (λ v. c.catch_signal.new.self ≡ after (changes t (on_top (new_frame (flat_bodies mid.code) frame.Signal (body_of.Handler c.args.h) (capped v)))) mid) c.value.ensures c.catch_signal.ensures in
      then_state_in (λ (b : Bodies Cursor) (s : Turn Cursor). s ▷ changes_pending (without_record r) ▷ interrupts (waiting_of s.machine t) t ▷ delivers t r)
      (λ (b : Bodies Cursor) (s : Turn Cursor). changes t (on_top (new_frame b frame.Signal (body_of.Handler c.args.h) (capped r.value))) s) p mid _ (λ b told s. refl) c.interrupt_by.ensures.state last);
  told = (search rules);
}
