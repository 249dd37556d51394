-- In each state of a run a thread that waits to join another is blocked.
use Rattle.std.proofs.Common.{◌<◌, ℕ, Some, arith, subst}
use Rattle.words_script.specs.declared.decl.Script.{Script}
use Rattle.rules_bodies.specs.declared.cursor.Cursor.{Cursor}
use Rattle.rules_machine.specs.Bodies.{Bodies}
use Rattle.rules_machine.specs.Runs.{opening}
use Rattle.rules_machine.specs.Throughout.{after_items}
use Rattle.rules_machine.specs.WellFormed.{IsWellFormed}
use Rattle.rules_moves.specs.UnitRanges.{BodiesFit}
use Rattle.rules_moves.proofs.Calls.Answers.{waits_blocked}
use Rattle.laws_machine.proofs.Items.{throughout}
use Rattle.laws_machine.proofs.Parts.Kept.{PartsRight, parts_tick}
use Rattle.laws_machine.proofs.Parts.Opening.{opening_listed, opening_right}
use Rattle.rules_flat_code.specs.KnownCalls.{Objects}
use Rattle.kernel_wakes.specs.Joins.{EndIsKnown, JoinsFit}
use Rattle.laws_kernel.proofs.HeldLaw.{EndsAreKnown, Held}

module _ (bodies : Bodies Cursor) (ranges : BodiesFit bodies) (script : Script) (fits : IsWellFormed script) where
  pub parts_after : (n most : ℕ) → PartsRight (after_items bodies (opening script) n most)
  parts_after n most =
      (throughout bodies ranges PartsRight (λ was_high t s. PartsRight s.machine) (λ was_high t s. PartsRight s.machine) (parts_tick bodies) (opening script) (opening_right Cursor script) (opening_listed Cursor script)).each n most

  pub joins_fit : (n most : ℕ) (o : Objects) (handlers : ℕ) → Held o handlers (after_items bodies (opening script) n most) → JoinsFit (after_items bodies (opening script) n most)
  joins_fit n most o handlers held = record {
    joiners = λ t u e. (let waits = (parts_after n most).joiners t u e in waits_blocked (after_items bodies (opening script) n most) u waits.0 waits.1);
    ends = λ u t w waits is.
        let m = after_items bodies (opening script) n most in
        let known : EndsAreKnown o.threads (Some w) = subst (EndsAreKnown o.threads) waits (held.each u).ends in
        let lt : t < o.threads = subst (EndIsKnown o.threads) is known in
        let count = held.counted in omega (arith, lt, count);
  }
