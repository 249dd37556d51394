-- The events of a leap: what begins its first tick, and what ends its last.
use Rattle.std.proofs.Common.{List, None, Option, [], ap, arith, refl, suc, sym, zero, ℕ, ◌+◌, ◌++◌, ◌≡◌, ◌≤◌}
use mathlib.Core.Path.{subst, ◌∙◌}
use Rattle.words_trace.specs.Text.{Entry}
use Rattle.rules_machine.specs.Bodies.{Bodies}
use Rattle.rules_machine.specs.DueItems.{instant, item_bound}
use Rattle.rules_machine.specs.Dispatch.{head}
use Rattle.rules_machine.specs.Runs.{Ran, tick_of, ticks}
use Rattle.rules_machine.specs.State.{Machine}
use Rattle.rules_machine.specs.Ticks.{prepares, runs, runs_head, unless_killed}
use Rattle.rules_machine.specs.Turns.{Turn, turn_of}
use Rattle.rules_machine.proofs.Behind.{behind}
use Rattle.rules_machine.proofs.BehindTicks.{runs_behind}
use Rattle.rules_machine.proofs.Counting.{tick_now}
use Rattle.rules_machine.proofs.Parts.{prepares_unended}
use Rattle.rules_leaps.specs.Quiet.{IsQuiet, told_with_dispatch}
use Rattle.laws_leaps.proofs.Quiet.Events.{nothing_more}
use Rattle.laws_leaps.proofs.Quiet.Prepared.{Begun, prepares_nothing}
use Rattle.laws_leaps.proofs.Quiet.Runs.{charges}
use Rattle.laws_leaps.proofs.Quiet.Ticks.{idle_items}
use Rattle.laws_leaps.proofs.Leaps.Bridge.{bridge, going_at}
use Rattle.laws_leaps.proofs.Leaps.Calm.{Calm, Handled, calm_ticks}
use Rattle.laws_detail.specs.Looks.{begun_turn}
use Rattle.laws_detail.proofs.Rest.{calm_so_far, fewer}

module _ {P : Type 0} (bodies : Bodies P) where
  -- what ends a tick
  abbrev pub ended_events : Machine P → List Entry
  ended_events m = (runs bodies (head (instant bodies (turn_of m)).machine) (turn_of (begun_turn bodies m).machine)).events

  before_told : (s : Turn P) → s.direct ≡ [] → s ≡ behind s.events (turn_of s.machine)
  before_told s e = ap (λ (direct : List ℕ). record s { direct = direct }) e ∙ ap (λ (es : List Entry). record s { direct = []; events = es }) (sym (nothing_more s.events))

  -- the events of a tick are both
  pub tick_events : (m : Machine P) → (instant bodies (turn_of m)).direct ≡ [] → (instant bodies (turn_of m)).machine.killed ≡ None → (tick_of bodies m).events ≡ (begun_turn bodies m).events ++ ended_events m
  tick_events m none alive =
      let ready = instant bodies (turn_of m) in
      let to = head ready.machine in
      let begun = begun_turn bodies m in
      let still : begun.direct ≡ [] = (prepares_unended to ready).direct ∙ none in
      ap (λ (o : Option ℕ). (unless_killed o (runs_head bodies) ready).events) alive
      ∙ ap (λ (s : Turn P). (runs bodies to s).events) (before_told begun still)
      ∙ ap (λ (s : Turn P). s.events) (runs_behind bodies to begun.events (turn_of begun.machine))

  module _ (m : Machine P) (none : (instant bodies (turn_of m)).direct ≡ []) (h : Handled bodies (instant bodies (turn_of m)).machine) (alive : (instant bodies (turn_of m)).machine.killed ≡ None) where
    abbrev ready : Machine P
    ready = (instant bodies (turn_of m)).machine

    abbrev to : Option ℕ
    to = head ready

    -- after some quiet ticks nothing begins
    module _ (k : ℕ) (c : Calm bodies k ready) (j : ℕ) (le : suc j ≤ k) where
      abbrev x : Machine P
      x = charges bodies (suc j) ready

      pub ticks_are : ticks bodies (suc j) m ≡ record { machine = x; events = (begun_turn bodies m).events }
      ticks_are =
          calm_ticks bodies j m none h (fewer bodies m none h j k (omega arith) c) (c.quiet j (omega arith))
          ∙ ap (λ (o : Option ℕ). record { machine = x; events = told_with_dispatch o (instant bodies (turn_of m)) }) alive

      pub items : instant bodies (turn_of x) ≡ turn_of x
      items = idle_items bodies (item_bound x) (turn_of x) (c.idle j (omega arith))

      alive_x : x.killed ≡ None
      alive_x = ap (λ (n : Machine P). n.killed) (bridge bodies to ready alive refl j) ∙ (going_at bodies to ready alive refl j).alive

      pub nothing_begins : begun_turn bodies x ≡ turn_of x
      nothing_begins =
          let g = going_at bodies to ready alive refl j in
          let same = bridge bodies to ready alive refl j in
          let first : head x ≡ to = ap head same ∙ g.first in
          ap (λ (s : Turn P). prepares (head s.machine) s) items
          ∙ ap (λ (o : Option ℕ). prepares o (turn_of x)) first
          ∙ prepares_nothing to x (subst (Begun to) (sym same) g.begun)

      events_x : (tick_of bodies x).events ≡ ended_events x
      events_x =
          tick_events x (ap (λ (s : Turn P). s.direct) items) (ap (λ (s : Turn P). s.machine.killed) items ∙ alive_x)
          ∙ ap (λ (s : Turn P). s.events ++ ended_events x) nothing_begins

      events_are : (ticks bodies (suc (suc j)) m).events ≡ (begun_turn bodies m).events ++ ended_events (ticks bodies (suc j) m).machine
      events_are =
          ap (λ (r : Ran P). r.events ++ (tick_of bodies r.machine).events) ticks_are
          ∙ ap (λ (es : List Entry). (begun_turn bodies m).events ++ es) events_x
          ∙ ap (λ (r : Ran P). (begun_turn bodies m).events ++ ended_events r.machine) (sym ticks_are)

      one_later : (ticks bodies (suc (suc j)) m).machine.now ≡ (ticks bodies (suc j) m).machine.now + 1
      one_later =
          let there : (instant bodies (turn_of (ticks bodies (suc j) m).machine)).machine.killed ≡ None =
          ap (λ (r : Ran P). (instant bodies (turn_of r.machine)).machine.killed) ticks_are ∙ ap (λ (s : Turn P). s.machine.killed) items ∙ alive_x in
          tick_now bodies (turn_of (ticks bodies (suc j) m).machine) there

    -- of a leap of so many ticks and one
    pub leap_events_are : (k : ℕ) → IsQuiet bodies k m → (ticks bodies (suc k) m).events ≡ (begun_turn bodies m).events ++ ended_events (ticks bodies k m).machine
    leap_events_are zero q = tick_events m none alive
    leap_events_are (suc j) q = events_are (suc j) (calm_so_far bodies m none h (suc j) q) j (omega arith)

    pub leap_now : (k : ℕ) → IsQuiet bodies k m → (j : ℕ) → j ≤ k → (ticks bodies (suc j) m).machine.now ≡ m.now + suc j
    leap_now k q zero le = tick_now bodies (turn_of m) alive
    leap_now k q (suc j) le =
        let one = one_later k (calm_so_far bodies m none h k q) j le in
        let before = leap_now k q j (omega arith) in
        omega (arith, one, before)
