-- An instant that is no eventful one: the head is in the midst of its unit, and nothing precedes its tick.
use Rattle.std.proofs.Common.{◌≡◌, ◌∙◌, ℕ, zero, suc, None, Option, Some, ap, arith, false, refl, subst, sym}
use Rattle.rules_machine.specs.Bodies.{Bodies}
use Rattle.rules_machine.specs.Dispatch.{head}
use Rattle.rules_machine.specs.DueItems.{instant}
use Rattle.rules_machine.specs.Eventful.{head_matters, is_eventful, unless_ended}
use Rattle.rules_machine.specs.Runs.{Ran, ticks}
use Rattle.rules_machine.specs.State.{Machine}
use Rattle.rules_machine.specs.Threads.{thread_at, top_left}
use Rattle.rules_machine.specs.Ticks.{prepares, tick_charged}
use Rattle.rules_machine.specs.Turns.{Turn, turn_of}
use Rattle.rules_machine.specs.Units.{in_unit}
use Rattle.rules_machine.proofs.Reading.{thread-same}
use Rattle.rules_moves.proofs.Runs.Listed.{head_can_run}
use Rattle.rules_leaps.specs.Quiet.{IsQuiet, after_quiet}
use Rattle.laws_leaps.proofs.Leaps.Bridge.{bridge, going_at, ready_alive, ready_first}
use Rattle.laws_leaps.proofs.Leaps.Calm.{Calm}
use Rattle.laws_leaps.proofs.Leaps.LastTick.{left_at}
use Rattle.laws_leaps.proofs.Leaps.Lengths.{IsReady, begins}
use Rattle.laws_leaps.proofs.Quiet.Charges.{stays_so}
use Rattle.laws_leaps.proofs.Quiet.Once.{one_is}
use Rattle.laws_leaps.proofs.Quiet.Prepared.{plain_charges}
use Rattle.laws_leaps.proofs.Quiet.Runs.{charges}
use Rattle.laws_detail.specs.Looks.{begun_turn}
use Rattle.laws_detail.proofs.Events.{items, nothing_begins, ticks_are}
use Rattle.laws_detail.proofs.Rest.{calm_so_far}

module _ {P : Type 0} (bodies : Bodies P) (m : Machine P) (r : IsReady bodies m) (alive : (instant bodies (turn_of m)).machine.killed ≡ None) (calm : is_eventful bodies m 1 ≡ false) where
  abbrev ready : Machine P
  ready = (instant bodies (turn_of m)).machine

  abbrev next : Machine P
  next = (ticks bodies 1 m).machine

  quiet : IsQuiet bodies 1 m
  quiet zero low high = absurd (omega arith)
  quiet (suc zero) low high = calm
  quiet (suc (suc i)) low high = absurd (omega arith)

  c : Calm bodies 1 ready
  c = calm_so_far bodies m r.still r.handled 1 quiet

  next_is : next ≡ charges bodies 1 ready
  next_is = ap (λ (x : Ran P). x.machine) (ticks_are bodies m r.still r.handled alive 1 c 0 (omega arith))

  -- what begins the next tick leaves the machine
  pub begun_is : begun_turn bodies next ≡ turn_of next
  begun_is = subst (λ (x : Machine P). begun_turn bodies x ≡ turn_of x) (sym next_is) (nothing_begins bodies m r.still r.handled alive 1 c 0 (omega arith))

  -- and its head is the one that ran
  pub same_head : head (instant bodies (turn_of next)).machine ≡ head ready
  same_head =
      let g = going_at bodies (head ready) ready alive refl 0 in
      let same : charges bodies 1 ready ≡ plain_charges bodies 1 (prepares (head ready) (turn_of ready)).machine = bridge bodies (head ready) ready alive refl 0 in
      ap (λ (x : Machine P). head (instant bodies (turn_of x)).machine) next_is
      ∙ ap (λ (s : Turn P). head s.machine) (items bodies m r.still r.handled alive 1 c 0 (omega arith))
      ∙ ap head same
      ∙ g.first

  -- the thread that ran is in its unit
  module _ (t : ℕ) (top : head ready ≡ Some t) where
    abbrev first : Machine P
    first = (prepares (Some t) (turn_of ready)).machine

    matters : unless_ended bodies first.killed first ≡ false
    matters =
        let can = λ (u : ℕ) (e : Some t ≡ Some u). head_can_run ready u r.handled.listed (top ∙ e) in
        ap (λ (k : Option ℕ). unless_ended bodies k first) (ready_alive bodies (Some t) ready alive top)
        ∙ ap (λ (o : Option ℕ). head_matters bodies o first) (ready_first bodies (Some t) ready alive top)
        ∙ (stays_so bodies (Some t) (turn_of ready) can r.handled.stand r.handled.swept).matters
        ∙ sym (ap (λ (k : Option ℕ). unless_ended bodies k ready) alive ∙ ap (λ (o : Option ℕ). head_matters bodies o ready) top)
        ∙ c.quiet 0 (omega arith)

    charged : charges bodies 1 ready ≡ after_quiet bodies t first
    charged = bridge bodies (Some t) ready alive top 0 ∙ one_is bodies t first (ready_alive bodies (Some t) ready alive top) (ready_first bodies (Some t) ready alive top)

    pub in_midst : (l : ℕ) × (top_left (thread_at next t).frames ≡ suc l)
    in_midst =
        let b = begins bodies (Some t) ready alive top r.handled r.slices 0 0 t refl in
        let left = left_at bodies t first b matters in
        let same : thread_at next t ≡ tick_charged (in_unit bodies (thread_at first t)).thread =
        ap (λ (x : Machine P). thread_at x t) (next_is ∙ charged) ∙ thread-same first t (λ th. tick_charged (in_unit bodies (thread_at first t)).thread) b.here in
        (left.0, ap (λ th. top_left th.frames) same ∙ left.1)
