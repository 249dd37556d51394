-- Ticks that only take time, from an instant at which they begin plainly, change no fact.
use Rattle.std.proofs.Common.{Bool, List, None, Option, Some, [], ap, false, inl, inr, refl, sym, true, ℕ, ◌∷◌, ◌≡◌, ◌⊎◌, ◌+◌}
use Rattle.std.specs.Prelude.{filter, map, not, option_map, ◌-◌, ◌==◌, ◌&&◌, if◌then◌else◌}
use Rattle.std.specs.List.{range_with_len}
use Rattle.std.specs.Option.{option_map_or}
use mathlib.Core.Path.{ap₂, subst, ◌∙◌}
use Rattle.words_script.specs.declared.decl.Script.{Script}
use Rattle.words_script.specs.declared.policy.Policy.{Policy}
use Rattle.words_script.specs.declared.policy.Policy.TheVariants as policy
use Rattle.words_trace.specs.Text.{Entry}
use Rattle.rules_bodies.specs.Next.{Place}
use Rattle.rules_server.specs.Server.{ServerState, assigned, charge_ticks, is_high}
use Rattle.rules_server.proofs.Laws.{charge_ticks_is}
use Rattle.rules_machine.specs.Bodies.{Bodies}
use Rattle.rules_machine.specs.Dispatch.{head}
use Rattle.rules_machine.specs.DueItems.{instant, item_bound, next_item}
use Rattle.rules_machine.specs.Lists.{changed_at, is}
use Rattle.rules_machine.specs.Priorities.{assigned_under}
use Rattle.rules_machine.specs.Servers.{has_high}
use Rattle.rules_machine.specs.State.{Frame, Machine, Thread, Wait, Waiting}
use Rattle.rules_machine.specs.Threads.{is_main, no_thread, thread_at, thread_in, waiting_in}
use Rattle.rules_machine.specs.Ticks.{capacity_in, prepares, unless_killed}
use Rattle.rules_machine.specs.Turns.{Turn, turn_of}
use Rattle.rules_machine.specs.Units.{in_unit}
use Rattle.rules_machine.specs.Waiters.{waits_so}
use Rattle.rules_machine.proofs.Behind.{behind}
use Rattle.rules_machine.proofs.Parts.{prepares_unended}
use Rattle.rules_machine.proofs.Reading.{changed-length}
use Rattle.rules_moves.proofs.Runs.Listed.{head_can_run}
use Rattle.rules_moves.proofs.Runs.Preparing.{alike_runs}
use Rattle.rules_moves.proofs.Waiters.OfThreads.{changed_is}
use Rattle.laws_machine.proofs.Lists.Kept.{Plans, in_unit_plans}
use Rattle.laws_machine.proofs.Lists.Places.{Stand}
use Rattle.rules_leaps.specs.Leap.{leap_goes_on, leap_head, leap_runs}
use Rattle.rules_leaps.specs.Quiet.{IsHandled, at_head, frames_after, server_after}
use Rattle.laws_leaps.proofs.Quiet.AnyMachine.{handled_of}
use Rattle.laws_leaps.proofs.Quiet.Charges.{prepared_machine}
use Rattle.laws_leaps.proofs.Quiet.Events.{nothing_more}
use Rattle.laws_leaps.proofs.Quiet.Once.{less_high}
use Rattle.laws_leaps.proofs.Quiet.Ticks.{idle_items}
use Rattle.laws_leaps.proofs.Leaps.Bounds.{charged_capacity}
use Rattle.laws_leaps.proofs.Leaps.Bridge.{ready_alive}
use Rattle.laws_leaps.proofs.Leaps.Calm.{Handled, steady}
use Rattle.laws_leaps.proofs.Leaps.Going.{gone, gone_exec, leapt_alone}
use Rattle.laws_leaps.proofs.Leaps.Law.{leap_runs_behind}
use Rattle.rules_facts.specs.Facts.{facts}
use Rattle.rules_facts.specs.Shown.{once_ended}
use Rattle.rules_facts.specs.Threads.{inner_bodies, planned}
use Rattle.laws_facts.specs.Shows.{shown_of}
use Rattle.laws_detail.specs.Rests.{BeginsPlainly, HeadOnlyTakesTime, OnlyTakeTime, StaysBehind, spent_by}
use Rattle.laws_detail.proofs.Alike.{Seen, TellsTheSame, facts_same, seen}
use Rattle.laws_detail.proofs.Charge.{seen_with, waiting_kept}
use Rattle.laws_detail.proofs.Plain.{Tells, prepared_tells, unit_seen}

-- ---- the thread

high_after : (k : ℕ) (s : ServerState) → (has_high (Some s) && capacity_in (Some (server_after k s)) == 0) ≡ false → assigned (server_after k s) ≡ assigned s
high_after k s e = by_high (is_high s) refl
  where
    by_high : (b : Bool) → is_high s ≡ b → assigned (server_after k s) ≡ assigned s
    by_high false h = ap (λ (b : Bool). assigned (if b then charge_ticks k s else s)) h
    by_high true h =
        let left : ((charge_ticks k s).capacity == 0) ≡ false = (rw h at e) in
        let some : (s.capacity - k == 0) ≡ false = subst (λ (n : ℕ). (n == 0) ≡ false) (charged_capacity k s) left in
        let still = less_high k s h some in
        ap (λ (b : Bool). assigned (if b then charge_ticks k s else s)) h
        ∙ ap assigned (charge_ticks_is k s)
        ∙ ap (λ (b : Bool). if b then s.params.high else s.params.low) (still ∙ sym h)

assigned_after : (k : ℕ) (p : Policy) (o : Option ServerState) → (has_high o && capacity_in (option_map (server_after k) o) == 0) ≡ false
    → assigned_under p (option_map (server_after k) o) ≡ assigned_under p o
assigned_after k (policy.Fifo p) o e = refl
assigned_after k (policy.Rr p) o e = refl
assigned_after k (policy.Sporadic params) None e = refl
assigned_after k (policy.Sporadic params) (Some s) e = high_after k s e
assigned_after k (policy.Strict params) None e = refl
assigned_after k (policy.Strict params) (Some s) e = high_after k s e

planned_after : (k : ℕ) (o : Option ServerState) → planned (option_map (server_after k) o) ≡ planned o
planned_after k None = refl
planned_after k (Some s) = by_high (is_high s)
  where
    by_high : (b : Bool) → (if b then charge_ticks k s else s).pending ≡ s.pending
    by_high true = ap (λ (x : ServerState). x.pending) (charge_ticks_is k s)
    by_high false = refl

bodies_after : {P : Type 0} (k : ℕ) (fs : List (Frame P)) → inner_bodies (frames_after k fs) ≡ inner_bodies fs
bodies_after k [] = refl
bodies_after {P} k (f ∷ fs) = by_kind (not (is_main f.kind))
  where
    rest : List (Frame P)
    rest = filter (λ (g : Frame P). not (is_main g.kind)) fs

    by_kind : (b : Bool) → map (λ (g : Frame P). g.body) (if b then record f { left = f.left - k } ∷ rest else rest) ≡ map (λ (g : Frame P). g.body) (if b then f ∷ rest else rest)
    by_kind true = refl
    by_kind false = refl

module _ {P : Type 0} (bodies : Bodies P) (k t : ℕ) (m : Machine P) (stand : Stand m) (only : OnlyTakeTime bodies k t m)
    (same : seen (in_unit bodies (thread_at m t)).thread ≡ seen (thread_at m t)) where
  abbrev unit : Thread P
  unit = (in_unit bodies (thread_at m t)).thread

  abbrev spent : Thread P
  spent = spent_by bodies k (thread_at m t)

  server : unit.server ≡ (thread_at m t).server
  server = ap (λ (p : Plans). p.server) (in_unit_plans bodies (thread_at m t))

  left : (has_high unit.server && capacity_in (option_map (server_after k) unit.server) == 0) ≡ false
  left = subst (λ (o : Option ServerState). (has_high o && capacity_in (option_map (server_after k) unit.server) == 0) ≡ false) (sym server) only.capacity

  spent_seen : seen spent ≡ seen (thread_at m t)
  spent_seen =
      ap (λ (a : ℕ). seen_with unit a (inner_bodies (frames_after k unit.frames)) (planned (option_map (server_after k) unit.server))) (assigned_after k unit.policy unit.server left)
      ∙ ap₂ (seen_with unit (assigned_under unit.policy unit.server)) (bodies_after k unit.frames) (planned_after k unit.server)
      ∙ same

  each_seen : (u : ℕ) → seen (thread_at (gone bodies t k m) u) ≡ seen (thread_at m u)
  each_seen u = of_two (changed_is no_thread t u (λ th. spent) m.threads)
    where
      of_two : ((t ≡ u) × (thread_in (changed_at no_thread t (λ th. spent) m.threads) u ≡ spent)) ⊎ (thread_in (changed_at no_thread t (λ th. spent) m.threads) u ≡ thread_at m u)
          → seen (thread_at (gone bodies t k m) u) ≡ seen (thread_at m u)
      of_two (inl h) = ap seen h.1 ∙ spent_seen ∙ ap (λ (v : ℕ). seen (thread_at m v)) h.0
      of_two (inr h) = ap seen h

  waiting_same : (passes : Wait → Bool) → waits_so passes spent ≡ waits_so passes (thread_at m t)
  waiting_same passes = ap (λ (s : Seen). option_map_or (λ (w : Waiting). passes w.wait) (waiting_in s.status) false) spent_seen

  tells_the_same : TellsTheSame m (gone bodies t k m).threads (m.now + k) m.last
  tells_the_same = record {
    each = each_seen;
    exec = gone_exec bodies t k m only.capacity stand;
    numbers = ap (range_with_len 0) (changed-length no_thread t (λ th. spent) m.threads);
    waiting = λ passes. waiting_kept 0 t (waits_so passes) (λ th. spent) m.threads (waiting_same passes);
  }

  spent_tells_nothing : (script : Script) → facts script (gone bodies t k m) ≡ facts script m
  spent_tells_nothing script = facts_same m (gone bodies t k m).threads (m.now + k) m.last tells_the_same script

-- ---- the leap

-- what so many ticks leave
pub record Left {P : Type 0} (script : Script) (m left : Machine P) : Type 0 where
  pub alive : left.killed ≡ None
  pub facts : facts script left ≡ facts script m

module _ {P : Type 0} (bodies : Bodies P) (script : Script) (m : Machine P) (h : Handled bodies m) (plain : BeginsPlainly m) (alive : m.killed ≡ None) where
  told : (to : Option ℕ) → head m ≡ to → Tells script m (prepares to (turn_of m)).machine
  told to e = prepared_tells script m to (λ u other. plain.closed u (ap (λ (o : Option ℕ). is o u) e ∙ other))

  pub leap_tells_nothing : (k : ℕ) (to : Option ℕ) → head m ≡ to → ((t : ℕ) → to ≡ Some t → OnlyTakeTime bodies k t (prepares to (turn_of m)).machine)
      → Left script m (leap_runs bodies k to (turn_of (prepares to (turn_of m)).machine)).machine
  leap_tells_nothing k None e only = record { alive = ready_alive bodies None m alive e; facts = (told None e).facts }
  leap_tells_nothing k (Some t) e only =
      let r = (prepares (Some t) (turn_of m)).machine in
      let so = (steady bodies (Some t) m h e).so in
      let living = ready_alive bodies (Some t) m alive e in
      let takes = only t refl in
      let runs = alike_runs m r t so.alike (head_can_run m t h.listed e) in
      let it : leap_runs bodies k (Some t) (turn_of r) ≡ turn_of (gone bodies t k r) = leapt_alone bodies t k r takes.capacity so.stand takes.interval takes.idle runs (so.swept alive) in
      let going = ap (λ s. s.is_ending) ((told (Some t) e).each t) ∙ plain.going t e in
      record {
        alive = ap (λ (s : Turn P). s.machine.killed) it ∙ living;
        facts = ap (λ (s : Turn P). facts script s.machine) it ∙ spent_tells_nothing bodies k t r so.stand takes (unit_seen bodies (thread_at r t) going) script ∙ (told (Some t) e).facts;
      }

-- what is left of a leap from an instant whose items are handled is what its head's ticks leave
module _ {P : Type 0} (bodies : Bodies P) (k : ℕ) (s : Turn P) (still : s.direct ≡ []) (alive : s.machine.killed ≡ None) where
  abbrev to : Option ℕ
  to = head s.machine

  abbrev begun : Turn P
  begun = prepares to s

  begun_is : begun ≡ behind begun.events (turn_of (at_head s.machine))
  begun_is =
      ap (λ (m : Machine P). record { machine = m; direct = begun.direct; events = begun.events }) (prepared_machine bodies to s still)
      ∙ ap (λ (ns : List ℕ). record { machine = at_head s.machine; direct = ns; events = begun.events }) ((prepares_unended to s).direct ∙ still)
      ∙ ap (λ (es : List Entry). record { machine = at_head s.machine; direct = []; events = es }) (sym (nothing_more begun.events))

  left_is : (leap_goes_on bodies k s).machine ≡ (leap_runs bodies k to (turn_of (at_head s.machine))).machine
  left_is =
      ap (λ (o : Option ℕ). (unless_killed o (leap_head bodies k) s).machine) alive
      ∙ ap (λ (x : Turn P). (leap_runs bodies k to x).machine) begun_is
      ∙ ap (λ (x : Turn P). x.machine) (leap_runs_behind bodies k to begun.events (turn_of (at_head s.machine)))

-- ---- the law

module _ {P : Type 0} (bodies : Bodies P) (script : Script) where
  abbrev shown_state : Machine P → Machine P
  shown_state m = once_ended m.killed m

  shown : (x : Machine P) → next_item x ≡ None → shown_of bodies x ≡ shown_state x
  shown x none = ap (λ (s : Turn P). shown_state s.machine) (idle_items bodies (item_bound x) (turn_of x) none)

  module _ (k : ℕ) (s : Turn P) (still : s.direct ≡ []) (h : Handled bodies s.machine) (plain : BeginsPlainly s.machine) (only : HeadOnlyTakesTime bodies k s.machine)
      (none : next_item (leap_goes_on bodies k s).machine ≡ None) where
    abbrev gone_on : Machine P
    gone_on = (leap_goes_on bodies k s).machine

    alive_stays : s.machine.killed ≡ None → facts script (shown_of bodies gone_on) ≡ facts script (shown_state s.machine)
    alive_stays alive =
        let there = left_is bodies k s still alive in
        let law = leap_tells_nothing bodies script s.machine h plain alive k (head s.machine) refl only in
        let living : gone_on.killed ≡ None = ap (λ (x : Machine P). x.killed) there ∙ law.alive in
        ap (facts script) (shown gone_on none ∙ ap (λ (o : Option ℕ). once_ended o gone_on) living ∙ there)
        ∙ law.facts
        ∙ sym (ap (λ (o : Option ℕ). facts script (once_ended o s.machine)) alive)

    -- behind a leap from there
    pub goes_on_telling_nothing : facts script (shown_of bodies gone_on) ≡ facts script (shown_state s.machine)
    goes_on_telling_nothing = by_killed s.machine.killed refl
      where
        by_killed : (o : Option ℕ) → s.machine.killed ≡ o → facts script (shown_of bodies gone_on) ≡ facts script (shown_state s.machine)
        by_killed None alive = alive_stays alive
        by_killed (Some signal) dead =
            ap (facts script) (shown gone_on none)
            ∙ ap (λ (o : Option ℕ). facts script (shown_state (unless_killed o (leap_head bodies k) s).machine)) dead

pub stays_behind : (bodies : Bodies Place) (script : Script) (m : Machine Place) → IsHandled m → BeginsPlainly m → (k : ℕ) → HeadOnlyTakesTime bodies k m → StaysBehind bodies script k m
stays_behind bodies script m handled plain k only none =
    let h = handled_of bodies m handled in
    let same : instant bodies (turn_of m) ≡ turn_of m = idle_items bodies (item_bound m) (turn_of m) h.nothing in
    let left_same = ap (λ (s : Turn Place). (leap_goes_on bodies k s).machine) same in
    ap (λ (x : Machine Place). facts script (shown_of bodies x)) left_same
    ∙ goes_on_telling_nothing bodies script k (turn_of m) refl h plain only (sym (ap next_item left_same) ∙ none)
    ∙ sym (ap (facts script) (shown bodies script m h.nothing))
