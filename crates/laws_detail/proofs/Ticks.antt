-- So many charges of a machine, none of which matters, tell what the first of them tells.
use Rattle.std.proofs.Common.{None, Option, Some, ap, arith, false, refl, suc, sym, zero, ℕ, ◌<◌, ◌≡◌}
use mathlib.Core.Path.{◌∙◌}
use Rattle.words_script.specs.declared.decl.Script.{Script}
use Rattle.rules_machine.specs.Bodies.{Bodies}
use Rattle.rules_machine.specs.Dispatch.{head}
use Rattle.rules_machine.specs.Eventful.{unless_ended}
use Rattle.rules_machine.specs.Servers.{has_high}
use Rattle.rules_machine.specs.State.{Machine, Thread}
use Rattle.rules_machine.specs.Threads.{thread_at, top_left}
use Rattle.rules_machine.specs.Ticks.{prepares}
use Rattle.rules_machine.specs.Turns.{turn_of}
use Rattle.rules_machine.specs.Units.{in_unit}
use Rattle.rules_machine.proofs.Reading.{thread-same}
use Rattle.rules_moves.proofs.Runs.Listed.{head_can_run}
use Rattle.rules_moves.proofs.Runs.Preparing.{alike_runs}
use Rattle.rules_moves.proofs.Waiters.Best.{running_within}
use Rattle.laws_machine.proofs.Signals.Takers.{charge_of}
use Rattle.laws_leaps.proofs.Quiet.Once.{Begins, begins_on, idle_once, in_unit_on, matters_of, one_is}
use Rattle.laws_leaps.proofs.Quiet.Prepared.{one_plain, plain_charges}
use Rattle.laws_leaps.proofs.Quiet.Runs.{charges}
use Rattle.laws_leaps.proofs.Quiet.Ticks.{left_over}
use Rattle.laws_leaps.proofs.Leaps.Bridge.{bridge, going_at, matters_at, ready_alive, ready_first}
use Rattle.laws_leaps.proofs.Leaps.Calm.{Handled, steady}
use Rattle.laws_leaps.proofs.Leaps.Ended.{ended_stays}
use Rattle.rules_facts.specs.Facts.{facts}
use Rattle.rules_facts.specs.Shown.{once_ended}
use Rattle.laws_detail.proofs.Alike.{seen}
use Rattle.laws_detail.proofs.Charge.{charge_tells_nothing}

-- the machine that is shown, of one whose items are handled
abbrev pub shown_state : {P : Type 0} → Machine P → Machine P
shown_state m = once_ended m.killed m

pub alive_is_shown : {P : Type 0} (m : Machine P) → m.killed ≡ None → shown_state m ≡ m
alive_is_shown m alive = ap (λ (o : Option ℕ). once_ended o m) alive

module _ {P : Type 0} (bodies : Bodies P) (script : Script) where
  -- the next so many charges do not matter
  abbrev pub Passing : ℕ → Machine P → Type 0
  Passing k m = (i : ℕ) → i < k → unless_ended bodies (charges bodies i m).killed (charges bodies i m) ≡ false

  abbrev PlainPassing : ℕ → Machine P → Type 0
  PlainPassing k m = (i : ℕ) → i < k → unless_ended bodies (plain_charges bodies i m).killed (plain_charges bodies i m) ≡ false

  -- ---- of a head that has begun its tick

  -- after a charge that does not matter the head is in the midst of its unit
  in_midst : (t : ℕ) (m : Machine P) → Begins bodies t m → unless_ended bodies m.killed m ≡ false → (in_unit bodies (thread_at (one_plain bodies m) t)).thread ≡ thread_at (one_plain bodies m) t
  in_midst t m b e =
      let left = left_over (has_high (thread_at m t).server) m.quantum (charge_of bodies (thread_at m t)) (matters_of bodies t m b.alive b.first e) in
      let it : thread_at (one_plain bodies m) t ≡ charge_of bodies (thread_at m t) =
      ap (λ (n : Machine P). thread_at n t) (one_is bodies t m b.alive b.first) ∙ thread-same m t (λ th. charge_of bodies (thread_at m t)) b.here in
      in_unit_on bodies (thread_at (one_plain bodies m) t) left.0 (ap (λ (th : Thread P). top_left th.frames) it ∙ left.1)

  plain_rest : (k t : ℕ) (r : Machine P) → Begins bodies t r → PlainPassing (suc k) r → facts script (plain_charges bodies (suc k) r) ≡ facts script (plain_charges bodies 1 r)
  plain_rest zero t r b pass = refl
  plain_rest (suc k) t r b pass =
      let at = plain_charges bodies (suc k) r in
      let on = begins_on bodies (suc k) t r b in
      let midst = in_midst t (plain_charges bodies k r) (begins_on bodies k t r b) (pass k (omega arith)) in
      ap (facts script) (one_is bodies t at on.alive on.first)
      ∙ charge_tells_nothing bodies t at (ap seen midst) (matters_of bodies t at on.alive on.first (pass (suc k) (omega arith))) script
      ∙ plain_rest k t r b (λ i small. pass i (omega arith))

  idle_rest : (k : ℕ) (r : Machine P) → r.killed ≡ None → head r ≡ None → facts script (plain_charges bodies (suc k) r) ≡ facts script (plain_charges bodies 1 r)
  idle_rest k r alive none = idle k ∙ sym (idle 0)
    where
      idle : (n : ℕ) → facts script (plain_charges bodies (suc n) r) ≡ facts script r
      idle n = ap (facts script) (idle_once bodies n r alive none)

  -- ---- of a machine whose items are handled

  module _ (m : Machine P) (h : Handled bodies m) where
    by_head : (k : ℕ) (to : Option ℕ) → m.killed ≡ None → head m ≡ to → Passing (suc k) m
        → facts script (plain_charges bodies (suc k) (prepares to (turn_of m)).machine) ≡ facts script (plain_charges bodies 1 (prepares to (turn_of m)).machine)
    by_head k None alive first pass = idle_rest k (prepares None (turn_of m)).machine (ready_alive bodies None m alive first) (ready_first bodies None m alive first)
    by_head k (Some t) alive first pass =
        let r = (prepares (Some t) (turn_of m)).machine in
        let so = (steady bodies (Some t) m h first).so in
        plain_rest k t r
        (record { alive = ready_alive bodies (Some t) m alive first; first = ready_first bodies (Some t) m alive first; here = running_within r.threads t (alike_runs m r t so.alike (head_can_run m t h.listed first)) })
        (λ i small. sym (matters_at bodies (Some t) m alive first h i) ∙ pass i small)

    alive_at : (k : ℕ) → m.killed ≡ None → (charges bodies (suc k) m).killed ≡ None
    alive_at k alive = ap (λ (x : Machine P). x.killed) (bridge bodies (head m) m alive refl k) ∙ (going_at bodies (head m) m alive refl k).alive

    alive_rest : (k : ℕ) → m.killed ≡ None → Passing (suc k) m → facts script (shown_state (charges bodies (suc k) m)) ≡ facts script (shown_state (charges bodies 1 m))
    alive_rest k alive pass =
        ap (facts script) (alive_is_shown (charges bodies (suc k) m) (alive_at k alive) ∙ bridge bodies (head m) m alive refl k)
        ∙ by_head k (head m) alive refl pass
        ∙ sym (ap (facts script) (alive_is_shown (charges bodies 1 m) (alive_at 0 alive) ∙ bridge bodies (head m) m alive refl 0))

    ended_rest : (k signal : ℕ) → m.killed ≡ Some signal → facts script (shown_state (charges bodies (suc k) m)) ≡ facts script (shown_state (charges bodies 1 m))
    ended_rest k signal dead = ap (λ (x : Machine P). facts script (shown_state x)) (ended_stays bodies (suc k) m signal dead ∙ sym (ended_stays bodies 1 m signal dead))

    pub charges_rest : (k : ℕ) → Passing (suc k) m → facts script (shown_state (charges bodies (suc k) m)) ≡ facts script (shown_state (charges bodies 1 m))
    charges_rest k pass = by_killed m.killed refl
      where
        by_killed : (o : Option ℕ) → m.killed ≡ o → facts script (shown_state (charges bodies (suc k) m)) ≡ facts script (shown_state (charges bodies 1 m))
        by_killed None alive = alive_rest k alive pass
        by_killed (Some signal) dead = ended_rest k signal dead
