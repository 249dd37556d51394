-- A tick that begins plainly, and does not matter, changes no fact.
use Rattle.std.proofs.Common.{Bool, List, None, Option, Some, [], ap, false, inl, inr, refl, suc, sym, true, zero, ℕ, ◌∷◌, ◌≡◌, ◌⊎◌}
use Rattle.std.specs.Prelude.{filter, map, not, option_map, ◌&&◌, if◌then◌else◌}
use Rattle.std.specs.List.{range_with_len}
use mathlib.Core.Path.{ap₂, ◌∙◌}
use Rattle.words_script.specs.declared.decl.Script.{Script}
use Rattle.words_script.specs.declared.policy.Policy.{Policy}
use Rattle.words_script.specs.declared.policy.Policy.TheVariants as policy
use Rattle.words_trace.specs.declared.event.Event.{Event}
use Rattle.rules_server.specs.declared.Replenish.{Replenish}
use Rattle.rules_server.specs.Server.{ServerState, activate}
use Rattle.rules_machine.specs.declared.frame.BodyOf.{BodyOf}
use Rattle.rules_machine.specs.Bodies.{Bodies, NextUnit}
use Rattle.rules_machine.specs.Dispatch.{dispatch_event, dispatch_of, dispatches, head, is_same, tells_unless}
use Rattle.rules_machine.specs.Eventful.{unless_ended}
use Rattle.rules_machine.specs.Lists.{changed_at, is}
use Rattle.rules_machine.specs.Priorities.{Claim, assigned_of, assigned_under, claim_of, exec_in, mutex_awaited_by}
use Rattle.rules_machine.specs.Servers.{closes_of, has_run, may_open, opens, opens_for, opens_if, plans_if, with_server}
use Rattle.rules_machine.specs.State.{Frame, Machine, Thread}
use Rattle.rules_machine.specs.Threads.{is_main, no_thread, thread_at, thread_in, thread_numbers, top_kind, top_left}
use Rattle.rules_machine.specs.Ticks.{prepares}
use Rattle.rules_machine.specs.Turns.{Turn, turn_of}
use Rattle.rules_machine.specs.Units.{advances, choice, frame_begins, in_unit, next_of, takes_unit}
use Rattle.rules_machine.specs.Waiters.{waits_so}
use Rattle.rules_machine.proofs.Reading.{changed-length}
use Rattle.rules_moves.proofs.Waiters.OfThreads.{changed_is}
use Rattle.laws_leaps.proofs.Quiet.Charges.{claims_same}
use Rattle.laws_leaps.proofs.Quiet.Once.{idle_once, matters_of, one_is}
use Rattle.laws_leaps.proofs.Quiet.Prepared.{plain_charges}
use Rattle.laws_leaps.proofs.Quiet.Runs.{charges}
use Rattle.laws_leaps.proofs.Leaps.Bridge.{bridge, going_at, matters_at, ready_alive, ready_first}
use Rattle.laws_leaps.proofs.Leaps.Calm.{Handled}
use Rattle.laws_leaps.proofs.Leaps.Ended.{ended_stays}
use Rattle.rules_facts.specs.Facts.{facts}
use Rattle.rules_facts.specs.Threads.{inner_bodies, planned}
use Rattle.laws_detail.specs.Rests.{BeginsPlainly}
use Rattle.laws_detail.proofs.Alike.{TellsTheSame, facts_same, seen}
use Rattle.laws_detail.proofs.Charge.{charge_tells_nothing, seen_with, waiting_kept}
use Rattle.laws_detail.proofs.Ticks.{alive_is_shown, shown_state}

-- ---- a thread that is not ending takes its unit

module _ {P : Type 0} (bodies : Bodies P) (th : Thread P) where
  begun_bodies : (next : NextUnit P) (f : Frame P) (fs : List (Frame P)) → inner_bodies (frame_begins next f ∷ fs) ≡ inner_bodies (f ∷ fs)
  begun_bodies next f fs = by_kind (not (is_main f.kind))
    where
      rest : List (Frame P)
      rest = filter (λ (g : Frame P). not (is_main g.kind)) fs

      by_kind : (b : Bool) → map (λ (g : Frame P). g.body) (if b then frame_begins next f ∷ rest else rest) ≡ map (λ (g : Frame P). g.body) (if b then f ∷ rest else rest)
      by_kind true = refl
      by_kind false = refl

  advance_seen : (fs : List (Frame P)) → th.frames ≡ fs → seen (advances bodies fs th).thread ≡ seen th
  advance_seen [] e = refl
  advance_seen (f ∷ fs) e =
      ap (λ (bs : List BodyOf). seen_with th (assigned_of th) bs (planned th.server)) (begun_bodies (next_of bodies f) f fs ∙ sym (ap inner_bodies e))

  by_left : (left : ℕ) → seen (takes_unit bodies (choice left false th.cleanups) th).thread ≡ seen th
  by_left zero = advance_seen th.frames refl
  by_left (suc left) = refl

  pub unit_seen : th.is_ending ≡ false → seen (in_unit bodies th).thread ≡ seen th
  unit_seen e = ap (λ (b : Bool). seen (takes_unit bodies (choice (top_left th.frames) (b && is_main (top_kind th.frames)) th.cleanups) th).thread) e ∙ by_left (top_left th.frames)

-- ---- what precedes the tick of the head, where no run closes

-- another machine tells the same
pub record Tells {P : Type 0} (script : Script) (m n : Machine P) : Type 0 where
  pub facts : facts script n ≡ facts script m
  pub each : (u : ℕ) → seen (thread_at n u) ≡ seen (thread_at m u)

assigned_opened : (now : ℕ) (p : Policy) (o : Option ServerState) → assigned_under p (option_map (activate now) o) ≡ assigned_under p o
assigned_opened now (policy.Fifo p) o = refl
assigned_opened now (policy.Rr p) o = refl
assigned_opened now (policy.Sporadic params) None = refl
assigned_opened now (policy.Sporadic params) (Some s) = refl
assigned_opened now (policy.Strict params) None = refl
assigned_opened now (policy.Strict params) (Some s) = refl

planned_opened : (now : ℕ) (o : Option ServerState) → planned (option_map (activate now) o) ≡ planned o
planned_opened now None = refl
planned_opened now (Some s) = refl

module _ {P : Type 0} where
  opened_seen : (now : ℕ) (th : Thread P) → seen (with_server (activate now) th) ≡ seen th
  opened_seen now th =
      ap₂ (λ (a : ℕ) (rs : List Replenish). seen_with th a (inner_bodies th.frames) rs) (assigned_opened now th.policy th.server) (planned_opened now th.server)

  -- the run of a thread opens
  module _ (t : ℕ) (m : Machine P) where
    abbrev opening : Thread P → Thread P
    opening = with_server (activate m.now)

    each_seen : (u : ℕ) → seen (thread_in (changed_at no_thread t opening m.threads) u) ≡ seen (thread_at m u)
    each_seen u = of_two (changed_is no_thread t u opening m.threads)
      where
        of_two : ((t ≡ u) × (thread_in (changed_at no_thread t opening m.threads) u ≡ opening (thread_at m t))) ⊎ (thread_in (changed_at no_thread t opening m.threads) u ≡ thread_at m u)
            → seen (thread_in (changed_at no_thread t opening m.threads) u) ≡ seen (thread_at m u)
        of_two (inl k) = ap seen k.1 ∙ opened_seen m.now (thread_at m t) ∙ ap (λ (v : ℕ). seen (thread_at m v)) k.0
        of_two (inr k) = ap seen k

    same_claim : claim_of (opening (thread_at m t)) ≡ claim_of (thread_at m t)
    same_claim = ap (λ (n : ℕ). record { assigned = n; awaited = mutex_awaited_by (thread_at m t) }) (assigned_opened m.now (thread_at m t).policy (thread_at m t).server)

    opened_same : TellsTheSame m (changed_at no_thread t opening m.threads) m.now m.last
    opened_same = record {
      each = each_seen;
      exec = λ u. ap (λ (cs : List Claim). exec_in cs m.mutexes u) (claims_same m.threads t opening same_claim);
      numbers = ap (range_with_len 0) (changed-length no_thread t opening m.threads);
      waiting = λ passes. waiting_kept 0 t (waits_so passes) opening m.threads refl;
    }

  module _ (script : Script) where
    opens_for_tells : (t : ℕ) (o : Option ServerState) (s : Turn P) → Tells script s.machine (opens_for t o s).machine
    opens_for_tells t None s = record { facts = refl; each = λ u. refl }
    opens_for_tells t (Some x) s = by_may (may_open x)
      where
        by_may : (b : Bool) → Tells script s.machine (opens_if b t x s).machine
        by_may true = record {
          facts = facts_same s.machine (changed_at no_thread t (opening t s.machine) s.machine.threads) s.machine.now s.machine.last (opened_same t s.machine) script;
          each = each_seen t s.machine;
        }
        by_may false = record { facts = refl; each = λ u. refl }

    opens_tells : (to : Option ℕ) (s : Turn P) → Tells script s.machine (opens to s).machine
    opens_tells None s = record { facts = refl; each = λ u. refl }
    opens_tells (Some t) s = opens_for_tells t (thread_at s.machine t).server s

    closes_nothing : (to : Option ℕ) (ts : List ℕ) (s : Turn P) → ((u : ℕ) → is to u ≡ false → has_run (thread_at s.machine u).server ≡ false) → closes_of to ts s ≡ s
    closes_nothing to [] s h = refl
    closes_nothing to (t ∷ ts) s h = ap (λ (b : Bool). closes_of to ts (plans_if b t s)) (by_head (is to t) refl) ∙ closes_nothing to ts s h
      where
        by_head : (b : Bool) → is to t ≡ b → (not b && has_run (thread_at s.machine t).server) ≡ false
        by_head true e = refl
        by_head false e = h t e

    module _ (m : Machine P) (to : Option ℕ) (closed : (u : ℕ) → is to u ≡ false → has_run (thread_at m u).server ≡ false) where
      abbrev sent : Turn P
      sent = dispatches to (turn_of m)

      sent_is : (b : Bool) (e : Event) → record (tells_unless b e (turn_of m)).machine { last = dispatch_of to } ≡ record m { last = dispatch_of to }
      sent_is true e = refl
      sent_is false e = refl

      sent_machine : sent.machine ≡ record m { last = dispatch_of to }
      sent_machine = sent_is (is_same m.last to) (dispatch_event m to)

      prepared_is : prepares to (turn_of m) ≡ opens to sent
      prepared_is = ap (λ (s : Turn P). opens to (dispatches to s)) (closes_nothing to (thread_numbers m) (turn_of m) closed)

      pub prepared_tells : Tells script m (prepares to (turn_of m)).machine
      prepared_tells =
          let opened = opens_tells to sent in
          record {
            facts = ap (λ (s : Turn P). facts script s.machine) prepared_is ∙ opened.facts ∙ ap (facts script) sent_machine;
            each = λ u. ap (λ (s : Turn P). seen (thread_at s.machine u)) prepared_is ∙ opened.each u ∙ ap (λ (n : Machine P). seen (thread_at n u)) sent_machine;
          }

-- ---- the tick

module _ {P : Type 0} (bodies : Bodies P) (script : Script) (m : Machine P) (h : Handled bodies m) (plain : BeginsPlainly m) where
  told : (to : Option ℕ) → head m ≡ to → Tells script m (prepares to (turn_of m)).machine
  told to e = prepared_tells script m to (λ u other. plain.closed u (ap (λ (o : Option ℕ). is o u) e ∙ other))

  module _ (alive : m.killed ≡ None) (pass : unless_ended bodies m.killed m ≡ false) where
    by_head : (to : Option ℕ) → head m ≡ to → facts script (plain_charges bodies 1 (prepares to (turn_of m)).machine) ≡ facts script m
    by_head None e =
        ap (facts script) (idle_once bodies 0 (prepares None (turn_of m)).machine (ready_alive bodies None m alive e) (ready_first bodies None m alive e))
        ∙ (told None e).facts
    by_head (Some t) e =
        let r = (prepares (Some t) (turn_of m)).machine in
        let living = ready_alive bodies (Some t) m alive e in
        let top = ready_first bodies (Some t) m alive e in
        ap (facts script) (one_is bodies t r living top)
        ∙ charge_tells_nothing bodies t r (unit_seen bodies (thread_at r t) (ap (λ s. s.is_ending) ((told (Some t) e).each t) ∙ plain.going t e))
        (matters_of bodies t r living top (sym (matters_at bodies (Some t) m alive e h 0) ∙ pass)) script
        ∙ (told (Some t) e).facts

    alive_rest : facts script (shown_state (charges bodies 1 m)) ≡ facts script (shown_state m)
    alive_rest =
        let there = bridge bodies (head m) m alive refl 0 in
        let living : (charges bodies 1 m).killed ≡ None = ap (λ (x : Machine P). x.killed) there ∙ (going_at bodies (head m) m alive refl 0).alive in
        ap (facts script) (alive_is_shown (charges bodies 1 m) living ∙ there)
        ∙ by_head (head m) refl
        ∙ sym (ap (facts script) (alive_is_shown m alive))

  -- the first charge tells nothing
  pub charge_rests : unless_ended bodies m.killed m ≡ false → facts script (shown_state (charges bodies 1 m)) ≡ facts script (shown_state m)
  charge_rests pass = by_killed m.killed refl
    where
      by_killed : (o : Option ℕ) → m.killed ≡ o → facts script (shown_state (charges bodies 1 m)) ≡ facts script (shown_state m)
      by_killed None alive = alive_rest alive pass
      by_killed (Some signal) dead = ap (λ (x : Machine P). facts script (shown_state x)) (ended_stays bodies 1 m signal dead)
