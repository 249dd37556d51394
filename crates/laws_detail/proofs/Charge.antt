-- The charge of a tick that does not matter changes no fact, where its head tells the same in the unit that it is in or takes.
use Rattle.std.proofs.Common.{Bool, List, None, Option, Some, [], ap, arith, false, inl, inr, refl, suc, sym, true, zero, ℕ, ◌∷◌, ◌≡◌, ◌⊎◌, ◌+◌}
use Rattle.std.specs.Prelude.{filter, map, not, option_map, ◌-◌, ◌==◌, ◌&&◌, ◌||◌, if◌then◌else◌}
use Rattle.std.specs.List.{range_with_len}
use Rattle.std.specs.Option.{option_map_or}
use mathlib.Core.Path.{ap₂, subst, ◌∙◌}
use Rattle.words_script.specs.declared.decl.Script.{Script}
use Rattle.words_script.specs.declared.policy.Policy.{Policy}
use Rattle.words_script.specs.declared.policy.Policy.TheVariants as policy
use Rattle.rules_server.specs.declared.Replenish.{Replenish}
use Rattle.rules_server.specs.Server.{ServerState, assigned, charge, is_high}
use Rattle.rules_machine.specs.declared.dispatch.LastDispatch.TheVariants as last
use Rattle.rules_machine.specs.declared.frame.BodyOf.{BodyOf}
use Rattle.rules_machine.specs.Lists.{changed_at, kept_if, numbers_from}
use Rattle.rules_machine.specs.Bodies.{Bodies}
use Rattle.rules_machine.specs.Priorities.{assigned_under}
use Rattle.rules_machine.specs.State.{Frame, Machine, Thread, Wait, Waiting}
use Rattle.rules_machine.specs.Threads.{is_main, no_thread, thread_at, thread_in, top_left, waiting_in}
use Rattle.rules_machine.specs.Turns.{turn_of}
use Rattle.rules_machine.specs.Servers.{charged, has_high}
use Rattle.rules_machine.specs.Units.{in_unit}
use Rattle.rules_machine.specs.Waiters.{waits_so}
use Rattle.rules_machine.specs.Ticks.{capacity_in, frames_charged, slice_is_used, tick_charged}
use Rattle.rules_machine.specs.Eventful.{tick_matters}
use Rattle.rules_machine.proofs.Reading.{changed-length}
use Rattle.rules_moves.proofs.Waiters.OfThreads.{changed_is}
use Rattle.laws_machine.proofs.Lists.Kept.{Plans, in_unit_plans}
use Rattle.laws_machine.proofs.Signals.Takers.{charge_of}
use Rattle.rules_leaps.specs.Quiet.{after_quiet}
use Rattle.laws_leaps.proofs.Quiet.Charges.{charged_exec}
use Rattle.laws_leaps.proofs.Quiet.Once.{less_high}
use Rattle.rules_facts.specs.Facts.{facts}
use Rattle.rules_facts.specs.Threads.{inner_bodies, planned}
use Rattle.laws_detail.proofs.Alike.{Seen, TellsTheSame, facts_same, seen}

-- ---- the thread

high_stays : (s : ServerState) → (has_high (Some s) && capacity_in (Some (charged s)) == 0) ≡ false → assigned (charged s) ≡ assigned s
high_stays s e = by_high (is_high s) refl
  where
    by_high : (b : Bool) → is_high s ≡ b → assigned (charged s) ≡ assigned s
    by_high false h = ap (λ (b : Bool). assigned (if b then charge s else s)) h
    by_high true h =
        let left : (s.capacity - 1 == 0) ≡ false = (rw h at e) in
        let still : is_high (charge s) ≡ true = less_high 1 s h left in
        ap (λ (b : Bool). assigned (if b then charge s else s)) h ∙ ap (λ (b : Bool). if b then s.params.high else s.params.low) (still ∙ sym h)

assigned_stays : (p : Policy) (o : Option ServerState) → (has_high o && capacity_in (option_map charged o) == 0) ≡ false → assigned_under p (option_map charged o) ≡ assigned_under p o
assigned_stays (policy.Fifo p) o e = refl
assigned_stays (policy.Rr p) o e = refl
assigned_stays (policy.Sporadic params) None e = refl
assigned_stays (policy.Sporadic params) (Some s) e = high_stays s e
assigned_stays (policy.Strict params) None e = refl
assigned_stays (policy.Strict params) (Some s) e = high_stays s e

planned_stays : (o : Option ServerState) → planned (option_map charged o) ≡ planned o
planned_stays None = refl
planned_stays (Some s) = by_high (is_high s)
  where
    by_high : (b : Bool) → (if b then charge s else s).pending ≡ s.pending
    by_high true = refl
    by_high false = refl

bodies_stay : {P : Type 0} (fs : List (Frame P)) → inner_bodies (frames_charged fs) ≡ inner_bodies fs
bodies_stay [] = refl
bodies_stay {P} (f ∷ fs) = by_kind (not (is_main f.kind))
  where
    rest : List (Frame P)
    rest = filter (λ (g : Frame P). not (is_main g.kind)) fs

    by_kind : (b : Bool) → map (λ (g : Frame P). g.body) (if b then record f { left = f.left - 1 } ∷ rest else rest) ≡ map (λ (g : Frame P). g.body) (if b then f ∷ rest else rest)
    by_kind true = refl
    by_kind false = refl

last_of : (a b c : Bool) → (a || b || c) ≡ false → c ≡ false
last_of a b c e = grind arith

module _ {P : Type 0} where
  abbrev pub seen_with : Thread P → ℕ → List BodyOf → List Replenish → Seen
  seen_with th assigned bodies planned = record {
    status = th.status;
    assigned = assigned;
    bodies = bodies;
    mask = th.mask;
    is_requested = th.is_requested;
    is_enabled = th.is_enabled;
    is_ending = th.is_ending;
    cleanups = th.cleanups;
    planned = planned;
  }

  charged_seen : (quantum : ℕ) (th : Thread P) → tick_matters (has_high th.server) quantum (tick_charged th) ≡ false → seen (tick_charged th) ≡ seen th
  charged_seen quantum th e =
      let spent : (has_high th.server && capacity_in (option_map charged th.server) == 0) ≡ false =
      last_of (top_left (tick_charged th).frames == 0) (slice_is_used (tick_charged th).policy (tick_charged th).slice quantum) (has_high th.server && capacity_in (tick_charged th).server == 0) e in
      ap (λ (a : ℕ). seen_with th a (inner_bodies (frames_charged th.frames)) (planned (option_map charged th.server))) (assigned_stays th.policy th.server spent)
      ∙ ap₂ (seen_with th (assigned_under th.policy th.server)) (bodies_stay th.frames) (planned_stays th.server)

  pub waiting_kept : (n t : ℕ) (passes : Thread P → Bool) (f : Thread P → Thread P) (ths : List (Thread P)) → passes (f (thread_in ths t)) ≡ passes (thread_in ths t)
      → numbers_from n passes (changed_at no_thread t f ths) ≡ numbers_from n passes ths
  waiting_kept n t passes f [] e = refl
  waiting_kept n zero passes f (th ∷ ths) e = ap (λ (b : Bool). kept_if b n (numbers_from (n + 1) passes ths)) e
  waiting_kept n (suc t) passes f (th ∷ ths) e = ap (kept_if (passes th) n) (waiting_kept (n + 1) t passes f ths e)

-- ---- the machine

module _ {P : Type 0} (bodies : Bodies P) (t : ℕ) (m : Machine P)
    (same : seen (in_unit bodies (thread_at m t)).thread ≡ seen (thread_at m t))
    (matters : tick_matters (has_high (thread_at m t).server) m.quantum (charge_of bodies (thread_at m t)) ≡ false) where
  abbrev charging : Thread P → Thread P
  charging th = charge_of bodies (thread_at m t)

  head_seen : seen (charge_of bodies (thread_at m t)) ≡ seen (thread_at m t)
  head_seen =
      let unit = (in_unit bodies (thread_at m t)).thread in
      let server : unit.server ≡ (thread_at m t).server = ap (λ (p : Plans). p.server) (in_unit_plans bodies (thread_at m t)) in
      charged_seen m.quantum unit (subst (λ (o : Option ServerState). tick_matters (has_high o) m.quantum (tick_charged unit) ≡ false) (sym server) matters) ∙ same

  each_seen : (u : ℕ) → seen (thread_at (after_quiet bodies t m) u) ≡ seen (thread_at m u)
  each_seen u = of_two (changed_is no_thread t u charging m.threads)
    where
      of_two : ((t ≡ u) × (thread_in (changed_at no_thread t charging m.threads) u ≡ charging (thread_at m t))) ⊎ (thread_in (changed_at no_thread t charging m.threads) u ≡ thread_at m u) →
          seen (thread_at (after_quiet bodies t m) u) ≡ seen (thread_at m u)
      of_two (inl k) = ap seen k.1 ∙ head_seen ∙ ap (λ (v : ℕ). seen (thread_at m v)) k.0
      of_two (inr k) = ap seen k

  waiting_same : (passes : Wait → Bool) → waits_so passes (charging (thread_at m t)) ≡ waits_so passes (thread_at m t)
  waiting_same passes = ap (λ (s : Seen). option_map_or (λ (w : Waiting). passes w.wait) (waiting_in s.status) false) head_seen

  tells_the_same : TellsTheSame m (after_quiet bodies t m).threads (m.now + 1) (last.Ran t)
  tells_the_same = record {
    each = each_seen;
    exec = charged_exec bodies t (turn_of m) matters;
    numbers = ap (range_with_len 0) (changed-length no_thread t charging m.threads);
    waiting = λ passes. waiting_kept 0 t (waits_so passes) charging m.threads (waiting_same passes);
  }

  pub charge_tells_nothing : (script : Script) → facts script (after_quiet bodies t m) ≡ facts script m
  charge_tells_nothing script = facts_same m (after_quiet bodies t m).threads (m.now + 1) (last.Ran t) tells_the_same script
