-- A leap of a thread in its parts: the charge, the effect of its unit, the moves, the rule of the tick's end, and the sweep.
use Rattle.std.proofs.Common.{◌≡◌, ◌∙◌, ◌≤◌, ◌+◌, ◌-◌, ◌^◌, ℕ, zero, suc, Bool, List, Option, Some, ap, arith, refl, subst, sym}
use Rattle.parts_tracer.specs.declared.tracer.Tracer.{Tracer}
use Rattle.parts_tracer.specs.Tells.{Tells}
use Rattle.parts_tracer.proofs.Tells.{tells_nothing}
use Rattle.rules_bodies.specs.declared.cursor.Cursor.{Cursor}
use Rattle.script_code.specs.declared.fetched.Fetched.{Fetched}
use Rattle.rules_bodies.specs.declared.op.Op.{Op}
use Rattle.rules_bodies.specs.declared.unit.Unit as unit_type
use Rattle.script_code.specs.Fetched.{unit_of}
use Rattle.rules_bodies.specs.Flat as flat
use Rattle.rules_machine.specs.Bodies.{Bodies}
use Rattle.rules_machine.specs.Delivery.{sweeps}
use Rattle.rules_machine.specs.Servers.{has_high}
use Rattle.rules_machine.specs.State.{Thread}
use Rattle.rules_machine.specs.Threads.{thread_at, top_left}
use Rattle.rules_machine.specs.Ticks.{completes, completes_at, tick_ends}
use Rattle.rules_machine.specs.Turns.{Turn, ◌▷◌}
use Rattle.rules_machine.specs.Units.{InUnit, in_unit}
use Rattle.rules_machine.proofs.Behind.{AddsBehind}
use Rattle.rules_machine.proofs.BehindCalls.{unit_effect_behind}
use Rattle.rules_machine.proofs.BehindTicks.{sweeps_behind, tick_ends_behind}
use Rattle.rules_machine.proofs.Kept.{Kept, kept}
use Rattle.rules_machine.proofs.KeptByCalls.{unit_effect_kept}
use Rattle.rules_machine.proofs.Reading.{thread-same}
use Rattle.rules_moves.proofs.Waiters.Best.{running_within}
use Rattle.rules_flat_code.specs.FlatBodies.{flat_bodies}
use Rattle.rules_leaps.specs.Leap.{leap_runs, unit_leapt}
use Rattle.rules_leaps.specs.Quiet.{after_ticks}
use Rattle.kernel_threads.specs.declared.ran.Ran.{Ran}
use Rattle.kernel_threads.specs.Running.{all_of}
use Rattle.kernel_wakes.specs.Calls.{objects_in}
use Rattle.calls_items.proofs.Coming.Steps.{come_later}
use Rattle.kernel_state.specs.Caught.{CanSweep}
use Rattle.kernel_state.specs.Kernel.{Kernel, after, told, turn}
use Rattle.kernel_settling.specs.Settled.{HavePriorities, Settles}
use Rattle.kernel_settling.specs.Stood.{StoodRight}
use Rattle.kernel_settling.proofs.SettleIs.{settles_after}
use Rattle.kernel_settling.proofs.StoodAgain.{stood_again}
use Rattle.kernel_state.proofs.Turns.{then_state, then_state_in, then_told, then_told_in}
use Rattle.kernel_leaps.specs.Completes.{CanAct, CanComplete}
use Rattle.kernel_leaps.specs.Passing.{HasLeapt, MayLeap, leap_of, passed_by}
use Rattle.kernel_leaps.proofs.ChargeKeeps.{charge_same}
use Rattle.kernel_leaps.proofs.Charged.{can_later}
use Rattle.kernel_leaps.proofs.ComingUnits.{completes_come}
use Rattle.kernel_leaps.proofs.Fitting.{charged_acts}
use Rattle.kernel_leaps.proofs.Landing.{unit_now, unit_sweeps}
use Rattle.kernel_leaps.proofs.Onward.{charges_by}
use Rattle.kernel_leaps.proofs.Passing.{Begun, lasts_few}

completes_kept : (bodies : Bodies Cursor) (left t : ℕ) (u : unit_type.Unit) (s : Turn Cursor) → kept (completes_at bodies left t u s) ≡ kept s
completes_kept bodies zero t u s = unit_effect_kept bodies t u s
completes_kept bodies (suc left) t u s = refl

completes_behind : (bodies : Bodies Cursor) (left t : ℕ) (u : unit_type.Unit) → AddsBehind (completes_at bodies left t u)
completes_behind bodies zero t u told s = unit_effect_behind bodies t u told s
completes_behind bodies (suc left) t u told s = refl

-- from a kernel p, whose thread t runs k ticks in the unit f
module _ (near t k : ℕ) (f : Fetched) (was : Bool) (p l : Kernel) (may : MayLeap near t p) (length_is : k ≡ leap_of near t p) (state : l ≡ after (charges_by t k p) p)
    (unit_is : unit_of p.code f ≡ (in_unit (flat_bodies p.code) (thread_at p.machine t)).unit) (high : was ≡ has_high (thread_at p.machine t).server) where
  abbrev bodies : Bodies Cursor
  bodies = flat_bodies p.code

  abbrev taken : InUnit Cursor
  taken = in_unit bodies (thread_at p.machine t)

  abbrev charged : Turn Cursor
  charged = charges_by t k p (turn p)

  abbrev left : ℕ
  left = top_left (thread_at charged.machine t).frames

  at : thread_at charged.machine t ≡ after_ticks k taken.thread
  at = thread-same p.machine t (λ th. after_ticks k taken.thread) (running_within p.machine.threads t may.fits.runs)

  can : CanComplete (objects_in p) (thread_at charged.machine t) taken.unit
  can = subst (λ (th : Thread Cursor). CanComplete (objects_in p) th taken.unit) (sym at) (can_later (objects_in p) k taken.thread taken.unit may.fits.thread.can.completes)

  -- ---- the effect of the unit

  pub acts : CanAct l t
  acts = charged_acts p l t k may.fits (let early = may.early in omega (arith, early)) state

  pub can_complete : CanComplete (objects_in l) (thread_at l.machine t) (unit_of l.code f)
  can_complete =
      subst (λ (x : Kernel). CanComplete (objects_in x) (thread_at x.machine t) (unit_of x.code f)) (sym state)
      (subst (CanComplete (objects_in p) (thread_at charged.machine t)) (sym unit_is) can)

  module _ (m : Kernel) (effect : m ≡ after (completes (flat_bodies l.code) t (unit_of l.code f)) l) where
    here : m ≡ after (completes bodies t taken.unit) l
    here =
        subst (λ (u : unit_type.Unit). m ≡ after (completes bodies t u) l) unit_is
        (subst (λ (x : flat.NumberedBodies (List Op)). m ≡ after (completes (flat_bodies x) t (unit_of x f)) l) (ap (λ (x : Kernel). x.code) state) effect)

    both : m ≡ after (λ (s : Turn Cursor). completes bodies t taken.unit (charges_by t k p s)) p
    both = then_state (charges_by t k p) (completes bodies t taken.unit) p l m (λ told s. completes_behind bodies (top_left (thread_at s.machine t).frames) t taken.unit told s) state here

    keeps : kept (completes_at bodies left t taken.unit charged) ≡ kept charged
    keeps = completes_kept bodies left t taken.unit charged

    -- ---- the moves

    module _ (n : Kernel) (settles : Settles m n) (fits : HavePriorities m.machine) where
      settled : n ≡ after (λ (s : Turn Cursor). s ▷ unit_leapt bodies k s.machine t (in_unit bodies (thread_at s.machine t))) p
      settled = settles_after p.machine (λ (s : Turn Cursor). completes bodies t taken.unit (charges_by t k p s)) p m n may.stood (ap (λ (x : Kept). x.lists) keeps) both settles

      pub settled_stood : StoodRight n.machine
      settled_stood =
          let s = completes_at bodies left t taken.unit charged in
          let fits_here = subst (λ (x : Kernel). HavePriorities x.machine) both fits in
          let come = come_later p.machine charged.machine s.machine s.direct (λ u. charge_same bodies k p.machine t u) (completes_come bodies (objects_in p) left t taken.unit charged can) in
          subst (λ (x : Kernel). StoodRight x.machine) (sym settled) (stood_again p.machine s.machine s.direct may.stood (ap (λ (x : Kept). x.lists) keeps) fits_here come)

      -- ---- the rule of the tick's end

      module _ (q : Kernel) (ends : q ≡ after (tick_ends was t) n) where
        ended : q ≡ after (λ (s : Turn Cursor). s ▷ unit_leapt bodies k s.machine t (in_unit bodies (thread_at s.machine t)) ▷ tick_ends (has_high (thread_at s.machine t).server) t) p
        ended =
            subst (λ (w : Bool). q ≡ after (λ (s : Turn Cursor). tick_ends w t (unit_leapt bodies k s.machine t (in_unit bodies (thread_at s.machine t)) s)) p) high
            (then_state_in (λ (b : Bodies Cursor) (s : Turn Cursor). unit_leapt b k s.machine t (in_unit b (thread_at s.machine t)) s) (λ b. tick_ends was t) p n q (λ b. tick_ends_behind was t) settled ends)

        pub may_be_swept : CanSweep q
        may_be_swept = unit_sweeps p q t k (leap_of near t p) length_is ended may.lands

        pub in_time : q.machine.now ≤ 10 ^ 18
        in_time =
            let now = unit_now p q t k ended in
            let few = lasts_few near p.machine.quantum taken.thread in
            let early = may.early in
            omega (arith, now, few, length_is, early)

        -- ---- the sweep

        module _ (r : Kernel) (sweep : r ≡ after (sweeps (flat_bodies q.code)) q) where
          pub leapt_state : r ≡ after (leap_runs bodies k (Some t)) p
          leapt_state = then_state_in (λ (b : Bodies Cursor) (s : Turn Cursor). s ▷ unit_leapt b k s.machine t (in_unit b (thread_at s.machine t)) ▷ tick_ends (has_high (thread_at s.machine t).server) t) sweeps p q r sweeps_behind ended sweep

          pub leapt_told : {K : Type 0} (text : K → Option (List ℕ)) (faults : K → ℕ) (a b c d : Tracer K) → Tells text faults l.names a b (told (completes (flat_bodies l.code) t (unit_of l.code f)) l) →
              Tells text faults n.names b c (told (tick_ends was t) n) → Tells text faults q.names c d (told (sweeps (flat_bodies q.code)) q) → Tells text faults p.names a d (told (leap_runs bodies k (Some t)) p)
          leapt_told text faults a b c d of_unit of_end of_sweep =
              let at_code = subst (λ (x : flat.NumberedBodies (List Op)). Tells text faults l.names a b (told (completes (flat_bodies x) t (unit_of x f)) l)) (ap (λ (x : Kernel). x.code) state) of_unit in
              let effect_told = subst (λ (u : unit_type.Unit). Tells text faults l.names a b (told (completes bodies t u) l)) unit_is at_code in
              let unit_told = then_told text faults (charges_by t k p) (completes bodies t taken.unit) p l a a b (λ told s. completes_behind bodies (top_left (thread_at s.machine t).frames) t taken.unit told s) state (tells_nothing text faults p.names a) effect_told in
              let end_told = then_told_in text faults (λ (b : Bodies Cursor) (s : Turn Cursor). unit_leapt b k s.machine t (in_unit b (thread_at s.machine t)) s) (λ b. tick_ends was t) p n a b c (λ b. tick_ends_behind was t) settled unit_told of_end in
              let ended_told = subst (λ (w : Bool). Tells text faults p.names a c (told (λ (s : Turn Cursor). tick_ends w t (unit_leapt bodies k s.machine t (in_unit bodies (thread_at s.machine t)) s)) p)) high end_told in
              then_told_in text faults (λ (b : Bodies Cursor) (s : Turn Cursor). s ▷ unit_leapt b k s.machine t (in_unit b (thread_at s.machine t)) ▷ tick_ends (has_high (thread_at s.machine t).server) t) sweeps p q a c d sweeps_behind ended ended_told of_sweep

-- all of it: from where the thread began, past units, to behind its leap
pub has_leapt : {K : Type 0} (text : K → Option (List ℕ)) (faults : K → ℕ) (near t : ℕ) (ran : Ran) (p l r : Kernel) (a d : Tracer K) {steps_before steps_now : ℕ} (b : Begun near t ran p l steps_before steps_now) → r ≡ after (leap_runs (flat_bodies b.behind.code) ran.ticks (Some t)) b.behind →
    Tells text faults b.behind.names a d (told (leap_runs (flat_bodies b.behind.code) ran.ticks (Some t)) b.behind) → HasLeapt text faults near t (ran.passed + ran.ticks) p r a d steps_before steps_now
has_leapt text faults near t ran p l r a d {steps_before} {steps_now} b state tells = record {
  units = b.units;
  each = b.each;
  all = (let passed = b.passed in let long = long' in omega (arith, passed, long));
  state = subst (λ (n : ℕ). r ≡ after (leap_runs (flat_bodies p.code) n (Some t)) (passed_by t b.units p)) long' (subst (λ (x : Kernel). r ≡ after (leap_runs (flat_bodies x.code) ran.ticks (Some t)) x) b.is state);
  told = subst (λ (n : ℕ). Tells text faults p.names a d (told (leap_runs (flat_bodies p.code) n (Some t)) (passed_by t b.units p))) long'
      (subst (λ (x : Kernel). Tells text faults x.names a d (told (leap_runs (flat_bodies x.code) ran.ticks (Some t)) x)) b.is tells);
  steps = b.steps;
}
  where
    long' : ran.ticks ≡ leap_of (near - all_of b.units) t (passed_by t b.units p)
    long' = b.long ∙ ap (leap_of (near - all_of b.units) t) b.is
