-- A sweep comes to a kernel that it could come to, since what it leaves is so.
use Rattle.std.proofs.Common.{◌≡◌, ◌∙◌, ◌≤◌, ◌+◌, ℕ, List, [], false, Option, None, Some, ap, refl, subst, suc, sym}
use Rattle.std.specs.Prelude.{IfSome, is_some}
use Rattle.parts_tracer.specs.declared.tracer.Tracer.{Tracer}
use Rattle.words_numbers.specs.declared.item.Item.{Item}
use Rattle.rules_bodies.specs.declared.cursor.Cursor.{Cursor}
use Rattle.rules_machine.specs.Agenda.{agenda}
use Rattle.rules_machine.specs.Bodies.{Bodies}
use Rattle.rules_machine.specs.Delivery.{sweeps}
use Rattle.rules_machine.specs.Dispatch.{head}
use Rattle.rules_machine.specs.DueItems.{handles, instant, item_done, items_done, next_item}
use Rattle.rules_machine.specs.Runs.{Ran, ticks}
use Rattle.rules_machine.specs.Servers.{has_high}
use Rattle.rules_machine.specs.State.{Machine}
use Rattle.rules_machine.specs.Threads.{thread_at, top_left}
use Rattle.rules_machine.specs.Ticks.{prepares, tick_ends, unless_killed}
use Rattle.rules_machine.specs.Turns.{Turn, becomes, changes, settles_since, ◌▷◌}
use Rattle.rules_machine.specs.Units.{in_unit}
use Rattle.rules_machine.proofs.BehindTicks.{item_done_behind, sweeps_behind}
use Rattle.rules_machine.proofs.Instants.{completes_now, tick_ends_now}
use Rattle.rules_flat_code.specs.FlatBodies.{flat_bodies}
use Rattle.rules_leaps.specs.Quiet.{after_ticks, at_head}
use Rattle.rules_leaps.specs.Leap.{later_by, leap, leap_goes_on, leap_head, leap_length, leap_runs, length_from, ticks_to_next, unit_leapt}
use Rattle.laws_leaps.proofs.Leaps.Law.{leap_runs_behind}
use Rattle.laws_leaps.proofs.Quiet.Charges.{prepared_machine}
use Rattle.kernel_state.specs.Kernel.{Kernel, after, turn}
use Rattle.kernel_state.proofs.Turns.{then_state_in}
use Rattle.kernel_state.specs.Caught.{CanSweep}
use Rattle.kernel_wakes.specs.Calls.{objects_in}
use Rattle.laws_kernel.specs.Visitable.{CanBeSwept}
use Rattle.laws_kernel.proofs.Sweeping.{can_visit, swept_back}
use Rattle.kernel_leaps.specs.Fits.{ItemsFit, StaysFit}
use Rattle.kernel_leaps.specs.Landing.{IsSweepable}
use Rattle.kernel_threads.specs.Lasting.{lasts_by}
use Rattle.kernel_leaps.specs.Reach.{run_length}
use Rattle.kernel_leaps.proofs.Halfway.{Halfway}
use Rattle.kernel_leaps.proofs.ItemsLaw.{items_more}
use Rattle.kernel_leaps.proofs.LeapParts.{leap_goes_on_behind}
use Rattle.kernel_leaps.proofs.Nearer.{length_near}
use Rattle.kernel_leaps.proofs.Running.{is_leap_of, turn_is}

pub can_sweep : (k : Kernel) → IsSweepable k → CanSweep k
can_sweep k h = record { caught = record { each = h.caught }; each = λ t. can_visit k.machine.now (thread_at k.machine t) (h.each t) }

-- what it is before the sweep
before_sweep : (f : Bodies Cursor → Turn Cursor → Turn Cursor) (p l : Kernel) → l ≡ after (f (flat_bodies p.code)) p → IsSweepable (after (λ (s : Turn Cursor). sweeps (flat_bodies p.code) (f (flat_bodies p.code) s)) p) → IsSweepable l
before_sweep f p l state h =
    let both = then_state_in f sweeps p l (after (sweeps (flat_bodies l.code)) l) sweeps_behind state refl in
    let there : IsSweepable (after (sweeps (flat_bodies l.code)) l) = subst IsSweepable (sym both) h in
    swept_back (flat_bodies l.code) l.code (turn l) there

-- ---- in an item

pub item_sweeps : {K : Type 0} (text : K → Option (List ℕ)) (faults : K → ℕ) (start k : Kernel) (a b : Tracer K) (i : Item) → Halfway text faults start k a b → ItemsFit start (objects_in start) → next_item k.machine ≡ Some i →
    CanSweep (after (λ (s : Turn Cursor). s ▷ handles (flat_bodies k.code) i ▷ settles_since s.machine) k)
item_sweeps text faults start k a b i half fit due =
    let bodies = flat_bodies start.code in
    let at : next_item (items_done bodies half.done (turn start)).machine ≡ Some i = subst (λ (x : Kernel). next_item x.machine ≡ Some i) half.state due in
    let more = items_more bodies half.done (turn start) i at in
    let one = after (item_done (flat_bodies k.code) i) k in
    let both = then_state_in (λ b. items_done b half.done) (λ b. item_done b i) start k one (λ b. item_done_behind b i) half.state refl in
    let there = subst (λ (s : Turn Cursor). CanBeSwept start.code s.machine) more (fit.each (suc half.done)).sweeps in
    let done : IsSweepable one = subst IsSweepable (sym both) there in
    let mid = λ (c : Bodies Cursor) (s : Turn Cursor). s ▷ handles c i ▷ settles_since s.machine in
    can_sweep (after (mid (flat_bodies k.code)) k) (before_sweep mid k (after (mid (flat_bodies k.code)) k) refl done)

-- ---- in a leap

-- after the unit and the rule of the tick's end
pub unit_sweeps : (p l : Kernel) (t k n : ℕ) → k ≡ n →
    l ≡ after (λ (s : Turn Cursor). s ▷ unit_leapt (flat_bodies p.code) k s.machine t (in_unit (flat_bodies p.code) (thread_at s.machine t)) ▷ tick_ends (has_high (thread_at s.machine t).server) t) p →
    IsSweepable (after (leap_runs (flat_bodies p.code) n (Some t)) p) → CanSweep l
unit_sweeps p l t k n same state lands =
    let unit = λ (b : Bodies Cursor) (s : Turn Cursor). s ▷ unit_leapt b k s.machine t (in_unit b (thread_at s.machine t)) ▷ tick_ends (has_high (thread_at s.machine t).server) t in
    let here = subst (λ (i : ℕ). IsSweepable (after (leap_runs (flat_bodies p.code) i (Some t)) p)) (sym same) lands in
    can_sweep l (before_sweep unit p l state here)

-- so many ticks later
pub unit_now : (p l : Kernel) (t k : ℕ) →
    l ≡ after (λ (s : Turn Cursor). s ▷ unit_leapt (flat_bodies p.code) k s.machine t (in_unit (flat_bodies p.code) (thread_at s.machine t)) ▷ tick_ends (has_high (thread_at s.machine t).server) t) p →
    l.machine.now ≡ p.machine.now + k
unit_now p l t k state =
    let bodies = flat_bodies p.code in
    let s = turn p in
    let taken = in_unit bodies (thread_at s.machine t) in
    let charged = becomes (later_by k) (changes t (λ th. after_ticks k taken.thread) s) in
    let was_high = has_high (thread_at s.machine t).server in
    ap (λ (x : Kernel). x.machine.now) state ∙ tick_ends_now was_high t (unit_leapt bodies k s.machine t taken s) ∙ completes_now bodies (top_left (thread_at charged.machine t).frames) t taken.unit charged

-- the machine as its head begins its tick
pub at_head_is : (p l : Kernel) → p.direct ≡ [] → l ≡ after (prepares (head p.machine)) p → l.machine ≡ at_head p.machine
at_head_is p l still state = ap (λ (x : Kernel). x.machine) state ∙ prepared_machine (flat_bodies p.code) (head p.machine) (turn p) still

-- as long as the head may run is as long as it runs once all is prepared
pub head_long : (p l : Kernel) (most near : ℕ) (to : Option ℕ) → p.direct ≡ [] → to ≡ head p.machine → l ≡ after (prepares (head p.machine)) p → near ≡ ticks_to_next most l.machine.now (agenda l.machine) →
    run_length (flat_bodies l.code) near to l.machine ≡ length_from (flat_bodies p.code) None most p.machine
head_long p l most near to still top state is_near =
    let h = head p.machine in
    ap (λ (o : Option ℕ). run_length (flat_bodies l.code) near o l.machine) top
    ∙ ap (λ (x : Kernel). run_length (flat_bodies x.code) near h l.machine) state
    ∙ ap (λ (n : ℕ). run_length (flat_bodies p.code) n h l.machine) is_near
    ∙ ap (λ (m : Machine Cursor). run_length (flat_bodies p.code) (ticks_to_next most m.now (agenda m)) h m) (at_head_is p l still state)
    ∙ sym (length_near (flat_bodies p.code) most p.machine)

-- after it
pub head_lands : (p l : Kernel) (most near : ℕ) (to : Option ℕ) → p.direct ≡ [] → to ≡ head p.machine → l ≡ after (prepares (head p.machine)) p → near ≡ ticks_to_next most l.machine.now (agenda l.machine) →
    IsSweepable (after (leap_head (flat_bodies p.code) (length_from (flat_bodies p.code) None most p.machine)) p) →
    IfSome to (λ t. IsSweepable (after (leap_runs (flat_bodies l.code) (lasts_by near l.machine.quantum (in_unit (flat_bodies l.code) (thread_at l.machine t)).thread) (Some t)) l))
head_lands p l most near to still top state is_near lands =
    subst (λ (o : Option ℕ). IfSome o (λ t. IsSweepable (after (leap_runs (flat_bodies l.code) (lasts_by near l.machine.quantum (in_unit (flat_bodies l.code) (thread_at l.machine t)).thread) (Some t)) l))) (sym top) (by_head (head p.machine) refl)
  where
    h : Option ℕ
    h = head p.machine

    k : ℕ
    k = length_from (flat_bodies p.code) None most p.machine

    there : IsSweepable (after (leap_runs (flat_bodies l.code) k h) l)
    there =
        let both = then_state_in (λ b. prepares h) (λ b. leap_runs b k h) p l (after (leap_runs (flat_bodies l.code) k h) l) (λ b. leap_runs_behind b k h) state refl in
        subst IsSweepable (sym both) lands

    as_long : (t : ℕ) → h ≡ Some t → k ≡ run_length (flat_bodies l.code) near (Some t) l.machine
    as_long t e =
        sym (head_long p l most near h still refl state is_near) ∙ ap (λ (o : Option ℕ). run_length (flat_bodies l.code) near o l.machine) e

    by_head : (o : Option ℕ) → head p.machine ≡ o → IfSome o (λ t. IsSweepable (after (leap_runs (flat_bodies l.code) (lasts_by near l.machine.quantum (in_unit (flat_bodies l.code) (thread_at l.machine t)).thread) (Some t)) l))
    by_head None e = tt
    by_head (Some t) e =
        subst (λ (n : ℕ). IsSweepable (after (leap_runs (flat_bodies l.code) n (Some t)) l)) (as_long t e)
        (subst (λ (o : Option ℕ). IsSweepable (after (leap_runs (flat_bodies l.code) k o) l)) e there)

-- where the process goes on
pub alive_lands : (p : Kernel) (most : ℕ) → is_some p.machine.killed ≡ false → IsSweepable (after (leap_goes_on (flat_bodies p.code) (length_from (flat_bodies p.code) p.machine.killed most p.machine)) p) →
    IsSweepable (after (leap_head (flat_bodies p.code) (length_from (flat_bodies p.code) None most p.machine)) p)
alive_lands p most alive lands = by_killed p.machine.killed alive lands
  where
    by_killed : (o : Option ℕ) → is_some o ≡ false → IsSweepable (after (unless_killed o (leap_head (flat_bodies p.code) (length_from (flat_bodies p.code) o most p.machine))) p) →
        IsSweepable (after (leap_head (flat_bodies p.code) (length_from (flat_bodies p.code) None most p.machine)) p)
    by_killed None e h = h
    by_killed (Some signal) e h = absurd (cc)

-- after the items of the instant
pub instant_lands : (p l : Kernel) (most : ℕ) → p.direct ≡ [] → l ≡ after (instant (flat_bodies p.code)) p → IsSweepable (after (leap (flat_bodies p.code) (leap_length (flat_bodies p.code) most p.machine)) p) →
    IsSweepable (after (leap_goes_on (flat_bodies l.code) (length_from (flat_bodies l.code) l.machine.killed most l.machine)) l)
instant_lands p l most quiet state lands =
    let k = leap_length (flat_bodies p.code) most p.machine in
    let both = then_state_in instant (λ b. leap_goes_on b k) p l (after (leap_goes_on (flat_bodies l.code) k) l) (λ b. leap_goes_on_behind b k) state refl in
    let there : IsSweepable (after (leap_goes_on (flat_bodies l.code) k) l) = subst IsSweepable (sym both) lands in
    let long = λ (x : Kernel). length_from (flat_bodies x.code) x.machine.killed most x.machine in
    let same : k ≡ long l =
    sym (ap (λ (s : Turn Cursor). long (record p { machine = (instant (flat_bodies p.code) s).machine })) (turn_is p quiet)) ∙ sym (ap long state) in
    subst (λ (n : ℕ). IsSweepable (after (leap_goes_on (flat_bodies l.code) n) l)) same there

-- and before them
pub leap_lands : (k : Kernel) (most : ℕ) → 1 ≤ most → k.direct ≡ [] → StaysFit k (objects_in k) → IsSweepable (after (leap (flat_bodies k.code) (leap_length (flat_bodies k.code) most k.machine)) k)
leap_lands k most some quiet fit =
    let bodies = flat_bodies k.code in
    let j = leap_length bodies most k.machine in
    let same = (is_leap_of k (objects_in k) most some fit).same in
    let there : (leap bodies j (turn k)).machine ≡ (ticks bodies j k.machine).machine =
    ap (λ (x : Turn Cursor). (leap bodies j x).machine) (turn_is k quiet) ∙ ap (λ (r : Ran Cursor). r.machine) same in
    subst (CanBeSwept k.code) (sym there) (fit.each j 0).sweeps
