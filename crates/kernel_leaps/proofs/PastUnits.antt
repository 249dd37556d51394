-- A thread's leap goes past units, each a leap of its own, and then through one more.
use Rattle.std.proofs.Common.{◌≡◌, ◌≤◌, ◌<◌, ◌+◌, ◌-◌, ◌^◌, ℕ, List, [], ◌∷◌, Option, None, Some, arith, length, refl, subst, sym}
use Rattle.parts_tracer.specs.declared.tracer.Tracer.{Tracer}
use Rattle.rules_machine.specs.Threads.{thread_at}
use Rattle.rules_machine.proofs.Reading.{thread-same}
use Rattle.rules_moves.proofs.Waiters.Best.{running_within}
use Rattle.rules_flat_code.specs.FlatBodies.{flat_bodies}
use Rattle.kernel_wakes.specs.Calls.{objects_in}
use Rattle.kernel_state.specs.Kernel.{Kernel, after}
use Rattle.kernel_settling.specs.Stood.{StoodRight}
use Rattle.kernel_leaps.specs.Fits.{FitsLeap, StaysFit}
use Rattle.kernel_threads.specs.Running.{ArePassed, all_of, run_for}
use Rattle.kernel_leaps.specs.Passing.{HasLeapt, MayLeapOn, leap_of, passed_by}
use Rattle.kernel_leaps.proofs.Leaping.{Leaping}
use Rattle.kernel_leaps.proofs.Onward.{IsCalm, alone_state, alone_stood, alone_told, charges_by}
use Rattle.kernel_leaps.proofs.Passing.{more_passed, none_passed}
use Rattle.kernel_leaps.proofs.Midway.{Midway, again, in_time, is_calm, is_running, leapt_on, may_run, may_sweep}

module _ {K : Type 0} (text : K → Option (List ℕ)) (faults : K → ℕ) (start : Kernel) (fit : StaysFit start (objects_in start)) where
  same_as : (p q : Kernel) (to : Option ℕ) (most near near' done done' before since since' : ℕ) (a d : Tracer K) → p ≡ q → near ≡ near' → done ≡ done' → since ≡ since' →
      Midway text faults start p to most near done before since a d → Midway text faults start q to most near' done' before since' a d
  same_as p q to most near near' done done' before since since' a d e f g h m =
      subst (λ (x : Kernel). Midway text faults start x to most near' done' before since' a d) e
      (subst (λ (n : ℕ). Midway text faults start p to most n done' before since' a d) f
      (subst (λ (n : ℕ). Midway text faults start p to most near n before since' a d) g
      (subst (λ (n : ℕ). Midway text faults start p to most near done before n a d) h m)))

  -- each of them is a leap that is its charge alone
  pub passes : (units : List ℕ) (p : Kernel) (t most near done before since : ℕ) (a d : Tracer K) → Midway text faults start p (Some t) most near done before since a d →
      ArePassed (flat_bodies p.code) near p.machine.quantum units (thread_at p.machine t) →
      Midway text faults start (passed_by t units p) (Some t) most (near - all_of units) (done + all_of units) before (since + length units) a d
  passes [] p t most near done before since a d m each =
      same_as p (passed_by t [] p) (Some t) most near (near - 0) done (done + 0) before since (since + 0) a d (none_passed t p) (omega arith) (omega arith) (omega arith) m
  passes (k ∷ ks) p t most near done before since a d m each =
      same_as (passed_by t ks q) (passed_by t (k ∷ ks) p) (Some t) most ((near - k) - all_of ks) (near - (k + all_of ks)) ((done + k) + all_of ks) (done + (k + all_of ks)) before ((since + 1) + length ks) (since + length (k ∷ ks)) a d
      (more_passed t k ks p known) (omega arith) (omega arith) (omega arith)
      (passes ks q t most (near - k) (done + k) before (since + 1) a d next (subst (ArePassed (flat_bodies p.code) (near - k) p.machine.quantum ks) (sym there) each.1))
    where
      q : Kernel
      q = after (charges_by t k p) p

      fits : FitsLeap (objects_in p) p.code p.machine t
      fits = may_run text faults start fit p t most near done before since a d m

      alive : p.machine.killed ≡ None
      alive = is_running text faults start fit p (Some t) most near done before since a d m

      calm : IsCalm (flat_bodies p.code) p.machine
      calm = is_calm text faults start fit p (Some t) most near done before since a d m

      known : t < length p.machine.threads
      known = running_within p.machine.threads t fits.runs

      there : thread_at (after (charges_by t k p) p).machine t ≡ run_for (flat_bodies p.code) k (thread_at p.machine t)
      there = thread-same p.machine t (λ th. run_for (flat_bodies p.code) k (thread_at p.machine t)) known

      stood : StoodRight (after (charges_by t k p) p).machine
      stood = alone_stood p (after (charges_by t k p) p) t k refl m.quiet m.stands each.0.left each.0.idle fits.runs alive calm

      some : 1 ≤ k
      some = let long = each.0.long in omega (arith, long)

      ahead : 1 ≤ near - k
      ahead = let within = each.0.within in omega (arith, within)

      leaping : Leaping text faults start (after (charges_by t k p) p) most (done + k) before (since + 1) a d
      leaping =
          leapt_on text faults start fit p (Some t) most near done before since a d m (after (charges_by t k p) p) d k (since + 1) each.0.long
          (alone_state p (after (charges_by t k p) p) t k refl m.quiet m.stands each.0.left each.0.idle fits.runs alive calm)
          (alone_told p (after (charges_by t k p) p) t k refl m.quiet m.stands each.0.left each.0.idle fits.runs alive calm text faults d) stood m.quiet refl

      next : Midway text faults start (after (charges_by t k p) p) (Some t) most (near - k) (done + k) before (since + 1) a d
      next = again text faults start fit p t most near done before since a d m (after (charges_by t k p) p) d k (since + 1) leaping refl stood m.quiet some ahead

  module _ (p : Kernel) (t most near before : ℕ) (a d : Tracer K) (m : Midway text faults start p (Some t) most near 0 before before a d) where
    -- the thread may leap from behind whichever units it passes
    pub may_leap_on : start.machine.now + most ≤ 10 ^ 18 → MayLeapOn near t p
    may_leap_on early units each =
        let behind = passes units p t most near 0 before before a d m each in
        let k = passed_by t units p in
        record {
          stood = behind.stands;
          fits = may_run text faults start fit k t most (near - all_of units) (0 + all_of units) before (before + length units) a d behind;
          lands = may_sweep text faults start fit k t most (near - all_of units) (0 + all_of units) before (before + length units) a d behind;
          early = in_time text faults start fit k (Some t) most (near - all_of units) (0 + all_of units) before (before + length units) a d behind (10 ^ 18) early;
        }

    -- its ticks are leaps, each of which was counted as a step
    pub thread_leapt : (q : Kernel) (e : Tracer K) (ticks later : ℕ) → HasLeapt text faults near t ticks p q d e before later → StoodRight q.machine → q.direct ≡ [] → Leaping text faults start q most ticks before later a e
    thread_leapt q e ticks later h stood quiet =
        let behind = passes h.units p t most near 0 before before a d m h.each in
        let k = passed_by t h.units p in
        let n = leap_of (near - all_of h.units) t k in
        let on =
        leapt_on text faults start fit k (Some t) most (near - all_of h.units) (0 + all_of h.units) before (before + length h.units) a d behind q e n ((before + length h.units) + 1) refl h.state h.told stood quiet refl in
        let all : (0 + all_of h.units) + n ≡ ticks = (let is = h.all in omega (arith, is)) in
        let there = subst (λ (i : ℕ). Leaping text faults start q most i before ((before + length h.units) + 1) a e) all on in
        record { running = there.running; within = there.within; few = (let few = there.few in let step = h.steps in omega (arith, few, step)) }
