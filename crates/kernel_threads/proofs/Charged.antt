-- What a thread that goes past units comes to, once their ticks are charged.
use Rattle.std.proofs.Common.{◌≡◌, ◌<◌, ◌+◌, ◌-◌, ◌∙◌, ◌==◌, ℕ, List, [], ◌∷◌, None, Option, false, true, ap, arith, leb, refl, subst, sym}
use Rattle.std.specs.Prelude.{max, min, option_map}
use Rattle.std.proofs.lemmas.Grind.{common_steps}
use Rattle.words_numbers.specs.Parameters.{Parameters}
use Rattle.words_script.specs.declared.policy.Policy.{Policy}
use Rattle.words_script.specs.declared.policy.Policy.TheVariants as policy
use Rattle.rules_bodies.specs.declared.cursor.Cursor.{Cursor}
use Rattle.rules_bodies.specs.declared.op.Op.{Op}
use Rattle.rules_bodies.specs.Flat.{NumberedBodies}
use Rattle.rules_server.specs.Server.{ServerState}
use Rattle.rules_machine.specs.Bodies.{Bodies}
use Rattle.rules_machine.specs.GoodState.{HasParameters}
use Rattle.rules_machine.specs.Servers.{has_high}
use Rattle.rules_machine.specs.State.{Frame, Thread}
use Rattle.rules_machine.specs.Threads.{top_left}
use Rattle.rules_machine.specs.Units.{InUnit, in_unit}
use Rattle.rules_flat_code.specs.FlatBodies.{flat_bodies}
use Rattle.rules_leaps.specs.Leap.{capacity_left}
use Rattle.rules_leaps.specs.Quiet.{after_ticks, frames_after, server_after, slice_after}
use Rattle.kernel_threads.specs.declared.ran.Ran.{Ran}
use Rattle.kernel_threads.specs.declared.ran.Taken.{Taken}
use Rattle.kernel_threads.specs.Lasting.{lasts_by, used_up}
use Rattle.kernel_threads.specs.Passing.{HasCountsOf, HasSpent, HasTaken, IsOver, ThreadPasses, thread_behind, thread_past}
use Rattle.kernel_threads.specs.Running.{ArePassed, HasRun, IsPassed, all_of, only_takes_time, past, run_for}
use Rattle.kernel_threads.proofs.Bounds.{lasts, lasts_after, nothing_used, server_after_both, server_after_none, slice_after_both, slice_after_none}
use Rattle.kernel_threads.proofs.Counts.{counting, counting_in, in_unit_counting, past_counts}

-- ---- its ticks are few

pub passed_within : (bodies : Bodies Cursor) (most : ℕ) (ks : List ℕ) (th : Thread Cursor) → ThreadPasses bodies most ks th → all_of ks < max 1 most
passed_within bodies most [] th each = omega arith
passed_within bodies most (k ∷ ks) th (over, each) =
    let more = passed_within bodies (most - k) ks (thread_behind bodies k th) each in
    let within = over.within in
    omega arith

pub taken_within : {code : NumberedBodies (List Op)} {most : ℕ} {taken : Taken} {old new : Thread Cursor} {steps_before steps_now : ℕ} → HasTaken code most taken old new steps_before steps_now → taken.passed < max 1 most
taken_within {code} {most} {taken} {old} {new} {steps_before} {steps_now} takes = subst (λ n. n < max 1 most) (sym takes.passed) (passed_within (flat_bodies code) most takes.units old takes.each)

pub taken_counts : {code : NumberedBodies (List Op)} {most : ℕ} {taken : Taken} {old new : Thread Cursor} {steps_before steps_now : ℕ} → HasTaken code most taken old new steps_before steps_now → HasCountsOf old new
taken_counts {code} {most} {taken} {old} {new} {steps_before} {steps_now} takes = subst (λ t. HasCountsOf old t) (sym takes.thread) (past_counts (flat_bodies code) takes.units old)

-- ---- each unit

module _ (bodies : Bodies Cursor) where
  -- k ticks of the unit of a thread with these counts
  run_is : (k : ℕ) (p : Policy) (ticks slice : ℕ) (server : Option ServerState) (th : Thread Cursor) →
      run_for bodies k (counting p ticks slice server th) ≡ counting p (ticks + k) (slice_after k p slice) (option_map (server_after k) server) (thread_behind bodies k th)
  run_is k p ticks slice server th = ap (λ (x : InUnit Cursor). after_ticks k x.thread) (in_unit_counting p ticks slice server bodies th)

  one_passed : (most quantum k : ℕ) (p : Policy) (ticks slice : ℕ) (server : Option ServerState) (th : Thread Cursor) →
      IsOver (lasts most quantum p slice server) k (top_left (in_unit bodies th).thread.frames) (in_unit bodies th).unit → IsPassed bodies most quantum k (counting p ticks slice server th)
  one_passed most quantum k p ticks slice server th over =
      let is = in_unit_counting p ticks slice server bodies th in
      let long = over.long in
      let some = over.some in
      let within = over.within in
      let lasting : k ≡ lasts_by most quantum (counting_in p ticks slice server (in_unit bodies th)).thread = omega arith in
      record {
        idle = subst (λ (x : InUnit Cursor). only_takes_time x.unit ≡ true) (sym is) over.idle;
        long = subst (λ (x : InUnit Cursor). k ≡ lasts_by most quantum x.thread) (sym is) lasting;
        within = omega arith;
        left = subst (λ (t : Thread Cursor). used_up (has_high server) quantum t ≡ false) (sym (run_is k p ticks slice server th)) (nothing_used most quantum k slice p server within);
      }

  -- ---- all of them

  pub record Passed (most quantum : ℕ) (ks : List ℕ) (p : Policy) (ticks slice : ℕ) (server : Option ServerState) (th : Thread Cursor) : Type 0 where
    pub each : ArePassed bodies most quantum ks (counting p ticks slice server th)
    pub thread : past bodies ks (counting p ticks slice server th) ≡
        counting p (ticks + all_of ks) (slice_after (all_of ks) p slice) (option_map (server_after (all_of ks)) server) (thread_past bodies ks th)
    pub lasting : lasts (most - all_of ks) quantum p (slice_after (all_of ks) p slice) (option_map (server_after (all_of ks)) server) ≡ lasts most quantum p slice server - all_of ks

  pub passed_all : (most quantum : ℕ) (ks : List ℕ) (p : Policy) (ticks slice : ℕ) (server : Option ServerState) (th : Thread Cursor) →
      ThreadPasses bodies (lasts most quantum p slice server) ks th → Passed most quantum ks p ticks slice server th
  passed_all most quantum [] p ticks slice server th each = record {
    each = tt;
    thread = (let more : ticks ≡ ticks + 0 = omega arith in
        rw (slice_after_none slice p, server_after_none server) (ap (λ n. counting p n slice server th) more));
    lasting = (let same : most - 0 ≡ most = omega arith in
        let all : lasts most quantum p slice server - 0 ≡ lasts most quantum p slice server = omega arith in
        rw (slice_after_none slice p, server_after_none server, all, same) refl);
  }
  passed_all most quantum (k ∷ ks) p ticks slice server th (over, each) =
      let a = all_of ks in
      let within : k < lasts most quantum p slice server = over.within in
      let after = lasts_after most quantum k slice p server within in
      let run = run_is k p ticks slice server th in
      let more = passed_all (most - k) quantum ks p (ticks + k) (slice_after k p slice) (option_map (server_after k) server) (thread_behind bodies k th)
      (subst (λ n. ThreadPasses bodies n ks (thread_behind bodies k th)) (sym after) each) in
      let fits : k < max 1 (capacity_left most server) = omega arith in
      let rests : most - (k + a) ≡ most - k - a = omega arith in
      let sums : ticks + (k + a) ≡ ticks + k + a = omega arith in
      let last : lasts (most - k) quantum p (slice_after k p slice) (option_map (server_after k) server) - a ≡ lasts most quantum p slice server - (k + a) = omega (arith, after) in
      record {
        each = (one_passed most quantum k p ticks slice server th over, subst (λ t. ArePassed bodies (most - k) quantum ks t) (sym run) more.each);
        thread = rw (slice_after_both k a slice p, server_after_both most k a server fits, sums) (ap (λ t. past bodies ks t) run ∙ more.thread);
        lasting = rw (slice_after_both k a slice p, server_after_both most k a server fits, rests) (more.lasting ∙ last);
      }

-- ---- the whole call

-- a thread that is in that unit, after the ticks of those that it passed and n of this one
abbrev spent_in : Thread Cursor → ℕ → ℕ → Thread Cursor → Thread Cursor
spent_in old passed n taken =
    counting old.policy (old.ticks + (passed + n)) (slice_after (passed + n) old.policy old.slice) (option_map (server_after (passed + n)) old.server)
    (record taken { frames = frames_after n taken.frames })

has_run : (code : NumberedBodies (List Op)) (most quantum : ℕ) (ran : Ran) (old new : Thread Cursor) (steps_before steps_now : ℕ) →
    HasSpent code (lasts most quantum old.policy old.slice old.server) ran (slice_after (ran.passed + ran.ticks) old.policy old.slice)
    (option_map (server_after (ran.passed + ran.ticks)) old.server) old new steps_before steps_now →
    ran.was_high ≡ has_high old.server → HasRun code most quantum ran old new steps_before steps_now
has_run code most quantum ran old new steps_before steps_now spent high =
    let bodies = flat_bodies code in
    let ks = spent.takes.units in
    let a = all_of ks in
    let unit_of_all = in_unit bodies (thread_past bodies ks old) in
    let n = ran.ticks in
    let all = passed_all bodies most quantum ks old.policy old.ticks old.slice old.server old spent.takes.each in
    let slice = slice_after a old.policy old.slice in
    let server = option_map (server_after a) old.server in
    let is = ap (λ t. in_unit bodies t) all.thread ∙ in_unit_counting old.policy (old.ticks + a) slice server bodies (thread_past bodies ks old) in
    let limit = lasts most quantum old.policy old.slice old.server in
    let few = passed_within bodies limit ks old spent.takes.each in
    let fits : a < max 1 (capacity_left most old.server) = omega arith in
    let here = subst (λ (t : Thread Cursor). n ≡ max 1 (min (limit - ran.passed) (top_left t.frames))) spent.takes.thread spent.ticks in
    let there = subst (λ m. n ≡ max 1 (min (limit - m) (top_left unit_of_all.thread.frames))) spent.takes.passed here in
    let lasting : n ≡ lasts_by (most - a) quantum (counting old.policy (old.ticks + a) slice server unit_of_all.thread) = omega (arith, there, all.lasting) in
    let charged : new ≡ spent_in old ran.passed n spent.taken = spent.thread ∙ ap (λ q. record (spent_in old ran.passed n spent.taken) { policy = q }) spent.same.policy in
    let at_all = subst (λ m. new ≡ spent_in old m n unit_of_all.thread) spent.takes.passed (subst (λ t. new ≡ spent_in old ran.passed n t) spent.takes.thread charged) in
    let sums : old.ticks + (a + n) ≡ old.ticks + a + n = omega arith in
    record {
      units = ks;
      each = all.each;
      passed = spent.takes.passed;
      unit = spent.takes.unit ∙ sym (ap (λ (x : InUnit Cursor). x.unit) is);
      ticks = subst (λ (x : InUnit Cursor). n ≡ lasts_by (most - ran.passed) quantum x.thread) (sym is)
          (subst (λ m. n ≡ lasts_by (most - m) quantum (counting old.policy (old.ticks + a) slice server unit_of_all.thread)) (sym spent.takes.passed) lasting);
      thread = subst (λ (x : InUnit Cursor). new ≡ after_ticks n x.thread) (sym is)
          (rw (← sums, ← slice_after_both a n old.slice old.policy, ← server_after_both most a n old.server fits) at_all);
      complete = spent.complete;
      high = high;
      steps = spent.takes.steps;
    }

-- ---- by policy

module _ (code : NumberedBodies (List Op)) (most quantum : ℕ) (ran : Ran) (old new : Thread Cursor) (steps_before steps_now : ℕ) where
  pub run_fifo : (prio : ℕ) → old.policy ≡ policy.Fifo prio → HasParameters old.policy old.server →
      HasSpent code most ran old.slice old.server old new steps_before steps_now → ran.was_high ≡ false → HasRun code most quantum ran old new steps_before steps_now
  run_fifo prio is parameters spent high =
      let none : old.server ≡ None = subst (λ p. HasParameters p old.server) is parameters in
      let limit : most ≡ lasts most quantum old.policy old.slice old.server = rw (is, none) (omega arith) in
      let slice : old.slice ≡ slice_after (ran.passed + ran.ticks) old.policy old.slice = rw is refl in
      let server : old.server ≡ option_map (server_after (ran.passed + ran.ticks)) old.server = rw none refl in
      has_run code most quantum ran old new steps_before steps_now (rw (← limit, ← slice, ← server) spent) (high ∙ rw none refl)

  pub run_rr : (prio : ℕ) → old.policy ≡ policy.Rr prio → HasParameters old.policy old.server →
      HasSpent code (min most (quantum - old.slice)) ran (old.slice + (ran.passed + ran.ticks)) old.server old new steps_before steps_now → ran.was_high ≡ false → HasRun code most quantum ran old new steps_before steps_now
  run_rr prio is parameters spent high =
      let none : old.server ≡ None = subst (λ p. HasParameters p old.server) is parameters in
      let limit : min most (quantum - old.slice) ≡ lasts most quantum old.policy old.slice old.server = rw (is, none) (omega arith) in
      let slice : old.slice + (ran.passed + ran.ticks) ≡ slice_after (ran.passed + ran.ticks) old.policy old.slice = rw is refl in
      let server : old.server ≡ option_map (server_after (ran.passed + ran.ticks)) old.server = rw none refl in
      has_run code most quantum ran old new steps_before steps_now (rw (← limit, ← slice, ← server) spent) (high ∙ rw none refl)

  pub run_sporadic : (params : Parameters) → old.policy ≡ policy.Sporadic params →
      HasSpent code (min most (capacity_left most old.server)) ran old.slice (option_map (server_after (ran.passed + ran.ticks)) old.server) old new steps_before steps_now →
      ran.was_high ≡ has_high old.server → HasRun code most quantum ran old new steps_before steps_now
  run_sporadic params is spent high =
      let limit : min most (capacity_left most old.server) ≡ lasts most quantum old.policy old.slice old.server = rw is (omega arith) in
      let slice : old.slice ≡ slice_after (ran.passed + ran.ticks) old.policy old.slice = rw is refl in
      has_run code most quantum ran old new steps_before steps_now (rw (← limit, ← slice) spent) high

  pub run_strict : (params : Parameters) → old.policy ≡ policy.Strict params →
      HasSpent code (min most (capacity_left most old.server)) ran old.slice (option_map (server_after (ran.passed + ran.ticks)) old.server) old new steps_before steps_now →
      ran.was_high ≡ has_high old.server → HasRun code most quantum ran old new steps_before steps_now
  run_strict params is spent high =
      let limit : min most (capacity_left most old.server) ≡ lasts most quantum old.policy old.slice old.server = rw is (omega arith) in
      let slice : old.slice ≡ slice_after (ran.passed + ran.ticks) old.policy old.slice = rw is refl in
      has_run code most quantum ran old new steps_before steps_now (rw (← limit, ← slice) spent) high

-- ---- a unit that is over

pub complete_is : (left k : ℕ) (fs : List (Frame Cursor)) → left ≡ top_left fs → leb left k ≡ (top_left (frames_after k fs) == 0)
complete_is left k [] is = grind (arith, common_steps)
complete_is left k (f ∷ fs) is = grind (arith, common_steps)
