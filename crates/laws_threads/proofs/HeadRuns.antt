-- The head runs: what a tick does to the counts of the threads.
use Rattle.std.proofs.Common.{Bool, List, None, Option, Some, [], add-one, arith, false, length, refl, suc, true, zero, ℕ, ◌+◌, ◌<◌, ◌∙◌, ◌∷◌, ◌≡◌}
use Rattle.std.specs.Prelude.{◌==◌}
use Rattle.std.proofs.lemmas.List.{length-map}
use Rattle.words_script.specs.declared.decl.Script.{Script}
use Rattle.rules_bodies.specs.Next.{Place}
use Rattle.rules_machine.specs.Lists.{is}
use Rattle.rules_machine.specs.Bodies.{Bodies}
use Rattle.rules_machine.specs.State.{Frame, Machine, Thread}
use Rattle.rules_machine.specs.Threads.{thread_at}
use Rattle.rules_machine.specs.Turns.{Turn, turn_of}
use Rattle.rules_machine.specs.Declarations.{threads_of}
use Rattle.rules_machine.specs.Cancellation.{runs_cleanup_if}
use Rattle.rules_machine.specs.DueItems.{instant}
use Rattle.rules_machine.specs.Dispatch.{head}
use Rattle.rules_machine.specs.Units.{Following, advances, advancing, begins_finish, cleaning_up, continuing, finishing, following, in_unit, takes_unit}
use Rattle.rules_machine.specs.Ticks.{runs_head, tick, tick_charged, unless_killed}
use Rattle.rules_machine.specs.Runs.{opening, thread_opened, ticks}
use Rattle.rules_machine.specs.Machine.{bodies_of, machine}
use Rattle.laws_threads.specs.EachThread.{Closed, Passes}
use Rattle.laws_threads.specs.HeadRuns.{HeadRuns, head_unless, one_at, share_of, ticks_run}
use Rattle.laws_threads.specs.Within.{EachWithin, IsWithin}
use Rattle.laws_threads.proofs.Changes.{Holds}
use Rattle.laws_threads.proofs.Known.{all_known, any_action, any_objects, any_unit}
use Rattle.laws_threads.proofs.Within.{nothing_run, within_lasts}
use Rattle.laws_threads.proofs.Items.{instant_hold}
use Rattle.laws_threads.proofs.Runs.{runs_head_hold, ticks_hold}

-- ---- no effect counts a tick

module _ {P : Type 0} (bodies : Bodies P) (count : ℕ) (T : ℕ → ℕ) where
  -- so many ticks of each thread
  abbrev Ran : ℕ → ℕ → Thread P → Type 0
  Ran now u th = th.ticks ≡ T u

  cleanup_ticks : (runs : Bool) (us : List ℕ) (th : Thread P) → (runs_cleanup_if runs bodies us th).ticks ≡ th.ticks
  cleanup_ticks true [] th = refl
  cleanup_ticks true (u ∷ us) th = refl
  cleanup_ticks false us th = refl

  pub counts_closed : Closed (all_known bodies count) Ran
  counts_closed = record {
    answers = λ now u th r value q. q;
    wakes = λ now u th r value q. q;
    waits = λ now u th caller w known makes q. q;
    again = λ now u th w c k how waits may is q. q;
    waiting = λ now u th w q is. tt;
    moves = λ now u th move q. q;
    starts = λ now u th mask lt q. q;
    activates = λ now u th q. q;
    refills = λ now u th q. q;
    plans = λ now u th q. q;
    prices = λ now u th caller p known q. q;
    renews = λ now u th caller new known q. q;
    slices = λ now u th q. q;
    joins = λ now u th caller joiner known q. q;
    joined = λ now u th t is q. q;
    unjoins = λ now u th q. q;
    masks = λ now u th mask q. q;
    requests = λ now u th caller known q. q;
    enables = λ now u th on known q. q;
    pushes = λ now u th c known q. q;
    pops = λ now u th runs known q. cleanup_ticks runs th.cleanups _ ∙ q;
    catches = λ now u th h value known free q. q;
    leaves = λ now u th inner q. q;
    ending = λ now u th value may q. q;
    ends = λ now u th main q. q;
    notifies = λ caller q signal value known. tt;
    pends = λ r serial from. tt;
  }

-- ---- nor does the beginning of a unit

module _ {P : Type 0} (bodies : Bodies P) where
  advances_ticks : (fs : List (Frame P)) (th : Thread P) → (advances bodies fs th).thread.ticks ≡ th.ticks
  advances_ticks [] th = refl
  advances_ticks (f ∷ fs) th = refl

  finish_ticks : (fs : List (Frame P)) (th : Thread P) → (begins_finish fs th).thread.ticks ≡ th.ticks
  finish_ticks [] th = refl
  finish_ticks (f ∷ fs) th = refl

  pub in_unit_ticks : (th : Thread P) → (in_unit bodies th).thread.ticks ≡ th.ticks
  in_unit_ticks th = by_case (following th)
    where
      by_case : (x : Following) → (takes_unit bodies x th).thread.ticks ≡ th.ticks
      by_case (continuing left) = refl
      by_case advancing = advances_ticks th.frames th
      by_case (cleaning_up u) = refl
      by_case finishing = finish_ticks th.frames th

-- ---- a tick counts for the head alone

one_at_self : (t : ℕ) → one_at t t ≡ 1
one_at_self zero = refl
one_at_self (suc t) = one_at_self t

one_at_other : (t u : ℕ) → (t == u) ≡ false → one_at t u ≡ 0
one_at_other zero zero e = absurd (grind arith)
one_at_other zero (suc u) e = refl
one_at_other (suc t) zero e = refl
one_at_other (suc t) (suc u) e = one_at_other t u (grind arith)

no_share : (to : Option ℕ) (u : ℕ) → is to u ≡ false → share_of to u ≡ 0
no_share None u e = refl
no_share (Some t) u e = one_at_other t u e

module _ {P : Type 0} (bodies : Bodies P) (count : ℕ) (T : ℕ → ℕ) where
  abbrev Before : ℕ → ℕ → Thread P → Type 0
  Before now u th = th.ticks ≡ T u

  abbrev After : Option ℕ → ℕ → ℕ → Thread P → Type 0
  After to now u th = th.ticks ≡ T u + share_of to u

  counts_pass : (to : Option ℕ) → Passes (all_known bodies count) Before (After to) to
  counts_pass to = record {
    rests = λ now u th e q. let none = no_share to u e in omega (arith, none, q);
    runs = λ now t th e q.
        let one : share_of to t ≡ 1 = rw e (one_at_self t) in
        let same = in_unit_ticks bodies th in
        omega (arith, one, same, q);
    known = λ now t th e q. any_unit bodies count (tick_charged (in_unit bodies th).thread) (in_unit bodies th).unit;
  }

  goes_on_counts : (killed : Option ℕ) (s : Turn P) → Holds (all_known bodies count) Before s → (u : ℕ) → u < count →
      (thread_at (unless_killed killed (runs_head bodies) s).machine u).ticks ≡ T u + share_of (head_unless killed s.machine) u
  goes_on_counts None s h u lt =
      let to = head s.machine in
      let after = runs_head_hold (all_known bodies count) Before (After to) (counts_closed bodies count T) (counts_closed bodies count (λ u. T u + share_of to u)) s (counts_pass to) h in
      after.each u (let e = after.counted in omega (arith, e, lt))
  goes_on_counts (Some signal) s h u lt = let e = h.each u (let e = h.counted in omega (arith, e, lt)) in omega (arith, e)

module _ {P : Type 0} (bodies : Bodies P) (count : ℕ) where
  -- of whatever each thread has run, the tick that follows
  pub tick_counts : (m : Machine P) → length m.threads ≡ count → (u : ℕ) → u < count →
      (thread_at (tick bodies (turn_of m)).machine u).ticks
      ≡ ticks_run m u + share_of (let ready = (instant bodies (turn_of m)).machine in head_unless ready.killed ready) u
  tick_counts m counted u lt =
      let ready = instant bodies (turn_of m) in
      let T : ℕ → ℕ = λ u. ticks_run m u in
      goes_on_counts bodies count T ready.machine.killed ready
      (instant_hold (all_known bodies count) (Before bodies count T) (counts_closed bodies count T) (turn_of m)
      (record { each = λ u lt. refl; counted = counted; handled = λ signal. any_action bodies count _; objects = any_objects bodies count m.timers m.queues m.pending })) u lt

  -- and there are as many threads as before
  pub ticks_length : (n : ℕ) (start : Machine P) → length start.threads ≡ count → EachWithin start → length (ticks bodies n start).machine.threads ≡ count
  ticks_length n start e begun =
      (ticks_hold (all_known bodies count) (λ now u th. IsWithin now th) (within_lasts bodies count) n start
      (record { each = λ u lt. begun.each u; counted = e; handled = λ signal. any_action bodies count _; objects = any_objects bodies count start.timers start.queues start.pending })).counted

-- so it is at every tick of a script
pub head_runs : (script : Script) (k : ℕ) → HeadRuns script k
head_runs script k = record {
  counted = λ u lt.
      let count = length (threads_of script) in
      let bodies = bodies_of script in
      let long = ticks_length bodies count k (opening script) (length-map (threads_of script) (thread_opened {P = Place})) (record { each = nothing_run (threads_of script) }) in
      let one = tick_counts bodies count (machine script k) long u lt in
      rw (add-one k) one;
}
