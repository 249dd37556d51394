-- No thread has run longer than the machine.
use Rattle.std.proofs.Common.{Bool, List, None, Option, Some, [], arith, false, length, refl, suc, true, zero, ℕ, ◌+◌, ◌≤◌, ◌∷◌, ◌≡◌}
use Rattle.std.specs.Prelude.{if◌then◌else◌, map, option_map, slice_index_or}
use Rattle.words_script.specs.declared.decl.Script.{Script}
use Rattle.words_script.specs.declared.policy.Policy.{Policy}
use Rattle.words_script.specs.declared.policy.Policy.TheVariants as policy
use Rattle.rules_server.specs.declared.Replenish.{Replenish}
use Rattle.rules_server.specs.Server.{ServerState, activate, charge, is_high, plan, refill, refill_from, set_high}
use Rattle.rules_machine.specs.Bodies.{Bodies}
use Rattle.rules_machine.specs.State.{Frame, Machine, Thread}
use Rattle.rules_machine.specs.Threads.{no_thread}
use Rattle.rules_machine.specs.Declarations.{ThreadDecl, threads_of}
use Rattle.rules_machine.specs.Servers.{charged, server_of}
use Rattle.rules_machine.specs.Cancellation.{runs_cleanup_if}
use Rattle.rules_machine.specs.Units.{Following, advances, advancing, begins_finish, cleaning_up, continuing, finishing, in_unit, takes_unit}
use Rattle.rules_machine.specs.Ticks.{slice_charged, tick_charged}
use Rattle.rules_machine.specs.Runs.{opening, thread_opened}
use Rattle.rules_machine.specs.Throughout.{HoldsThroughout, after_items}
use Rattle.rules_machine.specs.Machine.{bodies_of}
use Rattle.rules_flat_code.specs.FlatBodies.{code_of, flat_bodies}
use Rattle.laws_threads.specs.EachThread.{Closed, Lasts}
use Rattle.laws_threads.specs.Within.{EachWithin, HighWithin, IsWithin, RunStaysWithin}
use Rattle.laws_threads.proofs.Changes.{at_all}
use Rattle.laws_threads.proofs.Known.{all_known, any_action, any_objects, any_unit}
use Rattle.laws_threads.proofs.Runs.{holds_throughout}

-- ---- what a server counts

high_kept : (now : ℕ) (g : ServerState → ServerState) (o : Option ServerState) → ((s : ServerState) → (g s).high_total ≡ s.high_total) → HighWithin now o → HighWithin now (option_map g o)
high_kept now g None same h = h
high_kept now g (Some s) same h = rw (same s) h

refill_high : (pending : List Replenish) (s : ServerState) → (refill_from pending s).high_total ≡ s.high_total
refill_high [] s = refl
refill_high (r ∷ rs) s = refl

high_charged : (now : ℕ) (o : Option ServerState) → HighWithin now o → HighWithin (now + 1) (option_map charged o)
high_charged now None h = h
high_charged now (Some s) h = once (is_high s)
  where
    once : (b : Bool) → (if b then charge s else s).high_total ≤ now + 1
    once true = omega arith
    once false = omega arith

high_later : (now : ℕ) (o : Option ServerState) → HighWithin now o → HighWithin (now + 1) o
high_later now None h = h
high_later now (Some s) h = omega arith

high_new : (now : ℕ) (p : Policy) (at : ℕ) → HighWithin now (server_of p at)
high_new now (policy.Fifo p) at = tt
high_new now (policy.Rr p) at = tt
high_new now (policy.Sporadic params) at = omega arith
high_new now (policy.Strict params) at = omega arith

slice_later : (p : Policy) (now slice : ℕ) → slice ≤ now → slice_charged p slice ≤ now + 1
slice_later (policy.Fifo p) now slice h = omega arith
slice_later (policy.Rr p) now slice h = omega arith
slice_later (policy.Sporadic params) now slice h = omega arith
slice_later (policy.Strict params) now slice h = omega arith

module _ {P : Type 0} where
  abbrev Within : ℕ → ℕ → Thread P → Type 0
  Within now u th = IsWithin now th

  -- what only the frames, the status and the like of a thread differ in
  same : (now : ℕ) (th to : Thread P) → to.ticks ≡ th.ticks → to.slice ≡ th.slice → to.server ≡ th.server → IsWithin now th → IsWithin now to
  same now th to ticks slice server h = record { ticks = rw ticks h.ticks; slice = rw slice h.slice; high = rw server h.high }

  fresh : (now : ℕ) (th to : Thread P) → to.ticks ≡ th.ticks → to.slice ≡ 0 → HighWithin now to.server → IsWithin now th → IsWithin now to
  fresh now th to ticks slice high h = record { ticks = rw ticks h.ticks; slice = rw slice (omega arith); high = high }

  counted_by : (now : ℕ) (th to : Thread P) → to.ticks ≡ th.ticks → to.slice ≡ th.slice → HighWithin now to.server → IsWithin now th → IsWithin now to
  counted_by now th to ticks slice high h = record { ticks = rw ticks h.ticks; slice = rw slice h.slice; high = high }

module _ {P : Type 0} (bodies : Bodies P) (count : ℕ) where
  popped : (now : ℕ) (runs : Bool) (us : List ℕ) (th : Thread P) → IsWithin now th → IsWithin now (runs_cleanup_if runs bodies us th)
  popped now true [] th h = h
  popped now true (u ∷ us) th h = same now th _ refl refl refl h
  popped now false us th h = h

  pub within_closed : Closed (all_known bodies count) Within
  within_closed = record {
    answers = λ now u th r value q. same now th _ refl refl refl q;
    wakes = λ now u th r value q. fresh now th _ refl refl q.high q;
    waits = λ now u th caller w known makes q. same now th _ refl refl refl q;
    again = λ now u th w c k how waits may is q. same now th _ refl refl refl q;
    waiting = λ now u th w q is. tt;
    moves = λ now u th move q. same now th _ refl refl refl q;
    starts = λ now u th mask lt q. fresh now th _ refl refl (high_new now th.policy now) q;
    activates = λ now u th q. counted_by now th _ refl refl (high_kept now (activate now) th.server (λ s. refl) q.high) q;
    refills = λ now u th q. counted_by now th _ refl refl (high_kept now refill th.server (λ s. refill_high s.pending s) q.high) q;
    plans = λ now u th q. counted_by now th _ refl refl (high_kept now plan th.server (λ s. refl) q.high) q;
    prices = λ now u th caller p known q. counted_by now th _ refl refl (high_kept now (set_high p) th.server (λ s. refl) q.high) q;
    renews = λ now u th caller new known q. fresh now th _ refl refl (high_new now new now) q;
    slices = λ now u th q. fresh now th _ refl refl q.high q;
    joins = λ now u th caller joiner known q. same now th _ refl refl refl q;
    joined = λ now u th t is q. same now th _ refl refl refl q;
    unjoins = λ now u th q. same now th _ refl refl refl q;
    masks = λ now u th mask q. same now th _ refl refl refl q;
    requests = λ now u th caller known q. same now th _ refl refl refl q;
    enables = λ now u th on known q. same now th _ refl refl refl q;
    pushes = λ now u th c known q. same now th _ refl refl refl q;
    pops = λ now u th runs known q. popped now runs th.cleanups _ (same now th _ refl refl refl q);
    catches = λ now u th h value known free q. same now th _ refl refl refl q;
    leaves = λ now u th inner q. same now th _ refl refl refl q;
    ending = λ now u th value may q. same now th _ refl refl refl q;
    ends = λ now u th main q. counted_by now th _ refl refl tt q;
    notifies = λ caller q signal value known. tt;
    pends = λ r serial from. tt;
  }

  -- ---- a tick

  advances_within : (now : ℕ) (fs : List (Frame P)) (th : Thread P) → IsWithin now th → IsWithin now (advances bodies fs th).thread
  advances_within now [] th h = h
  advances_within now (f ∷ fs) th h = same now th _ refl refl refl h

  finish_within : (now : ℕ) (fs : List (Frame P)) (th : Thread P) → IsWithin now th → IsWithin now (begins_finish fs th).thread
  finish_within now [] th h = h
  finish_within now (f ∷ fs) th h = same now th _ refl refl refl h

  in_unit_within : (now : ℕ) (x : Following) (th : Thread P) → IsWithin now th → IsWithin now (takes_unit bodies x th).thread
  in_unit_within now (continuing left) th h = h
  in_unit_within now advancing th h = advances_within now th.frames th h
  in_unit_within now (cleaning_up u) th h = same now th _ refl refl refl h
  in_unit_within now finishing th h = finish_within now th.frames th h

  charged_within : (now : ℕ) (th : Thread P) → IsWithin now th → IsWithin (now + 1) (tick_charged th)
  charged_within now th h = record {
    ticks = let k = h.ticks in omega (arith, k);
    slice = slice_later th.policy now th.slice h.slice;
    high = high_charged now th.server h.high;
  }

  later_within : (now : ℕ) (th : Thread P) → IsWithin now th → IsWithin (now + 1) th
  later_within now th h = record { ticks = (let k = h.ticks in omega (arith, k)); slice = (let k = h.slice in omega (arith, k)); high = high_later now th.server h.high }

  pub within_lasts : Lasts (all_known bodies count) Within
  within_lasts = record {
    closed = within_closed;
    passes = λ to. record {
      rests = λ now u th e q. later_within now th q;
      runs = λ now t th e q. charged_within now (in_unit bodies th).thread (in_unit_within now _ th q);
      known = λ now t th e q. any_unit bodies count (tick_charged (in_unit bodies th).thread) (in_unit bodies th).unit;
    };
  }

-- ---- runs

module _ {P : Type 0} (bodies : Bodies P) (start : Machine P) (begun : EachWithin start) where
  abbrev count : ℕ
  count = length start.threads

  within_after : (n most : ℕ) → EachWithin (after_items bodies start n most)
  within_after n most =
      let h = holds_throughout (all_known bodies count) Within (within_lasts bodies count) n most start
      (record { each = λ u lt. begun.each u; counted = refl; handled = λ signal. any_action bodies count _; objects = any_objects bodies count start.timers start.queues start.pending }) in
      let m = after_items bodies start n most in
      record { each = λ t. at_all (λ u th. IsWithin m.now th) no_thread m.threads h.each (λ u. record { ticks = omega arith; slice = omega arith; high = tt }) t }

  pub within_throughout : HoldsThroughout bodies start EachWithin
  within_throughout = record { each = within_after }

pub nothing_run : {P : Type 0} (ds : List ThreadDecl) (t : ℕ) → IsWithin 0 (slice_index_or (map (thread_opened {P = P}) ds) t no_thread)
nothing_run [] t = record { ticks = omega arith; slice = omega arith; high = tt }
nothing_run (d ∷ ds) zero = record { ticks = omega arith; slice = omega arith; high = tt }
nothing_run (d ∷ ds) (suc t) = nothing_run ds t

pub threads_are_within : (script : Script) → RunStaysWithin script
threads_are_within script = record {
  over_trees = within_throughout (bodies_of script) (opening script) (record { each = nothing_run (threads_of script) });
  over_code = within_throughout (flat_bodies (code_of script)) (opening script) (record { each = nothing_run (threads_of script) });
}
