-- A run in leaps: where it stands, and how many leaps it took.
use Rattle.std.proofs.Common.{◌≡◌, ◌≤◌, ◌<◌, ◌+◌, ℕ, List, [], Option, ap, arith, subst, sym, ◌∙◌}
use Rattle.std.specs.Prelude.{◌-◌}
use Rattle.parts_tracer.specs.declared.tracer.Tracer.{Tracer}
use Rattle.parts_tracer.specs.Tells.{Tells}
use Rattle.rules_bodies.specs.declared.cursor.Cursor.{Cursor}
use Rattle.rules_bodies.specs.declared.op.Op.{Op}
use Rattle.rules_bodies.specs.Flat as flat
use Rattle.rules_machine.specs.Eventful.{busy}
use Rattle.rules_machine.specs.Runs.{Ran, ticks}
use Rattle.rules_machine.specs.State.{Machine}
use Rattle.rules_flat_code.specs.FlatBodies.{flat_bodies}
use Rattle.rules_machine.proofs.Joined.{ticks_add}
use Rattle.rules_leaps.specs.Leap.{IsLeap, in_leaps, leap, leap_length}
use Rattle.kernel_state.specs.Kernel.{Kernel, after, told}
use Rattle.kernel_settling.specs.Stood.{StoodRight}
use Rattle.kernel_wakes.specs.Calls.{objects_in}
use Rattle.kernel_leaps.specs.Fits.{StaysFit}
use Rattle.kernel_leaps.proofs.LeapCounts.{one_less}
use Rattle.kernel_leaps.proofs.Running.{Running, few_leaps, is_leap_of, one_leap, run_on, still_fits}
use Rattle.kernel_leaps.proofs.TickTimes.{Passes, ticks_pass}

-- so many of the ticks are done, and so many steps were counted before and since
pub record Leaping {K : Type 0} (text : K → Option (List ℕ)) (faults : K → ℕ) (start k : Kernel) (total done before since : ℕ) (a b : Tracer K) : Type 0 where
  pub running : Running text faults start k done a b
  pub within : done ≤ total
  pub few : since + (in_leaps (flat_bodies start.code) (total - done) k.machine).count ≤ before + (in_leaps (flat_bodies start.code) total start.machine).count

module _ {K : Type 0} (text : K → Option (List ℕ)) (faults : K → ℕ) (start : Kernel) (fit : StaysFit start (objects_in start)) where
  -- one leap more
  pub leap_on : (k l : Kernel) (total done n before since later : ℕ) (a b c : Tracer K) → Leaping text faults start k total done before since a b → done < total →
      n ≡ leap_length (flat_bodies k.code) (total - done) k.machine → l ≡ after (leap (flat_bodies k.code) n) k → Tells text faults k.names b c (told (leap (flat_bodies k.code) n) k) →
      StoodRight l.machine → l.direct ≡ [] → later ≤ since + 1 → Leaping text faults start l total (done + n) before later a c
  leap_on k l total done n before since later a b c leaping left is state tells stood quiet step = record {
    running = next;
    within = (let le = one.within in omega (arith, le, left));
    few = (let few = leaping.few in let less = there in omega (arith, few, step, less));
  }
    where
      some : 1 ≤ total - done
      some = omega (arith, left)

      one : IsLeap (flat_bodies k.code) (total - done) n k.machine
      one = subst (λ (i : ℕ). IsLeap (flat_bodies k.code) (total - done) i k.machine) (sym is) (is_leap_of k (objects_in k) (total - done) some (still_fits start k done leaping.running.state fit))

      next : Running text faults start l (done + n) a c
      next = one_leap text faults start k l done n a b c leaping.running one.same state tells stood quiet

      here : (in_leaps (flat_bodies start.code) (total - done) (ticks (flat_bodies start.code) done start.machine).machine).count ≡ (in_leaps (flat_bodies start.code) ((total - done) - n) (ticks (flat_bodies start.code) n (ticks (flat_bodies start.code) done start.machine).machine).machine).count + 1
      here = subst (λ (x : Kernel). (in_leaps (flat_bodies x.code) (total - done) x.machine).count ≡ (in_leaps (flat_bodies x.code) ((total - done) - n) (ticks (flat_bodies x.code) n x.machine).machine).count + 1)
          leaping.running.state (one_less (flat_bodies k.code) (total - done) n k.machine some is one.same)

      ends : (ticks (flat_bodies start.code) n (ticks (flat_bodies start.code) done start.machine).machine).machine ≡ l.machine
      ends = sym (ap (λ (x : Kernel). x.machine) next.state ∙ ap (λ (r : Ran Cursor). r.machine) (ticks_add (flat_bodies start.code) done n start.machine))

      less : (total - done) - n ≡ total - (done + n)
      less = omega arith

      there : (in_leaps (flat_bodies start.code) (total - done) k.machine).count ≡ (in_leaps (flat_bodies start.code) (total - (done + n)) l.machine).count + 1
      there =
          ap (λ (x : Kernel). (in_leaps (flat_bodies start.code) (total - done) x.machine).count) leaping.running.state
          ∙ here
          ∙ ap (λ (x : Machine Cursor). (in_leaps (flat_bodies start.code) ((total - done) - n) x).count + 1) ends
          ∙ ap (λ (i : ℕ). (in_leaps (flat_bodies start.code) i l.machine).count + 1) less

  -- leaps more
  pub leaps_on : (k l : Kernel) (total done n before since later : ℕ) (a b c : Tracer K) → Leaping text faults start k total done before since a b → n ≤ total - done →
      l ≡ record k { machine = (ticks (flat_bodies k.code) n k.machine).machine } → Tells text faults k.names b c (ticks (flat_bodies k.code) n k.machine).events → StoodRight l.machine → l.direct ≡ [] →
      later + (in_leaps (flat_bodies k.code) ((total - done) - n) l.machine).count ≤ since + (in_leaps (flat_bodies k.code) (total - done) k.machine).count → Leaping text faults start l total (done + n) before later a c
  leaps_on k l total done n before since later a b c leaping fewer state tells stood quiet steps = record {
    running = run_on text faults start k l done n a b c leaping.running state tells stood quiet;
    within = (let le = leaping.within in omega (arith, le, fewer));
    few = (let few = leaping.few in let more = there in omega (arith, few, more));
  }
    where
      code : k.code ≡ start.code
      code = ap (λ (x : Kernel). x.code) leaping.running.state

      less : (total - done) - n ≡ total - (done + n)
      less = omega arith

      there : later + (in_leaps (flat_bodies start.code) (total - (done + n)) l.machine).count ≤ since + (in_leaps (flat_bodies start.code) (total - done) k.machine).count
      there =
          subst (λ (i : ℕ). later + (in_leaps (flat_bodies start.code) i l.machine).count ≤ since + (in_leaps (flat_bodies start.code) (total - done) k.machine).count) less
          (subst (λ (x : flat.NumberedBodies (List Op)). later + (in_leaps (flat_bodies x) ((total - done) - n) l.machine).count ≤ since + (in_leaps (flat_bodies x) (total - done) k.machine).count) code steps)

  -- what it comes to
  module _ (k : Kernel) (total done before since : ℕ) (a b : Tracer K) (leaping : Leaping text faults start k total done before since a b) where
    times : Passes start.machine.now k.machine.now done
    times = subst (λ (x : Kernel). Passes start.machine.now x.machine.now done) (sym leaping.running.state) (ticks_pass (flat_bodies start.code) done start.machine)

    pub not_earlier : start.machine.now ≤ k.machine.now
    not_earlier = times.later

    pub not_beyond : k.machine.now ≤ start.machine.now + done
    not_beyond = times.few

    pub few_steps : since ≤ before + (in_leaps (flat_bodies start.code) total start.machine).count
    few_steps = let few = leaping.few in omega (arith, few)

    pub few_busy : since ≤ before + busy (flat_bodies start.code) start.machine 0 total + 1
    few_busy = let few = few_steps in let most = few_leaps start (objects_in start) total fit in omega (arith, few, most)
