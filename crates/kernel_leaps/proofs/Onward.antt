-- A leap whose unit only takes time, and that uses up neither its interval nor its capacity: it is its charge alone, and the threads
-- stand right after it.
use Rattle.std.proofs.Common.{◌≡◌, ◌≤◌, ◌<◌, ◌-◌, ℕ, Bool, true, false, List, [], Option, None, Some, ap, arith, refl, subst, sym, ◌∙◌}
use Rattle.std.specs.Prelude.{◌==◌, ◌&&◌, ◌||◌, if◌then◌else◌}
use Rattle.parts_tracer.specs.declared.tracer.Tracer.{Tracer}
use Rattle.parts_tracer.specs.Tells.{Tells}
use Rattle.words_trace.specs.Text.{Entry}
use Rattle.parts_tracer.proofs.Tells.{tells_nothing}
use Rattle.rules_bodies.specs.declared.cursor.Cursor.{Cursor}
use Rattle.rules_bodies.specs.declared.unit.Unit as unit_type
use Rattle.rules_bodies.specs.declared.unit.Unit.TheVariants as unit
use Rattle.rules_machine.specs.Bodies.{Bodies}
use Rattle.rules_machine.specs.Calls.{unit_effect}
use Rattle.rules_machine.specs.Servers.{has_high}
use Rattle.rules_machine.specs.State.{Machine, Thread}
use Rattle.rules_machine.specs.Threads.{can_run, thread_at}
use Rattle.rules_machine.specs.Ticks.{capacity_in, slice_is_used}
use Rattle.rules_machine.specs.Turns.{Turn, becomes, changes, turn_of, ◌▷◌}
use Rattle.rules_machine.specs.Units.{in_unit}
use Rattle.rules_flat_code.specs.FlatBodies.{flat_bodies}
use Rattle.rules_leaps.specs.Leap.{later_by, leap_runs}
use Rattle.rules_leaps.specs.Quiet.{after_ticks}
use Rattle.laws_machine.proofs.Lists.Places.{Stand}
use Rattle.laws_machine.proofs.Sweeps.Visits.{Quiet}
use Rattle.laws_leaps.proofs.Leaps.Going.{gone, gone_can_run, gone_exec, leapt_alone}
use Rattle.kernel_threads.specs.Lasting.{used_up}
use Rattle.kernel_threads.specs.Running.{only_takes_time}
use Rattle.kernel_state.specs.Kernel.{Kernel, after, told, turn}
use Rattle.kernel_settling.specs.Stood.{StoodRight}
use Rattle.kernel_leaps.proofs.Running.{turn_is}

pub does_nothing : (bodies : Bodies Cursor) (t : ℕ) (u : unit_type.Unit) → only_takes_time u ≡ true → (s : Turn Cursor) → unit_effect bodies t u s ≡ s
does_nothing bodies t (unit.Run n) e s = refl
does_nothing bodies t (unit.Make c) e s = absurd (grind arith)
does_nothing bodies t unit.Jump e s = refl
does_nothing bodies t unit.Finish e s = absurd (grind arith)

pub first_no : (a b : Bool) → (a || b) ≡ false → a ≡ false
first_no a b e = grind arith

pub second_no : (a b : Bool) → (a || b) ≡ false → b ≡ false
second_no a b e = grind arith

-- the ready lists are right, and no signal can be taken
pub record IsCalm (bodies : Bodies Cursor) (m : Machine Cursor) : Type 0 where
  pub stand : Stand m
  pub swept : m.killed ≡ None → (u : ℕ) → Quiet bodies m u

-- so many ticks of a thread in its unit
abbrev pub charges_by : ℕ → ℕ → Kernel → Turn Cursor → Turn Cursor
charges_by t k p s = s ▷ changes t (λ th. after_ticks k (in_unit (flat_bodies p.code) (thread_at p.machine t)).thread) ▷ becomes (later_by k)

module _ (p l : Kernel) (t k : ℕ) (state : l ≡ after (charges_by t k p) p) (quiet : p.direct ≡ []) (stood : StoodRight p.machine)
    (over : used_up (has_high (thread_at p.machine t).server) p.machine.quantum (after_ticks k (in_unit (flat_bodies p.code) (thread_at p.machine t)).thread) ≡ false)
    (idle : only_takes_time (in_unit (flat_bodies p.code) (thread_at p.machine t)).unit ≡ true)
    (can : can_run p.machine t ≡ true) (alive : p.machine.killed ≡ None) (calm : IsCalm (flat_bodies p.code) p.machine) where
  abbrev bodies : Bodies Cursor
  bodies = flat_bodies p.code

  abbrev spent : Thread Cursor
  spent = after_ticks k (in_unit bodies (thread_at p.machine t)).thread

  full : (has_high (thread_at p.machine t).server && capacity_in spent.server == 0) ≡ false
  full = second_no (slice_is_used spent.policy spent.slice p.machine.quantum) (has_high (thread_at p.machine t).server && capacity_in spent.server == 0) over

  alone : leap_runs bodies k (Some t) (turn p) ≡ turn_of (gone bodies t k p.machine)
  alone =
      ap (leap_runs bodies k (Some t)) (turn_is p quiet)
      ∙ leapt_alone bodies t k p.machine full calm.stand
      (first_no (slice_is_used spent.policy spent.slice p.machine.quantum) (has_high (thread_at p.machine t).server && capacity_in spent.server == 0) over)
      (does_nothing bodies t (in_unit bodies (thread_at p.machine t)).unit idle) can (calm.swept alive)

  pub alone_state : l ≡ after (leap_runs bodies k (Some t)) p
  alone_state =
      state
      ∙ ap (λ (d : List ℕ). record p { machine = gone bodies t k p.machine; direct = d }) quiet
      ∙ sym (ap (λ (s : Turn Cursor). record p { machine = s.machine; direct = s.direct }) alone)

  pub alone_told : {K : Type 0} (text : K → Option (List ℕ)) (faults : K → ℕ) (a : Tracer K) → Tells text faults p.names a a (told (leap_runs bodies k (Some t)) p)
  alone_told text faults a =
      subst (λ (es : List Entry). Tells text faults p.names a a es) (sym (ap (λ (s : Turn Cursor). s.events) alone)) (tells_nothing text faults p.names a)

  there : StoodRight (gone bodies t k p.machine)
  there =
      let exec_same = gone_exec bodies t k p.machine full calm.stand in
      let can_same = gone_can_run bodies t k p.machine in
      record {
        every = stood.every;
        within = λ u. subst (λ (n : ℕ). n - 1 < 255) (sym (exec_same u)) (stood.within u);
        positive = λ u runs. subst (λ (n : ℕ). 1 ≤ n) (sym (exec_same u)) (stood.positive u (sym (can_same u) ∙ runs));
        runs = λ u i runs. stood.runs u i (sym (can_same u) ∙ runs) ∙ ap (λ (n : ℕ). if n - 1 == i then 1 else 0) (sym (exec_same u));
        others = λ u i off. stood.others u i (sym (can_same u) ∙ off);
      }

  pub alone_stood : StoodRight l.machine
  alone_stood = subst (λ (x : Kernel). StoodRight x.machine) (sym state) there
