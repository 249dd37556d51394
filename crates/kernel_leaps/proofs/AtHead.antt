-- A run at an instant with its tick begun: how long a leap from there is, and which ticks are quiet.
use Rattle.std.proofs.Common.{◌≡◌, ◌∙◌, ◌+◌, ◌<◌, ◌≤◌, ℕ, suc, Bool, None, Option, Some, [], ap, arith, false, refl, subst, sym, true}
use Rattle.std.specs.Prelude.{max, min, nat_le}
use Rattle.words_script.specs.declared.decl.Script.{Script}
use Rattle.rules_bodies.specs.declared.cursor.Cursor.{Cursor}
use Rattle.rules_machine.specs.Agenda.{agenda}
use Rattle.rules_machine.specs.Eventful.{head_matters, next_tick_matters, unless_ended}
use Rattle.rules_machine.specs.State.{Machine, Status, Thread, blocked, dormant, ended, runnable}
use Rattle.rules_machine.specs.Threads.{can_run, is_blocked, is_runnable, thread_at, top_left}
use Rattle.rules_machine.specs.Ticks.{prepares}
use Rattle.rules_machine.specs.Turns.{Turn, turn_of}
use Rattle.rules_machine.specs.Units.{in_unit}
use Rattle.rules_machine.specs.WellFormed.{IsWellFormed}
use Rattle.rules_moves.proofs.Runs.Listed.{head_can_run}
use Rattle.rules_moves.proofs.Runs.Preparing.{alike_runs}
use Rattle.rules_leaps.specs.Leap.{head_lasts, leap_length, length_from, thread_lasts, ticks_to_next}
use Rattle.rules_leaps.specs.Quiet.{at_head}
use Rattle.laws_leaps.proofs.Leaps.Lengths.{IsReady, r_slices}
use Rattle.laws_leaps.proofs.Leaps.Scripts.{stays_ready}
use Rattle.laws_leaps.proofs.Quiet.Charges.{stays_so}
use Rattle.laws_leaps.proofs.Quiet.Once.{in_unit_on}
use Rattle.laws_kernel.proofs.Ranges.{flat_bodies_fit}
use Rattle.kernel_threads.specs.Lasting.{lasts_by}
use Rattle.kernel_state.specs.Kernel.{Kernel}
use Rattle.kernel_leaps.specs.Detail.{IsAfterQuietTick}
use Rattle.kernel_leaps.specs.Passing.{IsQuietTick, PassesNoUnit, leap_of}
use Rattle.kernel_leaps.proofs.InUnit.{idle_long, most_near, passes_none, thread_long, tick_passes_none}
use Rattle.kernel_leaps.proofs.Running.{turn_is}
use Rattle.kernel_leaps.proofs.StepsLeft.{lasts_same}
use Rattle.kernel_leaps.proofs.Telling.{is_still, l, m, p, q, ready, to}

shortest : (near left next unit short a b l : ℕ) → near ≡ next → next ≤ left → unit ≡ suc l → a ≤ unit → min short a ≡ min short b → short ≡ min near (max 1 unit) → max 1 (min left (min next a)) ≡ max 1 (min short b)
shortest near left next unit short a b l e le u low same s = omega (arith, e, le, u, low, same, s)

runs_free : (s : Status) → is_runnable s ≡ true → is_blocked s ≡ false
runs_free (dormant at) e = refl
runs_free runnable e = refl
runs_free (blocked w) e = absurd (cc)
runs_free ended e = refl

module _ (script : Script) (fits : IsWellFormed script) (n : ℕ) where
  abbrev handled : Machine Cursor
  handled = (ready script fits n).machine

  abbrev begun : Kernel
  begun = p script fits n

  pub is_head : begun.machine ≡ at_head handled
  is_head = ap (λ (s : Turn Cursor). (prepares (to script fits n) s).machine) (turn_is (l script fits n) (is_still script fits n))

  is_ready : IsReady (q script fits n) (m script fits n)
  is_ready = stays_ready (q script fits n) (flat_bodies_fit script fits.priorities) script fits n

  -- ---- how long a leap is

  module _ (runs : handled.killed ≡ None) where
    pub long_by_thread : (t : ℕ) → to script fits n ≡ Some t → (near left j : ℕ) → j ≡ leap_of near t begun → (2 ≤ near → near ≤ ticks_to_next left begun.machine.now (agenda begun.machine))
        → leap_length (q script fits n) j (m script fits n) ≡ j
    long_by_thread t top near left j is reach =
        ap (λ (o : Option ℕ). length_from (q script fits n) o j handled) runs
        ∙ ap (λ (o : Option ℕ). max 1 (min j (min (ticks_to_next j (at_head handled).now (agenda (at_head handled))) (head_lasts (q script fits n) j o (at_head handled))))) top
        ∙ ap (λ (x : Machine Cursor). max 1 (min j (min (ticks_to_next j x.now (agenda x)) (thread_lasts j x.quantum (in_unit (q script fits n) (thread_at x t)).thread)))) (sym is_head)
        ∙ thread_long near begun.machine.quantum left begun.machine.now j (agenda begun.machine) (in_unit (q script fits n) (thread_at begun.machine t)).thread is reach

    pub long_idle : to script fits n ≡ None → (near left j : ℕ) → j ≡ max 1 near → (2 ≤ near → near ≤ ticks_to_next left begun.machine.now (agenda begun.machine))
        → leap_length (q script fits n) j (m script fits n) ≡ j
    long_idle top near left j is reach =
        ap (λ (o : Option ℕ). length_from (q script fits n) o j handled) runs
        ∙ ap (λ (o : Option ℕ). max 1 (min j (min (ticks_to_next j (at_head handled).now (agenda (at_head handled))) (head_lasts (q script fits n) j o (at_head handled))))) top
        ∙ ap (λ (x : Machine Cursor). max 1 (min j (min (ticks_to_next j x.now (agenda x)) j))) (sym is_head)
        ∙ idle_long near left begun.machine.now j (agenda begun.machine) is reach

    -- ---- as long as it may be, in the midst of a unit

    pub whole_idle : to script fits n ≡ None → (near left j : ℕ) → j ≡ max 1 near → near ≡ ticks_to_next left begun.machine.now (agenda begun.machine) → leap_length (q script fits n) left (m script fits n) ≡ j
    whole_idle top near left j is is_near =
        ap (λ (o : Option ℕ). length_from (q script fits n) o left handled) runs
        ∙ ap (λ (o : Option ℕ). max 1 (min left (min (ticks_to_next left (at_head handled).now (agenda (at_head handled))) (head_lasts (q script fits n) left o (at_head handled))))) top
        ∙ ap (λ (x : Machine Cursor). max 1 (min left (min (ticks_to_next left x.now (agenda x)) left))) (sym is_head)
        ∙ (let most = most_near (agenda begun.machine) begun.machine.now left in omega (arith, is, is_near, most))

    pub whole_thread : (t : ℕ) → to script fits n ≡ Some t → (near left j l : ℕ) → top_left (thread_at begun.machine t).frames ≡ suc l → near ≡ ticks_to_next left begun.machine.now (agenda begun.machine)
        → j ≡ leap_of (min near (max 1 (top_left (thread_at begun.machine t).frames))) t begun → leap_length (q script fits n) left (m script fits n) ≡ j
    whole_thread t top near left j l midst is_near is =
        let th = thread_at begun.machine t in
        let short = min near (max 1 (top_left th.frames)) in
        let same : (in_unit (q script fits n) th).thread ≡ th = in_unit_on (q script fits n) th l midst in
        let is' : j ≡ lasts_by short begun.machine.quantum th = is ∙ ap (lasts_by short begun.machine.quantum) same in
        let most = most_near (agenda begun.machine) begun.machine.now left in
        let alike = lasts_same short left begun.machine.quantum short th (omega arith) (omega (arith, is_near, most)) in
        ap (λ (o : Option ℕ). length_from (q script fits n) o left handled) runs
        ∙ ap (λ (o : Option ℕ). max 1 (min left (min (ticks_to_next left (at_head handled).now (agenda (at_head handled))) (head_lasts (q script fits n) left o (at_head handled))))) top
        ∙ ap (λ (x : Machine Cursor). max 1 (min left (min (ticks_to_next left x.now (agenda x)) (thread_lasts left x.quantum (in_unit (q script fits n) (thread_at x t)).thread)))) (sym is_head)
        ∙ ap (λ (x : Thread Cursor). max 1 (min left (min (ticks_to_next left begun.machine.now (agenda begun.machine)) (thread_lasts left begun.machine.quantum x)))) same
        ∙ shortest near left (ticks_to_next left begun.machine.now (agenda begun.machine)) (top_left th.frames) short (thread_lasts left begun.machine.quantum th) (thread_lasts short begun.machine.quantum th) l is_near most midst (omega arith) (sym alike) refl
        ∙ sym is'

    -- ---- no unit is passed

    slices : (u : ℕ) → (thread_at begun.machine u).slice < begun.machine.quantum
    slices u =
        subst (λ (x : Machine Cursor). (thread_at x u).slice < x.quantum) (sym is_head)
        (r_slices (q script fits n) (to script fits n) handled runs refl is_ready.handled is_ready.slices 0 0 u)

    pub alone : (t near : ℕ) → near ≤ max 1 (top_left (thread_at begun.machine t).frames) → PassesNoUnit near t begun
    alone t near le units each = by_near (nat_le near 1) refl
      where
        at_most : nat_le near 1 ≡ true → near ≤ 1
        at_most e = grind arith

        more : nat_le near 1 ≡ false → near ≤ max 1 (top_left (thread_at begun.machine t).frames) → near ≤ top_left (thread_at begun.machine t).frames
        more e le = grind arith

        by_near : (b : Bool) → nat_le near 1 ≡ b → units ≡ []
        by_near true e = tick_passes_none (q script fits n) near begun.machine.quantum units (thread_at begun.machine t) (at_most e) each
        by_near false e = passes_none (q script fits n) near begun.machine.quantum units (thread_at begun.machine t) (slices t) (more e le) each

    -- ---- quiet ticks

    matters_same : (o : Option ℕ) → to script fits n ≡ o → next_tick_matters (q script fits n) (m script fits n) ≡ head_matters (q script fits n) o begun.machine
    matters_same o top =
        let can = λ (t : ℕ) (e : o ≡ Some t). head_can_run handled t is_ready.handled.listed (top ∙ e) in
        let stays = stays_so (q script fits n) o (turn_of handled) can is_ready.handled.stand is_ready.handled.swept in
        ap (λ (k : Option ℕ). unless_ended (q script fits n) k handled) runs
        ∙ ap (λ (k : Option ℕ). head_matters (q script fits n) k handled) top
        ∙ sym stays.matters
        ∙ ap (λ (k : Option ℕ). head_matters (q script fits n) o (prepares k (turn_of handled)).machine) (sym top)
        ∙ ap (head_matters (q script fits n) o) (sym is_head)

    no_matter : (o : Option ℕ) → to script fits n ≡ o → head_matters (q script fits n) o begun.machine ≡ false → next_tick_matters (q script fits n) (m script fits n) ≡ false
    no_matter o top quiet = matters_same o top ∙ quiet

    -- a quiet tick of the run is one of its thread
    pub thread_quiet : (t : ℕ) → to script fits n ≡ Some t → next_tick_matters (q script fits n) (m script fits n) ≡ false → IsQuietTick (q script fits n) begun.machine.quantum (thread_at begun.machine t)
    thread_quiet t top quiet = sym (matters_same (Some t) top) ∙ quiet

    -- and that thread is not blocked
    pub thread_runs : (t : ℕ) → to script fits n ≡ Some t → is_blocked (thread_at begun.machine t).status ≡ false
    thread_runs t top =
        let can = head_can_run handled t is_ready.handled.listed top in
        let stays = stays_so (q script fits n) (to script fits n) (turn_of handled) (λ (u : ℕ) (e : to script fits n ≡ Some u). head_can_run handled u is_ready.handled.listed e) is_ready.handled.stand is_ready.handled.swept in
        let there = alike_runs handled (prepares (to script fits n) (turn_of handled)).machine t stays.alike can in
        runs_free (thread_at begun.machine t).status (ap (λ (x : Machine Cursor). can_run x t) is_head ∙ there)

    pub after_thread : (t : ℕ) → to script fits n ≡ Some t → IsQuietTick (q script fits n) begun.machine.quantum (thread_at begun.machine t) → IsAfterQuietTick script (n + 1)
    after_thread t top quiet = record { before = n; is = omega arith; quiet = no_matter (Some t) top quiet }

    pub after_idle : to script fits n ≡ None → IsAfterQuietTick script (n + 1)
    after_idle top = record { before = n; is = omega arith; quiet = no_matter None top refl }
