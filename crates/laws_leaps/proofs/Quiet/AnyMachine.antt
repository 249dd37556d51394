-- The law of quiet ticks of any machine whose items are handled: where none of the next k instants is eventful, so many ticks are one
-- charge, and so is the first part of one more behind them.
use Rattle.std.proofs.Common.{Bool, List, None, Option, Some, [], ap, arith, false, length, refl, suc, sym, true, zero, ℕ, ◌+◌, ◌<◌, ◌≤◌, ◌∷◌, ◌≡◌}
use Rattle.std.specs.Prelude.{nat_lt, slice_index_or, ◌-◌, ◌==◌, ◌&&◌, if◌then◌else◌}
use mathlib.Core.Path.{subst, ◌∙◌}
use Rattle.rules_lists.specs.Threads.{times}
use Rattle.rules_machine.specs.Bodies.{Bodies}
use Rattle.rules_machine.specs.State.{Machine}
use Rattle.rules_machine.specs.Threads.{can_run}
use Rattle.rules_machine.specs.Priorities.{exec}
use Rattle.rules_machine.specs.Turns.{Turn, turn_of}
use Rattle.rules_machine.specs.GoodState.{ListsAreRight}
use Rattle.rules_machine.specs.DueItems.{instant, item_bound, next_item}
use Rattle.rules_machine.specs.Dispatch.{head}
use Rattle.rules_machine.specs.Runs.{Ran, ticks}
use Rattle.rules_machine.specs.Eventful.{has_item, is_eventful, next_tick_matters, unless_ended}
use Rattle.rules_machine.proofs.Standing.{one_if, stands}
use Rattle.rules_moves.proofs.Waiters.Best.{Each, running_within}
use Rattle.rules_moves.proofs.Runs.Listed.{head_can_run}
use Rattle.laws_machine.proofs.Lists.Places.{Stand}
use Rattle.rules_leaps.specs.Quiet.{AreCharges, IsHandled, IsQuiet, ticks_at_once, one_charge, ticks_of_head, ticks_unless_killed, told_with_dispatch}
use Rattle.laws_leaps.proofs.Quiet.Ticks.{idle_items}
use Rattle.laws_leaps.proofs.Quiet.Runs.{charges, first_of, nothing_due, second_of}
use Rattle.laws_leaps.proofs.Quiet.Once.{charges_once, idle_once}
use Rattle.laws_leaps.proofs.Leaps.Calm.{Calm, Handled, calm_ticks, matters_after, steady}
use Rattle.laws_leaps.proofs.Leaps.Bounds.{more_calm, no_calm}
use Rattle.laws_leaps.proofs.Leaps.Ended.{ended_stays}
use Rattle.rules_machine.specs.Ticks.{prepares}
use Rattle.rules_moves.proofs.Runs.Preparing.{alike_runs}
use Rattle.laws_leaps.proofs.Leaps.Bridge.{bridge, matters_at, ready_alive, ready_first}

-- ---- where the threads stand, by the index of a list

past_none : (lists : List (List ℕ)) (i : ℕ) → length lists ≤ i → slice_index_or lists i [] ≡ []
past_none [] i le = refl
past_none (us ∷ lists) zero le = absurd (omega arith)
past_none (us ∷ lists) (suc i) le = past_none lists i (omega arith)

module _ {P : Type 0} (m : Machine P) (right : ListsAreRight m) where
  stands_by : (t i : ℕ) → i < 255 → stands t i m.lists ≡ (if can_run m t && exec m t == i + 1 then 1 else 0)
  stands_by t i lt = (let at : i ≡ i + 1 - 1 = omega arith in ap (λ (n : ℕ). times t (slice_index_or m.lists n [])) at ∙ right.placed t (i + 1) (omega arith) (omega arith))

  stands_past : (t i : ℕ) → 255 ≤ i → stands t i m.lists ≡ 0
  stands_past t i le = ap (times t) (past_none m.lists i (let long = right.each_priority in omega (arith, long, le)))

  runs_here : (t i : ℕ) → can_run m t ≡ true → (b : Bool) → nat_lt i 255 ≡ b → stands t i m.lists ≡ one_if (exec m t - 1 == i)
  runs_here t i runs true e = stands_by t i (grind arith) ∙ ap (λ (b : Bool). if b && exec m t == i + 1 then 1 else 0) runs ∙ same (exec m t) (right.in_range t runs).positive
    where
      same : (p : ℕ) → 1 ≤ p → (if true && p == i + 1 then 1 else 0) ≡ one_if (p - 1 == i)
      same p low = grind arith
  runs_here t i runs false e = stands_past t i (grind arith) ∙ sym (off (exec m t) (right.in_range t runs).small (grind arith))
    where
      off : (p : ℕ) → p ≤ 255 → 255 ≤ i → one_if (p - 1 == i) ≡ 0
      off p high le = grind arith

  others_here : (t i : ℕ) → can_run m t ≡ false → (b : Bool) → nat_lt i 255 ≡ b → stands t i m.lists ≡ 0
  others_here t i idle true e = stands_by t i (grind arith) ∙ ap (λ (b : Bool). if b && exec m t == i + 1 then 1 else 0) idle
  others_here t i idle false e = stands_past t i (grind arith)

  stand_of : Stand m
  stand_of = record {
    every = right.each_priority;
    runs = λ t i runs. runs_here t i runs (nat_lt i 255) refl;
    others = λ t i idle. others_here t i idle (nat_lt i 255) refl;
  }

-- ---- only what can run is listed

runs_of : (can : ℕ → Bool) (us : List ℕ) → ((u : ℕ) → can u ≡ false → times u us ≡ 0) → Each (λ (u : ℕ). can u ≡ true) us
runs_of can [] h = tt
runs_of can (u ∷ us) h = by_case (can u) refl (runs_of can us (λ v no. (let all = h v no in omega (arith, all))))
  where
    by_case : (b : Bool) → can u ≡ b → Each (λ (v : ℕ). can v ≡ true) us → Each (λ (v : ℕ). can v ≡ true) (u ∷ us)
    by_case true e rest = (e, rest)
    by_case false e rest = let none = h u e in absurd (grind arith)

all_of : (can : ℕ → Bool) (lists : List (List ℕ)) → ((u i : ℕ) → can u ≡ false → stands u i lists ≡ 0) → Each (Each (λ (u : ℕ). can u ≡ true)) lists
all_of can [] h = tt
all_of can (us ∷ lists) h = (runs_of can us (λ u no. h u 0 no), all_of can lists (λ u i no. h u (suc i) no))

module _ {P : Type 0} (bodies : Bodies P) where
  pub handled_of : (m : Machine P) → IsHandled m → Handled bodies m
  handled_of m h = let stand = stand_of m h.lists in record { nothing = h.nothing; listed = all_of (can_run m) m.lists (λ u i no. stand.others u i no); stand = stand; swept = h.swept }

  -- ---- one charge of so many ticks

  pub charged_at_once : (j : ℕ) (m : Machine P) → Handled bodies m → ((i : ℕ) → i < j → unless_ended bodies (charges bodies i m).killed (charges bodies i m) ≡ false) → charges bodies (suc j) m ≡ ticks_at_once bodies (suc j) m
  charged_at_once j m h quiet = by_killed m.killed refl
    where
      by_head : (o : Option ℕ) → m.killed ≡ None → head m ≡ o → charges bodies (suc j) m ≡ ticks_of_head bodies (suc j) o (prepares o (turn_of m)).machine
      by_head None alive e = bridge bodies None m alive e j ∙ idle_once bodies j (prepares None (turn_of m)).machine (ready_alive bodies None m alive e) (ready_first bodies None m alive e)
      by_head (Some t) alive e =
          let r = (prepares (Some t) (turn_of m)).machine in
          let so = (steady bodies (Some t) m h e).so in
          bridge bodies (Some t) m alive e j
          ∙ charges_once bodies j t r (record { alive = ready_alive bodies (Some t) m alive e; first = ready_first bodies (Some t) m alive e; here = running_within r.threads t (alike_runs m r t so.alike (head_can_run m t h.listed e)) })
          (λ i small. sym (matters_at bodies (Some t) m alive e h i) ∙ quiet i small)

      by_killed : (o : Option ℕ) → m.killed ≡ o → charges bodies (suc j) m ≡ ticks_unless_killed bodies (suc j) o m
      by_killed None alive = by_head (head m) alive refl
      by_killed (Some signal) dead = ended_stays bodies (suc j) m signal dead

  module _ (m : Machine P) (h : Handled bodies m) where
    same : instant bodies (turn_of m) ≡ turn_of m
    same = idle_items bodies (item_bound m) (turn_of m) h.nothing

    direct : (instant bodies (turn_of m)).direct ≡ []
    direct = ap (λ (s : Turn P). s.direct) same

    handled' : Handled bodies (instant bodies (turn_of m)).machine
    handled' = subst (λ (s : Turn P). Handled bodies s.machine) (sym same) h

    abbrev ready : Machine P
    ready = (instant bodies (turn_of m)).machine

    -- the tick to an instant that is not eventful is calm
    next_calm : (k : ℕ) → Calm bodies k ready → is_eventful bodies m (suc k) ≡ false → Calm bodies (suc k) ready
    next_calm k c e =
        let none = first_of (has_item (ticks bodies (suc k) m).machine) (next_tick_matters bodies (ticks bodies k m).machine) e in
        let matters = second_of (has_item (ticks bodies (suc k) m).machine) (next_tick_matters bodies (ticks bodies k m).machine) e in
        let quiet : unless_ended bodies (charges bodies k ready).killed (charges bodies k ready) ≡ false = sym (matters_after bodies k m direct handled' c) ∙ matters in
        more_calm bodies k ready c quiet (nothing_due (next_item (charges bodies (suc k) ready)) (sym (ap (λ (r : Ran P). has_item r.machine) (calm_ticks bodies k m direct handled' c quiet)) ∙ none))

    pub quiet_calm : (k : ℕ) → IsQuiet bodies k m → Calm bodies k ready
    quiet_calm zero q = no_calm bodies ready
    quiet_calm (suc k) q = next_calm k (quiet_calm k (λ i low high. q i low (omega arith))) (q (suc k) (omega arith) (omega arith))

    each_charge : (k : ℕ) → IsQuiet bodies k m → (j : ℕ) → 1 ≤ j → j ≤ k → ticks bodies j m ≡ record { machine = ticks_at_once bodies j m; events = told_with_dispatch m.killed (turn_of m) }
    each_charge k q zero low high = absurd (omega arith)
    each_charge k q (suc j) low high =
        let c = quiet_calm k q in
        let before : Calm bodies j ready = record { quiet = λ i small. c.quiet i (omega arith); idle = λ i small. c.idle i (omega arith) } in
        calm_ticks bodies j m direct handled' before (c.quiet j (omega arith))
        ∙ ap (λ (x : Machine P). record { machine = x; events = told_with_dispatch ready.killed (instant bodies (turn_of m)) }) (charged_at_once j ready handled' before.quiet)
        ∙ ap (λ (s : Turn P). record { machine = ticks_at_once bodies (suc j) s.machine; events = told_with_dispatch s.machine.killed s }) same

    last_charge : (k : ℕ) → IsQuiet bodies k m → one_charge bodies (ticks bodies k m).machine ≡ ticks_at_once bodies (k + 1) m
    last_charge zero q = charged_at_once 0 m h (λ i small. absurd (omega arith))
    last_charge (suc k) q =
        let c = quiet_calm (suc k) q in
        let before : Calm bodies k ready = record { quiet = λ i small. c.quiet i (omega arith); idle = λ i small. c.idle i (omega arith) } in
        let more : suc (suc k) ≡ suc k + 1 = omega arith in
        ap (λ (r : Ran P). one_charge bodies r.machine) (calm_ticks bodies k m direct handled' before (c.quiet k (omega arith)))
        ∙ charged_at_once (suc k) ready handled' c.quiet
        ∙ ap (λ (s : Turn P). ticks_at_once bodies (suc (suc k)) s.machine) same
        ∙ ap (λ (n : ℕ). ticks_at_once bodies n m) more

    pub are_charges : (k : ℕ) → IsQuiet bodies k m → AreCharges bodies k m
    are_charges k q = record { each = each_charge k q; last = last_charge k q }
