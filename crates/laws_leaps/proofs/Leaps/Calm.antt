-- Leaps from an arbitrary machine: where the items of an instant are handled, and nothing falls due and no tick matters for a while,
-- so many ticks are as many charges of the head and then one ordinary tick.
use Rattle.std.proofs.Common.{Bool, List, None, Option, Some, [], ap, arith, false, refl, suc, sym, true, zero, ℕ, ◌<◌, ◌∷◌, ◌++◌, ◌≡◌}
use Rattle.std.specs.Prelude.{◌-◌, ◌==◌}
use mathlib.Core.Path.{◌∙◌}
use Rattle.words_trace.specs.Text.{Entry}
use Rattle.rules_machine.specs.Bodies.{Bodies}
use Rattle.rules_machine.specs.State.{Machine}
use Rattle.rules_machine.specs.Threads.{can_run}
use Rattle.rules_machine.specs.Turns.{Turn, turn_of}
use Rattle.rules_machine.specs.Dispatch.{head}
use Rattle.std.specs.Prelude.{◌||◌}
use Rattle.rules_machine.specs.Eventful.{has_item, is_eventful, next_tick_matters}
use Rattle.rules_machine.specs.DueItems.{instant, item_bound, next_item}
use Rattle.rules_machine.specs.Runs.{Ran, follow, tick_of, ticks}
use Rattle.rules_machine.specs.Eventful.{head_matters, unless_ended}
use Rattle.rules_machine.specs.Ticks.{goes_on, prepares}
use Rattle.rules_machine.proofs.Standing.{one_if}
use Rattle.rules_moves.proofs.Waiters.Best.{Each}
use Rattle.rules_moves.proofs.Runs.Listed.{AllRun, head_can_run}
use Rattle.laws_machine.proofs.Lists.Places.{Stand}
use Rattle.laws_machine.proofs.Sweeps.Visits.{Quiet}
use Rattle.laws_leaps.proofs.Quiet.Ticks.{idle_items}
use Rattle.rules_leaps.specs.Quiet.{after_quiet}
use Rattle.laws_leaps.proofs.Quiet.Charges.{QuietTick, StaysSo, charged_can_run, charged_exec, charged_quiet, goes_on_quiet, stays_so}
use Rattle.rules_leaps.specs.Quiet.{charged_head, charged_unless_killed, one_charge, told_with_dispatch}
use Rattle.laws_leaps.proofs.Quiet.Runs.{charges}
use Rattle.laws_leaps.proofs.Quiet.Events.{nothing_more, silent}
use Rattle.rules_moves.proofs.Runs.Preparing.{alike_listed}

each_by : {X : Type 0} (A B : X → Type 0) → ((x : X) → A x → B x) → (xs : List X) → Each A xs → Each B xs
each_by A B f [] each = tt
each_by A B f (x ∷ xs) each = (f x each.0, each_by A B f xs each.1)

same_ran : {P : Type 0} (r q : Ran P) → r.machine ≡ q.machine → r.events ≡ q.events → r ≡ q
same_ran {P} r q e f = ap (λ (m : Machine P). record { machine = m; events = r.events }) e ∙ ap (λ (es : List Entry). record { machine = q.machine; events = es }) f

module _ {P : Type 0} (bodies : Bodies P) where
  -- the items of the instant are handled, and the threads stand right
  pub record Handled (m : Machine P) : Type 0 where
    pub nothing : next_item m ≡ None
    pub listed : AllRun m m.lists
    pub stand : Stand m
    pub swept : m.killed ≡ None → (u : ℕ) → Quiet bodies m u

  -- none of the next j ticks matters, and nothing falls due in them or at their end
  pub record Calm (j : ℕ) (m : Machine P) : Type 0 where
    pub quiet : (i : ℕ) → i < j → unless_ended bodies (charges bodies i m).killed (charges bodies i m) ≡ false
    pub idle : (i : ℕ) → i < j → next_item (charges bodies (suc i) m) ≡ None

  pub fewer_calm : (j : ℕ) (m : Machine P) → Calm (suc j) m → Calm j m
  fewer_calm j m c = record { quiet = λ i small. c.quiet i (omega arith); idle = λ i small. c.idle i (omega arith) }

  -- ---- a charge that does not matter leaves the threads where they stand

  record Stays (m n : Machine P) : Type 0 where
    listed : AllRun n n.lists
    stand : Stand n
    swept : n.killed ≡ None → (u : ℕ) → Quiet bodies n u

  head_stays : (t : ℕ) (m : Machine P) → AllRun m m.lists → Stand m → (m.killed ≡ None → (u : ℕ) → Quiet bodies m u) → m.killed ≡ None → head_matters bodies (Some t) m ≡ false → Stays m (after_quiet bodies t m)
  head_stays t m listed stand swept alive matters =
      let s = turn_of m in
      record {
        listed = each_by (Each (λ (u : ℕ). can_run m u ≡ true)) (Each (λ (u : ℕ). can_run (after_quiet bodies t m) u ≡ true))
            (λ us all. each_by (λ (u : ℕ). can_run m u ≡ true) (λ (u : ℕ). can_run (after_quiet bodies t m) u ≡ true) (λ u e. charged_can_run bodies t s u ∙ e) us all) m.lists listed;
        stand = record {
          every = stand.every;
          runs = λ u i e. stand.runs u i (sym (charged_can_run bodies t s u) ∙ e) ∙ ap (λ (n : ℕ). one_if (n - 1 == i)) (sym (charged_exec bodies t s matters u));
          others = λ u i e. stand.others u i (sym (charged_can_run bodies t s u) ∙ e);
        };
        swept = λ e. charged_quiet bodies t s (swept alive);
      }

  -- the machine as its head begins its tick
  pub record Steady (to : Option ℕ) (m : Machine P) : Type 0 where
    pub listed : AllRun (prepares to (turn_of m)).machine (prepares to (turn_of m)).machine.lists
    pub so : StaysSo bodies to (turn_of m)

  pub steady : (to : Option ℕ) (m : Machine P) → Handled m → head m ≡ to → Steady to m
  steady to m h e =
      let so = stays_so bodies to (turn_of m) (λ t f. head_can_run m t h.listed (e ∙ f)) h.stand h.swept in
      record { listed = alike_listed m (prepares to (turn_of m)).machine so.alike h.listed; so = so }

  charge_stays : (m : Machine P) → Handled m → unless_ended bodies m.killed m ≡ false → Stays m (one_charge bodies m)
  charge_stays m h = by_killed m.killed refl
    where
      by_head : (o : Option ℕ) → head m ≡ o → m.killed ≡ None → head_matters bodies o m ≡ false → Stays m (charged_head bodies o (prepares o (turn_of m)).machine)
      by_head None first alive e = let k = steady None m h first in record { listed = k.listed; stand = (let s = k.so.stand in record { every = s.every; runs = s.runs; others = s.others }); swept = λ q. k.so.swept alive }
      by_head (Some t) first alive e =
          let k = steady (Some t) m h first in
          let s = head_stays t (prepares (Some t) (turn_of m)).machine k.listed k.so.stand (λ q. k.so.swept alive) (k.so.alike.killed ∙ alive) (k.so.matters ∙ e) in
          record { listed = s.listed; stand = s.stand; swept = s.swept }

      by_killed : (k : Option ℕ) → m.killed ≡ k → unless_ended bodies k m ≡ false → Stays m (charged_unless_killed bodies k m)
      by_killed None alive e = by_head (head m) refl alive e
      by_killed (Some signal) dead e = record { listed = h.listed; stand = h.stand; swept = h.swept }

  charge_handled : (m : Machine P) → Handled m → unless_ended bodies m.killed m ≡ false → next_item (one_charge bodies m) ≡ None → Handled (one_charge bodies m)
  charge_handled m h e none = let s = charge_stays m h e in record { nothing = none; listed = s.listed; stand = s.stand; swept = s.swept }

  pub charges_handled : (j : ℕ) (m : Machine P) → Handled m → Calm j m → Handled (charges bodies j m)
  charges_handled zero m h c = h
  charges_handled (suc j) m h c = charge_handled (charges bodies j m) (charges_handled j m h (fewer_calm j m c)) (c.quiet j (omega arith)) (c.idle j (omega arith))

  -- ---- ticks that are charges

  instant_nothing : (m : Machine P) → Handled m → instant bodies (turn_of m) ≡ turn_of m
  instant_nothing m h = idle_items bodies (item_bound m) (turn_of m) h.nothing

  pub tick_handled : (m : Machine P) → Handled m → tick_of bodies m ≡ record { machine = (goes_on bodies (turn_of m)).machine; events = (goes_on bodies (turn_of m)).events }
  tick_handled m h = ap (λ (s : Turn P). record { machine = (goes_on bodies s).machine; events = (goes_on bodies s).events }) (instant_nothing m h)

  quiet_of : (s : Turn P) → s.direct ≡ [] → Handled s.machine → unless_ended bodies s.machine.killed s.machine ≡ false → QuietTick bodies s
  quiet_of s none h e = goes_on_quiet bodies s none h.listed h.stand h.swept e

  -- j + 1 ticks that do not matter, from a machine whose items are not handled yet; at their end something may fall due
  pub calm_ticks : (j : ℕ) (m : Machine P) → let s = instant bodies (turn_of m) in s.direct ≡ [] → Handled s.machine → Calm j s.machine →
      unless_ended bodies (charges bodies j s.machine).killed (charges bodies j s.machine) ≡ false →
      ticks bodies (suc j) m ≡ record { machine = charges bodies (suc j) s.machine; events = told_with_dispatch s.machine.killed s }
  calm_ticks zero m none h c e =
      let s = instant bodies (turn_of m) in
      let q = quiet_of s none h e in
      same_ran (ticks bodies 1 m) (record { machine = charges bodies 1 s.machine; events = told_with_dispatch s.machine.killed s }) q.machine q.events
  calm_ticks (suc j) m none h c e =
      let s = instant bodies (turn_of m) in
      let at = charges bodies (suc j) s.machine in
      let told = told_with_dispatch s.machine.killed s in
      let there : Handled at = charges_handled (suc j) s.machine h c in
      let q = quiet_of (turn_of at) refl there e in
      ap (λ (r : Ran P). follow r (tick_of bodies)) (calm_ticks j m none h (fewer_calm j s.machine c) (c.quiet j (omega arith)))
      ∙ ap (λ (r : Ran P). record { machine = r.machine; events = told ++ r.events }) (tick_handled at there)
      ∙ same_ran (record { machine = (goes_on bodies (turn_of at)).machine; events = told ++ (goes_on bodies (turn_of at)).events })
      (record { machine = charges bodies (suc (suc j)) s.machine; events = told }) q.machine
      (ap (λ (es : List Entry). told ++ es) (q.events ∙ silent bodies (charges bodies j s.machine)) ∙ nothing_more told)

  -- So many of them, and one ordinary tick.
  pub calm_then_tick : (j : ℕ) (m : Machine P) → let s = instant bodies (turn_of m) in s.direct ≡ [] → Handled s.machine → Calm (suc j) s.machine →
      let last = tick_of bodies (charges bodies (suc j) s.machine) in
      ticks bodies (suc (suc j)) m ≡ record { machine = last.machine; events = told_with_dispatch s.machine.killed s ++ last.events }
  calm_then_tick j m none h c =
      ap (λ (r : Ran P). follow r (tick_of bodies)) (calm_ticks j m none h (fewer_calm j (instant bodies (turn_of m)).machine c) (c.quiet j (omega arith)))

  -- ---- where a leap ends

  -- the tick after j calm ones matters, or something falls due at its end
  pub record EndsAt (j : ℕ) (m : Machine P) : Type 0 where
    pub due : unless_ended bodies (charges bodies j m).killed (charges bodies j m) ≡ false → has_item (charges bodies (suc j) m) ≡ true

  pub matters_after : (j : ℕ) (m : Machine P) → let s = instant bodies (turn_of m) in s.direct ≡ [] → Handled s.machine → Calm j s.machine →
      next_tick_matters bodies (ticks bodies j m).machine ≡ unless_ended bodies (charges bodies j s.machine).killed (charges bodies j s.machine)
  matters_after zero m none h c = refl
  matters_after (suc j) m none h c =
      let s = instant bodies (turn_of m) in
      let at = charges bodies (suc j) s.machine in
      ap (λ (r : Ran P). next_tick_matters bodies r.machine) (calm_ticks j m none h (fewer_calm j s.machine c) (c.quiet j (omega arith)))
      ∙ ap (λ (x : Turn P). unless_ended bodies x.machine.killed x.machine) (instant_nothing at (charges_handled (suc j) s.machine h c))

  -- it ends at an eventful instant
  pub ends_eventful : (j : ℕ) (m : Machine P) → let s = instant bodies (turn_of m) in s.direct ≡ [] → Handled s.machine → Calm j s.machine → EndsAt j s.machine → is_eventful bodies m (suc j) ≡ true
  ends_eventful j m none h c end = by_matters (unless_ended bodies (charges bodies j s.machine).killed (charges bodies j s.machine)) refl
    where
      s : Turn P
      s = instant bodies (turn_of m)

      or_true : (a : Bool) → (a || true) ≡ true
      or_true true = refl
      or_true false = refl

      by_matters : (b : Bool) → unless_ended bodies (charges bodies j (instant bodies (turn_of m)).machine).killed (charges bodies j (instant bodies (turn_of m)).machine) ≡ b → is_eventful bodies m (suc j) ≡ true
      by_matters true e =
          ap (λ (b : Bool). has_item (ticks bodies (suc j) m).machine || b) (matters_after j m none h c ∙ e) ∙ or_true (has_item (ticks bodies (suc j) m).machine)
      by_matters false e =
          ap (λ (r : Ran P). has_item r.machine || next_tick_matters bodies (ticks bodies j m).machine) (calm_ticks j m none h c e)
          ∙ ap (λ (b : Bool). b || next_tick_matters bodies (ticks bodies j m).machine) (end.due e)
