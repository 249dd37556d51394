-- The law of a leap: where none of the ticks but the last matters, and nothing falls due before it ends, a leap of k ticks is k ticks.
use Rattle.std.proofs.Common.{List, None, Option, Some, [], ap, arith, refl, suc, sym, true, zero, ℕ, ◌+◌, ◌++◌, ◌≡◌}
use mathlib.Core.Path.{subst, ◌∙◌}
use Rattle.words_trace.specs.Text.{Entry}
use Rattle.rules_server.specs.Server.{ServerState, charge_ticks, is_high}
use Rattle.rules_machine.specs.declared.dispatch.LastDispatch.{LastDispatch}
use Rattle.rules_machine.specs.declared.dispatch.LastDispatch.TheVariants as last
use Rattle.rules_machine.specs.Bodies.{Bodies}
use Rattle.rules_machine.specs.State.{Machine, Thread}
use Rattle.rules_machine.specs.Threads.{thread_at, top_left}
use Rattle.rules_machine.specs.Turns.{Turn, becomes, changes, settles_since, turn_of}
use Rattle.rules_machine.specs.Servers.{has_high}
use Rattle.rules_machine.specs.Delivery.{sweeps}
use Rattle.rules_machine.specs.DueItems.{instant}
use Rattle.rules_machine.specs.Dispatch.{head}
use Rattle.rules_machine.specs.Units.{in_unit}
use Rattle.rules_machine.specs.Ticks.{completes, later, runs, runs_head, tick_ends, unless_killed, prepares}
use Rattle.rules_machine.specs.Runs.{Ran, ran, tick_of, ticks}
use Rattle.rules_machine.proofs.Behind.{AddsBehind, behind}
use Rattle.rules_machine.proofs.BehindTicks.{completes_behind, sweeps_behind, tick_ends_behind}
use Rattle.rules_leaps.specs.Quiet.{after_ticks}
use Rattle.rules_leaps.specs.Leap.{later_by, leap, leap_goes_on, leap_head, leap_runs, unit_leapt}
use Rattle.rules_moves.proofs.Waiters.Best.{running_within}
use Rattle.rules_moves.proofs.Runs.Listed.{head_can_run}
use Rattle.rules_leaps.specs.Quiet.{told_with_dispatch}
use Rattle.laws_leaps.proofs.Quiet.Runs.{charges}
use Rattle.laws_leaps.proofs.Quiet.Once.{StaysHigh, charged_is, idle_once, Begins}
use Rattle.laws_leaps.proofs.Quiet.Events.{nothing_more}
use Rattle.laws_leaps.proofs.Leaps.Calm.{Calm, Handled, calm_then_tick, charges_handled, tick_handled, steady}
use Rattle.laws_leaps.proofs.Leaps.LastTick.{last_is_leap}
use Rattle.rules_machine.proofs.Parts.{prepares_unended}
use Rattle.rules_moves.proofs.Runs.Preparing.{alike_runs}
use Rattle.laws_leaps.proofs.Quiet.Prepared.{Begun, prepares_nothing}
use Rattle.laws_leaps.proofs.Quiet.Charges.{prepared_machine, sent_last}
use Rattle.laws_leaps.proofs.Leaps.Bridge.{bridge, going_at, plain_of, ready_alive, ready_first}

module _ {P : Type 0} (bodies : Bodies P) where
  pub leap_runs_behind : (k : ℕ) (to : Option ℕ) → AddsBehind (leap_runs bodies k to)
  leap_runs_behind k None told s = refl
  leap_runs_behind k (Some t) told s =
      let taken = in_unit bodies (thread_at s.machine t) in
      let was_high = has_high (thread_at s.machine t).server in
      let charged = becomes (later_by k) (changes t (λ th. after_ticks k taken.thread) s) in
      let done = unit_leapt bodies k s.machine t taken s in
      ap (λ (x : Turn P). sweeps bodies (tick_ends was_high t (settles_since s.machine x))) (completes_behind bodies (top_left (thread_at charged.machine t).frames) t taken.unit told charged)
      ∙ ap (sweeps bodies) (tick_ends_behind was_high t told done)
      ∙ sweeps_behind bodies told (tick_ends was_high t done)

  -- ---- a leap of one tick

  high_once : (o : Option ServerState) → StaysHigh 1 o
  high_once None = tt
  high_once (Some s) = λ e i small. (let none : i ≡ 0 = omega arith in subst (λ (n : ℕ). is_high (charge_ticks n s) ≡ true) (sym none) e)

  one_leap : (to : Option ℕ) (s : Turn P) → runs bodies to s ≡ leap_runs bodies 1 to s
  one_leap None s = refl
  one_leap (Some t) s =
      let taken = in_unit bodies (thread_at s.machine t) in
      ap (λ (th : Thread P). sweeps bodies (tick_ends (has_high (thread_at s.machine t).server) t (settles_since s.machine (completes bodies t taken.unit (becomes later (changes t (λ x. th) s))))))
      (charged_is 1 taken.thread (high_once taken.thread.server))

  -- ---- the last tick of more, by the head

  last_by : (to : Option ℕ) (j : ℕ) (m : Machine P) → m.killed ≡ None → head m ≡ to → Handled bodies m → Calm bodies (suc j) m → tick_of bodies (charges bodies (suc j) m) ≡ ran (leap_runs bodies (suc (suc j)) to (turn_of (prepares to (turn_of m)).machine))
  last_by None j m alive first h c =
      let r = (prepares None (turn_of m)).machine in
      let x : Machine P = record r { now = r.now + suc j; last = last.Idle } in
      let g = going_at bodies None m alive first j in
      let is_x = idle_once bodies j r (ready_alive bodies None m alive first) (ready_first bodies None m alive first) in
      let more : r.now + suc j + 1 ≡ r.now + suc (suc j) = omega arith in
      let sent' = sent_last bodies None (turn_of m) in
      ap (tick_of bodies) (bridge bodies None m alive first j ∙ is_x)
      ∙ tick_handled bodies x (subst (Handled bodies) (bridge bodies None m alive first j ∙ is_x) (charges_handled bodies (suc j) m h c))
      ∙ ap (λ (o : Option ℕ). ran (unless_killed o (runs_head bodies) (turn_of x))) (ready_alive bodies None m alive first)
      ∙ ap (λ (o : Option ℕ). ran (runs bodies o (prepares o (turn_of x)))) (ready_first bodies None m alive first)
      ∙ ap (λ (s : Turn P). ran (runs bodies None s)) (prepares_nothing None x (subst (Begun None) is_x g.begun))
      ∙ ap (λ (n : ℕ). ran (turn_of (record r { now = n; last = last.Idle }))) more
      ∙ ap (λ (l : LastDispatch). ran (turn_of (record r { now = r.now + suc (suc j); last = l }))) (sym sent')
  last_by (Some t) j m alive first h c =
      let r = (prepares (Some t) (turn_of m)).machine in
      let can = head_can_run m t h.listed first in
      let so = (steady bodies (Some t) m h first).so in
      let g = going_at bodies (Some t) m alive first j in
      let same = bridge bodies (Some t) m alive first j in
      let begins : Begins bodies t r = record { alive = ready_alive bodies (Some t) m alive first; first = ready_first bodies (Some t) m alive first; here = running_within r.threads t (alike_runs m r t so.alike can) } in
      ap (tick_of bodies) same
      ∙ last_is_leap bodies t r begins j (plain_of bodies (Some t) m alive first h (suc j) c) (subst (Handled bodies) same (charges_handled bodies (suc j) m h c)) g.begun
      ∙ ap (λ (l : LastDispatch). ran (leap_runs bodies (suc (suc j)) (Some t) (turn_of (record r { last = l })))) (sym (sent_last bodies (Some t) (turn_of m)))

  -- ---- the law

  begun_is : (to : Option ℕ) (s : Turn P) → s.direct ≡ [] → prepares to s ≡ behind (prepares to s).events (turn_of (prepares to (turn_of s.machine)).machine)
  begun_is to s none =
      let d = prepares to s in
      ap (λ (m : Machine P). record { machine = m; direct = d.direct; events = d.events }) (prepared_machine bodies to s none)
      ∙ ap (λ (ns : List ℕ). record { machine = (prepares to (turn_of s.machine)).machine; direct = ns; events = d.events }) ((prepares_unended to s).direct ∙ none)
      ∙ ap (λ (es : List Entry). record { machine = (prepares to (turn_of s.machine)).machine; direct = []; events = es }) (sym (nothing_more d.events))

  -- what a leap tells after what precedes the tick of the head
  leap_told : (k : ℕ) (to : Option ℕ) (s : Turn P) → s.direct ≡ [] →
      let l = ran (leap_runs bodies k to (turn_of (prepares to (turn_of s.machine)).machine)) in
      ran (leap_runs bodies k to (prepares to s)) ≡ record { machine = l.machine; events = (prepares to s).events ++ l.events }
  leap_told k to s none =
      ap (λ (x : Turn P). ran (leap_runs bodies k to x)) (begun_is to s none)
      ∙ ap ran (leap_runs_behind k to (prepares to s).events (turn_of (prepares to (turn_of s.machine)).machine))

  leap_alive : (k : ℕ) (s : Turn P) → s.machine.killed ≡ None → leap_goes_on bodies k s ≡ leap_runs bodies k (head s.machine) (prepares (head s.machine) s)
  leap_alive k s alive = ap (λ (o : Option ℕ). unless_killed o (leap_head bodies k) s) alive

  pub leap_is_ticks : (j : ℕ) (m : Machine P) → let s = instant bodies (turn_of m) in s.direct ≡ [] → Handled bodies s.machine → s.machine.killed ≡ None → Calm bodies j s.machine →
      ran (leap bodies (suc j) (turn_of m)) ≡ ticks bodies (suc j) m
  leap_is_ticks zero m none h alive c =
      let s = instant bodies (turn_of m) in
      ap ran (leap_alive 1 s alive)
      ∙ ap ran (sym (one_leap (head s.machine) (prepares (head s.machine) s)))
      ∙ sym (ap (λ (o : Option ℕ). ran (unless_killed o (runs_head bodies) s)) alive)
  leap_is_ticks (suc j) m none h alive c =
      let s = instant bodies (turn_of m) in
      let to = head s.machine in
      ap ran (leap_alive (suc (suc j)) s alive)
      ∙ leap_told (suc (suc j)) to s none
      ∙ sym (calm_then_tick bodies j m none h c
      ∙ ap (λ (r : Ran P). record { machine = r.machine; events = told_with_dispatch s.machine.killed s ++ r.events }) (last_by to j s.machine alive refl h c)
      ∙ ap (λ (o : Option ℕ). (let l = ran (leap_runs bodies (suc (suc j)) to (turn_of (prepares to (turn_of s.machine)).machine)) in record { machine = l.machine; events = told_with_dispatch o s ++ l.events })) alive)
