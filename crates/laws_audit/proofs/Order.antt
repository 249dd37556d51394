-- The times of a run's events do not fall, and none of them is the end. So it is in the run of every script.
use Rattle.std.proofs.Common.{Bool, List, None, Option, Some, [], ap, append_assoc, arith, false, refl, suc, sym, true, zero, ℕ, ◌+◌, ◌≤◌, ◌∷◌, ◌++◌, ◌≡◌}
use Rattle.std.specs.Prelude.{map, nat_le, ◌&&◌, ◌||◌}
use Rattle.std.specs.List.{list_all}
use mathlib.Core.Path.{subst, ◌∙◌}
use Rattle.words_script.specs.declared.decl.Script.{Script}
use Rattle.rules_bodies.specs.Next.{Place}
use Rattle.words_trace.specs.declared.event.Event.{Event}
use Rattle.words_trace.specs.declared.event.Event.TheVariants as event
use Rattle.words_trace.specs.Text.{Entry}
use Rattle.rules_server.specs.Server.{ServerState, activate, oldest_pending, plan, refill, replenishment}
use Rattle.rules_machine.specs.Bodies.{Bodies}
use Rattle.rules_machine.specs.State.{Machine}
use Rattle.rules_machine.specs.Threads.{can_run, thread_at}
use Rattle.rules_machine.specs.Turns.{Turn, changes, moves, moves_if, tells, turn_of}
use Rattle.rules_machine.specs.Servers.{activates_if, activates_server, amount_of, at_once, high_server, plans_server, refills_server, regains_high, with_server}
use Rattle.rules_machine.specs.Scheduling.{with_policy}
use Rattle.rules_machine.specs.Waking.{started, woken}
use Rattle.rules_machine.specs.Lives.{without_life}
use Rattle.rules_machine.specs.Dispatch.{dispatch_event, dispatches, is_same, tells_unless}
use Rattle.rules_machine.specs.Ticks.{TickEnd, ends_tick, exhausting, nothing, planning, slicing, tick_end, without_slice}
use Rattle.rules_machine.specs.Runs.{opening, ticks}
use Rattle.rules_machine.specs.Machine.{bodies_of, events, machine}
use Rattle.rules_machine.specs.WellFormed.{IsWellFormed}
use Rattle.rules_moves.specs.Moves.{MayAwake, Move, Stops, begins, blocks_plainly, does, lives_no_more, recasts, refills_one, renews_with, tells_of, wakes_with}
use Rattle.rules_moves.specs.UnitRanges.{BodiesFit}
use Rattle.rules_moves.proofs.Runs.Listed.{AllRun}
use Rattle.rules_moves.proofs.Runs.Units.{bodies_fit}
use Rattle.rules_moves.proofs.Runs.Ticks.{TickKeeps, run_keep, tick_keep}
use Rattle.laws_machine.proofs.Parts.Opening.{opening_listed}
use Rattle.laws_machine.proofs.Servers.Kept.{opening_served}
use Rattle.laws_machine.proofs.Servers.Ticks.{ServedDone, ServedMid, ServedRight, served_renew, served_stop, served_tick}
use Rattle.laws_audit.specs.Events.{is_end_event}
use Rattle.laws_audit.proofs.Standing.{any_both, has_end}
use Rattle.laws_audit.proofs.AccountFits.{quiet_plain}

-- each time is no earlier than all before
abbrev pub Climbs : List ℕ → List ℕ → Type 0
Climbs before [] = Unit {0}
Climbs before (n ∷ ns) = (list_all (λ (k : ℕ). nat_le k n) before ≡ true) × Climbs (before ++ n ∷ []) ns

abbrev pub times_of : List Entry → List ℕ
times_of es = map (λ (e : Entry). e.time) es

abbrev pub all_by : ℕ → List ℕ → Bool
all_by n ns = list_all (λ (k : ℕ). nat_le k n) ns

map_more : {X Y : Type 0} (f : X → Y) (xs ys : List X) → map f (xs ++ ys) ≡ map f xs ++ map f ys
map_more f [] ys = refl
map_more f (x ∷ xs) ys = ap (λ zs. f x ∷ zs) (map_more f xs ys)

none_more : {X : Type 0} (xs : List X) → xs ++ [] ≡ xs
none_more [] = refl
none_more (x ∷ xs) = ap (λ ys. x ∷ ys) (none_more xs)

both : (a b : Bool) → (a && b) ≡ true → (a ≡ true) × (b ≡ true)
both a b e = (grind arith, grind arith)

by_more : (n k : ℕ) (ns : List ℕ) → all_by n ns ≡ true → k ≤ n → all_by n (ns ++ k ∷ []) ≡ true
by_more n k [] e le = let low : nat_le k n ≡ true = grind arith in ap (λ (b : Bool). b && true) low
by_more n k (m ∷ ns) e le = let h = both (nat_le m n) (all_by n ns) e in ap (λ (b : Bool). b && all_by n (ns ++ k ∷ [])) h.0 ∙ by_more n k ns h.1 le

by_later : (n k : ℕ) (ns : List ℕ) → n ≤ k → all_by n ns ≡ true → all_by k ns ≡ true
by_later n k [] le e = refl
by_later n k (m ∷ ns) le e = let h = both (nat_le m n) (all_by n ns) e in let old = h.0 in let low : nat_le m k ≡ true = grind arith in ap (λ (b : Bool). b && all_by k ns) low ∙ by_later n k ns le h.1

pub climbs_more : (before ns : List ℕ) (n : ℕ) → Climbs before ns → all_by n (before ++ ns) ≡ true → Climbs before (ns ++ n ∷ [])
climbs_more before [] n up e = (subst (λ (ks : List ℕ). all_by n ks ≡ true) (none_more before) e, tt)
climbs_more before (m ∷ ns) n up e = (up.0, climbs_more (before ++ m ∷ []) ns n up.1 (subst (λ (ks : List ℕ). all_by n ks ≡ true) (sym (append_assoc before (m ∷ []) ns)) e))

-- at an instant, after these events
pub record InOrder (now : ℕ) (es : List Entry) : Type 0 where
  pub climbs : Climbs [] (times_of es)
  pub by : all_by now (times_of es) ≡ true
  pub unended : has_end es ≡ false

one_more : (now : ℕ) (es : List Entry) (e : Event) → is_end_event e ≡ false → InOrder now es → InOrder now (es ++ record { time = now; event = e } ∷ [])
one_more now es e plain h =
    let entry : Entry = record { time = now; event = e } in
    let more : times_of (es ++ entry ∷ []) ≡ times_of es ++ now ∷ [] = map_more (λ (x : Entry). x.time) es (entry ∷ []) in
    record {
      climbs = subst (Climbs []) (sym more) (climbs_more [] (times_of es) now h.climbs h.by);
      by = ap (all_by now) more ∙ by_more now now (times_of es) h.by (omega arith);
      unended = any_both (λ (x : Entry). is_end_event x.event) es (entry ∷ []) ∙ ap (λ (c : Bool). c || (is_end_event e || false)) h.unended ∙ ap (λ (c : Bool). c || false) plain;
    }

module _ {P : Type 0} (bodies : Bodies P) (before : List Entry) where
  abbrev pub Ordered : Turn P → Type 0
  Ordered s = InOrder s.machine.now (before ++ s.events)

  told : (e : Event) (s : Turn P) → is_end_event e ≡ false → Ordered s → Ordered (tells e s)
  told e s plain h = subst (InOrder s.machine.now) (append_assoc before s.events (record { time = s.machine.now; event = e } ∷ [])) (one_more s.machine.now (before ++ s.events) e plain h)

  activated : (t : ℕ) (o : Option ServerState) (s : Turn P) → Ordered s → Ordered (activates_server t o s)
  activated t None s h = h
  activated t (Some x) s h = told (event.Activate t x.capacity) (changes t (with_server (activate s.machine.now)) s) refl h

  activated_if : (b : Bool) (t : ℕ) (s : Turn P) → Ordered s → Ordered (activates_if b t s)
  activated_if true t s h = activated t (at_once (thread_at s.machine t).server) s h
  activated_if false t s h = h

  refilled : (t : ℕ) (o : Option ServerState) (s : Turn P) → Ordered s → Ordered (refills_server t o s)
  refilled t None s h = h
  refilled t (Some x) s h =
      activated_if (regains_high x && can_run s.machine t) t (tells (event.Refill t (amount_of (oldest_pending x)) (refill x).capacity) (changes t (with_server refill) s))
      (told (event.Refill t (amount_of (oldest_pending x)) (refill x).capacity) (changes t (with_server refill) s) refl h)

  ordered_keep : (who : Option ℕ) (move : Move P) (s : Turn P) → MayAwake who move s → Ordered s → Ordered (does bodies move s)
  ordered_keep who (tells_of e) s may h = told e s (quiet_plain e may) h
  ordered_keep who (renews_with active t new) s may h = absurd may
  ordered_keep who (wakes_with t e r v) s may h =
      let up = tells e (moves t (changes t (woken r v) s)) in
      activated t (at_once (high_server (thread_at up.machine t).server)) up (told e (moves t (changes t (woken r v) s)) (quiet_plain e may.1) h)
  ordered_keep who (blocks_plainly by wait due) s may h = absurd may
  ordered_keep who (begins t mask) s may h =
      let up = tells (event.Start t) (moves t (changes t (started bodies t mask s.machine.now) s)) in
      activated t (at_once (thread_at up.machine t).server) up (told (event.Start t) (moves t (changes t (started bodies t mask s.machine.now) s)) refl h)
  ordered_keep who (lives_no_more t) s may h = told (event.Exit t) (changes t without_life s) refl h
  ordered_keep who (recasts t f) s may h = absurd may
  ordered_keep who (refills_one t) s may h = refilled t (thread_at s.machine t).server s h
  ordered_keep who move s may h = h

  dispatched : (to : Option ℕ) (s : Turn P) → Ordered s → Ordered (dispatches to s)
  dispatched to s h = by_same (is_same s.machine.last to) to
    where
      by_same : (b : Bool) (o : Option ℕ) → InOrder (tells_unless b (dispatch_event s.machine o) s).machine.now (before ++ (tells_unless b (dispatch_event s.machine o) s).events)
      by_same true o = h
      by_same false None = told event.Idle s refl h
      by_same false (Some u) = told (dispatch_event s.machine (Some u)) s refl h

  later_order : (now : ℕ) (es : List Entry) → InOrder now es → InOrder (now + 1) es
  later_order now es h = record { climbs = h.climbs; by = by_later now (now + 1) (times_of es) (omega arith) h.by; unended = h.unended }

  moved : (b : Bool) (t : ℕ) (s : Turn P) → Ordered s → Ordered (moves_if b t s)
  moved true t s h = h
  moved false t s h = h

  planned : (t : ℕ) (o : Option ServerState) (s : Turn P) → Ordered s → Ordered (plans_server t o s)
  planned t None s h = h
  planned t (Some x) s h = told (event.Plan t (replenishment x).amount (replenishment x).due) (changes t (with_server plan) s) refl h

  ended : (e : TickEnd) (t : ℕ) (s : Turn P) → Ordered s → Ordered (ends_tick e t s)
  ended planning t s h = planned t (thread_at s.machine t).server s h
  ended exhausting t s h =
      moved _ t (plans_server t (thread_at s.machine t).server (tells (event.Exhaust t) s)) (planned t (thread_at s.machine t).server (tells (event.Exhaust t) s) (told (event.Exhaust t) s refl h))
  ended slicing t s h = moved (can_run s.machine t) t (changes t without_slice s) h
  ended nothing t s h = h

  order_stop : (tolled : Bool) (t : ℕ) → Stops (Some t) (λ s. ServedMid bodies tolled t s × Ordered s) (λ s. ServedDone bodies tolled t s × Ordered s)
  order_stop tolled t = let served = served_stop bodies tolled t in record {
    done = λ s q. (served.done s q.0, q.1);
    renewable = λ u. true;
    renewing = λ active u new s may live e known q.
        (served.renewing active u new s (served_renew bodies tolled t u) live e known q.0, activated_if active u (changes u (with_policy new s.machine.now) s) q.1);
    sleeps = λ by wait due s runs may q. (served.sleeps by wait due s runs may q.0, q.1);
    dozes = λ by wait due s runs may other q. (served.dozes by wait due s runs may other q.0, q.1);
    joins = λ by u s runs other free q. (served.joins by u s runs other free q.0, q.1);
  }

  order_renew : (tolled : Bool) (t u : ℕ) → (order_stop tolled t).renewable u ≡ true
  unfolding order_stop
  order_renew tolled t u = refl

  order_tick : TickKeeps bodies (λ s. ServedRight bodies s × Ordered s) (λ tolled t s. ServedMid bodies tolled t s × Ordered s) (λ tolled t s. ServedDone bodies tolled t s × Ordered s)
  order_tick = let served = served_tick bodies in record {
    moves = λ move s may q. (served.moves move s may q.0, ordered_keep None move s may q.1);
    joined = λ s q. served.joined s q.0;
    settles = λ earlier s q. (served.settles earlier s q.0, q.1);
    unit_moves = λ tolled t move s may q. (served.unit_moves tolled t move s may q.0, ordered_keep (Some t) move s may q.1);
    unit_joined = λ tolled t s q. served.unit_joined tolled t s q.0;
    unit_stops = order_stop;
    unit_renews = order_renew;
    unit_settles = λ tolled t earlier s q. (served.unit_settles tolled t earlier s q.0, q.1);
    prepares = record {
      closes = λ t s run q. (served.prepares.closes t s run q.0, planned t (thread_at s.machine t).server s q.1);
      sent = λ to s off q. (served.prepares.sent to s off q.0, dispatched to s q.1);
      opens = λ t x s runs is may q. (served.prepares.opens t x s runs is may q.0, activated t (Some x) s q.1);
    };
    charges = λ t s ready runs q. (served.charges t s ready runs q.0, later_order s.machine.now (before ++ s.events) q.1);
    idles = λ s ready q. (served.idles s ready q.0, later_order s.machine.now (before ++ s.events) q.1);
    ends = λ tolled t s q. (served.ends tolled t s q.0, ended (tick_end tolled s.machine.quantum (thread_at s.machine t)) t s q.1);
  }

module _ {P : Type 0} (bodies : Bodies P) (fits : BodiesFit bodies) where
  pub run_ordered : (n : ℕ) (start : Machine P) → ServedRight bodies (turn_of start) → AllRun start start.lists → InOrder start.now [] → InOrder (ticks bodies n start).machine.now (ticks bodies n start).events
  run_ordered zero start right listed h = h
  run_ordered (suc n) start right listed h =
      let es = (ticks bodies n start).events in
      let m = (ticks bodies n start).machine in
      let so = run_keep bodies fits (λ m. ServedRight bodies (turn_of m)) (ServedMid bodies) (ServedDone bodies) (served_tick bodies) n start right listed in
      let old = run_ordered n start right listed h in
      (tick_keep bodies fits (λ s. ServedRight bodies s × Ordered bodies es s) (λ tolled t s. ServedMid bodies tolled t s × Ordered bodies es s) (λ tolled t s. ServedDone bodies tolled t s × Ordered bodies es s) (order_tick bodies es)
      (turn_of m) ((so.0, subst (InOrder m.now) (sym (none_more es)) old), so.1)).0.1

-- in the run of every well formed script
pub events_in_order : (script : Script) → IsWellFormed script → (n : ℕ) → InOrder (machine script n).now (events script n)
events_in_order script fits n =
    run_ordered (bodies_of script) (bodies_fit script fits.priorities) n (opening script) (opening_served (bodies_of script) script fits) (opening_listed Place script) (record { climbs = tt; by = refl; unended = refl })
