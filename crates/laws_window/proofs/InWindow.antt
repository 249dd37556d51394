-- The window of a strict thread, over the ticks of a run.
use Rattle.std.proofs.Common.{Bool, None, Option, Some, [], ap, arith, false, refl, suc, sym, true, zero, ℕ, ◌+◌, ◌-◌, ◌<◌, ◌≤◌, ◌≡◌}
use Rattle.std.specs.Prelude.{is_some, nat_lt, ◌==◌, ◌&&◌, if◌then◌else◌}
use mathlib.Core.Path.{subst, ◌∙◌}
use Rattle.words_numbers.specs.Parameters.{Parameters}
use Rattle.words_script.specs.declared.decl.Script.{Script}
use Rattle.words_script.specs.declared.policy.Policy.{Policy}
use Rattle.words_script.specs.declared.policy.Policy.TheVariants as policy
use Rattle.rules_bodies.specs.declared.unit.Unit.{Unit}
use Rattle.rules_server.specs.declared.ServerKind.TheVariants as kind
use Rattle.rules_server.specs.Server.{ServerState}
use Rattle.rules_machine.specs.Bodies.{Bodies}
use Rattle.rules_machine.specs.State.{Machine, Status, Thread, blocked, dormant, ended, runnable}
use Rattle.rules_machine.specs.Threads.{can_run, is_dormant, is_live, is_runnable, lives, thread_at, top_left}
use Rattle.rules_machine.specs.Turns.{Turn, settles_since, turn_of}
use Rattle.rules_machine.specs.Servers.{has_high}
use Rattle.rules_machine.specs.Calls.{unit_effect}
use Rattle.rules_machine.specs.DueItems.{due_items, first_item, instant, item_bound, item_then, items_done, next_item}
use Rattle.rules_machine.specs.Dispatch.{head}
use Rattle.rules_machine.specs.Units.{in_unit}
use Rattle.rules_machine.specs.Budget.{renews}
use Rattle.rules_machine.specs.Ticks.{completes_at, ends_tick, prepares, runs, runs_head, tick_charged, tick_end, unless_killed}
use Rattle.rules_machine.specs.Runs.{Ran, opening, tick_begun, tick_of, tick_prepared, tick_run, ticks}
use Rattle.rules_machine.specs.GoodState.{HasParameters, has_server_policy}
use Rattle.rules_machine.specs.WellFormed.{IsWellFormed}
use Rattle.rules_machine.proofs.Counting.{tick_now}
use Rattle.rules_machine.proofs.Parts.{finished_in_parts, prepares_unended, tick_in_parts}
use Rattle.rules_machine.proofs.Reading.{thread-other}
use Rattle.rules_moves.specs.UnitRanges.{BodiesFit, UnitFits}
use Rattle.rules_moves.proofs.Runs.Listed.{AllRun, head_can_run}
use Rattle.rules_moves.proofs.Runs.Units.{in_unit_fits}
use Rattle.rules_moves.proofs.Runs.Preparing.{Alike, IsReady, alike_runs, prepared, prepares_keep}
use Rattle.rules_moves.proofs.Runs.Ticks.{Rests, charged_runs, charged_turn, completes_keep, instant_keep, run_keep}
use Rattle.laws_machine.proofs.Parts.Kept.{PartsRight, ends_keep}
use Rattle.laws_machine.proofs.Parts.Opening.{opening_listed}
use Rattle.laws_machine.proofs.Servers.OfThreads.{ThreadIn}
use Rattle.laws_machine.proofs.Servers.Kept.{opening_served}
use Rattle.laws_machine.proofs.Servers.Ticks.{ServedDone, ServedMid, ServedRight, served_tick}
use Rattle.laws_machine.proofs.Budgets.Units.{renewing_unit}
use Rattle.laws_strict_server.specs.Instants.{one_if}
use Rattle.laws_strict_server.proofs.Sums.{early, early_le_total}
use Rattle.laws_window.specs.Window.{KeepsWindows, high_count, is_high_of, is_high_tick, is_renewed, renewed_by, ticks_next}
use Rattle.laws_window.proofs.Room.{At, Room}
use Rattle.laws_window.proofs.OneTick.{Under, Waiting_for, charged_at, dead_setsched, ended_at, one_used, plain_unit, settles, swept, waiting_prepared, waiting_round}

contra : {b : Bool} → b ≡ true → b ≡ false → ⊥
contra a b = grind arith

only : {X : Type 0} {a b : X} → Some a ≡ Some b → a ≡ b
only {X} {a} {b} e = ap out e
  where
    out : Option X → X
    out None = a
    out (Some x) = x

some_none : {X : Type 0} {a : X} → Some a ≡ None → ⊥
some_none e = absurd (grind arith)

-- ---- a run that is over

module _ {P : Type 0} (bodies : Bodies P) where
  next_dead : (m : Machine P) (signal : ℕ) → m.killed ≡ Some signal → next_item m ≡ None
  next_dead m signal e = ap (λ (k : Option ℕ). first_item k (due_items m)) e

  items_dead : (most : ℕ) (s : Turn P) (signal : ℕ) → s.machine.killed ≡ Some signal → items_done bodies most s ≡ s
  items_dead zero s signal e = refl
  items_dead (suc most) s signal e = ap (λ o. item_then bodies o (items_done bodies most) s) (next_dead s.machine signal e)

  instant_dead : (m : Machine P) (signal : ℕ) → m.killed ≡ Some signal → instant bodies (turn_of m) ≡ turn_of m
  instant_dead m signal e = items_dead (item_bound m) (turn_of m) signal e

  -- the machine stays as it is, from the kill by an item on
  tick_dead : (m : Machine P) (signal : ℕ) → (instant bodies (turn_of m)).machine.killed ≡ Some signal → (tick_of bodies m).machine ≡ (instant bodies (turn_of m)).machine
  tick_dead m signal e = let ready = instant bodies (turn_of m) in ap (λ (k : Option ℕ). (unless_killed k (runs_head bodies) ready).machine) e

  stays_dead : (m : Machine P) (signal : ℕ) → m.killed ≡ Some signal → (tick_of bodies m).machine ≡ m
  stays_dead m signal e =
      let same : (instant bodies (turn_of m)).machine ≡ m = ap (λ (s : Turn P). s.machine) (instant_dead m signal e) in
      tick_dead m signal (ap (λ (x : Machine P). x.killed) same ∙ e) ∙ same

  none_dead : (m : Machine P) (signal : ℕ) → (instant bodies (turn_of m)).machine.killed ≡ Some signal → ticks_next bodies m ≡ None
  none_dead m signal e = let ready = (instant bodies (turn_of m)).machine in ap (λ (k : Option ℕ). if is_some k then None else head ready) e

  low_dead : (t : ℕ) (m : Machine P) (signal : ℕ) → m.killed ≡ Some signal → is_high_tick bodies t m ≡ false
  low_dead t m signal e =
      let same : (instant bodies (turn_of m)).machine ≡ m = ap (λ (s : Turn P). s.machine) (instant_dead m signal e) in
      ap (λ (o : Option ℕ). is_high_of bodies o t (tick_prepared bodies (tick_begun bodies m).machine).machine) (none_dead m signal (ap (λ (x : Machine P). x.killed) same ∙ e))

  -- ---- one tick

  module _ (known : BodiesFit bodies) (p : Parameters) (d t : ℕ) where
    module _ (now K : ℕ) (before : now < d) (coming : d ≤ now + p.period) where
      -- the unit of the head, where it is not a setsched of the thread while that lives
      unit_at : (h u : ℕ) (s : Turn P) (what : Unit) (left : ℕ) → UnitFits what → can_run s.machine u ≡ true → (renews t what && lives s.machine t) ≡ false → PartsRight (completes_at bodies left u what s).machine → Under bodies known p d t h K (now + 1) u s →
          Under bodies known p d t h K (now + 1) u (completes_at bodies left u what s)
      unit_at h u s what (suc left) fits can plain parts q = q
      unit_at h u s what zero fits can plain parts q = by_renewing (renews t what) refl
        where
          by_renewing : (b : Bool) → renews t what ≡ b → Under bodies known p d t h K (now + 1) u (unit_effect bodies u what s)
          by_renewing false e = plain_unit bodies known p d t h K (now + 1) u what s fits can e q
          by_renewing true e =
              let it = renewing_unit t what e in
              let dead : lives s.machine t ≡ false = sym (ap (λ (b : Bool). b && lives s.machine t) e) ∙ plain in
              (parts, subst (λ (w : Unit). At p d h K t (now + 1) (unit_effect bodies u w s)) (sym it.1) (dead_setsched bodies known p d t h K (now + 1) u it.0 s dead q.1))

      -- who lives goes on to live in a charge
      charged_lives : (u : ℕ) (s : Turn P) → can_run s.machine u ≡ true → lives s.machine t ≡ false → lives (charged_turn bodies u s).machine t ≡ false
      charged_lives u s can dead = by_eq (u == t) refl
        where
          runs_live : (status : Status) → is_runnable status ≡ true → is_live status ≡ true
          runs_live (dormant at) e = absurd (grind arith)
          runs_live runnable e = refl
          runs_live (blocked w) e = refl
          runs_live ended e = absurd (grind arith)

          by_eq : (b : Bool) → (u == t) ≡ b → lives (charged_turn bodies u s).machine t ≡ false
          by_eq true e = let it : u ≡ t = grind arith in absurd (contra (runs_live (thread_at s.machine t).status (subst (λ (i : ℕ). can_run s.machine i ≡ true) it can)) dead)
          by_eq false e = ap (λ (th : Thread P). is_live th.status) (thread-other s.machine u t (λ th. tick_charged (in_unit bodies (thread_at s.machine u)).thread) e) ∙ dead

      not_both : (b : Bool) (u : ℕ) (s : Turn P) → can_run s.machine u ≡ true → (b && lives s.machine t) ≡ false → (b && lives (charged_turn bodies u s).machine t) ≡ false
      not_both false u s can e = refl
      not_both true u s can e = charged_lives u s can e

      runs_at : (u : ℕ) (s : Turn P) → IsReady (Some u) s.machine → can_run s.machine u ≡ true → Waiting_for bodies known p d t now K before s → renewed_by bodies (Some u) t s.machine ≡ false →
          At p d (one_if (is_high_of bodies (Some u) t s.machine)) K t (now + 1) (runs bodies (Some u) s)
      runs_at u s ready can q plain =
          let h = one_if (is_high_of bodies (Some u) t s.machine) in
          let charged = charged_turn bodies u s in
          let was_high = has_high (thread_at s.machine u).server in
          let taken = in_unit bodies (thread_at s.machine u) in
          let left = top_left (thread_at charged.machine u).frames in
          let completed = completes_at bodies left u taken.unit charged in
          let ticked = settles_since s.machine completed in
          let served = served_tick bodies in
          let mid = served.charges u s ready can q.0 in
          let done : ServedDone bodies was_high u completed = completes_keep bodies known (ServedRight bodies) (ServedMid bodies) (ServedDone bodies) (served_tick bodies) was_high left u taken.unit charged (in_unit_fits bodies known (thread_at s.machine u)) (charged_runs bodies u s can) mid in
          let begun : Under bodies known p d t h K (now + 1) u charged = (mid.0, charged_at bodies known p d t now K u s coming ready can q.1) in
          let after : Under bodies known p d t h K (now + 1) u completed = unit_at h u charged taken.unit left (in_unit_fits bodies known (thread_at s.machine u)) (charged_runs bodies u s can) (not_both (renews t taken.unit) u s can plain) done.0 begun in
          let settled' : Under bodies known p d t h K (now + 1) u ticked = settles bodies known p d t h K (now + 1) u s.machine completed after in
          let e = tick_end was_high ticked.machine.quantum (thread_at ticked.machine u) in
          let ended' : Under bodies known p d t h K (now + 1) u (ends_tick e u ticked) = (ends_keep bodies None e u ticked settled'.0, ended_at bodies known p d t h K (now + 1) u was_high ticked.machine.quantum ticked settled'.1) in
          (swept bodies known p d t h K (now + 1) u (settles_since ticked.machine (ends_tick e u ticked)) (settles bodies known p d t h K (now + 1) u ticked.machine (ends_tick e u ticked) ended')).1

      -- from the machine that the items leave
      module _ (ready : Machine P) (listed : AllRun ready ready.lists) (q : Waiting_for bodies known p d t now K before (turn_of ready)) where
        abbrev Used : Option ℕ → Machine P → Turn P → Type 0
        Used o first s = (one_if (is_high_of bodies o t first) ≤ K) × (renewed_by bodies o t first ≡ false → s.machine.killed ≡ None → At p d (one_if (is_high_of bodies o t first)) K t (now + 1) s)

        headed : (o : Option ℕ) → head ready ≡ o → Used o (prepares o (turn_of ready)).machine (runs bodies o (turn_of (prepares o (turn_of ready)).machine))
        headed o e = by_head o e (prepares_keep (Waiting_for bodies known p d t now K before) (waiting_prepared bodies known p d t now K before) o (turn_of ready) (λ u f. head_can_run ready u listed (e ∙ f)) q)
          where
            Kept : Option ℕ → Type 0
            Kept o = Waiting_for bodies known p d t now K before (prepares o (turn_of ready))

            by_head : (o : Option ℕ) → head ready ≡ o → Waiting_for bodies known p d t now K before (prepares o (turn_of ready)) × Alike ready (prepares o (turn_of ready)).machine × ((prepares o (turn_of ready)).direct ≡ []) →
                Used o (prepares o (turn_of ready)).machine (runs bodies o (turn_of (prepares o (turn_of ready)).machine))
            by_head None e k = (omega arith, λ plain alive. record { now_is = ap (λ (n : ℕ). n + 1) k.0.1.now_is; here = k.0.1.here })
            by_head (Some u) e k =
                let first = turn_of (prepares (Some u) (turn_of ready)).machine in
                let can : can_run first.machine u ≡ true = alike_runs ready first.machine u k.1 (head_can_run ready u listed e) in
                let w : Waiting_for bodies known p d t now K before first = (k.0.0, record { now_is = k.0.1.now_is; here = k.0.1.here }) in
                (one_used bodies known p d t now K u first w.1, λ plain alive. runs_at u first (prepared (Some u) (turn_of ready)) can w plain)

        finished : (k : Option ℕ) → ready.killed ≡ k → let first = unless_killed k (prepares (head ready)) (turn_of ready) in
            Used (if is_some k then None else head ready) first.machine (unless_killed first.machine.killed (runs bodies (head ready)) (turn_of first.machine))
        finished None e =
            let first = prepares (head ready) (turn_of ready) in
            let alive : first.machine.killed ≡ None = (prepares_unended (head ready) (turn_of ready)).killed ∙ e in
            subst (λ (k : Option ℕ). Used (head ready) first.machine (unless_killed k (runs bodies (head ready)) (turn_of first.machine))) (sym alive) (headed (head ready) refl)
        finished (Some signal) e =
            (omega arith, λ plain alive. absurd (some_none (sym e ∙ sym (ap (λ (k : Option ℕ). (unless_killed k (runs bodies (head ready)) (turn_of ready)).machine.killed) e) ∙ alive)))

    -- a whole tick
    abbrev Tick : ℕ → ℕ → Machine P → Type 0
    Tick now K m = (one_if (is_high_tick bodies t m) ≤ K) × (is_renewed bodies t m ≡ false → (tick_of bodies m).machine.killed ≡ None → At p d (one_if (is_high_tick bodies t m)) K t (now + 1) (turn_of (tick_of bodies m).machine))

    tick_uses : (now K : ℕ) (m : Machine P) → now < d → d ≤ now + p.period → ServedRight bodies (turn_of m) → AllRun m m.lists → At p d 0 K t now (turn_of m) → Tick now K m
    tick_uses now K m before coming right listed q =
        let ready = instant bodies (turn_of m) in
        let rests : Rests bodies (Waiting_for bodies known p d t now K before) ready = instant_keep bodies (Waiting_for bodies known p d t now K before) (waiting_round bodies known p d t now K before) (turn_of m) ((right, q), listed) in
        let w : Waiting_for bodies known p d t now K before (turn_of ready.machine) = (rests.0.0, record { now_is = rests.0.1.now_is; here = rests.0.1.here }) in
        let done = finished now K before coming ready.machine rests.1 w ready.machine.killed refl in
        let same : (tick_of bodies m).machine ≡ (tick_run bodies (head ready.machine) (tick_prepared bodies ready.machine).machine).machine =
        ap (λ (x : Ran P). x.machine) (tick_in_parts bodies m) ∙ ap (λ (x : Ran P). x.machine) (finished_in_parts bodies ready.machine) in (
          done.0,
          λ plain alive. subst (λ (x : Machine P). At p d (one_if (is_high_tick bodies t m)) K t (now + 1) (turn_of x)) (sym same)
              (let k = done.1 plain (sym (ap (λ (x : Machine P). x.killed) same) ∙ alive) in record { now_is = k.now_is; here = k.here }),
        )

  -- ---- a window

  -- its instant is the number of ticks, until the process ends
  now_of : (n : ℕ) (start : Machine P) → start.now ≡ 0 → (ticks bodies n start).machine.killed ≡ None → (ticks bodies n start).machine.now ≡ n
  now_of zero start e alive = e
  now_of (suc n) start e alive = by_instant (instant bodies (turn_of m)).machine.killed refl (now_of n start e)
    where
      m : Machine P
      m = (ticks bodies n start).machine

      by_instant : (k : Option ℕ) → (instant bodies (turn_of m)).machine.killed ≡ k → (m.killed ≡ None → m.now ≡ n) → (tick_of bodies m).machine.now ≡ suc n
      by_instant (Some signal) k so = absurd (some_none (sym (ap (λ (x : Machine P). x.killed) (tick_dead m signal k) ∙ k) ∙ alive))
      by_instant None k so = by_killed m.killed refl
        where
          by_killed : (o : Option ℕ) → m.killed ≡ o → (tick_of bodies m).machine.now ≡ suc n
          by_killed None o = let here = tick_now bodies (turn_of m) k in let now' = so o in omega arith
          by_killed (Some signal) o = absurd (some_none (sym (ap (λ (x : Machine P). x.killed) (stays_dead m signal o) ∙ o) ∙ alive))

  dead_count : (t : ℕ) (start : Machine P) (signal len n : ℕ) → (ticks bodies n start).machine.killed ≡ Some signal → high_count bodies t start n len ≡ 0
  dead_count t start signal zero n e = refl
  dead_count t start signal (suc len) n e =
      let m = (ticks bodies n start).machine in
      let next : (ticks bodies (suc n) start).machine.killed ≡ Some signal = ap (λ (x : Machine P). x.killed) (stays_dead m signal e) ∙ e in
      let one : suc n ≡ n + 1 = omega arith in
      let rest = dead_count t start signal len (n + 1) (subst (λ (i : ℕ). (ticks bodies i start).machine.killed ≡ Some signal) one next) in
      let low = ap one_if (low_dead t m signal e) in omega arith

  few_count : (t : ℕ) (start : Machine P) (len n : ℕ) → high_count bodies t start n len ≤ len
  few_count t start zero n = omega arith
  few_count t start (suc len) n =
      let rest = few_count t start len (n + 1) in
      let one = one_at_most (is_high_tick bodies t (ticks bodies n start).machine) in omega arith
    where
      one_at_most : (b : Bool) → one_if b ≤ 1
      one_at_most true = omega arith
      one_at_most false = omega arith

  module _ (known : BodiesFit bodies) (start : Machine P) (zero_now : start.now ≡ 0) (stands : (n : ℕ) → ServedRight bodies (turn_of (ticks bodies n start).machine) × AllRun (ticks bodies n start).machine (ticks bodies n start).machine.lists) (p : Parameters) (d t w : ℕ) (coming : d ≤ w + p.period)
      (stays : (n : ℕ) → w ≤ n → n + 1 < w + p.period → is_renewed bodies t (ticks bodies n start).machine ≡ false) where
    abbrev machine_at : ℕ → Machine P
    machine_at n = (ticks bodies n start).machine

    -- the tick used h of K
    used_up : (h K n : ℕ) (m : Machine P) → At p d h K t n (turn_of m) → At p d 0 (K - h) t n (turn_of m)
    used_up h K n m q = record {
      now_is = q.now_is;
      here = record {
        room = λ x e. let r = q.here.room x e in record { strict = r.strict; period = r.period; spent = (let s = r.spent in omega arith); late = r.late };
        asleep = λ e. let a = q.here.asleep e in (a.0, (let f = a.1 in omega arith));
      };
    }

    counted : (len n K : ℕ) → w ≤ n → n + len ≡ w + p.period → (0 < len → (machine_at n).killed ≡ None → At p d 0 K t n (turn_of (machine_at n))) → high_count bodies t start n len ≤ K + (n + len - d)
    counted zero n K le end at = omega arith
    counted (suc len) n K le end at = by_killed (machine_at n).killed refl (counted len (n + 1))
      where
        m : Machine P
        m = (ticks bodies n start).machine

        h : ℕ
        h = one_if (is_high_tick bodies t (ticks bodies n start).machine)

        by_killed : (k : Option ℕ) → (ticks bodies n start).machine.killed ≡ k →
            ((K' : ℕ) → w ≤ n + 1 → n + 1 + len ≡ w + p.period → (0 < len → (machine_at (n + 1)).killed ≡ None → At p d 0 K' t (n + 1) (turn_of (machine_at (n + 1)))) → high_count bodies t start (n + 1) len ≤ K' + (n + 1 + len - d)) →
            high_count bodies t start n (suc len) ≤ K + (n + suc len - d)
        by_killed (Some signal) k rest = let none = dead_count t start signal (suc len) n k in omega arith
        by_killed None k rest = by_time (nat_lt n d) refl
          where
            by_time : (b : Bool) → nat_lt n d ≡ b → high_count bodies t start n (suc len) ≤ K + (n + suc len - d)
            by_time false b = let ge : d ≤ n = grind arith in let few = few_count t start (suc len) n in omega arith
            by_time true b =
                let lt : n < d = grind arith in
                let s = stands n in
                let tick = tick_uses known p d t n K (ticks bodies n start).machine lt (omega arith) s.0 s.1 (at (omega arith) k) in
                let fits = tick.0 in
                let one : suc n ≡ n + 1 = omega arith in
                let later = rest (K - one_if (is_high_tick bodies t (ticks bodies n start).machine)) (omega arith) (omega arith)
                (λ some alive. subst (λ (i : ℕ). At p d 0 (K - one_if (is_high_tick bodies t (ticks bodies n start).machine)) t (n + 1) (turn_of (machine_at i))) one
                (used_up (one_if (is_high_tick bodies t (ticks bodies n start).machine)) K (n + 1) (machine_at (suc n)) (tick.1 (stays n le (omega arith)) (subst (λ (i : ℕ). (machine_at i).killed ≡ None) (sym one) alive)))) in
                omega arith

  -- ---- every window

  module _ (known : BodiesFit bodies) (start : Machine P) (zero_now : start.now ≡ 0) (stands : (n : ℕ) → ServedRight bodies (turn_of (ticks bodies n start).machine) × AllRun (ticks bodies n start).machine (ticks bodies n start).machine.lists) where
    window : (w t : ℕ) (p : Parameters) → (thread_at (ticks bodies w start).machine t).policy ≡ policy.Strict p →
        ((n : ℕ) → w ≤ n → n + 1 < w + p.period → is_renewed bodies t (ticks bodies n start).machine ≡ false) → high_count bodies t start w p.period ≤ p.budget
    window w t p is stays = by_killed (ticks bodies w start).machine.killed refl
      where
        m : Machine P
        m = (ticks bodies w start).machine

        right : ThreadIn false (ticks bodies w start).machine.now (thread_at (ticks bodies w start).machine t).status (thread_at (ticks bodies w start).machine t).policy (thread_at (ticks bodies w start).machine t).server
        right = (stands w).0.1 t

        awake : (x : ServerState) → (thread_at (ticks bodies w start).machine t).server ≡ Some x → is_dormant (thread_at (ticks bodies w start).machine t).status ≡ false
        awake x e = by_status (thread_at (ticks bodies w start).machine t).status (live_of (is_live (thread_at (ticks bodies w start).machine t).status) (has_server_policy (thread_at (ticks bodies w start).machine t).policy) (sym right.having ∙ ap is_some e))
          where
            live_of : (a b : Bool) → (a && b) ≡ true → a ≡ true
            live_of a b e = grind arith

            by_status : (status : Status) → is_live status ≡ true → is_dormant status ≡ false
            by_status (dormant at) e = absurd (grind arith)
            by_status runnable e = refl
            by_status (blocked v) e = refl
            by_status ended e = refl

        by_server : (o : Option ServerState) → (thread_at (ticks bodies w start).machine t).server ≡ o → (ticks bodies w start).machine.now ≡ w → high_count bodies t start w p.period ≤ p.budget
        by_server None e now_is =
            let at : At p (w + p.period) 0 p.budget t w (turn_of (ticks bodies w start).machine) = record {
              now_is = now_is;
              here = record { room = λ x k. absurd (some_none (sym k ∙ e)); asleep = λ k. (is, omega arith) };
            } in
            let k = counted known start zero_now stands p (w + p.period) t w (omega arith) stays p.period w p.budget (omega arith) refl (λ some alive. at) in omega arith
        by_server (Some s) e now_is =
            let x = right.each s e in
            let has : (s.params ≡ p) × (s.kind ≡ kind.Strict) = subst (λ (o : Option ServerState). HasParameters (policy.Strict p) o) e (subst (λ (r : Policy). HasParameters r (thread_at (ticks bodies w start).machine t).server) is right.parameters) in
            let period : s.params.period ≡ p.period = ap (λ (q : Parameters). q.period) has.0 in
            let budget : s.params.budget ≡ p.budget = ap (λ (q : Parameters). q.budget) has.0 in
            let sum = x.sound.budget in
            let fits = (x.sound.serves has.1).1 in
            let d : ℕ = w + p.period - s.consumed in
            let K : ℕ = s.capacity + early (w + p.period - s.consumed) s.pending in
            let all = early_le_total (w + p.period - s.consumed) s.pending in
            let at : At p (w + p.period - s.consumed) 0 (s.capacity + early (w + p.period - s.consumed) s.pending) t w (turn_of (ticks bodies w start).machine) = record {
              now_is = now_is;
              here = record {
                room = λ y k. subst (Room p (w + p.period - s.consumed) 0 (s.capacity + early (w + p.period - s.consumed) s.pending)) (only (sym e ∙ k)) (record {
                  strict = has.1;
                  period = period;
                  spent = omega arith;
                  late = λ some. let run = (x.consumed some).unbroken has.1 in omega arith;
                });
                asleep = λ k. absurd (contra k (awake s e));
              };
            } in
            let k = counted known start zero_now stands p (w + p.period - s.consumed) t w (omega arith) stays p.period w (s.capacity + early (w + p.period - s.consumed) s.pending) (omega arith) refl (λ some alive. at) in
            omega arith

        by_killed : (k : Option ℕ) → (ticks bodies w start).machine.killed ≡ k → high_count bodies t start w p.period ≤ p.budget
        by_killed (Some signal) k = let none = dead_count t start signal p.period w k in omega arith
        by_killed None k = by_server (thread_at (ticks bodies w start).machine t).server refl (now_of w start zero_now k)

module _ {P : Type 0} (bodies : Bodies P) (known : BodiesFit bodies) (script : Script) (fits : IsWellFormed script) where
  pub stands_at : (n : ℕ) → ServedRight bodies (turn_of (ticks bodies n (opening script)).machine) × AllRun (ticks bodies n (opening script)).machine (ticks bodies n (opening script)).machine.lists
  stands_at n = run_keep bodies known (λ m. ServedRight bodies (turn_of m)) (ServedMid bodies) (ServedDone bodies) (served_tick bodies) n (opening script) (opening_served bodies script fits) (opening_listed P script)

  pub keeps_windows : KeepsWindows bodies (opening script)
  keeps_windows = record { each = window bodies known (opening script) refl stands_at }
