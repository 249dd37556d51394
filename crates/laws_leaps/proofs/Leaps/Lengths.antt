-- A leap that goes as far as its length says is so many ticks, has no eventful instant inside, and ends at one unless it goes as far as
-- it may.
use Rattle.std.proofs.Common.{Bool, List, None, Option, Some, [], ap, arith, false, inl, inr, length, refl, suc, sym, true, zero, ℕ, ◌+◌, ◌<◌, ◌≤◌, ◌∷◌, ◌≡◌, ◌⊎◌}
use Rattle.std.specs.Prelude.{filter, is_some, map, max, min, nat_le, option_map, ◌-◌, ◌==◌, ◌&&◌, ◌||◌, if◌then◌else◌}
use mathlib.Core.Path.{subst, ◌∙◌}
use Rattle.words_script.specs.declared.policy.Policy.{Policy}
use Rattle.words_script.specs.declared.policy.Policy.TheVariants as policy
use Rattle.words_trace.specs.declared.event.Event.{Event}
use Rattle.rules_server.specs.Server.{ServerState, activate, charge_ticks, is_high, plan}
use Rattle.rules_machine.specs.Bodies.{Bodies}
use Rattle.rules_machine.specs.State.{Frame, Machine, Thread}
use Rattle.rules_machine.specs.Threads.{can_run, no_thread, thread_at, top_left}
use Rattle.rules_machine.specs.Turns.{Turn, changes, turn_of}
use Rattle.rules_machine.specs.Servers.{has_high, plans_server, with_server}
use Rattle.rules_machine.specs.Agenda.{Coming, agenda, due_by, items_due}
use Rattle.rules_machine.specs.DueItems.{first_item, instant, next_item}
use Rattle.rules_machine.specs.Dispatch.{dispatch_event, dispatch_of, head, is_same, tells_unless}
use Rattle.rules_machine.specs.Ticks.{capacity_in, prepares, slice_is_used, unless_killed}
use Rattle.rules_machine.specs.Runs.{Ran, ran, ticks}
use Rattle.rules_machine.specs.Eventful.{has_item, is_eventful, next_tick_matters, tick_matters}
use Rattle.rules_machine.proofs.Reading.{changed-keeps}
use Rattle.rules_moves.proofs.Waiters.Best.{running_within}
use Rattle.rules_moves.proofs.Runs.Preparing.{PreparingKeeps, alike_runs, prepares_keep}
use Rattle.rules_moves.proofs.Runs.Listed.{head_can_run}
use Rattle.laws_machine.proofs.Agenda.{due_are_of_agenda}
use Rattle.laws_machine.proofs.Lists.Kept.{Plans, in_unit_plans}
use Rattle.rules_leaps.specs.Quiet.{after_ticks, frames_after, server_after, slice_after}
use Rattle.rules_leaps.specs.Leap.{IsLeap, capacity_left, head_lasts, later_by, leap_head, leap_length, length_from, slice_left, thread_lasts, ticks_to_next}
use Rattle.laws_leaps.proofs.Quiet.Once.{Begins, unit_of}
use Rattle.laws_leaps.proofs.Leaps.Calm.{Calm, EndsAt, Handled, calm_ticks, ends_eventful, matters_after, steady}
use Rattle.laws_leaps.proofs.Leaps.Bounds.{CapacityLasts, Lasts, NothingDue, SliceLasts, charged_capacity, idle_calm, idle_ends, lasts_calm, no_plain, stops_ends}
use Rattle.laws_leaps.proofs.Leaps.Bridge.{PlainCalm, PlainEndsAt, calm_of, ends_of, ready_alive, ready_first}
use Rattle.laws_leaps.proofs.Leaps.Law.{leap_is_ticks}
use Rattle.laws_leaps.proofs.Leaps.Ended.{ended_calm, ended_ticks}

-- ---- what falls due

-- nothing before the nearest due tick
none_come : (comings : List Coming) (most now n k : ℕ) → n < k → k ≤ ticks_to_next most now comings → filter (due_by (now + n)) comings ≡ []
none_come [] most now n k lt le = refl
none_come (c ∷ comings) most now n k lt le = rw (later c.due (omega arith)) (none_come comings most now n k lt (omega arith))
  where
    later : (d : ℕ) → k ≤ d - now → nat_le d (now + n) ≡ false
    later d h = grind arith

-- and something at it
some_come : (comings : List Coming) (most now k : ℕ) → ticks_to_next most now comings < most → ticks_to_next most now comings ≤ k → 1 ≤ length (filter (due_by (now + k)) comings)
some_come [] most now k lt le = absurd (omega arith)
some_come (c ∷ comings) most now k lt le = by_first (nat_le c.due (now + k)) refl (some_come comings most now k)
  where
    rest_nearer : (d n : ℕ) → nat_le d (now + k) ≡ false → min (d - now) n < most → min (d - now) n ≤ k → (n < most) × (n ≤ k)
    rest_nearer d n e lt le = (grind arith, grind arith)

    by_first : (b : Bool) → nat_le c.due (now + k) ≡ b → (ticks_to_next most now comings < most → ticks_to_next most now comings ≤ k → 1 ≤ length (filter (due_by (now + k)) comings)) →
        1 ≤ length (filter (due_by (now + k)) (c ∷ comings))
    by_first true e rest = rw e (omega arith)
    by_first false e rest = let h = rest_nearer c.due (ticks_to_next most now comings) e lt le in rw e (rest h.0 h.1)

some_first : (is : List Coming) → 1 ≤ length is → is_some (first_item None (map (λ (c : Coming). c.item) is)) ≡ true
some_first [] h = absurd (omega arith)
some_first (c ∷ is) h = refl

module _ {P : Type 0} (m : Machine P) (alive : m.killed ≡ None) where
  item_at : (n : ℕ) → next_item (later_by n m) ≡ first_item None (items_due (m.now + n) (agenda m))
  item_at n = ap (first_item m.killed) (due_are_of_agenda (later_by n m)) ∙ ap (λ (o : Option ℕ). first_item o (items_due (m.now + n) (agenda m))) alive

  -- nothing falls due in a leap that is no longer than to the nearest due tick
  none_before : (k most : ℕ) → k ≤ ticks_to_next most m.now (agenda m) → NothingDue k m
  none_before k most le n lt = item_at n ∙ ap (λ (cs : List Coming). first_item None (map (λ (c : Coming). c.item) cs)) (none_come (agenda m) most m.now n k lt le)

  -- and something at the end of one that goes there
  comes_at : (k most : ℕ) → ticks_to_next most m.now (agenda m) < most → ticks_to_next most m.now (agenda m) ≤ k → has_item (later_by k m) ≡ true
  comes_at k most lt le = ap is_some (item_at k) ∙ some_first (filter (due_by (m.now + k)) (agenda m)) (some_come (agenda m) most m.now k lt le)

-- ---- how long the head lasts

slice_lasts : (most k quantum : ℕ) (p : Policy) (slice : ℕ) → 1 ≤ k → k ≤ slice_left most quantum p slice → SliceLasts k quantum p slice
slice_lasts most k quantum (policy.Fifo p) slice some le = tt
slice_lasts most k quantum (policy.Rr p) slice some le = omega arith
slice_lasts most k quantum (policy.Sporadic params) slice some le = tt
slice_lasts most k quantum (policy.Strict params) slice some le = tt

capacity_lasts : (most k : ℕ) (o : Option ServerState) → k ≤ capacity_left most o → CapacityLasts k o
capacity_lasts most k None le = tt
capacity_lasts most k (Some s) le = λ e. by_high (is_high s) e le
  where
    by_high : (b : Bool) → b ≡ true → k ≤ (if b then s.capacity else most) → k ≤ s.capacity
    by_high true e h = h
    by_high false e h = absurd (grind arith)

lasts : {P : Type 0} (most k quantum : ℕ) (th : Thread P) → 1 ≤ k → k ≤ thread_lasts most quantum th → Lasts k quantum th
lasts most k quantum th some le = record {
  left = omega arith;
  slice = slice_lasts most k quantum th.policy th.slice some (omega arith);
  capacity = capacity_lasts most k th.server (omega arith);
}

-- the unit, the interval or the capacity ends with the tick that it lasts for
frames_end : {P : Type 0} (k : ℕ) (fs : List (Frame P)) → top_left fs ≤ k → (top_left (frames_after k fs) == 0) ≡ true
frames_end k [] le = refl
frames_end k (f ∷ fs) le = ends f.left le
  where
    ends : (n : ℕ) → n ≤ k → (n - k == 0) ≡ true
    ends n le = grind arith

slice_ends : (most k quantum : ℕ) (p : Policy) (slice : ℕ) → slice < quantum → slice_left most quantum p slice < most → slice_left most quantum p slice ≤ k → k ≤ max 1 (slice_left most quantum p slice) →
    slice_is_used p (slice_after k p slice) quantum ≡ true
slice_ends most k quantum (policy.Fifo p) slice room lt le top = absurd (omega arith)
slice_ends most k quantum (policy.Rr p) slice room lt le top = (let same : slice + k ≡ quantum = omega arith in equal same)
  where
    equal : slice + k ≡ quantum → (slice + k == quantum) ≡ true
    equal e = grind arith
slice_ends most k quantum (policy.Sporadic params) slice room lt le top = absurd (omega arith)
slice_ends most k quantum (policy.Strict params) slice room lt le top = absurd (omega arith)

capacity_ends : (most k : ℕ) (o : Option ServerState) → capacity_left most o < most → capacity_left most o ≤ k → (has_high o && capacity_in (option_map (server_after k) o) == 0) ≡ true
capacity_ends most k None lt le = absurd (omega arith)
capacity_ends most k (Some s) lt le = by_high (is_high s) refl lt le
  where
    none : (c : ℕ) → c ≡ s.capacity - k → s.capacity ≤ k → (c == 0) ≡ true
    none c e h = grind arith

    by_high : (b : Bool) → is_high s ≡ b → (if b then s.capacity else most) < most → (if b then s.capacity else most) ≤ k → (is_some (if b then Some s else None) && (if b then charge_ticks k s else s).capacity == 0) ≡ true
    by_high true e lt le = none (charge_ticks k s).capacity (charged_capacity k s) le
    by_high false e lt le = absurd (omega arith)

first_so : (a b c : Bool) → a ≡ true → (a || b || c) ≡ true
first_so a b c e = grind arith

second_so : (a b c : Bool) → b ≡ true → (a || b || c) ≡ true
second_so a b c e = grind arith

third_so : (a b c : Bool) → c ≡ true → (a || b || c) ≡ true
third_so a b c e = grind arith

-- which of three is the least
least_of : (a b c k most : ℕ) → min a (min b c) < most → min a (min b c) ≤ k → k ≤ max 1 (min a (min b c)) →
    (a ≤ k) ⊎ (((b < most) × (b ≤ k) × (k ≤ max 1 b)) ⊎ ((c < most) × (c ≤ k)))
least_of a b c k most lt le top = by_first (nat_le a k) refl
  where
    by_second : (x y : Bool) → nat_le a k ≡ false → nat_le b c ≡ y → (a ≤ k) ⊎ (((b < most) × (b ≤ k) × (k ≤ max 1 b)) ⊎ ((c < most) × (c ≤ k)))
    by_second x true e f = inr (inl (grind arith, grind arith, grind arith))
    by_second x false e f = inr (inr (grind arith, grind arith))

    by_first : (x : Bool) → nat_le a k ≡ x → (a ≤ k) ⊎ (((b < most) × (b ≤ k) × (k ≤ max 1 b)) ⊎ ((c < most) × (c ≤ k)))
    by_first true e = inl (grind arith)
    by_first false e = by_second false (nat_le b c) e refl

pub thread_ends : {P : Type 0} (most k quantum : ℕ) (th : Thread P) → th.slice < quantum → thread_lasts most quantum th < most → thread_lasts most quantum th ≤ k → k ≤ max 1 (thread_lasts most quantum th) →
    tick_matters (has_high th.server) quantum (after_ticks k th) ≡ true
thread_ends most k quantum th room lt le top =
    by_least (least_of (top_left th.frames) (slice_left most quantum th.policy th.slice) (capacity_left most th.server) k most lt le top)
  where
    a : Bool
    a = top_left (frames_after k th.frames) == 0

    b : Bool
    b = slice_is_used th.policy (slice_after k th.policy th.slice) quantum

    c : Bool
    c = has_high th.server && capacity_in (option_map (server_after k) th.server) == 0

    by_least : (top_left th.frames ≤ k) ⊎ (((slice_left most quantum th.policy th.slice < most) × (slice_left most quantum th.policy th.slice ≤ k) × (k ≤ max 1 (slice_left most quantum th.policy th.slice))) ⊎ ((capacity_left most th.server < most) × (capacity_left most th.server ≤ k))) →
        (a || b || c) ≡ true
    by_least (inl h) = first_so a b c (frames_end k th.frames h)
    by_least (inr (inl h)) = second_so a b c (slice_ends most k quantum th.policy th.slice room h.0 h.1 h.2)
    by_least (inr (inr h)) = third_so a b c (capacity_ends most k th.server h.0 h.1)

-- ---- one leap

module _ {P : Type 0} (bodies : Bodies P) where
  -- what a leap asks of the machine that it starts from
  pub record IsReady (m : Machine P) : Type 0 where
    pub still : (instant bodies (turn_of m)).direct ≡ []
    pub handled : Handled bodies (instant bodies (turn_of m)).machine
    pub slices : (t : ℕ) → (thread_at (instant bodies (turn_of m)).machine t).slice < (instant bodies (turn_of m)).machine.quantum

  weaker : (i j : ℕ) (m : Machine P) → i ≤ j → Calm bodies j m → Calm bodies i m
  weaker i j m le c = record { quiet = λ n small. c.quiet n (omega arith); idle = λ n small. c.idle n (omega arith) }

  both_false : (a b : Bool) → a ≡ false → b ≡ false → (a || b) ≡ false
  both_false a b e f = grind arith

  -- no instant inside is eventful
  calm_inside : (j : ℕ) (m : Machine P) → IsReady m → Calm bodies j (instant bodies (turn_of m)).machine → (i : ℕ) → 1 ≤ i → i < suc j → is_eventful bodies m i ≡ false
  calm_inside j m r c zero low high = absurd (omega arith)
  calm_inside j m r c (suc i) low high =
      let s = instant bodies (turn_of m) in
      let calm = weaker i j s.machine (omega arith) c in
      let quiet = c.quiet i (omega arith) in
      both_false (has_item (ticks bodies (suc i) m).machine) (next_tick_matters bodies (ticks bodies i m).machine)
      (ap (λ (x : Ran P). has_item x.machine) (calm_ticks bodies i m r.still r.handled calm quiet) ∙ ap is_some (c.idle i (omega arith)))
      (matters_after bodies i m r.still r.handled calm ∙ quiet)

  -- what precedes the tick of the head leaves the intervals of all
  abbrev InSlices : Turn P → Type 0
  InSlices s = (u : ℕ) → (thread_at s.machine u).slice < s.machine.quantum

  one_slice : (t : ℕ) (f : ServerState → ServerState) (s : Turn P) → InSlices s → InSlices (changes t (with_server f) s)
  one_slice t f s q u = subst (λ (n : ℕ). n < s.machine.quantum) (sym (changed-keeps no_thread t u (with_server f) (λ (th : Thread P). th.slice) (λ th. refl) s.machine.threads)) (q u)

  plans_slice : (t : ℕ) (o : Option ServerState) (s : Turn P) → InSlices s → InSlices (plans_server t o s)
  plans_slice t None s q = q
  plans_slice t (Some x) s q = one_slice t plan s q

  sent_slice : (b : Bool) (to : Option ℕ) (e : Event) (s : Turn P) → InSlices s → InSlices (record s { machine = record (tells_unless b e s).machine { last = dispatch_of to }; direct = (tells_unless b e s).direct; events = (tells_unless b e s).events })
  sent_slice true to e s q = q
  sent_slice false to e s q = q

  in_slices : PreparingKeeps InSlices
  in_slices = record {
    closes = λ t s run q. plans_slice t (thread_at s.machine t).server s q;
    sent = λ to s off q. sent_slice (is_same s.machine.last to) to (dispatch_event s.machine to) s q;
    opens = λ t x s runs is may q. one_slice t (activate s.machine.now) s q;
  }

  module _ (to : Option ℕ) (m : Machine P) (alive : m.killed ≡ None) (first : head m ≡ to) (h : Handled bodies m) (slices : (t : ℕ) → (thread_at m t).slice < m.quantum) (most j : ℕ) where
    abbrev r : Machine P
    r = (prepares to (turn_of m)).machine

    abbrev to_next : ℕ
    to_next = ticks_to_next most r.now (agenda r)

    r_alive : r.killed ≡ None
    r_alive = ready_alive bodies to m alive first

    r_first : head r ≡ to
    r_first = ready_first bodies to m alive first

    can : (t : ℕ) → to ≡ Some t → can_run m t ≡ true
    can t e = head_can_run m t h.listed (first ∙ e)

    pub r_slices : (t : ℕ) → (thread_at r t).slice < r.quantum
    r_slices = (prepares_keep InSlices in_slices to (turn_of m) can slices).0

    pub begins : (t : ℕ) → to ≡ Some t → Begins bodies t r
    begins t e = record { alive = r_alive; first = r_first ∙ e; here = running_within r.threads t (alike_runs m r t (steady bodies to m h first).so.alike (can t e)) }

    -- all ticks but the last are calm
    plain_by : suc j ≤ max 1 (min to_next (head_lasts bodies most to r)) → PlainCalm bodies j r
    plain_by le = by_number j refl le
      where
        by_number : (i : ℕ) → j ≡ i → suc j ≤ max 1 (min to_next (head_lasts bodies most to r)) → PlainCalm bodies j r
        by_number zero same le = subst (λ (n : ℕ). PlainCalm bodies n r) (sym same) (no_plain bodies r)
        by_number (suc i) same le = by_head to refl (omega arith) (omega arith)
          where
            by_head : (o : Option ℕ) → to ≡ o → suc j ≤ to_next → suc j ≤ head_lasts bodies most o r → PlainCalm bodies j r
            by_head None e near long = idle_calm bodies r r_alive (r_first ∙ e) j (none_before r r_alive (suc j) most near)
            by_head (Some t) e near long = lasts_calm bodies t r (begins t e) j (lasts most (suc j) r.quantum (unit_of bodies t r) (omega arith) long) (none_before r r_alive (suc j) most near)

    -- where it goes no further than to the nearest due tick
    ends_due : (o : Option ℕ) → to ≡ o → PlainCalm bodies j r → to_next < most → to_next ≤ suc j → PlainEndsAt bodies j r
    ends_due None e c lt le = idle_ends bodies r r_alive (r_first ∙ e) j (comes_at r r_alive (suc j) most lt le)
    ends_due (Some t) e c lt le = stops_ends bodies t r (begins t e) j c (λ quiet. comes_at r r_alive (suc j) most lt le)

    -- where it goes no further than the head lasts
    ends_unit : (o : Option ℕ) → to ≡ o → PlainCalm bodies j r → head_lasts bodies most o r < most → head_lasts bodies most o r ≤ suc j → suc j ≤ max 1 (head_lasts bodies most o r) → PlainEndsAt bodies j r
    ends_unit None e c lt le top = absurd (omega arith)
    ends_unit (Some t) e c lt le top =
        let unit = unit_of bodies t r in
        let room : unit.slice < r.quantum = subst (λ (n : ℕ). n < r.quantum) (sym (ap (λ (p : Plans). p.slice) (in_unit_plans bodies (thread_at r t)))) (r_slices t) in
        let ends = thread_ends most (suc j) r.quantum unit room lt le top in
        stops_ends bodies t r (begins t e) j c (λ quiet. absurd (contra ends quiet))
      where
        contra : {b : Bool} → b ≡ true → b ≡ false → ⊥
        contra p q = grind arith

    plain_ends : PlainCalm bodies j r → suc j ≡ max 1 (min most (min to_next (head_lasts bodies most to r))) → suc j < most → PlainEndsAt bodies j r
    plain_ends c e lt = by_nearer (nat_le to_next (head_lasts bodies most to r)) refl
      where
        first_near : (n l : ℕ) → suc j ≡ max 1 (min most (min n l)) → nat_le n l ≡ true → (n < most) × (n ≤ suc j)
        first_near n l e h = (grind arith, grind arith)

        second_near : (n l : ℕ) → suc j ≡ max 1 (min most (min n l)) → nat_le n l ≡ false → (l < most) × (l ≤ suc j) × (suc j ≤ max 1 l)
        second_near n l e h = (grind arith, grind arith, grind arith)

        by_nearer : (b : Bool) → nat_le to_next (head_lasts bodies most to r) ≡ b → PlainEndsAt bodies j r
        by_nearer true h = let k = first_near to_next (head_lasts bodies most to r) e h in ends_due to refl c k.0 k.1
        by_nearer false h = let k = second_near to_next (head_lasts bodies most to r) e h in ends_unit to refl c k.0 k.1 k.2

    calm_by : suc j ≤ max 1 (min to_next (head_lasts bodies most to r)) → Calm bodies j m
    calm_by le = calm_of bodies to m alive first h j (plain_by le)

    ends_by : suc j ≡ max 1 (min most (min to_next (head_lasts bodies most to r))) → suc j < most → EndsAt bodies j m
    ends_by e lt = ends_of bodies to m alive first h j (plain_ends (plain_by (omega (arith, e))) e lt)

  -- ---- the law

  leap_alive : (m : Machine P) (most k : ℕ) → 1 ≤ most → IsReady m → (instant bodies (turn_of m)).machine.killed ≡ None → k ≡ length_from bodies None most (instant bodies (turn_of m)).machine → IsLeap bodies most k m
  leap_alive m most zero some r alive e = absurd (omega arith)
  leap_alive m most (suc j) some r alive e =
      let s = instant bodies (turn_of m) in
      let n = s.machine in
      let c : Calm bodies j n = calm_by (head n) n alive refl r.handled r.slices most j (omega (arith, e)) in
      record {
        some = omega arith;
        within = omega arith;
        same = leap_is_ticks bodies j m r.still r.handled alive c;
        inside = calm_inside j m r c;
        ends = λ lt. ends_eventful bodies j m r.still r.handled c (ends_by (head n) n alive refl r.handled r.slices most j e lt);
      }

  leap_ended : (m : Machine P) (most : ℕ) (signal : ℕ) → 1 ≤ most → IsReady m → (instant bodies (turn_of m)).machine.killed ≡ Some signal → IsLeap bodies most most m
  leap_ended m zero signal some r dead = absurd (omega arith)
  leap_ended m (suc j) signal some r dead =
      let s = instant bodies (turn_of m) in
      record {
        some = some;
        within = omega arith;
        same = ap (λ (o : Option ℕ). ran (unless_killed o (leap_head bodies (suc j)) s)) dead ∙ sym (ended_ticks bodies j m signal r.still r.handled dead);
        inside = calm_inside j m r (ended_calm bodies j s.machine signal r.handled dead);
        ends = λ lt. absurd (omega arith);
      }

  pub is_leap : (m : Machine P) (most : ℕ) → 1 ≤ most → IsReady m → IsLeap bodies most (leap_length bodies most m) m
  is_leap m most some r = by_killed (instant bodies (turn_of m)).machine.killed refl
    where
      by_killed : (o : Option ℕ) → (instant bodies (turn_of m)).machine.killed ≡ o → IsLeap bodies most (length_from bodies o most (instant bodies (turn_of m)).machine) m
      by_killed None alive = leap_alive m most (length_from bodies None most (instant bodies (turn_of m)).machine) some r alive refl
      by_killed (Some signal) dead = leap_ended m most signal some r dead
