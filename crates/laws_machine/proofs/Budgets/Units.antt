-- The books of a server through a unit and the end of a tick, and that nothing pending is due where no item is.
use Rattle.std.proofs.Common.{Bool, List, None, Option, Some, [], ap, append_assoc, arith, false, length, refl, suc, sym, true, zero, ℕ, ◌+◌, ◌<◌, ◌≤◌, ◌∷◌, ◌++◌, ◌≡◌}
use Rattle.std.specs.List.{range_with_len}
use Rattle.std.specs.Prelude.{filter, slice_get, is_some, map, nat_lt, not, option_and_then, option_map, ◌-◌, ◌==◌, if◌then◌else◌, ◌&&◌}
use mathlib.Core.Path.{subst, ◌∙◌}
use Rattle.words_numbers.specs.declared.item.Item.{Item}
use Rattle.words_numbers.specs.declared.item.Item.TheVariants as item
use Rattle.words_numbers.specs.declared.res.Res.{Res}
use Rattle.words_numbers.specs.declared.res.Res.TheVariants as res
use Rattle.words_script.specs.declared.call.Call.{Call}
use Rattle.words_script.specs.declared.call.Call.TheVariants as call
use Rattle.words_script.specs.declared.policy.Policy.{Policy}
use Rattle.rules_bodies.specs.declared.unit.Unit.{Unit}
use Rattle.rules_bodies.specs.declared.unit.Unit.TheVariants as unit
use Rattle.rules_bodies.specs.Next.{ticks_of}
use Rattle.words_trace.specs.declared.event.Event.TheVariants as event
use Rattle.words_trace.specs.Text.{Entry}
use Rattle.rules_server.specs.declared.Replenish.{Replenish}
use Rattle.rules_server.specs.declared.ServerKind.{ServerKind}
use Rattle.rules_server.specs.declared.ServerKind.TheVariants as kind
use Rattle.rules_server.specs.Server.{ServerState, charge, is_high, next_due, plan, replenishment}
use Rattle.rules_machine.specs.Budget.{ServerEvent, planned, recorded_if, renews, used}
use Rattle.rules_machine.specs.Bodies.{Bodies}
use Rattle.rules_machine.specs.State.{Frame, Machine, Status, Thread, blocked, dormant, ended, runnable, waits_to_join}
use Rattle.rules_machine.specs.Threads.{can_run, is_blocked, is_live, is_runnable, lives, no_thread, thread_at, thread_numbers, top_left}
use Rattle.rules_machine.specs.Turns.{Caller, Turn, answered, changes, moves_if, returns, tells}
use Rattle.rules_machine.specs.CallNames.{name_of}
use Rattle.rules_machine.specs.Servers.{activates_if, charged, has_high, plans_server, with_server, is_strict, may_open}
use Rattle.rules_machine.specs.Mutexes.{owns_boosting}
use Rattle.rules_machine.specs.Lives.{with_joiner}
use Rattle.rules_machine.specs.Scheduling.{with_policy}
use Rattle.rules_machine.specs.Calls.{unit_effect}
use Rattle.rules_machine.specs.DueItems.{due_items, first_item, has_come, next_item, refill_due}
use Rattle.rules_machine.specs.Units.{Following, advances, advancing, begins_finish, cleaning_up, continuing, finishing, following, in_cleanup, in_unit, takes_unit}
use Rattle.rules_machine.specs.Ticks.{TickEnd, capacity_in, consumed_in, ends_tick, exhausting, frames_charged, nothing, planning, runs, slice_is_used, slicing, tick_end, without_slice}
use Rattle.rules_machine.proofs.Reading.{changed-length, thread-same}
use Rattle.rules_moves.specs.Moves.{KeepsAwake, Stops}
use Rattle.rules_moves.specs.UnitRanges.{UnitFits}
use Rattle.rules_moves.proofs.Waiters.Best.{Each}
use Rattle.rules_moves.proofs.Calls.Objects.{answered_status}
use Rattle.rules_moves.proofs.Calls.Table.{unit_keep}
use Rattle.rules_moves.proofs.Runs.Ticks.{RoundKeeps}
use Rattle.laws_machine.proofs.Servers.Changed.{high_parts}
use Rattle.laws_machine.proofs.Servers.OfThreads.{only, InTime}
use Rattle.laws_machine.proofs.Servers.Right.{Rising}
use Rattle.laws_machine.proofs.Servers.Moves.{here}
use Rattle.laws_machine.proofs.Servers.Alert.{awake_of}
use Rattle.laws_machine.proofs.Servers.Ends.{end_by, has_server}
use Rattle.laws_machine.proofs.Servers.Ticks.{ServedDone, ServedMid, ServedRight, nobody_awake, served_renew, served_stop, served_tick}
use Rattle.laws_machine.proofs.Budgets.Accounts.{used_books, used_in_step, InStep}
use Rattle.laws_machine.proofs.Budgets.Replenishments.{later_books, planned_books}
use Rattle.laws_machine.proofs.Budgets.Booked.{Booked}
use Rattle.laws_machine.proofs.Budgets.Moves.{Recorded, joined_posted, other, own, posted_keep, posted_not, posted_so, renewed_other, renewed_posted, same_server, sleeps_posted, told, told_plainly}

-- ---- nothing that is pending is due

contra : {b : Bool} → b ≡ true → b ≡ false → ⊥
contra p q = grind arith

none_of : (passes : ℕ → Bool) (ns : List ℕ) → filter passes ns ≡ [] → Each (λ (n : ℕ). passes n ≡ false) ns
none_of passes [] e = tt
none_of passes (n ∷ ns) e = split (passes n) refl e (none_of passes ns)
  where
    split : (b : Bool) → passes n ≡ b → (if b then n ∷ filter passes ns else filter passes ns) ≡ [] → (filter passes ns ≡ [] → Each (λ (n : ℕ). passes n ≡ false) ns) → (passes n ≡ false) × Each (λ (n : ℕ). passes n ≡ false) ns
    split true h e rest = absurd (grind arith)
    split false h e rest = (h, rest e)

of_range : (Law : ℕ → Type 0) (a n i : ℕ) → i < n → Each Law (range_with_len a n) → Law (a + i)
of_range Law a zero i h each = absurd (omega arith)
of_range Law a (suc n) zero h each = let same : a ≡ a + 0 = omega arith in subst Law same each.0
of_range Law a (suc n) (suc i) h each = let same : a + 1 + i ≡ a + suc i = omega arith in subst Law same (of_range Law (a + 1) n i (omega arith) each.1)

first_empty : {X : Type 0} (xs ys : List X) → xs ++ ys ≡ [] → xs ≡ []
first_empty [] ys e = refl
first_empty (x ∷ xs) ys e = absurd (grind arith)

map_empty : {X Y : Type 0} (f : X → Y) (xs : List X) → map f xs ≡ [] → xs ≡ []
map_empty f [] e = refl
map_empty f (x ∷ xs) e = absurd (grind arith)

module _ {P : Type 0} (m : Machine P) where
  none_due : m.killed ≡ None → next_item m ≡ None → due_items m ≡ []
  none_due alive e = by_items (due_items m) (ap (λ (k : Option ℕ). first_item k (due_items m)) (sym alive) ∙ e)
    where
      by_items : (items : List Item) → first_item None items ≡ None → items ≡ []
      by_items [] h = refl
      by_items (i ∷ items) h = absurd (grind arith)

  no_refill : m.killed ≡ None → next_item m ≡ None → (t : ℕ) → t < length m.threads → has_come (refill_due m t) m.now ≡ false
  no_refill alive e t within =
      let same : 0 + t ≡ t = omega arith in
      let none = first_empty _ _ (first_empty _ _ (first_empty _ _ (none_due alive e))) in
      subst (λ (n : ℕ). has_come (refill_due m n) m.now ≡ false) same
      (of_range (λ (n : ℕ). has_come (refill_due m n) m.now ≡ false) 0 (length m.threads) t within
      (none_of (λ (n : ℕ). has_come (refill_due m n) m.now) (thread_numbers m) (map_empty item.Refill (filter (λ (n : ℕ). has_come (refill_due m n) m.now) (thread_numbers m)) none)))

  later_due : (now : ℕ) (rs : List Replenish) → has_come (option_map (λ (r : Replenish). r.due) (slice_get rs 0)) now ≡ false → Rising rs → Each (λ (r : Replenish). now < r.due) rs
  later_due now [] e up = tt
  later_due now (r ∷ rs) e up = let first : now < r.due = grind arith in (first, above rs up.0 first)
    where
      above : (qs : List Replenish) → Each (λ (x : Replenish). r.due < x.due) qs → now < r.due → Each (λ (x : Replenish). now < x.due) qs
      above [] h k = tt
      above (q ∷ qs) h k = (let more = h.0 in omega arith, above qs h.1 k)

  pub not_due : m.killed ≡ None → next_item m ≡ None → (t : ℕ) (x : ServerState) → (thread_at m t).server ≡ Some x → Rising x.pending → Each (λ (r : Replenish). m.now < r.due) x.pending
  not_due alive e t x k up =
      later_due m.now x.pending (ap (λ (o : Option ServerState). has_come (option_and_then next_due o) m.now) (sym k) ∙ no_refill alive e t (has_server m.threads t x k)) up

-- ---- an instant later

abbrev pub BooksOf : {P : Type 0} → ℕ → Thread P → List ServerEvent → Type 0
BooksOf now th acc = (x : ServerState) → th.server ≡ Some x → Booked now th.status x acc

abbrev pub NotDue : ℕ → ServerState → Type 0
NotDue now x = Each (λ (r : Replenish). now < r.due) x.pending

pub booked_later : (now : ℕ) (status : Status) (x : ServerState) (acc : List ServerEvent) → NotDue now x → Booked now status x acc → Booked (now + 1) status x acc
booked_later now status x acc none h = record { books = later_books now x acc none h.books; consumed = h.consumed; ready = h.ready }

-- where a run may begin, it begins with an activation
abbrev pub Begun : ServerState → List ServerEvent → Type 0
Begun x acc = may_open x ≡ true → InStep x acc

booked_charged : (now : ℕ) (status : Status) (x : ServerState) (acc : List ServerEvent) → NotDue now x → is_runnable status ≡ true → is_high x ≡ true → Begun x acc → Booked now status x acc → Booked (now + 1) status (charge x) (acc ++ used ∷ [])
booked_charged now status x acc none runs high begun h = let step = used_in_step x acc (by_kind x.kind refl) in record {
  books = later_books now (charge x) (acc ++ used ∷ []) none (used_books now x acc (high_parts x high).0 h.books);
  consumed = λ some. step;
  ready = λ k r e. step;
}
  where
    three : (a b c : Bool) → a ≡ true → b ≡ true → c ≡ true → (a && b && c) ≡ true
    three a b c p q r = grind arith

    by_size : x.kind ≡ kind.Strict → (n : ℕ) → x.consumed ≡ n → InStep x acc
    by_size k zero e = begun (three (is_strict x.kind) (is_high x) (x.consumed == 0) (ap is_strict k) high (rw e refl))
    by_size k (suc n) e = h.consumed (omega arith)

    by_kind : (k : ServerKind) → x.kind ≡ k → InStep x acc
    by_kind kind.Sporadic k = h.ready k runs high
    by_kind kind.Strict k = by_size k x.consumed refl

-- a tick of the thread
pub booked_ticked : (now : ℕ) (status : Status) (o : Option ServerState) (acc : List ServerEvent) → is_runnable status ≡ true → ((x : ServerState) → o ≡ Some x → NotDue now x) → ((x : ServerState) → o ≡ Some x → Begun x acc) → ((x : ServerState) → o ≡ Some x → Booked now status x acc) →
    (x : ServerState) → option_map charged o ≡ Some x → Booked (now + 1) status x (recorded_if (has_high o) used acc)
booked_ticked now status None acc runs none begun h x e = absurd (grind arith)
booked_ticked now status (Some y) acc runs none begun h x e = by_high (is_high y) refl e
  where
    by_high : (b : Bool) → is_high y ≡ b → Some (if b then charge y else y) ≡ Some x → Booked (now + 1) status x (recorded_if (is_some (if b then Some y else None)) used acc)
    by_high true k e = subst (λ (z : ServerState). Booked (now + 1) status z (acc ++ used ∷ [])) (only e) (booked_charged now status y acc (none y refl) runs k (begun y refl) (h y refl))
    by_high false k e = subst (λ (z : ServerState). Booked (now + 1) status z acc) (only e) (booked_later now status y acc (none y refl) (h y refl))

-- ---- a unit that gives a thread a new policy

pub renewing_unit : (t : ℕ) (u : Unit) → renews t u ≡ true → (new : Policy) × (u ≡ unit.Make (call.Setsched t new))
renewing_unit t (unit.Make (call.Setsched v new)) e = let it : v ≡ t = grind arith in (new, ap (λ (i : ℕ). unit.Make (call.Setsched i new)) it)
renewing_unit t u e = absurd (grind arith)

module _ {P : Type 0} (bodies : Bodies P) (c : Call) where
  abbrev LeavesNone : Thread P → Unit → Type 0
  LeavesNone th u = u ≡ unit.Make c → top_left (frames_charged th.frames) ≡ 0

  not_finish : unit.Finish ≡ unit.Make c → ⊥
  not_finish e = absurd (grind arith)

  one_tick_next : (fs : List (Frame P)) (th : Thread P) → LeavesNone (advances bodies fs th).thread (advances bodies fs th).unit
  one_tick_next [] th e = absurd (not_finish e)
  one_tick_next (f ∷ fs) th e = ap (λ (u : Unit). ticks_of u - 1) e

  one_tick_finish : (fs : List (Frame P)) (th : Thread P) → LeavesNone (begins_finish fs th).thread (begins_finish fs th).unit
  one_tick_finish [] th e = absurd (not_finish e)
  one_tick_finish (f ∷ fs) th e = absurd (not_finish e)

  -- a call takes one tick
  pub one_tick : (th : Thread P) → LeavesNone (in_unit bodies th).thread (in_unit bodies th).unit
  one_tick th = by_case (following th)
    where
      by_case : (x : Following) → LeavesNone (takes_unit bodies x th).thread (takes_unit bodies x th).unit
      by_case (continuing left) = λ e. absurd (grind arith)
      by_case advancing = one_tick_next th.frames th
      by_case (cleaning_up u) = one_tick_next (in_cleanup bodies u th).frames (in_cleanup bodies u th)
      by_case finishing = one_tick_finish th.frames th

-- ---- a unit

module _ {P : Type 0} (bodies : Bodies P) (t : ℕ) (pre : List Entry) (acc : List ServerEvent) where
  abbrev pub Book : Turn P → Type 0
  Book s = ServedRight bodies s × Recorded bodies t pre acc s

  abbrev pub BookMid : Bool → ℕ → Turn P → Type 0
  BookMid tolled u s = ServedMid bodies tolled u s × Recorded bodies t pre acc s

  abbrev pub BookDone : Bool → ℕ → Turn P → Type 0
  BookDone tolled u s = ServedDone bodies tolled u s × Recorded bodies t pre acc s

  pub book_round : RoundKeeps bodies Book
  book_round = let served = served_tick bodies in record {
    moves = λ move s may q. (served.moves move s may q.0, posted_keep bodies t pre acc None move s may (nobody_awake bodies s) q.0.1 q.1);
    joined = λ s q. served.joined s q.0;
    settles = λ before s q. (served.settles before s q.0, q.1);
  }

  book_mid : (tolled : Bool) (u : ℕ) → KeepsAwake bodies (Some u) (BookMid tolled u)
  book_mid tolled u move s may q = let served = served_tick bodies in
      (served.unit_moves tolled u move s may q.0, posted_keep bodies t pre acc (Some u) move s may (awake_of bodies tolled u s q.0.2) q.0.1 q.1)

  other_of : (v : ℕ) → not (v == t) ≡ true → (v == t) ≡ false
  other_of v e = grind arith

  book_stop : (tolled : Bool) (u : ℕ) → Stops (Some u) (BookMid tolled u) (BookDone tolled u)
  book_stop tolled u = let served = served_stop bodies tolled u in record {
    done = λ s q. (served.done s q.0, q.1);
    renewable = λ v. not (v == t);
    renewing = λ active v new s fits live e known q. (served.renewing active v new s (served_renew bodies tolled u v) live e known q.0, renewed_other bodies t pre acc active v new s (other_of v fits) q.1);
    sleeps = λ by wait due s runs may q. (served.sleeps by wait due s runs may q.0, sleeps_posted bodies t pre acc by.thread _ s q.1);
    dozes = λ by wait due s runs may other q. (served.dozes by wait due s runs may other q.0, sleeps_posted bodies t pre acc by.thread _ s q.1);
    joins = λ by v s runs other free q.
        (served.joins by v s runs other free q.0, sleeps_posted bodies t pre acc by.thread _ (changes v (with_joiner (waits_to_join by.thread)) s) (joined_posted bodies t pre acc v (waits_to_join by.thread) s q.1));
  }

  pub unit_booked : (tolled : Bool) (u : ℕ) (what : Unit) (s : Turn P) → UnitFits what → can_run s.machine u ≡ true → renews t what ≡ false → BookMid tolled u s → BookDone tolled u (unit_effect bodies u what s)
  unfolding book_stop
  unit_booked tolled u what s known runs plain q =
      unit_keep bodies (Some u) (BookMid tolled u) (BookDone tolled u) (book_mid tolled u) (book_stop tolled u) (λ s q. (served_tick bodies).unit_joined tolled u s q.0) u what s known (runs, refl) fits q
    where
      fits : (v : ℕ) → renews v what ≡ true → not (v == t) ≡ true
      fits v e = by_eq (v == t) refl
        where
          by_eq : (b : Bool) → (v == t) ≡ b → not b ≡ true
          by_eq true k = let it : v ≡ t = grind arith in absurd (contra (subst (λ (i : ℕ). renews i what ≡ true) it e) plain)
          by_eq false k = refl

  moved : (b : Bool) (v : ℕ) (s : Turn P) → Recorded bodies t pre acc s → Recorded bodies t pre acc (moves_if b v s)
  moved true v s q = q
  moved false v s q = q

  returns_posted : (by : Caller) (r : Res) (n : ℕ) (s : Turn P) → Recorded bodies t pre acc s → Recorded bodies t pre acc (returns by r n s)
  returns_posted by r n s q = told_plainly bodies t pre acc Booked (event.Return by.thread (name_of by.call) r n) (changes by.thread (answered r n) s) refl (same_server bodies t pre acc by.thread (answered r n) s refl (λ runs. runs) q)

  -- the thread of the account has a new policy
  pub renews_booked : (u : ℕ) (new : Policy) (s : Turn P) → (lives s.machine t ≡ true → (s.events ≡ pre ++ []) × (acc ≡ [])) → (lives s.machine t ≡ false → Recorded bodies t pre acc s) →
      Recorded bodies t pre acc (unit_effect bodies u (unit.Make (call.Setsched t new)) s)
  renews_booked u new s live dead = by_life (lives s.machine t) refl
    where
      by_life : (b : Bool) → lives s.machine t ≡ b → Recorded bodies t pre acc (if b then
          moves_if (not (owns_boosting (activates_if (can_run s.machine t) t (changes t (with_policy new s.machine.now) (returns (record { thread = u; call = call.Setsched t new }) res.Zero 0 s))).machine t)) t
          (activates_if (can_run s.machine t) t (changes t (with_policy new s.machine.now) (returns (record { thread = u; call = call.Setsched t new }) res.Zero 0 s)))
          else returns (record { thread = u; call = call.Setsched t new }) res.Srch 0 s)
      by_life true e =
          let who : Caller = record { thread = u; call = call.Setsched t new } in
          let entry : Entry = record { time = s.machine.now; event = event.Return u (name_of (call.Setsched t new)) res.Zero 0 } in
          let told = returns who res.Zero 0 s in
          let within : t < length s.machine.threads = here bodies None is_live refl s.machine.threads t e in
          moved (not (owns_boosting (activates_if (can_run s.machine t) t (changes t (with_policy new s.machine.now) told)).machine t)) t (activates_if (can_run s.machine t) t (changes t (with_policy new s.machine.now) told))
          (renewed_posted bodies t pre acc (can_run s.machine t) new told (subst (λ (n : ℕ). t < n) (sym (changed-length no_thread u (answered res.Zero 0) s.machine.threads)) within)
          (sym (ap is_runnable (answered_status who res.Zero 0 s t))) (entry ∷ []) (ap (λ (es : List Entry). es ++ entry ∷ []) (live e).0 ∙ append_assoc pre [] (entry ∷ [])) (live e).1)
      by_life false e = returns_posted (record { thread = u; call = call.Setsched t new }) res.Srch 0 s (dead e)

  -- ---- the tick's end

  pub plans_other : (v : ℕ) (o : Option ServerState) (s : Turn P) → (v == t) ≡ false → Recorded bodies t pre acc s → Recorded bodies t pre acc (plans_server v o s)
  plans_other v None s e q = q
  plans_other v (Some x) s e q =
      let up = changes v (with_server plan) s in
      told bodies t pre acc Booked Booked (event.Plan v (replenishment x).amount (replenishment x).due) up
      (λ y a k g. subst (Booked s.machine.now (thread_at up.machine t).status y) (sym (posted_not (v == t) (planned s.machine.now (replenishment x)) a e)) g) (other bodies t pre acc Booked v (with_server plan) s e q)

  ends_other : (e : TickEnd) (v : ℕ) (s : Turn P) → (v == t) ≡ false → Recorded bodies t pre acc s → Recorded bodies t pre acc (ends_tick e v s)
  ends_other planning v s e q = plans_other v (thread_at s.machine v).server s e q
  ends_other exhausting v s e q =
      moved _ v (plans_server v (thread_at s.machine v).server (tells (event.Exhaust v) s)) (plans_other v (thread_at s.machine v).server (tells (event.Exhaust v) s) e (told_plainly bodies t pre acc Booked (event.Exhaust v) s refl q))
  ends_other slicing v s e q = moved (can_run s.machine v) v (changes v without_slice s) (other bodies t pre acc Booked v without_slice s e q)
  ends_other nothing v s e q = q

  -- what a plan makes of the thread's server, before it is told
  abbrev IsPlanned : ServerState → ℕ → Status → ServerState → List ServerEvent → Type 0
  IsPlanned old now status x a = (x ≡ plan old) × Booked now status old a

  planned_map : (now : ℕ) (status : Status) (server : ServerState) (o : Option ServerState) (a : List ServerEvent) → o ≡ Some server → ((x : ServerState) → o ≡ Some x → Booked now status x a) → (x : ServerState) → option_map plan o ≡ Some x → IsPlanned server now status x a
  planned_map now status server None a e h x k = absurd (grind arith)
  planned_map now status server (Some y) a e h x k = let it : y ≡ server = only e in (sym (only k) ∙ ap plan it, h server e)

  planned_booked : (now : ℕ) (status : Status) (x : ServerState) (a : List ServerEvent) → 1 ≤ x.consumed → InTime now x → (x.kind ≡ kind.Sporadic → is_runnable status ≡ true → x.capacity ≡ 0) → Booked now status x a →
      Booked now status (plan x) (a ++ planned now (replenishment x) ∷ [])
  planned_booked now status x a some due low h = record {
    books = planned_books now x a some (due some) (h.consumed some) h.books;
    consumed = λ more. absurd (omega arith);
    ready = λ k runs high. absurd (not_high (low k runs) (high_parts (plan x) high).0);
  }
    where
      not_high : x.capacity ≡ 0 → 1 ≤ x.capacity → ⊥
      not_high e k = omega arith

  pub plans_mine : (o : Option ServerState) (s : Turn P) → (thread_at s.machine t).server ≡ o → 1 ≤ consumed_in o → ((x : ServerState) → o ≡ Some x → InTime s.machine.now x) → ((x : ServerState) → o ≡ Some x → x.kind ≡ kind.Sporadic → can_run s.machine t ≡ true → x.capacity ≡ 0) → Recorded bodies t pre acc s → Recorded bodies t pre acc (plans_server t o s)
  plans_mine None s e some due low q = absurd (omega arith)
  plans_mine (Some x) s e some due low q =
      let up = changes t (with_server plan) s in
      let within : t < length s.machine.threads = has_server s.machine.threads t x e in
      let same : is_runnable (thread_at up.machine t).status ≡ can_run s.machine t = ap (λ (th : Thread P). is_runnable th.status) (thread-same s.machine t (with_server plan) within) in
      told bodies t pre acc (IsPlanned x) Booked (event.Plan t (replenishment x).amount (replenishment x).due) up
      (λ y a k g. subst (Booked s.machine.now (thread_at up.machine t).status y) (sym (posted_so (t == t) (planned s.machine.now (replenishment x)) a itself))
      (subst (λ (z : ServerState). Booked s.machine.now (thread_at up.machine t).status z (a ++ planned s.machine.now (replenishment x) ∷ [])) (sym g.0)
      (planned_booked s.machine.now (thread_at up.machine t).status x a some (due x refl) (λ sort runs. low x refl sort (sym same ∙ runs)) g.1)))
      (own bodies t pre acc Booked (IsPlanned x) (with_server plan) s within (λ a h. planned_map s.machine.now (thread_at s.machine t).status x (thread_at s.machine t).server a e h) q)
    where
      itself : (t == t) ≡ true
      itself = grind arith

  not_both : (status : Status) → is_blocked status ≡ true → is_runnable status ≡ true → ⊥
  not_both (dormant at) p q = absurd (grind arith)
  not_both runnable p q = absurd (grind arith)
  not_both (blocked w) p q = absurd (grind arith)
  not_both ended p q = absurd (grind arith)

  ends_mine : (tolled : Bool) (quantum : ℕ) (s : Turn P) → ((x : ServerState) → (thread_at s.machine t).server ≡ Some x → InTime s.machine.now x) → Recorded bodies t pre acc s → Recorded bodies t pre acc (ends_tick (tick_end tolled quantum (thread_at s.machine t)) t s)
  ends_mine tolled quantum s due q =
      by_all tolled (nat_lt 0 (consumed_in (thread_at s.machine t).server)) refl (is_blocked (thread_at s.machine t).status) refl (is_runnable (thread_at s.machine t).status) refl (capacity_in (thread_at s.machine t).server == 0) refl
      (slice_is_used (thread_at s.machine t).policy (thread_at s.machine t).slice quantum)
    where
      no_plan : (full : Bool) → Recorded bodies t pre acc (ends_tick (if full then slicing else nothing) t s)
      no_plan true = moved (can_run s.machine t) t (changes t without_slice s) (same_server bodies t pre acc t without_slice s refl (λ runs. runs) q)
      no_plan false = q

      exhausts : 1 ≤ consumed_in (thread_at s.machine t).server → capacity_in (thread_at s.machine t).server ≡ 0 → Recorded bodies t pre acc (ends_tick exhausting t s)
      exhausts some empty =
          moved _ t (plans_server t (thread_at s.machine t).server (tells (event.Exhaust t) s))
          (plans_mine (thread_at s.machine t).server (tells (event.Exhaust t) s) refl some due (λ x k sort runs. sym (ap capacity_in k) ∙ empty) (told_plainly bodies t pre acc Booked (event.Exhaust t) s refl q))

      by_all : (a b : Bool) → nat_lt 0 (consumed_in (thread_at s.machine t).server) ≡ b → (c : Bool) → is_blocked (thread_at s.machine t).status ≡ c → (d : Bool) → is_runnable (thread_at s.machine t).status ≡ d →
          (z : Bool) → (capacity_in (thread_at s.machine t).server == 0) ≡ z → (full : Bool) → Recorded bodies t pre acc (ends_tick (end_by a b c d z full) t s)
      by_all false b p c r d k z e full = no_plan full
      by_all true false p c r d k z e full = no_plan full
      by_all true true p true r d k z e full = plans_mine (thread_at s.machine t).server s refl (grind arith) due (λ x k' sort runs. absurd (not_both (thread_at s.machine t).status r runs)) q
      by_all true true p false r false k z e full = no_plan full
      by_all true true p false r true k true e full = exhausts (grind arith) (grind arith)
      by_all true true p false r true k false e full = no_plan full

  pub ends_booked : (tolled : Bool) (u : ℕ) (s : Turn P) → ((x : ServerState) → (thread_at s.machine t).server ≡ Some x → InTime s.machine.now x) → Recorded bodies t pre acc s → Recorded bodies t pre acc (ends_tick (tick_end tolled s.machine.quantum (thread_at s.machine u)) u s)
  ends_booked tolled u s due q = by_eq (u == t) refl
    where
      by_eq : (b : Bool) → (u == t) ≡ b → Recorded bodies t pre acc (ends_tick (tick_end tolled s.machine.quantum (thread_at s.machine u)) u s)
      by_eq true e = let it : t ≡ u = grind arith in subst (λ (v : ℕ). Recorded bodies t pre acc (ends_tick (tick_end tolled s.machine.quantum (thread_at s.machine v)) v s)) it (ends_mine tolled s.machine.quantum s due q)
      by_eq false e = ends_other (tick_end tolled s.machine.quantum (thread_at s.machine u)) u s e q
