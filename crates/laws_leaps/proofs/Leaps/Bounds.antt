-- From the numbers that bound a leap to what the law of leaps asks.
use Rattle.std.proofs.Common.{Bool, List, None, Option, Some, [], ap, arith, false, inl, inr, length, refl, suc, sym, true, zero, ℕ, ◌+◌, ◌<◌, ◌≤◌, ◌∷◌, ◌++◌, ◌≡◌, ◌⊎◌}
use Rattle.std.specs.Prelude.{filter, is_some, map, option_and_then, option_map, ◌-◌, ◌==◌, ◌&&◌, ◌||◌, if◌then◌else◌}
use Rattle.std.specs.List.{range_with_len}
use mathlib.Core.Path.{subst, ◌∙◌}
use Rattle.words_numbers.specs.declared.item.Item.{Item}
use Rattle.words_numbers.specs.declared.item.Item.TheVariants as item
use Rattle.words_script.specs.declared.policy.Policy.{Policy}
use Rattle.words_script.specs.declared.policy.Policy.TheVariants as policy
use Rattle.rules_server.specs.Server.{ServerState, charge_ticks, is_high, next_due}
use Rattle.rules_machine.specs.declared.dispatch.LastDispatch.TheVariants as last
use Rattle.rules_machine.specs.Lists.{changed_at}
use Rattle.rules_machine.specs.Bodies.{Bodies}
use Rattle.rules_machine.specs.State.{Frame, Machine, Thread, Waiting}
use Rattle.rules_machine.specs.Threads.{no_thread, thread_at, thread_in, thread_numbers, top_left, waiting_in}
use Rattle.rules_machine.specs.Servers.{has_high}
use Rattle.rules_machine.specs.Dispatch.{head}
use Rattle.rules_machine.specs.DueItems.{due_of_kind, first_item, has_come, next_item, refill_due, start_due, start_in, timeout_due, timer_due}
use Rattle.rules_machine.specs.Ticks.{capacity_in, slice_is_used}
use Rattle.rules_machine.specs.Eventful.{has_item, head_matters, tick_matters, unless_ended}
use Rattle.rules_machine.proofs.Reading.{changed-length, thread-same}
use Rattle.rules_leaps.specs.Quiet.{after_ticks, frames_after, head_after, server_after, slice_after}
use Rattle.rules_leaps.specs.Leap.{later_by}
use Rattle.rules_moves.proofs.Waiters.OfThreads.{changed_is}
use Rattle.rules_moves.proofs.Runs.Ticks.{in_unit_status}
use Rattle.laws_machine.proofs.Lists.Kept.{Plans, in_unit_plans}
use Rattle.laws_machine.proofs.Signals.Takers.{charge_of}
use Rattle.laws_leaps.proofs.Quiet.Runs.{charges}
use Rattle.laws_leaps.proofs.Quiet.Once.{Begins, begins_on, charges_once, idle_once, unit_of}
use Rattle.laws_leaps.proofs.Quiet.Prepared.{plain_charges}
use Rattle.laws_leaps.proofs.Leaps.Calm.{Calm}
use Rattle.laws_leaps.proofs.Leaps.Bridge.{PlainCalm, PlainEndsAt}
use Rattle.laws_leaps.proofs.Leaps.LastTick.{head_at, high_same, is_x}

-- ---- how long a leap may be

-- nothing falls due before k ticks have passed
abbrev pub NothingDue : {P : Type 0} → ℕ → Machine P → Type 0
NothingDue k m = (n : ℕ) → n < k → next_item (later_by n m) ≡ None

abbrev pub SliceLasts : ℕ → ℕ → Policy → ℕ → Type 0
SliceLasts k quantum (policy.Fifo p) slice = Unit {0}
SliceLasts k quantum (policy.Rr p) slice = slice + k ≤ quantum
SliceLasts k quantum (policy.Sporadic params) slice = Unit {0}
SliceLasts k quantum (policy.Strict params) slice = Unit {0}

abbrev pub CapacityLasts : ℕ → Option ServerState → Type 0
CapacityLasts k None = Unit {0}
CapacityLasts k (Some s) = is_high s ≡ true → k ≤ s.capacity

-- the unit, slice and capacity of a thread that has taken its unit do not end before the last of k ticks
pub record Lasts {P : Type 0} (k quantum : ℕ) (th : Thread P) : Type 0 where
  pub left : k ≤ top_left th.frames
  pub slice : SliceLasts k quantum th.policy th.slice
  pub capacity : CapacityLasts k th.server

-- one of them ends with k ticks, or something falls due then
abbrev pub Stops : {P : Type 0} → ℕ → Thread P → Machine P → Type 0
Stops k th m = tick_matters (has_high th.server) m.quantum (after_ticks k th) ≡ false → has_item (later_by k m) ≡ true

-- ---- k ticks of a thread

pub charged_capacity : (k : ℕ) (s : ServerState) → (charge_ticks k s).capacity ≡ s.capacity - k
charged_capacity zero s = omega arith
charged_capacity (suc k) s = (let e = charged_capacity k s in omega (arith, e))

charged_pending : (k : ℕ) (s : ServerState) → (charge_ticks k s).pending ≡ s.pending
charged_pending zero s = refl
charged_pending (suc k) s = charged_pending k s

server_pending : (k : ℕ) (s : ServerState) → next_due (server_after k s) ≡ next_due s
server_pending k s = by_high (is_high s)
  where
    by_high : (b : Bool) → next_due (if b then charge_ticks k s else s) ≡ next_due s
    by_high true = ap (λ ps. next_due (record s { pending = ps })) (charged_pending k s)
    by_high false = refl

pub refill_same : (k : ℕ) (o : Option ServerState) → option_and_then next_due (option_map (server_after k) o) ≡ option_and_then next_due o
refill_same k None = refl
refill_same k (Some s) = server_pending k s

none_of : (a b c : Bool) → a ≡ false → b ≡ false → c ≡ false → (a || b || c) ≡ false
none_of a b c e f g = grind arith

slice_lasts : (i j quantum : ℕ) (p : Policy) (slice : ℕ) → i < j → SliceLasts (suc j) quantum p slice → slice_is_used p (slice_after (suc i) p slice) quantum ≡ false
slice_lasts i j quantum (policy.Fifo p) slice lt h = refl
slice_lasts i j quantum (policy.Rr p) slice lt h = some h
  where
    some : slice + suc j ≤ quantum → (slice + suc i == quantum) ≡ false
    some h = grind arith
slice_lasts i j quantum (policy.Sporadic params) slice lt h = refl
slice_lasts i j quantum (policy.Strict params) slice lt h = refl

capacity_lasts : (i j : ℕ) (o : Option ServerState) → i < j → CapacityLasts (suc j) o → (has_high o && capacity_in (option_map (server_after (suc i)) o) == 0) ≡ false
capacity_lasts i j None lt h = refl
capacity_lasts i j (Some s) lt h = by_high (is_high s) refl
  where
    some : (c : ℕ) → c ≡ s.capacity - suc i → suc j ≤ s.capacity → (c == 0) ≡ false
    some c e le = grind arith

    by_high : (b : Bool) → is_high s ≡ b → (is_some (if b then Some s else None) && (if b then charge_ticks (suc i) s else s).capacity == 0) ≡ false
    by_high true e = some (charge_ticks (suc i) s).capacity (charged_capacity (suc i) s) (h e)
    by_high false e = refl

module _ {P : Type 0} where
  frames_last : (i j : ℕ) (fs : List (Frame P)) → i < j → suc j ≤ top_left fs → (top_left (frames_after (suc i) fs) == 0) ≡ false
  frames_last i j [] lt le = absurd (omega arith)
  frames_last i j (f ∷ fs) lt le = some f.left lt le
    where
      some : (n : ℕ) → i < j → suc j ≤ n → (n - suc i == 0) ≡ false
      some n lt le = grind arith

  -- before the last of them none matters
  lasts_on : (i j quantum : ℕ) (th : Thread P) → i < j → Lasts (suc j) quantum th → tick_matters (has_high th.server) quantum (after_ticks (suc i) th) ≡ false
  lasts_on i j quantum th lt h =
      none_of (top_left (frames_after (suc i) th.frames) == 0) (slice_is_used th.policy (slice_after (suc i) th.policy th.slice) quantum) (has_high th.server && capacity_in (option_map (server_after (suc i)) th.server) == 0)
      (frames_last i j th.frames lt h.left) (slice_lasts i j quantum th.policy th.slice lt h.slice) (capacity_lasts i j th.server lt h.capacity)

-- ---- what falls due

filter_same : (p q : ℕ → Bool) → ((n : ℕ) → p n ≡ q n) → (ns : List ℕ) → filter p ns ≡ filter q ns
filter_same p q h [] = refl
filter_same p q h (n ∷ ns) = by_case (p n) (q n) refl refl (h n) (filter_same p q h ns)
  where
    by_case : (a b : Bool) → p n ≡ a → q n ≡ b → p n ≡ q n → filter p ns ≡ filter q ns → filter p (n ∷ ns) ≡ filter q (n ∷ ns)
    by_case true true e f same rest = rw (e, f) (ap (λ xs. n ∷ xs) rest)
    by_case false false e f same rest = rw (e, f) rest
    by_case true false e f same rest = absurd (no (sym e ∙ same ∙ f))
      where
        no : true ≡ false → ⊥
        no h = absurd (grind arith)
    by_case false true e f same rest = absurd (no (sym e ∙ same ∙ f))
      where
        no : false ≡ true → ⊥
        no h = absurd (grind arith)

module _ {P : Type 0} (bodies : Bodies P) where
  pub with_view : {X : Type 0} (view : Thread P → X) (t : ℕ) (th : Thread P) (ths : List (Thread P)) → view th ≡ view (thread_in ths t) → (u : ℕ) → view (thread_in (changed_at no_thread t (λ x. th) ths) u) ≡ view (thread_in ths u)
  with_view {X} view t th ths e u = of_two (changed_is no_thread t u (λ x. th) ths)
    where
      of_two : ((t ≡ u) × (thread_in (changed_at no_thread t (λ x. th) ths) u ≡ th)) ⊎ (thread_in (changed_at no_thread t (λ x. th) ths) u ≡ thread_in ths u) → view (thread_in (changed_at no_thread t (λ x. th) ths) u) ≡ view (thread_in ths u)
      of_two (inl k) = ap view k.1 ∙ e ∙ ap (λ (v : ℕ). view (thread_in ths v)) k.0
      of_two (inr k) = ap view k

  due_same : (kind : ℕ → Item) (due : Machine P → ℕ → Option ℕ) (ns : List ℕ) (m n : Machine P) → m.now ≡ n.now → ((u : ℕ) → due m u ≡ due n u) → due_of_kind kind due ns m ≡ due_of_kind kind due ns n
  due_same kind due ns m n e h =
      ap (map kind) (filter_same (λ (u : ℕ). has_come (due m u) m.now) (λ (u : ℕ). has_come (due n u) n.now) (λ u. ap (λ (o : Option ℕ). has_come o m.now) (h u) ∙ ap (has_come (due n u)) e) ns)

  -- a charge does not bring anything nearer
  next_after : (k t : ℕ) (m : Machine P) → next_item (head_after bodies k t m) ≡ next_item (later_by k m)
  next_after k t m =
      let n = head_after bodies k t m in
      let l = later_by k m in
      let th = after_ticks k (unit_of bodies t m) in
      let refill : (u : ℕ) → refill_due n u ≡ refill_due l u =
      with_view (λ (x : Thread P). option_and_then next_due x.server) t th m.threads (refill_same k (unit_of bodies t m).server ∙ ap (λ (p : Plans). option_and_then next_due p.server) (in_unit_plans bodies (thread_at m t))) in
      let start : (u : ℕ) → start_due n u ≡ start_due l u = with_view (λ (x : Thread P). start_in x.status) t th m.threads (ap start_in (in_unit_status bodies (thread_at m t))) in
      let timeout : (u : ℕ) → timeout_due n u ≡ timeout_due l u =
      with_view (λ (x : Thread P). option_and_then (λ (w : Waiting). w.due) (waiting_in x.status)) t th m.threads (ap (λ s. option_and_then (λ (w : Waiting). w.due) (waiting_in s)) (in_unit_status bodies (thread_at m t))) in
      let numbers' : thread_numbers n ≡ thread_numbers l = ap (range_with_len 0) (changed-length no_thread t (λ x. th) m.threads) in
      ap (λ (ns : List ℕ). first_item m.killed (due_of_kind item.Refill refill_due ns n ++ due_of_kind item.Start start_due ns n ++ due_of_kind item.Timeout timeout_due ns n ++ due_of_kind item.Timer timer_due (range_with_len 0 (length m.timers)) n)) numbers'
      ∙ ap (λ (is : List Item). first_item m.killed (is ++ due_of_kind item.Start start_due (thread_numbers l) n ++ due_of_kind item.Timeout timeout_due (thread_numbers l) n ++ due_of_kind item.Timer timer_due (range_with_len 0 (length m.timers)) n)) (due_same item.Refill refill_due (thread_numbers l) n l refl refill)
      ∙ ap (λ (is : List Item). first_item m.killed (due_of_kind item.Refill refill_due (thread_numbers l) l ++ is ++ due_of_kind item.Timeout timeout_due (thread_numbers l) n ++ due_of_kind item.Timer timer_due (range_with_len 0 (length m.timers)) n)) (due_same item.Start start_due (thread_numbers l) n l refl start)
      ∙ ap (λ (is : List Item). first_item m.killed (due_of_kind item.Refill refill_due (thread_numbers l) l ++ due_of_kind item.Start start_due (thread_numbers l) l ++ is ++ due_of_kind item.Timer timer_due (range_with_len 0 (length m.timers)) n)) (due_same item.Timeout timeout_due (thread_numbers l) n l refl timeout)

  -- ---- calm, tick by tick

  pub no_calm : (m : Machine P) → Calm bodies 0 m
  no_calm m = record { quiet = λ i small. absurd (omega arith); idle = λ i small. absurd (omega arith) }

  pub more_calm : (j : ℕ) (m : Machine P) → Calm bodies j m → unless_ended bodies (charges bodies j m).killed (charges bodies j m) ≡ false → next_item (charges bodies (suc j) m) ≡ None → Calm bodies (suc j) m
  more_calm j m c e none = record {
    quiet = λ i small. by_last (λ (n : ℕ). unless_ended bodies (charges bodies n m).killed (charges bodies n m) ≡ false) i small c.quiet e (i == j) refl;
    idle = λ i small. by_last (λ (n : ℕ). next_item (charges bodies (suc n) m) ≡ None) i small c.idle none (i == j) refl;
  }
    where
      by_last : (Law : ℕ → Type 0) (i : ℕ) → i < suc j → ((n : ℕ) → n < j → Law n) → Law j → (b : Bool) → (i == j) ≡ b → Law i
      by_last Law i small before here true same = (let it : j ≡ i = grind arith in subst Law it here)
      by_last Law i small before here false other = before i (let apart : i ≡ j → ⊥ = λ q. absurd (grind arith) in omega (arith, apart))

  pub no_plain : (m : Machine P) → PlainCalm bodies 0 m
  no_plain m = record { quiet = λ i small. absurd (omega arith); idle = λ i small. absurd (omega arith) }

  pub more_plain : (j : ℕ) (m : Machine P) → PlainCalm bodies j m → unless_ended bodies (plain_charges bodies j m).killed (plain_charges bodies j m) ≡ false → next_item (plain_charges bodies (suc j) m) ≡ None → PlainCalm bodies (suc j) m
  more_plain j m c e none = record {
    quiet = λ i small. by_last (λ (n : ℕ). unless_ended bodies (plain_charges bodies n m).killed (plain_charges bodies n m) ≡ false) i small c.quiet e (i == j) refl;
    idle = λ i small. by_last (λ (n : ℕ). next_item (plain_charges bodies (suc n) m) ≡ None) i small c.idle none (i == j) refl;
  }
    where
      by_last : (Law : ℕ → Type 0) (i : ℕ) → i < suc j → ((n : ℕ) → n < j → Law n) → Law j → (b : Bool) → (i == j) ≡ b → Law i
      by_last Law i small before here true same = (let it : j ≡ i = grind arith in subst Law it here)
      by_last Law i small before here false other = before i (let apart : i ≡ j → ⊥ = λ q. absurd (grind arith) in omega (arith, apart))

  module _ (t : ℕ) (m : Machine P) (b : Begins bodies t m) where
    thread_after : (i : ℕ) → PlainCalm bodies i m → charge_of bodies (thread_at (plain_charges bodies i m) t) ≡ after_ticks (suc i) (unit_of bodies t m)
    thread_after i c =
        sym (head_at bodies t (plain_charges bodies i m) (begins_on bodies i t m b))
        ∙ ap (λ (n : Machine P). thread_at n t) (charges_once bodies i t m b c.quiet)
        ∙ thread-same m t (λ th. after_ticks (suc i) (unit_of bodies t m)) b.here

    high_first : has_high (thread_at m t).server ≡ has_high (unit_of bodies t m).server
    high_first = sym (ap (λ (p : Plans). has_high p.server) (in_unit_plans bodies (thread_at m t)))

    high_at : (i : ℕ) → PlainCalm bodies i m → has_high (thread_at (plain_charges bodies i m) t).server ≡ has_high (unit_of bodies t m).server
    high_at zero c = high_first
    high_at (suc i) c =
        ap (λ (n : Machine P). has_high (thread_at n t).server) (is_x bodies t m b i c) ∙ high_same bodies t m b i c ∙ high_first

    quantum_at : (i : ℕ) → PlainCalm bodies i m → (plain_charges bodies i m).quantum ≡ m.quantum
    quantum_at zero c = refl
    quantum_at (suc i) c = ap (λ (n : Machine P). n.quantum) (is_x bodies t m b i c)

    -- whether the tick after i calm ones matters
    matters_is : (i : ℕ) → PlainCalm bodies i m → unless_ended bodies (plain_charges bodies i m).killed (plain_charges bodies i m) ≡ tick_matters (has_high (unit_of bodies t m).server) m.quantum (after_ticks (suc i) (unit_of bodies t m))
    matters_is i c =
        let n = plain_charges bodies i m in
        let on = begins_on bodies i t m b in
        ap (λ (k : Option ℕ). unless_ended bodies k n) on.alive
        ∙ ap (λ (o : Option ℕ). head_matters bodies o n) on.first
        ∙ ap (λ (high : Bool). tick_matters high n.quantum (charge_of bodies (thread_at n t))) (high_at i c)
        ∙ ap (λ (q : ℕ). tick_matters (has_high (unit_of bodies t m).server) q (charge_of bodies (thread_at n t))) (quantum_at i c)
        ∙ ap (tick_matters (has_high (unit_of bodies t m).server) m.quantum) (thread_after i c)

    due_at : (i : ℕ) → PlainCalm bodies i m → next_item (plain_charges bodies (suc i) m) ≡ next_item (later_by (suc i) m)
    due_at i c = ap next_item (charges_once bodies i t m b c.quiet) ∙ next_after (suc i) t m

    calm_to : (j : ℕ) → Lasts (suc j) m.quantum (unit_of bodies t m) → NothingDue (suc j) m → (i : ℕ) → i ≤ j → PlainCalm bodies i m
    calm_to j lasts none zero le = no_plain m
    calm_to j lasts none (suc i) le =
        let c = calm_to j lasts none i (omega arith) in
        more_plain i m c (matters_is i c ∙ lasts_on i j m.quantum (unit_of bodies t m) (omega arith) lasts) (due_at i c ∙ none (suc i) (omega arith))

    -- what bounds a leap of j + 1 ticks makes all but the last of them calm
    pub lasts_calm : (j : ℕ) → Lasts (suc j) m.quantum (unit_of bodies t m) → NothingDue (suc j) m → PlainCalm bodies j m
    lasts_calm j lasts none = calm_to j lasts none j (omega arith)

    -- and where one of the bounds is reached, the leap ends at an eventful instant
    pub stops_ends : (j : ℕ) → PlainCalm bodies j m → Stops (suc j) (unit_of bodies t m) m → PlainEndsAt bodies j m
    stops_ends j c stops = record { due = λ e. ap is_some (due_at j c) ∙ stops (sym (matters_is j c) ∙ e) }

  -- while nobody runs
  module _ (m : Machine P) (alive : m.killed ≡ None) (nobody : head m ≡ None) where
    idle_quiet : (i : ℕ) → unless_ended bodies (plain_charges bodies i m).killed (plain_charges bodies i m) ≡ false
    idle_quiet zero = ap (λ (k : Option ℕ). unless_ended bodies k m) alive ∙ ap (λ (o : Option ℕ). head_matters bodies o m) nobody
    idle_quiet (suc i) =
        let n : Machine P = record m { now = m.now + suc i; last = last.Idle } in
        ap (λ (x : Machine P). unless_ended bodies x.killed x) (idle_once bodies i m alive nobody)
        ∙ ap (λ (k : Option ℕ). unless_ended bodies k n) alive ∙ ap (λ (o : Option ℕ). head_matters bodies o n) nobody

    pub idle_calm : (j : ℕ) → NothingDue (suc j) m → PlainCalm bodies j m
    idle_calm j none = record { quiet = λ i small. idle_quiet i; idle = λ i small. ap next_item (idle_once bodies i m alive nobody) ∙ none (suc i) (omega arith) }

    pub idle_ends : (j : ℕ) → has_item (later_by (suc j) m) ≡ true → PlainEndsAt bodies j m
    idle_ends j due = record { due = λ e. ap has_item (idle_once bodies j m alive nobody) ∙ due }
