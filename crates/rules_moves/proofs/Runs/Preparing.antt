-- What precedes the tick of the head: each run that is closed, the dispatch, and the run that is opened.
use Rattle.std.proofs.Common.{Bool, List, None, Option, Some, [], ap, arith, false, inl, inr, length, refl, suc, sym, true, zero, ℕ, ◌+◌, ◌<◌, ◌≤◌, ◌∷◌, ◌≡◌, ◌⊎◌}
use Rattle.std.specs.Prelude.{map, nat_lt, not, option_map, ◌==◌, ◌&&◌, ◌||◌}
use Rattle.std.specs.List.{range_with_len}
use mathlib.Core.Path.{subst, ◌∙◌}
use Rattle.words_trace.specs.declared.event.Event.{Event}
use Rattle.words_trace.specs.declared.event.Event.TheVariants as event
use Rattle.rules_server.specs.declared.ServerKind.{ServerKind}
use Rattle.rules_server.specs.declared.ServerKind.TheVariants as kind
use Rattle.rules_server.specs.Server.{ServerState, activate, is_high, plan, replenishment}
use Rattle.rules_machine.specs.Lists.{changed_at, is}
use Rattle.rules_machine.specs.State.{Machine, Status, Thread}
use Rattle.rules_machine.specs.Threads.{can_run, is_runnable, no_thread, thread_at, thread_in, thread_numbers}
use Rattle.rules_machine.specs.Turns.{Turn, changes, tells}
use Rattle.rules_machine.specs.Servers.{activates_server, closes, closes_of, has_run, is_strict, may_open, opens, opens_for, opens_if, plans, plans_if, plans_server, with_server}
use Rattle.rules_machine.specs.Dispatch.{dispatch_event, dispatch_of, dispatches, head, is_same, tells_unless}
use Rattle.rules_machine.specs.Ticks.{prepares}
use Rattle.rules_machine.proofs.Reading.{changed-keeps, changed-length, thread-same}
use Rattle.rules_moves.proofs.Waiters.Best.{Each}
use Rattle.rules_moves.proofs.Waiters.OfThreads.{changed_is}
use Rattle.rules_moves.proofs.Runs.Listed.{AllRun}

-- ---- what the head's tick begins with

-- no other thread has an open run
abbrev pub Closed : {P : Type 0} → Option ℕ → Machine P → Type 0
Closed to m = (u : ℕ) → is to u ≡ false → has_run (thread_at m u).server ≡ false

-- The processor was given to the head, no other thread has an open run, and where a run of the head may begin, it has begun now.
pub record IsReady {P : Type 0} (to : Option ℕ) (m : Machine P) : Type 0 where
  pub closed : Closed to m
  pub sent : m.last ≡ dispatch_of to
  pub opened : (t : ℕ) (x : ServerState) → to ≡ Some t → (thread_at m t).server ≡ Some x → may_open x ≡ true → x.activation ≡ m.now

-- ---- a law that each part keeps

module _ {P : Type 0} (Law : Turn P → Type 0) where
  pub record PreparingKeeps : Type 0 where
    -- the run of a strict thread is closed
    pub closes : (t : ℕ) (s : Turn P) → has_run (thread_at s.machine t).server ≡ true → Law s → Law (plans t s)
    -- the processor is given to the head, once all other runs are closed
    pub sent : (to : Option ℕ) (s : Turn P) → Closed to s.machine → Law s → Law (dispatches to s)
    -- the run of the head is opened
    pub opens : (t : ℕ) (x : ServerState) (s : Turn P) → can_run s.machine t ≡ true → (thread_at s.machine t).server ≡ Some x → may_open x ≡ true → Law s → Law (activates_server t (Some x) s)

  module _ (all : PreparingKeeps) where
    if_keep : (b : Bool) (to : Option ℕ) (t : ℕ) (s : Turn P) → (not (is to t) && has_run (thread_at s.machine t).server) ≡ b → Law s → Law (plans_if b t s)
    if_keep true to t s e q = all.closes t s (second (not (is to t)) (has_run (thread_at s.machine t).server) e) q
      where
        second : (a b : Bool) → (a && b) ≡ true → b ≡ true
        second a b h = grind arith
    if_keep false to t s e q = q

    pub closes_keep : (to : Option ℕ) (ts : List ℕ) (s : Turn P) → Law s → Law (closes_of to ts s)
    closes_keep to [] s q = q
    closes_keep to (t ∷ ts) s q =
        let b = not (is to t) && has_run (thread_at s.machine t).server in
        closes_keep to ts (plans_if b t s) (if_keep b to t s refl q)

    opens_if_keep : (b : Bool) (t : ℕ) (x : ServerState) (s : Turn P) → may_open x ≡ b → can_run s.machine t ≡ true → (thread_at s.machine t).server ≡ Some x → Law s → Law (opens_if b t x s)
    opens_if_keep true t x s e runs is q = all.opens t x s runs is e q
    opens_if_keep false t x s e runs is q = q

    opens_for_keep : (t : ℕ) (o : Option ServerState) (s : Turn P) → (thread_at s.machine t).server ≡ o → can_run s.machine t ≡ true → Law s → Law (opens_for t o s)
    opens_for_keep t None s e runs q = q
    opens_for_keep t (Some x) s e runs q = opens_if_keep (may_open x) t x s refl runs e q

    pub opens_keep : (to : Option ℕ) (s : Turn P) → ((t : ℕ) → to ≡ Some t → can_run s.machine t ≡ true) → Law s → Law (opens to s)
    opens_keep None s runs q = q
    opens_keep (Some t) s runs q = opens_for_keep t (thread_at s.machine t).server s refl (runs t refl) q

-- ---- what they leave

-- all but servers and the last dispatch
pub record Alike {P : Type 0} (m m' : Machine P) : Type 0 where
  pub statuses : (u : ℕ) → (thread_at m' u).status ≡ (thread_at m u).status
  pub lists : m'.lists ≡ m.lists
  pub now : m'.now ≡ m.now
  pub killed : m'.killed ≡ m.killed
  pub threads : length m'.threads ≡ length m.threads

module _ {P : Type 0} (m : Machine P) (direct : List ℕ) where
  abbrev StaysAlike : Turn P → Type 0
  StaysAlike s = Alike m s.machine × (s.direct ≡ direct)

  one_alike : (t : ℕ) (f : ServerState → ServerState) (s : Turn P) → StaysAlike s → StaysAlike (changes t (with_server f) s)
  one_alike t f s q = (
    record {
      statuses = λ u. changed-keeps no_thread t u (with_server f) (λ (th : Thread P). th.status) (λ th. refl) s.machine.threads ∙ q.0.statuses u;
      lists = q.0.lists;
      now = q.0.now;
      killed = q.0.killed;
      threads = changed-length no_thread t (with_server f) s.machine.threads ∙ q.0.threads;
    },
    q.1,
  )

  told_alike : (e : Event) (s : Turn P) → StaysAlike s → StaysAlike (tells e s)
  told_alike e s q = (record { statuses = q.0.statuses; lists = q.0.lists; now = q.0.now; killed = q.0.killed; threads = q.0.threads }, q.1)

  plans_alike : (t : ℕ) (o : Option ServerState) (s : Turn P) → StaysAlike s → StaysAlike (plans_server t o s)
  plans_alike t None s q = q
  plans_alike t (Some x) s q = told_alike (event.Plan t (replenishment x).amount (replenishment x).due) (changes t (with_server plan) s) (one_alike t plan s q)

  sent_alike : (b : Bool) (to : Option ℕ) (e : Event) (s : Turn P) → StaysAlike s → StaysAlike (record s { machine = record (tells_unless b e s).machine { last = dispatch_of to }; direct = (tells_unless b e s).direct; events = (tells_unless b e s).events })
  sent_alike true to e s q = (record { statuses = q.0.statuses; lists = q.0.lists; now = q.0.now; killed = q.0.killed; threads = q.0.threads }, q.1)
  sent_alike false to e s q = (record { statuses = q.0.statuses; lists = q.0.lists; now = q.0.now; killed = q.0.killed; threads = q.0.threads }, q.1)

  pub alike : PreparingKeeps StaysAlike
  alike = record {
    closes = λ t s run q. plans_alike t (thread_at s.machine t).server s q;
    sent = λ to s off q. sent_alike (is_same s.machine.last to) to (dispatch_event s.machine to) s q;
    opens = λ t x s runs is may q. told_alike (event.Activate t x.capacity) (changes t (with_server (activate s.machine.now)) s) (one_alike t (activate s.machine.now) s q);
  }

-- ---- it is ready

abbrev pub member : ℕ → List ℕ → Bool
member t [] = false
member t (u ∷ us) = (u == t) || member t us

pub in_range : (t lo n : ℕ) → lo ≤ t → t < lo + n → member t (range_with_len lo n) ≡ true
in_range t lo zero le lt = absurd (omega arith)
in_range t lo (suc n) le lt = by_same (lo == t) refl (λ above. in_range t (lo + 1) n above (omega arith))
  where
    by_same : (c : Bool) → (lo == t) ≡ c → (lo + 1 ≤ t → member t (range_with_len (lo + 1) n) ≡ true) → member t (range_with_len lo (suc n)) ≡ true
    by_same true e rest = grind arith
    by_same false e rest = grind (arith, rest (grind arith))

planned_run : (o : Option ServerState) → has_run (option_map plan o) ≡ false
planned_run None = refl
planned_run (Some x) = by_kind x.kind
  where
    by_kind : (k : ServerKind) → (is_strict k && false) ≡ false
    by_kind kind.Sporadic = refl
    by_kind kind.Strict = refl

opened_run : (now : ℕ) (o : Option ServerState) → has_run (option_map (activate now) o) ≡ has_run o
opened_run now None = refl
opened_run now (Some x) = refl

only : {X : Type 0} {a b : X} → Some a ≡ Some b → a ≡ b
only {X} {a} {b} e = ap out e
  where
    out : Option X → X
    out None = a
    out (Some x) = x

module _ {P : Type 0} where
  abbrev pub run_at : Turn P → ℕ → Bool
  run_at s u = has_run (thread_at s.machine u).server

  -- a plan of any thread leaves no run where there was none
  pub plans_none : (t u : ℕ) (o : Option ServerState) (s : Turn P) → run_at s u ≡ false → run_at (plans_server t o s) u ≡ false
  plans_none t u None s e = e
  plans_none t u (Some x) s e = of_two (changed_is no_thread t u (with_server plan) s.machine.threads)
    where
      of_two : ((t ≡ u) × (thread_in (changed_at no_thread t (with_server plan) s.machine.threads) u ≡ with_server plan (thread_at s.machine t))) ⊎ (thread_in (changed_at no_thread t (with_server plan) s.machine.threads) u ≡ thread_at s.machine u) →
          has_run (thread_in (changed_at no_thread t (with_server plan) s.machine.threads) u).server ≡ false
      of_two (inl k) = ap (λ (th : Thread P). has_run th.server) k.1 ∙ planned_run (thread_at s.machine t).server
      of_two (inr k) = ap (λ (th : Thread P). has_run th.server) k ∙ e

  pub if_none : (b : Bool) (t u : ℕ) (s : Turn P) → run_at s u ≡ false → run_at (plans_if b t s) u ≡ false
  if_none true t u s e = plans_none t u (thread_at s.machine t).server s e
  if_none false t u s e = e

  within : (threads : List (Thread P)) (u : ℕ) (x : ServerState) → (thread_in threads u).server ≡ Some x → u < length threads
  within [] u x e = absurd (grind arith)
  within (th ∷ ths) zero x e = omega arith
  within (th ∷ ths) (suc u) x e = let k = within ths u x e in omega arith

  -- and one of the thread itself leaves none
  pub planned_none : (u : ℕ) (o : Option ServerState) (s : Turn P) → (thread_at s.machine u).server ≡ o → has_run o ≡ true → run_at (plans_server u o s) u ≡ false
  planned_none u None s e run = absurd (grind arith)
  planned_none u (Some x) s e run =
      ap (λ (th : Thread P). has_run th.server) (thread-same s.machine u (with_server plan) (within s.machine.threads u x e)) ∙ planned_run (thread_at s.machine u).server

  -- what closing one does to the run of another, or to its own
  by_same : (to : Option ℕ) (u : ℕ) → is to u ≡ false → (t : ℕ) (ts : List ℕ) (s : Turn P) → member u (t ∷ ts) ≡ true →
      let next = plans_if (not (is to t) && has_run (thread_at s.machine t).server) t s in
      ((run_at next u ≡ false) ⊎ (member u ts ≡ true) → run_at (closes_of to ts next) u ≡ false) → run_at (closes_of to ts next) u ≡ false
  by_same to u other t ts s found rest = by_eq (t == u) refl
    where
      next : Turn P
      next = plans_if (not (is to t) && has_run (thread_at s.machine t).server) t s

      here : (c : Bool) → run_at s u ≡ c → run_at (plans_if (not (is to u) && run_at s u) u s) u ≡ false
      here true e = rw (other, e) (planned_none u (thread_at s.machine u).server s refl e)
      here false e = if_none (not (is to u) && run_at s u) u u s e

      later : (a b : Bool) → a ≡ false → (a || b) ≡ true → b ≡ true
      later a b e h = grind arith

      by_eq : (c : Bool) → (t == u) ≡ c → run_at (closes_of to ts next) u ≡ false
      by_eq true e =
          let it : u ≡ t = grind arith in
          let none : run_at next u ≡ false = subst (λ (v : ℕ). run_at (plans_if (not (is to v) && has_run (thread_at s.machine v).server) v s) u ≡ false) it (here (run_at s u) refl) in
          rest (inl none)
      by_eq false e = rest (inr (later (t == u) (member u ts) e found))

  closed_of : (to : Option ℕ) (u : ℕ) → is to u ≡ false → (ts : List ℕ) (s : Turn P) → (run_at s u ≡ false) ⊎ (member u ts ≡ true) → run_at (closes_of to ts s) u ≡ false
  closed_of to u other [] s (inl none) = none
  closed_of to u other [] s (inr found) = absurd (grind arith)
  closed_of to u other (t ∷ ts) s (inl none) =
      let b = not (is to t) && has_run (thread_at s.machine t).server in closed_of to u other ts (plans_if b t s) (inl (if_none b t u s none))
  closed_of to u other (t ∷ ts) s (inr found) =
      let next = plans_if (not (is to t) && has_run (thread_at s.machine t).server) t s in
      by_same to u other t ts s found (closed_of to u other ts next)

  pub beyond : (threads : List (Thread P)) (u : ℕ) → length threads ≤ u → thread_in threads u ≡ no_thread
  beyond [] u le = refl
  beyond (th ∷ ths) zero le = absurd (omega arith)
  beyond (th ∷ ths) (suc u) le = beyond ths u (omega arith)

  -- no run of another is open once they are closed
  pub closed_all : (to : Option ℕ) (u : ℕ) (s : Turn P) → is to u ≡ false → run_at (closes to s) u ≡ false
  closed_all to u s other = by_size (nat_lt u (length s.machine.threads)) refl
    where
      by_size : (b : Bool) → nat_lt u (length s.machine.threads) ≡ b → run_at (closes to s) u ≡ false
      by_size true e = closed_of to u other (thread_numbers s.machine) s (inr (in_range u 0 (length s.machine.threads) (omega arith) (grind arith)))
      by_size false e = closed_of to u other (thread_numbers s.machine) s (inl (ap (λ (th : Thread P). has_run th.server) (beyond s.machine.threads u (grind arith))))

-- ---- the whole of it

pub alike_runs : {P : Type 0} (m m' : Machine P) (t : ℕ) → Alike m m' → can_run m t ≡ true → can_run m' t ≡ true
alike_runs m m' t a runs = ap is_runnable (a.statuses t) ∙ runs

each_of : {X : Type 0} (A B : X → Type 0) → ((x : X) → A x → B x) → (xs : List X) → Each A xs → Each B xs
each_of A B h [] each = tt
each_of A B h (x ∷ xs) each = (h x each.0, each_of A B h xs each.1)

pub alike_listed : {P : Type 0} (m m' : Machine P) → Alike m m' → AllRun m m.lists → AllRun m' m'.lists
alike_listed {P} m m' a listed =
    let here : AllRun m' m.lists = each_of (Each (λ (t : ℕ). can_run m t ≡ true)) (Each (λ (t : ℕ). can_run m' t ≡ true))
    (λ ts. each_of (λ (t : ℕ). can_run m t ≡ true) (λ (t : ℕ). can_run m' t ≡ true) (λ t. alike_runs m m' t a) ts) m.lists listed in
    subst (AllRun m') (sym a.lists) here

module _ {P : Type 0} (Law : Turn P → Type 0) (all : PreparingKeeps Law) where
  abbrev Beside : Machine P → List ℕ → Turn P → Type 0
  Beside m direct s = Law s × StaysAlike m direct s

  beside : (m : Machine P) (direct : List ℕ) → PreparingKeeps (Beside m direct)
  beside m direct = record {
    closes = λ t s run q. (all.closes t s run q.0, (alike m direct).closes t s run q.1);
    sent = λ to s off q. (all.sent to s off q.0, (alike m direct).sent to s off q.1);
    opens = λ t x s runs is may q. (all.opens t x s runs is may q.0, (alike m direct).opens t x s runs is may q.1);
  }

  -- The law holds after it, and all but servers and the last dispatch is as it was.
  pub prepares_keep : (to : Option ℕ) (s : Turn P) → ((t : ℕ) → to ≡ Some t → can_run s.machine t ≡ true) → Law s → Law (prepares to s) × Alike s.machine (prepares to s).machine × ((prepares to s).direct ≡ s.direct)
  prepares_keep to s runs q =
      let k = beside s.machine s.direct in
      let start : Beside s.machine s.direct s = (q, (record { statuses = λ u. refl; lists = refl; now = refl; killed = refl; threads = refl }, refl)) in
      let closed : Beside s.machine s.direct (closes to s) = closes_keep (Beside s.machine s.direct) k to (thread_numbers s.machine) s start in
      let sent' : Beside s.machine s.direct (dispatches to (closes to s)) = k.sent to (closes to s) (λ u other. closed_all to u s other) closed in
      let opened : Beside s.machine s.direct (prepares to s) = opens_keep (Beside s.machine s.direct) k to (dispatches to (closes to s)) (λ t e. alike_runs s.machine (dispatches to (closes to s)).machine t sent'.1.0 (runs t e)) sent' in
      (opened.0, opened.1.0, opened.1.1)

-- ---- the opening

module _ {P : Type 0} where
  told_machine : (b : Bool) (e : Event) (s : Turn P) → (tells_unless b e s).machine ≡ s.machine
  told_machine true e s = refl
  told_machine false e s = refl

  sent_threads : (to : Option ℕ) (s : Turn P) → (dispatches to s).machine.threads ≡ s.machine.threads
  sent_threads to s = ap (λ (m : Machine P). m.threads) (told_machine (is_same s.machine.last to) (dispatch_event s.machine to) s)

  opens_if_run : (b : Bool) (t u : ℕ) (x : ServerState) (s : Turn P) → run_at (opens_if b t x s) u ≡ run_at s u
  opens_if_run true t u x s = of_two (changed_is no_thread t u (with_server (activate s.machine.now)) s.machine.threads)
    where
      f : Thread P → Thread P
      f = with_server (activate s.machine.now)

      of_two : ((t ≡ u) × (thread_in (changed_at no_thread t (with_server (activate s.machine.now)) s.machine.threads) u ≡ with_server (activate s.machine.now) (thread_at s.machine t))) ⊎ (thread_in (changed_at no_thread t (with_server (activate s.machine.now)) s.machine.threads) u ≡ thread_at s.machine u) →
          has_run (thread_in (changed_at no_thread t (with_server (activate s.machine.now)) s.machine.threads) u).server ≡ run_at s u
      of_two (inl k) = ap (λ (th : Thread P). has_run th.server) k.1 ∙ opened_run s.machine.now (thread_at s.machine t).server ∙ ap (λ (v : ℕ). run_at s v) k.0
      of_two (inr k) = ap (λ (th : Thread P). has_run th.server) k
  opens_if_run false t u x s = refl

  opens_for_run : (t u : ℕ) (o : Option ServerState) (s : Turn P) → run_at (opens_for t o s) u ≡ run_at s u
  opens_for_run t u None s = refl
  opens_for_run t u (Some x) s = opens_if_run (may_open x) t u x s

  opens_run : (to : Option ℕ) (u : ℕ) (s : Turn P) → run_at (opens to s) u ≡ run_at s u
  opens_run None u s = refl
  opens_run (Some t) u s = opens_for_run t u (thread_at s.machine t).server s

  opened_if : (b : Bool) (t : ℕ) (y : ServerState) (s : Turn P) → (thread_at s.machine t).server ≡ Some y → may_open y ≡ b → (x : ServerState) → (thread_at (opens_if b t y s).machine t).server ≡ Some x → may_open x ≡ true → x.activation ≡ (opens_if b t y s).machine.now
  opened_if true t y s is e x k may =
      let same : (thread_at (opens_if true t y s).machine t).server ≡ Some (activate s.machine.now y) =
      ap (λ (th : Thread P). th.server) (thread-same s.machine t (with_server (activate s.machine.now)) (within s.machine.threads t y is)) ∙ ap (option_map (activate s.machine.now)) is in
      sym (ap (λ (z : ServerState). z.activation) (only (sym same ∙ k)))
  opened_if false t y s is e x k may = let it : y ≡ x = only (sym is ∙ k) in let no : may_open x ≡ false = sym (ap may_open it) ∙ e in absurd (grind arith)

  opened_for : (t : ℕ) (o : Option ServerState) (s : Turn P) → (thread_at s.machine t).server ≡ o → (x : ServerState) → (thread_at (opens_for t o s).machine t).server ≡ Some x → may_open x ≡ true → x.activation ≡ (opens_for t o s).machine.now
  opened_for t None s e x k may = absurd (grind arith)
  opened_for t (Some y) s e x k may = opened_if (may_open y) t y s e refl x k may

  opened_at : (t : ℕ) (s : Turn P) (x : ServerState) → (thread_at (opens (Some t) s).machine t).server ≡ Some x → may_open x ≡ true → x.activation ≡ (opens (Some t) s).machine.now
  opened_at t s x k may = opened_for t (thread_at s.machine t).server s refl x k may

  opens_last_for : (t : ℕ) (o : Option ServerState) (s : Turn P) → (opens_for t o s).machine.last ≡ s.machine.last
  opens_last_for t None s = refl
  opens_last_for t (Some x) s = by_may (may_open x)
    where
      by_may : (b : Bool) → (opens_if b t x s).machine.last ≡ s.machine.last
      by_may true = refl
      by_may false = refl

  opens_last : (to : Option ℕ) (s : Turn P) → (opens to s).machine.last ≡ s.machine.last
  opens_last None s = refl
  opens_last (Some t) s = opens_last_for t (thread_at s.machine t).server s

  -- What precedes the tick of the head makes all ready for it.
  pub prepared : (to : Option ℕ) (s : Turn P) → IsReady to (prepares to s).machine
  prepared to s = record {
    closed = λ u other.
        let sent = dispatches to (closes to s) in
        opens_run to u sent ∙ ap (λ (threads : List (Thread P)). has_run (thread_in threads u).server) (sent_threads to (closes to s)) ∙ closed_all to u s other;
    sent = opens_last to (dispatches to (closes to s));
    opened = λ t x e k may. by_head to e k may;
  }
    where
      by_head : (o : Option ℕ) → {t : ℕ} → {x : ServerState} → o ≡ Some t → (thread_at (opens o (dispatches o (closes o s))).machine t).server ≡ Some x → may_open x ≡ true → x.activation ≡ (opens o (dispatches o (closes o s))).machine.now
      by_head None e k may = absurd (grind arith)
      by_head (Some v) {t} {x} e k may =
          let it : v ≡ t = only e in
          let sent = dispatches (Some v) (closes (Some v) s) in
          opened_at v sent x (subst (λ (w : ℕ). (thread_at (opens (Some v) sent).machine w).server ≡ Some x) (sym it) k) may
