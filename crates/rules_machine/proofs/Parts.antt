-- What follows for a thread, by cases; and a tick in its two parts.
use Rattle.std.proofs.Common.{Bool, List, None, Option, Some, [], ap, false, refl, suc, sym, true, zero, ℕ, ◌∷◌, ◌++◌, ◌≡◌}
use Rattle.std.specs.Prelude.{not, ◌==◌, ◌&&◌}
use mathlib.Core.Path.{◌∙◌}
use Rattle.words_numbers.specs.declared.item.Item.{Item}
use Rattle.rules_machine.specs.Bodies.{Bodies}
use Rattle.rules_machine.specs.State.{Machine, Thread}
use Rattle.rules_server.specs.Server.{ServerState, is_high}
use Rattle.words_trace.specs.declared.event.Event.{Event}
use Rattle.rules_machine.specs.Lists.{is}
use Rattle.rules_machine.specs.Threads.{thread_at, thread_numbers, top_left}
use Rattle.rules_machine.specs.Turns.{Turn, turn_of}
use Rattle.rules_machine.specs.Servers.{closes, closes_of, has_run, is_strict, opens, opens_for, opens_if, plans_if, plans_server}
use Rattle.rules_machine.specs.Dispatch.{dispatch_event, dispatches, head, is_same, tells_unless}
use Rattle.rules_machine.specs.DueItems.{instant, item_bound, item_done, item_then, items_done, next_item}
use Rattle.rules_machine.specs.Units.{Following, advancing, choice, continuing, following, is_at_end}
use Rattle.rules_machine.specs.Ticks.{goes_on, prepares, runs, runs_head, unless_killed}
use Rattle.rules_machine.specs.Runs.{follow, ran, tick_begun, tick_finished, tick_of, tick_prepared, tick_run}
use Rattle.rules_machine.proofs.Behind.{behind}
use Rattle.rules_machine.proofs.BehindTicks.{goes_on_behind, runs_behind}

-- ---- the choice of what follows

module _ {P : Type 0} (th : Thread P) (Law : Following → Type 0) where
  -- The unit goes on, or the body has the next one, or the thread is ending.
  pub by_following : ((n : ℕ) → top_left th.frames ≡ suc n → Law (continuing (suc n))) → (top_left th.frames ≡ 0 → is_at_end th ≡ false → Law advancing) →
      (top_left th.frames ≡ 0 → is_at_end th ≡ true → (us : List ℕ) → th.cleanups ≡ us → Law (choice 0 true us)) → Law (following th)
  by_following on next end = by_left (top_left th.frames) refl
    where
      by_end : (b : Bool) → is_at_end th ≡ b → top_left th.frames ≡ 0 → Law (choice 0 b th.cleanups)
      by_end false e none = next none e
      by_end true e none = end none e th.cleanups refl

      by_left : (n : ℕ) → top_left th.frames ≡ n → Law (choice n (is_at_end th) th.cleanups)
      by_left zero none = by_end (is_at_end th) refl none
      by_left (suc n) some = on n some

-- ---- what begins a tick, and what finishes it

none_more : {X : Type 0} (xs : List X) → xs ++ [] ≡ xs
none_more [] = refl
none_more (x ∷ xs) = ap (λ ys. x ∷ ys) (none_more xs)

module _ {P : Type 0} (bodies : Bodies P) where
  item_then_still : (o : Option Item) (rest : Turn P → Turn P) (s : Turn P) → s.direct ≡ [] → ((x : Turn P) → x.direct ≡ [] → (rest x).direct ≡ []) → (item_then bodies o rest s).direct ≡ []
  item_then_still None rest s e still = e
  item_then_still (Some i) rest s e still = still (item_done bodies i s) refl

  items_still : (most : ℕ) (s : Turn P) → s.direct ≡ [] → (items_done bodies most s).direct ≡ []
  items_still zero s e = e
  items_still (suc most) s e = item_then_still (next_item s.machine) (items_done bodies most) s e (items_still most)

  -- the items of an instant leave no move to be made
  instant_still : (m : Machine P) → (instant bodies (turn_of m)).direct ≡ []
  instant_still m = items_still (item_bound m) (turn_of m) refl

  told_before : (s : Turn P) → s.direct ≡ [] → s ≡ behind s.events (turn_of s.machine)
  told_before s e = ap (λ direct. record s { direct = direct }) e ∙ ap (λ events. record s { direct = []; events = events }) (sym (none_more s.events))

  -- A tick is both, one behind the other.
  pub tick_in_parts : (m : Machine P) → tick_of bodies m ≡ follow (tick_begun bodies m) (tick_finished bodies)
  tick_in_parts m =
      let ready = instant bodies (turn_of m) in
      ap (λ (s : Turn P). ran (goes_on bodies s)) (told_before ready (instant_still m)) ∙ ap ran (goes_on_behind bodies ready.events (turn_of ready.machine))

-- ---- what precedes the tick of the head, and that tick

-- the moves that are to be made, and whether the process has ended
pub record Unended {P : Type 0} (s s' : Turn P) : Type 0 where
  pub direct : s'.direct ≡ s.direct
  pub killed : s'.machine.killed ≡ s.machine.killed

module _ {P : Type 0} where
  plans_unended : (t : ℕ) (o : Option ServerState) (s : Turn P) → Unended s (plans_server t o s)
  plans_unended t None s = record { direct = refl; killed = refl }
  plans_unended t (Some x) s = record { direct = refl; killed = refl }

  if_unended : (b : Bool) (t : ℕ) (s : Turn P) → Unended s (plans_if b t s)
  if_unended true t s = plans_unended t (thread_at s.machine t).server s
  if_unended false t s = record { direct = refl; killed = refl }

  then : (s x y : Turn P) → Unended s x → Unended x y → Unended s y
  then s x y a b = record { direct = b.direct ∙ a.direct; killed = b.killed ∙ a.killed }

  closes_unended : (to : Option ℕ) (ts : List ℕ) (s : Turn P) → Unended s (closes_of to ts s)
  closes_unended to [] s = record { direct = refl; killed = refl }
  closes_unended to (t ∷ ts) s =
      let next = plans_if (not (is to t) && has_run (thread_at s.machine t).server) t s in
      then s next (closes_of to ts next) (if_unended (not (is to t) && has_run (thread_at s.machine t).server) t s) (closes_unended to ts next)

  tells_unended : (b : Bool) (e : Event) (s : Turn P) → Unended s (tells_unless b e s)
  tells_unended true e s = record { direct = refl; killed = refl }
  tells_unended false e s = record { direct = refl; killed = refl }

  sent_unended : (to : Option ℕ) (s : Turn P) → Unended s (dispatches to s)
  sent_unended to s = let told = tells_unended (is_same s.machine.last to) (dispatch_event s.machine to) s in record { direct = told.direct; killed = told.killed }

  opens_if_unended : (b : Bool) (t : ℕ) (x : ServerState) (s : Turn P) → Unended s (opens_if b t x s)
  opens_if_unended true t x s = record { direct = refl; killed = refl }
  opens_if_unended false t x s = record { direct = refl; killed = refl }

  opens_for_unended : (t : ℕ) (o : Option ServerState) (s : Turn P) → Unended s (opens_for t o s)
  opens_for_unended t None s = record { direct = refl; killed = refl }
  opens_for_unended t (Some x) s = opens_if_unended (is_strict x.kind && is_high x && x.consumed == 0) t x s

  opens_unended : (to : Option ℕ) (s : Turn P) → Unended s (opens to s)
  opens_unended None s = record { direct = refl; killed = refl }
  opens_unended (Some t) s = opens_for_unended t (thread_at s.machine t).server s

  pub prepares_unended : (to : Option ℕ) (s : Turn P) → Unended s (prepares to s)
  prepares_unended to s =
      let closed = closes to s in
      let sent = dispatches to closed in
      then s closed (opens to sent) (closes_unended to (thread_numbers s.machine) s) (then closed sent (opens to sent) (sent_unended to closed) (opens_unended to sent))

module _ {P : Type 0} (bodies : Bodies P) where
  -- What finishes a tick is both, one behind the other.
  pub finished_in_parts : (m : Machine P) → tick_finished bodies m ≡ follow (tick_prepared bodies m) (tick_run bodies (head m))
  finished_in_parts m = by_end m.killed refl
    where
      to : Option ℕ
      to = head m

      by_end : (k : Option ℕ) → m.killed ≡ k →
          ran (unless_killed k (runs_head bodies) (turn_of m)) ≡ follow (ran (unless_killed k (prepares to) (turn_of m))) (tick_run bodies to)
      by_end None e =
          let ready = prepares to (turn_of m) in
          let same = prepares_unended to (turn_of m) in
          ap (λ (s : Turn P). ran (runs bodies to s)) (told_before bodies ready same.direct)
          ∙ ap ran (runs_behind bodies to ready.events (turn_of ready.machine))
          ∙ ap (λ (k : Option ℕ). follow (ran ready) (λ n. ran (unless_killed k (runs bodies to) (turn_of n)))) (sym (same.killed ∙ e))
      by_end (Some signal) e = ap (λ (k : Option ℕ). follow (ran (turn_of m)) (λ n. ran (unless_killed k (runs bodies to) (turn_of n)))) (sym e)
