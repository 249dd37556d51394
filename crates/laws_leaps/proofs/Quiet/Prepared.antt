-- A machine whose head has begun its tick: Close and Open have nothing more to do, and a charge leaves it so.
use Rattle.std.proofs.Common.{Bool, List, None, Option, Some, [], ap, arith, false, inl, inr, refl, suc, sym, true, zero, ℕ, ◌+◌, ◌∷◌, ◌≡◌, ◌⊎◌}
use Rattle.std.specs.Prelude.{not, option_map, ◌==◌, ◌&&◌, if◌then◌else◌}
use mathlib.Core.Path.{subst, ◌∙◌}
use Rattle.words_trace.specs.declared.event.Event.{Event}
use Rattle.rules_server.specs.Server.{ServerState, charge, is_high}
use Rattle.rules_machine.specs.declared.dispatch.LastDispatch.{LastDispatch}
use Rattle.rules_machine.specs.Lists.{changed_at, is}
use Rattle.rules_machine.specs.Bodies.{Bodies}
use Rattle.rules_machine.specs.State.{Machine, Thread}
use Rattle.rules_machine.specs.Threads.{no_thread, thread_at, thread_in, thread_numbers}
use Rattle.rules_machine.specs.Turns.{Turn, turn_of}
use Rattle.rules_machine.specs.Servers.{charged, closes, closes_of, has_run, is_strict, may_open, opens, opens_for, opens_if, plans_if, plans_server}
use Rattle.rules_machine.specs.Dispatch.{dispatch_event, dispatch_of, dispatches, head, is_same, tells_unless}
use Rattle.rules_machine.specs.Units.{in_unit}
use Rattle.rules_machine.specs.Ticks.{prepares, tick_charged}
use Rattle.rules_moves.proofs.Waiters.OfThreads.{changed_is}
use Rattle.rules_leaps.specs.Quiet.{after_quiet, at_head, charged_head}

-- ---- a charge alone, of a machine whose head has begun its tick

abbrev pub plain_unless_killed : {P : Type 0} → Bodies P → Option ℕ → Machine P → Machine P
plain_unless_killed bodies None m = charged_head bodies (head m) m
plain_unless_killed bodies (Some signal) m = m

abbrev pub one_plain : {P : Type 0} → Bodies P → Machine P → Machine P
one_plain bodies m = plain_unless_killed bodies m.killed m

abbrev pub plain_charges : {P : Type 0} → Bodies P → ℕ → Machine P → Machine P
plain_charges bodies zero m = m
plain_charges bodies (suc k) m = one_plain bodies (plain_charges bodies k m)

pub same_again : (o : Option ℕ) → is_same (dispatch_of o) o ≡ true
same_again None = refl
same_again (Some t) = grind arith

abbrev pub opens_more : Option ServerState → Bool
opens_more None = false
opens_more (Some x) = may_open x

module _ {P : Type 0} where
  -- no other thread has an open run, the head begins none, and it is dispatched
  pub record Begun (to : Option ℕ) (m : Machine P) : Type 0 where
    pub closed : (u : ℕ) → is to u ≡ false → has_run (thread_at m u).server ≡ false
    pub opened : (t : ℕ) → to ≡ Some t → opens_more (thread_at m t).server ≡ false
    pub sent : m.last ≡ dispatch_of to

  closes_nothing : (to : Option ℕ) (ts : List ℕ) (s : Turn P) → ((u : ℕ) → is to u ≡ false → has_run (thread_at s.machine u).server ≡ false) → closes_of to ts s ≡ s
  closes_nothing to [] s h = refl
  closes_nothing to (t ∷ ts) s h = ap (λ (b : Bool). closes_of to ts (plans_if b t s)) (by_head (is to t) refl) ∙ closes_nothing to ts s h
    where
      by_head : (b : Bool) → is to t ≡ b → (not b && has_run (thread_at s.machine t).server) ≡ false
      by_head true e = refl
      by_head false e = h t e

  opens_for_nothing : (t : ℕ) (o : Option ServerState) (s : Turn P) → opens_more o ≡ false → opens_for t o s ≡ s
  opens_for_nothing t None s e = refl
  opens_for_nothing t (Some x) s e = ap (λ (b : Bool). opens_if b t x s) e

  opens_nothing : (to : Option ℕ) (s : Turn P) → ((t : ℕ) → to ≡ Some t → opens_more (thread_at s.machine t).server ≡ false) → opens to s ≡ s
  opens_nothing None s h = refl
  opens_nothing (Some t) s h = opens_for_nothing t (thread_at s.machine t).server s (h t refl)

  sent_nothing : (to : Option ℕ) (m : Machine P) → m.last ≡ dispatch_of to → dispatches to (turn_of m) ≡ turn_of m
  sent_nothing to m e =
      ap (λ (b : Bool). record (tells_unless b (dispatch_event m to) (turn_of m)) { machine = record ((tells_unless b (dispatch_event m to) (turn_of m)).machine) { last = dispatch_of to } }) (ap (λ (l : LastDispatch). is_same l to) e ∙ same_again to)
      ∙ ap (λ (l : LastDispatch). turn_of (record m { last = l })) (sym e)

  -- nothing more precedes the tick of the head
  pub prepares_nothing : (to : Option ℕ) (m : Machine P) → Begun to m → prepares to (turn_of m) ≡ turn_of m
  prepares_nothing to m b =
      ap (λ (s : Turn P). opens to (dispatches to s)) (closes_nothing to (thread_numbers m) (turn_of m) b.closed)
      ∙ ap (opens to) (sent_nothing to m b.sent)
      ∙ opens_nothing to (turn_of m) b.opened

  pub begun_head : (to : Option ℕ) (m : Machine P) → head m ≡ to → Begun to m → at_head m ≡ m
  begun_head to m e b = ap (λ (o : Option ℕ). (prepares o (turn_of m)).machine) e ∙ ap (λ (s : Turn P). s.machine) (prepares_nothing to m b)

-- ---- after a charge

no_more : (x : ServerState) → may_open (charged x) ≡ false
no_more x = by_high (is_high x) refl
  where
    third : (a b : Bool) (n : ℕ) → (a && b && n + 1 == 0) ≡ false
    third a b n = grind arith

    second : (a b c : Bool) → b ≡ false → (a && b && c) ≡ false
    second a b c e = grind arith

    by_high : (b : Bool) → is_high x ≡ b → may_open (if b then charge x else x) ≡ false
    by_high true e = third (is_strict x.kind) (is_high (charge x)) x.consumed
    by_high false e = second (is_strict x.kind) (is_high x) (x.consumed == 0) e

charged_more : (o : Option ServerState) → opens_more (option_map charged o) ≡ false
charged_more None = refl
charged_more (Some x) = no_more x

within : {P : Type 0} (threads : List (Thread P)) (u : ℕ) (x : ServerState) → (thread_in threads u).server ≡ Some x → (f : Thread P → Thread P) → thread_in (changed_at no_thread u f threads) u ≡ f (thread_in threads u)
within [] u x e f = absurd (grind arith)
within (th ∷ ths) zero x e f = refl
within (th ∷ ths) (suc u) x e f = within ths u x e f

module _ {P : Type 0} (bodies : Bodies P) where
  -- a charge of the head
  pub charged_begun : (to : Option ℕ) (m : Machine P) → ((u : ℕ) → is to u ≡ false → has_run (thread_at m u).server ≡ false) → Begun to (charged_head bodies to m)
  charged_begun None m closed = record { closed = closed; opened = λ t e. absurd (grind arith); sent = refl }
  charged_begun (Some t) m closed = record { closed = λ u e. others u e (changed_is no_thread t u f m.threads); opened = λ u e. mine u (only e); sent = refl }
    where
      f : Thread P → Thread P
      f x = tick_charged (in_unit bodies (thread_at m t)).thread

      only : {u : ℕ} → Some t ≡ Some u → t ≡ u
      only {u} e = ap out e
        where
          out : Option ℕ → ℕ
          out None = t
          out (Some v) = v

      others : (u : ℕ) → (t == u) ≡ false → ((t ≡ u) × (thread_in (changed_at no_thread t f m.threads) u ≡ f (thread_at m t))) ⊎ (thread_in (changed_at no_thread t f m.threads) u ≡ thread_at m u) → has_run (thread_at (after_quiet bodies t m) u).server ≡ false
      others u e (inl k) = absurd (not_same k.0 e)
        where
          not_same : t ≡ u → (t == u) ≡ false → ⊥
          not_same p q = absurd (grind arith)
      others u e (inr k) = ap (λ (th : Thread P). has_run th.server) k ∙ closed u e

      charged_one : opens_more (f (thread_at m t)).server ≡ false
      charged_one = charged_more (in_unit bodies (thread_at m t)).thread.server

      here : opens_more (thread_at (after_quiet bodies t m) t).server ≡ false
      here = of_two (changed_is no_thread t t f m.threads)
        where
          by_server : (o : Option ServerState) → (thread_at m t).server ≡ o → thread_in (changed_at no_thread t f m.threads) t ≡ thread_at m t → opens_more (thread_in (changed_at no_thread t f m.threads) t).server ≡ false
          by_server None e k = ap (λ (th : Thread P). opens_more th.server) k ∙ ap opens_more e
          by_server (Some x) e k = ap (λ (th : Thread P). opens_more th.server) (within m.threads t x e f) ∙ charged_one

          of_two : ((t ≡ t) × (thread_in (changed_at no_thread t f m.threads) t ≡ f (thread_at m t))) ⊎ (thread_in (changed_at no_thread t f m.threads) t ≡ thread_at m t) → opens_more (thread_at (after_quiet bodies t m) t).server ≡ false
          of_two (inl k) = ap (λ (th : Thread P). opens_more th.server) k.1 ∙ charged_one
          of_two (inr k) = by_server (thread_at m t).server refl k

      mine : (u : ℕ) → t ≡ u → opens_more (thread_at (after_quiet bodies t m) u).server ≡ false
      mine u e = subst (λ (v : ℕ). opens_more (thread_at (after_quiet bodies t m) v).server ≡ false) e here

-- ---- what precedes the tick of the head leaves the lists

module _ {P : Type 0} where
  plans_if_lists : (b : Bool) (t : ℕ) (s : Turn P) → (plans_if b t s).machine.lists ≡ s.machine.lists
  plans_if_lists true t s = by_server (thread_at s.machine t).server
    where
      by_server : (o : Option ServerState) → (plans_server t o s).machine.lists ≡ s.machine.lists
      by_server None = refl
      by_server (Some x) = refl
  plans_if_lists false t s = refl

  closes_lists : (to : Option ℕ) (ts : List ℕ) (s : Turn P) → (closes_of to ts s).machine.lists ≡ s.machine.lists
  closes_lists to [] s = refl
  closes_lists to (t ∷ ts) s =
      let b = not (is to t) && has_run (thread_at s.machine t).server in closes_lists to ts (plans_if b t s) ∙ plans_if_lists b t s

  sent_lists : (b : Bool) (to : Option ℕ) (e : Event) (s : Turn P) → (tells_unless b e s).machine.lists ≡ s.machine.lists
  sent_lists true to e s = refl
  sent_lists false to e s = refl

  opens_lists : (to : Option ℕ) (s : Turn P) → (opens to s).machine.lists ≡ s.machine.lists
  opens_lists None s = refl
  opens_lists (Some t) s = by_server (thread_at s.machine t).server
    where
      by_may : (b : Bool) (x : ServerState) → (opens_if b t x s).machine.lists ≡ s.machine.lists
      by_may true x = refl
      by_may false x = refl

      by_server : (o : Option ServerState) → (opens_for t o s).machine.lists ≡ s.machine.lists
      by_server None = refl
      by_server (Some x) = by_may (may_open x) x

  pub prepared_lists : (to : Option ℕ) (m : Machine P) → (prepares to (turn_of m)).machine.lists ≡ m.lists
  prepared_lists to m =
      let closed = closes to (turn_of m) in
      opens_lists to (dispatches to closed) ∙ sent_lists (is_same closed.machine.last to) to (dispatch_event closed.machine to) closed ∙ closes_lists to (thread_numbers m) (turn_of m)
