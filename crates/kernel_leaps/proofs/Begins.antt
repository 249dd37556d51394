-- After some ticks of the head at once, nothing more precedes its next tick.
use Rattle.std.proofs.Common.{Bool, List, [], suc, zero, ◌∷◌, ◌-◌, None, Option, Some, ap, arith, false, inl, inr, refl, subst, true, ℕ, ◌+◌, ◌≤◌, ◌≡◌, ◌⊎◌, ◌∙◌}
use Rattle.std.specs.Prelude.{option_map, ◌==◌, ◌&&◌, if◌then◌else◌}
use Rattle.rules_bodies.specs.declared.cursor.Cursor.{Cursor}
use Rattle.rules_server.specs.Server.{ServerState, charge_ticks, is_high}
use Rattle.rules_server.proofs.Laws.{charge_ticks_is}
use Rattle.rules_machine.specs.Bodies.{Bodies}
use Rattle.rules_machine.specs.Lists.{changed_at}
use Rattle.rules_machine.specs.Servers.{has_run, is_strict, may_open}
use Rattle.rules_machine.specs.State.{Machine, Thread}
use Rattle.rules_machine.specs.Threads.{no_thread, thread_at, thread_in}
use Rattle.rules_machine.specs.Units.{in_unit}
use Rattle.rules_moves.proofs.Runs.Preparing.{IsReady}
use Rattle.rules_moves.proofs.Waiters.OfThreads.{changed_is}
use Rattle.rules_leaps.specs.Quiet.{after_ticks, server_after}
use Rattle.laws_leaps.proofs.Leaps.Going.{gone}
use Rattle.laws_leaps.proofs.Quiet.Prepared.{Begun, opens_more}

-- a server that was charged opens no run
after_none : (k : ℕ) (x : ServerState) → 1 ≤ k → may_open (server_after k x) ≡ false
after_none k x some = by_high (is_high x) refl
  where
    third : (a b : Bool) (n : ℕ) → 1 ≤ k → (a && b && n + k == 0) ≡ false
    third a b n some = grind arith

    second : (a b c : Bool) → b ≡ false → (a && b && c) ≡ false
    second a b c e = grind arith

    charged : may_open (charge_ticks k x) ≡ false
    charged = ap may_open (charge_ticks_is k x) ∙ third (is_strict x.kind) (is_high (record x { capacity = x.capacity - k; consumed = x.consumed + k; high_total = x.high_total + k })) x.consumed some

    by_high : (b : Bool) → is_high x ≡ b → may_open (if b then charge_ticks k x else x) ≡ false
    by_high true e = charged
    by_high false e = second (is_strict x.kind) (is_high x) (x.consumed == 0) e

after_more : (k : ℕ) (o : Option ServerState) → 1 ≤ k → opens_more (option_map (server_after k) o) ≡ false
after_more k None some = refl
after_more k (Some x) some = after_none k x some

-- a thread with a server is there
within : (threads : List (Thread Cursor)) (u : ℕ) (x : ServerState) → (thread_in threads u).server ≡ Some x → (g : Thread Cursor → Thread Cursor) → thread_in (changed_at no_thread u g threads) u ≡ g (thread_in threads u)
within [] u x e g = absurd (grind arith)
within (th ∷ ths) zero x e g = refl
within (th ∷ ths) (suc u) x e g = within ths u x e g

module _ (bodies : Bodies Cursor) (t k : ℕ) (m : Machine Cursor) (some : 1 ≤ k) (ready : IsReady (Some t) m) where
  pub gone_begun : Begun (Some t) (gone bodies t k m)
  gone_begun = record {
    closed = λ u other. others u other (changed_is no_thread t u (λ th. after_ticks k (in_unit bodies (thread_at m t)).thread) m.threads);
    opened = λ u e. mine u (only e);
    sent = ready.sent;
  }
    where
      only : {u : ℕ} → Some t ≡ Some u → t ≡ u
      only {u} e = ap out e
        where
          out : Option ℕ → ℕ
          out None = t
          out (Some v) = v

      not_same : (u : ℕ) → t ≡ u → (t == u) ≡ false → ⊥
      not_same u p q = grind arith

      others : (u : ℕ) → (t == u) ≡ false → ((t ≡ u) × (thread_in (changed_at no_thread t (λ th. after_ticks k (in_unit bodies (thread_at m t)).thread) m.threads) u ≡ after_ticks k (in_unit bodies (thread_at m t)).thread)) ⊎ (thread_in (changed_at no_thread t (λ th. after_ticks k (in_unit bodies (thread_at m t)).thread) m.threads) u ≡ thread_at m u) →
          has_run (thread_at (gone bodies t k m) u).server ≡ false
      others u e (inl h) = absurd (not_same u h.0 e)
      others u e (inr h) = ap (λ (th : Thread Cursor). has_run th.server) h ∙ ready.closed u e

      by_server : (o : Option ServerState) → (thread_at m t).server ≡ o → thread_in (changed_at no_thread t (λ th. after_ticks k (in_unit bodies (thread_at m t)).thread) m.threads) t ≡ thread_at m t → opens_more (thread_at (gone bodies t k m) t).server ≡ false
      by_server None e h = ap (λ (th : Thread Cursor). opens_more th.server) h ∙ ap opens_more e
      by_server (Some x) e h = ap (λ (th : Thread Cursor). opens_more th.server) (within m.threads t x e (λ th. after_ticks k (in_unit bodies (thread_at m t)).thread)) ∙ after_more k (in_unit bodies (thread_at m t)).thread.server some

      here : ((t ≡ t) × (thread_in (changed_at no_thread t (λ th. after_ticks k (in_unit bodies (thread_at m t)).thread) m.threads) t ≡ after_ticks k (in_unit bodies (thread_at m t)).thread)) ⊎ (thread_in (changed_at no_thread t (λ th. after_ticks k (in_unit bodies (thread_at m t)).thread) m.threads) t ≡ thread_at m t) →
          opens_more (thread_at (gone bodies t k m) t).server ≡ false
      here (inl h) = ap (λ (th : Thread Cursor). opens_more th.server) h.1 ∙ after_more k (in_unit bodies (thread_at m t)).thread.server some
      here (inr h) = by_server (thread_at m t).server refl h

      mine : (u : ℕ) → t ≡ u → opens_more (thread_at (gone bodies t k m) u).server ≡ false
      mine u e = subst (λ (v : ℕ). opens_more (thread_at (gone bodies t k m) v).server ≡ false) e (here (changed_is no_thread t t (λ th. after_ticks k (in_unit bodies (thread_at m t)).thread) m.threads))
