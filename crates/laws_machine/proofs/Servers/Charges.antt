-- What a tick, its own or another's, leaves of a thread's server between two units.
use Rattle.std.proofs.Common.{Bool, List, None, Option, Some, [], ap, arith, false, refl, suc, sym, true, zero, ℕ, ◌+◌, ◌<◌, ◌≤◌, ◌∷◌, ◌≡◌}
use Rattle.std.specs.Prelude.{is_some, nat_lt, option_map, ◌&&◌, if◌then◌else◌}
use mathlib.Core.Path.{◌∙◌}
use Rattle.words_script.specs.declared.policy.Policy.{Policy}
use Rattle.rules_server.specs.declared.Replenish.{Replenish}
use Rattle.rules_server.specs.declared.ServerKind.TheVariants as kind
use Rattle.rules_server.specs.Server.{ServerState, charge, is_high}
use Rattle.rules_machine.specs.State.{Status, Waiting, blocked, dormant, ended, runnable}
use Rattle.rules_machine.specs.Threads.{is_live, is_runnable}
use Rattle.rules_machine.specs.Servers.{charged, has_high, has_run, is_strict, may_open}
use Rattle.rules_machine.specs.GoodState.{has_server_policy}
use Rattle.rules_moves.proofs.Waiters.Best.{Each}
use Rattle.laws_machine.proofs.Servers.Changed.{charged_in}
use Rattle.laws_machine.proofs.Servers.OfThreads.{ThreadIn, only, with_other}
use Rattle.laws_machine.proofs.Servers.Right.{ServerIn, Sound}
use Rattle.laws_machine.proofs.Servers.Alert.{NoneOf, contra}

each_weaker : {X : Type 0} (A B : X → Type 0) → ((x : X) → A x → B x) → (xs : List X) → Each A xs → Each B xs
each_weaker A B h [] each = tt
each_weaker A B h (x ∷ xs) each = (h x each.0, each_weaker A B h xs each.1)

sound_later : (now : ℕ) (s : ServerState) → Sound now s → Sound (now + 1) s
sound_later now s h = record {
  budget = h.budget;
  amounts = h.amounts;
  few = h.few;
  serves = h.serves;
  rising = h.rising;
  within = each_weaker (λ (r : Replenish). r.due < now + s.params.period) (λ (r : Replenish). r.due < now + 1 + s.params.period) (λ r k. omega arith) s.pending h.within;
  activated = let old = h.activated in omega arith;
}

-- another thread runs, or none: no run of a strict server is open
server_later : (now : ℕ) (status : Status) (s : ServerState) → has_run (Some s) ≡ false → ServerIn false now status s → ServerIn false (now + 1) status s
server_later now status s closed h = record {
  sound = sound_later now s h.sound;
  consumed = λ some. let c = h.consumed some in record { fresh = c.fresh; before = let old = c.before in omega arith; room = c.room; unbroken = λ k. absurd (opens k some); runs = c.runs };
  ready = h.ready;
}
  where
    opens : s.kind ≡ kind.Strict → 1 ≤ s.consumed → ⊥
    opens k some = let run : (is_strict s.kind && nat_lt 0 s.consumed) ≡ true = two (is_strict s.kind) (nat_lt 0 s.consumed) (ap is_strict k) (grind arith) in contra run closed
      where
        two : (a b : Bool) → a ≡ true → b ≡ true → (a && b) ≡ true
        two a b p q = grind arith

-- a tick of its own
server_charged : (now : ℕ) (status : Status) (s : ServerState) → is_runnable status ≡ true → (may_open s ≡ true → s.activation ≡ now) → ServerIn false now status s → ServerIn true (now + 1) status (charged s)
server_charged now status s runs opened h = by_high (is_high s) refl
  where
    none : is_high s ≡ false → 1 ≤ s.consumed → ⊥
    none low some = contra ((h.consumed some).runs refl).1 low

    by_high : (b : Bool) → is_high s ≡ b → ServerIn true (now + 1) status (if b then charge s else s)
    by_high true e = charged_in now status s runs e opened h
    by_high false e = record { sound = sound_later now s h.sound; consumed = λ some. absurd (none e some); ready = λ k r high. absurd (contra high e) }

charged_params : (x : ServerState) → ((charged x).params ≡ x.params) × ((charged x).kind ≡ x.kind)
charged_params x = by_high (is_high x)
  where
    by_high : (b : Bool) → ((if b then charge x else x).params ≡ x.params) × ((if b then charge x else x).kind ≡ x.kind)
    by_high true = (refl, refl)
    by_high false = (refl, refl)

pub thread_later : (now : ℕ) (status : Status) (rule : Policy) (server : Option ServerState) → has_run server ≡ false → ThreadIn false now status rule server → ThreadIn false (now + 1) status rule server
thread_later now status rule server closed h = record { having = h.having; serves = h.serves; parameters = h.parameters; each = λ x k. server_later now status x (sym (ap has_run k) ∙ closed) (h.each x k) }

pub thread_charged : (now : ℕ) (status : Status) (rule : Policy) (server : Option ServerState) → is_runnable status ≡ true → ((x : ServerState) → server ≡ Some x → may_open x ≡ true → x.activation ≡ now) → ThreadIn false now status rule server →
    ThreadIn true (now + 1) status rule (option_map charged server)
thread_charged now status rule server runs opened h = with_other false true now (now + 1) status status rule server charged refl charged_params (λ x k g. server_charged now status x runs (opened x k) g) h

-- a tick that was not charged finds nothing consumed
pub idle_charged : (now : ℕ) (status : Status) (rule : Policy) (server : Option ServerState) → ThreadIn false now status rule server → has_high server ≡ false → NoneOf (option_map charged server)
idle_charged now status rule None h low x e = absurd (grind arith)
idle_charged now status rule (Some y) h low x e = by_high (is_high y) refl low e
  where
    by_size : (n : ℕ) → y.consumed ≡ n → is_high y ≡ false → y.consumed ≡ 0
    by_size zero k low = k
    by_size (suc n) k low = absurd (contra (((h.each y refl).consumed (omega arith)).runs refl).1 low)

    by_high : (b : Bool) → is_high y ≡ b → is_some (if b then Some y else None) ≡ false → Some (if b then charge y else y) ≡ Some x → x.consumed ≡ 0
    by_high true k low e = absurd (grind arith)
    by_high false k low e = let it : y ≡ x = only e in ap (λ (z : ServerState). z.consumed) (sym it) ∙ by_size y.consumed refl k

-- the thread blocks, in its own unit
pub thread_sleeps : (own : Bool) (now : ℕ) (status : Status) (w : Waiting) (rule : Policy) (server : Option ServerState) → own ≡ true → is_runnable status ≡ true → ThreadIn own now status rule server → ThreadIn own now (blocked w) rule server
thread_sleeps own now status w rule server mine runs h = record {
  having = h.having ∙ ap (λ (live : Bool). live && has_server_policy rule) (live status runs);
  serves = h.serves;
  parameters = h.parameters;
  each = λ x k. let g = h.each x k in record {
    sound = g.sound;
    consumed = λ some. let c = g.consumed some in record { fresh = c.fresh; before = c.before; room = c.room; unbroken = c.unbroken; runs = λ other. absurd (contra mine other) };
    ready = λ sort r high. absurd (grind arith);
  };
}
  where
    live : (status : Status) → is_runnable status ≡ true → is_live status ≡ is_live (blocked w)
    live (dormant at) p = absurd (grind arith)
    live runnable p = refl
    live (blocked v) p = absurd (grind arith)
    live ended p = absurd (grind arith)
