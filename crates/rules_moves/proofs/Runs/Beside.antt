-- One law of ticks beside another: it may look at what the other says, and both hold of every run.
use Rattle.std.proofs.Common.{Bool, None, Option, Some, [], false, true, ℕ, ◌≡◌}
use Rattle.std.specs.Prelude.{◌==◌}
use Rattle.rules_machine.specs.Bodies.{Bodies}
use Rattle.rules_machine.specs.State.{Machine, Wait, for_end, waits_to_join}
use Rattle.rules_machine.specs.Threads.{can_run, thread_at}
use Rattle.rules_machine.specs.Settling.{settled}
use Rattle.rules_machine.specs.Turns.{Caller, Turn, becomes, changes}
use Rattle.rules_machine.specs.Servers.{has_high}
use Rattle.rules_machine.specs.Waking.{blocks, blocks_unordered}
use Rattle.rules_machine.specs.Lives.{is_nobody, with_joiner}
use Rattle.rules_machine.specs.Ticks.{ends_tick, later, tick_end}
use Rattle.rules_moves.specs.Moves.{MayRenewing, MayWait, MayWaitPlainly, Move, Runs, does, is_for_end}
use Rattle.rules_moves.proofs.Runs.Ticks.{charged_turn}
use Rattle.rules_moves.proofs.Runs.Since.{TickSince}
use Rattle.rules_moves.proofs.Runs.Preparing.{IsReady, PreparingKeeps}

module _ {P : Type 0} (bodies : Bodies P) (Rest : Machine P → Type 0) (Law : Machine P → Turn P → Type 0) (Mid Done : Bool → ℕ → Machine P → Turn P → Type 0) (End : Bool → ℕ → Machine P → Type 0)
    (Rest' : Machine P → Type 0) (Law' : Machine P → Turn P → Type 0) (Mid' Done' : Bool → ℕ → Machine P → Turn P → Type 0) (End' : Bool → ℕ → Machine P → Type 0) where
  -- the unit's own thread blocks last
  pub record StopsBeside (b : Bool) (t : ℕ) (before : Machine P) : Type 0 where
    pub done : (s : Turn P) → Mid b t before s → Mid' b t before s → Done' b t before s
    pub sleeps : (by : Caller) (wait : Wait) (due : Option ℕ) (s : Turn P) → Runs (Some t) s.machine by.thread → MayWait (Some t) s.machine by.thread wait → Mid b t before s → Mid' b t before s → Done' b t before (blocks by wait due s)
    pub dozes : (by : Caller) (wait : Wait) (due : Option ℕ) (s : Turn P) → Runs (Some t) s.machine by.thread → MayWaitPlainly (Some t) s.machine by.thread wait → is_for_end wait ≡ false → Mid b t before s → Mid' b t before s →
        Done' b t before (blocks_unordered by wait due s)
    pub joins : (by : Caller) (u : ℕ) (s : Turn P) → Runs (Some t) s.machine by.thread → (u == by.thread) ≡ false → is_nobody (thread_at s.machine u).joiner ≡ true → Mid b t before s → Mid' b t before s →
        Done' b t before (blocks_unordered by (for_end u) None (changes u (with_joiner (waits_to_join by.thread)) s))

  pub record TickBeside : Type 0 where
    pub opens : (s : Turn P) → s.direct ≡ [] → Rest s.machine → Rest' s.machine → Law' s.machine s
    pub moves : (before : Machine P) (move : Move P) (s : Turn P) → MayRenewing None move s → Law before s → Law' before s → Law' before (does bodies move s)
    pub settles : (before : Machine P) (s : Turn P) → Law before s → Law' before s → Rest' (settled before s.direct s.machine)
    pub prepares : PreparingKeeps (λ (s : Turn P). Rest' s.machine)
    pub charges : (t : ℕ) (s : Turn P) → s.direct ≡ [] → IsReady (Some t) s.machine → can_run s.machine t ≡ true → Rest s.machine → Rest' s.machine → Mid' (has_high (thread_at s.machine t).server) t s.machine (charged_turn bodies t s)
    pub unit_moves : (b : Bool) (t : ℕ) (before : Machine P) (move : Move P) (s : Turn P) → MayRenewing (Some t) move s → Mid b t before s → Mid' b t before s → Mid' b t before (does bodies move s)
    pub unit_stops : (b : Bool) (t : ℕ) (before : Machine P) → StopsBeside b t before
    pub unit_settles : (b : Bool) (t : ℕ) (before : Machine P) (s : Turn P) → Done b t before s → Done' b t before s → End' b t (settled before s.direct s.machine)
    pub ends : (b : Bool) (t : ℕ) (s : Turn P) → s.direct ≡ [] → End b t s.machine → End' b t s.machine → Law' s.machine (ends_tick (tick_end b s.machine.quantum (thread_at s.machine t)) t s)
    pub idles : (s : Turn P) → IsReady None s.machine → Rest s.machine → Rest' s.machine → Rest' (becomes later s).machine

  pub both : TickSince bodies Rest Law Mid Done End → TickBeside →
      TickSince bodies (λ m. Rest m × Rest' m) (λ before s. Law before s × Law' before s) (λ b t before s. Mid b t before s × Mid' b t before s) (λ b t before s. Done b t before s × Done' b t before s) (λ b t m. End b t m × End' b t m)
  both a k = record {
    opens = λ s still q. (a.opens s still q.0, k.opens s still q.0 q.1);
    moves = λ before move s may q. (a.moves before move s may q.0, k.moves before move s may q.0 q.1);
    joined = λ before s q. a.joined before s q.0;
    settles = λ before s q. (a.settles before s q.0, k.settles before s q.0 q.1);
    prepares = record {
      closes = λ t s run q. (a.prepares.closes t s run q.0, k.prepares.closes t s run q.1);
      sent = λ to s off q. (a.prepares.sent to s off q.0, k.prepares.sent to s off q.1);
      opens = λ t x s runs is may q. (a.prepares.opens t x s runs is may q.0, k.prepares.opens t x s runs is may q.1);
    };
    charges = λ t s still none runs q. (a.charges t s still none runs q.0, k.charges t s still none runs q.0 q.1);
    unit_moves = λ b t before move s may q. (a.unit_moves b t before move s may q.0, k.unit_moves b t before move s may q.0 q.1);
    unit_joined = λ b t before s q. a.unit_joined b t before s q.0;
    unit_stops = λ b t before. record {
      done = λ s q. ((a.unit_stops b t before).done s q.0, (k.unit_stops b t before).done s q.0 q.1);
      sleeps = λ by wait due s runs may q. ((a.unit_stops b t before).sleeps by wait due s runs may q.0, (k.unit_stops b t before).sleeps by wait due s runs may q.0 q.1);
      dozes = λ by wait due s runs may other q. ((a.unit_stops b t before).dozes by wait due s runs may other q.0, (k.unit_stops b t before).dozes by wait due s runs may other q.0 q.1);
      joins = λ by u s runs other free q. ((a.unit_stops b t before).joins by u s runs other free q.0, (k.unit_stops b t before).joins by u s runs other free q.0 q.1);
    };
    unit_settles = λ b t before s q. (a.unit_settles b t before s q.0, k.unit_settles b t before s q.0 q.1);
    ends = λ b t s still q. (a.ends b t s still q.0, k.ends b t s still q.0 q.1);
    idles = λ s none q. (a.idles s none q.0, k.idles s none q.0 q.1);
  }
