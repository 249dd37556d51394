-- A law of the machine alone that every move keeps, beside the laws of its ticks.
use Rattle.std.proofs.Common.{Bool, List, None, Option, Some, ap, sym, true, ℕ, ◌+◌, ◌≡◌}
use mathlib.Core.Path.{subst, ◌∙◌}
use Rattle.rules_server.specs.Server.{ServerState}
use Rattle.rules_machine.specs.declared.dispatch.LastDispatch.{LastDispatch}
use Rattle.rules_machine.specs.Bodies.{Bodies}
use Rattle.rules_machine.specs.State.{Machine, Wait, for_end, waits_to_join}
use Rattle.rules_machine.specs.Threads.{can_run, thread_at}
use Rattle.rules_machine.specs.Settling.{settled}
use Rattle.rules_machine.specs.Turns.{Caller, Turn, changes}
use Rattle.rules_machine.specs.Servers.{activates_server}
use Rattle.rules_machine.specs.Waking.{blocks, blocks_unordered}
use Rattle.rules_machine.specs.Lives.{with_joiner}
use Rattle.rules_machine.specs.Dispatch.{dispatch_of, dispatches}
use Rattle.rules_machine.specs.Units.{in_unit}
use Rattle.rules_machine.specs.Ticks.{TickEnd, ends_tick, planning, tick_charged}
use Rattle.rules_moves.specs.Moves.{MayRenewing, MayWaitPlainly, Move, does}
use Rattle.rules_moves.proofs.Runs.Ticks.{dispatched}
use Rattle.rules_moves.proofs.Runs.Beside.{TickBeside}

module _ {P : Type 0} (bodies : Bodies P) where
  pub record MachineLaw (Q : Machine P → Type 0) : Type 0 where
    pub moves : (who : Option ℕ) (move : Move P) (s : Turn P) → MayRenewing who move s → Q s.machine → Q (does bodies move s).machine
    pub sleeps : (by : Caller) (wait : Wait) (due : Option ℕ) (s : Turn P) → can_run s.machine by.thread ≡ true → Q s.machine → Q (blocks by wait due s).machine
    pub dozes : (who : Option ℕ) (by : Caller) (wait : Wait) (due : Option ℕ) (s : Turn P) → MayWaitPlainly who s.machine by.thread wait → Q s.machine → Q (blocks_unordered by wait due s).machine
    pub joins : (by : Caller) (u : ℕ) (s : Turn P) → can_run s.machine by.thread ≡ true → Q s.machine → Q (blocks_unordered by (for_end u) None (changes u (with_joiner (waits_to_join by.thread)) s)).machine
    -- other lists, another instant and another last dispatch
    pub elsewhere : (m : Machine P) (now : ℕ) (last : LastDispatch) (lists : List (List ℕ)) → Q m → Q (record m { now = now; last = last; lists = lists })
    pub charged : (t : ℕ) (s : Turn P) → can_run s.machine t ≡ true → Q s.machine → Q (changes t (λ th. tick_charged (in_unit bodies (thread_at s.machine t)).thread) s).machine
    pub ended : (e : TickEnd) (t : ℕ) (s : Turn P) → Q s.machine → Q (ends_tick e t s).machine
    -- the run of the head is opened
    pub opened : (t : ℕ) (x : ServerState) (s : Turn P) → (thread_at s.machine t).server ≡ Some x → Q s.machine → Q (activates_server t (Some x) s).machine

  module _ (Rest : Machine P → Type 0) (Law : Machine P → Turn P → Type 0) (Mid Done : Bool → ℕ → Machine P → Turn P → Type 0) (End : Bool → ℕ → Machine P → Type 0) (Q : Machine P → Type 0) where
    abbrev pub Holds : Machine P → Turn P → Type 0
    Holds before s = Q s.machine

    pub law_beside : MachineLaw Q → TickBeside bodies Rest Law Mid Done End Q Holds (λ b t. Holds) (λ b t. Holds) (λ b t. Q)
    law_beside k = record {
      opens = λ s still p q. q;
      moves = λ before move s may p q. k.moves None move s may q;
      settles = λ before s p q. k.elsewhere s.machine s.machine.now s.machine.last (settled before s.direct s.machine).lists q;
      prepares = record {
        closes = λ t s run q. k.ended planning t s q;
        sent = λ to s off q. on to s q;
        opens = λ t x s runs is may q. k.opened t x s is q;
      };
      charges = λ t s still ready runs p q.
          let here = changes t (λ th. tick_charged (in_unit bodies (thread_at s.machine t)).thread) s in
          k.elsewhere here.machine (here.machine.now + 1) here.machine.last here.machine.lists (k.charged t s runs q);
      unit_moves = λ b t before move s may p q. k.moves (Some t) move s may q;
      unit_stops = λ b t before. record {
        done = λ s p q. q;
        sleeps = λ by wait due s runs may p q. k.sleeps by wait due s runs.0 q;
        dozes = λ by wait due s runs may other p q. k.dozes (Some t) by wait due s may q;
        joins = λ by u s runs other free p q. k.joins by u s runs.0 q;
      };
      unit_settles = λ b t before s p q. k.elsewhere s.machine s.machine.now s.machine.last (settled before s.direct s.machine).lists q;
      ends = λ b t s still p q. k.ended _ t s q;
      idles = λ s ready p q. k.elsewhere s.machine (s.machine.now + 1) s.machine.last s.machine.lists q;
    }
      where
        on : (to : Option ℕ) (s : Turn P) → Q s.machine → Q (dispatches to s).machine
        on to s q = subst Q (sym (dispatched to s)) (k.elsewhere s.machine s.machine.now (dispatch_of to) s.machine.lists q)
