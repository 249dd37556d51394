-- No pending signal is an ignored one: every move keeps it.
use Rattle.std.proofs.Common.{Bool, List, None, Option, Some, [], ap, false, refl, sym, true, ℕ, ◌∷◌, ◌++◌, ◌≡◌}
use mathlib.Core.Path.{subst}
use Rattle.words_trace.specs.declared.event.Event.TheVariants as event
use Rattle.rules_server.specs.Server.{ServerState}
use Rattle.rules_machine.specs.declared.signal.SigAction.{SigAction}
use Rattle.rules_machine.specs.Bodies.{Bodies}
use Rattle.rules_machine.specs.State.{Machine, SignalRecord}
use Rattle.rules_machine.specs.Threads.{action_of, can_run, thread_at}
use Rattle.rules_machine.specs.Turns.{Turn, changes, moves_if, tells}
use Rattle.rules_machine.specs.Servers.{plans_server}
use Rattle.rules_machine.specs.Signals.{is_ignore}
use Rattle.rules_machine.specs.Queues.{record_of_notification}
use Rattle.rules_machine.specs.Dispatch.{dispatches}
use Rattle.rules_machine.specs.Ticks.{TickEnd, ends_tick, exhausting, nothing, planning, slicing, without_slice}
use Rattle.rules_moves.specs.Moves.{MayRenewing, Move, begins, blocks_for, blocks_plainly, does, fires, recasts, record_in, record_out, records_of_ended, refills_one, renews_with, wakes_with}
use Rattle.rules_moves.proofs.Waiters.Best.{Each}
use Rattle.rules_moves.proofs.Calls.Commuting.{wakes_telling_part}
use Rattle.rules_moves.proofs.Waiters.AfterMoves.{part_begun, part_refill, part_renewed}
use Rattle.rules_moves.proofs.Runs.Listed.{each_kept}
use Rattle.rules_moves.proofs.Runs.Ticks.{dispatched}
use Rattle.rules_moves.proofs.Runs.Beside.{TickBeside}
use Rattle.laws_machine.proofs.Lists.Kept.{Placed, Placing}

-- pending signals, and what each signal does
pub record Sent : Type 0 where
  pub pending : List SignalRecord
  pub actions : List SigAction

abbrev pub sent : {P : Type 0} → Machine P → Sent
sent m = record { pending = m.pending; actions = m.actions }

abbrev pub Heard : {P : Type 0} → Machine P → Type 0
Heard m = Each (λ (r : SignalRecord). is_ignore (action_of m r.signal) ≡ false) m.pending

pub each_last : {X : Type 0} (Law : X → Type 0) (xs : List X) (x : X) → Each Law xs → Law x → Each Law (xs ++ x ∷ [])
each_last Law [] x each h = (h, tt)
each_last Law (y ∷ ys) x each h = (each.0, each_last Law ys x each.1 h)

module _ {P : Type 0} where
  pub same_heard : (m n : Machine P) → sent n ≡ sent m → Heard m → Heard n
  same_heard m n e q = subst (λ (p : Sent). Each (λ (r : SignalRecord). is_ignore (action_of (record m { actions = p.actions }) r.signal) ≡ false) p.pending) (sym e) q

module _ {P : Type 0} (bodies : Bodies P) (who : Option ℕ) where
  abbrev Law : Turn P → Type 0
  Law s = Heard s.machine

  pub heard_keep : (move : Move P) (s : Turn P) → MayRenewing who move s → Heard s.machine → Heard (does bodies move s).machine
  heard_keep (record_in r) s may q = each_last (λ (r : SignalRecord). is_ignore (action_of s.machine r.signal) ≡ false) s.machine.pending (record r { serial = s.machine.next_serial }) q may.1
  heard_keep (fires p r) s may q =
      each_last (λ (r : SignalRecord). is_ignore (action_of s.machine r.signal) ≡ false) s.machine.pending (record (record_of_notification p r) { serial = s.machine.next_serial }) q may.1
  heard_keep (record_out r) s may q = each_kept (λ (r : SignalRecord). is_ignore (action_of s.machine r.signal) ≡ false) _ s.machine.pending q
  heard_keep (records_of_ended t) s may q = each_kept (λ (r : SignalRecord). is_ignore (action_of s.machine r.signal) ≡ false) _ s.machine.pending q
  heard_keep (wakes_with t ev r v) s may q = same_heard s.machine (does bodies (wakes_with t ev r v) s).machine (wakes_telling_part (λ (m : Machine P). sent m) (λ m threads. refl) ev t r v s) q
  heard_keep (begins t mask) s may q = same_heard s.machine (does bodies (begins t mask) s).machine (part_begun (λ (m : Machine P). sent m) (λ m threads. refl) bodies t mask s) q
  heard_keep (renews_with b t new) s may q = same_heard s.machine (does bodies (renews_with b t new) s).machine (part_renewed (λ (m : Machine P). sent m) (λ m threads. refl) b t new bodies s) q
  heard_keep (refills_one t) s may q = same_heard s.machine (does bodies (refills_one t) s).machine (part_refill (λ (m : Machine P). sent m) (λ m threads. refl) bodies t s) q
  heard_keep (blocks_for by wait due) s may q = q
  heard_keep (blocks_plainly by wait due) s may q = absurd may
  heard_keep (recasts t f) s may q = absurd may
  heard_keep move s may q = q

module _ {P : Type 0} (bodies : Bodies P) where
  planned : (t : ℕ) (o : Option ServerState) (s : Turn P) → Heard s.machine → Heard (plans_server t o s).machine
  planned t None s q = q
  planned t (Some server) s q = q

  moved : (b : Bool) (t : ℕ) (s : Turn P) → Heard s.machine → Heard (moves_if b t s).machine
  moved true t s q = q
  moved false t s q = q

  ended : (e : TickEnd) (t : ℕ) (s : Turn P) → Heard s.machine → Heard (ends_tick e t s).machine
  ended planning t s q = planned t (thread_at s.machine t).server s q
  ended exhausting t s q = moved _ t _ (planned t (thread_at s.machine t).server (tells (event.Exhaust t) s) q)
  ended slicing t s q = moved (can_run s.machine t) t (changes t without_slice s) q
  ended nothing t s q = q

  abbrev pub Hears : Machine P → Turn P → Type 0
  Hears before s = Heard s.machine

  pub heard_tick : TickBeside bodies Placed Placing (λ b t. Placing) (λ b t. Placing) (λ b t. Placed) Heard Hears (λ b t. Hears) (λ b t. Hears) (λ b t. Heard)
  heard_tick = record {
    opens = λ s still p q. q;
    moves = λ before move s may p q. heard_keep bodies None move s may q;
    settles = λ before s p q. q;
    prepares = record {
      closes = λ t s run q. ended planning t s q;
      sent = λ to s off q. same_heard s.machine (dispatches to s).machine (ap sent (dispatched to s)) q;
      opens = λ t x s runs is may q. q;
    };
    charges = λ t s still ready runs p q. q;
    unit_moves = λ b t before move s may p q. heard_keep bodies (Some t) move s may q;
    unit_stops = λ b t before. record {
      done = λ s p q. q;
      sleeps = λ by wait due s runs may p q. q;
      dozes = λ by wait due s runs may other p q. q;
      joins = λ by u s runs other free p q. q;
    };
    unit_settles = λ b t before s p q. q;
    ends = λ b t s still p q. ended _ t s q;
    idles = λ s ready p q. q;
  }
