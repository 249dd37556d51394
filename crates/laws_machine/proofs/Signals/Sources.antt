-- A pending record is of a timer, of a queue or of neither, and one for a thread is of neither: every move keeps it.
use Rattle.std.proofs.Common.{Bool, List, None, Option, Some, ap, arith, false, refl, sym, true, ℕ, ◌≡◌}
use Rattle.std.specs.Prelude.{is_some}
use mathlib.Core.Path.{subst}
use Rattle.words_trace.specs.declared.event.Event.TheVariants as event
use Rattle.rules_server.specs.Server.{ServerState}
use Rattle.rules_machine.specs.Bodies.{Bodies}
use Rattle.rules_machine.specs.State.{Machine, SignalRecord}
use Rattle.rules_machine.specs.Threads.{can_run, thread_at}
use Rattle.rules_machine.specs.Turns.{Turn, changes, moves_if, tells}
use Rattle.rules_machine.specs.Servers.{plans_server}
use Rattle.rules_machine.specs.Queues.{record_of_notification}
use Rattle.rules_machine.specs.Ticks.{TickEnd, ends_tick, exhausting, nothing, planning, slicing, without_slice}
use Rattle.rules_moves.specs.Moves.{MayRenewing, Move, begins, blocks_plainly, does, fires, recasts, record_in, record_out, records_of_ended, refills_one, renews_with, wakes_with}
use Rattle.rules_moves.proofs.Waiters.Best.{Each}
use Rattle.rules_moves.proofs.Calls.Commuting.{wakes_telling_part}
use Rattle.rules_moves.proofs.Waiters.AfterMoves.{part_begun, part_refill, part_renewed}
use Rattle.rules_moves.proofs.Runs.Listed.{each_kept}
use Rattle.laws_machine.proofs.Signals.Ignored.{each_last}
use Rattle.rules_moves.proofs.Runs.MachineLaws.{MachineLaw}
use Rattle.laws_machine.proofs.Serials.Distinct.{one_if}
use Rattle.laws_machine.proofs.Serials.Costs.{IsPlain, one_small}

abbrev pub Plain : {P : Type 0} → Machine P → Type 0
Plain m = Each IsPlain m.pending

sent_plain : (r : SignalRecord) → r.queue ≡ None → (is_some r.target ≡ true → r.timer ≡ None) → IsPlain r
sent_plain r none aimed = (
  (let q : one_if (is_some r.queue) ≡ 0 = ap (λ (o : Option ℕ). one_if (is_some o)) none in let t = one_small (is_some r.timer) in omega arith),
  λ e. (let q : one_if (is_some r.queue) ≡ 0 = ap (λ (o : Option ℕ). one_if (is_some o)) none in let t : one_if (is_some r.timer) ≡ 0 = ap (λ (o : Option ℕ). one_if (is_some o)) (aimed e) in omega arith),
)

module _ {P : Type 0} where
  same_plain : (m n : Machine P) → n.pending ≡ m.pending → Plain m → Plain n
  same_plain m n e q = subst (λ (rs : List SignalRecord). Each IsPlain rs) (sym e) q

module _ {P : Type 0} (bodies : Bodies P) where
  plain_keep : (who : Option ℕ) (move : Move P) (s : Turn P) → MayRenewing who move s → Plain s.machine → Plain (does bodies move s).machine
  plain_keep who (record_in r) s may q = each_last IsPlain s.machine.pending (record r { serial = s.machine.next_serial }) q (sent_plain r may.0.queue may.0.aimed)
  plain_keep who (fires p r) s may q = each_last IsPlain s.machine.pending (record (record_of_notification p r) { serial = s.machine.next_serial }) q (omega arith, λ e. absurd (grind arith))
  plain_keep who (record_out r) s may q = each_kept IsPlain _ s.machine.pending q
  plain_keep who (records_of_ended t) s may q = each_kept IsPlain _ s.machine.pending q
  plain_keep who (wakes_with t ev r v) s may q = same_plain s.machine (does bodies (wakes_with t ev r v) s).machine (wakes_telling_part (λ (m : Machine P). m.pending) (λ m threads. refl) ev t r v s) q
  plain_keep who (begins t mask) s may q = same_plain s.machine (does bodies (begins t mask) s).machine (part_begun (λ (m : Machine P). m.pending) (λ m threads. refl) bodies t mask s) q
  plain_keep who (renews_with b t new) s may q = same_plain s.machine (does bodies (renews_with b t new) s).machine (part_renewed (λ (m : Machine P). m.pending) (λ m threads. refl) b t new bodies s) q
  plain_keep who (refills_one t) s may q = same_plain s.machine (does bodies (refills_one t) s).machine (part_refill (λ (m : Machine P). m.pending) (λ m threads. refl) bodies t s) q
  plain_keep who (blocks_plainly by wait due) s may q = absurd may
  plain_keep who (recasts t f) s may q = absurd may
  plain_keep who move s may q = q

  planned : (t : ℕ) (o : Option ServerState) (s : Turn P) → Plain s.machine → Plain (plans_server t o s).machine
  planned t None s q = q
  planned t (Some server) s q = q

  moved : (b : Bool) (t : ℕ) (s : Turn P) → Plain s.machine → Plain (moves_if b t s).machine
  moved true t s q = q
  moved false t s q = q

  ended : (e : TickEnd) (t : ℕ) (s : Turn P) → Plain s.machine → Plain (ends_tick e t s).machine
  ended planning t s q = planned t (thread_at s.machine t).server s q
  ended exhausting t s q = moved _ t _ (planned t (thread_at s.machine t).server (tells (event.Exhaust t) s) q)
  ended slicing t s q = moved (can_run s.machine t) t (changes t without_slice s) q
  ended nothing t s q = q

  pub plain_law : MachineLaw bodies Plain
  plain_law = record {
    moves = plain_keep;
    sleeps = λ by wait due s runs q. q;
    dozes = λ who by wait due s may q. q;
    joins = λ by u s runs q. q;
    elsewhere = λ m now last lists q. q;
    charged = λ t s runs q. q;
    ended = ended;
    opened = λ t x s is q. q;
  }
