-- A message queue stays as deep as it is declared: every move keeps it.
use Rattle.std.proofs.Common.{◌≡◌, ◌∙◌, ℕ, zero, suc, List, [], ◌∷◌, Bool, true, false, Option, None, Some, ap, refl}
use Rattle.words_script.specs.declared.decl.Script.{Script}
use Rattle.words_trace.specs.declared.event.Event.TheVariants as event
use Rattle.rules_server.specs.Server.{ServerState}
use Rattle.rules_machine.specs.Bodies.{Bodies}
use Rattle.rules_machine.specs.Lists.{changed_at}
use Rattle.rules_machine.specs.State.{Machine, Queue}
use Rattle.rules_machine.specs.Threads.{can_run, no_queue, thread_at}
use Rattle.rules_machine.specs.Turns.{Turn, changes, moves_if, tells, turn_of}
use Rattle.rules_machine.specs.Servers.{plans_server}
use Rattle.rules_machine.specs.Queues.{registered, with_message, without_message}
use Rattle.rules_machine.specs.Ticks.{TickEnd, ends_tick, exhausting, nothing, planning, slicing, without_slice}
use Rattle.rules_machine.specs.Runs.{opening, ticks}
use Rattle.rules_machine.specs.Throughout.{HoldsThroughout}
use Rattle.rules_machine.specs.WellFormed.{IsWellFormed}
use Rattle.rules_moves.specs.Moves.{MayRenewing, Move, begins, blocks_plainly, does, fires, message_in, message_out, message_through, recasts, refills_one, registers, renews_with, wakes_with}
use Rattle.rules_moves.specs.UnitRanges.{BodiesFit}
use Rattle.rules_moves.proofs.Waiters.AfterMoves.{part_begun, part_refill, part_renewed}
use Rattle.rules_moves.proofs.Calls.Commuting.{wakes_telling_part}
use Rattle.rules_moves.proofs.Runs.Since.{Rests, TickSince, items_keep, run_since}
use Rattle.rules_moves.proofs.Runs.Beside.{both}
use Rattle.rules_moves.proofs.Runs.MachineLaws.{MachineLaw, law_beside}
use Rattle.laws_machine.proofs.Parts.Opening.{opening_listed}
use Rattle.laws_machine.proofs.Lists.Kept.{Placed, Placing, opening_placed, placed_tick}
use Rattle.laws_detail.specs.Depths.{HasDepthsOf, depths}

-- a queue that changes is as deep as before
same_depths : (f : Queue → Queue) → ((x : Queue) → (f x).depth ≡ x.depth) → (q : ℕ) (qs : List Queue) → depths (changed_at no_queue q f qs) ≡ depths qs
same_depths f same q [] = refl
same_depths f same zero (x ∷ qs) = ap (λ (n : ℕ). n ∷ depths qs) (same x)
same_depths f same (suc q) (x ∷ qs) = ap (λ (ns : List ℕ). x.depth ∷ ns) (same_depths f same q qs)

module _ {P : Type 0} (bodies : Bodies P) (script : Script) where
  abbrev Has : Machine P → Type 0
  Has m = HasDepthsOf script m

  keep : (who : Option ℕ) (move : Move P) (s : Turn P) → MayRenewing who move s → Has s.machine → Has (does bodies move s).machine
  keep who (fires p r) s may q = same_depths (registered None) (λ x. refl) p s.machine.queues ∙ q
  keep who (wakes_with t ev r v) s may q = ap depths (wakes_telling_part (λ (m : Machine P). m.queues) (λ m threads. refl) ev t r v s) ∙ q
  keep who (begins t mask) s may q = ap depths (part_begun (λ (m : Machine P). m.queues) (λ m threads. refl) bodies t mask s) ∙ q
  keep who (renews_with b t new) s may q = ap depths (part_renewed (λ (m : Machine P). m.queues) (λ m threads. refl) b t new bodies s) ∙ q
  keep who (refills_one t) s may q = ap depths (part_refill (λ (m : Machine P). m.queues) (λ m threads. refl) bodies t s) ∙ q
  keep who (message_in p x) s may q = same_depths (with_message x) (λ y. refl) p s.machine.queues ∙ q
  keep who (message_out p n) s may q = same_depths (without_message n) (λ y. refl) p s.machine.queues ∙ q
  keep who (message_through p n x) s may q = same_depths (with_message x) (λ y. refl) p _ ∙ same_depths (without_message n) (λ y. refl) p s.machine.queues ∙ q
  keep who (registers p o) s may q = same_depths (registered o) (λ y. refl) p s.machine.queues ∙ q
  keep who (blocks_plainly by wait due) s may q = absurd may
  keep who (recasts t f) s may q = absurd may
  keep who move s may q = q

  planned : (t : ℕ) (o : Option ServerState) (s : Turn P) → Has s.machine → Has (plans_server t o s).machine
  planned t None s q = q
  planned t (Some server) s q = q

  moved : (b : Bool) (t : ℕ) (s : Turn P) → Has s.machine → Has (moves_if b t s).machine
  moved true t s q = q
  moved false t s q = q

  ended : (e : TickEnd) (t : ℕ) (s : Turn P) → Has s.machine → Has (ends_tick e t s).machine
  ended planning t s q = planned t (thread_at s.machine t).server s q
  ended exhausting t s q = moved _ t _ (planned t (thread_at s.machine t).server (tells (event.Exhaust t) s) q)
  ended slicing t s q = moved (can_run s.machine t) t (changes t without_slice s) q
  ended nothing t s q = q

  depths_law : MachineLaw bodies Has
  depths_law = record {
    moves = keep;
    sleeps = λ by wait due s runs q. q;
    dozes = λ who by wait due s may q. q;
    joins = λ by u s runs q. q;
    elsewhere = λ m now last lists q. q;
    charged = λ t s runs q. q;
    ended = ended;
    opened = λ t x s is q. q;
  }

  abbrev Rest : Machine P → Type 0
  Rest m = Placed m × Has m

  abbrev Law : Machine P → Turn P → Type 0
  Law before s = Placing before s × Has s.machine

  abbrev End : Bool → ℕ → Machine P → Type 0
  End b t m = Placed m × Has m

  abbrev At : Bool → ℕ → Machine P → Turn P → Type 0
  At b t before s = Has s.machine

  tick_kept : TickSince bodies Rest Law (λ b t. Law) (λ b t. Law) End
  tick_kept = both bodies Placed Placing (λ b t. Placing) (λ b t. Placing) (λ b t. Placed) Has (λ before s. Has s.machine) At At (λ b t. Has) (placed_tick bodies)
      (law_beside bodies Placed Placing (λ b t. Placing) (λ b t. Placing) (λ b t. Placed) Has depths_law)

module _ {P : Type 0} (bodies : Bodies P) (ranges : BodiesFit bodies) (script : Script) (fits : IsWellFormed script) where
  stands : (n : ℕ) → Rests bodies ranges (Rest bodies script) (Law bodies script) (λ b t. Law bodies script) (λ b t. Law bodies script) (End bodies script) (tick_kept bodies script) (turn_of (ticks bodies n (opening script)).machine)
  stands n =
      run_since bodies ranges (Rest bodies script) (Law bodies script) (λ b t. Law bodies script) (λ b t. Law bodies script) (End bodies script) (tick_kept bodies script) n (opening script)
      (opening_placed P script fits, refl) (opening_listed P script)

  pub depths_throughout : HoldsThroughout bodies (opening script) (HasDepthsOf script)
  depths_throughout = record {
    each = λ n k. (items_keep bodies ranges (Rest bodies script) (Law bodies script) (λ b t. Law bodies script) (λ b t. Law bodies script) (End bodies script) (tick_kept bodies script) k (turn_of (ticks bodies n (opening script)).machine) (stands n)).rest.1;
  }
