-- CLOCK_REALTIME stays in its range: every move keeps it, and a tick brings one to what both clocks read.
use Rattle.std.proofs.Common.{Bool, None, Option, Some, ap, arith, false, refl, sym, true, ℕ, ◌+◌, ◌≡◌}
use mathlib.Core.Path.{subst}
use Rattle.words_script.specs.declared.decl.Script.{Script}
use Rattle.rules_server.specs.Server.{ServerState}
use Rattle.rules_machine.specs.Bodies.{Bodies}
use Rattle.rules_machine.specs.State.{Clock, Machine}
use Rattle.rules_machine.specs.Threads.{can_run, thread_at}
use Rattle.rules_machine.specs.Turns.{Turn, changes, moves_if, tells, turn_of}
use Rattle.rules_machine.specs.Servers.{plans_server}
use Rattle.rules_machine.specs.Dispatch.{dispatches}
use Rattle.rules_machine.specs.GoodState.{ClockFits}
use Rattle.rules_machine.specs.Runs.{opening, ticks}
use Rattle.rules_machine.specs.Throughout.{HoldsThroughout}
use Rattle.rules_machine.specs.Ticks.{TickEnd, ends_tick, exhausting, nothing, planning, slicing, tick_end, without_slice}
use Rattle.rules_machine.specs.WellFormed.{IsWellFormed}
use Rattle.words_trace.specs.declared.event.Event.TheVariants as event
use Rattle.rules_moves.specs.Moves.{MayRenewing, Move, begins, blocks_plainly, does, recasts, refills_one, renews_with, sets_clock_to, wakes_with}
use Rattle.rules_moves.specs.UnitRanges.{BodiesFit}
use Rattle.rules_moves.proofs.Calls.Commuting.{wakes_telling_part}
use Rattle.rules_moves.proofs.Waiters.AfterMoves.{part_begun, part_refill, part_renewed}
use Rattle.rules_moves.proofs.Runs.Ticks.{dispatched}
use Rattle.rules_moves.proofs.Runs.Since.{Rests, TickSince, items_keep, run_since}
use Rattle.rules_moves.proofs.Runs.Beside.{TickBeside, both}
use Rattle.laws_machine.proofs.Parts.Opening.{opening_listed}
use Rattle.laws_machine.proofs.Lists.Kept.{Placed, Placing, opening_placed, placed_tick}

-- what both clocks read
pub record Clocks : Type 0 where
  pub now : ℕ
  pub clock : Clock

abbrev pub clocks : {P : Type 0} → Machine P → Clocks
clocks m = record { now = m.now; clock = m.clock }

abbrev pub Fits : {P : Type 0} → Machine P → Type 0
Fits m = ClockFits m.now m.clock

module _ {P : Type 0} where
  same_clocks : (m n : Machine P) → clocks n ≡ clocks m → Fits m → Fits n
  same_clocks m n e q = subst (λ (c : Clocks). ClockFits c.now c.clock) (sym e) q

module _ {P : Type 0} (bodies : Bodies P) (who : Option ℕ) where
  clock_keep : (move : Move P) (s : Turn P) → MayRenewing who move s → Fits s.machine → Fits (does bodies move s).machine
  clock_keep (sets_clock_to clock) s may q = may
  clock_keep (wakes_with t ev r v) s may q = same_clocks s.machine (does bodies (wakes_with t ev r v) s).machine (wakes_telling_part (λ (m : Machine P). clocks m) (λ m threads. refl) ev t r v s) q
  clock_keep (begins t mask) s may q = same_clocks s.machine (does bodies (begins t mask) s).machine (part_begun (λ (m : Machine P). clocks m) (λ m threads. refl) bodies t mask s) q
  clock_keep (renews_with b t new) s may q = same_clocks s.machine (does bodies (renews_with b t new) s).machine (part_renewed (λ (m : Machine P). clocks m) (λ m threads. refl) b t new bodies s) q
  clock_keep (refills_one t) s may q = same_clocks s.machine (does bodies (refills_one t) s).machine (part_refill (λ (m : Machine P). clocks m) (λ m threads. refl) bodies t s) q
  clock_keep (blocks_plainly by wait due) s may q = absurd may
  clock_keep (recasts t f) s may q = absurd may
  clock_keep move s may q = q

module _ {P : Type 0} (bodies : Bodies P) where
  planned : (t : ℕ) (o : Option ServerState) (s : Turn P) → Fits s.machine → Fits (plans_server t o s).machine
  planned t None s q = q
  planned t (Some server) s q = q

  moved : (b : Bool) (t : ℕ) (s : Turn P) → Fits s.machine → Fits (moves_if b t s).machine
  moved true t s q = q
  moved false t s q = q

  ended : (e : TickEnd) (t : ℕ) (s : Turn P) → Fits s.machine → Fits (ends_tick e t s).machine
  ended planning t s q = planned t (thread_at s.machine t).server s q
  ended exhausting t s q = moved _ t _ (planned t (thread_at s.machine t).server (tells (event.Exhaust t) s) q)
  ended slicing t s q = moved (can_run s.machine t) t (changes t without_slice s) q
  ended nothing t s q = q

  later : (m : Machine P) → Fits m → ClockFits (m.now + 1) m.clock
  later m q = record { behind = (let k = q.behind in omega arith); ahead = q.ahead }

  abbrev Fitting : Machine P → Turn P → Type 0
  Fitting before s = Fits s.machine

  clock_beside : TickBeside bodies Placed Placing (λ b t. Placing) (λ b t. Placing) (λ b t. Placed) Fits Fitting (λ b t. Fitting) (λ b t. Fitting) (λ b t. Fits)
  clock_beside = record {
    opens = λ s still p q. q;
    moves = λ before move s may p q. clock_keep bodies None move s may q;
    settles = λ before s p q. q;
    prepares = record {
      closes = λ t s run q. ended planning t s q;
      sent = λ to s off q. same_clocks s.machine (dispatches to s).machine (ap clocks (dispatched to s)) q;
      opens = λ t x s runs is may q. q;
    };
    charges = λ t s still ready runs p q. later s.machine q;
    unit_moves = λ b t before move s may p q. clock_keep bodies (Some t) move s may q;
    unit_stops = λ b t before. record {
      done = λ s p q. q;
      sleeps = λ by wait due s runs may p q. q;
      dozes = λ by wait due s runs may other p q. q;
      joins = λ by u s runs other free p q. q;
    };
    unit_settles = λ b t before s p q. q;
    ends = λ b t s still p q. ended (tick_end b s.machine.quantum (thread_at s.machine t)) t s q;
    idles = λ s ready p q. later s.machine q;
  }

  abbrev Rest : Machine P → Type 0
  Rest m = Placed m × Fits m

  abbrev Law : Machine P → Turn P → Type 0
  Law before s = Placing before s × Fits s.machine

  abbrev End : Bool → ℕ → Machine P → Type 0
  End b t m = Placed m × Fits m

  tick_fits : TickSince bodies Rest Law (λ b t. Law) (λ b t. Law) End
  tick_fits = both bodies Placed Placing (λ b t. Placing) (λ b t. Placing) (λ b t. Placed) Fits Fitting (λ b t. Fitting) (λ b t. Fitting) (λ b t. Fits) (placed_tick bodies) clock_beside

module _ {P : Type 0} (bodies : Bodies P) (ranges : BodiesFit bodies) (script : Script) (fits : IsWellFormed script) where
  stands : (n : ℕ) → Rests bodies ranges (Rest bodies) (Law bodies) (λ b t. Law bodies) (λ b t. Law bodies) (End bodies) (tick_fits bodies) (turn_of (ticks bodies n (opening script)).machine)
  stands n =
      run_since bodies ranges (Rest bodies) (Law bodies) (λ b t. Law bodies) (λ b t. Law bodies) (End bodies) (tick_fits bodies) n (opening script)
      (opening_placed P script fits, record { behind = omega arith; ahead = omega arith }) (opening_listed P script)

  pub clock_throughout : HoldsThroughout bodies (opening script) Fits
  clock_throughout = record {
    each = λ n k. (items_keep bodies ranges (Rest bodies) (Law bodies) (λ b t. Law bodies) (λ b t. Law bodies) (End bodies) (tick_fits bodies) k (turn_of (ticks bodies n (opening script)).machine) (stands n)).rest.1;
  }
