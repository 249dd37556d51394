-- Every state of a run is good, also after each due item with its sweep.
use Rattle.std.proofs.Common.{List, None, ℕ, ◌≡◌}
use Rattle.words_script.specs.declared.decl.Script.{Script}
use Rattle.rules_machine.specs.Bodies.{Bodies}
use Rattle.rules_machine.specs.State.{Machine}
use Rattle.rules_machine.specs.Turns.{turn_of}
use Rattle.rules_machine.specs.Runs.{opening, ticks}
use Rattle.rules_machine.specs.declared.frame.BodyOf.{BodyOf}
use Rattle.rules_machine.specs.GoodState.{StaysGood, CleanupsAreRight, IsSwept, ListsAreRight, SerialsAreRight}
use Rattle.rules_machine.specs.WellFormed.{IsWellFormed}
use Rattle.rules_moves.specs.UnitRanges.{BodiesFit}
use Rattle.rules_machine.specs.Throughout.{HoldsThroughout, after_items}
use Rattle.laws_machine.proofs.Parts.Opening.{opening_listed}
use Rattle.rules_moves.proofs.Runs.Since.{Rests, items_keep, run_since}
use Rattle.laws_machine.proofs.Lists.Places.{lists_right}
use Rattle.laws_machine.proofs.Lists.Priorities.{priorities}
use Rattle.laws_machine.proofs.Lists.Kept.{Placed}
use Rattle.laws_machine.specs.GuardedBodies.{BodiesGuarded}
use Rattle.laws_machine.proofs.Sweeps.Visits.{is_swept}
use Rattle.laws_machine.proofs.Sweeps.Kept.{EndHeard, InHeard, LawHeard, RestHeard, Swept, brings, items_after, opening_rest, run_quiet, tick_heard}
use Rattle.laws_machine.proofs.Serials.Sweeps.{serials_right}
use Rattle.laws_machine.proofs.Serials.Kept.{EndSourced, InSourced, LawSourced, RestSourced, items_few, opening_sourced, run_few, tick_sourced}
use Rattle.laws_machine.proofs.Cleanups.Kept.{cleanups_right, items_clean, run_all_clean}
use Rattle.laws_machine.proofs.Clock.{clock_throughout}
use Rattle.laws_machine.proofs.Items.{mutexes_throughout, servers_throughout, signals_throughout, waits_throughout}

module _ {P : Type 0} (bodies : Bodies P) (ranges : BodiesFit bodies) (script : Script) (fits : IsWellFormed script) where
  abbrev after : ℕ → ℕ → Machine P
  after n k = after_items bodies (opening script) n k

  -- at an instant, and then after k of its items
  stands : (n : ℕ) → Rests bodies ranges (RestSourced bodies) (LawSourced bodies) (InSourced bodies) (InSourced bodies) (EndSourced bodies) (tick_sourced bodies) (turn_of (ticks bodies n (opening script)).machine)
  stands n = run_since bodies ranges (RestSourced bodies) (LawSourced bodies) (InSourced bodies) (InSourced bodies) (EndSourced bodies) (tick_sourced bodies) n (opening script) (opening_sourced bodies ranges script fits) (opening_listed P script)

  rest_after : (n k : ℕ) → RestSourced bodies (after n k)
  rest_after n k = (items_keep bodies ranges (RestSourced bodies) (LawSourced bodies) (InSourced bodies) (InSourced bodies) (EndSourced bodies) (tick_sourced bodies) k (turn_of (ticks bodies n (opening script)).machine) (stands n)).rest

  placed_after : (n k : ℕ) → Placed (after n k)
  placed_after n k = (rest_after n k).0.0.0.0

  pub lists_throughout : HoldsThroughout bodies (opening script) ListsAreRight
  lists_throughout = record { each = λ n k. let placed = placed_after n k in lists_right (after n k) (priorities (after n k) placed.fit) placed.stand }

  pub serials_throughout : HoldsThroughout bodies (opening script) SerialsAreRight
  serials_throughout = record {
    each = λ n k. serials_right (after n k) (rest_after n k).0.1 (items_few bodies ranges k (turn_of (ticks bodies n (opening script)).machine) (stands n) (run_few bodies ranges script fits n));
  }

  swept_after : (n k : ℕ) → Swept bodies (after n k)
  swept_after n k =
      let stands3 = run_since bodies ranges (RestHeard bodies) (LawHeard bodies) (InHeard bodies) (InHeard bodies) (EndHeard bodies) (tick_heard bodies) n (opening script) (opening_rest bodies ranges script fits) (opening_listed P script) in
      items_after bodies ranges (RestHeard bodies) (LawHeard bodies) (InHeard bodies) (InHeard bodies) (EndHeard bodies) (tick_heard bodies) (Swept bodies) (brings bodies ranges script fits) k (turn_of (ticks bodies n (opening script)).machine) stands3 (run_quiet bodies ranges script fits n)

  pub swept_throughout : HoldsThroughout bodies (opening script) (λ m. m.killed ≡ None → IsSwept bodies m)
  swept_throughout = record { each = λ n k alive. is_swept bodies (after n k) (swept_after n k alive) (placed_after n k).stand }

  module _ (guards : BodyOf → P → List ℕ) (guarded : BodiesGuarded bodies guards) where
    pub cleanups_throughout : HoldsThroughout bodies (opening script) (CleanupsAreRight guards)
    cleanups_throughout = record {
      each = λ n k. cleanups_right bodies ranges guards guarded (after n k) (items_clean bodies ranges guards guarded k (turn_of (ticks bodies n (opening script)).machine) (run_all_clean bodies ranges guards guarded script fits n));
    }

    -- all parts together
    pub good_throughout : StaysGood bodies guards (opening script)
    good_throughout = record {
      each = λ n k. record {
        lists = lists_throughout.each n k;
        mutexes = (mutexes_throughout bodies ranges script fits).each n k;
        servers = (servers_throughout bodies ranges script fits).each n k;
        waits = (waits_throughout bodies ranges script fits).each n k;
        slices = λ t here. (rest_after n k).0.0.0.1.each t;
        clock = (clock_throughout bodies ranges script fits).each n k;
        signals = (signals_throughout bodies ranges script fits).each n k;
        serials = serials_throughout.each n k;
        cleanups = cleanups_throughout.each n k;
        swept = swept_throughout.each n k;
      };
    }
