-- What a run keeps at every instant, it keeps after each item with its sweep.
use Rattle.std.proofs.Common.{Bool, None, Option, Some, ap, refl, suc, sym, zero, ℕ, ◌≡◌}
use Rattle.words_numbers.specs.declared.item.Item.{Item}
use Rattle.words_script.specs.declared.decl.Script.{Script}
use Rattle.rules_machine.specs.Bodies.{Bodies}
use Rattle.rules_machine.specs.State.{Machine}
use Rattle.rules_machine.specs.Turns.{Turn, turn_of}
use Rattle.rules_machine.specs.DueItems.{item_done, item_then, items_done, next_item}
use Rattle.rules_machine.specs.Runs.{opening, ticks}
use Rattle.rules_machine.specs.GoodState.{MutexesAreRight, ServersAreRight, SignalsAreRight, WaitsAreRight}
use Rattle.rules_machine.specs.WellFormed.{IsWellFormed}
use Rattle.rules_moves.specs.UnitRanges.{BodiesFit}
use Rattle.rules_machine.specs.Throughout.{HoldsThroughout, after_items}
use Rattle.rules_moves.proofs.Runs.Listed.{AllRun}
use Rattle.laws_machine.proofs.Parts.Opening.{opening_listed, opening_right}
use Rattle.laws_machine.proofs.Parts.Kept.{PartsRight, parts_tick}
use Rattle.laws_machine.proofs.Signals.Records.{signals_right}
use Rattle.laws_machine.proofs.Servers.Kept.{opening_served, servers_right}
use Rattle.rules_moves.proofs.Runs.Ticks.{TickKeeps, items_keep, round_of, run_keep}
use Rattle.laws_machine.proofs.Servers.Ticks.{ServedDone, ServedMid, ServedRight, served_tick}

-- ---- every law that a tick keeps

module _ {P : Type 0} (bodies : Bodies P) (fits : BodiesFit bodies) (Good : Machine P → Type 0) (Mid Done : Bool → ℕ → Turn P → Type 0) (all : TickKeeps bodies (λ s. Good s.machine) Mid Done) where
  pub throughout : (start : Machine P) → Good start → AllRun start start.lists → HoldsThroughout bodies start Good
  throughout start q listed = record {
    each = λ n k. (items_keep bodies (λ s. Good s.machine) (round_of all) k (turn_of (ticks bodies n start).machine) (run_keep bodies fits Good Mid Done all n start q listed)).0;
  }

-- ---- these are the states between items

module _ {P : Type 0} (bodies : Bodies P) where
  abbrev one_more : Turn P → Turn P
  one_more s = item_then bodies (next_item s.machine) (λ x. x) s

  -- one item more is the next one, where there is one
  pub items_one_more : (k : ℕ) (s : Turn P) → items_done bodies (suc k) s ≡ one_more (items_done bodies k s)
  items_one_more zero s = by_next (next_item s.machine)
    where
      by_next : (o : Option Item) → item_then bodies o (items_done bodies 0) s ≡ item_then bodies o (λ x. x) s
      by_next None = refl
      by_next (Some i) = refl
  items_one_more (suc k) s = by_next (next_item s.machine) refl (items_one_more k)
    where
      none_same : next_item s.machine ≡ None → one_more s ≡ s
      none_same e = ap (λ (o : Option Item). item_then bodies o (λ x. x) s) e

      by_next : (o : Option Item) → next_item s.machine ≡ o → ((x : Turn P) → items_done bodies (suc k) x ≡ one_more (items_done bodies k x)) →
          item_then bodies o (items_done bodies (suc k)) s ≡ one_more (item_then bodies o (items_done bodies k) s)
      by_next None e rest = sym (none_same e)
      by_next (Some i) e rest = rest (item_done bodies i s)

-- ---- of every well formed script, over any bodies that keep their ranges

module _ {P : Type 0} (bodies : Bodies P) (ranges : BodiesFit bodies) (script : Script) (fits : IsWellFormed script) where
  parts_throughout : HoldsThroughout bodies (opening script) PartsRight
  parts_throughout = throughout bodies ranges PartsRight (λ was_high t s. PartsRight s.machine) (λ was_high t s. PartsRight s.machine) (parts_tick bodies) (opening script) (opening_right P script) (opening_listed P script)

  pub mutexes_throughout : HoldsThroughout bodies (opening script) MutexesAreRight
  mutexes_throughout = record { each = λ n k. (parts_throughout.each n k).mutexes }

  pub waits_throughout : HoldsThroughout bodies (opening script) WaitsAreRight
  waits_throughout = record {
    each = λ n k. let parts = parts_throughout.each n k in record { semaphores = parts.semaphores; receivers = λ q w. (parts.queues q).receivers w; senders = λ q w. (parts.queues q).senders w };
  }

  pub signals_throughout : HoldsThroughout bodies (opening script) SignalsAreRight
  signals_throughout = record { each = λ n k. signals_right (after_items bodies (opening script) n k) (parts_throughout.each n k).records }

  pub servers_throughout : HoldsThroughout bodies (opening script) ServersAreRight
  servers_throughout = record {
    each = λ n k.
        let right = throughout bodies ranges (λ m. ServedRight bodies (turn_of m)) (ServedMid bodies) (ServedDone bodies) (served_tick bodies) (opening script) (opening_served bodies script fits) (opening_listed P script) in
        servers_right bodies (after_items bodies (opening script) n k) (right.each n k).1;
  }
