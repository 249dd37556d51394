-- What is ahead of a machine after so many ticks of a thread and nothing else: what falls due stays the same, and is nearer by as many.
use Rattle.std.proofs.Common.{List, None, Option, Some, [], ap, arith, false, refl, ℕ, ◌+◌, ◌++◌, ◌∷◌, ◌≡◌, ◌≤◌}
use Rattle.std.specs.Prelude.{filter, map, nat_le, option_and_then, ◌-◌}
use Rattle.std.specs.List.{range_with_len}
use mathlib.Core.Path.{◌∙◌}
use Rattle.words_numbers.specs.declared.item.Item.{Item}
use Rattle.words_numbers.specs.declared.item.Item.TheVariants as item
use Rattle.rules_server.specs.Server.{next_due}
use Rattle.rules_machine.specs.Agenda.{Coming, agenda, coming_at, coming_of, due_by, items_due}
use Rattle.rules_machine.specs.Bodies.{Bodies}
use Rattle.rules_machine.specs.DueItems.{first_item, next_item, refill_due, start_due, start_in, timeout_due, timer_due}
use Rattle.rules_machine.specs.Lists.{numbers}
use Rattle.rules_machine.specs.State.{Machine, Thread, Waiting}
use Rattle.rules_machine.specs.Threads.{no_thread, thread_at, thread_numbers, waiting_in}
use Rattle.rules_machine.specs.Units.{in_unit}
use Rattle.rules_machine.proofs.Reading.{changed-length}
use Rattle.rules_moves.proofs.Runs.Ticks.{in_unit_status}
use Rattle.laws_machine.proofs.Agenda.{due_are_of_agenda}
use Rattle.laws_machine.proofs.Lists.Kept.{Plans, in_unit_plans}
use Rattle.rules_leaps.specs.Leap.{ticks_to_next}
use Rattle.rules_leaps.specs.Quiet.{after_ticks}
use Rattle.laws_leaps.proofs.Leaps.Bounds.{refill_same, with_view}
use Rattle.laws_leaps.proofs.Leaps.Going.{gone}

-- ---- the nearest due tick

pub nearer_by : (k most now : ℕ) (comings : List Coming) → ticks_to_next (most - k) (now + k) comings ≡ ticks_to_next most now comings - k
nearer_by k most now [] = refl
nearer_by k most now (c ∷ comings) = let rest = nearer_by k most now comings in omega (arith, rest)

none_due : (comings : List Coming) (most now : ℕ) → 1 ≤ ticks_to_next most now comings → filter (due_by now) comings ≡ []
none_due [] most now some = refl
none_due (c ∷ comings) most now some = rw (later c.due (omega (arith, some))) (none_due comings most now (omega (arith, some)))
  where
    later : (d : ℕ) → 1 ≤ d - now → nat_le d now ≡ false
    later d h = grind arith

-- nothing is due where the nearest due tick is ahead
pub nothing_yet : {P : Type 0} (m : Machine P) (most : ℕ) → m.killed ≡ None → 1 ≤ ticks_to_next most m.now (agenda m) → next_item m ≡ None
nothing_yet m most alive some =
    ap (first_item m.killed) (due_are_of_agenda m)
    ∙ ap (λ (o : Option ℕ). first_item o (items_due m.now (agenda m))) alive
    ∙ ap (λ (cs : List Coming). first_item None (map (λ (c : Coming). c.item) cs)) (none_due (agenda m) most m.now some)

-- ---- what is to come

coming_same : {P : Type 0} (kind : ℕ → Item) (due : Machine P → ℕ → Option ℕ) (ns : List ℕ) (m n : Machine P) → ((u : ℕ) → due m u ≡ due n u) → coming_of kind due ns m ≡ coming_of kind due ns n
coming_same kind due [] m n h = refl
coming_same kind due (u ∷ ns) m n h = one (due n u) (h u) refl (coming_same kind due ns m n h)
  where
    one : (o : Option ℕ) → due m u ≡ o → due n u ≡ o → coming_of kind due ns m ≡ coming_of kind due ns n → coming_of kind due (u ∷ ns) m ≡ coming_of kind due (u ∷ ns) n
    one None e f rest = rw (e, f) rest
    one (Some d) e f rest = rw (e, f) (ap (λ (cs : List Coming). coming_at (kind u) d ∷ cs) rest)

module _ {P : Type 0} (bodies : Bodies P) (t k : ℕ) (m : Machine P) where
  abbrev n : Machine P
  n = gone bodies t k m

  abbrev unit : Thread P
  unit = (in_unit bodies (thread_at m t)).thread

  refills : (u : ℕ) → refill_due n u ≡ refill_due m u
  refills = with_view bodies (λ (x : Thread P). option_and_then next_due x.server) t (after_ticks k unit) m.threads (refill_same k unit.server ∙ ap (λ (p : Plans). option_and_then next_due p.server) (in_unit_plans bodies (thread_at m t)))

  starts : (u : ℕ) → start_due n u ≡ start_due m u
  starts = with_view bodies (λ (x : Thread P). start_in x.status) t (after_ticks k unit) m.threads (ap start_in (in_unit_status bodies (thread_at m t)))

  timeouts : (u : ℕ) → timeout_due n u ≡ timeout_due m u
  timeouts =
      with_view bodies (λ (x : Thread P). option_and_then (λ (w : Waiting). w.due) (waiting_in x.status)) t (after_ticks k unit) m.threads
      (ap (λ s. option_and_then (λ (w : Waiting). w.due) (waiting_in s)) (in_unit_status bodies (thread_at m t)))

  as_many : thread_numbers n ≡ thread_numbers m
  as_many = ap (range_with_len 0) (changed-length no_thread t (λ x. after_ticks k unit) m.threads)

  pub agenda_stays : agenda n ≡ agenda m
  agenda_stays =
      ap (λ (ns : List ℕ). coming_of item.Refill refill_due ns n ++ coming_of item.Start start_due ns n ++ coming_of item.Timeout timeout_due ns n ++ coming_of item.Timer timer_due (numbers m.timers) n) as_many
      ∙ ap (λ (cs : List Coming). cs ++ coming_of item.Start start_due (thread_numbers m) n ++ coming_of item.Timeout timeout_due (thread_numbers m) n ++ coming_of item.Timer timer_due (numbers m.timers) n) (coming_same item.Refill refill_due (thread_numbers m) n m refills)
      ∙ ap (λ (cs : List Coming). coming_of item.Refill refill_due (thread_numbers m) m ++ cs ++ coming_of item.Timeout timeout_due (thread_numbers m) n ++ coming_of item.Timer timer_due (numbers m.timers) n) (coming_same item.Start start_due (thread_numbers m) n m starts)
      ∙ ap (λ (cs : List Coming). coming_of item.Refill refill_due (thread_numbers m) m ++ coming_of item.Start start_due (thread_numbers m) m ++ cs ++ coming_of item.Timer timer_due (numbers m.timers) n) (coming_same item.Timeout timeout_due (thread_numbers m) n m timeouts)
      ∙ ap (λ (cs : List Coming). coming_of item.Refill refill_due (thread_numbers m) m ++ coming_of item.Start start_due (thread_numbers m) m ++ coming_of item.Timeout timeout_due (thread_numbers m) m ++ cs) (coming_same item.Timer timer_due (numbers m.timers) n m (λ u. refl))
