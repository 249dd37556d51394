-- A run has as many objects as its script, and a pending record is of a timer or a queue that there is: every move keeps it.
use Rattle.std.proofs.Common.{◌≡◌, ◌∙◌, ◌<◌, ℕ, zero, suc, List, [], ◌∷◌, Bool, true, false, Option, None, Some, ap, arith, length, refl, subst, sym}
use Rattle.std.specs.Prelude.{pred, slice_index_or}
use Rattle.words_script.specs.declared.decl.Script.{Script}
use Rattle.words_trace.specs.declared.event.Event.TheVariants as event
use Rattle.rules_server.specs.Server.{ServerState}
use Rattle.rules_machine.specs.Lists.{is}
use Rattle.rules_machine.specs.Bodies.{Bodies}
use Rattle.rules_machine.specs.State.{Machine, Queue, Registration, SignalRecord, Timer}
use Rattle.rules_machine.specs.Threads.{can_run, no_mutex, no_queue, no_timer, thread_at}
use Rattle.rules_machine.specs.Turns.{Turn, changes, moves_if, tells, turn_of}
use Rattle.rules_machine.specs.Servers.{plans_server}
use Rattle.rules_machine.specs.Mutexes.{counted_down, counted_up, freed, taken_by}
use Rattle.rules_machine.specs.Queues.{record_of_notification, registered, with_message, without_message}
use Rattle.rules_machine.specs.DueItems.{has_come}
use Rattle.rules_machine.specs.Ticks.{TickEnd, ends_tick, exhausting, nothing, planning, slicing, without_slice}
use Rattle.rules_machine.specs.Runs.{opening, ticks}
use Rattle.rules_machine.specs.Throughout.{HoldsThroughout}
use Rattle.rules_machine.specs.WellFormed.{IsWellFormed}
use Rattle.rules_machine.proofs.Reading.{changed-length}
use Rattle.rules_moves.specs.Moves.{MayRenewing, Move, begins, blocks_plainly, counts_down, counts_up, does, fires, frees, message_in, message_out, message_through, recasts, record_in, record_out, records_of_ended, refills_one, registers, renews_with, sem_down, sem_up, sets_timer_by, takes_for, wakes_with}
use Rattle.rules_moves.specs.UnitRanges.{BodiesFit}
use Rattle.rules_moves.proofs.Waiters.AfterMoves.{part_begun, part_refill, part_renewed}
use Rattle.rules_moves.proofs.Waiters.Best.{Each}
use Rattle.rules_moves.proofs.Calls.Commuting.{wakes_telling_part}
use Rattle.rules_moves.proofs.Runs.Listed.{each_kept}
use Rattle.rules_moves.proofs.Runs.Since.{Rests, TickSince, items_keep, run_since}
use Rattle.rules_moves.proofs.Runs.Beside.{both}
use Rattle.rules_moves.proofs.Runs.MachineLaws.{MachineLaw, law_beside}
use Rattle.laws_machine.proofs.Parts.Opening.{opening_listed}
use Rattle.laws_machine.proofs.Lists.Kept.{Placed, Placing, opening_placed, placed_tick}
use Rattle.laws_machine.proofs.Signals.Ignored.{each_last}
use Rattle.laws_kernel.specs.Counts.{Counts, counts_of}

-- its timer and its queue, where it has one, are of so many
pub record IsNamed (c : Counts) (r : SignalRecord) : Type 0 where
  pub timer : (k : ℕ) → is r.timer k ≡ true → k < c.timers
  pub queue : (q : ℕ) → is r.queue q ≡ true → q < c.queues

abbrev pub HasObjects : {P : Type 0} → Counts → Machine P → Type 0
HasObjects c m = (counts_of m ≡ c) × Each (IsNamed c) m.pending

none_is : {X : Type 0} (k : ℕ) → is None k ≡ true → X
none_is k e = absurd (grind arith)

due_within : (ks : List Timer) (k now : ℕ) → has_come (slice_index_or ks k no_timer).due now ≡ true → k < length ks
due_within [] k now e = absurd (grind arith)
due_within (x ∷ ks) zero now e = omega arith
due_within (x ∷ ks) (suc k) now e = let rest = due_within ks k now e in omega (arith, rest)

pub registered_within : (qs : List Queue) (q : ℕ) (r : Registration) → (slice_index_or qs q no_queue).registration ≡ Some r → q < length qs
registered_within [] q r e = absurd (grind arith)
registered_within (x ∷ qs) zero r e = omega arith
registered_within (x ∷ qs) (suc q) r e = let rest = registered_within qs q r e in omega (arith, rest)

module _ {P : Type 0} (bodies : Bodies P) (c : Counts) where
  abbrev Has : Machine P → Type 0
  Has m = HasObjects c m

  same : (m n : Machine P) → counts_of n ≡ counts_of m → n.pending ≡ m.pending → Has m → Has n
  same m n counts pending q = (counts ∙ q.0, subst (Each (IsNamed c)) (sym pending) q.1)

  keep : (who : Option ℕ) (move : Move P) (s : Turn P) → MayRenewing who move s → Has s.machine → Has (does bodies move s).machine
  keep who (record_in r) s may q = (
    q.0,
    each_last (IsNamed c) s.machine.pending (record r { serial = s.machine.next_serial }) q.1 (record {
      timer = λ k e. (let lt = due_within s.machine.timers k s.machine.now (may.0.due k e) in let same = ap (λ (n : Counts). n.timers) q.0 in omega (arith, lt, same));
      queue = λ p e. none_is p (ap (λ (o : Option ℕ). is o p) (sym may.0.queue) ∙ e);
    }),
  )
  keep who (fires p r) s may q = (
    ap (λ (n : ℕ). record (counts_of s.machine) { queues = n }) (changed-length no_queue p (registered None) s.machine.queues) ∙ q.0,
    each_last (IsNamed c) s.machine.pending (record (record_of_notification p r) { serial = s.machine.next_serial }) q.1 (record {
      timer = λ k e. none_is k e;
      queue = λ j e. (let it : p ≡ j = grind (arith, e) in let lt = registered_within s.machine.queues p r may.0 in let same = ap (λ (n : Counts). n.queues) q.0 in omega (arith, it, lt, same));
    }),
  )
  keep who (record_out r) s may q = (q.0, each_kept (IsNamed c) _ s.machine.pending q.1)
  keep who (records_of_ended t) s may q = (q.0, each_kept (IsNamed c) _ s.machine.pending q.1)
  keep who (wakes_with t ev r v) s may q = same s.machine (does bodies (wakes_with t ev r v) s).machine
      (wakes_telling_part (λ (m : Machine P). counts_of m) (λ m threads. refl) ev t r v s) (wakes_telling_part (λ (m : Machine P). m.pending) (λ m threads. refl) ev t r v s) q
  keep who (begins t mask) s may q = same s.machine (does bodies (begins t mask) s).machine
      (part_begun (λ (m : Machine P). counts_of m) (λ m threads. refl) bodies t mask s) (part_begun (λ (m : Machine P). m.pending) (λ m threads. refl) bodies t mask s) q
  keep who (renews_with b t new) s may q = same s.machine (does bodies (renews_with b t new) s).machine
      (part_renewed (λ (m : Machine P). counts_of m) (λ m threads. refl) b t new bodies s) (part_renewed (λ (m : Machine P). m.pending) (λ m threads. refl) b t new bodies s) q
  keep who (refills_one t) s may q = same s.machine (does bodies (refills_one t) s).machine
      (part_refill (λ (m : Machine P). counts_of m) (λ m threads. refl) bodies t s) (part_refill (λ (m : Machine P). m.pending) (λ m threads. refl) bodies t s) q
  keep who (counts_up k) s may q = (ap (λ (n : ℕ). record (counts_of s.machine) { mutexes = n }) (changed-length no_mutex k counted_up s.machine.mutexes) ∙ q.0, q.1)
  keep who (counts_down k) s may q = (ap (λ (n : ℕ). record (counts_of s.machine) { mutexes = n }) (changed-length no_mutex k counted_down s.machine.mutexes) ∙ q.0, q.1)
  keep who (frees k) s may q = (ap (λ (n : ℕ). record (counts_of s.machine) { mutexes = n }) (changed-length no_mutex k freed s.machine.mutexes) ∙ q.0, q.1)
  keep who (takes_for t k) s may q = (ap (λ (n : ℕ). record (counts_of s.machine) { mutexes = n }) (changed-length no_mutex k (taken_by t) s.machine.mutexes) ∙ q.0, q.1)
  keep who (sem_up k) s may q = (ap (λ (n : ℕ). record (counts_of s.machine) { semaphores = n }) (changed-length 0 k (λ (n : ℕ). suc n) s.machine.semaphores) ∙ q.0, q.1)
  keep who (sem_down k) s may q = (ap (λ (n : ℕ). record (counts_of s.machine) { semaphores = n }) (changed-length 0 k pred s.machine.semaphores) ∙ q.0, q.1)
  keep who (message_in p x) s may q = (ap (λ (n : ℕ). record (counts_of s.machine) { queues = n }) (changed-length no_queue p (with_message x) s.machine.queues) ∙ q.0, q.1)
  keep who (message_out p n) s may q = (ap (λ (n : ℕ). record (counts_of s.machine) { queues = n }) (changed-length no_queue p (without_message n) s.machine.queues) ∙ q.0, q.1)
  keep who (message_through p n x) s may q = (
    ap (λ (n : ℕ). record (counts_of s.machine) { queues = n }) (changed-length no_queue p (with_message x) _ ∙ changed-length no_queue p (without_message n) s.machine.queues) ∙ q.0,
    q.1,
  )
  keep who (registers p o) s may q = (ap (λ (n : ℕ). record (counts_of s.machine) { queues = n }) (changed-length no_queue p (registered o) s.machine.queues) ∙ q.0, q.1)
  keep who (sets_timer_by k f) s may q = (ap (λ (n : ℕ). record (counts_of s.machine) { timers = n }) (changed-length no_timer k f s.machine.timers) ∙ q.0, q.1)
  keep who (blocks_plainly by wait due) s may q = absurd may
  keep who (recasts t f) s may q = absurd may
  keep who move s may q = q

  planned : (t : ℕ) (o : Option ServerState) (s : Turn P) → Has s.machine → Has (plans_server t o s).machine
  planned t None s q = q
  planned t (Some server) s q = q

  moved : (b : Bool) (t : ℕ) (s : Turn P) → Has s.machine → Has (moves_if b t s).machine
  moved true t s q = q
  moved false t s q = q

  ended : (e : TickEnd) (t : ℕ) (s : Turn P) → Has s.machine → Has (ends_tick e t s).machine
  ended planning t s q = planned t (thread_at s.machine t).server s q
  ended exhausting t s q = moved _ t _ (planned t (thread_at s.machine t).server (tells (event.Exhaust t) s) q)
  ended slicing t s q = moved (can_run s.machine t) t (changes t without_slice s) q
  ended nothing t s q = q

  objects_law : MachineLaw bodies Has
  objects_law = record {
    moves = keep;
    sleeps = λ by wait due s runs q. q;
    dozes = λ who by wait due s may q. q;
    joins = λ by u s runs q. q;
    elsewhere = λ m now last lists q. q;
    charged = λ t s runs q. q;
    ended = ended;
    opened = λ t x s is q. q;
  }

  abbrev Rest : Machine P → Type 0
  Rest m = Placed m × Has m

  abbrev Law : Machine P → Turn P → Type 0
  Law before s = Placing before s × Has s.machine

  abbrev End : Bool → ℕ → Machine P → Type 0
  End b t m = Placed m × Has m

  abbrev At : Bool → ℕ → Machine P → Turn P → Type 0
  At b t before s = Has s.machine

  tick_kept : TickSince bodies Rest Law (λ b t. Law) (λ b t. Law) End
  tick_kept = both bodies Placed Placing (λ b t. Placing) (λ b t. Placing) (λ b t. Placed) Has (λ before s. Has s.machine) At At (λ b t. Has) (placed_tick bodies)
      (law_beside bodies Placed Placing (λ b t. Placing) (λ b t. Placing) (λ b t. Placed) Has objects_law)

module _ {P : Type 0} (bodies : Bodies P) (ranges : BodiesFit bodies) (script : Script) (fits : IsWellFormed script) where
  abbrev c : Counts
  c = counts_of (opening {P = P} script)

  stands : (n : ℕ) → Rests bodies ranges (Rest bodies c) (Law bodies c) (λ b t. Law bodies c) (λ b t. Law bodies c) (End bodies c) (tick_kept bodies c) (turn_of (ticks bodies n (opening script)).machine)
  stands n =
      run_since bodies ranges (Rest bodies c) (Law bodies c) (λ b t. Law bodies c) (λ b t. Law bodies c) (End bodies c) (tick_kept bodies c) n (opening script) (opening_placed P script fits, (refl, tt)) (opening_listed P script)

  pub objects_throughout : HoldsThroughout bodies (opening script) (λ m. HasObjects (counts_of (opening {P = P} script)) m)
  objects_throughout = record {
    each = λ n k. (items_keep bodies ranges (Rest bodies c) (Law bodies c) (λ b t. Law bodies c) (λ b t. Law bodies c) (End bodies c) (tick_kept bodies c) k (turn_of (ticks bodies n (opening script)).machine) (stands n)).rest.1;
  }
