-- What a change of threads and mutexes leaves of the ties, and who is named with it.
use Rattle.std.proofs.Common.{◌≡◌, ◌≢◌, ◌<◌, ◌≤◌, ◌∙◌, inl, inr, ℕ, true, false, List, None, Option, Some, ap, arith, length, refl, subst, sym}
use Rattle.std.specs.Prelude.{IfSome, ◌==◌}
use Rattle.std.proofs.lemmas.Bool.Decides.{eqb_tells}
use Rattle.rules_bodies.specs.declared.cursor.Cursor.{Cursor}
use Rattle.rules_bodies.specs.declared.op.Op.{Op}
use Rattle.rules_bodies.specs.Flat.{NumberedBodies}
use Rattle.rules_machine.specs.Lists.{is}
use Rattle.rules_machine.specs.State.{Mutex, Thread}
use Rattle.rules_machine.specs.Threads.{is_runnable, no_thread}
use Rattle.rules_machine.proofs.Reading.{changed-length, changed-other}
use Rattle.kernel_table.specs.Movers.{KeepsExec, KeepsOthers, TellsMoved, TellsMovedBeside}
use Rattle.kernel_table.specs.Table.{Table, thread_at, with_mutex, with_thread}
use Rattle.kernel_table.proofs.ToldMoves.{keeps}
use Rattle.parts_bits.specs.Sets.{Turns, has}
use Rattle.kernel_state.specs.Members.{TakesIn}
use Rattle.kernel_state.specs.Standing.{OthersStand}
use Rattle.kernel_state.specs.Tied.{IsTied}
use Rattle.kernel_state.proofs.StandOn.{RunOn, both_out, run_on, stand_on, still_out, taken_known, turned_known}

-- ---- as many threads as before

pub as_many : (old new : Table) (t : ℕ) (f : Thread Cursor → Thread Cursor) → new ≡ with_thread t f old → length new.threads ≡ length old.threads
as_many old new t f is = ap (λ (x : Table). length x.threads) is ∙ changed-length no_thread t f old.threads

pub tied_again : (names : List (List ℕ)) (code : NumberedBodies (List Op)) (ready : ℕ) (old new : List (Thread Cursor)) (direct : List ℕ) → length new ≡ length old →
    IsTied names code ready old direct → IsTied names code ready new direct
tied_again names code ready old new direct long tied = record {
  few = (let few = tied.few in omega (arith, few, long));
  named = tied.named ∙ sym long;
  listed = tied.listed ∙ sym long;
  known = tied.known;
  bodies = tied.bodies;
  handlers = tied.handlers;
  catchers = tied.catchers;
}

-- ---- those that are told are threads

pub told_there : (old new : Table) (r : Option ℕ) → TellsMoved old new r → IfSome r (λ t. t < length new.threads)
told_there old new None h = tt
told_there old new (Some t) h = h.free.known

pub beside_there : (u : ℕ) (old new : Table) (r : Option ℕ) → TellsMovedBeside u old new r → IfSome r (λ t. t < length new.threads)
beside_there u old new None h = tt
beside_there u old new (Some t) h = h.free.known

low : (n : ℕ) (r : Option ℕ) → n ≤ 256 → IfSome r (λ t. t < n) → IfSome r (λ t. t < 256)
low n None few lt = tt
low n (Some t) few lt = omega (arith, few, lt)

-- and they fit the set
pub fit : (old new : Table) (r : Option ℕ) → length new.threads ≡ length old.threads → length old.threads ≤ 256 → IfSome r (λ t. t < length new.threads) → IfSome r (λ t. t < 256)
fit old new r long few there = low (length new.threads) r (omega (arith, long, few)) there

-- ---- what is told leaves all others

pub told_keeps : (t : ℕ) (old new : Table) (r : Option ℕ) → TellsMoved old new r → KeepsOthers t r None old new
told_keeps t old new r h u free other not_r none = keeps old new r h u free not_r

pub beside_keeps : (t : ℕ) (old new : Table) (r : Option ℕ) → TellsMovedBeside t old new r → KeepsOthers t r None old new
beside_keeps t old new None h u free other not_r none = h u free other
beside_keeps t old new (Some m) h u free other not_r none = h.others u free other (λ e. (let apart : (m == u) ≡ false = not_r in absurd (grind (arith, e, apart))))

-- ---- who is named

module _ (old new : Table) (lists : List (List ℕ)) (before : List ℕ) (are : OthersStand before old lists) (long : length new.threads ≡ length old.threads) where
  known_before : (t : ℕ) → has t before ≡ true → t < length new.threads
  known_before t here = let lt = are.known t here in omega (arith, lt, long)

  -- nobody, where no priority changed
  pub none_named : RunOn old new → KeepsExec old new → OthersStand before new lists
  none_named runs same = stand_on old new lists before before known_before (λ t out. out) (λ t out. runs t) (λ t out free. same t (let lt = free.known in omega (arith, lt, long))) are

  -- the one that is told
  pub told_named : (after : List ℕ) (r : Option ℕ) → RunOn old new → TakesIn r before after → TellsMoved old new r → OthersStand after new lists
  told_named after r runs takes told =
      stand_on old new lists before after (taken_known r (length new.threads) before after takes (told_there old new r told) known_before)
      (λ t out. (both_out r t before after takes out).0) (λ t out. runs t) (λ t out free. keeps old new r told t free (both_out r t before after takes out).1) are

  -- a thread, and two that are told beside it
  pub all_named : (mid next after : List ℕ) (t : ℕ) (a b : Option ℕ) → t < length old.threads → ((u : ℕ) → u ≢ t → thread_at new u ≡ thread_at old u) →
      Turns t true before mid → TakesIn a mid next → TakesIn b next after → IfSome a (λ u. u < length new.threads) → IfSome b (λ u. u < length new.threads) →
      KeepsOthers t a b old new → OthersStand after new lists
  all_named mid next after t a b lt others turns first second a_there b_there same =
      stand_on old new lists before after
      (taken_known b (length new.threads) next after second b_there (taken_known a (length new.threads) mid next first a_there (turned_known t (length new.threads) before mid turns (omega (arith, lt, long)) known_before)))
      (λ u out. (back u out).0) (λ u out runs. rw (others u (back u out).1) runs)
      (λ u out free. same u free (back u out).1 (is_a u out) (is_b u out)) are
    where
      is_b : (u : ℕ) → has u after ≡ false → is b u ≡ false
      is_b u out = (both_out b u next after second out).1

      is_a : (u : ℕ) → has u after ≡ false → is a u ≡ false
      is_a u out = (both_out a u mid next first (both_out b u next after second out).0).1

      back : (u : ℕ) → has u after ≡ false → (has u before ≡ false) × (u ≢ t)
      back u out = still_out t u before mid turns (both_out a u mid next first (both_out b u next after second out).0).0

-- ---- one thread changes

module _ (old new : Table) (lists : List (List ℕ)) (before : List ℕ) (t : ℕ) (f : Thread Cursor → Thread Cursor) (is_new : new ≡ with_thread t f old) (are : OthersStand before old lists) where
  others_same : (u : ℕ) → u ≢ t → thread_at new u ≡ thread_at old u
  others_same u other = ap (λ (x : Table). thread_at x u) is_new ∙ changed-other no_thread no_thread t u f old.threads (grind (arith, other))

  runs_on : ((th : Thread Cursor) → is_runnable th.status ≡ true → is_runnable (f th).status ≡ true) → RunOn old new
  runs_on goes = subst (RunOn old) (sym is_new) (run_on old t f goes)

  pub none_thread : ((th : Thread Cursor) → is_runnable th.status ≡ true → is_runnable (f th).status ≡ true) → KeepsExec old new → OthersStand before new lists
  none_thread goes same = none_named old new lists before are (as_many old new t f is_new) (runs_on goes) same

  pub told_thread : (after : List ℕ) (r : Option ℕ) → ((th : Thread Cursor) → is_runnable th.status ≡ true → is_runnable (f th).status ≡ true) → TakesIn r before after →
      TellsMoved old new r → OthersStand after new lists
  told_thread after r goes takes told = told_named old new lists before are (as_many old new t f is_new) after r (runs_on goes) takes told

  -- the same where it runs on if it ran
  pub told_itself : (after : List ℕ) (r : Option ℕ) → (is_runnable (thread_at old t).status ≡ true → is_runnable (thread_at new t).status ≡ true) → TakesIn r before after →
      TellsMoved old new r → OthersStand after new lists
  told_itself after r goes takes told = told_named old new lists before are (as_many old new t f is_new) after r each takes told
    where
      each : RunOn old new
      each u runs = elim (eqb_tells u t) [
        | inl same ↦ rw same.1 (goes (rw same.1 at runs))
        | inr other ↦ rw (others_same u other.1) runs
      ]

  -- it is named itself
  pub self_thread : (mid after : List ℕ) (r : Option ℕ) → t < length old.threads → Turns t true before mid → TakesIn r mid after → IfSome r (λ u. u < length new.threads) →
      KeepsOthers t r None old new → OthersStand after new lists
  self_thread mid after r lt turns takes there keeps =
      all_named old new lists before are (as_many old new t f is_new) mid after after t r None lt others_same turns takes refl there tt keeps

-- ---- one mutex changes

pub told_mutex : (old new : Table) (lists : List (List ℕ)) (before after : List ℕ) (k : ℕ) (f : Mutex → Mutex) (r : Option ℕ) → new ≡ with_mutex k f old → TakesIn r before after → TellsMoved old new r →
    OthersStand before old lists → OthersStand after new lists
told_mutex old new lists before after k f r is_new takes told are =
    let threads = ap (λ (x : Table). x.threads) is_new in
    told_named old new lists before are (ap length threads) after r (subst (RunOn old) (sym is_new) (λ t runs. runs)) takes told

pub none_mutex : (old new : Table) (lists : List (List ℕ)) (before : List ℕ) (k : ℕ) (f : Mutex → Mutex) → new ≡ with_mutex k f old → KeepsExec old new →
    OthersStand before old lists → OthersStand before new lists
none_mutex old new lists before k f is_new same are =
    let threads = ap (λ (x : Table). x.threads) is_new in
    none_named old new lists before are (ap length threads) (subst (RunOn old) (sym is_new) (λ t runs. runs)) same

-- ---- a mutex goes to a thread that wakes

module _ (old new : Table) (k t : ℕ) (g : Mutex → Mutex) (f : Thread Cursor → Thread Cursor) (is_new : new ≡ with_thread t f (with_mutex k g old)) where
  pub handed_many : length new.threads ≡ length old.threads
  handed_many = as_many (with_mutex k g old) new t f is_new

  pub handed_named : (lists : List (List ℕ)) (before mid next after : List ℕ) (a b : Option ℕ) → OthersStand before old lists → t < length old.threads →
      Turns t true before mid → TakesIn a mid next → TakesIn b next after → IfSome a (λ u. u < length new.threads) → IfSome b (λ u. u < length new.threads) →
      KeepsOthers t a b old new → OthersStand after new lists
  handed_named lists before mid next after a b are lt turns first second a_there b_there same =
      all_named old new lists before are handed_many mid next after t a b lt
      (λ u other. ap (λ (x : Table). thread_at x u) is_new ∙ changed-other no_thread no_thread t u f old.threads (grind (arith, other))) turns first second a_there b_there same

  -- those that are told beside it are threads
  pub released_there : (free : Mutex → Mutex) (r : Option ℕ) → TellsMoved old (with_mutex k free old) r → IfSome r (λ u. u < length new.threads)
  released_there free r told = subst (λ (n : ℕ). IfSome r (λ u. u < n)) (sym handed_many) (told_there old (with_mutex k free old) r told)

  pub woken_there : (free : Mutex → Mutex) (r : Option ℕ) → TellsMoved (with_mutex k free old) (with_thread t f (with_mutex k free old)) r → IfSome r (λ u. u < length new.threads)
  woken_there free r told =
      subst (λ (n : ℕ). IfSome r (λ u. u < n)) (changed-length no_thread t f old.threads ∙ sym handed_many) (told_there (with_mutex k free old) (with_thread t f (with_mutex k free old)) r told)
