-- Units that a thread passes: what stays as it is meanwhile, and how long they are.
use Rattle.std.proofs.Common.{◌≡◌, ◌≤◌, ◌<◌, ◌+◌, ◌-◌, ℕ, zero, suc, Bool, true, false, List, [], ◌∷◌, Option, None, Some, ap, arith, length, refl, slice_index_or, slice_set, subst, sym, ◌∙◌}
use Rattle.std.specs.Prelude.{max, option_map, ◌&&◌, ◌==◌, is_some, if◌then◌else◌}
use Rattle.rules_bodies.specs.declared.cursor.Cursor.{Cursor}
use Rattle.rules_bodies.specs.declared.op.Op.{Op}
use Rattle.script_code.specs.Fetched.{unit_of}
use Rattle.rules_bodies.specs.Flat.{NumberedBodies}
use Rattle.rules_server.specs.Server.{ServerState, charge_ticks, is_high}
use Rattle.rules_server.proofs.Laws.{charge_ticks_is}
use Rattle.rules_machine.specs.Bodies.{Bodies}
use Rattle.rules_machine.specs.Servers.{has_high}
use Rattle.rules_machine.specs.State.{Thread}
use Rattle.rules_machine.specs.Threads.{no_thread, thread_at}
use Rattle.rules_machine.specs.Ticks.{capacity_in, slice_is_used}
use Rattle.rules_machine.specs.Turns.{Turn, becomes, changes, ◌▷◌}
use Rattle.rules_machine.specs.Units.{in_unit}
use Rattle.rules_machine.proofs.Reading.{changed-length, thread-same}
use Rattle.rules_moves.proofs.Waiters.Best.{running_within}
use Rattle.laws_machine.proofs.Lists.Kept.{Plans, in_unit_plans}
use Rattle.laws_leaps.proofs.Quiet.Once.{less_high}
use Rattle.rules_flat_code.specs.FlatBodies.{flat_bodies}
use Rattle.rules_leaps.specs.Leap.{later_by}
use Rattle.rules_leaps.specs.Quiet.{server_after}
use Rattle.kernel_threads.specs.declared.ran.Ran.{Ran}
use Rattle.kernel_threads.specs.Lasting.{lasts_by}
use Rattle.kernel_threads.specs.Running.{ArePassed, HasRun, all_of, past, run_for}
use Rattle.kernel_state.specs.Kernel.{Kernel, after}
use Rattle.kernel_leaps.specs.Passing.{MayLeap, MayLeapOn, leap_of, passed_by}
use Rattle.kernel_leaps.proofs.Onward.{charges_by, second_no}

-- ---- how long they are

pub few_passed : (bodies : Bodies Cursor) (near quantum : ℕ) (units : List ℕ) (th : Thread Cursor) → ArePassed bodies near quantum units th →
    all_of units + max 1 (near - all_of units) ≤ max 1 near
few_passed bodies near quantum [] th each = omega arith
few_passed bodies near quantum (k ∷ ks) th each =
    let within = each.0.within in
    let rest = few_passed bodies (near - k) quantum ks (run_for bodies k th) each.1 in
    omega (arith, within, rest)

pub lasts_few : (most quantum : ℕ) (th : Thread Cursor) → lasts_by most quantum th ≤ max 1 most
lasts_few most quantum th = omega arith

-- with the ticks of one more
pub few_ran : (code : NumberedBodies (List Op)) (near quantum : ℕ) (ran : Ran) (old new : Thread Cursor) (steps_before steps_now : ℕ) → HasRun code near quantum ran old new steps_before steps_now →
    ran.passed + ran.ticks ≤ max 1 near
few_ran code near quantum ran old new steps_before steps_now h =
    let few = few_passed (flat_bodies code) near quantum h.units old h.each in
    let passed = h.passed in
    let ticks = lasts_few (near - ran.passed) quantum (in_unit (flat_bodies code) (past (flat_bodies code) h.units old)).thread in
    let is = h.ticks in
    omega (arith, few, passed, ticks, is)

-- ---- what they leave

high_of : (k : ℕ) (o : Option ServerState) → (has_high o && capacity_in (option_map (server_after k) o) == 0) ≡ false → has_high (option_map (server_after k) o) ≡ has_high o
high_of k None left = refl
high_of k (Some s) left = by_high (is_high s) refl
  where
    by_high : (b : Bool) → is_high s ≡ b → has_high (Some (server_after k s)) ≡ has_high (Some s)
    by_high false h = ap (λ (b : Bool). has_high (Some (if b then charge_ticks k s else s))) h
    by_high true h =
        let some : ((charge_ticks k s).capacity == 0) ≡ false = (rw h at left) in
        let more : (s.capacity - k == 0) ≡ false = subst (λ (x : ServerState). (x.capacity == 0) ≡ false) (charge_ticks_is k s) some in
        let same : is_high (charge_ticks k s) ≡ true = ap is_high (charge_ticks_is k s) ∙ less_high k s h more in
        ap (λ (b : Bool). has_high (Some (if b then charge_ticks k s else s))) h ∙ ap (λ (b : Bool). is_some (if b then Some (charge_ticks k s) else None)) same ∙ sym (ap (λ (b : Bool). is_some (if b then Some s else None)) h)

pub high_same : (bodies : Bodies Cursor) (near quantum : ℕ) (units : List ℕ) (th : Thread Cursor) → ArePassed bodies near quantum units th → has_high (past bodies units th).server ≡ has_high th.server
high_same bodies near quantum [] th each = refl
high_same bodies near quantum (k ∷ ks) th each =
    high_same bodies (near - k) quantum ks (run_for bodies k th) each.1 ∙ one
  where
    server : (in_unit bodies th).thread.server ≡ th.server
    server = ap (λ (p : Plans). p.server) (in_unit_plans bodies th)

    left : (has_high th.server && capacity_in (run_for bodies k th).server == 0) ≡ false
    left = second_no (slice_is_used (run_for bodies k th).policy (run_for bodies k th).slice quantum) (has_high th.server && capacity_in (run_for bodies k th).server == 0) each.0.left

    one : has_high (run_for bodies k th).server ≡ has_high th.server
    one =
        high_of k (in_unit bodies th).thread.server (subst (λ (o : Option ServerState). (has_high o && capacity_in (run_for bodies k th).server == 0) ≡ false) (sym server) left)
        ∙ ap has_high server

-- ---- the kernel behind them

set_twice : (xs : List (Thread Cursor)) (n : ℕ) (a b : Thread Cursor) → slice_set (slice_set xs n a) n b ≡ slice_set xs n b
set_twice [] n a b = refl
set_twice (x ∷ xs) zero a b = refl
set_twice (x ∷ xs) (suc n) a b = ap (λ (ys : List (Thread Cursor)). x ∷ ys) (set_twice xs n a b)

set_same : (xs : List (Thread Cursor)) (n : ℕ) → slice_set xs n (slice_index_or xs n no_thread) ≡ xs
set_same [] n = refl
set_same (x ∷ xs) zero = refl
set_same (x ∷ xs) (suc n) = ap (λ (ys : List (Thread Cursor)). x ∷ ys) (set_same xs n)

pub none_passed : (t : ℕ) (p : Kernel) → p ≡ passed_by t [] p
none_passed t p =
    sym (ap (λ (xs : List (Thread Cursor)). record p { machine = record p.machine { threads = xs; now = p.machine.now + 0 } }) (set_same p.machine.threads t)
    ∙ ap (λ (n : ℕ). record p { machine = record p.machine { now = n } }) (let e : p.machine.now + 0 ≡ p.machine.now = omega arith in e))

pub more_passed : (t k : ℕ) (ks : List ℕ) (p : Kernel) → t < length p.machine.threads → passed_by t ks (after (charges_by t k p) p) ≡ passed_by t (k ∷ ks) p
more_passed t k ks p known =
    let bodies = flat_bodies p.code in
    let ts = p.machine.threads in
    let one = run_for bodies k (thread_at p.machine t) in
    let here : slice_index_or (slice_set ts t one) t no_thread ≡ one = thread-same p.machine t (λ th. one) known in
    let threads : slice_set (slice_set ts t one) t (past bodies ks (slice_index_or (slice_set ts t one) t no_thread)) ≡ slice_set ts t (past bodies ks one) =
    ap (λ (x : Thread Cursor). slice_set (slice_set ts t one) t (past bodies ks x)) here ∙ set_twice ts t one (past bodies ks one) in
    let now : (p.machine.now + k) + all_of ks ≡ p.machine.now + (k + all_of ks) = omega arith in
    ap (λ (xs : List (Thread Cursor)). record p { machine = record p.machine { threads = xs; now = (p.machine.now + k) + all_of ks } }) threads
    ∙ ap (λ (n : ℕ). record p { machine = record p.machine { threads = slice_set ts t (past bodies ks one); now = n } }) now

-- ticks of the thread in all are its ticks from behind these units
pub from_behind : (t gone k : ℕ) (units : List ℕ) (x : Thread Cursor) (p l : Kernel) → l ≡ after (λ (s : Turn Cursor). s ▷ changes t (λ th. x) ▷ becomes (later_by (gone + k))) p → gone ≡ all_of units →
    l ≡ after (λ (s : Turn Cursor). s ▷ changes t (λ th. x) ▷ becomes (later_by k)) (passed_by t units p)
from_behind t gone k units x p l state is =
    let ts = p.machine.threads in
    let there = past (flat_bodies p.code) units (thread_at p.machine t) in
    let now : p.machine.now + (gone + k) ≡ (p.machine.now + all_of units) + k = omega (arith, is) in
    state
    ∙ ap (λ (n : ℕ). record p { machine = record p.machine { threads = slice_set ts t x; now = n } }) now
    ∙ sym (ap (λ (xs : List (Thread Cursor)). record p { machine = record p.machine { threads = xs; now = (p.machine.now + all_of units) + k } }) (set_twice ts t there x))

-- ---- what a thread that ran has begun

-- one step more, before and behind
pub counted_once : {code : NumberedBodies (List Op)} {near quantum : ℕ} {ran : Ran} {old new : Thread Cursor} {steps_before steps_now : ℕ} →
    HasRun code near quantum ran old new steps_before steps_now → HasRun code near quantum ran old new (steps_before + 1) (steps_now + 1)
counted_once h = record {
  units = h.units;
  each = h.each;
  passed = h.passed;
  unit = h.unit;
  ticks = h.ticks;
  thread = h.thread;
  complete = h.complete;
  high = h.high;
  steps = (let steps = h.steps in omega (arith, steps));
}

-- behind the units that it passed: the kernel there, and the leap that was charged
pub record Begun (near t : ℕ) (ran : Ran) (p l : Kernel) (steps_before steps_now : ℕ) : Type 0 where
  pub behind : Kernel
  pub units : List ℕ
  pub each : ArePassed (flat_bodies p.code) near p.machine.quantum units (thread_at p.machine t)
  pub is : behind ≡ passed_by t units p
  pub passed : ran.passed ≡ all_of units
  pub may : MayLeap (near - all_of units) t behind
  pub long : ran.ticks ≡ leap_of (near - all_of units) t behind
  pub state : l ≡ after (charges_by t ran.ticks behind) behind
  pub unit : unit_of behind.code ran.unit ≡ (in_unit (flat_bodies behind.code) (thread_at behind.machine t)).unit
  pub high : ran.was_high ≡ has_high (thread_at behind.machine t).server
  pub steps : steps_now ≡ steps_before + length units + 1

pub begun_at : (near t : ℕ) (ran : Ran) (p l : Kernel) {steps_before steps_now : ℕ} → MayLeapOn near t p →
    HasRun p.code near p.machine.quantum ran (thread_at p.machine t) (thread_at l.machine t) (steps_before + 1) steps_now →
    l ≡ after (λ (s : Turn Cursor). s ▷ changes t (λ th. thread_at l.machine t) ▷ becomes (later_by (ran.passed + ran.ticks))) p → Begun near t ran p l steps_before steps_now
begun_at near t ran p l {steps_before} {steps_now} may h state = record {
  behind = behind;
  units = h.units;
  each = h.each;
  is = refl;
  passed = h.passed;
  may = here;
  long = h.ticks ∙ ap (λ (n : ℕ). lasts_by (near - n) p.machine.quantum (in_unit bodies there).thread) h.passed ∙ ap (λ (th : Thread Cursor). lasts_by (near - all_of h.units) p.machine.quantum (in_unit bodies th).thread) (sym at);
  state =
      from_behind t ran.passed ran.ticks h.units (thread_at l.machine t) p l state h.passed
      ∙ ap (λ (x : Thread Cursor). after (λ (s : Turn Cursor). s ▷ changes t (λ th. x) ▷ becomes (later_by ran.ticks)) behind) (h.thread ∙ ap (run_for bodies ran.ticks) (sym at));
  unit = h.unit ∙ ap (λ (th : Thread Cursor). (in_unit bodies th).unit) (sym at);
  high = h.high ∙ sym (high_same bodies near p.machine.quantum h.units (thread_at p.machine t) h.each) ∙ ap (λ (th : Thread Cursor). has_high th.server) (sym at);
  steps = (let steps = h.steps in omega (arith, steps));
}
  where
    bodies : Bodies Cursor
    bodies = flat_bodies p.code

    behind : Kernel
    behind = passed_by t h.units p

    there : Thread Cursor
    there = past (flat_bodies p.code) h.units (thread_at p.machine t)

    here : MayLeap (near - all_of h.units) t (passed_by t h.units p)
    here = may h.units h.each

    known : t < length p.machine.threads
    known =
        let within = running_within (passed_by t h.units p).machine.threads t here.fits.runs in
        let same = changed-length no_thread t (past (flat_bodies p.code) h.units) p.machine.threads in
        omega (arith, within, same)

    at : thread_at (passed_by t h.units p).machine t ≡ past (flat_bodies p.code) h.units (thread_at p.machine t)
    at = thread-same p.machine t (past (flat_bodies p.code) h.units) known

-- from where it stands
pub may_here : (near t : ℕ) (p : Kernel) → MayLeapOn near t p → MayLeap near t p
may_here near t p may =
    subst (MayLeap near t) (sym (none_passed t p)) (subst (λ (n : ℕ). MayLeap n t (passed_by t [] p)) (let e : near - 0 ≡ near = omega arith in e) (may [] tt))
