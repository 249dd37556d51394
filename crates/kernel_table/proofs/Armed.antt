-- The wheel has what falls due of the threads, as one of them changes.
use Rattle.std.proofs.Common.{◌≡◌, ◌≢◌, ◌<◌, ◌≤◌, ◌+◌, ◌∙◌, ℕ, zero, suc, List, [], ◌∷◌, Bool, true, false, None, Option, Some, ap, arith, inl, inr, length, refl, replicate, slice_set, sym, take}
use Rattle.std.specs.Prelude.{if◌then◌else◌, option_and_then, option_map}
use Rattle.std.proofs.lemmas.Bool.Decides.{eqb_tells}
use Rattle.std.proofs.lemmas.List.{get_or-replicate, get_or-set_other, get_or-set_same, length-replicate, length-set, set-get_or, take_all}
use Rattle.rules_bodies.specs.declared.cursor.Cursor.{Cursor}
use Rattle.rules_server.specs.declared.Replenish.{Replenish}
use Rattle.rules_server.specs.Server.{ServerState, activate, charge_ticks, is_high, next_due, set_high}
use Rattle.rules_leaps.specs.Quiet.{server_after}
use Rattle.rules_machine.specs.Lists.{changed_at}
use Rattle.rules_machine.specs.State.{Thread, Timer}
use Rattle.rules_machine.specs.Threads.{no_thread, thread_in}
use Rattle.rules_machine.proofs.Reading.{changed-keeps}
use Rattle.parts_wheel.specs.Dues.{due_of}
use Rattle.kernel_table.specs.Tied.{AreArmed, refilling, timed, waiting_until}
use Rattle.kernel_table.specs.Times.{refill_of, start_of, timeout_of}

-- ---- one thread changes

module _ (dues : List (Option ℕ)) (t u : ℕ) (a b c : Option ℕ) (long : length dues ≡ 1024) (small : t < 256) (below : u < 256) where
  abbrev first : List (Option ℕ)
  first = slice_set dues t a

  abbrev second : List (Option ℕ)
  second = slice_set first (256 + t) b

  abbrev third : List (Option ℕ)
  third = slice_set second (512 + t) c

  refill_at : (d : Option ℕ) → (u ≡ t → a ≡ d) → (u ≢ t → due_of u dues ≡ d) → due_of u third ≡ d
  refill_at d here there =
      get_or-set_other second (512 + t) u c None (omega (arith, below)) ∙ get_or-set_other first (256 + t) u b None (omega (arith, below))
      ∙ elim (eqb_tells u t) [
        | inl same ↦ ap (λ (v : ℕ). due_of v first) same.1 ∙ get_or-set_same dues t a None (omega (arith, long, small)) ∙ here same.1
        | inr other ↦ get_or-set_other dues t u a None other.1 ∙ there other.1
      ]

  start_at : (d : Option ℕ) → (u ≡ t → b ≡ d) → (u ≢ t → due_of (256 + u) dues ≡ d) → due_of (256 + u) third ≡ d
  start_at d here there =
      get_or-set_other second (512 + t) (256 + u) c None (omega (arith, below))
      ∙ elim (eqb_tells u t) [
        | inl same ↦ ap (λ (v : ℕ). due_of (256 + v) second) same.1 ∙ get_or-set_same first (256 + t) b None (omega (arith, long, small, length-set dues t a)) ∙ here same.1
        | inr other ↦ get_or-set_other first (256 + t) (256 + u) b None (λ e. other.1 (omega (arith, e)))
            ∙ get_or-set_other dues t (256 + u) a None (omega (arith, small)) ∙ there other.1
      ]

  timeout_at : (d : Option ℕ) → (u ≡ t → c ≡ d) → (u ≢ t → due_of (512 + u) dues ≡ d) → due_of (512 + u) third ≡ d
  timeout_at d here there = elim (eqb_tells u t) [
    | inl same ↦ ap (λ (v : ℕ). due_of (512 + v) third) same.1
        ∙ get_or-set_same second (512 + t) c None (omega (arith, long, small, length-set dues t a, length-set first (256 + t) b)) ∙ here same.1
    | inr other ↦ get_or-set_other second (512 + t) (512 + u) c None (λ e. other.1 (omega (arith, e)))
        ∙ get_or-set_other first (256 + t) (512 + u) b None (omega (arith, small)) ∙ get_or-set_other dues t (512 + u) a None (omega (arith, small)) ∙ there other.1
  ]

  timer_at : due_of (768 + u) third ≡ due_of (768 + u) dues
  timer_at = get_or-set_other second (512 + t) (768 + u) c None (omega (arith, small)) ∙ get_or-set_other first (256 + t) (768 + u) b None (omega (arith, small))
      ∙ get_or-set_other dues t (768 + u) a None (omega (arith, small))

  third_long : length third ≡ 1024
  third_long = length-set second (512 + t) c ∙ length-set first (256 + t) b ∙ length-set dues t a ∙ long

-- other threads, of which one alone may have changed
pub armed_anew : (threads new : List (Thread Cursor)) (timers : List Timer) (dues : List (Option ℕ)) (t : ℕ) (th : Thread Cursor) → t < 256 → thread_in new t ≡ th →
    ((u : ℕ) → u ≢ t → thread_in new u ≡ thread_in threads u) → AreArmed threads timers dues → AreArmed new timers (timed t th dues)
armed_anew threads new timers dues t th small is others h = record {
  few_timers = h.few_timers;
  numbers = third_long dues t 0 (refill_of th) (start_of th) (timeout_of th) h.numbers small (omega arith);
  refills = λ u lt. refill_at dues t u (refill_of th) (start_of th) (timeout_of th) h.numbers small lt (refill_of (thread_in new u))
      (λ e. sym (ap (λ (v : ℕ). refill_of (thread_in new v)) e ∙ ap refill_of is)) (λ other. h.refills u lt ∙ ap refill_of (sym (others u other)));
  starts = λ u lt. start_at dues t u (refill_of th) (start_of th) (timeout_of th) h.numbers small lt (start_of (thread_in new u))
      (λ e. sym (ap (λ (v : ℕ). start_of (thread_in new v)) e ∙ ap start_of is)) (λ other. h.starts u lt ∙ ap start_of (sym (others u other)));
  timeouts = λ u lt. timeout_at dues t u (refill_of th) (start_of th) (timeout_of th) h.numbers small lt (timeout_of (thread_in new u))
      (λ e. sym (ap (λ (v : ℕ). timeout_of (thread_in new v)) e ∙ ap timeout_of is)) (λ other. h.timeouts u lt ∙ ap timeout_of (sym (others u other)));
  expiries = λ k lt. timer_at dues t k (refill_of th) (start_of th) (timeout_of th) h.numbers small lt ∙ h.expiries k lt;
}

-- a thread that changes, and whose items are armed anew
pub armed_after : (threads : List (Thread Cursor)) (timers : List Timer) (dues new : List (Option ℕ)) (t : ℕ) (th : Thread Cursor) → length threads ≤ 256 → t < length threads →
    new ≡ timed t (thread_in (slice_set threads t th) t) dues → AreArmed threads timers dues → AreArmed (slice_set threads t th) timers new
armed_after threads timers dues new t th few known is h =
    rw is (armed_anew threads (slice_set threads t th) timers dues t (thread_in (slice_set threads t th) t) (omega (arith, few, known)) refl
    (λ u other. get_or-set_other threads t u th no_thread other) h)

-- ---- some items of the thread are armed anew

due_kept : (dues : List (Option ℕ)) (i : ℕ) (d : Option ℕ) → due_of i dues ≡ d → slice_set dues i d ≡ dues
due_kept dues i d is = rw (← is) (set-get_or dues i None)

-- a thread whose server alone changes
pub armed_refilled : (threads : List (Thread Cursor)) (timers : List Timer) (dues new : List (Option ℕ)) (t : ℕ) (th : Thread Cursor) → length threads ≤ 256 → t < length threads →
    start_of th ≡ start_of (thread_in threads t) → timeout_of th ≡ timeout_of (thread_in threads t) →
    new ≡ refilling t (thread_in (slice_set threads t th) t) dues → AreArmed threads timers dues → AreArmed (slice_set threads t th) timers new
armed_refilled threads timers dues new t th few known start timeout is h =
    let small : t < 256 = omega (arith, few, known) in
    let here : thread_in (slice_set threads t th) t ≡ th = get_or-set_same threads t th no_thread known in
    let one = refilling t th dues in
    let started : due_of (256 + t) one ≡ start_of th =
    get_or-set_other dues t (256 + t) (refill_of th) None (omega (arith, small)) ∙ h.starts t small ∙ sym start in
    let ended : due_of (512 + t) one ≡ timeout_of th =
    get_or-set_other dues t (512 + t) (refill_of th) None (omega (arith, small)) ∙ h.timeouts t small ∙ sym timeout in
    let all : timed t th dues ≡ one =
    ap (λ (ds : List (Option ℕ)). slice_set ds (512 + t) (timeout_of th)) (due_kept one (256 + t) (start_of th) started) ∙ due_kept one (512 + t) (timeout_of th) ended in
    armed_after threads timers dues new t th few known (is ∙ ap (λ (x : Thread Cursor). refilling t x dues) here ∙ sym all ∙ ap (λ (x : Thread Cursor). timed t x dues) (sym here)) h

-- a thread that waits until then, with the server that it had
pub armed_waiting : (threads : List (Thread Cursor)) (timers : List Timer) (dues new : List (Option ℕ)) (t : ℕ) (th : Thread Cursor) (due : Option ℕ) → length threads ≤ 256 → t < length threads →
    refill_of th ≡ refill_of (thread_in threads t) → start_of th ≡ None → timeout_of th ≡ due →
    new ≡ waiting_until t due dues → AreArmed threads timers dues → AreArmed (slice_set threads t th) timers new
armed_waiting threads timers dues new t th due few known refill start timeout is h =
    let small : t < 256 = omega (arith, few, known) in
    let here : thread_in (slice_set threads t th) t ≡ th = get_or-set_same threads t th no_thread known in
    let refilled : slice_set dues t (refill_of th) ≡ dues = due_kept dues t (refill_of th) (h.refills t small ∙ sym refill) in
    let all : timed t th dues ≡ waiting_until t due dues = rw (refilled, start, timeout) refl in
    armed_after threads timers dues new t th few known (is ∙ sym all ∙ ap (λ (x : Thread Cursor). timed t x dues) (sym here)) h

-- a thread that changes in nothing that falls due
pub still_armed : (threads : List (Thread Cursor)) (timers : List Timer) (dues : List (Option ℕ)) (t : ℕ) (f : Thread Cursor → Thread Cursor) →
    ((th : Thread Cursor) → refill_of (f th) ≡ refill_of th) → ((th : Thread Cursor) → start_of (f th) ≡ start_of th) → ((th : Thread Cursor) → timeout_of (f th) ≡ timeout_of th) →
    AreArmed threads timers dues → AreArmed (changed_at no_thread t f threads) timers dues
still_armed threads timers dues t f refill start timeout h = record {
  few_timers = h.few_timers;
  numbers = h.numbers;
  refills = λ u lt. h.refills u lt ∙ sym (changed-keeps no_thread t u f refill_of refill threads);
  starts = λ u lt. h.starts u lt ∙ sym (changed-keeps no_thread t u f start_of start threads);
  timeouts = λ u lt. h.timeouts u lt ∙ sym (changed-keeps no_thread t u f timeout_of timeout threads);
  expiries = h.expiries;
}

-- ---- before anything is in the wheel

none_in : (i n : ℕ) → i < n → due_of i (replicate n None) ≡ None
none_in i n lt = get_or-replicate n i None None lt

pub none_armed : AreArmed [] [] (replicate 1024 None)
none_armed = record {
  few_timers = omega arith;
  numbers = length-replicate {A = Option ℕ} 1024 None;
  refills = λ t lt. none_in t 1024 (omega (arith, lt));
  starts = λ t lt. none_in (256 + t) 1024 (omega (arith, lt));
  timeouts = λ t lt. none_in (512 + t) 1024 (omega (arith, lt));
  expiries = λ k lt. none_in (768 + k) 1024 (omega (arith, lt));
}

-- ---- one thread more

take_here : (ths : List (Thread Cursor)) (n : ℕ) → n < length ths → thread_in (take (n + 1) ths) n ≡ thread_in ths n
take_here [] n lt = absurd (omega arith)
take_here (th ∷ ths) zero lt = refl
take_here (th ∷ ths) (suc n) lt = let one : suc n + 1 ≡ suc (n + 1) = omega arith in rw one (take_here ths n (omega arith))

take_there : (ths : List (Thread Cursor)) (n u : ℕ) → u ≢ n → thread_in (take (n + 1) ths) u ≡ thread_in (take n ths) u
take_there [] zero u other = refl
take_there [] (suc n) u other = let one : suc n + 1 ≡ suc (n + 1) = omega arith in rw one refl
take_there (th ∷ ths) zero zero other = absurd (other refl)
take_there (th ∷ ths) zero (suc u) other = refl
take_there (th ∷ ths) (suc n) zero other = let one : suc n + 1 ≡ suc (n + 1) = omega arith in rw one refl
take_there (th ∷ ths) (suc n) (suc u) other = let one : suc n + 1 ≡ suc (n + 1) = omega arith in rw one (take_there ths n u (λ e. other (ap suc e)))

pub one_armed : (ths : List (Thread Cursor)) (dues new : List (Option ℕ)) (n : ℕ) → length ths ≤ 256 → n < length ths → new ≡ timed n (thread_in ths n) dues → AreArmed (take n ths) [] dues →
    AreArmed (take (n + 1) ths) [] new
one_armed ths dues new n few lt is h = rw is (armed_anew (take n ths) (take (n + 1) ths) [] dues n (thread_in ths n) (omega (arith, few, lt)) (take_here ths n lt) (λ u other. take_there ths n u other) h)

pub all_armed : (ths : List (Thread Cursor)) (dues : List (Option ℕ)) (n : ℕ) → length ths ≤ n → AreArmed (take n ths) [] dues → AreArmed ths [] dues
all_armed ths dues n le h = rw (take_all n ths le) at h

-- ---- what servers keep

pub activated_due : (now : ℕ) (o : Option ServerState) → option_and_then next_due (option_map (activate now) o) ≡ option_and_then next_due o
activated_due now None = refl
activated_due now (Some s) = refl

pub raised_due : (p : ℕ) (o : Option ServerState) → option_and_then next_due (option_map (set_high p) o) ≡ option_and_then next_due o
raised_due p None = refl
raised_due p (Some s) = refl

charged_pending : (k : ℕ) (s : ServerState) → (charge_ticks k s).pending ≡ s.pending
charged_pending zero s = refl
charged_pending (suc k) s = charged_pending k s

after_due : (k : ℕ) (s : ServerState) → next_due (server_after k s) ≡ next_due s
after_due k s = by_high (is_high s)
  where
    by_high : (b : Bool) → next_due (if b then charge_ticks k s else s) ≡ next_due s
    by_high true = ap (λ (rs : List Replenish). next_due (record s { pending = rs })) (charged_pending k s)
    by_high false = refl

-- a charge of ticks plans no replenishment and carries none out
pub charged_due : (k : ℕ) (o : Option ServerState) → option_and_then next_due (option_map (server_after k) o) ≡ option_and_then next_due o
charged_due k None = refl
charged_due k (Some s) = after_due k s
