-- Where it is seen of a fact that it tells nothing.
use Rattle.std.proofs.Common.{◌≡◌, ◌∙◌, ℕ, Bool, List, None, Option, Some, [], ◌∷◌, ◌++◌, ap, arith, false, filter, length, map, not, refl, true}
use Rattle.std.specs.Prelude.{option_map, slice_get, ◌==◌}
use Rattle.words_script.specs.declared.decl.Decl.{Decl}
use Rattle.words_script.specs.declared.name_kind.NameKind.{NameKind}
use Rattle.rules_server.specs.declared.Replenish.{Replenish}
use Rattle.rules_machine.specs.declared.frame.BodyOf.{BodyOf}
use Rattle.rules_machine.specs.Lists.{first_by}
use Rattle.rules_machine.specs.State.{Machine, SignalRecord, Thread, Wait, for_condition, for_end, for_message, for_mutex, for_mutex_again, for_room, for_semaphore, for_signal, for_time}
use Rattle.rules_machine.specs.Threads.{is_live, no_thread, thread_at}
use Rattle.rules_machine.specs.Waiters.{Waiter, best_waiter, is_served_before, waiters}
use Rattle.parts_waiters.specs.Ties.{is_object, object_of}
use Rattle.rules_facts.specs.Fact.{Fact, cancelability, inner_frames, masked, on_list, pending_signals, pushed_cleanups, receivers_of, replenishments, senders_of, waiters_of}
use Rattle.rules_facts.specs.Objects.{in_service_order}
use Rattle.rules_facts.specs.Order.{in_order}
use Rattle.rules_facts.specs.Signals.{pending_of, signal_fact}
use Rattle.rules_facts.specs.Threads.{inner_bodies, living, planned}
use Rattle.kernel_lines.specs.InLine.{stands_in}
use Rattle.kernel_texts.specs.Lines.{fact_text, facts_text}
use Rattle.kernel_texts.specs.Rows.{thread_fact_of}
use Rattle.kernel_texts.specs.Short.{HasShortText, HaveShortTexts}
use Rattle.kernel_texts.specs.declared.rows.ThreadRow.{ThreadRow}
use Rattle.kernel_texts.specs.declared.rows.ThreadRow.TheVariants as thread
use Rattle.kernel_lines.specs.declared.waiters.Line.{Line}
use Rattle.kernel_lines.specs.declared.waiters.Line.TheVariants as line
use Rattle.kernel_texts.specs.Kept.{waiters_text}
use Rattle.kernel_texts.specs.Picked.{is_left_out, left_in}
use Rattle.kernel_texts.proofs.Living.{living_is, living_not}
use Rattle.kernel_looks.specs.Nothing.{IsBare, TellNothing, TellsNothing, is_status, told_of, wait_obj}

-- a list without a first member
pub list_nothing : (p : ℕ) (xs : List ℕ) → slice_get xs 0 ≡ None → TellsNothing (on_list p xs)
list_nothing p [] e = λ decls. refl
list_nothing p (x ∷ xs) e = absurd (cc)

pub no_members : {X : Type 0} (xs : List X) → length xs ≡ 0 → xs ≡ []
no_members [] e = refl
no_members (x ∷ xs) e = absurd (omega arith)

-- ---- threads

module _ {P : Type 0} (m : Machine P) (t : ℕ) where
  told_living : (row : ThreadRow) → is_status row ≡ false → thread_fact_of row m t ≡ told_of row t (living (thread_at m t))
  told_living thread.Status e = absurd (cc)
  told_living thread.Frames e = refl
  told_living thread.Mask e = refl
  told_living thread.Cancelability e = refl
  told_living thread.Cleanups e = refl
  told_living thread.Pending e = refl

  none_told : (row : ThreadRow) (decls : List Decl) → fact_text decls (told_of {P = P} row t no_thread) ≡ []
  none_told thread.Status decls = refl
  none_told thread.Frames decls = refl
  none_told thread.Mask decls = refl
  none_told thread.Cancelability decls = refl
  none_told thread.Cleanups decls = refl
  none_told thread.Pending decls = refl

  -- a thread that lives
  pub bare_nothing : (row : ThreadRow) → is_live (thread_at m t).status ≡ true → IsBare row (thread_at m t) → TellsNothing (thread_fact_of row m t)
  bare_nothing row live bare = λ decls.
      ap (fact_text decls) (told_living row bare.other ∙ ap (told_of row t) (living_is (thread_at m t) live)) ∙ bare.nothing t decls

  -- and one that does not
  pub dead_nothing : (row : ThreadRow) → is_live (thread_at m t).status ≡ false → is_status row ≡ false → TellsNothing (thread_fact_of row m t)
  dead_nothing row dead other = λ decls.
      ap (fact_text decls) (told_living row other ∙ ap (told_of row t) (living_not (thread_at m t) dead)) ∙ none_told row decls

  -- whether it lives or not
  pub bare_anyway : (row : ThreadRow) → IsBare row (thread_at m t) → TellsNothing (thread_fact_of row m t)
  bare_anyway row bare = by_life (is_live (thread_at m t).status) refl
    where
      by_life : (b : Bool) → is_live (thread_at m t).status ≡ b → TellsNothing (thread_fact_of row m t)
      by_life true live = bare_nothing row live bare
      by_life false dead = dead_nothing row dead bare.other

module _ {P : Type 0} (th : Thread P) where
  pub bare_frames : inner_bodies th.frames ≡ [] → IsBare thread.Frames th
  bare_frames e = record { other = refl; nothing = λ t decls. ap (λ (bodies : List BodyOf). fact_text decls (inner_frames t bodies)) e }

  pub bare_mask : th.mask ≡ 0 → IsBare thread.Mask th
  bare_mask e = record { other = refl; nothing = λ t decls. ap (λ (set : ℕ). fact_text decls (masked t set)) e }

  pub bare_cancelability : th.is_requested ≡ false → th.is_enabled ≡ true → th.is_ending ≡ false → IsBare thread.Cancelability th
  bare_cancelability r e d = record {
    other = refl;
    nothing = λ t decls.
        ap (λ (x : Bool). fact_text decls (cancelability t (record { is_requested = x; is_disabled = not th.is_enabled; is_ending = th.is_ending }))) r
        ∙ ap (λ (x : Bool). fact_text decls (cancelability t (record { is_requested = false; is_disabled = not x; is_ending = th.is_ending }))) e
        ∙ ap (λ (x : Bool). fact_text decls (cancelability t (record { is_requested = false; is_disabled = false; is_ending = x }))) d;
  }

  pub bare_cleanups : th.cleanups ≡ [] → IsBare thread.Cleanups th
  bare_cleanups e = record { other = refl; nothing = λ t decls. ap (λ (handlers : List ℕ). fact_text decls (pushed_cleanups t handlers)) e }

  pub bare_pending : planned th.server ≡ [] → IsBare thread.Pending th
  bare_pending e = record { other = refl; nothing = λ t decls. ap (λ (plans : List Replenish). fact_text decls (replenishments t plans)) e }

-- ---- who waits

first_none : (ws : List Waiter) → first_by is_served_before ws ≡ None → ws ≡ []
first_none [] e = refl
first_none (w ∷ ws) e = absurd (cc)

no_waiter : (o : Option Waiter) → None ≡ option_map (λ (w : Waiter). w.thread) o → o ≡ None
no_waiter None e = refl
no_waiter (Some w) e = absurd (cc)

-- where there is no best waiter
pub nobody_stands : {P : Type 0} (m : Machine P) (passes : Wait → Bool) → None ≡ option_map (λ (w : Waiter). w.thread) (best_waiter m passes) → in_service_order m passes ≡ []
nobody_stands m passes e =
    ap (λ (ws : List Waiter). map (λ (w : Waiter). w.thread) (in_order is_served_before ws)) (first_none (waiters m passes) (no_waiter (best_waiter m passes) e))

pub stands_for : (l : Line) (w : Wait) → stands_in l w ≡ is_object (wait_obj l) (object_of w)
stands_for (line.Mutex k) (for_mutex j) = refl
stands_for (line.Mutex k) (for_mutex_again j how) = refl
stands_for (line.Mutex k) (for_condition d j) = refl
stands_for (line.Mutex k) (for_end u) = refl
stands_for (line.Mutex k) (for_semaphore j) = refl
stands_for (line.Mutex k) for_time = refl
stands_for (line.Mutex k) (for_room p message) = refl
stands_for (line.Mutex k) (for_message p) = refl
stands_for (line.Mutex k) (for_signal signals) = refl
stands_for (line.Condition c) (for_mutex j) = refl
stands_for (line.Condition c) (for_mutex_again j how) = refl
stands_for (line.Condition c) (for_condition d j) = refl
stands_for (line.Condition c) (for_end u) = refl
stands_for (line.Condition c) (for_semaphore j) = refl
stands_for (line.Condition c) for_time = refl
stands_for (line.Condition c) (for_room p message) = refl
stands_for (line.Condition c) (for_message p) = refl
stands_for (line.Condition c) (for_signal signals) = refl
stands_for (line.Semaphore k) (for_mutex j) = refl
stands_for (line.Semaphore k) (for_mutex_again j how) = refl
stands_for (line.Semaphore k) (for_condition d j) = refl
stands_for (line.Semaphore k) (for_end u) = refl
stands_for (line.Semaphore k) (for_semaphore j) = refl
stands_for (line.Semaphore k) for_time = refl
stands_for (line.Semaphore k) (for_room p message) = refl
stands_for (line.Semaphore k) (for_message p) = refl
stands_for (line.Semaphore k) (for_signal signals) = refl
stands_for (line.Senders q) (for_mutex j) = refl
stands_for (line.Senders q) (for_mutex_again j how) = refl
stands_for (line.Senders q) (for_condition d j) = refl
stands_for (line.Senders q) (for_end u) = refl
stands_for (line.Senders q) (for_semaphore j) = refl
stands_for (line.Senders q) for_time = refl
stands_for (line.Senders q) (for_room p message) = refl
stands_for (line.Senders q) (for_message p) = refl
stands_for (line.Senders q) (for_signal signals) = refl
stands_for (line.Receivers q) (for_mutex j) = refl
stands_for (line.Receivers q) (for_mutex_again j how) = refl
stands_for (line.Receivers q) (for_condition d j) = refl
stands_for (line.Receivers q) (for_end u) = refl
stands_for (line.Receivers q) (for_semaphore j) = refl
stands_for (line.Receivers q) for_time = refl
stands_for (line.Receivers q) (for_room p message) = refl
stands_for (line.Receivers q) (for_message p) = refl
stands_for (line.Receivers q) (for_signal signals) = refl

module _ {P : Type 0} (m : Machine P) (k : ℕ) where
  pub nobody_for : (sort : NameKind) (threads : List ℕ) → threads ≡ [] → TellNothing (waiters_of sort k threads ∷ [])
  nobody_for sort threads e = λ decls. ap (λ (ts : List ℕ). facts_text decls (waiters_of sort k ts ∷ [])) e

  pub nobody_sends : in_service_order m (stands_in (line.Senders k)) ≡ [] → (decls : List Decl) → waiters_text decls true m k ≡ []
  nobody_sends e decls = ap (λ (ts : List ℕ). fact_text decls (senders_of k ts)) e

  pub nobody_receives : in_service_order m (stands_in (line.Receivers k)) ≡ [] → (decls : List Decl) → waiters_text decls false m k ≡ []
  nobody_receives e decls = ap (λ (ts : List ℕ). fact_text decls (receivers_of k ts)) e

  -- no record is pending
  pub signal_nothing : (out : Option ℕ) → m.pending ≡ [] → TellsNothing (signal_fact (left_in out m) k)
  signal_nothing out e = λ decls.
      ap (λ (rs : List SignalRecord). fact_text decls (pending_signals k (map pending_of (filter (λ (r : SignalRecord). r.signal == k) (filter (λ (r : SignalRecord). not (is_left_out out r.serial)) rs))))) e

-- ---- an empty text is short

pub nothing_short : (decls : List Decl) (f : Fact) → fact_text decls f ≡ [] → HasShortText decls f
nothing_short decls f e = record { short = λ names. let none = ap length e in omega (arith, none) }

none_of_both : (xs ys : List ℕ) → xs ++ ys ≡ [] → (xs ≡ []) × (ys ≡ [])
none_of_both [] ys e = (refl, e)
none_of_both (x ∷ xs) ys e = absurd (cc)

pub none_short : (decls : List Decl) (facts : List Fact) → facts_text decls facts ≡ [] → HaveShortTexts decls facts
none_short decls [] e = tt
none_short decls (f ∷ facts) e =
    let both = none_of_both (fact_text decls f) (facts_text decls facts) e in
    (nothing_short decls f both.0, none_short decls facts both.1)
