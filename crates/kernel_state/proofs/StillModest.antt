-- All that waits for a time on CLOCK_REALTIME is due modestly, through every change.
use Rattle.std.proofs.Common.{◌≡◌, ◌∙◌, ℕ, zero, suc, List, [], ◌∷◌, None, Option, Some, ap, arith, refl, subst, sym}
use Rattle.std.specs.Prelude.{Bool, false, map, slice_index_or}
use Rattle.words_script.specs.declared.decl.Script.{Script}
use Rattle.rules_bodies.specs.declared.cursor.Cursor.{Cursor}
use Rattle.rules_machine.specs.Declarations.{ThreadDecl, threads_of, timers_of}
use Rattle.rules_machine.specs.Lists.{changed_at}
use Rattle.rules_machine.specs.Runs.{thread_opened}
use Rattle.rules_machine.specs.State.{Clock, Mutex, Thread, Timer, Waiting}
use Rattle.rules_machine.specs.Threads.{no_thread, no_timer, thread_in}
use Rattle.rules_machine.specs.Waking.{put_to_wait}
use Rattle.kernel_threads.specs.RealDues.{real_due, real_due_if, real_due_in}
use Rattle.kernel_timers.specs.Timers.{timer_in}
use Rattle.kernel_table.specs.Settings.{timer_real_due}
use Rattle.kernel_table.specs.Table.{Table, with_mutex, with_thread, with_timer}
use Rattle.kernel_table.proofs.Expiring.{all_disarmed}
use Rattle.kernel_state.specs.RealTimes.{AreModest, ComesModestly, EachModest, IsModest}

-- ---- one member of a list changes

each_keeps : {X : Type 0} (none : X) (P : X → Type 0) (f : X → X) → ((x : X) → P x → P (f x)) → (xs : List X) (n u : ℕ) → ((v : ℕ) → P (slice_index_or xs v none)) →
    P (slice_index_or (changed_at none n f xs) u none)
each_keeps none P f keeps [] n u h = h u
each_keeps none P f keeps (x ∷ xs) zero zero h = keeps x (h zero)
each_keeps none P f keeps (x ∷ xs) zero (suc u) h = h (suc u)
each_keeps none P f keeps (x ∷ xs) (suc n) zero h = h zero
each_keeps none P f keeps (x ∷ xs) (suc n) (suc u) h = each_keeps none P f keeps xs n u (λ v. h (suc v))

pub comes_each : (clock : Clock) (due : Option ℕ) → ComesModestly clock due → EachModest clock due
comes_each clock None h = λ at e. absurd cc
comes_each clock (Some due) h = λ at e. let same : due ≡ at = cc in subst (IsModest clock) same h

-- ---- threads and mutexes change

abbrev Waits : Clock → Thread Cursor → Type 0
Waits clock th = EachModest clock (real_due_in th.status)

module _ (now : ℕ) (clock : Clock) (old new : Table) where
  pub changed_modest : (t : ℕ) (f : Thread Cursor → Thread Cursor) → new ≡ with_thread t f old → ((th : Thread Cursor) → Waits clock th → Waits clock (f th)) →
      AreModest now clock old.threads old.timers → AreModest now clock new.threads new.timers
  changed_modest t f is keeps h = subst (λ (x : Table). AreModest now clock x.threads x.timers) (sym is) (record {
    past = h.past;
    ahead = h.ahead;
    waits = λ u. each_keeps no_thread (Waits clock) f keeps old.threads t u h.waits;
    expiries = h.expiries;
  })

  -- a thread waits for no such time that it did not wait for
  pub still_modest : (t : ℕ) (f : Thread Cursor → Thread Cursor) → new ≡ with_thread t f old →
      ((th : Thread Cursor) (at : ℕ) → real_due_in (f th).status ≡ Some at → real_due_in th.status ≡ Some at) →
      AreModest now clock old.threads old.timers → AreModest now clock new.threads new.timers
  still_modest t f is keeps h = changed_modest t f is (λ th was at e. was at (keeps th at e)) h

  pub waits_modestly : (t : ℕ) (w : Waiting) → new ≡ with_thread t (put_to_wait w) old → ComesModestly clock (real_due w) →
      AreModest now clock old.threads old.timers → AreModest now clock new.threads new.timers
  waits_modestly t w is comes h = changed_modest t (put_to_wait w) is (λ th was. comes_each clock (real_due w) comes) h

  pub mutex_modest : (k : ℕ) (g : Mutex → Mutex) → new ≡ with_mutex k g old → AreModest now clock old.threads old.timers → AreModest now clock new.threads new.timers
  mutex_modest k g is h = subst (λ (x : Table). AreModest now clock x.threads x.timers) (sym is) h

  pub timer_modest : (k : ℕ) (f : Timer → Timer) → new ≡ with_timer k f old → ((x : Timer) → EachModest clock (timer_real_due x) → EachModest clock (timer_real_due (f x))) →
      AreModest now clock old.threads old.timers → AreModest now clock new.threads new.timers
  timer_modest k f is keeps h = subst (λ (x : Table). AreModest now clock x.threads x.timers) (sym is) (record {
    past = h.past;
    ahead = h.ahead;
    waits = h.waits;
    expiries = λ j. each_keeps no_timer (λ (x : Timer). EachModest clock (timer_real_due x)) f keeps old.timers k j h.expiries;
  })

-- a mutex goes to a thread that wakes
pub handed_modest : (now : ℕ) (clock : Clock) (old new : Table) (k t : ℕ) (g : Mutex → Mutex) (f : Thread Cursor → Thread Cursor) → new ≡ with_thread t f (with_mutex k g old) →
    ((th : Thread Cursor) (at : ℕ) → real_due_in (f th).status ≡ Some at → real_due_in th.status ≡ Some at) →
    AreModest now clock old.threads old.timers → AreModest now clock new.threads new.timers
handed_modest now clock old new k t g f is keeps h = still_modest now clock (with_mutex k g old) new t f is keeps h

-- ---- at the beginning

none_waits : (ds : List ThreadDecl) (t : ℕ) → real_due_in (thread_in (map (thread_opened {P = Cursor}) ds) t).status ≡ None
none_waits [] t = refl
none_waits (d ∷ ds) zero = refl
none_waits (d ∷ ds) (suc t) = none_waits ds t

undue : (due : Option ℕ) (b : Bool) → due ≡ None → real_due_if due b ≡ None
undue due b e = rw e refl

pub opened_modest : (script : Script) (now : ℕ) (clock : Clock) → clock ≡ record { ahead = 0; behind = 0 } → AreModest now clock (map (thread_opened {P = Cursor}) (threads_of script)) (timers_of script)
opened_modest script now clock is = record {
  past = (let e = ap (λ (c : Clock). c.behind) is in omega (arith, e));
  ahead = (let e = ap (λ (c : Clock). c.ahead) is in omega (arith, e));
  waits = λ t at e. absurd (let none = none_waits (threads_of script) t in let both : None ≡ Some at = sym none ∙ e in cc);
  expiries = λ k at e. absurd (
      let x = timer_in (timers_of script) k in
      let both : None ≡ Some at = sym (undue x.due x.is_reading (all_disarmed script.decls k)) ∙ e in
      cc);
}

-- ---- timers

unreal : (due : Option ℕ) → real_due_if due false ≡ None
unreal None = refl
unreal (Some due) = refl

-- an expiry after an interval is no time on the clock
pub again_modest : (clock : Clock) (due : Option ℕ) → EachModest clock (real_due_if due false)
again_modest clock due = λ at e. absurd (let both : None ≡ Some at = sym (unreal due) ∙ e in cc)
