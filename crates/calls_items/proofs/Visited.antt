-- What a visit of the sweep leaves of the other threads, and who comes to run by it.
use Rattle.std.proofs.Common.{◌≡◌, ◌∙◌, ◌⊎◌, inl, inr, ℕ, true, false, List, [], ◌∷◌, ◌++◌, None, Option, Some, ap, length, refl, sym}
use Rattle.std.specs.Prelude.{◌==◌}
use Rattle.words_numbers.specs.declared.res.Res.{Res}
use Rattle.words_numbers.specs.declared.res.Res.TheVariants as res
use Rattle.words_trace.specs.declared.event.Event.TheVariants as event
use Rattle.rules_bodies.specs.Next.{capped}
use Rattle.rules_bodies.specs.declared.cursor.Cursor.{Cursor}
use Rattle.rules_server.specs.Server.{ServerState, activate}
use Rattle.rules_machine.specs.declared.frame.BodyOf.TheVariants as body_of
use Rattle.rules_machine.specs.declared.frame.FrameKind.TheVariants as frame
use Rattle.rules_machine.specs.declared.signal.SigAction.{SigAction}
use Rattle.rules_machine.specs.declared.signal.SigAction.TheVariants as action
use Rattle.rules_machine.specs.Bodies.{Bodies}
use Rattle.rules_machine.specs.CallNames.{name_of}
use Rattle.rules_machine.specs.Delivery.{acts, catches, interrupts, sweeps_thread, taken_by_sweep, takes_record, ticks_left}
use Rattle.rules_machine.specs.Servers.{activates_server, at_once, high_server, with_server}
use Rattle.rules_machine.specs.Signals.{delivers, without_record}
use Rattle.rules_machine.specs.State.{SignalRecord, Thread, Waiting}
use Rattle.rules_machine.specs.Threads.{action_of, can_run, is_runnable, no_thread, thread_at, thread_in, waiting_of}
use Rattle.rules_machine.specs.Turns.{Turn, changes, changes_pending, moves, tells}
use Rattle.rules_machine.specs.Waking.{call_in, new_frame, on_top, wakes, woken}
use Rattle.rules_machine.proofs.Reading.{changed-keeps, changed-length, thread-other}
use Rattle.calls_generation.proofs.Delivered.{Alike, delivers_alike}

-- ---- what stays

-- nothing but one thread changes of what a settling and a sweep go by
pub record OnlyThread (t : ℕ) (s x : Turn Cursor) : Type 0 where
  pub others : (u : ℕ) → (t == u) ≡ false → thread_at x.machine u ≡ thread_at s.machine u
  pub many : length x.machine.threads ≡ length s.machine.threads
  pub actions : x.machine.actions ≡ s.machine.actions
  pub now : x.machine.now ≡ s.machine.now
  pub lists : x.machine.lists ≡ s.machine.lists

pub same_thread : (t : ℕ) (s : Turn Cursor) → OnlyThread t s s
same_thread t s = record { others = λ u e. refl; many = refl; actions = refl; now = refl; lists = refl }

pub then_thread : (t : ℕ) (s x y : Turn Cursor) → OnlyThread t s x → OnlyThread t x y → OnlyThread t s y
then_thread t s x y a b = record {
  others = λ u e. b.others u e ∙ a.others u e;
  many = b.many ∙ a.many;
  actions = b.actions ∙ a.actions;
  now = b.now ∙ a.now;
  lists = b.lists ∙ a.lists;
}

-- it did not come to run, or it has a direct move
abbrev pub Rises : ℕ → Turn Cursor → Turn Cursor → Type 0
Rises t s x = ((x.direct ≡ s.direct) × (can_run x.machine t ≡ true → can_run s.machine t ≡ true)) ⊎ (x.direct ≡ s.direct ++ t ∷ [])

pub record Visits (t : ℕ) (s x : Turn Cursor) : Type 0 where
  pub only : OnlyThread t s x
  pub rises : Rises t s x

same_visits : (t : ℕ) (s : Turn Cursor) → Visits t s s
same_visits t s = record { only = same_thread t s; rises = inl (refl, λ h. h) }

-- ---- one step

changes_only : (t : ℕ) (f : Thread Cursor → Thread Cursor) (s : Turn Cursor) → OnlyThread t s (changes t f s)
changes_only t f s = record { others = λ u e. thread-other s.machine t u f e; many = changed-length no_thread t f s.machine.threads; actions = refl; now = refl; lists = refl }

activates_only : (t : ℕ) (o : Option ServerState) (s : Turn Cursor) → OnlyThread t s (activates_server t o s)
activates_only t None s = same_thread t s
activates_only t (Some server) s =
    let f = with_server (activate s.machine.now) in
    let only = changes_only t f s in
    record { others = only.others; many = only.many; actions = refl; now = refl; lists = refl }

activates_direct : (t : ℕ) (o : Option ServerState) (s : Turn Cursor) → (activates_server t o s).direct ≡ s.direct
activates_direct t None s = refl
activates_direct t (Some server) s = refl

wakes_visits : (t : ℕ) (r : Res) (value : ℕ) (s : Turn Cursor) → Visits t s (wakes t r value s)
wakes_visits t r value s =
    let e = event.Return t (name_of (call_in (waiting_of s.machine t))) r value in
    let up = tells e (moves t (changes t (woken r value) s)) in
    let server = at_once (high_server (thread_at up.machine t).server) in
    let first = changes_only t (woken r value) s in
    record {
      only = then_thread t s up (activates_server t server up) (record { others = first.others; many = first.many; actions = refl; now = refl; lists = refl }) (activates_only t server up);
      rises = inr (activates_direct t server up);
    }

interrupts_visits : (w : Option Waiting) (t : ℕ) (s : Turn Cursor) → Visits t s (interrupts w t s)
interrupts_visits None t s = same_visits t s
interrupts_visits (Some w) t s = wakes_visits t res.Intr (ticks_left w.call w.due s.machine.now) s

-- after what leaves the threads
visits_alike : (t : ℕ) (s x y : Turn Cursor) → Visits t s x → Alike x y → Visits t s y
visits_alike t s x y v a = record {
  only = record {
    others = λ u e. ap (λ (ths : List (Thread Cursor)). thread_in ths u) a.threads ∙ v.only.others u e;
    many = ap length a.threads ∙ v.only.many;
    actions = a.actions ∙ v.only.actions;
    now = a.now ∙ v.only.now;
    lists = a.lists ∙ v.only.lists;
  };
  rises = by_rise v.rises;
}
  where
    by_rise : Rises t s x → Rises t s y
    by_rise (inl (same, back)) = inl (a.direct ∙ same, λ h. back (ap (λ (ths : List (Thread Cursor)). is_runnable (thread_in ths t).status) (sym a.threads) ∙ h))
    by_rise (inr moved) = inr (a.direct ∙ moved)

-- and after a change that leaves the status
visits_changed : (t : ℕ) (f : Thread Cursor → Thread Cursor) (s x : Turn Cursor) → ((th : Thread Cursor) → is_runnable (f th).status ≡ is_runnable th.status) → Visits t s x → Visits t s (changes t f x)
visits_changed t f s x same v = record {
  only = then_thread t s x (changes t f x) v.only (changes_only t f x);
  rises = by_rise v.rises;
}
  where
    stays : can_run (changes t f x).machine t ≡ can_run x.machine t
    stays = changed-keeps no_thread t t f (λ th. is_runnable th.status) same x.machine.threads

    by_rise : Rises t s x → Rises t s (changes t f x)
    by_rise (inl (e, back)) = inl (e, λ h. back (sym stays ∙ h))
    by_rise (inr moved) = inr moved

-- ---- a visit

module _ (bodies : Bodies Cursor) where
  catches_visits : (h t : ℕ) (r : SignalRecord) (s : Turn Cursor) → Visits t s (catches bodies h t r s)
  catches_visits h t r s =
      let out = changes_pending (without_record r) s in
      let w = waiting_of s.machine t in
      let up = interrupts w t out in
      let v = interrupts_visits w t out in
      let first : Visits t s up = record { only = record { others = v.only.others; many = v.only.many; actions = v.only.actions; now = v.only.now; lists = v.only.lists }; rises = v.rises } in
      visits_changed t (on_top (new_frame bodies frame.Signal (body_of.Handler h) (capped r.value))) s (delivers t r up) (λ th. refl) (visits_alike t s up (delivers t r up) first (delivers_alike t r up))

  acts_visits : (a : SigAction) (t : ℕ) (r : SignalRecord) (s : Turn Cursor) → Visits t s (acts bodies a t r s)
  acts_visits action.Kill t r s = record { only = record { others = λ u e. refl; many = refl; actions = refl; now = refl; lists = refl }; rises = inl (refl, λ h. h) }
  acts_visits action.Ignore t r s = same_visits t s
  acts_visits (action.Handler h) t r s = catches_visits h t r s

  takes_visits : (o : Option SignalRecord) (t : ℕ) (s : Turn Cursor) → Visits t s (takes_record bodies o t s)
  takes_visits None t s = same_visits t s
  takes_visits (Some r) t s = acts_visits (action_of s.machine r.signal) t r s

  pub visits : (killed : Option ℕ) (t : ℕ) (s : Turn Cursor) → Visits t s (sweeps_thread bodies killed t s)
  visits None t s = takes_visits (taken_by_sweep s.machine t) t s
  visits (Some signal) t s = same_visits t s
