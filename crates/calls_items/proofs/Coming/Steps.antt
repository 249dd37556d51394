-- A thread that came to run has a direct move: the steps of which effects are made.
use Rattle.std.proofs.Common.{◌≡◌, ℕ, zero, suc, List, [], ◌∷◌, ◌++◌, Bool, true, false, ap, arith, refl, sym, ◌∙◌}
use Rattle.std.specs.Prelude.{None, Option, Some, ◌==◌, ◌&&◌, slice_index_or, if◌then◌else◌}
use Rattle.rules_lists.specs.Threads.{stands_in}
use Rattle.words_numbers.specs.declared.res.Res.{Res}
use Rattle.words_numbers.specs.declared.res.Res.TheVariants as res
use Rattle.rules_server.specs.Server.{ServerState, activate, oldest_pending, refill}
use Rattle.words_trace.specs.declared.event.Event.{Event}
use Rattle.words_trace.specs.declared.event.Event.TheVariants as event
use Rattle.rules_machine.specs.Bodies.{Bodies}
use Rattle.rules_machine.specs.State.{Machine, Thread, Wait, Waiting}
use Rattle.rules_machine.specs.Lists.{changed_at}
use Rattle.rules_machine.specs.Threads.{can_run, is_runnable, no_thread, thread_at, waiting_of}
use Rattle.rules_machine.specs.Turns.{Caller, Turn, answered, changes, moves, moves_if, returns, tells, with_thread}
use Rattle.rules_machine.specs.CallNames.{name_of}
use Rattle.rules_machine.specs.Servers.{activates_if, activates_server, amount_of, at_once, high_server, refills_server, regains_high, with_server}
use Rattle.rules_machine.specs.Waking.{blocks, call_in, put_to_wait, started, starts, wakes, wakes_telling, woken}
use Rattle.rules_machine.specs.Scheduling.{with_policy, with_priority}
use Rattle.rules_machine.proofs.Reading.{changed-keeps, thread-other}
use Rattle.kernel_settling.proofs.StoodAgain.{HaveCome}

pub last_in : (t : ℕ) (us : List ℕ) → stands_in t (us ++ t ∷ []) ≡ true
last_in t [] = grind arith
last_in t (u ∷ us) = grind (arith, last_in t us)

pub not_both : {X : Type 0} (b : Bool) → b ≡ false → b ≡ true → X
not_both b off on = let a : true ≡ false = sym on ∙ off in absurd cc

-- an activation leaves who can run
pub activated : {P : Type 0} (t : ℕ) (o : Option ServerState) (s : Turn P) (u : ℕ) → can_run (activates_server t o s).machine u ≡ can_run s.machine u
activated t None s u = refl
activated t (Some server) s u = changed-keeps no_thread t u (with_server (activate s.machine.now)) (λ th. is_runnable th.status) (λ th. refl) s.machine.threads

pub activated_direct : {P : Type 0} (t : ℕ) (o : Option ServerState) (s : Turn P) → (activates_server t o s).direct ≡ s.direct
activated_direct t None s = refl
activated_direct t (Some server) s = refl

-- a thread that changes and has a direct move, and may be activated
pub moved_comes : {P : Type 0} (t : ℕ) (f : Thread P → Thread P) (e : Event) (o : Option ServerState) (s : Turn P) →
    HaveCome s.machine (activates_server t o (tells e (moves t (changes t f s)))).direct (activates_server t o (tells e (moves t (changes t f s)))).machine
moved_comes t f e o s u off runs = by_eq (t == u) refl
  where
    there : can_run (with_thread t f s.machine) u ≡ true
    there = sym (activated t o (tells e (moves t (changes t f s))) u) ∙ runs

    at_last : t ≡ u → stands_in u (activates_server t o (tells e (moves t (changes t f s)))).direct ≡ true
    at_last k = ap (stands_in u) (activated_direct t o (tells e (moves t (changes t f s)))) ∙ ap (λ (v : ℕ). stands_in u (s.direct ++ v ∷ [])) k ∙ last_in u s.direct

    by_eq : (b : Bool) → (t == u) ≡ b → stands_in u (activates_server t o (tells e (moves t (changes t f s)))).direct ≡ true
    by_eq true same = at_last (grind arith)
    by_eq false other = not_both (can_run (with_thread t f s.machine) u) (ap (λ (th : _). is_runnable th.status) (thread-other s.machine t u f other) ∙ off) there

pub starts_come : {P : Type 0} (bodies : Bodies P) (t mask : ℕ) (s : Turn P) → HaveCome s.machine (starts bodies t mask s).direct (starts bodies t mask s).machine
starts_come bodies t mask s =
    let f = started bodies t mask s.machine.now in
    moved_comes t f (event.Start t) (at_once (thread_at (with_thread t f s.machine) t).server) s

pub wakes_telling_come : {P : Type 0} (e : Event) (t : ℕ) (r : Res) (value : ℕ) (s : Turn P) → HaveCome s.machine (wakes_telling e t r value s).direct (wakes_telling e t r value s).machine
wakes_telling_come e t r value s = moved_comes t (woken r value) e (at_once (high_server (thread_at (with_thread t (woken r value) s.machine) t).server)) s

pub wakes_come : {P : Type 0} (t : ℕ) (r : Res) (value : ℕ) (s : Turn P) → HaveCome s.machine (wakes t r value s).direct (wakes t r value s).machine
wakes_come t r value s = wakes_telling_come (event.Return t (name_of (call_in (waiting_of s.machine t))) r value) t r value s

-- ---- where nobody came

abbrev pub Fewer : {P : Type 0} → Machine P → Machine P → Type 0
Fewer before m = (u : ℕ) → can_run m u ≡ true → can_run before u ≡ true

pub fewer_come : {P : Type 0} (before m : Machine P) (direct : List ℕ) → Fewer before m → HaveCome before direct m
fewer_come before m direct h u off runs = not_both (can_run before u) off (h u runs)

pub fewer_at : {P : Type 0} (f : Thread P → Thread P) (xs : List (Thread P)) (n k : ℕ) →
    (is_runnable (f (slice_index_or xs n no_thread)).status ≡ true → is_runnable (slice_index_or xs n no_thread).status ≡ true) →
    is_runnable (slice_index_or (changed_at no_thread n f xs) k no_thread).status ≡ true → is_runnable (slice_index_or xs k no_thread).status ≡ true
fewer_at f [] n k h r = r
fewer_at f (x ∷ xs) zero zero h r = h r
fewer_at f (x ∷ xs) zero (suc k) h r = r
fewer_at f (x ∷ xs) (suc n) zero h r = r
fewer_at f (x ∷ xs) (suc n) (suc k) h r = fewer_at f xs n k h r

pub changes_fewer : {P : Type 0} (t : ℕ) (f : Thread P → Thread P) (s : Turn P) → (is_runnable (f (thread_at s.machine t)).status ≡ true → can_run s.machine t ≡ true) →
    Fewer s.machine (changes t f s).machine
changes_fewer t f s h u r = fewer_at f s.machine.threads t u h r

pub activates_if_fewer : {P : Type 0} (b : Bool) (t : ℕ) (s : Turn P) → Fewer s.machine (activates_if b t s).machine
activates_if_fewer true t s u r = sym (activated t (at_once (thread_at s.machine t).server) s u) ∙ r
activates_if_fewer false t s u r = r

pub refills_fewer : {P : Type 0} (t : ℕ) (o : Option ServerState) (s : Turn P) → Fewer s.machine (refills_server t o s).machine
refills_fewer t None s u r = r
refills_fewer t (Some server) s u r =
    let told = tells (event.Refill t (amount_of (oldest_pending server)) (refill server).capacity) (changes t (with_server refill) s) in
    changes_fewer t (with_server refill) s (λ h. h) u (activates_if_fewer (regains_high server && can_run s.machine t) t told u r)

-- ---- one step

pub returns_fewer : {P : Type 0} (b : Caller) (r : Res) (value : ℕ) (s : Turn P) → Fewer s.machine (returns b r value s).machine
returns_fewer b r value s = changes_fewer b.thread (answered r value) s (λ h. h)

pub returns_same : {P : Type 0} (b : Caller) (r : Res) (value : ℕ) (s : Turn P) (u : ℕ) → can_run (returns b r value s).machine u ≡ can_run s.machine u
returns_same b r value s u = changed-keeps no_thread b.thread u (answered r value) (λ th. is_runnable th.status) (λ th. refl) s.machine.threads

pub come_later : {P : Type 0} (before mid m : Machine P) (direct : List ℕ) → ((u : ℕ) → can_run mid u ≡ can_run before u) → HaveCome mid direct m → HaveCome before direct m
come_later before mid m direct same come u off runs = come u (same u ∙ off) runs

abbrev pub Comes : {P : Type 0} → Turn P → Turn P → Type 0
Comes s r = HaveCome s.machine r.direct r.machine

-- where nothing changes
pub nobody_comes : {P : Type 0} (s : Turn P) → Comes s s
nobody_comes s = fewer_come s.machine s.machine s.direct (λ u r. r)

pub if_come : {P : Type 0} (b : Bool) (x y s : Turn P) → Comes s x → Comes s y → Comes s (if b then x else y)
if_come true x y s h k = h
if_come false x y s h k = k

pub returns_come : {P : Type 0} (b : Caller) (r : Res) (value : ℕ) (s : Turn P) → Comes s (returns b r value s)
returns_come b r value s = fewer_come s.machine (returns b r value s).machine s.direct (returns_fewer b r value s)

pub creates_come : {P : Type 0} (bodies : Bodies P) (b : Caller) (u mask : ℕ) (s : Turn P) → Comes s (starts bodies u mask (returns b res.Zero 0 s))
creates_come bodies b u mask s =
    let r = returns b res.Zero 0 s in
    let x = starts bodies u mask r in
    come_later s.machine r.machine x.machine x.direct (returns_same b res.Zero 0 s) (starts_come bodies u mask r)

pub setprio_come : {P : Type 0} (b : Caller) (u p : ℕ) (s : Turn P) → Comes s (returns b res.Zero 0 (changes u (with_priority p) s))
setprio_come b u p s =
    let c = changes u (with_priority p) s in
    fewer_come s.machine (returns b res.Zero 0 c).machine s.direct (λ v r. changes_fewer u (with_priority p) s (λ h. h) v (returns_fewer b res.Zero 0 c v r))

pub moves_if_machine : {P : Type 0} (b : Bool) (t : ℕ) (s : Turn P) → (moves_if b t s).machine ≡ s.machine
moves_if_machine true t s = refl
moves_if_machine false t s = refl

pub setsched_come : {P : Type 0} (b : Caller) (u : ℕ) (new : _) (now : ℕ) (a d : Bool) (s : Turn P) →
    Comes s (moves_if d u (activates_if a u (changes u (with_policy new now) (returns b res.Zero 0 s))))
setsched_come b u new now a d s =
    let r = returns b res.Zero 0 s in
    let c = changes u (with_policy new now) r in
    let x = activates_if a u c in
    fewer_come s.machine (moves_if d u x).machine (moves_if d u x).direct
    (λ v k. returns_fewer b res.Zero 0 s v (changes_fewer u (with_policy new now) r (λ h. h) v (activates_if_fewer a u c v (sym (ap (λ (m : _). can_run m v) (moves_if_machine d u x)) ∙ k))))

pub sleeps_come : {P : Type 0} (b : Caller) (w : Waiting) (s : Turn P) → Comes s (changes b.thread (put_to_wait w) s)
sleeps_come b w s = fewer_come s.machine (changes b.thread (put_to_wait w) s).machine s.direct (changes_fewer b.thread (put_to_wait w) s (λ h. absurd cc))

pub blocks_come : {P : Type 0} (b : Caller) (wait : Wait) (due : Option ℕ) (s : Turn P) → Comes s (blocks b wait due s)
blocks_come b wait due s = sleeps_come b _ s

-- where nobody came before
pub fewer_before : {P : Type 0} (s x r : Turn P) → Fewer s.machine x.machine → Comes x r → Comes s r
fewer_before s x r fewer come u off runs = by_run (can_run x.machine u) refl
  where
    by_run : (b : Bool) → can_run x.machine u ≡ b → stands_in u r.direct ≡ true
    by_run true e = not_both (can_run s.machine u) off (fewer u e)
    by_run false e = come u e runs

pub blocks_fewer : {P : Type 0} (b : Caller) (wait : Wait) (due : Option ℕ) (s : Turn P) → Fewer s.machine (blocks b wait due s).machine
blocks_fewer b wait due s = changes_fewer b.thread (put_to_wait (record { wait = wait; serial = s.machine.next_serial; due = due; call = b.call })) s (λ h. absurd cc)

-- behind the caller's return
pub returned_come : {P : Type 0} (b : Caller) (r : Res) (value : ℕ) (f : Turn P → Turn P) (s : Turn P) → Comes (returns b r value s) (f (returns b r value s)) → Comes s (f (returns b r value s))
returned_come b r value f s h = let x = f (returns b r value s) in come_later s.machine (returns b r value s).machine x.machine x.direct (returns_same b r value s) h

-- a change of the caller that leaves its status, and its return
pub changed_come : {P : Type 0} (b : Caller) (t : ℕ) (f : Thread P → Thread P) (r : Res) (value : ℕ) (s : Turn P) → ((th : Thread P) → (f th).status ≡ th.status) → Comes s (returns b r value (changes t f s))
changed_come b t f r value s same =
    let x = changes t f s in
    fewer_before s x (returns b r value x) (changes_fewer t f s (λ h. sym (ap is_runnable (same (thread_at s.machine t))) ∙ h)) (returns_come b r value x)

-- ---- direct moves stay

-- a direct move stays
pub still_in : (t u : ℕ) (us : List ℕ) → stands_in t us ≡ true → stands_in t (us ++ u ∷ []) ≡ true
still_in t u [] h = absurd (grind arith)
still_in t u (v ∷ us) h = by_eq (v == t) refl (still_in t u us)
  where
    by_eq : (b : Bool) → (v == t) ≡ b → (stands_in t us ≡ true → stands_in t (us ++ u ∷ []) ≡ true) → stands_in t (v ∷ us ++ u ∷ []) ≡ true
    by_eq true e rest = grind arith
    by_eq false e rest = let among : stands_in t us ≡ true = grind arith in let k = rest among in grind arith

abbrev pub KeepsMoves : {P : Type 0} → Turn P → Turn P → Type 0
KeepsMoves s r = (u : ℕ) → stands_in u s.direct ≡ true → stands_in u r.direct ≡ true

pub woken_keeps : {P : Type 0} (e : Event) (t : ℕ) (r : Res) (value : ℕ) (s : Turn P) → KeepsMoves s (wakes_telling e t r value s)
woken_keeps e t r value s u h =
    let up = tells e (moves t (changes t (woken r value) s)) in
    ap (stands_in u) (activated_direct t (at_once (high_server (thread_at up.machine t).server)) up) ∙ still_in u t s.direct h

pub if_keeps : {P : Type 0} (b : Bool) (x y s : Turn P) → KeepsMoves s x → KeepsMoves s y → KeepsMoves s (if b then x else y)
if_keeps true x y s h k = h
if_keeps false x y s h k = k

pub both_come : {P : Type 0} (s x r : Turn P) → Comes s x → Comes x r → KeepsMoves x r → Comes s r
both_come s x r first second keeps u off runs = by_run (can_run x.machine u) refl
  where
    by_run : (b : Bool) → can_run x.machine u ≡ b → stands_in u r.direct ≡ true
    by_run true e = keeps u (first u off e)
    by_run false e = second u e runs
