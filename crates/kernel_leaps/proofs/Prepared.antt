-- What precedes the tick of the head changes servers and the last dispatch alone, and no execution priority.
use Rattle.std.proofs.Common.{List, None, Option, Some, [], ap, inl, inr, length, refl, subst, sym, true, ℕ, ◌<◌, ◌≤◌, ◌≡◌, ◌⊎◌, ◌∙◌}
use Rattle.std.specs.Prelude.{option_map, slice_index_or, ◌-◌, ◌==◌, ◌∷◌, if◌then◌else◌}
use Rattle.rules_lists.specs.Threads.{times}
use Rattle.rules_bodies.specs.declared.cursor.Cursor.{Cursor}
use Rattle.rules_bodies.specs.declared.op.Op.{Op}
use Rattle.rules_bodies.specs.declared.unit.Unit as unit_type
use Rattle.rules_bodies.specs.declared.unit.Unit.TheVariants as unit
use Rattle.rules_bodies.specs.Flat as flat
use Rattle.words_script.specs.declared.call.Call.{Call}
use Rattle.words_script.specs.declared.call.Call.TheVariants as call
use Rattle.rules_server.specs.declared.ServerKind.{ServerKind}
use Rattle.rules_server.specs.declared.ServerKind.TheVariants as kind
use Rattle.rules_server.specs.Server.{ServerState, activate, plan}
use Rattle.rules_machine.specs.declared.dispatch.LastDispatch.{LastDispatch}
use Rattle.rules_machine.specs.Bodies.{Bodies}
use Rattle.rules_machine.specs.Dispatch.{dispatch_of, dispatches, head}
use Rattle.rules_machine.specs.Lists.{changed_at}
use Rattle.rules_machine.specs.Priorities.{Claim, claims, exec, exec_in}
use Rattle.rules_machine.specs.Servers.{activates_server, has_run, plans_server, with_server}
use Rattle.rules_machine.specs.State.{Frame, Machine, Thread}
use Rattle.rules_machine.specs.Threads.{can_run, is_runnable, no_thread, thread_at, thread_in}
use Rattle.rules_machine.specs.Ticks.{prepares}
use Rattle.rules_machine.specs.Turns.{Turn, changes}
use Rattle.rules_machine.specs.Units.{Following, InUnit, advances, begins_finish, advancing, cleaning_up, continuing, finishing, following, in_unit, takes_unit}
use Rattle.rules_machine.proofs.Reading.{changed-keeps, changed-length}
use Rattle.rules_flat_code.specs.FlatBodies.{flat_bodies}
use Rattle.rules_flat_code.specs.KnownCalls.{Objects}
use Rattle.rules_moves.proofs.Runs.Preparing.{PreparingKeeps, prepares_keep}
use Rattle.rules_moves.proofs.Runs.Ticks.{dispatched}
use Rattle.rules_moves.proofs.Waiters.OfThreads.{changed_is}
use Rattle.laws_machine.proofs.Lists.Kept.{claim_at, claims_at, strict_high}
use Rattle.laws_machine.proofs.Servers.OfThreads.{run_parts}
use Rattle.kernel_threads.specs.Unused.{IsUnused, IsUnusedAs}
use Rattle.laws_threads.specs.Within.{HighWithin}
use Rattle.kernel_wakes.specs.Calls.{HasRoomFor}
use Rattle.kernel_state.specs.Kernel.{Kernel, after, turn}
use Rattle.kernel_settling.specs.Stood.{StoodRight}
use Rattle.kernel_leaps.specs.Completes.{CanComplete, CanTick}
use Rattle.kernel_leaps.specs.Fits.{FitsThread}
use Rattle.kernel_leaps.proofs.HeadRuns.{head_runs}

-- a thread without its server
abbrev pub bare : Thread Cursor → Thread Cursor
bare th = record th { server = None }

-- all but the threads and the last dispatch
abbrev pub with_threads : List (Thread Cursor) → LastDispatch → Machine Cursor → Machine Cursor
with_threads threads last m = record m { threads = threads; last = last }

pub record ServersAlone (m : Machine Cursor) (s : Turn Cursor) : Type 0 where
  pub machine : s.machine ≡ with_threads s.machine.threads s.machine.last m
  pub each : (u : ℕ) → bare (thread_at s.machine u) ≡ bare (thread_at m u)
  pub unused : (u : ℕ) → IsUnused (thread_at m u).server → IsUnused (thread_at s.machine u).server
  pub high : (n u : ℕ) → HighWithin n (thread_at m u).server → HighWithin n (thread_at s.machine u).server
  pub claims : claims s.machine.threads ≡ claims m.threads
  pub many : length s.machine.threads ≡ length m.threads

module _ (bodies : Bodies Cursor) (m : Machine Cursor) where
  served : (t : ℕ) (g : ServerState → ServerState) (s : Turn Cursor) → ((o : Option ServerState) → IsUnused o → IsUnused (option_map g o)) → ((n : ℕ) (o : Option ServerState) → HighWithin n o → HighWithin n (option_map g o)) →
      claims (changes t (with_server g) s).machine.threads ≡ claims s.machine.threads → ServersAlone m s → ServersAlone m (changes t (with_server g) s)
  served t g s unused high same q = record {
    machine = ap (with_threads (changed_at no_thread t (with_server g) s.machine.threads) s.machine.last) q.machine;
    each = λ u. changed-keeps no_thread t u (with_server g) bare (λ th. refl) s.machine.threads ∙ q.each u;
    unused = λ u h. unused_at u (q.unused u h) (changed_is no_thread t u (with_server g) s.machine.threads);
    high = λ n u h. high_at n u (q.high n u h) (changed_is no_thread t u (with_server g) s.machine.threads);
    claims = same ∙ q.claims;
    many = changed-length no_thread t (with_server g) s.machine.threads ∙ q.many;
  }
    where
      unused_at : (u : ℕ) → IsUnused (thread_at s.machine u).server → ((t ≡ u) × (thread_in (changed_at no_thread t (with_server g) s.machine.threads) u ≡ with_server g (thread_at s.machine t))) ⊎ (thread_in (changed_at no_thread t (with_server g) s.machine.threads) u ≡ thread_at s.machine u) →
          IsUnused (thread_in (changed_at no_thread t (with_server g) s.machine.threads) u).server
      unused_at u h (inl k) = subst (λ (th : Thread Cursor). IsUnused th.server) (sym k.1) (unused (thread_at s.machine t).server (subst (λ (v : ℕ). IsUnused (thread_at s.machine v).server) (sym k.0) h))
      unused_at u h (inr k) = subst (λ (th : Thread Cursor). IsUnused th.server) (sym k) h

      high_at : (n u : ℕ) → HighWithin n (thread_at s.machine u).server → ((t ≡ u) × (thread_in (changed_at no_thread t (with_server g) s.machine.threads) u ≡ with_server g (thread_at s.machine t))) ⊎ (thread_in (changed_at no_thread t (with_server g) s.machine.threads) u ≡ thread_at s.machine u) →
          HighWithin n (thread_in (changed_at no_thread t (with_server g) s.machine.threads) u).server
      high_at n u h (inl k) = subst (λ (th : Thread Cursor). HighWithin n th.server) (sym k.1) (high n (thread_at s.machine t).server (subst (λ (v : ℕ). HighWithin n (thread_at s.machine v).server) (sym k.0) h))
      high_at n u h (inr k) = subst (λ (th : Thread Cursor). HighWithin n th.server) (sym k) h

  plan_unused : (o : Option ServerState) → IsUnused o → IsUnused (option_map plan o)
  plan_unused None h = tt
  plan_unused (Some x) h = by_kind x.kind
    where
      by_kind : (k : ServerKind) → IsUnusedAs k (plan x)
      by_kind kind.Sporadic = refl
      by_kind kind.Strict = tt

  plan_high : (n : ℕ) (o : Option ServerState) → HighWithin n o → HighWithin n (option_map plan o)
  plan_high n None h = tt
  plan_high n (Some x) h = h

  activate_unused : (now : ℕ) (o : Option ServerState) → IsUnused o → IsUnused (option_map (activate now) o)
  activate_unused now None h = tt
  activate_unused now (Some x) h = by_kind x.kind h
    where
      by_kind : (k : ServerKind) → IsUnusedAs k x → IsUnusedAs k (activate now x)
      by_kind kind.Sporadic h = h
      by_kind kind.Strict h = tt

  activate_high : (now n : ℕ) (o : Option ServerState) → HighWithin n o → HighWithin n (option_map (activate now) o)
  activate_high now n None h = tt
  activate_high now n (Some x) h = h

  pub again : (x y : Turn Cursor) → x.machine ≡ y.machine → ServersAlone m y → ServersAlone m x
  again x y e q = record {
    machine = e ∙ q.machine ∙ ap (λ (a : Machine Cursor). with_threads a.threads a.last m) (sym e);
    each = λ u. ap (λ (a : Machine Cursor). bare (thread_at a u)) e ∙ q.each u;
    unused = λ u h. subst (λ (a : Machine Cursor). IsUnused (thread_at a u).server) (sym e) (q.unused u h);
    high = λ n u h. subst (λ (a : Machine Cursor). HighWithin n (thread_at a u).server) (sym e) (q.high n u h);
    claims = ap (λ (a : Machine Cursor). claims a.threads) e ∙ q.claims;
    many = ap (λ (a : Machine Cursor). length a.threads) e ∙ q.many;
  }

  given : (to : Option ℕ) (s : Turn Cursor) → ServersAlone m s → ServersAlone m (record s { machine = record s.machine { last = dispatch_of to } })
  given to s q = record {
    machine = ap (λ (a : Machine Cursor). record a { last = dispatch_of to }) q.machine;
    each = q.each;
    unused = q.unused;
    high = q.high;
    claims = q.claims;
    many = q.many;
  }

  closes_alone : (t : ℕ) (o : Option ServerState) (s : Turn Cursor) → (thread_at s.machine t).server ≡ o → has_run o ≡ true → ServersAlone m s → ServersAlone m (plans_server t o s)
  closes_alone t None s e run q = q
  closes_alone t (Some x) s e run q =
      again (plans_server t (Some x) s) (changes t (with_server plan) s) refl
      (served t plan s plan_unused plan_high (claims_at bodies t (with_server plan) s.machine.threads (claim_at bodies plan (thread_at s.machine t) x e (strict_high x.kind x.capacity (length (plan x).pending) (length x.pending) x.params.max (run_parts x run).0) refl)) q)

  alone : PreparingKeeps (ServersAlone m)
  alone = record {
    closes = λ t s run q. closes_alone t (thread_at s.machine t).server s refl run q;
    sent = λ to s off q. again (dispatches to s) (record s { machine = record s.machine { last = dispatch_of to } }) (dispatched to s) (given to s q);
    opens = λ t x s runs is may q.
        again (activates_server t (Some x) s) (changes t (with_server (activate s.machine.now)) s) refl
        (served t (activate s.machine.now) s (activate_unused s.machine.now) (activate_high s.machine.now) (claims_at bodies t (with_server (activate s.machine.now)) s.machine.threads (claim_at bodies (activate s.machine.now) (thread_at s.machine t) x is refl refl)) q);
  }

  here : (s : Turn Cursor) → s.machine ≡ m → ServersAlone m s
  here s e = record {
    machine = e ∙ ap (λ (a : Machine Cursor). with_threads a.threads a.last m) (sym e);
    each = λ u. ap (λ (a : Machine Cursor). bare (thread_at a u)) e;
    unused = λ u h. subst (λ (a : Machine Cursor). IsUnused (thread_at a u).server) (sym e) h;
    high = λ n u h. subst (λ (a : Machine Cursor). HighWithin n (thread_at a u).server) (sym e) h;
    claims = ap (λ (a : Machine Cursor). claims a.threads) e;
    many = ap (λ (a : Machine Cursor). length a.threads) e;
  }

  pub servers_alone : (to : Option ℕ) (s : Turn Cursor) → s.machine ≡ m → ((t : ℕ) → to ≡ Some t → can_run s.machine t ≡ true) → ServersAlone m (prepares to s)
  servers_alone to s e can = (prepares_keep (ServersAlone m) alone to s can (here s e)).0

-- the kernel behind it
pub kernel_prepared : (l p : Kernel) → StoodRight l.machine → p ≡ after (prepares (head l.machine)) l → ServersAlone l.machine (turn p)
kernel_prepared l p stood given =
    let h = head l.machine in
    again (flat_bodies l.code) l.machine (turn p) (prepares h (turn l)) (ap (λ (k : Kernel). k.machine) given)
    (servers_alone (flat_bodies l.code) l.machine h (turn l) refl (λ t e. head_runs l.machine t stood e))

-- ---- so the threads stand right

pub stands_prepared : (m : Machine Cursor) (s : Turn Cursor) → ServersAlone m s → StoodRight m → StoodRight s.machine
stands_prepared m s q stood = record {
  every = ap (λ (a : Machine Cursor). length a.lists) q.machine ∙ stood.every;
  within = λ u. subst (λ (n : ℕ). n - 1 < 255) (sym (exec_same u)) (stood.within u);
  positive = λ u runs. subst (λ (n : ℕ). 1 ≤ n) (sym (exec_same u)) (stood.positive u (sym (can_same u) ∙ runs));
  runs = λ u i runs. ap (λ (a : Machine Cursor). times_at a u i) q.machine ∙ stood.runs u i (sym (can_same u) ∙ runs) ∙ ap (λ (n : ℕ). if n - 1 == i then 1 else 0) (sym (exec_same u));
  others = λ u i off. ap (λ (a : Machine Cursor). times_at a u i) q.machine ∙ stood.others u i (sym (can_same u) ∙ off);
}
  where
    can_same : (u : ℕ) → can_run s.machine u ≡ can_run m u
    can_same u = ap (λ (th : Thread Cursor). is_runnable th.status) (q.each u)

    exec_same : (u : ℕ) → exec s.machine u ≡ exec m u
    exec_same u =
        ap (λ (a : Machine Cursor). exec_in (claims s.machine.threads) a.mutexes u) q.machine
        ∙ ap (λ (cs : List Claim). exec_in cs m.mutexes u) q.claims

    times_at : Machine Cursor → ℕ → ℕ → ℕ
    times_at a u i = times u (slice_index_or a.lists i [])

-- ---- and the head may have a tick

module _ (x : Option ServerState) where
  abbrev served_by : Thread Cursor → Thread Cursor
  served_by th = record th { server = x }

  abbrev unit_served : InUnit Cursor → InUnit Cursor
  unit_served taken = record { thread = served_by taken.thread; unit = taken.unit }

  takes_served : (bodies : Bodies Cursor) (f : Following) (th : Thread Cursor) → takes_unit bodies f (served_by th) ≡ unit_served (takes_unit bodies f th)
  takes_served bodies (continuing left) th = refl
  takes_served bodies advancing th = by_frames th.frames
    where
      by_frames : (fs : List (Frame Cursor)) → advances bodies fs (served_by th) ≡ unit_served (advances bodies fs th)
      by_frames [] = refl
      by_frames (g ∷ gs) = refl
  takes_served bodies (cleaning_up u) th = refl
  takes_served bodies finishing th = by_frames th.frames
    where
      by_frames : (fs : List (Frame Cursor)) → begins_finish fs (served_by th) ≡ unit_served (begins_finish fs th)
      by_frames [] = refl
      by_frames (g ∷ gs) = refl

  room_served : (n : ℕ) (th : Thread Cursor) (c : Call) → HasRoomFor n th c → HasRoomFor n (served_by th) c
  room_served n th (call.Push u) h = h
  room_served n th (call.Pop runs) h = h
  room_served n th _ h = tt

  completes_served : (o : Objects) (th : Thread Cursor) (u : unit_type.Unit) → CanComplete o th u → CanComplete o (served_by th) u
  completes_served o th (unit.Run n) h = tt
  completes_served o th (unit.Make c) h = record { runnable = h.runnable; room = room_served o.cleanups th c h.room }
  completes_served o th unit.Jump h = tt
  completes_served o th unit.Finish h = tt

  tick_served : (o : Objects) (bodies : Bodies Cursor) (th : Thread Cursor) → CanTick o bodies th → CanTick o bodies (served_by th)
  tick_served o bodies th h = record {
    ends = λ e. (let k = h.ends e in record { room = k.room; handlers = k.handlers });
    completes = subst (λ (taken : InUnit Cursor). CanComplete o taken.thread taken.unit) (sym (takes_served bodies (following th) th)) (completes_served o (in_unit bodies th).thread (in_unit bodies th).unit h.completes);
  }

  thread_served : (o : Objects) (code : flat.NumberedBodies (List Op)) (now : ℕ) (th : Thread Cursor) → HighWithin now x → FitsThread o code now th → FitsThread o code now (served_by th)
  thread_served o code now th high h = record {
    can = tick_served o (flat_bodies code) th h.can;
    placed = h.placed;
    room = (let r = h.room in record { ticks = r.ticks; slice = r.slice; high = high });
  }

pub fits_prepared : (o : Objects) (code : flat.NumberedBodies (List Op)) (now t : ℕ) (m : Machine Cursor) (s : Turn Cursor) → ServersAlone m s → FitsThread o code now (thread_at m t) → FitsThread o code now (thread_at s.machine t)
fits_prepared o code now t m s q h =
    let x = (thread_at s.machine t).server in
    let it : thread_at s.machine t ≡ record (thread_at m t) { server = x } = ap (λ (b : Thread Cursor). record b { server = x }) (q.each t) in
    subst (FitsThread o code now) (sym it) (thread_served x o code now (thread_at m t) (q.high now t h.room.high) h)
