-- The books of one thread's server, over the events since a point of a turn: every move keeps them.
use Rattle.std.proofs.Common.{Bool, List, None, Option, Some, [], ap, append_assoc, arith, false, inl, inr, length, refl, suc, sym, true, zero, ℕ, ◌<◌, ◌∷◌, ◌++◌, ◌≡◌, ◌⊎◌}
use Rattle.std.specs.Prelude.{not, option_and_then, option_map, ◌==◌, ◌&&◌, if◌then◌else◌}
use mathlib.Core.Path.{subst, ◌∙◌}
use Rattle.words_numbers.specs.Parameters.{Parameters}
use Rattle.words_numbers.specs.declared.res.Res.{Res}
use Rattle.words_script.specs.declared.policy.Policy.{Policy}
use Rattle.words_script.specs.declared.policy.Policy.TheVariants as policy
use Rattle.words_trace.specs.declared.event.Event.{Event}
use Rattle.words_trace.specs.declared.event.Event.TheVariants as event
use Rattle.words_trace.specs.Text.{Entry}
use Rattle.rules_server.specs.declared.ServerKind.{ServerKind}
use Rattle.rules_server.specs.declared.ServerKind.TheVariants as kind
use Rattle.rules_server.specs.Server.{ServerState, activate, is_high, next_due, oldest_pending, refill, set_high, new_server_as}
use Rattle.rules_machine.specs.Budget.{ServerEvent, activated, all_recorded, recorded, recorded_if, refilled}
use Rattle.rules_machine.specs.Lists.{changed_at}
use Rattle.rules_machine.specs.Bodies.{Bodies}
use Rattle.rules_machine.specs.State.{Joiner, Status, Thread, Waiting, for_mutex_again}
use Rattle.rules_machine.specs.Threads.{can_run, is_blocked, is_dormant, is_runnable, no_thread, thread_at, thread_in}
use Rattle.rules_machine.specs.Turns.{Turn, changes, moves, tells}
use Rattle.rules_machine.specs.Servers.{activates_if, activates_server, amount_of, at_once, high_server, refills_server, regains_high, server_of, with_server, at_once_as}
use Rattle.rules_machine.specs.Waking.{ending_with, on_top, put_to_wait, started, wakes_telling, woken}
use Rattle.rules_machine.specs.Lives.{with_joiner, without_life, without_top}
use Rattle.rules_machine.specs.Cancellation.{without_cleanup}
use Rattle.rules_machine.specs.Scheduling.{with_policy, with_priority}
use Rattle.rules_machine.specs.DueItems.{has_come}
use Rattle.rules_machine.proofs.Reading.{changed-length, thread-other, thread-same}
use Rattle.rules_moves.specs.Moves.{Core, MayAwake, Move, alters, begins, blocks_for, blocks_plainly, does, drops, ends_with, enters_frame, is_plain, is_quiet, leaves_frame, lives_no_more, prices, pushed, pushes, recasts, refills_one, rejoins, renews_with, tells_of, wakes_with}
use Rattle.rules_moves.proofs.Waiters.Best.{blocked_within}
use Rattle.rules_moves.proofs.Cores.{runnable_seen, same_read}
use Rattle.rules_moves.proofs.Waiters.OfThreads.{changed_is}
use Rattle.laws_machine.proofs.Servers.OfThreads.{ThreadRight, none_consumed, only}
use Rattle.laws_machine.proofs.Servers.Right.{ServerIn, not_strict}
use Rattle.laws_machine.proofs.Servers.Moves.{Awake, Threads, here, sleeper}
use Rattle.laws_machine.proofs.Servers.Ends.{has_server}
use Rattle.laws_machine.proofs.Budgets.Booked.{Booked, Still, IsNew, IsActive, contra, active_booked, low_booked, priced_booked, new_still, other_status, refill_same, refill_booked, refill_stays, strict_booked}

posted_last : (t : ℕ) (news : List Entry) (e : Entry) (acc : List ServerEvent) → all_recorded t (news ++ e ∷ []) acc ≡ recorded t e.time e.event (all_recorded t news acc)
posted_last t [] e acc = refl
posted_last t (x ∷ news) e acc = posted_last t news e (recorded t x.time x.event acc)

quiet_plain : (e : Event) → is_quiet e ≡ true → is_plain e ≡ true
quiet_plain (event.Return t call res value) h = refl
quiet_plain (event.Deliver t sig code value) h = refl
quiet_plain (event.Cancel t) h = refl
quiet_plain (event.Killed sig) h = refl
quiet_plain e h = absurd (grind arith)

plain_posted : (t time : ℕ) (e : Event) (acc : List ServerEvent) → is_plain e ≡ true → recorded t time e acc ≡ acc
plain_posted t time (event.Start u) acc h = absurd (grind arith)
plain_posted t time (event.Activate u capacity) acc h = absurd (grind arith)
plain_posted t time (event.Plan u amount due) acc h = absurd (grind arith)
plain_posted t time (event.Refill u amount capacity) acc h = absurd (grind arith)
plain_posted t time e acc h = refl

pub posted_not : (b : Bool) (p : ServerEvent) (acc : List ServerEvent) → b ≡ false → recorded_if b p acc ≡ acc
posted_not true p acc e = absurd (grind arith)
posted_not false p acc e = refl

pub posted_so : (b : Bool) (p : ServerEvent) (acc : List ServerEvent) → b ≡ true → recorded_if b p acc ≡ acc ++ p ∷ []
posted_so true p acc e = refl
posted_so false p acc e = absurd (grind arith)

-- ---- in a turn

module _ {P : Type 0} (bodies : Bodies P) (t : ℕ) (pre : List Entry) (acc : List ServerEvent) where
  abbrev On : (ℕ → Status → ServerState → List ServerEvent → Type 0) → ℕ → Thread P → List ServerEvent → Type 0
  On Q now th a = (x : ServerState) → th.server ≡ Some x → Q now th.status x a

  -- the events that are new since, and what holds of the server and the account with them
  abbrev pub Has : (ℕ → Status → ServerState → List ServerEvent → Type 0) → Turn P → Type 0
  Has Q s = (news : List Entry) × (s.events ≡ pre ++ news) × On Q s.machine.now (thread_at s.machine t) (all_recorded t news acc)

  abbrev pub Recorded : Turn P → Type 0
  Recorded s = Has Booked s

  one : (Q : ℕ → Status → ServerState → List ServerEvent → Type 0) (v : ℕ) (f : Thread P → Thread P) (s : Turn P) →
      ((a : List ServerEvent) → On Q s.machine.now (thread_at s.machine v) a → On Q s.machine.now (f (thread_at s.machine v)) a) → Has Q s → Has Q (changes v f s)
  one Q v f s h q = (q.0, q.1, of_two (changed_is no_thread v t f s.machine.threads))
    where
      of_two : ((v ≡ t) × (thread_in (changed_at no_thread v f s.machine.threads) t ≡ f (thread_at s.machine v))) ⊎ (thread_in (changed_at no_thread v f s.machine.threads) t ≡ thread_at s.machine t) →
          On Q s.machine.now (thread_at (changes v f s).machine t) (all_recorded t q.0 acc)
      of_two (inl e) = subst (λ (th : Thread P). On Q s.machine.now th (all_recorded t q.0 acc)) (sym e.1)
          (h (all_recorded t q.0 acc) (subst (λ (i : ℕ). On Q s.machine.now (thread_at s.machine i) (all_recorded t q.0 acc)) (sym e.0) q.2))
      of_two (inr e) = subst (λ (th : Thread P). On Q s.machine.now th (all_recorded t q.0 acc)) (sym e) q.2

  pub own : (Q R : ℕ → Status → ServerState → List ServerEvent → Type 0) (f : Thread P → Thread P) (s : Turn P) → t < length s.machine.threads →
      ((a : List ServerEvent) → On Q s.machine.now (thread_at s.machine t) a → On R s.machine.now (f (thread_at s.machine t)) a) → Has Q s → Has R (changes t f s)
  own Q R f s within h q = (q.0, q.1, subst (λ (th : Thread P). On R s.machine.now th (all_recorded t q.0 acc)) (sym (thread-same s.machine t f within)) (h (all_recorded t q.0 acc) q.2))

  pub other : (Q : ℕ → Status → ServerState → List ServerEvent → Type 0) (v : ℕ) (f : Thread P → Thread P) (s : Turn P) → (v == t) ≡ false → Has Q s → Has Q (changes v f s)
  other Q v f s e q = (q.0, q.1, subst (λ (th : Thread P). On Q s.machine.now th (all_recorded t q.0 acc)) (sym (thread-other s.machine v t f e)) q.2)

  pub told : (Q R : ℕ → Status → ServerState → List ServerEvent → Type 0) (e : Event) (s : Turn P) →
      ((x : ServerState) (a : List ServerEvent) → (thread_at s.machine t).server ≡ Some x → Q s.machine.now (thread_at s.machine t).status x a → R s.machine.now (thread_at s.machine t).status x (recorded t s.machine.now e a)) → Has Q s → Has R (tells e s)
  told Q R e s h q =
      let entry : Entry = record { time = s.machine.now; event = e } in (
        q.0 ++ entry ∷ [],
        ap (λ (es : List Entry). es ++ entry ∷ []) q.1 ∙ append_assoc pre q.0 (entry ∷ []),
        λ x k. subst (R s.machine.now (thread_at s.machine t).status x) (sym (posted_last t q.0 entry acc)) (h x (all_recorded t q.0 acc) k (q.2 x k)),
      )

  pub told_plainly : (Q : ℕ → Status → ServerState → List ServerEvent → Type 0) (e : Event) (s : Turn P) → is_plain e ≡ true → Has Q s → Has Q (tells e s)
  told_plainly Q e s h q = told Q Q e s (λ x a k g. subst (Q s.machine.now (thread_at s.machine t).status x) (sym (plain_posted t s.machine.now e a h)) g) q

  itself : (t == t) ≡ true
  itself = grind arith

  -- ---- an activation

  pub activates_other : (v : ℕ) (o : Option ServerState) (s : Turn P) → (v == t) ≡ false → Recorded s → Recorded (activates_server v o s)
  activates_other v None s e q = q
  activates_other v (Some server) s e q =
      told Booked Booked (event.Activate v server.capacity) (changes v (with_server (activate s.machine.now)) s) (λ x a k g. subst (Booked s.machine.now _ x) (sym (posted_not (v == t) (activated s.machine.now) a e)) g)
      (other Booked v (with_server (activate s.machine.now)) s e q)

  pub activated_map : (now : ℕ) (status : Status) (o : Option ServerState) (a : List ServerEvent) → ((x : ServerState) → o ≡ Some x → Still now status x a) → (x : ServerState) → option_map (activate now) o ≡ Some x → IsActive now status x a
  activated_map now status None a h x e = absurd (grind arith)
  activated_map now status (Some y) a h x e = (y, sym (only e), h y refl)

  pub activates_some : (server : ServerState) (s : Turn P) → t < length s.machine.threads → Has Still s → Recorded (activates_server t (Some server) s)
  activates_some server s within q =
      told IsActive Booked (event.Activate t server.capacity) (changes t (with_server (activate s.machine.now)) s)
      (λ x a k g. subst (Booked s.machine.now _ x) (sym (posted_so (t == t) (activated s.machine.now) a itself)) (active_booked s.machine.now _ x a g))
      (own Still IsActive (with_server (activate s.machine.now)) s within (λ a h. activated_map s.machine.now (thread_at s.machine t).status (thread_at s.machine t).server a h) q)

  at_once_none : (x : ServerState) → at_once_as x.kind x ≡ None → x.kind ≡ kind.Strict
  at_once_none x e = by_kind x.kind refl e
    where
      by_kind : (k : ServerKind) → x.kind ≡ k → at_once_as k x ≡ None → x.kind ≡ kind.Strict
      by_kind kind.Sporadic k e = absurd (grind arith)
      by_kind kind.Strict k e = k

  activates_own : (o : Option ServerState) (s : Turn P) → at_once (thread_at s.machine t).server ≡ o → t < length s.machine.threads → Has Still s → Recorded (activates_server t o s)
  activates_own None s e within q = (
    q.0,
    q.1,
    λ x k. strict_booked s.machine.now (thread_at s.machine t).status x (all_recorded t q.0 acc) (at_once_none x (sym (ap at_once k) ∙ e)) (q.2 x k),
  )
  activates_own (Some server) s e within q = activates_some server s within q

  -- where the priority is high
  activates_high : (o : Option ServerState) (s : Turn P) → at_once (high_server (thread_at s.machine t).server) ≡ o → t < length s.machine.threads → Has Still s → Recorded (activates_server t o s)
  activates_high None s e within q = (q.0, q.1, λ x k. low_booked s.machine.now (thread_at s.machine t).status x (all_recorded t q.0 acc) (λ sort runs high. not_low x (is_high x) high (sym (ap (λ (o : Option ServerState). at_once (high_server o)) k) ∙ e) sort) (q.2 x k))
    where
      not_low : (x : ServerState) (b : Bool) → b ≡ true → at_once (if b then Some x else None) ≡ None → x.kind ≡ kind.Sporadic → ⊥
      not_low x true h k sort = not_strict (sym (at_once_none x k) ∙ sort)
      not_low x false h k sort = absurd (grind arith)
  activates_high (Some server) s e within q = activates_some server s within q

  -- ---- a waking

  wakes_posted : (v : ℕ) (e : Event) (r : Res) (n : ℕ) (s : Turn P) → is_blocked (thread_at s.machine v).status ≡ true → is_plain e ≡ true → ((x : ServerState) → (thread_at s.machine v).server ≡ Some x → x.consumed ≡ 0) → Recorded s → Recorded (wakes_telling e v r n s)
  wakes_posted v e r n s b plain none q = by_eq (v == t) refl
    where
      by_eq : (c : Bool) → (v == t) ≡ c → Recorded (wakes_telling e v r n s)
      by_eq true k = let it : t ≡ v = grind arith in subst (λ (i : ℕ). Recorded (wakes_telling e i r n s)) it (mine (subst (λ (i : ℕ). is_blocked (thread_at s.machine i).status ≡ true) (sym it) b) (subst (λ (i : ℕ). (x : ServerState) → (thread_at s.machine i).server ≡ Some x → x.consumed ≡ 0) (sym it) none))
        where
          mine : is_blocked (thread_at s.machine t).status ≡ true → ((x : ServerState) → (thread_at s.machine t).server ≡ Some x → x.consumed ≡ 0) → Recorded (wakes_telling e t r n s)
          mine b none =
              let within : t < length s.machine.threads = blocked_within s.machine.threads t b in
              let up = tells e (moves t (changes t (woken r n) s)) in
              activates_high (at_once (high_server (thread_at up.machine t).server)) up refl (subst (λ (k : ℕ). t < k) (sym (changed-length no_thread t (woken r n) s.machine.threads)) within)
              (told_plainly Still e (moves t (changes t (woken r n) s)) plain (own Booked Still (woken r n) s within (λ a h x k. ((h x k).books, none x k)) q))
      by_eq false k =
          let up = tells e (moves v (changes v (woken r n) s)) in
          activates_other v (at_once (high_server (thread_at up.machine v).server)) up k (told_plainly Booked e (moves v (changes v (woken r n) s)) plain (other Booked v (woken r n) s k q))

  -- ---- a new server

  new_of : (rule : Policy) (now : ℕ) (x : ServerState) → server_of rule now ≡ Some x → (p : Parameters) × (k : ServerKind) × (x ≡ new_server_as k p now)
  new_of (policy.Fifo p) now x e = absurd (grind arith)
  new_of (policy.Rr p) now x e = absurd (grind arith)
  new_of (policy.Sporadic params) now x e = (params, kind.Sporadic, sym (only e))
  new_of (policy.Strict params) now x e = (params, kind.Strict, sym (only e))

  reset : (b : Bool) → b ≡ true → (a : List ServerEvent) → (if b then [] else a) ≡ []
  reset true e a = refl
  reset false e a = absurd (grind arith)

  unset : (b : Bool) → b ≡ false → (a : List ServerEvent) → (if b then [] else a) ≡ a
  unset true e a = absurd (grind arith)
  unset false e a = refl

  begins_posted : (v mask : ℕ) (s : Turn P) → is_dormant (thread_at s.machine v).status ≡ true → Recorded s → Recorded (does bodies (begins v mask) s)
  begins_posted v mask s d q = by_eq (v == t) refl
    where
      by_eq : (c : Bool) → (v == t) ≡ c → Recorded (does bodies (begins v mask) s)
      by_eq true k = let it : t ≡ v = grind arith in subst (λ (i : ℕ). Recorded (does bodies (begins i mask) s)) it (mine (subst (λ (i : ℕ). is_dormant (thread_at s.machine i).status ≡ true) (sym it) d))
        where
          mine : is_dormant (thread_at s.machine t).status ≡ true → Recorded (does bodies (begins t mask) s)
          mine d =
              let within : t < length s.machine.threads = here bodies None is_dormant refl s.machine.threads t d in
              let f = started bodies t mask s.machine.now in
              let up = tells (event.Start t) (moves t (changes t f s)) in
              activates_own (at_once (thread_at up.machine t).server) up refl (subst (λ (k : ℕ). t < k) (sym (changed-length no_thread t f s.machine.threads)) within)
              (told IsNew Still (event.Start t) (moves t (changes t f s)) (λ x a k g. subst (Still s.machine.now (thread_at (changes t f s).machine t).status x) (sym (reset (t == t) itself a)) (new_still s.machine.now (thread_at (changes t f s).machine t).status x g))
              (own Booked IsNew f s within (λ a h x k. new_of (thread_at s.machine t).policy s.machine.now x k) q))
      by_eq false k =
          let f = started bodies v mask s.machine.now in
          let up = tells (event.Start v) (moves v (changes v f s)) in
          activates_other v (at_once (thread_at up.machine v).server) up k
          (told Booked Booked (event.Start v) (moves v (changes v f s)) (λ x a j g. subst (Booked s.machine.now _ x) (sym (unset (v == t) k a)) g) (other Booked v f s k q))

  -- a thread that has a new policy, where nothing is posted yet
  pub renewed_posted : (active : Bool) (new : Policy) (s : Turn P) → t < length s.machine.threads → active ≡ can_run s.machine t → (news : List Entry) → s.events ≡ pre ++ news → all_recorded t news acc ≡ [] →
      Recorded (activates_if active t (changes t (with_policy new s.machine.now) s))
  renewed_posted active new s within runs news since blank = by_active active runs
    where
      f : Thread P → Thread P
      f th = with_policy new s.machine.now th

      still : Has Still (changes t (with_policy new s.machine.now) s)
      still = (
        news,
        since,
        λ x k. subst (Still s.machine.now (thread_at (changes t (with_policy new s.machine.now) s).machine t).status x) (sym blank)
            (new_still s.machine.now (thread_at (changes t (with_policy new s.machine.now) s).machine t).status x (new_of new s.machine.now x (sym (ap (λ (th : Thread P). th.server) (thread-same s.machine t (with_policy new s.machine.now) within)) ∙ k))),
      )

      not_running : false ≡ can_run s.machine t → is_runnable (thread_at (changes t (with_policy new s.machine.now) s).machine t).status ≡ true → ⊥
      not_running e k = contra k (ap (λ (th : Thread P). is_runnable th.status) (thread-same s.machine t (with_policy new s.machine.now) within) ∙ sym e)

      by_active : (active : Bool) → active ≡ can_run s.machine t → Recorded (activates_if active t (changes t (with_policy new s.machine.now) s))
      by_active true e =
          activates_own (at_once (thread_at (changes t (with_policy new s.machine.now) s).machine t).server) (changes t (with_policy new s.machine.now) s) refl
          (subst (λ (k : ℕ). t < k) (sym (changed-length no_thread t (with_policy new s.machine.now) s.machine.threads)) within) still
      by_active false e = (still.0, still.1, λ x k. low_booked s.machine.now (thread_at (changes t (with_policy new s.machine.now) s).machine t).status x (all_recorded t still.0 acc) (λ sort runs high. not_running e runs) (still.2 x k))

  pub renewed_other : (active : Bool) (v : ℕ) (new : Policy) (s : Turn P) → (v == t) ≡ false → Recorded s → Recorded (activates_if active v (changes v (with_policy new s.machine.now) s))
  renewed_other true v new s e q = activates_other v (at_once (thread_at (changes v (with_policy new s.machine.now) s).machine v).server) (changes v (with_policy new s.machine.now) s) e (other Booked v (with_policy new s.machine.now) s e q)
  renewed_other false v new s e q = other Booked v (with_policy new s.machine.now) s e q

  -- ---- a refill

  activates_if_other : (b : Bool) (v : ℕ) (s : Turn P) → (v == t) ≡ false → Recorded s → Recorded (activates_if b v s)
  activates_if_other true v s e q = activates_other v (at_once (thread_at s.machine v).server) s e q
  activates_if_other false v s e q = q

  refills_other : (v : ℕ) (o : Option ServerState) (s : Turn P) → (v == t) ≡ false → Recorded s → Recorded (refills_server v o s)
  refills_other v None s e q = q
  refills_other v (Some server) s e q =
      let up = changes v (with_server refill) s in
      let amount = amount_of (oldest_pending server) in
      activates_if_other (regains_high server && can_run s.machine v) v (tells (event.Refill v amount (refill server).capacity) up) e
      (told Booked Booked (event.Refill v amount (refill server).capacity) up (λ x a k g. subst (Booked s.machine.now (thread_at up.machine t).status x) (sym (posted_not (v == t) (refilled s.machine.now amount) a e)) g)
      (other Booked v (with_server refill) s e q))

  -- what a refill makes of the thread's server, before it is told
  abbrev IsRefilled : ServerState → ℕ → Status → ServerState → List ServerEvent → Type 0
  IsRefilled old now status x a = (x ≡ refill old) × Booked now status old a

  refilled_map : (now : ℕ) (status : Status) (server : ServerState) (o : Option ServerState) (a : List ServerEvent) → o ≡ Some server → ((x : ServerState) → o ≡ Some x → Booked now status x a) → (x : ServerState) → option_map refill o ≡ Some x → IsRefilled server now status x a
  refilled_map now status server None a e h x k = absurd (grind arith)
  refilled_map now status server (Some y) a e h x k = let it : y ≡ server = only e in (sym (only k) ∙ ap refill it, h server e)

  refills_mine : (server : ServerState) (s : Turn P) → (thread_at s.machine t).server ≡ Some server → has_come (next_due server) s.machine.now ≡ true → (is_high server ≡ false → server.consumed ≡ 0) → Recorded s → Recorded (refills_server t (Some server) s)
  refills_mine server s e come idle q = by_regain (regains_high server && can_run s.machine t) refl
    where
      amount : ℕ
      amount = amount_of (oldest_pending server)

      within : t < length s.machine.threads
      within = has_server s.machine.threads t server e

      up : Turn P
      up = changes t (with_server refill) s

      ev : Event
      ev = event.Refill t (amount_of (oldest_pending server)) (refill server).capacity

      status : is_runnable (thread_at (changes t (with_server refill) s).machine t).status ≡ can_run s.machine t
      status = ap (λ (th : Thread P). is_runnable th.status) (thread-same s.machine t (with_server refill) within)

      done : Has (IsRefilled server) (changes t (with_server refill) s)
      done = own Booked (IsRefilled server) (with_server refill) s within (λ a h. refilled_map s.machine.now (thread_at s.machine t).status server (thread_at s.machine t).server a e h) q

      low_of : (a b c : Bool) → ((not a && b) && c) ≡ true → a ≡ false
      low_of a b c e = grind arith

      stays : (regains_high server && can_run s.machine t) ≡ false → (x : ServerState) (a : List ServerEvent) → IsRefilled server s.machine.now (thread_at (changes t (with_server refill) s).machine t).status x a →
          Booked s.machine.now (thread_at (changes t (with_server refill) s).machine t).status x (recorded_if (t == t) (refilled s.machine.now (amount_of (oldest_pending server))) a)
      stays k x a g =
          subst (Booked s.machine.now (thread_at (changes t (with_server refill) s).machine t).status x) (sym (posted_so (t == t) (refilled s.machine.now (amount_of (oldest_pending server))) a itself))
          (subst (λ (z : ServerState). Booked s.machine.now (thread_at (changes t (with_server refill) s).machine t).status z (a ++ refilled s.machine.now (amount_of (oldest_pending server)) ∷ [])) (sym g.0)
          (refill_stays s.machine.now (thread_at (changes t (with_server refill) s).machine t).status server a come (ap (λ (b : Bool). regains_high server && b) status ∙ k) g.1))

      regains : (regains_high server && can_run s.machine t) ≡ true → (x : ServerState) (a : List ServerEvent) → IsRefilled server s.machine.now (thread_at (changes t (with_server refill) s).machine t).status x a →
          Still s.machine.now (thread_at (changes t (with_server refill) s).machine t).status x (recorded_if (t == t) (refilled s.machine.now (amount_of (oldest_pending server))) a)
      regains k x a g =
          subst (Still s.machine.now (thread_at (changes t (with_server refill) s).machine t).status x) (sym (posted_so (t == t) (refilled s.machine.now (amount_of (oldest_pending server))) a itself))
          (subst (λ (z : ServerState). Still s.machine.now (thread_at (changes t (with_server refill) s).machine t).status z (a ++ refilled s.machine.now (amount_of (oldest_pending server)) ∷ [])) (sym g.0)
          (refill_booked s.machine.now server a come g.1.books, (refill_same server).0 ∙ idle (low_of (is_high server) (is_high (refill server)) (can_run s.machine t) k)))

      by_regain : (b : Bool) → (regains_high server && can_run s.machine t) ≡ b → Recorded (activates_if b t (tells (event.Refill t (amount_of (oldest_pending server)) (refill server).capacity) (changes t (with_server refill) s)))
      by_regain false k = told (IsRefilled server) Booked (event.Refill t (amount_of (oldest_pending server)) (refill server).capacity) (changes t (with_server refill) s) (λ x a j g. stays k x a g) done
      by_regain true k =
          let there = tells (event.Refill t (amount_of (oldest_pending server)) (refill server).capacity) (changes t (with_server refill) s) in
          activates_own (at_once (thread_at there.machine t).server) there refl (subst (λ (n : ℕ). t < n) (sym (changed-length no_thread t (with_server refill) s.machine.threads)) within)
          (told (IsRefilled server) Still (event.Refill t (amount_of (oldest_pending server)) (refill server).capacity) (changes t (with_server refill) s) (λ x a j g. regains k x a g) done)

  idle_low : (now : ℕ) (th : Thread P) (x : ServerState) → th.server ≡ Some x → ThreadRight false now th → is_high x ≡ false → x.consumed ≡ 0
  idle_low now th x e h low = by_size x.consumed refl
    where
      by_size : (n : ℕ) → x.consumed ≡ n → x.consumed ≡ 0
      by_size zero k = k
      by_size (suc n) k = absurd (contra (((h.each x e).consumed (omega arith)).runs refl).1 low)

  -- ---- every move

  -- a change that leaves the server, and makes nothing runnable
  pub same_server : (v : ℕ) (f : Thread P → Thread P) (s : Turn P) → (f (thread_at s.machine v)).server ≡ (thread_at s.machine v).server →
      (is_runnable (f (thread_at s.machine v)).status ≡ true → is_runnable (thread_at s.machine v).status ≡ true) → Recorded s → Recorded (changes v f s)
  same_server v f s same runs q =
      one Booked v f s (λ a h x k. other_status s.machine.now (thread_at s.machine v).status (f (thread_at s.machine v)).status x a runs (h x (sym same ∙ k))) q

  priced_map : (p now : ℕ) (status : Status) (o : Option ServerState) (a : List ServerEvent) → ((x : ServerState) → o ≡ Some x → Booked now status x a) → (x : ServerState) → option_map (set_high p) o ≡ Some x → Booked now status x a
  priced_map p now status None a h x e = absurd (grind arith)
  priced_map p now status (Some y) a h x e = subst (λ (z : ServerState). Booked now status z a) (only e) (priced_booked p now status y a (h y refl))

  pub sleeps_posted : (v : ℕ) (w : Waiting) (s : Turn P) → Recorded s → Recorded (changes v (put_to_wait w) s)
  sleeps_posted v w s q = same_server v (put_to_wait w) s refl (λ runs. absurd (grind arith)) q

  pub joined_posted : (v : ℕ) (j : Joiner) (s : Turn P) → Recorded s → Recorded (changes v (with_joiner j) s)
  joined_posted v j s q = same_server v (with_joiner j) s refl (λ runs. runs) q

  refills_posted : (v : ℕ) (o : Option ServerState) (s : Turn P) → (thread_at s.machine v).server ≡ o → has_come (option_and_then next_due o) s.machine.now ≡ true → Threads bodies None s → Recorded s → Recorded (refills_server v o s)
  refills_posted v None s e come all q = q
  refills_posted v (Some server) s e come all q = by_eq (v == t) refl
    where
      by_eq : (c : Bool) → (v == t) ≡ c → Recorded (refills_server v (Some server) s)
      by_eq true k =
          let it : t ≡ v = grind arith in
          let e' : (thread_at s.machine t).server ≡ Some server = subst (λ (i : ℕ). (thread_at s.machine i).server ≡ Some server) (sym it) e in
          subst (λ (i : ℕ). Recorded (refills_server i (Some server) s)) it (refills_mine server s e' come (idle_low s.machine.now (thread_at s.machine t) server e' (all t)) q)
      by_eq false k = refills_other v (Some server) s k q

  none_blocked : (who : Option ℕ) (v : ℕ) (s : Turn P) → is_blocked (thread_at s.machine v).status ≡ true → Awake bodies who s → Threads bodies who s → (x : ServerState) → (thread_at s.machine v).server ≡ Some x → x.consumed ≡ 0
  none_blocked who v s b awake all x e =
      none_consumed s.machine.now (thread_at s.machine v).status x b (subst (λ (mine : Bool). ServerIn mine s.machine.now (thread_at s.machine v).status x) (sleeper bodies who v s awake b) ((all v).each x e))

  pub posted_keep : (who : Option ℕ) (move : Move P) (s : Turn P) → MayAwake who move s → Awake bodies who s → Threads bodies who s → Recorded s → Recorded (does bodies move s)
  posted_keep who (alters v f) s may awake all q =
      let th = thread_at s.machine v in
      same_server v f s (ap (λ (c : Core P). c.server) (may th)) (λ runs. same_read is_runnable runnable_seen th (f th) (sym (may th)) ∙ runs) q
  posted_keep who (tells_of e) s may awake all q = told_plainly Booked e s (quiet_plain e may) q
  posted_keep who (ends_with v n) s may awake all q = same_server v (ending_with n) s refl (λ runs. runs) q
  posted_keep who (enters_frame v f) s may awake all q = same_server v (on_top f) s refl (λ runs. runs) q
  posted_keep who (leaves_frame v) s may awake all q = same_server v without_top s refl (λ runs. runs) q
  posted_keep who (pushes v u) s may awake all q = same_server v (pushed u) s refl (λ runs. runs) q
  posted_keep who (drops v) s may awake all q = same_server v without_cleanup s refl (λ runs. runs) q
  posted_keep who (prices v p) s may awake all q =
      one Booked v (with_priority p) s (priced_map p s.machine.now (thread_at s.machine v).status (thread_at s.machine v).server) q
  posted_keep who (renews_with active v new) s may awake all q = absurd may
  posted_keep who (wakes_with v e r n) s may awake all q = wakes_posted v e r n s may.0 (quiet_plain e may.1) (none_blocked who v s may.0 awake all) q
  posted_keep who (blocks_for by (for_mutex_again k how) due) s may awake all q =
      sleeps_posted by.thread (record { wait = for_mutex_again k how; serial = s.machine.next_serial; due = due; call = by.call }) s q
  posted_keep who (blocks_for by wait due) s may awake all q = absurd may
  posted_keep who (blocks_plainly by wait due) s may awake all q = absurd may
  posted_keep who (begins v mask) s may awake all q = begins_posted v mask s may q
  posted_keep who (lives_no_more v) s may awake all q = told_plainly Booked (event.Exit v) (changes v without_life s) refl (one Booked v without_life s (λ a h x k. absurd (grind arith)) q)
  posted_keep who (recasts v f) s may awake all q = absurd may
  posted_keep who (rejoins v j) s may awake all q = joined_posted v j s q
  posted_keep who (refills_one v) s may awake all q =
      refills_posted v (thread_at s.machine v).server s refl may.0 (subst (λ (o : Option ℕ). Threads bodies o s) may.1 all) q
  posted_keep who move s may awake all q = q
