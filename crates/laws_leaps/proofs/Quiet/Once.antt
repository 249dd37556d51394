-- So many charges of a head, one after another, are one charge of so many ticks.
use Rattle.std.proofs.Common.{Bool, List, None, Option, Some, [], ap, arith, false, length, refl, suc, sym, true, zero, ℕ, ◌+◌, ◌<◌, ◌∷◌, ◌≡◌}
use Rattle.std.specs.Prelude.{nat_lt, option_map, ◌-◌, ◌==◌, ◌&&◌, ◌||◌, if◌then◌else◌}
use mathlib.Core.Path.{subst, ◌∙◌}
use Rattle.words_script.specs.declared.policy.Policy.{Policy}
use Rattle.words_script.specs.declared.policy.Policy.TheVariants as policy
use Rattle.rules_server.specs.declared.ServerKind.{ServerKind}
use Rattle.rules_server.specs.declared.ServerKind.TheVariants as kind
use Rattle.rules_server.specs.Server.{ServerState, charge, charge_ticks, is_high, is_high_as}
use Rattle.rules_machine.specs.declared.dispatch.LastDispatch.TheVariants as last
use Rattle.rules_machine.specs.Lists.{changed_at}
use Rattle.rules_machine.specs.Bodies.{Bodies}
use Rattle.rules_machine.specs.State.{Frame, Machine, Thread}
use Rattle.rules_machine.specs.Threads.{no_thread, thread_at, top_left}
use Rattle.rules_machine.specs.Turns.{with_thread}
use Rattle.rules_machine.specs.Servers.{charged, has_high}
use Rattle.rules_machine.specs.Dispatch.{head}
use Rattle.rules_machine.specs.Units.{choice, in_unit, is_at_end, takes_unit}
use Rattle.rules_machine.specs.Ticks.{capacity_in, frames_charged, slice_charged, slice_is_used, tick_charged}
use Rattle.rules_machine.specs.Eventful.{head_matters, tick_matters, unless_ended}
use Rattle.rules_machine.proofs.Reading.{changed-length, changed-twice, thread-same}
use Rattle.rules_leaps.specs.Quiet.{after_ticks, frames_after, head_after, server_after, slice_after}
use Rattle.laws_machine.proofs.Lists.Kept.{Plans, in_unit_plans}
use Rattle.laws_leaps.proofs.Quiet.Ticks.{left_over}
use Rattle.rules_leaps.specs.Quiet.{after_quiet}
use Rattle.rules_leaps.specs.Quiet.{charged_head}
use Rattle.laws_machine.proofs.Signals.Takers.{charge_of}
use Rattle.laws_leaps.proofs.Quiet.Prepared.{one_plain, plain_charges, plain_unless_killed}

-- a server stays high while capacity is left
pub less_high : (k : ℕ) (s : ServerState) → is_high s ≡ true → (s.capacity - k == 0) ≡ false → is_high_as s.kind (s.capacity - k) (length s.pending) s.params.max ≡ true
less_high k s h e = by_kind s.kind h
  where
    both : (c : ℕ) (b : Bool) → (nat_lt 0 c && b) ≡ true → (c - k == 0) ≡ false → (nat_lt 0 (c - k) && b) ≡ true
    both c b h l = grind arith

    one : (c : ℕ) → (c - k == 0) ≡ false → nat_lt 0 (c - k) ≡ true
    one c l = grind arith

    by_kind : (x : ServerKind) → is_high_as x s.capacity (length s.pending) s.params.max ≡ true → is_high_as x (s.capacity - k) (length s.pending) s.params.max ≡ true
    by_kind kind.Sporadic h = both s.capacity (nat_lt (length s.pending) s.params.max) h e
    by_kind kind.Strict h = one s.capacity e

-- ---- a charge of k ticks

abbrev pub charged_times : {P : Type 0} → ℕ → Thread P → Thread P
charged_times zero th = th
charged_times (suc k) th = tick_charged (charged_times k th)

-- the high priority stays up to the last of the ticks
abbrev pub StaysHigh : ℕ → Option ServerState → Type 0
StaysHigh k None = Unit {0}
StaysHigh k (Some s) = is_high s ≡ true → (i : ℕ) → i < k → is_high (charge_ticks i s) ≡ true

no_slice : (p : Policy) (slice : ℕ) → slice_after 0 p slice ≡ slice
no_slice (policy.Fifo p) slice = refl
no_slice (policy.Rr p) slice = omega arith
no_slice (policy.Sporadic params) slice = refl
no_slice (policy.Strict params) slice = refl

more_slice : (k : ℕ) (p : Policy) (slice : ℕ) → slice_charged p (slice_after k p slice) ≡ slice_after (suc k) p slice
more_slice k (policy.Fifo p) slice = refl
more_slice k (policy.Rr p) slice = omega arith
more_slice k (policy.Sporadic params) slice = refl
more_slice k (policy.Strict params) slice = refl

no_server : (o : Option ServerState) → option_map (server_after 0) o ≡ o
no_server None = refl
no_server (Some s) = ap (λ (x : ServerState). Some x) (by_high (is_high s))
  where
    by_high : (b : Bool) → (if b then s else s) ≡ s
    by_high true = refl
    by_high false = refl

more_server : (k : ℕ) (o : Option ServerState) → StaysHigh (suc k) o → option_map charged (option_map (server_after k) o) ≡ option_map (server_after (suc k)) o
more_server k None h = refl
more_server k (Some s) h = ap (λ (x : ServerState). Some x) (by_high (is_high s) refl)
  where
    by_high : (b : Bool) → is_high s ≡ b → charged (server_after k s) ≡ server_after (suc k) s
    by_high true e =
        ap (λ (b : Bool). charged (if b then charge_ticks k s else s)) e
        ∙ ap (λ (b : Bool). if b then charge (charge_ticks k s) else charge_ticks k s) (h e k (omega arith))
        ∙ sym (ap (λ (b : Bool). if b then charge (charge_ticks k s) else s) e)
    by_high false e =
        ap (λ (b : Bool). charged (if b then charge_ticks k s else s)) e
        ∙ ap (λ (b : Bool). if b then charge s else s) e
        ∙ sym (ap (λ (b : Bool). if b then charge (charge_ticks k s) else s) e)

no_frames : {P : Type 0} (fs : List (Frame P)) → frames_after 0 fs ≡ fs
no_frames [] = refl
no_frames (f ∷ fs) = let e : f.left - 0 ≡ f.left = omega arith in ap (λ (n : ℕ). record f { left = n } ∷ fs) e

more_frames : {P : Type 0} (k : ℕ) (fs : List (Frame P)) → frames_charged (frames_after k fs) ≡ frames_after (suc k) fs
more_frames k [] = refl
more_frames k (f ∷ fs) = let e : f.left - k - 1 ≡ f.left - suc k = omega arith in ap (λ (n : ℕ). record f { left = n } ∷ fs) e

module _ {P : Type 0} (th : Thread P) where
  abbrev with_charge : ℕ → ℕ → Option ServerState → List (Frame P) → Thread P
  with_charge ticks slice server frames = record th { ticks = ticks; slice = slice; server = server; frames = frames }

  same_charge : (a b c d : ℕ) (o p : Option ServerState) (fs gs : List (Frame P)) → a ≡ b → c ≡ d → o ≡ p → fs ≡ gs → with_charge a c o fs ≡ with_charge b d p gs
  same_charge a b c d o p fs gs e f g h =
      ap (λ (n : ℕ). with_charge n c o fs) e ∙ ap (λ (n : ℕ). with_charge b n o fs) f ∙ ap (λ (x : Option ServerState). with_charge b d x fs) g ∙ ap (λ (x : List (Frame P)). with_charge b d p x) h

fewer_high : (k : ℕ) (o : Option ServerState) → StaysHigh (suc k) o → StaysHigh k o
fewer_high k None h = tt
fewer_high k (Some s) h = λ e i small. h e i (omega arith)

-- one after another
pub charged_is : {P : Type 0} (k : ℕ) (th : Thread P) → StaysHigh k th.server → charged_times k th ≡ after_ticks k th
charged_is zero th h =
    sym (same_charge th (th.ticks + 0) th.ticks (slice_after 0 th.policy th.slice) th.slice (option_map (server_after 0) th.server) th.server (frames_after 0 th.frames) th.frames (omega arith) (no_slice th.policy th.slice) (no_server th.server) (no_frames th.frames))
charged_is (suc k) th h =
    ap tick_charged (charged_is k th (fewer_high k th.server h))
    ∙ same_charge th (th.ticks + k + 1) (th.ticks + suc k) (slice_charged th.policy (slice_after k th.policy th.slice)) (slice_after (suc k) th.policy th.slice) (option_map charged (option_map (server_after k) th.server)) (option_map (server_after (suc k)) th.server)
    (frames_charged (frames_after k th.frames)) (frames_after (suc k) th.frames) (omega arith) (more_slice k th.policy th.slice) (more_server k th.server h) (more_frames k th.frames)

-- ---- a machine

module _ {P : Type 0} (bodies : Bodies P) where
  -- a unit that goes on is left as it is
  pub in_unit_on : (th : Thread P) (l : ℕ) → top_left th.frames ≡ suc l → (in_unit bodies th).thread ≡ th
  in_unit_on th l e = ap (λ (n : ℕ). (takes_unit bodies (choice n (is_at_end th) th.cleanups) th).thread) e

  -- the head's ticks, each charged after another
  abbrev pub head_times : ℕ → ℕ → Machine P → Machine P
  head_times k t m = record (with_thread t (λ th. charged_times k (in_unit bodies (thread_at m t)).thread) m) { now = m.now + k; last = last.Ran t }

  -- what a machine with that head and that process is charged to
  pub one_is : (t : ℕ) (m : Machine P) → m.killed ≡ None → head m ≡ Some t → one_plain bodies m ≡ after_quiet bodies t m
  one_is t m alive first = ap (λ (k : Option ℕ). plain_unless_killed bodies k m) alive ∙ ap (λ (o : Option ℕ). charged_head bodies o m) first

  first_of : (a b c : Bool) → (a || b || c) ≡ false → a ≡ false
  first_of a b c e = grind arith

  pub matters_of : (t : ℕ) (m : Machine P) → m.killed ≡ None → head m ≡ Some t → unless_ended bodies m.killed m ≡ false → tick_matters (has_high (thread_at m t).server) m.quantum (charge_of bodies (thread_at m t)) ≡ false
  matters_of t m alive first e = sym (ap (λ (k : Option ℕ). unless_ended bodies k m) alive ∙ ap (λ (o : Option ℕ). head_matters bodies o m) first) ∙ e

  pub record Begins (t : ℕ) (m : Machine P) : Type 0 where
    pub alive : m.killed ≡ None
    pub first : head m ≡ Some t
    pub here : t < length m.threads

  charged_begins : (t : ℕ) (m : Machine P) → Begins t m → Begins t (after_quiet bodies t m)
  charged_begins t m b = record {
    alive = b.alive;
    first = b.first;
    here = (let same = changed-length no_thread t (λ th. charge_of bodies (thread_at m t)) m.threads in let h = b.here in omega arith);
  }

  pub begins_on : (k t : ℕ) (m : Machine P) → Begins t m → Begins t (plain_charges bodies k m)
  begins_on zero t m b = b
  begins_on (suc k) t m b = let on = begins_on k t m b in subst (Begins t) (sym (one_is t (plain_charges bodies k m) on.alive on.first)) (charged_begins t (plain_charges bodies k m) on)

  -- after a charge that does not matter the head is in the midst of its unit
  in_midst : (t : ℕ) (m : Machine P) → Begins t m → unless_ended bodies m.killed m ≡ false → (in_unit bodies (thread_at (one_plain bodies m) t)).thread ≡ thread_at (one_plain bodies m) t
  in_midst t m b e =
      let left = left_over (has_high (thread_at m t).server) m.quantum (charge_of bodies (thread_at m t)) (matters_of t m b.alive b.first e) in
      let it : thread_at (one_plain bodies m) t ≡ charge_of bodies (thread_at m t) =
      ap (λ (n : Machine P). thread_at n t) (one_is t m b.alive b.first) ∙ thread-same m t (λ th. charge_of bodies (thread_at m t)) b.here in
      in_unit_on (thread_at (one_plain bodies m) t) left.0 (ap (λ (th : Thread P). top_left th.frames) it ∙ left.1)

  charged_on : (k t : ℕ) (m : Machine P) → t < length m.threads →
      record (with_thread t (λ th. tick_charged (thread_at (head_times k t m) t)) (head_times k t m)) { now = m.now + k + 1; last = last.Ran t } ≡ head_times (suc k) t m
  charged_on k t m here =
      let x = (in_unit bodies (thread_at m t)).thread in
      let mine : thread_at (head_times k t m) t ≡ charged_times k x = thread-same m t (λ th. charged_times k x) here in
      let more : m.now + k + 1 ≡ m.now + suc k = omega arith in
      ap (λ (th : Thread P). record (with_thread t (λ y. tick_charged th) (head_times k t m)) { now = m.now + k + 1; last = last.Ran t }) mine
      ∙ ap (λ (ths : List (Thread P)). record m { threads = ths; now = m.now + k + 1; last = last.Ran t }) (changed-twice no_thread t (λ y. charged_times k x) (λ y. tick_charged (charged_times k x)) m.threads)
      ∙ ap (λ (n : ℕ). record m { threads = changed_at no_thread t (λ y. charged_times (suc k) x) m.threads; now = n; last = last.Ran t }) more

  charges_are : (k t : ℕ) (m : Machine P) → Begins t m → ((i : ℕ) → i < k → unless_ended bodies (plain_charges bodies i m).killed (plain_charges bodies i m) ≡ false) → plain_charges bodies (suc k) m ≡ head_times (suc k) t m
  charges_are zero t m b h = one_is t m b.alive b.first
  charges_are (suc k) t m b h =
      let on = begins_on (suc k) t m b in
      let at = plain_charges bodies (suc k) m in
      let before = charges_are k t m b (λ i small. h i (omega arith)) in
      let midst = in_midst t (plain_charges bodies k m) (begins_on k t m b) (h k (omega arith)) in
      one_is t at on.alive on.first
      ∙ ap (λ (th : Thread P). record (with_thread t (λ y. tick_charged th) at) { now = at.now + 1; last = last.Ran t }) midst
      ∙ ap (λ (n : Machine P). record (with_thread t (λ y. tick_charged (thread_at n t)) n) { now = n.now + 1; last = last.Ran t }) before
      ∙ charged_on (suc k) t m b.here

  -- ---- the server

  one_high : (s : ServerState) → (has_high (Some s) && capacity_in (Some (charged s)) == 0) ≡ false → is_high s ≡ true → is_high (charge s) ≡ true
  one_high s e h = less_high 1 s h (rw h at e)

  last_of : (a b c : Bool) → (a || b || c) ≡ false → c ≡ false
  last_of a b c e = grind arith

  abbrev pub unit_of : ℕ → Machine P → Thread P
  unit_of t m = (in_unit bodies (thread_at m t)).thread

  server_at : (k t : ℕ) (m : Machine P) → Begins t m → ((i : ℕ) → i < k → unless_ended bodies (plain_charges bodies i m).killed (plain_charges bodies i m) ≡ false) → StaysHigh k (unit_of t m).server →
      (thread_at (plain_charges bodies k m) t).server ≡ option_map (server_after k) (unit_of t m).server
  server_at zero t m b h high = sym (no_server (unit_of t m).server ∙ ap (λ (p : Plans). p.server) (in_unit_plans bodies (thread_at m t)))
  server_at (suc k) t m b h high =
      ap (λ (n : Machine P). (thread_at n t).server) (charges_are k t m b (λ i small. h i (omega arith)))
      ∙ ap (λ (th : Thread P). th.server) (thread-same m t (λ th. charged_times (suc k) (unit_of t m)) b.here ∙ charged_is (suc k) (unit_of t m) high)

  -- where the charge of such a server does not matter
  next_high : (k t : ℕ) (m : Machine P) (s : ServerState) → Begins t m → ((i : ℕ) → i < suc k → unless_ended bodies (plain_charges bodies i m).killed (plain_charges bodies i m) ≡ false) → StaysHigh (suc k) (unit_of t m).server →
      (unit_of t m).server ≡ Some s → is_high s ≡ true → is_high (charge_ticks k s) ≡ true → is_high (charge_ticks (suc k) s) ≡ true
  next_high k t m s b h high it e now =
      let at = plain_charges bodies k m in
      let on = begins_on k t m b in
      let server : (thread_at at t).server ≡ Some (charge_ticks k s) =
      server_at k t m b (λ i small. h i (omega arith)) (fewer_high k (unit_of t m).server high) ∙ ap (option_map (server_after k)) it ∙ ap (λ (b : Bool). Some (if b then charge_ticks k s else s)) e in
      let inside : (unit_of t at).server ≡ Some (charge_ticks k s) = ap (λ (p : Plans). p.server) (in_unit_plans bodies (thread_at at t)) ∙ server in
      let matters = last_of (top_left (charge_of bodies (thread_at at t)).frames == 0) (slice_is_used (charge_of bodies (thread_at at t)).policy (charge_of bodies (thread_at at t)).slice at.quantum)
      (has_high (thread_at at t).server && capacity_in (charge_of bodies (thread_at at t)).server == 0) (matters_of t at on.alive on.first (h k (omega arith))) in
      one_high (charge_ticks k s) (spent (thread_at at t).server (unit_of t at).server server inside matters) now
    where
      spent : (o p : Option ServerState) → o ≡ Some (charge_ticks k s) → p ≡ Some (charge_ticks k s) → (has_high o && capacity_in (option_map charged p) == 0) ≡ false → (has_high (Some (charge_ticks k s)) && capacity_in (Some (charged (charge_ticks k s))) == 0) ≡ false
      spent o p e f g = rw (e, f) at g

  of_server : (k : ℕ) (o : Option ServerState) → ((s : ServerState) → o ≡ Some s → is_high s ≡ true → (i : ℕ) → i < k → is_high (charge_ticks i s) ≡ true) → StaysHigh k o
  of_server k None h = tt
  of_server k (Some s) h = h s refl

  at_server : (k : ℕ) (o : Option ServerState) → StaysHigh k o → (s : ServerState) → o ≡ Some s → is_high s ≡ true → (i : ℕ) → i < k → is_high (charge_ticks i s) ≡ true
  at_server k o h s e = subst (StaysHigh k) e h

  pub stays_high : (k t : ℕ) (m : Machine P) → Begins t m → ((i : ℕ) → i < k → unless_ended bodies (plain_charges bodies i m).killed (plain_charges bodies i m) ≡ false) → StaysHigh (suc k) (unit_of t m).server
  stays_high zero t m b h = of_server 1 (unit_of t m).server (λ s it e i small. (let none : i ≡ 0 = omega arith in subst (λ (n : ℕ). is_high (charge_ticks n s) ≡ true) (sym none) e))
  stays_high (suc k) t m b h =
      let before : StaysHigh (suc k) (unit_of t m).server = stays_high k t m b (λ i small. h i (omega arith)) in
      of_server (suc (suc k)) (unit_of t m).server (λ s it e i small. by_last before s it e i small (i == suc k) refl)
    where
      by_last : StaysHigh (suc k) (unit_of t m).server → (s : ServerState) → (unit_of t m).server ≡ Some s → is_high s ≡ true → (i : ℕ) → i < suc (suc k) → (c : Bool) → (i == suc k) ≡ c → is_high (charge_ticks i s) ≡ true
      by_last before s it e i small true same =
          let last' : i ≡ suc k = grind arith in
          subst (λ (n : ℕ). is_high (charge_ticks n s) ≡ true) (sym last') (next_high k t m s b h before it e (at_server (suc k) (unit_of t m).server before s it e k (omega arith)))
      by_last before s it e i small false other =
          let less : i < suc k = (let apart : i ≡ suc k → ⊥ = λ q. absurd (grind arith) in omega (arith, apart)) in at_server (suc k) (unit_of t m).server before s it e i less

  -- k ticks that do not matter, and one that may, of a head
  pub charges_once : (k t : ℕ) (m : Machine P) → Begins t m → ((i : ℕ) → i < k → unless_ended bodies (plain_charges bodies i m).killed (plain_charges bodies i m) ≡ false) → plain_charges bodies (suc k) m ≡ head_after bodies (suc k) t m
  charges_once k t m b h =
      charges_are k t m b h
      ∙ ap (λ (th : Thread P). record (with_thread t (λ y. th) m) { now = m.now + suc k; last = last.Ran t }) (charged_is (suc k) (unit_of t m) (stays_high k t m b h))

  -- ---- an idle processor

  pub idle_once : (k : ℕ) (m : Machine P) → m.killed ≡ None → head m ≡ None → plain_charges bodies (suc k) m ≡ record m { now = m.now + suc k; last = last.Idle }
  idle_once zero m alive none = idle_is m alive none
    where
      idle_is : (m : Machine P) → m.killed ≡ None → head m ≡ None → one_plain bodies m ≡ record m { now = m.now + 1; last = last.Idle }
      idle_is m alive none = ap (λ (k : Option ℕ). plain_unless_killed bodies k m) alive ∙ ap (λ (o : Option ℕ). charged_head bodies o m) none
  idle_once (suc k) m alive none =
      let on : Machine P = record m { now = m.now + suc k; last = last.Idle } in
      let more : m.now + suc k + 1 ≡ m.now + suc (suc k) = omega arith in
      ap (one_plain bodies) (idle_once k m alive none)
      ∙ (ap (λ (k : Option ℕ). plain_unless_killed bodies k on) alive ∙ ap (λ (o : Option ℕ). charged_head bodies o on) none)
      ∙ ap (λ (n : ℕ). record m { now = n; last = last.Idle }) more
