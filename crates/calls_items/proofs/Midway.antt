-- A sweep in which some threads have been visited.
use Rattle.std.proofs.Common.{◌≡◌, ◌≤◌, ◌<◌, ◌+◌, ◌^◌, ◌∙◌, inl, inr, ℕ, zero, suc, Bool, true, false, List, [], ◌∷◌, ◌++◌, Option, ap, arith, length, length-append, refl, subst, sym}
use Rattle.std.specs.Prelude.{slice_index_or, ◌==◌, ◌||◌}
use Rattle.std.specs.List.{range_with_len}
use Rattle.std.proofs.lemmas.Bool.Decides.{eqb_tells}
use Rattle.parts_tracer.specs.declared.tracer.Tracer.{Tracer}
use Rattle.parts_tracer.specs.Tells.{Tells}
use Rattle.parts_tracer.proofs.Tells.{tells_nothing}
use Rattle.rules_bodies.specs.declared.cursor.Cursor.{Cursor}
use Rattle.rules_lists.specs.Threads.{stands_in}
use Rattle.rules_machine.specs.declared.signal.SigAction.{SigAction}
use Rattle.rules_machine.specs.declared.signal.SigAction.TheVariants as action
use Rattle.rules_machine.specs.Bodies.{Bodies}
use Rattle.rules_machine.specs.Delivery.{sweeps_all, sweeps_thread}
use Rattle.rules_machine.specs.Threads.{can_run, is_runnable, thread_at}
use Rattle.rules_machine.specs.Turns.{Turn}
use Rattle.rules_flat_code.specs.FlatBodies.{flat_bodies}
use Rattle.kernel_state.specs.Caught.{AreCaught, CatchesBy, CanVisit}
use Rattle.kernel_state.specs.Kernel.{Kernel, after, told, turn}
use Rattle.kernel_settling.proofs.StoodAgain.{HaveCome}
use Rattle.kernel_state.proofs.Turns.{then_state_in, then_told_in}
use Rattle.calls_items.proofs.Swept.{thread_behind}
use Rattle.calls_items.proofs.Visited.{Rises, Visits, visits}

-- ---- what holds midway

pub record Midway (before : Turn Cursor) (n : ℕ) (s : Turn Cursor) : Type 0 where
  pub few : length s.direct ≤ length before.direct + n
  pub others : (u : ℕ) → n ≤ u → thread_at s.machine u ≡ thread_at before.machine u
  pub many : length s.machine.threads ≡ length before.machine.threads
  pub actions : s.machine.actions ≡ before.machine.actions
  pub now : s.machine.now ≡ before.machine.now
  pub lists : s.machine.lists ≡ before.machine.lists
  pub come : HaveCome before.machine s.direct s.machine

not_both : {X : Type 0} (b : Bool) → b ≡ false → b ≡ true → X
not_both b off on = let a : true ≡ false = sym on ∙ off in absurd cc

pub midway_first : (before : Turn Cursor) → Midway before 0 before
midway_first before = record {
  few = omega arith;
  others = λ u le. refl;
  many = refl;
  actions = refl;
  now = refl;
  lists = refl;
  come = λ u off on. not_both (can_run before.machine u) off on;
}

still_in : (u t : ℕ) (us : List ℕ) → stands_in u us ≡ true → stands_in u (us ++ t ∷ []) ≡ true
still_in u t [] h = absurd cc
still_in u t (v ∷ us) h = by_test (v == u) (still_in u t us) h
  where
    by_test : (b : Bool) → (stands_in u us ≡ true → stands_in u (us ++ t ∷ []) ≡ true) → (b || stands_in u us) ≡ true → (b || stands_in u (us ++ t ∷ [])) ≡ true
    by_test true rest h = refl
    by_test false rest h = rest h

last_in : (t : ℕ) (us : List ℕ) → stands_in t (us ++ t ∷ []) ≡ true
last_in t [] = grind arith
last_in t (u ∷ us) = grind (arith, last_in t us)

module _ (before s x : Turn Cursor) (t : ℕ) (v : Visits t s x) where
  few_more : (n : ℕ) → length s.direct ≤ n → Rises t s x → length x.direct ≤ n + 1
  few_more n le (inl (same, back)) = let long = ap length same in omega (arith, le, long)
  few_more n le (inr moved) = let long = ap length moved ∙ length-append s.direct (t ∷ []) in omega (arith, le, long)

  in_more : (u : ℕ) → stands_in u s.direct ≡ true → Rises t s x → stands_in u x.direct ≡ true
  in_more u h (inl (same, back)) = ap (stands_in u) same ∙ h
  in_more u h (inr moved) = ap (stands_in u) moved ∙ still_in u t s.direct h

  itself_comes : can_run s.machine t ≡ false → can_run x.machine t ≡ true → Rises t s x → stands_in t x.direct ≡ true
  itself_comes off on (inl (same, back)) = not_both (can_run s.machine t) off (back on)
  itself_comes off on (inr moved) = ap (stands_in t) moved ∙ last_in t s.direct

  come_more : HaveCome before.machine s.direct s.machine → HaveCome before.machine x.direct x.machine
  come_more come u off on = by_runs (can_run s.machine u) refl
    where
      by_same : (b : Bool) → (t == u) ≡ b → can_run s.machine u ≡ false → stands_in u x.direct ≡ true
      by_same true e was =
          let it : t ≡ u = grind arith in
          subst (λ (w : ℕ). can_run s.machine w ≡ false → can_run x.machine w ≡ true → stands_in w x.direct ≡ true) it (λ a b. itself_comes a b v.rises) was on
      by_same false e was = not_both (can_run s.machine u) was (ap (λ (th : _). is_runnable th.status) (sym (v.only.others u e)) ∙ on)

      by_runs : (b : Bool) → can_run s.machine u ≡ b → stands_in u x.direct ≡ true
      by_runs true was = in_more u (come u off was) v.rises
      by_runs false was = by_same (t == u) refl was

pub midway_next : (before s x : Turn Cursor) (n : ℕ) → Visits n s x → Midway before n s → Midway before (n + 1) x
midway_next before s x n v m = record {
  few = (let grown = few_more before s x n v (length before.direct + n) m.few v.rises in omega (arith, grown));
  others = λ u le. v.only.others u (apart u le) ∙ m.others u (omega arith);
  many = v.only.many ∙ m.many;
  actions = v.only.actions ∙ m.actions;
  now = v.only.now ∙ m.now;
  lists = v.only.lists ∙ m.lists;
  come = come_more before s x n v m.come;
}
  where
    apart : (u : ℕ) → n + 1 ≤ u → (n == u) ≡ false
    apart u le = elim (eqb_tells n u) [
      | inl same ↦ absurd (let e = same.1 in omega (arith, le, e))
      | inr other ↦ other.0
    ]

-- ---- the visits of the first threads

abbrev pub first_visits : ℕ → Bodies Cursor → Turn Cursor → Turn Cursor
first_visits n bodies s = sweeps_all bodies (range_with_len 0 n) s

abbrev pub one_visit : ℕ → Bodies Cursor → Turn Cursor → Turn Cursor
one_visit t bodies s = sweeps_thread bodies s.machine.killed t s

range_more : (a n : ℕ) → range_with_len a (n + 1) ≡ range_with_len a n ++ (a + n) ∷ []
range_more a zero = let e : a ≡ a + 0 = omega arith in ap (λ (j : ℕ). j ∷ []) e
range_more a (suc n) =
    let one : suc n + 1 ≡ suc (n + 1) = omega arith in
    let e : (a + 1) + n ≡ a + suc n = omega arith in
    ap (range_with_len a) one ∙ ap (λ (ns : List ℕ). a ∷ ns) (range_more (a + 1) n) ∙ ap (λ (j : ℕ). (a ∷ range_with_len (a + 1) n) ++ j ∷ []) e

all_then : (bodies : Bodies Cursor) (us : List ℕ) (t : ℕ) (s : Turn Cursor) → sweeps_all bodies (us ++ t ∷ []) s ≡ one_visit t bodies (sweeps_all bodies us s)
all_then bodies [] t s = refl
all_then bodies (u ∷ us) t s = all_then bodies us t (sweeps_thread bodies s.machine.killed u s)

visits_more : (bodies : Bodies Cursor) (n : ℕ) (s : Turn Cursor) → first_visits (n + 1) bodies s ≡ one_visit n bodies (first_visits n bodies s)
visits_more bodies n s =
    let e : 0 + n ≡ n = omega arith in
    ap (λ (ns : List ℕ). sweeps_all bodies ns s) (range_more 0 n ∙ ap (λ (j : ℕ). range_with_len 0 n ++ j ∷ []) e) ∙ all_then bodies (range_with_len 0 n) n s

pub midway : (bodies : Bodies Cursor) (n : ℕ) (s : Turn Cursor) → Midway s n (first_visits n bodies s)
midway bodies zero s = midway_first s
midway bodies (suc n) s =
    let x = first_visits n bodies s in
    let more : n + 1 ≡ suc n = omega arith in
    let next : Midway s (n + 1) (one_visit n bodies x) = midway_next s x (one_visit n bodies x) n (visits bodies x.machine.killed n x) (midway bodies n s) in
    let is : first_visits (n + 1) bodies s ≡ one_visit n bodies x = visits_more bodies n s in
    subst (λ (j : ℕ). Midway s j (first_visits j bodies s)) more (subst (Midway s (n + 1)) (sym is) next)

-- ---- and what they told

pub record Visited {K : Type 0} (text : K → Option (List ℕ)) (faults : K → ℕ) (start k : Kernel) (n : ℕ) (a b : Tracer K) : Type 0 where
  pub state : k ≡ after (first_visits n (flat_bodies start.code)) start
  pub told : Tells text faults start.names a b (told (first_visits n (flat_bodies start.code)) start)

module _ {K : Type 0} (text : K → Option (List ℕ)) (faults : K → ℕ) where
  pub none_visited : (start : Kernel) (a : Tracer K) → Visited text faults start start 0 a a
  none_visited start a = record { state = refl; told = tells_nothing text faults start.names a }

  pub one_visited : (start k l : Kernel) (n : ℕ) (a b d : Tracer K) → Visited text faults start k n a b → l ≡ after (one_visit n (flat_bodies k.code)) k →
      Tells text faults k.names b d (told (one_visit n (flat_bodies k.code)) k) → Visited text faults start l (n + 1) a d
  one_visited start k l n a b d so state tells =
      let bodies = flat_bodies start.code in
      let is : first_visits (n + 1) bodies (turn start) ≡ one_visit n bodies (first_visits n bodies (turn start)) = visits_more bodies n (turn start) in
      record {
        state = then_state_in (first_visits n) (one_visit n) start k l (λ b. thread_behind b n) so.state state ∙ sym (ap (λ (s : Turn Cursor). record start { machine = s.machine; direct = s.direct }) is);
        told = subst (λ (s : Turn Cursor). Tells text faults start.names a d s.events) (sym is)
            (then_told_in text faults (first_visits n) (one_visit n) start k a b d (λ b. thread_behind b n) so.state so.told tells);
      }

-- ---- so each visit may be made

module _ (start k : Kernel) (n : ℕ) (state : k ≡ after (first_visits n (flat_bodies start.code)) start) where
  mid : Midway (turn start) n (first_visits n (flat_bodies start.code) (turn start))
  mid = midway (flat_bodies start.code) n (turn start)

  pub caught_midway : AreCaught start → AreCaught k
  caught_midway caught = rw state (record { each = λ signal. subst (λ (actions : List SigAction). CatchesBy (length start.code.handlers) (slice_index_or actions signal action.Kill)) (sym mid.actions) (caught.each signal) })

  pub room_midway : start.direct ≡ [] → n < 256 → length k.direct < 256
  room_midway quiet lt =
      let few = mid.few in
      let none = ap length quiet in
      let same = ap (λ (x : Kernel). length x.direct) state in
      omega (arith, few, none, same)

  pub thread_midway : CanVisit (thread_at start.machine n) → CanVisit (thread_at k.machine n)
  thread_midway can = rw (state, mid.others n (omega arith)) can

  pub early_midway : start.machine.now ≤ 10 ^ 18 → k.machine.now ≤ 10 ^ 18
  early_midway early = rw (state, mid.now) early
