-- The replay keeps what the rules count, after each line that breaks no rule; and it breaks the rule there that the lines break.
use Rattle.std.proofs.Common.{Bool, List, None, Option, Some, [], ap, arith, false, length, max, refl, suc, sym, true, zero, ℕ, ◌+◌, ◌≤◌, ◌∷◌, ◌++◌, ◌≡◌, ◌∙◌, subst}
use Rattle.std.specs.Prelude.{not, nat_le, nat_lt, ◌-◌, ◌==◌, ◌&&◌, ◌||◌, drop, slice_get}
use Rattle.std.specs.List.{list_any}
use Rattle.std.proofs.lemmas.List.{drop-drop, drop-append-le, length-drop}
use Rattle.tool_audit.specs.Server.{Limits}
use Rattle.tool_audit.specs.Marks.{Mark, Saying, begins, is_given, is_taken, is_activated, exhausts, is_planned, is_refilled, exits, nothing}
use Rattle.tool_audit.specs.Ticks.{amount_planned, amount_refilled, has_after, in_all, one_plan, one_refill}
use Rattle.tool_audit.specs.Rules.{Planned, active_after, active_since, if_broken, is_begin, is_exit, open_plans, planned_at, plans_of, settles}
use Rattle.tool_audit.specs.Replay.{Account, Activation, after_saying, broken_now, fits_activation, fits_exhaustion, fits_life, fits_oldest, fits_plan, fits_refill}
use Rattle.tool_audit.proofs.Counts.{AllBy, active_more, all_more, any_more, before_same, by_more, free_before, free_ends, free_one_owes, free_owes, free_ran, has_all_more, leaves_now, one_same, ran_same, was_same}
use Rattle.tool_audit.proofs.Replays.{Counts, IsActive, plans_length, plans_more}

or_none : (b : Bool) → (b || false) ≡ b
or_none b = grind arith

always : (b : Bool) → (b || true) ≡ true
always b = grind arith

and_true : (a : Bool) → (a && true) ≡ a
and_true a = grind arith

and_false : (a : Bool) → (a && false) ≡ false
and_false a = grind arith

plus_none : (n : ℕ) → n + 0 ≡ n
plus_none n = omega arith

none_more : {X : Type 0} (xs : List X) → xs ++ [] ≡ xs
none_more [] = refl
none_more (x ∷ xs) = ap (λ ys. x ∷ ys) (none_more xs)

-- ---- what a saying leaves

pub now_after : (b : Account) (w : Saying) → (after_saying b w).now ≡ b.now
now_after b begins = refl
now_after b is_given = refl
now_after b is_taken = refl
now_after b (is_activated c) = refl
now_after b exhausts = refl
now_after b (is_planned n d) = refl
now_after b (is_refilled n c) = refl
now_after b exits = refl
now_after b nothing = refl

started_after : (b : Account) (w : Saying) → (after_saying b w).started ≡ (b.started || is_begin w)
started_after b begins = sym (always b.started)
started_after b is_given = sym (or_none b.started)
started_after b is_taken = sym (or_none b.started)
started_after b (is_activated c) = sym (or_none b.started)
started_after b exhausts = sym (or_none b.started)
started_after b (is_planned n d) = sym (or_none b.started)
started_after b (is_refilled n c) = sym (or_none b.started)
started_after b exits = sym (or_none b.started)
started_after b nothing = sym (or_none b.started)

exited_after : (b : Account) (w : Saying) → (after_saying b w).exited ≡ (b.exited || is_exit w)
exited_after b begins = sym (or_none b.exited)
exited_after b is_given = sym (or_none b.exited)
exited_after b is_taken = sym (or_none b.exited)
exited_after b (is_activated c) = sym (or_none b.exited)
exited_after b exhausts = sym (or_none b.exited)
exited_after b (is_planned n d) = sym (or_none b.exited)
exited_after b (is_refilled n c) = sym (or_none b.exited)
exited_after b exits = sym (always b.exited)
exited_after b nothing = sym (or_none b.exited)

has_after' : (b : Account) (w : Saying) → (after_saying b w).has ≡ has_after w b.has
has_after' b begins = refl
has_after' b is_given = refl
has_after' b is_taken = refl
has_after' b (is_activated c) = refl
has_after' b exhausts = refl
has_after' b (is_planned n d) = refl
has_after' b (is_refilled n c) = refl
has_after' b exits = refl
has_after' b nothing = refl

-- what no saying changes
pub record Steady (b b' : Account) : Type 0 where
  pub ran : b'.ran ≡ b.ran
  pub high : b'.high ≡ b.high
  pub fresh : b'.fresh ≡ b.fresh
  pub unpaid : b'.unpaid ≡ b.unpaid
  pub late : b'.late ≡ b.late

steady : (b : Account) (w : Saying) → Steady b (after_saying b w)
steady b begins = record { ran = refl; high = refl; fresh = refl; unpaid = refl; late = refl }
steady b is_given = record { ran = refl; high = refl; fresh = refl; unpaid = refl; late = refl }
steady b is_taken = record { ran = refl; high = refl; fresh = refl; unpaid = refl; late = refl }
steady b (is_activated c) = record { ran = refl; high = refl; fresh = refl; unpaid = refl; late = refl }
steady b exhausts = record { ran = refl; high = refl; fresh = refl; unpaid = refl; late = refl }
steady b (is_planned n d) = record { ran = refl; high = refl; fresh = refl; unpaid = refl; late = refl }
steady b (is_refilled n c) = record { ran = refl; high = refl; fresh = refl; unpaid = refl; late = refl }
steady b exits = record { ran = refl; high = refl; fresh = refl; unpaid = refl; late = refl }
steady b nothing = record { ran = refl; high = refl; fresh = refl; unpaid = refl; late = refl }

refilled_after : (b : Account) (w : Saying) → (after_saying b w).refilled ≡ b.refilled + amount_refilled w
refilled_after b begins = sym (plus_none b.refilled)
refilled_after b is_given = sym (plus_none b.refilled)
refilled_after b is_taken = sym (plus_none b.refilled)
refilled_after b (is_activated c) = sym (plus_none b.refilled)
refilled_after b exhausts = sym (plus_none b.refilled)
refilled_after b (is_planned n d) = sym (plus_none b.refilled)
refilled_after b (is_refilled n c) = refl
refilled_after b exits = sym (plus_none b.refilled)
refilled_after b nothing = sym (plus_none b.refilled)

planned_after : (b : Account) (w : Saying) → (after_saying b w).planned ≡ b.planned + amount_planned w
planned_after b begins = sym (plus_none b.planned)
planned_after b is_given = sym (plus_none b.planned)
planned_after b is_taken = sym (plus_none b.planned)
planned_after b (is_activated c) = sym (plus_none b.planned)
planned_after b exhausts = sym (plus_none b.planned)
planned_after b (is_planned n d) = refl
planned_after b (is_refilled n c) = sym (plus_none b.planned)
planned_after b exits = sym (plus_none b.planned)
planned_after b nothing = sym (plus_none b.planned)

owes_after : (b : Account) (w : Saying) → (after_saying b w).owes ≡ (b.owes && not (settles w))
owes_after b begins = sym (and_true b.owes)
owes_after b is_given = sym (and_true b.owes)
owes_after b is_taken = sym (and_true b.owes)
owes_after b (is_activated c) = sym (and_true b.owes)
owes_after b exhausts = sym (and_true b.owes)
owes_after b (is_planned n d) = sym (and_false b.owes)
owes_after b (is_refilled n c) = sym (and_true b.owes)
owes_after b exits = sym (and_false b.owes)
owes_after b nothing = sym (and_true b.owes)

-- ---- the parts of a verdict

pub parts : (p q r u v : Bool) → if_broken p 1 (if_broken q 2 (if_broken r 3 (if_broken u 4 (if_broken v 5 None)))) ≡ None → (p ≡ true) × (q ≡ true) × (r ≡ true) × (u ≡ true) × (v ≡ true)
parts false q r u v e = absurd (grind arith)
parts true false r u v e = absurd (grind arith)
parts true true false u v e = absurd (grind arith)
parts true true true false v e = absurd (grind arith)
parts true true true true false e = absurd (grind arith)
parts true true true true true e = (refl, refl, refl, refl, refl)

module _ (s : Limits) where
  kept_late : (b : Account) (w : Saying) → broken_now s b w ≡ None → b.late ≡ false
  kept_late b w e = out (fits_refill s b w) b.late (parts (fits_life b w) (fits_plan s b w) (fits_refill s b w && not b.late) (fits_activation s b w) (fits_exhaustion s b w && not b.unpaid) e).2
    where
      out : (p q : Bool) → (p && not q) ≡ true → q ≡ false
      out p q k = grind arith

  -- a refill that breaks no rule is that of an open plan
  some_ahead : (b : Account) (amount capacity : ℕ) → broken_now s b (is_refilled amount capacity) ≡ None → 1 ≤ length b.ahead
  some_ahead b amount capacity e =
      by_list b.ahead refl
      (first (fits_oldest (slice_get b.ahead 0) b.now amount) (capacity + b.high == s.budget + b.refilled + amount && nat_le capacity s.budget) b.late
      (parts (fits_life b (is_refilled amount capacity)) true (fits_refill s b (is_refilled amount capacity) && not b.late) true (true && not b.unpaid) e).2)
    where
      first : (p q r : Bool) → ((p && q) && not r) ≡ true → p ≡ true
      first p q r k = grind arith

      by_list : (ps : List Planned) → b.ahead ≡ ps → fits_oldest (slice_get b.ahead 0) b.now amount ≡ true → 1 ≤ length b.ahead
      by_list [] k f = absurd (let g : false ≡ true = subst (λ (ps : List Planned). fits_oldest (slice_get ps 0) b.now amount ≡ true) k f in cc)
      by_list (p ∷ ps) k f = rw k (omega arith)

  module _ (ms : List Mark) (m : Mark) (b : Account) (h : Counts s ms b) (at : b.now ≡ m.time) (none : broken_now s b m.saying ≡ None) where
    fewer_than : in_all one_refill ms ≤ length (plans_of ms)
    fewer_than = let long = plans_length ms in let fewer = h.fewer in omega arith

    -- ---- the open plans

    open_same : (w : Saying) → one_refill w ≡ 0 → planned_at m.time w ≡ None → m.saying ≡ w → b.ahead ≡ open_plans (ms ++ m ∷ [])
    open_same w none' no_plan is =
        let refills : in_all one_refill (ms ++ m ∷ []) ≡ in_all one_refill ms = all_more one_refill ms m ∙ ap (λ (n : ℕ). in_all one_refill ms + n) (ap one_refill is ∙ none') ∙ plus_none (in_all one_refill ms) in
        let plans : plans_of (ms ++ m ∷ []) ≡ plans_of ms = plans_more ms m ∙ rw (is, no_plan) (none_more (plans_of ms)) in
        h.ahead ∙ sym (rw (refills, plans) refl)

    open_planned : (amount due : ℕ) → m.saying ≡ is_planned amount due → b.ahead ++ record { amount = amount; from = max due b.now } ∷ [] ≡ open_plans (ms ++ m ∷ [])
    open_planned amount due is =
        let refills : in_all one_refill (ms ++ m ∷ []) ≡ in_all one_refill ms = all_more one_refill ms m ∙ ap (λ (w : Saying). in_all one_refill ms + one_refill w) is ∙ plus_none (in_all one_refill ms) in
        let plans : plans_of (ms ++ m ∷ []) ≡ plans_of ms ++ record { amount = amount; from = max due m.time } ∷ [] = plans_more ms m ∙ rw is refl in
        let both : b.ahead ++ record { amount = amount; from = max due b.now } ∷ [] ≡ open_plans ms ++ record { amount = amount; from = max due m.time } ∷ [] = rw (h.ahead, at) refl in
        both ∙ sym (rw (refills, plans) (drop-append-le (in_all one_refill ms) (plans_of ms) (record { amount = amount; from = max due m.time } ∷ []) fewer_than))

    open_refilled : (amount capacity : ℕ) → m.saying ≡ is_refilled amount capacity → drop 1 b.ahead ≡ open_plans (ms ++ m ∷ [])
    open_refilled amount capacity is =
        let refills : in_all one_refill (ms ++ m ∷ []) ≡ in_all one_refill ms + 1 = all_more one_refill ms m ∙ ap (λ (w : Saying). in_all one_refill ms + one_refill w) is in
        let plans : plans_of (ms ++ m ∷ []) ≡ plans_of ms = plans_more ms m ∙ rw is (none_more (plans_of ms)) in
        ap (drop 1) h.ahead ∙ drop-drop 1 (in_all one_refill ms) (plans_of ms) ∙ sym (rw (refills, plans) refl)

    ahead_after : (w : Saying) → m.saying ≡ w → (after_saying b w).ahead ≡ open_plans (ms ++ m ∷ [])
    ahead_after (is_planned amount due) is = open_planned amount due is
    ahead_after (is_refilled amount capacity) is = open_refilled amount capacity is
    ahead_after begins is = open_same begins refl refl is
    ahead_after is_given is = open_same is_given refl refl is
    ahead_after is_taken is = open_same is_taken refl refl is
    ahead_after (is_activated c) is = open_same (is_activated c) refl refl is
    ahead_after exhausts is = open_same exhausts refl refl is
    ahead_after exits is = open_same exits refl refl is
    ahead_after nothing is = open_same nothing refl refl is

    fewer_after : (w : Saying) → m.saying ≡ w → in_all one_refill (ms ++ m ∷ []) ≤ in_all one_plan (ms ++ m ∷ [])
    fewer_after w is =
        let refills : in_all one_refill (ms ++ m ∷ []) ≡ in_all one_refill ms + one_refill w = all_more one_refill ms m ∙ ap (λ (w : Saying). in_all one_refill ms + one_refill w) is in
        let plans : in_all one_plan (ms ++ m ∷ []) ≡ in_all one_plan ms + one_plan w = all_more one_plan ms m ∙ ap (λ (w : Saying). in_all one_plan ms + one_plan w) is in
        let room : one_refill w ≤ length b.ahead = by_saying w is in
        let long : length b.ahead ≡ length (plans_of ms) - in_all one_refill ms = ap length h.ahead ∙ length-drop (in_all one_refill ms) (plans_of ms) in
        let all = plans_length ms in
        let fewer = h.fewer in
        omega arith
      where
        by_saying : (w : Saying) → m.saying ≡ w → one_refill w ≤ length b.ahead
        by_saying (is_refilled amount capacity) is = some_ahead b amount capacity (sym (ap (broken_now s b) is) ∙ none)
        by_saying begins is = omega arith
        by_saying is_given is = omega arith
        by_saying is_taken is = omega arith
        by_saying (is_activated c) is = omega arith
        by_saying exhausts is = omega arith
        by_saying (is_planned n d) is = omega arith
        by_saying exits is = omega arith
        by_saying nothing is = omega arith

    -- ---- the last activation

    active_stays : (x : Option Activation) (o : Option ℕ) → IsActive s ms b.now x o → IsActive s (ms ++ m ∷ []) b.now x o
    active_stays None None k = tt
    active_stays None (Some y) k = absurd k
    active_stays (Some x) None k = absurd k
    active_stays (Some x) (Some y) k = (k.0, k.1, k.2 ∙ sym (before_same s ms m y (let le = k.1 in omega arith)))

    active_as : (w : Saying) → m.saying ≡ w → IsActive s (ms ++ m ∷ []) b.now (after_saying b w).active (active_after m.time w (active_since None ms))
    active_as (is_activated c) is = (at, omega arith, h.high ∙ ap (free_before s ms) at ∙ sym (before_same s ms m m.time (omega arith)))
    active_as (is_planned n d) is = tt
    active_as begins is = active_stays b.active (active_since None ms) h.active
    active_as is_given is = active_stays b.active (active_since None ms) h.active
    active_as is_taken is = active_stays b.active (active_since None ms) h.active
    active_as exhausts is = active_stays b.active (active_since None ms) h.active
    active_as (is_refilled n c) is = active_stays b.active (active_since None ms) h.active
    active_as exits is = active_stays b.active (active_since None ms) h.active
    active_as nothing is = active_stays b.active (active_since None ms) h.active

    active_of : IsActive s (ms ++ m ∷ []) b.now (after_saying b m.saying).active (active_since None (ms ++ m ∷ []))
    active_of = subst (IsActive s (ms ++ m ∷ []) b.now (after_saying b m.saying).active) (sym (active_more None ms m)) (active_as m.saying refl)

    -- ---- what ended now

    ends_as : (n : ℕ) → n ≡ m.time → free_ends s (ms ++ m ∷ []) n ≡ free_ends s ms n
    ends_as zero e = refl
    ends_as (suc x) e = was_same s ms m x (omega arith)

    owes_as : (n : ℕ) → n ≡ m.time → b.owes ≡ free_owes s ms n → (b.owes && not (settles m.saying)) ≡ free_owes s (ms ++ m ∷ []) n
    owes_as zero e o = ap (λ (c : Bool). c && not (settles m.saying)) o
    owes_as (suc x) e o = ap (λ (c : Bool). c && not (settles m.saying)) o ∙ sym (leaves_now s ms m x e)

    one_as : (n : ℕ) → n ≡ m.time → free_one_owes s (ms ++ m ∷ []) (n - 1) ≡ free_one_owes s ms (n - 1)
    one_as zero e = refl
    one_as (suc x) e = one_same s ms m (suc x - 1) (omega arith)

    -- ---- no refill is missing

    none_late : (not b.exited && list_any (λ (p : Planned). nat_lt p.from b.now) b.ahead) ≡ false
    none_late = sym h.late ∙ kept_late b m.saying none

    rest_none : (p q : Bool) → (p && q) ≡ false → (r : Bool) → (q ≡ false → r ≡ false) → (p && r) ≡ false
    rest_none true q e r f = f e
    rest_none false q e r f = refl

    late_as : (w : Saying) → (not (after_saying b w).exited && list_any (λ (p : Planned). nat_lt p.from (after_saying b w).now) (after_saying b w).ahead) ≡ false
    late_as exits = refl
    late_as (is_planned amount due) =
        rest_none (not b.exited) (list_any (λ (p : Planned). nat_lt p.from b.now) b.ahead) none_late _
        (λ e. any_more (λ (p : Planned). nat_lt p.from b.now) b.ahead (record { amount = amount; from = max due b.now }) ∙ (let high : nat_lt (max due b.now) b.now ≡ false = not_below in rw (e, high) refl))
      where
        not_below : nat_lt (max due b.now) b.now ≡ false
        not_below = by_test (nat_lt (max due b.now) b.now) refl
          where
            by_test : (c : Bool) → nat_lt (max due b.now) b.now ≡ c → nat_lt (max due b.now) b.now ≡ false
            by_test true e = absurd (grind arith)
            by_test false e = e
    late_as (is_refilled amount capacity) = rest_none (not b.exited) (list_any (λ (p : Planned). nat_lt p.from b.now) b.ahead) none_late _ (any_dropped b.ahead)
      where
        any_dropped : (ps : List Planned) → list_any (λ (p : Planned). nat_lt p.from b.now) ps ≡ false → list_any (λ (p : Planned). nat_lt p.from b.now) (drop 1 ps) ≡ false
        any_dropped [] e = e
        any_dropped (p ∷ ps) e = second (nat_lt p.from b.now) (list_any (λ (p : Planned). nat_lt p.from b.now) ps) e
          where
            second : (c d : Bool) → (c || d) ≡ false → d ≡ false
            second c d k = grind arith
    late_as begins = none_late
    late_as is_given = none_late
    late_as is_taken = none_late
    late_as (is_activated c) = none_late
    late_as exhausts = none_late
    late_as nothing = none_late

    -- ---- all of it

    pub marked_counts : Counts s (ms ++ m ∷ []) (after_saying b m.saying)
    marked_counts =
        let w = m.saying in
        let same = steady b m.saying in
        let n = now_after b m.saying in
        record {
          top = subst (λ (k : ℕ). AllBy k (ms ++ m ∷ [])) (sym n) (by_more b.now ms m h.top (omega arith));
          started = started_after b m.saying ∙ ap (λ (c : Bool). c || is_begin m.saying) h.started ∙ sym (any_more (λ (x : Mark). is_begin x.saying) ms m);
          exited = exited_after b m.saying ∙ ap (λ (c : Bool). c || is_exit m.saying) h.exited ∙ sym (any_more (λ (x : Mark). is_exit x.saying) ms m);
          has = has_after' b m.saying ∙ ap (has_after m.saying) h.has ∙ sym (has_all_more false ms m);
          ran = same.ran ∙ h.ran ∙ sym (ran_same s ms m b.now (omega arith)) ∙ ap (free_ran (ms ++ m ∷ [])) (sym n);
          high = same.high ∙ h.high ∙ sym (before_same s ms m b.now (omega arith)) ∙ ap (free_before s (ms ++ m ∷ [])) (sym n);
          refilled = refilled_after b m.saying ∙ ap (λ (k : ℕ). k + amount_refilled m.saying) h.refilled ∙ sym (all_more amount_refilled ms m);
          planned = planned_after b m.saying ∙ ap (λ (k : ℕ). k + amount_planned m.saying) h.planned ∙ sym (all_more amount_planned ms m);
          ahead = ahead_after m.saying refl;
          fewer = fewer_after m.saying refl;
          active = subst (λ (k : ℕ). IsActive s (ms ++ m ∷ []) k (after_saying b m.saying).active (active_since None (ms ++ m ∷ []))) (sym n) active_of;
          fresh = same.fresh ∙ h.fresh ∙ sym (ends_as b.now at) ∙ ap (free_ends s (ms ++ m ∷ [])) (sym n);
          owes = owes_after b m.saying ∙ owes_as b.now at h.owes ∙ ap (free_owes s (ms ++ m ∷ [])) (sym n);
          unpaid = same.unpaid ∙ h.unpaid ∙ sym (one_as b.now at) ∙ ap (λ (k : ℕ). free_one_owes s (ms ++ m ∷ []) (k - 1)) (sym n);
          late = same.late ∙ kept_late b m.saying none ∙ sym (late_as m.saying);
        }
