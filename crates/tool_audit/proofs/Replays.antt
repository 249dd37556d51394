-- The replay keeps what the rules count: after each tick, and after each line.
use Rattle.std.proofs.Common.{Bool, List, None, Option, Some, [], ap, add-one, arith, false, length, max, refl, suc, sym, true, zero, ℕ, ◌+◌, ◌≤◌, ◌∷◌, ◌++◌, ◌≡◌, ◌∙◌}
use Rattle.std.specs.Prelude.{map, not, nat_le, nat_lt, ◌-◌, ◌==◌, ◌&&◌, ◌||◌}
use Rattle.std.specs.List.{list_any, sum}
use Rattle.std.proofs.lemmas.List.Sums.{sum_by-append}
use Rattle.std.proofs.lemmas.List.{length-drop}
use Rattle.tool_audit.specs.Server.{Limits}
use Rattle.tool_audit.specs.Marks.{Mark, Saying, begins, is_given, is_taken, is_activated, exhausts, is_planned, is_refilled, exits, nothing}
use Rattle.tool_audit.specs.Ticks.{amount_planned, amount_refilled, counted_if, has_at, in_all, one_plan, one_refill, up_to}
use Rattle.tool_audit.specs.Rules.{Planned, active_since, has_exited, has_room, has_started, open_plans, planned_at, plans_of}
use Rattle.tool_audit.specs.Replay.{Account, Activation, advanced, next_is_high, opened, room, tick, ticks}
use Rattle.tool_audit.proofs.Counts.{AllBy, by_later, free_before, free_ends, free_leaves, free_one_owes, free_owes, free_ran, free_was, has_all, has_is_all, none_settles, up_is_all}

-- ---- plans

and_true : (a : Bool) → (a && true) ≡ a
and_true a = grind arith

or_false : (a : Bool) → (a || false) ≡ a
or_false a = grind arith

none_more : {X : Type 0} (xs : List X) → xs ++ [] ≡ xs
none_more [] = refl
none_more (x ∷ xs) = ap (λ ys. x ∷ ys) (none_more xs)

abbrev plan_list : Option Planned → List Planned
plan_list None = []
plan_list (Some p) = p ∷ []

pub plans_more : (ms : List Mark) (m : Mark) → plans_of (ms ++ m ∷ []) ≡ plans_of ms ++ plan_list (planned_at m.time m.saying)
plans_more [] m = by_plan (planned_at m.time m.saying) refl
  where
    by_plan : (o : Option Planned) → planned_at m.time m.saying ≡ o → plans_of (m ∷ []) ≡ plan_list o
    by_plan None e = rw e refl
    by_plan (Some p) e = rw e refl
plans_more (n ∷ ms) m = by_plan (planned_at n.time n.saying) refl (plans_more ms m)
  where
    by_plan : (o : Option Planned) → planned_at n.time n.saying ≡ o → plans_of (ms ++ m ∷ []) ≡ plans_of ms ++ plan_list (planned_at m.time m.saying) → plans_of (n ∷ ms ++ m ∷ []) ≡ plans_of (n ∷ ms) ++ plan_list (planned_at m.time m.saying)
    by_plan None e rest = rw e rest
    by_plan (Some p) e rest = rw e (ap (λ ps. p ∷ ps) rest)

sum_first : (n : ℕ) (ns : List ℕ) → sum (n ∷ ns) ≡ n + sum ns
sum_first n ns = let all = sum_by-append (λ (x : ℕ). x) (n ∷ []) ns in omega arith

all_first : (count : Saying → ℕ) (m : Mark) (ms : List Mark) → in_all count (m ∷ ms) ≡ count m.saying + in_all count ms
all_first count m ms = sum_first (count m.saying) (map (λ (x : Mark). count x.saying) ms)

pub plans_length : (ms : List Mark) → length (plans_of ms) ≡ in_all one_plan ms
plans_length [] = refl
plans_length (m ∷ ms) = by_saying m.saying refl (plans_length ms)
  where
    none : (w : Saying) → m.saying ≡ w → planned_at m.time w ≡ None → one_plan w ≡ 0 → length (plans_of ms) ≡ in_all one_plan ms → length (plans_of (m ∷ ms)) ≡ in_all one_plan (m ∷ ms)
    none w e p q rest =
        let same : planned_at m.time m.saying ≡ None = ap (planned_at m.time) e ∙ p in
        let zero' : one_plan m.saying ≡ 0 = ap one_plan e ∙ q in
        rw same (rw zero' (omega (arith, rest)))

    by_saying : (w : Saying) → m.saying ≡ w → length (plans_of ms) ≡ in_all one_plan ms → length (plans_of (m ∷ ms)) ≡ in_all one_plan (m ∷ ms)
    by_saying (is_planned amount due) e rest =
        let so : planned_at m.time m.saying ≡ Some (record { amount = amount; from = max due m.time }) = ap (planned_at m.time) e in
        let one : in_all one_plan (m ∷ ms) ≡ 1 + in_all one_plan ms = all_first one_plan m ms ∙ ap (λ (w : Saying). one_plan w + in_all one_plan ms) e in
        let more : suc (in_all one_plan ms) ≡ in_all one_plan (m ∷ ms) = omega arith in
        rw so (ap suc rest ∙ more)
    by_saying begins e rest = none begins e refl refl rest
    by_saying is_given e rest = none is_given e refl refl rest
    by_saying is_taken e rest = none is_taken e refl refl rest
    by_saying (is_activated c) e rest = none (is_activated c) e refl refl rest
    by_saying exhausts e rest = none exhausts e refl refl rest
    by_saying (is_refilled n c) e rest = none (is_refilled n c) e refl refl rest
    by_saying exits e rest = none exits e refl refl rest
    by_saying nothing e rest = none nothing e refl refl rest

-- ---- what the replay keeps

module _ (s : Limits) where
  abbrev pub IsActive : List Mark → ℕ → Option Activation → Option ℕ → Type 0
  IsActive ms now None None = Unit {0}
  IsActive ms now None (Some at) = ⊥
  IsActive ms now (Some x) None = ⊥
  IsActive ms now (Some x) (Some at) = (x.time ≡ at) × (at ≤ now) × (x.high ≡ free_before s ms at)

  pub record Counts (ms : List Mark) (b : Account) : Type 0 where
    pub top : AllBy b.now ms
    pub started : b.started ≡ has_started ms
    pub exited : b.exited ≡ has_exited ms
    pub has : b.has ≡ has_all false ms
    pub ran : b.ran ≡ free_ran ms b.now
    pub high : b.high ≡ free_before s ms b.now
    pub refilled : b.refilled ≡ in_all amount_refilled ms
    pub planned : b.planned ≡ in_all amount_planned ms
    pub ahead : b.ahead ≡ open_plans ms
    pub fewer : in_all one_refill ms ≤ in_all one_plan ms
    pub active : IsActive ms b.now b.active (active_since None ms)
    pub fresh : b.fresh ≡ free_ends s ms b.now
    pub owes : b.owes ≡ free_owes s ms b.now
    pub unpaid : b.unpaid ≡ free_one_owes s ms (b.now - 1)
    pub late : b.late ≡ (not b.exited && list_any (λ (p : Planned). nat_lt p.from b.now) b.ahead)

  pub opened_counts : Counts [] opened
  opened_counts = record {
    top = tt;
    started = refl;
    exited = refl;
    has = refl;
    ran = refl;
    high = refl;
    refilled = refl;
    planned = refl;
    ahead = refl;
    fewer = omega arith;
    active = tt;
    fresh = refl;
    owes = refl;
    unpaid = refl;
    late = refl;
  }

  same_test : (p q : Bool) → (p ≡ true → q ≡ true) → (q ≡ true → p ≡ true) → p ≡ q
  same_test true q f g = sym (f refl)
  same_test false true f g = g refl
  same_test false false f g = refl

  pub room_is : (ms : List Mark) (b : Account) → Counts ms b → room s b ≡ has_room s ms
  room_is ms b h =
      let long : length b.ahead ≡ length (plans_of ms) - in_all one_refill ms = ap length h.ahead ∙ length-drop (in_all one_refill ms) (plans_of ms) in
      let plans = plans_length ms in
      let fewer = h.fewer in
      same_test (nat_lt (length b.ahead) s.max) (nat_lt (in_all one_plan ms) (s.max + in_all one_refill ms)) (λ e. grind arith) (λ e. grind arith)

  -- ---- a tick

  -- the next tick is high in the replay where it is so over the lines
  next_is : (ms : List Mark) (b : Account) → Counts ms b → next_is_high s b ≡ free_was s ms b.now
  next_is ms b h =
      let given : b.has ≡ has_at b.now false ms = h.has ∙ sym (has_is_all b.now false ms h.top) in
      let refilled : b.refilled ≡ up_to b.now amount_refilled ms = h.refilled ∙ sym (up_is_all b.now amount_refilled ms h.top) in
      let left : nat_lt b.high (s.budget + b.refilled) ≡ nat_lt (free_before s ms b.now) (s.budget + up_to b.now amount_refilled ms) = same_left h.high refilled in
      let room' : room s b ≡ nat_lt (up_to b.now one_plan ms) (s.max + up_to b.now one_refill ms) =
      room_is ms b h ∙ same_room (sym (up_is_all b.now one_plan ms h.top)) (sym (up_is_all b.now one_refill ms h.top)) in
      same_and given left room'
    where
      same_left : {h k x y : ℕ} → h ≡ k → x ≡ y → nat_lt h (s.budget + x) ≡ nat_lt k (s.budget + y)
      same_left p q = cc

      same_room : {h k x y : ℕ} → h ≡ k → x ≡ y → nat_lt h (s.max + x) ≡ nat_lt k (s.max + y)
      same_room p q = cc

      same_and : {p q r x y z : Bool} → p ≡ x → q ≡ y → r ≡ z → (p && (q && r)) ≡ (x && (y && z))
      same_and e f g = cc

  counted : (w : Bool) (h r : ℕ) → (w && h + 1 == r) ≡ (w && (h + counted_if w 1 == r && not false))
  counted true h r = sym (and_true (h + 1 == r))
  counted false h r = refl

  one_now : (ms : List Mark) (n : ℕ) → (free_one_owes s ms (n - 1) || free_owes s ms n) ≡ free_one_owes s ms n
  one_now ms zero = refl
  one_now ms (suc n) = let back : suc n - 1 ≡ n = omega arith in ap (λ (k : ℕ). free_one_owes s ms k || free_leaves s ms n) back

  pub from_later : (now : ℕ) (ps : List Planned) → list_any (λ (p : Planned). nat_le p.from now) ps ≡ list_any (λ (p : Planned). nat_lt p.from (now + 1)) ps
  from_later now [] = refl
  from_later now (p ∷ ps) =
      let same : nat_le p.from now ≡ nat_lt p.from (now + 1) = same_test (nat_le p.from now) (nat_lt p.from (now + 1)) (λ e. grind arith) (λ e. grind arith) in
      ap (λ (b : Bool). b || list_any (λ (p : Planned). nat_le p.from now) ps) same ∙ ap (λ (b : Bool). nat_lt p.from (now + 1) || b) (from_later now ps)

  pub from_grows : (now : ℕ) (ps : List Planned) → list_any (λ (p : Planned). nat_lt p.from now) ps ≡ true → list_any (λ (p : Planned). nat_le p.from now) ps ≡ true
  from_grows now [] e = absurd (grind arith)
  from_grows now (p ∷ ps) e = by_first (nat_lt p.from now) refl e (from_grows now ps)
    where
      by_first : (c : Bool) → nat_lt p.from now ≡ c → (c || list_any (λ (p : Planned). nat_lt p.from now) ps) ≡ true → (list_any (λ (p : Planned). nat_lt p.from now) ps ≡ true → list_any (λ (p : Planned). nat_le p.from now) ps ≡ true) → (nat_le p.from now || list_any (λ (p : Planned). nat_le p.from now) ps) ≡ true
      by_first true k f rest = let low : nat_le p.from now ≡ true = grind arith in ap (λ (b : Bool). b || list_any (λ (p : Planned). nat_le p.from now) ps) low
      by_first false k f rest = ap (λ (b : Bool). nat_le p.from now || b) (rest f) ∙ always (nat_le p.from now)
        where
          always : (b : Bool) → (b || true) ≡ true
          always b = grind arith

  pub absorbs : (e p q : Bool) → (p ≡ true → q ≡ true) → ((e && p) || (e && q)) ≡ (e && q)
  absorbs true true q f = sym (f refl)
  absorbs true false q f = refl
  absorbs false p q f = refl

  same_or : {a b c d : Bool} → a ≡ b → c ≡ d → (a || c) ≡ (b || d)
  same_or p q = cc

  same_sum : {a b : ℕ} {c d : Bool} → a ≡ b → c ≡ d → (a + counted_if c 1) ≡ (b + counted_if d 1)
  same_sum p q = cc

  active_later : (ms : List Mark) (n k : ℕ) (x : Option Activation) (o : Option ℕ) → n ≤ k → IsActive ms n x o → IsActive ms k x o
  active_later ms n k None None le h = tt
  active_later ms n k None (Some at) le h = absurd h
  active_later ms n k (Some x) None le h = absurd h
  active_later ms n k (Some x) (Some at) le h = (h.0, let old = h.1 in omega arith, h.2)

  pub ticked_counts : (ms : List Mark) (b : Account) → Counts ms b → Counts ms (tick s b)
  ticked_counts ms b h =
      let n = b.now in
      let next = next_is ms b h in
      let refilled : b.refilled ≡ up_to b.now amount_refilled ms = h.refilled ∙ sym (up_is_all b.now amount_refilled ms h.top) in
      let owes : (next_is_high s b && b.high + 1 == s.budget + b.refilled) ≡ free_leaves s ms b.now =
      same_owes next h.high refilled ∙ counted (free_was s ms b.now) (free_before s ms b.now) (s.budget + up_to b.now amount_refilled ms)
      ∙ ap (λ (c : Bool). free_was s ms b.now && (free_before s ms (suc b.now) == s.budget + up_to b.now amount_refilled ms && not c)) (sym (none_settles b.now ms h.top)) in
      let back : b.now + 1 - 1 ≡ b.now = omega arith in
      record {
        top = by_later b.now (b.now + 1) ms (omega arith) h.top;
        started = h.started;
        exited = h.exited;
        has = h.has;
        ran = same_sum h.ran (h.has ∙ sym (has_is_all b.now false ms h.top)) ∙ ap (free_ran ms) (sym (add-one b.now));
        high = same_sum h.high next ∙ ap (free_before s ms) (sym (add-one b.now));
        refilled = h.refilled;
        planned = h.planned;
        ahead = h.ahead;
        fewer = h.fewer;
        active = active_later ms b.now (b.now + 1) b.active (active_since None ms) (omega arith) h.active;
        fresh = next ∙ ap (free_ends s ms) (sym (add-one b.now));
        owes = owes ∙ ap (free_owes s ms) (sym (add-one b.now));
        unpaid = same_or h.unpaid h.owes ∙ one_now ms b.now ∙ ap (free_one_owes s ms) (sym back);
        late = ap (λ (c : Bool). c || (not b.exited && list_any (λ (p : Planned). nat_le p.from b.now) b.ahead)) h.late
            ∙ absorbs (not b.exited) (list_any (λ (p : Planned). nat_lt p.from b.now) b.ahead) (list_any (λ (p : Planned). nat_le p.from b.now) b.ahead) (from_grows b.now b.ahead)
            ∙ ap (λ (c : Bool). not b.exited && c) (from_later b.now b.ahead);
      }
    where
      same_owes : {a b : Bool} {h k x y : ℕ} → a ≡ b → h ≡ k → x ≡ y → (a && h + 1 == s.budget + x) ≡ (b && k + 1 == s.budget + y)
      same_owes p q r = cc

  pub all_ticked : (k : ℕ) (ms : List Mark) (b : Account) → Counts ms b → Counts ms (ticks s k b)
  all_ticked zero ms b h = h
  all_ticked (suc k) ms b h = ticked_counts ms (ticks s k b) (all_ticked k ms b h)

  pub advanced_counts : (time : ℕ) (ms : List Mark) (b : Account) → Counts ms b → Counts ms (advanced s time b)
  advanced_counts time ms b h = all_ticked (time - b.now) ms b h

  pub ticks_now : (k : ℕ) (b : Account) → (ticks s k b).now ≡ b.now + k
  ticks_now zero b = omega arith
  ticks_now (suc k) b = let old = ticks_now k b in omega arith

  pub advanced_now : (time : ℕ) (b : Account) → b.now ≤ time → (advanced s time b).now ≡ time
  advanced_now time b h = let at = ticks_now (time - b.now) b in omega arith
