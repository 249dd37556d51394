-- The law of the budget holds of the lines of every trace that breaks no rule.
use Rattle.std.proofs.Common.{Bool, List, None, Option, Some, [], ap, append_assoc, arith, false, length, max, refl, suc, sym, true, zero, ℕ, ◌+◌, ◌<◌, ◌≤◌, ◌∷◌, ◌++◌, ◌≡◌, ◌∙◌, subst}
use Rattle.std.specs.Prelude.{map, filter_map, not, nat_le, nat_lt, drop, slice_get, ◌-◌, ◌==◌, ◌&&◌}
use Rattle.std.specs.List.{sum}
use Rattle.std.proofs.lemmas.List.{length-append}
use Rattle.std.proofs.lemmas.List.Sums.{sum_by-append}
use Rattle.tool_audit.specs.Server.{Limits}
use Rattle.tool_audit.specs.Marks.{Mark, Saying, begins, is_given, is_taken, is_activated, exhausts, is_planned, is_refilled, exits, nothing}
use Rattle.tool_audit.specs.Ticks.{counted_if, high_before}
use Rattle.tool_audit.specs.Rules.{Planned, active_since, broken_by, has_room, is_plan_since, keeps_activation, keeps_exhaustion, keeps_life, keeps_plan, keeps_refill, misses_refill, open_plans, owes_plan, planned_at, plans_of}
use Rattle.tool_audit.specs.Replay.{Account, Activation, Rising, advanced, after_mark, after_saying, breaks, broken_now, fits_activation, fits_active, fits_life, fits_oldest, fits_plan, fits_refill, next_is_high, opened, room, tick, ticks}
use Rattle.tool_audit.specs.Law.{LawAt, LawHolds, PlanFits, refilled_at, refills_of}
use Rattle.tool_audit.proofs.Counts.{free_before, judged_before}
use Rattle.tool_audit.proofs.Replays.{Counts, advanced_counts, advanced_now, opened_counts}
use Rattle.tool_audit.proofs.Marked.{marked_counts, parts}
use Rattle.tool_audit.proofs.Judged.{NoneBreaks, breaks_same, marked}

-- ---- the account

sum_more : (ns ks : List ℕ) → sum (ns ++ ks) ≡ sum ns + sum ks
sum_more ns ks = let all = sum_by-append (λ (x : ℕ). x) ns ks in omega arith

map_both : {X Y : Type 0} (f : X → Y) (xs ys : List X) → map f (xs ++ ys) ≡ map f xs ++ map f ys
map_both f [] ys = refl
map_both f (x ∷ xs) ys = ap (λ zs. f x ∷ zs) (map_both f xs ys)

amounts_more : (ps : List Planned) (p : Planned) → sum (map (λ (p : Planned). p.amount) (ps ++ p ∷ [])) ≡ sum (map (λ (p : Planned). p.amount) ps) + p.amount
amounts_more ps p = ap sum (map_both (λ (p : Planned). p.amount) ps (p ∷ [])) ∙ (let all = sum_more (map (λ (p : Planned). p.amount) ps) (p.amount ∷ []) in omega arith)

amounts_first : (p : Planned) (ps : List Planned) → sum (map (λ (p : Planned). p.amount) (p ∷ ps)) ≡ p.amount + sum (map (λ (p : Planned). p.amount) ps)
amounts_first p ps = let all = sum_more (p.amount ∷ []) (map (λ (p : Planned). p.amount) ps) in omega arith

module _ (s : Limits) where
  pub record Lawful (b : Account) : Type 0 where
    pub within : b.high ≤ s.budget + b.refilled
    pub used : b.planned ≤ b.high
    pub active : (x : Activation) → b.active ≡ Some x → b.planned ≡ x.high
    pub pending : b.refilled + sum (map (λ (p : Planned). p.amount) b.ahead) ≡ b.planned
    pub few : length b.ahead ≤ s.max

  opened_lawful : Lawful opened
  opened_lawful = record { within = omega arith; used = omega arith; active = λ x e. absurd (grind arith); pending = refl; few = omega arith }

  ticked_lawful : (b : Account) → Lawful b → Lawful (tick s b)
  ticked_lawful b h = record {
    within = by_high (next_is_high s b) refl;
    used = let old = h.used in by_more (next_is_high s b);
    active = h.active;
    pending = h.pending;
    few = h.few;
  }
    where
      by_high : (c : Bool) → next_is_high s b ≡ c → b.high + counted_if (next_is_high s b) 1 ≤ s.budget + b.refilled
      by_high true e = let left : b.high < s.budget + b.refilled = room_left b.has (nat_lt b.high (s.budget + b.refilled)) (room s b) e refl in rw e (omega arith)
        where
          room_left : (p q r : Bool) → (p && (q && r)) ≡ true → nat_lt b.high (s.budget + b.refilled) ≡ q → b.high < s.budget + b.refilled
          room_left p q r k f = grind arith
      by_high false e = let old = h.within in rw e (omega arith)

      by_more : (c : Bool) → b.planned ≤ b.high + counted_if c 1
      by_more true = let old = h.used in omega arith
      by_more false = let old = h.used in omega arith

  all_lawful : (k : ℕ) (b : Account) → Lawful b → Lawful (ticks s k b)
  all_lawful zero b h = h
  all_lawful (suc k) b h = ticked_lawful (ticks s k b) (all_lawful k b h)

  -- a line that breaks no rule
  said_lawful : (b : Account) (w : Saying) → broken_now s b w ≡ None → Lawful b → Lawful (after_saying b w)
  said_lawful b begins e h = record { within = h.within; used = h.used; active = h.active; pending = h.pending; few = h.few }
  said_lawful b is_given e h = record { within = h.within; used = h.used; active = h.active; pending = h.pending; few = h.few }
  said_lawful b is_taken e h = record { within = h.within; used = h.used; active = h.active; pending = h.pending; few = h.few }
  said_lawful b exhausts e h = h
  said_lawful b nothing e h = h
  said_lawful b exits e h = record { within = h.within; used = h.used; active = h.active; pending = h.pending; few = h.few }
  said_lawful b (is_activated capacity) e h =
      let k = parts (fits_life b (is_activated capacity)) true (true && not b.late) (fits_activation s b (is_activated capacity)) (true && not b.unpaid) e in
      let same : b.planned ≡ b.high = last (capacity + b.high == s.budget + b.refilled) (nat_lt 0 capacity) (room s b) k.3 in
      record { within = h.within; used = h.used; active = λ x f. same ∙ ap (λ (y : Activation). y.high) (only f); pending = h.pending; few = h.few }
    where
      last : (p q r : Bool) → (p && (q && (r && b.planned == b.high))) ≡ true → b.planned ≡ b.high
      last p q r k = grind arith

      only : {x y : Activation} → Some x ≡ Some y → x ≡ y
      only {x} {y} f = ap out f
        where
          out : Option Activation → Activation
          out None = x
          out (Some z) = z
  said_lawful b (is_planned amount due) e h =
      let k = parts (fits_life b (is_planned amount due)) (fits_plan s b (is_planned amount due)) (true && not b.late) true (true && not b.unpaid) e in
      by_active b.active refl k.1
    where
      by_active : (o : Option Activation) → b.active ≡ o → (fits_active s b o amount due && room s b) ≡ true → Lawful (after_saying b (is_planned amount due))
      by_active None f k = absurd (grind arith)
      by_active (Some x) f k =
          let same = h.active x f in
          let facts = split (nat_le 1 amount) (amount + x.high == b.high) (due == x.time + s.period) k in
          let since : amount + x.high ≡ b.high = facts.0 in
          let more : length b.ahead < s.max = facts.1 in
          let pending = h.pending in
          let longer = length-append b.ahead (record { amount = amount; from = max due b.now } ∷ []) in
          let sums = amounts_more b.ahead (record { amount = amount; from = max due b.now }) in
          record { within = h.within; used = omega arith; active = λ y g. absurd (grind arith); pending = omega arith; few = omega arith }
        where
          split : (p q r : Bool) → ((p && (amount + x.high == b.high && r)) && room s b) ≡ true → (amount + x.high ≡ b.high) × (length b.ahead < s.max)
          split p q r k = (grind arith, grind arith)
  said_lawful b (is_refilled amount capacity) e h =
      let k = parts (fits_life b (is_refilled amount capacity)) true (fits_refill s b (is_refilled amount capacity) && not b.late) true (true && not b.unpaid) e in
      by_list b.ahead refl (first (fits_oldest (slice_get b.ahead 0) b.now amount) (capacity + b.high == s.budget + b.refilled + amount && nat_le capacity s.budget) b.late k.2)
    where
      first : (p q r : Bool) → ((p && q) && not r) ≡ true → p ≡ true
      first p q r k = grind arith

      by_list : (ps : List Planned) → b.ahead ≡ ps → fits_oldest (slice_get b.ahead 0) b.now amount ≡ true → Lawful (after_saying b (is_refilled amount capacity))
      by_list [] f k = absurd (let g : false ≡ true = subst (λ (qs : List Planned). fits_oldest (slice_get qs 0) b.now amount ≡ true) f k in cc)
      by_list (p ∷ ps) f k =
          let same : amount ≡ p.amount = one (amount == p.amount) (b.now == p.from) (subst (λ (qs : List Planned). fits_oldest (slice_get qs 0) b.now amount ≡ true) f k) refl in
          let sums = amounts_first p ps in
          let pending : b.refilled + sum (map (λ (p : Planned). p.amount) (p ∷ ps)) ≡ b.planned = subst (λ (qs : List Planned). b.refilled + sum (map (λ (p : Planned). p.amount) qs) ≡ b.planned) f h.pending in
          let few : length (p ∷ ps) ≤ s.max = subst (λ (qs : List Planned). length qs ≤ s.max) f h.few in
          let within = h.within in
          record {
            within = omega arith;
            used = h.used;
            active = h.active;
            pending = subst (λ (qs : List Planned). b.refilled + amount + sum (map (λ (p : Planned). p.amount) (drop 1 qs)) ≡ b.planned) (sym f) (omega arith);
            few = subst (λ (qs : List Planned). length (drop 1 qs) ≤ s.max) (sym f) (omega arith);
          }
        where
          one : (x y : Bool) → (x && y) ≡ true → (amount == p.amount) ≡ x → amount ≡ p.amount
          one x y k g = grind arith

  marked_lawful : (a : Account) (m : Mark) → breaks s a m ≡ None → Lawful a → Lawful (after_mark s a m)
  marked_lawful a m e h = said_lawful (advanced s m.time a) m.saying e (all_lawful (m.time - a.now) a h)

-- ---- refills and plans

abbrev plan_record : ℕ → ℕ → Planned
plan_record n k = record { amount = n; from = k }

abbrev listed : Option Planned → List Planned
listed None = []
listed (Some p) = p ∷ []

filtered_more : (f : Mark → Option Planned) (ms : List Mark) (m : Mark) → filter_map f (ms ++ m ∷ []) ≡ filter_map f ms ++ listed (f m)
filtered_more f [] m = by_one (f m) refl
  where
    by_one : (o : Option Planned) → f m ≡ o → filter_map f (m ∷ []) ≡ listed o
    by_one None e = rw e refl
    by_one (Some p) e = rw e refl
filtered_more f (n ∷ ms) m = by_one (f n) refl (filtered_more f ms m)
  where
    by_one : (o : Option Planned) → f n ≡ o → filter_map f (ms ++ m ∷ []) ≡ filter_map f ms ++ listed (f m) → filter_map f (n ∷ ms ++ m ∷ []) ≡ filter_map f (n ∷ ms) ++ listed (f m)
    by_one None e rest = rw e rest
    by_one (Some p) e rest = rw e (ap (λ ps. p ∷ ps) rest)

none_more : {X : Type 0} (xs : List X) → xs ++ [] ≡ xs
none_more [] = refl
none_more (x ∷ xs) = ap (λ ys. x ∷ ys) (none_more xs)

module _ (s : Limits) (ms : List Mark) (m : Mark) (b : Account) (h : Counts s ms b) (at : b.now ≡ m.time) (none : broken_now s b m.saying ≡ None) (old : refills_of ms ++ open_plans ms ≡ plans_of ms) where
  refills_with : (w : Saying) → m.saying ≡ w → refills_of (ms ++ m ∷ []) ≡ refills_of ms ++ listed (refilled_at m.time w)
  refills_with w e = filtered_more (λ (n : Mark). refilled_at n.time n.saying) ms m ∙ ap (λ (v : Saying). refills_of ms ++ listed (refilled_at m.time v)) e

  plans_with : (w : Saying) → m.saying ≡ w → plans_of (ms ++ m ∷ []) ≡ plans_of ms ++ listed (planned_at m.time w)
  plans_with w e = filtered_more (λ (n : Mark). planned_at n.time n.saying) ms m ∙ ap (λ (v : Saying). plans_of ms ++ listed (planned_at m.time v)) e

  ahead_with : (w : Saying) → m.saying ≡ w → open_plans (ms ++ m ∷ []) ≡ (after_saying b w).ahead
  ahead_with w e = sym (marked_counts s ms m b h at none).ahead ∙ ap (λ (v : Saying). (after_saying b v).ahead) e

  before' : refills_of ms ++ b.ahead ≡ plans_of ms
  before' = ap (λ ps. refills_of ms ++ ps) h.ahead ∙ old

  stays_in_order : (w : Saying) → m.saying ≡ w → refilled_at m.time w ≡ None → planned_at m.time w ≡ None → (after_saying b w).ahead ≡ b.ahead → refills_of (ms ++ m ∷ []) ++ open_plans (ms ++ m ∷ []) ≡ plans_of (ms ++ m ∷ [])
  stays_in_order w e no_refill no_plan same =
      let refills : refills_of (ms ++ m ∷ []) ≡ refills_of ms = refills_with w e ∙ ap (λ o. refills_of ms ++ listed o) no_refill ∙ none_more (refills_of ms) in
      let plans : plans_of (ms ++ m ∷ []) ≡ plans_of ms = plans_with w e ∙ ap (λ o. plans_of ms ++ listed o) no_plan ∙ none_more (plans_of ms) in
      let ahead : open_plans (ms ++ m ∷ []) ≡ b.ahead = ahead_with w e ∙ same in
      join refills ahead ∙ before' ∙ sym plans
    where
      join : {xs ys us vs : List Planned} → xs ≡ us → ys ≡ vs → (xs ++ ys) ≡ (us ++ vs)
      join p q = cc

  pub in_order_with : (w : Saying) → m.saying ≡ w → refills_of (ms ++ m ∷ []) ++ open_plans (ms ++ m ∷ []) ≡ plans_of (ms ++ m ∷ [])
  in_order_with begins e = stays_in_order begins e refl refl refl
  in_order_with is_given e = stays_in_order is_given e refl refl refl
  in_order_with is_taken e = stays_in_order is_taken e refl refl refl
  in_order_with (is_activated c) e = stays_in_order (is_activated c) e refl refl refl
  in_order_with exhausts e = stays_in_order exhausts e refl refl refl
  in_order_with exits e = stays_in_order exits e refl refl refl
  in_order_with nothing e = stays_in_order nothing e refl refl refl
  in_order_with (is_planned amount due) e =
      let w = is_planned amount due in
      let made : Planned = record { amount = amount; from = max due m.time } in
      let refills : refills_of (ms ++ m ∷ []) ≡ refills_of ms = refills_with (is_planned amount due) e ∙ none_more (refills_of ms) in
      let plans : plans_of (ms ++ m ∷ []) ≡ plans_of ms ++ record { amount = amount; from = max due m.time } ∷ [] = plans_with (is_planned amount due) e in
      let ahead : open_plans (ms ++ m ∷ []) ≡ b.ahead ++ record { amount = amount; from = max due m.time } ∷ [] = ahead_with (is_planned amount due) e ∙ ap (λ (n : ℕ). b.ahead ++ record { amount = amount; from = max due n } ∷ []) at in
      join refills ahead ∙ sym (append_assoc (refills_of ms) b.ahead (record { amount = amount; from = max due m.time } ∷ [])) ∙ ap (λ ps. ps ++ record { amount = amount; from = max due m.time } ∷ []) before' ∙ sym plans
    where
      join : {xs ys us vs : List Planned} → xs ≡ us → ys ≡ vs → (xs ++ ys) ≡ (us ++ vs)
      join p q = cc
  in_order_with (is_refilled amount capacity) e =
      let k = parts (fits_life b (is_refilled amount capacity)) true (fits_refill s b (is_refilled amount capacity) && not b.late) true (true && not b.unpaid) (sym (ap (broken_now s b) e) ∙ none) in
      by_list b.ahead refl (first (fits_oldest (slice_get b.ahead 0) b.now amount) (capacity + b.high == s.budget + b.refilled + amount && nat_le capacity s.budget) b.late k.2)
    where
      first : (p q r : Bool) → ((p && q) && not r) ≡ true → p ≡ true
      first p q r k = grind arith

      join : {xs ys us vs : List Planned} → xs ≡ us → ys ≡ vs → (xs ++ ys) ≡ (us ++ vs)
      join p q = cc

      by_list : (ps : List Planned) → b.ahead ≡ ps → fits_oldest (slice_get b.ahead 0) b.now amount ≡ true → refills_of (ms ++ m ∷ []) ++ open_plans (ms ++ m ∷ []) ≡ plans_of (ms ++ m ∷ [])
      by_list [] f k = absurd (let g : false ≡ true = subst (λ (qs : List Planned). fits_oldest (slice_get qs 0) b.now amount ≡ true) f k in cc)
      by_list (p ∷ ps) f k =
          let g : (amount == p.amount && b.now == p.from) ≡ true = subst (λ (qs : List Planned). fits_oldest (slice_get qs 0) b.now amount ≡ true) f k in
          let same = equal g in
          let it : record { amount = amount; from = m.time } ≡ p = made same.0 (sym at ∙ same.1) in
          let refills : refills_of (ms ++ m ∷ []) ≡ refills_of ms ++ p ∷ [] = refills_with (is_refilled amount capacity) e ∙ ap (λ (q : Planned). refills_of ms ++ q ∷ []) it in
          let plans : plans_of (ms ++ m ∷ []) ≡ plans_of ms = plans_with (is_refilled amount capacity) e ∙ none_more (plans_of ms) in
          let ahead : open_plans (ms ++ m ∷ []) ≡ ps = ahead_with (is_refilled amount capacity) e ∙ ap (drop 1) f in
          join refills ahead ∙ append_assoc (refills_of ms) (p ∷ []) ps ∙ sym (ap (λ qs. refills_of ms ++ qs) f) ∙ before' ∙ sym plans
        where
          equal : (amount == p.amount && b.now == p.from) ≡ true → (amount ≡ p.amount) × (b.now ≡ p.from)
          equal g = (grind arith, grind arith)

          made : {x y : ℕ} → x ≡ p.amount → y ≡ p.from → record { amount = x; from = y } ≡ p
          made {x} {y} u v = ap (λ (n : ℕ). plan_record n y) u ∙ ap (λ (n : ℕ). plan_record p.amount n) v

-- ---- at each line

plans_fit : (s : Limits) (ms : List Mark) (m : Mark) → broken_by s ms m ≡ None → PlanFits s ms (ms ++ m ∷ []) m.time m.saying
plans_fit s ms m none = by_saying m.saying refl
  where
    open_since : (amount due : ℕ) (o : Option ℕ) → active_since None ms ≡ o → is_plan_since s (ms ++ m ∷ []) m.time o amount due ≡ true → PlanFits s ms (ms ++ m ∷ []) m.time (is_planned amount due)
    open_since amount due None e k = absurd (grind arith)
    open_since amount due (Some x) e k = (x, e, first k, second k, third k)
      where
        first : (nat_le 1 amount && (amount + high_before s (ms ++ m ∷ []) x == high_before s (ms ++ m ∷ []) m.time && due == x + s.period)) ≡ true → 1 ≤ amount
        first k = grind arith

        second : (nat_le 1 amount && (amount + high_before s (ms ++ m ∷ []) x == high_before s (ms ++ m ∷ []) m.time && due == x + s.period)) ≡ true → amount + high_before s (ms ++ m ∷ []) x ≡ high_before s (ms ++ m ∷ []) m.time
        second k = grind arith

        third : (nat_le 1 amount && (amount + high_before s (ms ++ m ∷ []) x == high_before s (ms ++ m ∷ []) m.time && due == x + s.period)) ≡ true → due ≡ x + s.period
        third k = grind arith

    left : (p q : Bool) → (p && q) ≡ true → p ≡ true
    left p q e = grind arith

    by_saying : (w : Saying) → m.saying ≡ w → PlanFits s ms (ms ++ m ∷ []) m.time w
    by_saying (is_planned amount due) e =
        let k = parts (keeps_life ms m.saying) (keeps_plan s ms (ms ++ m ∷ []) m.time m.saying) (keeps_refill s ms (ms ++ m ∷ []) m.time m.saying && not (misses_refill ms m.time)) (keeps_activation s ms (ms ++ m ∷ []) m.time m.saying)
        (keeps_exhaustion s ms (ms ++ m ∷ []) m.time m.saying && not (owes_plan s ms (ms ++ m ∷ []) m.time)) none in
        let fits : (is_plan_since s (ms ++ m ∷ []) m.time (active_since None ms) amount due && has_room s ms) ≡ true = subst (λ (w : Saying). keeps_plan s ms (ms ++ m ∷ []) m.time w ≡ true) e k.1 in
        open_since amount due (active_since None ms) refl (left (is_plan_since s (ms ++ m ∷ []) m.time (active_since None ms) amount due) (has_room s ms) fits)
    by_saying begins e = tt
    by_saying is_given e = tt
    by_saying is_taken e = tt
    by_saying (is_activated c) e = tt
    by_saying exhausts e = tt
    by_saying (is_refilled n c) e = tt
    by_saying exits e = tt
    by_saying nothing e = tt

module _ (s : Limits) where
  law_at : (ms : List Mark) (m : Mark) (b : Account) → Counts s ms b → b.now ≡ m.time → Lawful s b → refills_of ms ++ open_plans ms ≡ plans_of ms → broken_by s ms m ≡ None → LawAt s ms m
  law_at ms m b h at law order none =
      let high : high_before s (ms ++ m ∷ []) m.time ≡ b.high = judged_before s ms m m.time (omega arith) ∙ ap (free_before s ms) (sym at) ∙ sym h.high in
      let within = law.within in let used = law.used in let pending = law.pending in
      let refilled = h.refilled in let planned = h.planned in
      let ahead : sum (map (λ (p : Planned). p.amount) b.ahead) ≡ sum (map (λ (p : Planned). p.amount) (open_plans ms)) = ap (λ (ps : List Planned). sum (map (λ (p : Planned). p.amount) ps)) h.ahead in
      record {
        capacity = s.budget + b.refilled - b.high;
        consumed = b.high - b.planned;
        is_capacity = omega arith;
        is_consumed = omega arith;
        adds_up = omega arith;
        in_order = order;
        planned = plans_fit s ms m none;
        few = subst (λ (ps : List Planned). length ps ≤ s.max) h.ahead law.few;
      }

  -- The law holds at each line, where none breaks a rule and times do not fall.
  pub law_holds : (before ms : List Mark) (a : Account) → Counts s before a → Lawful s a → refills_of before ++ open_plans before ≡ plans_of before → Rising s a ms → NoneBreaks s before ms → LawHolds s before ms
  law_holds before [] a h law order up none = tt
  law_holds before (m ∷ ms) a h law order up none =
      let at = advanced_now s m.time a up.0 in
      let b = advanced s m.time a in
      let counts = advanced_counts s m.time before a h in
      let lawful = all_lawful s (m.time - a.now) a law in
      let kept : breaks s a m ≡ None = sym (breaks_same s before m a h up.0) ∙ none.0 in (
        law_at before m (advanced s m.time a) counts at lawful order none.0,
        law_holds (before ++ m ∷ []) ms (after_mark s a m) (marked s before m a h up.0 kept) (marked_lawful s a m kept law) (in_order_with s before m (advanced s m.time a) counts at kept order m.saying refl) up.1 none.1,
      )

  pub law_of_lines : (ms : List Mark) → Rising s opened ms → NoneBreaks s [] ms → LawHolds s [] ms
  law_of_lines ms up none = law_holds [] ms opened (opened_counts s) (opened_lawful s) refl up none
