-- A line breaks the rule in the replay that it breaks over all the lines before it.
use Rattle.std.proofs.Common.{Bool, List, None, Option, Some, [], ap, append_assoc, arith, refl, suc, sym, true, zero, ℕ, ◌+◌, ◌≤◌, ◌∷◌, ◌++◌, ◌≡◌, ◌∙◌, subst}
use Rattle.std.specs.Prelude.{not, is_some, nat_le, nat_lt, ◌-◌, ◌==◌, ◌&&◌, slice_get}
use Rattle.std.specs.List.{list_any}
use Rattle.tool_audit.specs.Server.{Limits}
use Rattle.tool_audit.specs.Marks.{Mark, Saying, begins, is_given, is_taken, is_activated, exhausts, is_planned, is_refilled, exits, nothing}
use Rattle.tool_audit.specs.Ticks.{amount_refilled, high_before, in_all}
use Rattle.tool_audit.specs.Rules.{Planned, active_since, broken_by, ends_high, if_broken, is_plan_since, is_refill_of, keeps_activation, keeps_exhaustion, keeps_life, keeps_plan, keeps_refill, lives_in, misses_refill, one_owes, open_plans, owes_plan}
use Rattle.tool_audit.specs.Replay.{Account, Activation, advanced, after_mark, breaks, broken_now, fits_activation, fits_active, fits_exhaustion, fits_life, fits_oldest, fits_plan, fits_refill, keeps_all, lives, opened, Rising, replayed}
use Rattle.tool_audit.proofs.Counts.{free_before, free_ends, free_one_owes, judged_before, judged_owes, judged_was}
use Rattle.tool_audit.proofs.Replays.{Counts, IsActive, advanced_counts, advanced_now, opened_counts, room_is}
use Rattle.tool_audit.proofs.Marked.{marked_counts}

same_and : {p q x y : Bool} → p ≡ x → q ≡ y → (p && q) ≡ (x && y)
same_and e f = cc

same_eq : {a b x y : ℕ} → a ≡ x → b ≡ y → (a == b) ≡ (x == y)
same_eq e f = cc

same_verdict : {p q r u v p' q' r' u' v' : Bool} → p ≡ p' → q ≡ q' → r ≡ r' → u ≡ u' → v ≡ v' →
    if_broken p 1 (if_broken q 2 (if_broken r 3 (if_broken u 4 (if_broken v 5 None)))) ≡ if_broken p' 1 (if_broken q' 2 (if_broken r' 3 (if_broken u' 4 (if_broken v' 5 None))))
same_verdict a b c d e = cc

same_oldest : (o : Option Planned) (now amount : ℕ) → is_refill_of o now amount ≡ fits_oldest o now amount
same_oldest None now amount = refl
same_oldest (Some p) now amount = refl

module _ (s : Limits) (ms : List Mark) (m : Mark) (b : Account) (h : Counts s ms b) (at : b.now ≡ m.time) where
  -- the high ticks before the line
  high_now : high_before s (ms ++ m ∷ []) m.time ≡ b.high
  high_now = judged_before s ms m m.time (omega arith) ∙ ap (free_before s ms) (sym at) ∙ sym h.high

  lives_same : lives_in ms ≡ lives b
  lives_same = same_and (sym h.started) (ap not (sym h.exited))

  life_same : (w : Saying) → keeps_life ms w ≡ fits_life b w
  life_same begins = ap not (sym h.started)
  life_same is_given = lives_same
  life_same is_taken = refl
  life_same (is_activated c) = lives_same
  life_same exhausts = lives_same
  life_same (is_planned n d) = lives_same
  life_same (is_refilled n c) = lives_same
  life_same exits = lives_same
  life_same nothing = refl

  since_same : (x : Option Activation) (o : Option ℕ) (amount due : ℕ) → IsActive s ms b.now x o → is_plan_since s (ms ++ m ∷ []) m.time o amount due ≡ fits_active s b x amount due
  since_same None None amount due k = refl
  since_same None (Some y) amount due k = absurd k
  since_same (Some x) None amount due k = absurd k
  since_same (Some x) (Some y) amount due k =
      let before : high_before s (ms ++ m ∷ []) y ≡ x.high = judged_before s ms m y (let le = k.1 in omega arith) ∙ sym k.2 in
      ap (λ (c : Bool). nat_le 1 amount && c) (same_and (same_eq (ap (λ (n : ℕ). amount + n) before) high_now) (same_eq refl (ap (λ (n : ℕ). n + s.period) (sym k.0))))

  plan_same : (w : Saying) → keeps_plan s ms (ms ++ m ∷ []) m.time w ≡ fits_plan s b w
  plan_same (is_planned amount due) = same_and (since_same b.active (active_since None ms) amount due h.active) (sym (room_is s ms b h))
  plan_same begins = refl
  plan_same is_given = refl
  plan_same is_taken = refl
  plan_same (is_activated c) = refl
  plan_same exhausts = refl
  plan_same (is_refilled n c) = refl
  plan_same exits = refl
  plan_same nothing = refl

  budget_same : s.budget + in_all amount_refilled ms ≡ s.budget + b.refilled
  budget_same = ap (λ (n : ℕ). s.budget + n) (sym h.refilled)

  refill_same : (w : Saying) → keeps_refill s ms (ms ++ m ∷ []) m.time w ≡ fits_refill s b w
  refill_same (is_refilled amount capacity) =
      same_and (same_oldest (slice_get (open_plans ms) 0) m.time amount ∙ ap (λ (ps : List Planned). fits_oldest (slice_get ps 0) m.time amount) (sym h.ahead) ∙ ap (λ (n : ℕ). fits_oldest (slice_get b.ahead 0) n amount) (sym at))
      (ap (λ (c : Bool). c && nat_le capacity s.budget) (same_eq (ap (λ (n : ℕ). capacity + n) high_now) (ap (λ (n : ℕ). n + amount) budget_same)))
  refill_same begins = refl
  refill_same is_given = refl
  refill_same is_taken = refl
  refill_same (is_activated c) = refl
  refill_same exhausts = refl
  refill_same (is_planned n d) = refl
  refill_same exits = refl
  refill_same nothing = refl

  misses_same : misses_refill ms m.time ≡ b.late
  misses_same =
      same_and (ap not (sym h.exited)) (ap (λ (ps : List Planned). list_any (λ (p : Planned). nat_lt p.from m.time) ps) (sym h.ahead))
      ∙ ap (λ (n : ℕ). not b.exited && list_any (λ (p : Planned). nat_lt p.from n) b.ahead) (sym at) ∙ sym h.late

  activation_same : (w : Saying) → keeps_activation s ms (ms ++ m ∷ []) m.time w ≡ fits_activation s b w
  activation_same (is_activated capacity) =
      same_and (same_eq (ap (λ (n : ℕ). capacity + n) high_now) budget_same)
      (ap (λ (c : Bool). nat_lt 0 capacity && c) (same_and (sym (room_is s ms b h)) (same_eq (sym h.planned) high_now)))
  activation_same begins = refl
  activation_same is_given = refl
  activation_same is_taken = refl
  activation_same exhausts = refl
  activation_same (is_planned n d) = refl
  activation_same (is_refilled n c) = refl
  activation_same exits = refl
  activation_same nothing = refl

  ends_as : (n : ℕ) → n ≡ m.time → ends_high s (ms ++ m ∷ []) n ≡ free_ends s ms n
  ends_as zero e = refl
  ends_as (suc x) e = judged_was s ms m x (omega arith)

  exhaustion_same : (w : Saying) → keeps_exhaustion s ms (ms ++ m ∷ []) m.time w ≡ fits_exhaustion s b w
  exhaustion_same exhausts =
      same_and (same_eq (ap (λ (n : ℕ). 0 + n) high_now) budget_same) (ends_as m.time refl ∙ ap (free_ends s ms) (sym at) ∙ sym h.fresh)
  exhaustion_same begins = refl
  exhaustion_same is_given = refl
  exhaustion_same is_taken = refl
  exhaustion_same (is_activated c) = refl
  exhaustion_same (is_planned n d) = refl
  exhaustion_same (is_refilled n c) = refl
  exhaustion_same exits = refl
  exhaustion_same nothing = refl

  owes_as : (n : ℕ) → n ≡ m.time → one_owes s ms (ms ++ m ∷ []) (n - 1) ≡ free_one_owes s ms (n - 1)
  owes_as zero e = refl
  owes_as (suc x) e = judged_owes s ms m (suc x - 1) (omega arith)

  owes_same : owes_plan s ms (ms ++ m ∷ []) m.time ≡ b.unpaid
  owes_same = owes_as m.time refl ∙ ap (λ (n : ℕ). free_one_owes s ms (n - 1)) (sym at) ∙ sym h.unpaid

  -- the line breaks the same rule, if any
  pub judged_same : broken_by s ms m ≡ broken_now s b m.saying
  judged_same =
      same_verdict (life_same m.saying) (plan_same m.saying) (same_and (refill_same m.saying) (ap not misses_same)) (activation_same m.saying) (same_and (exhaustion_same m.saying) (ap not owes_same))

-- ---- all lines

module _ (s : Limits) where
  pub marked : (ms : List Mark) (m : Mark) (a : Account) → Counts s ms a → a.now ≤ m.time → breaks s a m ≡ None → Counts s (ms ++ m ∷ []) (after_mark s a m)
  marked ms m a h le none = marked_counts s ms m (advanced s m.time a) (advanced_counts s m.time ms a h) (advanced_now s m.time a le) none

  -- the rule that a line breaks in the replay is the one that it breaks over the lines before it
  pub breaks_same : (ms : List Mark) (m : Mark) (a : Account) → Counts s ms a → a.now ≤ m.time → broken_by s ms m ≡ breaks s a m
  breaks_same ms m a h le = judged_same s ms m (advanced s m.time a) (advanced_counts s m.time ms a h) (advanced_now s m.time a le)

  none_of : (o : Option ℕ) (rest : Bool) → (not (is_some o) && rest) ≡ true → (o ≡ None) × (rest ≡ true)
  none_of None rest e = (refl, e)
  none_of (Some n) rest e = absurd (grind arith)

  -- no line breaks a rule where the replay keeps all
  abbrev pub NoneBreaks : List Mark → List Mark → Type 0
  NoneBreaks before [] = Unit {0}
  NoneBreaks before (m ∷ ms) = (broken_by s before m ≡ None) × NoneBreaks (before ++ m ∷ []) ms

  pub none_breaks : (before ms : List Mark) (a : Account) → Counts s before a → Rising s a ms → keeps_all s a ms ≡ true → NoneBreaks before ms
  none_breaks before [] a h up e = tt
  none_breaks before (m ∷ ms) a h up e =
      let k = none_of (breaks s a m) (keeps_all s (after_mark s a m) ms) e in
      (breaks_same before m a h up.0 ∙ k.0, none_breaks (before ++ m ∷ []) ms (after_mark s a m) (marked before m a h up.0 k.0) up.1 k.1)

  -- and the account counts what all the lines say
  pub all_counts : (before ms : List Mark) (a : Account) → Counts s before a → Rising s a ms → keeps_all s a ms ≡ true → Counts s (before ++ ms) (replayed s a ms)
  all_counts before [] a h up e = subst (λ (ns : List Mark). Counts s ns a) (sym (none_more before)) h
    where
      none_more : {X : Type 0} (xs : List X) → xs ++ [] ≡ xs
      none_more [] = refl
      none_more (x ∷ xs) = ap (λ ys. x ∷ ys) (none_more xs)
  all_counts before (m ∷ ms) a h up e =
      let k = none_of (breaks s a m) (keeps_all s (after_mark s a m) ms) e in
      subst (λ (ns : List Mark). Counts s ns (replayed s (after_mark s a m) ms)) (append_assoc before (m ∷ []) ms) (all_counts (before ++ m ∷ []) ms (after_mark s a m) (marked before m a h up.0 k.0) up.1 k.1)

  -- of lines whose times do not fall
  pub replay_is_right : (ms : List Mark) → Rising s opened ms → keeps_all s opened ms ≡ true → NoneBreaks [] ms × Counts s ms (replayed s opened ms)
  replay_is_right ms up e = (none_breaks [] ms opened (opened_counts s) up e, all_counts [] ms opened (opened_counts s) up e)
