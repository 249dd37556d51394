-- One server and its account.
use Rattle.std.proofs.Common.{Bool, List, None, Some, [], ap, arith, false, length, max, refl, suc, sym, true, ℕ, ◌+◌, ◌<◌, ◌≤◌, ◌∷◌, ◌++◌, ◌≡◌}
use Rattle.std.specs.Prelude.{nat_le, nat_lt, not, ◌&&◌, ◌==◌}
use Rattle.std.specs.List.{list_any}
use mathlib.Core.Path.{subst, ◌∙◌}
use Rattle.words_numbers.specs.Parameters.{Parameters}
use Rattle.rules_server.specs.declared.Replenish.{Replenish}
use Rattle.rules_server.specs.declared.ServerKind.{ServerKind}
use Rattle.rules_server.specs.declared.ServerKind.TheVariants as server_kind
use Rattle.rules_server.specs.Server.{ServerState, activate, is_high, is_high_as, joins_as, new_server, plan, planned_in, replenishment, set_high}
use Rattle.rules_machine.specs.State.{Status}
use Rattle.rules_machine.specs.Threads.{is_runnable}
use Rattle.rules_moves.proofs.Waiters.Best.{Each}
use Rattle.tool_audit.specs.declared.server.Limits.{Limits}
use Rattle.tool_audit.specs.Marks.{Saying, begins, is_given, is_taken, is_activated, exhausts, is_planned, exits, nothing}
use Rattle.tool_audit.specs.declared.replay.Planned.{Planned}
use Rattle.tool_audit.specs.Rules.{if_broken}
use Rattle.tool_audit.specs.Replay.{Account, after_saying, broken_now, can_be_high, fits_active, lives, room}

-- ---- tests

pub both : {a b : Bool} → a ≡ true → b ≡ true → (a && b) ≡ true
both p q = grind arith

pub is_equal : (m n : ℕ) → m ≡ n → (m == n) ≡ true
is_equal m n e = grind arith

pub is_below : (m n : ℕ) → m < n → nat_lt m n ≡ true
is_below m n e = grind arith

pub is_most : (m n : ℕ) → m ≤ n → nat_le m n ≡ true
is_most m n e = grind arith

same_test : (p q : Bool) → (p ≡ true → q ≡ true) → (q ≡ true → p ≡ true) → p ≡ q
same_test true q f g = sym (f refl)
same_test false true f g = g refl
same_test false false f g = refl

pub unbroken : (p q r u v : Bool) → p ≡ true → q ≡ true → r ≡ true → u ≡ true → v ≡ true → if_broken p 1 (if_broken q 2 (if_broken r 3 (if_broken u 4 (if_broken v 5 None)))) ≡ None
unbroken p q r u v a b c d e = rw (a, b, c, d, e) refl

-- ---- what is pending

-- a plan of the account is a pending replenishment, and its refill comes at an instant from now on, and at its due instant if that is later
abbrev pub Open : ℕ → Planned → Replenish → Type 0
Open now p r = (p.amount ≡ r.amount) × (now ≤ p.from) × (r.due ≤ p.from) × (p.from ≤ max r.due now)

abbrev pub Pairs : ℕ → List Planned → List Replenish → Type 0
Pairs now [] [] = Unit {0}
Pairs now [] (r ∷ rs) = ⊥
Pairs now (p ∷ ps) [] = ⊥
Pairs now (p ∷ ps) (r ∷ rs) = Open now p r × Pairs now ps rs

pub pairs_length : (now : ℕ) (ps : List Planned) (rs : List Replenish) → Pairs now ps rs → length ps ≡ length rs
pairs_length now [] [] h = refl
pairs_length now [] (r ∷ rs) h = absurd h
pairs_length now (p ∷ ps) [] h = absurd h
pairs_length now (p ∷ ps) (r ∷ rs) h = ap suc (pairs_length now ps rs h.1)

pub pairs_more : (now : ℕ) (ps : List Planned) (rs : List Replenish) (p : Planned) (r : Replenish) → Pairs now ps rs → Open now p r → Pairs now (ps ++ p ∷ []) (rs ++ r ∷ [])
pairs_more now [] [] p r h k = (k, tt)
pairs_more now [] (x ∷ rs) p r h k = absurd h
pairs_more now (q ∷ ps) [] p r h k = absurd h
pairs_more now (q ∷ ps) (x ∷ rs) p r h k = (h.0, pairs_more now ps rs p r h.1 k)

pub pairs_later : (now : ℕ) (ps : List Planned) (rs : List Replenish) → Each (λ (r : Replenish). now < r.due) rs → Pairs now ps rs → Pairs (now + 1) ps rs
pairs_later now [] [] none h = tt
pairs_later now [] (r ∷ rs) none h = absurd h
pairs_later now (p ∷ ps) [] none h = absurd h
pairs_later now (p ∷ ps) (r ∷ rs) none h =
    let due = none.0 in let low = h.0.1 in let mid = h.0.2 in let high = h.0.3 in ((h.0.0, omega arith, omega arith, omega arith), pairs_later now ps rs none.1 h.1)

-- no refill is missing where nothing is due any more
pub none_missing : (now : ℕ) (ps : List Planned) (rs : List Replenish) → Each (λ (r : Replenish). now < r.due) rs → Pairs now ps rs → list_any (λ (p : Planned). nat_le p.from now) ps ≡ false
none_missing now [] rs none h = refl
none_missing now (p ∷ ps) [] none h = absurd h
none_missing now (p ∷ ps) (r ∷ rs) none h =
    let due = none.0 in let mid = h.0.2 in
    let not_yet : nat_le p.from now ≡ false = grind arith in
    rw not_yet (none_missing now ps rs none.1 h.1)

-- ---- a server and its account

-- a sporadic server is at its high priority where capacity is left and one more replenishment may become pending
pub high_sporadic : (x : ServerState) → x.kind ≡ server_kind.Sporadic → is_high x ≡ (nat_lt 0 x.capacity && nat_lt (length x.pending) x.params.max)
high_sporadic x e = ap (λ (k : ServerKind). is_high_as k x.capacity (length x.pending) x.params.max) e

module _ (s : Limits) where
  pub record Agrees (now : ℕ) (x : ServerState) (b : Account) : Type 0 where
    pub level : b.high + x.capacity ≡ s.budget + b.refilled
    pub planned : b.planned + x.consumed ≡ b.high
    pub pending : Pairs now b.ahead x.pending
    pub period : x.params.period ≡ s.period
    pub budget : x.params.budget ≡ s.budget
    pub max : x.params.max ≡ s.max
    pub high_total : x.high_total ≡ b.high
    pub refilled_total : x.refilled_total ≡ b.refilled
    pub sporadic : x.kind ≡ server_kind.Sporadic

  -- what was consumed is what was high since the activation
  pub record InStep (x : ServerState) (b : Account) : Type 0 where
    pub before : ℕ
    pub active : b.active ≡ Some (record { time = x.activation; high = before })
    pub since : before + x.consumed ≡ b.high

  pub record Booked (now : ℕ) (status : Status) (x : ServerState) (b : Account) : Type 0 where
    pub agrees : Agrees now x b
    pub consumed : 1 ≤ x.consumed → InStep x b
    pub ready : is_runnable status ≡ true → is_high x ≡ true → InStep x b

  -- the account can be high where the server is
  pub can_as_server : (now : ℕ) (x : ServerState) (b : Account) → Agrees now x b → can_be_high s b ≡ is_high x
  can_as_server now x b h =
      let level = h.level in let most = h.max in
      let long = pairs_length now b.ahead x.pending h.pending in
      let left : nat_lt b.high (s.budget + b.refilled) ≡ nat_lt 0 x.capacity = same_test _ _ (λ e. grind arith) (λ e. grind arith) in
      let more : nat_lt (length b.ahead) s.max ≡ nat_lt (length x.pending) x.params.max = same_test _ _ (λ e. grind arith) (λ e. grind arith) in
      both_same left more ∙ sym (high_sporadic x h.sporadic)
    where
      both_same : {p q r u : Bool} → p ≡ r → q ≡ u → (p && q) ≡ (r && u)
      both_same e f = cc

  -- ---- what the account may be told

  -- no refill is missing, and no plan
  pub record IsClear (l u : Bool) : Type 0 where
    pub late : l ≡ false
    pub unpaid : u ≡ false

  abbrev pub Clear : Account → Type 0
  Clear b = IsClear b.late b.unpaid

  not_late : (a b : Bool) → a ≡ true → b ≡ false → (a && not b) ≡ true
  not_late a b p q = grind arith

  pub plain_kept : (b : Account) → Clear b → broken_now s b nothing ≡ None
  plain_kept b c = unbroken true true (true && not b.late) true (true && not b.unpaid) refl refl (not_late true b.late refl c.late) refl (not_late true b.unpaid refl c.unpaid)

  pub taken_kept : (b : Account) → Clear b → broken_now s b is_taken ≡ None
  taken_kept b c = unbroken true true (true && not b.late) true (true && not b.unpaid) refl refl (not_late true b.late refl c.late) refl (not_late true b.unpaid refl c.unpaid)

  pub given_kept : (b : Account) → Clear b → lives b ≡ true → broken_now s b is_given ≡ None
  given_kept b c l = unbroken (lives b) true (true && not b.late) true (true && not b.unpaid) l refl (not_late true b.late refl c.late) refl (not_late true b.unpaid refl c.unpaid)

  pub exit_kept : (b : Account) → Clear b → lives b ≡ true → broken_now s b exits ≡ None
  exit_kept b c l = unbroken (lives b) true (true && not b.late) true (true && not b.unpaid) l refl (not_late true b.late refl c.late) refl (not_late true b.unpaid refl c.unpaid)

  pub begin_kept : (b : Account) → Clear b → b.started ≡ false → broken_now s b begins ≡ None
  begin_kept b c n = unbroken (not b.started) true (true && not b.late) true (true && not b.unpaid) (ap not n) refl (not_late true b.late refl c.late) refl (not_late true b.unpaid refl c.unpaid)

  -- ---- an activation

  abbrev pub Still : ℕ → Status → ServerState → Account → Type 0
  Still now status x b = Agrees now x b × (x.consumed ≡ 0)

  abbrev pub IsActive : ℕ → Status → ServerState → Account → Type 0
  IsActive now status x b = (y : ServerState) × (x ≡ activate now y) × Still now status y b

  pub high_parts : (x : ServerState) → x.kind ≡ server_kind.Sporadic → is_high x ≡ true → (1 ≤ x.capacity) × (length x.pending < x.params.max)
  high_parts x sort e = let high = sym (high_sporadic x sort) ∙ e in (grind arith, grind arith)

  pub activation_kept : (now : ℕ) (x : ServerState) (b : Account) → Clear b → lives b ≡ true → Agrees now x b → x.consumed ≡ 0 → is_high x ≡ true → broken_now s b (is_activated x.capacity) ≡ None
  activation_kept now x b c l h none high =
      let level = h.level in let most = h.max in let planned = h.planned in
      let long = pairs_length now b.ahead x.pending h.pending in
      let parts = high_parts x h.sporadic high in
      let some = parts.0 in let more = parts.1 in
      unbroken (lives b) true (true && not b.late) (x.capacity + b.high == s.budget + b.refilled && (nat_lt 0 x.capacity && (room s b && b.planned == b.high))) (true && not b.unpaid) l refl (not_late true b.late refl c.late)
      (both (is_equal (x.capacity + b.high) (s.budget + b.refilled) (omega arith)) (both (is_below 0 x.capacity (omega arith)) (both (is_below (length b.ahead) s.max (omega arith)) (is_equal b.planned b.high (omega arith))))) (not_late true b.unpaid refl c.unpaid)

  pub active_booked : (now capacity : ℕ) (status : Status) (x : ServerState) (b : Account) → b.now ≡ now → IsActive now status x b → Booked now status x (after_saying b (is_activated capacity))
  active_booked now capacity status x b at h =
      subst (λ (z : ServerState). Booked now status z (after_saying b (is_activated capacity))) (sym h.1) (record {
        agrees = record { level = a.level; planned = a.planned; pending = a.pending; period = a.period; budget = a.budget; max = a.max; high_total = a.high_total; refilled_total = a.refilled_total; sporadic = a.sporadic };
        consumed = λ some. step;
        ready = λ runs high. step;
      })
    where
      y : ServerState
      y = h.0

      a : Agrees now y b
      a = h.2.0

      step : InStep (activate now y) (after_saying b (is_activated capacity))
      step = record { before = b.high; active = ap (λ (n : ℕ). Some (record { time = n; high = b.high })) at; since = let none = h.2.1 in omega arith }

  pub low_booked : (now : ℕ) (status : Status) (x : ServerState) (b : Account) → (is_runnable status ≡ true → is_high x ≡ true → ⊥) → Still now status x b → Booked now status x b
  low_booked now status x b low h = record { agrees = h.0; consumed = λ some. let none = h.1 in absurd (omega arith); ready = λ runs high. absurd (low runs high) }

  pub priced_booked : (p now : ℕ) (status : Status) (x : ServerState) (b : Account) → Booked now status x b → Booked now status (set_high p x) b
  priced_booked p now status x b h = let a = h.agrees in record {
    agrees = record { level = a.level; planned = a.planned; pending = a.pending; period = a.period; budget = a.budget; max = a.max; high_total = a.high_total; refilled_total = a.refilled_total; sporadic = a.sporadic };
    consumed = λ some. let g = h.consumed some in record { before = g.before; active = g.active; since = g.since };
    ready = λ runs high. let g = h.ready runs high in record { before = g.before; active = g.active; since = g.since };
  }

  pub other_status : (now : ℕ) (status status' : Status) (x : ServerState) (b : Account) → (is_runnable status' ≡ true → is_runnable status ≡ true) → Booked now status x b → Booked now status' x b
  other_status now status status' x b same h = record { agrees = h.agrees; consumed = h.consumed; ready = λ runs high. h.ready (same runs) high }

  -- ---- a new server

  pub record IsBlank (h r p : ℕ) (ps : List Planned) : Type 0 where
    pub high : h ≡ 0
    pub refilled : r ≡ 0
    pub planned : p ≡ 0
    pub ahead : ps ≡ []

  abbrev pub Blank : Account → Type 0
  Blank b = IsBlank b.high b.refilled b.planned b.ahead

  pub record IsLimit (p : Parameters) : Type 0 where
    pub period : p.period ≡ s.period
    pub budget : p.budget ≡ s.budget
    pub max : p.max ≡ s.max
    pub some : 1 ≤ p.budget
    pub many : 1 ≤ p.max

  abbrev pub IsNew : ℕ → Status → ServerState → Account → Type 0
  IsNew now status x b = (p : Parameters) × (x ≡ new_server p now) × IsLimit p × Blank b

  pub new_agrees : (now : ℕ) (p : Parameters) (b : Account) → IsLimit p → Blank b → Agrees now (new_server p now) (after_saying b begins)
  new_agrees now p b l k =
      let high = k.high in let refilled = k.refilled in let planned = k.planned in let budget = l.budget in
      record {
        level = omega arith;
        planned = omega arith;
        pending = subst (λ (ps : List Planned). Pairs now ps []) (sym k.ahead) tt;
        period = l.period;
        budget = l.budget;
        max = l.max;
        high_total = sym k.high;
        refilled_total = sym k.refilled;
        sporadic = refl;
      }

  -- ---- a plan

  abbrev pub planned_of : ServerState → Saying
  planned_of x = is_planned (replenishment x).amount (replenishment x).due

  pub plan_kept : (now : ℕ) (x : ServerState) (b : Account) → Clear b → lives b ≡ true → Agrees now x b → 1 ≤ x.consumed → length x.pending < x.params.max → InStep x b → broken_now s b (planned_of x) ≡ None
  plan_kept now x b c l h some more step =
      let most = h.max in
      let long = pairs_length now b.ahead x.pending h.pending in
      let since = step.since in
      let active : fits_active s b b.active x.consumed (x.activation + x.params.period) ≡ true =
      rw step.active (both (is_most 1 x.consumed some) (both (is_equal (x.consumed + step.before) b.high (omega arith)) (is_equal (x.activation + x.params.period) (x.activation + s.period) (ap (λ (n : ℕ). x.activation + n) h.period)))) in
      unbroken (lives b) (fits_active s b b.active x.consumed (x.activation + x.params.period) && room s b) (true && not b.late) true (true && not b.unpaid) l
      (both active (is_below (length b.ahead) s.max (omega arith))) (not_late true b.late refl c.late) refl (not_late true b.unpaid refl c.unpaid)

  pub planned_booked : (now : ℕ) (status : Status) (x : ServerState) (b : Account) → b.now ≡ now → (is_runnable status ≡ true → x.capacity ≡ 0) → Agrees now x b → Booked now status (plan x) (after_saying b (planned_of x))
  planned_booked now status x b at low h =
      let planned = h.planned in
      record {
        agrees = record {
          level = h.level;
          planned = omega arith;
          pending = subst (λ (k : ServerKind). Pairs now (b.ahead ++ record { amount = x.consumed; from = max (x.activation + x.params.period) b.now } ∷ []) (planned_in (joins_as k (length x.pending) x.params.max) (replenishment x) x.pending)) (sym h.sporadic)
              (pairs_more now b.ahead x.pending (record { amount = x.consumed; from = max (x.activation + x.params.period) b.now }) (replenishment x) h.pending (refl, omega arith, omega arith, omega arith));
          period = h.period;
          budget = h.budget;
          max = h.max;
          high_total = h.high_total;
          refilled_total = h.refilled_total;
          sporadic = h.sporadic;
        };
        consumed = λ some. absurd (omega arith);
        ready = λ runs high. absurd (not_high (low runs) high);
      }
    where
      none : (n : ℕ) (q : Bool) → n ≡ 0 → (nat_lt 0 n && q) ≡ true → ⊥
      none n q e k = grind arith

      not_high : x.capacity ≡ 0 → is_high (plan x) ≡ true → ⊥
      not_high e k = let high = sym (high_sporadic (plan x) h.sporadic) ∙ k in absurd (none x.capacity (nat_lt (length (plan x).pending) x.params.max) e high)

  -- ---- exhaustion

  pub exhaustion_kept : (now : ℕ) (x : ServerState) (b : Account) → Clear b → lives b ≡ true → Agrees now x b → x.capacity ≡ 0 → b.fresh ≡ true → broken_now s b exhausts ≡ None
  exhaustion_kept now x b c l h none fresh =
      let level = h.level in
      unbroken (lives b) true (true && not b.late) true ((0 + b.high == s.budget + b.refilled && b.fresh) && not b.unpaid) l refl (not_late true b.late refl c.late) refl
      (not_late (0 + b.high == s.budget + b.refilled && b.fresh) b.unpaid (both (is_equal (0 + b.high) (s.budget + b.refilled) (omega arith)) fresh) c.unpaid)
