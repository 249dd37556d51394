-- Many ticks at once are as many ticks, one after another.
use Rattle.std.proofs.Common.{Bool, add-one, ap, arith, false, refl, suc, sym, true, zero, ℕ, ◌+◌, ◌<◌, ◌≤◌, ◌≡◌, ◌∙◌}
use Rattle.std.specs.Prelude.{not, min, nat_le, nat_lt, ◌-◌, ◌==◌, ◌&&◌, ◌||◌, if◌then◌else◌}
use Rattle.std.specs.List.{list_any}
use Rattle.tool_audit.specs.Server.{Limits}
use Rattle.tool_audit.specs.Ticks.{counted_if}
use Rattle.tool_audit.specs.Rules.{Planned}
use Rattle.tool_audit.specs.Replay.{Account, advanced, next_is_high, room, tick, ticks}
use Rattle.tool_audit.specs.Leap.{can, leap, leap_with, left}
use Rattle.tool_audit.proofs.Replays.{absorbs, from_grows, from_later}

same_test : (p q : Bool) → (p ≡ true → q ≡ true) → (q ≡ true → p ≡ true) → p ≡ q
same_test true q f g = sym (f refl)
same_test false true f g = g refl
same_test false false f g = refl

-- an account with these numbers in place of its own
abbrev with_numbers : Account → ℕ → ℕ → ℕ → Bool → Bool → Bool → Bool → Account
with_numbers a n r h f o l u = record {
  started = a.started;
  exited = a.exited;
  has = a.has;
  now = n;
  ran = r;
  high = h;
  refilled = a.refilled;
  planned = a.planned;
  ahead = a.ahead;
  active = a.active;
  fresh = f;
  owes = o;
  late = l;
  unpaid = u;
}

same_numbers : (a : Account) {n n' r r' h h' : ℕ} {f f' o o' l l' u u' : Bool} → n ≡ n' → r ≡ r' → h ≡ h' → f ≡ f' → o ≡ o' → l ≡ l' → u ≡ u' → with_numbers a n r h f o l u ≡ with_numbers a n' r' h' f' o' l' u'
same_numbers a {n} {n'} {r} {r'} {h} {h'} {f} {f'} {o} {o'} {l} {l'} {u} {u'} p q x y z v w =
    ap (λ (k : ℕ). with_numbers a k r h f o l u) p ∙ ap (λ (k : ℕ). with_numbers a n' k h f o l u) q ∙ ap (λ (k : ℕ). with_numbers a n' r' k f o l u) x
    ∙ ap (λ (k : Bool). with_numbers a n' r' h' k o l u) y ∙ ap (λ (k : Bool). with_numbers a n' r' h' f' k l u) z ∙ ap (λ (k : Bool). with_numbers a n' r' h' f' o' k u) v
    ∙ ap (λ (k : Bool). with_numbers a n' r' h' f' o' l' k) w

-- ---- pure facts

-- whether something is left after k ticks
left_after : (high budget k : ℕ) → nat_lt (high + min (budget - high) k) budget ≡ nat_lt k (budget - high)
left_after high budget k = same_test (nat_lt (high + min (budget - high) k) budget) (nat_lt k (budget - high)) (λ e. grind arith) (λ e. grind arith)

high_after : (rest k : ℕ) → min rest k + counted_if (nat_lt k rest) 1 ≡ min rest (k + 1)
high_after rest k = by_test (nat_lt k rest) refl
  where
    by_test : (b : Bool) → nat_lt k rest ≡ b → min rest k + counted_if b 1 ≡ min rest (k + 1)
    by_test true e = let lt : k < rest = grind arith in omega arith
    by_test false e = let le : rest ≤ k = grind arith in omega arith

owes_after : (high budget k : ℕ) → (nat_lt k (budget - high) && high + min (budget - high) k + 1 == budget) ≡ (k + 1 == budget - high)
owes_after high budget k = same_test (nat_lt k (budget - high) && high + min (budget - high) k + 1 == budget) (k + 1 == budget - high) (λ e. grind arith) (λ e. grind arith)

unpaid_after : (rest k : ℕ) → 1 ≤ k → ((nat_lt 0 rest && nat_lt rest k) || k == rest) ≡ (nat_lt 0 rest && nat_lt rest (k + 1))
unpaid_after rest k le = same_test ((nat_lt 0 rest && nat_lt rest k) || k == rest) (nat_lt 0 rest && nat_lt rest (k + 1)) (λ e. grind arith) (λ e. grind arith)

le_is_lt : (k rest : ℕ) → nat_lt k rest ≡ nat_le (k + 1) rest
le_is_lt k rest = same_test (nat_lt k rest) (nat_le (k + 1) rest) (λ e. grind arith) (λ e. grind arith)

-- ---- one tick more

module _ (s : Limits) (a : Account) where
  open_at : ℕ → Bool
  open_at n = list_any (λ (p : Planned). nat_lt p.from n) a.ahead

  late_more : (n : ℕ) (l : Bool) → ((l || (not a.exited && list_any (λ (p : Planned). nat_lt p.from n) a.ahead)) || (not a.exited && list_any (λ (p : Planned). nat_le p.from n) a.ahead)) ≡ (l || (not a.exited && list_any (λ (p : Planned). nat_lt p.from (n + 1)) a.ahead))
  late_more n l =
      regroup l (not a.exited && list_any (λ (p : Planned). nat_lt p.from n) a.ahead) (not a.exited && list_any (λ (p : Planned). nat_le p.from n) a.ahead)
      ∙ ap (λ (c : Bool). l || c) (absorbs s (not a.exited) (list_any (λ (p : Planned). nat_lt p.from n) a.ahead) (list_any (λ (p : Planned). nat_le p.from n) a.ahead) (from_grows s n a.ahead) ∙ ap (λ (c : Bool). not a.exited && c) (from_later s n a.ahead))
    where
      regroup : (a b c : Bool) → ((a || b) || c) ≡ (a || (b || c))
      regroup a b c = grind arith

  -- by whether the thread may be high at all
  one_more : (k : ℕ) → 1 ≤ k → (may : Bool) → can s a ≡ may → tick s (leap_with s k (left s a) may a) ≡ leap_with s (k + 1) (left s a) may a
  one_more k le true e =
      let parts = both a.has (room s a) e in
      let next : next_is_high s (leap_with s k (left s a) true a) ≡ nat_lt k (left s a) = joined parts.0 (left_after a.high (s.budget + a.refilled) k) parts.1 in
      same_numbers a (omega arith) (ran a.has) (ap (λ (c : Bool). a.high + min (left s a) k + counted_if c 1) next ∙ (let all = high_after (left s a) k in omega arith))
      (next ∙ le_is_lt k (left s a)) (ap (λ (c : Bool). c && a.high + min (left s a) k + 1 == s.budget + a.refilled) next ∙ owes_after a.high (s.budget + a.refilled) k)
      (late_more (a.now + k) a.late ∙ ap (λ (n : ℕ). a.late || (not a.exited && list_any (λ (p : Planned). nat_lt p.from n) a.ahead)) (let same : a.now + k + 1 ≡ a.now + (k + 1) = omega arith in same))
      (regroup a.unpaid a.owes (nat_lt 0 (left s a) && nat_lt (left s a) k) (k == left s a) ∙ ap (λ (c : Bool). a.unpaid || (a.owes || c)) (unpaid_after (left s a) k le))
    where
      both : (p q : Bool) → (p && q) ≡ true → (p ≡ true) × (q ≡ true)
      both p q k = (grind arith, grind arith)

      joined : {p q r v : Bool} → p ≡ true → q ≡ v → r ≡ true → (p && (q && r)) ≡ v
      joined {p} {q} {r} {v} x y z = rw (x, z) (and_true q ∙ y)
        where
          and_true : (c : Bool) → (c && true) ≡ c
          and_true c = grind arith

      regroup : (u o b c : Bool) → ((u || (o || b)) || c) ≡ (u || (o || (b || c)))
      regroup u o b c = grind arith

      ran : (b : Bool) → a.ran + (if b then k else 0) + counted_if b 1 ≡ a.ran + (if b then k + 1 else 0)
      ran true = omega arith
      ran false = omega arith
  one_more k le false e =
      let next : next_is_high s (leap_with s k (left s a) false a) ≡ false = never a.has (nat_lt (a.high + 0) (s.budget + a.refilled)) (room s a) e in
      same_numbers a (omega arith) (ran a.has) (ap (λ (c : Bool). a.high + 0 + counted_if c 1) next ∙ (let none : a.high + 0 + 0 ≡ a.high + 0 = omega arith in none))
      next (ap (λ (c : Bool). c && a.high + 0 + 1 == s.budget + a.refilled) next)
      (late_more (a.now + k) a.late ∙ ap (λ (n : ℕ). a.late || (not a.exited && list_any (λ (p : Planned). nat_lt p.from n) a.ahead)) (let same : a.now + k + 1 ≡ a.now + (k + 1) = omega arith in same))
      (or_false (a.unpaid || (a.owes || false)))
    where
      never : (p q r : Bool) → (p && r) ≡ false → (p && (q && r)) ≡ false
      never p q r k = grind arith

      or_false : (c : Bool) → (c || false) ≡ c
      or_false c = grind arith

      ran : (b : Bool) → a.ran + (if b then k else 0) + counted_if b 1 ≡ a.ran + (if b then k + 1 else 0)
      ran true = omega arith
      ran false = omega arith

  first_tick : (may : Bool) → can s a ≡ may → tick s a ≡ leap_with s 1 (left s a) may a
  first_tick true e =
      let next : next_is_high s a ≡ nat_le 1 (left s a) = both a.has (nat_lt a.high (s.budget + a.refilled)) (room s a) e ∙ left_now a.high (s.budget + a.refilled) in
      same_numbers a refl refl (ap (λ (c : Bool). a.high + counted_if c 1) next ∙ (let one = one_or_none (left s a) in omega arith)) next
      (ap (λ (c : Bool). c && a.high + 1 == s.budget + a.refilled) next ∙ last_now a.high (s.budget + a.refilled))
      (ap (λ (c : Bool). a.late || (not a.exited && c)) (from_later s a.now a.ahead)) (paid (left s a))
    where
      both : (p q r : Bool) → (p && r) ≡ true → (p && (q && r)) ≡ q
      both p q r k = grind arith

      left_now : (high budget : ℕ) → nat_lt high budget ≡ nat_le 1 (budget - high)
      left_now high budget = same_test (nat_lt high budget) (nat_le 1 (budget - high)) (λ e. grind arith) (λ e. grind arith)

      last_now : (high budget : ℕ) → (nat_le 1 (budget - high) && high + 1 == budget) ≡ (1 == budget - high)
      last_now high budget = same_test (nat_le 1 (budget - high) && high + 1 == budget) (1 == budget - high) (λ e. grind arith) (λ e. grind arith)

      one_or_none : (rest : ℕ) → counted_if (nat_le 1 rest) 1 ≡ min rest 1
      one_or_none rest = by_test (nat_le 1 rest) refl
        where
          by_test : (b : Bool) → nat_le 1 rest ≡ b → counted_if b 1 ≡ min rest 1
          by_test true f = let le : 1 ≤ rest = grind arith in omega arith
          by_test false f = let none : rest < 1 = grind arith in omega arith

      paid : (rest : ℕ) → (a.unpaid || a.owes) ≡ (a.unpaid || (a.owes || (nat_lt 0 rest && nat_lt rest 1)))
      paid rest = ap (λ (c : Bool). a.unpaid || c) (sym (or_false a.owes) ∙ ap (λ (c : Bool). a.owes || c) (sym never))
        where
          or_false : (c : Bool) → (c || false) ≡ c
          or_false c = grind arith

          never : (nat_lt 0 rest && nat_lt rest 1) ≡ false
          never = same_test (nat_lt 0 rest && nat_lt rest 1) false (λ f. absurd (grind arith)) (λ f. absurd (grind arith))
  first_tick false e =
      let next : next_is_high s a ≡ false = never a.has (nat_lt a.high (s.budget + a.refilled)) (room s a) e in
      same_numbers a refl refl (ap (λ (c : Bool). a.high + counted_if c 1) next) next (ap (λ (c : Bool). c && a.high + 1 == s.budget + a.refilled) next)
      (ap (λ (c : Bool). a.late || (not a.exited && c)) (from_later s a.now a.ahead)) (ap (λ (c : Bool). a.unpaid || c) (sym (or_false a.owes)))
    where
      never : (p q r : Bool) → (p && r) ≡ false → (p && (q && r)) ≡ false
      never p q r k = grind arith

      or_false : (c : Bool) → (c || false) ≡ c
      or_false c = grind arith

  -- k ticks at once
  pub leaps : (k : ℕ) → ticks s (suc k) a ≡ leap s (suc k) a
  leaps zero = first_tick (can s a) refl
  leaps (suc k) = ap (tick s) (leaps k) ∙ one_more (suc k) (omega arith) (can s a) refl ∙ ap (λ (n : ℕ). leap s n a) (add-one (suc k))

pub advances : (s : Limits) (a : Account) (to : ℕ) → a.now < to → advanced s to a ≡ leap_with s (to - a.now) (left s a) (can s a) a
advances s a to h = by_ticks (to - a.now) refl
  where
    by_ticks : (k : ℕ) → to - a.now ≡ k → ticks s k a ≡ leap s k a
    by_ticks zero e = absurd (omega arith)
    by_ticks (suc k) e = leaps s a k
