-- How long a thread that has taken its unit runs by its interval and its capacity, before and after some ticks.
use Rattle.std.proofs.Common.{◌≡◌, ◌<◌, ◌+◌, ◌-◌, ◌==◌, ℕ, Bool, false, true, None, Some, Option, ap, arith, length, refl}
use Rattle.std.specs.Prelude.{◌&&◌, ◌||◌, if◌then◌else◌, is_some, max, min, option_map}
use Rattle.std.proofs.lemmas.Grind.{common_steps}
use Rattle.words_script.specs.declared.policy.Policy.{Policy}
use Rattle.words_script.specs.declared.policy.Policy.TheVariants as policy
use Rattle.rules_server.specs.declared.ServerKind.{ServerKind}
use Rattle.rules_server.specs.declared.ServerKind.TheVariants as kind
use Rattle.rules_server.specs.Server.{ServerState, charge_ticks, is_high, is_high_as}
use Rattle.rules_server.proofs.Laws.{charge_ticks_is}
use Rattle.rules_machine.specs.Servers.{has_high}
use Rattle.rules_machine.specs.Ticks.{capacity_in, slice_is_used}
use Rattle.rules_leaps.specs.Leap.{capacity_left, slice_left}
use Rattle.rules_leaps.specs.Quiet.{server_after, slice_after}

-- ---- its interval

pub slice_left_after : (most quantum k slice : ℕ) (p : Policy) → slice_left (most - k) quantum p (slice_after k p slice) ≡ slice_left most quantum p slice - k
slice_left_after most quantum k slice (policy.Fifo q) = refl
slice_left_after most quantum k slice (policy.Rr q) = omega arith
slice_left_after most quantum k slice (policy.Sporadic params) = refl
slice_left_after most quantum k slice (policy.Strict params) = refl

pub slice_after_none : (slice : ℕ) (p : Policy) → slice_after 0 p slice ≡ slice
slice_after_none slice (policy.Fifo q) = refl
slice_after_none slice (policy.Rr q) = omega arith
slice_after_none slice (policy.Sporadic params) = refl
slice_after_none slice (policy.Strict params) = refl

pub slice_after_both : (k j slice : ℕ) (p : Policy) → slice_after (k + j) p slice ≡ slice_after j p (slice_after k p slice)
slice_after_both k j slice (policy.Fifo q) = refl
slice_after_both k j slice (policy.Rr q) = omega arith
slice_after_both k j slice (policy.Sporadic params) = refl
slice_after_both k j slice (policy.Strict params) = refl

slice_is_left : (most quantum k slice : ℕ) (p : Policy) → k < slice_left most quantum p slice → slice_is_used p (slice_after k p slice) quantum ≡ false
slice_is_left most quantum k slice (policy.Fifo q) within = refl
slice_is_left most quantum k slice (policy.Rr q) within = grind (arith, common_steps)
slice_is_left most quantum k slice (policy.Sporadic params) within = refl
slice_is_left most quantum k slice (policy.Strict params) within = refl

-- ---- its capacity

some_as : (k : ServerKind) (capacity pending max : ℕ) → is_high_as k capacity pending max ≡ true → 0 < capacity
some_as kind.Sporadic capacity pending max high = grind (arith, common_steps)
some_as kind.Strict capacity pending max high = grind (arith, common_steps)

less_as : (k : ServerKind) (capacity less pending max : ℕ) → is_high_as k capacity pending max ≡ true → 0 < less → is_high_as k less pending max ≡ true
less_as kind.Sporadic capacity less pending max high some = grind (arith, common_steps)
less_as kind.Strict capacity less pending max high some = grind (arith, common_steps)

-- a charge that leaves capacity leaves the server high
stays_high : (k : ℕ) (s : ServerState) → is_high s ≡ true → k < s.capacity → is_high (charge_ticks k s) ≡ true
stays_high k s high within = rw (charge_ticks_is k s) (less_as s.kind s.capacity (s.capacity - k) (length s.pending) s.params.max high (omega arith))

some_left : (s : ServerState) → is_high s ≡ true → 0 < s.capacity
some_left s high = some_as s.kind s.capacity (length s.pending) s.params.max high

pub server_after_none : (o : Option ServerState) → option_map (server_after 0) o ≡ o
server_after_none None = refl
server_after_none (Some s) = ap Some (none_of (is_high s))
  where
    none_of : (high : Bool) → (if high then charge_ticks 0 s else s) ≡ s
    none_of false = refl
    none_of true = refl

module _ (most k : ℕ) where
  capacity_of : (s : ServerState) (high : Bool) → is_high s ≡ high → k < (if high then s.capacity else most) →
      capacity_left (most - k) (Some (if high then charge_ticks k s else s)) ≡ (if high then s.capacity else most) - k
  capacity_of s false is within = rw is refl
  capacity_of s true is within = rw (stays_high k s is within, charge_ticks_is k s) refl

  pub capacity_left_after : (o : Option ServerState) → k < capacity_left most o → capacity_left (most - k) (option_map (server_after k) o) ≡ capacity_left most o - k
  capacity_left_after None within = refl
  capacity_left_after (Some s) within = capacity_of s (is_high s) refl within

  both_of : (j : ℕ) (s : ServerState) (high : Bool) → is_high s ≡ high → k < max 1 (if high then s.capacity else most) →
      (if high then charge_ticks (k + j) s else s) ≡ server_after j (if high then charge_ticks k s else s)
  both_of j s false is within = rw is refl
  both_of j s true is within =
      let some = some_left s is in
      rw (stays_high k s is (omega arith), charge_ticks_is (k + j) s, charge_ticks_is k s, charge_ticks_is j) (grind arith)

  pub server_after_both : (j : ℕ) (o : Option ServerState) → k < max 1 (capacity_left most o) →
      option_map (server_after (k + j)) o ≡ option_map (server_after j) (option_map (server_after k) o)
  server_after_both j None within = refl
  server_after_both j (Some s) within = ap Some (both_of j s (is_high s) refl within)

  used_of : (s : ServerState) (high : Bool) → is_high s ≡ high → k < (if high then s.capacity else most) →
      (is_some (if high then Some s else None) && capacity_in (Some (if high then charge_ticks k s else s)) == 0) ≡ false
  used_of s false is within = refl
  used_of s true is within = rw (charge_ticks_is k s) (grind (arith, common_steps))

  capacity_is_left : (o : Option ServerState) → k < capacity_left most o → (has_high o && capacity_in (option_map (server_after k) o) == 0) ≡ false
  capacity_is_left None within = refl
  capacity_is_left (Some s) within = used_of s (is_high s) refl within

-- ---- both

abbrev pub lasts : ℕ → ℕ → Policy → ℕ → Option ServerState → ℕ
lasts most quantum p slice o = min most (min (slice_left most quantum p slice) (capacity_left most o))

module _ (most quantum k slice : ℕ) (p : Policy) (o : Option ServerState) where
  pub lasts_after : k < lasts most quantum p slice o → lasts (most - k) quantum p (slice_after k p slice) (option_map (server_after k) o) ≡ lasts most quantum p slice o - k
  lasts_after within =
      let a = slice_left_after most quantum k slice p in
      let b = capacity_left_after most k o (omega arith) in
      omega (arith, a, b)

  -- nothing of them is used up before
  pub nothing_used : k < lasts most quantum p slice o → (slice_is_used p (slice_after k p slice) quantum || (has_high o && capacity_in (option_map (server_after k) o) == 0)) ≡ false
  nothing_used within = rw (slice_is_left most quantum k slice p (omega arith), capacity_is_left most k o (omega arith)) refl
