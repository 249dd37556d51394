-- The set of the signals that end the process, one signal after another.
use Rattle.std.proofs.Common.{[], ◌∷◌, zero, suc, length, ◌≡◌, ◌≢◌, ◌<◌, ◌+◌, ◌^◌, ◌==◌, ◌&&◌, ◌∙◌, inl, inr, ℕ, Bool, true, false, List, ap, arith, refl, sym}
use Rattle.std.specs.Prelude.{bit_or, if◌then◌else◌, max, nat_lt, slice_index_or}
use Rattle.std.specs.Int.{bit_at}
use Rattle.std.proofs.lemmas.Bool.Decides.{eqb_tells}
use Rattle.std.proofs.lemmas.Nat.Bits.{bit_at-lt, bit_at-pow_other, bit_at-pow_same, bit_at-zero, bit_at_or}
use Rattle.words_numbers.specs.Signals.{has_signal, with_signal}
use Rattle.rules_machine.specs.declared.signal.SigAction.{SigAction}
use Rattle.rules_machine.specs.declared.signal.SigAction.TheVariants as action
use Rattle.rules_machine.specs.Signals.{is_kill}
use Rattle.kernel_signals.specs.Actions.{Kills}

-- ---- a bit that is set

has_bit : (set s : ℕ) → has_signal set s ≡ (bit_at set s == 1)
has_bit set s = refl

pub none_has : (s : ℕ) → has_signal 0 s ≡ false
none_has s = ap (λ (n : ℕ). n == 1) (bit_at-zero s)

with_itself : (set s : ℕ) → has_signal (with_signal set s) s ≡ true
with_itself set s =
    let both = bit_at_or set (2 ^ s) s in
    let same = bit_at-pow_same s in
    let low = bit_at-lt set s in
    let one : bit_at (bit_or set (2 ^ s)) s ≡ 1 = both ∙ ap (λ (n : ℕ). max (bit_at set s) n) same ∙ greatest (bit_at set s) low in
    ap (λ (n : ℕ). n == 1) one
  where
    greatest : (n : ℕ) → n < 2 → max n 1 ≡ 1
    greatest n lt = grind arith

with_other : (set s u : ℕ) → u ≢ s → has_signal (with_signal set s) u ≡ has_signal set u
with_other set s u other =
    let both = bit_at_or set (2 ^ s) u in
    let none = bit_at-pow_other s u other in
    ap (λ (n : ℕ). n == 1) (both ∙ ap (λ (n : ℕ). max (bit_at set u) n) none ∙ greatest (bit_at set u))
  where
    greatest : (n : ℕ) → max n 0 ≡ n
    greatest n = grind arith

-- ---- one signal after another

below_next : (u n : ℕ) → u ≢ n → nat_lt u (n + 1) ≡ nat_lt u n
below_next u n other = grind (arith, other)

below_itself : (n : ℕ) → nat_lt n (n + 1) ≡ true
below_itself n = grind arith

not_below : (n : ℕ) → nat_lt n n ≡ false
not_below n = grind arith

pub none_kills : (actions : List SigAction) → Kills actions 0 0
none_kills actions = record { each = λ s lt. none_has s ∙ sym (off s (is_kill (slice_index_or actions s action.Kill))) }
  where
    off : (s : ℕ) (b : Bool) → (nat_lt s 0 && b) ≡ false
    off s b = grind arith

pub one_kills : (actions : List SigAction) (n kills : ℕ) → is_kill (slice_index_or actions n action.Kill) ≡ true → Kills actions n kills → Kills actions (n + 1) (with_signal kills n)
one_kills actions n kills on are = record {
  each = λ s lt. elim (eqb_tells s n) [
    | inl same ↦ rw same.1 (with_itself kills n ∙ sym (ap (λ (b : Bool). b && is_kill (slice_index_or actions n action.Kill)) (below_itself n) ∙ on))
    | inr other ↦ with_other kills n s other.1 ∙ are.each s lt ∙ sym (ap (λ (b : Bool). b && is_kill (slice_index_or actions s action.Kill)) (below_next s n other.1))
  ];
}

pub one_lives : (actions : List SigAction) (n kills : ℕ) → is_kill (slice_index_or actions n action.Kill) ≡ false → Kills actions n kills → Kills actions (n + 1) kills
one_lives actions n kills off are = record {
  each = λ s lt. elim (eqb_tells s n) [
    | inl same ↦ (let here = are.each s lt in here ∙ rw same.1 (ap (λ (b : Bool). b && is_kill (slice_index_or actions n action.Kill)) (not_below n) ∙ sym (ap (λ (b : Bool). b && is_kill (slice_index_or actions n action.Kill)) (below_itself n) ∙ off)))
    | inr other ↦ are.each s lt ∙ sym (ap (λ (b : Bool). b && is_kill (slice_index_or actions s action.Kill)) (below_next s n other.1))
  ];
}

pub one_more : (actions : List SigAction) (n kills next : ℕ) (b : Bool) → is_kill (slice_index_or actions n action.Kill) ≡ b → next ≡ (if b then with_signal kills n else kills) →
    Kills actions n kills → Kills actions (n + 1) next
one_more actions n kills next true on is are = rw is (one_kills actions n kills on are)
one_more actions n kills next false off is are = rw is (one_lives actions n kills off are)

-- what is read of a signal does not depend on what stands past the end
pub action_read : (actions : List SigAction) (n : ℕ) (none other : SigAction) → n < length actions → slice_index_or actions n none ≡ slice_index_or actions n other
action_read [] n none other lt = absurd (omega arith)
action_read (a ∷ actions) zero none other lt = refl
action_read (a ∷ actions) (suc n) none other lt = action_read actions n none other (omega arith)
