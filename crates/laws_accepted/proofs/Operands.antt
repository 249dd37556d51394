-- What the words of a line say is in its range: numbers, priorities, policies.
use Rattle.std.proofs.Common.{Bool, List, None, Option, Some, arith, false, refl, true, ℕ, ◌≡◌, ◌≤◌}
use Rattle.std.specs.Option.{option_map}
use Rattle.std.specs.Prelude.{nat_le, nat_lt, ◌&&◌, if◌then◌else◌}
use Rattle.words_numbers.specs.Parameters.{Parameters, AreParameters}
use Rattle.words_script.specs.declared.policy.Policy.TheVariants.{Fifo, Rr, Sporadic, Strict}
use Rattle.rules_machine.specs.WellFormed.{IsPriority, PolicyFits}
use Rattle.script_table.specs.Patterns.{greatest}
use Rattle.script_table.specs.Words.{value_of}
use Rattle.script_table.specs.Ranges.{is_within, word}
use Rattle.script_table.specs.Operands.{amount_at, fifo_at, joined, map_five, map_two, number_in, priority_at, rr_at, server_at, server_of, sporadic_at, strict_at}

-- of what is said, where something is
abbrev pub Said : {A : Type 0} → (A → Type 0) → Option A → Type 0
Said Law None = Unit {0}
Said Law (Some x) = Law x

pub map_said : {A B : Type 0} (P : A → Type 0) (Law : B → Type 0) (make : A → B) → ((x : A) → P x → Law (make x)) → (o : Option A) → Said P o → Said Law (option_map make o)
map_said P Law make each None h = tt
map_said P Law make each (Some x) h = each x h

pub two_said : {A B C : Type 0} (P : A → Type 0) (Q : B → Type 0) (Law : C → Type 0) (make : A → B → C) → ((x : A) (y : B) → P x → Q y → Law (make x y)) →
    (o : Option A) (p : Option B) → Said P o → Said Q p → Said Law (map_two make o p)
two_said P Q Law make each None p h k = tt
two_said P Q Law make each (Some x) None h k = tt
two_said P Q Law make each (Some x) (Some y) h k = each x y h k

-- ---- numbers

pub record IsBetween (low high n : ℕ) : Type 0 where
  pub least : low ≤ n
  pub most : n ≤ high

between : (low high n : ℕ) (b : Bool) → (nat_le low n && nat_le n high) ≡ b → Said (IsBetween low high) (if b then Some n else None)
between low high n true e = record { least = grind arith; most = grind arith }
between low high n false e = tt

pub number_between : (low high k : ℕ) (words : List (List ℕ)) → Said (IsBetween low high) (number_in low high k words)
number_between low high k words = between low high (value_of (word k words)) (is_within low high (word k words)) refl

priority : (o : Option ℕ) → Said (IsBetween 1 255) o → Said IsPriority o
priority None h = tt
priority (Some n) h = record { positive = h.least; small = h.most }

pub priority_is : (k : ℕ) (words : List (List ℕ)) → Said IsPriority (priority_at k words)
priority_is k words = priority (priority_at k words) (number_between 1 255 k words)

-- ---- policies

server_fits : (high low period budget max : ℕ) → IsPriority high → IsPriority low → period ≤ greatest → IsBetween 1 16 max → (b : Bool) → (nat_lt low high && (nat_le 1 budget && nat_le budget period)) ≡ b →
    Said AreParameters (if b then Some (record { high = high; low = low; period = period; budget = budget; max = max }) else None)
server_fits high low period budget max h k p m true e = record {
  low_above_zero = k.positive;
  low_below_high = grind arith;
  high_small = h.small;
  budget_above_zero = grind arith;
  budget_within_period = grind arith;
  period_small = p;
  some_pending = m.least;
  few_pending = m.most;
}
server_fits high low period budget max h k p m false e = tt

joined_fits : (a b c d e : Option ℕ) → Said IsPriority a → Said IsPriority b → Said (IsBetween 0 greatest) c → Said (IsBetween 1 16) e → Said AreParameters (joined (map_five server_of a b c d e))
joined_fits None b c d e h k p m = tt
joined_fits (Some high) None c d e h k p m = tt
joined_fits (Some high) (Some low) None d e h k p m = tt
joined_fits (Some high) (Some low) (Some period) None e h k p m = tt
joined_fits (Some high) (Some low) (Some period) (Some budget) None h k p m = tt
joined_fits (Some high) (Some low) (Some period) (Some budget) (Some max) h k p m = server_fits high low period budget max h k p.most m (nat_lt low high && (nat_le 1 budget && nat_le budget period)) refl

server_is : (words : List (List ℕ)) → Said AreParameters (server_at words)
server_is words =
    joined_fits (priority_at 3 words) (priority_at 4 words) (amount_at 5 words) (amount_at 6 words) (number_in 1 16 7 words) (priority_is 3 words) (priority_is 4 words)
    (number_between 0 greatest 5 words) (number_between 1 16 7 words)

-- parameters have priorities
priorities : (p : Parameters) → AreParameters p → IsPriority p.low × IsPriority p.high
priorities p h =
    let a = h.low_above_zero in let b = h.low_below_high in let c = h.high_small in
    (record { positive = a; small = omega arith }, record { positive = omega arith; small = c })

pub fifo_fits : (k : ℕ) (words : List (List ℕ)) → Said PolicyFits (fifo_at k words)
fifo_fits k words = map_said IsPriority PolicyFits Fifo (λ n h. h) (priority_at k words) (priority_is k words)

pub rr_fits : (k : ℕ) (words : List (List ℕ)) → Said PolicyFits (rr_at k words)
rr_fits k words = map_said IsPriority PolicyFits Rr (λ n h. h) (priority_at k words) (priority_is k words)

pub sporadic_fits : (words : List (List ℕ)) → Said PolicyFits (sporadic_at words)
sporadic_fits words = map_said AreParameters PolicyFits Sporadic priorities (server_at words) (server_is words)

pub strict_fits : (words : List (List ℕ)) → Said PolicyFits (strict_at words)
strict_fits words = map_said AreParameters PolicyFits Strict (λ p h. let both = priorities p h in (both.0, both.1, h)) (server_at words) (server_is words)
