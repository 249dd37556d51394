-- What the words of a line say is in range wherever they say something, whatever they are. A name has a number below how many of its
-- kind are declared, where those of all entries are.
use Rattle.std.proofs.Common.{ℕ, ◌≡◌, ◌≤◌, ◌<◌, List, Option, None, Some, Bool, true, false, refl, subst, rules}
use Rattle.std.specs.Prelude.{◌&&◌, nat_lt, nat_le, if◌then◌else◌}
use Rattle.std.specs.Option.{IfSome, option_map}
use Rattle.script_lex.proofs.Rejoined.{both}
use Rattle.words_numbers.specs.Parameters.{Parameters}
use Rattle.words_script.specs.declared.call.Moment.TheVariants.{Monotonic, Realtime}
use Rattle.words_script.specs.declared.call.Operand.TheVariants.{Num, Reg}
use Rattle.words_script.specs.declared.policy.Policy.TheVariants.{Fifo, Rr, Sporadic, Strict}
use Rattle.words_script.specs.declared.name_kind.NameKind.{NameKind}
use Rattle.words_script.specs.Kinds.{same_kind}
use Rattle.script_table.specs.Patterns.{greatest}
use Rattle.script_table.specs.Words.{value_of, is_register}
use Rattle.script_table.specs.Ranges.{word, is_within}
use Rattle.script_table.specs.Names.{Entry, entry_of}
use Rattle.script_table.specs.Operands.{map_two, map_three, map_four, map_five, number_in, amount_at, priority_at, operand_at, signal_at, number_of_kind, named_at, server_of, joined, server_at, fifo_at, rr_at, sporadic_at, strict_at, moment_at, real_at}
use Rattle.rules_flat_code.specs.KnownCalls.{IsNumber, IsOperand, IsSignal, IsMoment}
use Rattle.rules_flat_code.specs.Runnable.{HasBudget}
use Rattle.laws_canonical_text.proofs.Bounds.{signal_of-small}
use Rattle.laws_canonical_text.proofs.Declares.{same_kind_is}
use Rattle.laws_canonical_text.proofs.Kept.{within_parts}

-- what is so of a function of values, where they are there
pub mapped : {A B : Type 0} (P : A → Type 0) (Q : B → Type 0) (f : A → B) → ((a : A) → P a → Q (f a)) → (o : Option A) → IfSome o P → IfSome (option_map f o) Q
mapped P Q f each None h = tt
mapped P Q f each (Some a) h = each a h

pub mapped_two : {A B C : Type 0} (P : A → Type 0) (Q : B → Type 0) (R : C → Type 0) (f : A → B → C) → ((a : A) (b : B) → P a → Q b → R (f a b))
    → (o : Option A) (p : Option B) → IfSome o P → IfSome p Q → IfSome (map_two f o p) R
mapped_two P Q R f each None p h k = tt
mapped_two P Q R f each (Some a) None h k = tt
mapped_two P Q R f each (Some a) (Some b) h k = each a b h k

pub mapped_three : {A B C D : Type 0} (P : A → Type 0) (Q : B → Type 0) (R : C → Type 0) (S : D → Type 0) (f : A → B → C → D)
    → ((a : A) (b : B) (c : C) → P a → Q b → R c → S (f a b c)) → (o : Option A) (p : Option B) (q : Option C) → IfSome o P → IfSome p Q → IfSome q R
    → IfSome (map_three f o p q) S
mapped_three P Q R S f each None p q h k l = tt
mapped_three P Q R S f each (Some a) p q h k l = mapped_two Q R S (f a) (λ b c. each a b c h) p q k l

pub mapped_four : {A B C D E : Type 0} (P : A → Type 0) (Q : B → Type 0) (R : C → Type 0) (S : D → Type 0) (T : E → Type 0) (f : A → B → C → D → E)
    → ((a : A) (b : B) (c : C) (d : D) → P a → Q b → R c → S d → T (f a b c d)) → (o : Option A) (p : Option B) (q : Option C) (r : Option D)
    → IfSome o P → IfSome p Q → IfSome q R → IfSome r S → IfSome (map_four f o p q r) T
mapped_four P Q R S T f each None p q r h k l m = tt
mapped_four P Q R S T f each (Some a) p q r h k l m = mapped_three Q R S T (f a) (λ b c d. each a b c d h) p q r k l m

pub mapped_five : {A B C D E F : Type 0} (P : A → Type 0) (Q : B → Type 0) (R : C → Type 0) (S : D → Type 0) (T : E → Type 0) (U : F → Type 0)
    (f : A → B → C → D → E → F) → ((a : A) (b : B) (c : C) (d : D) (e : E) → P a → Q b → R c → S d → T e → U (f a b c d e))
    → (o : Option A) (p : Option B) (q : Option C) (r : Option D) (s : Option E)
    → IfSome o P → IfSome p Q → IfSome q R → IfSome r S → IfSome s T → IfSome (map_five f o p q r s) U
mapped_five P Q R S T U f each None p q r s h k l m n = tt
mapped_five P Q R S T U f each (Some a) p q r s h k l m n = mapped_four Q R S T U (f a) (λ b c d e. each a b c d e h) p q r s k l m n

pub weaker : {A : Type 0} (P Q : A → Type 0) → ((a : A) → P a → Q a) → (o : Option A) → IfSome o P → IfSome o Q
weaker P Q each None h = tt
weaker P Q each (Some a) h = each a h

-- where nothing is asked
abbrev pub Any : {A : Type 0} → A → Type 0
Any a = Unit {0}

pub anything : {A : Type 0} (o : Option A) → IfSome o Any
anything None = tt
anything (Some a) = tt

-- numbers
abbrev pub IsFrom : ℕ → ℕ → ℕ → Type 0
IsFrom low high n = (low ≤ n) × (n ≤ high)

number_case : (low high n : ℕ) (b : Bool) → (nat_le low n && nat_le n high) ≡ b → IfSome (if b then Some n else None) (IsFrom low high)
number_case low high n true is = within_parts low high n is
number_case low high n false is = tt

pub number_within : (low high k : ℕ) (words : List (List ℕ)) → IfSome (number_in low high k words) (IsFrom low high)
number_within low high k words = number_case low high (value_of (word k words)) (is_within low high (word k words)) refl

pub amount_within : (k : ℕ) (words : List (List ℕ)) → IfSome (amount_at k words) IsNumber
amount_within k words = weaker (IsFrom 0 greatest) IsNumber (λ n h. h.1) (amount_at k words) (number_within 0 greatest k words)

pub priority_within : (k : ℕ) (words : List (List ℕ)) → IfSome (priority_at k words) (IsFrom 1 255)
priority_within k words = number_within 1 255 k words

operand_case : (b : Bool) (o : Option ℕ) → IfSome o IsNumber → IfSome (if b then Some Reg else option_map Num o) IsOperand
operand_case true o h = tt
operand_case false o h = mapped IsNumber IsOperand Num (λ n small. small) o h

pub operand_within : (k : ℕ) (words : List (List ℕ)) → IfSome (operand_at k words) IsOperand
operand_within k words = operand_case (is_register (word k words)) (amount_at k words) (amount_within k words)

pub moment_within : (k : ℕ) (words : List (List ℕ)) → IfSome (moment_at k words) IsMoment
moment_within k words = mapped IsOperand IsMoment Monotonic (λ v fits. fits) (operand_at k words) (operand_within k words)

pub real_within : (k : ℕ) (words : List (List ℕ)) → IfSome (real_at k words) IsMoment
real_within k words = mapped IsOperand IsMoment Realtime (λ v fits. fits) (operand_at k words) (operand_within k words)

-- signals
signal_case : (o : Option ℕ) → ((k : ℕ) → o ≡ Some k → k < 32) → IfSome o IsSignal
signal_case None small = tt
signal_case (Some k) small = small k refl

pub signal_within : (k : ℕ) (words : List (List ℕ)) → IfSome (signal_at k words) IsSignal
signal_within k words = signal_case (signal_at k words) (signal_of-small (word k words))

-- the parameters of a server
pub record IsServer (p : Parameters) : Type 0 where
  pub high : IsFrom 1 255 p.high
  pub low : IsFrom 1 255 p.low
  pub period : IsNumber p.period
  pub max : IsFrom 1 16 p.max
  pub order : p.low < p.high
  pub some_budget : 1 ≤ p.budget
  pub budget : p.budget ≤ p.period

server_case : (high low period budget max : ℕ) (b : Bool) → (nat_lt low high && (nat_le 1 budget && nat_le budget period)) ≡ b
    → IsFrom 1 255 high → IsFrom 1 255 low → IsNumber period → IsFrom 1 16 max
    → IfSome (if b then Some (record { high = high; low = low; period = period; budget = budget; max = max }) else None) IsServer
server_case high low period budget max true is h l p m =
    let one = both (nat_lt low high) (nat_le 1 budget && nat_le budget period) is in
    let two = within_parts 1 period budget one.1 in
    record { high = h; low = l; period = p; max = m; order = (let e = one.0 in search rules); some_budget = two.0; budget = two.1 }
server_case high low period budget max false is h l p m = tt

abbrev MayServe : Option Parameters → Type 0
MayServe o = IfSome o IsServer

joined_case : (o : Option (Option Parameters)) → IfSome o MayServe → IfSome (joined o) IsServer
joined_case None h = tt
joined_case (Some p) h = h

pub server_within : (words : List (List ℕ)) → IfSome (server_at words) IsServer
server_within words =
    joined_case (map_five server_of (priority_at 3 words) (priority_at 4 words) (amount_at 5 words) (amount_at 6 words) (number_in 1 16 7 words))
    (mapped_five (IsFrom 1 255) (IsFrom 1 255) IsNumber IsNumber (IsFrom 1 16) MayServe server_of
    (λ high low period budget max h l p b m. server_case high low period budget max (nat_lt low high && (nat_le 1 budget && nat_le budget period)) refl h l p m)
    (priority_at 3 words) (priority_at 4 words) (amount_at 5 words) (amount_at 6 words) (number_in 1 16 7 words)
    (priority_within 3 words) (priority_within 4 words) (amount_within 5 words) (amount_within 6 words) (number_within 1 16 7 words))

-- policies have a budget
pub fifo_within : (k : ℕ) (words : List (List ℕ)) → IfSome (fifo_at k words) HasBudget
fifo_within k words = mapped Any HasBudget Fifo (λ p h. tt) (priority_at k words) (anything (priority_at k words))

pub rr_within : (k : ℕ) (words : List (List ℕ)) → IfSome (rr_at k words) HasBudget
rr_within k words = mapped Any HasBudget Rr (λ p h. tt) (priority_at k words) (anything (priority_at k words))

pub sporadic_within : (words : List (List ℕ)) → IfSome (sporadic_at words) HasBudget
sporadic_within words = mapped IsServer HasBudget Sporadic (λ p h. h.some_budget) (server_at words) (server_within words)

pub strict_within : (words : List (List ℕ)) → IfSome (strict_at words) HasBudget
strict_within words = mapped IsServer HasBudget Strict (λ p h. h.some_budget) (server_at words) (server_within words)

-- the number of each entry is below how many there are of its kind
abbrev pub AllBelow : (NameKind → ℕ) → List Entry → Type 0
AllBelow count es = (name : List ℕ) (e : Entry) → entry_of es name ≡ Some e → e.number < count e.kind

named_case : (count : NameKind → ℕ) (kind : NameKind) (e : Entry) (same small : Bool) → same_kind e.kind kind ≡ same → e.number < count e.kind
    → IfSome (if same && small then Some e.number else None) (λ n. n < count kind)
named_case count kind e true true is h = subst (λ k. e.number < count k) (same_kind_is e.kind kind is) h
named_case count kind e true false is h = tt
named_case count kind e false small is h = tt

found_case : (count : NameKind → ℕ) (es : List Entry) → AllBelow count es → (kind : NameKind) (name : List ℕ) (o : Option Entry) → entry_of es name ≡ o
    → IfSome (number_of_kind kind o) (λ n. n < count kind)
found_case count es below kind name None is = tt
found_case count es below kind name (Some e) is = named_case count kind e (same_kind e.kind kind) (nat_lt e.number 256) refl (below name e is)

pub named_within : (count : NameKind → ℕ) (es : List Entry) → AllBelow count es → (kind : NameKind) (k : ℕ) (words : List (List ℕ))
    → IfSome (named_at kind es k words) (λ n. n < count kind)
named_within count es below kind k words = found_case count es below kind (word k words) (entry_of es (word k words)) refl
