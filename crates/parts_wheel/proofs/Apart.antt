-- The place of a number, from the highest bit in which it differs from now.
use Rattle.std.proofs.Common.{◌≡◌, ◌≢◌, ◌⊎◌, inl, inr, ⊎_elim, ℕ, zero, suc, ◌+◌, ◌*◌, ◌/◌, ◌%◌, ◌^◌, ◌<◌, ◌≤◌, sym, ap, ◌∙◌, arith}
use Rattle.std.proofs.Math.Nat.{div-div-eq-div-mul, div-eq_of_lt, div-one, mod-lt, pow-le-pow_right}
use Rattle.std.proofs.lemmas.Nat.{pow-add, pow_pos, xor_shr, or_shr, div-add-mod'}
use Rattle.std.specs.Int.Bits.{bit_xor, bit_or, xor_self, xor_zero_l, xor_zero_r, xor_assoc, or_zero_r}
use Rattle.parts_links.proofs.Chains.{equal}
use Rattle.parts_wheel.specs.Places.{place, deeper}
use Rattle.parts_wheel.proofs.Order.{near, far}

-- one digit more is eight bits more
further : (n k : ℕ) → n / 256 / 2 ^ (8 * k) ≡ n / 2 ^ (8 * suc k)
further n k =
    let eight : 8 + 8 * k ≡ 8 * suc k = omega arith in
    div-div-eq-div-mul n 256 (2 ^ (8 * k)) ∙ ap (λ x. n / x) (sym (pow-add 2 8 (8 * k)) ∙ ap (λ e. 2 ^ e) eight)

-- where the two agree above a digit and differ in it
at_level : (levels level now due : ℕ) → level < levels → due / 2 ^ (8 * suc level) ≡ now / 2 ^ (8 * suc level) → (level ≡ 0) ⊎ (due / 2 ^ (8 * level) ≢ now / 2 ^ (8 * level))
    → place levels now due ≡ (level, due / 2 ^ (8 * level) % 256)
at_level zero level now due inside same apart = absurd (omega (arith, inside))
at_level (suc levels) zero now due inside same apart = near levels now due same ∙ ap (λ n. (0, n % 256)) (sym (div-one due))
at_level (suc levels) (suc level) now due inside same apart =
    let differs : due / 2 ^ (8 * suc level) ≢ now / 2 ^ (8 * suc level) = ⊎_elim (λ none. absurd (omega (arith, none))) (λ d. d) apart in
    let other : due / 256 ≢ now / 256 = λ e. differs (sym (further due level) ∙ ap (λ n. n / 2 ^ (8 * level)) e ∙ further now level) in
    far levels now due other
    ∙ ap deeper (at_level levels level (now / 256) (due / 256) (omega (arith, inside)) (further due (suc level) ∙ same ∙ sym (further now (suc level)))
    (inr (λ e. differs (sym (further due level) ∙ e ∙ further now level))))
    ∙ ap (λ n. (suc level, n % 256)) (further due level)

same_bits : (a b : ℕ) → bit_xor a b ≡ 0 → a ≡ b
same_bits a b h = sym (xor_zero_r a) ∙ ap (bit_xor a) (sym (xor_self b)) ∙ sym (xor_assoc a b b) ∙ ap (λ z. bit_xor z b) h ∙ xor_zero_l b

-- above the lowest digit
above : (a b k : ℕ) → 8 ≤ k → bit_or (bit_xor a b) 255 / 2 ^ k ≡ bit_xor (a / 2 ^ k) (b / 2 ^ k)
above a b k l =
    let most : 2 ^ 8 ≤ 2 ^ k = pow-le-pow_right (omega arith) l in
    let none : 255 / 2 ^ k ≡ 0 = div-eq_of_lt (omega (arith, most)) in
    or_shr (bit_xor a b) 255 k ∙ ap (λ n. bit_or (bit_xor a b / 2 ^ k) n) none ∙ or_zero_r (bit_xor a b / 2 ^ k) ∙ xor_shr a b k

below_power : (n k : ℕ) → n / 2 ^ k ≡ 0 → n < 2 ^ k
below_power n k none =
    let whole : n / 2 ^ k * 2 ^ k + n % 2 ^ k ≡ n = div-add-mod' n (2 ^ k) in
    let rest : 0 * 2 ^ k + n % 2 ^ k ≡ n = ap (λ q. q * 2 ^ k + n % 2 ^ k) (sym none) ∙ whole in
    let less : n % 2 ^ k < 2 ^ k = mod-lt n (pow_pos k) in omega (arith, rest, less)

pub place_at : (now due top level : ℕ) → 8 * level ≤ top → top < 8 * suc level → top < 56 → 2 ^ top ≤ bit_or (bit_xor now due) 255 → bit_or (bit_xor now due) 255 < 2 ^ suc top
    → place 7 now due ≡ (level, due / 2 ^ (8 * level) % 256)
place_at now due top level low high small from to =
    let x = bit_or (bit_xor now due) 255 in
    let k = 8 * suc level in
    let most : 2 ^ suc top ≤ 2 ^ k = pow-le-pow_right (omega arith) (omega (arith, high)) in
    let none : x / 2 ^ k ≡ 0 = div-eq_of_lt (omega (arith, to, most)) in
    let same : now / 2 ^ k ≡ due / 2 ^ k = same_bits (now / 2 ^ k) (due / 2 ^ k) (sym (above now due k (omega arith)) ∙ none) in
    at_level 7 level now due (omega (arith, low, small)) (sym same)
    (⊎_elim
    (λ lowest. inl lowest)
    (λ higher. inr (λ e.
    let j = 8 * level in
    let nothing : x / 2 ^ j ≡ 0 = above now due j (omega (arith, higher)) ∙ ap (λ n. bit_xor (now / 2 ^ j) n) e ∙ xor_self (now / 2 ^ j) in
    let least : 2 ^ j ≤ 2 ^ top = pow-le-pow_right (omega arith) low in
    let less = below_power x j nothing in omega (arith, less, least, from)))
    (equal level 0))

-- two ticks are of one block exactly where they differ in the lowest 11 bits alone
block_apart : (now due : ℕ) → bit_xor now due / 2 ^ 11 ≡ bit_xor (now / 2048) (due / 2048)
block_apart now due = xor_shr now due 11

pub agree : (now due : ℕ) → bit_xor now due < 2048 → due / 2048 ≡ now / 2048
agree now due l = sym (same_bits (now / 2048) (due / 2048) (sym (block_apart now due) ∙ div-eq_of_lt l))

pub differ : (now due : ℕ) → 2048 ≤ bit_xor now due → due / 2048 ≢ now / 2048
differ now due l same =
    let none : bit_xor now due / 2 ^ 11 ≡ 0 = block_apart now due ∙ ap (λ n. bit_xor (now / 2048) n) same ∙ xor_self (now / 2048) in
    let less : bit_xor now due < 2 ^ 11 = below_power (bit_xor now due) 11 none in omega (arith, less, l)
