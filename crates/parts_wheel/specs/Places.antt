-- The place of a number seen from now: a level, and one of its 256 slots (this project's own).
use Rattle.std.specs.Prelude.{◌≡◌, ◌⊎◌, ◌==◌, if◌then◌else◌, ℕ, zero, suc, ◌*◌, ◌<◌, ◌/◌, ◌%◌, ◌+◌}

-- how many more digits to the base of 256 there are than those in which the two agree, and the first digit in which they differ
abbrev pub deeper : ℕ × ℕ → ℕ × ℕ
deeper p = (suc p.0, p.1)

abbrev pub place : ℕ → ℕ → ℕ → ℕ × ℕ
place zero now due = (0, 0)
place (suc levels) now due = if due / 256 == now / 256 then (0, due % 256) else deeper (place levels (now / 256) (due / 256))

-- a lower level, or an earlier slot of one level
abbrev pub IsBefore : ℕ × ℕ → ℕ × ℕ → Type 0
IsBefore p q = (p.0 < q.0) ⊎ ((p.0 ≡ q.0) × (p.1 < q.1))

-- the number of the list that holds a place
abbrev pub list_of : ℕ × ℕ → ℕ
list_of p = 256 * p.0 + p.1
