-- Sets of signals as numbers of 32 bits: the sigset_t of IEEE 1003.1-2017, XBD <signal.h>.
use Rattle.std.specs.Prelude.{ℕ, ◌-◌, ◌/◌, ◌%◌, ◌^◌, ◌==◌, Bool, bit_and, bit_or, Option, find}
use Rattle.std.specs.List.{range_with_len}

abbrev pub every_signal : ℕ
every_signal = 2 ^ 32 - 1

-- sigismember
abbrev pub has_signal : ℕ → ℕ → Bool
has_signal set sig = (set / 2 ^ sig) % 2 == 1

-- sigaddset
abbrev pub with_signal : ℕ → ℕ → ℕ
with_signal set sig = bit_or set (2 ^ sig)

-- sigdelset
abbrev pub without_signal : ℕ → ℕ → ℕ
without_signal set sig = bit_and set (every_signal - 2 ^ sig)

-- the least signal of a set
abbrev pub lowest_signal : ℕ → Option ℕ
lowest_signal set = find (has_signal set) (range_with_len 0 32)
