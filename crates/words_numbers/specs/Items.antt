-- The numbers of due items. The order is this project's own.
use Rattle.std.specs.Prelude.{ℕ, ◌+◌, ◌-◌, nat_lt, if◌then◌else◌, Option, None, Some}
use Rattle.words_numbers.specs.declared.item.Item.{Item}
use Rattle.words_numbers.specs.declared.item.Item.TheVariants.{Refill, Start, Timeout, Timer}

-- refills by thread, then starts, then timeouts, then timers
abbrev pub item_number : Item → ℕ
item_number (Refill t) = t
item_number (Start t) = 256 + t
item_number (Timeout t) = 512 + t
item_number (Timer k) = 768 + k

-- the item that has a number
abbrev pub item_of : ℕ → Option Item
item_of n =
    if nat_lt n 256 then Some (Refill n)
    else if nat_lt n 512 then Some (Start (n - 256))
    else if nat_lt n 768 then Some (Timeout (n - 512))
    else if nat_lt n 1024 then Some (Timer (n - 768))
    else None
