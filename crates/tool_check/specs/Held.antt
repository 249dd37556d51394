-- A text in memory that holds what fits. This project's own.
use Rattle.std.specs.Prelude.{ℕ, Bool, List, ◌++◌, ◌+◌, if◌then◌else◌, take, length, nat_le}
use Rattle.parts_io.specs.Causes.{raised}

pub record Held : Type 0 where
  pub text : List ℕ  -- what is held
  pub room : ℕ  -- how long it may get, in bytes
  pub faults : ℕ  -- how many writes did not fit whole

-- whether the whole write fits
abbrev pub fits : Held → List ℕ → Bool
fits h bytes = nat_le (length h.text + length bytes) h.room

-- after a write of these bytes
abbrev pub after_write : Held → List ℕ → Held
after_write h bytes = record {
  text = take h.room (h.text ++ bytes);
  room = h.room;
  faults = if fits h bytes then h.faults else raised h.faults 1;
}
