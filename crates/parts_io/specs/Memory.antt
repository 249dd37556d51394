-- Sources and sinks in memory, as their callers see them. They are this project's own.
use Rattle.std.specs.Prelude.{◌==◌, ℕ, Bool, List, ◌++◌, ◌+◌, ◌&&◌, not, if◌then◌else◌, min, drop, length, nat_le}
use Rattle.std.specs.List.{list_any}
use Rattle.parts_io.specs.Causes.{raised}

-- bytes to be read, of which the reads with the numbers `fails` fail
pub record Supply : Type 0 where
  pub rest : List ℕ  -- the bytes that are left
  pub fails : List ℕ  -- the numbers of the reads that fail, from 1
  pub calls : ℕ  -- how many reads were made
  pub taken : ℕ  -- how many bytes were given
  pub faults : ℕ  -- how many reads failed

-- whether the call after `calls` others is one of those that fail
abbrev pub is_failing : List ℕ → ℕ → Bool
is_failing fails calls = list_any (λ number. number == raised calls 1) fails

-- how many bytes a read with room for `room` moves
abbrev pub moved : Supply → ℕ → ℕ
moved s room = if is_failing s.fails s.calls then 0 else min room (length s.rest)

-- after a read with room for `room` bytes
abbrev pub after_read : Supply → ℕ → Supply
after_read s room = record {
  rest = drop (moved s room) s.rest;
  fails = s.fails;
  calls = raised s.calls 1;
  taken = raised s.taken (moved s room);
  faults = if is_failing s.fails s.calls then raised s.faults 1 else s.faults;
}

-- bytes to be read, of which no read fails
pub record SureSupply : Type 0 where
  pub rest : List ℕ  -- the bytes that are left
  pub taken : ℕ  -- how many bytes were given

-- after a read with room for `room` bytes
abbrev pub after_sure_read : SureSupply → ℕ → SureSupply
after_sure_read s room = record {
  rest = drop (min room (length s.rest)) s.rest;
  taken = raised s.taken (min room (length s.rest));
}

-- a text of at most `room` bytes, of whose writes those with the numbers `fails` fail
pub record Store : Type 0 where
  pub text : List ℕ  -- all that was written
  pub room : ℕ  -- how long the text may get
  pub fails : List ℕ  -- the numbers of the writes that fail, from 1
  pub calls : ℕ  -- how many writes were made
  pub faults : ℕ  -- how many writes failed

-- whether the next write, of these bytes, is taken
abbrev pub is_taken : Store → List ℕ → Bool
is_taken s bytes = not (is_failing s.fails s.calls) && nat_le (length s.text + length bytes) s.room

-- after a write of these bytes
abbrev pub after_write : Store → List ℕ → Store
after_write s bytes = record {
  text = if is_taken s bytes then s.text ++ bytes else s.text;
  room = s.room;
  fails = s.fails;
  calls = raised s.calls 1;
  faults = if is_taken s bytes then s.faults else raised s.faults 1;
}
