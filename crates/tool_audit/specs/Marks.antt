-- What the lines of a trace say of one thread. This project's own.
use Rattle.std.specs.Prelude.{ℕ, Bool, if◌then◌else◌, List, map, slice_index_or}
use Rattle.std.specs.Str.{bytes_eq}
use Rattle.tool_check.specs.declared.form.Form.{Form}
use Rattle.tool_check.specs.declared.form.Form.TheVariants as form
use Rattle.tool_check.specs.Lines.{Reading}

pub data Saying : Type 0 where
  begins : Saying
  -- the processor is given to it, or to another thread or none
  is_given : Saying
  is_taken : Saying
  -- the capacity
  is_activated : ℕ → Saying
  exhausts : Saying
  -- the amount, and the due tick
  is_planned : ℕ → ℕ → Saying
  -- the amount, and the capacity
  is_refilled : ℕ → ℕ → Saying
  exits : Saying
  nothing : Saying

pub record Mark : Type 0 where
  pub time : ℕ
  pub saying : Saying

-- what it says where it is of the thread
abbrev pub if_mine : Bool → Saying → Saying
if_mine mine what = if mine then what else nothing

abbrev pub number_at : Reading → ℕ → ℕ
number_at r k = slice_index_or r.nums k 0

-- what a line says, where it is known whether its name is the thread's
abbrev pub saying_of : Bool → Form → Reading → Saying
saying_of mine form.Dispatch r = if mine then is_given else is_taken
saying_of mine form.Idle r = is_taken
saying_of mine form.Start r = if_mine mine begins
saying_of mine form.Return r = nothing
saying_of mine form.Deliver r = nothing
saying_of mine form.Activate r = if_mine mine (is_activated (number_at r 0))
saying_of mine form.Exhaust r = if_mine mine exhausts
saying_of mine form.Plan r = if_mine mine (is_planned (number_at r 0) (number_at r 1))
saying_of mine form.Refill r = if_mine mine (is_refilled (number_at r 0) (number_at r 1))
saying_of mine form.Cancel r = nothing
saying_of mine form.Exit r = if_mine mine exits
saying_of mine form.Killed r = nothing
saying_of mine form.End r = nothing
saying_of mine form.Thread r = nothing
saying_of mine form.Budget r = nothing

-- what a line says of the thread of that name
abbrev pub mark_of : List ℕ → Reading → Mark
mark_of name r = record { time = r.time; saying = saying_of (bytes_eq r.name name) r.form r }

abbrev pub marks_of : List ℕ → List Reading → List Mark
marks_of name rs = map (mark_of name) rs
