-- The replay of what lines say of a thread: a few numbers in place of all the lines. It goes from instant to instant, and is another way
-- to what the rules count. This project's own.
use Rattle.std.specs.Prelude.{ℕ, ◌≤◌, zero, suc, ◌+◌, ◌-◌, ◌==◌, ◌&&◌, ◌||◌, not, nat_lt, nat_le, max, Bool, true, false, List, [], ◌∷◌, ◌++◌, length, Option, None, Some, is_some, drop, slice_get}
use Rattle.std.specs.List.{list_any}
use Rattle.tool_audit.specs.Server.{Limits}
pub use Rattle.tool_audit.specs.declared.replay.Activation.{Activation}
use Rattle.tool_audit.specs.Marks.{Mark, Saying, begins, is_given, is_taken, is_activated, exhausts, is_planned, is_refilled, exits, nothing}
use Rattle.tool_audit.specs.Ticks.{counted_if}
use Rattle.tool_audit.specs.Rules.{Planned, if_broken}

-- the last activation with no plan behind it: when it was, and how many high ticks there were before
pub record Account : Type 0 where
  pub started : Bool
  pub exited : Bool
  -- the thread has the processor
  pub has : Bool
  -- the ticks below this instant are counted
  pub now : ℕ
  pub ran : ℕ
  pub high : ℕ
  pub refilled : ℕ
  pub planned : ℕ
  -- the plans without a refill
  pub ahead : List Planned
  pub active : Option Activation
  -- the last tick was high
  pub fresh : Bool
  -- the last tick used up the capacity, and no plan and no exit came since
  pub owes : Bool
  -- a refill is missing whose instant has passed
  pub late : Bool
  -- a plan is missing where the capacity was used up
  pub unpaid : Bool

abbrev pub opened : Account
opened = record {
  started = false;
  exited = false;
  has = false;
  now = 0;
  ran = 0;
  high = 0;
  refilled = 0;
  planned = 0;
  ahead = [];
  active = None;
  fresh = false;
  owes = false;
  late = false;
  unpaid = false;
}

abbrev pub lives : Account → Bool
lives a = a.started && not a.exited

abbrev pub room : Limits → Account → Bool
room s a = nat_lt (length a.ahead) s.max

abbrev pub can_be_high : Limits → Account → Bool
can_be_high s a = nat_lt a.high (s.budget + a.refilled) && room s a

abbrev pub next_is_high : Limits → Account → Bool
next_is_high s a = a.has && can_be_high s a

-- one tick
abbrev pub tick_as : Limits → Bool → Account → Account
tick_as s high a = record {
  started = a.started;
  exited = a.exited;
  has = a.has;
  now = a.now + 1;
  ran = a.ran + counted_if a.has 1;
  high = a.high + counted_if high 1;
  refilled = a.refilled;
  planned = a.planned;
  ahead = a.ahead;
  active = a.active;
  fresh = high;
  owes = high && a.high + 1 == s.budget + a.refilled;
  late = a.late || (not a.exited && list_any (λ (p : Planned). nat_le p.from a.now) a.ahead);
  unpaid = a.unpaid || a.owes;
}

abbrev pub tick : Limits → Account → Account
tick s a = tick_as s (next_is_high s a) a

-- so many ticks
abbrev pub ticks : Limits → ℕ → Account → Account
ticks s zero a = a
ticks s (suc k) a = tick s (ticks s k a)

-- up to an instant
abbrev pub advanced : Limits → ℕ → Account → Account
advanced s time a = ticks s (time - a.now) a

-- ---- the rules, of a line at the instant of the account

abbrev pub fits_life : Account → Saying → Bool
fits_life a begins = not a.started
fits_life a nothing = true
fits_life a is_taken = true
fits_life a other = lives a

abbrev pub fits_active : Limits → Account → Option Activation → ℕ → ℕ → Bool
fits_active s a None amount due = false
fits_active s a (Some x) amount due = nat_le 1 amount && (amount + x.high == a.high && due == x.time + s.period)

abbrev pub fits_plan : Limits → Account → Saying → Bool
fits_plan s a (is_planned amount due) = fits_active s a a.active amount due && room s a
fits_plan s a other = true

abbrev pub fits_oldest : Option Planned → ℕ → ℕ → Bool
fits_oldest None now amount = false
fits_oldest (Some p) now amount = amount == p.amount && now == p.from

abbrev pub fits_refill : Limits → Account → Saying → Bool
fits_refill s a (is_refilled amount capacity) =
    fits_oldest (slice_get a.ahead 0) a.now amount && (capacity + a.high == s.budget + a.refilled + amount && nat_le capacity s.budget)
fits_refill s a other = true

abbrev pub fits_activation : Limits → Account → Saying → Bool
fits_activation s a (is_activated capacity) =
    capacity + a.high == s.budget + a.refilled && (nat_lt 0 capacity && (room s a && a.planned == a.high))
fits_activation s a other = true

abbrev pub fits_exhaustion : Limits → Account → Saying → Bool
fits_exhaustion s a exhausts = 0 + a.high == s.budget + a.refilled && a.fresh
fits_exhaustion s a other = true

-- the least rule that it breaks
abbrev pub broken_now : Limits → Account → Saying → Option ℕ
broken_now s a what =
    if_broken (fits_life a what) 1
    (if_broken (fits_plan s a what) 2
    (if_broken (fits_refill s a what && not a.late) 3
    (if_broken (fits_activation s a what) 4
    (if_broken (fits_exhaustion s a what && not a.unpaid) 5 None))))

-- ---- a line

abbrev pub after_saying : Account → Saying → Account
after_saying a begins = record a { started = true }
after_saying a is_given = record a { has = true }
after_saying a is_taken = record a { has = false }
after_saying a (is_activated capacity) = record a { active = Some (record { time = a.now; high = a.high }) }
after_saying a exhausts = a
after_saying a (is_planned amount due) = record a { planned = a.planned + amount; ahead = a.ahead ++ record { amount = amount; from = max due a.now } ∷ []; active = None; owes = false }
after_saying a (is_refilled amount capacity) = record a { refilled = a.refilled + amount; ahead = drop 1 a.ahead }
after_saying a exits = record a { exited = true; owes = false }
after_saying a nothing = a

abbrev pub after_mark : Limits → Account → Mark → Account
after_mark s a m = after_saying (advanced s m.time a) m.saying

-- the rule that the line breaks
abbrev pub breaks : Limits → Account → Mark → Option ℕ
breaks s a m = broken_now s (advanced s m.time a) m.saying

-- all lines
abbrev pub replayed : Limits → Account → List Mark → Account
replayed s a [] = a
replayed s a (m ∷ ms) = replayed s (after_mark s a m) ms

-- no line breaks a rule where it stands
abbrev pub keeps_all : Limits → Account → List Mark → Bool
keeps_all s a [] = true
keeps_all s a (m ∷ ms) = not (is_some (breaks s a m)) && keeps_all s (after_mark s a m) ms

-- times do not fall
abbrev pub Rising : Limits → Account → List Mark → Type 0
Rising s a [] = Unit {0}
Rising s a (m ∷ ms) = (a.now ≤ m.time) × Rising s (after_mark s a m) ms
