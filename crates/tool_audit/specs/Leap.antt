-- Many ticks of the replay at once: what the code does in place of a tick at a time. This project's own.
use Rattle.std.specs.Prelude.{ℕ, ◌+◌, ◌-◌, ◌==◌, ◌&&◌, ◌||◌, not, min, nat_lt, nat_le, Bool, if◌then◌else◌}
use Rattle.std.specs.List.{list_any}
use Rattle.tool_audit.specs.Server.{Limits}
use Rattle.tool_audit.specs.Rules.{Planned}
use Rattle.tool_audit.specs.Replay.{Account, room}

-- what is left of the capacity
abbrev pub left : Limits → Account → ℕ
left s a = s.budget + a.refilled - a.high

-- whether the thread runs at its high priority while capacity is left
abbrev pub can : Limits → Account → Bool
can s a = a.has && room s a

abbrev pub leap_with : Limits → ℕ → ℕ → Bool → Account → Account
leap_with s k rest may a = record {
  started = a.started;
  exited = a.exited;
  has = a.has;
  now = a.now + k;
  ran = a.ran + (if a.has then k else 0);
  high = a.high + (if may then min rest k else 0);
  refilled = a.refilled;
  planned = a.planned;
  ahead = a.ahead;
  active = a.active;
  fresh = may && nat_le k rest;
  owes = may && k == rest;
  late = a.late || (not a.exited && list_any (λ (p : Planned). nat_lt p.from (a.now + k)) a.ahead);
  unpaid = a.unpaid || (a.owes || (may && (nat_lt 0 rest && nat_lt rest k)));
}

-- k ticks, at least one
abbrev pub leap : Limits → ℕ → Account → Account
leap s k a = leap_with s k (left s a) (can s a) a
