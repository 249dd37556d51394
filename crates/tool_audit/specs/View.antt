-- What contracts see of the account of one server.
use Rattle.std.specs.Prelude.{ℕ, ◌+◌, ◌*◌, ◌^◌, ◌≤◌, ◌==◌, ◌&&◌, ◌||◌, Bool, not, min, nat_lt, nat_le, if◌then◌else◌, map, Option, None, Some, ◌≡◌}
use Rattle.std.specs.List.{list_any, sum}
use Rattle.tool_audit.specs.declared.replay.Replay.TheInside.{Inside}
use Rattle.tool_audit.specs.Server.{Limits}
use Rattle.tool_audit.specs.Rules.{Planned, if_broken}
use Rattle.tool_audit.specs.Marks.{Saying}
use Rattle.tool_audit.specs.Replay.{Account, Activation, advanced, after_saying}

pub record Kept : Type 0 where
  pub limits : Limits
  pub account : Account

abbrev pub kept_of : Inside → Kept
kept_of i = record {
  limits = record { period = i.period; budget = i.budget; max = i.max };
  account = record {
    started = i.started;
    exited = i.exited;
    has = i.has;
    now = i.instant;
    ran = i.ran;
    high = i.high;
    refilled = i.refilled;
    planned = i.planned;
    ahead = i.ahead.items;
    active = i.active;
    fresh = i.fresh;
    owes = i.owes;
    late = i.late;
    unpaid = i.unpaid;
  };
}

-- the numbers of a head, and what they come to before a rule is broken
pub record IsKept (k : Kept) : Type 0 where
  pub budget_small : k.limits.budget ≤ 10 ^ 18
  pub period_small : k.limits.period ≤ 10 ^ 18
  pub max_small : k.limits.max ≤ 16
  pub early : k.account.now ≤ 3 * 10 ^ 18
  pub ran : k.account.ran ≤ k.account.now
  pub high : k.account.high ≤ k.account.now
  pub within : k.account.high ≤ k.limits.budget + k.account.refilled
  pub refilled : k.account.refilled ≤ k.account.planned
  pub used : k.account.planned ≤ k.account.high
  -- what was planned and is not refilled is ahead
  pub pending : k.account.refilled + sum (map (λ (p : Planned). p.amount) k.account.ahead) ≡ k.account.planned
  -- nothing was used at the last activation that was not planned
  pub since : (x : Activation) → k.account.active ≡ Some x → k.account.planned ≡ x.high

abbrev pub IsInside : Inside → Type 0
IsInside i = IsKept (kept_of i)

abbrev pub after_advance : ℕ → Kept → Kept
after_advance to k = record { limits = k.limits; account = advanced k.limits to k.account }

-- a refill is missing whose instant is below this one
abbrev pub misses_by : Account → ℕ → Bool
misses_by a to = not a.exited && list_any (λ (p : Planned). nat_lt p.from to) a.ahead

-- k ticks on
abbrev pub leapt_account : ℕ → ℕ → Bool → Bool → Account → Account
leapt_account k rest may missed a = record {
  started = a.started;
  exited = a.exited;
  has = a.has;
  now = a.now + k;
  ran = a.ran + (if a.has then k else 0);
  high = a.high + (if may then min rest k else 0);
  refilled = a.refilled;
  planned = a.planned;
  ahead = a.ahead;
  active = a.active;
  fresh = may && nat_le k rest;
  owes = may && k == rest;
  late = a.late || missed;
  unpaid = a.unpaid || (a.owes || (may && (nat_lt 0 rest && nat_lt rest k)));
}

abbrev pub leapt : ℕ → ℕ → Bool → Bool → Kept → Kept
leapt k rest may missed kept = record { limits = kept.limits; account = leapt_account k rest may missed kept.account }

-- whether so much is left of the capacity
abbrev pub is_left : Kept → ℕ → Bool
is_left k capacity = capacity + k.account.high == k.limits.budget + k.account.refilled

-- the least rule that is broken, where each is kept or not, but for what is missing
abbrev pub judged : Bool → Bool → Bool → Bool → Bool → Kept → Option ℕ
judged one two three four five k =
    if_broken one 1 (if_broken two 2 (if_broken (three && not k.account.late) 3 (if_broken four 4 (if_broken (five && not k.account.unpaid) 5 None))))

-- the thread's line is said
abbrev pub said : Saying → Kept → Kept
said w k = record { limits = k.limits; account = after_saying k.account w }
