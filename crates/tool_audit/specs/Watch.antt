-- What the audit keeps of a trace, line by line: an account for each server in place of the lines. It is another way to what the rules say.
-- This project's own.
use Rattle.std.specs.Prelude.{ℕ, ◌+◌, ◌==◌, ◌&&◌, ◌||◌, not, nat_le, Bool, true, false, if◌then◌else◌, List, [], ◌∷◌, Option, None, Some, map}
use Rattle.tool_check.specs.declared.form.Form.{Form}
use Rattle.tool_check.specs.declared.form.Form.TheVariants as form
use Rattle.tool_check.specs.Lines.{Reading}
use Rattle.tool_audit.specs.Server.{Limits, NamedServer}
use Rattle.tool_audit.specs.Marks.{mark_of}
use Rattle.tool_audit.specs.Rules.{if_broken}
use Rattle.std.specs.List.{list_all}
use Rattle.tool_audit.specs.Breach.{Breach, breach_of, is_closing, is_closing_of, is_end, least}
use Rattle.tool_audit.specs.Replay.{Account, after_mark, breaks, lives, opened}

pub record Watched : Type 0 where
  pub server : NamedServer
  pub account : Account
  -- its closing line has come
  pub closed : Bool

-- the whole: whether the `end` has come, the time of the last line before it, and the servers
pub record Watch : Type 0 where
  pub ended : Bool
  pub time : ℕ
  pub each : List Watched

abbrev pub watched : NamedServer → Watched
watched s = record { server = s; account = opened; closed = false }

abbrev pub begun : List NamedServer → Watch
begun servers = record { ended = false; time = 0; each = map watched servers }

-- the numbers of a closing line
abbrev pub fits_numbers : Limits → Account → Form → List ℕ → Bool
fits_numbers s a form.Thread (ticks ∷ []) = not (lives a) && ticks == a.ran
fits_numbers s a form.Budget (ticks ∷ high ∷ init ∷ refilled ∷ capacity ∷ []) =
    lives a && (ticks == a.ran && (high == a.high && (init == s.budget && (refilled == a.refilled && capacity + high == init + refilled))))
fits_numbers s a f nums = false

abbrev pub fits_end : Watched → Reading → Bool
fits_end w r = if is_closing_of w.server.name r then not w.closed && fits_numbers w.server.limits w.account r.form r.nums else true

abbrev pub watched_breaks : Watched → Reading → Option ℕ
watched_breaks w r = if is_closing r.form then if_broken (fits_end w r) 6 None else breaks w.server.limits w.account (mark_of w.server.name r)

abbrev pub any_breaks : List Watched → Reading → Option ℕ
any_breaks [] r = None
any_breaks (w ∷ ws) r = least (watched_breaks w r) (any_breaks ws r)

abbrev pub fits_order : Watch → Reading → Bool
fits_order w r = if is_closing r.form then w.ended else not w.ended && nat_le w.time r.time

-- the least rule that a line breaks
abbrev pub watch_breaks : Watch → Reading → Option ℕ
watch_breaks w r = if_broken (fits_order w r) 1 (any_breaks w.each r)

-- ---- after a line

abbrev pub watched_after : Reading → Watched → Watched
watched_after r w =
    if is_closing r.form then record { server = w.server; account = w.account; closed = w.closed || is_closing_of w.server.name r }
    else record { server = w.server; account = after_mark w.server.limits w.account (mark_of w.server.name r); closed = w.closed }

abbrev pub watch_after : Reading → Watch → Watch
watch_after r w = record { ended = w.ended || is_end r.form; time = if is_closing r.form then w.time else r.time; each = map (watched_after r) w.each }

-- what never comes
abbrev pub watch_lacks : Watch → Option ℕ
watch_lacks w = if_broken w.ended 1 (if_broken (list_all (λ (x : Watched). x.closed) w.each) 6 None)

abbrev pub watch_reading : Watch → Option Reading → Option ℕ
watch_reading w None = Some 1
watch_reading w (Some r) = watch_breaks w r

abbrev pub watch_with : Option Reading → Watch → Watch
watch_with None w = w
watch_with (Some r) w = watch_after r w

-- the first breach of these lines, the first of which has this number
abbrev pub watch_breach : Watch → ℕ → List (Option Reading) → Option Breach
watch_breach w line [] = breach_of (watch_lacks w) line None
watch_breach w line (r ∷ rs) = breach_of (watch_reading w r) line (watch_breach (watch_with r w) (line + 1) rs)
