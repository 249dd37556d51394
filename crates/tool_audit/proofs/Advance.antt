-- The leap of the code is the way to an instant.
use Rattle.std.proofs.Common.{Bool, ap, arith, sym, ℕ, ◌+◌, ◌<◌, ◌≡◌, ◌≤◌, ◌∙◌}
use Rattle.std.specs.Prelude.{◌-◌}
use Rattle.tool_audit.specs.Server.{Limits}
use Rattle.tool_audit.specs.Replay.{Account, ticks}
use Rattle.tool_audit.specs.Leap.{can, leap_with, left}
use Rattle.tool_audit.specs.View.{Kept, after_advance, leapt, leapt_account, misses_by}
use Rattle.tool_audit.proofs.Leaps.{advances}

with_account : Kept → Account → Kept
with_account k a = record { limits = k.limits; account = a }

as_leap : (s : Limits) (a : Account) (to : ℕ) → a.now < to → leapt_account (to - a.now) (left s a) (can s a) (misses_by a to) a ≡ leap_with s (to - a.now) (left s a) (can s a) a
as_leap s a to h = let same : to ≡ a.now + (to - a.now) = omega arith in ap (λ (n : ℕ). leapt_account (to - a.now) (left s a) (can s a) (misses_by a n) a) same

pub went_on : (k : Kept) (to ticks rest : ℕ) (may missed : Bool) → ticks ≡ to - k.account.now → k.account.now < to → rest ≡ left k.limits k.account → may ≡ can k.limits k.account → missed ≡ misses_by k.account to → leapt ticks rest may missed k ≡ after_advance to k
unfolding with_account
went_on k to ticks rest may missed t h r m x =
    ap (λ (n : ℕ). leapt n rest may missed k) t ∙ ap (λ (n : ℕ). leapt (to - k.account.now) n may missed k) r ∙ ap (λ (b : Bool). leapt (to - k.account.now) (left k.limits k.account) b missed k) m
    ∙ ap (λ (b : Bool). leapt (to - k.account.now) (left k.limits k.account) (can k.limits k.account) b k) x
    ∙ ap (with_account k) (as_leap k.limits k.account to h ∙ sym (advances k.limits k.account to h))

-- an instant that is passed is not gone on to
pub stays_there : (k : Kept) (to : ℕ) → to ≤ k.account.now → k ≡ after_advance to k
unfolding with_account
stays_there k to h = let none : 0 ≡ to - k.account.now = omega arith in ap (λ (n : ℕ). with_account k (ticks k.limits n k.account)) none
