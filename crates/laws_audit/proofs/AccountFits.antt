-- What an account has to agree with in a thread, and what an event changes of it.
use Rattle.std.proofs.Common.{Bool, None, Option, Some, ap, arith, false, refl, sym, true, ℕ, ◌≤◌, ◌≡◌}
use Rattle.std.specs.Prelude.{not, ◌==◌, ◌&&◌}
use mathlib.Core.Path.{◌∙◌}
use Rattle.words_numbers.specs.Parameters.{Parameters}
use Rattle.words_script.specs.declared.policy.Policy.{Policy}
use Rattle.words_script.specs.declared.policy.Policy.TheVariants as policy
use Rattle.words_trace.specs.declared.event.Event.{Event}
use Rattle.words_trace.specs.declared.event.Event.TheVariants as event
use Rattle.rules_server.specs.declared.ServerKind.{ServerKind}
use Rattle.rules_server.specs.declared.ServerKind.TheVariants as server_kind
use Rattle.rules_server.specs.Server.{ServerState}
use Rattle.rules_machine.specs.Lists.{is}
use Rattle.rules_machine.specs.State.{Status, blocked, dormant, ended, runnable}
use Rattle.rules_machine.specs.Threads.{is_blocked, is_dormant, is_live, is_runnable}
use Rattle.rules_machine.specs.Servers.{at_once, at_once_as}
use Rattle.rules_machine.specs.Waking.{started}
use Rattle.rules_moves.specs.Moves.{is_quiet}
use Rattle.tool_audit.specs.declared.server.Limits.{Limits}
use Rattle.tool_audit.specs.Marks.{Saying, if_mine, is_activated, is_refilled, nothing}
use Rattle.tool_audit.specs.Replay.{Account, after_saying}
use Rattle.tool_audit.specs.Replay as replay
use Rattle.laws_audit.specs.Events.{is_end_event, said_by}
use Rattle.laws_audit.proofs.Accounts.{Blank, Clear, IsLimit}

pub contra : {b : Bool} → b ≡ true → b ≡ false → ⊥
contra p q = grind arith

abbrev pub is_ended : Status → Bool
is_ended (dormant at) = false
is_ended runnable = false
is_ended (blocked w) = false
is_ended ended = true

pub runs_lives : (status : Status) → is_runnable status ≡ true → (is_dormant status ≡ false) × (is_ended status ≡ false)
runs_lives (dormant at) e = absurd (grind arith)
runs_lives runnable e = (refl, refl)
runs_lives (blocked w) e = (refl, refl)
runs_lives ended e = absurd (grind arith)

pub blocked_lives : (status : Status) → is_blocked status ≡ true → (is_dormant status ≡ false) × (is_ended status ≡ false)
blocked_lives (dormant at) e = absurd (grind arith)
blocked_lives runnable e = absurd (grind arith)
blocked_lives (blocked w) e = (refl, refl)
blocked_lives ended e = absurd (grind arith)

pub live_lives : (status : Status) → is_live status ≡ true → (is_dormant status ≡ false) × (is_ended status ≡ false)
live_lives (dormant at) e = absurd (grind arith)
live_lives runnable e = (refl, refl)
live_lives (blocked w) e = (refl, refl)
live_lives ended e = absurd (grind arith)

pub dormant_not_ended : (status : Status) → is_dormant status ≡ true → is_ended status ≡ false
dormant_not_ended (dormant at) e = refl
dormant_not_ended runnable e = absurd (grind arith)
dormant_not_ended (blocked w) e = absurd (grind arith)
dormant_not_ended ended e = absurd (grind arith)

pub dormant_dead : (status : Status) (b : Bool) → is_dormant status ≡ true → (is_live status && b) ≡ false
dormant_dead (dormant at) b e = refl
dormant_dead runnable b e = absurd (grind arith)
dormant_dead (blocked w) b e = absurd (grind arith)
dormant_dead ended b e = absurd (grind arith)

-- ---- what an event says

pub quiet_said : (t : ℕ) (e : Event) → is_quiet e ≡ true → said_by t e ≡ nothing
quiet_said t (event.Return u call res value) h = refl
quiet_said t (event.Deliver u sig code value) h = refl
quiet_said t (event.Cancel u) h = refl
quiet_said t (event.Killed sig) h = refl
quiet_said t e h = absurd (grind arith)

pub quiet_plain : (e : Event) → is_quiet e ≡ true → is_end_event e ≡ false
quiet_plain (event.Return u call res value) h = refl
quiet_plain (event.Deliver u sig code value) h = refl
quiet_plain (event.Cancel u) h = refl
quiet_plain (event.Killed sig) h = refl
quiet_plain e h = absurd (grind arith)

pub not_mine : (b : Bool) (w : Saying) → b ≡ false → if_mine b w ≡ nothing
not_mine true w e = absurd (grind arith)
not_mine false w e = refl

pub mine_says : (t : ℕ) (w : Saying) → if_mine (t == t) w ≡ w
mine_says t w = let itself : (t == t) ≡ true = grind arith in ap (λ (b : Bool). if_mine b w) itself

-- ---- a sporadic server is activated at once

pub at_once_is : (o : Option ServerState) (x : ServerState) → at_once o ≡ Some x → o ≡ Some x
at_once_is None x e = absurd (grind arith)
at_once_is (Some y) x e = by_kind y.kind e
  where
    by_kind : (k : ServerKind) → at_once_as k y ≡ Some x → Some y ≡ Some x
    by_kind server_kind.Sporadic e = e
    by_kind server_kind.Strict e = absurd (grind arith)

pub at_once_some : (o : Option ServerState) (x : ServerState) → o ≡ Some x → x.kind ≡ server_kind.Sporadic → at_once o ≡ None → ⊥
at_once_some o x is sort none = some_none (sym (ap (λ (k : ServerKind). at_once_as k x) sort) ∙ sym (ap at_once is) ∙ none)
  where
    some_none : Some x ≡ None → ⊥
    some_none e = absurd (grind arith)

-- ---- the account and the thread

module _ (lim : Limits) (own tolled : Bool) where
  -- a plan is owed of what was consumed
  abbrev pub Owing : Option ServerState → Type 0
  Owing o = (x : ServerState) × (o ≡ Some x) × (1 ≤ x.consumed) × (x.capacity ≡ 0)

  abbrev pub IsRule : Policy → Type 0
  IsRule r = (p : Parameters) × (r ≡ policy.Sporadic p) × IsLimit lim p

  abbrev pub Kind : Type 1
  Kind = ℕ → Status → ServerState → Account → Type 0

  pub record Fits (Q : ℕ → Status → ServerState → Account → Type 0) (now : ℕ) (status : Status) (rule : Policy) (server : Option ServerState) (ran : ℕ) (b : Account) : Type 0 where
    pub clear : Clear lim b
    pub at : b.now ≡ now
    pub started : b.started ≡ not (is_dormant status)
    pub exited : b.exited ≡ is_ended status
    pub ticks : b.ran ≡ ran
    pub blank : is_dormant status ≡ true → Blank lim b
    pub limits : IsRule rule
    pub fresh : own ≡ true → tolled ≡ true → b.fresh ≡ true
    pub owes : b.owes ≡ true → (own ≡ true) × (tolled ≡ true) × Owing server
    pub each : (x : ServerState) → server ≡ Some x → Q now status x b

  pub lives_account : (Q : ℕ → Status → ServerState → Account → Type 0) (now : ℕ) (status : Status) (rule : Policy) (server : Option ServerState) (ran : ℕ) (b : Account) → (is_dormant status ≡ false) × (is_ended status ≡ false) → Fits Q now status rule server ran b → replay.lives b ≡ true
  lives_account Q now status rule server ran b live f = let p = f.started in let q = f.exited in let d = live.0 in let e = live.1 in grind arith

  -- what an event or a change of a thread that lives leaves
  pub record Same (b b' : Account) : Type 0 where
    pub late : b'.late ≡ b.late
    pub unpaid : b'.unpaid ≡ b.unpaid
    pub now : b'.now ≡ b.now
    pub started : b'.started ≡ b.started
    pub exited : b'.exited ≡ b.exited
    pub ran : b'.ran ≡ b.ran
    pub fresh : b'.fresh ≡ b.fresh
    pub owes : b'.owes ≡ true → b.owes ≡ true

  pub refit : (Q R : ℕ → Status → ServerState → Account → Type 0) (now : ℕ) (status status' : Status) (rule : Policy) (server server' : Option ServerState) (ran : ℕ) (b b' : Account) →
      Same b b' → (is_dormant status ≡ false) × (is_ended status ≡ false) → (is_dormant status' ≡ false) × (is_ended status' ≡ false) → (own ≡ true → Owing server → Owing server') →
      ((x : ServerState) → server' ≡ Some x → R now status' x b') → Fits Q now status rule server ran b → Fits R now status' rule server' ran b'
  refit Q R now status status' rule server server' ran b b' same live live' owing each f = record {
    clear = record { late = same.late ∙ f.clear.late; unpaid = same.unpaid ∙ f.clear.unpaid };
    at = same.now ∙ f.at;
    started = same.started ∙ f.started ∙ ap not (live.0 ∙ sym live'.0);
    exited = same.exited ∙ f.exited ∙ live.1 ∙ sym live'.1;
    ticks = same.ran ∙ f.ticks;
    blank = λ d. absurd (contra d live'.0);
    limits = f.limits;
    fresh = λ o k. same.fresh ∙ f.fresh o k;
    owes = λ o. let old = f.owes (same.owes o) in (old.0, old.1, owing old.0 old.2);
    each = each;
  }

  pub same_account : (b : Account) → Same b b
  same_account b = record { late = refl; unpaid = refl; now = refl; started = refl; exited = refl; ran = refl; fresh = refl; owes = λ o. o }

  pub same_activated : (b : Account) (c : ℕ) → Same b (after_saying b (is_activated c))
  same_activated b c = record { late = refl; unpaid = refl; now = refl; started = refl; exited = refl; ran = refl; fresh = refl; owes = λ o. o }

  pub same_refilled : (b : Account) (n c : ℕ) → Same b (after_saying b (is_refilled n c))
  same_refilled b n c = record { late = refl; unpaid = refl; now = refl; started = refl; exited = refl; ran = refl; fresh = refl; owes = λ o. o }
