-- A machine without strict servers does what it did before there were any.
use Rattle.std.proofs.Common.{ap, Bool, List, None, Option, Some, [], false, refl, true, ℕ, ◌∷◌, ◌≡◌}
use Rattle.std.specs.Prelude.{not, ◌&&◌}
use mathlib.Core.Path.{◌∙◌}
use Rattle.rules_server.specs.Server.{ServerState}
use Rattle.rules_machine.specs.Lists.{is}
use Rattle.rules_machine.specs.State.{Machine}
use Rattle.rules_machine.specs.Threads.{thread_at, thread_numbers}
use Rattle.rules_machine.specs.Turns.{Turn, becomes, ◌▷◌}
use Rattle.rules_machine.specs.Servers.{closes, closes_of, has_run, is_strict, opens, opens_for}
use Rattle.rules_machine.specs.Bodies.{Bodies}
use Rattle.rules_machine.specs.Dispatch.{dispatch_event, dispatch_of, dispatches, head, is_same, tells_unless}
use Rattle.rules_machine.specs.Ticks.{runs, runs_head}

abbrev pub is_strict_server : Option ServerState → Bool
is_strict_server None = false
is_strict_server (Some server) = is_strict server.kind

abbrev pub NoneStrict : {P : Type 0} → Machine P → Type 0
NoneStrict m = (t : ℕ) → is_strict_server (thread_at m t).server ≡ false

no_run : (b : Bool) (o : Option ServerState) → is_strict_server o ≡ false → (b && has_run o) ≡ false
no_run true None e = refl
no_run false None e = refl
no_run true (Some server) e = rw e refl
no_run false (Some server) e = refl

closes_of_nothing : {P : Type 0} (to : Option ℕ) (ts : List ℕ) (s : Turn P) → NoneStrict s.machine → closes_of to ts s ≡ s
closes_of_nothing to [] s none = refl
closes_of_nothing to (t ∷ ts) s none = rw (no_run (not (is to t)) (thread_at s.machine t).server (none t)) (closes_of_nothing to ts s none)

pub closes_nothing : {P : Type 0} (to : Option ℕ) (s : Turn P) → NoneStrict s.machine → closes to s ≡ s
closes_nothing to s none = closes_of_nothing to (thread_numbers s.machine) s none

opens_for_nothing : {P : Type 0} (t : ℕ) (o : Option ServerState) (s : Turn P) → is_strict_server o ≡ false → opens_for t o s ≡ s
opens_for_nothing t None s e = refl
opens_for_nothing t (Some server) s e = rw e refl

pub opens_nothing : {P : Type 0} (to : Option ℕ) (s : Turn P) → NoneStrict s.machine → opens to s ≡ s
opens_nothing None s none = refl
opens_nothing (Some t) s none = opens_for_nothing t (thread_at s.machine t).server s (none t)

told_none : {P : Type 0} (b : Bool) (to : Option ℕ) (s : Turn P) → NoneStrict s.machine →
    NoneStrict (becomes (λ m. record m { last = dispatch_of to }) (tells_unless b (dispatch_event s.machine to) s)).machine
told_none true to s none = none
told_none false to s none = none

dispatched_none : {P : Type 0} (to : Option ℕ) (s : Turn P) → NoneStrict s.machine → NoneStrict (dispatches to s).machine
dispatched_none to s none = told_none (is_same s.machine.last to) to s none

-- The head runs as without Close and Open.
pub runs_head_as_before : {P : Type 0} (bodies : Bodies P) (s : Turn P) → NoneStrict s.machine →
    runs_head bodies s ≡ (s ▷ dispatches (head s.machine) ▷ runs bodies (head s.machine))
runs_head_as_before {P = P} bodies s none =
    let to = head s.machine in
    ap (λ (x : Turn P). runs bodies to (opens to (dispatches to x))) (closes_nothing to s none)
    ∙ ap (runs bodies to) (opens_nothing to (dispatches to s) (dispatched_none to s none))
