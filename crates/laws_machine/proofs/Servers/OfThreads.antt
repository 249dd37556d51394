-- The server of a thread is right, and stays so as the thread takes a policy, wakes, and closes a run.
use Rattle.std.proofs.Common.{Bool, List, None, Option, Some, [], ap, arith, false, refl, suc, sym, true, zero, ℕ, ◌<◌, ◌≤◌, ◌∷◌, ◌≡◌}
use Rattle.std.specs.Prelude.{is_some, nat_lt, option_map, ◌&&◌, ◌==◌, if◌then◌else◌}
use mathlib.Core.Path.{subst, ◌∙◌}
use Rattle.words_numbers.specs.Parameters.{Parameters}
use Rattle.words_script.specs.declared.policy.Policy.{Policy}
use Rattle.words_script.specs.declared.policy.Policy.TheVariants as policy
use Rattle.rules_server.specs.declared.Replenish.{Replenish}
use Rattle.rules_server.specs.declared.ServerKind.{ServerKind}
use Rattle.rules_server.specs.declared.ServerKind.TheVariants as kind
use Rattle.rules_server.specs.Server as server
use Rattle.rules_server.specs.Server.{ServerState, activate, is_high, joined_after, plan, replenishment, set_high}
use Rattle.rules_machine.specs.State.{Status, Thread, blocked, dormant, ended, runnable}
use Rattle.rules_machine.specs.Threads.{is_blocked, is_live, is_runnable}
use Rattle.rules_machine.specs.Servers.{has_run, is_strict, may_open, server_of}
use Rattle.rules_machine.specs.WellFormed.{PolicyFits}
use Rattle.rules_machine.specs.Scheduling.{at_priority}
use Rattle.rules_machine.specs.GoodState.{HasParameters, has_server_policy}
use Rattle.rules_moves.proofs.Waiters.Best.{Each}
use Rattle.laws_machine.proofs.Servers.Right.{ServerIn, Serves, each_joined, each_more, not_strict}
use Rattle.laws_machine.proofs.Servers.Changed.{activated_in, high_parts, new_in, planned_in, priced_server}

-- ---- a thread

abbrev pub MayServe : Policy → Type 0
MayServe (policy.Fifo p) = Unit {0}
MayServe (policy.Rr p) = Unit {0}
MayServe (policy.Sporadic params) = Unit {0}
MayServe (policy.Strict params) = Serves params

pub fits_serve : (p : Policy) → PolicyFits p → MayServe p
fits_serve (policy.Fifo p) h = tt
fits_serve (policy.Rr p) h = tt
fits_serve (policy.Sporadic params) h = tt
fits_serve (policy.Strict params) h = (h.2.some_pending, h.2.budget_within_period)

pub record ThreadIn (own : Bool) (now : ℕ) (status : Status) (rule : Policy) (server : Option ServerState) : Type 0 where
  pub having : is_some server ≡ (is_live status && has_server_policy rule)
  pub serves : MayServe rule
  pub parameters : HasParameters rule server
  pub each : (s : ServerState) → server ≡ Some s → ServerIn own now status s

abbrev pub ThreadRight : {P : Type 0} → Bool → ℕ → Thread P → Type 0
ThreadRight own now th = ThreadIn own now th.status th.policy th.server

pub only : {X : Type 0} {a b : X} → Some a ≡ Some b → a ≡ b
only {X} {a} {b} e = ap out e
  where
    out : Option X → X
    out None = a
    out (Some x) = x

-- another server of the same parameters
pub with_other : (own own' : Bool) (now now' : ℕ) (status status' : Status) (rule : Policy) (server : Option ServerState) (f : ServerState → ServerState) → is_live status' ≡ is_live status →
    ((s : ServerState) → ((f s).params ≡ s.params) × ((f s).kind ≡ s.kind)) → ((s : ServerState) → server ≡ Some s → ServerIn own now status s → ServerIn own' now' status' (f s)) →
    ThreadIn own now status rule server → ThreadIn own' now' status' rule (option_map f server)
with_other own own' now now' status status' rule None f e p g h = record { having = rw e h.having; serves = h.serves; parameters = h.parameters; each = λ s k. absurd (grind arith) }
with_other own own' now now' status status' rule (Some server) f e p g h = record {
  having = rw e h.having;
  serves = h.serves;
  parameters = by_policy rule h.parameters;
  each = λ s k. subst (ServerIn own' now' status') (only k) (g server refl (h.each server refl));
}
  where
    by_policy : (rule : Policy) → HasParameters rule (Some server) → HasParameters rule (Some (f server))
    by_policy (policy.Fifo q) k = absurd (grind arith)
    by_policy (policy.Rr q) k = absurd (grind arith)
    by_policy (policy.Sporadic params) k = ((p server).0 ∙ k.0, (p server).1 ∙ k.1)
    by_policy (policy.Strict params) k = ((p server).0 ∙ k.0, (p server).1 ∙ k.1)

-- a new one
pub new_thread_in : (own : Bool) (now : ℕ) (status : Status) (new : Policy) → is_live status ≡ true → MayServe new → ThreadIn own now status new (server_of new now)
new_thread_in own now status (policy.Fifo q) e one = record { having = rw e refl; serves = tt; parameters = refl; each = λ s k. absurd (grind arith) }
new_thread_in own now status (policy.Rr q) e one = record { having = rw e refl; serves = tt; parameters = refl; each = λ s k. absurd (grind arith) }
new_thread_in own now status (policy.Sporadic params) e one = record {
  having = rw e refl;
  serves = tt;
  parameters = (refl, refl);
  each = λ s k. subst (ServerIn own now status) (only k) (new_in own now status kind.Sporadic params (λ k. absurd (not_strict (sym k))));
}
new_thread_in own now status (policy.Strict params) e one = record {
  having = rw e refl;
  serves = one;
  parameters = (refl, refl);
  each = λ s k. subst (ServerIn own now status) (only k) (new_in own now status kind.Strict params (λ k. one));
}

-- another high priority
pub priced_in : (p : ℕ) (own : Bool) (now : ℕ) (status : Status) (old : Policy) (server : Option ServerState) → ThreadIn own now status old server → ThreadIn own now status (at_priority p old) (option_map (set_high p) server)
priced_in p own now status (policy.Fifo q) None h = record { having = h.having; serves = tt; parameters = refl; each = λ s k. absurd (grind arith) }
priced_in p own now status (policy.Fifo q) (Some s) h = absurd (grind (arith, h.parameters))
priced_in p own now status (policy.Rr q) None h = record { having = h.having; serves = tt; parameters = refl; each = λ s k. absurd (grind arith) }
priced_in p own now status (policy.Rr q) (Some s) h = absurd (grind (arith, h.parameters))
priced_in p own now status (policy.Sporadic params) None h = record { having = h.having; serves = tt; parameters = tt; each = λ s k. absurd (grind arith) }
priced_in p own now status (policy.Sporadic params) (Some server) h = record {
  having = h.having;
  serves = h.serves;
  parameters = (ap (λ (q : Parameters). record q { high = p }) h.parameters.0, h.parameters.1);
  each = λ s k. subst (ServerIn own now status) (only k) (priced_server p own now status server (h.each server refl));
}
priced_in p own now status (policy.Strict params) None h = record { having = h.having; serves = h.serves; parameters = tt; each = λ s k. absurd (grind arith) }
priced_in p own now status (policy.Strict params) (Some server) h = record {
  having = h.having;
  serves = h.serves;
  parameters = (ap (λ (q : Parameters). record q { high = p }) h.parameters.0, h.parameters.1);
  each = λ s k. subst (ServerIn own now status) (only k) (priced_server p own now status server (h.each server refl));
}

-- a blocked thread that is in no unit of its own has consumed nothing
pub none_consumed : (now : ℕ) (status : Status) (s : ServerState) → is_blocked status ≡ true → ServerIn false now status s → s.consumed ≡ 0
none_consumed now status s e h = by_size s.consumed refl
  where
    not_both : (status : Status) → is_blocked status ≡ true → is_runnable status ≡ true → ⊥
    not_both (dormant at) p q = absurd (grind arith)
    not_both runnable p q = absurd (grind arith)
    not_both (blocked w) p q = absurd (grind arith)
    not_both ended p q = absurd (grind arith)

    by_size : (n : ℕ) → s.consumed ≡ n → s.consumed ≡ 0
    by_size zero k = k
    by_size (suc n) k = absurd (not_both status e ((h.consumed (omega arith)).runs refl).0)

-- what a waking comes to: where the priority is high a sporadic thread is activated
abbrev pub woken_if : Bool → ServerKind → ℕ → ServerState → ServerState
woken_if high kind.Sporadic now s = if high then activate now s else s
woken_if high kind.Strict now s = s

abbrev pub woken_as : ServerKind → ℕ → ServerState → ServerState
woken_as k now s = woken_if (is_high s) k now s

abbrev pub woken_server : ℕ → ServerState → ServerState
woken_server now s = woken_as s.kind now s

pub woken_in : (now : ℕ) (status : Status) (rule : Policy) (server : Option ServerState) → is_blocked status ≡ true → ThreadIn false now status rule server →
    ThreadIn false now runnable rule (option_map (woken_server now) server)
woken_in now status rule server e h =
    with_other false false now now status runnable rule server (woken_server now) (live status e) (λ s. same_params s.kind s) (λ s k g. by_kind s.kind s refl (none_consumed now status s e g) g) h
  where
    live : (status : Status) → is_blocked status ≡ true → is_live runnable ≡ is_live status
    live (dormant at) p = absurd (grind arith)
    live runnable p = refl
    live (blocked w) p = refl
    live ended p = absurd (grind arith)

    same_high : (b : Bool) (s : ServerState) → ((if b then activate now s else s).params ≡ s.params) × ((if b then activate now s else s).kind ≡ s.kind)
    same_high true s = (refl, refl)
    same_high false s = (refl, refl)

    same_params : (k : ServerKind) (s : ServerState) → ((woken_as k now s).params ≡ s.params) × ((woken_as k now s).kind ≡ s.kind)
    same_params kind.Sporadic s = same_high (is_high s) s
    same_params kind.Strict s = (refl, refl)

    by_kind : (k : ServerKind) (s : ServerState) → s.kind ≡ k → s.consumed ≡ 0 → ServerIn false now status s → ServerIn false now runnable (woken_as k now s)
    by_kind kind.Sporadic s e none g = of_high (is_high s) refl
      where
        of_high : (b : Bool) → is_high s ≡ b → ServerIn false now runnable (if b then activate now s else s)
        of_high true k = activated_in false now runnable s none g.sound
        of_high false k = record { sound = g.sound; consumed = λ some. absurd (omega arith); ready = λ other runs high. absurd (grind arith) }
    by_kind kind.Strict s e none g = record { sound = g.sound; consumed = λ some. absurd (omega arith); ready = λ other runs high. absurd (not_strict (sym e ∙ other)) }

-- a run that is open is one of a strict server
pub run_parts : (s : ServerState) → has_run (Some s) ≡ true → (s.kind ≡ kind.Strict) × (1 ≤ s.consumed)
run_parts s e = by_kind s.kind refl e
  where
    by_kind : (k : ServerKind) → s.kind ≡ k → (is_strict k && nat_lt 0 s.consumed) ≡ true → (s.kind ≡ kind.Strict) × (1 ≤ s.consumed)
    by_kind kind.Sporadic k e = absurd (grind arith)
    by_kind kind.Strict k e = (k, grind arith)

-- and it is closed by a plan
pub closed_in : (now : ℕ) (status : Status) (s : ServerState) → has_run (Some s) ≡ true → ServerIn false now status s → ServerIn false now status (plan s)
closed_in now status s run h =
    let strict = run_parts s run in
    planned_in false now status s strict.1 (λ k. absurd (not_strict (sym strict.0 ∙ k))) (record {
      sound = h.sound;
      consumed = λ some. let c = h.consumed some in record { fresh = c.fresh; before = c.before; room = c.room; unbroken = c.unbroken; runs = λ e. absurd (grind arith) };
      ready = h.ready;
    })

-- a run that may begin finds nothing consumed
pub opening_none : (s : ServerState) → may_open s ≡ true → s.consumed ≡ 0
opening_none s e = third (is_strict s.kind) (is_high s) s.consumed e
  where
    third : (a b : Bool) (n : ℕ) → (a && b && n == 0) ≡ true → n ≡ 0
    third a b n e = grind arith

-- A plan made now is due at once at the earliest, and later where there is capacity.
abbrev pub InTime : ℕ → ServerState → Type 0
InTime now s = 1 ≤ s.consumed → s.kind ≡ kind.Strict → now ≤ (replenishment s).due

pub in_time : (own : Bool) (now : ℕ) (status : Status) (s : ServerState) → ServerIn own now status s → InTime now s
in_time own now status s h some k =
    let run = (h.consumed some).unbroken k in
    let sum = h.sound.budget in
    let fits = (h.sound.serves k).1 in omega arith

-- and of a run that is open it is due later
pub in_time_later : (now : ℕ) (status : Status) (s : ServerState) → has_run (Some s) ≡ true → ServerIn false now status s → now < (replenishment s).due
in_time_later now status s opened h =
    let strict = run_parts s opened in
    let c = h.consumed strict.1 in
    let run = c.unbroken strict.0 in
    let sum = h.sound.budget in
    let fits = (h.sound.serves strict.0).1 in
    let left = (high_parts s (c.runs refl).1).0 in omega arith

each_joined_due : (hi : ℕ) (r q : Replenish) (rs : List Replenish) → hi < r.due → Each (λ (x : Replenish). hi < x.due) (q ∷ rs) → Each (λ (x : Replenish). hi < x.due) (joined_after r q rs)
each_joined_due hi r q rs lt each = each_joined (λ (x : Replenish). hi < x.due) r (λ x h. lt) q rs each

-- what is pending after a plan is due later where what was pending is, and the plan
pub planned_due : (joins : Bool) (hi : ℕ) (r : Replenish) (rs : List Replenish) → hi < r.due → Each (λ (x : Replenish). hi < x.due) rs → Each (λ (x : Replenish). hi < x.due) (server.planned_in joins r rs)
planned_due false hi r rs lt each = each_more (λ (x : Replenish). hi < x.due) rs r each lt
planned_due true hi r [] lt each = (lt, tt)
planned_due true hi r (q ∷ rs) lt each = each_joined_due hi r q rs lt each
