-- What a plan and a refill keep.
use Rattle.std.proofs.Common.{◌≡◌, ◌<◌, ◌+◌, ◌∙◌, ℕ, List, [], ◌∷◌, Bool, true, false, None, Option, Some, ap, arith, length, option_map, refl, sym}
use Rattle.std.specs.Prelude.{◌++◌, ◌==◌, ◌&&◌, if◌then◌else◌, nat_lt, not, option_and_then}
use Rattle.rules_bodies.specs.declared.cursor.Cursor.{Cursor}
use Rattle.words_script.specs.declared.policy.Policy.{Policy}
use Rattle.words_script.specs.declared.policy.Policy.TheVariants as policy
use Rattle.rules_server.specs.declared.Replenish.{Replenish}
use Rattle.rules_server.specs.declared.ServerKind.{ServerKind}
use Rattle.rules_server.specs.declared.ServerKind.TheVariants as kind
use Rattle.rules_server.specs.Server.{ServerState, is_high, is_high_as, joins_as, next_due, plan, planned_in, replenishment}
use Rattle.rules_machine.specs.Priorities.{Claim, assigned_in, assigned_of, assigned_under}
use Rattle.rules_machine.specs.Servers.{with_server}
use Rattle.rules_machine.specs.State.{Thread, Timer}
use Rattle.rules_machine.specs.Threads.{thread_in}
use Rattle.kernel_threads.specs.declared.ends.Planned.{Planned}
use Rattle.kernel_threads.specs.Ends.{planned_of}
use Rattle.parts_waiters.specs.declared.Place.{Place}
use Rattle.parts_owners.specs.Chains.{Links, assigned_at}
use Rattle.parts_wheel.specs.Dues.{due_of}
use Rattle.kernel_table.specs.Plans.{IsPlanned}
use Rattle.kernel_table.specs.Tied.{AreArmed, IsTied}
use Rattle.kernel_table.specs.Times.{refill_of}
use Rattle.kernel_table.proofs.Charges.{assigned_is}

-- the priority that the chain has of a thread
pub chain_has : (threads : List (Thread Cursor)) (chain : Links) (places : List (Option Place)) (t : ℕ) → IsTied threads chain places → t < length threads →
    assigned_of (thread_in threads t) ≡ assigned_at chain t
chain_has threads chain places t tied known = sym (assigned_is threads chain t known) ∙ ap (λ (cs : List Claim). assigned_in cs chain.mutexes t) (sym tied.claims)

-- ---- the server

longer : (rs : List Replenish) (r : Replenish) → length (rs ++ r ∷ []) ≡ length rs + 1
longer [] r = refl
longer (x ∷ rs) r = let e = longer rs r in omega (arith, e)

has_less : (n max : ℕ) → nat_lt (n + 1) max ≡ true → nat_lt n max ≡ true
has_less n max h = grind arith

-- where there is room for one more, the plan changes no priority
plan_high : (s : ServerState) → nat_lt (length s.pending + 1) s.params.max ≡ true → is_high (plan s) ≡ is_high s
plan_high s room = by_kind s.kind
  where
    by_kind : (k : ServerKind) → is_high_as k s.capacity (length (planned_in (joins_as k (length s.pending) s.params.max) (replenishment s) s.pending)) s.params.max ≡ is_high_as k s.capacity (length s.pending) s.params.max
    by_kind kind.Sporadic =
        ap (λ (b : Bool). nat_lt 0 s.capacity && b)
        (ap (λ (n : ℕ). nat_lt n s.params.max) (longer s.pending (replenishment s)) ∙ room ∙ sym (has_less (length s.pending) s.params.max room))
    by_kind kind.Strict = refl

-- and it joins no other
not_joined : (k : ServerKind) (n max : ℕ) → nat_lt (n + 1) max ≡ true → joins_as k n max ≡ false
not_joined kind.Sporadic n max room = refl
not_joined kind.Strict n max room = ap not (has_less n max room)

plan_due : (s : ServerState) → nat_lt (length s.pending + 1) s.params.max ≡ true → next_due (plan s) ≡ next_due (record s { pending = s.pending ++ replenishment s ∷ [] })
plan_due s room = ap (λ (b : Bool). next_due (record s { pending = planned_in b (replenishment s) s.pending })) (not_joined s.kind (length s.pending) s.params.max room)

plan_assigned : (p : Policy) (s : ServerState) → nat_lt (length s.pending + 1) s.params.max ≡ true → assigned_under p (Some (plan s)) ≡ assigned_under p (Some s)
plan_assigned (policy.Fifo p) s room = refl
plan_assigned (policy.Rr p) s room = refl
plan_assigned (policy.Sporadic params) s room = ap (λ (b : Bool). if b then s.params.high else s.params.low) (plan_high s room)
plan_assigned (policy.Strict params) s room = ap (λ (b : Bool). if b then s.params.high else s.params.low) (plan_high s room)

nothing_due : (rs : List Replenish) (r : Replenish) (s : ServerState) → (length rs == 0) ≡ true → (next_due (record s { pending = rs }) ≡ None) × (next_due (record s { pending = rs ++ r ∷ [] }) ≡ Some r.due)
nothing_due [] r s h = (refl, refl)
nothing_due (x ∷ rs) r s h = absurd (grind arith)

due_later : (rs : List Replenish) (r : Replenish) (s : ServerState) → (length rs == 0) ≡ false → next_due (record s { pending = rs }) ≡ next_due (record s { pending = rs ++ r ∷ [] })
due_later [] r s h = absurd cc
due_later (x ∷ rs) r s h = refl

-- ---- the thread

planned_one : (policy : Policy) (o : Option ServerState) (p : Planned) (due : Option ℕ) (before : ℕ) → Some p ≡ option_map planned_of o → due ≡ option_and_then next_due o → before ≡ assigned_under policy o →
    (th : Thread Cursor) → th.policy ≡ policy → th.server ≡ option_map plan o → IsPlanned th due before p
planned_one policy None p due before told armed assigned_so th same is = absurd cc
planned_one policy (Some s) p due before told armed assigned_so th same is =
    let one : p ≡ planned_of s = cc in
    let refills : refill_of th ≡ next_due (plan s) = ap (option_and_then next_due) is in
    record {
      first = λ room h. (let both = nothing_due s.pending (replenishment s) s (ap (λ (x : Planned). x.is_first) (sym one) ∙ h) in
          (armed ∙ both.0, refills ∙ plan_due s (ap (λ (x : Planned). x.has_room) (sym one) ∙ room) ∙ both.1 ∙ ap (λ (x : Planned). Some (x.replenish.due)) (sym one)));
      later = λ room h. armed ∙ due_later s.pending (replenishment s) s (ap (λ (x : Planned). x.is_first) (sym one) ∙ h) ∙ sym (refills ∙ plan_due s (ap (λ (x : Planned). x.has_room) (sym one) ∙ room));
      same = λ h. ap (λ (x : Policy). assigned_under x th.server) same ∙ ap (assigned_under policy) is ∙ plan_assigned policy s (ap (λ (x : Planned). x.has_room) (sym one) ∙ h) ∙ sym assigned_so;
    }

pub planned : (threads : List (Thread Cursor)) (chain : Links) (places : List (Option Place)) (timers : List Timer) (dues : List (Option ℕ)) (t : ℕ) (th : Thread Cursor) (p : Planned) →
    t < length threads → IsTied threads chain places → AreArmed threads timers dues → Some p ≡ option_map planned_of (thread_in threads t).server →
    th ≡ with_server plan (thread_in threads t) → IsPlanned th (due_of t dues) (assigned_at chain t) p
planned threads chain places timers dues t th p known tied armed told is =
    let old = thread_in threads t in
    planned_one old.policy old.server p (due_of t dues) (assigned_at chain t) told (armed.refills t (omega (arith, known, tied.few))) (sym (chain_has threads chain places t tied known))
    th (ap (λ (x : Thread Cursor). x.policy) is) (ap (λ (x : Thread Cursor). x.server) is)
