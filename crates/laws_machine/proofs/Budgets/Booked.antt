-- What holds of one server and its account, and what an activation, a new priority and a refill leave of it.
use Rattle.std.proofs.Common.{Bool, List, Option, [], arith, false, refl, sym, true, ℕ, ◌≤◌, ◌∷◌, ◌++◌, ◌≡◌}
use Rattle.std.specs.Prelude.{not, option_map, slice_get, ◌&&◌}
use mathlib.Core.Path.{subst, ◌∙◌}
use Rattle.words_numbers.specs.Parameters.{Parameters}
use Rattle.rules_server.specs.declared.Replenish.{Replenish}
use Rattle.rules_server.specs.declared.ServerKind.{ServerKind}
use Rattle.rules_server.specs.declared.ServerKind.TheVariants as kind
use Rattle.rules_server.specs.Server.{ServerState, activate, is_high, next_due, oldest_pending, refill, refill_from, set_high, new_server_as}
use Rattle.rules_machine.specs.Budget.{ServerEvent, activated, refilled}
use Rattle.rules_machine.specs.State.{Status}
use Rattle.rules_machine.specs.Threads.{is_runnable}
use Rattle.rules_machine.specs.Servers.{amount_of, regains_high}
use Rattle.rules_machine.specs.DueItems.{has_come}
use Rattle.laws_machine.proofs.Budgets.Accounts.{Books, InStep, activated_books, activated_in_step, new_books, priced_books}
use Rattle.laws_machine.proofs.Budgets.Entries.{count_last, since_last, stays_active}
use Rattle.laws_machine.proofs.Budgets.Replenishments.{refilled_books}
use Rattle.laws_machine.proofs.Servers.Changed.{refill_kind}
use Rattle.laws_machine.proofs.Servers.Right.{not_strict}

-- Where something is consumed, or a tick may be charged, what was consumed is what was used since the activation.
pub record Booked (now : ℕ) (status : Status) (x : ServerState) (acc : List ServerEvent) : Type 0 where
  pub books : Books now x acc
  pub consumed : 1 ≤ x.consumed → InStep x acc
  pub ready : x.kind ≡ kind.Sporadic → is_runnable status ≡ true → is_high x ≡ true → InStep x acc

-- nothing is consumed, and the thread may be activated
abbrev pub Still : ℕ → Status → ServerState → List ServerEvent → Type 0
Still now status x acc = Books now x acc × (x.consumed ≡ 0)

abbrev pub IsNew : ℕ → Status → ServerState → List ServerEvent → Type 0
IsNew now status x acc = (p : Parameters) × (k : ServerKind) × (x ≡ new_server_as k p now)

abbrev pub IsActive : ℕ → Status → ServerState → List ServerEvent → Type 0
IsActive now status x acc = (y : ServerState) × (x ≡ activate now y) × Still now status y acc

-- ---- on one server

pub contra : {b : Bool} → b ≡ true → b ≡ false → ⊥
contra p q = grind arith

pub active_booked : (now : ℕ) (status : Status) (x : ServerState) (acc : List ServerEvent) → IsActive now status x acc → Booked now status x (acc ++ activated now ∷ [])
active_booked now status x acc h =
    subst (λ (z : ServerState). Booked now status z (acc ++ activated now ∷ [])) (sym h.1) (record {
      books = activated_books now now h.0 acc h.2.0;
      consumed = λ some. let none = h.2.1 in absurd (omega arith);
      ready = λ k runs high. activated_in_step now h.0 acc h.2.1;
    })

pub low_booked : (now : ℕ) (status : Status) (x : ServerState) (acc : List ServerEvent) → (x.kind ≡ kind.Sporadic → is_runnable status ≡ true → is_high x ≡ true → ⊥) → Still now status x acc → Booked now status x acc
low_booked now status x acc low h = record { books = h.0; consumed = λ some. let none = h.1 in absurd (omega arith); ready = λ k runs high. absurd (low k runs high) }

pub priced_booked : (p now : ℕ) (status : Status) (x : ServerState) (acc : List ServerEvent) → Booked now status x acc → Booked now status (set_high p x) acc
priced_booked p now status x acc h = record {
  books = priced_books p now x acc h.books;
  consumed = λ some. let g = h.consumed some in record { count = g.count; since = g.since; active = g.active };
  ready = λ k runs high. let g = h.ready k runs high in record { count = g.count; since = g.since; active = g.active };
}

pub new_still : (now : ℕ) (status : Status) (x : ServerState) → (p : Parameters) × (k : ServerKind) × (x ≡ new_server_as k p now) → Still now status x []
new_still now status x h = subst (λ (z : ServerState). Still now status z []) (sym h.2) (new_books h.1 h.0 now, refl)

pub other_status : (now : ℕ) (status status' : Status) (x : ServerState) (acc : List ServerEvent) → (is_runnable status' ≡ true → is_runnable status ≡ true) → Booked now status x acc → Booked now status' x acc
other_status now status status' x acc same h = record { books = h.books; consumed = h.consumed; ready = λ k runs high. h.ready k (same runs) high }

-- a strict server is not activated at once
pub strict_booked : (now : ℕ) (status : Status) (x : ServerState) (acc : List ServerEvent) → x.kind ≡ kind.Strict → Still now status x acc → Booked now status x acc
strict_booked now status x acc e h = low_booked now status x acc (λ k runs high. not_strict (sym e ∙ k)) h

-- ---- a refill

pub refill_same : (x : ServerState) → ((refill x).consumed ≡ x.consumed) × ((refill x).activation ≡ x.activation)
refill_same x = by_pending x.pending
  where
    by_pending : (rs : List Replenish) → ((refill_from rs x).consumed ≡ x.consumed) × ((refill_from rs x).activation ≡ x.activation)
    by_pending [] = (refl, refl)
    by_pending (r ∷ rs) = (refl, refl)

refilled_step : (now amount : ℕ) (x : ServerState) (acc : List ServerEvent) → InStep x acc → InStep (refill x) (acc ++ refilled now amount ∷ [])
refilled_step now amount x acc h = record {
  count = count_last 0 acc (refilled now amount) ∙ h.count ∙ sym (refill_same x).0;
  since = since_last 0 acc (refilled now amount) ∙ h.since ∙ sym (refill_same x).1;
  active = stays_active acc (refilled now amount) h.active;
}

pub refill_booked : (now : ℕ) (x : ServerState) (acc : List ServerEvent) → has_come (next_due x) now ≡ true → Books now x acc → Books now (refill x) (acc ++ refilled now (amount_of (oldest_pending x)) ∷ [])
refill_booked now x acc come b = by_pending x.pending refl come
  where
    amount : (rs : List Replenish) → Option Replenish
    amount rs = slice_get rs 0

    by_pending : (rs : List Replenish) → x.pending ≡ rs → has_come (option_map (λ (r : Replenish). r.due) (slice_get rs 0)) now ≡ true → Books now (refill x) (acc ++ refilled now (amount_of (oldest_pending x)) ∷ [])
    by_pending [] e c = absurd (grind arith)
    by_pending (r ∷ rs) e c =
        subst (λ (qs : List Replenish). Books now (refill x) (acc ++ refilled now (amount_of (slice_get qs 0)) ∷ [])) (sym e) (refilled_books now x acc r rs e (grind arith) b)

-- what a refill that does not give the high priority back leaves
pub refill_stays : (now : ℕ) (status : Status) (x : ServerState) (acc : List ServerEvent) → has_come (next_due x) now ≡ true → (regains_high x && is_runnable status) ≡ false → Booked now status x acc →
    Booked now status (refill x) (acc ++ refilled now (amount_of (oldest_pending x)) ∷ [])
refill_stays now status x acc come low h = record {
  books = refill_booked now x acc come h.books;
  consumed = λ some. refilled_step now (amount_of (oldest_pending x)) x acc (h.consumed (subst (λ (n : ℕ). 1 ≤ n) (refill_same x).0 some));
  ready = λ k runs high. refilled_step now (amount_of (oldest_pending x)) x acc (h.ready (sym (refill_kind x) ∙ k) runs (was_high (is_high x) (is_high (refill x)) (is_runnable status) low high runs));
}
  where
    was_high : (a b c : Bool) → ((not a && b) && c) ≡ false → b ≡ true → c ≡ true → a ≡ true
    was_high a b c e p q = grind arith
