-- What is done to a server keeps it right: it is new, activated, charged, planned, refilled, at another priority.
use Rattle.std.proofs.Common.{Bool, List, [], ap, arith, false, length, refl, suc, sym, true, zero, ℕ, ◌+◌, ◌<◌, ◌≤◌, ◌∷◌, ◌≡◌}
use Rattle.std.specs.Prelude.{min, not, sum_by, ◌&&◌, ◌==◌}
use Rattle.std.proofs.lemmas.List.Sums.{sum_by-append}
use mathlib.Core.Path.{subst, ◌∙◌}
use Rattle.words_numbers.specs.Parameters.{Parameters}
use Rattle.rules_server.specs.declared.Replenish.{Replenish}
use Rattle.rules_server.specs.declared.ServerKind.{ServerKind}
use Rattle.rules_server.specs.declared.ServerKind.TheVariants as kind
use Rattle.rules_server.specs.Calls.{MayPlan}
use Rattle.rules_server.specs.Server.{ServerState, activate, charge, is_high, is_high_as, new_server_as, pending_total, plan, refill, refill_from, set_high}
use Rattle.rules_machine.specs.State.{Status}
use Rattle.rules_machine.specs.Threads.{is_runnable}
use Rattle.rules_machine.specs.Servers.{is_strict, may_open}
use Rattle.rules_moves.proofs.Waiters.Best.{Each}
use Rattle.laws_machine.proofs.Servers.Right.{Fresh, Rising, ServerIn, Serves, Sound, each_weaker, not_strict, planned_of}

-- ---- what is done to a server

pub new_in : (own : Bool) (now : ℕ) (status : Status) (k : ServerKind) (p : Parameters) → (k ≡ kind.Strict → Serves p) → ServerIn own now status (new_server_as k p now)
new_in own now status k p one = record {
  sound = record { budget = omega arith; amounts = tt; few = omega arith; serves = one; rising = tt; within = tt; activated = omega arith };
  consumed = λ some. absurd (omega arith);
  ready = λ kind runs high. tt;
}

pub activated_in : (own : Bool) (now : ℕ) (status : Status) (s : ServerState) → s.consumed ≡ 0 → Sound now s → ServerIn own now status (activate now s)
activated_in own now status s none h = record {
  sound = record { budget = h.budget; amounts = h.amounts; few = h.few; serves = h.serves; rising = h.rising; within = h.within; activated = omega arith };
  consumed = λ some. absurd (omega arith);
  ready = λ kind runs high. h.within;
}

-- at the high priority there is capacity, and a sporadic server has room for a plan
pub high_parts : (s : ServerState) → is_high s ≡ true → (1 ≤ s.capacity) × MayPlan s.kind s
high_parts s e = by_kind s.kind e
  where
    by_kind : (k : ServerKind) → is_high_as k s.capacity (length s.pending) s.params.max ≡ true → (1 ≤ s.capacity) × MayPlan k s
    by_kind kind.Sporadic e = (grind arith, grind arith)
    by_kind kind.Strict e = (grind arith, tt)

pub high_again : (s : ServerState) → 1 ≤ s.capacity → MayPlan s.kind s → is_high s ≡ true
high_again s some room = by_kind s.kind room
  where
    by_kind : (k : ServerKind) → MayPlan k s → is_high_as k s.capacity (length s.pending) s.params.max ≡ true
    by_kind kind.Sporadic room = grind arith
    by_kind kind.Strict room = grind arith

-- a tick at the high priority, charged at the end of an instant
pub charged_in : (now : ℕ) (status : Status) (s : ServerState) → is_runnable status ≡ true → is_high s ≡ true → (may_open s ≡ true → s.activation ≡ now) → ServerIn false now status s → ServerIn true (now + 1) status (charge s)
charged_in now status s runs high opened h = record {
  sound = record {
    budget = let sum = h.sound.budget in let some : 1 ≤ s.capacity = (high_parts s high).0 in omega arith;
    amounts = h.sound.amounts;
    few = h.sound.few;
    serves = h.sound.serves;
    rising = h.sound.rising;
    within = each_weaker (λ (r : Replenish). r.due < now + s.params.period) (λ (r : Replenish). r.due < now + 1 + s.params.period) (λ r k. omega arith) s.pending h.sound.within;
    activated = let old = h.sound.activated in omega arith;
  };
  consumed = λ some. record {
    fresh = fresh s.kind refl;
    before = let old = h.sound.activated in omega arith;
    room = (high_parts s high).1;
    unbroken = λ k. let e = unbroken k in omega arith;
    runs = λ e. absurd (grind arith);
  };
  ready = λ k runs' high'. h.ready k runs high;
}
  where
    opens : s.kind ≡ kind.Strict → s.consumed ≡ 0 → s.activation ≡ now
    opens k none = opened (three (is_strict s.kind) (is_high s) (s.consumed == 0) (ap is_strict k) high (rw none refl))
      where
        three : (a b c : Bool) → a ≡ true → b ≡ true → c ≡ true → (a && b && c) ≡ true
        three a b c p q r = grind arith

    unbroken : s.kind ≡ kind.Strict → s.activation + s.consumed ≡ now
    unbroken k = by_size s.consumed refl
      where
        by_size : (n : ℕ) → s.consumed ≡ n → s.activation + s.consumed ≡ now
        by_size zero e = let a = opens k e in omega arith
        by_size (suc n) e = (h.consumed (omega arith)).unbroken k

    strict_fresh : s.kind ≡ kind.Strict → (n : ℕ) → s.consumed ≡ n → Fresh s
    strict_fresh k zero e = let a = opens k e in each_weaker (λ (r : Replenish). r.due < now + s.params.period) (λ (r : Replenish). r.due < s.activation + s.params.period) (λ r lt. omega arith) s.pending h.sound.within
    strict_fresh k (suc n) e = (h.consumed (omega arith)).fresh

    fresh : (k : ServerKind) → s.kind ≡ k → Fresh s
    fresh kind.Sporadic k = h.ready k runs high
    fresh kind.Strict k = strict_fresh k s.consumed refl

-- a plan, of a thread that blocked, of one that used up its capacity, or of a strict one that is not the head
pub planned_in : (own : Bool) (now : ℕ) (status : Status) (s : ServerState) → 1 ≤ s.consumed → (s.kind ≡ kind.Sporadic → is_runnable status ≡ true → s.capacity ≡ 0) → ServerIn true now status s → ServerIn own now status (plan s)
planned_in own now status s some low h =
    let c = h.consumed some in
    let p = planned_of s.kind s (now + s.params.period) (λ k. (h.sound.serves k).0) c.room in
    record {
      sound = record {
        budget = let sum = h.sound.budget in let more = p.total in omega arith;
        amounts = p.amounts h.sound.amounts some;
        few = p.few h.sound.few;
        serves = h.sound.serves;
        rising = p.rising h.sound.rising c.fresh;
        within = p.within h.sound.within (let old = c.before in omega arith);
        activated = h.sound.activated;
      };
      consumed = λ more. absurd (omega arith);
      ready = λ k runs high. absurd (contra (low k runs) ((high_parts (plan s) high).0));
    }
  where
    contra : s.capacity ≡ 0 → 1 ≤ s.capacity → ⊥
    contra e k = omega arith

-- a refill, and then an activation where it gives a runnable sporadic thread its high priority back
abbrev pub activated_as : ServerKind → ℕ → ServerState → ServerState
activated_as kind.Sporadic now s = activate now s
activated_as kind.Strict now s = s

abbrev pub refilled_of : Bool → ℕ → ServerState → ServerState
refilled_of true now s = activated_as s.kind now (refill s)
refilled_of false now s = refill s

refill_sound : (now : ℕ) (s : ServerState) → Sound now s → Sound now (refill s)
refill_sound now s h = by_pending s.pending h refl
  where
    by_pending : (rs : List Replenish) → Sound now s → s.pending ≡ rs → Sound now (refill_from rs s)
    by_pending [] h e = h
    by_pending (r ∷ rs) h e =
        let amounts : Each (λ (x : Replenish). 1 ≤ x.amount) (r ∷ rs) = subst (Each (λ (x : Replenish). 1 ≤ x.amount)) e h.amounts in
        let rising : Rising (r ∷ rs) = subst Rising e h.rising in
        let within : Each (λ (x : Replenish). x.due < now + s.params.period) (r ∷ rs) = subst (Each (λ (x : Replenish). x.due < now + s.params.period)) e h.within in
        let few : suc (length rs) ≤ s.params.max = subst (λ (xs : List Replenish). length xs ≤ s.params.max) e h.few in
        let total : pending_total s ≡ r.amount + sum_by (λ (x : Replenish). x.amount) rs = ap (sum_by (λ (x : Replenish). x.amount)) e ∙ first_pending r rs in
        record { budget = let sum = h.budget in omega arith; amounts = amounts.1; few = omega arith; serves = h.serves; rising = rising.1; within = within.1; activated = h.activated }
      where
        first_pending : (r : Replenish) (rs : List Replenish) → sum_by (λ (x : Replenish). x.amount) (r ∷ rs) ≡ r.amount + sum_by (λ (x : Replenish). x.amount) rs
        first_pending r rs = let both = sum_by-append (λ (x : Replenish). x.amount) (r ∷ []) rs in omega arith

refill_fresh : (s : ServerState) → Fresh s → Fresh (refill s)
refill_fresh s h = by_pending s.pending refl h
  where
    by_pending : (rs : List Replenish) → s.pending ≡ rs → Each (λ (r : Replenish). r.due < s.activation + s.params.period) s.pending → Fresh (refill_from rs s)
    by_pending [] e h = h
    by_pending (r ∷ rs) e h = let all : Each (λ (x : Replenish). x.due < s.activation + s.params.period) (r ∷ rs) = subst (Each (λ (x : Replenish). x.due < s.activation + s.params.period)) e h in all.1

refill_kept : (s : ServerState) → ((refill s).consumed ≡ s.consumed) × ((refill s).activation ≡ s.activation) × (length (refill s).pending ≤ length s.pending) × ((refill s).params ≡ s.params) × ((refill s).kind ≡ s.kind)
refill_kept s = by_pending s.pending refl
  where
    by_pending : (rs : List Replenish) → s.pending ≡ rs → ((refill_from rs s).consumed ≡ s.consumed) × ((refill_from rs s).activation ≡ s.activation) × (length (refill_from rs s).pending ≤ length s.pending) × ((refill_from rs s).params ≡ s.params) × ((refill_from rs s).kind ≡ s.kind)
    by_pending [] e = (refl, refl, omega arith, refl, refl)
    by_pending (r ∷ rs) e = let longer : length s.pending ≡ suc (length rs) = ap length e in (refl, refl, omega arith, refl, refl)

pub refill_kind : (s : ServerState) → (refill s).kind ≡ s.kind
refill_kind s = (refill_kept s).4

-- what may be planned may be planned of fewer
refill_room : (s : ServerState) → MayPlan s.kind s → MayPlan (refill s).kind (refill s)
refill_room s room = subst (λ (k : ServerKind). MayPlan k (refill s)) (sym (refill_kind s)) (by_kind s.kind room)
  where
    by_kind : (k : ServerKind) → MayPlan k s → MayPlan k (refill s)
    by_kind kind.Sporadic room = let fewer = (refill_kept s).2 in subst (λ (p : Parameters). length (refill s).pending < p.max) (sym (refill_kept s).3) (omega arith)
    by_kind kind.Strict room = tt

pub refill_params : (s : ServerState) → (refill s).params ≡ s.params
refill_params s = (refill_kept s).3

-- a high server stays high
refill_high : (now : ℕ) (s : ServerState) → Sound now s → is_high s ≡ true → is_high (refill s) ≡ true
refill_high now s h high = high_again (refill s) (by_pending s.pending refl) (refill_room s (high_parts s high).1)
  where
    by_pending : (rs : List Replenish) → s.pending ≡ rs → 1 ≤ (refill_from rs s).capacity
    by_pending [] e = (high_parts s high).0
    by_pending (r ∷ rs) e =
        let sum = h.budget in
        let some : 1 ≤ s.capacity = (high_parts s high).0 in
        let left : 1 ≤ min (s.capacity + r.amount) s.params.budget = omega arith in
        left

pub refilled_in : (own : Bool) (now : ℕ) (status : Status) (s : ServerState) → own ≡ false → ServerIn own now status s →
    ServerIn own now status (refilled_of ((not (is_high s) && is_high (refill s)) && is_runnable status) now s)
refilled_in own now status s e h = by_high (is_high s) refl (is_high (refill s)) refl (is_runnable status) refl
  where
    sound : Sound now (refill s)
    sound = refill_sound now s h.sound

    -- it was high: so it stays, with what it consumed
    stays : is_high s ≡ true → ServerIn own now status (refill s)
    stays high = record {
      sound = refill_sound now s h.sound;
      consumed = λ some. let c = h.consumed (subst (λ (n : ℕ). 1 ≤ n) (refill_kept s).0 some) in record {
        fresh = refill_fresh s c.fresh;
        before = subst (λ (n : ℕ). n < now) (sym (refill_kept s).1) c.before;
        room = refill_room s c.room;
        unbroken = λ k. let same = c.unbroken (sym (refill_kind s) ∙ k) in let k' = refill_kept s in omega (arith, k'.0, k'.1);
        runs = λ e. ((c.runs e).0, refill_high now s h.sound high);
      };
      ready = λ k runs high'. refill_fresh s (h.ready (sym (refill_kind s) ∙ k) runs high);
    }

    -- it was low: so nothing is consumed
    none : is_high s ≡ false → (refill s).consumed ≡ 0
    none low = by_size s.consumed refl
      where
        by_size : (n : ℕ) → s.consumed ≡ n → (refill s).consumed ≡ 0
        by_size zero k = (refill_kept s).0 ∙ k
        by_size (suc n) k = let c = h.consumed (omega arith) in absurd (grind (arith, (c.runs e).1))

    plainly : is_high s ≡ false → ((refill s).kind ≡ kind.Sporadic → is_runnable status ≡ true → is_high (refill s) ≡ true → ⊥) → ServerIn own now status (refill s)
    plainly low not_ready = record {
      sound = refill_sound now s h.sound;
      consumed = λ some. let zero' = none low in absurd (omega arith);
      ready = λ k runs high. absurd (not_ready k runs high);
    }

    anew : (k : ServerKind) → s.kind ≡ k → is_high s ≡ false → ServerIn own now status (activated_as k now (refill s))
    anew kind.Sporadic k low = activated_in own now status (refill s) (none low) (refill_sound now s h.sound)
    anew kind.Strict k low = plainly low (λ other runs high. absurd (not_strict (sym k ∙ sym (refill_kind s) ∙ other)))

    by_high : (a : Bool) → is_high s ≡ a → (b : Bool) → is_high (refill s) ≡ b → (c : Bool) → is_runnable status ≡ c → ServerIn own now status (refilled_of ((not a && b) && c) now s)
    by_high true p b q c r = stays p
    by_high false p true q true r = anew s.kind refl p
    by_high false p true q false r = plainly p (λ k runs high. absurd (grind arith))
    by_high false p false q c r = plainly p (λ k runs high. absurd (grind arith))

pub priced_server : (p : ℕ) (own : Bool) (now : ℕ) (status : Status) (s : ServerState) → ServerIn own now status s → ServerIn own now status (set_high p s)
priced_server p own now status s g = record {
  sound = record { budget = g.sound.budget; amounts = g.sound.amounts; few = g.sound.few; serves = g.sound.serves; rising = g.sound.rising; within = g.sound.within; activated = g.sound.activated };
  consumed = λ some. let c = g.consumed some in record { fresh = c.fresh; before = c.before; room = may s.kind c.room; unbroken = c.unbroken; runs = c.runs };
  ready = λ k runs high. g.ready k runs high;
}
  where
    may : (k : ServerKind) → MayPlan k s → MayPlan k (set_high p s)
    may kind.Sporadic room = room
    may kind.Strict room = tt
