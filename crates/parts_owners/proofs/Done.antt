-- What holds of a chain before and after a change.
use Rattle.std.proofs.Common.{List, None, Option, Some, ap, arith, inl, inr, length, refl, sym, ℕ, ◌<◌, ◌≤◌, ◌≡◌, ◌∙◌}
use Rattle.std.specs.Prelude.{IfSome, option_map}
use Rattle.std.proofs.lemmas.Bool.Decides.{leb_tells}
use Rattle.std.proofs.lemmas.List.{get_or_past}
use Rattle.rules_machine.specs.Priorities.{Claim}
use Rattle.parts_waiters.specs.declared.Place.{Place}
use Rattle.parts_waiters.specs.Places.{place_in}
use Rattle.parts_owners.specs.declared.walk.Moved.{Moved}
use Rattle.parts_owners.specs.Chains.{ArePriorities, ChainsEnd, Links, NoCycle, OwnersAreThreads, Settled, Solves, SolvesBut, exec_of, prio_in}
use Rattle.parts_owners.specs.Moves.{Changes, MayWalk, SamePlaces, StandsAt, TellsMoved, WaitersStand, mutex_placed, unpriced}
use Rattle.parts_owners.proofs.OneSolution.{solution_is_exec}
use Rattle.parts_owners.proofs.Cycles.{chains_end}

-- the cached priorities are the execution priorities
pub cached_is : (s : Links) (exec : List ℕ) → NoCycle s.claims s.mutexes → OwnersAreThreads s.claims s.mutexes →
    Solves s.claims s.mutexes (prio_in exec) → (t : ℕ) → t < length s.claims → prio_in exec t ≡ exec_of s t
cached_is s exec free owners right t lt = solution_is_exec s.claims s.mutexes (prio_in exec) (chains_end s.claims s.mutexes free owners) right t lt

-- ---- places

at_place : (e f : ℕ → ℕ) (n t : ℕ) (x : Option Place) → (t < n → e t ≡ f t) → (n ≤ t → x ≡ None) → IfSome x (λ (p : Place). p.priority ≡ e t) →
    IfSome x (λ (p : Place). p.priority ≡ f t)
at_place e f n t None same past h = tt
at_place e f n t (Some p) same past h = elim (leb_tells n t) [
  | inl far ↦ absurd (let none : Some p ≡ None = past far.1 in cc)
  | inr near ↦ h ∙ same near.1
]

pub stand_same : (e f : ℕ → ℕ) (n : ℕ) (places : List (Option Place)) → length places ≡ n → ((t : ℕ) → t < n → e t ≡ f t) → StandsAt e places →
    StandsAt f places
stand_same e f n places lengths same stand = record {
  each = λ t. at_place e f n t (place_in places t) (same t) (λ past. get_or_past places t None (omega arith)) (stand.each t);
}

moved_same : (n : ℕ) (e f e′ f′ : ℕ → ℕ) (places : List (Option Place)) (result : Option Moved) → ((t : ℕ) → t < n → e t ≡ e′ t) →
    ((t : ℕ) → t < n → f t ≡ f′ t) → TellsMoved n e f places result → TellsMoved n e′ f′ places result
moved_same n e f e′ f′ places None old new h = λ t lt none. sym (new t lt) ∙ (h t lt none ∙ old t lt)
moved_same n e f e′ f′ places (Some m) old new h = record {
  known = h.known;
  nowhere = h.nowhere;
  before = h.before ∙ old m.thread h.known;
  after = h.after ∙ new m.thread h.known;
  changed = h.changed;
  others = λ t lt none other. sym (new t lt) ∙ (h.others t lt none other ∙ old t lt);
}

pub placed_same : (x : Option Place) → mutex_placed x ≡ mutex_placed (option_map unpriced x)
placed_same None = refl
placed_same (Some p) = refl

waiters_same : (claims : List Claim) (before after : List (Option Place)) → SamePlaces before after → WaitersStand claims before → WaitersStand claims after
waiters_same claims before after same waiters = record {
  each = λ t. waiters.each t ∙ sym (placed_same (place_in after t) ∙ (ap mutex_placed (same.each t) ∙ sym (placed_same (place_in before t))));
}

-- what the walk leaves is what a change promises
pub changes : (old new : Links) (exec left : List ℕ) (before after : List (Option Place)) (result : Option Moved) →
    length new.claims ≡ length old.claims → length before ≡ length old.claims →
    ((t : ℕ) → t < length old.claims → prio_in exec t ≡ exec_of old t) →
    NoCycle new.claims new.mutexes → OwnersAreThreads new.claims new.mutexes → Solves new.claims new.mutexes (prio_in left) →
    SamePlaces before after → StandsAt (prio_in left) after → WaitersStand new.claims before →
    TellsMoved (length new.claims) (prio_in exec) (prio_in left) after result → Changes old new before after result
changes old new exec left before after result lengths places cached free owners right same stand waiters moved =
    let is = cached_is new left free owners right in
    record {
      placed = record {
        lengths = same.length ∙ (places ∙ sym lengths);
        stand = stand_same (prio_in left) (exec_of new) (length new.claims) after (same.length ∙ (places ∙ sym lengths)) is stand;
        waiters = waiters_same new.claims before after same waiters;
      };
      same = same;
      moved = moved_same (length old.claims) (prio_in exec) (prio_in left) (exec_of old) (exec_of new) after result cached
          (λ t lt. is t (omega arith)) (rw (← lengths) moved);
    }

-- where a change has been made, and the walk is to begin
pub record Begins (old new : Links) (exec : List ℕ) (start : ℕ) (before : List (Option Place)) : Type 0 where
  pub known : start < length new.claims
  pub lengths : length new.claims ≡ length old.claims
  pub each : length exec ≡ length new.claims
  pub places : length before ≡ length new.claims
  pub free : NoCycle new.claims new.mutexes
  pub owners : OwnersAreThreads new.claims new.mutexes
  pub right : SolvesBut new.claims new.mutexes start (prio_in exec)
  pub waiters : WaitersStand new.claims before
  pub stand : StandsAt (prio_in exec) before
  pub cached : (t : ℕ) → t < length old.claims → prio_in exec t ≡ exec_of old t
  pub fits : ArePriorities exec

begins_end : (old new : Links) (exec : List ℕ) (start : ℕ) (before : List (Option Place)) → Begins old new exec start before →
    ChainsEnd new.claims new.mutexes
begins_end old new exec start before b = chains_end new.claims new.mutexes b.free b.owners

pub finished : (old new : Links) (exec left : List ℕ) (start : ℕ) (before after : List (Option Place)) (result : Option Moved) →
    Begins old new exec start before → Solves new.claims new.mutexes (prio_in left) → SamePlaces before after → StandsAt (prio_in left) after →
    TellsMoved (length new.claims) (prio_in exec) (prio_in left) after result → Changes old new before after result
finished old new exec left start before after result b right same stand moved =
    changes old new exec left before after result b.lengths (b.places ∙ b.lengths) b.cached b.free b.owners right same stand b.waiters moved

pub settled_after : (old new : Links) (exec left : List ℕ) (start : ℕ) (before : List (Option Place)) → Begins old new exec start before →
    length left ≡ length new.claims → Solves new.claims new.mutexes (prio_in left) → ArePriorities left → Settled new left
settled_after old new exec left start before b each right fits = record { each = each; owners = b.owners; free = b.free; right = right; fits = fits }

pub may_walk : (old new : Links) (exec : List ℕ) (start : ℕ) (before : List (Option Place)) → Begins old new exec start before →
    MayWalk new exec start before
may_walk old new exec start before b = record {
  known = b.known;
  each = b.each;
  counted = b.places;
  end = begins_end old new exec start before b;
  owners = b.owners;
  right = b.right;
  waiters = b.waiters;
  stand = b.stand;
  fits = b.fits;
}
