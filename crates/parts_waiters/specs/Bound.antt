-- Which waiters of a condition wait with another mutex.
use Rattle.std.specs.Prelude.{Bool, List, None, Option, Some, [], false, not, true, ℕ, ◌≡◌, ◌<◌, ◌+◌, ◌==◌, ◌∷◌, if◌then◌else◌}
use Rattle.parts_links.specs.Links.{stands_in}
use Rattle.parts_waiters.specs.declared.Place.{Place}
use Rattle.parts_waiters.specs.declared.WaitObj.TheVariants.{Cond}
use Rattle.parts_waiters.specs.Held.{WaitsAt, number_of}
use Rattle.parts_waiters.specs.Places.{place_in, waits_at}

-- whether a thread at that place waits with another mutex
abbrev pub waits_with_other : ℕ → Option Place → Bool
waits_with_other k None = false
waits_with_other k (Some p) = not (p.released == k)

-- or with that one
abbrev pub released_is : ℕ → Option Place → Bool
released_is k None = false
released_is k (Some p) = p.released == k

-- of each thread
abbrev pub others : ℕ → List (Option Place) → ℕ → Bool
others k places t = waits_with_other k (place_in places t)

-- whether one on the list is among those that wait elsewhere
abbrev pub has_one : (ℕ → Bool) → List ℕ → Bool
has_one elsewhere [] = false
has_one elsewhere (x ∷ xs) = if elsewhere x then true else has_one elsewhere xs

-- either all on the list are, or none
abbrev pub AreAsOne : (ℕ → Bool) → List ℕ → Type 0
AreAsOne elsewhere xs = (u v : ℕ) → stands_in u xs ≡ true → stands_in v xs ≡ true → elsewhere u ≡ elsewhere v

-- the thread stands among the waiters of the condition, and waits with another mutex
pub record WaitsElsewhere (places : List (Option Place)) (c k t : ℕ) : Type 0 where
  pub waits : waits_at (Cond c) (place_in places t) ≡ true
  pub other : others k places t ≡ true

-- all that wait for one condition wait with one mutex
abbrev pub AreAlike : List (Option Place) → Type 0
AreAlike places = (c t u : ℕ) (p q : Place) → c < 256 → WaitsAt places (256 + c) t p → WaitsAt places (256 + c) u q → p.released ≡ q.released

-- a thread at that place is like all that wait for its object
abbrev pub IsAlike : List (Option Place) → Place → Type 0
IsAlike places p = (u : ℕ) (q : Place) → WaitsAt places (number_of p.object) u q → q.released ≡ p.released

-- it is, or it waits for no condition
abbrev pub Fits : List (Option Place) → Place → Type 0
Fits places p = (c : ℕ) → c < 256 → number_of p.object ≡ 256 + c → IsAlike places p
