-- When lists of nodes hold the waiters.
use Rattle.std.specs.Prelude.{◌≡◌, ◌≤◌, ◌<◌, ◌+◌, ℕ, true, List, Option, Some, length}
use Rattle.parts_links.specs.Links.{Lists, list_at, stands_at}
use Rattle.parts_waiters.specs.declared.Place.{Place}
use Rattle.parts_waiters.specs.declared.WaitObj.{WaitObj}
use Rattle.parts_waiters.specs.declared.WaitObj.TheVariants.{Cond, Mutex, Receiver, Sem, Sender, SigWait}
use Rattle.parts_waiters.specs.Places.{place_in}
use Rattle.parts_waiters.specs.Service.{AreOrdered}

-- the number of an object among those of its kind
abbrev pub id_of : WaitObj → ℕ
id_of (Mutex k) = k
id_of (Cond k) = k
id_of (Sem k) = k
id_of (Sender k) = k
id_of (Receiver k) = k
id_of SigWait = 0

-- the number of the object's list
abbrev pub number_of : WaitObj → ℕ
number_of (Mutex k) = k
number_of (Cond k) = 256 + k
number_of (Sem k) = 512 + k
number_of (Sender k) = 768 + k
number_of (Receiver k) = 1024 + k
number_of SigWait = 1280

-- the thread waits for the object of that list
abbrev pub WaitsAt : List (Option Place) → ℕ → ℕ → Place → Type 0
WaitsAt places k t p = (place_in places t ≡ Some p) × (number_of p.object ≡ k)

-- each thread that waits stands on the list of its object, and on no other, and each list is in the order of service
pub record AreHeld (places : List (Option Place)) (links : Lists) : Type 0 where
  pub nodes : links.nodes ≡ 256
  pub lists : length links.lists ≡ 1281
  pub few : length places ≤ 256
  pub small : (t : ℕ) (p : Place) → place_in places t ≡ Some p → id_of p.object < 256
  pub stands : (t : ℕ) (p : Place) → place_in places t ≡ Some p → stands_at t (number_of p.object) links.lists ≡ true
  pub only : (t k : ℕ) → stands_at t k links.lists ≡ true → (p : Place) × (WaitsAt places k t p)
  pub ordered : (k : ℕ) → AreOrdered places (list_at links.lists k)
