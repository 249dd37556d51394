-- A list of threads, by their numbers, in which each stands at most once (this project's own).
use Rattle.std.specs.Prelude.{ℕ, ◌+◌, ◌<◌, ◌≤◌, Bool, not, ◌==◌, if◌then◌else◌, List, [], ◌∷◌, ◌++◌, filter, All}
use Rattle.std.specs.List.{list_any}

-- whether the thread stands in the list
abbrev pub stands_in : ℕ → List ℕ → Bool
stands_in t threads = list_any (λ u. u == t) threads

-- how often it stands there
abbrev pub times : ℕ → List ℕ → ℕ
times t [] = 0
times t (u ∷ threads) = (if u == t then 1 else 0) + times t threads

-- the list without the thread; the others keep their order
abbrev pub without_thread : ℕ → List ℕ → List ℕ
without_thread t threads = filter (λ u. not (u == t)) threads

-- numbers of threads, each at most once
pub record AreThreads (threads : List ℕ) : Type 0 where
  pub once : (t : ℕ) → times t threads ≤ 1
  pub small : All (λ t. t < 256) threads
