-- Reading a member back after a change.
use Rattle.std.proofs.Common.{List, [], ap, arith, false, length, refl, suc, zero, ℕ, ◌<◌, ◌∷◌, ◌≡◌}
use Rattle.std.specs.Prelude.{map, slice_index_or, ◌==◌}
use Rattle.rules_machine.specs.Lists.{changed_at}
use Rattle.rules_machine.specs.State.{Machine, Thread}
use Rattle.rules_machine.specs.Threads.{no_thread, thread_at}
use Rattle.rules_machine.specs.Turns.{with_thread}

pub changed-length : {X : Type 0} (none : X) (n : ℕ) (f : X → X) (xs : List X) → length (changed_at none n f xs) ≡ length xs
changed-length none n f [] = refl
changed-length none zero f (x ∷ xs) = refl
changed-length none (suc n) f (x ∷ xs) = ap suc (changed-length none n f xs)

-- the changed member
pub changed-same : {X : Type 0} (none d : X) (n : ℕ) (f : X → X) (xs : List X) → n < length xs →
    slice_index_or (changed_at none n f xs) n d ≡ f (slice_index_or xs n none)
changed-same none d n f [] h = absurd (omega arith)
changed-same none d zero f (x ∷ xs) h = refl
changed-same none d (suc n) f (x ∷ xs) h = changed-same none d n f xs (omega arith)

-- another member
pub changed-other : {X : Type 0} (none d : X) (n k : ℕ) (f : X → X) (xs : List X) → (n == k) ≡ false →
    slice_index_or (changed_at none n f xs) k d ≡ slice_index_or xs k d
changed-other none d n k f [] h = refl
changed-other none d zero zero f (x ∷ xs) h = absurd (grind arith)
changed-other none d zero (suc k) f (x ∷ xs) h = refl
changed-other none d (suc n) zero f (x ∷ xs) h = refl
changed-other none d (suc n) (suc k) f (x ∷ xs) h = changed-other none d n k f xs (grind arith)

-- two changes of one member are one
pub changed-twice : {X : Type 0} (none : X) (n : ℕ) (f g : X → X) (xs : List X) →
    changed_at none n g (changed_at none n f xs) ≡ changed_at none n (λ x. g (f x)) xs
changed-twice none n f g [] = refl
changed-twice none zero f g (x ∷ xs) = refl
changed-twice none (suc n) f g (x ∷ xs) = ap (λ ys. x ∷ ys) (changed-twice none n f g xs)

-- what a change leaves of each member, it leaves of the list
pub changed-map : {X Y : Type 0} (none : X) (n : ℕ) (f : X → X) (g : X → Y) → ((x : X) → g (f x) ≡ g x) → (xs : List X) →
    map g (changed_at none n f xs) ≡ map g xs
changed-map none n f g h [] = refl
changed-map none zero f g h (x ∷ xs) = ap (λ y. y ∷ map g xs) (h x)
changed-map none (suc n) f g h (x ∷ xs) = ap (λ ys. g x ∷ ys) (changed-map none n f g h xs)

-- and of each member by its number
pub changed-keeps : {X Y : Type 0} (none : X) (n k : ℕ) (f : X → X) (g : X → Y) → ((x : X) → g (f x) ≡ g x) → (xs : List X) →
    g (slice_index_or (changed_at none n f xs) k none) ≡ g (slice_index_or xs k none)
changed-keeps none n k f g h [] = refl
changed-keeps none zero zero f g h (x ∷ xs) = h x
changed-keeps none zero (suc k) f g h (x ∷ xs) = refl
changed-keeps none (suc n) zero f g h (x ∷ xs) = refl
changed-keeps none (suc n) (suc k) f g h (x ∷ xs) = changed-keeps none n k f g h xs

module _ {P : Type 0} (m : Machine P) where
  pub thread-same : (t : ℕ) (f : Thread P → Thread P) → t < length m.threads → thread_at (with_thread t f m) t ≡ f (thread_at m t)
  thread-same t f h = changed-same no_thread no_thread t f m.threads h

  pub thread-other : (t u : ℕ) (f : Thread P → Thread P) → (t == u) ≡ false → thread_at (with_thread t f m) u ≡ thread_at m u
  thread-other t u f h = changed-other no_thread no_thread t u f m.threads h
