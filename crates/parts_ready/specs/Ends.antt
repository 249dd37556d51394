-- The ends of a list (this project's own).
use Rattle.std.specs.Prelude.{ℕ, Bool, nat_le, nat_lt, List, [], ◌∷◌, ◌++◌}
use Rattle.rules_lists.specs.Lists.{to_tail, to_head}
use Rattle.parts_ready.specs.declared.End.{End}
use Rattle.parts_ready.specs.declared.End.TheVariants.{Head, Tail}

-- the thread alone moves, to that end of the list of that priority
abbrev pub put_at : End → ℕ → ℕ → List (List ℕ) → List (List ℕ)
put_at Head t p lists = to_head t p lists
put_at Tail t p lists = to_tail t p lists

-- the threads, and one more at that end
abbrev pub at_end : End → ℕ → List ℕ → List ℕ
at_end Head t threads = t ∷ threads
at_end Tail t threads = threads ++ t ∷ []

-- whether a thread that comes to that end of the list of priority p is the head of the highest list, where that was the list of
-- priority top
abbrev pub leads : End → ℕ → ℕ → Bool
leads Head p top = nat_le top p
leads Tail p top = nat_lt top p
