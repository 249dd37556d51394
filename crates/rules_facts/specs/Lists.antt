-- What is told of the lists of runnable threads: of each list, who stands on it. XSH 2.8.4 has the lists; to tell them is this
-- project's own.
use Rattle.std.specs.Prelude.{List, [], reverse, ℕ, ◌+◌, ◌∷◌}
use Rattle.rules_facts.specs.Fact.{Fact, on_list}

-- the facts of lists, of which the first is that of a priority and each next one that of the next
abbrev pub lists_from : ℕ → List (List ℕ) → List Fact
lists_from p [] = []
lists_from p (threads ∷ lists) = on_list p threads ∷ lists_from (p + 1) lists

-- the list of the greatest priority first
abbrev pub list_facts : List (List ℕ) → List Fact
list_facts lists = reverse (lists_from 1 lists)
