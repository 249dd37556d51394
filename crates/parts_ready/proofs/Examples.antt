-- Moves between the lists, computed by their definitions.
use Rattle.std.proofs.Common.{◌≡◌, ℕ, List, [], ◌∷◌, refl}
use Rattle.std.specs.Prelude.{Some, None}
use Rattle.rules_lists.specs.Lists.{empty_lists, list_of, without, to_tail, to_head, highest, prio_of}

-- the threads 0 and 1 at priority 5, and thread 2 at priority 9
abbrev three : List (List ℕ)
three = to_tail 2 9 (to_tail 1 5 (to_tail 0 5 empty_lists))

in_order : list_of 5 three ≡ 0 ∷ 1 ∷ []
in_order = refl

head_of_highest : highest three ≡ Some 2
head_of_highest = refl

-- A thread whose priority falls comes before those of its new priority, and one that becomes ready after them.
fallen : list_of 5 (to_head 2 5 three) ≡ 2 ∷ 0 ∷ 1 ∷ []
fallen = refl

woken : list_of 5 (to_tail 2 5 three) ≡ 0 ∷ 1 ∷ 2 ∷ []
woken = refl

-- No thread is left behind.
left_old_list : list_of 9 (to_tail 2 5 three) ≡ []
left_old_list = refl

-- A thread that yields becomes the tail of its own list.
yielded : list_of 5 (to_tail 0 5 three) ≡ 1 ∷ 0 ∷ []
yielded = refl

next_head : highest (without 2 three) ≡ Some 0
next_head = refl

prio : prio_of 1 three ≡ Some 5
prio = refl

nowhere : prio_of 2 (without 2 three) ≡ None
nowhere = refl

-- The least and the greatest priority have lists, too.
ends : highest (to_tail 1 255 (to_tail 0 1 empty_lists)) ≡ Some 1
ends = refl

idle : highest empty_lists ≡ None
idle = refl
