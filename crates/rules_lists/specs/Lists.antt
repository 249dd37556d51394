-- The lists of runnable threads: 255 lists, one for each priority from 1 to 255. The list of priority p stands at index p - 1,
-- so that there is no list of a priority 0.
--
-- That threads wait on one ordered list for each priority, that the head of the highest list that is not empty runs, and that
-- a thread becomes the tail or the head of a list, is IEEE 1003.1-2017, XSH 2.8.4 Process Scheduling, under Scheduling
-- Policies. Each definition is the standard's but where it is called this project's own.
use Rattle.std.specs.Prelude.{◌≡◌, ℕ, ◌+◌, ◌-◌, ◌<◌, ◌≤◌, if◌then◌else◌, Option, Some, None, List, [], ◌∷◌, ◌++◌, length, map, replicate, slice_get, slice_index_or, slice_set}
use Rattle.std.specs.Option.{option_or}
use Rattle.rules_lists.specs.Threads.{stands_in, times, without_thread}

-- all lists, without a thread (there is one thread list for each priority)
abbrev pub empty_lists : List (List ℕ)
empty_lists = replicate 255 []

-- the list of a priority
abbrev pub list_of : ℕ → List (List ℕ) → List ℕ
list_of p lists = slice_index_or lists (p - 1) []

-- the lists after the list of that priority alone has changed
abbrev pub change_list : ℕ → (List ℕ → List ℕ) → List (List ℕ) → List (List ℕ)
change_list p change lists = slice_set lists (p - 1) (change (list_of p lists))

-- The thread stands on no list any more, as one that blocks; the others keep their order.
abbrev pub without : ℕ → List (List ℕ) → List (List ℕ)
without t lists = map (λ threads. without_thread t threads) lists

-- The thread becomes the tail of the list of its priority, wherever it stood (SCHED_FIFO, of a thread that becomes runnable).
abbrev pub to_tail : ℕ → ℕ → List (List ℕ) → List (List ℕ)
to_tail t p lists = change_list p (λ threads. threads ++ t ∷ []) (without t lists)

-- The thread becomes the head of the list of its priority, wherever it stood (SCHED_FIFO, of a thread whose priority is lowered).
abbrev pub to_head : ℕ → ℕ → List (List ℕ) → List (List ℕ)
to_head t p lists = change_list p (λ threads. t ∷ threads) (without t lists)

-- The head of the highest list that is not empty: the thread that runs. None where all are empty.
abbrev pub highest : List (List ℕ) → Option ℕ
highest [] = None
highest (threads ∷ higher) = option_or (highest higher) (slice_get threads 0)

-- the priority of the list on which the thread stands, where the first of these lists is that of p (this project's own)
abbrev pub prio_from : ℕ → ℕ → List (List ℕ) → Option ℕ
prio_from p t [] = None
prio_from p t (threads ∷ lists) = if stands_in t threads then Some p else prio_from (p + 1) t lists

-- the priority of the list on which the thread stands; None where it stands on none (this project's own)
abbrev pub prio_of : ℕ → List (List ℕ) → Option ℕ
prio_of t lists = prio_from 1 t lists

-- how often the thread stands on all these lists together (this project's own)
abbrev pub times_in_all : ℕ → List (List ℕ) → ℕ
times_in_all t [] = 0
times_in_all t (threads ∷ lists) = times t threads + times_in_all t lists

-- the lists, and how many threads there are: the threads have the numbers below that (this project's own)
pub record ReadyLists : Type 0 where
  pub threads : ℕ
  pub lists : List (List ℕ)

-- 255 lists, on all of which together each thread stands at most once
pub record AreReadyLists (ready : ReadyLists) : Type 0 where
  pub few_threads : ready.threads ≤ 256
  pub each_priority : length ready.lists ≡ 255
  pub once : (t : ℕ) → times_in_all t ready.lists ≤ 1
  pub known : (t : ℕ) → 1 ≤ times_in_all t ready.lists → t < ready.threads
