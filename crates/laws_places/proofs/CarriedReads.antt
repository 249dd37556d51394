-- What is read of a carried machine is what is read of the machine.
use Rattle.std.proofs.Common.{Bool, List, Option, Some, [], ap, length, refl, suc, zero, ℕ, ◌+◌, ◌∷◌, ◌≡◌}
use Rattle.std.specs.Prelude.{filter, filter_map, map, not, option_and_then, ◌||◌, ◌&&◌, if◌then◌else◌}
use Rattle.std.specs.List.{list_any, range_with_len}
use mathlib.Core.Path.{ap₂, ◌∙◌}
use Rattle.words_script.specs.declared.policy.Protocol.{Protocol}
use Rattle.words_script.specs.declared.policy.Protocol.TheVariants as protocol
use Rattle.rules_lists.specs.Threads.{stands_in}
use Rattle.rules_lists.specs.Lists.{to_tail}
use Rattle.rules_machine.specs.declared.frame.BodyOf.{BodyOf}
use Rattle.rules_machine.specs.Lists.{changed_at, first_by, is, kept_if, numbers_from}
use Rattle.rules_machine.specs.State.{Frame, Machine, Mutex, Thread, Wait}
use Rattle.rules_machine.specs.Threads.{can_run, is_live, is_runnable, lives, no_thread, thread_at, thread_in, thread_numbers, top_kind, top_left, top_register, top_result, top_value, waiting_in, waiting_of}
use Rattle.rules_machine.specs.Priorities.{Claim, claim_of, claims, exec, exec_in, mutex_awaited_by}
use Rattle.rules_machine.specs.Waiters.{Waiter, best_waiter, is_served_before, somebody_waits, waiter_of, waiters, waits_so}
use Rattle.rules_machine.specs.Waking.{last_result, last_value}
use Rattle.rules_machine.specs.Settling.{Shift, left_runnable, moved_all, settled, shift_between, shift_of, shifted, shifted_all, stayed}
use Rattle.rules_machine.specs.Mutexes.{closes_cycle, is_above_ceiling, leads_within, owner_of_awaited}
use Rattle.laws_places.specs.Carried.{frame_carried, machine_carried, thread_carried}

pub same_function : {X Y : Type 0} (f h : X → Y) → ((x : X) → f x ≡ h x) → f ≡ h
same_function f h e = λ i x. e x i

module _ {P Q : Type 0} (carry : BodyOf → P → Q) where
  abbrev pub C : Thread P → Thread Q
  C th = thread_carried carry th

  abbrev pub M : Machine P → Machine Q
  M m = machine_carried carry m

  -- ---- threads by number

  pub thread_in_carried : (ths : List (Thread P)) (t : ℕ) → thread_in (map C ths) t ≡ C (thread_in ths t)
  thread_in_carried [] t = refl
  thread_in_carried (th ∷ ths) zero = refl
  thread_in_carried (th ∷ ths) (suc t) = thread_in_carried ths t

  pub thread_carries : (m : Machine P) (t : ℕ) → thread_at (M m) t ≡ C (thread_at m t)
  thread_carries m t = thread_in_carried m.threads t

  pub changed_carries : (t : ℕ) (f' : Thread Q → Thread Q) (f : Thread P → Thread P) → ((th : Thread P) → f' (C th) ≡ C (f th)) → (ths : List (Thread P)) →
      changed_at no_thread t f' (map C ths) ≡ map C (changed_at no_thread t f ths)
  changed_carries t f' f h [] = refl
  changed_carries zero f' f h (th ∷ ths) = ap (λ (x : Thread Q). x ∷ map C ths) (h th)
  changed_carries (suc t) f' f h (th ∷ ths) = ap (λ (xs : List (Thread Q)). C th ∷ xs) (changed_carries t f' f h ths)

  pub status_carries : (m : Machine P) (t : ℕ) → (thread_at (M m) t).status ≡ (thread_at m t).status
  status_carries m t = ap (λ (th : Thread Q). th.status) (thread_carries m t)

  pub server_carries : (m : Machine P) (t : ℕ) → (thread_at (M m) t).server ≡ (thread_at m t).server
  server_carries m t = ap (λ (th : Thread Q). th.server) (thread_carries m t)

  pub can_run_carries : (m : Machine P) (t : ℕ) → can_run (M m) t ≡ can_run m t
  can_run_carries m t = ap is_runnable (status_carries m t)

  pub lives_carries : (m : Machine P) (t : ℕ) → lives (M m) t ≡ lives m t
  lives_carries m t = ap is_live (status_carries m t)

  pub waiting_carries : (m : Machine P) (t : ℕ) → waiting_of (M m) t ≡ waiting_of m t
  waiting_carries m t = ap waiting_in (status_carries m t)

  pub length_carried : (ths : List (Thread P)) → length (map C ths) ≡ length ths
  length_carried [] = refl
  length_carried (th ∷ ths) = ap suc (length_carried ths)

  pub numbers_carry : (m : Machine P) → thread_numbers (M m) ≡ thread_numbers m
  numbers_carry m = ap (range_with_len 0) (length_carried m.threads)

  -- ---- the top frame

  pub kind_carried : (fs : List (Frame P)) → top_kind (map (frame_carried carry) fs) ≡ top_kind fs
  kind_carried [] = refl
  kind_carried (f ∷ fs) = refl

  pub left_carried : (fs : List (Frame P)) → top_left (map (frame_carried carry) fs) ≡ top_left fs
  left_carried [] = refl
  left_carried (f ∷ fs) = refl

  pub register_carried : (fs : List (Frame P)) → top_register (map (frame_carried carry) fs) ≡ top_register fs
  register_carried [] = refl
  register_carried (f ∷ fs) = refl

  result_carried : (fs : List (Frame P)) → top_result (map (frame_carried carry) fs) ≡ top_result fs
  result_carried [] = refl
  result_carried (f ∷ fs) = refl

  value_carried : (fs : List (Frame P)) → top_value (map (frame_carried carry) fs) ≡ top_value fs
  value_carried [] = refl
  value_carried (f ∷ fs) = refl

  pub register_carries : (m : Machine P) (t : ℕ) → top_register (thread_at (M m) t).frames ≡ top_register (thread_at m t).frames
  register_carries m t = ap (λ (th : Thread Q). top_register th.frames) (thread_carries m t) ∙ register_carried (thread_at m t).frames

  pub result_carries : (m : Machine P) (t : ℕ) → last_result t (M m) ≡ last_result t m
  result_carries m t = ap (λ (th : Thread Q). top_result th.frames) (thread_carries m t) ∙ result_carried (thread_at m t).frames

  pub value_carries : (m : Machine P) (t : ℕ) → last_value t (M m) ≡ last_value t m
  value_carries m t = ap (λ (th : Thread Q). top_value th.frames) (thread_carries m t) ∙ value_carried (thread_at m t).frames

  pub kind_carries : (m : Machine P) (t : ℕ) → top_kind (thread_at (M m) t).frames ≡ top_kind (thread_at m t).frames
  kind_carries m t = ap (λ (th : Thread Q). top_kind th.frames) (thread_carries m t) ∙ kind_carried (thread_at m t).frames

  pub left_carries : (m : Machine P) (t : ℕ) → top_left (thread_at (M m) t).frames ≡ top_left (thread_at m t).frames
  left_carries m t = ap (λ (th : Thread Q). top_left th.frames) (thread_carries m t) ∙ left_carried (thread_at m t).frames

  -- ---- priorities and waiters

  claims_carried : (ths : List (Thread P)) → claims (map C ths) ≡ claims ths
  claims_carried [] = refl
  claims_carried (th ∷ ths) = ap (λ (cs : List Claim). claim_of th ∷ cs) (claims_carried ths)

  pub exec_carries : (m : Machine P) (t : ℕ) → exec (M m) t ≡ exec m t
  exec_carries m t = ap (λ (cs : List Claim). exec_in cs m.mutexes t) (claims_carried m.threads)

  numbers_from_carried : (n : ℕ) (passes : Wait → Bool) (ths : List (Thread P)) → numbers_from n (waits_so passes) (map C ths) ≡ numbers_from n (waits_so passes) ths
  numbers_from_carried n passes [] = refl
  numbers_from_carried n passes (th ∷ ths) = ap (kept_if (waits_so passes th) n) (numbers_from_carried (n + 1) passes ths)

  any_carried : (passes : Wait → Bool) (ths : List (Thread P)) → list_any (waits_so passes) (map C ths) ≡ list_any (waits_so passes) ths
  any_carried passes [] = refl
  any_carried passes (th ∷ ths) = ap (λ (b : Bool). waits_so passes th || b) (any_carried passes ths)

  pub somebody_carries : (m : Machine P) (passes : Wait → Bool) → somebody_waits (M m) passes ≡ somebody_waits m passes
  somebody_carries m passes = any_carried passes m.threads

  pub waiters_carry : (m : Machine P) (passes : Wait → Bool) → waiters (M m) passes ≡ waiters m passes
  waiters_carry m passes =
      let by : (t : ℕ) → waiter_of t (exec (M m) t) (waiting_of (M m) t) ≡ waiter_of t (exec m t) (waiting_of m t) = λ t. ap₂ (waiter_of t) (exec_carries m t) (waiting_carries m t) in
      let of' : (ℕ → Option Waiter) = λ t. waiter_of t (exec (M m) t) (waiting_of (M m) t) in
      let of : (ℕ → Option Waiter) = λ t. waiter_of t (exec m t) (waiting_of m t) in
      let functions : of' ≡ of = same_function of' of by in
      ap₂ (λ (f : ℕ → Option Waiter) (ns : List ℕ). filter_map f ns) functions (numbers_from_carried 0 passes m.threads)

  pub best_carries : (m : Machine P) (passes : Wait → Bool) → best_waiter (M m) passes ≡ best_waiter m passes
  best_carries m passes = ap (first_by is_served_before) (waiters_carry m passes)

  -- ---- the lists

  left_runnable_carries : (m : Machine P) → left_runnable (M m) ≡ left_runnable m
  left_runnable_carries m =
      let functions : can_run (M m) ≡ can_run m = same_function (can_run (M m)) (can_run m) (can_run_carries m) in
      ap (λ (r : ℕ → Bool). map (filter r) m.lists) functions

  moved_carries : (m : Machine P) (direct : List ℕ) (lists : List (List ℕ)) → moved_all (M m) direct lists ≡ moved_all m direct lists
  moved_carries m [] lists = refl
  moved_carries m (t ∷ ts) lists =
      ap (moved_all (M m) ts) (ap₂ (λ (b : Bool) (e : ℕ). if b then to_tail t e lists else lists) (can_run_carries m t) (exec_carries m t))
      ∙ moved_carries m ts (if can_run m t then to_tail t (exec m t) lists else lists)

  shift_carries : (before : Machine P) (direct : List ℕ) (m : Machine P) (t : ℕ) → shift_of (M before) direct (M m) t ≡ shift_of before direct m t
  shift_carries before direct m t =
      ap₂ (λ (a b : Bool). if a && b && not (stands_in t direct) then shift_between (exec (M before) t) (exec (M m) t) else stayed) (can_run_carries before t) (can_run_carries m t)
      ∙ ap₂ (λ (x y : ℕ). if can_run before t && can_run m t && not (stands_in t direct) then shift_between x y else stayed) (exec_carries before t) (exec_carries m t)

  shifted_carries : (m : Machine P) (shift : ℕ → Shift) (ts : List ℕ) (lists : List (List ℕ)) → shifted_all (M m) shift ts lists ≡ shifted_all m shift ts lists
  shifted_carries m shift [] lists = refl
  shifted_carries m shift (t ∷ ts) lists =
      ap (λ (e : ℕ). shifted_all (M m) shift ts (shifted (shift t) t e lists)) (exec_carries m t) ∙ shifted_carries m shift ts (shifted (shift t) t (exec m t) lists)

  pub settled_carries : (before : Machine P) (direct : List ℕ) (m : Machine P) → settled (M before) direct (M m) ≡ M (settled before direct m)
  settled_carries before direct m =
      let moved' : moved_all (M m) direct (left_runnable (M m)) ≡ moved_all m direct (left_runnable m) = ap (moved_all (M m) direct) (left_runnable_carries m) ∙ moved_carries m direct (left_runnable m) in
      let shifts : shift_of (M before) direct (M m) ≡ shift_of before direct m = same_function (shift_of (M before) direct (M m)) (shift_of before direct m) (shift_carries before direct m) in
      let lists' : (settled (M before) direct (M m)).lists ≡ (settled before direct m).lists =
      ap (λ (f : ℕ → Shift). shifted_all (M m) f (thread_numbers (M m)) (moved_all (M m) direct (left_runnable (M m)))) shifts
      ∙ ap₂ (λ (ns : List ℕ) (ls : List (List ℕ)). shifted_all (M m) (shift_of before direct m) ns ls) (numbers_carry m) moved'
      ∙ shifted_carries m (shift_of before direct m) (thread_numbers m) (moved_all m direct (left_runnable m)) in
      ap (λ (ls : List (List ℕ)). M (record m { lists = ls })) lists'

  -- ---- refusals of mutexes

  ceiling_carried : (th : Thread P) (p : Protocol) → is_above_ceiling (C th) p ≡ is_above_ceiling th p
  ceiling_carried th protocol.Plain = refl
  ceiling_carried th protocol.Inherit = refl
  ceiling_carried th (protocol.Protect ceiling) = refl

  pub ceiling_carries : (m : Machine P) (t : ℕ) (p : Protocol) → is_above_ceiling (thread_at (M m) t) p ≡ is_above_ceiling (thread_at m t) p
  ceiling_carries m t p = ap (λ (th : Thread Q). is_above_ceiling th p) (thread_carries m t) ∙ ceiling_carried (thread_at m t) p

  leads_carried : (ths : List (Thread P)) (mutexes : List Mutex) (steps : ℕ) (awaited : Option ℕ) (t : ℕ) →
      leads_within (map C ths) mutexes steps awaited t ≡ leads_within ths mutexes steps awaited t
  leads_carried ths mutexes zero awaited t = refl
  leads_carried ths mutexes (suc steps) awaited t =
      let owner = owner_of_awaited ths mutexes awaited in
      let f' : (ℕ → Option ℕ) = λ u. mutex_awaited_by (thread_in (map C ths) u) in
      let f : (ℕ → Option ℕ) = λ u. mutex_awaited_by (thread_in ths u) in
      let functions : f' ≡ f = same_function f' f (λ u. ap mutex_awaited_by (thread_in_carried ths u)) in
      ap (λ (h : ℕ → Option ℕ). is owner t || leads_within (map C ths) mutexes steps (option_and_then h owner) t) functions
      ∙ ap (λ (b : Bool). is owner t || b) (leads_carried ths mutexes steps (option_and_then f owner) t)

  pub cycle_carries : (m : Machine P) (k t : ℕ) → closes_cycle (M m) k t ≡ closes_cycle m k t
  cycle_carries m k t =
      ap (λ (n : ℕ). leads_within (map C m.threads) m.mutexes n (Some k) t) (length_carried m.threads) ∙ leads_carried m.threads m.mutexes (length m.threads) (Some k) t
