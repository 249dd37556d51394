-- A mutex that is taken or given up with no look along the chain: no priority changes.
use Rattle.std.proofs.Common.{Bool, List, None, Option, Some, ap, arith, false, length, refl, set, subst, sym, true, ℕ, ◌<◌, ◌≡◌, ◌∙◌}
use Rattle.std.specs.Prelude.{is_none, map, max, ◌==◌, ◌&&◌, if◌then◌else◌}
use Rattle.std.proofs.lemmas.Bool.Decides.{nat_tests}
use Rattle.std.proofs.lemmas.List.{get_or-set_same, set-get_or}
use Rattle.words_script.specs.declared.policy.Protocol.{Protocol}
use Rattle.words_script.specs.declared.policy.Protocol.TheVariants as protocol
use Rattle.rules_machine.specs.Lists.{greatest, is}
use Rattle.rules_machine.specs.State.{Mutex}
use Rattle.rules_machine.specs.Threads.{mutex_in, no_mutex}
use Rattle.rules_machine.specs.Priorities.{assigned_in, ceiling_under, is_inherit}
use Rattle.rules_machine.specs.Mutexes.{freed, taken_by}
use Rattle.parts_waiters.specs.declared.Place.{Place}
use Rattle.parts_waiters.specs.declared.WaitObj.TheVariants as wait_obj
use Rattle.parts_waiters.specs.Places.{best_of}
use Rattle.parts_owners.specs.Chains.{Links, SameExec, Settled, asked_in, awaited_in, freed_if, is_plainly_free, links_of, prio_in, raises_nobody, taken_if, through_in, waiters_in, with_mutex}
use Rattle.parts_owners.specs.Moves.{IsPlaced}
use Rattle.parts_owners.proofs.Begun.{begins_freed, begins_taken, stands_cached}
use Rattle.parts_owners.proofs.Done.{Begins, cached_is}
use Rattle.parts_owners.proofs.FirstServed.{IsLent, lent_first}
use Rattle.parts_owners.proofs.OneMutex.{freed_same, still_settled, taken_same}

-- ---- what a mutex that raises nobody gives

no_ceiling : (p : Protocol) (first : Option ℕ) → raises_nobody p first ≡ true → ceiling_under p ≡ 0
no_ceiling protocol.Plain first h = refl
no_ceiling protocol.Inherit first h = refl
no_ceiling (protocol.Protect n) first h = absurd cc

nobody_waits : (p : Protocol) (first : Option ℕ) → raises_nobody p first ≡ true → is_inherit p ≡ true → first ≡ None
nobody_waits protocol.Plain first h lends = absurd cc
nobody_waits protocol.Inherit None h lends = refl
nobody_waits protocol.Inherit (Some u) h lends = absurd cc
nobody_waits (protocol.Protect n) first h lends = absurd cc

nothing_through : (b i : Bool) (c g : ℕ) → c ≡ 0 → (i ≡ true → g ≡ 0) → max (if b then c else 0) (if i && b then g else 0) ≡ 0
nothing_through true true c g none lent = let no = lent refl in grind (arith, none, no)
nothing_through true false c g none lent = grind (arith, none)
nothing_through false true c g none lent = refl
nothing_through false false c g none lent = refl

both_are : (a b : Bool) → (a && b) ≡ true → (a ≡ true) × (b ≡ true)
both_are true true h = (refl, refl)
both_are true false h = absurd cc
both_are false b h = absurd cc

free_is : (o : Option ℕ) → is_none o ≡ true → o ≡ None
free_is None h = refl
free_is (Some u) h = absurd cc

no_more : (e g : ℕ) → g ≡ 0 → e ≡ max e g
no_more e g none = grind (arith, none)

pub are_same : (r : Bool) (a b : ℕ) → r ≡ true → r ≡ (a == b) → a ≡ b
are_same r a b so h = grind (arith, nat_tests, so, h)

module _ (s : Links) (exec : List ℕ) (k t : ℕ) (places : List (Option Place)) (settled : Settled s exec) (placed : IsPlaced s places) where
  gives_nothing : raises_nobody (mutex_in s.mutexes k).protocol (best_of (wait_obj.Mutex k) places) ≡ true →
      through_in s.claims (prio_in exec) t k (taken_by t (mutex_in s.mutexes k)) ≡ 0
  gives_nothing none =
      let m = mutex_in s.mutexes k in
      let first = best_of (wait_obj.Mutex k) places in
      let g = greatest (map (prio_in exec) (waiters_in s.claims k)) in
      nothing_through (is (Some t) t) (is_inherit m.protocol) (ceiling_under m.protocol) g (no_ceiling m.protocol first none)
      (λ lends.
      let lent = lent_first exec s.claims places k k first placed.lengths (stands_cached s exec places settled placed) placed.waiters refl refl in
      subst (IsLent (prio_in exec) (length s.claims) g) (nobody_waits m.protocol first none lends) lent)

  -- so the thread that takes it has what it had
  pub gets_no_more : k < length s.mutexes → raises_nobody (mutex_in s.mutexes k).protocol (best_of (wait_obj.Mutex k) places) ≡ true →
      prio_in exec t ≡ max (prio_in exec t) (through_in s.claims (prio_in exec) t k (mutex_in (with_mutex k (taken_by t) s).mutexes k))
  gets_no_more lt none =
      let y = taken_by t (mutex_in s.mutexes k) in
      let here : mutex_in (set s.mutexes k y) k ≡ y = get_or-set_same s.mutexes k y no_mutex lt in
      rw here (no_more (prio_in exec t) (through_in s.claims (prio_in exec) t k y) (gives_nothing none))

  -- ---- no priority changes

  module _ (new : Links) (b : Begins s new exec t places) (same : prio_in exec t ≡ asked_in new.claims new.mutexes (prio_in exec) t) (claims : new.claims ≡ s.claims) where
    after : Settled new exec
    after = still_settled s new exec t places b same

    same_exec : SameExec s new
    same_exec = record {
      lengths = ap length claims;
      each = λ u lt.
          let all = ap length claims in
          sym (cached_is new exec after.free after.owners after.right u (omega (arith, lt, all))) ∙ b.cached u lt;
    }

  unchanged : SameExec s s
  unchanged = record { lengths = refl; each = λ u lt. refl }

  left_alone : with_mutex k (λ (m : Mutex). m) s ≡ s
  left_alone = ap (links_of s.claims) (set-get_or s.mutexes k no_mutex)

  -- what becomes of the chain where a mutex may be taken at once
  pub taken : (b : Bool) → t < length s.claims → k < length s.mutexes → awaited_in s.claims t ≡ None →
      b ≡ is_plainly_free (mutex_in s.mutexes k) (best_of (wait_obj.Mutex k) places) →
      Settled (with_mutex k (taken_if b t) s) exec × SameExec s (with_mutex k (taken_if b t) s)
  taken false known lt waits_not is = rw left_alone (settled, unchanged)
  taken true known lt waits_not is =
      let m = mutex_in s.mutexes k in
      let two = both_are (is_none m.owner) (raises_nobody m.protocol (best_of (wait_obj.Mutex k) places)) (sym is) in
      let free = free_is m.owner two.0 in
      let same = taken_same s exec k t known lt settled free (gets_no_more lt two.1) in
      let b = begins_taken s exec k t places known lt settled placed free waits_not in
      (after (with_mutex k (taken_by t) s) b same refl, same_exec (with_mutex k (taken_by t) s) b same refl)

  -- and where it may be given up at once
  pub given : (b : Bool) → k < length s.mutexes → (mutex_in s.mutexes k).owner ≡ Some t →
      b ≡ (prio_in exec t == assigned_in s.claims s.mutexes t) →
      Settled (with_mutex k (freed_if b) s) exec × SameExec s (with_mutex k (freed_if b) s)
  given false lt owned is = rw left_alone (settled, unchanged)
  given true lt owned is =
      let low : prio_in exec t ≡ assigned_in s.claims s.mutexes t = are_same true (prio_in exec t) (assigned_in s.claims s.mutexes t) refl is in
      let same = freed_same s exec k t (settled.owners.each k t owned) lt settled low in
      let b = begins_freed s exec k t places lt settled placed owned in
      (after (with_mutex k freed s) b same refl, same_exec (with_mutex k freed s) b same refl)
