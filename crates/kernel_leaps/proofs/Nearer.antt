-- A leap that may go to the nearest due tick is as long as one that may go to the horizon: no due tick is further than that.
use Rattle.std.proofs.Common.{◌≡◌, ◌≤◌, ℕ, Bool, true, false, Option, None, Some, List, [], ◌∷◌, arith, ap, refl, sym, ◌∙◌}
use Rattle.std.specs.Prelude.{max, min, if◌then◌else◌}
use Rattle.words_script.specs.declared.policy.Policy.{Policy}
use Rattle.words_script.specs.declared.policy.Policy.TheVariants as policy
use Rattle.rules_bodies.specs.declared.cursor.Cursor.{Cursor}
use Rattle.rules_server.specs.Server.{ServerState, is_high}
use Rattle.rules_machine.specs.Agenda.{Coming, agenda}
use Rattle.rules_machine.specs.Bodies.{Bodies}
use Rattle.rules_machine.specs.Dispatch.{head}
use Rattle.rules_machine.specs.State.{Machine, Thread}
use Rattle.rules_machine.specs.Threads.{thread_at, top_left}
use Rattle.rules_machine.specs.Units.{in_unit}
use Rattle.rules_leaps.specs.Quiet.{at_head}
use Rattle.rules_leaps.specs.Leap.{capacity_left, head_lasts, length_from, slice_left, thread_lasts, ticks_to_next}
use Rattle.kernel_leaps.specs.Reach.{run_length}

pub nearest : (most now : ℕ) (comings : List Coming) → ticks_to_next most now comings ≤ most
nearest most now [] = omega arith
nearest most now (c ∷ comings) = let rest = nearest most now comings in omega (arith, rest)

-- the least of three numbers, none of them above a fourth
min_swap : (n l x : ℕ) → min n (min l x) ≡ min l (min n x)
min_swap n l x = omega arith

min_both : (n a c : ℕ) → min n (min a c) ≡ min (min n a) (min n c)
min_both n a c = omega arith

least_of_near : (n l a c : ℕ) → min n (min l (min a c)) ≡ min l (min (min n a) (min n c))
least_of_near n l a c = min_swap n l (min a c) ∙ ap (min l) (min_both n a c)

module _ (most near : ℕ) (within : near ≤ most) where
  at_most : min near most ≡ min near near
  at_most = omega (arith, within)

  slice_near : (quantum slice : ℕ) (p : Policy) → min near (slice_left most quantum p slice) ≡ min near (slice_left near quantum p slice)
  slice_near quantum slice (policy.Fifo p) = at_most
  slice_near quantum slice (policy.Rr p) = refl
  slice_near quantum slice (policy.Sporadic params) = at_most
  slice_near quantum slice (policy.Strict params) = at_most

  capacity_near : (o : Option ServerState) → min near (capacity_left most o) ≡ min near (capacity_left near o)
  capacity_near None = at_most
  capacity_near (Some s) = by_high (is_high s)
    where
      by_high : (b : Bool) → min near (if b then s.capacity else most) ≡ min near (if b then s.capacity else near)
      by_high true = refl
      by_high false = at_most

  within_both : (x : ℕ) → min most (min near x) ≡ min near x
  within_both x = omega (arith, within)

  least_near : (left a b c d : ℕ) → min near a ≡ min near b → min near c ≡ min near d →
      min most (min near (min left (min a c))) ≡ min near (min left (min b d))
  least_near left a b c d one other =
      within_both (min left (min a c))
      ∙ least_of_near near left a c
      ∙ ap (λ (x : ℕ). min left (min x (min near c))) one
      ∙ ap (λ (x : ℕ). min left (min (min near b) x)) other
      ∙ sym (least_of_near near left b d)

  lasts_near : (quantum : ℕ) (th : Thread Cursor) → min most (min near (thread_lasts most quantum th)) ≡ min near (thread_lasts near quantum th)
  lasts_near quantum th =
      least_near (top_left th.frames) (slice_left most quantum th.policy th.slice) (slice_left near quantum th.policy th.slice)
      (capacity_left most th.server) (capacity_left near th.server) (slice_near quantum th.slice th.policy) (capacity_near th.server)

  runs_near : (bodies : Bodies Cursor) (m : Machine Cursor) (to : Option ℕ) →
      max 1 (min most (min near (head_lasts bodies most to m))) ≡ run_length bodies near to m
  runs_near bodies m None = omega (arith, within)
  runs_near bodies m (Some t) = ap (max 1) (lasts_near m.quantum (in_unit bodies (thread_at m t)).thread)

pub length_near : (bodies : Bodies Cursor) (most : ℕ) (m : Machine Cursor) →
    length_from bodies None most m ≡ run_length bodies (ticks_to_next most (at_head m).now (agenda (at_head m))) (head m) (at_head m)
length_near bodies most m = let h = at_head m in runs_near most (ticks_to_next most h.now (agenda h)) (nearest most h.now (agenda h)) bodies h (head m)
