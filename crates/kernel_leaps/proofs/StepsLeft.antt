-- How many steps are left of a run that is told.
use Rattle.std.proofs.Common.{◌≡◌, ◌∙◌, ◌+◌, ◌≤◌, ℕ, zero, suc, Bool, None, Option, Some, ap, arith, false, refl, subst, sym, true}
use Rattle.std.specs.Prelude.{min, nat_lt, not, ◌-◌, ◌*◌, ◌&&◌, ◌||◌, if◌then◌else◌}
use Rattle.words_script.specs.declared.decl.Script.{Script}
use Rattle.words_script.specs.declared.policy.Policy.{Policy}
use Rattle.words_script.specs.declared.policy.Policy.TheVariants as policy
use Rattle.rules_server.specs.Server.{ServerState, is_high}
use Rattle.rules_bodies.specs.declared.cursor.Cursor.{Cursor}
use Rattle.rules_machine.specs.Bodies.{Bodies}
use Rattle.rules_machine.specs.Eventful.{has_item, is_eventful, next_tick_matters}
use Rattle.rules_machine.specs.Runs.{Ran, opening, ran, ticks}
use Rattle.rules_machine.specs.State.{Machine, Thread}
use Rattle.rules_machine.specs.Threads.{top_left}
use Rattle.rules_machine.specs.Turns.{turn_of}
use Rattle.rules_machine.specs.WellFormed.{IsWellFormed}
use Rattle.rules_machine.proofs.Joined.{ticks_add}
use Rattle.rules_machine.specs.Promises.{busy_between}
use Rattle.rules_flat_code.specs.FlatBodies.{code_of, flat_bodies}
use Rattle.rules_flat_code.specs.Runnable.{IsRunnable}
use Rattle.rules_leaps.specs.Leap.{IsLeap, capacity_left, in_leaps, leap, leap_length, slice_left, thread_lasts}
use Rattle.laws_flat_code.proofs.Agrees.{flat_busy}
use Rattle.laws_leaps.proofs.Leaps.Lengths.{IsReady, is_leap}
use Rattle.laws_leaps.proofs.Leaps.Scripts.{stays_ready}
use Rattle.laws_kernel.proofs.Ranges.{flat_bodies_fit}
use Rattle.kernel_wakes.specs.Calls.{objects_in}
use Rattle.kernel_state.specs.Kernel.{opened}
use Rattle.kernel_leaps.specs.Detail.{is_rest, leaps_left, steps_left}
use Rattle.kernel_leaps.specs.declared.detail.Reached.{Reached}
use Rattle.kernel_leaps.proofs.LeapCounts.{one_less}
use Rattle.kernel_leaps.proofs.MidLeap.{as_many}
use Rattle.kernel_leaps.proofs.Opened.{script_fits}
use Rattle.kernel_leaps.proofs.Running.{few_leaps}

-- ---- as long as a leap may be

slice_same : (a b quantum near left : ℕ) (p : Policy) (slice c : ℕ) → near ≤ a → near ≤ b → min near (min left (min (slice_left a quantum p slice) c)) ≡ min near (min left (min (slice_left b quantum p slice) c))
slice_same a b quantum near left (policy.Fifo p) slice c x y = omega (arith, x, y)
slice_same a b quantum near left (policy.Rr p) slice c x y = refl
slice_same a b quantum near left (policy.Sporadic params) slice c x y = omega (arith, x, y)
slice_same a b quantum near left (policy.Strict params) slice c x y = omega (arith, x, y)

capacity_same : (a b near left s : ℕ) (o : Option ServerState) → near ≤ a → near ≤ b → min near (min left (min s (capacity_left a o))) ≡ min near (min left (min s (capacity_left b o)))
capacity_same a b near left s None x y = omega (arith, x, y)
capacity_same a b near left s (Some server) x y = by_high (is_high server)
  where
    by_high : (h : Bool) → min near (min left (min s (if h then server.capacity else a))) ≡ min near (min left (min s (if h then server.capacity else b)))
    by_high true = refl
    by_high false = omega (arith, x, y)

-- whatever bounds them, so many ticks are as many
pub lasts_same : (a b quantum near : ℕ) (th : Thread Cursor) → near ≤ a → near ≤ b → min near (thread_lasts a quantum th) ≡ min near (thread_lasts b quantum th)
lasts_same a b quantum near th x y =
    slice_same a b quantum near (top_left th.frames) th.policy th.slice (capacity_left a th.server) x y
    ∙ capacity_same a b near (top_left th.frames) (slice_left b quantum th.policy th.slice) th.server x y

-- ---- steps

no_item : (a b : Bool) → (a || b) ≡ false → (a ≡ false) × (b ≡ false)
no_item a b e = (grind arith, grind arith)

module _ (script : Script) (fits : IsWellFormed script) (at : Reached) (some : 1 ≤ at.left) where
  abbrev q : Bodies Cursor
  q = flat_bodies (code_of script)

  abbrev m : Machine Cursor
  m = (ticks q at.done (opening script)).machine

  ready_at : (n : ℕ) → IsReady q (ticks q n (opening script)).machine
  ready_at n = stays_ready q (flat_bodies_fit script fits.priorities) script fits n

  abbrev long : ℕ
  long = leap_length q at.left m

  law : IsLeap q at.left long m
  law = is_leap q m at.left some (ready_at at.done)

  on : (j : ℕ) → (ticks q j m).machine ≡ (ticks q (at.done + j) (opening script)).machine
  on j = sym (ap (λ (r : Ran Cursor). r.machine) (ticks_add q at.done j (opening script)))

  -- behind a leap one less is left
  whole_leap : (j : ℕ) → j ≡ long → (is_quiet : Bool) → leaps_left script (record { done = at.done + j; left = at.left - j; is_quiet = is_quiet }) + 1 ≡ leaps_left script at
  whole_leap j is is_quiet =
      let same = subst (λ (i : ℕ). ran (leap q i (turn_of m)) ≡ ticks q i m) (sym is) law.same in
      ap (λ (x : Machine Cursor). (in_leaps q (at.left - j) x).count + 1) (sym (on j)) ∙ sym (one_less q at.left j m some is same)

  some_left : 1 ≤ leaps_left script at
  some_left = (let e = whole_leap long refl false in omega (arith, e))

  -- the first tick of a longer leap
  module _ (two : 2 ≤ long) where
    calm : is_eventful q m 1 ≡ false
    calm = law.inside 1 (omega arith) (omega (arith, two))

    idle : has_item (ticks q (at.done + 1) (opening script)).machine ≡ false
    idle = sym (ap has_item (on 1)) ∙ (no_item (has_item (ticks q 1 m).machine) (next_tick_matters q m) calm).0

    pub quiet_tick : next_tick_matters q m ≡ false
    quiet_tick = (no_item (has_item (ticks q 1 m).machine) (next_tick_matters q m) calm).1

    same_left : (is_quiet : Bool) → leaps_left script (record { done = at.done + 1; left = at.left - 1; is_quiet = is_quiet }) ≡ leaps_left script at
    same_left is_quiet = by_left at.left refl
      where
        by_left : (n : ℕ) → at.left ≡ n → (in_leaps q (n - 1) (ticks q (at.done + 1) (opening script)).machine).count ≡ (in_leaps q n m).count
        by_left zero e = absurd (omega (arith, some, e))
        by_left (suc most) e =
            let within = law.within in
            let more : 1 ≤ most = omega (arith, e, two, within) in
            let less : suc most - 1 ≡ most = omega arith in
            let there = (ticks q 1 m).machine in
            let whole : IsLeap q (suc most) long m = subst (λ (n : ℕ). IsLeap q n long m) e law in
            let long_is : long ≡ leap_length q (suc most) m = ap (λ (n : ℕ). leap_length q n m) e in
            let after : IsLeap q most (leap_length q most there) there = is_leap q there most more (subst (IsReady q) (sym (on 1)) (ready_at (at.done + 1))) in
            ap (λ (n : ℕ). (in_leaps q n (ticks q (at.done + 1) (opening script)).machine).count) less
            ∙ ap (λ (x : Machine Cursor). (in_leaps q most x).count) (sym (on 1))
            ∙ as_many q m most long (leap_length q most there) whole two after long_is refl more

  -- ---- steps

  pub some_steps : 1 ≤ steps_left script at
  some_steps = by_rest (is_rest script at)
    where
      by_rest : (b : Bool) → 1 ≤ 2 * leaps_left script at - (if b then 1 else 0)
      by_rest true = (let c = some_left in omega (arith, c))
      by_rest false = (let c = some_left in omega (arith, c))

  abbrev behind_tick : Bool → Reached
  behind_tick is_quiet = record { done = at.done + 1; left = at.left - 1; is_quiet = is_quiet }

  -- behind the first tick of a leap
  pub first_step : is_rest script at ≡ false → (is_quiet : Bool) → (2 ≤ long → is_quiet ≡ true)
      → 1 + steps_left script (behind_tick is_quiet) ≤ steps_left script at
  first_step not_rest is_quiet told = by_long (nat_lt 1 long) refl
    where
      here : steps_left script at ≡ 2 * leaps_left script at
      here = (let e : steps_left script at ≡ 2 * leaps_left script at - 0 = ap (λ (b : Bool). 2 * leaps_left script at - (if b then 1 else 0)) not_rest in omega (arith, e))

      most : steps_left script (behind_tick is_quiet) ≤ 2 * leaps_left script (behind_tick is_quiet)
      most = omega arith

      longer : nat_lt 1 long ≡ true → 2 ≤ long
      longer e = grind arith

      single : nat_lt 1 long ≡ false → 1 ≤ long → 1 ≡ long
      single e one = grind arith

      both : (a b : Bool) → a ≡ true → b ≡ false → (a && not b) ≡ true
      both a b e f = grind arith

      by_long : (b : Bool) → nat_lt 1 long ≡ b → 1 + steps_left script (behind_tick is_quiet) ≤ steps_left script at
      by_long true e =
          let two = longer e in
          let rest : is_rest script (behind_tick is_quiet) ≡ true = both is_quiet (has_item (ticks q (at.done + 1) (opening script)).machine) (told two) (idle two) in
          let there : steps_left script (behind_tick is_quiet) ≡ 2 * leaps_left script (behind_tick is_quiet) - 1 = ap (λ (b : Bool). 2 * leaps_left script (behind_tick is_quiet) - (if b then 1 else 0)) rest in
          let same = same_left two is_quiet in
          let c = some_left in
          omega (arith, here, there, same, c)
      by_long false e =
          let one = law.some in
          let less = whole_leap 1 (single e one) is_quiet in
          omega (arith, here, most, less)

  -- behind the rest of it
  pub rest_step : is_rest script at ≡ true → (j : ℕ) → j ≡ long → 1 + steps_left script (record { done = at.done + j; left = at.left - j; is_quiet = false }) ≤ steps_left script at
  rest_step rest j is =
      let here : steps_left script at ≡ 2 * leaps_left script at - 1 = ap (λ (b : Bool). 2 * leaps_left script at - (if b then 1 else 0)) rest in
      let less = whole_leap j is false in
      omega (arith, here, less)

-- ---- of a whole run

pub few_steps : (script : Script) → IsRunnable script → IsWellFormed script → (horizon : ℕ) → steps_left script (record { done = 0; left = horizon; is_quiet = false }) ≤ 2 * busy_between script 0 horizon + 2
few_steps script ok fits horizon =
    let few = few_leaps (opened script) (objects_in (opened script)) horizon (script_fits script ok fits) in
    let same = flat_busy script 0 horizon in
    omega (arith, few, same)
