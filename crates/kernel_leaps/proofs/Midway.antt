-- A leap, and leaps of one thread after another: where they stand before the next one, which the instant's items and the dispatch precede
-- where they do anything.
use Rattle.std.proofs.Common.{◌≡◌, ◌≤◌, ◌<◌, ◌+◌, ◌-◌, ℕ, List, [], true, false, Option, None, Some, ap, arith, refl, subst, sym, ◌∙◌}
use Rattle.std.specs.Prelude.{is_some, IfSome, max, min}
use Rattle.parts_tracer.specs.declared.tracer.Tracer.{Tracer}
use Rattle.parts_tracer.specs.Tells.{Tells}
use Rattle.parts_tracer.proofs.Tells.{tells_nothing}
use Rattle.rules_bodies.specs.declared.cursor.Cursor.{Cursor}
use Rattle.rules_machine.specs.Agenda.{agenda}
use Rattle.rules_machine.specs.Bodies.{Bodies}
use Rattle.rules_machine.specs.Dispatch.{head}
use Rattle.rules_machine.specs.DueItems.{instant, item_bound, next_item}
use Rattle.rules_machine.specs.State.{Machine}
use Rattle.rules_machine.specs.Threads.{thread_at}
use Rattle.rules_machine.specs.Ticks.{prepares, unless_killed}
use Rattle.rules_machine.specs.Turns.{Turn, becomes, turn_of}
use Rattle.rules_machine.specs.Units.{in_unit}
use Rattle.rules_machine.proofs.Counting.{instant_now}
use Rattle.rules_machine.proofs.Parts.{prepares_unended}
use Rattle.rules_moves.proofs.Runs.Preparing.{IsReady, prepared}
use Rattle.rules_flat_code.specs.FlatBodies.{flat_bodies}
use Rattle.rules_leaps.specs.Leap.{in_leaps, later_by, leap, leap_goes_on, leap_head, leap_length, leap_runs, length_from, ticks_to_next}
use Rattle.rules_leaps.specs.Quiet.{IsHandled}
use Rattle.laws_leaps.proofs.Leaps.Ahead.{agenda_stays, nearer_by, nothing_yet}
use Rattle.laws_leaps.proofs.Leaps.Going.{gone}
use Rattle.laws_leaps.proofs.Leaps.Law.{leap_runs_behind}
use Rattle.laws_leaps.proofs.Quiet.AnyMachine.{handled_of}
use Rattle.laws_leaps.proofs.Quiet.Charges.{stays_so}
use Rattle.laws_leaps.proofs.Quiet.Prepared.{Begun, prepares_nothing}
use Rattle.laws_leaps.proofs.Quiet.Ticks.{idle_items}
use Rattle.kernel_wakes.specs.Calls.{objects_in}
use Rattle.kernel_state.specs.Kernel.{Kernel, after, told, turn}
use Rattle.kernel_settling.specs.Stood.{StoodRight}
use Rattle.kernel_state.proofs.Turns.{then_state_in, then_told_in}
use Rattle.kernel_leaps.specs.Fits.{Fits, FitsLeap, StaysFit}
use Rattle.kernel_leaps.specs.Landing.{IsSweepable}
use Rattle.kernel_threads.specs.Lasting.{lasts_by}
use Rattle.kernel_leaps.specs.Reach.{run_length}
use Rattle.kernel_leaps.proofs.Fitting.{instant_fits, prepared_fits}
use Rattle.kernel_leaps.proofs.HeadRuns.{head_runs}
use Rattle.kernel_leaps.proofs.Landing.{alive_lands, head_lands, head_long, instant_lands, leap_lands}
use Rattle.kernel_leaps.proofs.LeapParts.{leap_goes_on_behind}
use Rattle.kernel_leaps.proofs.Leaping.{Leaping, leap_on, not_beyond}
use Rattle.kernel_leaps.proofs.Nearer.{nearest}
use Rattle.kernel_leaps.proofs.Begins.{gone_begun}
use Rattle.kernel_leaps.proofs.Onward.{IsCalm, charges_by}
use Rattle.kernel_leaps.proofs.Prepared.{ServersAlone, kernel_prepared, stands_prepared}
use Rattle.kernel_leaps.proofs.Running.{items_fit, no_ticks, still_fits, turn_is}

-- k is where the last leap ended, l has the items of that instant handled, and p what precedes the tick of the head done
pub record Midway {K : Type 0} (text : K → Option (List ℕ)) (faults : K → ℕ) (start p : Kernel) (to : Option ℕ) (most near done before since : ℕ) (a d : Tracer K) : Type 0 where
  pub k : Kernel
  pub l : Kernel
  pub b : Tracer K
  pub c : Tracer K
  pub leaping : Leaping text faults start k most done before since a b
  pub left : done < most
  pub handled : l ≡ after (instant (flat_bodies k.code)) k
  pub items_told : Tells text faults k.names b c (told (instant (flat_bodies k.code)) k)
  pub stood : StoodRight l.machine
  pub alive : l.machine.killed ≡ None
  pub top : head l.machine ≡ to
  pub silent : l.direct ≡ []
  pub given : p ≡ after (prepares (head l.machine)) l
  pub given_told : Tells text faults l.names c d (told (prepares (head l.machine)) l)
  pub is_near : near ≡ ticks_to_next (most - done) p.machine.now (agenda p.machine)
  pub stands : StoodRight p.machine
  pub quiet : p.direct ≡ []

is_alive : (o : Option ℕ) → o ≡ None → is_some o ≡ false
is_alive o e = ap is_some e

module _ {K : Type 0} (text : K → Option (List ℕ)) (faults : K → ℕ) (start : Kernel) (fit : StaysFit start (objects_in start)) where
  none_leapt : (most before : ℕ) (a : Tracer K) → StoodRight start.machine → start.direct ≡ [] → Leaping text faults start start most 0 before before a a
  none_leapt most before a stood quiet =
      let all : most - 0 ≡ most = omega arith in
      record { running = no_ticks text faults start a stood quiet; within = omega arith; few = subst (λ (n : ℕ). before + (in_leaps (flat_bodies start.code) n start.machine).count ≤ before + (in_leaps (flat_bodies start.code) most start.machine).count) (sym all) (omega arith) }

  -- before the first leap
  pub begun : (l p : Kernel) (to : Option ℕ) (most near before : ℕ) (a c d : Tracer K) → 1 ≤ most → StoodRight start.machine → start.direct ≡ [] → l ≡ after (instant (flat_bodies start.code)) start →
      Tells text faults start.names a c (told (instant (flat_bodies start.code)) start) → StoodRight l.machine → l.direct ≡ [] → is_some l.machine.killed ≡ false → to ≡ head l.machine → p ≡ after (prepares (head l.machine)) l →
      Tells text faults l.names c d (told (prepares (head l.machine)) l) → near ≡ ticks_to_next most p.machine.now (agenda p.machine) → Midway text faults start p to most near 0 before before a d
  begun l p to most near before a c d some stood quiet handled items_told stands still alive top given given_told near_is = record {
    k = start;
    l = l;
    b = a;
    c = c;
    leaping = none_leapt most before a stood quiet;
    left = some;
    handled = handled;
    items_told = items_told;
    stood = stands;
    alive = no_signal l.machine.killed alive;
    top = sym top;
    silent = still;
    given = given;
    given_told = given_told;
    is_near = near_is ∙ ap (λ (n : ℕ). ticks_to_next n p.machine.now (agenda p.machine)) (sym all);
    stands = stands_prepared l.machine (turn p) (kernel_prepared l p stands given) stands;
    quiet = ap (λ (x : Kernel). x.direct) given ∙ (prepares_unended (head l.machine) (turn l)).direct ∙ still;
  }
    where
      all : most - 0 ≡ most
      all = omega arith

      no_signal : (o : Option ℕ) → is_some o ≡ false → o ≡ None
      no_signal None e = refl
      no_signal (Some signal) e = absurd (cc)

  -- where the process has ended it goes as far as it may at once
  pub ended_leap : (l : Kernel) (most before : ℕ) (a c : Tracer K) → 1 ≤ most → StoodRight start.machine → start.direct ≡ [] → l ≡ after (instant (flat_bodies start.code)) start →
      Tells text faults start.names a c (told (instant (flat_bodies start.code)) start) → StoodRight l.machine → l.direct ≡ [] → is_some l.machine.killed ≡ true → Leaping text faults start l most most before before a c
  ended_leap l most before a c some stood quiet handled items_told stands still dead =
      subst (λ (n : ℕ). Leaping text faults start l most n before before a c) whole
      (leap_on text faults start fit start l most 0 most before before before a a c (none_leapt most before a stood quiet) some long state tells stands still (omega arith))
    where
      bodies : Bodies Cursor
      bodies = flat_bodies start.code

      ready : Turn Cursor
      ready = instant (flat_bodies start.code) (turn start)

      whole : 0 + most ≡ most
      whole = omega arith

      killed : is_some ready.machine.killed ≡ true
      killed = sym (ap (λ (x : Kernel). is_some x.machine.killed) handled) ∙ dead

      stays : (o : Option ℕ) → is_some o ≡ true → (s : Turn Cursor) → unless_killed o (leap_head (flat_bodies start.code) most) s ≡ s
      stays None e s = absurd (cc)
      stays (Some signal) e s = refl

      goes : (o : Option ℕ) → is_some o ≡ true → (n : ℕ) (x : Machine Cursor) → length_from (flat_bodies start.code) o n x ≡ n
      goes None e n x = absurd (cc)
      goes (Some signal) e n x = refl

      long : most ≡ leap_length (flat_bodies start.code) (most - 0) start.machine
      long =
          (let all : most ≡ most - 0 = omega arith in all)
          ∙ sym (goes ready.machine.killed killed (most - 0) ready.machine)
          ∙ ap (λ (s : Turn Cursor). (let x = (instant (flat_bodies start.code) s).machine in length_from (flat_bodies start.code) x.killed (most - 0) x)) (turn_is start quiet)

      same : leap (flat_bodies start.code) most (turn start) ≡ ready
      same = stays ready.machine.killed killed ready

      state : l ≡ after (leap (flat_bodies start.code) most) start
      state = handled ∙ sym (ap (λ (s : Turn Cursor). record start { machine = s.machine; direct = s.direct }) same)

      tells : Tells text faults start.names a c (told (leap (flat_bodies start.code) most) start)
      tells = subst (λ (s : Turn Cursor). Tells text faults start.names a c s.events) (sym same) items_told

  module _ (p : Kernel) (to : Option ℕ) (most near done before since : ℕ) (a d : Tracer K) (m : Midway text faults start p to most near done before since a d) where
    fit_here : StaysFit m.k (objects_in m.k)
    fit_here = still_fits start m.k done m.leaping.running.state fit

    fits_handled : Fits (objects_in m.l) m.l.code m.l.machine
    fits_handled = instant_fits m.k m.l m.handled (items_fit m.k m.leaping.running.quiet fit_here)

    alone : ServersAlone m.l.machine (turn p)
    alone = kernel_prepared m.l p m.stood m.given

    pub is_running : p.machine.killed ≡ None
    is_running = ap (λ (x : Machine Cursor). x.killed) alone.machine ∙ m.alive

    still_instant : (instant (flat_bodies m.k.code) (turn_of m.k.machine)).machine ≡ m.l.machine
    still_instant =
        ap (λ (s : Turn Cursor). (instant (flat_bodies m.k.code) s).machine) (sym (turn_is m.k m.leaping.running.quiet)) ∙ sym (ap (λ (x : Kernel). x.machine) m.handled)

    -- and its leap ends in time
    pub in_time : (limit : ℕ) → start.machine.now + most ≤ limit → p.machine.now + max 1 near ≤ limit
    in_time limit early =
        let here = ap (λ (x : Machine Cursor). x.now) alone.machine in
        let there = ap (λ (x : Kernel). x.machine.now) m.handled ∙ instant_now (flat_bodies m.k.code) (turn m.k) in
        let far = not_beyond text faults start fit m.k most done before since a m.b m.leaping in
        let reach = nearest (most - done) p.machine.now (agenda p.machine) in
        let is = m.is_near in
        let left = m.left in
        omega (arith, early, here, there, far, reach, is, left)

    -- the lists are right, and nothing is to be swept
    pub is_calm : IsCalm (flat_bodies p.code) p.machine
    is_calm =
        let ready = handled_of (flat_bodies m.l.code) m.l.machine (subst IsHandled still_instant (fit_here.leaps 0).handled) in
        let so = stays_so (flat_bodies m.l.code) (head m.l.machine) (turn m.l) (λ t e. head_runs m.l.machine t m.stood e) ready.stand ready.swept in
        let there : p.machine ≡ (prepares (head m.l.machine) (turn m.l)).machine = ap (λ (x : Kernel). x.machine) m.given in
        let code : flat_bodies m.l.code ≡ flat_bodies p.code = ap (λ (x : Kernel). flat_bodies x.code) (sym m.given) in
        subst (λ (b : Bodies Cursor). IsCalm b p.machine) code (subst (IsCalm (flat_bodies m.l.code)) (sym there) (record { stand = so.stand; swept = λ alive u. so.swept m.alive u }))

    -- one leap more
    module _ (q : Kernel) (e : Tracer K) (j later : ℕ) (length : j ≡ run_length (flat_bodies p.code) near to p.machine)
        (state : q ≡ after (leap_runs (flat_bodies p.code) j to) p) (tells : Tells text faults p.names d e (told (leap_runs (flat_bodies p.code) j to) p))
        (stood : StoodRight q.machine) (quiet : q.direct ≡ []) (step : later ≡ since + 1) where
      abbrev h : Option ℕ
      h = head m.l.machine

      run_is : q ≡ after (leap_runs (flat_bodies p.code) j h) p
      run_is = subst (λ (o : Option ℕ). q ≡ after (leap_runs (flat_bodies p.code) j o) p) (sym m.top) state

      run_told : Tells text faults p.names d e (told (leap_runs (flat_bodies p.code) j h) p)
      run_told = subst (λ (o : Option ℕ). Tells text faults p.names d e (told (leap_runs (flat_bodies p.code) j o) p)) (sym m.top) tells

      from_head : q ≡ after (leap_head (flat_bodies m.l.code) j) m.l
      from_head = then_state_in (λ b. prepares h) (λ b. leap_runs b j h) m.l p q (λ b. leap_runs_behind b j h) m.given run_is

      head_told : Tells text faults m.l.names m.c e (told (leap_head (flat_bodies m.l.code) j) m.l)
      head_told = then_told_in text faults (λ b. prepares h) (λ b. leap_runs b j h) m.l p _ _ _ (λ b. leap_runs_behind b j h) m.given m.given_told run_told

      goes_on : leap_goes_on (flat_bodies m.l.code) j (turn m.l) ≡ leap_head (flat_bodies m.l.code) j (turn m.l)
      goes_on = ap (λ (o : Option ℕ). unless_killed o (leap_head (flat_bodies m.l.code) j) (turn m.l)) m.alive

      from_items : q ≡ after (leap_goes_on (flat_bodies m.l.code) j) m.l
      from_items = from_head ∙ sym (ap (λ (s : Turn Cursor). record m.l { machine = s.machine; direct = s.direct }) goes_on)

      behind_told : Tells text faults m.l.names m.c e (told (leap_goes_on (flat_bodies m.l.code) j) m.l)
      behind_told = subst (λ (s : Turn Cursor). Tells text faults m.l.names m.c e s.events) (sym goes_on) head_told

      whole : q ≡ after (leap (flat_bodies m.k.code) j) m.k
      whole = then_state_in instant (λ b. leap_goes_on b j) m.k m.l q (λ b. leap_goes_on_behind b j) m.handled from_items

      whole_told : Tells text faults m.k.names m.b e (told (leap (flat_bodies m.k.code) j) m.k)
      whole_told = then_told_in text faults instant (λ b. leap_goes_on b j) m.k m.l _ _ _ (λ b. leap_goes_on_behind b j) m.handled m.items_told behind_told

      is_long : j ≡ leap_length (flat_bodies m.k.code) (most - done) m.k.machine
      is_long =
          length
          ∙ head_long m.l p (most - done) near to m.silent (sym m.top) m.given m.is_near
          ∙ ap (λ (x : Kernel). length_from (flat_bodies x.code) None (most - done) x.machine) m.handled
          ∙ ap (λ (o : Option ℕ). length_from (flat_bodies m.k.code) o (most - done) (instant (flat_bodies m.k.code) (turn m.k)).machine) (sym m.alive ∙ ap (λ (x : Kernel). x.machine.killed) m.handled)
          ∙ ap (λ (s : Turn Cursor). (let ready = (instant (flat_bodies m.k.code) s).machine in length_from (flat_bodies m.k.code) ready.killed (most - done) ready)) (turn_is m.k m.leaping.running.quiet)

      pub leapt_on : Leaping text faults start q most (done + j) before later a e
      leapt_on = leap_on text faults start fit m.k q most done j before since later a m.b e m.leaping m.left is_long whole whole_told stood quiet (omega (arith, step))

  -- where nobody runs
  pub idle_leap : (p q : Kernel) (most near before later k : ℕ) (a d : Tracer K) → Midway text faults start p None most near 0 before before a d → k ≡ max 1 near → q ≡ after (becomes (later_by k)) p → later ≡ before + 1 →
      Leaping text faults start q most k before later a d
  idle_leap p q most near before later k a d m long state step =
      subst (λ (n : ℕ). Leaping text faults start q most n before later a d) whole
      (leapt_on p None most near 0 before before a d m q d k later (long ∙ nearest_all near) state (tells_nothing text faults p.names d) stood' (ap (λ (x : Kernel). x.direct) state ∙ m.quiet) step)
    where
      whole : 0 + k ≡ k
      whole = omega arith

      nearest_all : (n : ℕ) → max 1 n ≡ max 1 (min n n)
      nearest_all n = omega arith

      stood' : StoodRight q.machine
      stood' = subst (λ (x : Kernel). StoodRight x.machine) (sym state) (record { every = m.stands.every; within = m.stands.within; positive = m.stands.positive; runs = m.stands.runs; others = m.stands.others })

  module _ (p : Kernel) (t most near done before since : ℕ) (a d : Tracer K) (m : Midway text faults start p (Some t) most near done before since a d) where
    -- the thread may have ticks
    pub may_run : FitsLeap (objects_in p) p.code p.machine t
    may_run =
        subst (λ (o : Option ℕ). IfSome o (λ u. FitsLeap (objects_in p) p.code p.machine u)) m.top
        (prepared_fits m.l p m.given m.stood (fits_handled p (Some t) most near done before since a d m))

    -- and where its leap ends a sweep could come
    pub may_sweep : IsSweepable (after (leap_runs (flat_bodies p.code) (lasts_by near p.machine.quantum (in_unit (flat_bodies p.code) (thread_at p.machine t)).thread) (Some t)) p)
    may_sweep =
        let left = m.left in
        let whole = leap_lands m.k (most - done) (omega (arith, left)) m.leaping.running.quiet (fit_here p (Some t) most near done before since a d m) in
        let behind = instant_lands m.k m.l (most - done) m.leaping.running.quiet m.handled whole in
        let first = alive_lands m.l (most - done) (is_alive m.l.machine.killed m.alive) behind in
        subst (λ (o : Option ℕ). IfSome o (λ u. IsSweepable (after (leap_runs (flat_bodies p.code) (lasts_by near p.machine.quantum (in_unit (flat_bodies p.code) (thread_at p.machine u)).thread) (Some u)) p))) m.top
        (head_lands m.l p (most - done) near (head m.l.machine) m.silent refl m.given m.is_near first)

    -- where it was the thread's charge alone, and nothing is due yet, its next leap needs neither the items nor the dispatch
    module _ (q : Kernel) (e : Tracer K) (j later : ℕ) (leaping : Leaping text faults start q most (done + j) before later a e) (charged : q ≡ after (charges_by t j p) p) (stood : StoodRight q.machine) (quiet : q.direct ≡ [])
        (some : 1 ≤ j) (ahead : 1 ≤ near - j) where
      ready : IsReady (head m.l.machine) p.machine
      ready = subst (IsReady (head m.l.machine)) (sym (ap (λ (x : Kernel). x.machine) m.given)) (prepared (head m.l.machine) (turn m.l))

      there : q.machine ≡ gone (flat_bodies p.code) t j p.machine
      there = ap (λ (x : Kernel). x.machine) charged

      lives : q.machine.killed ≡ None
      lives = ap (λ (x : Machine Cursor). x.killed) there ∙ is_running p (Some t) most near done before since a d m

      first : head q.machine ≡ Some t
      first = ap head there ∙ ap head (alone p (Some t) most near done before since a d m).machine ∙ m.top

      still : turn q ≡ turn_of q.machine
      still = turn_is q quiet

      coming : agenda q.machine ≡ agenda p.machine
      coming = ap agenda there ∙ agenda_stays (flat_bodies p.code) t j p.machine

      comes_later : q.machine.now ≡ p.machine.now + j
      comes_later = ap (λ (x : Machine Cursor). x.now) there

      fewer : most - (done + j) ≡ (most - done) - j
      fewer = omega arith

      nearer : near - j ≡ ticks_to_next (most - (done + j)) q.machine.now (agenda q.machine)
      nearer =
          ap (λ (n : ℕ). n - j) m.is_near
          ∙ sym (nearer_by j (most - done) p.machine.now (agenda p.machine))
          ∙ ap (λ (n : ℕ). ticks_to_next n (p.machine.now + j) (agenda p.machine)) (sym fewer)
          ∙ ap (λ (n : ℕ). ticks_to_next (most - (done + j)) n (agenda p.machine)) (sym comes_later)
          ∙ ap (ticks_to_next (most - (done + j)) q.machine.now) (sym coming)

      none : next_item q.machine ≡ None
      none = nothing_yet q.machine (most - (done + j)) lives (subst (λ (n : ℕ). 1 ≤ n) nearer ahead)

      no_items : instant (flat_bodies q.code) (turn q) ≡ turn q
      no_items = idle_items (flat_bodies q.code) (item_bound q.machine) (turn q) none

      -- and nothing is to be closed, given or opened
      begun_here : Begun (Some t) q.machine
      begun_here = subst (Begun (Some t)) (sym there) (gone_begun (flat_bodies p.code) t j p.machine some (subst (λ (o : Option ℕ). IsReady o p.machine) m.top ready))

      no_dispatch : prepares (head q.machine) (turn q) ≡ turn q
      no_dispatch =
          ap (λ (s : Turn Cursor). prepares (head q.machine) s) still
          ∙ ap (λ (o : Option ℕ). prepares o (turn_of q.machine)) first
          ∙ prepares_nothing (Some t) q.machine begun_here
          ∙ sym still

      before_end : done + j < most
      before_end = let reach = nearest (most - done) p.machine.now (agenda p.machine) in let is = m.is_near in omega (arith, reach, is, ahead)

      pub again : Midway text faults start q (Some t) most (near - j) (done + j) before later a e
      again = record {
        k = q;
        l = q;
        b = e;
        c = e;
        leaping = leaping;
        left = before_end;
        handled = sym (ap (λ (s : Turn Cursor). record q { machine = s.machine; direct = s.direct }) no_items);
        items_told = subst (λ (s : Turn Cursor). Tells text faults q.names e e s.events) (sym no_items) (tells_nothing text faults q.names e);
        stood = stood;
        alive = lives;
        top = first;
        silent = quiet;
        given = sym (ap (λ (s : Turn Cursor). record q { machine = s.machine; direct = s.direct }) no_dispatch);
        given_told = subst (λ (s : Turn Cursor). Tells text faults q.names e e s.events) (sym no_dispatch) (tells_nothing text faults q.names e);
        is_near = nearer;
        stands = stood;
        quiet = quiet;
      }
