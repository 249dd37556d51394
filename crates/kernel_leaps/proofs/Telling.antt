-- What `detail` tells of a leap more.
use Rattle.std.proofs.Common.{◌≡◌, ◌≤◌, ◌+◌, ◌++◌, ℕ, suc, zero, List, None, Option, Some, [], ◌∷◌, ap, append_assoc, arith, refl, subst, sym, ◌∙◌}
use Rattle.std.specs.Prelude.{◌-◌}
use Rattle.std.proofs.lemmas.List.{append_cancel_left}
use Rattle.words_script.specs.declared.decl.Script.{Script}
use Rattle.words_trace.specs.Text.{Entry, lines}
use Rattle.parts_tracer.proofs.Lines.{lines-append}
use Rattle.rules_bodies.specs.declared.cursor.Cursor.{Cursor}
use Rattle.rules_machine.specs.Bodies.{Bodies}
use Rattle.rules_machine.specs.Dispatch.{head}
use Rattle.rules_machine.specs.DueItems.{instant}
use Rattle.rules_machine.specs.Machine.{names_of}
use Rattle.rules_machine.specs.Runs.{Ran, opening, ran, tick_of, ticks}
use Rattle.rules_machine.specs.State.{Machine}
use Rattle.rules_machine.specs.Ticks.{prepares, runs_head, unless_killed}
use Rattle.rules_machine.specs.Turns.{Turn, turn_of}
use Rattle.rules_machine.specs.WellFormed.{IsWellFormed}
use Rattle.rules_machine.proofs.Behind.{behind}
use Rattle.rules_machine.proofs.BehindTicks.{prepares_behind}
use Rattle.rules_machine.proofs.Counting.{instant_now, tick_now}
use Rattle.rules_flat_code.specs.FlatBodies.{code_of, flat_bodies}
use Rattle.rules_leaps.specs.Leap.{IsLeap, leap, leap_head, leap_length, leap_runs}
use Rattle.rules_leaps.specs.Quiet.{IsQuiet}
use Rattle.rules_machine.proofs.Joined.{ticks_add}
use Rattle.laws_leaps.proofs.Leaps.Law.{leap_runs_behind}
use Rattle.laws_leaps.proofs.Leaps.Lengths.{IsReady, is_leap}
use Rattle.laws_leaps.proofs.Leaps.Scripts.{stays_ready}
use Rattle.laws_flat_code.proofs.Agrees.{flat_runs}
use Rattle.laws_detail.specs.Looks.{AllAt, NoneAfter, begun_turn, facts_told, facts_told_from, told_until}
use Rattle.laws_detail.proofs.Events.{ended_events, leap_events_are, leap_now, tick_events}
use Rattle.laws_detail.proofs.Looks.{is_told}
use Rattle.laws_detail.proofs.Times.{ticks_in_time}
use Rattle.laws_kernel.proofs.Killed.{killed_stays}
use Rattle.laws_kernel.proofs.Ranges.{flat_bodies_fit}
use Rattle.kernel_state.specs.Kernel.{Kernel, after, opened, told, turn}
use Rattle.kernel_state.proofs.Turns.{after_told, then_state}
use Rattle.kernel_leaps.specs.Detail.{told_by}
use Rattle.kernel_leaps.specs.Ran.{ticked_by}

-- ---- times

none_later : (n m : ℕ) (es : List Entry) → n ≤ m → NoneAfter n es → NoneAfter m es
none_later n m [] le h = tt
none_later n m (e ∷ es) le h = (let t = h.0 in omega (arith, t, le), none_later n m es le h.1)

all_none : (n m : ℕ) (es : List Entry) → n ≤ m → AllAt n es → NoneAfter m es
all_none n m [] le h = tt
all_none n m (e ∷ es) le h = (let t = h.0 in omega (arith, t, le), all_none n m es le h.1)

both_none : (n : ℕ) (es more : List Entry) → NoneAfter n es → NoneAfter n more → NoneAfter n (es ++ more)
both_none n [] more h k = k
both_none n (e ∷ es) more h k = (h.0, both_none n es more h.1 k)

all_front : (n : ℕ) (es more : List Entry) → AllAt n (es ++ more) → AllAt n es
all_front n [] more h = tt
all_front n (e ∷ es) more h = (h.0, all_front n es more h.1)

not_both : (o : Option ℕ) (signal : ℕ) → o ≡ Some signal → o ≡ None → ⊥
not_both o signal e f = cc

-- ---- the text of some ticks more

module _ (script : Script) where
  -- what begins some ticks, the facts of their first instant, where no other has any, and what ends them
  pub some_told : (so_far begun ended : List Entry) (n j : ℕ) → NoneAfter n so_far → AllAt n begun → AllAt (n + j) ended → facts_told_from script n j ≡ facts_told script n
      → told_until script (so_far ++ (begun ++ ended)) (n + j)
      ≡ told_until script so_far n ++ ((lines (names_of script) begun ++ facts_told script n) ++ lines (names_of script) ended)
  some_told so_far begun ended n j since at later still =
      let law = is_told script in
      let names = names_of script in
      let before = told_until script so_far n in
      ap (λ (es : List Entry). told_until script es (n + j)) (sym (append_assoc so_far begun ended))
      ∙ law.event (so_far ++ begun) ended (n + j) later
      ∙ ap (λ (xs : List ℕ). xs ++ lines names ended) (law.passed (so_far ++ begun) n j (both_none n so_far begun since (all_none n n begun (omega arith) at)))
      ∙ ap (λ (xs : List ℕ). (xs ++ facts_told_from script n j) ++ lines names ended) (law.event so_far begun n at)
      ∙ ap (λ (xs : List ℕ). ((before ++ lines names begun) ++ xs) ++ lines names ended) still
      ∙ ap (λ (xs : List ℕ). xs ++ lines names ended) (append_assoc before (lines names begun) (facts_told script n))
      ∙ append_assoc before (lines names begun ++ facts_told script n) (lines names ended)

  -- over flat code it is told of the same run
  abbrev pub flat_told : ℕ → List ℕ
  flat_told n = let done = ticks (flat_bodies (code_of script)) n (opening script) in told_until script done.events done.machine.now

  pub told_flat : (n : ℕ) → told_by script n ≡ flat_told n
  told_flat n = sym (ap (λ (r : Ran Cursor). told_until script r.events r.machine.now) (flat_runs script n))

module _ (script : Script) (fits : IsWellFormed script) (n : ℕ) where
  abbrev pub q : Bodies Cursor
  q = flat_bodies (code_of script)

  abbrev pub m : Machine Cursor
  m = (ticks q n (opening script)).machine

  abbrev pub ready : Turn Cursor
  ready = instant q (turn_of m)

  abbrev pub to : Option ℕ
  to = head ready.machine

  abbrev pub begun : Turn Cursor
  begun = begun_turn q m

  -- the kernel, with its items handled, and with its tick begun
  abbrev pub k : Kernel
  k = ticked_by n (opened script)

  abbrev pub l : Kernel
  l = after (instant q) k

  abbrev pub p : Kernel
  p = after (prepares to) l

  pub begun_is : begun ≡ behind (told (instant q) k) (prepares to (turn l))
  begun_is = after_told (instant q) (prepares to) k (prepares_behind q to)

  begun_events : begun.events ≡ told (instant q) k ++ told (prepares to) l
  begun_events = ap (λ (s : Turn Cursor). s.events) begun_is

  -- ---- times

  begun_at : AllAt m.now begun.events
  begun_at = (ticks_in_time q (flat_bodies_fit script fits.priorities) script fits n).begun

  ended_at : AllAt (m.now + 1) (ended_events q m)
  ended_at = (ticks_in_time q (flat_bodies_fit script fits.priorities) script fits n).ended

  -- nothing is left to settle
  pub is_still : ready.direct ≡ []
  is_still = (stays_ready q (flat_bodies_fit script fits.priorities) script fits n).still

  items_at : AllAt m.now (told (instant q) k)
  items_at = all_front m.now (told (instant q) k) (told (prepares to) l) (subst (AllAt m.now) begun_events begun_at)

  -- ---- one tick more

  abbrev pub next : Ran Cursor
  next = tick_of q m

  abbrev pub so_far : List Entry
  so_far = (ticks q n (opening script)).events

  -- no event is later than the instant
  module _ (before : NoneAfter m.now so_far) where
    goes_on : ready.machine.killed ≡ None → NoneAfter next.machine.now (so_far ++ next.events)
    goes_on lives =
        let now = tick_now q (turn_of m) lives in
        let later : m.now ≤ next.machine.now = omega (arith, now) in
        let finish : m.now + 1 ≤ next.machine.now = omega (arith, now) in
        both_none next.machine.now so_far next.events (none_later m.now next.machine.now so_far later before)
        (subst (NoneAfter next.machine.now) (sym (tick_events q m is_still lives))
        (both_none next.machine.now begun.events (ended_events q m) (all_none m.now next.machine.now begun.events later begun_at)
        (all_none (m.now + 1) next.machine.now (ended_events q m) finish ended_at)))

    stops : (signal : ℕ) → ready.machine.killed ≡ Some signal → NoneAfter next.machine.now (so_far ++ next.events)
    stops signal dead =
        let same : next ≡ ran ready = ap (λ (o : Option ℕ). ran (unless_killed o (runs_head q) ready)) dead in
        let now : next.machine.now ≡ m.now = ap (λ (r : Ran Cursor). r.machine.now) same ∙ instant_now q (turn_of m) in
        let later : m.now ≤ next.machine.now = omega (arith, now) in
        both_none next.machine.now so_far next.events (none_later m.now next.machine.now so_far later before)
        (subst (NoneAfter next.machine.now) (sym (ap (λ (r : Ran Cursor). r.events) same)) (all_none m.now next.machine.now ready.events later items_at))

    none_next : (o : Option ℕ) → ready.machine.killed ≡ o → NoneAfter next.machine.now (so_far ++ next.events)
    none_next None e = goes_on e
    none_next (Some signal) e = stops signal e

  -- while the process lives the instant is the number of ticks
  module _ (before : m.killed ≡ None → m.now ≡ n) (alive : next.machine.killed ≡ None) where
    lived : (o : Option ℕ) → m.killed ≡ o → ready.machine.killed ≡ None → next.machine.now ≡ suc n
    lived None e lives = let now = tick_now q (turn_of m) lives in let here = before e in omega (arith, now, here)
    lived (Some signal) e lives =
        absurd (not_both next.machine.killed signal (ap (λ (r : Ran Cursor). r.machine.killed) (killed_stays q m signal e 1) ∙ e) alive)

    now_next : (o : Option ℕ) → ready.machine.killed ≡ o → next.machine.now ≡ suc n
    now_next None e = lived m.killed refl e
    now_next (Some signal) e =
        absurd (not_both next.machine.killed signal (ap (λ (o : Option ℕ). (unless_killed o (runs_head q) ready).machine.killed) e ∙ e) alive)

pub none_after : (script : Script) (fits : IsWellFormed script) (n : ℕ) → NoneAfter (m script fits n).now (so_far script fits n)
none_after script fits zero = tt
none_after script fits (suc n) = none_next script fits n (none_after script fits n) (ready script fits n).machine.killed refl

pub now_of : (script : Script) (fits : IsWellFormed script) (n : ℕ) → (m script fits n).killed ≡ None → (m script fits n).now ≡ n
now_of script fits zero alive = refl
now_of script fits (suc n) alive = now_next script fits n (now_of script fits n) alive (ready script fits n).machine.killed refl

-- ---- a leap more, and what is told of it

-- a kernel with the machine of so many ticks, and nothing to settle, is that of so many ticks
as_ticked : (script : Script) (n : ℕ) (f : Kernel) (x : Machine Cursor) → record (opened script) { machine = f.machine; direct = f.direct } ≡ f → f.direct ≡ [] → f.machine ≡ x
    → x ≡ (ticks (flat_bodies (code_of script)) n (opening script)).machine → f ≡ ticked_by n (opened script)
as_ticked script n f x whole quiet is there =
    sym whole
    ∙ ap (λ (d : List ℕ). record (opened script) { machine = f.machine; direct = d }) quiet
    ∙ ap (λ (y : Machine Cursor). record (opened script) { machine = y }) (is ∙ there)

module _ (script : Script) (fits : IsWellFormed script) (n : ℕ) (alive : (m script fits n).killed ≡ None) where
  now_n : (m script fits n).now ≡ n
  now_n = now_of script fits n alive

  abbrev names : List (List ℕ)
  names = names_of script

  one_on : n + 1 ≡ suc n
  one_on = omega arith

  abbrev past : List Entry
  past = so_far script fits n

  since : NoneAfter n past
  since = subst (λ (t : ℕ). NoneAfter t (so_far script fits n)) now_n (none_after script fits n)

  flat_here : told_by script n ≡ told_until script past n
  flat_here = told_flat script n ∙ ap (told_until script (so_far script fits n)) now_n

  -- where an item ends the process
  module _ (signal : ℕ) (dead : (ready script fits n).machine.killed ≡ Some signal) where
    stopped : tick_of (q script fits n) (m script fits n) ≡ ran (ready script fits n)
    stopped = ap (λ (o : Option ℕ). ran (unless_killed o (runs_head (q script fits n)) (ready script fits n))) dead

    dead_now : (tick_of (q script fits n) (m script fits n)).machine.now ≡ n
    dead_now = ap (λ (r : Ran Cursor). r.machine.now) stopped ∙ instant_now (q script fits n) (turn_of (m script fits n)) ∙ now_n

    pub items_told : told_by script (n + 1) ≡ told_by script n ++ lines names (told (instant (q script fits n)) (k script fits n))
    items_told =
        ap (told_by script) one_on
        ∙ told_flat script (suc n)
        ∙ ap (told_until script (past ++ (tick_of (q script fits n) (m script fits n)).events)) dead_now
        ∙ ap (λ (r : Ran Cursor). told_until script (past ++ r.events) n) stopped
        ∙ (is_told script).event past (ready script fits n).events n (subst (λ (t : ℕ). AllAt t (ready script fits n).events) now_n (items_at script fits n))
        ∙ ap (λ (xs : List ℕ). xs ++ lines names (ready script fits n).events) (sym flat_here)

    pub items_state : (f : Kernel) → f ≡ l script fits n → f.direct ≡ [] → f ≡ ticked_by (n + 1) (opened script)
    items_state f is quiet =
        let whole_is : record (opened script) { machine = f.machine; direct = f.direct } ≡ f = ap (λ (x : Kernel). record (opened script) { machine = x.machine; direct = x.direct }) is ∙ sym is in
        as_ticked script (suc n) f (tick_of (q script fits n) (m script fits n)).machine whole_is quiet
        (ap (λ (x : Kernel). x.machine) is ∙ ap (λ (r : Ran Cursor). r.machine) (sym stopped))
        refl
        ∙ ap (λ (i : ℕ). ticked_by i (opened script)) (sym one_on)

  -- where the run goes on for so many ticks, within one leap
  module _ (runs : (ready script fits n).machine.killed ≡ None) (j : ℕ) (some : 1 ≤ j) (long : leap_length (q script fits n) j (m script fits n) ≡ j) where
    is_ready : IsReady (q script fits n) (m script fits n)
    is_ready = stays_ready (q script fits n) (flat_bodies_fit script fits.priorities) script fits n

    pub leap_here : IsLeap (q script fits n) j j (m script fits n)
    leap_here = subst (λ (i : ℕ). IsLeap (q script fits n) j i (m script fits n)) long (is_leap (q script fits n) (m script fits n) j some is_ready)

    same : ran (leap (q script fits n) j (turn_of (m script fits n))) ≡ ticks (q script fits n) j (m script fits n)
    same = leap_here.same

    leap_is : leap (q script fits n) j (turn_of (m script fits n)) ≡ leap_runs (q script fits n) j (to script fits n) (begun script fits n)
    leap_is = ap (λ (o : Option ℕ). unless_killed o (leap_head (q script fits n) j) (ready script fits n)) runs

    abbrev begins : Turn Cursor → Turn Cursor
    begins s = prepares (to script fits n) (instant (q script fits n) s)

    p_is : p script fits n ≡ after begins (k script fits n)
    p_is = then_state (instant (q script fits n)) (prepares (to script fits n)) (k script fits n) (l script fits n) (p script fits n) (prepares_behind (q script fits n) (to script fits n)) refl refl

    leap_from : leap (q script fits n) j (turn_of (m script fits n)) ≡ behind (begun script fits n).events (leap_runs (q script fits n) j (to script fits n) (turn (p script fits n)))
    leap_from =
        leap_is
        ∙ after_told begins (leap_runs (q script fits n) j (to script fits n)) (k script fits n) (leap_runs_behind (q script fits n) j (to script fits n))
        ∙ ap (λ (x : Kernel). behind (begun script fits n).events (leap_runs (q script fits n) j (to script fits n) (turn x))) (sym p_is)

    abbrev rest : List Entry
    rest = told (leap_runs (q script fits n) j (to script fits n)) (p script fits n)

    events_all : (ticks (q script fits n) j (m script fits n)).events ≡ (begun script fits n).events ++ rest
    events_all = sym (ap (λ (r : Ran Cursor). r.events) same) ∙ ap (λ (s : Turn Cursor). s.events) leap_from

    machine_all : (ticks (q script fits n) j (m script fits n)).machine ≡ (leap_runs (q script fits n) j (to script fits n) (turn (p script fits n))).machine
    machine_all = sym (ap (λ (r : Ran Cursor). r.machine) same) ∙ ap (λ (s : Turn Cursor). s.machine) leap_from

    -- all of it happens at the end
    abbrev last : ℕ
    last = j - 1

    one_more : suc last ≡ j
    one_more = omega (arith, some)

    is_quiet : IsQuiet (q script fits n) last (m script fits n)
    is_quiet i low high = leap_here.inside i low (omega (arith, high, some))

    abbrev near_end : Machine Cursor
    near_end = (ticks (q script fits n) last (m script fits n)).machine

    ended_is : ended_events (q script fits n) near_end ≡ rest
    ended_is = append_cancel_left (begun script fits n).events (ended_events (q script fits n) near_end) rest
        (sym (leap_events_are (q script fits n) (m script fits n) is_ready.still is_ready.handled runs last is_quiet)
        ∙ ap (λ (i : ℕ). (ticks (q script fits n) i (m script fits n)).events) one_more ∙ events_all)

    now_last : near_end.now ≡ n + last
    now_last = by_number last refl
      where
        by_number : (i : ℕ) → last ≡ i → (ticks (q script fits n) i (m script fits n)).machine.now ≡ n + i
        by_number zero e = omega (arith, now_n)
        by_number (suc i) e = (let now = leap_now (q script fits n) (m script fits n) is_ready.still is_ready.handled runs last is_quiet i (omega (arith, e)) in omega (arith, now, now_n))

    later_now : (ticks (q script fits n) j (m script fits n)).machine.now ≡ n + j
    later_now =
        let now = leap_now (q script fits n) (m script fits n) is_ready.still is_ready.handled runs last is_quiet last (omega arith) in
        ap (λ (i : ℕ). (ticks (q script fits n) i (m script fits n)).machine.now) (sym one_more) ∙ now ∙ omega (arith, now_n, some)

    rest_at : AllAt (n + j) rest
    rest_at =
        let there : (ticks (q script fits n) (n + last) (opening script)).machine ≡ near_end = ap (λ (r : Ran Cursor). r.machine) (ticks_add (q script fits n) n last (opening script)) in
        let ended : AllAt (near_end.now + 1) (ended_events (q script fits n) near_end) =
        subst (λ (y : Machine Cursor). AllAt (y.now + 1) (ended_events (q script fits n) y)) there (ticks_in_time (q script fits n) (flat_bodies_fit script fits.priorities) script fits (n + last)).ended in
        let on : near_end.now + 1 ≡ n + j = omega (arith, now_last, some) in
        subst (AllAt (n + j)) ended_is (subst (λ (t : ℕ). AllAt t (ended_events (q script fits n) near_end)) on ended)

    begun_here : AllAt n (begun script fits n).events
    begun_here = subst (λ (t : ℕ). AllAt t (begun script fits n).events) now_n (begun_at script fits n)

    begun_lines : lines names (begun script fits n).events ≡ lines names (told (instant (q script fits n)) (k script fits n)) ++ lines names (told (prepares (to script fits n)) (l script fits n))
    begun_lines = ap (lines names) (begun_events script fits n) ∙ lines-append names (told (instant (q script fits n)) (k script fits n)) (told (prepares (to script fits n)) (l script fits n))

    abbrev all_ticks : Ran Cursor
    all_ticks = ticks (q script fits n) (n + j) (opening script)

    both : all_ticks ≡ record { machine = (ticks (q script fits n) j (m script fits n)).machine; events = past ++ (ticks (q script fits n) j (m script fits n)).events }
    both = ticks_add (q script fits n) n j (opening script)

    -- the lines of the items and of the dispatch, the facts that change, and the lines of what ends the leap
    pub leap_told : facts_told_from script n j ≡ facts_told script n → told_by script (n + j) ≡ told_by script n
        ++ (((lines names (told (instant (q script fits n)) (k script fits n)) ++ lines names (told (prepares (to script fits n)) (l script fits n))) ++ facts_told script n) ++ lines names rest)
    leap_told still =
        told_flat script (n + j)
        ∙ ap (λ (r : Ran Cursor). told_until script r.events r.machine.now) both
        ∙ ap (told_until script (past ++ (ticks (q script fits n) j (m script fits n)).events)) later_now
        ∙ ap (λ (es : List Entry). told_until script (past ++ es) (n + j)) events_all
        ∙ some_told script past (begun script fits n).events rest n j since begun_here rest_at still
        ∙ ap (λ (xs : List ℕ). xs ++ ((lines names (begun script fits n).events ++ facts_told script n) ++ lines names rest)) (sym flat_here)
        ∙ ap (λ (xs : List ℕ). told_by script n ++ ((xs ++ facts_told script n) ++ lines names rest)) begun_lines

    pub leap_state : (f : Kernel) → f ≡ after (leap_runs (q script fits n) j (to script fits n)) (p script fits n) → f.direct ≡ [] → f ≡ ticked_by (n + j) (opened script)
    leap_state f is quiet =
        let whole_is : record (opened script) { machine = f.machine; direct = f.direct } ≡ f = ap (λ (x : Kernel). record (opened script) { machine = x.machine; direct = x.direct }) is ∙ sym is in
        as_ticked script (n + j) f (ticks (q script fits n) j (m script fits n)).machine whole_is quiet
        (ap (λ (x : Kernel). x.machine) is ∙ sym machine_all)
        (ap (λ (r : Ran Cursor). r.machine) (sym both))
