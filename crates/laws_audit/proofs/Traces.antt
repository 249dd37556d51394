-- The lines of the trace of a run without setsched break no rule of an audit.
use Rattle.std.proofs.Common.{Bool, List, None, Option, Some, [], ap, append_assoc, arith, false, length, refl, sym, true, ℕ, ◌+◌, ◌<◌, ◌∷◌, ◌++◌, ◌≡◌}
use Rattle.std.specs.Prelude.{is_some, map, not, option_map, ◌==◌, ◌&&◌, ◌||◌, if◌then◌else◌}
use Rattle.std.specs.List.{list_all, list_any}
use Rattle.std.specs.Str.{bytes_eq}
use mathlib.Core.Path.{subst, ◌∙◌}
use Rattle.words_script.specs.declared.decl.Script.{Script}
use Rattle.rules_bodies.specs.Next.{Place}
use Rattle.words_trace.specs.declared.event.Event.TheVariants as event
use Rattle.words_trace.specs.Text.{Entry, name_at}
use Rattle.rules_server.specs.Server.{ServerState}
use Rattle.tool_check.specs.Laws.{form_of_report, nums_of_budget, said}
use Rattle.tool_check.specs.Lines.{Reading}
use Rattle.rules_machine.specs.Threads.{thread_at, thread_in}
use Rattle.rules_machine.specs.Runs.{opening}
use Rattle.rules_machine.specs.Machine.{budget_of, events, machine, names_of, trace}
use Rattle.rules_machine.specs.WellFormed.{IsWellFormed}
use Rattle.tool_audit.specs.declared.server.NamedServer.{NamedServer}
use Rattle.tool_audit.specs.Marks.{Mark, mark_of, marks_of, nothing}
use Rattle.tool_audit.specs.Ticks.{amount_refilled, high_before, in_all, ran_before}
use Rattle.tool_audit.specs.Rules.{if_broken, lives_in}
use Rattle.tool_audit.specs.Breach.{breach_from, end_time, first_breach, has_closing, has_ended, is_closing_of, is_end, is_right_end}
use Rattle.tool_audit.specs.Replay.{Account, advanced, opened, replayed}
use Rattle.tool_audit.proofs.Counts.{any_more, before_free, free_before, free_ran, is_over_last, map_more, ran_free}
use Rattle.tool_audit.proofs.Replays.{Counts, advanced_now}
use Rattle.tool_audit.proofs.Judged.{NoneBreaks, replay_is_right}
use Rattle.tool_audit.proofs.Walks.{EachOf, NoClosing, OrderKept, ServerKept, all_kept, each_of, none_found, order_both, server_both, timed_kept}
use Rattle.laws_audit.specs.Calm.{HasNoSetsched}
use Rattle.laws_audit.specs.Events.{is_end_event, marks_by}
use Rattle.laws_audit.proofs.TextLines.{trace_is_read}
use Rattle.laws_audit.proofs.Order.{Climbs, InOrder, climbs_more, events_in_order, times_of}
use Rattle.laws_audit.specs.Traces.{EachServerOf, IsServerOf, NamesApart, TraceIsSpelled, event_readings, report_readings, trace_readings}
use Rattle.laws_audit.proofs.Accounts.{IsLimit}
use Rattle.laws_audit.proofs.Standing.{has_end}
use Rattle.laws_audit.proofs.Runs.{ClosesRight, are_calm, machine_closes, machine_early, machine_keeps, machine_rises, machine_unended}
use Rattle.rules_machine.specs.Declarations.{ThreadDecl, threads_of}
use Rattle.rules_machine.specs.Machine.{bodies_of}
use Rattle.rules_machine.specs.Runs.{thread_opened}
use Rattle.rules_moves.proofs.Runs.Units.{bodies_fit}
use Rattle.laws_audit.proofs.Calm.{bodies_calm}
use Rattle.laws_audit.proofs.Standing.{replayed_more}
use Rattle.std.proofs.lemmas.List.{length-map}
use Rattle.laws_threads.proofs.HeadRuns.{ticks_length}
use Rattle.laws_threads.proofs.Within.{nothing_run}
use Rattle.laws_audit.proofs.EventLines.{RightEnd, closing_found, end_same, not_closing, one_end, order_kept, reports_kept, reports_order, said_marks, server}

-- ---- a server of the script

-- the threads of a run are those of its script
threads_stay : (script : Script) (n : ℕ) → length (machine script n).threads ≡ length (names_of script)
threads_stay script n =
    ticks_length (bodies_of script) (length (threads_of script)) n (opening script) (length-map (threads_of script) (thread_opened {P = Place})) (record { each = nothing_run (threads_of script) })
    ∙ sym (length-map (threads_of script) (λ (d : ThreadDecl). d.name))

module _ (script : Script) (fits : IsWellFormed script) (calm : HasNoSetsched script) (apart : NamesApart (names_of script)) (n : ℕ) (s : NamedServer) (h : IsServerOf script s) where
  limits : IsLimit s.limits h.params
  limits = let b = h.budget in let m = h.max in let x = h.some in let y = h.many in record { period = h.period; budget = h.budget; max = h.max; some = omega arith; many = omega arith }

  right : NoneBreaks s.limits [] (marks_by h.thread (events script n) ++ record { time = (machine script n).now; saying = nothing } ∷ [])
      × Counts s.limits (marks_by h.thread (events script n) ++ record { time = (machine script n).now; saying = nothing } ∷ []) (replayed s.limits opened (marks_by h.thread (events script n) ++ record { time = (machine script n).now; saying = nothing } ∷ []))
  right =
      replay_is_right s.limits (marks_by h.thread (events script n) ++ record { time = (machine script n).now; saying = nothing } ∷ []) (machine_rises script fits calm h.thread s.limits h.params h.rule limits n)
      (machine_keeps script fits calm h.thread s.limits h.params h.rule limits n)

  counts : Counts s.limits (marks_by h.thread (events script n) ++ record { time = (machine script n).now; saying = nothing } ∷ []) (advanced s.limits (machine script n).now (replayed s.limits opened (marks_by h.thread (events script n))))
  counts = subst (Counts s.limits (marks_by h.thread (events script n) ++ record { time = (machine script n).now; saying = nothing } ∷ []))
      (replayed_more s.limits opened (marks_by h.thread (events script n)) (record { time = (machine script n).now; saying = nothing } ∷ [])) right.1

  at_now : (advanced s.limits (machine script n).now (replayed s.limits opened (marks_by h.thread (events script n)))).now ≡ (machine script n).now
  at_now = advanced_now s.limits (machine script n).now (replayed s.limits opened (marks_by h.thread (events script n))) (machine_early script fits calm h.thread s.limits h.params h.rule limits n)

  closes : ClosesRight (bodies_of script) (bodies_fit script fits.priorities) (are_calm (bodies_of script) (bodies_calm script calm)) h.thread s.limits
      (advanced s.limits (machine script n).now (replayed s.limits opened (marks_by h.thread (events script n)))) (thread_at (machine script n) h.thread)
  closes = machine_closes script fits calm h.thread s.limits h.params h.rule limits n

  over : (y : ℕ) → y < (machine script n).now → Rattle.tool_audit.specs.Ticks.is_over y (marks_by h.thread (events script n) ++ record { time = (machine script n).now; saying = nothing } ∷ []) ≡ true
  over y lt = is_over_last (marks_by h.thread (events script n)) (record { time = (machine script n).now; saying = nothing }) y lt

  abbrev all : List Mark
  all = marks_by h.thread (events script n) ++ record { time = (machine script n).now; saying = nothing } ∷ []

  abbrev final : Account
  final = advanced s.limits (machine script n).now (replayed s.limits opened (marks_by h.thread (events script n)))

  ran_is : ran_before all (machine script n).now ≡ (thread_at (machine script n) h.thread).ticks
  ran_is = ran_free s.limits all (machine script n).now over (machine script n).now (omega arith) ∙ ap (free_ran all) (sym at_now) ∙ sym counts.ran ∙ closes.ticks

  high_is : high_before s.limits all (machine script n).now ≡ final.high
  high_is = before_free s.limits all (machine script n).now over (machine script n).now (omega arith) ∙ ap (free_before s.limits all) (sym at_now) ∙ sym counts.high

  lives_is : lives_in all ≡ is_some (thread_at (machine script n) h.thread).server
  lives_is = both_lives (sym counts.started) (sym counts.exited) ∙ closes.living
    where
      both_lives : {a b c d : Bool} → a ≡ c → b ≡ d → (a && not b) ≡ (c && not d)
      both_lives p q = cc

  equal : (a b : ℕ) → a ≡ b → (a == b) ≡ true
  equal a b e = grind arith

  both : {a b : Bool} → a ≡ true → b ≡ true → (a && b) ≡ true
  both p q = grind arith

  -- the closing line of the thread is right
  closing_right : RightEnd s.limits all (machine script n).now (thread_at (machine script n) h.thread)
  closing_right = by_server (thread_at (machine script n) h.thread).server refl
    where
      by_server : (o : Option ServerState) → (thread_at (machine script n) h.thread).server ≡ o →
          is_right_end s.limits all (machine script n).now (form_of_report (option_map budget_of o)) ((thread_at (machine script n) h.thread).ticks ∷ nums_of_budget (option_map budget_of o)) ≡ true
      by_server None e = both (ap not (lives_is ∙ ap is_some e)) (equal (thread_at (machine script n) h.thread).ticks (ran_before all (machine script n).now) (sym ran_is))
      by_server (Some x) e =
          let some : is_some (thread_at (machine script n) h.thread).server ≡ true = ap is_some e in
          let told = closes.budget some in
          let same : told.server ≡ x = only (sym told.is ∙ e) in
          let high : x.high_total ≡ final.high = sym (ap (λ (y : ServerState). y.high_total) same) ∙ told.high in
          let init : x.params.budget ≡ s.limits.budget = sym (ap (λ (y : ServerState). y.params.budget) same) ∙ told.init in
          let refilled : x.refilled_total ≡ final.refilled = sym (ap (λ (y : ServerState). y.refilled_total) same) ∙ told.refilled in
          let capacity : x.capacity + final.high ≡ s.limits.budget + final.refilled = sym (ap (λ (y : ServerState). y.capacity + final.high) same) ∙ told.capacity in
          let counted = counts.refilled in
          let now_high = high_is in
          both (lives_is ∙ some) (both (equal (thread_at (machine script n) h.thread).ticks (ran_before all (machine script n).now) (sym ran_is))
          (both (equal x.high_total (high_before s.limits all (machine script n).now) (omega arith)) (both (equal x.params.budget s.limits.budget init)
          (both (equal x.refilled_total (in_all amount_refilled all) (omega arith)) (equal (x.capacity + x.high_total) (x.params.budget + x.refilled_total) (omega arith))))))
        where
          only : {a b : ServerState} → Some a ≡ Some b → a ≡ b
          only {a} {b} e = ap out e
            where
              out : Option ServerState → ServerState
              out None = a
              out (Some y) = y

  -- ---- all its lines

  abbrev ends : Reading
  ends = said (names_of script) (machine script n).now event.End

  abbrev timed : List Reading
  timed = event_readings (names_of script) (events script n) ++ ends ∷ []

  marks_are : marks_of (name_at (names_of script) h.thread) timed ≡ all
  marks_are =
      map_more (mark_of (name_at (names_of script) h.thread)) (event_readings (names_of script) (events script n)) (ends ∷ [])
      ∙ ap (λ (xs : List Mark). xs ++ record { time = (machine script n).now; saying = nothing } ∷ []) (said_marks (names_of script) apart h.thread h.within (events script n))

  timed_closing : (es : List Entry) → NoClosing (event_readings (names_of script) es ++ ends ∷ [])
  timed_closing [] = (refl, tt)
  timed_closing (e ∷ es) = (not_closing e.event, timed_closing es)

  timed_ended : has_ended timed ≡ true
  timed_ended = any_more (λ (r : Reading). is_end r.form) (event_readings (names_of script) (events script n)) ends ∙ always (has_ended (event_readings (names_of script) (events script n)))
    where
      always : (b : Bool) → (b || true) ≡ true
      always b = grind arith

  unended : has_end (events script n) ≡ false
  unended = machine_unended script fits calm h.thread s.limits h.params h.rule limits n

  end_is : (es : List Entry) → has_end es ≡ false → end_time (event_readings (names_of script) es ++ ends ∷ []) ≡ (machine script n).now
  end_is [] e = refl
  end_is (x ∷ es) e =
      let parts = neither (is_end_event x.event) (has_end es) e in
      ap (λ (b : Bool). if b then x.time else end_time (event_readings (names_of script) es ++ ends ∷ [])) (end_same x.event ∙ parts.0) ∙ end_is es parts.1
    where
      neither : (a b : Bool) → (a || b) ≡ false → (a ≡ false) × (b ≡ false)
      neither a b e = (grind arith, grind arith)

  none_closes : (rs : List Reading) → NoClosing rs → has_closing (name_at (names_of script) h.thread) rs ≡ false
  none_closes [] k = refl
  none_closes (r ∷ rs) k = ap (λ (b : Bool). (b && bytes_eq r.name (name_at (names_of script) h.thread)) || has_closing (name_at (names_of script) h.thread) rs) k.0 ∙ none_closes rs k.1

  abbrev reports : List Reading
  reports = report_readings (names_of script) 0 (machine script n).threads

  lines_are : trace_readings script n ≡ timed ++ reports
  lines_are = sym (append_assoc (event_readings (names_of script) (events script n)) (ends ∷ []) reports)

  named_kept : ServerKept (server (names_of script) apart h.thread h.within s.limits) [] (timed ++ reports)
  named_kept =
      server_both (server (names_of script) apart h.thread h.within s.limits) [] timed reports
      (timed_kept (server (names_of script) apart h.thread h.within s.limits) [] timed (timed_closing (events script n)) (subst (NoneBreaks s.limits []) (sym marks_are) right.0))
      (reports_kept (names_of script) apart h.thread h.within s.limits (machine script n).now 0 (machine script n).threads timed timed_ended (end_is (events script n) unended) (λ le. none_closes timed (timed_closing (events script n)))
      (λ k e lt. let same : h.thread ≡ k = omega arith in
      subst (λ (i : ℕ). RightEnd s.limits (marks_of (name_at (names_of script) h.thread) timed) (machine script n).now (thread_in (machine script n).threads i)) same
      (subst (λ (xs : List Mark). RightEnd s.limits xs (machine script n).now (thread_at (machine script n) h.thread)) (sym marks_are) closing_right)))

  -- no line of the trace breaks a rule for the server
  pub trace_kept : ServerKept s [] (trace_readings script n)
  trace_kept = subst (λ (name : List ℕ). ServerKept (record { name = name; limits = s.limits }) [] (trace_readings script n)) (sym h.named) (subst (ServerKept (server (names_of script) apart h.thread h.within s.limits) []) (sym lines_are) named_kept)

  -- and it has its closing line
  pub trace_closes : has_closing s.name (trace_readings script n) ≡ true
  trace_closes =
      let within : h.thread < length (machine script n).threads = let same = threads_stay script n in let lt = h.within in omega arith in
      let found = closing_found (names_of script) apart h.thread h.within s.limits 0 (machine script n).threads h.thread (omega arith) within in
      subst (λ (name : List ℕ). has_closing name (trace_readings script n) ≡ true) (sym h.named)
      (ap (has_closing (name_at (names_of script) h.thread)) lines_are ∙ any_parts (is_closing_of (name_at (names_of script) h.thread)) timed reports found)
    where
      any_parts : {X : Type 0} (p : X → Bool) (xs ys : List X) → list_any p ys ≡ true → list_any p (xs ++ ys) ≡ true
      any_parts p [] ys e = e
      any_parts p (x ∷ xs) ys e = ap (λ (b : Bool). p x || b) (any_parts p xs ys e) ∙ always (p x)
        where
          always : (b : Bool) → (b || true) ≡ true
          always b = grind arith

-- ---- the order of a trace

always : (b : Bool) → (b || true) ≡ true
always b = grind arith

any_first : {X : Type 0} (p : X → Bool) (xs ys : List X) → list_any p xs ≡ true → list_any p (xs ++ ys) ≡ true
any_first p [] ys e = absurd (grind arith)
any_first p (x ∷ xs) ys e = by_first (p x) refl e (any_first p xs ys)
  where
    by_first : (b : Bool) → p x ≡ b → (b || list_any p xs) ≡ true → (list_any p xs ≡ true → list_any p (xs ++ ys) ≡ true) → (p x || list_any p (xs ++ ys)) ≡ true
    by_first true k f rest = ap (λ (b : Bool). b || list_any p (xs ++ ys)) k
    by_first false k f rest = ap (λ (b : Bool). b || list_any p (xs ++ ys)) k ∙ rest f

module _ (script : Script) (fits : IsWellFormed script) (n : ℕ) where
  abbrev last_reading : Reading
  last_reading = said (names_of script) (machine script n).now event.End

  abbrev timed_lines : List Reading
  timed_lines = event_readings (names_of script) (events script n) ++ last_reading ∷ []

  in_order : InOrder (machine script n).now (events script n)
  in_order = events_in_order script fits n

  timed_times : (es : List Entry) → map (λ (r : Reading). r.time) (event_readings (names_of script) es ++ last_reading ∷ []) ≡ map (λ (e : Entry). e.time) es ++ (machine script n).now ∷ []
  timed_times [] = refl
  timed_times (e ∷ es) = ap (λ (ns : List ℕ). e.time ∷ ns) (timed_times es)

  all_ended : has_ended timed_lines ≡ true
  all_ended = any_more (λ (r : Reading). is_end r.form) (event_readings (names_of script) (events script n)) last_reading ∙ always (has_ended (event_readings (names_of script) (events script n)))

  lines_split : trace_readings script n ≡ timed_lines ++ report_readings (names_of script) 0 (machine script n).threads
  lines_split = sym (append_assoc (event_readings (names_of script) (events script n)) (last_reading ∷ []) (report_readings (names_of script) 0 (machine script n).threads))

  -- lines keep their order, whatever the servers are
  pub trace_ordered : OrderKept [] (trace_readings script n)
  trace_ordered =
      subst (OrderKept []) (sym lines_split)
      (order_both [] timed_lines (report_readings (names_of script) 0 (machine script n).threads)
      (order_kept [] timed_lines (one_end (names_of script) (events script n) last_reading in_order.unended refl)
      (subst (Climbs []) (sym (timed_times (events script n))) (climbs_more [] (times_of (events script n)) (machine script n).now in_order.climbs in_order.by)))
      (reports_order (names_of script) 0 (machine script n).threads timed_lines all_ended))

  pub trace_ends : has_ended (trace_readings script n) ≡ true
  trace_ends = ap has_ended lines_split ∙ any_first (λ (r : Reading). is_end r.form) timed_lines (report_readings (names_of script) 0 (machine script n).threads) all_ended

-- ---- all servers

closed_all : (script : Script) (fits : IsWellFormed script) (calm : HasNoSetsched script) (apart : NamesApart (names_of script)) (n : ℕ) (servers : List NamedServer) → EachOf (IsServerOf script) servers →
    list_all (λ (s : NamedServer). has_closing s.name (trace_readings script n)) servers ≡ true
closed_all script fits calm apart n [] h = refl
closed_all script fits calm apart n (s ∷ servers) h =
    ap (λ (b : Bool). b && list_all (λ (s : NamedServer). has_closing s.name (trace_readings script n)) servers) (trace_closes script fits calm apart n s h.0) ∙ closed_all script fits calm apart n servers h.1

-- Of a well formed script without a setsched step, whose names tell its threads apart, the lines of the trace of every run break no rule
-- for servers that are sporadic threads of it.
pub no_breach : (script : Script) → IsWellFormed script → HasNoSetsched script → NamesApart (names_of script) → (n : ℕ) (servers : List NamedServer) → EachOf (IsServerOf script) servers →
    breach_from servers [] 1 (map Some (trace_readings script n)) ≡ None
no_breach script fits calm apart n servers h =
    none_found servers [] (trace_readings script n) 1 (trace_ordered script fits n)
    (all_kept servers [] (trace_readings script n) (each_of (IsServerOf script) (λ (s : NamedServer). ServerKept s [] (trace_readings script n)) (λ s k. trace_kept script fits calm apart n s k) servers h))
    (ap (λ (b : Bool). if_broken b 1 (if_broken (list_all (λ (s : NamedServer). has_closing s.name (trace_readings script n)) servers) 6 None)) (trace_ends script fits n)
    ∙ ap (λ (b : Bool). if_broken b 6 None) (closed_all script fits calm apart n servers h))

-- The same of the text of the trace, where it is spelled as a trace is: no number in it is above the greatest, and its threads have names.
pub no_breach_of_text : (script : Script) → IsWellFormed script → HasNoSetsched script → NamesApart (names_of script) → (n : ℕ) → TraceIsSpelled script n → (servers : List NamedServer) → EachOf (IsServerOf script) servers →
    first_breach servers (trace script n) ≡ None
no_breach_of_text script fits calm apart n spelled servers h = ap (breach_from servers [] 1) (trace_is_read script n spelled) ∙ no_breach script fits calm apart n servers h

each_server : (script : Script) (servers : List NamedServer) → EachServerOf script servers → EachOf (IsServerOf script) servers
each_server script [] h = tt
each_server script (s ∷ servers) h = (h.0, each_server script servers h.1)

-- as the contract has it
pub none_broken : (script : Script) (n : ℕ) (servers : List NamedServer) → IsWellFormed script → HasNoSetsched script → NamesApart (names_of script) → TraceIsSpelled script n → EachServerOf script servers →
    first_breach servers (trace script n) ≡ None
none_broken script n servers fits calm apart spelled h = no_breach_of_text script fits calm apart n spelled servers (each_server script servers h)
