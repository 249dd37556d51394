-- The lines of the events of a run, as an audit reads them: their threads, times and order, and the closing lines.
use Rattle.std.proofs.Common.{Bool, List, None, Option, Some, [], ap, arith, false, length, refl, suc, sym, true, zero, ℕ, ◌+◌, ◌<◌, ◌≤◌, ◌∷◌, ◌++◌, ◌≡◌}
use Rattle.std.specs.Prelude.{map, not, nat_le, ◌==◌, ◌&&◌, ◌||◌, if◌then◌else◌}
use Rattle.std.specs.List.{list_all}
use Rattle.std.specs.Str.{bytes_eq}
use mathlib.Core.Path.{subst, ◌∙◌}
use Rattle.words_trace.specs.declared.event.Event.{Event}
use Rattle.words_trace.specs.declared.event.Event.TheVariants as event
use Rattle.words_trace.specs.declared.report.BudgetView.{BudgetView}
use Rattle.words_trace.specs.declared.report.Report.{Report}
use Rattle.words_trace.specs.Text.{Entry, name_at}
use Rattle.tool_check.specs.declared.form.Form.{Form}
use Rattle.tool_check.specs.declared.form.Form.TheVariants as form
use Rattle.tool_check.specs.Laws.{form_of, form_of_report, nums_of_budget, said, said_of_report}
use Rattle.tool_check.specs.Lines.{Reading}
use Rattle.rules_machine.specs.State.{Thread}
use Rattle.rules_machine.specs.Threads.{thread_in}
use Rattle.rules_machine.specs.Machine.{report_of}
use Rattle.tool_audit.specs.declared.server.Limits.{Limits}
use Rattle.tool_audit.specs.declared.server.NamedServer.{NamedServer}
use Rattle.tool_audit.specs.Marks.{Mark, Saying, is_given, is_taken, mark_of, marks_of, if_mine, saying_of}
use Rattle.tool_audit.specs.Ticks.{amount_refilled}
use Rattle.tool_audit.specs.Rules.{broken_by, if_broken}
use Rattle.tool_audit.specs.Breach.{end_time, has_closing, has_ended, is_closing, is_closing_of, is_end, is_right_end, keeps_end, keeps_order}
use Rattle.tool_audit.specs.Replay.{Account, Rising, advanced, after_mark}
use Rattle.tool_audit.proofs.Counts.{AllBy, any_more, by_later, by_more, map_more}
use Rattle.tool_audit.proofs.Replays.{advanced_now}
use Rattle.tool_audit.proofs.Walks.{OrderKept, ServerKept, blank, high_before_blank, lives_blank, all_blank, ran_before_blank}
use Rattle.laws_audit.specs.Events.{is_end_event, mark_by, marks_by}
use Rattle.laws_audit.proofs.Order.{Climbs}
use Rattle.laws_audit.specs.Traces.{NamesApart, event_readings, report_readings}
use Rattle.laws_audit.proofs.Standing.{has_end, saying_now}

-- ---- lines of events

abbrev mark_at : ℕ → Saying → Mark
mark_at time w = record { time = time; saying = w }

module _ (names : List (List ℕ)) (apart : NamesApart names) (t : ℕ) (within : t < length names) where
  abbrev pub name : List ℕ
  name = name_at names t

  same_if : (time u : ℕ) (w : Saying) → mark_at time (if_mine (bytes_eq (name_at names u) (name_at names t)) w) ≡ mark_at time (if_mine (u == t) w)
  same_if time u w = ap (λ (b : Bool). mark_at time (if_mine b w)) (apart.apart u t within)

  -- a line says of the thread what its event says
  said_mark : (time : ℕ) (e : Event) → mark_of (name_at names t) (said names time e) ≡ mark_by t (record { time = time; event = e })
  said_mark time (event.Dispatch u prio) = ap (λ (b : Bool). mark_at time (if b then is_given else is_taken)) (apart.apart u t within)
  said_mark time event.Idle = refl
  said_mark time (event.Start u) = same_if time u _
  said_mark time (event.Return u call res value) = refl
  said_mark time (event.Deliver u sig code value) = refl
  said_mark time (event.Activate u capacity) = same_if time u _
  said_mark time (event.Exhaust u) = same_if time u _
  said_mark time (event.Plan u amount due) = same_if time u _
  said_mark time (event.Refill u amount capacity) = same_if time u _
  said_mark time (event.Cancel u) = refl
  said_mark time (event.Exit u) = same_if time u _
  said_mark time (event.Killed sig) = refl
  said_mark time event.End = refl

  pub said_marks : (es : List Entry) → marks_of (name_at names t) (event_readings names es) ≡ marks_by t es
  said_marks [] = refl
  said_marks (e ∷ es) = ap (λ (m : Mark). m ∷ marks_of (name_at names t) (event_readings names es)) (said_mark e.time e.event) ∙ ap (λ (ms : List Mark). mark_by t e ∷ ms) (said_marks es)

  -- a closing line says nothing of it
  closing_mark : (u : ℕ) (report : Report) → mark_of (name_at names t) (said_of_report names u report) ≡ blank
  closing_mark u report = by_budget report.budget
    where
      by_budget : (o : Option BudgetView) → mark_at 0 (saying_of (bytes_eq (name_at names u) (name_at names t)) (form_of_report o) (said_of_report names u report)) ≡ blank
      by_budget None = refl
      by_budget (Some b) = refl

pub not_closing : (e : Event) → is_closing (form_of e) ≡ false
not_closing (event.Dispatch u prio) = refl
not_closing event.Idle = refl
not_closing (event.Start u) = refl
not_closing (event.Return u call res value) = refl
not_closing (event.Deliver u sig code value) = refl
not_closing (event.Activate u capacity) = refl
not_closing (event.Exhaust u) = refl
not_closing (event.Plan u amount due) = refl
not_closing (event.Refill u amount capacity) = refl
not_closing (event.Cancel u) = refl
not_closing (event.Exit u) = refl
not_closing (event.Killed sig) = refl
not_closing event.End = refl

pub end_same : (e : Event) → is_end (form_of e) ≡ is_end_event e
end_same (event.Dispatch u prio) = refl
end_same event.Idle = refl
end_same (event.Start u) = refl
end_same (event.Return u call res value) = refl
end_same (event.Deliver u sig code value) = refl
end_same (event.Activate u capacity) = refl
end_same (event.Exhaust u) = refl
end_same (event.Plan u amount due) = refl
end_same (event.Refill u amount capacity) = refl
end_same (event.Cancel u) = refl
end_same (event.Exit u) = refl
end_same (event.Killed sig) = refl
end_same event.End = refl

closing_form : (o : Option BudgetView) → is_closing (form_of_report o) ≡ true
closing_form None = refl
closing_form (Some b) = refl

ended_same : (names : List (List ℕ)) (es : List Entry) → has_ended (event_readings names es) ≡ has_end es
ended_same names [] = refl
ended_same names (e ∷ es) = ap (λ (b : Bool). b || has_ended (event_readings names es)) (end_same e.event) ∙ ap (λ (b : Bool). is_end_event e.event || b) (ended_same names es)

-- ---- times do not fall

module _ (s : Limits) where
  below : (n k : ℕ) (ms : List Mark) → AllBy n ms → n ≤ k → list_all (λ (j : ℕ). nat_le j k) (map (λ (m : Mark). m.time) ms) ≡ true
  below n k [] all le = refl
  below n k (m ∷ ms) all le = let low = all.0 in let first : nat_le m.time k ≡ true = grind arith in ap (λ (b : Bool). b && list_all (λ (j : ℕ). nat_le j k) (map (λ (m : Mark). m.time) ms)) first ∙ below n k ms all.1 le

  pub climbs : (before ms : List Mark) (a : Account) → AllBy a.now before → Rising s a ms → Climbs (map (λ (m : Mark). m.time) before) (map (λ (m : Mark). m.time) ms)
  climbs before [] a all up = tt
  climbs before (m ∷ ms) a all up =
      let at : (after_mark s a m).now ≡ m.time = saying_now (advanced s m.time a) m.saying ∙ advanced_now s m.time a up.0 in (
        below a.now m.time before all up.0,
        subst (λ (ns : List ℕ). Climbs ns (map (λ (m : Mark). m.time) ms)) (map_more (λ (m : Mark). m.time) before (m ∷ []))
            (climbs (before ++ m ∷ []) ms (after_mark s a m) (by_more (after_mark s a m).now before m (by_later a.now (after_mark s a m).now before (let up' = up.0 in omega arith) all) (omega arith)) up.1),
      )

-- ---- the order of the lines

all_times : (k : ℕ) (rs : List Reading) → list_all (λ (r : Reading). nat_le r.time k) rs ≡ list_all (λ (j : ℕ). nat_le j k) (map (λ (r : Reading). r.time) rs)
all_times k [] = refl
all_times k (r ∷ rs) = ap (λ (b : Bool). nat_le r.time k && b) (all_times k rs)

ended_more : (before : List Reading) (r : Reading) → has_ended (before ++ r ∷ []) ≡ (has_ended before || is_end r.form)
ended_more before r = any_more (λ (x : Reading). is_end x.form) before r

-- lines that close nothing, the last of which may be the end
abbrev pub OneEnd : Bool → List Reading → Type 0
OneEnd ended [] = Unit {0}
OneEnd ended (r ∷ rs) = (ended ≡ false) × (is_closing r.form ≡ false) × OneEnd (ended || is_end r.form) rs

pub order_kept : (before rs : List Reading) → OneEnd (has_ended before) rs → Climbs (map (λ (r : Reading). r.time) before) (map (λ (r : Reading). r.time) rs) → OrderKept before rs
order_kept before [] one up = tt
order_kept before (r ∷ rs) one up =
    let kept : keeps_order before r ≡ true =
    ap (λ (b : Bool). if b then has_ended before else (not (has_ended before) && list_all (λ (x : Reading). nat_le x.time r.time) before)) one.1
    ∙ ap (λ (b : Bool). not b && list_all (λ (x : Reading). nat_le x.time r.time) before) one.0 ∙ all_times r.time before ∙ up.0 in
    (kept, order_kept (before ++ r ∷ []) rs (subst (λ (b : Bool). OneEnd b rs) (sym (ended_more before r)) one.2) (subst (λ (ns : List ℕ). Climbs ns (map (λ (x : Reading). x.time) rs)) (sym (map_more (λ (x : Reading). x.time) before (r ∷ []))) up.1))

pub one_end : (names : List (List ℕ)) (es : List Entry) (r : Reading) → has_end es ≡ false → is_closing r.form ≡ false → OneEnd false (event_readings names es ++ r ∷ [])
one_end names [] r e k = (refl, k, tt)
one_end names (x ∷ es) r e k =
    let parts = neither (is_end_event x.event) (has_end es) e in
    (refl, not_closing x.event, subst (λ (b : Bool). OneEnd b (event_readings names es ++ r ∷ [])) (sym (end_same x.event ∙ parts.0)) (one_end names es r parts.1 k))
  where
    neither : (a b : Bool) → (a || b) ≡ false → (a ≡ false) × (b ≡ false)
    neither a b e = (grind arith, grind arith)

-- closing lines stand behind the end
pub reports_order : {P : Type 0} (names : List (List ℕ)) (u : ℕ) (ths : List (Thread P)) (before : List Reading) → has_ended before ≡ true → OrderKept before (report_readings names u ths)
reports_order names u [] before e = tt
reports_order names u (th ∷ ths) before e =
    let r = said_of_report names u (report_of th) in (
      ap (λ (b : Bool). if b then has_ended before else (not (has_ended before) && list_all (λ (x : Reading). nat_le x.time r.time) before)) (closing_form (report_of th).budget) ∙ e,
      reports_order names (u + 1) ths (before ++ r ∷ []) (ended_more before r ∙ ap (λ (b : Bool). b || is_end r.form) e),
    )

-- ---- closing lines

end_stays : (before rs : List Reading) → has_ended before ≡ true → end_time (before ++ rs) ≡ end_time before
end_stays [] rs e = absurd (grind arith)
end_stays (r ∷ before) rs e = by_end (is_end r.form) refl e (end_stays before rs)
  where
    by_end : (b : Bool) → is_end r.form ≡ b → (b || has_ended before) ≡ true → (has_ended before ≡ true → end_time (before ++ rs) ≡ end_time before) → end_time (r ∷ before ++ rs) ≡ end_time (r ∷ before)
    by_end true k f rest = rw k refl
    by_end false k f rest = rw k (rest f)

-- what a closing line has to say is the same behind other closing lines
right_blank : (s : Limits) (ms : List Mark) (end : ℕ) (f : Form) (nums : List ℕ) → is_right_end s (ms ++ blank ∷ []) end f nums ≡ is_right_end s ms end f nums
right_blank s ms end form.Thread (ticks ∷ []) = rw (lives_blank s ms, ran_before_blank s ms end) refl
right_blank s ms end form.Budget (ticks ∷ high ∷ init ∷ refilled ∷ capacity ∷ []) = rw (lives_blank s ms, ran_before_blank s ms end, high_before_blank s ms end, all_blank s ms amount_refilled refl) refl
right_blank s ms end f nums = refl

-- what the closing line of a thread says, behind these lines
abbrev pub RightEnd : {P : Type 0} → Limits → List Mark → ℕ → Thread P → Type 0
RightEnd s ms end th = is_right_end s ms end (form_of_report (report_of th).budget) ((report_of th).ticks ∷ nums_of_budget (report_of th).budget) ≡ true

module _ (names : List (List ℕ)) (apart : NamesApart names) (t : ℕ) (within : t < length names) (lim : Limits) where
  abbrev pub server : NamedServer
  server = record { name = name_at names t; limits = lim }

  marks_closed : (before : List Reading) (u : ℕ) (report : Report) → marks_of (name_at names t) (before ++ said_of_report names u report ∷ []) ≡ marks_of (name_at names t) before ++ blank ∷ []
  marks_closed before u report = map_more (mark_of (name_at names t)) before (said_of_report names u report ∷ []) ∙ ap (λ (m : Mark). marks_of (name_at names t) before ++ m ∷ []) (closing_mark names apart t within u report)

  closes_same : (u : ℕ) (report : Report) → is_closing_of (name_at names t) (said_of_report names u report) ≡ (u == t)
  closes_same u report = ap (λ (b : Bool). b && bytes_eq (name_at names u) (name_at names t)) (closing_form report.budget) ∙ apart.apart u t within

  closing_more : (before : List Reading) (u : ℕ) (report : Report) → has_closing (name_at names t) (before ++ said_of_report names u report ∷ []) ≡ (has_closing (name_at names t) before || (u == t))
  closing_more before u report = any_more (is_closing_of (name_at names t)) before (said_of_report names u report) ∙ ap (λ (b : Bool). has_closing (name_at names t) before || b) (closes_same u report)

  -- each closing line keeps the rule
  pub reports_kept : {P : Type 0} (now u : ℕ) (ths : List (Thread P)) (before : List Reading) → has_ended before ≡ true → end_time before ≡ now → (u ≤ t → has_closing (name_at names t) before ≡ false) →
      ((k : ℕ) → u + k ≡ t → k < length ths → RightEnd lim (marks_of (name_at names t) before) now (thread_in ths k)) → ServerKept server before (report_readings names u ths)
  reports_kept now u [] before e at first right = tt
  reports_kept {P} now u (th ∷ ths) before e at first right = (
    ap (λ (b : Bool). if b then if_broken (keeps_end server before r) 6 None else broken_by lim (marks_of (name_at names t) before) (mark_of (name_at names t) r)) (closing_form (report_of th).budget) ∙ ap (λ (b : Bool). if_broken b 6 None) kept,
    reports_kept now (u + 1) ths (before ++ r ∷ []) (any_more (λ (x : Reading). is_end x.form) before r ∙ ap (λ (b : Bool). b || is_end r.form) e) (end_stays before (r ∷ []) e ∙ at)
        (λ le. closing_more before u (report_of th) ∙ none le) rights,
  )
    where
      r : Reading
      r = said_of_report names u (report_of th)

      kept : keeps_end server before (said_of_report names u (report_of th)) ≡ true
      kept = by_eq (u == t) refl
        where
          by_eq : (b : Bool) → (u == t) ≡ b → keeps_end server before (said_of_report names u (report_of th)) ≡ true
          by_eq false k = ap (λ (b : Bool). if b then not (has_closing (name_at names t) before) && is_right_end lim (marks_of (name_at names t) before) (end_time before) (form_of_report (report_of th).budget) ((report_of th).ticks ∷ nums_of_budget (report_of th).budget) else true) (closes_same u (report_of th) ∙ k)
          by_eq true k =
              let it : u ≡ t = grind arith in
              let open' : has_closing (name_at names t) before ≡ false = first (omega arith) in
              let right' : RightEnd lim (marks_of (name_at names t) before) now th = right 0 (omega arith) (omega arith) in
              ap (λ (b : Bool). if b then not (has_closing (name_at names t) before) && is_right_end lim (marks_of (name_at names t) before) (end_time before) (form_of_report (report_of th).budget) ((report_of th).ticks ∷ nums_of_budget (report_of th).budget) else true) (closes_same u (report_of th) ∙ k)
              ∙ ap (λ (b : Bool). not b && is_right_end lim (marks_of (name_at names t) before) (end_time before) (form_of_report (report_of th).budget) ((report_of th).ticks ∷ nums_of_budget (report_of th).budget)) open'
              ∙ ap (λ (n : ℕ). is_right_end lim (marks_of (name_at names t) before) n (form_of_report (report_of th).budget) ((report_of th).ticks ∷ nums_of_budget (report_of th).budget)) at ∙ right'

      none : u + 1 ≤ t → (has_closing (name_at names t) before || (u == t)) ≡ false
      none le = let other : (u == t) ≡ false = grind arith in let open' = first (omega arith) in rw (open', other) refl

      rights : (k : ℕ) → u + 1 + k ≡ t → k < length ths → RightEnd lim (marks_of (name_at names t) (before ++ said_of_report names u (report_of th) ∷ [])) now (thread_in ths k)
      rights k at' lt =
          subst (λ (ms : List Mark). RightEnd lim ms now (thread_in ths k)) (sym (marks_closed before u (report_of th)))
          (right_blank lim (marks_of (name_at names t) before) now (form_of_report (report_of (thread_in ths k)).budget) ((report_of (thread_in ths k)).ticks ∷ nums_of_budget (report_of (thread_in ths k)).budget)
          ∙ right (suc k) (omega arith) (omega arith))

  pub closing_found : {P : Type 0} (u : ℕ) (ths : List (Thread P)) (k : ℕ) → u + k ≡ t → k < length ths → has_closing (name_at names t) (report_readings names u ths) ≡ true
  closing_found u [] k e lt = absurd (omega arith)
  closing_found u (th ∷ ths) zero e lt =
      let it : (u == t) ≡ true = grind arith in
      ap (λ (b : Bool). b || has_closing (name_at names t) (report_readings names (u + 1) ths)) (closes_same u (report_of th) ∙ it)
  closing_found u (th ∷ ths) (suc k) e lt =
      ap (λ (b : Bool). is_closing_of (name_at names t) (said_of_report names u (report_of th)) || b) (closing_found (u + 1) ths k (omega arith) (omega arith)) ∙ always (is_closing_of (name_at names t) (said_of_report names u (report_of th)))
    where
      always : (b : Bool) → (b || true) ≡ true
      always b = grind arith
