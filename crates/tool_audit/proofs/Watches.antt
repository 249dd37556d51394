-- What the audit keeps of a trace tells the rule that each line breaks, over all lines before it.
use Rattle.std.proofs.Common.{Bool, List, None, [], ap, arith, false, refl, sym, true, ℕ, ◌≤◌, ◌∷◌, ◌++◌, ◌≡◌, ◌∙◌, subst}
use Rattle.std.specs.Prelude.{not, ◌&&◌, ◌||◌, if◌then◌else◌}
use Rattle.std.specs.Str.{bytes_eq}
use Rattle.tool_check.specs.declared.form.Form.{Form}
use Rattle.tool_check.specs.declared.form.Form.TheVariants as form
use Rattle.tool_check.specs.Lines.{Reading}
use Rattle.tool_audit.specs.Server.{Limits}
use Rattle.tool_audit.specs.Marks.{Mark, Saying, mark_of, marks_of, nothing, saying_of}
use Rattle.tool_audit.specs.Ticks.{amount_refilled, high_before, ran_before}
use Rattle.tool_audit.specs.Rules.{broken_by, if_broken, lives_in}
use Rattle.tool_audit.specs.Breach.{broken_for, end_time, has_closing, has_ended, is_closing, is_closing_of, is_end, is_right_end, keeps_end}
use Rattle.tool_audit.specs.Replay.{Account, advanced, after_mark, breaks, lives}
use Rattle.tool_audit.specs.Watch.{Watched, fits_end, fits_numbers, watched_after, watched_breaks}
use Rattle.tool_audit.proofs.Counts.{any_more, before_free, free_before, free_ran, is_over_last, map_more, ran_free}
use Rattle.tool_audit.proofs.Replays.{Counts, advanced_now}
use Rattle.tool_audit.proofs.Marked.{now_after}
use Rattle.tool_audit.proofs.Judged.{breaks_same, marked}
use Rattle.tool_audit.proofs.Walks.{all_blank, blank, high_before_blank, lives_blank, or_none, ran_before_blank}

-- the numbers of a closing line, where all lines to the end are counted
module _ (s : Limits) (ms : List Mark) (m : Mark) (b : Account) (h : Counts s (ms ++ m ∷ []) b) (at : b.now ≡ m.time) where
  ran_is : ran_before (ms ++ m ∷ []) m.time ≡ b.ran
  ran_is = ran_free s (ms ++ m ∷ []) m.time (is_over_last ms m) m.time (omega arith) ∙ ap (free_ran (ms ++ m ∷ [])) (sym at) ∙ sym h.ran

  high_is : high_before s (ms ++ m ∷ []) m.time ≡ b.high
  high_is = before_free s (ms ++ m ∷ []) m.time (is_over_last ms m) m.time (omega arith) ∙ ap (free_before s (ms ++ m ∷ [])) (sym at) ∙ sym h.high

  lives_is : lives_in (ms ++ m ∷ []) ≡ lives b
  lives_is = both (sym h.started) (sym h.exited)
    where
      both : {x y z v : Bool} → x ≡ z → y ≡ v → (x && not y) ≡ (z && not v)
      both p q = cc

  pub numbers_same : (f : Form) (nums : List ℕ) → is_right_end s (ms ++ m ∷ []) m.time f nums ≡ fits_numbers s b f nums
  numbers_same form.Thread (ticks ∷ []) = rw (lives_is, ran_is) refl
  numbers_same form.Budget (ticks ∷ high ∷ init ∷ refilled ∷ capacity ∷ []) = rw (lives_is, ran_is, high_is, sym h.refilled) refl
  numbers_same f nums = refl

-- of one server, behind these lines
pub record Watches (before : List Reading) (w : Watched) : Type 0 where
  pub counts : has_ended before ≡ false → Counts w.server.limits (marks_of w.server.name before) w.account
  pub numbers : has_ended before ≡ true → (f : Form) (nums : List ℕ) → is_right_end w.server.limits (marks_of w.server.name before) (end_time before) f nums ≡ fits_numbers w.server.limits w.account f nums
  pub closed : w.closed ≡ has_closing w.server.name before

-- the rule that a line breaks that keeps the order
pub watched_same : (before : List Reading) (r : Reading) (w : Watched) → Watches before w → has_ended before ≡ is_closing r.form → (is_closing r.form ≡ false → w.account.now ≤ r.time) → broken_for before r w.server ≡ watched_breaks w r
watched_same before r w h e le = by_closing (is_closing r.form) refl
  where
    by_closing : (c : Bool) → is_closing r.form ≡ c → (if c then if_broken (keeps_end w.server before r) 6 None else broken_by w.server.limits (marks_of w.server.name before) (mark_of w.server.name r))
        ≡ (if c then if_broken (fits_end w r) 6 None else breaks w.server.limits w.account (mark_of w.server.name r))
    by_closing false k = breaks_same w.server.limits (marks_of w.server.name before) (mark_of w.server.name r) w.account (h.counts (e ∙ k)) (le k)
    by_closing true k = ap (λ (b : Bool). if_broken b 6 None) (same_end (ap not (sym h.closed)) (h.numbers (e ∙ k) r.form r.nums))
      where
        same_end : {p q x y : Bool} → p ≡ x → q ≡ y → (if is_closing_of w.server.name r then p && q else true) ≡ (if is_closing_of w.server.name r then x && y else true)
        same_end f g = cc

-- ---- after a line

abbrev mark_with : ℕ → Saying → Mark
mark_with n v = record { time = n; saying = v }

right_blank : (s : Limits) (ms : List Mark) (end : ℕ) (f : Form) (nums : List ℕ) → is_right_end s (ms ++ blank ∷ []) end f nums ≡ is_right_end s ms end f nums
right_blank s ms end form.Thread (ticks ∷ []) = rw (lives_blank s ms, ran_before_blank s ms end) refl
right_blank s ms end form.Budget (ticks ∷ high ∷ init ∷ refilled ∷ capacity ∷ []) = rw (lives_blank s ms, ran_before_blank s ms end, high_before_blank s ms end, all_blank s ms amount_refilled refl) refl
right_blank s ms end f nums = refl

-- a closing line says nothing of a thread's ticks
closing_blank : (mine : Bool) (f : Form) (r : Reading) → is_closing f ≡ true → saying_of mine f r ≡ nothing
closing_blank mine form.Thread r e = refl
closing_blank mine form.Budget r e = refl
closing_blank mine f r e = absurd (grind arith)

marks_last : (name : List ℕ) (before : List Reading) (r : Reading) → marks_of name (before ++ r ∷ []) ≡ marks_of name before ++ mark_of name r ∷ []
marks_last name before r = map_more (mark_of name) before (r ∷ [])

ended_last : (before : List Reading) (r : Reading) → has_ended (before ++ r ∷ []) ≡ (has_ended before || is_end r.form)
ended_last before r = any_more (λ (x : Reading). is_end x.form) before r

end_first : (before : List Reading) (r : Reading) → has_ended before ≡ false → is_end r.form ≡ true → end_time (before ++ r ∷ []) ≡ r.time
end_first [] r e k = ap (λ (b : Bool). if b then r.time else 0) k
end_first (x ∷ before) r e k =
    let parts = neither (is_end x.form) (has_ended before) e in
    ap (λ (b : Bool). if b then x.time else end_time (before ++ r ∷ [])) parts.0 ∙ end_first before r parts.1 k
  where
    neither : (a b : Bool) → (a || b) ≡ false → (a ≡ false) × (b ≡ false)
    neither a b e = (grind arith, grind arith)

end_stays : (before rs : List Reading) → has_ended before ≡ true → end_time (before ++ rs) ≡ end_time before
end_stays [] rs e = absurd (grind arith)
end_stays (r ∷ before) rs e = by_end (is_end r.form) refl e (end_stays before rs)
  where
    by_end : (b : Bool) → is_end r.form ≡ b → (b || has_ended before) ≡ true → (has_ended before ≡ true → end_time (before ++ rs) ≡ end_time before) → end_time (r ∷ before ++ rs) ≡ end_time (r ∷ before)
    by_end true k f rest = rw k refl
    by_end false k f rest = rw k (rest f)

pub watched_next : (before : List Reading) (r : Reading) (w : Watched) → Watches before w → has_ended before ≡ is_closing r.form → (is_closing r.form ≡ false → w.account.now ≤ r.time) → (is_closing r.form ≡ true → r.time ≡ 0) →
    watched_breaks w r ≡ None → Watches (before ++ r ∷ []) (watched_after r w)
watched_next before r w h e le zero' none = by_closing (is_closing r.form) refl
  where
    later_closed : has_closing w.server.name (before ++ r ∷ []) ≡ (has_closing w.server.name before || is_closing_of w.server.name r)
    later_closed = any_more (is_closing_of w.server.name) before r

    timed : is_closing r.form ≡ false → Watches (before ++ r ∷ []) (record { server = w.server; account = after_mark w.server.limits w.account (mark_of w.server.name r); closed = w.closed })
    timed k =
        let still : has_ended before ≡ false = e ∙ k in
        let kept : breaks w.server.limits w.account (mark_of w.server.name r) ≡ None =
        sym (ap (λ (c : Bool). if c then if_broken (fits_end w r) 6 None else breaks w.server.limits w.account (mark_of w.server.name r)) k) ∙ none in
        let counts' = marked w.server.limits (marks_of w.server.name before) (mark_of w.server.name r) w.account (h.counts still) (le k) kept in
        let at : (after_mark w.server.limits w.account (mark_of w.server.name r)).now ≡ r.time = now_after (advanced w.server.limits r.time w.account) (mark_of w.server.name r).saying ∙ advanced_now w.server.limits r.time w.account (le k) in
        record {
          counts = λ early. subst (λ (ms : List Mark). Counts w.server.limits ms (after_mark w.server.limits w.account (mark_of w.server.name r))) (sym (marks_last w.server.name before r)) counts';
          numbers = λ done f nums.
              let ends : is_end r.form ≡ true = sym (ap (λ (b : Bool). b || is_end r.form) still) ∙ sym (ended_last before r) ∙ done in
              ap (λ (ms : List Mark). is_right_end w.server.limits ms (end_time (before ++ r ∷ [])) f nums) (marks_last w.server.name before r)
              ∙ ap (λ (n : ℕ). is_right_end w.server.limits (marks_of w.server.name before ++ mark_of w.server.name r ∷ []) n f nums) (end_first before r still ends)
              ∙ numbers_same w.server.limits (marks_of w.server.name before) (mark_of w.server.name r) (after_mark w.server.limits w.account (mark_of w.server.name r)) counts' at f nums;
          closed = h.closed ∙ sym (later_closed ∙ ap (λ (b : Bool). has_closing w.server.name before || (b && bytes_eq r.name w.server.name)) k ∙ or_none (has_closing w.server.name before));
        }

    closing : is_closing r.form ≡ true → Watches (before ++ r ∷ []) (record { server = w.server; account = w.account; closed = w.closed || is_closing_of w.server.name r })
    closing k =
        let done : has_ended before ≡ true = e ∙ k in
        let more : has_ended (before ++ r ∷ []) ≡ true = ended_last before r ∙ ap (λ (b : Bool). b || is_end r.form) done in
        let says : mark_of w.server.name r ≡ blank = as_blank (zero' k) (closing_blank (bytes_eq r.name w.server.name) r.form r k) in
        record {
          counts = λ early. absurd (both more early);
          numbers = λ ended f nums.
              ap (λ (ms : List Mark). is_right_end w.server.limits ms (end_time (before ++ r ∷ [])) f nums) (marks_last w.server.name before r ∙ ap (λ (m : Mark). marks_of w.server.name before ++ m ∷ []) says)
              ∙ right_blank w.server.limits (marks_of w.server.name before) (end_time (before ++ r ∷ [])) f nums
              ∙ ap (λ (n : ℕ). is_right_end w.server.limits (marks_of w.server.name before) n f nums) (end_stays before (r ∷ []) done) ∙ h.numbers done f nums;
          closed = ap (λ (b : Bool). b || is_closing_of w.server.name r) h.closed ∙ sym later_closed;
        }
      where
        both : {b : Bool} → b ≡ true → b ≡ false → ⊥
        both p q = grind arith

        as_blank : {n : ℕ} {v : Saying} → n ≡ 0 → v ≡ nothing → mark_with n v ≡ blank
        as_blank {n} {v} p q = ap (λ (k : ℕ). mark_with k v) p ∙ ap (λ (u : Saying). mark_with 0 u) q

    by_closing : (c : Bool) → is_closing r.form ≡ c → Watches (before ++ r ∷ []) (watched_after r w)
    by_closing true k = subst (λ (b : Bool). Watches (before ++ r ∷ []) (if b then record { server = w.server; account = w.account; closed = w.closed || is_closing_of w.server.name r } else record { server = w.server; account = after_mark w.server.limits w.account (mark_of w.server.name r); closed = w.closed })) (sym k) (closing k)
    by_closing false k = subst (λ (b : Bool). Watches (before ++ r ∷ []) (if b then record { server = w.server; account = w.account; closed = w.closed || is_closing_of w.server.name r } else record { server = w.server; account = after_mark w.server.limits w.account (mark_of w.server.name r); closed = w.closed })) (sym k) (timed k)
