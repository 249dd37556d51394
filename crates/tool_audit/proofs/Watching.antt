-- The first breach that the audit finds, from what it keeps, is the first breach of the lines.
use Rattle.std.proofs.Common.{Bool, List, None, Option, Some, [], ap, arith, false, refl, sym, true, ℕ, ◌+◌, ◌≤◌, ◌∷◌, ◌++◌, ◌≡◌, ◌∙◌, subst}
use Rattle.std.specs.Prelude.{map, not, nat_le, ◌&&◌, ◌||◌, if◌then◌else◌}
use Rattle.std.specs.List.{list_all}
use Rattle.tool_check.specs.Lines.{Reading}
use Rattle.tool_audit.specs.Server.{NamedServer}
use Rattle.tool_audit.specs.Rules.{if_broken}
use Rattle.tool_audit.specs.Breach.{breach_from, breach_of, broken_behind, broken_by_reading, broken_for, broken_for_any, has_closing, has_ended, is_closing, is_closing_of, is_end, keeps_order, least}
use Rattle.tool_audit.specs.Replay.{advanced, after_mark}
use Rattle.tool_audit.specs.Marks.{mark_of}
use Rattle.tool_audit.specs.Watch.{Watch, Watched, any_breaks, begun, fits_order, watch_after, watch_breach, watch_breaks, watch_lacks, watched, watched_after, watched_breaks}
use Rattle.tool_audit.proofs.Counts.{any_more}
use Rattle.tool_audit.proofs.Replays.{advanced_now, opened_counts}
use Rattle.tool_audit.proofs.Marked.{now_after}
use Rattle.tool_audit.proofs.Watches.{Watches, watched_next, watched_same}

-- the servers that are watched are these
abbrev pub Each : List Reading → Bool → ℕ → List NamedServer → List Watched → Type 0
Each before ended time [] [] = Unit {0}
Each before ended time [] (w ∷ ws) = ⊥
Each before ended time (s ∷ servers) [] = ⊥
Each before ended time (s ∷ servers) (w ∷ ws) = (w.server ≡ s) × Watches before w × (ended ≡ false → w.account.now ≡ time) × Each before ended time servers ws

pub record WatchIs (servers : List NamedServer) (before : List Reading) (w : Watch) : Type 0 where
  pub ended : w.ended ≡ has_ended before
  pub by : w.ended ≡ false → (k : ℕ) → list_all (λ (b : Reading). nat_le b.time k) before ≡ nat_le w.time k
  pub each : Each before w.ended w.time servers w.each

first : (before : List Reading) (servers : List NamedServer) → before ≡ [] → Each before false 0 servers (map watched servers)
first before [] e = tt
first before (s ∷ servers) e = (refl, subst (λ (rs : List Reading). Watches rs (watched s)) (sym e) (record { counts = λ still. opened_counts s.limits; numbers = λ done. absurd (grind arith); closed = refl }), λ still. refl, first before servers e)

pub begun_is : (servers : List NamedServer) → WatchIs servers [] (begun servers)
begun_is servers = record { ended = refl; by = λ still k. zero_first k; each = first [] servers refl }
  where
    zero_first : (k : ℕ) → true ≡ nat_le 0 k
    zero_first k = grind arith

contra : {b : Bool} → b ≡ true → b ≡ false → ⊥
contra p q = grind arith

-- a line in its order closes exactly where the end has come
in_order : (c e x : Bool) → (if c then e else (not e && x)) ≡ true → e ≡ c
in_order true e x h = h
in_order false true x h = absurd (grind arith)
in_order false false x h = refl

module _ (before : List Reading) (r : Reading) where
  pub order_same : (servers : List NamedServer) (w : Watch) → WatchIs servers before w → keeps_order before r ≡ fits_order w r
  order_same servers w h = by_closing (is_closing r.form) (has_ended before) refl
    where
      by_closing : (c e : Bool) → has_ended before ≡ e → (if c then has_ended before else (not (has_ended before) && list_all (λ (b : Reading). nat_le b.time r.time) before)) ≡ (if c then w.ended else (not w.ended && nat_le w.time r.time))
      by_closing true e k = sym h.ended
      by_closing false true k = rw (k, h.ended ∙ k) refl
      by_closing false false k = rw (k, h.ended ∙ k) (h.by (h.ended ∙ k) r.time)

  least_same : {a b x y : Option ℕ} → a ≡ x → b ≡ y → least a b ≡ least x y
  least_same p q = cc

  any_same : (ended : Bool) (time : ℕ) (servers : List NamedServer) (ws : List Watched) → has_ended before ≡ is_closing r.form → ended ≡ has_ended before → (is_closing r.form ≡ false → time ≤ r.time) → Each before ended time servers ws → broken_for_any before r servers ≡ any_breaks ws r
  any_same ended time [] [] e f le h = refl
  any_same ended time [] (w ∷ ws) e f le h = absurd h
  any_same ended time (s ∷ servers) [] e f le h = absurd h
  any_same ended time (s ∷ servers) (w ∷ ws) e f le h =
      least_same (ap (broken_for before r) (sym h.0) ∙ watched_same before r w h.1 e (λ k. let at = h.2 (f ∙ e ∙ k) in let low = le k in omega arith)) (any_same ended time servers ws e f le h.3)

  none_least : (a b : Option ℕ) → least a b ≡ None → (a ≡ None) × (b ≡ None)
  none_least None b e = (refl, e)
  none_least (Some a) None e = absurd (grind arith)
  none_least (Some a) (Some b) e = absurd (grind arith)

  abbrev watched_by : Watched → Bool → Watched
  watched_by w c = if c then record { server = w.server; account = w.account; closed = w.closed || is_closing_of w.server.name r }
      else record { server = w.server; account = after_mark w.server.limits w.account (mark_of w.server.name r); closed = w.closed }

  each_next : (ended ended' : Bool) (time time' : ℕ) (servers : List NamedServer) (ws : List Watched) → has_ended before ≡ is_closing r.form → ended ≡ has_ended before → (is_closing r.form ≡ false → time ≤ r.time) → (is_closing r.form ≡ true → r.time ≡ 0) →
      (ended' ≡ false → (is_closing r.form ≡ false) × (time' ≡ r.time)) → any_breaks ws r ≡ None → Each before ended time servers ws → Each (before ++ r ∷ []) ended' time' servers (map (watched_after r) ws)
  each_next ended ended' time time' [] [] e f le z n k h = tt
  each_next ended ended' time time' [] (w ∷ ws) e f le z n k h = absurd h
  each_next ended ended' time time' (s ∷ servers) [] e f le z n k h = absurd h
  each_next ended ended' time time' (s ∷ servers) (w ∷ ws) e f le z n k h =
      let none = none_least (watched_breaks w r) (any_breaks ws r) k in
      let low : is_closing r.form ≡ false → w.account.now ≤ r.time = λ c. let at = h.2 (f ∙ e ∙ c) in let low = le c in omega arith in (
        same_server (is_closing r.form) ∙ h.0,
        watched_next before r w h.1 e low z none.0,
        λ still. let it = n still in at_time (is_closing r.form) it.0 (low it.0) ∙ sym it.1,
        each_next ended ended' time time' servers ws e f le z n none.1 h.3,
      )
    where
      same_server : (c : Bool) → (watched_by w c).server ≡ w.server
      same_server true = refl
      same_server false = refl

      at_time : (c : Bool) → c ≡ false → w.account.now ≤ r.time → (watched_by w c).account.now ≡ r.time
      at_time true k le = absurd (grind arith)
      at_time false k le = now_after (advanced w.server.limits r.time w.account) (mark_of w.server.name r).saying ∙ advanced_now w.server.limits r.time w.account le

  -- what is kept after a line that breaks nothing
  pub watch_next : (servers : List NamedServer) (w : Watch) → WatchIs servers before w → (is_closing r.form ≡ true → r.time ≡ 0) → keeps_order before r ≡ true → watch_breaks w r ≡ None → WatchIs servers (before ++ r ∷ []) (watch_after r w)
  watch_next servers w h zero' order none = record {
    ended = ap (λ (b : Bool). b || is_end r.form) h.ended ∙ sym (any_more (λ (x : Reading). is_end x.form) before r);
    by = λ still k. by_closing (is_closing r.form) refl (left w.ended (is_end r.form) still) k;
    each = each_next w.ended (w.ended || is_end r.form) w.time (if is_closing r.form then w.time else r.time) servers w.each closes h.ended low zero' (λ still. not_yet (is_closing r.form) refl (left w.ended (is_end r.form) still)) rest h.each;
  }
    where
      closes : has_ended before ≡ is_closing r.form
      closes = in_order (is_closing r.form) (has_ended before) (list_all (λ (b : Reading). nat_le b.time r.time) before) order

      left : (a b : Bool) → (a || b) ≡ false → a ≡ false
      left a b e = grind arith

      low : is_closing r.form ≡ false → w.time ≤ r.time
      low k = let same = order_same servers w h in second (is_closing r.form) w.ended (nat_le w.time r.time) k (sym same ∙ order) refl
        where
          second : (c e x : Bool) → c ≡ false → (if c then e else (not e && x)) ≡ true → nat_le w.time r.time ≡ x → w.time ≤ r.time
          second true e x k f g = absurd (grind arith)
          second false e x k f g = grind arith

      rest : any_breaks w.each r ≡ None
      rest = out (fits_order w r) (any_breaks w.each r) none
        where
          out : (b : Bool) (o : Option ℕ) → if_broken b 1 o ≡ None → o ≡ None
          out true o e = e
          out false o e = absurd (grind arith)

      still_open : (c : Bool) → is_closing r.form ≡ c → w.ended ≡ false → c ≡ false
      still_open c k e = sym k ∙ sym closes ∙ sym h.ended ∙ e

      not_yet : (c : Bool) → is_closing r.form ≡ c → w.ended ≡ false → (c ≡ false) × ((if c then w.time else r.time) ≡ r.time)
      not_yet true k e = absurd (contra refl (still_open true k e))
      not_yet false k e = (refl, refl)

      by_closing : (c : Bool) → is_closing r.form ≡ c → w.ended ≡ false → (k : ℕ) → list_all (λ (b : Reading). nat_le b.time k) (before ++ r ∷ []) ≡ nat_le (if c then w.time else r.time) k
      by_closing true k e n = absurd (contra refl (still_open true k e))
      by_closing false k e n = all_last before r n ∙ ap (λ (b : Bool). b && nat_le r.time n) (h.by e n) ∙ covered (low k)
        where
          all_last : (xs : List Reading) (x : Reading) (n : ℕ) → list_all (λ (b : Reading). nat_le b.time n) (xs ++ x ∷ []) ≡ (list_all (λ (b : Reading). nat_le b.time n) xs && nat_le x.time n)
          all_last [] x n = and_true (nat_le x.time n)
            where
              and_true : (b : Bool) → (b && true) ≡ b
              and_true b = grind arith
          all_last (y ∷ xs) x n = ap (λ (b : Bool). nat_le y.time n && b) (all_last xs x n) ∙ either (nat_le y.time n) (list_all (λ (b : Reading). nat_le b.time n) xs) (nat_le x.time n)
            where
              either : (a b c : Bool) → (a && (b && c)) ≡ ((a && b) && c)
              either a b c = grind arith

          covered : w.time ≤ r.time → (nat_le w.time n && nat_le r.time n) ≡ nat_le r.time n
          covered le = by_test (nat_le r.time n) refl
            where
              by_test : (b : Bool) → nat_le r.time n ≡ b → (nat_le w.time n && b) ≡ b
              by_test true e = let lower : nat_le w.time n ≡ true = grind arith in ap (λ (b : Bool). b && true) lower
              by_test false e = and_false (nat_le w.time n)
                where
                  and_false : (b : Bool) → (b && false) ≡ false
                  and_false b = grind arith

-- ---- all lines

-- closing lines have the time 0, as they are read
abbrev pub ClosingAtZero : List (Option Reading) → Type 0
ClosingAtZero [] = Unit {0}
ClosingAtZero (None ∷ rs) = ClosingAtZero rs
ClosingAtZero (Some r ∷ rs) = (is_closing r.form ≡ true → r.time ≡ 0) × ClosingAtZero rs

all_closed : (before : List Reading) (ended : Bool) (time : ℕ) (servers : List NamedServer) (ws : List Watched) → Each before ended time servers ws → list_all (λ (s : NamedServer). has_closing s.name before) servers ≡ list_all (λ (w : Watched). w.closed) ws
all_closed before ended time [] [] h = refl
all_closed before ended time [] (w ∷ ws) h = absurd h
all_closed before ended time (s ∷ servers) [] h = absurd h
all_closed before ended time (s ∷ servers) (w ∷ ws) h = join (ap (λ (x : NamedServer). has_closing x.name before) (sym h.0) ∙ sym h.1.closed) (all_closed before ended time servers ws h.3)
  where
    join : {a b x y : Bool} → a ≡ x → b ≡ y → (a && b) ≡ (x && y)
    join p q = cc

pub lacks_same : (servers : List NamedServer) (before : List Reading) (w : Watch) → WatchIs servers before w → broken_behind servers before ≡ watch_lacks w
lacks_same servers before w h =
    ap (λ (b : Bool). if_broken b 1 (if_broken (list_all (λ (s : NamedServer). has_closing s.name before) servers) 6 None)) (sym h.ended)
    ∙ ap (λ (b : Bool). if_broken w.ended 1 (if_broken b 6 None)) (all_closed before w.ended w.time servers w.each h.each)

pub line_same : (servers : List NamedServer) (before : List Reading) (r : Reading) (w : Watch) → WatchIs servers before w → broken_by_reading servers before (Some r) ≡ watch_breaks w r
line_same servers before r w h = by_order (keeps_order before r) refl
  where
    by_order : (b : Bool) → keeps_order before r ≡ b → if_broken (keeps_order before r) 1 (broken_for_any before r servers) ≡ if_broken (fits_order w r) 1 (any_breaks w.each r)
    by_order false e = let same = order_same before r servers w h in ap (λ (b : Bool). if_broken b 1 (broken_for_any before r servers)) e ∙ sym (ap (λ (b : Bool). if_broken b 1 (any_breaks w.each r)) (sym same ∙ e))
    by_order true e =
        let same = order_same before r servers w h in
        let closes : has_ended before ≡ is_closing r.form = in_order (is_closing r.form) (has_ended before) (list_all (λ (b : Reading). nat_le b.time r.time) before) e in
        let low : is_closing r.form ≡ false → w.time ≤ r.time = λ k. second (is_closing r.form) w.ended (nat_le w.time r.time) k (sym same ∙ e) refl in
        ap (λ (b : Bool). if_broken b 1 (broken_for_any before r servers)) e ∙ any_same before r w.ended w.time servers w.each closes h.ended low h.each
        ∙ sym (ap (λ (b : Bool). if_broken b 1 (any_breaks w.each r)) (sym same ∙ e))
      where
        second : (c e x : Bool) → c ≡ false → (if c then e else (not e && x)) ≡ true → nat_le w.time r.time ≡ x → w.time ≤ r.time
        second true e x k f g = absurd (grind arith)
        second false e x k f g = grind arith

-- The first breach that is found from what is kept is the first breach of the lines, and there the least rule.
pub breach_same : (servers : List NamedServer) (before : List Reading) (w : Watch) (line : ℕ) (found : List (Option Reading)) → WatchIs servers before w → ClosingAtZero found → breach_from servers before line found ≡ watch_breach w line found
breach_same servers before w line [] h z = ap (λ (o : Option ℕ). breach_of o line None) (lacks_same servers before w h)
breach_same servers before w line (None ∷ found) h z = refl
breach_same servers before w line (Some r ∷ found) h z = by_rule (watch_breaks w r) refl (λ next. breach_same servers (before ++ r ∷ []) (watch_after r w) (line + 1) found next z.1)
  where
    by_rule : (o : Option ℕ) → watch_breaks w r ≡ o → (WatchIs servers (before ++ r ∷ []) (watch_after r w) → breach_from servers (before ++ r ∷ []) (line + 1) found ≡ watch_breach (watch_after r w) (line + 1) found) →
        breach_of (broken_by_reading servers before (Some r)) line (breach_from servers (before ++ r ∷ []) (line + 1) found) ≡ breach_of (watch_breaks w r) line (watch_breach (watch_after r w) (line + 1) found)
    by_rule (Some rule) e rest =
        ap (λ (o : Option ℕ). breach_of o line (breach_from servers (before ++ r ∷ []) (line + 1) found)) (line_same servers before r w h ∙ e)
        ∙ sym (ap (λ (o : Option ℕ). breach_of o line (watch_breach (watch_after r w) (line + 1) found)) e)
    by_rule None e rest =
        let order : keeps_order before r ≡ true = order_same before r servers w h ∙ kept (fits_order w r) (any_breaks w.each r) e in
        ap (λ (o : Option ℕ). breach_of o line (breach_from servers (before ++ r ∷ []) (line + 1) found)) (line_same servers before r w h ∙ e)
        ∙ rest (watch_next before r servers w h z.0 order e)
        ∙ sym (ap (λ (o : Option ℕ). breach_of o line (watch_breach (watch_after r w) (line + 1) found)) e)
      where
        kept : (b : Bool) (o : Option ℕ) → if_broken b 1 o ≡ None → b ≡ true
        kept true o e = refl
        kept false o e = absurd (grind arith)

pub first_breach_is_found : (servers : List NamedServer) (found : List (Option Reading)) → ClosingAtZero found → breach_from servers [] 1 found ≡ watch_breach (begun servers) 1 found
first_breach_is_found servers found z = breach_same servers [] (begun servers) 1 found (begun_is servers) z
