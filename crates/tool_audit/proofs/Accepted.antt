-- What follows of a trace in which no line breaks a rule: its lines are trace lines, and for each server the law of the budget holds of them.
use Rattle.std.proofs.Common.{Bool, List, None, Option, Some, [], ap, arith, false, refl, sym, true, ℕ, ◌+◌, ◌≤◌, ◌∷◌, ◌++◌, ◌≡◌, ◌∙◌, subst}
use Rattle.std.specs.Prelude.{map, not, nat_le, ◌&&◌, if◌then◌else◌}
use Rattle.std.specs.List.{list_all}
use Rattle.script_lex.specs.Lines.{lines_of}
use Rattle.tool_check.specs.Lines.{Reading, reading}
use Rattle.tool_audit.specs.Server.{NamedServer}
use Rattle.tool_audit.specs.Marks.{Mark, mark_of, marks_of}
use Rattle.tool_audit.specs.Rules.{broken_by, if_broken}
use Rattle.tool_audit.specs.Breach.{Breach, breach_from, breach_of, broken_by_reading, broken_for, broken_for_any, first_breach, has_ended, is_closing, keeps_end, keeps_order, least}
use Rattle.tool_audit.specs.Replay.{Account, Rising, advanced, after_mark, opened}
use Rattle.tool_audit.specs.Law.{EachServer, KeepsLaw, LawHolds, timed_part}
use Rattle.tool_audit.proofs.Counts.{map_more}
use Rattle.tool_audit.proofs.Replays.{advanced_now}
use Rattle.tool_audit.proofs.Marked.{now_after}
use Rattle.tool_audit.proofs.Judged.{NoneBreaks}
use Rattle.tool_audit.proofs.Laws.{law_of_lines}
use Rattle.tool_audit.proofs.Walks.{AllKept, EachOf, OrderKept, ServerKept}

-- ---- nothing is broken

none_before : (o : Option ℕ) (line : ℕ) (rest : Option Breach) → breach_of o line rest ≡ None → (o ≡ None) × (rest ≡ None)
none_before None line rest e = (refl, e)
none_before (Some rule) line rest e = absurd (grind arith)

none_broken : (b : Bool) (rule : ℕ) (rest : Option ℕ) → if_broken b rule rest ≡ None → (b ≡ true) × (rest ≡ None)
none_broken true rule rest e = (refl, e)
none_broken false rule rest e = absurd (grind arith)

none_least : (a b : Option ℕ) → least a b ≡ None → (a ≡ None) × (b ≡ None)
none_least None b e = (refl, e)
none_least (Some a) None e = absurd (grind arith)
none_least (Some a) (Some b) e = absurd (grind arith)

-- all lines are read, keep their order, and break nothing
pub record Accepted (servers : List NamedServer) (before : List Reading) (found : List (Option Reading)) : Type 0 where
  pub readings : List Reading
  pub are : found ≡ map Some readings
  pub order : OrderKept before readings
  pub kept : AllKept servers before readings

pub accepted : (servers : List NamedServer) (before : List Reading) (line : ℕ) (found : List (Option Reading)) → breach_from servers before line found ≡ None → Accepted servers before found
accepted servers before line [] e = record { readings = []; are = refl; order = tt; kept = tt }
accepted servers before line (None ∷ found) e = absurd (grind arith)
accepted servers before line (Some r ∷ found) e =
    let k = none_before (broken_by_reading servers before (Some r)) line (breach_from servers (before ++ r ∷ []) (line + 1) found) e in
    let j = none_broken (keeps_order before r) 1 (broken_for_any before r servers) k.0 in
    let rest = accepted servers (before ++ r ∷ []) (line + 1) found k.1 in
    record { readings = r ∷ rest.readings; are = ap (λ (xs : List (Option Reading)). Some r ∷ xs) rest.are; order = (j.0, rest.order); kept = (j.1, rest.kept) }

-- ---- each server by itself

first_kept : (s : NamedServer) (servers : List NamedServer) (before rs : List Reading) → AllKept (s ∷ servers) before rs → ServerKept s before rs × AllKept servers before rs
first_kept s servers before [] h = (tt, tt)
first_kept s servers before (r ∷ rs) h =
    let k = none_least (broken_for before r s) (broken_for_any before r servers) h.0 in
    let rest = first_kept s servers (before ++ r ∷ []) rs h.1 in
    ((k.0, rest.0), (k.1, rest.1))

each_kept : (servers : List NamedServer) (before rs : List Reading) → AllKept servers before rs → EachOf (λ (s : NamedServer). ServerKept s before rs) servers
each_kept [] before rs h = tt
each_kept (s ∷ servers) before rs h = let k = first_kept s servers before rs h in (k.0, each_kept servers before rs k.1)

-- ---- the lines before the closing lines

marks_last : (name : List ℕ) (before : List Reading) (r : Reading) → marks_of name (before ++ r ∷ []) ≡ marks_of name before ++ mark_of name r ∷ []
marks_last name before r = map_more (mark_of name) before (r ∷ [])

none_break : (s : NamedServer) (before rs : List Reading) → ServerKept s before rs → NoneBreaks s.limits (marks_of s.name before) (marks_of s.name (timed_part rs))
none_break s before [] h = tt
none_break s before (r ∷ rs) h = by_closing (is_closing r.form) refl (none_break s (before ++ r ∷ []) rs h.1)
  where
    by_closing : (b : Bool) → is_closing r.form ≡ b → NoneBreaks s.limits (marks_of s.name (before ++ r ∷ [])) (marks_of s.name (timed_part rs)) → NoneBreaks s.limits (marks_of s.name before) (marks_of s.name (if b then [] else (r ∷ timed_part rs)))
    by_closing true e rest = tt
    by_closing false e rest = (
      sym (ap (λ (b : Bool). if b then if_broken (keeps_end s before r) 6 None else broken_by s.limits (marks_of s.name before) (mark_of s.name r)) e) ∙ h.0,
      subst (λ (ms : List Mark). NoneBreaks s.limits ms (marks_of s.name (timed_part rs))) (marks_last s.name before r) rest,
    )

-- the time of the last line
abbrev last_time : ℕ → List Reading → ℕ
last_time n [] = n
last_time n (r ∷ rs) = last_time r.time rs

last_more : (n : ℕ) (before : List Reading) (r : Reading) → last_time n (before ++ r ∷ []) ≡ r.time
last_more n [] r = refl
last_more n (x ∷ before) r = last_more x.time before r

last_low : (n k : ℕ) (before : List Reading) → n ≤ k → list_all (λ (b : Reading). nat_le b.time k) before ≡ true → last_time n before ≤ k
last_low n k [] le e = le
last_low n k (r ∷ before) le e = let parts = split (nat_le r.time k) (list_all (λ (b : Reading). nat_le b.time k) before) e in let low : r.time ≤ k = grind (arith, parts.0) in last_low r.time k before low parts.1
  where
    split : (a b : Bool) → (a && b) ≡ true → (a ≡ true) × (b ≡ true)
    split a b e = (grind arith, grind arith)

rising : (s : NamedServer) (before rs : List Reading) (a : Account) → a.now ≡ last_time 0 before → OrderKept before rs → Rising s.limits a (marks_of s.name (timed_part rs))
rising s before [] a at h = tt
rising s before (r ∷ rs) a at h = by_closing (is_closing r.form) refl (λ (b : Account) (e : b.now ≡ last_time 0 (before ++ r ∷ [])). rising s (before ++ r ∷ []) rs b e h.1)
  where
    by_closing : (c : Bool) → is_closing r.form ≡ c → ((b : Account) → b.now ≡ last_time 0 (before ++ r ∷ []) → Rising s.limits b (marks_of s.name (timed_part rs))) → Rising s.limits a (marks_of s.name (if c then [] else (r ∷ timed_part rs)))
    by_closing true e rest = tt
    by_closing false e rest =
        let order : (not (has_ended before) && list_all (λ (b : Reading). nat_le b.time r.time) before) ≡ true = sym (ap (λ (c : Bool). if c then has_ended before else (not (has_ended before) && list_all (λ (b : Reading). nat_le b.time r.time) before)) e) ∙ h.0 in
        let le : a.now ≤ r.time = let low = last_low 0 r.time before (omega arith) (second (not (has_ended before)) (list_all (λ (b : Reading). nat_le b.time r.time) before) order) in omega arith in
        (le, rest (after_mark s.limits a (mark_of s.name r)) (now_after (advanced s.limits r.time a) (mark_of s.name r).saying ∙ advanced_now s.limits r.time a le ∙ sym (last_more 0 before r)))
      where
        second : (a b : Bool) → (a && b) ≡ true → b ≡ true
        second a b e = grind arith

each_law : (servers : List NamedServer) (rs : List Reading) → OrderKept [] rs → EachOf (λ (s : NamedServer). ServerKept s [] rs) servers → EachServer (λ (s : NamedServer). LawHolds s.limits [] (marks_of s.name (timed_part rs))) servers
each_law [] rs o h = tt
each_law (s ∷ servers) rs o h = (law_of_lines s.limits (marks_of s.name (timed_part rs)) (rising s [] rs opened refl o) (none_break s [] rs h.0), each_law servers rs o h.1)

-- Where no line of a trace breaks a rule, the law of the budget holds of its lines for each server.
pub accepted_keeps_law : (servers : List NamedServer) (trace : List ℕ) → first_breach servers trace ≡ None → KeepsLaw servers trace
accepted_keeps_law servers trace e =
    let k = accepted servers [] 1 (map reading (lines_of trace)) e in
    record { readings = k.readings; are = k.are; each = each_law servers k.readings k.order (each_kept servers [] k.readings k.kept) }
