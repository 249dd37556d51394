-- How no breach is found: where each line keeps its order, and breaks no rule for any server.
use Rattle.std.proofs.Common.{Bool, List, None, Option, Some, [], ap, append_assoc, arith, false, refl, suc, sym, true, zero, ℕ, ◌+◌, ◌∷◌, ◌++◌, ◌≡◌, ◌∙◌, subst}
use Rattle.std.specs.Prelude.{map, nat_le, nat_lt, ◌||◌, if◌then◌else◌}
use Rattle.tool_check.specs.Lines.{Reading}
use Rattle.tool_audit.specs.Server.{Limits, NamedServer}
use Rattle.tool_audit.specs.Marks.{Mark, Saying, mark_of, marks_of, nothing}
use Rattle.tool_audit.specs.Ticks.{amount_refilled, and_tick, counted_if, has_at, high_before, in_all, is_high, is_over, one_plan, one_refill, ran, ran_before, up_to}
use Rattle.tool_audit.specs.Rules.{broken_by, has_exited, has_started, if_broken, is_begin, is_exit, lives_in}
use Rattle.tool_audit.specs.Breach.{breach_from, breach_of, broken_behind, broken_by_reading, broken_for, broken_for_any, is_closing, keeps_end, keeps_order, least}
use Rattle.tool_audit.proofs.Counts.{all_more, any_more, has_more, map_more, up_more}
use Rattle.tool_audit.proofs.Judged.{NoneBreaks}

none_more : {X : Type 0} (xs : List X) → xs ++ [] ≡ xs
none_more [] = refl
none_more (x ∷ xs) = ap (λ ys. x ∷ ys) (none_more xs)

pub or_none : (b : Bool) → (b || false) ≡ b
or_none b = grind arith

-- ---- all lines

abbrev pub OrderKept : List Reading → List Reading → Type 0
OrderKept before [] = Unit {0}
OrderKept before (r ∷ rs) = (keeps_order before r ≡ true) × OrderKept (before ++ r ∷ []) rs

abbrev pub ServerKept : NamedServer → List Reading → List Reading → Type 0
ServerKept s before [] = Unit {0}
ServerKept s before (r ∷ rs) = (broken_for before r s ≡ None) × ServerKept s (before ++ r ∷ []) rs

abbrev pub AllKept : List NamedServer → List Reading → List Reading → Type 0
AllKept servers before [] = Unit {0}
AllKept servers before (r ∷ rs) = (broken_for_any before r servers ≡ None) × AllKept servers (before ++ r ∷ []) rs

-- each of them
abbrev pub EachOf : (NamedServer → Type 0) → List NamedServer → Type 0
EachOf Law [] = Unit {0}
EachOf Law (s ∷ servers) = Law s × EachOf Law servers

pub each_of : (A B : NamedServer → Type 0) → ((s : NamedServer) → A s → B s) → (servers : List NamedServer) → EachOf A servers → EachOf B servers
each_of A B f [] h = tt
each_of A B f (s ∷ servers) h = (f s h.0, each_of A B f servers h.1)

none_least : (a b : Option ℕ) → a ≡ None → b ≡ None → least a b ≡ None
none_least a b p q = rw (p, q) refl

none_for_any : (before : List Reading) (r : Reading) (servers : List NamedServer) → EachOf (λ (s : NamedServer). broken_for before r s ≡ None) servers → broken_for_any before r servers ≡ None
none_for_any before r [] h = refl
none_for_any before r (s ∷ servers) h = none_least (broken_for before r s) (broken_for_any before r servers) h.0 (none_for_any before r servers h.1)

pub all_kept : (servers : List NamedServer) (before rs : List Reading) → EachOf (λ (s : NamedServer). ServerKept s before rs) servers → AllKept servers before rs
all_kept servers before [] h = tt
all_kept servers before (r ∷ rs) h = (
  none_for_any before r servers (each_of (λ (s : NamedServer). ServerKept s before (r ∷ rs)) (λ (s : NamedServer). broken_for before r s ≡ None) (λ s k. k.0) servers h),
  all_kept servers (before ++ r ∷ []) rs (each_of (λ (s : NamedServer). ServerKept s before (r ∷ rs)) (λ (s : NamedServer). ServerKept s (before ++ r ∷ []) rs) (λ s k. k.1) servers h),
)

pub none_found : (servers : List NamedServer) (before rs : List Reading) (line : ℕ) → OrderKept before rs → AllKept servers before rs → broken_behind servers (before ++ rs) ≡ None → breach_from servers before line (map Some rs) ≡ None
none_found servers before [] line o k e = ap (λ (b : Option ℕ). breach_of b line None) (subst (λ (rs : List Reading). broken_behind servers rs ≡ None) (none_more before) e)
none_found servers before (r ∷ rs) line o k e =
    let rest = none_found servers (before ++ r ∷ []) rs (line + 1) o.1 k.1 (subst (λ (xs : List Reading). broken_behind servers xs ≡ None) (sym (append_assoc before (r ∷ []) rs)) e) in
    let none : broken_by_reading servers before (Some r) ≡ None = ap (λ (b : Bool). if_broken b 1 (broken_for_any before r servers)) o.0 ∙ k.0 in
    ap (λ (b : Option ℕ). breach_of b line (breach_from servers (before ++ r ∷ []) (line + 1) (map Some rs))) none ∙ rest

pub server_both : (s : NamedServer) (before xs ys : List Reading) → ServerKept s before xs → ServerKept s (before ++ xs) ys → ServerKept s before (xs ++ ys)
server_both s before [] ys h k = subst (λ (b : List Reading). ServerKept s b ys) (none_more before) k
server_both s before (x ∷ xs) ys h k = (h.0, server_both s (before ++ x ∷ []) xs ys h.1 (subst (λ (b : List Reading). ServerKept s b ys) (sym (append_assoc before (x ∷ []) xs)) k))

pub order_both : (before xs ys : List Reading) → OrderKept before xs → OrderKept (before ++ xs) ys → OrderKept before (xs ++ ys)
order_both before [] ys h k = subst (λ (b : List Reading). OrderKept b ys) (none_more before) k
order_both before (x ∷ xs) ys h k = (h.0, order_both (before ++ x ∷ []) xs ys h.1 (subst (λ (b : List Reading). OrderKept b ys) (sym (append_assoc before (x ∷ []) xs)) k))

-- ---- lines that close nothing

abbrev pub NoClosing : List Reading → Type 0
NoClosing [] = Unit {0}
NoClosing (r ∷ rs) = (is_closing r.form ≡ false) × NoClosing rs

marks_last : (name : List ℕ) (before : List Reading) (r : Reading) → marks_of name (before ++ r ∷ []) ≡ marks_of name before ++ mark_of name r ∷ []
marks_last name before r = map_more (mark_of name) before (r ∷ [])

pub timed_kept : (s : NamedServer) (before rs : List Reading) → NoClosing rs → NoneBreaks s.limits (marks_of s.name before) (marks_of s.name rs) → ServerKept s before rs
timed_kept s before [] n h = tt
timed_kept s before (r ∷ rs) n h = (
  ap (λ (b : Bool). if b then if_broken (keeps_end s before r) 6 None else broken_by s.limits (marks_of s.name before) (mark_of s.name r)) n.0 ∙ h.0,
  timed_kept s (before ++ r ∷ []) rs n.1 (subst (λ (ms : List Mark). NoneBreaks s.limits ms (marks_of s.name rs)) (sym (marks_last s.name before r)) h.1),
)

-- ---- a closing line says nothing of the thread's ticks

abbrev pub blank : Mark
blank = record { time = 0; saying = nothing }

plus_none : (n : ℕ) → n + 0 ≡ n
plus_none n = omega arith

module _ (s : Limits) (ms : List Mark) where
  over_blank : (y : ℕ) → is_over y (ms ++ blank ∷ []) ≡ is_over y ms
  over_blank y = any_more (λ (m : Mark). nat_lt y m.time) ms blank ∙ (let never : nat_lt y 0 ≡ false = grind arith in ap (λ (b : Bool). is_over y ms || b) never) ∙ or_none (is_over y ms)

  first_time : (y : ℕ) → nat_le 0 y ≡ true
  first_time y = grind arith

  has_blank : (y : ℕ) → has_at y false (ms ++ blank ∷ []) ≡ has_at y false ms
  has_blank y = has_more y false ms blank ∙ ap (λ (b : Bool). if b then has_at y false ms else has_at y false ms) (first_time y)

  up_blank : (y : ℕ) (count : Saying → ℕ) → count nothing ≡ 0 → up_to y count (ms ++ blank ∷ []) ≡ up_to y count ms
  up_blank y count e = up_more y count ms blank ∙ ap (λ (n : ℕ). up_to y count ms + counted_if (nat_le 0 y) n) e ∙ ap (λ (b : Bool). up_to y count ms + counted_if b 0) (first_time y) ∙ plus_none (up_to y count ms)

  pub all_blank : (count : Saying → ℕ) → count nothing ≡ 0 → in_all count (ms ++ blank ∷ []) ≡ in_all count ms
  all_blank count e = all_more count ms blank ∙ ap (λ (n : ℕ). in_all count ms + n) e ∙ plus_none (in_all count ms)

  ran_blank : (y : ℕ) → ran (ms ++ blank ∷ []) y ≡ ran ms y
  ran_blank y = rw (over_blank y, has_blank y) refl

  pub ran_before_blank : (n : ℕ) → ran_before (ms ++ blank ∷ []) n ≡ ran_before ms n
  ran_before_blank zero = refl
  ran_before_blank (suc x) = ap (λ (k : ℕ). k + counted_if (ran (ms ++ blank ∷ []) x) 1) (ran_before_blank x) ∙ ap (λ (b : Bool). ran_before ms x + counted_if b 1) (ran_blank x)

  high_blank : (y high : ℕ) → is_high s (ms ++ blank ∷ []) y high ≡ is_high s ms y high
  high_blank y high = rw (over_blank y, has_blank y, up_blank y amount_refilled refl, up_blank y one_plan refl, up_blank y one_refill refl) refl

  pub high_before_blank : (n : ℕ) → high_before s (ms ++ blank ∷ []) n ≡ high_before s ms n
  high_before_blank zero = refl
  high_before_blank (suc x) = ap (and_tick s (ms ++ blank ∷ []) x) (high_before_blank x) ∙ ap (λ (b : Bool). high_before s ms x + counted_if b 1) (high_blank x (high_before s ms x))

  pub lives_blank : lives_in (ms ++ blank ∷ []) ≡ lives_in ms
  lives_blank = rw (any_more (λ (m : Mark). is_begin m.saying) ms blank ∙ or_none (has_started ms), any_more (λ (m : Mark). is_exit m.saying) ms blank ∙ or_none (has_exited ms)) refl
