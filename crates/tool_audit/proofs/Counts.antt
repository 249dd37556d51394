-- What is counted over lines: that a line more leaves what is below its time, and that all is counted where all lines are.
use Rattle.std.proofs.Common.{Bool, List, Option, [], ap, arith, false, refl, suc, true, zero, ℕ, ◌+◌, ◌<◌, ◌≤◌, ◌∷◌, ◌++◌, ◌≡◌, ◌∙◌}
use Rattle.std.specs.Prelude.{map, not, nat_le, nat_lt, ◌==◌, ◌&&◌, ◌||◌}
use Rattle.std.specs.List.{sum, list_any}
use Rattle.std.proofs.lemmas.List.Sums.{sum_by-append}
use Rattle.tool_audit.specs.Server.{Limits}
use Rattle.tool_audit.specs.Marks.{Mark, Saying}
use Rattle.tool_audit.specs.Ticks.{amount_refilled, and_tick, could_be_high, counted_if, has_after, has_at, has_if, high_before, in_all, is_high, is_over, one_plan, one_refill, ran, ran_before, up_to, was_high}
use Rattle.tool_audit.specs.Rules.{active_after, active_since, leaves_owing, one_owes, settles, settles_at}

-- ---- one line more

pub map_more : {X Y : Type 0} (f : X → Y) (xs ys : List X) → map f (xs ++ ys) ≡ map f xs ++ map f ys
map_more f [] ys = refl
map_more f (x ∷ xs) ys = ap (λ zs. f x ∷ zs) (map_more f xs ys)

pub sum_more : (ns : List ℕ) (n : ℕ) → sum (ns ++ n ∷ []) ≡ sum ns + n
sum_more ns n = let all = sum_by-append (λ (x : ℕ). x) ns (n ∷ []) in omega arith

or_none : (b : Bool) → (b || false) ≡ b
or_none b = grind arith

either_way : (a b c : Bool) → (a || (b || c)) ≡ ((a || b) || c)
either_way a b c = grind arith

pub any_more : {X : Type 0} (p : X → Bool) (xs : List X) (x : X) → list_any p (xs ++ x ∷ []) ≡ (list_any p xs || p x)
any_more p [] x = or_none (p x)
any_more p (y ∷ ys) x = ap (λ (b : Bool). p y || b) (any_more p ys x) ∙ either_way (p y) (list_any p ys) (p x)

pub all_more : (count : Saying → ℕ) (ms : List Mark) (m : Mark) → in_all count (ms ++ m ∷ []) ≡ in_all count ms + count m.saying
all_more count ms m = ap sum (map_more (λ (x : Mark). count x.saying) ms (m ∷ [])) ∙ sum_more (map (λ (x : Mark). count x.saying) ms) (count m.saying)

pub up_more : (x : ℕ) (count : Saying → ℕ) (ms : List Mark) (m : Mark) → up_to x count (ms ++ m ∷ []) ≡ up_to x count ms + counted_if (nat_le m.time x) (count m.saying)
up_more x count ms m =
    ap sum (map_more (λ (y : Mark). counted_if (nat_le y.time x) (count y.saying)) ms (m ∷ [])) ∙ sum_more (map (λ (y : Mark). counted_if (nat_le y.time x) (count y.saying)) ms) (counted_if (nat_le m.time x) (count m.saying))

pub has_more : (x : ℕ) (was : Bool) (ms : List Mark) (m : Mark) → has_at x was (ms ++ m ∷ []) ≡ has_if (nat_le m.time x) m.saying (has_at x was ms)
has_more x was [] m = refl
has_more x was (n ∷ ms) m = has_more x (has_if (nat_le n.time x) n.saying was) ms m

pub active_more : (was : Option ℕ) (ms : List Mark) (m : Mark) → active_since was (ms ++ m ∷ []) ≡ active_after m.time m.saying (active_since was ms)
active_more was [] m = refl
active_more was (n ∷ ms) m = active_more (active_after n.time n.saying was) ms m

later_time : (x time : ℕ) → x < time → nat_le time x ≡ false
later_time x time h = grind arith

pub up_same : (x : ℕ) (count : Saying → ℕ) (ms : List Mark) (m : Mark) → x < m.time → up_to x count (ms ++ m ∷ []) ≡ up_to x count ms
up_same x count ms m h = up_more x count ms m ∙ (ap (λ (b : Bool). up_to x count ms + counted_if b (count m.saying)) (later_time x m.time h) ∙ plus_none (up_to x count ms))
  where
    plus_none : (n : ℕ) → n + 0 ≡ n
    plus_none n = omega arith

pub has_same : (x : ℕ) (ms : List Mark) (m : Mark) → x < m.time → has_at x false (ms ++ m ∷ []) ≡ has_at x false ms
has_same x ms m h = has_more x false ms m ∙ ap (λ (b : Bool). has_if b m.saying (has_at x false ms)) (later_time x m.time h)

could_same : (s : Limits) (x high : ℕ) (ms : List Mark) (m : Mark) → x < m.time → could_be_high s (ms ++ m ∷ []) x high ≡ could_be_high s ms x high
could_same s x high ms m h = rw (up_same x amount_refilled ms m h, up_same x one_plan ms m h, up_same x one_refill ms m h) refl

-- ---- the counts without the test that a line of a later time is there

abbrev pub free_high : Limits → List Mark → ℕ → ℕ → Bool
free_high s ms x high = has_at x false ms && could_be_high s ms x high

abbrev pub free_tick : Limits → List Mark → ℕ → ℕ → ℕ
free_tick s ms x high = high + counted_if (free_high s ms x high) 1

abbrev pub free_before : Limits → List Mark → ℕ → ℕ
free_before s ms zero = 0
free_before s ms (suc x) = free_tick s ms x (free_before s ms x)

abbrev pub free_ran : List Mark → ℕ → ℕ
free_ran ms zero = 0
free_ran ms (suc x) = free_ran ms x + counted_if (has_at x false ms) 1

abbrev pub free_was : Limits → List Mark → ℕ → Bool
free_was s ms x = free_high s ms x (free_before s ms x)

abbrev pub free_leaves : Limits → List Mark → ℕ → Bool
free_leaves s ms x = free_was s ms x && (free_before s ms (suc x) == s.budget + up_to x amount_refilled ms && not (settles_at (suc x) ms))

abbrev pub free_ends : Limits → List Mark → ℕ → Bool
free_ends s ms zero = false
free_ends s ms (suc x) = free_was s ms x

abbrev pub free_owes : Limits → List Mark → ℕ → Bool
free_owes s ms zero = false
free_owes s ms (suc x) = free_leaves s ms x

abbrev pub free_one_owes : Limits → List Mark → ℕ → Bool
free_one_owes s ms zero = false
free_one_owes s ms (suc n) = free_one_owes s ms n || free_leaves s ms n

same_owing : (n : ℕ) {a b : Bool} {h k x y : ℕ} {c d : Bool} → a ≡ b → h ≡ k → x ≡ y → c ≡ d → (a && (h == n + x && not c)) ≡ (b && (k == n + y && not d))
same_owing n p q r t = cc

module _ (s : Limits) (ms : List Mark) (m : Mark) where
  high_same : (x high : ℕ) → x < m.time → free_high s (ms ++ m ∷ []) x high ≡ free_high s ms x high
  high_same x high h = rw (has_same x ms m h, could_same s x high ms m h) refl

  -- what is below the time of a line is as it was before it
  pub before_same : (x : ℕ) → x ≤ m.time → free_before s (ms ++ m ∷ []) x ≡ free_before s ms x
  before_same zero h = refl
  before_same (suc x) h =
      let old = before_same x (omega arith) in
      ap (free_tick s (ms ++ m ∷ []) x) old ∙ ap (λ (b : Bool). free_before s ms x + counted_if b 1) (high_same x (free_before s ms x) (omega arith))

  pub ran_same : (x : ℕ) → x ≤ m.time → free_ran (ms ++ m ∷ []) x ≡ free_ran ms x
  ran_same zero h = refl
  ran_same (suc x) h =
      let old = ran_same x (omega arith) in
      ap (λ (n : ℕ). n + counted_if (has_at x false (ms ++ m ∷ [])) 1) old ∙ ap (λ (b : Bool). free_ran ms x + counted_if b 1) (has_same x ms m (omega arith))

  pub was_same : (x : ℕ) → x < m.time → free_was s (ms ++ m ∷ []) x ≡ free_was s ms x
  was_same x h = ap (free_high s (ms ++ m ∷ []) x) (before_same x (omega arith)) ∙ high_same x (free_before s ms x) h

  settles_more : (x : ℕ) → settles_at x (ms ++ m ∷ []) ≡ (settles_at x ms || (m.time == x && settles m.saying))
  settles_more x = any_more (λ (n : Mark). n.time == x && settles n.saying) ms m

  pub leaves_same : (x : ℕ) → suc x < m.time → free_leaves s (ms ++ m ∷ []) x ≡ free_leaves s ms x
  leaves_same x h =
      let other : (m.time == suc x) ≡ false = grind arith in
      let same : settles_at (suc x) (ms ++ m ∷ []) ≡ settles_at (suc x) ms = settles_more (suc x) ∙ ap (λ (b : Bool). settles_at (suc x) ms || (b && settles m.saying)) other ∙ or_none (settles_at (suc x) ms) in
      same_owing s.budget (was_same x (omega arith)) (before_same (suc x) (omega arith)) (up_same x amount_refilled ms m (omega arith)) same

  -- where a high tick ended at its time, the line may settle what is owed
  pub leaves_now : (x : ℕ) → suc x ≡ m.time → free_leaves s (ms ++ m ∷ []) x ≡ (free_leaves s ms x && not (settles m.saying))
  leaves_now x e =
      let this : (m.time == suc x) ≡ true = grind arith in
      let same : settles_at (suc x) (ms ++ m ∷ []) ≡ (settles_at (suc x) ms || settles m.saying) = settles_more (suc x) ∙ ap (λ (b : Bool). settles_at (suc x) ms || (b && settles m.saying)) this in
      same_owing s.budget (was_same x (omega arith)) (before_same (suc x) (omega arith)) (up_same x amount_refilled ms m (omega arith)) same
      ∙ (regroup (free_was s ms x) (free_before s ms (suc x) == s.budget + up_to x amount_refilled ms) (settles_at (suc x) ms) (settles m.saying))
    where
      regroup : (a b c d : Bool) → (a && (b && not (c || d))) ≡ ((a && (b && not c)) && not d)
      regroup a b c d = grind arith

  pub one_same : (n : ℕ) → n < m.time → free_one_owes s (ms ++ m ∷ []) n ≡ free_one_owes s ms n
  one_same zero h = refl
  one_same (suc n) h = rw (one_same n (omega arith), leaves_same n (omega arith)) refl

-- ---- the counts of the rules, where a line of a later time is there

module _ (s : Limits) (ls : List Mark) (n : ℕ) (over : (y : ℕ) → y < n → is_over y ls ≡ true) where
  high_free : (x high : ℕ) → x < n → is_high s ls x high ≡ free_high s ls x high
  high_free x high h = ap (λ (b : Bool). (b && has_at x false ls) && could_be_high s ls x high) (over x h)

  pub before_free : (x : ℕ) → x ≤ n → high_before s ls x ≡ free_before s ls x
  before_free zero h = refl
  before_free (suc x) h = ap (and_tick s ls x) (before_free x (omega arith)) ∙ ap (λ (b : Bool). free_before s ls x + counted_if b 1) (high_free x (free_before s ls x) (omega arith))

  pub ran_free : (x : ℕ) → x ≤ n → ran_before ls x ≡ free_ran ls x
  ran_free zero h = refl
  ran_free (suc x) h = ap (λ (k : ℕ). k + counted_if (ran ls x) 1) (ran_free x (omega arith)) ∙ ap (λ (b : Bool). free_ran ls x + counted_if (b && has_at x false ls) 1) (over x (omega arith))

  pub was_free : (x : ℕ) → x < n → was_high s ls x ≡ free_was s ls x
  was_free x h = ap (is_high s ls x) (before_free x (omega arith)) ∙ high_free x (free_before s ls x) h

pub is_over_last : (ms : List Mark) (m : Mark) (y : ℕ) → y < m.time → is_over y (ms ++ m ∷ []) ≡ true
is_over_last ms m y h = any_more (λ (x : Mark). nat_lt y x.time) ms m ∙ (let below : nat_lt y m.time ≡ true = grind arith in ap (λ (b : Bool). list_any (λ (x : Mark). nat_lt y x.time) ms || b) below ∙ always (list_any (λ (x : Mark). nat_lt y x.time) ms))
  where
    always : (b : Bool) → (b || true) ≡ true
    always b = grind arith

-- of a line judged behind these
module _ (s : Limits) (ms : List Mark) (m : Mark) where
  pub judged_before : (x : ℕ) → x ≤ m.time → high_before s (ms ++ m ∷ []) x ≡ free_before s ms x
  judged_before x h = before_free s (ms ++ m ∷ []) m.time (is_over_last ms m) x h ∙ before_same s ms m x h

  pub judged_was : (x : ℕ) → x < m.time → was_high s (ms ++ m ∷ []) x ≡ free_was s ms x
  judged_was x h = was_free s (ms ++ m ∷ []) m.time (is_over_last ms m) x h ∙ was_same s ms m x h

  judged_leaves : (x : ℕ) → suc x < m.time → leaves_owing s ms (ms ++ m ∷ []) x ≡ free_leaves s ms x
  judged_leaves x h = same_owing s.budget (judged_was x (omega arith)) (judged_before (suc x) (omega arith)) (up_same x amount_refilled ms m (omega arith)) refl

  pub judged_owes : (n : ℕ) → n < m.time → one_owes s ms (ms ++ m ∷ []) n ≡ free_one_owes s ms n
  judged_owes zero h = refl
  judged_owes (suc n) h = rw (judged_owes n (omega arith), judged_leaves n (omega arith)) refl

-- ---- where all lines are, all is counted

abbrev pub AllBy : ℕ → List Mark → Type 0
AllBy n [] = Unit {0}
AllBy n (m ∷ ms) = (m.time ≤ n) × AllBy n ms

pub by_more : (n : ℕ) (ms : List Mark) (m : Mark) → AllBy n ms → m.time ≤ n → AllBy n (ms ++ m ∷ [])
by_more n [] m all h = (h, tt)
by_more n (x ∷ ms) m all h = (all.0, by_more n ms m all.1 h)

pub by_later : (n k : ℕ) (ms : List Mark) → n ≤ k → AllBy n ms → AllBy k ms
by_later n k [] h all = tt
by_later n k (x ∷ ms) h all = (let old = all.0 in omega arith, by_later n k ms h all.1)

abbrev pub has_all : Bool → List Mark → Bool
has_all was [] = was
has_all was (m ∷ ms) = has_all (has_after m.saying was) ms

pub has_all_more : (was : Bool) (ms : List Mark) (m : Mark) → has_all was (ms ++ m ∷ []) ≡ has_after m.saying (has_all was ms)
has_all_more was [] m = refl
has_all_more was (x ∷ ms) m = has_all_more (has_after x.saying was) ms m

in_time : (time x : ℕ) → time ≤ x → nat_le time x ≡ true
in_time time x h = grind arith

pub has_is_all : (x : ℕ) (was : Bool) (ms : List Mark) → AllBy x ms → has_at x was ms ≡ has_all was ms
has_is_all x was [] all = refl
has_is_all x was (m ∷ ms) all =
    ap (λ (b : Bool). has_at x (has_if b m.saying was) ms) (in_time m.time x all.0) ∙ has_is_all x (has_after m.saying was) ms all.1

pub up_is_all : (x : ℕ) (count : Saying → ℕ) (ms : List Mark) → AllBy x ms → up_to x count ms ≡ in_all count ms
up_is_all x count ms all = ap sum (same ms all)
  where
    same : (ns : List Mark) → AllBy x ns → map (λ (m : Mark). counted_if (nat_le m.time x) (count m.saying)) ns ≡ map (λ (m : Mark). count m.saying) ns
    same [] k = refl
    same (m ∷ ns) k = ap (λ (b : Bool). counted_if b (count m.saying) ∷ map (λ (m : Mark). counted_if (nat_le m.time x) (count m.saying)) ns) (in_time m.time x k.0) ∙ ap (λ (zs : List ℕ). count m.saying ∷ zs) (same ns k.1)

pub none_settles : (x : ℕ) (ms : List Mark) → AllBy x ms → settles_at (suc x) ms ≡ false
none_settles x [] all = refl
none_settles x (m ∷ ms) all = let low = all.0 in let other : (m.time == suc x) ≡ false = grind arith in ap (λ (b : Bool). (b && settles m.saying) || settles_at (suc x) ms) other ∙ none_settles x ms all.1
