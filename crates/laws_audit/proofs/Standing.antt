-- The account of a thread at a point of a turn: the replay of all that happened, up to the instant of the machine.
use Rattle.std.proofs.Common.{Bool, List, None, Option, [], ap, arith, false, refl, suc, sym, true, ℕ, ◌+◌, ◌≤◌, ◌∷◌, ◌++◌, ◌≡◌}
use Rattle.std.specs.Prelude.{map, not, is_some, ◌-◌, ◌&&◌, ◌||◌}
use Rattle.std.specs.List.{list_any}
use mathlib.Core.Path.{subst, ◌∙◌}
use Rattle.words_trace.specs.declared.event.Event.{Event}
use Rattle.words_trace.specs.Text.{Entry}
use Rattle.rules_machine.specs.declared.dispatch.LastDispatch.{LastDispatch}
use Rattle.tool_audit.specs.declared.server.Limits.{Limits}
use Rattle.tool_audit.specs.Marks.{Mark, Saying, begins, is_given, is_taken, is_activated, exhausts, is_planned, is_refilled, exits, nothing}
use Rattle.tool_audit.specs.Replay.{Account, advanced, after_mark, after_saying, Rising, breaks, broken_now, keeps_all, replayed, tick, ticks}
use Rattle.laws_audit.specs.Events.{is_end_event, is_ran, mark_by, marks_by, said_by}

map_more : {X Y : Type 0} (f : X → Y) (xs ys : List X) → map f (xs ++ ys) ≡ map f xs ++ map f ys
map_more f [] ys = refl
map_more f (x ∷ xs) ys = ap (λ zs. f x ∷ zs) (map_more f xs ys)

either_way : (a b c : Bool) → (a && (b && c)) ≡ ((a && b) && c)
either_way a b c = grind arith

pub replayed_more : (s : Limits) (a : Account) (ms ns : List Mark) → replayed s a (ms ++ ns) ≡ replayed s (replayed s a ms) ns
replayed_more s a [] ns = refl
replayed_more s a (m ∷ ms) ns = replayed_more s (after_mark s a m) ms ns

pub keeps_more : (s : Limits) (a : Account) (ms ns : List Mark) → keeps_all s a (ms ++ ns) ≡ (keeps_all s a ms && keeps_all s (replayed s a ms) ns)
keeps_more s a [] ns = refl
keeps_more s a (m ∷ ms) ns =
    ap (λ (b : Bool). not (is_some (breaks s a m)) && b) (keeps_more s (after_mark s a m) ms ns)
    ∙ either_way (not (is_some (breaks s a m))) (keeps_all s (after_mark s a m) ms) (keeps_all s (replayed s (after_mark s a m) ms) ns)

pub rising_more : (s : Limits) (a : Account) (ms : List Mark) (m : Mark) → Rising s a ms → (replayed s a ms).now ≤ m.time → Rising s a (ms ++ m ∷ [])
rising_more s a [] m up le = (le, tt)
rising_more s a (n ∷ ms) m up le = (up.0, rising_more s (after_mark s a n) ms m up.1 le)

pub rising_both : (s : Limits) (a : Account) (ms ns : List Mark) → Rising s a ms → Rising s (replayed s a ms) ns → Rising s a (ms ++ ns)
rising_both s a [] ns up more = more
rising_both s a (m ∷ ms) ns up more = (up.0, rising_both s (after_mark s a m) ms ns up.1 more)

or_false : (b : Bool) → (b || false) ≡ b
or_false b = grind arith

either : (a b c : Bool) → (a || (b || c)) ≡ ((a || b) || c)
either a b c = grind arith

pub any_both : {X : Type 0} (p : X → Bool) (xs ys : List X) → list_any p (xs ++ ys) ≡ (list_any p xs || list_any p ys)
any_both p [] ys = refl
any_both p (x ∷ xs) ys = ap (λ (b : Bool). p x || b) (any_both p xs ys) ∙ either (p x) (list_any p xs) (list_any p ys)

abbrev pub has_end : List Entry → Bool
has_end es = list_any (λ (e : Entry). is_end_event e.event) es

pub saying_now : (a : Account) (w : Saying) → (after_saying a w).now ≡ a.now
saying_now a begins = refl
saying_now a is_given = refl
saying_now a is_taken = refl
saying_now a (is_activated c) = refl
saying_now a exhausts = refl
saying_now a (is_planned n d) = refl
saying_now a (is_refilled n c) = refl
saying_now a exits = refl
saying_now a nothing = refl

-- an account that is at the instant stays
pub stays : (s : Limits) (time : ℕ) (a : Account) → a.now ≡ time → advanced s time a ≡ a
stays s time a e = let none : time - a.now ≡ 0 = omega arith in ap (λ (k : ℕ). ticks s k a) none

pub one_later : (s : Limits) (time : ℕ) (a : Account) → a.now ≤ time → advanced s (time + 1) a ≡ tick s (advanced s time a)
one_later s time a e = let one : time + 1 - a.now ≡ suc (time - a.now) = omega arith in ap (λ (k : ℕ). ticks s k a) one

module _ (t : ℕ) (s : Limits) (a : Account) where
  -- b is the account at an instant, after these events
  pub record Stands (es : List Entry) (now : ℕ) (last : LastDispatch) (b : Account) : Type 0 where
    pub kept : keeps_all s a (marks_by t es) ≡ true
    pub early : (replayed s a (marks_by t es)).now ≤ now
    pub is : advanced s now (replayed s a (marks_by t es)) ≡ b
    pub has : b.has ≡ is_ran last t
    pub rising : Rising s a (marks_by t es)
    pub unended : has_end es ≡ false

  -- what is told leaves it unbroken; the thread may be dispatched by it, or another
  pub told_stands : (es : List Entry) (now : ℕ) (last last' : LastDispatch) (e : Event) (w : Saying) (b : Account) → is_end_event e ≡ false → said_by t e ≡ w → b.now ≡ now → broken_now s b w ≡ None → (after_saying b w).has ≡ is_ran last' t →
      Stands es now last b → Stands (es ++ record { time = now; event = e } ∷ []) now last' (after_saying b w)
  told_stands es now last last' e w b plain said at none has h =
      let entry : Entry = record { time = now; event = e } in
      let ms = marks_by t es in
      let before = replayed s a ms in
      let more : marks_by t (es ++ entry ∷ []) ≡ ms ++ mark_by t entry ∷ [] = map_more (mark_by t) es (entry ∷ []) in
      let same : replayed s a (marks_by t (es ++ entry ∷ [])) ≡ after_saying b w =
      ap (replayed s a) more ∙ replayed_more s a ms (mark_by t entry ∷ []) ∙ ap (λ (c : Account). after_saying c (said_by t e)) h.is ∙ ap (after_saying b) said in
      let unbroken : breaks s before (mark_by t entry) ≡ None = ap (λ (c : Account). broken_now s c (said_by t e)) h.is ∙ ap (broken_now s b) said ∙ none in
      let now' = saying_now b w in
      record {
        kept = ap (keeps_all s a) more ∙ keeps_more s a ms (mark_by t entry ∷ []) ∙ ap (λ (c : Bool). c && (not (is_some (breaks s before (mark_by t entry))) && true)) h.kept ∙ ap (λ (o : Option ℕ). not (is_some o) && true) unbroken;
        early = subst (λ (c : Account). c.now ≤ now) (sym same) (omega arith);
        is = ap (advanced s now) same ∙ stays s now (after_saying b w) (now' ∙ at);
        has = has;
        rising = subst (Rising s a) (sym more) (rising_more s a ms (mark_by t entry) h.rising h.early);
        unended = any_both (λ (x : Entry). is_end_event x.event) es (entry ∷ []) ∙ ap (λ (c : Bool). c || (is_end_event e || false)) h.unended ∙ ap (λ (c : Bool). c || false) plain;
      }

  -- one instant later
  pub later_stands : (es : List Entry) (now : ℕ) (last : LastDispatch) (b : Account) → Stands es now last b → Stands es (now + 1) last (tick s b)
  later_stands es now last b h = record {
    kept = h.kept;
    early = let old = h.early in omega arith;
    is = one_later s now (replayed s a (marks_by t es)) h.early ∙ ap (tick s) h.is;
    has = h.has;
    rising = h.rising;
    unended = h.unended;
  }
