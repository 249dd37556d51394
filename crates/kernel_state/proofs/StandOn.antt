-- The threads that are not named stand right, through every change.
use Rattle.std.proofs.Common.{◌≡◌, ◌≢◌, ◌<◌, ◌≤◌, inl, inr, ◌+◌, ◌-◌, ◌∙◌, ℕ, zero, suc, Bool, true, false, List, [], ◌∷◌, None, Option, Some, ap, arith, length, refl, sym}
use Rattle.std.specs.Prelude.{IfSome, MatchOption, replicate}
use Rattle.std.proofs.lemmas.Bool.Decides.{eqb_tells}
use Rattle.rules_bodies.specs.declared.cursor.Cursor.{Cursor}
use Rattle.rules_lists.specs.Lists.{empty_lists, prio_from, prio_of, to_head, to_tail, without}
use Rattle.rules_machine.specs.Lists.{changed_at, is}
use Rattle.rules_machine.specs.State.{Thread}
use Rattle.rules_machine.specs.Threads.{is_runnable, no_thread, thread_in}
use Rattle.rules_machine.proofs.Standing.{head_length, tail_length, without_length}
use Rattle.kernel_table.specs.Movers.{IsFree}
use Rattle.kernel_table.specs.Table.{Table, exec, thread_at, with_thread}
use Rattle.kernel_table.proofs.ToldMoves.{runs_free}
use Rattle.parts_bits.specs.Sets.{HasNoneFrom, IsFirstFrom, Turns, has}
use Rattle.kernel_state.specs.Members.{TakesIn}
use Rattle.kernel_state.specs.Standing.{OthersStand, ComesNext, StandsRight}
use Rattle.kernel_state.proofs.OnLists.{gone, gone_apart, head_apart, head_there, tail_apart, tail_there}
use Rattle.kernel_state.proofs.Waits.{runs_known, running_waits}

-- ---- names

not_both : {X : Type 0} (b : Bool) → b ≡ true → b ≡ false → X
not_both b on off = absurd (let e : true ≡ false = sym on ∙ off in cc)

-- a thread that is not named now was not named before, and is not the one that came in
pub still_out : (t u : ℕ) (before after : List ℕ) → Turns t true before after → has u after ≡ false → (has u before ≡ false) × (u ≢ t)
still_out t u before after turns out =
    let other : u ≢ t = (λ (e : u ≡ t). not_both (has u after) (rw e turns.itself) out) in
    (sym (turns.others u other) ∙ out, other)

pub both_out : (o : Option ℕ) (u : ℕ) (before after : List ℕ) → TakesIn o before after → has u after ≡ false → (has u before ≡ false) × (is o u ≡ false)
both_out None u before after takes out = (rw takes at out, refl)
both_out (Some t) u before after takes out =
    let h = still_out t u before after takes out in
    let other = h.1 in
    (h.0, grind (arith, other))

pub turned_known : (t n : ℕ) (before after : List ℕ) → Turns t true before after → t < n → ((u : ℕ) → has u before ≡ true → u < n) → (u : ℕ) → has u after ≡ true → u < n
turned_known t n before after turns lt known u here = elim (eqb_tells u t) [
  | inl same ↦ rw same.1 lt
  | inr other ↦ known u (sym (turns.others u other.1) ∙ here)
]

pub taken_known : (o : Option ℕ) (n : ℕ) (before after : List ℕ) → TakesIn o before after → IfSome o (λ t. t < n) → ((u : ℕ) → has u before ≡ true → u < n) → (u : ℕ) → has u after ≡ true → u < n
taken_known None n before after takes lt known u here = known u (rw takes at here)
taken_known (Some t) n before after takes lt known u here = turned_known t n before after takes lt known u here

-- ---- one thread is put somewhere

pub put_right : (bits after : List ℕ) (table : Table) (lists new : List (List ℕ)) (t : ℕ) → OthersStand bits table lists → Turns t false bits after → length new ≡ length lists →
    ((u : ℕ) → u ≢ t → prio_of u new ≡ prio_of u lists) → StandsRight table new t → OthersStand after table new
put_right bits after table lists new t are turns long same right = record {
  every = long ∙ are.every;
  known = λ u here. (let other : u ≢ t = (λ (e : u ≡ t). not_both (has u after) here (rw e turns.itself)) in are.known u (sym (turns.others u other) ∙ here));
  others = λ u out. elim (eqb_tells u t) [
    | inl it ↦ rw it.1 right
    | inr other ↦ (let was = are.others u (sym (turns.others u other.1) ∙ out) in record {
      runs = λ p e. was.runs p (sym (same u other.1) ∙ e);
      there = λ p e. was.there p (sym (same u other.1) ∙ e);
    })
  ];
}

some_same : (p q : ℕ) → Some p ≡ Some q → p ≡ q
some_same p q e = cc

home : (table : Table) (lists : List (List ℕ)) (t : ℕ) → is_runnable (thread_at table t).status ≡ true → prio_of t lists ≡ Some (exec table t) → StandsRight table lists t
home table lists t runs at = record {
  runs = λ p e. runs;
  there = λ p e. some_same (exec table t) p (sym at ∙ e);
}

nowhere : (table : Table) (lists : List (List ℕ)) (t : ℕ) → prio_of t lists ≡ None → StandsRight table lists t
nowhere table lists t at = record {
  runs = λ p e. absurd (let h : None ≡ Some p = sym at ∙ e in cc);
  there = λ p e. absurd (let h : None ≡ Some p = sym at ∙ e in cc);
}

module _ (bits after : List ℕ) (table : Table) (lists : List (List ℕ)) (t : ℕ) (are : OthersStand bits table lists) (turns : Turns t false bits after) where
  pub put_tail : (p : ℕ) → p ≡ exec table t → 1 ≤ p → p ≤ 255 → is_runnable (thread_at table t).status ≡ true → OthersStand after table (to_tail t p lists)
  put_tail p is some small runs =
      let fits : p - 1 < length lists = omega (arith, some, small, are.every) in
      put_right bits after table lists (to_tail t p lists) t are turns (tail_length t p lists) (λ u other. tail_apart t u p lists fits other)
      (home table (to_tail t p lists) t runs (tail_there t p lists some fits ∙ ap (λ (n : ℕ). Some n) is))

  pub put_head : (p : ℕ) → p ≡ exec table t → 1 ≤ p → p ≤ 255 → is_runnable (thread_at table t).status ≡ true → OthersStand after table (to_head t p lists)
  put_head p is some small runs =
      let fits : p - 1 < length lists = omega (arith, some, small, are.every) in
      put_right bits after table lists (to_head t p lists) t are turns (head_length t p lists) (λ u other. head_apart t u p lists fits other)
      (home table (to_head t p lists) t runs (head_there t p lists some fits ∙ ap (λ (n : ℕ). Some n) is))

  pub taken_off : OthersStand after table (without t lists)
  taken_off =
      put_right bits after table lists (without t lists) t are turns (without_length t lists) (λ u other. gone_apart t u lists other) (nowhere table (without t lists) t (gone t lists))

  pub forgotten : StandsRight table lists t → OthersStand after table lists
  forgotten right = put_right bits after table lists lists t are turns refl (λ u other. refl) right

-- it is named as before
pub kept_tail : (bits : List ℕ) (table : Table) (lists : List (List ℕ)) (t : ℕ) → OthersStand bits table lists → (p : ℕ) → p ≡ exec table t → 1 ≤ p → p ≤ 255 →
    is_runnable (thread_at table t).status ≡ true → OthersStand bits table (to_tail t p lists)
kept_tail bits table lists t are p is some small runs =
    let fits : p - 1 < length lists = omega (arith, some, small, are.every) in
    record {
      every = tail_length t p lists ∙ are.every;
      known = are.known;
      others = λ u out. elim (eqb_tells u t) [
        | inl it ↦ rw it.1 (home table (to_tail t p lists) t runs (tail_there t p lists some fits ∙ ap (λ (n : ℕ). Some n) is))
        | inr other ↦ (let was = are.others u out in record {
          runs = λ q e. was.runs q (sym (tail_apart t u p lists fits other.1) ∙ e);
          there = λ q e. was.there q (sym (tail_apart t u p lists fits other.1) ∙ e);
        })
      ];
    }

-- ---- threads and mutexes change

pub stand_on : (old new : Table) (lists : List (List ℕ)) (before after : List ℕ) →
    ((t : ℕ) → has t after ≡ true → t < length new.threads) →
    ((t : ℕ) → has t after ≡ false → has t before ≡ false) →
    ((t : ℕ) → has t after ≡ false → is_runnable (thread_at old t).status ≡ true → is_runnable (thread_at new t).status ≡ true) →
    ((t : ℕ) → has t after ≡ false → IsFree new t → exec new t ≡ exec old t) →
    OthersStand before old lists → OthersStand after new lists
stand_on old new lists before after known still runs same are = record {
  every = are.every;
  known = known;
  others = λ t out.
      let was = are.others t (still t out) in
      let on : (p : ℕ) → prio_of t lists ≡ Some p → is_runnable (thread_at new t).status ≡ true = (λ (p : ℕ) (e : prio_of t lists ≡ Some p). runs t out (was.runs p e)) in
      record {
        runs = on;
        there = λ p e. same t out (runs_free new t (runs_known new.threads t (on p e)) (running_waits (thread_at new t).status (on p e))) ∙ was.there p e;
      };
}

-- a thread that can run goes on so
abbrev pub RunOn : Table → Table → Type 0
RunOn old new = (t : ℕ) → is_runnable (thread_at old t).status ≡ true → is_runnable (thread_at new t).status ≡ true

pub run_on : (old : Table) (t : ℕ) (f : Thread Cursor → Thread Cursor) → ((th : Thread Cursor) → is_runnable th.status ≡ true → is_runnable (f th).status ≡ true) → RunOn old (with_thread t f old)
run_on old t f keeps u runs = each old.threads t u runs
  where
    each : (ths : List (Thread Cursor)) (t u : ℕ) → is_runnable (thread_in ths u).status ≡ true → is_runnable (thread_in (changed_at no_thread t f ths) u).status ≡ true
    each [] t u runs = runs
    each (x ∷ xs) zero zero runs = keeps x runs
    each (x ∷ xs) zero (suc u) runs = runs
    each (x ∷ xs) (suc t) zero runs = runs
    each (x ∷ xs) (suc t) (suc u) runs = each xs t u runs

-- ---- which of them come next

pub next_is : (bits : List ℕ) (from : ℕ) (table : Table) (lists : List (List ℕ)) (r : Option ℕ) → OthersStand bits table lists → MatchOption r (HasNoneFrom from bits) (λ t. IsFirstFrom from bits t) →
    MatchOption r ((t : ℕ) → from ≤ t → StandsRight table lists t) (λ t. ComesNext table lists from t)
next_is bits from table lists None are none = λ t low. are.others t (none t low)
next_is bits from table lists (Some t) are first = record {
  low = first.low;
  known = are.known t first.itself;
  between = λ u low small. are.others u (first.between u low small);
}

pub next_known : (bits : List ℕ) (from n : ℕ) (table : Table) (lists : List (List ℕ)) (r : Option ℕ) → n ≡ length table.threads → OthersStand bits table lists →
    MatchOption r (HasNoneFrom from bits) (λ t. IsFirstFrom from bits t) → IfSome r (λ t. t < n)
next_known bits from n table lists None same are none = tt
next_known bits from n table lists (Some t) same are first = let lt = are.known t first.itself in omega (arith, same, lt)

-- ---- at the beginning

abbrev none : List ℕ
none = []

reads_nowhere : (q t n : ℕ) → prio_from q t (replicate n none) ≡ None
reads_nowhere q t zero = refl
reads_nowhere q t (suc n) = reads_nowhere (q + 1) t n

-- all lists are empty, and nobody is named
pub none_named_at_first : (bits : List ℕ) (table : Table) → ((t : ℕ) → has t bits ≡ false) → OthersStand bits table empty_lists
none_named_at_first bits table out = record {
  every = refl;
  known = λ t here. not_both (has t bits) here (out t);
  others = λ t off. nowhere table empty_lists t (reads_nowhere 1 t 255);
}
