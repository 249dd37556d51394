-- Within a leap the facts are those of the instant behind its start, and of the start where the leap begins plainly.
use Rattle.std.proofs.Common.{Bool, List, [], ap, arith, false, refl, suc, sym, true, zero, ℕ, ◌+◌, ◌++◌, ◌<◌, ◌≤◌, ◌≡◌, ◌∷◌}
use Rattle.std.specs.Prelude.{flat_map, not, ◌-◌, ◌==◌, ◌&&◌, if◌then◌else◌, nat_lt}
use Rattle.std.specs.List.{join_with_byte, range_with_len}
use Rattle.std.specs.Str.{bytes_eq}
use mathlib.Core.Path.{subst, ◌∙◌}
use Rattle.words_script.specs.declared.decl.Decl.{Decl}
use Rattle.words_script.specs.declared.decl.Script.{Script}
use Rattle.rules_bodies.specs.Next.{Place}
use Rattle.rules_machine.specs.Bodies.{Bodies}
use Rattle.rules_machine.specs.DueItems.{instant, item_bound, next_item}
use Rattle.rules_machine.specs.Eventful.{has_item, is_eventful, next_tick_matters, unless_ended}
use Rattle.rules_machine.specs.Machine.{bodies_of, machine}
use Rattle.rules_machine.specs.Runs.{Ran, opening, ticks}
use Rattle.rules_machine.specs.State.{Machine}
use Rattle.rules_machine.specs.Turns.{Turn, turn_of}
use Rattle.rules_machine.specs.WellFormed.{IsWellFormed}
use Rattle.rules_machine.proofs.Joined.{ticks_add}
use Rattle.rules_moves.proofs.Runs.Units.{bodies_fit}
use Rattle.rules_leaps.specs.Leap.{IsLeap}
use Rattle.rules_leaps.specs.Quiet.{IsHandled, IsQuiet}
use Rattle.laws_leaps.proofs.Quiet.AnyMachine.{handled_of}
use Rattle.laws_leaps.proofs.Quiet.Runs.{charges, first_of, nothing_due, second_of}
use Rattle.laws_leaps.proofs.Quiet.Ticks.{idle_items}
use Rattle.laws_leaps.proofs.Leaps.Bounds.{more_calm, no_calm}
use Rattle.laws_leaps.proofs.Leaps.Calm.{Calm, Handled, calm_ticks, matters_after}
use Rattle.laws_leaps.proofs.Leaps.Lengths.{IsReady, is_leap}
use Rattle.laws_leaps.proofs.Leaps.Scripts.{stays_ready}
use Rattle.rules_facts.specs.Detail.{changed, facts_changed_at, fact_lines_at, timed_line}
use Rattle.rules_facts.specs.Fact.{Fact}
use Rattle.rules_facts.specs.Facts.{facts}
use Rattle.rules_facts.specs.Shown.{shown_machine}
use Rattle.rules_facts.specs.Spelled.{told}
use Rattle.laws_facts.specs.Shows.{shown_of}
use Rattle.laws_detail.specs.Rests.{BeginsPlainly, FactsRest, NoneChangesAfter, RestsAt, StaysAt, leap_at}
use Rattle.laws_detail.proofs.Plain.{charge_rests}
use Rattle.laws_detail.proofs.Ticks.{charges_rest, shown_state}

-- ---- of any machine

module _ {P : Type 0} (bodies : Bodies P) (m : Machine P) (none : (instant bodies (turn_of m)).direct ≡ []) (h : Handled bodies (instant bodies (turn_of m)).machine) where
  abbrev ready : Machine P
  ready = (instant bodies (turn_of m)).machine

  next_calm : (k : ℕ) → Calm bodies k ready → is_eventful bodies m (suc k) ≡ false → Calm bodies (suc k) ready
  next_calm k c e =
      let due = first_of (has_item (ticks bodies (suc k) m).machine) (next_tick_matters bodies (ticks bodies k m).machine) e in
      let matters = second_of (has_item (ticks bodies (suc k) m).machine) (next_tick_matters bodies (ticks bodies k m).machine) e in
      let quiet : unless_ended bodies (charges bodies k ready).killed (charges bodies k ready) ≡ false = sym (matters_after bodies k m none h c) ∙ matters in
      more_calm bodies k ready c quiet (nothing_due (next_item (charges bodies (suc k) ready)) (sym (ap (λ (r : Ran P). has_item r.machine) (calm_ticks bodies k m none h c quiet)) ∙ due))

  pub calm_so_far : (k : ℕ) → IsQuiet bodies k m → Calm bodies k ready
  calm_so_far zero q = no_calm bodies ready
  calm_so_far (suc k) q = next_calm k (calm_so_far k (λ i low high. q i low (omega arith))) (q (suc k) (omega arith) (omega arith))

  pub fewer : (j k : ℕ) → j ≤ k → Calm bodies k ready → Calm bodies j ready
  fewer j k le c = record { quiet = λ i small. c.quiet i (omega arith); idle = λ i small. c.idle i (omega arith) }

  -- the machine that is shown so many ticks on
  shown_is : (script : Script) (k j : ℕ) → Calm bodies k ready → suc j ≤ k
      → facts script (shown_of bodies (ticks bodies (suc j) m).machine) ≡ facts script (shown_state (charges bodies (suc j) ready))
  shown_is script k j c le =
      let x = charges bodies (suc j) ready in
      ap (λ (r : Ran P). facts script (shown_of bodies r.machine)) (calm_ticks bodies j m none h (fewer j k (omega arith) c) (c.quiet j (omega arith)))
      ∙ ap (λ (s : Turn P). facts script (shown_state s.machine)) (idle_items bodies (item_bound x) (turn_of x) (c.idle j (omega arith)))

  pub rests : (script : Script) (k : ℕ) → IsQuiet bodies k m → (i : ℕ) → 1 ≤ i → i ≤ k → RestsAt bodies script i m
  rests script k q zero low high = absurd (omega arith)
  rests script k q (suc j) low high =
      let c = calm_so_far k q in
      shown_is script k j c high
      ∙ charges_rest bodies script ready h j (λ i small. c.quiet i (omega arith))
      ∙ sym (shown_is script k 0 c (omega arith))

  pub stays : (script : Script) → BeginsPlainly ready → IsQuiet bodies 1 m → StaysAt bodies script m
  stays script plain q = (let c = calm_so_far 1 q in shown_is script 1 0 c (omega arith) ∙ charge_rests bodies script ready h plain (c.quiet 0 (omega arith)))

pub quiet_rests : (bodies : Bodies Place) (script : Script) (m : Machine Place) → IsHandled m → (k : ℕ) → IsQuiet bodies k m → (i : ℕ) → 1 ≤ i → i ≤ k → RestsAt bodies script i m
quiet_rests bodies script m handled =
    let h = handled_of bodies m handled in
    let same : instant bodies (turn_of m) ≡ turn_of m = idle_items bodies (item_bound m) (turn_of m) h.nothing in
    rests bodies m (ap (λ (s : Turn Place). s.direct) same) (subst (λ (s : Turn Place). Handled bodies s.machine) (sym same) h) script

pub plain_stays : (bodies : Bodies Place) (script : Script) (m : Machine Place) → IsHandled m → BeginsPlainly m → IsQuiet bodies 1 m → StaysAt bodies script m
plain_stays bodies script m handled =
    let h = handled_of bodies m handled in
    let same : instant bodies (turn_of m) ≡ turn_of m = idle_items bodies (item_bound m) (turn_of m) h.nothing in
    λ plain. stays bodies m (ap (λ (s : Turn Place). s.direct) same) (subst (λ (s : Turn Place). Handled bodies s.machine) (sym same) h) script (subst (λ (s : Turn Place). BeginsPlainly s.machine) (sym same) plain)

-- ---- no fact differs from itself

module _ (decls : List Decl) where
  same_bytes : (bytes : List ℕ) → bytes_eq bytes bytes ≡ true
  same_bytes [] = refl
  same_bytes (b ∷ bytes) =
      let here : (b == b) ≡ true = grind arith in
      ap (λ (x : Bool). x && bytes_eq bytes bytes) here ∙ same_bytes bytes

  pub none_changed : (fs : List Fact) → changed decls fs fs ≡ []
  none_changed [] = refl
  none_changed (f ∷ fs) =
      ap (λ (b : Bool). if not b then f ∷ changed decls fs fs else changed decls fs fs) (same_bytes (join_with_byte 32 (told decls f))) ∙ none_changed fs

-- ---- of the run of a script

module _ (script : Script) (fits : IsWellFormed script) (most n : ℕ) (some : 1 ≤ most) where
  abbrev bodies' : Bodies Place
  bodies' = bodies_of script

  pub start_ready : IsReady bodies' (machine script n)
  start_ready = stays_ready bodies' (bodies_fit script fits.priorities) script fits n

  pub leap : IsLeap bodies' most (leap_at script most n) (machine script n)
  leap = is_leap bodies' (machine script n) most some start_ready

  -- what is shown so many ticks behind the instant
  pub later_shown : (i : ℕ) → facts script (shown_machine script (n + i)) ≡ facts script (shown_of bodies' (ticks bodies' i (machine script n)).machine)
  later_shown i = ap (λ (r : Ran Place). facts script (shown_of bodies' r.machine)) (ticks_add bodies' n i (opening script))

  pub same_facts : (i : ℕ) → 1 ≤ i → i < leap_at script most n → facts script (shown_machine script (n + i)) ≡ facts script (shown_machine script (n + 1))
  same_facts i low high =
      later_shown i
      ∙ rests bodies' (machine script n) start_ready.still start_ready.handled script i (λ j some' le. leap.inside j some' (omega arith)) i low (omega arith)
      ∙ sym (later_shown 1)

  no_change : (i : ℕ) → 1 < i → i < leap_at script most n → facts_changed_at script (n + i) ≡ []
  no_change i low high = by_number i low high
    where
      by_number : (j : ℕ) → 1 < j → j < leap_at script most n → facts_changed_at script (n + j) ≡ []
      by_number zero low high = absurd (omega arith)
      by_number (suc j) low high =
          let next : n + suc j ≡ suc (n + j) = omega arith in
          let back : suc (n + j) ≡ n + suc j = omega arith in
          ap (facts_changed_at script) next
          ∙ ap (λ (fs : List Fact). changed script.decls (facts script (shown_machine script (n + j))) fs)
          (ap (λ (k : ℕ). facts script (shown_machine script k)) back ∙ same_facts (suc j) (omega arith) high ∙ sym (same_facts j (omega arith) (omega arith)))
          ∙ none_changed script.decls (facts script (shown_machine script (n + j)))

  no_lines : (end i : ℕ) → 1 < i → i < leap_at script most n → fact_lines_at script end (n + i) ≡ []
  no_lines end i low high = by_end (nat_lt (n + i) end)
    where
      by_end : (b : Bool) → (if b then flat_map (timed_line script.decls (n + i)) (facts_changed_at script (n + i)) else []) ≡ []
      by_end true = ap (flat_map (timed_line script.decls (n + i))) (no_change i low high)
      by_end false = refl

  nothing_told : (end i k : ℕ) → 1 < i → i + k ≤ leap_at script most n → flat_map (fact_lines_at script end) (range_with_len (n + i) k) ≡ []
  nothing_told end i zero low le = refl
  nothing_told end i (suc k) low le =
      let on : n + i + 1 ≡ n + (i + 1) = omega arith in
      ap (λ (xs : List ℕ). xs ++ flat_map (fact_lines_at script end) (range_with_len (n + i + 1) k)) (no_lines end i low (omega arith))
      ∙ ap (λ (a : ℕ). flat_map (fact_lines_at script end) (range_with_len a k)) on
      ∙ nothing_told end (i + 1) k (omega arith) (omega arith)

  no_more : (xs : List ℕ) → xs ++ [] ≡ xs
  no_more [] = refl
  no_more (x ∷ xs) = ap (λ (ys : List ℕ). x ∷ ys) (no_more xs)

  two_looks : (end : ℕ) → 2 ≤ leap_at script most n
      → flat_map (fact_lines_at script end) (range_with_len n (leap_at script most n)) ≡ fact_lines_at script end n ++ fact_lines_at script end (n + 1)
  two_looks end le =
      let lines = fact_lines_at script end in
      let k = leap_at script most n - 2 in
      let all : leap_at script most n ≡ suc (suc k) = omega (arith, le) in
      let on : n + 1 + 1 ≡ n + 2 = omega arith in
      ap (λ (j : ℕ). flat_map lines (range_with_len n j)) all
      ∙ ap (λ (a : ℕ). lines n ++ (lines (n + 1) ++ flat_map lines (range_with_len a k))) on
      ∙ ap (λ (xs : List ℕ). lines n ++ (lines (n + 1) ++ xs)) (nothing_told end 2 k (omega arith) (omega (arith, le)))
      ∙ ap (λ (xs : List ℕ). lines n ++ xs) (no_more (lines (n + 1)))

pub leap_rests : (script : Script) → IsWellFormed script → (most : ℕ) → (n : ℕ) → 1 ≤ most → FactsRest script most n
leap_rests script fits most n some = record { same = same_facts script fits most n some; still = no_change script fits most n some; told = two_looks script fits most n some }

pub none_changes : (script : Script) → IsWellFormed script → (n : ℕ) → NoneChangesAfter script n
none_changes script fits n plain calm =
    let bodies = bodies_of script in
    let at = stays_ready bodies (bodies_fit script fits.priorities) script fits n in
    let one : n + 1 ≡ suc n = omega arith in
    let quiet : IsQuiet bodies 1 (machine script n) = λ i low high. (let it : 1 ≡ i = omega (arith, low, high) in ap (is_eventful bodies (machine script n)) (sym it) ∙ calm) in
    ap (facts_changed_at script) one
    ∙ ap (λ (fs : List Fact). changed script.decls (facts script (shown_machine script n)) fs) (stays bodies (machine script n) at.still at.handled script plain quiet)
    ∙ none_changed script.decls (facts script (shown_machine script n))
