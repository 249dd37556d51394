-- What `detail` tells of a leap.
use Rattle.std.proofs.Common.{Bool, List, None, [], ap, append_assoc, arith, false, refl, suc, sym, true, zero, ℕ, ◌+◌, ◌++◌, ◌<◌, ◌∷◌, ◌≡◌, ◌≤◌}
use Rattle.std.specs.Prelude.{flat_map, nat_le, ◌-◌, if◌then◌else◌}
use Rattle.std.proofs.lemmas.List.{append_cancel_left}
use mathlib.Core.Path.{subst, ◌∙◌}
use Rattle.words_script.specs.declared.decl.Script.{Script}
use Rattle.words_trace.specs.Text.{Entry, lines}
use Rattle.rules_bodies.specs.Next.{Place}
use Rattle.rules_machine.specs.Bodies.{Bodies}
use Rattle.rules_machine.specs.Machine.{bodies_of, machine, names_of}
use Rattle.rules_machine.specs.Runs.{Ran, opening, ticks}
use Rattle.rules_machine.specs.State.{Machine}
use Rattle.rules_machine.specs.WellFormed.{IsWellFormed}
use Rattle.rules_machine.proofs.Joined.{ticks_add}
use Rattle.rules_moves.proofs.Runs.Units.{bodies_fit}
use Rattle.rules_leaps.specs.Leap.{IsLeap}
use Rattle.rules_leaps.specs.Quiet.{IsQuiet, handled_at}
use Rattle.laws_leaps.proofs.Leaps.Lengths.{IsReady, is_leap}
use Rattle.laws_leaps.proofs.Leaps.Scripts.{stays_ready}
use Rattle.rules_facts.specs.Detail.{timed_line}
use Rattle.laws_detail.specs.Leaps.{LeapIsTold, LeapsAreTold, leap_events, looks_told}
use Rattle.laws_detail.specs.Looks.{AllAt, NoneAfter, begun_turn, facts_told, facts_told_from, told_until}
use Rattle.laws_detail.specs.Rests.{FactsRest, leap_at}
use Rattle.laws_detail.proofs.Events.{ended_events, leap_events_are, leap_now}
use Rattle.laws_detail.proofs.Looks.{is_told}
use Rattle.laws_detail.proofs.Rest.{leap_rests}
use Rattle.laws_detail.proofs.Times.{ticks_in_time}

-- ---- times

none_later_on : (n m : ℕ) (es : List Entry) → n ≤ m → NoneAfter n es → NoneAfter m es
none_later_on n m [] le h = tt
none_later_on n m (e ∷ es) le h = (let t = h.0 in omega (arith, t, le), none_later_on n m es le h.1)

all_none : (n : ℕ) (es : List Entry) → AllAt n es → NoneAfter n es
all_none n [] h = tt
all_none n (e ∷ es) h = (let t = h.0 in omega (arith, t), all_none n es h.1)

both_none : (n : ℕ) (es more : List Entry) → NoneAfter n es → NoneAfter n more → NoneAfter n (es ++ more)
both_none n [] more h k = k
both_none n (e ∷ es) more h k = (h.0, both_none n es more h.1 k)

same_rest : (front a b : List Entry) → front ++ a ≡ front ++ b → a ≡ b
same_rest front a b e = append_cancel_left front a b e

module _ (script : Script) (fits : IsWellFormed script) (most n : ℕ) (some : 1 ≤ most) (at : (machine script n).now ≡ n) (alive : (handled_at script n).machine.killed ≡ None) where
  abbrev bodies : Bodies Place
  bodies = bodies_of script

  abbrev m : Machine Place
  m = machine script n

  abbrev length : ℕ
  length = leap_at script most n

  abbrev begun : List Entry
  begun = (begun_turn bodies m).events

  names : List (List ℕ)
  names = names_of script

  ready : IsReady bodies m
  ready = stays_ready bodies (bodies_fit script fits.priorities) script fits n

  leap : IsLeap bodies most length m
  leap = is_leap bodies m most some ready

  rest : FactsRest script most n
  rest = leap_rests script fits most n some

  -- a leap is one tick longer than the quiet instants in it
  quiet : IsQuiet bodies (length - 1) m
  quiet i low high = (let len = leap.some in leap.inside i low (omega (arith, len, high)))

  one_more : suc (length - 1) ≡ length
  one_more = (let len = leap.some in omega (arith, len))

  ended : List Entry
  ended = ended_events bodies (ticks bodies (length - 1) m).machine

  events_are : (ticks bodies length m).events ≡ begun ++ ended
  unfolding ended
  events_are = ap (λ (k : ℕ). (ticks bodies k m).events) (sym one_more) ∙ leap_events_are bodies m ready.still ready.handled alive (length - 1) quiet

  there_now : (k : ℕ) → k ≤ length - 1 → (ticks bodies k m).machine.now ≡ n + k
  there_now zero le = omega (arith, at)
  there_now (suc j) le = (let now = leap_now bodies m ready.still ready.handled alive (length - 1) quiet j (omega arith) in omega (arith, at, now))

  later_now : (ticks bodies length m).machine.now ≡ n + length
  later_now =
      let now = leap_now bodies m ready.still ready.handled alive (length - 1) quiet (length - 1) (omega arith) in
      let len = leap.some in
      ap (λ (k : ℕ). (ticks bodies k m).machine.now) (sym one_more) ∙ now ∙ omega (arith, at, len)

  begun_at : AllAt n begun
  begun_at = subst (λ (k : ℕ). AllAt k begun) at (ticks_in_time bodies (bodies_fit script fits.priorities) script fits n).begun

  ended_at : AllAt (n + length) ended
  unfolding ended
  ended_at =
      let k = length - 1 in
      let len = leap.some in
      let here : (ticks bodies (n + k) (opening script)).machine ≡ (ticks bodies k m).machine = ap (λ (r : Ran Place). r.machine) (ticks_add bodies n k (opening script)) in
      let last : AllAt ((ticks bodies k m).machine.now + 1) (ended_events bodies (ticks bodies k m).machine) =
      subst (λ (y : Machine Place). AllAt (y.now + 1) (ended_events bodies y)) here (ticks_in_time bodies (bodies_fit script fits.priorities) script fits (n + k)).ended in
      let now : (ticks bodies k m).machine.now + 1 ≡ n + length = (let there = there_now k (omega arith) in omega (arith, there, len)) in
      subst (λ (t : ℕ). AllAt t (ended_events bodies (ticks bodies k m).machine)) now last

  -- ---- the text

  no_facts : (i k : ℕ) → 1 < i → i + k ≤ length → facts_told_from script (n + i) k ≡ []
  no_facts i zero low le = refl
  no_facts i (suc k) low le =
      let on : n + i + 1 ≡ n + (i + 1) = omega arith in
      ap (λ (fs : List ℕ). fs ++ facts_told_from script (n + i + 1) k) (ap (flat_map (timed_line script.decls (n + i))) (rest.still i low (omega arith)))
      ∙ ap (λ (a : ℕ). facts_told_from script a k) on
      ∙ no_facts (i + 1) k (omega arith) (omega arith)

  none_more : (xs : List ℕ) → xs ++ [] ≡ xs
  none_more [] = refl
  none_more (x ∷ xs) = ap (λ (ys : List ℕ). x ∷ ys) (none_more xs)

  looks_are : facts_told_from script n length ≡ looks_told script n length
  looks_are = by_length (nat_le 2 length) refl
    where
      by_length : (b : Bool) → nat_le 2 length ≡ b → facts_told_from script n length ≡ (if b then facts_told script n ++ facts_told script (n + 1) else facts_told script n)
      by_length true e =
          let k = length - 2 in
          let long : 2 ≤ length = grind (arith, e) in
          let all : length ≡ suc (suc k) = omega (arith, long) in
          let on : n + 1 + 1 ≡ n + 2 = omega arith in
          ap (λ (j : ℕ). facts_told_from script n j) all
          ∙ ap (λ (a : ℕ). facts_told script n ++ (facts_told script (n + 1) ++ facts_told_from script a k)) on
          ∙ ap (λ (xs : List ℕ). facts_told script n ++ (facts_told script (n + 1) ++ xs)) (no_facts 2 k (omega arith) (omega (arith, long)))
          ∙ ap (λ (xs : List ℕ). facts_told script n ++ xs) (none_more (facts_told script (n + 1)))
      by_length false e =
          let len = leap.some in
          let short : length ≡ 1 = grind (arith, e, len) in
          ap (λ (j : ℕ). facts_told_from script n j) short ∙ none_more (facts_told script n)

  leap_told : (told rest' : List Entry) → NoneAfter n told → leap_events script most n ≡ begun ++ rest'
      → told_until script (told ++ leap_events script most n) (n + length)
      ≡ ((told_until script told n ++ lines (names_of script) begun) ++ looks_told script n length) ++ lines (names_of script) rest'
  leap_told told rest' since split =
      let law = is_told script in
      let is_ended : ended ≡ rest' = same_rest begun ended rest' (sym events_are ∙ split) in
      let times : AllAt (n + length) rest' = subst (AllAt (n + length)) is_ended ended_at in
      ap (λ (es : List Entry). told_until script (told ++ es) (n + length)) split
      ∙ ap (λ (es : List Entry). told_until script es (n + length)) (sym (append_assoc told begun rest'))
      ∙ law.event (told ++ begun) rest' (n + length) times
      ∙ ap (λ (xs : List ℕ). xs ++ lines (names_of script) rest') (law.passed (told ++ begun) n length (both_none n told begun since (all_none n begun begun_at)))
      ∙ ap (λ (xs : List ℕ). (xs ++ facts_told_from script n length) ++ lines (names_of script) rest') (law.event told begun n begun_at)
      ∙ ap (λ (xs : List ℕ). ((told_until script told n ++ lines (names_of script) begun) ++ xs) ++ lines (names_of script) rest') looks_are

  none_after' : (told : List Entry) → NoneAfter n told → NoneAfter (n + length) (told ++ leap_events script most n)
  none_after' told since =
      subst (λ (es : List Entry). NoneAfter (n + length) (told ++ es)) (sym events_are)
      (both_none (n + length) told (begun ++ ended) (none_later_on n (n + length) told (omega arith) since)
      (both_none (n + length) begun ended (none_later_on n (n + length) begun (omega arith) (all_none n begun begun_at)) (all_none (n + length) ended ended_at)))

  pub leap_is_told : LeapIsTold script most n
  leap_is_told = record {
    later = ap (λ (r : Ran Place). r.machine.now) (ticks_add bodies n length (opening script)) ∙ later_now;
    none_after = none_after';
    told = leap_told;
  }

pub leaps_are_told : (script : Script) → IsWellFormed script → LeapsAreTold script
leaps_are_told script fits = λ most n some at alive. leap_is_told script fits most n some at alive
