-- An audit behind lines that break no rule tells the rule that the next one breaks, counted over all of them.
use Rattle.std.proofs.Common.{List, None, Option, Some, [], ap, arith, append-nil, false, refl, subst, sym, true, Bool, ℕ, ◌∷◌, ◌++◌, ◌≡◌, ◌∙◌, IfNone}
use Rattle.std.specs.List.{cons_option}
use Rattle.std.proofs.lemmas.List.{append_assoc}
use Rattle.std.proofs.lemmas.List.Elements.{filter_map-append}
use Rattle.tool_check.specs.Lines.{Reading, reading}
use Rattle.tool_check.proofs.ClosingTimes.{IfRead, read_at_zero}
use Rattle.tool_audit.specs.Server.{NamedServer}
use Rattle.tool_audit.specs.Rules.{if_broken}
use Rattle.tool_audit.specs.Breach.{and_reading, broken_by_reading}
use Rattle.tool_audit.specs.Watch.{Watch, begun, fits_order, any_breaks, watch_lacks, watch_reading, watch_with}
use Rattle.tool_audit.specs.Behind.{AreUnbroken, IsBehind, broken_at_end, broken_by_line, readings, watched_through}
use Rattle.tool_audit.proofs.ClosingTimes.{same_form}
use Rattle.tool_audit.proofs.Watching.{WatchIs, begun_is, lacks_same, line_same, order_same, watch_next}

module _ (servers : List NamedServer) where
  reading_same : (rs : List Reading) (w : Watch) (o : Option Reading) → WatchIs servers rs w → watch_reading w o ≡ broken_by_reading servers rs o
  reading_same rs w None h = refl
  reading_same rs w (Some r) h = sym (line_same servers rs r w h)

  in_order : (b : Bool) (o : Option ℕ) → if_broken b 1 o ≡ None → b ≡ true
  in_order true o e = refl
  in_order false o e = absurd (grind arith)

  reading_next : (rs : List Reading) (w : Watch) (o : Option Reading) → IfRead o → WatchIs servers rs w → watch_reading w o ≡ None → WatchIs servers (and_reading rs o) (watch_with o w)
  reading_next rs w None z h e = absurd (grind arith)
  reading_next rs w (Some r) z h e =
      watch_next rs r servers w h (λ c. z (same_form r.form ∙ c)) (order_same rs r servers w h ∙ in_order (fits_order w r) (any_breaks w.each r) e) e

  one_more : (rs : List Reading) (o : Option Reading) → rs ++ cons_option o [] ≡ and_reading rs o
  one_more rs None = append-nil rs
  one_more rs (Some r) = refl

  readings_more : (before : List (List ℕ)) (line : List ℕ) → readings (before ++ line ∷ []) ≡ and_reading (readings before) (reading line)
  readings_more before line = filter_map-append reading before (line ∷ []) ∙ one_more (readings before) (reading line)

  line_next : (before : List (List ℕ)) (line : List ℕ) (w : Watch) → WatchIs servers (readings before) w → watch_reading w (reading line) ≡ None → WatchIs servers (readings (before ++ line ∷ [])) (watch_with (reading line) w)
  line_next before line w h e =
      subst (λ (rs : List Reading). WatchIs servers rs (watch_with (reading line) w)) (sym (readings_more before line)) (reading_next (readings before) w (reading line) (read_at_zero line) h e)

  through : (before lines : List (List ℕ)) (w : Watch) → WatchIs servers (readings before) w → AreUnbroken servers before lines → WatchIs servers (readings (before ++ lines)) (watched_through w lines)
  through before [] w h u = subst (λ (ls : List (List ℕ)). WatchIs servers (readings ls) w) (sym (append-nil before)) h
  through before (line ∷ lines) w h u =
      let next = line_next before line w h (reading_same (readings before) w (reading line) h ∙ u.0) in
      subst (λ (ls : List (List ℕ)). WatchIs servers (readings ls) (watched_through (watch_with (reading line) w) lines)) (append_assoc before (line ∷ []) lines)
      (through (before ++ line ∷ []) lines (watch_with (reading line) w) next u.1)

  watch_is : (lines : List (List ℕ)) (w : Watch) → IsBehind servers lines w → WatchIs servers (readings lines) w
  watch_is lines w h = subst (WatchIs servers (readings lines)) (sym h.is) (through [] lines (begun servers) (begun_is servers) h.unbroken)

  unbroken_more : (before lines : List (List ℕ)) (line : List ℕ) → AreUnbroken servers before lines → broken_by_line servers (before ++ lines) line ≡ None → AreUnbroken servers before (lines ++ line ∷ [])
  unbroken_more before [] line u e = (subst (λ (ls : List (List ℕ)). broken_by_line servers ls line ≡ None) (append-nil before) e, tt)
  unbroken_more before (l ∷ lines) line u e =
      (u.0, unbroken_more (before ++ l ∷ []) lines line u.1 (subst (λ (ls : List (List ℕ)). broken_by_line servers ls line ≡ None) (sym (append_assoc before (l ∷ []) lines)) e))

  through_more : (w : Watch) (lines : List (List ℕ)) (line : List ℕ) → watched_through w (lines ++ line ∷ []) ≡ watch_with (reading line) (watched_through w lines)
  through_more w [] line = refl
  through_more w (l ∷ lines) line = through_more (watch_with (reading l) w) lines line

  pub line_counted : (lines : List (List ℕ)) (line : List ℕ) (w : Watch) → IsBehind servers lines w → watch_reading w (reading line) ≡ broken_by_line servers lines line
  line_counted lines line w h = reading_same (readings lines) w (reading line) (watch_is lines w h)

  behind_line : (lines : List (List ℕ)) (line : List ℕ) (w : Watch) → IsBehind servers lines w → watch_reading w (reading line) ≡ None → IsBehind servers (lines ++ line ∷ []) (watch_with (reading line) w)
  behind_line lines line w h e = record {
    unbroken = unbroken_more [] lines line h.unbroken (sym (line_counted lines line w h) ∙ e);
    is = ap (watch_with (reading line)) h.is ∙ sym (through_more (begun servers) lines line);
  }

  if_none : (o : Option ℕ) (P : Type 0) → (o ≡ None → P) → IfNone o P
  if_none None P h = h refl
  if_none (Some n) P h = tt

  where_none : (o : Option ℕ) (P : Type 0) → IfNone o P → o ≡ None → P
  where_none None P h e = h
  where_none (Some n) P h e = absurd (grind arith)

  -- as the code has it
  pub line_taken : (lines : List (List ℕ)) (line : List ℕ) (old new : Watch) (rule : Option ℕ) → rule ≡ watch_reading old (reading line) → IfNone rule (new ≡ watch_with (reading line) old)
      → IsBehind servers lines old → IfNone rule (IsBehind servers (lines ++ line ∷ []) new)
  line_taken lines line old new rule is after h = if_none rule (IsBehind servers (lines ++ line ∷ []) new) (λ none.
      subst (IsBehind servers (lines ++ line ∷ [])) (sym (where_none rule (new ≡ watch_with (reading line) old) after none)) (behind_line lines line old h (sym is ∙ none)))

  pub end_counted : (lines : List (List ℕ)) (w : Watch) → IsBehind servers lines w → watch_lacks w ≡ broken_at_end servers lines
  end_counted lines w h = sym (lacks_same servers (readings lines) w (watch_is lines w h))
