-- The lines of facts as a printer prints them.
use Rattle.std.proofs.Common.{◌≡◌, ◌<◌, ℕ, Bool, Err, List, Ok, Option, [], ◌++◌, append-nil, false, length, not, refl, subst, sym, true}
use Rattle.std.specs.Prelude.{◌||◌}
use Rattle.parts_io.specs.Bytes.{WritesAll}
use Rattle.parts_io.specs.declared.outside.Failed.{Failed}
use Rattle.script_writer.specs.Canon.{Words}
use Rattle.script_writer.specs.Words.{is_nil}
use Rattle.script_printer.specs.declared.printer.Printer.{Printer}
use Rattle.script_printer.specs.Puts.{Put, Puts, outlet}
use Rattle.script_printer.proofs.Puts.{puts_both}
use Rattle.kernel_texts.specs.Lines.{begun, end_text, more_if_any, more_text, told_text}
use Rattle.kernel_texts.proofs.Lines.{begun_end, begun_if_more, begun_more, if_more}

-- the same text in another form
pub puts_as : {K : Type 0} (text : K → Option (List ℕ)) (faults : K → ℕ) (a b : Printer K) (xs ys : List ℕ) → xs ≡ ys → Puts text faults a b xs → Puts text faults a b ys
puts_as text faults a b xs ys same h = subst (λ (t : List ℕ). Puts text faults a b t) same h

-- two texts, the second of which is the last of a list
pub puts_two : {K : Type 0} (text : K → Option (List ℕ)) (faults : K → ℕ) (a b c : Printer K) (xs ys : List ℕ) → Puts text faults a b xs → Puts text faults b c ys
    → Puts text faults a c (xs ++ (ys ++ []))
puts_two text faults a b c xs ys first second =
    subst (λ (t : List ℕ). Puts text faults a c (xs ++ t)) (sym (append-nil ys)) (puts_both text faults a b c xs ys first second)

-- a sink that a printer wrote to, by whether a write failed
pub written_whole : {K : Type 0} (text : K → Option (List ℕ)) (faults : K → ℕ) (a b : K) (due : List ℕ) → Put (outlet text faults false a) (outlet text faults false b) due
    → WritesAll {T = Unit {0}} {E = Failed} (text a) (text b) (Ok tt) due
written_whole text faults a b due put = put.whole refl

pub written_part : {K : Type 0} (text : K → Option (List ℕ)) (faults : K → ℕ) (a b : K) (due : List ℕ) (e : Failed) → Put (outlet text faults false a) (outlet text faults true b) due
    → WritesAll {T = Unit {0}} {E = Failed} (text a) (text b) (Err e) due
written_part text faults a b due e put = put.part

module _ {K : Type 0} (text : K → Option (List ℕ)) (faults : K → ℕ) (a b c : Printer K) where
  pub puts_more : (about told more : Words) (is_begun : Bool) → 0 < length about → 0 < length more → is_begun ≡ not (is_nil told)
      → Puts text faults a b (begun about told) → Puts text faults b c (more_text is_begun about more) → Puts text faults a c (begun about (told ++ more))
  puts_more about told more is_begun some any flag first second =
      subst (λ (t : List ℕ). Puts text faults a c t) (begun_more about told more is_begun some any flag)
      (puts_both text faults a b c (begun about told) (more_text is_begun about more) first second)

  pub puts_end : (about told : Words) (is_begun : Bool) → is_begun ≡ not (is_nil told)
      → Puts text faults a b (begun about told) → Puts text faults b c (end_text is_begun) → Puts text faults a c (told_text about told)
  puts_end about told is_begun flag first second =
      subst (λ (t : List ℕ). Puts text faults a c t) (begun_end about told is_begun flag)
      (puts_both text faults a b c (begun about told) (end_text is_begun) first second)

  pub puts_if_more : (about told more : Words) (was_begun is_begun : Bool) → 0 < length about → 0 < length more → is_begun ≡ (was_begun || not (is_nil told))
      → Puts text faults a b (more_if_any was_begun about told) → Puts text faults b c (more_text is_begun about more) → Puts text faults a c (more_if_any was_begun about (told ++ more))
  puts_if_more about told more was_begun is_begun some any flag first second =
      subst (λ (t : List ℕ). Puts text faults a c t) (if_more about told more was_begun is_begun some any flag)
      (puts_both text faults a b c (more_if_any was_begun about told) (more_text is_begun about more) first second)

  pub puts_begun_more : (about told more : Words) (is_begun : Bool) → 0 < length about → is_begun ≡ not (is_nil told)
      → Puts text faults a b (begun about told) → Puts text faults b c (more_if_any is_begun about more) → Puts text faults a c (begun about (told ++ more))
  puts_begun_more about told more is_begun some flag first second =
      subst (λ (t : List ℕ). Puts text faults a c t) (begun_if_more about told more is_begun some flag)
      (puts_both text faults a b c (begun about told) (more_if_any is_begun about more) first second)
