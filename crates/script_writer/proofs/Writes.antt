-- Texts that are written one after another.
use Rattle.std.proofs.Common.{◌≡◌, ℕ, ◌+◌, List, [], ◌++◌, length, take, refl, sym, ◌∙◌, subst, arith, min, Option, Result, Ok, Err, true, false}
use Rattle.std.proofs.Math.Seq.{take-append-add}
use Rattle.std.proofs.lemmas.List.{take_min, take-append-le}
use Rattle.std.specs.Prelude.{IsErr}
use Rattle.std.specs.Io.KnownBytes.{Appends}
use Rattle.parts_io.specs.declared.outside.Failed.{Failed}
use Rattle.parts_io.specs.Bytes.{AppendsPart}
use Rattle.parts_io.proofs.Known.{appends_none, appends_more}
use Rattle.script_writer.specs.Writes.{Writes}

pub writes_nothing : {K : Type 0} (text : K → Option (List ℕ)) (faults : K → ℕ) (a : K) → Writes text faults a a (Ok tt) []
writes_nothing text faults a = record {
  written = appends_none (text a);
  cause = record { later = omega arith; ok = refl; failed = tt };
}

take_front : (k : ℕ) (xs ys : List ℕ) → take k xs ≡ take (min k (length xs)) (xs ++ ys)
take_front k xs ys = sym (take_min k xs) ∙ sym (take-append-le (min k (length xs)) xs ys (omega arith))

part_front : (old new : Option (List ℕ)) (xs ys : List ℕ) → AppendsPart old new xs → AppendsPart old new (xs ++ ys)
part_front old new xs ys (k, h) = (min k (length xs), subst (λ t. Appends old new t) (take_front k xs ys) h)

part_back : (a b c : Option (List ℕ)) (xs ys : List ℕ) → Appends a b xs → AppendsPart b c ys → AppendsPart a c (xs ++ ys)
part_back a b c xs ys first (j, h) =
    (length xs + j, subst (λ t. Appends a c t) (sym (take-append-add xs ys j)) (appends_more a b c xs (take j ys) first h))

-- all of a text was written, and then another
pub writes_then : {K : Type 0} (text : K → Option (List ℕ)) (faults : K → ℕ) (a b c : K) (result : Result (Unit {0}) Failed) (xs ys : List ℕ)
    → Writes text faults a b (Ok tt) xs → Writes text faults b c result ys → Writes text faults a c result (xs ++ ys)
writes_then text faults a b c (Ok u) xs ys first second = record {
  written = appends_more (text a) (text b) (text c) xs ys first.written second.written;
  cause = record {
    later = let l = first.cause.later in let m = second.cause.later in omega arith;
    ok = second.cause.ok ∙ first.cause.ok;
    failed = tt;
  };
}
writes_then text faults a b c (Err e) xs ys first second = record {
  written = part_back (text a) (text b) (text c) xs ys first.written second.written;
  cause = record {
    later = let l = first.cause.later in let m = second.cause.later in omega arith;
    ok = tt;
    failed = let same = first.cause.ok in let rose = second.cause.failed in omega arith;
  };
}

-- where a write failed, more may have been due
pub writes_failed : {K : Type 0} (text : K → Option (List ℕ)) (faults : K → ℕ) (a b : K) (result answer : Result (Unit {0}) Failed) (e : Failed) (xs ys : List ℕ)
    → Writes text faults a b result xs → result ≡ Err e → IsErr answer → Writes text faults a b answer (xs ++ ys)
writes_failed text faults a b result (Ok u) e xs ys first was err = absurd (let f : false ≡ true = err in cc)
writes_failed text faults a b result (Err f) e xs ys first was err =
    let h : Writes text faults a b (Err e) xs = subst (λ r. Writes text faults a b r xs) was first in
    record {
      written = part_front (text a) (text b) xs ys h.written;
      cause = record { later = h.cause.later; ok = tt; failed = h.cause.failed };
    }

-- the same text in another form
pub writes_as : {K : Type 0} (text : K → Option (List ℕ)) (faults : K → ℕ) (a b : K) (result : Result (Unit {0}) Failed) (xs ys : List ℕ)
    → xs ≡ ys → Writes text faults a b result xs → Writes text faults a b result ys
writes_as text faults a b result xs ys same h = subst (λ t. Writes text faults a b result t) same h
