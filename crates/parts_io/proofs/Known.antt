-- Bytes that are told, and counts, through several reads or writes.
use Rattle.std.proofs.Common.{ℕ, ◌+◌, ◌≤◌, List, [], ◌++◌, length, refl, sym, ◌≡◌, ◌∙◌, ap, append_assoc, append-nil, length-append, take, drop, subst, arith, Option, Some, None}
use Rattle.std.proofs.Math.Seq.{take-add}
use Rattle.std.specs.Io.KnownBytes.{Appends, Consumes, Keeps}
use Rattle.parts_io.specs.Causes.{GrewBy}
use Rattle.parts_io.specs.Whole.{TookAtMost}

-- no byte was read
pub consumes_none : (a : Option (List ℕ)) → Consumes a a []
consumes_none None = tt
consumes_none (Some xs) = refl

-- what two reads took, one after the other
pub consumes_more : (a b c : Option (List ℕ)) (xs ys : List ℕ) → Consumes a b xs → Consumes b c ys → Consumes a c (xs ++ ys)
consumes_more None b c xs ys first second = tt
consumes_more (Some p) None c xs ys first second = absurd first
consumes_more (Some p) (Some q) None xs ys first second = absurd second
consumes_more (Some p) (Some q) (Some r) xs ys first second = first ∙ (ap (λ t. xs ++ t) second ∙ sym (append_assoc xs ys r))

-- nothing was written
pub appends_none : (a : Option (List ℕ)) → Appends a a []
appends_none None = tt
appends_none (Some xs) = sym (append-nil xs)

-- what two writes appended, one after the other
pub appends_more : (a b c : Option (List ℕ)) (xs ys : List ℕ) → Appends a b xs → Appends b c ys → Appends a c (xs ++ ys)
appends_more None b c xs ys first second = tt
appends_more (Some p) None c xs ys first second = absurd first
appends_more (Some p) (Some q) None xs ys first second = absurd second
appends_more (Some p) (Some q) (Some r) xs ys first second = second ∙ (ap (λ t. t ++ ys) first ∙ append_assoc p xs ys)

-- how far a count grew by two reads, one after the other
pub grew_more : (m n before between now : ℕ) → GrewBy m before between → GrewBy n between now → GrewBy (m + n) before now
grew_more m n before between now first second = record { at_least = omega arith; at_most = omega arith }

-- what stays is as if no byte was taken
pub keeps_none : (a b : Option (List ℕ)) → Keeps a b → Consumes a b []
keeps_none None b kept = tt
keeps_none (Some xs) None kept = absurd kept
keeps_none (Some xs) (Some ys) kept = sym kept

-- no byte was taken
pub took_none : (a b : Option (List ℕ)) (before now : ℕ) → Keeps a b → now ≡ before → TookAtMost 0 a b before now
took_none a b before now kept same = record {
  bytes = [];
  bound = omega arith;
  moved = keeps_none a b kept;
  count = record { at_least = omega arith; at_most = omega arith };
}

-- `xs` was taken, and then at most n bytes
pub took_more : (a b c : Option (List ℕ)) (before between now m n : ℕ) (xs : List ℕ)
    → Consumes a b xs → GrewBy (length xs) before between → TookAtMost n b c between now → length xs + n ≤ m
    → TookAtMost m a c before now
took_more a b c before between now m n xs moved count rest fits = record {
  bytes = xs ++ rest.bytes;
  bound = simp length-append (omega arith);
  moved = consumes_more a b c xs rest.bytes moved rest.moved;
  count = rw (length-append xs rest.bytes) (grew_more (length xs) (length rest.bytes) before between now count rest.count);
}

-- the first i bytes were written, and then j more of them
pub appends_on : (a b c : Option (List ℕ)) (bytes : List ℕ) (i j : ℕ) → Appends a b (take i bytes) → Appends b c (take j (drop i bytes))
    → Appends a c (take (i + j) bytes)
appends_on a b c bytes i j first second =
    subst (λ t. Appends a c t) (sym (take-add i j bytes)) (appends_more a b c (take i bytes) (take j (drop i bytes)) first second)
