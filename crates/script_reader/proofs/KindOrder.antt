-- The kind that is below all others.
use Rattle.std.proofs.Common.{◌≡◌, List, [], ◌∷◌, refl, ap, Option, None, Some}
use Rattle.script_table.specs.declared.faults.FaultKind.{FaultKind}
use Rattle.script_table.specs.declared.faults.FaultKind.TheVariants.{BadByte, UnknownWord, WordCount, BadNumber, NumberRange, BadName, DuplicateName, UnknownName, WrongKind, NotHere, StrayClose, Unclosed, TooMany, NoThread, ServerRange, BadVersion}
use Rattle.script_table.specs.Faults.{lesser, lesser_first, least_kind}

-- no kind is below BadByte
one_least : (k : FaultKind) → lesser BadByte k ≡ BadByte
one_least BadByte = refl
one_least UnknownWord = refl
one_least WordCount = refl
one_least BadNumber = refl
one_least NumberRange = refl
one_least BadName = refl
one_least DuplicateName = refl
one_least UnknownName = refl
one_least WrongKind = refl
one_least NotHere = refl
one_least StrayClose = refl
one_least Unclosed = refl
one_least TooMany = refl
one_least NoThread = refl
one_least ServerRange = refl
one_least BadVersion = refl

bad_byte_before : (o : Option FaultKind) → lesser_first (Some BadByte) o ≡ Some BadByte
bad_byte_before None = refl
bad_byte_before (Some k) = ap Some (one_least k)

pub bad_byte_first : (ks : List FaultKind) → least_kind (BadByte ∷ ks) ≡ Some BadByte
bad_byte_first ks = bad_byte_before (least_kind ks)

is_some_first : (k : FaultKind) (o : Option FaultKind) → lesser_first (Some k) o ≡ None → ⊥
is_some_first k None e = cc
is_some_first k (Some j) e = cc

pub no_kind : (ks : List FaultKind) → least_kind ks ≡ None → ks ≡ []
no_kind [] e = refl
no_kind (k ∷ ks) e = absurd (is_some_first k (least_kind ks) e)
