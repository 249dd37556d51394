-- The operations of a body as they are kept.
use Rattle.std.proofs.Common.{◌≡◌, ℕ, zero, suc, ◌<◌, List, [], ◌∷◌, ◌++◌, length, get_or, slice_get, slice_set, Some, refl, ap, sym, subst, ◌∙◌, length-append, arith}
use Rattle.std.proofs.lemmas.List.{get_or_append_left, map_push}
use Rattle.std.proofs.lemmas.Option.{get_or_from_slice_get, slice_get_read, slice_get_within}
use Rattle.words_script.specs.declared.call.Call.{Call}
use Rattle.words_script.specs.declared.call.Call.TheVariants as call
use Rattle.rules_bodies.specs.declared.op.Op.{Op}
use Rattle.rules_bodies.specs.declared.op.Op.TheVariants as op
use Rattle.script_code.specs.declared.ops.Packed.{Packed}
use Rattle.script_code.specs.declared.ops.Packed.TheVariants.{Run, Make, Short, Set, Add, Take, Test, Begin, Repeat, Again}
use Rattle.rules_bodies.specs.Fetch.{most_skipped}
use Rattle.script_code.specs.Fetched.{call_at}
use Rattle.script_code.specs.Packed.{AreIn, IsIn, all_unpacked, unpacked}
use Rattle.script_code.specs.ShortCall.{call_of_short}
use Rattle.script_code.specs.declared.short_call.ShortCall.{ShortCall}

-- an operation that is no call is the same beside all calls
pub unpacked_alone : (calls : List Call) (p : Packed) → IsIn [] p → unpacked calls p ≡ unpacked [] p
unpacked_alone calls (Run n) h = refl
unpacked_alone calls (Make number) h = absurd (omega (arith, h))
unpacked_alone calls (Short short) h = refl
unpacked_alone calls (Set n) h = refl
unpacked_alone calls (Add n) h = refl
unpacked_alone calls Take h = refl
unpacked_alone calls (Test named equal skip) h = refl
unpacked_alone calls (Begin times) h = refl
unpacked_alone calls (Repeat first) h = refl
unpacked_alone calls (Again first) h = refl

pub IsIn_alone : (calls : List Call) (p : Packed) → IsIn [] p → IsIn calls p
IsIn_alone calls (Run n) h = tt
IsIn_alone calls (Make number) h = omega (arith, h)
IsIn_alone calls (Short short) h = tt
IsIn_alone calls (Set n) h = tt
IsIn_alone calls (Add n) h = tt
IsIn_alone calls Take h = tt
IsIn_alone calls (Test named equal skip) h = tt
IsIn_alone calls (Begin times) h = tt
IsIn_alone calls (Repeat first) h = tt
IsIn_alone calls (Again first) h = tt

-- how many operations it passes over does not depend on the calls
pub most_skipped_alone : (calls : List Call) (p : Packed) → most_skipped (unpacked calls p) ≡ most_skipped (unpacked [] p)
most_skipped_alone calls (Run n) = refl
most_skipped_alone calls (Make number) = refl
most_skipped_alone calls (Short short) = refl
most_skipped_alone calls (Set n) = refl
most_skipped_alone calls (Add n) = refl
most_skipped_alone calls Take = refl
most_skipped_alone calls (Test named equal skip) = refl
most_skipped_alone calls (Begin times) = refl
most_skipped_alone calls (Repeat first) = refl
most_skipped_alone calls (Again first) = refl

-- a further call changes no operation
unpacked_more : (calls : List Call) (made : Call) (p : Packed) → IsIn calls p → unpacked (calls ++ made ∷ []) p ≡ unpacked calls p
unpacked_more calls made (Run n) h = refl
unpacked_more calls made (Make number) h = ap op.Make (get_or_append_left calls (made ∷ []) call.Yield number h)
unpacked_more calls made (Short short) h = refl
unpacked_more calls made (Set n) h = refl
unpacked_more calls made (Add n) h = refl
unpacked_more calls made Take h = refl
unpacked_more calls made (Test named equal skip) h = refl
unpacked_more calls made (Begin times) h = refl
unpacked_more calls made (Repeat first) h = refl
unpacked_more calls made (Again first) h = refl

IsIn_more : (calls : List Call) (made : Call) (p : Packed) → IsIn calls p → IsIn (calls ++ made ∷ []) p
IsIn_more calls made (Run n) h = tt
IsIn_more calls made (Make number) h = omega (arith, h, length-append calls (made ∷ []))
IsIn_more calls made (Short short) h = tt
IsIn_more calls made (Set n) h = tt
IsIn_more calls made (Add n) h = tt
IsIn_more calls made Take h = tt
IsIn_more calls made (Test named equal skip) h = tt
IsIn_more calls made (Begin times) h = tt
IsIn_more calls made (Repeat first) h = tt
IsIn_more calls made (Again first) h = tt

all_more : (calls : List Call) (made : Call) (packed : List Packed) → AreIn calls packed → all_unpacked (calls ++ made ∷ []) packed ≡ all_unpacked calls packed
all_more calls made [] h = refl
all_more calls made (p ∷ packed) h =
    ap (λ o. o ∷ all_unpacked (calls ++ made ∷ []) packed) (unpacked_more calls made p h.0)
    ∙ ap (λ os. unpacked calls p ∷ os) (all_more calls made packed h.1)

AreIn_more : (calls : List Call) (made : Call) (packed : List Packed) → AreIn calls packed → AreIn (calls ++ made ∷ []) packed
AreIn_more calls made [] h = tt
AreIn_more calls made (p ∷ packed) h = (IsIn_more calls made p h.0, AreIn_more calls made packed h.1)

AreIn_push : (calls : List Call) (packed : List Packed) (p : Packed) → AreIn calls packed → IsIn calls p → AreIn calls (packed ++ p ∷ [])
AreIn_push calls [] p h inside = (inside, tt)
AreIn_push calls (q ∷ packed) p h inside = (h.0, AreIn_push calls packed p h.1 inside)

-- an operation that is no call is appended
pub are_in_with : (calls : List Call) (packed : List Packed) (p : Packed) → AreIn calls packed → IsIn [] p → AreIn calls (packed ++ p ∷ [])
are_in_with calls packed p h alone = AreIn_push calls packed p h (IsIn_alone calls p alone)

pub unpacked_with : (calls : List Call) (packed : List Packed) (p : Packed) → IsIn [] p
    → all_unpacked calls (packed ++ p ∷ []) ≡ all_unpacked calls packed ++ unpacked [] p ∷ []
unpacked_with calls packed p alone =
    map_push (unpacked calls) packed p ∙ ap (λ o. all_unpacked calls packed ++ o ∷ []) (unpacked_alone calls p alone)

-- a call is appended
last_call : (calls : List Call) (made : Call) → get_or (calls ++ made ∷ []) (length calls) call.Yield ≡ made
last_call [] call = refl
last_call (c ∷ calls) call = last_call calls call

pub are_in_with_call : (calls : List Call) (packed : List Packed) (made : Call) → AreIn calls packed
    → AreIn (calls ++ made ∷ []) (packed ++ Make (length calls) ∷ [])
are_in_with_call calls packed made h =
    AreIn_push (calls ++ made ∷ []) packed (Make (length calls)) (AreIn_more calls made packed h)
    (omega (arith, length-append calls (made ∷ [])))

pub unpacked_with_call : (calls : List Call) (packed : List Packed) (made : Call) → AreIn calls packed
    → all_unpacked (calls ++ made ∷ []) (packed ++ Make (length calls) ∷ []) ≡ all_unpacked calls packed ++ op.Make made ∷ []
unpacked_with_call calls packed made h =
    map_push (unpacked (calls ++ made ∷ [])) packed (Make (length calls))
    ∙ (ap (λ os. os ++ op.Make (get_or (calls ++ made ∷ []) (length calls) call.Yield) ∷ []) (all_more calls made packed h)
    ∙ ap (λ c. all_unpacked calls packed ++ op.Make c ∷ []) (last_call calls made))

-- a call was appended to both lists
pub record Called (calls new : List Call) (packed more : List Packed) (made : Call) (number : ℕ) : Type 0 where
  pub in_table : new ≡ calls ++ made ∷ []
  pub numbered : number ≡ length calls
  pub appended : more ≡ packed ++ Make number ∷ []

more_packed : (calls new : List Call) (packed more : List Packed) (made : Call) (number : ℕ) → Called calls new packed more made number
    → more ≡ packed ++ Make (length calls) ∷ []
more_packed calls new packed more made number h = h.appended ∙ ap (λ n. packed ++ Make n ∷ []) h.numbered

pub are_in_called : (calls new : List Call) (packed more : List Packed) (made : Call) (number : ℕ) → AreIn calls packed
    → Called calls new packed more made number → AreIn new more
are_in_called calls new packed more made number inside h =
    subst (λ xs. AreIn xs more) (sym h.in_table)
    (subst (AreIn (calls ++ made ∷ [])) (sym (more_packed calls new packed more made number h)) (are_in_with_call calls packed made inside))

pub unpacked_called : (calls new : List Call) (packed more : List Packed) (made : Call) (number : ℕ) (ops : List Op) → AreIn calls packed
    → all_unpacked calls packed ≡ ops → Called calls new packed more made number → all_unpacked new more ≡ ops ++ op.Make made ∷ []
unpacked_called calls new packed more made number ops inside view h =
    ap (λ xs. all_unpacked xs more) h.in_table
    ∙ (ap (all_unpacked (calls ++ made ∷ [])) (more_packed calls new packed more made number h)
    ∙ (unpacked_with_call calls packed made inside ∙ ap (λ os. os ++ op.Make made ∷ []) view))

pub are_in_further : (calls new : List Call) (packed same : List Packed) (made : Call) → AreIn calls packed → new ≡ calls ++ made ∷ []
    → same ≡ packed → AreIn new same
are_in_further calls new packed same made inside e f =
    subst (λ xs. AreIn xs same) (sym e) (subst (AreIn (calls ++ made ∷ [])) (sym f) (AreIn_more calls made packed inside))

-- an operation is replaced by one that is no call
pub are_in_set : (calls : List Call) (packed : List Packed) (at : ℕ) (p : Packed) → AreIn calls packed → IsIn [] p → AreIn calls (slice_set packed at p)
are_in_set calls [] at p h alone = tt
are_in_set calls (q ∷ packed) zero p h alone = (IsIn_alone calls p alone, h.1)
are_in_set calls (q ∷ packed) (suc at) p h alone = (h.0, are_in_set calls packed at p h.1 alone)

pub unpacked_set : (calls : List Call) (packed : List Packed) (at : ℕ) (p : Packed) → IsIn [] p
    → all_unpacked calls (slice_set packed at p) ≡ slice_set (all_unpacked calls packed) at (unpacked [] p)
unpacked_set calls [] at p alone = refl
unpacked_set calls (q ∷ packed) zero p alone = ap (λ o. o ∷ all_unpacked calls packed) (unpacked_alone calls p alone)
unpacked_set calls (q ∷ packed) (suc at) p alone = ap (λ os. unpacked calls q ∷ os) (unpacked_set calls packed at p alone)

-- the operation of a number
pub unpacked_get : (calls : List Call) (packed : List Packed) (n : ℕ) (p : Packed) → slice_get packed n ≡ Some p
    → slice_get (all_unpacked calls packed) n ≡ Some (unpacked calls p)
unpacked_get calls [] n p e = cc
unpacked_get calls (q ∷ packed) zero p e = cc
unpacked_get calls (q ∷ packed) (suc n) p e = unpacked_get calls packed n p e

pub is_in_get : (calls : List Call) (packed : List Packed) (n : ℕ) (p : Packed) → AreIn calls packed → slice_get packed n ≡ Some p → IsIn calls p
is_in_get calls [] n p h e = absurd cc
is_in_get calls (q ∷ packed) zero p h e = let same : q ≡ p = cc in subst (IsIn calls) same h.0
is_in_get calls (q ∷ packed) (suc n) p h e = is_in_get calls packed n p h.1 e

-- an operation stands under a number
pub record IsAt (ops : List Op) (n : ℕ) (o : Op) : Type 0 where
  pub past : n < length ops
  pub at : o ≡ get_or ops n o

pub is_at : (calls : List Call) (packed : List Packed) (ops : List Op) (n : ℕ) (p : Packed) → all_unpacked calls packed ≡ ops
    → n < length packed → p ≡ get_or packed n p → IsAt ops n (unpacked calls p)
is_at calls packed ops n p view past at =
    let e : slice_get ops n ≡ Some (unpacked calls p) =
    ap (λ os. slice_get os n) (sym view) ∙ unpacked_get calls packed n p (slice_get_read packed (length packed) n p refl past at) in
    record {
      past = slice_get_within ops n (unpacked calls p) e;
      at = sym (get_or_from_slice_get ops n (unpacked calls p) (unpacked calls p) e);
    }

-- the call of a number
pub is_in_at : (calls : List Call) (packed : List Packed) (n number : ℕ) (p : Packed) → AreIn calls packed → n < length packed → p ≡ get_or packed n p
    → p ≡ Make number → number < length calls
is_in_at calls packed n number p h past at e =
    subst (IsIn calls) e (is_in_get calls packed n p h (slice_get_read packed (length packed) n p refl past at))

pub call_of_number : (calls : List Call) (packed : List Packed) (ops : List Op) (n : ℕ) (p : Packed) → all_unpacked calls packed ≡ ops
    → n < length packed → p ≡ get_or packed n p → call_at (Some (unpacked calls p)) ≡ call_at (slice_get ops n)
call_of_number calls packed ops n p view past at =
    ap call_at (sym (unpacked_get calls packed n p (slice_get_read packed (length packed) n p refl past at)) ∙ ap (λ os. slice_get os n) view)

pub call_in_table : (calls : List Call) (packed : List Packed) (ops : List Op) (n number : ℕ) (p : Packed) (made : Call) → all_unpacked calls packed ≡ ops
    → n < length packed → p ≡ get_or packed n p → p ≡ Make number → number < length calls → made ≡ get_or calls number made
    → made ≡ call_at (slice_get ops n)
call_in_table calls packed ops n number p made view past at e within own =
    sym (get_or_from_slice_get calls number made call.Yield (slice_get_read calls (length calls) number made refl within own))
    ∙ (ap (λ q. call_at (Some (unpacked calls q))) (sym e) ∙ call_of_number calls packed ops n p view past at)

-- a short call is that of its operation
pub short_of_number : (calls : List Call) (packed : List Packed) (ops : List Op) (n : ℕ) (p : Packed) (short : ShortCall) → all_unpacked calls packed ≡ ops
    → n < length packed → p ≡ get_or packed n p → p ≡ Short short → call_of_short short ≡ call_at (slice_get ops n)
short_of_number calls packed ops n p short view past at e =
    ap (λ q. call_at (Some (unpacked calls q))) (sym e) ∙ call_of_number calls packed ops n p view past at

-- an operation that is neither kept makes no call
no_call_at : (calls : List Call) (p : Packed) → ((number : ℕ) → p ≡ Make number → ⊥) → ((short : ShortCall) → p ≡ Short short → ⊥)
    → call.Yield ≡ call_at (Some (unpacked calls p))
no_call_at calls (Run n) h k = refl
no_call_at calls (Make number) h k = absurd (h number refl)
no_call_at calls (Short short) h k = absurd (k short refl)
no_call_at calls (Set n) h k = refl
no_call_at calls (Add n) h k = refl
no_call_at calls Take h k = refl
no_call_at calls (Test named equal skip) h k = refl
no_call_at calls (Begin times) h k = refl
no_call_at calls (Repeat first) h k = refl
no_call_at calls (Again first) h k = refl

pub none_of_number : (calls : List Call) (packed : List Packed) (ops : List Op) (n : ℕ) (p : Packed) → all_unpacked calls packed ≡ ops
    → n < length packed → p ≡ get_or packed n p → ((number : ℕ) → p ≡ Make number → ⊥) → ((short : ShortCall) → p ≡ Short short → ⊥)
    → call.Yield ≡ call_at (slice_get ops n)
none_of_number calls packed ops n p view past at h k = no_call_at calls p h k ∙ call_of_number calls packed ops n p view past at
