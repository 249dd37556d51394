-- Writes at places of one buffer, one after another.
use Rattle.std.proofs.Common.{◌≡◌, ℕ, ◌+◌, ◌-◌, ◌≤◌, List, ◌++◌, length, take, drop, ap, sym, ◌∙◌, arith, append_assoc, length-append, length-take-le, length-drop, take-add, take-take, take_at, drop_at, take_all, take-append-drop, subst}
use Rattle.std.proofs.lemmas.Slice.{take-put_mid, between_is}
use Rattle.std.proofs.lemmas.List.{drop-append-le, drop-drop}
use Rattle.std.specs.List.{slice_range}
use borrow.Rule.Slice.PartMut.{put_mid, same_len_mid}
use Rattle.parts_bytes.specs.Placed.{Placed}

-- a second write begins where the first ended
pub placed_then : {a b c xs ys : List ℕ} {i j k : ℕ} → Placed a b i xs j → Placed b c j ys k → Placed a c i (xs ++ ys) k
placed_then {a} {b} {c} {xs} {ys} {i} p q = record {
  front = q.front ∙ ap (λ l. l ++ ys) p.front ∙ append_assoc (take i a) xs ys;
  moved = omega (arith, p.moved, q.moved, length-append xs ys);
  same = q.same ∙ p.same;
}

-- only the first n bytes of a write count
pub placed_less : {a b xs : List ℕ} {i j : ℕ} (n : ℕ) → i ≤ length a → n ≤ length xs → Placed a b i xs j → Placed a b i (take n xs) (i + n)
placed_less {a} {b} {xs} {i} {j} n within few p =
    let front = length-take-le i a within in
    record {
      front = sym (take-take (i + n) j b (omega (arith, p.moved))) ∙ ap (take (i + n)) p.front ∙ take-add i n (take i a ++ xs)
          ∙ (λ k. take_at (take i a) xs i front k ++ take n (drop_at (take i a) xs i front k));
      moved = omega (arith, length-take-le n xs few);
      same = p.same;
    }

-- a part of the buffer was written, and its first n bytes count
pub placed_part : (a ys : List ℕ) (i k n : ℕ) → i + k ≤ length a → length ys ≡ k → n ≤ k → Placed a (put_mid i k a ys) i (take n ys) (i + n)
placed_part a ys i k n fits long few =
    placed_less n (omega arith) (omega arith) (record {
      front = take-put_mid i k a ys (i + k) (omega arith) (omega arith);
      moved = omega arith;
      same = same_len_mid i k a ys (omega (arith, length-take-le k (drop i a) (omega (arith, length-drop i a))));
    })

-- the first and the last `half` bytes, laid over each other, are all
pub placed_ends : {a b c : List ℕ} {i j k : ℕ} (bytes : List ℕ) (half : ℕ) → i ≤ length a → half ≤ length bytes → length bytes ≤ half + half
    → Placed a b i (take half bytes) j → Placed b c (i + (length bytes - half)) (take half (drop (length bytes - half) bytes)) k
    → Placed a c i bytes k
placed_ends {a} {b} {c} {i} {j} {k} bytes half within fits covers p q =
    let last = length bytes - half in
    let both = placed_then (placed_less last within (omega (arith, length-take-le half bytes fits)) p) q in
    let whole : take last (take half bytes) ++ take half (drop last bytes) ≡ bytes =
    (λ x. take-take last half bytes (omega arith) x ++ take_all half (drop last bytes) (omega (arith, length-drop last bytes)) x)
    ∙ take-append-drop last bytes in
    record { front = both.front ∙ ap (λ l. take i a ++ l) whole; moved = both.moved ∙ ap (λ l. i + length l) whole; same = both.same }

-- what stands from `start` on grew by what was placed behind it
pub range_grows : (a b bytes : List ℕ) (start at end : ℕ) → start ≤ at → at ≤ length a → Placed a b at bytes end
    → slice_range b start end ≡ slice_range a start at ++ bytes
range_grows a b bytes start at end within long p =
    between_is b start end ∙ ap (drop start) p.front ∙ drop-append-le start (take at a) bytes (omega (arith, length-take-le at a long))
    ∙ ap (λ t. t ++ bytes) (sym (between_is a start at))

-- the same of a buffer whose text has other names before and after, and of what is seen of it
pub held_grows : {text before placed now held bytes : List ℕ} {start at end : ℕ} → now ≡ placed → before ≡ text → slice_range text start at ≡ held
    → start ≤ at → at ≤ length text → Placed before placed at bytes end → slice_range now start end ≡ held ++ bytes
held_grows {text} {before} {placed} {now} {held} {bytes} {start} {at} {end} after same seen within long p =
    ap (λ t. slice_range t start end) after
    ∙ range_grows text placed bytes start at end within long (subst (λ t. Placed t placed at bytes end) same p)
    ∙ ap (λ t. t ++ bytes) seen

-- what stands from further on is what the front is dropped from
pub range_shrinks : (text : List ℕ) (start count end : ℕ) → slice_range text (start + count) end ≡ drop count (slice_range text start end)
range_shrinks text start count end =
    between_is text (start + count) end ∙ sym (drop-drop count start (take end text)) ∙ ap (drop count) (sym (between_is text start end))
