-- Tables that serve for the lines that begin with one byte.
use Rattle.std.proofs.Common.{◌≡◌, ◌<◌, ℕ, zero, suc, ◌+◌, ◌-◌, ◌≤◌, List, [], ◌∷◌, ◌++◌, length, take, get_or, refl, sym, ap, ◌∙◌, cond, Some, subst, arith, false, map}
use Rattle.std.proofs.Math.Seq.{take-length}
use Rattle.std.proofs.lemmas.List.{take_more, map-append}
use Rattle.script_table.specs.declared.pattern.Table.{Table}
use Rattle.script_table.specs.Patterns.{Spot, Keyword, Row, spot_of, row_of}
use Rattle.script_table.specs.declared.pattern.Pattern.{Pattern}
use Rattle.script_table.specs.LineFaults.{fits, fitting_row}
use Rattle.script_table.proofs.ThreeParts.{fitting_parts}
use Rattle.script_reader.specs.ByLetter.{begins, Serves, ServeFrom}

pub fits_not : (b : ℕ) (k : List ℕ) (spots : List Spot) (cs : List ℕ) (ws : List (List ℕ)) → begins b k ≡ false → fits (Keyword k ∷ spots) ((b ∷ cs) ∷ ws) ≡ false
fits_not b [] ss cs ws e = refl
fits_not b (c ∷ k) ss cs ws e = rw e refl

-- the same pattern for each line that begins with this byte
abbrev pub Same : ℕ → List Row → List Row → Type 0
Same b xs ys = (cs : List ℕ) (ws : List (List ℕ)) → fitting_row xs ((b ∷ cs) ∷ ws) ≡ fitting_row ys ((b ∷ cs) ∷ ws)

pub past : (b : ℕ) (p : Pattern) (rows found : List Row) → begins b p.keyword.now ≡ false → Same b found rows → Same b found (row_of p ∷ rows)
past b p rows found e same cs ws = rw (fits_not b p.keyword.now (map spot_of p.places.now) cs ws e) (same cs ws)

-- behind all others
fits_not_last : (b : ℕ) (p : Pattern) (rows : List Row) → begins b p.keyword.now ≡ false → Same b rows (rows ++ row_of p ∷ [])
fits_not_last b p [] e cs ws = rw (fits_not b p.keyword.now (map spot_of p.places.now) cs ws e) refl
fits_not_last b p (r ∷ rows) e cs ws = ap (cond (fits r.places ((b ∷ cs) ∷ ws)) (Some r)) (fits_not_last b p rows e cs ws)

pub past_last : (b : ℕ) (ps : List Pattern) (d : Pattern) (found : List Row) → 1 ≤ length ps → begins b (get_or ps (length ps - 1) d).keyword.now ≡ false
    → Same b found (map row_of (take (length ps - 1) ps)) → Same b found (map row_of ps)
past_last b ps d found some e same cs ws =
    let n = length ps - 1 in
    let last = get_or ps n d in
    let sum : length ps ≡ n + 1 = omega arith in
    let whole : ps ≡ take n ps ++ last ∷ [] = sym (take-length ps) ∙ (ap (λ k. take k ps) sum ∙ take_more ps n d (omega arith)) in
    same cs ws ∙ (fits_not_last b last (map row_of (take n ps)) e cs ws
    ∙ ap (λ rows. fitting_row rows ((b ∷ cs) ∷ ws)) (sym (ap (map row_of) whole ∙ map-append row_of (take n ps) (last ∷ []))))

pub three : (b : ℕ) (xs ys zs xs' ys' zs' : List Row) → Same b xs xs' → Same b ys ys' → Same b zs zs' → Same b (xs ++ (ys ++ zs)) (xs' ++ (ys' ++ zs'))
three b xs ys zs xs' ys' zs' one two last cs ws =
    let w = (b ∷ cs) ∷ ws in
    rw (fitting_parts xs ys zs w, fitting_parts xs' ys' zs' w, one cs ws, two cs ws, last cs ws) refl

pub serves_at : (rows : List Row) (b : ℕ) (ts : List Table) (k : ℕ) (t : Table) → k < length ts → ServeFrom rows b ts → Serves rows (b + k) (get_or ts k t)
serves_at rows b [] k t lt s = absurd (omega arith)
serves_at rows b (u ∷ ts) zero t lt s = let e : b ≡ b + 0 = omega arith in subst (λ n. Serves rows n u) e s.0
serves_at rows b (u ∷ ts) (suc k) t lt s =
    let e : (b + 1) + k ≡ b + suc k = omega arith in
    subst (λ n. Serves rows n (get_or ts k t)) e (serves_at rows (b + 1) ts k t (omega arith) s.1)

pub serve_more : (rows : List Row) (b n : ℕ) (ts : List Table) (t : Table) → n ≡ b + length ts → ServeFrom rows b ts → Serves rows n t → ServeFrom rows b (ts ++ t ∷ [])
serve_more rows b n [] t is s h = let e : n ≡ b = omega arith in (subst (λ m. Serves rows m t) e h, tt)
serve_more rows b n (u ∷ ts) t is s h = let e : n ≡ (b + 1) + length ts = omega arith in (s.0, serve_more rows (b + 1) n ts t e s.1 h)
