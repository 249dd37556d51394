-- The steps of a body as a tree, and its code in postfix, by which bodies are told apart.
use Rattle.std.specs.Prelude.{ℕ, ◌≡◌, Option, Bool, List, [], ◌∷◌, ◌++◌, refl}
use Rattle.std.proofs.Common.{◌∙◌, ap}
use Rattle.words_numbers.specs.declared.res.Res.{Res}
use Rattle.words_script.specs.declared.call.Call.{Call}

-- a step, and then the rest of the block
pub data Block : Type 0 where
  Nothing : Block
  Running : ℕ → Block → Block
  Making : Call → Block → Block
  Setting : ℕ → Block → Block
  Adding : ℕ → Block → Block
  Taking : Block → Block
  Testing : Res → Bool → Block → Block → Block
  Looping : Option ℕ → Block → Block → Block
  Guarding : ℕ → Bool → Block → Block → Block

-- one sign of a block in postfix
pub data Sign : Type 0 where
  nothing : Sign
  running : ℕ → Sign
  making : Call → Sign
  setting : ℕ → Sign
  adding : ℕ → Sign
  taking : Sign
  testing : Res → Bool → Sign
  looping : Option ℕ → Sign
  guarding : ℕ → Bool → Sign

abbrev pub signs : Block → List Sign
signs Nothing = nothing ∷ []
signs (Running n rest) = signs rest ++ running n ∷ []
signs (Making call rest) = signs rest ++ making call ∷ []
signs (Setting n rest) = signs rest ++ setting n ∷ []
signs (Adding n rest) = signs rest ++ adding n ∷ []
signs (Taking rest) = signs rest ++ taking ∷ []
signs (Testing res equal body rest) = signs rest ++ (signs body ++ testing res equal ∷ [])
signs (Looping times body rest) = signs rest ++ (signs body ++ looping times ∷ [])
signs (Guarding cleanup run body rest) = signs rest ++ (signs body ++ guarding cleanup run ∷ [])

abbrev pub with_one : (Block → Block) → List Block → List Block
with_one make [] = []
with_one make (b ∷ bs) = make b ∷ bs

abbrev pub with_two : (Block → Block → Block) → List Block → List Block
with_two make [] = []
with_two make (b ∷ []) = []
with_two make (b ∷ r ∷ bs) = make b r ∷ bs

abbrev pub put : Sign → List Block → List Block
put nothing bs = Nothing ∷ bs
put (running n) bs = with_one (Running n) bs
put (making call) bs = with_one (Making call) bs
put (setting n) bs = with_one (Setting n) bs
put (adding n) bs = with_one (Adding n) bs
put taking bs = with_one Taking bs
put (testing res equal) bs = with_two (Testing res equal) bs
put (looping times) bs = with_two (Looping times) bs
put (guarding cleanup run) bs = with_two (Guarding cleanup run) bs

abbrev pub built : List Sign → List Block → List Block
built [] bs = bs
built (s ∷ ss) bs = built ss (put s bs)

abbrev pub first : List Block → Block
first [] = Nothing
first (b ∷ bs) = b

abbrev pub back : List Sign → Block
back ss = first (built ss [])

pub built-append : (ss ts : List Sign) (bs : List Block) → built (ss ++ ts) bs ≡ built ts (built ss bs)
built-append [] ts bs = refl
built-append (s ∷ ss) ts bs = built-append ss ts (put s bs)

-- the signs of two blocks and then one sign
pub built-two : (b r : Block) (s : Sign) (bs : List Block)
    → built (signs r) bs ≡ r ∷ bs → built (signs b) (r ∷ bs) ≡ b ∷ r ∷ bs
    → built (signs r ++ (signs b ++ s ∷ [])) bs ≡ put s (b ∷ r ∷ bs)
built-two b r s bs rest body =
    built-append (signs r) (signs b ++ s ∷ []) bs ∙ (ap (built (signs b ++ s ∷ [])) rest ∙
    (built-append (signs b) (s ∷ []) (r ∷ bs) ∙ ap (built (s ∷ [])) body))

-- the signs of one block and then one sign
pub built-one : (r : Block) (s : Sign) (bs : List Block)
    → built (signs r) bs ≡ r ∷ bs → built (signs r ++ s ∷ []) bs ≡ put s (r ∷ bs)
built-one r s bs rest = built-append (signs r) (s ∷ []) bs ∙ ap (built (s ∷ [])) rest

pub built-signs : (b : Block) (bs : List Block) → built (signs b) bs ≡ b ∷ bs
built-signs Nothing bs = refl
built-signs (Running n r) bs = built-one r (running n) bs (built-signs r bs)
built-signs (Making call r) bs = built-one r (making call) bs (built-signs r bs)
built-signs (Setting n r) bs = built-one r (setting n) bs (built-signs r bs)
built-signs (Adding n r) bs = built-one r (adding n) bs (built-signs r bs)
built-signs (Taking r) bs = built-one r taking bs (built-signs r bs)
built-signs (Testing res equal b r) bs = built-two b r (testing res equal) bs (built-signs r bs) (built-signs b (r ∷ bs))
built-signs (Looping times b r) bs = built-two b r (looping times) bs (built-signs r bs) (built-signs b (r ∷ bs))
built-signs (Guarding cleanup run b r) bs = built-two b r (guarding cleanup run) bs (built-signs r bs) (built-signs b (r ∷ bs))

pub back-signs : (b : Block) → back (signs b) ≡ b
back-signs b = ap first (built-signs b [])
