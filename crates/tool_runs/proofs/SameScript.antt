-- A text is read as one script.
use Rattle.std.proofs.Common.{◌≡◌, ◌∙◌, Ok, Result, sym}
use Rattle.words_script.specs.declared.decl.Script.{Script}

pub same_script : {E : Type 0} (a b : Script) (e : Result Script E) → e ≡ Ok a → e ≡ Ok b → a ≡ b
same_script a b e is also = cc (sym is ∙ also)
