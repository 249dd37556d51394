-- The threads of a script, one after another.
use Rattle.std.proofs.Common.{◌≡◌, ◌<◌, ℕ, suc, ◌+◌, ◌-◌, List, [], ◌∷◌, ◌++◌, sym, subst, ◌∙◌, arith, append_assoc, append-nil}
use Rattle.words_script.specs.declared.decl.Decl.{Decl}
use Rattle.script_generator.specs.Draws.{Drawn}
use Rattle.script_generator.specs.Generated.{thread_from, threads_from}

-- the next of the threads that are left
pub one_more : (done : List Decl) (count k g : ℕ) → k < count
    → done ++ threads_from (count - k) k g ≡ (done ++ (thread_from k g).value ∷ []) ++ threads_from (count - (k + 1)) (k + 1) (thread_from k g).state
one_more done count k g h =
    let left : count - k ≡ suc (count - (k + 1)) = omega arith in
    rw left (sym (append_assoc done ((thread_from k g).value ∷ []) (threads_from (count - (k + 1)) (k + 1) (thread_from k g).state)))

-- none is left
pub no_more : (done : List Decl) (count k g : ℕ) → k ≡ count → done ++ threads_from (count - k) k g ≡ done
no_more done count k g h =
    let left : count - k ≡ 0 = omega arith in
    rw left (append-nil done)

-- a further thread was made
pub one_made : (done new all : List Decl) (decl : Decl) (count k g behind : ℕ) → k < count → thread_from k g ≡ record { value = decl; state = behind }
    → new ≡ done ++ decl ∷ [] → done ++ threads_from (count - k) k g ≡ all → new ++ threads_from (count - (k + 1)) (k + 1) behind ≡ all
one_made done new all decl count k g behind h made is before =
    let e : (done ++ (thread_from k g).value ∷ []) ++ threads_from (count - (k + 1)) (k + 1) (thread_from k g).state ≡ all = sym (one_more done count k g h) ∙ before in
    rw is (subst (λ (d : Drawn Decl). (done ++ d.value ∷ []) ++ threads_from (count - (k + 1)) (k + 1) d.state ≡ all) made e)
