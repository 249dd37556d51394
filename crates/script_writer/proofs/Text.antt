-- The text of lines.
use Rattle.std.proofs.Common.{◌≡◌, ℕ, List, [], ◌∷◌, ◌++◌, refl, sym, ◌∙◌, ap, append_assoc, append-nil, ◌+◌, ◌<◌, length, take, drop, get_or}
use Rattle.std.proofs.lemmas.List.{take-append-drop, take_more}
use Rattle.words_script.specs.declared.body.Step.{Step}
use Rattle.words_script.specs.declared.body.Step.TheVariants.{Run, Make, Set, Add, Take, Test, Loop, Guard}
use Rattle.words_script.specs.declared.decl.Decl.{Decl}
use Rattle.words_script.specs.Tree.{block_of}
use Rattle.script_lex.specs.Joined.{joined_words}
use Rattle.script_writer.specs.Line.{line_text}
use Rattle.script_writer.specs.Canon.{Words, block_lines, run_words, set_words, add_words, take_words, end_words, test_words, loop_words, push_words, pop_words, text_of, call_words, decl_lines, decls_lines}

pub text_of-one : (words : Words) (lines : List Words) → text_of (words ∷ lines) ≡ line_text words ++ text_of lines
text_of-one words lines = sym (append_assoc (joined_words words) (10 ∷ []) (text_of lines))

pub text_of-append : (xs ys : List Words) → text_of (xs ++ ys) ≡ text_of xs ++ text_of ys
text_of-append [] ys = refl
text_of-append (x ∷ xs) ys =
    ap (λ t. joined_words x ++ 10 ∷ t) (text_of-append xs ys) ∙ sym (append_assoc (joined_words x) (10 ∷ text_of xs) (text_of ys))

-- a block between the line that opens it and the line that closes it
pub text_of-block : (opening : Words) (lines : List Words) (closing : Words) → text_of (opening ∷ (lines ++ closing ∷ [])) ≡ line_text opening ++ (text_of lines ++ line_text closing)
text_of-block opening lines closing =
    text_of-one opening (lines ++ closing ∷ []) ∙ ap (λ t. line_text opening ++ t) (text_of-append lines (closing ∷ []))

block_between : (body rest more : List Words) (opening closing : Words)
    → (opening ∷ (body ++ (closing ∷ (rest ++ more)))) ≡ (opening ∷ (body ++ (closing ∷ rest))) ++ more
block_between body rest more opening closing = ap (λ ls. opening ∷ ls) (sym (append_assoc body (closing ∷ rest) more))

pub block_lines-append : (decls : List Decl) (xs ys : List Step) → block_lines decls (block_of (xs ++ ys)) ≡ block_lines decls (block_of xs) ++ block_lines decls (block_of ys)
block_lines-append decls [] ys = refl
block_lines-append decls (Run n ∷ xs) ys = ap (λ ls. run_words n ∷ ls) (block_lines-append decls xs ys)
block_lines-append decls (Make call ∷ xs) ys = ap (λ ls. call_words decls call ∷ ls) (block_lines-append decls xs ys)
block_lines-append decls (Set n ∷ xs) ys = ap (λ ls. set_words n ∷ ls) (block_lines-append decls xs ys)
block_lines-append decls (Add n ∷ xs) ys = ap (λ ls. add_words n ∷ ls) (block_lines-append decls xs ys)
block_lines-append decls (Take ∷ xs) ys = ap (λ ls. take_words ∷ ls) (block_lines-append decls xs ys)
block_lines-append decls (Test res equal body ∷ xs) ys =
    ap (λ ls. test_words res equal ∷ (block_lines decls body ++ (end_words ∷ ls))) (block_lines-append decls xs ys)
    ∙ block_between (block_lines decls body) (block_lines decls (block_of xs)) (block_lines decls (block_of ys)) (test_words res equal) end_words
block_lines-append decls (Loop times body ∷ xs) ys =
    ap (λ ls. loop_words times ∷ (block_lines decls body ++ (end_words ∷ ls))) (block_lines-append decls xs ys)
    ∙ block_between (block_lines decls body) (block_lines decls (block_of xs)) (block_lines decls (block_of ys)) (loop_words times) end_words
block_lines-append decls (Guard u body run ∷ xs) ys =
    ap (λ ls. push_words decls u ∷ (block_lines decls body ++ (pop_words run ∷ ls))) (block_lines-append decls xs ys)
    ∙ block_between (block_lines decls body) (block_lines decls (block_of xs)) (block_lines decls (block_of ys)) (push_words decls u) (pop_words run)

-- the text of a body's steps
abbrev pub steps_text : List Decl → List Step → List ℕ
steps_text decls steps = text_of (block_lines decls (block_of steps))

steps_text-append : (decls : List Decl) (xs ys : List Step) → steps_text decls (xs ++ ys) ≡ steps_text decls xs ++ steps_text decls ys
steps_text-append decls xs ys =
    ap text_of (block_lines-append decls xs ys) ∙ text_of-append (block_lines decls (block_of xs)) (block_lines decls (block_of ys))

-- one more step
pub steps_text_more : (decls : List Decl) (steps : List Step) (i : ℕ) (s : Step) → i < length steps → s ≡ get_or steps i s
    → steps_text decls (take i steps) ++ steps_text decls (s ∷ []) ≡ steps_text decls (take (i + 1) steps)
steps_text_more decls steps i s h is =
    ap (λ x. steps_text decls (take i steps) ++ steps_text decls (x ∷ [])) is
    ∙ sym (steps_text-append decls (take i steps) (get_or steps i s ∷ []))
    ∙ sym (ap (steps_text decls) (take_more steps i s h))

-- the steps before one, that step, and the steps behind it
pub steps_text_split : (decls : List Decl) (steps : List Step) (i : ℕ) (s : Step) → i < length steps → s ≡ get_or steps i s
    → steps_text decls (take i steps) ++ (steps_text decls (s ∷ []) ++ steps_text decls (drop (i + 1) steps)) ≡ steps_text decls steps
steps_text_split decls steps i s h is =
    sym (append_assoc (steps_text decls (take i steps)) (steps_text decls (s ∷ [])) (steps_text decls (drop (i + 1) steps)))
    ∙ ap (λ t. t ++ steps_text decls (drop (i + 1) steps)) (steps_text_more decls steps i s h is)
    ∙ sym (steps_text-append decls (take (i + 1) steps) (drop (i + 1) steps))
    ∙ ap (steps_text decls) (take-append-drop (i + 1) steps)

decls_lines-append : (all xs ys : List Decl) → decls_lines all (xs ++ ys) ≡ decls_lines all xs ++ decls_lines all ys
decls_lines-append all [] ys = refl
decls_lines-append all (d ∷ xs) ys =
    ap (λ ls. decl_lines all d ++ ls) (decls_lines-append all xs ys)
    ∙ sym (append_assoc (decl_lines all d) (decls_lines all xs) (decls_lines all ys))

abbrev pub decls_text : List Decl → List Decl → List ℕ
decls_text all decls = text_of (decls_lines all decls)

decls_text-append : (all xs ys : List Decl) → decls_text all (xs ++ ys) ≡ decls_text all xs ++ decls_text all ys
decls_text-append all xs ys = ap text_of (decls_lines-append all xs ys) ∙ text_of-append (decls_lines all xs) (decls_lines all ys)

decls_text-one : (all : List Decl) (d : Decl) → decls_text all (d ∷ []) ≡ text_of (decl_lines all d)
decls_text-one all d = ap text_of (append-nil (decl_lines all d))

-- one more declaration
pub decls_text_more : (all decls : List Decl) (i : ℕ) (d : Decl) → i < length decls → d ≡ get_or decls i d
    → decls_text all (take i decls) ++ text_of (decl_lines all d) ≡ decls_text all (take (i + 1) decls)
decls_text_more all decls i d h is =
    ap (λ t. decls_text all (take i decls) ++ t) (sym (decls_text-one all d) ∙ ap (λ x. decls_text all (x ∷ [])) is)
    ∙ sym (decls_text-append all (take i decls) (get_or decls i d ∷ []))
    ∙ sym (ap (decls_text all) (take_more decls i d h))

-- the declarations before one, that one, and those behind it
pub decls_text_split : (all decls : List Decl) (i : ℕ) (d : Decl) → i < length decls → d ≡ get_or decls i d
    → decls_text all (take i decls) ++ (text_of (decl_lines all d) ++ decls_text all (drop (i + 1) decls)) ≡ decls_text all decls
decls_text_split all decls i d h is =
    sym (append_assoc (decls_text all (take i decls)) (text_of (decl_lines all d)) (decls_text all (drop (i + 1) decls)))
    ∙ ap (λ t. t ++ decls_text all (drop (i + 1) decls)) (decls_text_more all decls i d h is)
    ∙ sym (decls_text-append all (take (i + 1) decls) (drop (i + 1) decls))
    ∙ ap (decls_text all) (take-append-drop (i + 1) decls)
