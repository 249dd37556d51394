-- The lines of a step and of a named declaration, by their first line and their block.
use Rattle.std.proofs.Common.{◌≡◌, ◌<◌, ℕ, List, [], ◌∷◌, ◌++◌, refl, sym, None, Some, arith}
use Rattle.words_script.specs.Block.{Block}
use Rattle.words_script.specs.Tree.{block_of, step_count}
use Rattle.words_script.specs.declared.body.Step.{Step}
use Rattle.words_script.specs.declared.body.Step.TheVariants as step
use Rattle.words_script.specs.declared.decl.Decl.{Decl}
use Rattle.words_script.specs.declared.decl.Kind.{Kind}
use Rattle.words_script.specs.declared.decl.Kind.TheVariants as kind
use Rattle.script_writer.specs.Line.{line_text}
use Rattle.script_writer.specs.Canon.{block_lines, kind_lines, end_words, text_of}
use Rattle.script_writer.specs.Firsts.{step_words, block_in, closing_words, named_words, body_in}
use Rattle.script_writer.proofs.Text.{text_of-block}

some_none : {A : Type 0} {P : Type 0} (x : A) → Some x ≡ None → P
some_none x e = absurd (cc)

-- a step without a block is one line
pub one_step : (decls : List Decl) (s : Step) → None ≡ block_in s → line_text (step_words decls s) ≡ text_of (block_lines decls (block_of (s ∷ [])))
one_step decls (step.Run n) e = refl
one_step decls (step.Make call) e = refl
one_step decls (step.Set n) e = refl
one_step decls (step.Add n) e = refl
one_step decls step.Take e = refl
one_step decls (step.Test res equal body) e = some_none body (sym e)
one_step decls (step.Loop times body) e = some_none body (sym e)
one_step decls (step.Guard u body run) e = some_none body (sym e)

-- a block stands between its first line and its last
abbrev Between : List Decl → Step → Block → Type 0
Between decls s b = line_text (step_words decls s) ++ (text_of (block_lines decls b) ++ line_text (closing_words s)) ≡ text_of (block_lines decls (block_of (s ∷ [])))

pub block_step : (decls : List Decl) (s : Step) (b : Block) → Some b ≡ block_in s → Between decls s b
block_step decls (step.Run n) b e = some_none b e
block_step decls (step.Make call) b e = some_none b e
block_step decls (step.Set n) b e = some_none b e
block_step decls (step.Add n) b e = some_none b e
block_step decls step.Take b e = some_none b e
block_step decls (step.Test res equal body) b e = let same : b ≡ body = cc in rw same (sym (text_of-block (step_words decls (step.Test res equal body)) (block_lines decls body) end_words))
block_step decls (step.Loop times body) b e = let same : b ≡ body = cc in rw same (sym (text_of-block (step_words decls (step.Loop times body)) (block_lines decls body) end_words))
block_step decls (step.Guard u body run) b e = let same : b ≡ body = cc in rw same (sym (text_of-block (step_words decls (step.Guard u body run)) (block_lines decls body) (closing_words (step.Guard u body run))))

-- a block has fewer steps than what it stands in
pub block_smaller : (s : Step) (b : Block) → Some b ≡ block_in s → step_count b < step_count (block_of (s ∷ []))
block_smaller (step.Run n) b e = some_none b e
block_smaller (step.Make call) b e = some_none b e
block_smaller (step.Set n) b e = some_none b e
block_smaller (step.Add n) b e = some_none b e
block_smaller step.Take b e = some_none b e
block_smaller (step.Test res equal body) b e = let same : b ≡ body = cc in rw same (omega arith)
block_smaller (step.Loop times body) b e = let same : b ≡ body = cc in rw same (omega arith)
block_smaller (step.Guard u body run) b e = let same : b ≡ body = cc in rw same (omega arith)

-- the same of a declaration
pub one_kind : (decls : List Decl) (name : List ℕ) (k : Kind) → None ≡ body_in k → line_text (named_words name k) ≡ text_of (kind_lines decls name k)
one_kind decls name (kind.Thread policy start body) e = some_none body (sym e)
one_kind decls name (kind.Handler body) e = some_none body (sym e)
one_kind decls name (kind.Cleanup body) e = some_none body (sym e)
one_kind decls name (kind.Mutex protocol recursive) e = refl
one_kind decls name kind.Cond e = refl
one_kind decls name (kind.Sem value) e = refl
one_kind decls name (kind.Queue depth max_len nonblock) e = refl
one_kind decls name (kind.Timer sig value real) e = refl

pub block_kind : (decls : List Decl) (name : List ℕ) (k : Kind) (b : Block) → Some b ≡ body_in k →
    line_text (named_words name k) ++ (text_of (block_lines decls b) ++ line_text end_words) ≡ text_of (kind_lines decls name k)
block_kind decls name (kind.Thread policy start body) b e = let same : b ≡ body = cc in rw same (sym (text_of-block (named_words name (kind.Thread policy start body)) (block_lines decls body) end_words))
block_kind decls name (kind.Handler body) b e = let same : b ≡ body = cc in rw same (sym (text_of-block (named_words name (kind.Handler body)) (block_lines decls body) end_words))
block_kind decls name (kind.Cleanup body) b e = let same : b ≡ body = cc in rw same (sym (text_of-block (named_words name (kind.Cleanup body)) (block_lines decls body) end_words))
block_kind decls name (kind.Mutex protocol recursive) b e = some_none b e
block_kind decls name kind.Cond b e = some_none b e
block_kind decls name (kind.Sem value) b e = some_none b e
block_kind decls name (kind.Queue depth max_len nonblock) b e = some_none b e
block_kind decls name (kind.Timer sig value real) b e = some_none b e
