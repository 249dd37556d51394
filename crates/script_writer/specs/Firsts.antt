-- The lines of a step and of a named declaration: a first one, and, where there is a block, its lines and a last one.
use Rattle.std.specs.Prelude.{ℕ, List, [], ◌∷◌, ◌++◌, Option, None, Some, codes, decimal, length, min, ◌^◌, ◌-◌}
use Rattle.words_script.specs.Block.{Block}
use Rattle.words_script.specs.declared.body.Step.{Step}
use Rattle.words_script.specs.declared.body.Step.TheVariants as step
use Rattle.words_script.specs.declared.decl.Decl.{Decl}
use Rattle.words_script.specs.declared.decl.Kind.{Kind}
use Rattle.words_script.specs.declared.decl.Kind.TheVariants as kind
use Rattle.words_numbers.specs.Words.{signal_word}
use Rattle.script_writer.specs.Canon.{Words, policy_words, start_words, protocol_words, flag_words, call_words, run_words, set_words, add_words, take_words, test_words, loop_words, push_words, pop_words, end_words}

abbrev pub step_words : List Decl → Step → Words
step_words decls (step.Run n) = run_words n
step_words decls (step.Make call) = call_words decls call
step_words decls (step.Set n) = set_words n
step_words decls (step.Add n) = add_words n
step_words decls step.Take = take_words
step_words decls (step.Test res equal body) = test_words res equal
step_words decls (step.Loop times body) = loop_words times
step_words decls (step.Guard u body run) = push_words decls u

abbrev pub block_in : Step → Option Block
block_in (step.Test res equal body) = Some body
block_in (step.Loop times body) = Some body
block_in (step.Guard u body run) = Some body
block_in other = None

abbrev pub closing_words : Step → Words
closing_words (step.Guard u body run) = pop_words run
closing_words other = end_words

abbrev pub named_words : List ℕ → Kind → Words
named_words name (kind.Thread policy start body) = codes "thread" ∷ name ∷ (policy_words policy ++ start_words start)
named_words name (kind.Handler body) = codes "handler" ∷ name ∷ []
named_words name (kind.Cleanup body) = codes "cleanup" ∷ name ∷ []
named_words name (kind.Mutex protocol recursive) = codes "mutex" ∷ name ∷ (protocol_words protocol ++ flag_words (codes "recursive") recursive)
named_words name kind.Cond = codes "cond" ∷ name ∷ []
named_words name (kind.Sem value) = codes "sem" ∷ name ∷ decimal value ∷ []
named_words name (kind.Queue depth max_len nonblock) = codes "queue" ∷ name ∷ decimal depth ∷ decimal max_len ∷ flag_words (codes "nonblock") nonblock
named_words name (kind.Timer sig value real) = codes "timer" ∷ name ∷ signal_word sig ∷ decimal value ∷ flag_words (codes "real") real

abbrev pub body_in : Kind → Option Block
body_in (kind.Thread policy start body) = Some body
body_in (kind.Handler body) = Some body
body_in (kind.Cleanup body) = Some body
body_in other = None

-- how long a text is, as a number of 64 bits
abbrev pub capped_len : List ℕ → ℕ
capped_len text = min (length text) (2 ^ 64 - 1)
