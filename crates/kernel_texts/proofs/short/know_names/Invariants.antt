use Rattle.std.proofs.Common.{List, drop, length, ℕ, ◌≤◌}
use Rattle.std.specs.List.{AllByRecursion}
use Rattle.words_script.specs.declared.name_kind.NameKind.{NameKind}
use Rattle.script_writer.specs.Names.{names_of}
use Rattle.kernel_texts.proofs.short.know_names.Given as goal

-- where the rest are short all are
abbrev pub invariant-loop-decl : goal.invariant-loop-decl
invariant-loop-decl l =
    (of : NameKind) → AllByRecursion (λ (n : List ℕ). length n ≤ 32) (names_of of (drop l.decl-index l.decls)) → AllByRecursion (λ (n : List ℕ). length n ≤ 32) (names_of of l.decls)
