use Rattle.std.proofs.Common.{◌≡◌, ◌++◌, ◌-◌, [], length, take, replicate}
use Rattle.std.specs.Prelude.{map}
use Rattle.std.specs.List.{filter_map}
use Rattle.rules_machine.specs.Declarations.{ThreadDecl, declared_thread}
use Rattle.kernel_opening.proofs.opening.open_names.Given as goal

abbrev pub invariant-loop-decl : goal.invariant-loop-decl
invariant-loop-decl l = record {
  count : l.t ≡ length (filter_map declared_thread (take l.decl-index l.decl-items));
  names : l.names ≡ map (λ (d : ThreadDecl). d.name) (filter_map declared_thread (take l.decl-index l.decl-items)) ++ replicate (l.initial.threads - l.t) [];
}
