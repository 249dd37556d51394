-- What a script must keep for its run to stay good: with a quantum of 0, or a thread of priority 0, it does not.
use Rattle.std.proofs.Common.{Some, [], ap, arith, false, length, refl, true, ℕ, ◌<◌, ◌∷◌, ◌≡◌}
use Rattle.words_script.specs.Block.{Guarding, Making, Nothing, Running}
use Rattle.words_script.specs.declared.call.Call.TheVariants as call
use Rattle.words_script.specs.declared.decl.Decl.TheVariants as decl
use Rattle.words_script.specs.declared.decl.Kind.TheVariants as kind
use Rattle.words_script.specs.declared.decl.Script.{Script}
use Rattle.words_script.specs.declared.policy.Policy.TheVariants as policy
use Rattle.words_script.specs.declared.policy.Protocol.TheVariants as protocol
use Rattle.rules_machine.specs.WellFormed.{IsPriority, IsWellFormed}
use Rattle.rules_lists.specs.Threads.{times}
use Rattle.rules_lists.specs.Lists.{list_of}
use Rattle.rules_machine.specs.Machine.{machine}
use Rattle.rules_machine.specs.Priorities.{exec_in}
use Rattle.rules_machine.specs.Promises.{RunStaysGood, guards_in}
use Rattle.rules_machine.specs.Threads.{thread_at}
use Rattle.rules_machine.specs.GoodState.{main_guards}
use mathlib.Core.Path.{◌∙◌}

abbrev pub no_quantum : Script
no_quantum = record { version = 1; quantum = 0; decls = decl.Named (97 ∷ []) (kind.Thread (policy.Fifo 1) (Some 0) Nothing) ∷ [] }

pub quantum_of_none : RunStaysGood no_quantum → ⊥
quantum_of_none h = let small : 0 < 0 = (h.each 0 0).slices 0 (omega arith) in omega arith

abbrev pub no_priority : Script
no_priority = record { version = 1; quantum = 1; decls = decl.Named (97 ∷ []) (kind.Thread (policy.Fifo 0) (Some 0) (Running 5 Nothing)) ∷ [] }

not_both : (n : ℕ) → n ≡ 1 → n ≡ 0 → ⊥
not_both n e f = omega arith

pub priority_of_none : RunStaysGood no_priority → ⊥
unfolding exec_in
priority_of_none h =
    let m = machine no_priority 1 in not_both (times 0 (list_of 1 m.lists)) refl ((h.each 1 0).lists.placed 0 1 (omega arith) (omega arith))

-- a step that pushes outside of a block of its own
abbrev pub loose_push : Script
loose_push = record { version = 1; quantum = 1; decls = decl.Named (97 ∷ []) (kind.Thread (policy.Fifo 1) (Some 0) (Making (call.Push 0) (Running 5 Nothing))) ∷ decl.Named (98 ∷ []) (kind.Cleanup Nothing) ∷ [] }

pub push_of_none : RunStaysGood loose_push → ⊥
unfolding exec_in
push_of_none h =
    let m = machine loose_push 1 in
    let same : (thread_at m 0).cleanups ≡ main_guards (guards_in loose_push) (thread_at m 0).frames = ((h.each 1 0).cleanups.each 0 refl refl).0 in
    let one : length (thread_at m 0).cleanups ≡ 1 = refl in
    let none : length (main_guards (guards_in loose_push) (thread_at m 0).frames) ≡ 0 = refl in
    not_both (length (thread_at m 0).cleanups) one (ap length same ∙ none)

-- ---- the premises can be met

-- a thread with a guarded block, a handler, and a mutex with a ceiling
abbrev pub guarded_script : Script
guarded_script = record {
  version = 1;
  quantum = 1;
  decls =
      decl.Named (97 ∷ []) (kind.Thread (policy.Rr 1) (Some 0) (Guarding 0 true (Making (call.Lock 0) (Running 5 Nothing)) Nothing))
      ∷ decl.Named (98 ∷ []) (kind.Cleanup (Making (call.Unlock 0) Nothing))
      ∷ decl.Named (99 ∷ []) (kind.Handler (Making (call.Setprio 0 255) Nothing))
      ∷ decl.Named (100 ∷ []) (kind.Mutex (protocol.Protect 7) false)
      ∷ [];
}

pub guarded_fits : IsWellFormed guarded_script
guarded_fits = let one : IsPriority 1 = record { positive = omega arith; small = omega arith } in record {
  quantum = omega arith;
  priorities = ((one, ((tt, tt), tt)), ((tt, tt), ((record { positive = omega arith; small = omega arith }, tt), (record { positive = omega arith; small = omega arith }, tt))));
  guards = ((((refl, tt), tt), omega arith), (((refl, tt), omega arith), (((refl, tt), omega arith), (tt, tt))));
}
