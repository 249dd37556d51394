-- An effect and its moves.
use Rattle.std.proofs.Common.{◌≡◌, ℕ, List, [], ap, arith, refl, sym, ◌∙◌}
use Rattle.rules_bodies.specs.declared.cursor.Cursor.{Cursor}
use Rattle.rules_machine.specs.State.{Machine}
use Rattle.rules_machine.specs.Turns.{Turn, settles_since}
use Rattle.kernel_state.specs.Kernel.{Kernel, after, turn}
use Rattle.kernel_settling.specs.Settled.{HavePriorities, Settles, settled_now}
use Rattle.kernel_settling.specs.Stood.{StoodRight}
use Rattle.kernel_settling.proofs.SettledSame.{settled_lists}
use Rattle.kernel_state.proofs.Turns.{then_state}
use Rattle.kernel_state.proofs.Waits.{runs_known}

pub settle_is : (k : Kernel) → HavePriorities k.machine → Settles k (settled_now k)
settle_is k fits before was same =
    ap (λ (lists : List (List ℕ)). record k { machine = record (k.machine) { lists = lists }; direct = [] })
    (sym (settled_lists before k.machine k.direct was same (λ t. (let s = fits.small t in omega (arith, s))) (λ t runs. fits.positive t (runs_known k.machine.threads t runs))))

-- an effect since the machine was `before`, and then its moves
pub settles_after : (before : Machine Cursor) (f : Turn Cursor → Turn Cursor) (k l m : Kernel) → StoodRight before → (f (turn k)).machine.lists ≡ before.lists →
    l ≡ after f k → Settles l m → m ≡ after (λ (s : Turn Cursor). settles_since before (f s)) k
settles_after before f k l m was keeps first second =
    let same = ap (λ (x : Kernel). x.machine.lists) first ∙ keeps in
    then_state f (settles_since before) k l m (λ told s. refl) first (second before was same)
