-- A broadcast in which some waiters have contended.
use Rattle.std.proofs.Common.{◌≡◌, ◌≤◌, ◌+◌, ◌∙◌, ℕ, suc, List, Option, ap, arith, length, refl, subst, sym}
use Rattle.parts_tracer.specs.declared.tracer.Tracer.{Tracer}
use Rattle.parts_tracer.specs.Tells.{Tells}
use Rattle.parts_tracer.proofs.Tells.{tells_nothing}
use Rattle.rules_machine.specs.Conditions.{signals_best, signals_best_times}
use Rattle.rules_machine.proofs.BehindCalls.{signals_best_behind}
use Rattle.kernel_state.specs.Kernel.{Kernel, after, told, turn}
use Rattle.kernel_state.proofs.Turns.{then_state, then_told}
use Rattle.kernel_wakes.specs.Waits.{WaitsFit}
use Rattle.calls_sync.proofs.Contended.{signals_fit, signals_grow}

-- so many have contended
pub record Signalled {K : Type 0} (text : K → Option (List ℕ)) (faults : K → ℕ) (c : ℕ) (start k : Kernel) (n : ℕ) (a b : Tracer K) : Type 0 where
  pub state : k ≡ after (signals_best_times n c) start
  pub told : Tells text faults start.names a b (told (signals_best_times n c) start)
  pub fits : WaitsFit k.machine
  pub room : length k.direct ≤ length start.direct + n
  pub serial : k.machine.next_serial ≤ start.machine.next_serial + n
  pub time : k.machine.now ≡ start.machine.now

module _ {K : Type 0} (text : K → Option (List ℕ)) (faults : K → ℕ) (c : ℕ) where
  pub none_yet : (start : Kernel) (a : Tracer K) → WaitsFit start.machine → Signalled text faults c start start 0 a a
  none_yet start a fits = record { state = refl; told = tells_nothing text faults start.names a; fits = fits; room = omega arith; serial = omega arith; time = refl }

  pub one_more : (start k l : Kernel) (n : ℕ) (a b d : Tracer K) → Signalled text faults c start k n a b → l ≡ after (signals_best c) k → Tells text faults k.names b d (told (signals_best c) k) →
      Signalled text faults c start l (n + 1) a d
  one_more start k l n a b d so state tells =
      let more : n + 1 ≡ suc n = omega arith in
      let grown = signals_grow c (turn k) in
      let moved : length l.direct ≡ length (signals_best c (turn k)).direct = ap (λ (x : Kernel). length x.direct) state in
      let serials : l.machine.next_serial ≡ (signals_best c (turn k)).machine.next_serial = ap (λ (x : Kernel). x.machine.next_serial) state in
      let all : Signalled text faults c start l (suc n) a d = record {
        state = then_state (signals_best_times n c) (signals_best c) start k l (signals_best_behind c) so.state state;
        told = then_told text faults (signals_best_times n c) (signals_best c) start k a b d (signals_best_behind c) so.state so.told tells;
        fits = subst (λ (x : Kernel). WaitsFit x.machine) (sym state) (signals_fit c (turn k) so.fits);
        room = (let g = grown.moves in let r = so.room in omega (arith, moved, g, r));
        serial = (let g = grown.serial in let r = so.serial in omega (arith, serials, g, r));
        time = ap (λ (x : Kernel). x.machine.now) state ∙ grown.time ∙ so.time;
      } in
      subst (λ (j : ℕ). Signalled text faults c start l j a d) (sym more) all
