-- An instant in which some items are done.
use Rattle.std.proofs.Common.{◌≡◌, ℕ, suc, List, [], Option, None, Some, ap, refl, subst, sym, ◌∙◌}
use Rattle.parts_tracer.specs.declared.tracer.Tracer.{Tracer}
use Rattle.parts_tracer.specs.Tells.{Tells}
use Rattle.parts_tracer.proofs.Tells.{tells_nothing}
use Rattle.words_numbers.specs.declared.item.Item.{Item}
use Rattle.rules_bodies.specs.declared.cursor.Cursor.{Cursor}
use Rattle.rules_machine.specs.Turns.{Turn}
use Rattle.rules_machine.specs.DueItems.{instant, item_done, items_done, next_item}
use Rattle.rules_machine.proofs.BehindTicks.{item_done_behind}
use Rattle.rules_flat_code.specs.FlatBodies.{flat_bodies}
use Rattle.rules_flat_code.specs.KnownCalls.{Objects}
use Rattle.kernel_wakes.specs.Calls.{objects_in}
use Rattle.kernel_leaps.specs.Fits.{Fits, ItemsFit}
use Rattle.kernel_leaps.proofs.Fitting.{objects_same}
use Rattle.kernel_state.specs.Kernel.{Kernel, after, told, turn}
use Rattle.kernel_settling.specs.Stood.{StoodRight}
use Rattle.kernel_leaps.proofs.ItemsLaw.{instant_is, items_more}
use Rattle.kernel_state.proofs.Turns.{then_state_in, then_told_in}

-- so many are done
pub record Halfway {K : Type 0} (text : K → Option (List ℕ)) (faults : K → ℕ) (start k : Kernel) (a b : Tracer K) : Type 0 where
  pub done : ℕ
  pub state : k ≡ after (items_done (flat_bodies start.code) done) start
  pub told : Tells text faults start.names a b (told (items_done (flat_bodies start.code) done) start)
  pub stood : StoodRight k.machine
  pub quiet : k.direct ≡ []
  pub time : k.machine.now ≡ start.machine.now

module _ {K : Type 0} (text : K → Option (List ℕ)) (faults : K → ℕ) where
  pub none_done : (start : Kernel) (a : Tracer K) → StoodRight start.machine → start.direct ≡ [] → Halfway text faults start start a a
  none_done start a stood quiet = record { done = 0; state = refl; told = tells_nothing text faults start.names a; stood = stood; quiet = quiet; time = refl }

  pub fits_now : (start k : Kernel) (a b : Tracer K) → Halfway text faults start k a b → ItemsFit start (objects_in start) → Fits (objects_in k) k.code k.machine
  fits_now start k a b half fit =
      let m = (items_done (flat_bodies start.code) half.done (turn start)).machine in
      let here : Fits (objects_in start) start.code m = fit.each half.done in
      let there : Fits (objects_in (record start { machine = m })) start.code m = subst (λ (o : Objects). Fits o start.code m) (sym (objects_same start m here.counts)) here in
      subst (λ (x : Kernel). Fits (objects_in x) x.code x.machine) (sym half.state) there

  -- one more
  pub one_done : (start k l : Kernel) (a b c : Tracer K) (i : Item) → Halfway text faults start k a b → next_item k.machine ≡ Some i →
      l ≡ after (item_done (flat_bodies k.code) i) k → Tells text faults k.names b c (told (item_done (flat_bodies k.code) i) k) →
      StoodRight l.machine → l.direct ≡ [] → l.machine.now ≡ k.machine.now → Halfway text faults start l a c
  one_done start k l a b c i half due state tells stood quiet time =
      let bodies = flat_bodies start.code in
      let at : next_item (items_done bodies half.done (turn start)).machine ≡ Some i = subst (λ (x : Kernel). next_item x.machine ≡ Some i) half.state due in
      let more = items_more bodies half.done (turn start) i at in
      let both = then_state_in (λ b. items_done b half.done) (λ b. item_done b i) start k l (λ b. item_done_behind b i) half.state state in
      let all = then_told_in text faults (λ b. items_done b half.done) (λ b. item_done b i) start k a b c (λ b. item_done_behind b i) half.state half.told tells in
      record {
        done = suc half.done;
        state = both ∙ ap (λ (s : Turn Cursor). record start { machine = s.machine; direct = s.direct }) (sym more);
        told = subst (λ (s : Turn Cursor). Tells text faults start.names a c s.events) (sym more) all;
        stood = stood;
        quiet = quiet;
        time = time ∙ half.time;
      }

  -- and none is due any more
  pub all_done : (start k : Kernel) (a b : Tracer K) → (half : Halfway text faults start k a b) → next_item k.machine ≡ None → items_done (flat_bodies start.code) half.done (turn start) ≡ instant (flat_bodies start.code) (turn start)
  all_done start k a b half none = instant_is (flat_bodies start.code) half.done (turn start) (subst (λ (x : Kernel). next_item x.machine ≡ None) half.state none)

  pub all_state : (start k : Kernel) (a b : Tracer K) → Halfway text faults start k a b → next_item k.machine ≡ None → k ≡ after (instant (flat_bodies start.code)) start
  all_state start k a b half none = half.state ∙ ap (λ (s : Turn Cursor). record start { machine = s.machine; direct = s.direct }) (all_done start k a b half none)

  pub all_told : (start k : Kernel) (a b : Tracer K) → Halfway text faults start k a b → next_item k.machine ≡ None → Tells text faults start.names a b (told (instant (flat_bodies start.code)) start)
  all_told start k a b half none = subst (λ (s : Turn Cursor). Tells text faults start.names a b s.events) (all_done start k a b half none) half.told
