use Rattle.std.proofs.Common.{false, List, None, ap, refl, subst, sym, ◌∙◌}
use Rattle.std.specs.Prelude.{option_map}
use Rattle.std.proofs.lemmas.List.{get_or-set_other}
use Rattle.rules_machine.specs.Lists.{changed_at}
use Rattle.rules_machine.specs.Mutexes.{freed, taken_by}
use Rattle.rules_machine.specs.State.{Mutex}
use Rattle.rules_machine.specs.Threads.{no_mutex, no_thread, thread_in}
use Rattle.rules_machine.specs.Waking.{woken}
use Rattle.rules_machine.proofs.Reading.{changed-length, changed-twice}
use Rattle.parts_owners.specs.declared.walk.Moved.{Moved}
use Rattle.parts_owners.specs.Chains.{Links, waiting_for}
use Rattle.kernel_table.specs.Movers.{TellsMoved}
use Rattle.kernel_table.specs.Tied.{IsTied}
use Rattle.kernel_table.specs.Times.{refill_of, start_of, timeout_of}
use Rattle.kernel_table.proofs.Moved.{moved_tied, mutex_tied, wait_set}
use Rattle.kernel_table.proofs.ToldMoves.{handed_over, table_with, thread_alone, told}
use Rattle.kernel_table.proofs.Armed.{armed_waiting}
use Rattle.kernel_table.specs.RealItems.{waits_for_reading}
use Rattle.kernel_table.proofs.RealItems.{kept_after}
use Rattle.kernel_table.proofs.table.Table.hand_over_any.Goals.{After-thread_of-2}
use Rattle.kernel_table.proofs.table.Table.hand_over_any.Goals as goal

-- the ties once the mutex is free
freed_tied : (c : After-thread_of-2) → IsTied c.self.inside.threads c.release-released.new.self c.release-released.new.w
freed_tied c =
    let s = c.self.inside in
    let free = c.release-released.ensures.changes in
    mutex_tied s.threads s.chain c.release-released.new.self s.waits c.release-released.new.w (ap (λ (l : Links). l.claims) c.release-released.ensures.chain) (record { same = free.same; stand = free.placed.stand }) c.self.invariant.tied

-- and once the thread waits no more
woken_tied : (c : After-thread_of-2) → IsTied (changed_at no_thread c.args.t (woken c.args.res c.args.value) c.self.inside.threads) c.stop_awaiting-woken.new.chain c.stop_awaiting-woken.new.waits
woken_tied c =
    let s = c.self.inside in
    let f = woken c.args.res c.args.value in
    let known = rw (← c.self.view_is) at c.requires.known in
    moved_tied s.threads c.release-released.new.self c.stop_awaiting-woken.new.chain c.release-released.new.w _ c.stop_awaiting-woken.new.waits c.args.t f (waiting_for None) c.stop_awaiting-woken.ensures.links.chain refl
    (wait_set s.threads c.release-released.new.self c.release-released.new.w c.args.t f None known refl (freed_tied c)) c.stop_awaiting-woken.ensures.links.waits (freed_tied c)

-- and once it owns the mutex
taken_tied : (c : After-thread_of-2) → IsTied (changed_at no_thread c.args.t (woken c.args.res c.args.value) c.self.inside.threads) c.take.new.self c.take.new.w
taken_tied c =
    let owned = c.take.ensures.changes in
    mutex_tied _ c.stop_awaiting-woken.new.chain c.take.new.self c.stop_awaiting-woken.new.waits c.take.new.w (ap (λ (l : Links). l.claims) c.take.ensures.chain) (record { same = owned.same; stand = owned.placed.stand }) (woken_tied c)

told_freed : (c : After-thread_of-2) → TellsMoved (table_with c.self.inside.timers c.self.inside.threads c.self.inside.chain) (table_with c.self.inside.timers c.self.inside.threads c.release-released.new.self) (option_map (λ (m : Moved). m.thread) c.release-released.result)
told_freed c =
    let s = c.self.inside in
    told s.timers s.threads s.threads s.chain c.release-released.new.self s.waits c.release-released.new.w c.release-released.result refl c.self.invariant.tied (freed_tied c) c.release-released.ensures.changes.moved

told_woken : (c : After-thread_of-2) → TellsMoved (table_with c.self.inside.timers c.self.inside.threads c.release-released.new.self)
    (table_with c.self.inside.timers (changed_at no_thread c.args.t (woken c.args.res c.args.value) c.self.inside.threads) c.stop_awaiting-woken.new.chain) (option_map (λ (m : Moved). m.thread) c.stop_awaiting-woken.result)
told_woken c =
    let s = c.self.inside in
    let f = woken c.args.res c.args.value in
    told s.timers s.threads (changed_at no_thread c.args.t f s.threads) c.release-released.new.self c.stop_awaiting-woken.new.chain c.release-released.new.w c.stop_awaiting-woken.new.waits c.stop_awaiting-woken.result
    (changed-length no_thread c.args.t f s.threads) (freed_tied c) (woken_tied c) c.stop_awaiting-woken.ensures.links.moved

pub invariant_of-self : goal.invariant_of-self
invariant_of-self c = record {
  tied = (rw (c.wake.ensures, c.get_mut.ensures.value) (taken_tied c));
  armed = (let s = c.self.inside in
      let is = c.wake.ensures ∙ ap (woken c.args.res c.args.value) c.get_mut.ensures.value in
      armed_waiting s.threads s.timers s.wheel.dues _ c.args.t c.wake.new.self None c.self.invariant.tied.few (rw (← c.self.view_is) at c.requires.known) (ap refill_of is) (ap start_of is) (ap timeout_of is) c.time_wait.ensures c.self.invariant.armed);
  kept = (let s = c.self.inside in
      let is = c.wake.ensures ∙ ap (woken c.args.res c.args.value) c.get_mut.ensures.value in
      kept_after s.threads s.timers s.real_waits _ s.real_expiries c.args.t c.wake.new.self false (rw (← c.self.view_is) at c.requires.known) (ap waits_for_reading is) c.drop_wait.ensures c.self.invariant.kept);
}

pub returns-clause-table : goal.returns-clause-table
returns-clause-table c =
    let s = c.self.inside in
    let mutexes = ap (λ (l : Links). l.mutexes) c.take.ensures.chain in
    rw (c.wake.ensures, c.get_mut.ensures.value, mutexes, c.stop_awaiting-woken.ensures.links.chain, c.release-released.ensures.chain, changed-twice no_mutex c.args.k freed (taken_by c.args.t) s.chain.mutexes, sym c.self.view_is) refl

pub returns-clause-released : goal.returns-clause-released
returns-clause-released c =
    let s = c.self.inside in
    rw (← c.self.view_is, c.thread_of.ensures)
    (subst (λ (ms : List Mutex). TellsMoved (table_with s.timers s.threads s.chain) (record { threads = s.threads; mutexes = ms; timers = s.timers }) (option_map (λ (m : Moved). m.thread) c.release-released.result))
    (ap (λ (l : Links). l.mutexes) c.release-released.ensures.chain) (told_freed c))

pub returns-clause-woken : goal.returns-clause-woken
returns-clause-woken c =
    let s = c.self.inside in
    let ths = changed_at no_thread c.args.t (woken c.args.res c.args.value) s.threads in
    let one = ap (λ (l : Links). l.mutexes) c.release-released.ensures.chain in
    let two = ap (λ (l : Links). l.mutexes) c.stop_awaiting-woken.ensures.links.chain ∙ one in
    rw (← c.self.view_is, c.thread_of-2.ensures)
    (subst (λ (ms : List Mutex). TellsMoved (record { threads = s.threads; mutexes = ms; timers = s.timers }) (record { threads = ths; mutexes = changed_at no_mutex c.args.k freed s.chain.mutexes; timers = s.timers }) (option_map (λ (m : Moved). m.thread) c.stop_awaiting-woken.result)) one
    (subst (λ (ms : List Mutex). TellsMoved (table_with s.timers s.threads c.release-released.new.self) (record { threads = ths; mutexes = ms; timers = s.timers }) (option_map (λ (m : Moved). m.thread) c.stop_awaiting-woken.result)) two (told_woken c)))

pub returns-clause-others : goal.returns-clause-others
returns-clause-others c =
    let s = c.self.inside in
    let f = woken c.args.res c.args.value in
    let ths = changed_at no_thread c.args.t f s.threads in
    rw (← c.self.view_is, c.thread_of.ensures, c.thread_of-2.ensures, c.wake.ensures, c.get_mut.ensures.value)
    (handed_over (table_with s.timers s.threads s.chain) (table_with s.timers s.threads c.release-released.new.self) (table_with s.timers ths c.stop_awaiting-woken.new.chain) (table_with s.timers ths c.take.new.self) c.args.t
    (option_map (λ (m : Moved). m.thread) c.release-released.result) (option_map (λ (m : Moved). m.thread) c.stop_awaiting-woken.result) (option_map (λ (m : Moved). m.thread) c.take.result)
    (told_freed c) (told_woken c)
    (told s.timers ths ths c.stop_awaiting-woken.new.chain c.take.new.self c.stop_awaiting-woken.new.waits c.take.new.w c.take.result refl (woken_tied c) (taken_tied c) c.take.ensures.changes.moved)
    (thread_alone c.args.t c.take.result c.take.ensures.alone) refl (changed-length no_thread c.args.t f s.threads)
    (λ u other. sym (get_or-set_other s.threads c.args.t u (f (thread_in s.threads c.args.t)) no_thread other)))

pub time_wait-requires-clause-numbers : goal.time_wait-requires-clause-numbers
time_wait-requires-clause-numbers c = c.self.invariant.armed.numbers
