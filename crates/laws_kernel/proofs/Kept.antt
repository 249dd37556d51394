-- Each state of the run of a script is one that the kernel counts on.
use Rattle.std.proofs.Common.{◌≡◌, ◌∙◌, ◌<◌, ℕ, suc, List, [], ◌∷◌, true, false, Option, None, Some, ap, arith, length, refl, subst, sym}
use Rattle.words_script.specs.Block.{Block}
use Rattle.words_script.specs.declared.decl.Script.{Script}
use Rattle.rules_bodies.specs.declared.cursor.Cursor.{Cursor}
use Rattle.rules_bodies.specs.Flat as flat
use Rattle.rules_server.specs.declared.ServerKind.{ServerKind}
use Rattle.rules_server.specs.declared.ServerKind.TheVariants as kind
use Rattle.rules_server.specs.Server.{ServerState, is_high}
use Rattle.rules_machine.specs.Declarations.{cleanups_of, handlers_of}
use Rattle.rules_machine.specs.Runs.{opening}
use Rattle.rules_machine.specs.Servers.{has_high}
use Rattle.rules_machine.specs.State.{Machine, Status, blocked, dormant, ended, runnable}
use Rattle.rules_machine.specs.Threads.{action_of, is_blocked, is_runnable, no_thread, thread_at, waiting_of}
use Rattle.rules_machine.specs.Throughout.{HoldsThroughout, after_items}
use Rattle.rules_machine.specs.WellFormed.{IsWellFormed}
use Rattle.laws_machine.specs.Rest.{ServersRest}
use Rattle.laws_machine.proofs.Good.{serials_throughout}
use Rattle.laws_machine.proofs.Items.{mutexes_throughout, servers_throughout}
use Rattle.laws_machine.proofs.Servers.Rest.{servers_rest}
use Rattle.rules_flat_code.proofs.Numbered.{Numbered, handler_blocks, known}
use Rattle.rules_flat_code.specs.FlatBodies.{code_of, flat_bodies}
use Rattle.rules_flat_code.specs.KnownCalls.{KnowsObjects, objects_of}
use Rattle.rules_flat_code.specs.Runnable.{CallIsRunnable, IsRunnable}
use Rattle.laws_threads.specs.Placeable.{IsPlaceable}
use Rattle.laws_threads.proofs.Changes.{at_all}
use Rattle.laws_threads.proofs.Frames.{Stands}
use Rattle.laws_threads.proofs.FramesTaken.{run_holds}
use Rattle.laws_threads.proofs.MadeCalls.{all_weaker}
use Rattle.kernel_threads.specs.Unused.{IsUnused, IsUnusedAs}
use Rattle.kernel_state.specs.Caught.{CatchesBy}
use Rattle.kernel_wakes.specs.Waits.{WaitKnowsMutex}
use Rattle.laws_kernel.specs.Counts.{Counts, counts_in}
use Rattle.laws_kernel.specs.FitsKernel.{FitsKernel}
use Rattle.laws_kernel.proofs.HeldLaw.{Held, RoomsAreKnown, RoomIsKnown, held_after}
use Rattle.laws_kernel.proofs.JoinsLaw.{joins_fit, parts_after}
use Rattle.laws_kernel.proofs.ObjectsLaw.{objects_throughout}
use Rattle.laws_kernel.proofs.Pending.{pending_fits, serials_left}
use Rattle.laws_kernel.proofs.Ranges.{flat_bodies_fit}
use Rattle.laws_kernel.proofs.Sweeping.{consuming_high}

-- ---- servers rest

not_running : (s : Status) → is_blocked s ≡ true → is_runnable s ≡ false
not_running (dormant at) e = refl
not_running runnable e = absurd (cc)
not_running (blocked w) e = refl
not_running ended e = refl

low_of : (s : ServerState) → has_high (Some s) ≡ false → is_high s ≡ false
low_of s e = grind arith

pub unused_of : (k : ServerKind) (s : ServerState) → s.consumed ≡ 0 → IsUnusedAs k s
unused_of kind.Sporadic s e = e
unused_of kind.Strict s e = tt

module _ (m : Machine Cursor) (rest : ServersRest m) where
  blocked_unused : (t : ℕ) → is_blocked (thread_at m t).status ≡ true → IsUnused (thread_at m t).server
  blocked_unused t e = by_server (thread_at m t).server refl
    where
      by_server : (o : Option ServerState) → (thread_at m t).server ≡ o → IsUnused o
      by_server None k = tt
      by_server (Some s) k = unused_of s.kind s (rest.idle t s k (not_running (thread_at m t).status e))

  low_unused : (t : ℕ) → has_high (thread_at m t).server ≡ false → IsUnused (thread_at m t).server
  low_unused t e = by_server (thread_at m t).server refl
    where
      by_server : (o : Option ServerState) → (thread_at m t).server ≡ o → IsUnused o
      by_server None k = tt
      by_server (Some s) k = unused_of s.kind s (rest.low t s k (low_of s (sym (ap has_high k) ∙ e)))

-- ---- the bodies of a script

pub as_many : (all : List Block) (ns : List ℕ) (bs : List Block) → Numbered all ns bs → length ns ≡ length bs
as_many all [] [] h = refl
as_many all [] (b ∷ bs) h = absurd h
as_many all (n ∷ ns) [] h = absurd h
as_many all (n ∷ ns) (b ∷ bs) h = ap suc (as_many all ns bs h.1)

pub placeable : (script : Script) → IsRunnable script → IsWellFormed script → IsPlaceable script
placeable script ok fits = record {
  flattenable = ok.flattenable;
  calls = all_weaker (CallIsRunnable (objects_of script)) (KnowsObjects (objects_of script)) (λ c h. h.objects) (flat.bodies_of script.decls).all ok.calls;
  actions = ok.handlers;
  guards = fits.guards;
}

-- ---- the run

module _ (script : Script) (ok : IsRunnable script) (fits : IsWellFormed script) where
  pub stand_after : (n most t : ℕ) → Stands (code_of script) (length (cleanups_of script)) (thread_at (after_items (flat_bodies (code_of script)) (opening script) n most) t)
  stand_after n most t =
      at_all (λ u th. Stands (code_of script) (length (cleanups_of script)) th) no_thread (after_items (flat_bodies (code_of script)) (opening script) n most).threads
      (run_holds script (placeable script ok fits) n most).each (λ u. record { all = tt; ordered = tt; cleanups = tt }) t

  fits_after : (n most : ℕ) → FitsKernel script (after_items (flat_bodies (code_of script)) (opening script) n most)
  fits_after n most =
      let bodies = flat_bodies (code_of script) in
      let m = after_items bodies (opening script) n most in
      let o = objects_of script in
      let ranges = flat_bodies_fit script fits.priorities in
      let held : Held o (length (handlers_of script)) m = held_after script ok (placeable script ok fits) n most in
      let objects = (objects_throughout bodies ranges script fits).each n most in
      let servers = (servers_throughout bodies ranges script fits).each n most in
      let serials = (serials_throughout bodies ranges script fits).each n most in
      let records = (parts_after bodies ranges script fits n most).records in
      let rest = servers_rest m servers in
      let b = flat.bodies_of script.decls in
      let handlers : length (code_of script).handlers ≡ length (handlers_of script) = as_many b.all b.handlers (handler_blocks script.decls) (known script).handlers in
      let queues : length m.queues ≡ o.queues = ap (λ (c : Counts). c.queues) objects.0 in
      record {
        waits = record {
          mutexes = λ t. subst (λ (n : ℕ). WaitKnowsMutex n (waiting_of m t)) (sym (ap (λ (c : Counts). c.mutexes) objects.0)) (held.each t).waits;
          rests = blocked_unused m rest;
          own_none = ((mutexes_throughout bodies ranges script fits).each n most).owns_none;
        };
        joins = joins_fit bodies ranges script fits n most o (length (handlers_of script)) held;
        pends = pending_fits (counts_in o) ok.few_timers ok.few_queues m objects.1 objects.0 held.sourced records serials;
        signals = record {
          timers = held.timed;
          registrations = held.registered;
          senders = λ t q x w waits is.
              let known : RoomsAreKnown o.queues (Some w) = subst (RoomsAreKnown o.queues) waits (held.each t).rooms in
              let room : (q < o.queues) × (x.priority < 32) = subst (RoomIsKnown o.queues) is known in
              ((let lt = room.0 in omega (arith, lt, queues)), room.1);
        };
        rests_low = low_unused m rest;
        sweeps = record {
          caught = λ signal. subst (λ (n : ℕ). CatchesBy n (action_of m signal)) (sym handlers) (held.caught signal);
          each = λ t. record { ordered = (stand_after n most t).ordered; consuming = consuming_high m servers t };
        };
        serial = serials_left (counts_in o) ok.few_timers ok.few_queues m objects.1 records.one_of_timer records.one_of_queue (let few = ok.few in let c = held.counted in omega (arith, few, c)) serials;
        threads = held.counted;
        counts = objects.0;
      }

pub states_fit : (script : Script) → IsRunnable script → IsWellFormed script → HoldsThroughout (flat_bodies (code_of script)) (opening script) (FitsKernel script)
states_fit script ok fits = record { each = fits_after script ok fits }
