-- The kernel of a script has the script's threads and objects at each instant of its run, and queues that are no deeper than it says.
use Rattle.std.proofs.Common.{◌≡◌, ◌∙◌, ◌+◌, ◌*◌, ◌++◌, ℕ, List, [], ap, arith, length, refl, subst, suc, sym, zero}
use Rattle.std.proofs.lemmas.List.{length-map}
use Rattle.words_script.specs.declared.decl.Script.{Script}
use Rattle.rules_bodies.specs.declared.cursor.Cursor.{Cursor}
use Rattle.rules_machine.specs.Declarations.{queues_of, threads_of}
use Rattle.rules_machine.specs.DueItems.{instant, item_bound}
use Rattle.rules_machine.specs.Runs.{opening, thread_opened, ticks}
use Rattle.rules_machine.specs.State.{Machine}
use Rattle.rules_machine.specs.Turns.{turn_of}
use Rattle.rules_machine.specs.WellFormed.{IsWellFormed}
use Rattle.rules_flat_code.specs.FlatBodies.{code_of, flat_bodies}
use Rattle.rules_flat_code.specs.Runnable.{IsRunnable}
use Rattle.laws_detail.proofs.Depths.{depths_throughout}
use Rattle.laws_kernel.specs.Counts.{Counts}
use Rattle.laws_kernel.proofs.Ranges.{flat_bodies_fit}
use Rattle.parts_texts.specs.Slots.{Held, no_texts}
use Rattle.parts_texts.specs.Texts.{Next, Told}
use Rattle.kernel_texts.specs.Subjects.{AreSubjects}
use Rattle.kernel_texts.specs.Kept.{Kept}
use Rattle.kernel_texts.specs.Rooms.{AreRooms, HasFewOfEach, HasObjectsOf, HasRooms, facts_told}
use Rattle.kernel_texts.specs.declared.rooms.Rooms.{Rooms}
use Rattle.kernel_texts.proofs.Roomy.{rooms_hold}
use Rattle.kernel_texts.proofs.Deep.{no_deeper}
use Rattle.kernel_seen.specs.FactSeen.{IsMemoryOf}
use Rattle.kernel_looks.specs.Desk.{HasDeskRooms, IsOpened, IsReady}
use Rattle.kernel_looks.specs.declared.desk.Desk.{Desk}
use Rattle.kernel_looks.proofs.FactsSeen.{memory_none}
use Rattle.kernel_state.specs.Kernel.{Kernel, opened}
use Rattle.kernel_wakes.specs.Calls.{objects_in}
use Rattle.kernel_leaps.specs.Detail.{HaveRoomsFor}
use Rattle.kernel_leaps.specs.Fits.{Fits}
use Rattle.kernel_leaps.specs.Shown.{HasFewObjects}
use Rattle.kernel_leaps.specs.declared.fact_texts.FactTexts.{FactTexts}
use Rattle.kernel_leaps.proofs.Opened.{script_fits}
use Rattle.kernel_leaps.proofs.Telling.{l}

-- before the first tick
first : (script : Script) → HasObjectsOf script (opened script).machine
first script = record {
  threads = length-map (threads_of script) thread_opened;
  mutexes = refl;
  semaphores = refl;
  queues = refl;
  timers = refl;
  depths = no_deeper script.decls (queues_of script) refl;
}

pub objects_first : (script : Script) (k : Kernel) → k ≡ opened script → HasObjectsOf script k.machine
objects_first script k is = subst (λ (x : Kernel). HasObjectsOf script x.machine) (sym is) (first script)

-- with the items of an instant handled
module _ (script : Script) (ok : IsRunnable script) (fits : IsWellFormed script) (n : ℕ) where
  abbrev here : Machine Cursor
  here = (ticks (flat_bodies (code_of script)) n (opening script)).machine

  abbrev ready : Machine Cursor
  ready = (instant (flat_bodies (code_of script)) (turn_of here)).machine

  fits_here : Fits (objects_in (opened script)) (code_of script) ready
  fits_here = (script_fits script ok fits).each n (item_bound here)

  fits_opened : Fits (objects_in (opened script)) (code_of script) (opening script)
  fits_opened = (script_fits script ok fits).each 0 0

  pub objects_here : HasObjectsOf script (l script fits n).machine
  objects_here =
      let counts = fits_here.counts in
      record {
        threads = fits_here.threads ∙ sym fits_opened.threads ∙ length-map (threads_of script) thread_opened;
        mutexes = ap (λ (c : Counts). c.mutexes) counts;
        semaphores = ap (λ (c : Counts). c.semaphores) counts;
        queues = ap (λ (c : Counts). c.queues) counts;
        timers = ap (λ (c : Counts). c.timers) counts;
        depths = no_deeper script.decls ready.queues ((depths_throughout (flat_bodies (code_of script)) (flat_bodies_fit script fits.priorities) script fits).each n (item_bound here));
      }

-- ---- the rooms that are opened

pub few_of_each : (script : Script) → IsRunnable script → HasFewObjects script → HasFewOfEach script
few_of_each script ok few =
    let queues = ok.few_queues in
    let timers = ok.few_timers in
    record {
      threads = ok.few;
      mutexes = few.mutexes;
      conditions = few.conditions;
      semaphores = few.semaphores;
      queues = omega (arith, queues);
      timers = omega (arith, timers);
    }

pub opened_rooms : (script : Script) (rooms : Rooms) → AreRooms script rooms → (t : FactTexts) (lines : ℕ) → lines ≡ rooms.room + 22 * rooms.most + 1
    → IsOpened rooms lines t.desk → t.next.room ≡ rooms.longest → HaveRoomsFor script t
opened_rooms script rooms are t lines size is one =
    let most = are.most in
    let long = are.longest in
    let whole : facts_told script * (rooms.longest + 22) ≡ rooms.room + 22 * rooms.most =
    by_parts (facts_told script) rooms.longest ∙ ap (λ (n : ℕ). n + 22 * facts_told script) (ap (λ (n : ℕ). facts_told script * n) long ∙ sym are.room) ∙ ap (λ (n : ℕ). rooms.room + 22 * n) (sym most) in
    let room = ap (λ (h : Held). h.room) is.told in
    let lines_room = ap (λ (n : Next). n.room) is.lines in
    record {
      desk = subst (λ (n : ℕ). HasDeskRooms script n t.desk) (sym one) (record {
        fresh = is.is_full;
        long = omega (arith, long);
        slots = omega (arith, room);
        number = ap (λ (h : Held). length h.texts) is.told ∙ so_many rooms.most ∙ most;
        lines = omega (arith, size, whole, lines_room);
        seen = subst (IsMemoryOf script.decls t.desk.told.texts) (sym is.seen) (memory_none script.decls t.desk.told.texts rooms.most rooms.most (ap (λ (h : Held). h.texts) is.told));
        subjects = subst (HasRooms script rooms.longest) (sym is.subjects) (rooms_hold script rooms are);
      });
    }
  where
    by_parts : (count one : ℕ) → count * (one + 22) ≡ count * one + 22 * count
    by_parts count one = grind arith

    so_many : (n : ℕ) → length (no_texts n) ≡ n
    so_many zero = refl
    so_many (suc n) = ap suc (so_many n)

-- ---- a list that takes in the texts of the facts of a state

pub cleared_rooms : (script : Script) (one : ℕ) (t cleared : Told) → cleared ≡ record t { texts = [] } → HasRooms script one t → HasRooms script one cleared
cleared_rooms script one t cleared is h = subst (HasRooms script one) (sym is) (record { fresh = h.fresh; long = h.long; number = h.number; bytes = h.bytes })

module _ (script : Script) (m : Machine Cursor) (due : List (List ℕ)) (old cleared new : Told) (one next : ℕ) (is : cleared ≡ record old { texts = [] }) (kept : Kept cleared new due)
    (roomy : HasObjectsOf script m → cleared.texts ≡ [] → HasRooms script one cleared → HasRooms script next new) (has : HasObjectsOf script m) (rooms : HasRooms script one old) where
  none : cleared.texts ≡ []
  none = ap (λ (t : Told). t.texts) is

  pub kept_rooms : HasRooms script next new
  kept_rooms = roomy has none (cleared_rooms script one old cleared is rooms)

  pub kept_texts : new.texts ≡ due
  kept_texts = kept.texts kept_rooms.fresh ∙ ap (λ (ts : List (List ℕ)). ts ++ due) none

-- ---- the desk of a run that begins

pub begun_ready : (script : Script) (one next : ℕ) (old : Desk) (subjects : Told) → next ≡ one → HasDeskRooms script one old → HasRooms script next subjects → AreSubjects script one subjects.texts
    → IsReady script next (record old { subjects = subjects })
begun_ready script one next old subjects same h rooms are =
    subst (λ (n : ℕ). IsReady script n (record old { subjects = subjects })) (sym same) (record {
      rooms = record { fresh = h.fresh; long = h.long; slots = h.slots; number = h.number; lines = h.lines; seen = h.seen; subjects = subst (λ (n : ℕ). HasRooms script n subjects) same rooms };
      subjects = are;
    })
