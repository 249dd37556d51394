-- Facts that tell nothing, whose text is empty. This project's own.
use Rattle.std.specs.Prelude.{Bool, List, [], false, true, ℕ, ◌≡◌}
use Rattle.words_script.specs.declared.decl.Decl.{Decl}
use Rattle.rules_machine.specs.State.{Thread}
use Rattle.rules_facts.specs.Fact.{Fact, cancelability, inner_frames, masked, pushed_cleanups, replenishments}
use Rattle.rules_facts.specs.Threads.{cancelability_of, inner_bodies, planned}
use Rattle.kernel_texts.specs.Lines.{fact_text, facts_text}
use Rattle.parts_waiters.specs.declared.WaitObj.{WaitObj}
use Rattle.parts_waiters.specs.declared.WaitObj.TheVariants as wait_for
use Rattle.kernel_lines.specs.declared.waiters.Line.{Line}
use Rattle.kernel_lines.specs.declared.waiters.Line.TheVariants as line
use Rattle.kernel_texts.specs.declared.rows.ThreadRow.{ThreadRow}
use Rattle.kernel_texts.specs.declared.rows.ThreadRow.TheVariants as thread

abbrev pub TellsNothing : Fact → Type 0
TellsNothing f = (decls : List Decl) → fact_text decls f ≡ []

abbrev pub TellNothing : List Fact → Type 0
TellNothing facts = (decls : List Decl) → facts_text decls facts ≡ []

-- what is told in a row of a thread that lives; nothing in that of its status, which the record alone does not tell
abbrev pub told_of : {P : Type 0} → ThreadRow → ℕ → Thread P → Fact
told_of thread.Status t th = masked t 0
told_of thread.Frames t th = inner_frames t (inner_bodies th.frames)
told_of thread.Mask t th = masked t th.mask
told_of thread.Cancelability t th = cancelability t (cancelability_of th)
told_of thread.Cleanups t th = pushed_cleanups t th.cleanups
told_of thread.Pending t th = replenishments t (planned th.server)

abbrev pub is_status : ThreadRow → Bool
is_status thread.Status = true
is_status thread.Frames = false
is_status thread.Mask = false
is_status thread.Cancelability = false
is_status thread.Cleanups = false
is_status thread.Pending = false

-- nothing is told of the thread in that row, which is not that of its status
pub record IsBare {P : Type 0} (row : ThreadRow) (th : Thread P) : Type 0 where
  pub other : is_status row ≡ false
  pub nothing : (t : ℕ) → TellsNothing (told_of row t th)

-- what those in a line wait for
abbrev pub wait_obj : Line → WaitObj
wait_obj (line.Mutex k) = wait_for.Mutex k
wait_obj (line.Condition c) = wait_for.Cond c
wait_obj (line.Semaphore k) = wait_for.Sem k
wait_obj (line.Senders q) = wait_for.Sender q
wait_obj (line.Receivers q) = wait_for.Receiver q
