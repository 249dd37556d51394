-- What follows for a call from what was read and what was answered to that.
use Rattle.std.proofs.Common.{◌≡◌, ◌≤◌, ◌+◌, ◌∙◌, ℕ, List, [], Option, None, Some, Result, Ok, Err, Bool, true, false, inl, inr, length, refl, sym, ap, subst, arith}
use Rattle.std.specs.Prelude.{◌⊎◌, IfErr, IfOk, IsOk, IsSome, IsTrue, OnOk, not}
use Rattle.std.specs.Io.KnownBytes.{Consumes, IsAtEnd}
use Rattle.parts_io.specs.Causes.{GrewBy, Rose}
use Rattle.parts_io.specs.Whole.{TookAtMost}
use Rattle.parts_io.specs.declared.whole.ReadEnd.{ReadEnd}
use Rattle.parts_io.specs.declared.whole.ReadEnd.TheVariants as read_end
use Rattle.parts_io.proofs.Known.{consumes_none}
use Rattle.rules_machine.specs.Promises.{busy_between}
use Rattle.script_generator.specs.Generated.{script_of}
use Rattle.tool_answers.specs.declared.command.Command.{Command}
use Rattle.tool_answers.specs.declared.command.Command.TheVariants.{Run, Show, Detail, ResponseTimes, Soak}
use Rattle.tool_answers.specs.declared.status.Status.{Status}
use Rattle.tool_answers.specs.declared.status.Status.TheVariants.{Done, Usage, Refused, TooLong, ReadFault, WriteFault, OutOfMemory, Differs, NoTrace, Breach}
use Rattle.tool_answers.specs.Answer.{Answer, SinkFaults, Told, command_answer, text_answer}
use Rattle.tool_answers.specs.Command.{Generates, HasSecondLimit, Reads, limit_of, reads, words_limit_of}
use Rattle.tool_answers.specs.Few.{DoubleStepsAreFew, RoundsAreFew, StepsAreFew}
use Rattle.tool_answers.specs.Statuses.{IsWithoutSource}
use Rattle.tool_commands.specs.Ended.{IsOfEnd, end_answer}
use Rattle.tool_commands.specs.Taken.{IsOfWhole, ReadToItsEnd, ReadWhole}
use Rattle.tool_commands.proofs.Seen.{Seen, second_limit, seen_text}
use Rattle.tool_commands.proofs.Taken.{few_doubled, few_rounds, few_soaked, few_steps}
use Rattle.tool_commands.proofs.Whole.{all_taken, answer_long, answer_of_all, answer_of_taken, more_taken}

-- What a call found and left: of its source what is told, how many bytes were taken and how many faults came; of its sink what is told and
-- how many faults came; and its steps.
pub record Call : Type 0 where
  pub rest_before : Option (List ℕ)
  pub rest_now : Option (List ℕ)
  pub taken_before : ℕ
  pub taken_now : ℕ
  pub faults_before : ℕ
  pub faults_now : ℕ
  pub text_before : Option (List ℕ)
  pub text_now : Option (List ℕ)
  pub sink_faults_before : ℕ
  pub sink_faults_now : ℕ
  pub steps_before : ℕ
  pub steps_now : ℕ

-- what was read for a command, and how that was answered
pub record IsAnswered {V : Type 0} (items : V → List ℕ) (c : Command) (read : Result V ReadEnd) (s : Status) (call : Call) : Type 0 where
  pub whole : IfOk read (λ v. Consumes call.rest_before call.rest_now (items v))
  pub end : reads c ≡ true → OnOk read (IsAtEnd call.rest_now)
  pub short : IfOk read (λ v. length (items v) ≤ limit_of c)
  pub count : IfOk read (λ v. GrewBy (length (items v)) call.taken_before call.taken_now)
  pub long : read ≡ Err read_end.TooLong → GrewBy (limit_of c + 1) call.taken_before call.taken_now
  pub long_bytes : read ≡ Err read_end.TooLong → (bytes : List ℕ) × (length bytes ≡ limit_of c + 1) × Consumes call.rest_before call.rest_now bytes
  pub fault : read ≡ Err read_end.ReadFault → Rose call.faults_before call.faults_now
  pub fault_bytes : read ≡ Err read_end.ReadFault → TookAtMost (limit_of c) call.rest_before call.rest_now call.taken_before call.taken_now
  pub no_fault : (read ≡ Err read_end.ReadFault → ⊥) → call.faults_now ≡ call.faults_before
  pub memory_bytes : read ≡ Err read_end.OutOfMemory → TookAtMost (limit_of c + 1) call.rest_before call.rest_now call.taken_before call.taken_now
  pub nothing : reads c ≡ false → IsOk read
  pub told : IfOk read (λ v. Told s (text_answer c (items v)) call.text_before call.text_now)
  pub kind : IfOk read (λ _. reads c ≡ false → IsWithoutSource s)
  pub no_read_fault : IfOk read (λ _. s ≡ ReadFault → ⊥)
  pub ended : IfErr read (λ end. IsOfEnd end s)
  pub end_told : IfErr read (λ end. Told s (end_answer end) call.text_before call.text_now)
  pub sink_faults : SinkFaults s call.sink_faults_before call.sink_faults_now
  pub busy : IfOk read (λ v. (n : ℕ) → c ≡ Run n → StepsAreFew n (items v) call.steps_before call.steps_now)
  pub shows : IfOk read (λ v. (n : ℕ) → c ≡ Show n → StepsAreFew n (items v) call.steps_before call.steps_now)
  pub details : IfOk read (λ v. (n : ℕ) → c ≡ Detail n → DoubleStepsAreFew n (items v) call.steps_before call.steps_now)
  pub rounds : IfOk read (λ v. (n : ℕ) → c ≡ ResponseTimes n → RoundsAreFew n (items v) call.steps_before call.steps_now)
  pub soaks : IfOk read (λ _. (seed n : ℕ) → c ≡ Soak seed n → call.steps_now ≤ call.steps_before + busy_between (script_of seed) 0 n + 1)
  pub idle : IfErr read (λ _. call.steps_now ≡ call.steps_before)

-- what a call promises, of the words' command or of none
pub record IsCarriedOut (o : Option Command) (s : Status) (call : Call) : Type 0 where
  pub bytes : List ℕ
  pub bound : length bytes ≤ words_limit_of o + 1
  pub moved : Consumes call.rest_before call.rest_now bytes
  pub count : GrewBy (length bytes) call.taken_before call.taken_now
  pub told_of_taken : Told s (command_answer o bytes) call.text_before call.text_now
  pub told : (b : List ℕ) → call.rest_before ≡ Some b → Told s (command_answer o b) call.text_before call.text_now
  pub seen : Seen o s call.text_before call.text_now
  pub busy_of_taken : (n : ℕ) → o ≡ Some (Run n) → StepsAreFew n bytes call.steps_before call.steps_now
  pub rounds_of_taken : (n : ℕ) → o ≡ Some (ResponseTimes n) → RoundsAreFew n bytes call.steps_before call.steps_now
  pub busy : (n : ℕ) (b : List ℕ) → o ≡ Some (Run n) → call.rest_before ≡ Some b → StepsAreFew n b call.steps_before call.steps_now
  pub shows : (n : ℕ) (b : List ℕ) → o ≡ Some (Show n) → call.rest_before ≡ Some b → StepsAreFew n b call.steps_before call.steps_now
  pub details : (n : ℕ) (b : List ℕ) → o ≡ Some (Detail n) → call.rest_before ≡ Some b → DoubleStepsAreFew n b call.steps_before call.steps_now
  pub rounds : (n : ℕ) (b : List ℕ) → o ≡ Some (ResponseTimes n) → call.rest_before ≡ Some b → RoundsAreFew n b call.steps_before call.steps_now
  pub soaks : (seed n : ℕ) → o ≡ Some (Soak seed n) → call.steps_now ≤ call.steps_before + busy_between (script_of seed) 0 n + 1
  pub generates : Generates o → IsWithoutSource s
  pub too_long : s ≡ TooLong → GrewBy (words_limit_of o + 1) call.taken_before call.taken_now
      ⊎ (HasSecondLimit o × ReadWhole (words_limit_of o) call.rest_before call.rest_now call.taken_before call.taken_now)
  pub read_whole : IsOfWhole s → Reads o → IsAtEnd call.rest_now
  pub whole_bytes : IsOfWhole s → TookAtMost (words_limit_of o) call.rest_before call.rest_now call.taken_before call.taken_now
  pub fault_bytes : s ≡ ReadFault → TookAtMost (words_limit_of o) call.rest_before call.rest_now call.taken_before call.taken_now
  pub memory_bytes : s ≡ OutOfMemory → TookAtMost (words_limit_of o + 1) call.rest_before call.rest_now call.taken_before call.taken_now
  pub write_fault : s ≡ WriteFault → Reads o → ReadToItsEnd (words_limit_of o) call.rest_before call.rest_now call.taken_before call.taken_now
  pub read_fault : s ≡ ReadFault → Rose call.faults_before call.faults_now
  pub source_faults : (s ≡ ReadFault → ⊥) → call.faults_now ≡ call.faults_before
  pub sink_faults : SinkFaults s call.sink_faults_before call.sink_faults_now
  pub some : s ≡ OutOfMemory → IsSome o

-- ---- a text was read

same_command : {a b : Command} → Some a ≡ Some b → a ≡ b
same_command e = cc

pub reads_none : (c : Command) → IsTrue (not (reads c)) → reads c ≡ false
reads_none c is = by_test (reads c) is
  where
    by_test : (b : Bool) → IsTrue (not b) → b ≡ false
    by_test true is = absurd (let e : false ≡ true = is in cc)
    by_test false is = refl

-- a text that is too long to be answered is that of a command with a second limit
second_limit_of_text : {V : Type 0} (items : V → List ℕ) (c : Command) (v : V) (s : Status) (call : Call) → IsAnswered items c (Ok v) s call → s ≡ TooLong
    → HasSecondLimit (Some c) × ReadWhole (limit_of c) call.rest_before call.rest_now call.taken_before call.taken_now
second_limit_of_text items c v s call h e = by_test (reads c) refl
  where
    by_test : (b : Bool) → reads c ≡ b → HasSecondLimit (Some c) × ReadWhole (limit_of c) call.rest_before call.rest_now call.taken_before call.taken_now
    by_test true r =
        (second_limit c (items v) s call.text_before call.text_now h.told e, (h.end r, record { bytes = items v; bound = h.short; moved = h.whole; count = h.count }))
    by_test false r = absurd (subst IsWithoutSource e (h.kind r))

of_text : {V : Type 0} (items : V → List ℕ) (c : Command) (v : V) (s : Status) (call : Call) → IsAnswered items c (Ok v) s call → IsCarriedOut (Some c) s call
of_text items c v s call h =
    let short : length (items v) ≤ limit_of c = h.short in
    let taken : TookAtMost (limit_of c) call.rest_before call.rest_now call.taken_before call.taken_now = record { bytes = items v; bound = short; moved = h.whole; count = h.count } in
    record {
      bytes = items v;
      bound = omega arith;
      moved = h.whole;
      count = h.count;
      told_of_taken = subst (λ (a : Answer). Told s a call.text_before call.text_now) (sym (answer_of_taken c (items v) short)) h.told;
      told = λ b is. subst (λ (a : Answer). Told s a call.text_before call.text_now)
          (sym (answer_of_all c call.rest_before call.rest_now (items v) b short h.whole h.end is)) h.told;
      seen = seen_text c (items v) s call.text_before call.text_now h.told;
      busy_of_taken = λ n run. h.busy n (same_command run);
      rounds_of_taken = λ n run. h.rounds n (same_command run);
      busy = λ n b run is. subst (λ (x : List ℕ). StepsAreFew n x call.steps_before call.steps_now)
          (all_taken call.rest_before call.rest_now (items v) b h.whole (h.end (ap reads (same_command run))) is) (h.busy n (same_command run));
      shows = λ n b run is. subst (λ (x : List ℕ). StepsAreFew n x call.steps_before call.steps_now)
          (all_taken call.rest_before call.rest_now (items v) b h.whole (h.end (ap reads (same_command run))) is) (h.shows n (same_command run));
      details = λ n b run is. subst (λ (x : List ℕ). DoubleStepsAreFew n x call.steps_before call.steps_now)
          (all_taken call.rest_before call.rest_now (items v) b h.whole (h.end (ap reads (same_command run))) is) (h.details n (same_command run));
      rounds = λ n b run is. subst (λ (x : List ℕ). RoundsAreFew n x call.steps_before call.steps_now)
          (all_taken call.rest_before call.rest_now (items v) b h.whole (h.end (ap reads (same_command run))) is) (h.rounds n (same_command run));
      soaks = λ seed n run. h.soaks seed n (same_command run);
      generates = λ none. h.kind (reads_none c none);
      too_long = λ e. inr (second_limit_of_text items c v s call h e);
      read_whole = λ _ is. h.end is;
      whole_bytes = λ _. taken;
      fault_bytes = λ e. absurd (h.no_read_fault e);
      memory_bytes = λ _. record { bytes = items v; bound = omega arith; moved = h.whole; count = h.count };
      write_fault = λ _ is. inl (h.end is, taken);
      read_fault = λ e. absurd (h.no_read_fault e);
      source_faults = λ _. h.no_fault (λ e. cc);
      sink_faults = h.sink_faults;
      some = λ _. refl;
    }

-- ---- the reading ended before its end

-- a command whose reading ended is one that reads
reading : (c : Command) → (reads c ≡ false → IsTrue false) → reads c ≡ true
reading c nothing = by_test (reads c) refl
  where
    by_test : (b : Bool) → reads c ≡ b → reads c ≡ true
    by_test true is = is
    by_test false is = absurd (let e : false ≡ true = nothing is in cc)

-- nothing is generated by it
none_generated : (c : Command) → reads c ≡ true → Generates (Some c) → ⊥
none_generated c is generates = let none = reads_none c generates in let e : true ≡ false = sym is ∙ none in absurd cc

-- one byte more than the limit: this is told, or its line could not be written
abbrev IsLong : Status → Type 0
IsLong TooLong = Unit {0}
IsLong WriteFault = Unit {0}
IsLong Done = ⊥
IsLong Usage = ⊥
IsLong Refused = ⊥
IsLong ReadFault = ⊥
IsLong OutOfMemory = ⊥
IsLong Differs = ⊥
IsLong NoTrace = ⊥
IsLong Breach = ⊥

is_long : (s : Status) → (s ≡ TooLong) ⊎ (s ≡ WriteFault) → IsLong s
is_long s (inl e) = subst IsLong (sym e) tt
is_long s (inr e) = subst IsLong (sym e) tt

long_seen : (o : Option Command) (s : Status) (old new : Option (List ℕ)) → IsLong s → Told s (end_answer read_end.TooLong) old new → Seen o s old new
long_seen o TooLong old new is told = told.1
long_seen o WriteFault old new is told = tt
long_seen o Done old new is told = absurd is
long_seen o Usage old new is told = absurd is
long_seen o Refused old new is told = absurd is
long_seen o ReadFault old new is told = absurd is
long_seen o OutOfMemory old new is told = absurd is
long_seen o Differs old new is told = absurd is
long_seen o NoTrace old new is told = absurd is
long_seen o Breach old new is told = absurd is

not_whole : (s : Status) → (s ≡ TooLong) ⊎ (s ≡ WriteFault) → IsOfWhole s → ⊥
not_whole s (inl e) whole = subst IsOfWhole e whole
not_whole s (inr e) whole = subst IsOfWhole e whole

of_long : {V : Type 0} (items : V → List ℕ) (c : Command) (s : Status) (call : Call) → IsAnswered items c (Err read_end.TooLong) s call → IsCarriedOut (Some c) s call
of_long items c s call h =
    let reads_it : reads c ≡ true = reading c h.nothing in
    let is : IsLong s = is_long s h.ended in
    let bytes = (h.long_bytes refl).0 in
    let count : length bytes ≡ limit_of c + 1 = (h.long_bytes refl).1 in
    let grew = h.long refl in
    record {
      bytes = bytes;
      bound = omega arith;
      moved = (h.long_bytes refl).2;
      count = rw count grew;
      told_of_taken = subst (λ (a : Answer). Told s a call.text_before call.text_now) (sym (answer_long c bytes reads_it (omega arith))) h.end_told;
      told = λ b from. subst (λ (a : Answer). Told s a call.text_before call.text_now)
          (sym (answer_long c b reads_it (more_taken c call.rest_before call.rest_now bytes b count (h.long_bytes refl).2 from))) h.end_told;
      seen = long_seen (Some c) s call.text_before call.text_now is h.end_told;
      busy_of_taken = λ n _. few_steps n bytes call.steps_before call.steps_now h.idle;
      rounds_of_taken = λ n _. few_rounds n bytes call.steps_before call.steps_now h.idle;
      busy = λ n b _ _. few_steps n b call.steps_before call.steps_now h.idle;
      shows = λ n b _ _. few_steps n b call.steps_before call.steps_now h.idle;
      details = λ n b _ _. few_doubled n b call.steps_before call.steps_now h.idle;
      rounds = λ n b _ _. few_rounds n b call.steps_before call.steps_now h.idle;
      soaks = λ seed n _. few_soaked seed n call.steps_before call.steps_now h.idle;
      generates = λ generates. absurd (none_generated c reads_it generates);
      too_long = λ _. inl grew;
      read_whole = λ whole _. absurd (not_whole s h.ended whole);
      whole_bytes = λ whole. absurd (not_whole s h.ended whole);
      fault_bytes = λ e. absurd (subst IsLong e is);
      memory_bytes = λ e. absurd (subst IsLong e is);
      write_fault = λ _ _. inr grew;
      read_fault = λ e. absurd (subst IsLong e is);
      source_faults = λ _. h.no_fault (λ e. cc);
      sink_faults = h.sink_faults;
      some = λ _. refl;
    }

of_fault : {V : Type 0} (items : V → List ℕ) (c : Command) (s : Status) (call : Call) → IsAnswered items c (Err read_end.ReadFault) s call → IsCarriedOut (Some c) s call
of_fault items c s call h =
    let reads_it : reads c ≡ true = reading c h.nothing in
    let is : s ≡ ReadFault = h.ended in
    let took = h.fault_bytes refl in
    let bound : length took.bytes ≤ limit_of c = took.bound in
    let kept : (a : Answer) → Told s a call.text_before call.text_now = λ a. subst (λ (x : Status). Told x a call.text_before call.text_now) (sym is)
    (subst (λ (x : Status). Told x (end_answer read_end.ReadFault) call.text_before call.text_now) is h.end_told) in
    record {
      bytes = took.bytes;
      bound = omega arith;
      moved = took.moved;
      count = took.count;
      told_of_taken = kept (command_answer (Some c) took.bytes);
      told = λ b _. kept (command_answer (Some c) b);
      seen = subst (λ (x : Status). Seen (Some c) x call.text_before call.text_now) (sym is) tt;
      busy_of_taken = λ n _. few_steps n took.bytes call.steps_before call.steps_now h.idle;
      rounds_of_taken = λ n _. few_rounds n took.bytes call.steps_before call.steps_now h.idle;
      busy = λ n b _ _. few_steps n b call.steps_before call.steps_now h.idle;
      shows = λ n b _ _. few_steps n b call.steps_before call.steps_now h.idle;
      details = λ n b _ _. few_doubled n b call.steps_before call.steps_now h.idle;
      rounds = λ n b _ _. few_rounds n b call.steps_before call.steps_now h.idle;
      soaks = λ seed n _. few_soaked seed n call.steps_before call.steps_now h.idle;
      generates = λ generates. absurd (none_generated c reads_it generates);
      too_long = λ e. absurd (cc);
      read_whole = λ whole _. absurd (subst IsOfWhole is whole);
      whole_bytes = λ whole. absurd (subst IsOfWhole is whole);
      fault_bytes = λ _. took;
      memory_bytes = λ e. absurd (cc);
      write_fault = λ e _. absurd (cc);
      read_fault = λ _. h.fault refl;
      source_faults = λ none. absurd (none is);
      sink_faults = h.sink_faults;
      some = λ _. refl;
    }

of_memory : {V : Type 0} (items : V → List ℕ) (c : Command) (s : Status) (call : Call) → IsAnswered items c (Err read_end.OutOfMemory) s call → IsCarriedOut (Some c) s call
of_memory items c s call h =
    let reads_it : reads c ≡ true = reading c h.nothing in
    let is : s ≡ OutOfMemory = h.ended in
    let took = h.memory_bytes refl in
    let kept : (a : Answer) → Told s a call.text_before call.text_now = λ a. subst (λ (x : Status). Told x a call.text_before call.text_now) (sym is)
    (subst (λ (x : Status). Told x (end_answer read_end.OutOfMemory) call.text_before call.text_now) is h.end_told) in
    record {
      bytes = took.bytes;
      bound = took.bound;
      moved = took.moved;
      count = took.count;
      told_of_taken = kept (command_answer (Some c) took.bytes);
      told = λ b _. kept (command_answer (Some c) b);
      seen = subst (λ (x : Status). Seen (Some c) x call.text_before call.text_now) (sym is) tt;
      busy_of_taken = λ n _. few_steps n took.bytes call.steps_before call.steps_now h.idle;
      rounds_of_taken = λ n _. few_rounds n took.bytes call.steps_before call.steps_now h.idle;
      busy = λ n b _ _. few_steps n b call.steps_before call.steps_now h.idle;
      shows = λ n b _ _. few_steps n b call.steps_before call.steps_now h.idle;
      details = λ n b _ _. few_doubled n b call.steps_before call.steps_now h.idle;
      rounds = λ n b _ _. few_rounds n b call.steps_before call.steps_now h.idle;
      soaks = λ seed n _. few_soaked seed n call.steps_before call.steps_now h.idle;
      generates = λ generates. absurd (none_generated c reads_it generates);
      too_long = λ e. absurd (cc);
      read_whole = λ whole _. absurd (subst IsOfWhole is whole);
      whole_bytes = λ whole. absurd (subst IsOfWhole is whole);
      fault_bytes = λ e. absurd (cc);
      memory_bytes = λ _. took;
      write_fault = λ e _. absurd (cc);
      read_fault = λ e. absurd (cc);
      source_faults = λ _. h.no_fault (λ e. cc);
      sink_faults = h.sink_faults;
      some = λ _. refl;
    }

pub carried : {V : Type 0} (items : V → List ℕ) (c : Command) (read : Result V ReadEnd) (s : Status) (call : Call) → IsAnswered items c read s call → IsCarriedOut (Some c) s call
carried items c (Ok v) s call h = of_text items c v s call h
carried items c (Err read_end.TooLong) s call h = of_long items c s call h
carried items c (Err read_end.ReadFault) s call h = of_fault items c s call h
carried items c (Err read_end.OutOfMemory) s call h = of_memory items c s call h

-- ---- the words are no command

abbrev IsUsage : Status → Type 0
IsUsage Usage = Unit {0}
IsUsage WriteFault = Unit {0}
IsUsage Done = ⊥
IsUsage Refused = ⊥
IsUsage TooLong = ⊥
IsUsage ReadFault = ⊥
IsUsage OutOfMemory = ⊥
IsUsage Differs = ⊥
IsUsage NoTrace = ⊥
IsUsage Breach = ⊥

is_usage : (s : Status) → (s ≡ Usage) ⊎ (s ≡ WriteFault) → IsUsage s
is_usage s (inl e) = subst IsUsage (sym e) tt
is_usage s (inr e) = subst IsUsage (sym e) tt

usage_seen : (s : Status) (old new : Option (List ℕ)) → IsUsage s → Told s (command_answer None []) old new → Seen None s old new
usage_seen Usage old new is told = (refl, told.1)
usage_seen WriteFault old new is told = tt
usage_seen Done old new is told = absurd is
usage_seen Refused old new is told = absurd is
usage_seen TooLong old new is told = absurd is
usage_seen ReadFault old new is told = absurd is
usage_seen OutOfMemory old new is told = absurd is
usage_seen Differs old new is told = absurd is
usage_seen NoTrace old new is told = absurd is
usage_seen Breach old new is told = absurd is

-- what a call found is left but for the sink
abbrev pub untouched : Option (List ℕ) → ℕ → ℕ → Option (List ℕ) → Option (List ℕ) → ℕ → ℕ → ℕ → Call
untouched rest taken faults text_before text_now sink_faults_before sink_faults_now steps = record {
  rest_before = rest;
  rest_now = rest;
  taken_before = taken;
  taken_now = taken;
  faults_before = faults;
  faults_now = faults;
  text_before = text_before;
  text_now = text_now;
  sink_faults_before = sink_faults_before;
  sink_faults_now = sink_faults_now;
  steps_before = steps;
  steps_now = steps;
}

pub no_command : (s : Status) (rest : Option (List ℕ)) (taken faults : ℕ) (text_before text_now : Option (List ℕ)) (sink_faults_before sink_faults_now steps : ℕ)
    → (s ≡ Usage) ⊎ (s ≡ WriteFault) → Told s (command_answer None []) text_before text_now → SinkFaults s sink_faults_before sink_faults_now
    → IsCarriedOut None s (untouched rest taken faults text_before text_now sink_faults_before sink_faults_now steps)
no_command s rest taken faults text_before text_now sink_faults_before sink_faults_now steps which told sink_faults =
    let is : IsUsage s = is_usage s which in
    let took : (most : ℕ) → TookAtMost most rest rest taken taken = λ most. record {
      bytes = [];
      bound = omega arith;
      moved = consumes_none rest;
      count = record { at_least = omega arith; at_most = omega arith };
    } in
    record {
      bytes = [];
      bound = omega arith;
      moved = consumes_none rest;
      count = record { at_least = omega arith; at_most = omega arith };
      told_of_taken = told;
      told = λ _ _. told;
      seen = usage_seen s text_before text_now is told;
      busy_of_taken = λ n _. few_steps n [] steps steps refl;
      rounds_of_taken = λ n _. few_rounds n [] steps steps refl;
      busy = λ n b _ _. few_steps n b steps steps refl;
      shows = λ n b _ _. few_steps n b steps steps refl;
      details = λ n b _ _. few_doubled n b steps steps refl;
      rounds = λ n b _ _. few_rounds n b steps steps refl;
      soaks = λ seed n _. few_soaked seed n steps steps refl;
      generates = λ none. absurd none;
      too_long = λ e. absurd (subst IsUsage e is);
      read_whole = λ _ none. absurd none;
      whole_bytes = λ _. took 0;
      fault_bytes = λ _. took 0;
      memory_bytes = λ _. took 1;
      write_fault = λ _ none. absurd none;
      read_fault = λ e. absurd (subst IsUsage e is);
      source_faults = λ _. refl;
      sink_faults = sink_faults;
      some = λ e. absurd (subst IsUsage e is);
    }
