use Rattle.std.proofs.Common.{rules, ◌≡◌, ◌∙◌, Option, None, Some, map, string_bytes, refl, subst, sym}
use Rattle.tool_answers.specs.declared.command.Command.{Command}
use Rattle.tool_answers.specs.Command.{Generates, command}
use Rattle.tool_commands.proofs.Audits.{holds_where_told}
use Rattle.tool_commands.proofs.Called as called
use Rattle.tool_commands.proofs.CarriedOut.{Call, IsAnswered, IsCarriedOut, carried, no_command, reads_none, untouched}
use Rattle.tool_commands.proofs.Promises as promises
use Rattle.tool_commands.proofs.tool.run_tool.Goals as goal

-- where the words are no command the answer is the usage line
pub returns-in_default : goal.returns-in_default
returns-in_default g c =
    let words = map string_bytes c.args.words.now in
    let none : command words ≡ None = search rules in
    let s = c.put_usage.result in
    let call = untouched (g.S.Source.rest c.args.source.now) (g.S.Source.taken c.args.source.now) (g.S.Source.faults c.args.source.now)
    (g.K.Sink.text c.args.sink.now) (g.K.Sink.text c.put_usage.new.sink) (g.K.Sink.faults c.args.sink.now) (g.K.Sink.faults c.put_usage.new.sink)
    c.args.steps.now in
    let p : IsCarriedOut (command words) s call = subst (λ (o : Option Command). IsCarriedOut o s call) (sym none)
    (no_command s _ _ _ _ _ _ _ _ c.put_usage.ensures.status c.put_usage.ensures.told c.put_usage.ensures.faults) in
    record {
      told = called.told p;
      answered = called.answered words p;
      head_runs = promises.head_runs;
      good = promises.stays_good;
      budgets = promises.keeps_budgets;
      generated_good = promises.generated_stays_good;
      generated_budgets = promises.generated_keeps_budgets;
      numbers = promises.numbers_small;
      readings = promises.one_reading;
      holds = λ bytes is rest done. holds_where_told words bytes s call.text_before call.text_now is (p.told bytes rest) done;
      breaks_none = promises.breaks_none;
      windows = promises.keeps_windows;
      upgrades_read = promises.reads_upgraded;
      upgrades_alike = promises.runs_alike;
      first_versions = promises.runs_as_before;
      busy = p.busy;
      shows = p.shows;
      details = p.details;
      rounds = p.rounds;
      soaks = p.soaks;
      usage = called.usage p;
      usage_text = called.usage_text p;
      no_command = λ _. (c.put_usage.ensures.status, refl);
      usage_part = called.usage_part p;
      generates = p.generates;
      unread = λ _. refl;
      too_long = p.too_long;
      too_long_text = called.too_long_text p;
      checked = called.checked p;
      audited = called.audited p;
      divided = called.divided p;
      no_trace_text = called.no_trace_text p;
      read_whole = p.read_whole;
      whole_bytes = p.whole_bytes;
      fault_bytes = p.fault_bytes;
      memory_bytes = p.memory_bytes;
      write_fault = p.write_fault;
      read_fault = p.read_fault;
      source_faults = p.source_faults;
      sink_faults = p.sink_faults;
      unchanged = c.put_usage.ensures.unchanged;
      complete = called.complete p c.put_usage.ensures.unchanged;
    }

-- else the command is carried out
pub returns : goal.returns
returns g c =
    let words = map string_bytes c.args.words.now in
    let order = c.in-Some.command in
    let is : command words ≡ Some order = sym c.command_of_words.ensures.command ∙ c.in-Some.is in
    let s = c.carry_out.result in
    let call : Call = record {
      rest_before = g.S.Source.rest c.args.source.now;
      rest_now = g.S.Source.rest c.read_for-read.new.source;
      taken_before = g.S.Source.taken c.args.source.now;
      taken_now = g.S.Source.taken c.read_for-read.new.source;
      faults_before = g.S.Source.faults c.args.source.now;
      faults_now = g.S.Source.faults c.read_for-read.new.source;
      text_before = g.K.Sink.text c.args.sink.now;
      text_now = g.K.Sink.text c.carry_out.new.sink;
      sink_faults_before = g.K.Sink.faults c.args.sink.now;
      sink_faults_now = g.K.Sink.faults c.carry_out.new.sink;
      steps_before = c.args.steps.now;
      steps_now = c.carry_out.new.steps;
    } in
    let read = c.read_for-read.ensures in
    let told = c.carry_out.ensures in
    let h : IsAnswered (λ v. v.items) order c.read_for-read.result s call = record {
      whole = read.whole;
      end = read.end;
      short = read.short;
      count = read.count;
      long = read.long;
      long_bytes = read.long_bytes;
      fault = read.fault;
      fault_bytes = read.fault_bytes;
      no_fault = read.no_fault;
      memory_bytes = read.memory_bytes;
      nothing = read.nothing;
      told = told.told;
      kind = told.kind;
      no_read_fault = told.no_fault;
      ended = told.ended;
      end_told = told.end_told;
      sink_faults = told.faults;
      busy = told.busy;
      shows = told.shows;
      details = told.details;
      rounds = told.rounds;
      soaks = told.soaks;
      idle = told.idle;
    } in
    let p : IsCarriedOut (command words) s call = subst (λ (o : Option Command). IsCarriedOut o s call) (sym is) (carried (λ v. v.items) order c.read_for-read.result s call h) in
    record {
      told = called.told p;
      answered = called.answered words p;
      head_runs = promises.head_runs;
      good = promises.stays_good;
      budgets = promises.keeps_budgets;
      generated_good = promises.generated_stays_good;
      generated_budgets = promises.generated_keeps_budgets;
      numbers = promises.numbers_small;
      readings = promises.one_reading;
      holds = λ bytes is rest done. holds_where_told words bytes s call.text_before call.text_now is (p.told bytes rest) done;
      breaks_none = promises.breaks_none;
      windows = promises.keeps_windows;
      upgrades_read = promises.reads_upgraded;
      upgrades_alike = promises.runs_alike;
      first_versions = promises.runs_as_before;
      busy = p.busy;
      shows = p.shows;
      details = p.details;
      rounds = p.rounds;
      soaks = p.soaks;
      usage = called.usage p;
      usage_text = called.usage_text p;
      no_command = λ none. absurd (let e : None ≡ Some order = sym none ∙ is in cc);
      usage_part = called.usage_part p;
      generates = p.generates;
      unread = λ generates. read.unread (reads_none order (subst Generates is generates));
      too_long = p.too_long;
      too_long_text = called.too_long_text p;
      checked = called.checked p;
      audited = called.audited p;
      divided = called.divided p;
      no_trace_text = called.no_trace_text p;
      read_whole = p.read_whole;
      whole_bytes = p.whole_bytes;
      fault_bytes = p.fault_bytes;
      memory_bytes = p.memory_bytes;
      write_fault = p.write_fault;
      read_fault = p.read_fault;
      source_faults = p.source_faults;
      sink_faults = p.sink_faults;
      unchanged = told.unchanged;
      complete = called.complete p told.unchanged;
    }
