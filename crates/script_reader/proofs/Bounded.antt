-- Counts grow by one at most.
use Rattle.std.proofs.Common.{◌≡◌, ◌<◌, ℕ, ◌+◌, List, [], ◌∷◌, length, arith, subst, sym}
use Rattle.words_script.specs.declared.name_kind.NameKind.{NameKind}
use Rattle.words_script.specs.declared.name_kind.NameKind.TheVariants as kind
use Rattle.script_table.specs.declared.pattern.Closer.{Closer}
use Rattle.script_table.specs.declared.pattern.Closer.TheVariants as closer
use Rattle.script_table.specs.declared.form.Form.{Form}
use Rattle.script_table.specs.declared.form.Form.TheVariants as form
use Rattle.script_table.specs.Structure.{body_kind, closer_of, closed_by}
use Rattle.script_table.specs.Names.{Counts, Entry, counted, count_of, counts_from, no_counts}
use Rattle.script_table.specs.Ranges.{Tally, tallied, entered, left, object_kind}
use Rattle.script_reader.specs.Bounds.{AreCountsBelow, AreTallyBelow}

counts_more : (c : Counts) (n : ℕ) → AreCountsBelow c n → AreCountsBelow c (n + 1)
counts_more c n b = record { threads = omega (arith, b.threads); mutexes = omega (arith, b.mutexes); conds = omega (arith, b.conds); sems = omega (arith, b.sems); queues = omega (arith, b.queues); timers = omega (arith, b.timers); handlers = omega (arith, b.handlers); cleanups = omega (arith, b.cleanups) }

pub counted_below : (c : Counts) (k : NameKind) (n : ℕ) → AreCountsBelow c n → AreCountsBelow (counted c k) (n + 1)
counted_below c kind.Thread n b = let h = counts_more c n b in record { threads = omega (arith, b.threads); mutexes = h.mutexes; conds = h.conds; sems = h.sems; queues = h.queues; timers = h.timers; handlers = h.handlers; cleanups = h.cleanups }
counted_below c kind.Mutex n b = let h = counts_more c n b in record { threads = h.threads; mutexes = omega (arith, b.mutexes); conds = h.conds; sems = h.sems; queues = h.queues; timers = h.timers; handlers = h.handlers; cleanups = h.cleanups }
counted_below c kind.Cond n b = let h = counts_more c n b in record { threads = h.threads; mutexes = h.mutexes; conds = omega (arith, b.conds); sems = h.sems; queues = h.queues; timers = h.timers; handlers = h.handlers; cleanups = h.cleanups }
counted_below c kind.Sem n b = let h = counts_more c n b in record { threads = h.threads; mutexes = h.mutexes; conds = h.conds; sems = omega (arith, b.sems); queues = h.queues; timers = h.timers; handlers = h.handlers; cleanups = h.cleanups }
counted_below c kind.Queue n b = let h = counts_more c n b in record { threads = h.threads; mutexes = h.mutexes; conds = h.conds; sems = h.sems; queues = omega (arith, b.queues); timers = h.timers; handlers = h.handlers; cleanups = h.cleanups }
counted_below c kind.Timer n b = let h = counts_more c n b in record { threads = h.threads; mutexes = h.mutexes; conds = h.conds; sems = h.sems; queues = h.queues; timers = omega (arith, b.timers); handlers = h.handlers; cleanups = h.cleanups }
counted_below c kind.Handler n b = let h = counts_more c n b in record { threads = h.threads; mutexes = h.mutexes; conds = h.conds; sems = h.sems; queues = h.queues; timers = h.timers; handlers = omega (arith, b.handlers); cleanups = h.cleanups }
counted_below c kind.Cleanup n b = let h = counts_more c n b in record { threads = h.threads; mutexes = h.mutexes; conds = h.conds; sems = h.sems; queues = h.queues; timers = h.timers; handlers = h.handlers; cleanups = omega (arith, b.cleanups) }

pub count_below : (c : Counts) (k : NameKind) (n : ℕ) → AreCountsBelow c n → count_of c k < n
count_below c kind.Thread n b = b.threads
count_below c kind.Mutex n b = b.mutexes
count_below c kind.Cond n b = b.conds
count_below c kind.Sem n b = b.sems
count_below c kind.Queue n b = b.queues
count_below c kind.Timer n b = b.timers
count_below c kind.Handler n b = b.handlers
count_below c kind.Cleanup n b = b.cleanups

counts_from_below : (es : List Entry) (c : Counts) (n : ℕ) → AreCountsBelow c n → AreCountsBelow (counts_from c es) (n + length es)
counts_from_below [] c n b = let e : n ≡ n + 0 = omega arith in subst (AreCountsBelow c) e b
counts_from_below (x ∷ es) c n b =
    let e : (n + 1) + length es ≡ n + length (x ∷ es) = omega arith in
    subst (AreCountsBelow (counts_from (counted c x.kind) es)) e (counts_from_below es (counted c x.kind) (n + 1) (counted_below c x.kind n b))

none_below : AreCountsBelow no_counts 1
none_below = record { threads = omega arith; mutexes = omega arith; conds = omega arith; sems = omega arith; queues = omega arith; timers = omega arith; handlers = omega arith; cleanups = omega arith }

-- there are no more of a kind than names
pub count_fits : (es : List Entry) (k : NameKind) (c : Counts) (n : ℕ) → c ≡ counts_from no_counts es → length es < n → count_of c k < n
count_fits es k c n is lt =
    let b : AreCountsBelow c (1 + length es) = subst (λ (d : Counts). AreCountsBelow d (1 + length es)) (sym is) (counts_from_below es no_counts 1 none_below) in
    let h = count_below c k (1 + length es) b in
    omega arith

entered_below : (t : Tally) (c : Closer) (n : ℕ) → AreTallyBelow t n → AreTallyBelow (entered t c) (n + 1)
entered_below t closer.End n b = record { counts = counts_more t.counts n b.counts; quanta = omega (arith, b.quanta); steps = omega (arith, b.steps); depth = omega (arith, b.depth); pushes = omega (arith, b.pushes) }
entered_below t closer.Pop n b = record { counts = counts_more t.counts n b.counts; quanta = omega (arith, b.quanta); steps = omega (arith, b.steps); depth = omega (arith, b.depth); pushes = omega (arith, b.pushes) }

left_below : (t : Tally) (c : Closer) (n : ℕ) → AreTallyBelow t n → AreTallyBelow (left t c) (n + 1)
left_below t closer.End n b = record { counts = counts_more t.counts n b.counts; quanta = omega (arith, b.quanta); steps = omega (arith, b.steps); depth = omega (arith, b.depth); pushes = omega (arith, b.pushes) }
left_below t closer.Pop n b = record { counts = counts_more t.counts n b.counts; quanta = omega (arith, b.quanta); steps = omega (arith, b.steps); depth = omega (arith, b.depth); pushes = omega (arith, b.pushes) }

tallied_below : (t : Tally) (f : Form) (n : ℕ) → AreTallyBelow t n → AreTallyBelow (tallied t f) (n + 1)
tallied_below t form.Quantum n b = record { counts = counts_more t.counts n b.counts; quanta = omega (arith, b.quanta); steps = omega (arith, b.steps); depth = omega (arith, b.depth); pushes = omega (arith, b.pushes) }
tallied_below t (form.Object f) n b = record { counts = counted_below t.counts (object_kind f) n b.counts; quanta = omega (arith, b.quanta); steps = omega (arith, b.steps); depth = omega (arith, b.depth); pushes = omega (arith, b.pushes) }
tallied_below t (form.Action f) n b = record { counts = counts_more t.counts n b.counts; quanta = omega (arith, b.quanta); steps = omega (arith, b.steps); depth = omega (arith, b.depth); pushes = omega (arith, b.pushes) }
tallied_below t (form.Body f) n b = record { counts = counted_below t.counts (body_kind f) n b.counts; quanta = omega (arith, b.quanta); steps = omega (arith, b.steps); depth = omega (arith, b.depth); pushes = omega (arith, b.pushes) }
tallied_below t (form.Step f) n b = record { counts = counts_more t.counts n b.counts; quanta = omega (arith, b.quanta); steps = omega (arith, b.steps); depth = omega (arith, b.depth); pushes = omega (arith, b.pushes) }
tallied_below t (form.Call f) n b = record { counts = counts_more t.counts n b.counts; quanta = omega (arith, b.quanta); steps = omega (arith, b.steps); depth = omega (arith, b.depth); pushes = omega (arith, b.pushes) }
tallied_below t (form.Block f) n b = entered_below t (closer_of f) n b
tallied_below t (form.Close f) n b = left_below t (closed_by f) n b

pub still_below : (t u : Tally) (f : Form) (n : ℕ) → u ≡ tallied t f → AreTallyBelow t n → AreTallyBelow u (n + 1)
still_below t u f n is b = subst (λ (v : Tally). AreTallyBelow v (n + 1)) (sym is) (tallied_below t f n b)
