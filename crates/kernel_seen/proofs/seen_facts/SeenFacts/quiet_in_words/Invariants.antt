use Rattle.std.proofs.Common.{◌≡◌, ◌<◌, ◌≤◌, ◌+◌, ◌-◌, false, ℕ}
use Rattle.std.specs.Prelude.{◌%◌}
use Rattle.kernel_seen.specs.FactSeen.{may_tell}
use Rattle.kernel_seen.proofs.seen_facts.SeenFacts.quiet_in_words.Given as goal

abbrev pub invariant-loop-quiet : goal.invariant-loop-quiet
invariant-loop-quiet l = record {
  few : l.quiet ≤ l.most;
  first : (l.number + l.quiet) % 64 ≡ 0;
  quiet : (i : ℕ) → i < l.quiet → may_tell (l.number + i) l.self.busy ≡ false;
}

abbrev pub decreases-loop-quiet : goal.decreases-loop-quiet
decreases-loop-quiet l = l.most - l.quiet
