use Rattle.std.proofs.Common.{◌∙◌, ℕ, ap, arith, sym}
use Rattle.rules_machine.specs.Threads.{thread_in, waiting_in}
use Rattle.parts_waiters.specs.Ties.{place_of}
use Rattle.parts_owners.specs.Chains.{Links}
use Rattle.kernel_table.proofs.ToldMoves.{claims_long}
use Rattle.kernel_table.proofs.Ties.{count_kept}
use Rattle.kernel_table.proofs.table.Table.set_count.Goals as goal

pub invariant_of-self : goal.invariant_of-self
invariant_of-self c =
    let s = c.self.inside in
    let tied = c.self.invariant.tied in
    let same = ap (λ (l : Links). l.claims) c.set_count.ensures.chain in
    let long = claims_long s.threads s.chain s.waits tied in
    record {
      tied = record {
        few = tied.few;
        claims = same ∙ tied.claims;
        waiting = record {
          lengths = tied.waiting.lengths;
          each = λ u lt. tied.waiting.each u lt ∙ ap (λ (e : ℕ). place_of e (waiting_in (thread_in s.threads u).status))
              (sym (count_kept s.threads s.chain c.set_count.new.self s.waits u tied same (c.set_count.ensures.same.each u (omega (arith, long, lt)))));
        };
      };
      armed = c.self.invariant.armed;
      kept = c.self.invariant.kept;
    }
