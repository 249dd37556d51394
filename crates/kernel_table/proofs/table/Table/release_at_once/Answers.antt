use Rattle.std.proofs.Common.{◌∙◌, ℕ, ap, arith, sym}
use Rattle.std.specs.Prelude.{◌==◌}
use Rattle.rules_machine.specs.Priorities.{claims, exec_in}
use Rattle.rules_machine.specs.Threads.{thread_in, waiting_in}
use Rattle.parts_waiters.specs.Ties.{place_of}
use Rattle.parts_owners.specs.Chains.{Links, assigned_at}
use Rattle.kernel_table.proofs.ToldMoves.{claims_long}
use Rattle.kernel_table.proofs.Ties.{count_kept, exec_kept}
use Rattle.kernel_table.proofs.Planning.{chain_has}
use Rattle.kernel_table.proofs.table.Table.release_at_once.Goals as goal

pub invariant_of-self : goal.invariant_of-self
invariant_of-self c =
    let s = c.self.inside in
    let tied = c.self.invariant.tied in
    let same = ap (λ (l : Links). l.claims) c.release_at_once.ensures.chain in
    let long = claims_long s.threads s.chain s.waits tied in
    record {
      tied = record {
        few = tied.few;
        claims = same ∙ tied.claims;
        waiting = record {
          lengths = tied.waiting.lengths;
          each = λ u lt. tied.waiting.each u lt ∙ ap (λ (e : ℕ). place_of e (waiting_in (thread_in s.threads u).status))
              (sym (count_kept s.threads s.chain c.release_at_once.new.self s.waits u tied same (c.release_at_once.ensures.same.each u (omega (arith, long, lt)))));
        };
      };
      armed = c.self.invariant.armed;
      kept = c.self.invariant.kept;
    }

pub returns-clause-value : goal.returns-clause-value
returns-clause-value c =
    let s = c.self.inside in
    let tied = c.self.invariant.tied in
    let t = c.args.t in
    let owner = c.owners_are_threads.ensures.each c.args.k t (rw (← c.self.view_is) at c.requires.owned) in
    let long = claims_long s.threads s.chain s.waits tied in
    let has = chain_has s.threads s.chain s.waits t tied (omega (arith, owner, long)) in
    rw (← c.self.view_is)
    (c.release_at_once.ensures.value ∙ ap (λ (e : ℕ). e == assigned_at s.chain t) (exec_kept s.threads s.chain s.waits t tied)
    ∙ ap (λ (a : ℕ). exec_in (claims s.threads) s.chain.mutexes t == a) (sym has))
