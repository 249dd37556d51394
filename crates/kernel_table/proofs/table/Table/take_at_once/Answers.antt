use Rattle.std.proofs.Common.{◌≡◌, ◌∙◌, ℕ, Bool, Option, ap, arith, refl, subst, sym}
use Rattle.rules_machine.specs.State.{Wait}
use Rattle.rules_machine.specs.Threads.{mutex_in, thread_in, waiting_in}
use Rattle.parts_waiters.specs.declared.WaitObj.TheVariants as wait_obj
use Rattle.parts_waiters.specs.Places.{best_of}
use Rattle.parts_waiters.specs.Ties.{is_object, object_of, place_of}
use Rattle.parts_owners.specs.Chains.{Links, is_plainly_free}
use Rattle.kernel_table.specs.Table as table
use Rattle.kernel_table.specs.Table.{best_in}
use Rattle.kernel_table.proofs.ToldMoves.{claims_long}
use Rattle.kernel_table.proofs.Served.{best_is}
use Rattle.kernel_table.proofs.Ties.{count_kept, placed}
use Rattle.kernel_table.proofs.table.Table.take_at_once.Goals as goal

pub invariant_of-self : goal.invariant_of-self
invariant_of-self c =
    let s = c.self.inside in
    let tied = c.self.invariant.tied in
    let same = ap (λ (l : Links). l.claims) c.take_at_once.ensures.chain in
    let long = claims_long s.threads s.chain s.waits tied in
    record {
      tied = record {
        few = tied.few;
        claims = same ∙ tied.claims;
        waiting = record {
          lengths = tied.waiting.lengths;
          each = λ u lt. tied.waiting.each u lt ∙ ap (λ (e : ℕ). place_of e (waiting_in (thread_in s.threads u).status))
              (sym (count_kept s.threads s.chain c.take_at_once.new.self s.waits u tied same (c.take_at_once.ensures.same.each u (omega (arith, long, lt)))));
        };
      };
      armed = c.self.invariant.armed;
      kept = c.self.invariant.kept;
    }

pub take_at_once-requires-clause-placed : goal.take_at_once-requires-clause-placed
take_at_once-requires-clause-placed c = placed c.self.inside.threads c.self.inside.chain c.self.inside.waits c.self.invariant.tied

pub returns-clause-value : goal.returns-clause-value
returns-clause-value c =
    let s = c.self.inside in
    let k = c.args.k in
    subst (λ (x : table.Table). (passes : Wait → Bool) → ((w : Wait) → passes w ≡ is_object (wait_obj.Mutex k) (object_of w)) →
    c.take_at_once.result ≡ is_plainly_free (mutex_in x.mutexes k) (best_in x passes)) c.self.view_is
    (λ passes same. c.take_at_once.ensures.value
    ∙ ap (λ (o : Option ℕ). is_plainly_free (mutex_in s.chain.mutexes k) o)
    (best_is s.timers s.threads s.chain s.waits (wait_obj.Mutex k) (best_of (wait_obj.Mutex k) s.waits) refl c.serve_by_the_rules.ensures.waiters c.self.invariant.tied passes same))
