use Rattle.std.proofs.Common.{rules}
use Rattle.words_numbers.specs.declared.res.Res.TheVariants as res
use Rattle.kernel_state.specs.Caller.{caller}
use Rattle.calls_queues.proofs.Received.{sender_stays_blocked, sender_stays_fit, takes_over_from_behind}
use Rattle.kernel_state.proofs.Does.{then_does}
use Rattle.calls_queues.proofs.receives.hand_out.Goals as goal

pub take_over-requires-clause-sender : goal.take_over-requires-clause-sender
take_over-requires-clause-sender g c = record {
  queue = search rules;
  known = search rules;
  blocked = sender_stays_blocked (caller c.args.by.now) res.Zero c.args.value c.args.p.now c.returns.new.self c.args.sender c.returns.ensures.state c.requires.sender.blocked;
  priority = sender_stays_fit (caller c.args.by.now) res.Zero c.args.value c.args.p.now c.returns.new.self c.args.sender c.returns.ensures.state c.requires.sender.priority;
  space = search rules;
  room = search rules;
}

pub returns : goal.returns
returns g c = then_does (takes_over_from_behind c.args.sender c.args.q) c.returns.ensures c.take_over.ensures
