use Rattle.calls_items.proofs.Expired.{as_record, told_record}
use Rattle.calls_items.proofs.expiries.generate_expiry.Goals as goal

pub returns : goal.returns
returns g c = record {
  state = (as_record c.args.k c.args.p.now _ c.timer_record-r.result c.timer_record-r.ensures c.generate.ensures.state);
  told = (told_record _ _ c.args.k c.args.p.now _ _ c.timer_record-r.result c.timer_record-r.ensures c.generate.ensures.told);
}
