use Rattle.std.proofs.Common.{refl}
use Rattle.rules_bodies.specs.Next.{At}
use Rattle.script_code.proofs.code.Code.start.Goals as goal

pub returns-clause-placed : goal.returns-clause-placed
returns-clause-placed c = λ tree h. record {
  body = tree;
  is_body = h;
  place = At 0;
  stands = record { at = refl; passes = c.new.ensures; register = c.requires.in_limit };
}
