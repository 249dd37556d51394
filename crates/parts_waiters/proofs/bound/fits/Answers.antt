use Rattle.parts_waiters.proofs.Alike.{no_condition, other_object}
use Rattle.parts_waiters.proofs.bound.fits.Goals as goal

pub returns-in_default : goal.returns-in_default
returns-in_default c = λ is. no_condition c.args.places.now c.args.place.now c.requires.id (other_object c.args.place.now.object c.in_default.not-Cond)
