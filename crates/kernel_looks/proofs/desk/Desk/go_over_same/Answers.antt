use Rattle.std.proofs.Common.{refl, true, false, Bool, ◌≡◌, arith}
use Rattle.kernel_looks.proofs.Looking.{has_place, went_nowhere, went_same}
use Rattle.kernel_looks.proofs.desk.Desk.go_over_same.Goals as goal

clash : (v : Bool) → v ≡ true → v ≡ false → ⊥
clash v on off = cc

pub returns-then-has_no_place-clause-went : goal.returns-then-has_no_place-clause-went
returns-then-has_no_place-clause-went c =
    went_nowhere c.args.self.now _ _ refl
    (λ one space. let h = has_place one c.args.self.now _ space in
    clash c.has_no_place.result c.if-has_no_place.true (c.has_no_place.ensures.only h.0 h.1 (omega arith)))

pub returns-clause-went : goal.returns-clause-went
returns-clause-went c =
    let e = c.if-has_no_place.false in
    went_same c.args.self.now _ _ (c.has_no_place.ensures.place e) (c.has_no_place.ensures.subject e) refl refl
