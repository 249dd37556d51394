use Rattle.std.proofs.Common.{◌≡◌, ⊎_elim, min, IfSome, Some, set, subst, subst₂, sym, arith}
use Rattle.parts_wheel.specs.Slots.{IsLeastLater, IsFirstAt}
use Rattle.parts_wheel.proofs.Order.{lt_or}
use Rattle.parts_wheel.proofs.Fronts.{early_armed, before_least, lower_armed, same_armed, front_led, first_joins, first_kept, still_at_once}
use Rattle.parts_wheel.proofs.front.Front.with_later.Goals as goal

pub returns : goal.returns
returns c slots after asked f =
    let id = c.args.id in let d = c.args.tick in let least = c.args.self.least in let early = c.args.self.early in let was = c.args.self.first in
    let later : IsLeastLater slots.base (set slots.dues id (Some d)) c.min.result = ⊎_elim
    (λ more. let is : c.min.result ≡ least = omega (arith, c.min.ensures, more) in
    subst (λ m. IsLeastLater slots.base (set slots.dues id (Some d)) m) (sym is) (same_armed slots.base id d least slots.dues f.later (λ l. omega (arith, more)) asked.1 asked.0))
    (λ less. let is : c.min.result ≡ d = omega (arith, c.min.ensures, less) in
    subst (λ m. IsLeastLater slots.base (set slots.dues id (Some d)) m) (sym is) (lower_armed slots.base id d least slots.dues f.later after less asked.0))
    (lt_or least d) in
    let first : IsFirstAt (set slots.dues id (Some d)) c.min.result c.first_with.result × IfSome c.first_with.result (λ _. c.min-2.result ≡ c.min.result) = ⊎_elim
    (λ leads. let less = before_least slots.base d early least slots.dues f.later f.none_before leads.0 c.requires in
    let is : c.min.result ≡ d = omega (arith, c.min.ensures, less) in (
      subst₂ (λ m k. IsFirstAt (set slots.dues id (Some d)) m k) (sym is) (sym leads.1) (front_led slots.base id d least slots.dues f.later after less asked.0),
      subst (λ k. IfSome k (λ _. c.min-2.result ≡ c.min.result)) (sym leads.1) (omega (arith, less, c.min.ensures, c.min-2.ensures, leads.0)),
    ))
    (λ r. ⊎_elim
    (λ joins. let n = joins.1.0 in
    let known = subst (λ k. IsFirstAt slots.dues least k) joins.1.1 f.lowest in
    let same : early ≡ least = subst (λ k. IfSome k (λ _. early ≡ least)) joins.1.1 f.at_once in
    let at : least ≡ d = omega (arith, same, joins.0) in
    let is : c.min.result ≡ d = omega (arith, c.min.ensures, at) in (
      subst₂ (λ m k. IsFirstAt (set slots.dues id (Some d)) m k) (sym is) (sym joins.1.2)
          (subst (λ t. IsFirstAt (set slots.dues id (Some t)) t (Some (min n id))) at (first_joins id least n slots.dues known asked.1 asked.0)),
      subst (λ k. IfSome k (λ _. c.min-2.result ≡ c.min.result)) (sym joins.1.2) (omega (arith, same, joins.0, c.min.ensures, c.min-2.ensures)),
    ))
    (λ stays. (
      subst (λ k. IsFirstAt (set slots.dues id (Some d)) c.min.result k) (sym stays.1)
          (first_kept id d early least c.min.result was slots.dues f.lowest f.at_once stays.2 stays.0 c.min.ensures asked.1 asked.0),
      subst (λ k. IfSome k (λ _. c.min-2.result ≡ c.min.result)) (sym stays.1)
          (still_at_once was early least d c.min-2.result c.min.result f.at_once stays.0 c.min-2.ensures c.min.ensures),
    ))
    r)
    c.first_with.ensures in
    record {
      later = later;
      none_before = early_armed slots.dues id d early c.min-2.result f.none_before (omega (arith, c.min-2.ensures)) (omega (arith, c.min-2.ensures)) asked.0;
      lowest = first.0;
      at_once = first.1;
    }
