-- Charges of a machine are charges alone of it as its head begins its tick.
use Rattle.std.proofs.Common.{None, Option, ap, arith, false, suc, sym, true, zero, ℕ, ◌<◌, ◌≡◌}
use mathlib.Core.Path.{subst, ◌∙◌}
use Rattle.rules_lists.specs.Lists.{highest}
use Rattle.rules_machine.specs.Bodies.{Bodies}
use Rattle.rules_machine.specs.State.{Machine}
use Rattle.rules_machine.specs.Turns.{turn_of}
use Rattle.rules_machine.specs.DueItems.{next_item}
use Rattle.rules_machine.specs.Dispatch.{head}
use Rattle.rules_machine.specs.Eventful.{has_item, head_matters, unless_ended}
use Rattle.rules_machine.specs.Ticks.{prepares}
use Rattle.rules_machine.proofs.Parts.{prepares_unended}
use Rattle.rules_moves.proofs.Runs.Preparing.{prepared}
use Rattle.rules_leaps.specs.Quiet.{at_head, charged_head, charged_unless_killed, one_charge}
use Rattle.laws_leaps.proofs.Quiet.Prepared.{Begun, begun_head, charged_begun, one_plain, plain_charges, plain_unless_killed, prepared_lists}
use Rattle.laws_leaps.proofs.Quiet.Runs.{charges}
use Rattle.laws_leaps.proofs.Quiet.Events.{charged_killed, charged_lists}
use Rattle.laws_leaps.proofs.Leaps.Calm.{Calm, EndsAt, Handled, steady}

module _ {P : Type 0} (bodies : Bodies P) where
  -- none of the next j ticks matters, and nothing falls due in them or at their end
  pub record PlainCalm (j : ℕ) (m : Machine P) : Type 0 where
    pub quiet : (i : ℕ) → i < j → unless_ended bodies (plain_charges bodies i m).killed (plain_charges bodies i m) ≡ false
    pub idle : (i : ℕ) → i < j → next_item (plain_charges bodies (suc i) m) ≡ None

  pub fewer_plain : (j : ℕ) (m : Machine P) → PlainCalm (suc j) m → PlainCalm j m
  fewer_plain j m c = record { quiet = λ i small. c.quiet i (omega arith); idle = λ i small. c.idle i (omega arith) }

  pub record PlainEndsAt (j : ℕ) (m : Machine P) : Type 0 where
    pub due : unless_ended bodies (plain_charges bodies j m).killed (plain_charges bodies j m) ≡ false → has_item (plain_charges bodies (suc j) m) ≡ true

  -- a head that has begun its tick
  pub record Going (to : Option ℕ) (m : Machine P) : Type 0 where
    pub alive : m.killed ≡ None
    pub first : head m ≡ to
    pub begun : Begun to m

  one_going : (to : Option ℕ) (m : Machine P) → m.killed ≡ None → head m ≡ to → charged_head bodies to m ≡ one_plain bodies m
  one_going to m alive first = sym (ap (λ (k : Option ℕ). plain_unless_killed bodies k m) alive ∙ ap (λ (o : Option ℕ). charged_head bodies o m) first)

  charged_going : (to : Option ℕ) (m : Machine P) → m.killed ≡ None → head m ≡ to → Begun to (charged_head bodies to m) → Going to (one_plain bodies m)
  charged_going to m alive first b =
      subst (Going to) (one_going to m alive first) (record { alive = charged_killed bodies to m ∙ alive; first = charged_lists bodies to m ∙ first; begun = b })

  module _ (to : Option ℕ) (m : Machine P) (alive : m.killed ≡ None) (first : head m ≡ to) where
    abbrev ready : Machine P
    ready = (prepares to (turn_of m)).machine

    pub ready_alive : ready.killed ≡ None
    ready_alive = (prepares_unended to (turn_of m)).killed ∙ alive

    pub ready_first : head ready ≡ to
    ready_first = ap highest (prepared_lists to m) ∙ first

    is_ready : at_head m ≡ ready
    is_ready = ap (λ (o : Option ℕ). (prepares o (turn_of m)).machine) first

    pub going_at : (j : ℕ) → Going to (plain_charges bodies (suc j) ready)
    going_at zero = charged_going to ready ready_alive ready_first (charged_begun bodies to ready (prepared to (turn_of m)).closed)
    going_at (suc j) = let g = going_at j in charged_going to (plain_charges bodies (suc j) ready) g.alive g.first (charged_begun bodies to (plain_charges bodies (suc j) ready) g.begun.closed)

    pub bridge : (j : ℕ) → charges bodies (suc j) m ≡ plain_charges bodies (suc j) ready
    bridge zero =
        ap (λ (k : Option ℕ). charged_unless_killed bodies k m) alive
        ∙ ap (λ (o : Option ℕ). charged_head bodies o (prepares o (turn_of m)).machine) first
        ∙ one_going to ready ready_alive ready_first
    bridge (suc j) =
        let at = plain_charges bodies (suc j) ready in
        let g = going_at j in
        ap (one_charge bodies) (bridge j)
        ∙ ap (λ (k : Option ℕ). charged_unless_killed bodies k at) g.alive
        ∙ ap (λ (o : Option ℕ). charged_head bodies o (prepares o (turn_of at)).machine) g.first
        ∙ ap (charged_head bodies to) (sym (ap (λ (o : Option ℕ). (prepares o (turn_of at)).machine) g.first) ∙ begun_head to at g.first g.begun)
        ∙ one_going to at g.alive g.first

    module _ (h : Handled bodies m) where
      matters_ready : unless_ended bodies ready.killed ready ≡ unless_ended bodies m.killed m
      matters_ready =
          ap (λ (k : Option ℕ). unless_ended bodies k ready) ready_alive ∙ ap (λ (o : Option ℕ). head_matters bodies o ready) ready_first
          ∙ (steady bodies to m h first).so.matters
          ∙ sym (ap (λ (k : Option ℕ). unless_ended bodies k m) alive ∙ ap (λ (o : Option ℕ). head_matters bodies o m) first)

      pub matters_at : (i : ℕ) → unless_ended bodies (charges bodies i m).killed (charges bodies i m) ≡ unless_ended bodies (plain_charges bodies i ready).killed (plain_charges bodies i ready)
      matters_at zero = sym matters_ready
      matters_at (suc i) = ap (λ (x : Machine P). unless_ended bodies x.killed x) (bridge i)

      pub calm_of : (j : ℕ) → PlainCalm j ready → Calm bodies j m
      calm_of j c = record { quiet = λ i small. matters_at i ∙ c.quiet i small; idle = λ i small. ap next_item (bridge i) ∙ c.idle i small }

      pub plain_of : (j : ℕ) → Calm bodies j m → PlainCalm j ready
      plain_of j c = record { quiet = λ i small. sym (matters_at i) ∙ c.quiet i small; idle = λ i small. sym (ap next_item (bridge i)) ∙ c.idle i small }

      pub ends_of : (j : ℕ) → PlainEndsAt j ready → EndsAt bodies j m
      ends_of j e = record { due = λ k. ap has_item (bridge j) ∙ e.due (sym (matters_at j) ∙ k) }
