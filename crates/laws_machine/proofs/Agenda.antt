-- Of all that is to come, the items of an instant are those that are due.
use Rattle.std.proofs.Common.{Bool, List, None, Option, Some, [], ap, ap₂, false, refl, sym, true, ℕ, ◌∷◌, ◌++◌, ◌∙◌, ◌≡◌}
use Rattle.std.specs.Prelude.{filter, map}
use Rattle.std.proofs.lemmas.List.{map-append}
use Rattle.std.proofs.lemmas.List.Elements.{filter-append}
use Rattle.words_numbers.specs.declared.item.Item.{Item}
use Rattle.words_numbers.specs.declared.item.Item.TheVariants as item
use Rattle.rules_machine.specs.Lists.{numbers}
use Rattle.rules_machine.specs.State.{Machine}
use Rattle.rules_machine.specs.Threads.{thread_numbers}
use Rattle.rules_machine.specs.DueItems.{due_items, due_of_kind, has_come, refill_due, start_due, timeout_due, timer_due}
use Rattle.rules_machine.specs.Agenda.{Coming, agenda, coming_of, due_by, items_due}

module _ {P : Type 0} (m : Machine P) where
  of_one : (kind : ℕ → Item) (due : Machine P → ℕ → Option ℕ) (n : ℕ) (ns : List ℕ) (o : Option ℕ) (b : Bool) → due m n ≡ o → has_come o m.now ≡ b →
      due_of_kind kind due ns m ≡ items_due m.now (coming_of kind due ns m) → due_of_kind kind due (n ∷ ns) m ≡ items_due m.now (coming_of kind due (n ∷ ns) m)
  of_one kind due n ns None b e h rest = rw e rest
  of_one kind due n ns (Some d) true e h rest = rw (e, h) (ap (λ is. kind n ∷ is) rest)
  of_one kind due n ns (Some d) false e h rest = rw (e, h) rest

  of_kind : (kind : ℕ → Item) (due : Machine P → ℕ → Option ℕ) (ns : List ℕ) → due_of_kind kind due ns m ≡ items_due m.now (coming_of kind due ns m)
  of_kind kind due [] = refl
  of_kind kind due (n ∷ ns) = of_one kind due n ns (due m n) (has_come (due m n) m.now) refl refl (of_kind kind due ns)

  both : (xs ys : List Coming) → items_due m.now xs ++ items_due m.now ys ≡ items_due m.now (xs ++ ys)
  both xs ys = sym (ap (map (λ (c : Coming). c.item)) (filter-append (due_by m.now) xs ys) ∙ map-append (λ (c : Coming). c.item) (filter (due_by m.now) xs) (filter (due_by m.now) ys))

  pub due_are_of_agenda : due_items m ≡ items_due m.now (agenda m)
  due_are_of_agenda =
      let refills = coming_of item.Refill refill_due (thread_numbers m) m in
      let starts = coming_of item.Start start_due (thread_numbers m) m in
      let timeouts = coming_of item.Timeout timeout_due (thread_numbers m) m in
      let timers = coming_of item.Timer timer_due (numbers m.timers) m in
      ap₂ (λ (xs ys : List Item). xs ++ ys)
      (ap₂ (λ (xs ys : List Item). xs ++ ys)
      (ap₂ (λ (xs ys : List Item). xs ++ ys) (of_kind item.Refill refill_due (thread_numbers m)) (of_kind item.Start start_due (thread_numbers m)) ∙ both refills starts)
      (of_kind item.Timeout timeout_due (thread_numbers m)) ∙ both (refills ++ starts) timeouts)
      (of_kind item.Timer timer_due (numbers m.timers)) ∙ both (refills ++ starts ++ timeouts) timers
