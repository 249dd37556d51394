-- The items of an instant, one more at a time.
use Rattle.std.proofs.Common.{◌≡◌, ℕ, zero, suc, Option, None, Some, arith, refl, sym, ◌∙◌}
use Rattle.words_numbers.specs.declared.item.Item.{Item}
use Rattle.rules_machine.specs.Bodies.{Bodies}
use Rattle.rules_machine.specs.Turns.{Turn}
use Rattle.rules_machine.specs.DueItems.{instant, item_bound, item_done, item_then, items_done, next_item}
use Rattle.rules_machine.proofs.ItemsEnd.{instant_ends}

module _ {P : Type 0} (bodies : Bodies P) where
  -- the next item after k of them
  pub items_more : (k : ℕ) (s : Turn P) (i : Item) → next_item (items_done bodies k s).machine ≡ Some i → items_done bodies (suc k) s ≡ item_done bodies i (items_done bodies k s)
  items_more zero s i e = rw e refl
  items_more (suc k) s i e = by_case (next_item s.machine) refl e (λ j some. items_more k (item_done bodies j s) i some)
    where
      by_case : (o : Option Item) → next_item s.machine ≡ o → next_item (item_then bodies o (items_done bodies k) s).machine ≡ Some i →
          ((j : Item) → next_item (items_done bodies k (item_done bodies j s)).machine ≡ Some i → items_done bodies (suc k) (item_done bodies j s) ≡ item_done bodies i (items_done bodies k (item_done bodies j s))) →
          item_then bodies o (items_done bodies (suc k)) s ≡ item_done bodies i (item_then bodies o (items_done bodies k) s)
      by_case None none some rest = let wrong : None ≡ Some i = sym none ∙ some in absurd (grind arith)
      by_case (Some j) first some rest = rest j some

  -- where nothing is due, however many are done
  still : (k : ℕ) (s : Turn P) → next_item s.machine ≡ None → items_done bodies k s ≡ s
  still zero s e = refl
  still (suc k) s e = rw e refl

  -- two numbers of items after which nothing is due
  same_end : (k n : ℕ) (s : Turn P) → next_item (items_done bodies k s).machine ≡ None → next_item (items_done bodies n s).machine ≡ None → items_done bodies k s ≡ items_done bodies n s
  same_end zero n s e f = sym (still n s e)
  same_end (suc k) zero s e f = still (suc k) s f
  same_end (suc k) (suc n) s e f = by_case (next_item s.machine) e f (λ j g h. same_end k n (item_done bodies j s) g h)
    where
      by_case : (o : Option Item) → next_item (item_then bodies o (items_done bodies k) s).machine ≡ None → next_item (item_then bodies o (items_done bodies n) s).machine ≡ None →
          ((j : Item) → next_item (items_done bodies k (item_done bodies j s)).machine ≡ None → next_item (items_done bodies n (item_done bodies j s)).machine ≡ None →
          items_done bodies k (item_done bodies j s) ≡ items_done bodies n (item_done bodies j s)) →
          item_then bodies o (items_done bodies k) s ≡ item_then bodies o (items_done bodies n) s
      by_case None e f rest = refl
      by_case (Some j) e f rest = rest j e f

  -- then the instant is over
  pub instant_is : (k : ℕ) (s : Turn P) → next_item (items_done bodies k s).machine ≡ None → items_done bodies k s ≡ instant bodies s
  instant_is k s e = same_end k (item_bound s.machine) s e (instant_ends bodies s)
