-- A lock that takes a plainly free mutex at once, and one that does not.
use Rattle.std.proofs.Common.{◌≡◌, ◌∙◌, ℕ, Bool, true, false, Option, ap, sym}
use Rattle.words_numbers.specs.declared.res.Res.TheVariants as res
use Rattle.rules_bodies.specs.declared.cursor.Cursor.{Cursor}
use Rattle.words_script.specs.declared.call.Call.{Call}
use Rattle.rules_machine.specs.Threads.{mutex_at}
use Rattle.rules_machine.specs.Turns.{Turn, changes_mutex, returns, ◌▷◌}
use Rattle.rules_machine.specs.Mutexes.{LockAnswer, carries_out_lock, locks, taken_by}
use Rattle.parts_owners.specs.Chains.{is_plainly_free, taken_if}
use Rattle.kernel_state.specs.Kernel.{Kernel, after, by, told, turn}
use Rattle.kernel_state.proofs.LeftAlone.{left_alone}
use Rattle.calls_sync.proofs.Acts.{plainly_takes}

module _ (p : Kernel) (t k : ℕ) (r : Bool) (mid : Kernel) (is_mid : mid ≡ after (changes_mutex k (taken_if r t)) p) where
  -- a mutex that is not taken stays as it is
  pub untaken : r ≡ false → mid ≡ p
  untaken left = is_mid ∙ ap (λ (b : Bool). after (changes_mutex k (taken_if b t)) p) left ∙ left_alone p k

  module _ (call : Call) (due first : Option ℕ) (free : r ≡ is_plainly_free (mutex_at p.machine k) first) (so : r ≡ true) where
    taken : mid ≡ after (changes_mutex k (taken_by t)) p
    taken = is_mid ∙ ap (λ (b : Bool). after (changes_mutex k (taken_if b t)) p) so

    turns : (turn p ▷ changes_mutex k (taken_by t) ▷ returns (by t call) res.Zero 0) ≡ locks (by t call) k due (turn p)
    turns = ap (λ (a : LockAnswer). carries_out_lock a (by t call) k due (turn p)) (sym (plainly_takes p.machine t k due first (sym free ∙ so)))

    pub locked : after (returns (by t call) res.Zero 0) mid ≡ after (locks (by t call) k due) p
    locked = ap (after (returns (by t call) res.Zero 0)) taken
        ∙ ap (λ (s : Turn Cursor). record p { machine = s.machine; direct = s.direct }) turns

    pub locked_told : told (returns (by t call) res.Zero 0) mid ≡ told (locks (by t call) k due) p
    locked_told = ap (told (returns (by t call) res.Zero 0)) taken ∙ ap (λ (s : Turn Cursor). s.events) turns

    pub same_names : mid.names ≡ p.names
    same_names = ap (λ (x : Kernel). x.names) taken
