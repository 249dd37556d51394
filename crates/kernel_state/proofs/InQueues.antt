-- The message of a thread that waits for room.
use Rattle.std.proofs.Common.{◌≡◌, ◌∙◌, ℕ, Option, None, Some, ap, refl}
use Rattle.std.specs.Prelude.{option_map}
use Rattle.std.specs.Option.{option_map_or}
use Rattle.rules_bodies.specs.declared.cursor.Cursor.{Cursor}
use Rattle.rules_machine.specs.Queues.{message_of}
use Rattle.rules_machine.specs.State.{Machine, Message, Waiting, for_time}
use Rattle.rules_machine.specs.Threads.{waiting_of}
use Rattle.kernel_threads.specs.Plain.{wait_of}
use Rattle.kernel_threads.specs.declared.status.Wait as plain
use Rattle.kernel_state.specs.Messages.{waiting_message}

abbrev in_wait : Option Waiting → Message
in_wait o = option_map_or (λ (w : Waiting). message_of w.wait) o (message_of for_time)

none_of : (o : Option Waiting) (v : Option plain.Wait) → v ≡ None → option_map wait_of v ≡ option_map (λ (w : Waiting). w.wait) o → message_of for_time ≡ in_wait o
none_of None v none is = refl
none_of (Some u) v none is = absurd (let f : None ≡ Some u.wait = rw none at is in cc)

some_of : (o : Option Waiting) (v : plain.Wait) → option_map wait_of (Some v) ≡ option_map (λ (w : Waiting). w.wait) o → message_of (wait_of v) ≡ in_wait o
some_of None v is = absurd cc
some_of (Some u) v is = let f : wait_of v ≡ u.wait = cc in ap message_of f

pub none_sends : (x : Message) (m : Machine Cursor) (t : ℕ) (v : Option plain.Wait) → v ≡ None → option_map wait_of v ≡ option_map (λ (w : Waiting). w.wait) (waiting_of m t) →
    x ≡ message_of for_time → x ≡ waiting_message m t
none_sends x m t v none is same = same ∙ none_of (waiting_of m t) v none is

pub some_sends : (x : Message) (m : Machine Cursor) (t : ℕ) (v : plain.Wait) → x ≡ message_of (wait_of v) → option_map wait_of (Some v) ≡ option_map (λ (w : Waiting). w.wait) (waiting_of m t) →
    x ≡ waiting_message m t
some_sends x m t v same is = same ∙ some_of (waiting_of m t) v is
