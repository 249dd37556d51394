-- A few threads or messages in order, which are kept as values. This project's own.
use Rattle.std.specs.Prelude.{List, map, take, ℕ}
use Rattle.rules_machine.specs.State as machine
use Rattle.kernel_seen.specs.declared.few.FewMessages.{FewMessages}
use Rattle.kernel_seen.specs.declared.few.FewThreads.{FewThreads}
use Rattle.kernel_seen.specs.declared.few.SmallMessage.{SmallMessage}

abbrev pub threads_in : FewThreads → List ℕ
threads_in few = take few.count few.threads

abbrev pub small_message : SmallMessage → machine.Message
small_message m = record { priority = m.priority; value = m.value }

abbrev pub messages_in : FewMessages → List machine.Message
messages_in few = map small_message (take few.count few.messages)
