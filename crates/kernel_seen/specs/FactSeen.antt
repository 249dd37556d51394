-- What is seen of a fact as a value, and the texts that tell it. This project's own.
use Rattle.std.specs.Prelude.{Bool, List, None, Option, Some, [], false, map, replicate, slice_index_or, ℕ, ◌+◌, ◌-◌, ◌/◌, ◌%◌, ◌^◌, ◌∷◌, ◌≡◌, ◌≢◌, ◌==◌}
use Rattle.std.specs.Int.{bit_at}
use Rattle.words_script.specs.declared.decl.Decl.{Decl}
use Rattle.rules_facts.specs.Fact.{Fact, arming_of, cancelability, masked, messages_of, on_list, owner, registration_of, replenishments, semaphore_value}
use Rattle.rules_facts.specs.Order.{in_order}
use Rattle.rules_facts.specs.Queues.{is_received_before}
use Rattle.parts_waiters.specs.declared.order.Candidate.{Candidate}
use Rattle.parts_waiters.specs.Places.{comes_before}
use Rattle.kernel_lines.specs.InLine.{line_of}
use Rattle.kernel_texts.specs.Lines.{fact_text}
use Rattle.kernel_texts.specs.Short.{HasShortText}
use Rattle.kernel_seen.specs.FewSeen.{messages_in, threads_in}
use Rattle.kernel_seen.specs.KeptLines.{line_fact, waiters_in}
use Rattle.kernel_seen.specs.Seen.{seen_fact}
use Rattle.kernel_seen.specs.declared.fact_seen.FactSeen.{FactSeen}
use Rattle.kernel_seen.specs.declared.fact_seen.FactSeen.TheVariants as seen

-- the fact that is seen, where one is
abbrev pub fact_seen : FactSeen → Option Fact
fact_seen seen.Unseen = None
fact_seen (seen.Status t s) = Some (seen_fact t s)
fact_seen (seen.OnList p few) = Some (on_list p (threads_in few))
fact_seen (seen.Owner k t count) = Some (owner k (Some (record { thread = t; count = count })))
fact_seen (seen.Value k value) = Some (semaphore_value k value)
fact_seen (seen.Registration q signal value) = Some (registration_of q (Some (record { signal = signal; value = value })))
fact_seen (seen.Arming k due interval) = Some (arming_of k (Some (record { due = due; interval = interval })))
fact_seen (seen.Masked t set) = Some (masked t set)
fact_seen (seen.Cancelability t requested disabled ending) = Some (cancelability t (record { is_requested = requested; is_disabled = disabled; is_ending = ending }))
fact_seen (seen.PlannedOnce t a) = Some (replenishments t (a ∷ []))
fact_seen (seen.PlannedTwice t a b) = Some (replenishments t (a ∷ b ∷ []))
fact_seen (seen.Messages q few) = Some (messages_of q (in_order is_received_before (messages_in few)))
fact_seen (seen.InLine sort k few) = Some (line_fact (line_of sort k) (map (λ (c : Candidate). c.thread) (in_order comes_before (waiters_in few))))

-- what is seen is this fact, where one is
abbrev pub IsOf : Fact → Option Fact → Type 0
IsOf f None = Unit {0}
IsOf f (Some g) = g ≡ f

-- and it is the only one of these
abbrev pub IsOnlyOf : List Fact → Option Fact → Type 0
IsOnlyOf facts None = Unit {0}
IsOnlyOf facts (Some g) = g ∷ [] ≡ facts

-- a text tells a fact, and is short
pub record TellsShortly (decls : List Decl) (text : List ℕ) (f : Fact) : Type 0 where
  pub told : text ≡ fact_text decls f
  pub short : HasShortText decls f

abbrev pub TellsIfAny : List Decl → Option Fact → List ℕ → Type 0
TellsIfAny decls None text = Unit {0}
TellsIfAny decls (Some f) text = TellsShortly decls text f

-- What is seen of facts by number, and which of them may have a text that is not empty, a bit for each.
pub record Memory : Type 0 where
  pub facts : List FactSeen
  pub busy : List ℕ

-- whether the bit of a fact is set; that of one without a word is
abbrev pub may_tell : ℕ → List ℕ → Bool
may_tell i words = bit_at (slice_index_or words (i / 64) (2 ^ 64 - 1)) (i % 64) == 1

-- the bits of the other facts stay
abbrev pub AreSameElse : ℕ → List ℕ → List ℕ → Type 0
AreSameElse i old new = (k : ℕ) → k ≢ i → may_tell k new ≡ may_tell k old

-- nothing is seen so far
abbrev pub no_memory : ℕ → Memory
no_memory count = record { facts = replicate count seen.Unseen; busy = replicate (count / 64 + 1) 0 }

-- each text tells what is seen of its fact, and is empty where its bit is clear
pub record IsMemoryOf (decls : List Decl) (texts : List (List ℕ)) (m : Memory) : Type 0 where
  pub told : (i : ℕ) → TellsIfAny decls (fact_seen (slice_index_or m.facts i seen.Unseen)) (slice_index_or texts i [])
  pub quiet : (i : ℕ) → may_tell i m.busy ≡ false → slice_index_or texts i [] ≡ []
