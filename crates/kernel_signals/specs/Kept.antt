-- How pending records are kept: each at a node, with its signal as the node's rank.
use Rattle.std.specs.Prelude.{◌≡◌, ◌<◌, if◌then◌else◌, List, [], ◌∷◌, None, length, map, slice_index_or, ℕ}
use Rattle.std.specs.List.{AllByRecursion}
use Rattle.words_numbers.specs.declared.sig_code.SigCode.{SigCode}
use Rattle.words_numbers.specs.declared.sig_code.SigCode.TheVariants as code
use Rattle.rules_machine.specs.GoodState.{count_of}
use Rattle.rules_machine.specs.Signals.{is_counted}
use Rattle.rules_machine.specs.State.{SignalRecord}
use Rattle.parts_arrivals.specs.Arrivals.{Arrival, Arrivals}
use Rattle.kernel_signals.specs.Timed.{AreTimed}

-- what stands where there is no record
abbrev pub no_record : SignalRecord
no_record = record { signal = 0; code = code.User; value = 0; target = None; timer = None; queue = None; serial = 0 }

-- the record at a node
abbrev pub record_at : List SignalRecord → ℕ → SignalRecord
record_at records n = slice_index_or records n no_record

abbrev pub record_of : List SignalRecord → Arrival → SignalRecord
record_of records a = record_at records a.node

-- the records in the order in which they became pending
abbrev pub records_of : List SignalRecord → List Arrival → List SignalRecord
records_of records order = map (record_of records) order

-- the signal of each is the rank of its node
abbrev pub AreRanked : List SignalRecord → List Arrival → Type 0
AreRanked records order = AllByRecursion (λ (a : Arrival). (record_of records a).signal ≡ a.rank) order

-- each serial is above all before it
abbrev pub AreRising : List SignalRecord → Type 0
AreRising [] = Unit {0}
AreRising (r ∷ pending) = AllByRecursion (λ (s : SignalRecord). r.serial < s.serial) pending × AreRising pending

-- how much a record of a code counts towards the limit
abbrev pub weight_of : SigCode → ℕ
weight_of how = if is_counted how then 1 else 0

abbrev pub counted_in : List SignalRecord → ℕ
counted_in pending = count_of (λ (r : SignalRecord). is_counted r.code) pending

-- the room for records: 64 of kill, tkill and sigqueue, 32 of timers, and 16 of queues
abbrev pub room : ℕ
room = 112

pub record AreKept (arrivals : Arrivals) (records : List SignalRecord) (counted : ℕ) (timers : List ℕ) : Type 0 where
  pub nodes : arrivals.nodes ≡ room
  pub known : length records ≡ room
  pub ranked : AreRanked records arrivals.order
  pub rising : AreRising (records_of records arrivals.order)
  pub signals : AllByRecursion (λ (r : SignalRecord). r.signal < 32) (records_of records arrivals.order)
  pub tallied : counted ≡ counted_in (records_of records arrivals.order)
  pub long : length timers ≡ 256
  pub timed : AreTimed timers (records_of records arrivals.order)
