-- What holds of the fields of a block, and what is seen of them.
use Rattle.std.specs.Prelude.{◌≡◌, ℕ, ◌<◌, List, map, length, get_or, Option, Some, None}
use denote.RawPtr.{Ptr}
use Rattle.parts_links.specs.Places.{IsPlace, IsFilled, index_at}
use Rattle.parts_links.specs.Rings.{Rings}
use Rattle.parts_links.specs.declared.cells.Cells.{Cells}
use Rattle.parts_links.specs.declared.cells.Deed.{Deed}
use Rattle.parts_links.specs.declared.block.Cell.{Cell}
use Rattle.parts_links.specs.contracts.block.Cell.{the_row}

module _ (base : Ptr) where
  abbrev pub after_of : Option Cell → ℕ
  after_of (Some c) = index_at the_row base c.after
  after_of None = 0

  abbrev pub before_of : Option Cell → ℕ
  before_of (Some c) = index_at the_row base c.before
  before_of None = 0

  abbrev pub list_of : Option Cell → ℕ
  list_of (Some c) = c.list
  list_of None = 0

  abbrev pub seen : List (Option Cell) → Rings
  seen cs = record { after = map after_of cs; before = map before_of cs; list = map list_of cs }

  -- both pointers name cells of the block, and the cell knows its number
  pub record IsCell (count i : ℕ) (c : Cell) : Type 0 where
    pub after : IsPlace the_row base c.after
    pub before : IsPlace the_row base c.before
    pub after_inside : index_at the_row base c.after < count
    pub before_inside : index_at the_row base c.before < count
    pub own : c.number ≡ i

pub record IsBlock {A : Type 0} (base : Ptr) (cells : Cells Cell) (deed : Deed Cell A) (alloc : A) (count : ℕ) : Type 0 where
  pub begins : cells.at ≡ base
  pub counted : length cells.slots ≡ count
  pub deed_at : deed.at ≡ base
  pub deed_len : deed.len ≡ count
  pub deed_alloc : deed.alloc ≡ alloc
  pub filled : (i : ℕ) → i < count → IsFilled cells.slots i
  pub each : (i : ℕ) (c : Cell) → get_or cells.slots i None ≡ Some c → IsCell base count i c

-- a cell that is its own neighbour, on no list
pub record IsAlone (base : Ptr) (i : ℕ) (c : Cell) : Type 0 where
  pub after : IsPlace the_row base c.after
  pub before : IsPlace the_row base c.before
  pub after_is : index_at the_row base c.after ≡ i
  pub before_is : index_at the_row base c.before ≡ i
  pub own : c.number ≡ i
  pub list : c.list ≡ 0

-- of count cells the first n are written
pub record IsOpened (base : Ptr) (cells : Cells Cell) (count n : ℕ) : Type 0 where
  pub begins : cells.at ≡ base
  pub counted : length cells.slots ≡ count
  pub each : (i : ℕ) → i < n → (c : Cell) × (get_or cells.slots i None ≡ Some c) × IsAlone base i c
