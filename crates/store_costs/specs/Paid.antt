-- What it is that the moves of a store's calls, and of a whole session, are paid for.
use Rattle.std.specs.Prelude.{◌≡◌, ℕ, List, length}
use Rattle.size_class.specs.Classes.{width}
use Rattle.cost_laws.specs.Moves.{rise}
use Rattle.cost_laws.specs.Paid.{ArePaid, IsPaid}
use Rattle.cost_laws.specs.Sessions.{Account}
use Rattle.flush_run.specs.Calls.{IsOpenRow}
use Rattle.store_model.specs.Connection.{StoreValue, kept_map}
use Rattle.store_model.specs.Keeps.{now_map}

-- no number of a store's ledger stands at its last value
pub record HasOpenLedger (s : StoreValue) : Type 0 where
  pub moved : IsOpenRow s.moved
  pub asked : IsOpenRow s.asked

-- By a cost, what was moved from one store to the next is paid for by what was asked for and by what the
-- potential of the book falls.
abbrev pub StepIsPaidFor : (classes : ℕ) (cost : ℕ → ℕ) (old new : StoreValue) → Type 0
StepIsPaidFor classes cost old new = ArePaid classes old.in_use.block.k cost (rise old.moved new.moved)
    (rise old.asked new.asked) old.book.grid new.book.grid

-- A store's row of the bytes asked for is full, and by a cost what was moved since it was opened is paid for
-- by what was asked for, and by so much at first, beside the potential of its book now.
pub record HasPaid (classes : ℕ) (cost : ℕ → ℕ) (first : ℕ) (s : StoreValue) : Type 0 where
  pub full : length s.asked ≡ width
  pub paid : IsPaid classes s.in_use.block.k cost first s.moved s.asked s.book.grid

-- the ledger, the book and the divisor stay
pub record MovesNothing (old new : StoreValue) : Type 0 where
  pub moved : new.moved ≡ old.moved
  pub asked : new.asked ≡ old.asked
  pub book : new.book ≡ old.book
  pub divisor : new.in_use.block.k ≡ old.in_use.block.k

-- the maps of a store over its file, its books and its ledger
abbrev pub account_of : StoreValue → List ℕ → Account
account_of s file = record {
  map = now_map s file;
  book = s.book;
  kept_map = kept_map s file;
  kept_book = s.kept_book;
  moved = s.moved;
  asked = s.asked;
}
