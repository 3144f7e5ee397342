-- A store's two books and the bytes moved and asked, through the requests of a session.
use Rattle.std.specs.Prelude.{ℕ, List}
use Rattle.size_class.specs.Classes.{zero_row}
use Rattle.map_model.specs.Maps.{Map}
use Rattle.map_model.specs.Requests.{Change, changed}
use Rattle.segment_layout.specs.Books.{Book, next_book}
use Rattle.cost_laws.specs.Paid.{IsWeighed, IsPaid}
use Rattle.cost_laws.specs.Cells.{NoCellFalls}

-- The map and its book, those of the last checkpoint, and the bytes moved and asked by class since the
-- session began.
pub record Account : Type 0 where
  pub map : Map
  pub book : Book
  pub kept_map : Map
  pub kept_book : Book
  pub moved : List ℕ
  pub asked : List ℕ

-- as a session begins
abbrev pub opened : Map → Book → Account
opened m b =
    record { map = m; book = b; kept_map = m; kept_book = b; moved = zero_row; asked = zero_row }

-- once what is there is the last checkpoint, and once the last checkpoint is what is there
abbrev pub kept : Account → Account
kept a = record a { kept_map = a.map; kept_book = a.book }

abbrev pub gone_back : Account → Account
gone_back a = record a { map = a.kept_map; book = a.kept_book }

-- after a change, with the bytes moved and asked until then
abbrev pub after_change : ℕ → Change → List ℕ → List ℕ → Account → Account
after_change k c moved asked a = record a {
  map = changed c a.map;
  book = (next_book k a.map a.book c).book;
  moved = moved;
  asked = asked;
}

-- Both books are weighed by one cost, no cell has less than at the checkpoint, and what was moved is paid
-- for.
pub record IsPaidFor (C k : ℕ) (cost : ℕ → ℕ) (first : ℕ) (a : Account) : Type 0 where
  pub weighed : IsWeighed C k cost a.map a.book
  pub kept_weighed : IsWeighed C k cost a.kept_map a.kept_book
  pub rises : NoCellFalls a.kept_book.grid a.book.grid
  pub paid : IsPaid C k cost first a.moved a.asked a.book.grid
