-- What was moved stays paid for through the requests of a session: quiet changes, flushes, keep and back.
use Rattle.std.specs.Prelude.{◌≡◌, ℕ, ◌+◌, ◌*◌, ◌≤◌, true, List}
use Rattle.std.proofs.Common.{arith}
use Rattle.map_model.specs.Maps.{Map}
use Rattle.map_model.specs.Requests.{Change, changed}
use Rattle.segment_layout.specs.Books.{Book, next_book}
use Rattle.move_cost.specs.Costs.{factor, weigh, potential}
use Rattle.cost_laws.specs.Moves.{next_grid, MovesNext}
use Rattle.cost_laws.specs.Paid.{IsPaid, IsWeighed, AsksNext}
use Rattle.cost_laws.specs.Cells.{HasNoneFrom, NoCellFalls}
use Rattle.cost_laws.proofs.CellLaws.{quiet_rises}
use Rattle.cost_laws.proofs.PaidLaws.{paid_first, paid_next, paid_back, weighed_next}
use Rattle.cost_laws.specs.Sessions.{Account, IsPaidFor, after_change, gone_back, kept, opened}

same_cells : (grid : List (List ℕ)) → NoCellFalls grid grid
same_cells grid j c = omega arith

module _ (C k : ℕ) (cost : ℕ → ℕ) where
  pub session_begins : (m : Map) (book : Book) → IsWeighed C k cost m book
      → IsPaidFor C k cost (potential C cost k book.grid) (opened m book)
  session_begins m book w = record {
    weighed = w;
    kept_weighed = w;
    rises = same_cells book.grid;
    paid = paid_first C k cost book.grid;
  }

  module _ (first : ℕ) (a : Account) (h : IsPaidFor C k cost first a) where
    pub session_keeps : IsPaidFor C k cost first (kept a)
    session_keeps = record {
      weighed = h.weighed;
      kept_weighed = h.weighed;
      rises = same_cells a.book.grid;
      paid = h.paid;
    }

    pub session_goes_back : IsPaidFor C k cost first (gone_back a)
    session_goes_back = record {
      weighed = h.kept_weighed;
      kept_weighed = h.kept_weighed;
      rises = same_cells a.kept_book.grid;
      paid = paid_back C k cost first a.moved a.asked a.kept_book.grid a.book.grid h.rises h.paid;
    }

    -- a quiet change leaves the checkpoint, and a flush makes one; the next book's buffers from C on stay
    -- empty
    module _ (c : Change) (moved asked : List ℕ) (within : HasNoneFrom C (next_grid k a.map a.book c))
        (moves : MovesNext (next_book k a.map a.book c) (changed c a.map) a.moved moved)
        (asks : AsksNext a.map c a.asked asked) where
      next_paid : IsPaid C k cost first moved asked (next_grid k a.map a.book c)
      next_paid = paid_next C k cost a.map a.book c h.weighed first a.moved moved a.asked asked moves asks
          h.paid

      pub session_changes : (next_book k a.map a.book c).quiet ≡ true
          → IsPaidFor C k cost first (after_change k c moved asked a)
      session_changes quiet = record {
        weighed = weighed_next C k cost a.map a.book c h.weighed within;
        kept_weighed = h.kept_weighed;
        rises = λ j d. omega (
          arith,
          h.rises j d,
          quiet_rises k a.map a.book c h.weighed.balanced.grid_full quiet j d,
        );
        paid = next_paid;
      }

      pub session_flushes : IsPaidFor C k cost first (kept (after_change k c moved asked a))
      session_flushes =
          let w = weighed_next C k cost a.map a.book c h.weighed within in
          record {
            weighed = w;
            kept_weighed = w;
            rises = same_cells (next_grid k a.map a.book c);
            paid = next_paid;
          }

    -- so in all no more was moved than the factor times what was asked, and what was there at first
    pub session_in_all : weigh C cost a.moved ≤ factor k * weigh C cost a.asked + first
    session_in_all = omega (arith, h.paid)
