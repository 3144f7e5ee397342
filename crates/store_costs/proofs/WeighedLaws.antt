-- The book of a store is weighed by each cost, and a change charges what its places say.
use Rattle.std.specs.Prelude.{◌≡◌, ℕ, List, ◌++◌}
use Rattle.std.proofs.Common.{sym, ◌∙◌, ap, subst}
use Rattle.std.specs.FinMap as fin
use Rattle.size_class.specs.declared.TheConstants.{SIZE_MAX}
use Rattle.map_model.specs.Maps.{Map}
use Rattle.map_model.specs.Requests.{Change}
use Rattle.segment_layout.specs.Balance.{IsBalanced}
use Rattle.segment_layout.specs.Books.{Book, charge_all, charge_change, new_item, old_item}
use Rattle.placement_model.specs.LaidOut.{shown_book}
use Rattle.placement_model.specs.Quiet.{gone_items}
use Rattle.placement_model.specs.Reads.{EndWithin, read_at}
use Rattle.placement_model.proofs.NextQuietLaws.{old_item-is}
use Rattle.move_cost.specs.Costs.{IsCost}
use Rattle.cost_laws.specs.Cells.{NoCellFalls}
use Rattle.cost_laws.specs.Paid.{IsWeighed}
use Rattle.store_model.specs.Sized.{IsSizedBy}
use Rattle.store_model.proofs.LaidEndLaws.{blank, in_blank, shown_balanced}
use Rattle.store_model.proofs.SizedLaws.{sized_read}
use Rattle.store_model.specs.Connection.{IsOver, StoreValue, base_of, kept_map}
use Rattle.store_model.specs.Keeps.{now_map}
use Rattle.store_model.specs.Quiet.{charges_of}
use Rattle.store_model.specs.Stores.{IsStore}
use Rattle.store_model.proofs.DigestLaws.{balanced_with}
use Rattle.store_model.proofs.StoreLaws.{kept_lies, now_lies}

module _ {C : ℕ} (s : StoreValue) (h : IsStore C s) where
  abbrev k : ℕ
  k = s.in_use.block.k

  -- a file that is long enough for the objects of now
  abbrev pub zeros : List ℕ
  zeros = blank C SIZE_MAX k s.book.caps s.book.grid s.now h.now

  pub in_zeros : EndWithin 0 zeros s.now
  in_zeros = in_blank C SIZE_MAX k s.book.caps s.book.grid s.now h.now

  module _ (base : ℕ) (file : List ℕ) (within : EndWithin base file s.now) where
    abbrev m : Map
    m = read_at base file s.now

    pub sized_now : IsSizedBy m s.now
    sized_now = sized_read base file s.now h.now.named within

    -- the book of what a file gives where the objects stand
    pub weighed_now : (cost : ℕ → ℕ) → IsCost C cost → IsWeighed C k cost m s.book
    weighed_now cost is = record {
      fits = h.now.few;
      is_cost = is;
      low = h.block.divisor_low;
      high = h.block.divisor_high;
      balanced = subst (λ (b : Book). IsBalanced k m b) (sym h.now_book)
          (balanced_with k m (shown_book C SIZE_MAX k s.book.caps s.book.grid s.now) s.book.digests
          (shown_balanced C SIZE_MAX k s.book.caps s.book.grid s.now h.now base file within));
      within = λ j c past. h.now.grid_full.zero_above j c past;
    }

    -- what a change charges by the map and the book is what it charges by the places
    pub same_charges : (c : Change) → charge_change k m s.book c ≡ charges_of s c
    same_charges c =
        let old : old_item m s.book c.name ≡ gone_items k s.book.caps (fin.get s.now c.name) =
        ap (λ (b : Book). old_item m b c.name) h.now_book
        ∙ old_item-is C SIZE_MAX k s.book.caps s.book.grid s.now h.now base file within c.name in
        ap (λ (xs : List ℕ). charge_all k s.book.caps s.book.grid (xs ++ new_item c)) old

  pub weighed_then : (base : ℕ) (file : List ℕ) → EndWithin base file s.kept → (cost : ℕ → ℕ) → IsCost C cost
      → IsWeighed C k cost (read_at base file s.kept) s.kept_book
  weighed_then base file within cost is = record {
    fits = h.kept.few;
    is_cost = is;
    low = h.block.divisor_low;
    high = h.block.divisor_high;
    balanced = subst (λ (b : Book). IsBalanced k (read_at base file s.kept) b) (sym h.kept_book)
        (balanced_with k (read_at base file s.kept)
        (shown_book C SIZE_MAX k s.book.caps s.kept_book.grid s.kept) s.kept_book.digests
        (shown_balanced C SIZE_MAX k s.book.caps s.kept_book.grid s.kept h.kept base file within));
    within = λ j c past. h.kept.grid_full.zero_above j c past;
  }

-- ---- over a file

pub weighed_by_file : {C : ℕ} (s : StoreValue) (file : List ℕ) (cost : ℕ → ℕ) → IsStore C s → IsOver C s file
    → IsCost C cost → IsWeighed C s.in_use.block.k cost (now_map s file) s.book
weighed_by_file s file cost h over is = weighed_now s h (base_of s) file (now_lies s file h over) cost is

pub kept_by_file : {C : ℕ} (s : StoreValue) (file : List ℕ) (cost : ℕ → ℕ) → IsStore C s → IsOver C s file
    → IsCost C cost → IsWeighed C s.in_use.block.k cost (kept_map s file) s.kept_book
kept_by_file s file cost h over is = weighed_then s h (base_of s) file (kept_lies s file h over) cost is

pub none_fell : {C : ℕ} (s : StoreValue) → IsStore C s → NoCellFalls s.kept_book.grid s.book.grid
none_fell s h j c = h.fuller.cells j c
