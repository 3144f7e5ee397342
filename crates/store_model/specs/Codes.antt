-- How the value of a store is stored: as the tuple of its parts.
use Rattle.std.specs.Prelude.{ℕ, Bool, List, Option, refl}
use Rattle.std.specs.FinMap as fin
use Rattle.std.specs.FinSet as set
use Rattle.std.specs.Coded.{Coded, code_by, coded×, coded_ℕ, coded_list, coded_bool, coded_option}
use Rattle.slot_codec.specs.Choice as choice
use Rattle.slot_codec.specs.declared.codec.SuperBlock.{SuperBlock}
use Rattle.map_model.specs.Maps.{Map, name_cmp}
use Rattle.segment_layout.specs.Books.{Book}
use Rattle.extent_table.specs.Extents.{Spots, spot_code}
use Rattle.store_model.specs.Connection.{FlushInHand, StoreValue}

abbrev pub spots_code : Coded Spots
spots_code = fin.code (coded_list coded_ℕ) spot_code

abbrev pub book_code : Coded Book
book_code = code_by (List ℕ × (List (List ℕ) × (set.FinSet name_cmp × Option Map)))
    (coded× (coded_list coded_ℕ) (coded× (coded_list (coded_list coded_ℕ))
    (coded× (set.code (coded_list coded_ℕ)) (coded_option (fin.code (coded_list coded_ℕ)
    (coded_list coded_ℕ))))))
    (λ b. (b.caps, (b.grid, (b.buffered, b.digests))))
    (λ p. record { caps = p.0; grid = p.1.0; buffered = p.1.1.0; digests = p.1.1.1 }) (λ _. refl)

abbrev pub block_code : Coded SuperBlock
block_code = code_by (ℕ × ℕ) (coded× coded_ℕ coded_ℕ) (λ b. (b.k, b.names))
    (λ p. record { k = p.0; names = p.1 }) (λ _. refl)

abbrev pub in_use_code : Coded choice.InUse
in_use_code = code_by (SuperBlock × (ℕ × (ℕ × Bool)))
    (coded× block_code (coded× coded_ℕ (coded× coded_ℕ coded_bool)))
    (λ u. (u.block, (u.slot, (u.sequence, u.other_open))))
    (λ p. record { block = p.0; slot = p.1.0; sequence = p.1.1.0; other_open = p.1.1.1 }) (λ _. refl)

abbrev pub hand_code : Coded FlushInHand
hand_code = code_by (ℕ × (ℕ × (ℕ × (ℕ × (List ℕ × Book)))))
    (coded× coded_ℕ (coded× coded_ℕ (coded× coded_ℕ (coded× coded_ℕ (coded× (coded_list coded_ℕ)
    book_code)))))
    (λ h. (h.reach, (h.boundary, (h.left, (h.began, (h.moved_then, h.book_after))))))
    (λ p. record {
      reach = p.0;
      boundary = p.1.0;
      left = p.1.1.0;
      began = p.1.1.1.0;
      moved_then = p.1.1.1.1.0;
      book_after = p.1.1.1.1.1;
    }) (λ _. refl)

abbrev pub kept_code : Coded StoreValue
kept_code = code_by (choice.InUse
    × (Spots × (Spots × (Book × (Book × (Bool × (List ℕ × (List ℕ × Option FlushInHand))))))))
    (coded× in_use_code (coded× spots_code (coded× spots_code (coded× book_code (coded× book_code
    (coded× coded_bool (coded× (coded_list coded_ℕ) (coded× (coded_list coded_ℕ)
    (coded_option hand_code)))))))))
    (λ s. (
      s.in_use,
      (
        s.now,
        (
          s.kept,
          (
            s.book,
            (
              s.kept_book,
              (
                s.is_broken,
                (
                  s.moved,
                  (
                    s.asked,
                    s.in_hand,
                  ),
                ),
              ),
            ),
          ),
        ),
      ),
    ))
    (λ p. record {
      in_use = p.0;
      now = p.1.0;
      kept = p.1.1.0;
      book = p.1.1.1.0;
      kept_book = p.1.1.1.1.0;
      is_broken = p.1.1.1.1.1.0;
      moved = p.1.1.1.1.1.1.0;
      asked = p.1.1.1.1.1.1.1.0;
      in_hand = p.1.1.1.1.1.1.1.1;
    }) (λ _. refl)
