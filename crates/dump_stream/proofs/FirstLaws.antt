-- A file with the table of a store that was just formatted opens to the empty map and the empty book.
use Rattle.std.specs.Prelude.{◌≡◌, ℕ, ◌-◌, nat_lt, List, [], length, take, refl}
use Rattle.std.proofs.Common.{arith, sym, ◌∙◌, subst}
use Rattle.std.proofs.lemmas.Bool.{cond-false, le-ltb}
use Rattle.std.specs.FinMap as fin
use Rattle.byte_ranges.specs.Lists.{below}
use Rattle.size_class.specs.Classes.{zero_grid, zero_row}
use Rattle.size_class.specs.declared.TheConstants.{CLASSES, SIZE_MAX}
use Rattle.size_class.proofs.ClassLaws.{zero_grid-cell, zero_row-index}
use Rattle.slot_codec.specs.Spelling.{head_len}
use Rattle.slot_codec.specs.declared.codec.Header.{Header}
use Rattle.slot_codec.specs.declared.codec.Kind.TheVariants.{Settled}
use Rattle.slot_pair.specs.Formats.{HasFirstTable, first_header, first_table}
use Rattle.segment_layout.specs.Shapes.{end_of}
use Rattle.segment_layout.specs.Books.{empty_book, volumes_of_sizes}
use Rattle.segment_layout.proofs.LayoutLaws.{taken_nothing}
use Rattle.segment_layout.proofs.ShapeLaws.{end_of-rest}
use Rattle.table_rules.specs.Opening.{OpensBy}
use Rattle.table_rules.specs.Rules.{IsValid}
use Rattle.table_rules.specs.Tables.{TableInLayout, book_of, end_of_record, last_end, nth}

-- a layout of segments without capacity ends where it begins
no_layout : (k classes : ℕ) → end_of k (take classes zero_row) ≡ 0
no_layout k classes = end_of-rest k zero_row classes (λ c _. zero_row-index c)
    ∙ sym (end_of-rest k zero_row 0 (λ c _. zero_row-index c))

-- a table without records, whose header has this
abbrev none_under : ℕ → ℕ → Header → TableInLayout
none_under k data_len header = record {
  classes = CLASSES;
  size_max = SIZE_MAX;
  k = k;
  data_len = data_len;
  header = header;
  records = [];
}

-- the first header, by its words
abbrev zero_header : Header
zero_header = record {
  version = 1;
  kind = Settled;
  boundary = 0;
  sequence = 1;
  count = 0;
  wall = 0;
  slack = 0;
  caps = zero_row;
  used = zero_grid;
}

zero_is_first : zero_header ≡ first_header
unfolding first_header zero_row zero_grid
zero_is_first = refl

-- it keeps each rule
zero_valid : (k data_len : ℕ) → IsValid (none_under k data_len zero_header)
zero_valid k data_len = (
  record {
    places = record {
      sizes = λ i within. absurd (omega (arith, within));
      empty = λ i within. absurd (omega (arith, within));
      above = λ c _. (λ _. zero_row-index c, λ d _ _. zero_grid-cell c d);
      rows = λ j _. omega (arith, taken_nothing zero_grid j (zero_grid-cell j));
      stands = λ i within. absurd (omega (arith, within));
      apart = λ i within. absurd (omega (arith, within));
      balance = λ c _. record { buffers = λ j _. omega arith; payload = omega (arith, zero_row-index c) };
      full = λ c _. record {
        entry = λ j _ taken. absurd (omega (arith, taken, zero_grid-cell j c));
        full = λ j i _ taken _ _. absurd (omega (arith, taken, zero_grid-cell j c));
      };
    };
    within = λ i last.
        let t = none_under k data_len zero_header in
        let is = cond-false (nat_lt i 0) (end_of_record (nth t i)) (last_end t Settled)
        (le-ltb i 0 (omega arith)) in
        omega (arith, is, no_layout k CLASSES);
    front = (refl, refl, refl);
  },
  tt,
)

zero_book : (k data_len : ℕ) → empty_book ≡ book_of (none_under k data_len zero_header)
unfolding zero_row zero_grid volumes_of_sizes below
zero_book k data_len = refl

pub first_opens : (k names : ℕ) (file : List ℕ) → HasFirstTable k names file
    → OpensBy CLASSES SIZE_MAX (first_table k names) file fin.empty empty_book
first_opens k names file first =
    let data_len = length file - head_len names in
    record {
      read = first.table;
      valid = subst (λ (h : Header). IsValid (none_under k data_len h)) zero_is_first (zero_valid k data_len);
      same_map = refl;
      same_book = subst (λ (h : Header). empty_book ≡ book_of (none_under k data_len h)) zero_is_first
          (zero_book k data_len);
    }
