-- What the rules before a rule give.
use Rattle.std.specs.Prelude.{◌≡◌, ℕ, ◌<◌, ◌≤◌, ◌^◌, List, [], slice_index}
use Rattle.std.proofs.Common.{arith, ap, inl, inr}
use Rattle.std.proofs.lemmas.Bool.{cases_lt}
use Rattle.std.proofs.lemmas.List.{get_or_past}
use Rattle.size_class.specs.Classes.{row}
use Rattle.size_class.specs.declared.TheConstants.{SIZE_MAX}
use Rattle.slot_codec.specs.declared.codec.Header.{Header}
use Rattle.slot_codec.specs.declared.codec.Record.{Record}
use Rattle.extent_table.specs.Extents.{Extents, records_of}
use Rattle.slot_codec.specs.declared.codec.Kind.{Kind}
use Rattle.slot_codec.specs.declared.codec.Kind.TheVariants.{Settled, Moving}
use Rattle.segment_layout.specs.Shapes.{IsShape}
use Rattle.segment_layout.proofs.LayoutLaws.{taken_nothing}
use Rattle.table_rules.specs.Tables.{HasFullRows, TableInLayout, boundary_of_kind, table_boundary}
use Rattle.table_rules.specs.Rules.{IsValid, KeepsPlaces, KindFits, kind_fits, last_of}
use Rattle.table_rules.proofs.TableLaws.{zero_cell}
use Rattle.table_rules.proofs.FirstLaws.{keeps_valid}
use Rattle.table_check.specs.declared.frame.Frame.{Frame}
use Rattle.table_check.specs.Checked.{checked, of_kind}
use Rattle.table_check.specs.Firsts.{HoldBelow}
use Rattle.table_check.specs.Placed.{framed, placed}

-- where all rules of its kind hold, a table is valid
pub hold_all : (t : TableInLayout) (n : ℕ) → last_of t.header.kind < n → HoldBelow n t → IsValid t
hold_all t n all hold = keeps_valid t (λ rule low. hold rule (omega (arith, low, all)))

-- from the fifth rule on the boundary is at most the number of classes
bounded : (t : TableInLayout) (kind : Kind) → KindFits t kind
    → boundary_of_kind t.classes kind t.header.boundary ≤ t.classes
bounded t Settled rule = omega arith
bounded t Moving rule = omega (arith, rule)

pub boundary_bounded : (t : TableInLayout) (n : ℕ) → 4 < n → HoldBelow n t → table_boundary t ≤ t.classes
boundary_bounded t n late hold = bounded t t.header.kind (hold kind_fits late 0 (omega arith))

-- a valid table has the shape of a layout
pub shape_of_valid : (t : TableInLayout) → HasFullRows t → 2 ≤ t.k → t.k ≤ 64
    → ((c : ℕ) → slice_index t.header.caps c < 2 ^ 48) → KeepsPlaces t
    → IsShape t.classes t.k t.header.caps t.header.used
shape_of_valid t full low high small p =
    record {
      k_low = low;
      k_high = high;
      caps_high = small;
      rows = λ j. elim (cases_lt j (table_boundary t)) [
        | inl below ↦ p.rows j below
        | inr above ↦ omega (arith, taken_nothing t.header.used j (λ c. zero_cell t full p j c (inl above)))
      ];
      lower = λ j c above. zero_cell t full p j c (inr above);
    }

-- the numbers that a table is checked against are whole
pub frame_full : (f : Frame) (rs : List Record) → HasFullRows (framed f rs)
frame_full f rs =
    let grid = f.header.used in
    record {
      caps_full = f.shape.caps_full;
      grid_full = record {
        full = f.shape.grid_full;
        rows = λ j wide. record {
          full = f.shape.rows_full j wide;
          zero_above = λ c high. get_or_past (row grid j) c 0 (omega (arith, f.shape.rows_full j wide, high));
        };
        zero_above = λ j c high. ap (λ xs. slice_index xs c)
            (get_or_past grid j [] (omega (arith, f.shape.grid_full, high)));
      };
      classes = f.shape.few;
    }

pub shape_of_frame : (f : Frame) (rs : List Record) → IsValid (framed f rs)
    → IsShape f.classes f.k f.header.caps f.header.used
shape_of_frame f rs valid = shape_of_valid (framed f rs) (frame_full f rs) f.shape.k_low f.shape.k_high
    f.shape.caps_high valid.0.places

-- the table that is checked is the one that was asked for
pub framed_is : (classes k data_len : ℕ) (kind : Kind) (header : Header) (e : Extents) (f : Frame)
    → f.classes ≡ classes → f.size_max ≡ SIZE_MAX → f.k ≡ k → f.data_len ≡ data_len
    → f.header ≡ of_kind kind header → placed e f ≡ checked classes k data_len kind header e.now
framed_is classes k data_len kind header e f a b c d h = λ i. record {
  classes = a i;
  size_max = b i;
  k = c i;
  data_len = d i;
  header = h i;
  records = records_of e.now;
}
