-- The table that is checked: spots under a header that is read as one of a kind. What is asked of a check,
-- and the layout that it answers.
use Rattle.std.specs.Prelude.{◌≡◌, ℕ, ◌^◌, ◌<◌, ◌≤◌, IsTrue}
use Rattle.std.specs.FinMap as fin
use Rattle.size_class.specs.declared.TheConstants.{SIZE_MAX}
use Rattle.slot_codec.specs.Reading.{all_in_range}
use Rattle.slot_codec.specs.declared.codec.Kind.{Kind}
use Rattle.slot_codec.specs.declared.codec.Header.{Header}
use Rattle.segment_layout.specs.Layouts.{caps_of, divisor_of, grid_of}
use Rattle.segment_layout.specs.declared.layout.Layout.{Layout}
use Rattle.table_rules.specs.Tables.{TableInLayout}
use Rattle.extent_table.specs.Extents.{Spots}
use Rattle.placement_model.specs.Laid.{laid}

-- the header, with its kind set
abbrev pub of_kind : Kind → Header → Header
of_kind kind header = record header { kind = kind }

-- these spots under this header, in a data part of so many bytes
abbrev pub checked : ℕ → ℕ → ℕ → Kind → Header → Spots → TableInLayout
checked classes k data_len kind header spots = laid classes SIZE_MAX k data_len (of_kind kind header) spots

-- There are as many classes as sizes need, the divisor and the numbers of the header are in range, and so
-- many ranks are room for each record.
pub record CanCheck (classes k : ℕ) (header : Header) (spots : Spots) (ranks : ℕ) : Type 0 where
  pub fits : classes ≤ 32
  pub wide : SIZE_MAX < 2 ^ classes
  pub low : 2 ≤ k
  pub high : k ≤ 64
  pub in_range : IsTrue (all_in_range header)
  pub room : fin.len spots ≤ ranks

-- the layout has this divisor, and what the header says of segments and buffers
pub record IsLayoutOf {C : ℕ} (k : ℕ) (header : Header) (layout : Layout C) : Type 0 where
  pub divisor : divisor_of layout ≡ k
  pub capacities : caps_of layout ≡ header.caps
  pub taken : grid_of layout ≡ header.used
