-- The layout of a store ends below 2^48: its buffers are in proportion to its bytes, and these are few.
use Rattle.std.specs.Prelude.{ℕ, ◌^◌, ◌<◌}
use Rattle.std.proofs.Common.{arith}
use Rattle.size_class.specs.declared.TheConstants.{SIZE_MAX}
use Rattle.slot_codec.proofs.CapLaws.{cap-low}
use Rattle.segment_layout.specs.Books.{version_of}
use Rattle.segment_layout.specs.Shapes.{end_of}
use Rattle.store_model.proofs.LaidEndLaws.{end_small}
use Rattle.store_model.specs.Connection.{StoreValue}
use Rattle.store_model.specs.Stores.{IsStore}

pub end_low : {classes : ℕ} (s : StoreValue) → IsStore classes s
    → end_of s.in_use.block.k s.book.caps < 2 ^ 48
end_low {classes} s h = omega (
  arith,
  end_small classes SIZE_MAX s.in_use.block.k s.book.caps s.book.grid s.now h.now s.in_use.block.names
      h.block.divisor_low h.block.names_high (omega arith)
      (omega (arith, h.now_few, cap-low s.in_use.block.names (version_of s.book))),
)
