-- Rows have their shape.
use Rattle.std.specs.Prelude.{ℕ}
use Rattle.size_class.specs.Classes.{IsRow}
use Rattle.size_class.specs.declared.row.Row.{Row}
use Rattle.size_class.specs.Rows.{cells_of}

-- each row has its shape
pub row_shape : {C : ℕ} (r : Row C) → IsRow C (cells_of r)
row_shape r = r.shape
