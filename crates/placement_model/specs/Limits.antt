-- How many bytes the objects of a store have together at most.
use Rattle.std.specs.Prelude.{ℕ, ◌*◌}
use Rattle.size_class.specs.declared.TheConstants.{SIZE_MAX}

-- as many names as there may be, each of the largest object
abbrev pub most_bytes : ℕ
most_bytes = 65536 * SIZE_MAX
