-- What a change asks: the bytes of the object that it removes and of the one that it inserts, by class.
use Rattle.std.specs.Prelude.{ℕ, List, ◌++◌}
use Rattle.std.specs.FinMap as fin
use Rattle.map_model.specs.Maps.{Map}
use Rattle.map_model.specs.Requests.{Change}
use Rattle.segment_layout.specs.Books.{volumes_of_sizes, item_of, new_item}

-- the sizes of the objects that a change removes and inserts
abbrev pub asked_sizes : Map → Change → List ℕ
asked_sizes m c = item_of (fin.get m c.name) ++ new_item c

-- their bytes, by class
abbrev pub asked_row : Map → Change → List ℕ
asked_row m c = volumes_of_sizes (asked_sizes m c)
