-- Two worked flushes.
use Rattle.std.specs.Prelude.{ℕ, ◌*◌, [], ◌∷◌, slice_set, map}
use Rattle.byte_ranges.specs.Lists.{below}
use Rattle.size_class.specs.Classes.{zero_row}
use Rattle.flush_model.specs.declared.item.Item.{Item}
use Rattle.flush_model.specs.declared.item.Numbers.{Numbers}
use Rattle.flush_model.specs.Plans.{numbers_of}

abbrev pub item : ℕ → ℕ → ℕ → ℕ → Item
item key class place size = record { key = key; class = class; place = place; size = size }

abbrev pub numbers_of_three : Numbers
numbers_of_three = numbers_of 9 (slice_set zero_row 6 100) 2 (item 0 6 0 100 ∷ item 1 3 100 10 ∷ []) 5

abbrev pub numbers_of_eleven : Numbers
numbers_of_eleven = numbers_of 9 (slice_set zero_row 6 900) 6 (map (λ i. item i 6 (100 * i) 100) (below 10))
    100
