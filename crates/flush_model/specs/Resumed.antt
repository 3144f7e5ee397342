-- The numbers of a flush that goes on after it was interrupted.
use Rattle.std.specs.Prelude.{ℕ, ◌+◌, List}
use Rattle.size_class.specs.Classes.{width}
use Rattle.segment_layout.specs.Shapes.{start_of}
use Rattle.flush_model.specs.declared.item.Item.{Item}
use Rattle.flush_model.specs.declared.item.Numbers.{Numbers}
use Rattle.flush_model.specs.Plans.{laid_length}

-- The wall and the slack are those of its moving table, and it reaches to the wall.
abbrev pub numbers_again : ℕ → List ℕ → ℕ → ℕ → ℕ → List Item → Numbers
numbers_again k caps b wall slack items = record {
  boundary = b;
  start = start_of k caps b;
  wall = wall;
  slack = slack;
  reach = wall;
  end = start_of k caps b + laid_length k items b width;
}
