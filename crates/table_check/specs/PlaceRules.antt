-- The rules that are tried place by place, by the rules of the definitions.
use Rattle.table_rules.specs.Rules.{Rule, size_fits, empty_at_zero, ends_within, kind_fits, nothing_above, row_fits, lower_stands, buffers_full}
use Rattle.table_check.specs.declared.places.PlaceRule.{PlaceRule}
use Rattle.table_check.specs.declared.places.PlaceRule.TheVariants.{SizeFits, EmptyAtZero, EndsWithin, KindFits, NothingAbove, RowFits, LowerStands, BuffersFull}

abbrev pub named : PlaceRule → Rule
named SizeFits = size_fits
named EmptyAtZero = empty_at_zero
named EndsWithin = ends_within
named KindFits = kind_fits
named NothingAbove = nothing_above
named RowFits = row_fits
named LowerStands = lower_stands
named BuffersFull = buffers_full
