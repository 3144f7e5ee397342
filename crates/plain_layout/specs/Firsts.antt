-- The rules of the program by those of the definitions.
use Rattle.plain_layout.specs.declared.first.Rule as plain
use Rattle.plain_layout.specs.declared.first.Rule.TheVariants.{SizeFits, EmptyAtZero, EndsWithin, KindFits, NothingAbove, RowFits, LowerStands, ApartFromEarlier, Balances, BuffersFull, RoomToResume, PlacesToResume}
use Rattle.table_rules.specs.Rules.{Rule, size_fits, empty_at_zero, ends_within, kind_fits, nothing_above, row_fits, lower_stands, apart_from_earlier, balances, buffers_full, room_to_resume, places_to_resume}

abbrev pub named : plain.Rule → Rule
named SizeFits = size_fits
named EmptyAtZero = empty_at_zero
named EndsWithin = ends_within
named KindFits = kind_fits
named NothingAbove = nothing_above
named RowFits = row_fits
named LowerStands = lower_stands
named ApartFromEarlier = apart_from_earlier
named Balances = balances
named BuffersFull = buffers_full
named RoomToResume = room_to_resume
named PlacesToResume = places_to_resume
