-- The rules as they are tried, by the rules of the definitions.
use Rattle.table_rules.specs.Rules as rules
use Rattle.table_rules.specs.Rules.{apart_from_earlier, balances, places_to_resume, room_to_resume}
use Rattle.table_check.specs.declared.check.Rule.{Rule}
use Rattle.table_check.specs.declared.check.Rule.TheVariants.{AtPlaces, Apart, Balanced, Room, Resume}
use Rattle.table_check.specs.PlaceRules as places

abbrev pub named : Rule → rules.Rule
named (AtPlaces rule) = places.named rule
named Apart = apart_from_earlier
named Balanced = balances
named Room = room_to_resume
named Resume = places_to_resume
