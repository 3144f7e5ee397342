-- Events one after another, and then one more.
use Rattle.std.specs.Prelude.{List, [], ◌∷◌, ◌++◌}
use Rattle.store_model.specs.States.{Limits}
use Rattle.desk_model.specs.Events.{Event}
use Rattle.desk_model.specs.Answers.{Answer}
use Rattle.desk_model.specs.Desks.{Desk, EventStep, Plays, last_desk}

pub plays_more : (limits : Limits) (d : Desk) (es : List Event) (answers : List Answer) (ds : List Desk)
    (e : Event) (a : Answer) (t : Desk) → Plays limits d es answers ds
    → EventStep limits (last_desk d ds) e a t
    → Plays limits d (es ++ e ∷ []) (answers ++ a ∷ []) (ds ++ t ∷ [])
plays_more limits d [] [] [] e a t plays step = (step, tt)
plays_more limits d (f ∷ es) (b ∷ answers) (u ∷ ds) e a t plays step =
    (plays.0, plays_more limits u es answers ds e a t plays.1 step)
plays_more limits d [] [] (u ∷ ds) e a t plays step = absurd plays
plays_more limits d [] (b ∷ answers) ds e a t plays step = absurd plays
plays_more limits d (f ∷ es) [] ds e a t plays step = absurd plays
plays_more limits d (f ∷ es) (b ∷ answers) [] e a t plays step = absurd plays
