-- A worked script: a flush of one session's put goes step by step between the requests of another.
use Rattle.std.specs.Prelude.{ℕ, List, [], ◌∷◌, ◌++◌, codes, replicate, Some, None}
use Rattle.std.specs.FinMap as fin
use Rattle.std.specs.FinSet as set
use Rattle.size_class.specs.Classes.{zero_grid}
use Rattle.map_model.specs.Maps.{Map}
use Rattle.map_model.specs.Requests as ask
use Rattle.map_model.specs.Requests.{Request}
use Rattle.segment_layout.specs.Books.{Book}
use Rattle.segment_layout.specs.Shapes.{with_entry}
use Rattle.segment_layout.specs.Worked.{sizes_by}
use Rattle.store_model.specs.States.{Limits, State}
use Rattle.desk_model.specs.Events as event
use Rattle.desk_model.specs.Events.{Event}
use Rattle.desk_model.specs.Answers as answer
use Rattle.desk_model.specs.Answers.{Answer}

-- a divisor of 9, and room for 16 names
abbrev pub worked_limits : Limits
worked_limits = record { k = 9; names = 16; size_max = 67108864 }

-- an object of 100 bytes, and one of 10 that stands in the buffer behind it
abbrev pub worked_map : Map
worked_map = fin.from_sorted ((codes "a", replicate 100 48) ∷ (codes "b", codes "abcdefghij") ∷ [])

abbrev pub worked_book : Book
worked_book = record {
  caps = sizes_by 6 100;
  grid = with_entry zero_grid 6 3 10;
  buffered = set.insert set.empty (codes "b");
  digests = None;
}

abbrev pub worked_state : State
worked_state = record {
  map = worked_map;
  kept = worked_map;
  book = worked_book;
  kept_book = worked_book;
  sequence = 3;
}

-- a put that finds no room, and so begins a flush
abbrev pub put_c : Request
put_c = ask.change (record { name = codes "c"; object = Some (codes "klmno") })

abbrev pub get_b : Request
get_b = ask.get (codes "b")

abbrev pub worked_events : List Event
worked_events =
    event.say 0 put_c ∷ event.say 1 get_b ∷ event.serve 0 ∷ event.step ∷ event.serve 1 ∷ event.serve 1 ∷
    event.say 1 ask.keep ∷ event.serve 1 ∷ event.step ∷ event.step ∷ event.step ∷ event.step ∷ event.step ∷
    event.step ∷ event.serve 1 ∷ []

abbrev pub worked_answers : List Answer
worked_answers =
    answer.queued 0 ∷ answer.queued 1 ∷ answer.begun 0 ∷ answer.moved ∷
    answer.to 1 (ask.found (codes "abcdefghij")) ∷ answer.empty 1 ∷ answer.queued 1 ∷ answer.wait 1 ∷
    answer.moved ∷ answer.moved ∷ answer.moved ∷ answer.moved ∷ answer.to 0 ask.kept ∷ answer.idle ∷
    answer.to 1 ask.kept ∷ []

-- the script, and what is put for it
abbrev pub worked_script : List ℕ
worked_script =
    codes "say 0\nput c 5\nklmno\nsay 1\nget b\nserve 0\nstep\nserve 1\nserve 1\nsay 1\nkeep\nserve 1\n" ++
    codes "step\nstep\nstep\nstep\nstep\nstep\nserve 1\n"

abbrev pub worked_puts : List ℕ
worked_puts =
    codes "queued 0\nqueued 1\nbegun 0\nmoved\nto 1\ndata 10\nabcdefghij\nempty 1\nqueued 1\nwait 1\n" ++
    codes "moved\nmoved\nmoved\nmoved\nto 0\nok kept\nidle\nto 1\nok kept\nleft 0\n"
