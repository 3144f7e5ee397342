-- What is seen of a sink that keeps what was put last.
use Rattle.std.specs.Prelude.{ℕ, List}
use Rattle.watched_streams.specs.declared.heard.Heard.{Heard}
use Rattle.watched_streams.specs.declared.tally.Tally.{Tally}

module _ {O : Type 0} where
  -- the sink inside
  abbrev pub sink_of : Heard O → O
  sink_of heard = heard.sink

  -- the bytes of the last put, where they are no more than it has room for
  abbrev pub line_of : Heard O → List ℕ
  line_of heard = heard.line.items

  -- what is counted of what was put
  abbrev pub tally_of : Heard O → Tally
  tally_of heard = heard.tally
