-- What is seen of a source that keeps the start of the request that it gave last.
use Rattle.watched_streams.specs.declared.asked.Asked.{Asked}
use Rattle.watched_streams.specs.declared.begun.Begun.{Begun}

module _ {I : Type 0} where
  -- the source inside
  abbrev pub source_of : Asked I → I
  source_of asked = asked.source

  -- what was given of the request that isn't whole
  abbrev pub begun_of : Asked I → Begun
  begun_of asked = asked.begun
