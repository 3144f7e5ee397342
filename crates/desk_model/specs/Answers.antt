-- What a desk answers an event, and the text that it puts for it.
use Rattle.std.specs.Prelude.{ℕ, List, ◌++◌, codes}
use Rattle.map_model.specs.Requests.{Reply}
use Rattle.ask_text.specs.Replies.{reply_text}
use Rattle.desk_model.specs.Events.{line_for}

-- What was said is queued, or dropped since the session's queue has no room; a session's queue is empty, or
-- its first request has to wait; its request began a flush, or is replied; a flush moved an object, or there
-- is none.
pub data Answer : Type 0 where
  queued : ℕ → Answer
  full : ℕ → Answer
  empty : ℕ → Answer
  wait : ℕ → Answer
  begun : ℕ → Answer
  to : ℕ → Reply → Answer
  moved : Answer
  idle : Answer

abbrev pub answer_text : Answer → List ℕ
answer_text (queued s) = line_for (codes "queued") s
answer_text (full s) = line_for (codes "full") s
answer_text (empty s) = line_for (codes "empty") s
answer_text (wait s) = line_for (codes "wait") s
answer_text (begun s) = line_for (codes "begun") s
answer_text (to s reply) = line_for (codes "to") s ++ reply_text reply
answer_text moved = codes "moved\n"
answer_text idle = codes "idle\n"
