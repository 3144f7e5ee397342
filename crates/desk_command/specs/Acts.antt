-- What a desk was at as its call ended.
use Rattle.std.specs.Prelude.{◌≡◌, ◌⊎◌, ℕ, List, [], ◌∷◌, ◌++◌}
use Rattle.size_class.specs.declared.TheConstants.{CLASSES}
use Rattle.store_model.specs.States.{Limits, State}
use Rattle.desk_model.specs.Answers.{Answer, answer_text}
use Rattle.desk_model.specs.Desks.{Desk, EventStep, end_lines, last_desk, new_desk}
use Rattle.desk_model.specs.Events.{Event}
use Rattle.desk_core.specs.Images.{Checkpoint, IsMadeImage, OpensTo, kept_of, settled_before, settled_of}
use Rattle.desk_core.specs.Playing.{Finishes}

-- Beyond the events that were answered it was at nothing; at the next event, with this answer and this desk
-- after it; or at the end of the input, with this desk after it.
pub data LastAct : Type 0 where
  nothing : LastAct
  answering : Answer → Desk → LastAct
  finishing : Desk → LastAct

-- the first of these events is answered so
abbrev pub NextStep : Limits → Desk → List Event → Answer → Desk → Type 0
NextStep limits d [] a t = ⊥
NextStep limits d (e ∷ others) a t = EventStep limits d e a t

-- A desk that has these events before it may be at this: at the first of them, or where there is none at the
-- end of the input, where its flush in hand settles.
abbrev pub IsAct : Limits → Desk → List Event → LastAct → Type 0
IsAct limits d others nothing = Unit {0}
IsAct limits d others (answering a t) = NextStep limits d others a t
IsAct limits d others (finishing t) = (others ≡ []) × Finishes d.hand d t

abbrev pub IsFinishing : LastAct → Type 0
IsFinishing nothing = ⊥
IsFinishing (answering a t) = ⊥
IsFinishing (finishing t) = Unit {0}

-- it was at an event or at the end of the input
abbrev pub IsBusy : LastAct → Type 0
IsBusy nothing = ⊥
IsBusy (answering a t) = Unit {0}
IsBusy (finishing t) = Unit {0}

-- what is to be put for it
abbrev pub text_of : Desk → LastAct → List ℕ
text_of d nothing = []
text_of d (answering a t) = answer_text a
text_of d (finishing t) = end_lines d

-- the answers to all events that were served, also to one that wasn't put whole
abbrev pub answers_with : List Answer → LastAct → List Answer
answers_with answers nothing = answers
answers_with answers (answering a t) = answers ++ a ∷ []
answers_with answers (finishing t) = answers

-- the desk after each of these
abbrev pub desks_with : List Desk → LastAct → List Desk
desks_with desks nothing = desks
desks_with desks (answering a t) = desks ++ t ∷ []
desks_with desks (finishing t) = desks

-- the desk then, by the one before it
abbrev pub desk_left : Desk → LastAct → Desk
desk_left d nothing = d
desk_left d (answering a t) = t
desk_left d (finishing t) = t

-- ---- from a state

-- the last desk of a list, after one that was new at a state
abbrev pub last_from : State → List Desk → Desk
last_from start desks = last_desk (new_desk start) desks

-- the desk as the call ended
abbrev pub left_from : State → List Desk → LastAct → Desk
left_from start desks was = desk_left (last_from start desks) was

-- the last checkpoint that was settled before the event that the call was at
abbrev pub settled_before_last : State → List Desk → Checkpoint
settled_before_last start desks =
    settled_of (settled_before (kept_of start) (new_desk start) desks) (last_from start desks)

-- the last checkpoint that was settled as it ended
abbrev pub settled_from : State → List Desk → LastAct → Checkpoint
settled_from start desks was = settled_of (settled_before_last start desks) (left_from start desks was)

-- an image opens to the start, or to the map and the book after a request that was answered `ok kept` or
-- began a flush, also after one that was being served as the call ended
abbrev pub IsImageFrom : State → List Answer → List Desk → LastAct → List ℕ → Type 0
IsImageFrom start answers desks was image = IsMadeImage CLASSES (kept_of start) (new_desk start)
    (answers_with answers was) (desks_with desks was) image

-- an image opens to the last checkpoint that was settled as the call ended, or to the one that a flush in
-- hand then will settle
abbrev pub OpensAsLeft : State → List Desk → LastAct → List ℕ → Type 0
OpensAsLeft start desks was image = OpensTo CLASSES (settled_from start desks was) image
    ⊎ OpensTo CLASSES (kept_of (left_from start desks was).state) image
