-- What is read of an input: bytes that were read ahead, and then what the source has left.
use Rattle.std.specs.Prelude.{◌≡◌, ℕ, ◌≤◌, Bool, true, false, List, ◌∷◌, ◌++◌, length, take, Option, Some, None, Result, Ok, Err, IfSome}
use Rattle.disk_face.specs.Counts.{Rose}
use Rattle.map_model.specs.Requests.{Request}
use Rattle.map_model.specs.Requests as ask
use Rattle.size_class.specs.declared.TheConstants.{SIZE_MAX}
use Rattle.ask_text.specs.declared.ask.Ask.{Ask}
use Rattle.ask_text.specs.declared.ask.Ask.TheVariants as line
use Rattle.ask_text.specs.Asks.{ask_of}
use Rattle.ask_text.specs.Inputs.{HasText, request_text}
use Rattle.ask_text.specs.declared.ends.End.{End}
use Rattle.ask_text.specs.declared.ends.End.TheVariants as ends

-- ---- requests

-- how long the object is that follows a line
abbrev pub size_asked : Ask → Option ℕ
size_asked (line.Put name size) = Some size
size_asked (line.Get name) = None
size_asked (line.Old name) = None
size_asked (line.Del name) = None
size_asked line.Keep = None
size_asked line.Back = None
size_asked line.List = None
size_asked line.Stat = None

-- no object of so many bytes stands in front with a newline behind it
abbrev pub LacksObject : ℕ → List ℕ → Type 0
LacksObject size input = (object rest : List ℕ) → length object ≡ size → input ≡ object ++ 10 ∷ rest → ⊥

-- An object of so many bytes stood in front, and stands in a buffer where that has room for it.
pub record HoldsObject (told : Type 0) (input rest : List ℕ) (size : ℕ) (body : List ℕ) : Type 0 where
  pub object : List ℕ
  pub long : length object ≡ size
  pub held : size ≤ SIZE_MAX → take size body ≡ object
  pub whole : told → input ≡ object ++ rest

-- the buffer is as long as the object of the line, where that isn't too long
abbrev pub HoldsSize : Ask → List ℕ → Type 0
HoldsSize a body = IfSome (size_asked a) (λ size. size ≤ SIZE_MAX → size ≤ length body)

-- the object of a put stands in the buffer, where it isn't too long
abbrev pub HasBody : List ℕ → Request → Type 0
HasBody body (ask.change c) = of c.object
  where
    of : Option (List ℕ) → Type 0
    of None = Unit {0}
    of (Some object) = length object ≤ SIZE_MAX → take (length object) body ≡ object
HasBody body _ = Unit {0}

-- A request stood in front of the input: it asks for this, and its object stands in the buffer.
pub record BeginsRequest (told : Type 0) (input rest : List ℕ) (a : Ask) (body : List ℕ) : Type 0 where
  pub request : Request
  pub text : HasText request
  pub asked : ask_of request ≡ a
  pub object : HasBody body request
  pub whole : told → input ≡ request_text request ++ rest

-- ---- ends

-- an end that comes of the input alone
abbrev pub IsInputFault : End → Type 0
IsInputFault ends.End = Unit {0}
IsInputFault ends.Line = Unit {0}
IsInputFault ends.Source = Unit {0}
IsInputFault ends.Disk = ⊥
IsInputFault ends.Sink = ⊥
IsInputFault ends.Budget = ⊥

abbrev pub is_source : End → Bool
is_source ends.Source = true
is_source ends.End = false
is_source ends.Line = false
is_source ends.Disk = false
is_source ends.Sink = false
is_source ends.Budget = false

abbrev pub is_source_fault : {T : Type 0} → Result T End → Bool
is_source_fault (Ok x) = false
is_source_fault (Err end) = is_source end

-- a source's fault has its cause, and no other answer comes where a call of it failed
pub record HasSourceCause {T : Type 0} (before now : ℕ) (result : Result T End) : Type 0 where
  pub later : before ≤ now
  pub rose : is_source_fault result ≡ true → Rose before now
  pub calm : is_source_fault result ≡ false → now ≡ before
