-- The text of a request, as its line and what follows it.
use Rattle.std.specs.Prelude.{◌≡◌, ℕ, ◌≤◌, List, [], ◌∷◌, ◌++◌, length, take, codes, Option, Some, None, Result, Ok, refl}
use Rattle.std.proofs.Common.{arith, ap, sym, ◌∙◌, append_assoc, length-append, subst}
use Rattle.map_model.specs.Requests.{Change, Request}
use Rattle.map_model.specs.Requests as request
use Rattle.ask_text.specs.declared.ask.Ask.{Ask}
use Rattle.ask_text.specs.declared.ask.Ask.TheVariants as ask
use Rattle.ask_text.specs.declared.ask.LineFault.{LineFault}
use Rattle.circular_buffer.specs.Buffer.{Buffer, buffer}
use Rattle.std.proofs.lemmas.List.{take_at}
use Rattle.ask_text.specs.Asks.{AsksFor, ask_of, change_ask, line_of}
use Rattle.ask_text.specs.Inputs.{HasText, body_of, change_body, request_text}
use Rattle.ask_text.proofs.AskLaws.{lacks-line, line_short}
use Rattle.desk_queues.specs.Queues.{ObjectIn, StandsIn}
use Rattle.desk_queues.specs.Taken.{BeginsLine, BeginsText, Lacks}
use Rattle.ask_text.proofs.InputLaws.{text_is}

pub text_begins_line : (bytes : List ℕ) → BeginsText bytes → BeginsLine bytes
text_begins_line bytes (r, text, (rest, whole)) = (
  line_of (ask_of r),
  body_of r ++ rest,
  lacks-line (ask_of r) text,
  line_short (ask_of r) text,
  whole ∙ text_is r rest,
)

-- an object and its newline follow the line of a put
pub record IsPut (r : Request) (size : ℕ) : Type 0 where
  pub object : List ℕ
  pub long : length object ≡ size
  pub body : body_of r ≡ object ++ codes "\n"
  pub stands : (bytes : List ℕ) → take size bytes ≡ object → StandsIn bytes r

change_put : (c : Change) (name : List ℕ) (size : ℕ) (o : Option (List ℕ)) → c.object ≡ o
    → change_ask c.name o ≡ ask.Put name size → IsPut (request.change c) size
change_put c name size (Some o) e is =
    let long : length o ≡ size = cc in
    record {
      object = o;
      long = long;
      body = ap change_body e;
      stands = λ bytes same. subst (ObjectIn bytes) (sym e) (ap (λ k. take k bytes) long ∙ same);
    }
change_put c name size None e is = absurd (cc)

pub put_of : (r : Request) (name : List ℕ) (size : ℕ) → ask_of r ≡ ask.Put name size → IsPut r size
put_of (request.change c) name size is = change_put c name size c.object refl is
put_of (request.get n) name size is = absurd (cc)
put_of (request.old n) name size is = absurd (cc)
put_of request.keep name size is = absurd (cc)
put_of request.back name size is = absurd (cc)
put_of request.list name size is = absurd (cc)
put_of request.stat name size is = absurd (cc)

pub put_rest : (r : Request) (size : ℕ) (p : IsPut r size) (rest : List ℕ)
    → body_of r ++ rest ≡ p.object ++ 10 ∷ rest
put_rest r size p rest = ap (λ xs. xs ++ rest) p.body ∙ append_assoc p.object (codes "\n") rest

-- the object is no longer than the bytes in front of which its text stands
pub put_fits : (bytes : List ℕ) (name : List ℕ) (size : ℕ) (r : Request) (rest : List ℕ)
    → bytes ≡ request_text r ++ rest → ask_of r ≡ ask.Put name size → size ≤ length bytes
put_fits bytes name size r rest whole is =
    let p = put_of r name size is in
    omega (
      arith,
      ap length (whole ∙ text_is r rest),
      length-append (line_of (ask_of r)) (10 ∷ (body_of r ++ rest)),
      ap length (put_rest r size p rest),
      length-append p.object (10 ∷ rest),
      p.long,
    )

-- nothing follows the line of another request
pub record IsBare (r : Request) : Type 0 where
  pub body : body_of r ≡ []
  pub stands : (bytes : List ℕ) → StandsIn bytes r

change_bare : (c : Change) (o : Option (List ℕ)) → c.object ≡ o
    → ((name : List ℕ) (size : ℕ) → change_ask c.name o ≡ ask.Put name size → ⊥) → IsBare (request.change c)
change_bare c (Some o) e none = absurd (none c.name (length o) refl)
change_bare c None e none =
    record { body = ap change_body e; stands = λ bytes. subst (ObjectIn bytes) (sym e) tt }

pub bare_of : (r : Request) → ((name : List ℕ) (size : ℕ) → ask_of r ≡ ask.Put name size → ⊥) → IsBare r
bare_of (request.change c) none = change_bare c c.object refl none
bare_of (request.get n) none = record { body = refl; stands = λ bytes. tt }
bare_of (request.old n) none = record { body = refl; stands = λ bytes. tt }
bare_of request.keep none = record { body = refl; stands = λ bytes. tt }
bare_of request.back none = record { body = refl; stands = λ bytes. tt }
bare_of request.list none = record { body = refl; stands = λ bytes. tt }
bare_of request.stat none = record { body = refl; stands = λ bytes. tt }

-- ---- what is taken, where a line is taken and then an object

-- the line is its request's
line_is : (line bytes : List ℕ) → ((l left : List ℕ) → Lacks 10 l → bytes ≡ l ++ 10 ∷ left → line ≡ l)
    → (r : Request) (rest : List ℕ) → HasText r → bytes ≡ request_text r ++ rest → line ≡ line_of (ask_of r)
line_is line bytes each r rest text whole =
    each (line_of (ask_of r)) (body_of r ++ rest) (lacks-line (ask_of r) text) (whole ∙ text_is r rest)

-- it is read as what that asks for
pub taken_ask : (bytes line : List ℕ) (answer : Result Ask LineFault) (asked : Ask)
    → ((l left : List ℕ) → Lacks 10 l → bytes ≡ l ++ 10 ∷ left → line ≡ l)
    → ((a : Ask) → AsksFor line a → answer ≡ Ok a) → answer ≡ Ok asked
    → (r : Request) (rest : List ℕ) → HasText r → bytes ≡ request_text r ++ rest → asked ≡ ask_of r
taken_ask bytes line answer asked each again is r rest text whole =
    let found : answer ≡ Ok (ask_of r) = again (ask_of r)
    (line_is line bytes each r rest text whole, text) in
    cc

-- the object of a put is no longer than the bytes
pub size_fits : (bytes line : List ℕ) (answer : Result Ask LineFault) (asked : Ask)
    → ((l left : List ℕ) → Lacks 10 l → bytes ≡ l ++ 10 ∷ left → line ≡ l)
    → ((a : Ask) → AsksFor line a → answer ≡ Ok a) → answer ≡ Ok asked → BeginsText bytes
    → (name : List ℕ) (size : ℕ) → asked ≡ ask.Put name size → size ≤ length bytes
size_fits bytes line answer asked each again is begins name size put =
    let asks = taken_ask bytes line answer asked each again is begins.0 begins.2.0 begins.1 begins.2.1 in
    put_fits bytes name size begins.0 begins.2.0 begins.2.1 (sym asks ∙ put)

-- what follows it is left
pub taken_left : (bytes : List ℕ) (room : ℕ) (now : Buffer ℕ)
    → ((l left : List ℕ) → Lacks 10 l → bytes ≡ l ++ 10 ∷ left → now ≡ buffer left room)
    → (r : Request) (rest : List ℕ) → HasText r → bytes ≡ request_text r ++ rest
    → now ≡ buffer (body_of r ++ rest) room
taken_left bytes room now each r rest text whole =
    each (line_of (ask_of r)) (body_of r ++ rest) (lacks-line (ask_of r) text) (whole ∙ text_is r rest)

-- an object of a put was taken into the front of a buffer
pub taken_object : (r : Request) (name : List ℕ) (size : ℕ) (rest : List ℕ) (room : ℕ) (old : Buffer ℕ)
    (out part : List ℕ) → ask_of r ≡ ask.Put name size → old ≡ buffer (body_of r ++ rest) room
    → length part ≡ size
    → ((object left : List ℕ) → length object ≡ length part → old.items ≡ object ++ 10 ∷ left → out ≡ object)
    → (behind : List ℕ) → StandsIn (out ++ behind) r
taken_object r name size rest room old out part is left long each behind =
    let p = put_of r name size is in
    let whole = ap (λ (b : Buffer ℕ). b.items) left ∙ put_rest r size p rest in
    let object : out ≡ p.object = each p.object rest (p.long ∙ sym long) whole in
    p.stands (out ++ behind) (take_at out behind size (ap length object ∙ p.long) ∙ object)

pub taken_newline : (r : Request) (name : List ℕ) (size : ℕ) (rest : List ℕ) (room : ℕ) (old now : Buffer ℕ)
    (part : List ℕ) → ask_of r ≡ ask.Put name size → old ≡ buffer (body_of r ++ rest) room
    → length part ≡ size
    → ((object left : List ℕ) → length object ≡ length part → old.items ≡ object ++ 10 ∷ left
    → now ≡ buffer left old.capacity) → now ≡ buffer rest room
taken_newline r name size rest room old now part is left long each =
    let p = put_of r name size is in
    let whole = ap (λ (b : Buffer ℕ). b.items) left ∙ put_rest r size p rest in
    each p.object rest (p.long ∙ sym long) whole ∙ ap (λ (b : Buffer ℕ). buffer rest b.capacity) left
