-- The next change of a batch whose text is read from the left, and what is made by then.
use Rattle.std.specs.Prelude.{◌≡◌, ◌≢◌, ℕ, ◌+◌, if◌then◌else◌, ◌||◌, List, [], ◌∷◌, ◌++◌, length, is_some, Option, Some, refl}
use Rattle.std.proofs.Common.{arith, ap, sym, ◌∙◌, subst, append_assoc, append-nil, length-append}
use Rattle.std.proofs.lemmas.Bool.{cond-false}
use Rattle.std.specs.FinMap as fin
use Rattle.std.specs.List.{AllByRecursion}
use Rattle.map_model.specs.Maps.{Map}
use Rattle.map_model.specs.Requests as ask
use Rattle.map_model.specs.Requests.{Change, changed}
use Rattle.map_model.specs.Weights.{same_name}
use Rattle.map_model.proofs.MapLaws.{name_order}
use Rattle.ask_text.specs.Inputs.{request_text}
use Rattle.ask_text.proofs.InputLaws.{text_one}
use Rattle.batch_model.specs.Batches.{IsNoBatch, IsPart, Rises, RisesFrom, StopsAt, applied, batch_name, batch_text}
use Rattle.batch_model.specs.Fits.{made, made_by}
use Rattle.batch_model.specs.Parts.{CanStand, IsNoPart}
use Rattle.batch_model.proofs.PartLaws.{can_text}
use Rattle.batch_model.proofs.TextLaws.{part_text, text_some}
use Rattle.batch_model.proofs.CountLaws.{other_way}
use Rattle.batch_model.proofs.ViewLaws.{front_parts}

-- ---- reading on

-- The text of changes begins with what was read of it.
pub record IsNext (d : Change) (behind : List ℕ) (changes : List Change) : Type 0 where
  pub others : List Change
  pub first : changes ≡ d ∷ others
  pub rest : behind ≡ batch_text others

pub next_part : (rest behind : List ℕ) (d : Change) (changes : List Change) → CanStand d
    → AllByRecursion IsPart changes → rest ≡ batch_text changes
    → rest ≡ request_text (ask.change d) ++ behind → IsNext d behind changes
next_part rest behind d [] can parts is read = absurd (text_some d behind (sym read ∙ is))
next_part rest behind d (c ∷ others) can parts is read =
    let one = text_one (ask.change d) (ask.change c) behind (batch_text others) (can_text d can)
    (part_text c parts.0) (sym read ∙ is) in
    let same : c ≡ d = let e : ask.change d ≡ ask.change c = one.0 in cc in
    record {
      others = others;
      first = ap (λ (x : Change). x ∷ others) same;
      rest = one.1;
    }

pub part_can : (c : Change) → IsPart c → CanStand c
part_can c p = record { named = p.named; small = p.small }

-- nothing more could be read
pub no_part : (rest : List ℕ) (changes : List Change) → AllByRecursion IsPart changes
    → rest ≡ batch_text changes → IsNoPart rest → changes ≡ []
no_part rest [] parts is none = refl
no_part rest (c ∷ others) parts is none = absurd (none c (batch_text others) (part_can c parts.0) is)

-- ---- a text that stops

-- one list of changes stands in front of a text that is that of another
pub record IsLonger (front changes : List Change) : Type 0 where
  pub next : Change
  pub others : List Change
  pub split : changes ≡ front ++ next ∷ others

pub longer : (front changes : List Change) (rest : List ℕ) → AllByRecursion IsPart front
    → AllByRecursion IsPart changes → batch_text front ++ rest ≡ batch_text changes → rest ≢ []
    → IsLonger front changes
longer [] [] rest p q is some = absurd (some is)
longer [] (d ∷ changes) rest p q is some = record { next = d; others = changes; split = refl }
longer (c ∷ front) [] rest p q is some = absurd (text_some c (batch_text front ++ rest)
    (sym (append_assoc (request_text (ask.change c)) (batch_text front) rest) ∙ is))
longer (c ∷ front) (d ∷ changes) rest p q is some =
    let one = text_one (ask.change c) (ask.change d) (batch_text front ++ rest) (batch_text changes)
    (part_text c p.0) (part_text d q.0)
    (sym (append_assoc (request_text (ask.change c)) (batch_text front) rest) ∙ is) in
    let same : d ≡ c = let e : ask.change c ≡ ask.change d = one.0 in cc in
    let more = longer front changes rest p.1 q.1 one.1 some in
    record {
      next = more.next;
      others = more.others;
      split = λ i. same i ∷ more.split i;
    }

rises_from_front : (name : List ℕ) (a b : List Change) → RisesFrom name (a ++ b) → RisesFrom name a
rises_from_front name [] b rises = tt
rises_from_front name (c ∷ a) b rises = (rises.0, rises_from_front c.name a b rises.1)

rises_front : (a b : List Change) → Rises (a ++ b) → Rises a
rises_front [] b rises = tt
rises_front (c ∷ a) b rises = rises_from_front c.name a b rises

pub text_append : (a b : List Change) → batch_text (a ++ b) ≡ batch_text a ++ batch_text b
text_append [] b = refl
text_append (c ∷ a) b = ap (λ (xs : List ℕ). request_text (ask.change c) ++ xs) (text_append a b)
    ∙ sym (append_assoc (request_text (ask.change c)) (batch_text a) (batch_text b))

pub cons_append : (a : List Change) (c : Change) (b : List Change) → a ++ c ∷ b ≡ (a ++ c ∷ []) ++ b
cons_append [] c b = refl
cons_append (d ∷ a) c b = ap (λ (xs : List Change). d ∷ xs) (cons_append a c b)

-- a text that stops being a batch is none
pub stops_no_batch : (text : List ℕ) (n : ℕ) → StopsAt text n → IsNoBatch text
stops_no_batch text n stops changes batch =
    let more = longer stops.changes changes stops.rest stops.front.parts batch.parts
    (sym stops.front.whole ∙ batch.whole ∙ append-nil (batch_text changes)) stops.more in
    let split : changes ≡ (stops.changes ++ more.next ∷ []) ++ more.others = more.split
    ∙ cons_append stops.changes more.next more.others in
    stops.none more.next (batch_text more.others) (record {
      whole = batch.whole ∙ append-nil (batch_text changes) ∙ ap batch_text split
          ∙ text_append (stops.changes ++ more.next ∷ []) more.others;
      parts = front_parts (stops.changes ++ more.next ∷ []) more.others
          (subst (λ (x : List Change). AllByRecursion IsPart x) split batch.parts);
      rises = rises_front (stops.changes ++ more.next ∷ []) more.others
          (subst (λ (x : List Change). Rises x) split batch.rises);
      short = omega (
        arith,
        batch.short,
        ap (λ (x : List Change). length (batch_text x)) split,
        ap length (text_append (stops.changes ++ more.next ∷ []) more.others),
        length-append (batch_text (stops.changes ++ more.next ∷ [])) (batch_text more.others),
      );
    })

-- ---- what was made

pub made-append : (a b : List Change) (m : Map) → made (a ++ b) m ≡ made a m + made b (applied a m)
made-append [] b m = omega arith
made-append (c ∷ a) b m = omega (arith, made-append a b (changed c m))

-- a change makes the same beside a batch that is kept
pub made_beside : (c : Change) (m : Map) (text : List ℕ) → IsPart c
    → made_by (fin.insert m batch_name text) c ≡ made_by m c
made_beside c m text part = ap (λ (o : Option (List ℕ)). if is_some c.object || is_some o then 1 else 0)
    (fin.get-insert name_order m batch_name text c.name
    ∙ cond-false (same_name c.name batch_name) (Some text) (fin.get m c.name) (other_way batch_name c.name
    part.other))
