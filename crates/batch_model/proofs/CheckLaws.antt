-- A text whose front was read, once one change more was read, or can't be.
use Rattle.std.specs.Prelude.{◌≡◌, ◌≢◌, ◌⊎◌, ℕ, ◌+◌, ◌-◌, ◌<◌, ◌≤◌, nat_le, Bool, true, false, not, ◌&&◌, List, [], ◌∷◌, ◌++◌, length, Option, Some, None, refl}
use Rattle.std.proofs.Common.{arith, ap, sym, ◌∙◌, subst, inl, inr, append_assoc, append-nil, length-append}
use Rattle.std.proofs.lemmas.Bool.{leb-false, leb-true}
use Rattle.std.proofs.lemmas.List.{append_cancel_left}
use Rattle.std.specs.List.{AllByRecursion}
use Rattle.std.specs.Ordering.{is_lt}
use Rattle.std.specs.declared.cmp.Ordering.{Ordering}
use Rattle.std.specs.declared.cmp.Ordering.TheVariants.{Less, Equal, Greater}
use Rattle.size_class.specs.declared.TheConstants.{SIZE_MAX}
use Rattle.map_model.specs.Maps.{name_cmp}
use Rattle.map_model.specs.Requests as ask
use Rattle.map_model.specs.Requests.{Change}
use Rattle.map_model.specs.Weights.{same_name}
use Rattle.ask_text.specs.Inputs.{request_text}
use Rattle.ask_text.proofs.InputLaws.{text_one}
use Rattle.batch_model.specs.Batches.{Begins, IsPart, Rises, RisesFrom, StopsAt, batch_name, batch_text}
use Rattle.batch_model.specs.Parts.{CanStand, IsChecked, IsNoPart, is_behind, last_from}
use Rattle.batch_model.proofs.PartLaws.{can_text}
use Rattle.batch_model.proofs.TextLaws.{part_text}
use Rattle.slot_codec.proofs.OrderLemmas.{is_less}

-- ---- names that rise

from_push : (name : List ℕ) (changes : List Change) (c : Change) → RisesFrom name changes
    → is_behind (last_from (Some name) changes) c.name ≡ true → RisesFrom name (changes ++ c ∷ [])
from_push name [] c rises behind = (is_less (name_cmp name c.name) behind, tt)
from_push name (d ∷ changes) c rises behind = (rises.0, from_push d.name changes c rises.1 behind)

rises_push : (changes : List Change) (c : Change) → Rises changes
    → is_behind (last_from None changes) c.name ≡ true → Rises (changes ++ c ∷ [])
rises_push [] c rises behind = tt
rises_push (d ∷ changes) c rises behind = from_push d.name changes c rises behind

from_last : (name : List ℕ) (changes : List Change) (c : Change) → RisesFrom name (changes ++ c ∷ [])
    → is_behind (last_from (Some name) changes) c.name ≡ true
from_last name [] c rises = ap is_lt rises.0
from_last name (d ∷ changes) c rises = from_last d.name changes c rises.1

rises_last : (changes : List Change) (c : Change) → Rises (changes ++ c ∷ [])
    → is_behind (last_from None changes) c.name ≡ true
rises_last [] c rises = refl
rises_last (d ∷ changes) c rises = from_last d.name changes c rises

last_push : (before : Option (List ℕ)) (changes : List Change) (c : Change)
    → last_from before (changes ++ c ∷ []) ≡ Some c.name
last_push before [] c = refl
last_push before (d ∷ changes) c = last_push (Some d.name) changes c

parts_push : (changes : List Change) (c : Change) → AllByRecursion IsPart changes → IsPart c
    → AllByRecursion IsPart (changes ++ c ∷ [])
parts_push [] c parts one = (one, tt)
parts_push (d ∷ changes) c parts one = (parts.0, parts_push changes c parts.1 one)

parts_last : (changes : List Change) (c : Change) → AllByRecursion IsPart (changes ++ c ∷ []) → IsPart c
parts_last [] c parts = parts.0
parts_last (d ∷ changes) c parts = parts_last changes c parts.1

-- ---- texts

text_push : (changes : List Change) (c : Change) (rest : List ℕ)
    → batch_text (changes ++ c ∷ []) ++ rest ≡ batch_text changes ++ (request_text (ask.change c) ++ rest)
text_push [] c rest = ap (λ (xs : List ℕ). xs ++ rest) (append-nil (request_text (ask.change c)))
text_push (d ∷ changes) c rest =
    append_assoc (request_text (ask.change d)) (batch_text (changes ++ c ∷ [])) rest
    ∙ ap (λ (xs : List ℕ). request_text (ask.change d) ++ xs) (text_push changes c rest)
    ∙ sym (append_assoc (request_text (ask.change d)) (batch_text changes)
    (request_text (ask.change c) ++ rest))

push_long : (changes : List Change) (c : Change)
    → length (batch_text (changes ++ c ∷ [])) ≡ length (batch_text changes) + length (request_text
    (ask.change c))
push_long changes c =
    ap length (sym (append-nil (batch_text (changes ++ c ∷ []))) ∙ text_push changes c []
    ∙ ap (λ (xs : List ℕ). batch_text changes ++ xs) (append-nil (request_text (ask.change c))))
    ∙ length-append (batch_text changes) (request_text (ask.change c))

-- what stands behind the changes that were read
behind : (text rest : List ℕ) (changes : List Change) (c : Change) (others : List ℕ)
    → Begins text changes rest
    → Begins text (changes ++ c ∷ []) others → rest ≡ request_text (ask.change c) ++ others
behind text rest changes c others front more = append_cancel_left (batch_text changes) rest
    (request_text (ask.change c) ++ others) (sym front.whole ∙ more.whole ∙ text_push changes c others)

part_can : (c : Change) → IsPart c → CanStand c
part_can c p = record { named = p.named; small = p.small }

module _ (text rest : List ℕ) (before : Option (List ℕ)) (n : ℕ) (x : IsChecked text rest before n) where
  -- no request of a batch stands there
  pub stops_none : rest ≢ [] → IsNoPart rest → StopsAt text (n + 1)
  stops_none some out = record {
    changes = x.changes;
    rest = rest;
    front = x.front;
    number = ap (λ (m : ℕ). m + 1) x.number;
    more = some;
    none = λ c others more. out c others (part_can c (parts_last x.changes c more.parts))
        (behind text rest x.changes c others x.front more);
  }

  module _ (c : Change) (left : List ℕ) (can : CanStand c) (is : rest ≡ request_text (ask.change c) ++ left)
    where
      long : length text ≡ length (batch_text (x.changes ++ c ∷ [])) + length left
      long = omega (
        arith,
        ap length x.front.whole,
        ap length is,
        length-append (batch_text x.changes) rest,
        length-append (request_text (ask.change c)) left,
        push_long x.changes c,
      )

      -- one stands there that isn't the next of this batch
      pub stops_at : rest ≢ []
          → (same_name batch_name c.name ≡ true) ⊎ ((is_behind before c.name ≡ false)
          ⊎ (SIZE_MAX < length text - length left)) → StopsAt text (n + 1)
      stops_at some bad = record {
        changes = x.changes;
        rest = rest;
        front = x.front;
        number = ap (λ (m : ℕ). m + 1) x.number;
        more = some;
        none = λ d others more.
            let part = parts_last x.changes d more.parts in
            let one = text_one (ask.change c) (ask.change d) left others (can_text c can) (part_text d part)
            (sym is ∙ behind text rest x.changes d others x.front more) in
            let same : c ≡ d = (let e : ask.change c ≡ ask.change d = one.0 in cc) in
            elim bad as (λ _. ⊥) [
              | inl own ↦ let e : true ≡ false = sym own ∙ ap (λ
                  (y : Change). same_name batch_name y.name) same
                  ∙ part.other in cc
              | inr other ↦ elim other as (λ _. ⊥) [
                | inl low ↦
                    let e : true ≡ false = sym (rises_last x.changes d more.rises)
                    ∙ ap (λ (o : Option (List ℕ)). is_behind o d.name) (sym x.last)
                    ∙ ap (λ (y : Change). is_behind before y.name) (sym same) ∙ low in cc
                | inr far ↦
                    let short : length (batch_text (x.changes ++ c ∷ [])) ≤ SIZE_MAX =
                    subst (λ (y : Change). length (batch_text (x.changes ++ y ∷ [])) ≤ SIZE_MAX) (sym same)
                    more.short in
                    omega (arith, far, short, long)
              ]
            ];
      }

      -- and one that is
      pub checked_more : same_name batch_name c.name ≡ false → is_behind before c.name ≡ true
          → length text - length left ≤ SIZE_MAX → 0 < length (request_text (ask.change c))
          → IsChecked text left (Some c.name) (n + 1)
      checked_more other rises short some = record {
        changes = x.changes ++ c ∷ [];
        front = record {
          whole = x.front.whole ∙ ap (λ (xs : List ℕ). batch_text x.changes ++ xs) is
              ∙ sym (text_push x.changes c left);
          parts = parts_push x.changes c x.front.parts
              (record { named = can.named; other = other; small = can.small });
          rises = rises_push x.changes c x.front.rises
              (ap (λ (o : Option (List ℕ)). is_behind o c.name) (sym x.last) ∙ rises);
          short = omega (arith, short, long);
        };
        last = sym (last_push None x.changes c);
        number = ap (λ (m : ℕ). m + 1) x.number ∙ sym (length-append x.changes (c ∷ []));
        few = omega (arith, x.few, ap length is, length-append (request_text (ask.change c)) left, some);
      }

-- a text has a byte at least
pub text_some : (c : Change) → 0 < length (request_text (ask.change c))
text_some c = by c.object
  where
    by : (object : Option (List ℕ))
        → 0 < length (request_text (ask.change (record { name = c.name; object = object })))
    by None = omega arith
    by (Some object) = omega arith

-- ---- what may follow

-- a change that may not follow
pub not_following : (own behind : Bool) (end : ℕ) → (not own && behind && nat_le end SIZE_MAX) ≡ false
    → (own ≡ true) ⊎ ((behind ≡ false) ⊎ (SIZE_MAX < end))
not_following true behind end is = inl refl
not_following false false end is = inr (inl refl)
not_following false true end is = inr (inr (leb-false end SIZE_MAX is))

pub following : (own behind : Bool) (end : ℕ) → (not own && behind && nat_le end SIZE_MAX) ≡ true
    → (own ≡ false) × (behind ≡ true) × (end ≤ SIZE_MAX)
following true behind end is = absurd (cc)
following false false end is = absurd (cc)
following false true end is = (refl, refl, leb-true end SIZE_MAX is)
