-- An object that is read in pieces.
use Rattle.std.proofs.Common.{◌≡◌, ℕ, ◌+◌, ◌-◌, append-nil, ◌≤◌, ◌<◌, List, [], ◌∷◌, ◌++◌, length, take, drop, append_assoc, ap, sym, ◌∙◌, arith}
use Rattle.std.proofs.Math.Seq.{take-add}
use Rattle.std.proofs.lemmas.List.{take-append-drop}
use Rattle.std.specs.Prelude.{replicate}
use Rattle.byte_ranges.specs.Ranges.{resized}
use Rattle.byte_ranges.proofs.RangeLaws.{length-resized}
use Rattle.size_class.specs.declared.TheConstants.{SIZE_MAX}
use Rattle.ask_session.specs.Inputs.{HoldsObject, LacksObject}

-- some more bytes were taken behind the first
pub fill_more : (start old new now rest : List ℕ) (done n : ℕ) → take done new ≡ take done old
    → start ≡ take done old ++ now → now ≡ take n (drop done new) ++ rest
    → start ≡ take (done + n) new ++ rest
fill_more start old new now rest done n same so_far is =
    so_far ∙ ap (λ (xs : List ℕ). xs ++ now) (sym same)
    ∙ ap (λ (xs : List ℕ). take done new ++ xs) is
    ∙ sym (append_assoc (take done new) (take n (drop done new)) rest)
    ∙ ap (λ (xs : List ℕ). xs ++ rest) (sym (take-add done n new))

-- the newline is missing behind the bytes of an object
pub no_newline : (object mid : List ℕ) (size : ℕ) (input : List ℕ) → length object ≡ size
    → input ≡ object ++ mid
    → ((rest : List ℕ) → mid ≡ 10 ∷ rest → ⊥) → LacksObject size input
no_newline object mid size input long is none other rest other_long other_is =
    none rest (two object other mid (10 ∷ rest) (long ∙ sym other_long) (sym is ∙ other_is))
  where
    two : (o p x y : List ℕ) → length o ≡ length p → o ++ x ≡ p ++ y → x ≡ y
    two [] [] x y same h = h
    two [] (b ∷ p) x y same h = absurd (omega (arith, same))
    two (a ∷ o) [] x y same h = absurd (omega (arith, same))
    two (a ∷ o) (b ∷ p) x y same h = two o p x y (omega (arith, same)) (let e : o ++ x ≡ p ++ y = cc in e)

all_there : (input : List ℕ) (size : ℕ) → size ≤ length input → resized input size ≡ take size input
all_there input size within =
    let none : size - length input ≡ 0 = omega (arith, within) in
    ap (λ (n : ℕ). take size input ++ replicate n 0) none ∙ append-nil (take size input)

-- bytes were dropped
pub dropped : (told : Type 0) (input rest body : List ℕ) (size : ℕ) → SIZE_MAX < size
    → (told → (size ≤ length input) × (rest ≡ drop size input)) → HoldsObject told input rest size body
dropped told input rest body size big is = record {
  object = resized input size;
  long = length-resized input size;
  held = λ small. absurd (omega (arith, small, big));
  whole = λ t. sym (take-append-drop size input)
      ∙ ap (λ (xs : List ℕ). take size input ++ xs) (sym (is t).1)
      ∙ ap (λ (xs : List ℕ). xs ++ rest) (sym (all_there input size (is t).0));
}
