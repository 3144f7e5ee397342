-- The text that an input has left, and the front of it by which it is judged.
use Rattle.std.specs.Prelude.{◌≡◌, ◌≢◌, ◌⊎◌, ℕ, zero, suc, ◌+◌, ◌-◌, ◌≤◌, nat_lt, Bool, true, false, List, [], ◌∷◌, ◌++◌, length, take, drop, refl}
use Rattle.std.proofs.Common.{arith, ap, sym, ◌∙◌, inl, inr, append-nil, append_assoc}
use Rattle.std.proofs.Math.Seq.{length-take-le, take-append-add}
use Rattle.std.proofs.lemmas.Bool.{ltb-false, ltb-true}
use Rattle.std.proofs.lemmas.List.{take_all}
use Rattle.size_class.specs.declared.TheConstants.{SIZE_MAX}
use Rattle.map_model.specs.Requests.{Change}
use Rattle.batch_model.specs.Batches.{Begins, IsBatch, StopsAt, batch_text}
use Rattle.batch_command.specs.Reading.{most_read, text_of}

take_drop : (n : ℕ) (xs : List ℕ) → xs ≡ take n xs ++ drop n xs
take_drop zero xs = refl
take_drop (suc n) [] = refl
take_drop (suc n) (x ∷ xs) = ap (λ (ys : List ℕ). x ∷ ys) (take_drop n xs)

none_before : (xs ys : List ℕ) → xs ≢ [] → xs ++ ys ≢ []
none_before [] ys some none = some refl
none_before (x ∷ xs) ys some none = absurd (cc)

batch_long : (text : List ℕ) (changes : List Change) → IsBatch text changes → length text ≤ SIZE_MAX
batch_long text changes batch =
    omega (arith, batch.short, ap length (batch.whole ∙ append-nil (batch_text changes)))

module _ (left : List ℕ) where
  -- all of it was read, or there is more
  short_or_long : (text_of left ≡ left) ⊎ (length (text_of left) ≡ most_read)
  short_or_long = by (nat_lt most_read (length left)) refl
    where
      by : (b : Bool) → nat_lt most_read (length left) ≡ b
          → (text_of left ≡ left) ⊎ (length (text_of left) ≡ most_read)
      by true is = inr (length-take-le most_read left
          (let more = ltb-true most_read (length left) is in omega (arith, more)))
      by false is = inl (take_all most_read left (ltb-false most_read (length left) is))

  -- a batch was read whole
  pub front_batch : (changes : List Change) → IsBatch (text_of left) changes → text_of left ≡ left
  front_batch changes batch = elim short_or_long as (λ _. text_of left ≡ left) [
    | inl same ↦ same
    | inr long ↦ absurd (omega (arith, long, batch_long (text_of left) changes batch))
  ]

  -- nothing was read of nothing alone
  pub front_none : text_of left ≡ [] → left ≡ []
  front_none none = elim short_or_long as (λ _. left ≡ []) [
    | inl same ↦ sym same ∙ none
    | inr long ↦ absurd (omega (arith, long, ap length none))
  ]

  -- ---- where a text stops being a batch

  front_begins : (changes : List Change) (rest : List ℕ) → Begins (text_of left) changes rest
      → Begins left changes (rest ++ drop most_read left)
  front_begins changes rest is = record {
    whole = take_drop most_read left ∙ ap (λ (t : List ℕ). t ++ drop most_read left) is.whole
        ∙ append_assoc (batch_text changes) rest (drop most_read left);
    parts = is.parts;
    rises = is.rises;
    short = is.short;
  }

  back_begins : (changes : List Change) (rest : List ℕ) → Begins left changes rest
      → Begins (text_of left) changes (take (most_read - length (batch_text changes)) rest)
  back_begins changes rest is =
      let gap : length (batch_text changes) + (most_read - length (batch_text changes)) ≡ most_read =
      omega (arith, is.short) in
      record {
        whole = ap (take most_read) is.whole
            ∙ ap (λ (n : ℕ). take n (batch_text changes ++ rest)) (sym gap)
            ∙ take-append-add (batch_text changes) rest (most_read - length (batch_text changes));
        parts = is.parts;
        rises = is.rises;
        short = is.short;
      }

  pub front_stops : (n : ℕ) → StopsAt (text_of left) n → StopsAt left n
  front_stops n is = record {
    changes = is.changes;
    rest = is.rest ++ drop most_read left;
    front = front_begins is.changes is.rest is.front;
    number = is.number;
    more = none_before is.rest (drop most_read left) is.more;
    none = λ c others begins. is.none c (take (most_read - length (batch_text (is.changes ++ c ∷ []))) others)
        (back_begins (is.changes ++ c ∷ []) others begins);
  }
