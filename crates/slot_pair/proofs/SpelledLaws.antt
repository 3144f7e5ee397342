-- Items that are spelled into a buffer, a piece that is taken from its front, and the file behind each write.
use Rattle.std.specs.Prelude.{◌≡◌, ℕ, suc, ◌+◌, ◌-◌, ◌<◌, ◌≤◌, nat_lt, List, [], ◌++◌, drop, flat_map, length, min, slice_index_or, take}
use Rattle.std.proofs.Common.{◌∙◌, ap, arith, drop-cons, inl, inr, length-drop, sym}
use Rattle.std.proofs.lemmas.Bool.{cases_Bool, ltb-false, ltb-true}
use Rattle.std.proofs.lemmas.List.{append-nil, append_assoc, drop-append-le, drop-take, drop_all, length-take-le, take-append-le, take-take, take_all}
use Rattle.std.proofs.lemmas.List.Edits.{take-paste}
use Rattle.std.proofs.Math.Seq.{take-append-add}
use Rattle.std.specs.List.{copy_within}
use borrow.Rule.Slice.PartMut.{put_mid}
use Rattle.slot_pair.specs.Pieces.{text_from, unwritten}
use Rattle.slot_pair.specs.declared.entry.Spelled.{Spelled}

-- an item that isn't spelled is the first of the rest
next_item : (items : List (List ℕ)) (n : ℕ) → n < length items
    → text_from n items ≡ slice_index_or items n [] ++ text_from (n + 1) items
next_item items n low =
    let up : suc n ≡ n + 1 = omega arith in
    ap (flat_map (λ item. item)) (drop-cons items n [] low)
    ∙ ap (λ k. slice_index_or items n [] ++ text_from k items) up

none_left : (items : List (List ℕ)) (n : ℕ) → length items ≤ n → text_from n items ≡ []
none_left items n past = ap (flat_map (λ item. item)) (drop_all n items past)

-- an item is spelled behind those before it
pub item_spelled : (items : List (List ℕ)) (buf ys : List ℕ) (k n held len : ℕ) → n < length items
    → held ≤ length buf → len ≤ length ys → take len ys ≡ slice_index_or items n []
    → (text : List ℕ) → take held buf ++ text_from n items ≡ text
    → take (held + len) (put_mid held k buf ys) ++ text_from (n + 1) items ≡ text
item_spelled items buf ys k n held len low within short is text before =
    let front = take held buf in
    let long : length front ≡ held = length-take-le held buf within in
    let grown : take (held + len) (put_mid held k buf ys) ≡ front ++ take len ys =
    ap (λ m. take (m + len) (put_mid held k buf ys)) (sym long) ∙ take-append-add front (ys ++ _) len
    ∙ ap (λ t. front ++ t) (take-append-le len ys _ short) in
    ap (λ t. t ++ text_from (n + 1) items) (grown ∙ ap (λ t. front ++ t) is)
    ∙ append_assoc front (slice_index_or items n []) (text_from (n + 1) items)
    ∙ ap (λ t. front ++ t) (sym (next_item items n low))
    ∙ before

-- what is behind the first n bytes is moved to the front
pub moved_front : (buf : List ℕ) (n held : ℕ) → n ≤ held → held ≤ length buf
    → take (held - n) (copy_within buf n held 0) ≡ drop n (take held buf)
moved_front buf n held low within =
    let all : n + (held - n) ≡ held = omega (arith, low) in
    let none : 0 + (held - n) ≡ held - n = omega arith in
    ap (λ m. take m (copy_within buf n held 0)) (sym none)
    ∙ take-paste buf 0 (drop n buf) (held - n) (omega arith) (omega (arith, low, within, length-drop n buf))
    ∙ sym (drop-take n (held - n) buf)
    ∙ ap (λ m. drop n (take m buf)) all

-- ---- a piece of what isn't written

-- a buffer holds a piece, or nothing is left to be spelled
pub record HoldsPiece (s : Spelled) (buf : List ℕ) (items : List (List ℕ)) (rest : List ℕ) : Type 0 where
  pub text : unwritten s buf items ≡ rest
  pub all : s.held < 57344 → length items ≤ s.items
  pub within : s.held ≤ length buf

-- the first n bytes are a piece
pub first_piece : {s : Spelled} {buf : List ℕ} {items : List (List ℕ)} {rest : List ℕ}
    → HoldsPiece s buf items rest → (n : ℕ) → n ≡ min s.held 57344 → take n buf ≡ take 57344 rest
first_piece {s} {buf} {items} {rest} has n is =
    elim (cases_Bool (nat_lt s.held 57344)) [
      | inl few ↦ (
          let low = ltb-true s.held 57344 few in
          let all : n ≡ s.held = omega (arith, is, low) in
          ap (λ m. take m buf) all
          ∙ sym (take_all 57344 (take s.held buf) (omega (arith, low, length-take-le s.held buf has.within)))
          ∙ ap (take 57344) (sym (append-nil (take s.held buf))
          ∙ ap (λ t. take s.held buf ++ t) (sym (none_left items s.items (has.all low))) ∙ has.text)
          )
      | inr many ↦ (
          let high = ltb-false s.held 57344 many in
          let all : n ≡ 57344 = omega (arith, is, high) in
          ap (λ m. take m buf) all
          ∙ sym (take-take 57344 s.held buf high)
          ∙ sym (take-append-le 57344 (take s.held buf) (text_from s.items items)
          (omega (arith, high, length-take-le s.held buf has.within)))
          ∙ ap (take 57344) has.text
          )
    ]

-- and the others, with the items that aren't spelled, are what is behind it
pub behind_piece : {s : Spelled} {buf : List ℕ} {items : List (List ℕ)} {rest : List ℕ}
    → HoldsPiece s buf items rest → (n : ℕ) → n ≡ min s.held 57344
    → drop n (take s.held buf) ++ text_from s.items items ≡ drop 57344 rest
behind_piece {s} {buf} {items} {rest} has n is =
    elim (cases_Bool (nat_lt s.held 57344)) [
      | inl few ↦ (
          let low = ltb-true s.held 57344 few in
          let long = length-take-le s.held buf has.within in
          let none = none_left items s.items (has.all low) in
          let whole : take s.held buf ≡ rest = sym (append-nil (take s.held buf))
          ∙ ap (λ t. take s.held buf ++ t) (sym none) ∙ has.text in
          ap (λ t. drop n (take s.held buf) ++ t) none ∙ append-nil (drop n (take s.held buf))
          ∙ drop_all n (take s.held buf) (omega (arith, is, low, long))
          ∙ sym (drop_all 57344 (take s.held buf) (omega (arith, low, long)))
          ∙ ap (drop 57344) whole
          )
      | inr many ↦ (
          let high = ltb-false s.held 57344 many in
          let all : n ≡ 57344 = omega (arith, is, high) in
          ap (λ m. drop m (take s.held buf) ++ text_from s.items items) all
          ∙ sym (drop-append-le 57344 (take s.held buf) (text_from s.items items)
          (omega (arith, high, length-take-le s.held buf has.within)))
          ∙ ap (drop 57344) has.text
          )
    ]
