-- Items that stand one behind another are read from their spellings, and from nothing else.
use Rattle.std.proofs.Common.{◌≡◌, ℕ, zero, suc, ◌+◌, ◌*◌, ◌≤◌, List, [], ◌∷◌, ◌++◌, length, refl, sym, ap, ◌∙◌, subst, arith, length-append}
use Rattle.std.specs.Prelude.{flat_map, Result, Ok}
use Rattle.byte_ranges.specs.Ranges.{SameWithin, bytes_at}
use Rattle.byte_ranges.specs.Lists.{◌>>=◌}
use Rattle.byte_ranges.proofs.RangeLaws.{bytes_at-same, length-bytes_at}
use Rattle.slot_codec.specs.Choice.{placed_at}
use Rattle.slot_codec.specs.Items.{AreItems, after_items, read_items}
use Rattle.slot_codec.specs.Spelling.{AreBytes}
use Rattle.slot_codec.specs.declared.codec.CodecFault.{CodecFault}
use Rattle.slot_codec.proofs.PartLaws.{StandsAt, bytes_at-are_bytes, bytes_at-more, stands_bytes, stands_left, stands_right}
use Rattle.slot_codec.proofs.StepLaws.{bind_from, bind_ok, bind_same, from_ok, placed_ok}

-- an item that a step took from these bytes
pub record TakenItem {S A : Type 0} (after : S → A → S) (IsItem : S → A → Type 0) (spell : A → List ℕ)
    (s t : S)
    (bytes : List ℕ) : Type 0 where
  pub item : A
  pub fits : IsItem s item
  pub text : bytes ≡ spell item
  pub is : t ≡ after s item

-- a step takes items from their spellings of `len` bytes
pub record TakesItems {S A : Type 0} (step : S → List ℕ → Result S CodecFault) (after : S → A → S)
    (IsItem : S → A → Type 0) (spell : A → List ℕ) (len : ℕ) : Type 0 where
  pub long : (s : S) (x : A) → IsItem s x → length (spell x) ≡ len
  pub takes : (s : S) (x : A) → IsItem s x → step s (spell x) ≡ Ok (after s x)

-- and a step takes them from no other `len` bytes
pub record TakesNoOther {S A : Type 0} (step : S → List ℕ → Result S CodecFault) (after : S → A → S)
    (IsItem : S → A → Type 0) (spell : A → List ℕ) (len : ℕ) : Type 0 where
  pub back : (s t : S) (bytes : List ℕ) → length bytes ≡ len → AreBytes bytes → step s bytes ≡ Ok t
      → TakenItem after IsItem spell s t bytes

pub length-items : {S A : Type 0} {step : S → List ℕ → Result S CodecFault} {after : S → A → S}
    {IsItem : S → A → Type 0} {spell : A → List ℕ} {len : ℕ} (each : TakesItems step after IsItem spell len)
    (s : S) (xs : List A) → AreItems IsItem after s xs → length (flat_map spell xs) ≡ len * length xs
length-items {S} {A} {step} {after} {IsItem} {spell} {len} each s [] are = omega arith
length-items {S} {A} {step} {after} {IsItem} {spell} {len} each s (x ∷ xs) are =
    omega (
      arith,
      each.long s x are.0,
      length-append (spell x) (flat_map spell xs),
      length-items each (after s x) xs are.1,
    )

-- items are read from their spellings
pub items_read : {S A : Type 0} {step : S → List ℕ → Result S CodecFault} {after : S → A → S}
    {IsItem : S → A → Type 0} {spell : A → List ℕ} {len : ℕ} (each : TakesItems step after IsItem spell len)
    (file : List ℕ) (at : ℕ) (s : S) (xs : List A) → AreItems IsItem after s xs
    → StandsAt file at (flat_map spell xs) → read_items step len (length xs) file at s
    ≡ Ok (after_items after s xs)
items_read {S} {A} {step} {after} {IsItem} {spell} {len} each file at s [] are there = refl
items_read {S} {A} {step} {after} {IsItem} {spell} {len} each file at s (x ∷ xs) are there =
    let long = each.long s x are.0 in
    let here : bytes_at file at len ≡ spell x = stands_bytes file at len (spell x) long
    (stands_left file at (spell x) (flat_map spell xs) there) in
    let first : placed_at at (step s (bytes_at file at len)) ≡ Ok (after s x) =
    ap (placed_at at) (ap (step s) here ∙ each.takes s x are.0) in
    let later = items_read each file (at + len) (after s x) xs are.1
    (stands_right file at (at + len) (spell x) (flat_map spell xs) (ap (λ n. at + n) long) there) in
    bind_from (placed_at at (step s (bytes_at file at len))) (read_items step len (length xs) file (at + len))
    (after s x) first ∙ later

-- items that were read from so many bytes
pub record ReadItems {S A : Type 0} (after : S → A → S) (IsItem : S → A → Type 0) (spell : A → List ℕ) (n : ℕ)
    (bytes : List ℕ) (s t : S) : Type 0 where
  pub items : List A
  pub count : n ≡ length items
  pub are : AreItems IsItem after s items
  pub text : bytes ≡ flat_map spell items
  pub is : t ≡ after_items after s items

-- what is read are the spellings of items
pub items_back : {S A : Type 0} {step : S → List ℕ → Result S CodecFault} {after : S → A → S}
    {IsItem : S → A → Type 0} {spell : A → List ℕ} {len : ℕ} (each : TakesNoOther step after IsItem spell len)
    (n : ℕ) (file : List ℕ) (at : ℕ) (s t : S) → AreBytes file → at + len * n ≤ length file
    → read_items step len n file at s ≡ Ok t → ReadItems after IsItem spell n (bytes_at file at (len * n)) s t
items_back {S} {A} {step} {after} {IsItem} {spell} {len} each zero file at s t bytes within read =
    let none : len * 0 ≡ 0 = omega arith in
    record {
      items = [];
      count = refl;
      are = tt;
      text = ap (bytes_at file at) none;
      is = sym (from_ok s t read);
    }
items_back {S} {A} {step} {after} {IsItem} {spell} {len} each (suc n) file at s t bytes within read =
    let all : len + len * n ≡ len * suc n = omega arith in
    let fits : at + len ≤ length file = omega (arith, within, all) in
    let rest : at + len + len * n ≤ length file = omega (arith, within, all) in
    let r = bind_ok (placed_at at (step s (bytes_at file at len)))
    (read_items step len n file (at + len)) t read
    in
    let first = each.back s r.0 (bytes_at file at len) (length-bytes_at file at len fits)
    (bytes_at-are_bytes file at len bytes) (placed_ok at (step s (bytes_at file at len)) r.0 r.1) in
    let after_first : read_items step len n file (at + len) (after s first.item) ≡ Ok t =
    subst (λ u. read_items step len n file (at + len) u ≡ Ok t) first.is r.2 in
    let later = items_back each n file (at + len) (after s first.item) t bytes rest after_first in
    record {
      items = first.item ∷ later.items;
      count = ap suc later.count;
      are = (first.fits, later.are);
      text =
          ap (bytes_at file at) (sym all)
          ∙ sym (bytes_at-more file at len (len * n))
          ∙ ap (λ b. b ++ bytes_at file (at + len) (len * n)) first.text
          ∙ ap (λ b. spell first.item ++ b) later.text;
      is = later.is;
    }

-- they rest on their own bytes
pub items_same : {S : Type 0} (step : S → List ℕ → Result S CodecFault) (len n : ℕ) (a b : List ℕ)
    (at end : ℕ)
    (s : S) → at + len * n ≤ end → end ≤ length a → end ≤ length b → SameWithin at end a b
    → read_items step len n a at s ≡ read_items step len n b at s
items_same step len zero a b at end s within in_a in_b same = refl
items_same step len (suc n) a b at end s within in_a in_b same =
    let all : len + len * n ≡ len * suc n = omega arith in
    let fits : at + len ≤ end = omega (arith, within, all) in
    let rest : at + len + len * n ≤ end = omega (arith, within, all) in
    let here : bytes_at a at len ≡ bytes_at b at len = bytes_at-same a b at len (omega (arith, fits, in_a))
    (omega (arith, fits, in_b)) (λ i low high. same i low (omega (arith, high, fits))) in
    ap (λ bytes. placed_at at (step s bytes) >>= read_items step len n a (at + len)) here
    ∙ bind_same (placed_at at (step s (bytes_at b at len))) (read_items step len n a (at + len))
    (read_items step len n b (at + len)) (λ t got. items_same step len n a b (at + len) end t rest in_a in_b
    (λ i low high. same i (omega (arith, low)) high))

-- what each step keeps is kept
pub items_keep : {S : Type 0} (step : S → List ℕ → Result S CodecFault) (keeps : S → ℕ)
    (each : (s t : S) (bytes : List ℕ) → step s bytes ≡ Ok t → keeps t ≡ keeps s)
    (len n : ℕ) (file : List ℕ) (at : ℕ) (s t : S) → read_items step len n file at s ≡ Ok t
    → keeps t ≡ keeps s
items_keep step keeps each len zero file at s t read = ap keeps (sym (from_ok s t read))
items_keep step keeps each len (suc n) file at s t read =
    let r = bind_ok (placed_at at (step s (bytes_at file at len)))
    (read_items step len n file (at + len)) t read
    in
    items_keep step keeps each len n file (at + len) r.0 t r.2
    ∙ each s r.0 (bytes_at file at len) (placed_ok at (step s (bytes_at file at len)) r.0 r.1)

-- and what each step keeps true stays true
pub items_hold : {S : Type 0} (step : S → List ℕ → Result S CodecFault) (Holds : S → Type 0)
    (each : (s t : S) (bytes : List ℕ) → Holds s → step s bytes ≡ Ok t → Holds t)
    (len n : ℕ) (file : List ℕ) (at : ℕ) (s t : S) → Holds s → read_items step len n file at s ≡ Ok t
    → Holds t
items_hold step Holds each len zero file at s t holds read = subst Holds (from_ok s t read) holds
items_hold step Holds each len (suc n) file at s t holds read =
    let r = bind_ok (placed_at at (step s (bytes_at file at len)))
    (read_items step len n file (at + len)) t read
    in
    items_hold step Holds each len n file (at + len) r.0 t
    (each s r.0 (bytes_at file at len) holds (placed_ok at (step s (bytes_at file at len)) r.0 r.1)) r.2
