-- A list of digests that is empty, has another digest at a key, or was copied, and when two lists agree.
use Rattle.std.proofs.Common.{◌≡◌, ◌⊎◌, ℕ, zero, suc, ◌<◌, ◌≤◌, List, [], ◌∷◌, length, get_or, refl, ap, sym, subst, ◌∙◌, inl, inr, arith}
use Rattle.std.proofs.lemmas.Bool.{cases_eq}
use mathlib.Core.Logic.{⊎_elim}
use Rattle.slot_codec.specs.Spelling.{digest_len}
use Rattle.extent_table.specs.Parts.{Slots, map_of, digest_in, digests_of, Lists, Notes, Agree, IsDigestList}

pub empty_list : {capacity room : ℕ} {digests : List (List ℕ)} → capacity ≤ room → digests ≡ []
    → IsDigestList capacity digests room
empty_list low none = rw none (record { long = λ k. refl; short = omega arith; room = low })

-- a list of digests is one with another digest at a key
pub list_put : {capacity room later_room key : ℕ} {old new : List (List ℕ)} {digest : List ℕ}
    → IsDigestList capacity old room → later_room ≡ room → length new ≤ capacity → length digest ≡ digest_len
    → digest_in new key ≡ digest → ((k : ℕ) → (k ≡ key → ⊥) → digest_in new k ≡ digest_in old k)
    → IsDigestList capacity new later_room
list_put {key = key} {new = new} list same short long here others = record {
  long = λ k. ⊎_elim
      (λ e. ap (λ n. length (digest_in new n)) e ∙ ap length here ∙ long)
      (λ differs. ap length (others k differs) ∙ list.long k)
      (cases_eq k key);
  short = short;
  room = omega (arith, same, list.room);
}

-- and with those of another list
pub list_copied : {capacity room other_room later_room : ℕ} {old other new : List (List ℕ)}
    → IsDigestList capacity old room → IsDigestList capacity other other_room → new ≡ other
    → room ≤ later_room → IsDigestList capacity new later_room
list_copied list from copied grown = rw copied (record {
  long = from.long;
  short = from.short;
  room = omega (arith, list.room, grown);
})

-- a list has a key or doesn't
module _ (key : ℕ) where
  listed_later : (x : ℕ) (xs : List ℕ) → (x ≡ key → ⊥) → (Lists xs key → ⊥) → (i : ℕ) → i < length (x ∷ xs)
      → get_or (x ∷ xs) i 0 ≡ key → ⊥
  listed_later x xs first rest zero lt is = first is
  listed_later x xs first rest (suc i) lt is = rest (i, omega (arith, lt), is)

  listed_or_not : (keys : List ℕ) → Lists keys key ⊎ (Lists keys key → ⊥)
  listed_or_not [] = inr (λ p. omega (arith, p.1))
  listed_or_not (x ∷ xs) = ⊎_elim
      (λ e. inl (0, omega arith, e))
      (λ first. ⊎_elim
      (λ (p : Lists xs key). inl (suc p.0, omega (arith, p.1), p.2))
      (λ rest. inr (λ p. listed_later x xs first rest p.0 p.1 p.2))
      (listed_or_not xs))
      (cases_eq x key)

-- digests that agree at each key that isn't listed, and at each that is
pub agree_all : {keys : List ℕ} {xs ys : List (List ℕ)} → Agree keys xs ys
    → ((i : ℕ) → i < length keys → digest_in xs (get_or keys i 0) ≡ digest_in ys (get_or keys i 0)) → (k : ℕ)
    → digest_in xs k ≡ digest_in ys k
agree_all {keys} {xs} {ys} agree done k = ⊎_elim
    (λ (p : Lists keys k). subst (λ n. digest_in xs n ≡ digest_in ys n) p.2 (done p.0 p.1))
    (agree.same k)
    (listed_or_not k keys)

-- digests agree still where one more key changed
pub agree_more : {old new : List ℕ} {key : ℕ} {xs ys : List (List ℕ)} → Agree old xs ys → Notes old new key
    → Agree new xs ys
agree_more agree noted = record { same = λ k none. agree.same k (λ was. none (noted.before k was)) }

-- also where its digest is another one
pub agree_put : {old new : List ℕ} {key : ℕ} {xs ys zs : List (List ℕ)} → Agree old xs ys → Notes old new key
    → ((k : ℕ) → (k ≡ key → ⊥) → digest_in zs k ≡ digest_in xs k) → Agree new zs ys
agree_put {new = new} agree noted others = record {
  same = λ k none. others k (λ e. none (subst (Lists new) (sym e) noted.here))
      ∙ agree.same k (λ was. none (noted.before k was));
}

-- digests that agree at each key are the same by name
pub digests_agree : (xs ys : List (List ℕ)) → ((k : ℕ) → digest_in xs k ≡ digest_in ys k)
    → (s : Slots) (order : List ℕ) → digests_of xs s order ≡ digests_of ys s order
digests_agree xs ys same s order = λ i. map_of (λ k. same k i) s order
