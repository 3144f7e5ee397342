-- A new name that isn't charged: an empty object, or one of a class from b on that waits for a flush. What a
-- table keeps of the classes below b doesn't see it.
use Rattle.std.specs.Prelude.{◌≡◌, ◌⊎◌, ℕ, ◌<◌, ◌≤◌, ◌==◌, nat_lt, Bool, ◌&&◌, cond, List, sum_by, None, refl}
use Rattle.std.proofs.Common.{arith, ap, inl, inr}
use Rattle.std.proofs.lemmas.Bool.{cases_Bool, cond-false, and_parts, eqb-true, ltb-true}
use Rattle.std.specs.FinMap as fin
use Rattle.size_class.specs.Classes.{class_of}
use Rattle.slot_codec.specs.Names.{IsName}
use Rattle.slot_codec.specs.declared.codec.Header.{Header}
use Rattle.slot_codec.specs.declared.codec.Record.{Record}
use Rattle.map_model.specs.Weights.{weight}
use Rattle.table_rules.specs.Suffixes.{KeepsBelow, Stands}
use Rattle.table_rules.specs.Tables.{TableInLayout, is_of}
use Rattle.extent_table.specs.declared.spot.Spot.{Spot}
use Rattle.extent_table.specs.Extents.{Spots, record_of, records_of}
use Rattle.placement_model.specs.Laid.{laid}
use Rattle.placement_model.specs.Reads.{AreNamed}
use Rattle.placement_model.proofs.SpotSumLaws.{records_sum-insert}
use Rattle.placement_model.proofs.EnterLaws.{each_inserted, inserted_apart}
use Rattle.placement_model.proofs.UnseenLaws.{same_balance}
use Rattle.placement_model.specs.Joins.{IsAlone, empty_spot}

module _ (classes size_max k len : ℕ) (header : Header) (b : ℕ) (spots : Spots) (named : AreNamed spots)
    (name : List ℕ) (is : IsName name) (new : fin.get spots name ≡ None) (s : Spot)
    (unseen : (s.size ≡ 0) ⊎ (b ≤ class_of s.size)) where
  abbrev before : TableInLayout
  before = laid classes size_max k len header spots

  -- the table with the new name
  abbrev joined : TableInLayout
  joined = laid classes size_max k len header (fin.insert spots name s)

  no_weight : (g : Record → Bool) (c : ℕ) → c < b
      → cond (is_of c (record_of (name, s)) && g (record_of (name, s))) s.size 0 ≡ 0
  no_weight g c low =
      let r = record_of (name, s) in
      elim (cases_Bool (is_of c r && g r)) [
        | inr other ↦ cond-false (is_of c r && g r) s.size 0 other
        | inl both ↦
            let q = and_parts (nat_lt 0 s.size) (class_of s.size == c) (and_parts (is_of c r) (g r) both).0 in
            elim unseen as (λ x. cond (is_of c r && g r) s.size 0 ≡ 0) [
              | inl none ↦ absurd (omega (arith, none, ltb-true 0 s.size q.0))
              | inr high ↦ absurd (omega (arith, high, low, eqb-true (class_of s.size) c q.1))
            ]
      ]

  same_sum : (g : Record → Bool) (c : ℕ) → c < b
      → sum_by (λ (r : Record). cond (is_of c r && g r) r.size 0) (records_of (fin.insert spots name s))
      ≡ sum_by (λ (r : Record). cond (is_of c r && g r) r.size 0) (records_of spots)
  same_sum g c low =
      let f = λ (r : Record). cond (is_of c r && g r) r.size 0 in
      omega (
        arith,
        records_sum-insert f spots name s named is,
        ap (weight (λ (e : List ℕ × Spot). f (record_of e)) name) new,
        no_weight g c low,
      )

  joined_below : s.size ≤ size_max → (s.size ≡ 0 → s.place ≡ 0) → IsAlone spots name s → KeepsBelow b before
      → KeepsBelow b joined
  joined_below small empty alone keeps = record {
    sizes = each_inserted (λ (r : Record). r.size ≤ size_max) spots name s named is small keeps.sizes;
    empty = each_inserted (λ (r : Record). r.size ≡ 0 → r.place ≡ 0) spots name s named is empty keeps.empty;
    lower = keeps.lower;
    rows = keeps.rows;
    stands = each_inserted (λ (r : Record). 0 < r.size → class_of r.size < b → Stands before r) spots name s
        named is (λ some low. unheard some low) keeps.stands;
    apart = inserted_apart spots named name is s keeps.apart (λ q x there differ. alone q x there);
    balance = λ c low. same_balance classes size_max k len header spots (fin.insert spots name s) c
        (λ g. same_sum g c low) (keeps.balance c low);
    full = λ c low. record { entry = (keeps.full c low).entry; full = (keeps.full c low).full };
  }
    where
      unheard : 0 < s.size → class_of s.size < b → Stands before (record_of (name, s))
      unheard some low = elim unseen as (λ x.
          Stands before (record_of (name, s))) [
            | inl none ↦ absurd (omega (arith, none, some))
            | inr high ↦
                absurd (omega (arith, high, low))
          ]

-- An object that waits for a flush: of a class from b on, apart from all others.
pub pending_below : (classes size_max k len : ℕ) (header : Header) (b : ℕ) (spots : Spots) → AreNamed spots
    → (name : List ℕ) → IsName name → fin.get spots name ≡ None → (s : Spot) → 1 ≤ s.size → s.size ≤ size_max
    → b ≤ class_of s.size → IsAlone spots name s
    → KeepsBelow b (laid classes size_max k len header spots)
    → KeepsBelow b (laid classes size_max k len header (fin.insert spots name s))
pending_below classes size_max k len header b spots named name is new s some small high alone keeps =
    joined_below classes size_max k len header b spots named name is new s (inr high) small
    (λ none. absurd (omega (arith, none, some))) alone keeps

-- An empty object.
pub empty_below : (classes size_max k len : ℕ) (header : Header) (b : ℕ) (spots : Spots) → AreNamed spots
    → (name : List ℕ) → IsName name → fin.get spots name ≡ None
    → KeepsBelow b (laid classes size_max k len header spots)
    → KeepsBelow b (laid classes size_max k len header (fin.insert spots name empty_spot))
empty_below classes size_max k len header b spots named name is new keeps =
    joined_below classes size_max k len header b spots named name is new empty_spot (inl refl) (omega arith)
    (λ none. refl) (λ q x there. inl refl) keeps
