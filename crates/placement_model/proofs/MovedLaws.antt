-- An object of the suffix of a moving table that stands elsewhere: the rules of places don't see it, but that
-- it is apart.
use Rattle.std.specs.Prelude.{◌≡◌, ◌⊎◌, ℕ, ◌<◌, ◌≤◌, ◌==◌, nat_lt, Bool, false, ◌&&◌, cond, List, sum_by, Some, IsSome, IsTrue, refl}
use Rattle.std.proofs.Common.{arith, sym, ap, subst, inl, inr}
use Rattle.std.proofs.lemmas.Bool.{cases_Bool, cond-false, and_parts, eqb-true, ltb-true}
use Rattle.std.specs.FinMap as fin
use Rattle.size_class.specs.Classes.{class_of}
use Rattle.slot_codec.specs.declared.codec.Header.{Header}
use Rattle.slot_codec.specs.declared.codec.Record.{Record}
use Rattle.slot_codec.specs.Names.{IsName}
use Rattle.map_model.specs.Weights.{same_name, weight}
use Rattle.table_rules.specs.Tables.{Apart, TableInLayout, StandsInBuffer, table_boundary, is_lower, is_of, lies_in_payload}
use Rattle.table_rules.specs.Rules.{KeepsPlaces}
use Rattle.extent_table.specs.declared.spot.Spot.{Spot}
use Rattle.extent_table.specs.Extents.{Spots, record_of, records_of}
use Rattle.placement_model.specs.Laid.{laid}
use Rattle.placement_model.specs.Reads.{AreNamed}
use Rattle.placement_model.proofs.SpotSumLaws.{records_sum-insert}
use Rattle.placement_model.proofs.EnterLaws.{by_name, each_inserted, inserted_apart}
use Rattle.placement_model.proofs.UnseenLaws.{same_balance}

module _ (classes size_max k len : ℕ) (header : Header) (spots : Spots) (named : AreNamed spots)
    (name : List ℕ) (s t : Spot) (there : fin.get spots name ≡ Some s) (same_size : t.size ≡ s.size) where
  abbrev before : TableInLayout
  before = laid classes size_max k len header spots

  abbrev moved : TableInLayout
  moved = laid classes size_max k len header (fin.insert spots name t)

  is_a_name : IsName name
  is_a_name = named name (subst (λ o. IsSome o) (sym there) refl)

  -- objects of a class below the boundary are counted as before
  not_counted : (g : Record → Bool) (c : ℕ) (x : Spot) → c < class_of s.size → x.size ≡ s.size
      → cond (is_of c (record_of (name, x)) && g (record_of (name, x))) x.size 0 ≡ 0
  not_counted g c x low e =
      let r = record_of (name, x) in
      elim (cases_Bool (is_of c r && g r)) [
        | inr other ↦ cond-false (is_of c r && g r) x.size 0 other
        | inl both ↦ absurd (omega (
          arith,
          low,
          ap class_of e,
          eqb-true (class_of x.size) c (and_parts (nat_lt 0 x.size) (class_of x.size == c)
              (and_parts (is_of c r) (g r) both).0).1,
        ))
      ]

  same_sum : (g : Record → Bool) (c : ℕ) → c < class_of s.size
      → sum_by (λ (r : Record). cond (is_of c r && g r) r.size 0) (records_of (fin.insert spots name t))
      ≡ sum_by (λ (r : Record). cond (is_of c r && g r) r.size 0) (records_of spots)
  same_sum g c low =
      let f = λ (r : Record). cond (is_of c r && g r) r.size 0 in
      omega (
        arith,
        records_sum-insert f spots name t named is_a_name,
        ap (weight (λ (e : List ℕ × Spot). f (record_of e)) name) there,
        not_counted g c s low refl,
        not_counted g c t low same_size,
      )

  -- A moving table keeps the rules of places when an object of its suffix stands elsewhere, apart from all
  -- others.
  pub moved_places : KeepsPlaces before → 0 < s.size → table_boundary before ≤ class_of s.size
      → ((q : List ℕ) (x : Spot) → fin.get spots q ≡ Some x → same_name q name ≡ false
      → Apart (record_of (name, t)) (record_of (q, x))) → KeepsPlaces moved
  moved_places keeps some high apart = record {
    sizes = each_inserted (λ (r : Record). r.size ≤ size_max) spots name t named is_a_name
        (omega (arith, old_size, same_size)) keeps.sizes;
    empty = each_inserted (λ (r : Record). r.size ≡ 0 → r.place ≡ 0) spots name t named is_a_name
        (λ none. absurd (omega (arith, none, some, same_size))) keeps.empty;
    above = keeps.above;
    rows = keeps.rows;
    stands = each_inserted (λ (r : Record). IsTrue (is_lower before r)
        → IsTrue (lies_in_payload before (class_of r.size) r) ⊎ StandsInBuffer before r) spots name t named
        is_a_name
        (λ lower. absurd (omega (
          arith,
          high,
          ap class_of same_size,
          ltb-true (class_of t.size) (table_boundary before)
              (and_parts (nat_lt 0 t.size) (nat_lt (class_of t.size) (table_boundary before)) lower).1,
        )))
        keeps.stands;
    apart = inserted_apart spots named name is_a_name t keeps.apart apart;
    balance = λ c low. same_balance classes size_max k len header spots (fin.insert spots name t) c
        (λ g. same_sum g c (omega (arith, low, high))) (keeps.balance c low);
    full = λ c low. record { entry = (keeps.full c low).entry; full = (keeps.full c low).full };
  }
    where
      old_size : s.size ≤ size_max
      old_size = by_name (λ (r : Record). r.size ≤ size_max) spots named keeps.sizes name s there
