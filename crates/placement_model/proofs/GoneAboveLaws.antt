-- A name whose object is of a class from b on is gone, and nothing is charged: what a table keeps of the
-- classes below b doesn't see it.
use Rattle.std.specs.Prelude.{◌≡◌, ℕ, ◌<◌, ◌≤◌, ◌==◌, nat_lt, Bool, ◌&&◌, cond, List, sum_by, Some}
use Rattle.std.proofs.Common.{arith, ap, inl, inr}
use Rattle.std.proofs.lemmas.Bool.{and_parts, cases_Bool, cond-false, eqb-true}
use Rattle.std.specs.FinMap as fin
use Rattle.size_class.specs.Classes.{class_of}
use Rattle.slot_codec.specs.declared.codec.Header.{Header}
use Rattle.slot_codec.specs.declared.codec.Record.{Record}
use Rattle.map_model.specs.Weights.{weight}
use Rattle.table_rules.specs.Suffixes.{KeepsBelow, Stands}
use Rattle.table_rules.specs.Tables.{TableInLayout, is_of}
use Rattle.extent_table.specs.declared.spot.Spot.{Spot}
use Rattle.extent_table.specs.Extents.{Spots, record_of, records_of}
use Rattle.placement_model.specs.Laid.{laid}
use Rattle.placement_model.specs.Reads.{AreNamed}
use Rattle.placement_model.proofs.SpotSumLaws.{records_sum-remove}
use Rattle.placement_model.proofs.GoneLaws.{each_removed, gone_apart}
use Rattle.placement_model.proofs.UnseenLaws.{same_balance}

module _ (classes size_max k len : ℕ) (header : Header) (b : ℕ) (spots : Spots) (named : AreNamed spots)
    (name : List ℕ) (s : Spot) (there : fin.get spots name ≡ Some s) (high : b ≤ class_of s.size) where
  abbrev before : TableInLayout
  before = laid classes size_max k len header spots

  abbrev gone : TableInLayout
  gone = laid classes size_max k len header (fin.remove spots name)

  no_weight : (g : Record → Bool) (c : ℕ) → c < b
      → cond (is_of c (record_of (name, s)) && g (record_of (name, s))) s.size 0 ≡ 0
  no_weight g c low =
      let r = record_of (name, s) in
      elim (cases_Bool (is_of c r && g r)) [
        | inr other ↦ cond-false (is_of c r && g r) s.size 0 other
        | inl both ↦
            let q = and_parts (nat_lt 0 s.size) (class_of s.size == c) (and_parts (is_of c r) (g r) both).0 in
            absurd (omega (arith, high, low, eqb-true (class_of s.size) c q.1))
      ]

  same_sum : (g : Record → Bool) (c : ℕ) → c < b
      → sum_by (λ (r : Record). cond (is_of c r && g r) r.size 0) (records_of (fin.remove spots name))
      ≡ sum_by (λ (r : Record). cond (is_of c r && g r) r.size 0) (records_of spots)
  same_sum g c low =
      let f = λ (r : Record). cond (is_of c r && g r) r.size 0 in
      omega (
        arith,
        records_sum-remove f spots name named,
        ap (weight (λ (e : List ℕ × Spot). f (record_of e)) name) there,
        no_weight g c low,
      )

  pub gone_above : KeepsBelow b before → KeepsBelow b gone
  gone_above keeps = record {
    sizes = each_removed (λ (r : Record). r.size ≤ size_max) spots name named keeps.sizes;
    empty = each_removed (λ (r : Record). r.size ≡ 0 → r.place ≡ 0) spots name named keeps.empty;
    lower = keeps.lower;
    rows = keeps.rows;
    stands = each_removed (λ (r : Record). 0 < r.size → class_of r.size < b → Stands gone r) spots name named
        keeps.stands;
    apart = gone_apart spots named name keeps.apart;
    balance = λ c low. same_balance classes size_max k len header spots (fin.remove spots name) c
        (λ g. same_sum g c low) (keeps.balance c low);
    full = λ c low. record { entry = (keeps.full c low).entry; full = (keeps.full c low).full };
  }
