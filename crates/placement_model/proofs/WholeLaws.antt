-- What a table keeps of the classes below its bound is all that the rules of places ask, if it has nothing
-- from there on.
use Rattle.std.specs.Prelude.{◌≡◌, ◌⊎◌, ℕ, ◌+◌, ◌<◌, ◌≤◌, nat_lt, length, slice_index, IsTrue}
use Rattle.std.proofs.Common.{arith, inl, inr}
use Rattle.std.proofs.lemmas.Bool.{and_parts, cases_lt, ltb-true}
use Rattle.size_class.specs.Classes.{cell, class_of}
use Rattle.segment_layout.specs.Shapes.{buffer_start, taken_in}
use Rattle.segment_layout.proofs.LayoutLaws.{taken_nothing}
use Rattle.table_rules.specs.Suffixes.{KeepsBelow}
use Rattle.table_rules.specs.Tables.{TableInLayout, StandsInBuffer, table_boundary, is_lower, lies_in_payload, nth}
use Rattle.table_rules.specs.Rules.{KeepsPlaces}
use Rattle.placement_model.proofs.SegmentLaws.{lies_parts}

pub places_from_below : (t : TableInLayout) → KeepsBelow (table_boundary t) t
    → ((c : ℕ) → table_boundary t ≤ c → slice_index t.header.caps c ≡ 0)
    → ((j c : ℕ) → table_boundary t ≤ j → cell t.header.used j c ≡ 0) → KeepsPlaces t
places_from_below t keeps no_caps no_cells = record {
  sizes = keeps.sizes;
  empty = keeps.empty;
  above = λ c wide. (
    λ high. no_caps c high,
    λ d in_width out. elim out [ inl high ↦ no_cells c d high | inr more ↦ keeps.lower c d more ],
  );
  rows = keeps.rows;
  stands = λ i within lower. standing i within lower;
  apart = keeps.apart;
  balance = keeps.balance;
  full = keeps.full;
}
  where
    standing : (i : ℕ) → i < length t.records → IsTrue (is_lower t (nth t i))
        → IsTrue (lies_in_payload t (class_of (nth t i).size) (nth t i)) ⊎ StandsInBuffer t (nth t i)
    standing i within lower =
        let r = nth t i in
        let parts = and_parts (nat_lt 0 r.size) (nat_lt (class_of r.size) (table_boundary t)) lower in
        let some = ltb-true 0 r.size parts.0 in
        elim (keeps.stands i within some (ltb-true (class_of r.size) (table_boundary t) parts.1)) [
          | inl here ↦ inl here
          | inr there ↦ elim (cases_lt there.0 (table_boundary t)) [
            | inl low ↦ inr (there.0, there.1, low, there.3)
            | inr high ↦
                let q = lies_parts (buffer_start t.k t.header.caps there.0)
                (buffer_start t.k t.header.caps there.0 + taken_in t.header.used there.0) r there.3 in
                absurd (omega (
                  arith,
                  q.0,
                  q.1,
                  some,
                  taken_nothing t.header.used there.0 (λ c. no_cells there.0 c high),
                ))
          ]
        ]
