-- A change of one name that a class doesn't see: its bytes, by where they lie, are those of before.
use Rattle.std.specs.Prelude.{◌≡◌, ℕ, ◌&&◌, Bool, cond, sum_by}
use Rattle.std.proofs.Common.{arith, sym, ◌∙◌}
use Rattle.size_class.specs.Classes.{width}
use Rattle.slot_codec.specs.declared.codec.Header.{Header}
use Rattle.slot_codec.specs.declared.codec.Record.{Record}
use Rattle.segment_layout.proofs.BookLaws.{sum_by-filter}
use Rattle.segment_layout.proofs.SumLaws.{sum_below_agree}
use Rattle.table_rules.specs.Tables.{TableInLayout, dead_in_buffer, is_of, lies_in_buffer, lies_in_payload, live_in_buffer, live_in_payload}
use Rattle.table_rules.specs.Rules.{Balances}
use Rattle.extent_table.specs.Extents.{Spots, records_of}
use Rattle.placement_model.specs.Laid.{laid}

module _ (classes size_max k len : ℕ) (header : Header) (old new : Spots) (c : ℕ)
    (same : (g : Record → Bool)
    → sum_by (λ (r : Record). cond (is_of c r && g r) r.size 0) (records_of new)
    ≡ sum_by (λ (r : Record). cond (is_of c r && g r) r.size 0) (records_of old)) where
  abbrev before : TableInLayout
  before = laid classes size_max k len header old

  abbrev after : TableInLayout
  after = laid classes size_max k len header new

  same_in_buffer : (i : ℕ) → live_in_buffer after i c ≡ live_in_buffer before i c
  same_in_buffer i =
      sum_by-filter (λ (r : Record). r.size) (λ r. is_of c r && lies_in_buffer before i r) (records_of new)
      ∙ same (lies_in_buffer before i)
      ∙ sym (sum_by-filter (λ (r : Record). r.size) (λ r. is_of c r && lies_in_buffer before i r)
      (records_of old))

  same_in_payload : live_in_payload after c ≡ live_in_payload before c
  same_in_payload =
      sum_by-filter (λ (r : Record). r.size) (λ r. is_of c r && lies_in_payload before c r) (records_of new)
      ∙ same (lies_in_payload before c)
      ∙ sym (sum_by-filter (λ (r : Record). r.size) (λ r. is_of c r && lies_in_payload before c r)
      (records_of old))

  pub same_balance : Balances before c → Balances after c
  same_balance balance = record {
    buffers = λ i wide. omega (arith, same_in_buffer i, balance.buffers i wide);
    payload = omega (
      arith,
      balance.payload,
      same_in_payload,
      sum_below_agree width (λ i. dead_in_buffer after i c) (λ i. dead_in_buffer before i c)
          (λ i wide. omega (arith, same_in_buffer i)),
    );
  }
