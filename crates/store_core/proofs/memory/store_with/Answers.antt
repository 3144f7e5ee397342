use Rattle.std.specs.Prelude.{◌≡◌, ℕ}
use Rattle.std.proofs.Common.{ap, false, refl, subst, sym, ◌∙◌}
use Rattle.logged_pair.specs.Slots.{used_in}
use Rattle.size_class.specs.Classes.{zero_row}
use Rattle.size_class.specs.Rows.{cells_of}
use Rattle.data_area.specs.declared.ledger.Ledger.{Ledger}
use Rattle.segment_layout.specs.Layouts.{caps_of, grid_of}
use Rattle.extent_table.specs.Extents.{digests_seen}
use Rattle.flush_run.specs.declared.hands.Hands.{Hands}
use Rattle.store_model.specs.Connection.{opened_store}
use Rattle.store_model.specs.Resuming.{MakesStore}
use Rattle.store_model.specs.Inside.{Inside}
use Rattle.store_model.proofs.OpenedLaws.{IsNew, new_view, new_whole}
use Rattle.store_core.proofs.memory.store_with.Goals as goal

abbrev made : {C : ℕ} → Hands C → Ledger C → Inside C
made hands ledger = record {
  hands = record hands { ledger = ledger };
  kept_layout = hands.layout;
  broken = false;
}

is_new : {C : ℕ} (hands : Hands C) (ledger : Ledger C) → MakesStore hands → cells_of ledger.moved ≡ zero_row
    → cells_of ledger.asked ≡ zero_row → IsNew (made hands ledger)
is_new hands ledger r moved asked = record {
  few = r.few;
  wide = r.wide;
  block = r.block;
  kept = r.kept;
  room = r.names;
  digests = r.digests;
  cap = r.cap;
  few_names = r.few_names;
  divisor = r.divisor;
  kept_divisor = r.divisor;
  kept_caps = refl;
  kept_grid = refl;
  caps_full = hands.layout.caps.shape;
  grid_full = hands.layout.used.shape;
  valid = r.valid;
  table = r.table;
  spans = r.spans;
  guard_room = r.guard_room;
  moved = moved;
  asked = asked;
  plain = r.plain;
  version = r.version;
  base = r.base;
  buf = r.buffer;
  unbroken = refl;
}

pub invariant_of-result : goal.invariant_of-result
invariant_of-result g c =
    let hands = c.deref_mut-lent.result.now in
    let ledger = c.no_bytes-ledger.result in
    let said = c.no_bytes-ledger.ensures in
    new_whole (made hands ledger)
    (is_new hands ledger (subst (λ h. MakesStore h) (sym c.deref_mut-lent.ensures.value) c.requires)
    said.moved said.asked)

pub returns : goal.returns
returns g c =
    let hands = c.deref_mut-lent.result.now in
    let ledger = c.no_bytes-ledger.result in
    let said = c.no_bytes-ledger.ensures in
    new_view (made hands ledger)
    (is_new hands ledger (subst (λ h. MakesStore h) (sym c.deref_mut-lent.ensures.value) c.requires)
    said.moved said.asked)
    ∙ ap (λ (h : Hands g.row.C). opened_store g.row.C (used_in h.slots) h.table.now
    (digests_seen h.version h.table.digests) (caps_of h.layout)
    (grid_of h.layout)) c.deref_mut-lent.ensures.value
