use Rattle.std.proofs.Common.{◌∙◌, ap, arith, lit<, refl, subst, sym}
use Rattle.size_class.specs.declared.TheConstants.{SIZE_MAX}
use Rattle.slot_codec.specs.Readable.{IsSuperBlock}
use Rattle.slot_codec.proofs.CapLaws.{cap-low}
use Rattle.slot_codec.specs.Spelling.{cap, head_len}
use Rattle.slot_codec.specs.declared.codec.SuperBlock.{SuperBlock}
use Rattle.logged_pair.specs.Slots.{used_in}
use Rattle.logged_pair.specs.declared.slots.Slots.TheVariants as slots
use Rattle.segment_layout.specs.Layouts.{caps_of, grid_of}
use Rattle.table_rules.specs.Rules.{IsValid}
use Rattle.extent_table.specs.Extents.{Extents, IsTable, digests_seen}
use Rattle.placement_model.specs.Laid.{settled_table}
use Rattle.segment_layout.specs.declared.layout.Layout.{Layout}
use Rattle.flush_run.specs.declared.hands.Hands.{Hands}
use Rattle.store_model.specs.Connection.{StoreValue, opened_store}
use Rattle.store_model.specs.Resuming.{MakesStore}
use Rattle.store_model.proofs.DigestLaws.{narrowed_few, narrowed_kept}
use Rattle.store_core.proofs.laws.store_in.Goals as goal

pub store_with-requires : goal.store_with-requires
store_with-requires g c =
    let r = c.requires in
    let same = sym r.slots in
    let made = c.in_ok-guard.ensures in
    let at : Extents → Layout g.row.C → Hands g.row.C = λ e l. record {
      table = e;
      layout = l;
      guard = c.in_ok-guard.field-0.guard;
      slots = slots.Plain c.args.slots;
      ledger = c.no_bytes.result;
      buf = c.in_ok-guard.field-0.buf;
      base = c.head_len.result;
      version = c.args.version;
    } in (
      lit< tt,
      (
        lit< tt,
        (
          lit< tt,
          subst (λ (h : Hands g.row.C). MakesStore h) (sym c.in_ok-hands.ensures)
              (subst (λ (l : Layout g.row.C). MakesStore (at c.narrow.new.self l)) (sym c.deref.ensures)
              (subst (λ (e : Extents). MakesStore (at e c.args.layout.value)) (sym c.narrow.ensures.only)
              (record {
                few = r.classes;
                wide = r.wide;
                block = subst IsSuperBlock same r.block;
                kept = r.kept;
                names = r.room ∙ ap (λ (b : SuperBlock). b.names) same;
                digests = narrowed_kept c.args.version c.args.block.names c.args.table r.version r.narrowed;
                cap = c.cap.ensures ∙ ap (λ (b : SuperBlock). cap b.names c.args.version) same;
                few_names = omega (
                  arith,
                  narrowed_few c.args.version c.args.block.names c.args.table r.version r.narrowed
                      c.is_table.ensures r.room,
                  c.cap.ensures,
                );
                divisor = r.divisor ∙ ap (λ (b : SuperBlock). b.k) same;
                valid = subst (λ (b : SuperBlock). IsValid (settled_table g.row.C SIZE_MAX b.k
                    (caps_of c.args.layout.value) (grid_of c.args.layout.value) c.args.table.now)) same
                    r.valid;
                table = subst IsTable c.narrow.ensures.only c.narrow.ensures.table;
                spans = made.none;
                guard_room = made.guard_room ∙ ap (λ (b : SuperBlock). b.names) same;
                base = c.head_len.ensures ∙ ap (λ (b : SuperBlock). head_len b.names) same;
                plain = refl;
                version = r.version;
                buffer = made.buffer;
              }))),
        ),
      ),
    )

pub returns : goal.returns
returns g c =
    let seen : Hands g.row.C → StoreValue = λ h. opened_store g.row.C (used_in h.slots) h.table.now
    (digests_seen h.version h.table.digests) (caps_of h.layout) (grid_of h.layout) in
    c.store_with.ensures ∙ ap seen c.in_ok-hands.ensures
    ∙ ap (λ (e : Extents). opened_store g.row.C c.args.slots e.now
    (digests_seen c.args.version e.digests) (caps_of c.deref.result.now)
    (grid_of c.deref.result.now)) c.narrow.ensures.only
    ∙ ap (λ (l : Layout g.row.C). opened_store g.row.C c.args.slots c.args.table.now
    (digests_seen c.args.version c.args.table.digests) (caps_of l) (grid_of l))
    c.deref.ensures

pub narrow-requires : goal.narrow-requires
narrow-requires g c =
    let r = c.requires in
    record {
      few = omega (
        arith,
        narrowed_few c.args.version c.args.block.names c.args.table r.version r.narrowed
            c.is_table.ensures r.room,
        c.cap.ensures,
      );
      low = omega (arith, r.room, c.cap.ensures, cap-low c.args.block.names c.args.version);
    }
