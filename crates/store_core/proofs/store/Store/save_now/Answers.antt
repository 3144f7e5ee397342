use Rattle.std.specs.Prelude.{IsTrue, Ok}
use Rattle.std.proofs.Common.{◌∙◌, ap, arith, refl, rules, subst, sym, true}
use Rattle.store_model.specs.Connection.{StoreValue}
use Rattle.std.specs.Vec.{with_items}
use Rattle.slot_codec.specs.Spelling.{cap}
use Rattle.slot_codec.specs.declared.codec.Header.{Header}
use Rattle.slot_codec.specs.Reading.{is_version}
use Rattle.logged_pair.specs.Slots.{used_in}
use Rattle.logged_pair.proofs.PlainSlots.{plain_calls, plain_can, plain_done, plain_leaves, plain_next, plain_slots_in}
use Rattle.segment_layout.specs.Layouts.{caps_of, grid_of}
use Rattle.extent_table.specs.Extents.{digests_seen}
use Rattle.extent_table.proofs.SaveLaws.{rolled_in_range}
use Rattle.flush_run.proofs.RolledLaws.{rolled_count}
use Rattle.store_model.specs.Digested.{digested_book}
use Rattle.store_model.specs.Inside.{kept_of}
use Rattle.store_model.proofs.EffectLaws.{calls_err, calls_ok}
use Rattle.store_model.proofs.KeepEffectLaws.{header_is, keep_done, keep_failed, keep_over, keep_step, kept_view, kept_whole}
use Rattle.store_model.proofs.KeepLaws.{length-records_of}
use Rattle.store_model.proofs.InsideLaws.{few_live}
use Rattle.store_core.proofs.LentLaws.{lent, lent_rest, rest_of}
use Rattle.store_core.proofs.store.Store.save_now.Goals as goal

pub save-requires-clause-save : goal.save-requires-clause-save
save-requires-clause-save g c =
    let rest = lent_rest c.self.inside c.args.self.now c.deref_mut-hands.result.now c.self.view_is
    c.self.invariant c.requires.over.idle c.deref_mut-hands.ensures.value in
    let inside = lent c.self.inside c.deref_mut-hands.result.now c.self.inside.kept_layout.value in
    let names = (used_in inside.hands.slots).block.names in
    let unbroken = ap (λ (x : StoreValue). x.is_broken) rest.view ∙ c.requires.whole in
    let table = rest.whole.table unbroken in
    plain_can inside.hands.slots _ _ _ _ rest.whole.plain
    (record {
      fresh = omega (arith, c.requires.fresh, ap (λ (x : StoreValue). x.in_use.sequence) rest.view);
      version = subst (λ v. IsTrue (is_version v))
          (sym (ap (λ (h : Header). h.version) c.settled_header-next.ensures.header)) rest.whole.version;
      ranges = c.settled_header-next.ensures.ranges;
      records = rolled_in_range inside.hands.table table;
      count = omega (
        arith,
        rolled_count inside.hands.table.now inside.hands.table.digests,
        length-records_of inside.hands.table.now table.now_named,
        few_live inside rest.whole unbroken,
        rest.whole.cap,
        ap (λ (h : Header). cap names h.version) c.settled_header-next.ensures.header,
      );
    })

pub save-requires-clause-slots : goal.save-requires-clause-slots
save-requires-clause-slots g c told =
    let rest = lent_rest c.self.inside c.args.self.now c.deref_mut-hands.result.now c.self.view_is
    c.self.invariant c.requires.over.idle c.deref_mut-hands.ensures.value in
    let inside = lent c.self.inside c.deref_mut-hands.result.now c.self.inside.kept_layout.value in
    plain_slots_in inside.hands.slots _ rest.whole.plain
    ((c.requires.over.over c.requires.whole told).checkpoint.slot
    ∙ ap (λ (x : StoreValue). Ok x.in_use) (sym rest.view))

pub returns-in-Err-clause-kept : goal.returns-in-Err-clause-kept
returns-in-Err-clause-kept g c =
    let rest = lent_rest c.self.inside c.args.self.now c.deref_mut-hands.result.now c.self.view_is
    c.self.invariant c.requires.over.idle c.deref_mut-hands.ensures.value in
    let inside = lent c.self.inside c.deref_mut-hands.result.now c.self.inside.kept_layout.value in
    let same = c.in-Err.ensures.same_slots in
    rw rest.none (keep_failed inside c.args.self.now rest.view rest.whole c.requires.whole
    c.requires.fresh
    c.settled_header-next.result
    (header_is inside rest.whole c.settled_header-next.result c.settled_header-next.ensures.header)
    c.requires.over
    (λ told. plain_leaves inside.hands.slots _ _ _ _ _ _ _ rest.whole.plain (c.save.ensures.left told))
    c.save.ensures.frame _ _
    (λ i. record (kept_of inside) {
      in_use = used_in (same i);
      book = digested_book g.row.C (used_in (same i)).block.k (caps_of inside.hands.layout)
          (grid_of inside.hands.layout) inside.hands.table.now
          (digests_seen inside.hands.version inside.hands.table.digests);
      kept_book = digested_book g.row.C (used_in (same i)).block.k (caps_of inside.hands.layout)
          (grid_of inside.kept_layout) inside.hands.table.kept
          (digests_seen inside.hands.version inside.hands.table.kept_digests);
      is_broken = true;
    }) (calls_err _ _ (plain_calls inside.hands.slots _ _ rest.whole.plain c.in-Err.ensures.calls)))

pub invariant_of-self : goal.invariant_of-self
invariant_of-self g c =
    let rest = lent_rest c.self.inside c.args.self.now c.deref_mut-hands.result.now c.self.view_is
    c.self.invariant c.requires.over.idle c.deref_mut-hands.ensures.value in
    let inside = lent c.self.inside c.deref_mut-hands.result.now c.self.inside.kept_layout.value in
    rw rest.none (kept_whole inside rest.whole c.keep_spots.new.table
    c.keep_spots.new.guard c.save.new.self _ (plain_next inside.hands.slots _ _ _ _ rest.whole.plain
    c.in-Ok.ensures.slots).0 c.keep_spots.ensures.now
    c.keep_spots.ensures.kept c.keep_spots.ensures.digests c.keep_spots.ensures.kept_digests
    c.keep_spots.ensures.table (plain_next inside.hands.slots _ _ _ _ rest.whole.plain
    c.in-Ok.ensures.slots).1
    c.keep_spots.ensures.names c.keep_spots.ensures.cap c.keep_spots.ensures.empty
    c.keep_spots.ensures.room
    (search rules))

pub returns-in-Ok-clause-kept : goal.returns-in-Ok-clause-kept
returns-in-Ok-clause-kept g c =
    let rest = lent_rest c.self.inside c.args.self.now c.deref_mut-hands.result.now c.self.view_is
    c.self.invariant c.requires.over.idle c.deref_mut-hands.ensures.value in
    let inside = lent c.self.inside c.deref_mut-hands.result.now c.self.inside.kept_layout.value in
    rw rest.none (keep_done inside c.args.self.now rest.view rest.whole c.requires.whole c.requires.fresh
    c.settled_header-next.result
    (header_is inside rest.whole c.settled_header-next.result c.settled_header-next.ensures.header)
    c.requires.over
    (λ told. plain_leaves inside.hands.slots _ _ _ _ _ _ _ rest.whole.plain (c.save.ensures.left told))
    c.save.ensures.frame (λ told. (plain_done inside.hands.slots _ _ _ _ _ _ _ _ rest.whole.plain
    c.in-Ok.ensures.slots.slots (c.in-Ok.ensures.done told)).saved)
    (λ told. (plain_done inside.hands.slots _ _ _ _ _ _ _ _ rest.whole.plain
    c.in-Ok.ensures.slots.slots (c.in-Ok.ensures.done told)).in_use) _
    (kept_view inside rest.whole c.keep_spots.new.table c.keep_spots.new.guard c.save.new.self
    (with_items inside.hands.buf c.save.new.buf) (plain_next inside.hands.slots _ _ _ _ rest.whole.plain
    c.in-Ok.ensures.slots).0 c.keep_spots.ensures.now
    c.keep_spots.ensures.kept c.keep_spots.ensures.digests c.keep_spots.ensures.kept_digests) _
    (λ told. (plain_done inside.hands.slots _ _ _ _ _ _ _ _ rest.whole.plain
    c.in-Ok.ensures.slots.slots (c.in-Ok.ensures.done told)).rests)
    (calls_ok _ _ (plain_calls inside.hands.slots _ _ rest.whole.plain c.in-Ok.ensures.calls)))

pub returns-in-Ok-clause-step : goal.returns-in-Ok-clause-step
returns-in-Ok-clause-step g c =
    let rest = lent_rest c.self.inside c.args.self.now c.deref_mut-hands.result.now c.self.view_is
    c.self.invariant c.requires.over.idle c.deref_mut-hands.ensures.value in
    let inside = lent c.self.inside c.deref_mut-hands.result.now c.self.inside.kept_layout.value in
    keep_step inside c.args.self.now rest.view rest.whole c.requires.whole c.requires.fresh
    c.settled_header-next.result
    (header_is inside rest.whole c.settled_header-next.result c.settled_header-next.ensures.header)
    c.requires.over
    (λ told. plain_leaves inside.hands.slots _ _ _ _ _ _ _ rest.whole.plain (c.save.ensures.left told))
    c.save.ensures.frame (λ told. (plain_done inside.hands.slots _ _ _ _ _ _ _ _ rest.whole.plain
    c.in-Ok.ensures.slots.slots (c.in-Ok.ensures.done told)).saved)
    (λ told. (plain_done inside.hands.slots _ _ _ _ _ _ _ _ rest.whole.plain
    c.in-Ok.ensures.slots.slots (c.in-Ok.ensures.done told)).in_use) _
    (kept_view inside rest.whole c.keep_spots.new.table c.keep_spots.new.guard c.save.new.self
    (with_items inside.hands.buf c.save.new.buf) (plain_next inside.hands.slots _ _ _ _ rest.whole.plain
    c.in-Ok.ensures.slots).0 c.keep_spots.ensures.now
    c.keep_spots.ensures.kept c.keep_spots.ensures.digests c.keep_spots.ensures.kept_digests)

pub returns-in-Ok-clause-over : goal.returns-in-Ok-clause-over
returns-in-Ok-clause-over g c =
    let rest = lent_rest c.self.inside c.args.self.now c.deref_mut-hands.result.now c.self.view_is
    c.self.invariant c.requires.over.idle c.deref_mut-hands.ensures.value in
    let inside = lent c.self.inside c.deref_mut-hands.result.now c.self.inside.kept_layout.value in
    rw rest.none (record {
      idle = refl;
      over = λ unbroken.
          keep_over inside c.args.self.now rest.view rest.whole c.requires.whole c.requires.fresh
          c.settled_header-next.result
          (header_is inside rest.whole c.settled_header-next.result c.settled_header-next.ensures.header)
          c.requires.over
          (λ told. plain_leaves inside.hands.slots _ _ _ _ _ _ _ rest.whole.plain (c.save.ensures.left told))
          c.save.ensures.frame (λ told. (plain_done inside.hands.slots _ _ _ _ _ _ _ _ rest.whole.plain
          c.in-Ok.ensures.slots.slots (c.in-Ok.ensures.done told)).saved)
          (λ told. (plain_done inside.hands.slots _ _ _ _ _ _ _ _ rest.whole.plain
          c.in-Ok.ensures.slots.slots (c.in-Ok.ensures.done told)).in_use) _
          (kept_view inside rest.whole c.keep_spots.new.table c.keep_spots.new.guard c.save.new.self
          (with_items inside.hands.buf c.save.new.buf) (plain_next inside.hands.slots _ _ _ _
          rest.whole.plain c.in-Ok.ensures.slots).0 c.keep_spots.ensures.now
          c.keep_spots.ensures.kept c.keep_spots.ensures.digests c.keep_spots.ensures.kept_digests);
    })

pub returns-in-Err-clause-over : goal.returns-in-Err-clause-over
returns-in-Err-clause-over g c =
    let rest = rest_of c.self.inside c.args.self.now c.self.view_is c.self.invariant c.requires.over.idle in
    rw rest.none (record { idle = refl; over = λ sound. absurd (cc) })
