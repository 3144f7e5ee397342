use Rattle.std.specs.Prelude.{Option, ◌≤◌, ◌≡◌}
use Rattle.std.proofs.Common.{◌∙◌, ap, lit<, rules, subst, sym}
use Rattle.std.specs.FinMap as fin
use Rattle.size_class.specs.Rows.{cells_of}
use Rattle.segment_layout.specs.Layouts.{grid_of}
use Rattle.slot_codec.specs.Choice.{Digests}
use Rattle.slot_codec.specs.Spelling.{cap}
use Rattle.map_model.specs.Maps.{Map}
use Rattle.segment_layout.specs.Books.{digests_after}
use Rattle.extent_table.specs.Extents.{Spots, digests_seen}
use Rattle.placement_model.specs.Held.{FreesSpot}
use Rattle.placement_model.proofs.FreedLaws.{freed_gone}
use Rattle.store_model.specs.Connection.{live_cap}
use Rattle.store_model.specs.Quiet.{del_of}
use Rattle.store_model.specs.Stores.{AreInRange}
use Rattle.store_model.proofs.DigestLaws.{few_gone, seen_gone, version_after}
use Rattle.store_model.proofs.ChangeLaws.{can_free, store_gone}
use Rattle.store_model.proofs.InsideLaws.{changed_view, changed_whole, opened}
use Rattle.store_core.proofs.LentLaws.{lent, lent_rest}
use Rattle.store_model.proofs.StoreLaws.{small_if_there}
use Rattle.store_core.proofs.store.Store.leave.Goals as goal

pub free_spot-requires : goal.free_spot-requires
free_spot-requires g c x now_is kept_is =
    let rest = lent_rest c.self.inside c.args.self.now c.deref_mut-hands.result.now c.self.view_is
    c.self.invariant c.requires.idle c.deref_mut-hands.ensures.value in
    let inside = lent c.self.inside c.deref_mut-hands.result.now c.self.inside.kept_layout.value in
    let t = c.args.self.now in
    let o = opened inside t rest.view rest.whole c.requires.whole in
    can_free t o.store c.args.name.now inside.hands.guard o.guard_room o.freed x
    (ap (λ (m : Spots). fin.get m c.args.name.now) (sym o.now) ∙ sym c.get-now.ensures ∙ now_is)
    (ap (λ (m : Spots). fin.get m c.args.name.now) (sym o.kept) ∙ sym c.old.ensures ∙ kept_is)

pub add_gone-requires : goal.add_gone-requires
add_gone-requires g c =
    let rest = lent_rest c.self.inside c.args.self.now c.deref_mut-hands.result.now c.self.view_is
    c.self.invariant c.requires.idle c.deref_mut-hands.ensures.value in
    let inside = lent c.self.inside c.deref_mut-hands.result.now c.self.inside.kept_layout.value in
    let t = c.args.self.now in
    let o = opened inside t rest.view rest.whole c.requires.whole in (
      lit< tt,
      (
        rest.whole.classes,
        (
          rest.whole.wide,
          small_if_there t o.store c.args.name.now c.get-now.result
              (c.get-now.ensures ∙ ap (λ (m : Spots). fin.get m c.args.name.now) o.now),
        ),
      ),
    )

pub invariant_of-self : goal.invariant_of-self
invariant_of-self g c =
    let rest = lent_rest c.self.inside c.args.self.now c.deref_mut-hands.result.now c.self.view_is
    c.self.invariant c.requires.idle c.deref_mut-hands.ensures.value in
    let inside = lent c.self.inside c.deref_mut-hands.result.now c.self.inside.kept_layout.value in
    let t = c.args.self.now in
    let name = c.args.name.now in
    let o = opened inside t rest.view rest.whole c.requires.whole in
    let after = c.remove.ensures.now ∙ ap (λ (m : Spots). fin.remove m name) o.now in
    let digests = digests_after (del_of name) t.book.digests in
    let same : digests_seen inside.hands.version c.remove.new.self.digests ≡ digests =
    ap (λ (d : Digests). digests_seen inside.hands.version d) c.remove.ensures.digests
    ∙ seen_gone inside.hands.version inside.hands.table.digests name
    ∙ ap (λ (d : Option Map). digests_after (del_of name) d) o.digests in
    rw rest.none (changed_whole inside t rest.view rest.whole c.remove.new.self c.free_spot.new.guard
    c.add_gone.new.ledger c.args.layout (fin.remove t.now name) after c.remove.ensures.kept c.requires.caps
    c.add_gone.ensures.moved digests same c.remove.ensures.rest.kept_digests
    c.remove.ensures.table c.remove.ensures.names c.remove.ensures.rest.cap
    c.free_spot.ensures.room
    c.requires.divisor
    (store_gone t o.store name (grid_of c.args.layout) c.requires.charged digests
    (cells_of c.add_gone.new.ledger.asked)
    (subst (λ v. fin.len (fin.remove t.now name) ≤ cap t.in_use.block.names v)
    (sym (version_after (del_of name) t.book.digests t.book t.book))
    (few_gone t.now name (live_cap t) o.store.now_few))
    (subst AreInRange after c.remove.ensures.table.now_in_range))
    (freed_gone inside.hands.guard.spans t.now t.kept o.freed name c.free_spot.new.guard.spans
    (subst (λ x. FreesSpot x (fin.get t.kept name) inside.hands.guard.spans
    c.free_spot.new.guard.spans) (c.get-now.ensures ∙ ap (λ (m : Spots). fin.get m name) o.now)
    (subst (λ x. FreesSpot c.get-now.result x inside.hands.guard.spans c.free_spot.new.guard.spans)
    (c.old.ensures ∙ ap (λ (m : Spots). fin.get m name) o.kept) c.free_spot.ensures.freed))))

pub returns : goal.returns
returns g c =
    let rest = lent_rest c.self.inside c.args.self.now c.deref_mut-hands.result.now c.self.view_is
    c.self.invariant c.requires.idle c.deref_mut-hands.ensures.value in
    let inside = lent c.self.inside c.deref_mut-hands.result.now c.self.inside.kept_layout.value in
    let t = c.args.self.now in
    let name = c.args.name.now in
    let o = opened inside t rest.view rest.whole c.requires.whole in
    let after = c.remove.ensures.now ∙ ap (λ (m : Spots). fin.remove m name) o.now in
    let digests = digests_after (del_of name) t.book.digests in
    let same : digests_seen inside.hands.version c.remove.new.self.digests ≡ digests =
    ap (λ (d : Digests). digests_seen inside.hands.version d) c.remove.ensures.digests
    ∙ seen_gone inside.hands.version inside.hands.table.digests name
    ∙ ap (λ (d : Option Map). digests_after (del_of name) d) o.digests in
    let view = changed_view inside t rest.view rest.whole c.remove.new.self c.free_spot.new.guard
    c.add_gone.new.ledger c.args.layout (fin.remove t.now name) after c.remove.ensures.kept c.requires.caps
    c.add_gone.ensures.moved digests same c.remove.ensures.rest.kept_digests in
    search rules
