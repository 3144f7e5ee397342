use Rattle.std.specs.Prelude.{Option, ◌≤◌, ◌≡◌, ◌++◌, fold, List, ℕ}
use Rattle.std.proofs.lemmas.List.Sums.{fold-append}
use Rattle.segment_layout.specs.Books.{some_size}
use Rattle.store_model.specs.Quiet.{added, sizes_at}
use Rattle.std.proofs.Common.{◌∙◌, ◌⊎◌, ◌<◌, ap, arith, lit<, subst, sym, IsSome, inl, inr}
use Rattle.std.specs.FinMap as fin
use Rattle.size_class.specs.Rows.{cells_of}
use Rattle.segment_layout.specs.Layouts.{grid_of}
use Rattle.slot_codec.specs.Choice.{Digests}
use Rattle.slot_codec.specs.Spelling.{cap}
use Rattle.map_model.specs.Maps.{Map}
use Rattle.extent_table.specs.Extents.{Spots, digests_seen}
use Rattle.placement_model.specs.Held.{FreesSpot}
use Rattle.store_model.specs.Connection.{StoreValue, live_cap}
use Rattle.store_model.specs.Digested.{digests_with}
use Rattle.store_model.specs.Stores.{AreInRange}
use Rattle.store_model.proofs.DigestLaws.{few_put, seen_with, version_with}
use Rattle.store_model.proofs.ChangeLaws.{can_free, place_ends, store_freed, store_put, with_now}
use Rattle.store_model.proofs.EndLaws.{end_low}
use Rattle.store_model.proofs.InsideLaws.{changed_view, changed_whole, opened}
use Rattle.store_core.proofs.LentLaws.{lent, lent_rest}
use Rattle.store_model.proofs.StoreLaws.{small_if_there}
use Rattle.store_core.proofs.store.Store.enter.Goals as goal

pub free_spot-requires : goal.free_spot-requires
free_spot-requires g c x now_is kept_is =
    let rest = lent_rest c.self.inside c.args.self.now c.deref_mut-hands.result.now c.self.view_is
    c.self.invariant c.requires.idle c.deref_mut-hands.ensures.value in
    let inside = lent c.self.inside c.deref_mut-hands.result.now c.self.inside.kept_layout.value in
    let t = c.args.self.now in
    let o = opened inside t rest.view rest.whole c.requires.whole in
    can_free t o.store c.args.name.now inside.hands.guard o.guard_room o.freed x
    (ap (λ (m : Spots). fin.get m c.args.name.now) (sym o.now) ∙ sym c.get-now.ensures ∙ now_is)
    (ap (λ (m : Spots). fin.get m c.args.name.now) (sym o.kept) ∙ sym c.old.ensures ∙ kept_is)

pub add_gone-requires : goal.add_gone-requires
add_gone-requires g c =
    let rest = lent_rest c.self.inside c.args.self.now c.deref_mut-hands.result.now c.self.view_is
    c.self.invariant c.requires.idle c.deref_mut-hands.ensures.value in
    let inside = lent c.self.inside c.deref_mut-hands.result.now c.self.inside.kept_layout.value in
    let t = c.args.self.now in
    let o = opened inside t rest.view rest.whole c.requires.whole in (
      lit< tt,
      (
        rest.whole.classes,
        (
          rest.whole.wide,
          small_if_there t o.store c.args.name.now c.get-now.result
              (c.get-now.ensures ∙ ap (λ (m : Spots). fin.get m c.args.name.now) o.now),
        ),
      ),
    )

pub set-requires : goal.set-requires
set-requires g c =
    let rest = lent_rest c.self.inside c.args.self.now c.deref_mut-hands.result.now c.self.view_is
    c.self.invariant c.requires.idle c.deref_mut-hands.ensures.value in
    let inside = lent c.self.inside c.deref_mut-hands.result.now c.self.inside.kept_layout.value in
    let t = c.args.self.now in
    let name = c.args.name.now in
    let o = opened inside t rest.view rest.whole c.requires.whole in
    let low = place_ends t o.store name c.args.spot.size c.args.spot.place (grid_of c.args.layout)
    c.requires.charged in
    record {
      room = elim c.requires.room as (λ _. IsSome (fin.get inside.hands.table.now name)
          ⊎ (fin.len inside.hands.table.now < inside.hands.table.cap)) [
            | inl there ↦ inl (subst (λ (m : Spots). IsSome (fin.get m name)) (sym o.now) there)
            | inr room ↦ inr (omega (arith, room, o.cap, ap (λ (m : Spots). fin.len m) o.now))
          ];
      range = (omega (arith, low, end_low t o.store), omega (arith, c.requires.small));
    }

pub invariant_of-self : goal.invariant_of-self
invariant_of-self g c =
    let rest = lent_rest c.self.inside c.args.self.now c.deref_mut-hands.result.now c.self.view_is
    c.self.invariant c.requires.idle c.deref_mut-hands.ensures.value in
    let inside = lent c.self.inside c.deref_mut-hands.result.now c.self.inside.kept_layout.value in
    let t = c.args.self.now in
    let name = c.args.name.now in
    let spot = c.args.spot in
    let o = opened inside t rest.view rest.whole c.requires.whole in
    let after = c.set.ensures.now ∙ ap (λ (m : Spots). fin.insert m name spot) o.now in
    let digests = digests_with name c.args.digest t.book.digests in
    let same : digests_seen inside.hands.version c.set.new.self.digests ≡ digests =
    ap (λ (d : Digests). digests_seen inside.hands.version d) c.set.ensures.digests
    ∙ seen_with inside.hands.version inside.hands.table.digests name c.args.digest
    ∙ ap (λ (d : Option Map). digests_with name c.args.digest d) o.digests in
    rw rest.none (changed_whole inside t rest.view rest.whole c.set.new.self c.free_spot.new.guard
    c.add_size.new.ledger c.args.layout (fin.insert t.now name spot) after c.set.ensures.kept
    c.requires.caps (c.add_size.ensures.moved ∙ c.add_gone.ensures.moved) digests same
    c.set.ensures.rest.kept_digests c.set.ensures.table
    c.set.ensures.names c.set.ensures.rest.cap c.free_spot.ensures.room c.requires.divisor
    (store_put t o.store name spot.size spot.place (grid_of c.args.layout) c.requires.charged
    c.requires.named c.requires.small digests (cells_of c.add_size.new.ledger.asked)
    (subst (λ v. fin.len (fin.insert t.now name spot) ≤ cap t.in_use.block.names v)
    (sym (version_with name c.args.digest t.book.digests t.book t.book))
    (few_put t.now name spot (live_cap t) o.store.now_few c.requires.room))
    (subst AreInRange after c.set.ensures.table.now_in_range))
    (store_freed t o.store name spot.size spot.place (grid_of c.args.layout) c.requires.charged
    inside.hands.guard.spans c.free_spot.new.guard.spans o.freed
    (subst (λ x. FreesSpot x (fin.get t.kept name) inside.hands.guard.spans
    c.free_spot.new.guard.spans) (c.get-now.ensures ∙ ap (λ (m : Spots). fin.get m name) o.now)
    (subst (λ x. FreesSpot c.get-now.result x inside.hands.guard.spans c.free_spot.new.guard.spans)
    (c.old.ensures ∙ ap (λ (m : Spots). fin.get m name) o.kept) c.free_spot.ensures.freed))))

pub returns : goal.returns
returns g c =
    let rest = lent_rest c.self.inside c.args.self.now c.deref_mut-hands.result.now c.self.view_is
    c.self.invariant c.requires.idle c.deref_mut-hands.ensures.value in
    let inside = lent c.self.inside c.deref_mut-hands.result.now c.self.inside.kept_layout.value in
    let t = c.args.self.now in
    let name = c.args.name.now in
    let o = opened inside t rest.view rest.whole c.requires.whole in
    let after = c.set.ensures.now ∙ ap (λ (m : Spots). fin.insert m name c.args.spot) o.now in
    let digests = digests_with name c.args.digest t.book.digests in
    let same : digests_seen inside.hands.version c.set.new.self.digests ≡ digests =
    ap (λ (d : Digests). digests_seen inside.hands.version d) c.set.ensures.digests
    ∙ seen_with inside.hands.version inside.hands.table.digests name c.args.digest
    ∙ ap (λ (d : Option Map). digests_with name c.args.digest d) o.digests in
    let view = changed_view inside t rest.view rest.whole c.set.new.self
    c.free_spot.new.guard c.add_size.new.ledger c.args.layout (fin.insert t.now name c.args.spot) after
    c.set.ensures.kept
    c.requires.caps (c.add_size.ensures.moved ∙ c.add_gone.ensures.moved) digests same
    c.set.ensures.rest.kept_digests in
    let gone = sizes_at (fin.get t.now name) in
    let asked : cells_of c.add_size.new.ledger.asked
    ≡ fold added t.asked (gone ++ some_size c.args.spot.size) =
    c.add_size.ensures.asked
    ∙ ap (λ (a : List ℕ). fold added a (some_size c.args.spot.size)) (c.add_gone.ensures.asked
    ∙ (λ i. fold added (ap (λ (x : StoreValue). x.asked) rest.view i)
    (sizes_at ((c.get-now.ensures ∙ ap (λ (m : Spots). fin.get m name) o.now) i))))
    ∙ sym (fold-append added t.asked gone (some_size c.args.spot.size)) in
    rw rest.none (view ∙ ap (λ (a : List ℕ). with_now g.row.C t (fin.insert t.now name c.args.spot) digests
    (grid_of c.args.layout) a) asked)
