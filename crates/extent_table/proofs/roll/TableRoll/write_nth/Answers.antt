use Rattle.std.proofs.Common.{◌≡◌, ◌<◌, ◌++◌, Some, length, get_or, sym, take, ap, ◌∙◌, arith, option_map}
use Rattle.std.proofs.lemmas.List.{length-map}
use Rattle.std.specs.FinMap as fin
use Rattle.std.specs.List.{slice_get}
use Rattle.slot_codec.specs.Spelling.{record_bytes}
use Rattle.slot_codec.proofs.CapLaws.{record_len-long, record_len-low}
use Rattle.slot_codec.proofs.PutLemmas.{record_ends, record_more}
use Rattle.extent_table.specs.Extents.{IsTable, record_of, records_of, rolled, with_digest}
use Rattle.extent_table.specs.Parts.{at, digest_in, digests_of, name_of, now_of, spot_at, spot_or_zero}
use Rattle.extent_table.proofs.ExtentLaws.{records_of-few}
use Rattle.extent_table.proofs.FoundLemmas.{Found, found_nth, live_key, map_found, some_key}
use Rattle.extent_table.proofs.RollLaws.{rolled-nth}
use Rattle.extent_table.proofs.SideLemmas.{len_of}
use Rattle.extent_table.proofs.TableLemmas.{nth_entry, table}
use Rattle.extent_table.proofs.roll.TableRoll.write_nth.Goals as goal
use Rattle.extent_table.proofs.roll.TableRoll.write_nth.Goals.{After-self, After-index-key, After-spot_at-spot}

-- the rank is that of a key
within : (c : After-self) → c.args.n < length c.self.inside.order.items
within c =
    let now = c.args.self.now in
    let rank : c.args.n < fin.len now.now = omega (
      arith,
      c.requires.within,
      records_of-few now.now,
      length-map (records_of now.now) (with_digest now.digests),
    ) in
    let inside = rw (← c.self.view_is) at rank in
    rw (len_of c.self.invariant.sound.now (spot_at now_of c.self.inside.entries.slots)) at inside

abbrev found : (c : After-index-key) → c.args.n < length c.self.inside.order.items
    → Found now_of c.self.inside.entries.slots c.self.inside.order.items
    (name_of (at c.self.inside.entries.slots c.index-key.result.now)) c.index-key.result.now
found c low = found_nth now_of c.self.inside.entries.slots low c.index-key.ensures

pub index-key-requires : goal.index-key-requires
index-key-requires c = rw c.self.inside.order.ok.0 (within c)

pub name_at-name-requires : goal.name_at-name-requires
name_at-name-requires c =
    let at = goal.at.name_at-name-requires c in
    live_key c.self.invariant.sound.now (found at.After-index-key (within at.After-self))

pub spot_at-spot-requires : goal.spot_at-spot-requires
spot_at-spot-requires c =
    let at = goal.at.spot_at-spot-requires c in
    some_key c.self.invariant.sound.now (found at.After-index-key (within at.After-self))

pub write_plain-requires : goal.write_plain-requires
write_plain-requires c = omega (arith, c.requires.len, record_len-low c.args.version)

pub write_digest-requires : goal.write_digest-requires
write_digest-requires c =
    omega (
      arith,
      c.requires.len,
      record_len-long c.args.version (sym c.has_digests.ensures ∙ c.if-has_digests.true),
    )

-- the record of the rank, by what was read of its key
shown : (c : After-spot_at-spot) → c.args.n < length c.self.inside.order.items
    → slice_get (rolled c.args.self.now.now c.args.self.now.digests) c.args.n
    ≡ Some (record (record_of (c.name_at-name.result.now, c.spot_at-spot.result)) {
      digest = digest_in c.self.inside.digests.items c.index-key.result.now;
    })
shown c low =
    let slots = c.self.inside.entries.slots in
    let order = c.self.inside.order.items in
    let there = found_nth now_of slots low c.index-key.ensures in
    let named = c.name_at-name.ensures in
    let name : name_of (at slots (get_or order c.args.n 0)) ≡ c.name_at-name.result.now =
    ap (λ k. name_of (at slots k)) there.here ∙ sym named in
    let spot : spot_at now_of slots (get_or order c.args.n 0) ≡ c.spot_at-spot.result =
    ap (spot_at now_of slots) there.here ∙ ap spot_or_zero c.spot_at-spot.ensures in
    let entry : slice_get (fin.entries c.args.self.now.now) c.args.n
    ≡ Some (c.name_at-name.result.now, c.spot_at-spot.result) =
    rw (← c.self.view_is)
    (nth_entry c.self.invariant.sound.now c.args.n low ∙ (λ i. Some (name i, spot i))) in
    let digest : fin.get c.args.self.now.digests c.name_at-name.result.now
    ≡ Some (digest_in c.self.inside.digests.items c.index-key.result.now) =
    rw (← c.self.view_is)
    (ap (fin.get (digests_of c.self.inside.digests.items slots order)) named
    ∙ map_found c.self.invariant.sound.now there (digest_in c.self.inside.digests.items)) in
    let is_table : IsTable c.args.self.now =
    rw (← c.self.view_is) (table c.self.invariant.sound c.self.invariant.room.limit
    c.self.invariant.cap c.self.invariant.digests c.self.invariant.kept_digests) in
    rolled-nth c.args.self.now is_table c.args.n _ _ _ entry digest

pub returns-then-has_digests : goal.returns-then-has_digests
returns-then-has_digests c =
    let path = goal.at.returns-then-has_digests c in
    let digest : c.digest_there.result.now ≡ digest_in c.self.inside.digests.items c.index-key.result.now =
    c.digest_there.ensures.value ∙ ap (λ xs. digest_in xs c.index-key.result.now) c.deref.ensures.value in
    ap (option_map (record_bytes c.args.version))
    (shown path.After-spot_at-spot (within path.After-self))
    ∙ ap Some (sym (record_more c.args.version _ _ _ _
    (sym c.has_digests.ensures ∙ c.if-has_digests.true) c.write_plain.ensures.record
    (c.write_digest.ensures ∙ ap (λ xs. take 80 c.write_plain.new.out ++ xs) digest)))

pub returns-else-has_digests : goal.returns-else-has_digests
returns-else-has_digests c =
    let path = goal.at.returns-else-has_digests c in
    ap (option_map (record_bytes c.args.version))
    (shown path.After-spot_at-spot (within path.After-self))
    ∙ ap Some (sym (record_ends c.args.version _ _ _ (sym c.has_digests.ensures ∙ c.if-has_digests.false)
    (omega arith) c.write_plain.ensures.record))
