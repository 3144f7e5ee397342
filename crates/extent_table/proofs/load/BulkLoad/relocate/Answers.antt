use Rattle.std.proofs.Common.{◌≡◌, ◌<◌, get_or, length, sym, ap, ◌∙◌, arith}
use Rattle.std.specs.FinMap as fin
use Rattle.extent_table.specs.declared.spot.Spot.{Spot}
use Rattle.extent_table.specs.Parts.{at, name_of, now_of, spot_at, spot_or_zero, spots_of, digest_in}
use Rattle.extent_table.proofs.SideLemmas.{len_of}
use Rattle.extent_table.proofs.FoundLemmas.{Found, found_nth, some_key}
use Rattle.extent_table.proofs.ChangeLemmas.{Replaced, replaced}
use Rattle.extent_table.proofs.DigestLemmas.{agree_more}
use Rattle.extent_table.proofs.TableLemmas.{nth_entry, table}
use Rattle.extent_table.proofs.load.BulkLoad.relocate.Goals as goal
use Rattle.extent_table.proofs.load.BulkLoad.relocate.Goals.{After-self, After-index-key, After-put_spot}

-- the rank is that of a key
within : (c : After-self) → c.args.rank < length c.self.inside.order.items
within c =
    let rank = rw (← c.self.view_is) at c.requires.live in
    rw (len_of c.self.invariant.sound.now (spot_at now_of c.self.inside.entries.slots)) at rank

abbrev found : (c : After-index-key) → c.args.rank < length c.self.inside.order.items
    → Found now_of c.self.inside.entries.slots c.self.inside.order.items
    (name_of (at c.self.inside.entries.slots c.index-key.result.now)) c.index-key.result.now
found c low = found_nth now_of c.self.inside.entries.slots low c.index-key.ensures

-- its spot before
before : (c : After-put_spot)
    → spot_at now_of c.self.inside.entries.slots c.index-key.result.now ≡ c.spot_at-before.result
before c = ap spot_or_zero c.spot_at-before.ensures

-- what its new place makes of the table
changed : (c : After-put_spot) → c.args.rank < length c.self.inside.order.items
    → Replaced c.self.inside.names c.self.inside.entries.slots c.put_spot.new.entries.slots
    c.self.inside.order.items c.self.inside.kept_order.items c.index-key.result.now
    (name_of (at c.self.inside.entries.slots c.index-key.result.now))
    (record { place = c.args.place; size = c.spot_at-before.result.size })
changed c low =
    let size = ap (λ (s : Spot). s.size) (before c) in
    replaced c.self.invariant.sound (found_nth now_of c.self.inside.entries.slots low c.index-key.ensures)
    c.put_spot.ensures.edit (
      c.requires.place,
      omega (arith, size, (c.self.invariant.sound.entries.now_in_range c.index-key.result.now).1),
    )

pub index-key-requires : goal.index-key-requires
index-key-requires c = rw c.self.inside.order.ok.0 (within (goal.at.index-key-requires c).After-self)

pub spot_at-before-requires : goal.spot_at-before-requires
spot_at-before-requires c =
    let at = goal.at.spot_at-before-requires c in
    some_key c.self.invariant.sound.now (found at.After-index-key (within at.After-self))

pub invariant_of-self : goal.invariant_of-self
invariant_of-self c =
    let at = goal.at.invariant_of-self c in
    let r = changed at.After-put_spot (within at.After-self) in
    let size = ap (λ (s : Spot). s.size) (before at.After-put_spot) in
    record {
      sound = r.sound;
      room = rw c.put_spot.ensures.capacity c.self.invariant.room;
      digests = rw c.put_spot.ensures.capacity c.self.invariant.digests;
      kept_digests = rw c.put_spot.ensures.capacity c.self.invariant.kept_digests;
      agree = agree_more c.self.invariant.agree c.put_spot.ensures.noted;
      volume = omega (arith, size, r.volume, c.self.invariant.volume);
      none_kept = c.self.invariant.none_kept;
      places_room = c.self.invariant.places_room;
    }

pub returns : goal.returns
returns c =
    let path = goal.at.returns c in
    let low = within path.After-self in
    let r = changed path.After-put_spot low in
    let slots = c.self.inside.entries.slots in
    let order = c.self.inside.order.items in
    let here = (found path.After-index-key low).here in
    let name : name_of (at slots (get_or order c.args.rank 0))
    ≡ name_of (at slots c.index-key.result.now) = ap (λ k. name_of (at slots k)) here in
    let spot : spot_at now_of slots (get_or order c.args.rank 0)
    ≡ c.spot_at-before.result = ap (spot_at now_of slots) here ∙ before path.After-put_spot in
    let now = r.now ∙ sym (λ i. fin.insert (spots_of now_of slots order) (name i)
    (record (spot i) { place = c.args.place })) in
    record {
      only = rw (← c.self.view_is, nth_entry c.self.invariant.sound.now c.args.rank low) (λ i. record {
        names = c.self.inside.names;
        cap = c.self.inside.names;
        now = now i;
        kept = r.kept i;
        keys = r.keys i;
        digests = r.same_digests (digest_in c.self.inside.digests.items) i;
        kept_digests = r.kept_digests (digest_in c.self.inside.kept_digests.items) i;
      });
      table = table r.sound c.self.invariant.room.limit (omega arith) c.self.invariant.digests
          c.self.invariant.kept_digests;
    }
