use Rattle.std.proofs.Common.{◌≡◌, ◌+◌, ◌<◌, length, None, sym, ap, ◌∙◌, arith}
use Rattle.std.specs.List.{insert}
use Rattle.std.specs.FinMap as fin
use Rattle.extent_table.specs.Parts.{now_of, spot_at, spot_or_zero, spots_of, digest_in, digests_of}
use Rattle.extent_table.proofs.SideLemmas.{rising_names, get_in_gap}
use Rattle.extent_table.proofs.EntryLemmas.{count_entries}
use Rattle.extent_table.proofs.FoundLemmas.{Found, found_key, some_key, size_found, room_left, volume_at_most}
use Rattle.extent_table.proofs.ChangeLemmas.{Replaced, Added, replaced, added}
use Rattle.extent_table.proofs.LoadLemmas.{none_was_kept}
use Rattle.extent_table.proofs.DigestLemmas.{agree_put}
use Rattle.extent_table.proofs.TableLemmas.{table}
use Rattle.extent_table.proofs.load.BulkLoad.set.Goals as goal
use Rattle.extent_table.proofs.load.BulkLoad.set.Goals.{After-put_spot, In-Err, After-insert}

pub search-requires-clause-rising : goal.search-requires-clause-rising
search-requires-clause-rising c = rw c.deref.ensures.value (rising_names c.self.invariant.sound.now)

pub spot_at-before-requires : goal.spot_at-before-requires
spot_at-before-requires c = some_key c.self.invariant.sound.now
    (found_key now_of c.deref.ensures.value c.in-Ok.ensures.within c.in-Ok.ensures.found c.index-key.ensures)

-- a name that is there: where it stands, what it has there, and what the new spot makes of the table
found : (c : After-put_spot) → Found now_of c.self.inside.entries.slots c.self.inside.order.items
    c.args.name.now c.index-key.result.now
found c = found_key now_of c.deref.ensures.value c.in-Ok.ensures.within c.in-Ok.ensures.found
    c.index-key.ensures

before : (c : After-put_spot)
    → (spot_at now_of c.self.inside.entries.slots c.index-key.result.now).size ≡ c.spot_at-before.result.size
before c = ap (λ x. (spot_or_zero x).size) c.spot_at-before.ensures

changed : (c : After-put_spot) → Replaced c.self.inside.names c.self.inside.entries.slots
    c.put_spot.new.entries.slots c.self.inside.order.items c.self.inside.kept_order.items
    c.index-key.result.now c.args.name.now c.args.spot
changed c = replaced c.self.invariant.sound (found c) c.put_spot.ensures.edit c.requires.range

pub overflow_add-self : goal.overflow_add-self
overflow_add-self c =
    let at = (goal.at.overflow_add-self c).After-put_spot in
    let r = changed at in
    omega (
      arith,
      before at,
      volume_at_most r.sound,
      c.self.invariant.room.limit,
      r.volume,
      c.self.invariant.volume,
      c.self.invariant.sound.now_room,
      c.requires.range.1,
      size_found (found at),
    )

pub invariant_of-self : goal.invariant_of-self
invariant_of-self c =
    let at = (goal.at.invariant_of-self c).After-put_spot in
    let r = changed at in
    record {
      sound = r.sound;
      room = rw c.put_spot.ensures.capacity c.self.invariant.room;
      digests = c.put_digest.ensures.list;
      kept_digests = rw c.put_spot.ensures.capacity c.self.invariant.kept_digests;
      agree = agree_put c.self.invariant.agree c.put_spot.ensures.noted c.put_digest.ensures.others;
      volume = omega (arith, before at, r.volume, c.self.invariant.volume, size_found (found at));
      none_kept = c.self.invariant.none_kept;
      places_room = c.self.invariant.places_room;
    }

pub returns-in-Ok : goal.returns-in-Ok
returns-in-Ok c =
    let r = changed (goal.at.returns-in-Ok c).After-put_spot in
    let digests = r.digests (digest_in c.self.inside.digests.items)
    (digest_in c.put_digest.new.digests.items) c.put_digest.ensures.others
    ∙ ap (fin.insert (digests_of c.self.inside.digests.items c.self.inside.entries.slots
    c.self.inside.order.items) c.args.name.now) c.put_digest.ensures.here in
    record {
      only = rw (← c.self.view_is) (λ i. record {
        names = c.self.inside.names;
        cap = c.self.inside.names;
        now = r.now i;
        kept = r.kept i;
        keys = r.same_keys i;
        digests = digests i;
        kept_digests = r.kept_digests (digest_in c.self.inside.kept_digests.items) i;
      });
      live = λ _. rw (← c.self.view_is) r.key_is;
      table = table r.sound c.self.invariant.room.limit (omega arith) c.put_digest.ensures.list
          c.self.invariant.kept_digests;
    }

-- a name that isn't there: so there is room for it, and what it makes of the table
absent : (c : In-Err) → fin.get (spots_of now_of c.self.inside.entries.slots c.self.inside.order.items)
    c.args.name.now ≡ None
absent c = get_in_gap c.self.invariant.sound.now c.args.name.now
    (rw c.deref.ensures.value at c.in-Err.ensures.below)
    (rw c.deref.ensures.value at c.in-Err.ensures.above) (spot_at now_of c.self.inside.entries.slots)

room : (c : In-Err) → length c.self.inside.order.items < c.self.inside.names
room c = room_left c.args.name.now c.self.invariant.sound.now (absent c)
    (rw (← c.self.view_is) at c.requires.room)

joined : (c : After-insert) → length c.self.inside.order.items < c.self.inside.names
    → Added c.self.inside.names c.self.inside.entries.slots c.new_entry-added.new.entries.slots
    c.self.inside.order.items c.self.inside.kept_order.items c.in-Err.place c.new_entry-added.result
    c.args.name.now c.args.spot
joined c has_room = added c.self.invariant.sound c.deref.ensures.value c.in-Err.ensures.gap has_room
    c.new_entry-added.ensures.edit c.requires.range c.new_entry-added.ensures.named
    c.in-Err.ensures.below c.in-Err.ensures.above
    (λ k kept same. absurd (none_was_kept c.self.invariant.sound.kept c.self.invariant.none_kept k kept))

pub new_entry-added-requires-clause-room : goal.new_entry-added-requires-clause-room
new_entry-added-requires-clause-room c =
    omega (
      arith,
      room (goal.at.new_entry-added-requires-clause-room c).In-Err,
      count_entries c.self.invariant.sound,
      ap length c.self.invariant.none_kept,
      c.self.invariant.room.entries,
    )

pub unwrap-requires : goal.unwrap-requires
unwrap-requires c =
    let has_room = room (goal.at.unwrap-requires c).In-Err in
    c.insert.ensures.succeeds
    (omega (arith, has_room, c.self.inside.order.ok.0, c.self.invariant.room.order))

pub overflow_add-self-in-Err : goal.overflow_add-self-in-Err
overflow_add-self-in-Err c =
    omega (
      arith,
      room (goal.at.overflow_add-self-in-Err c).In-Err,
      volume_at_most c.self.invariant.sound,
      c.self.invariant.room.limit,
      c.self.invariant.volume,
      c.requires.range.1,
    )

pub invariant_of-self-in-Err : goal.invariant_of-self-in-Err
invariant_of-self-in-Err c =
    let at = goal.at.invariant_of-self-in-Err c in
    let r = joined at.After-insert (room at.In-Err) in
    let inserted : c.insert.new.self.items
    ≡ insert c.self.inside.order.items c.in-Err.place c.new_entry-added.result =
    rw c.unwrap.ensures at c.insert.ensures.items in
    record {
      sound = rw inserted r.sound;
      room = record {
        limit = c.self.invariant.room.limit;
        entries = rw c.new_entry-added.ensures.capacity c.self.invariant.room.entries;
        small = rw c.new_entry-added.ensures.capacity c.self.invariant.room.small;
        order = omega (arith, c.insert.ensures.capacity, c.self.invariant.room.order);
        kept_order = c.self.invariant.room.kept_order;
      };
      digests = c.put_digest-in-Err.ensures.list;
      kept_digests = rw c.new_entry-added.ensures.capacity c.self.invariant.kept_digests;
      agree = agree_put c.self.invariant.agree c.new_entry-added.ensures.noted
          c.put_digest-in-Err.ensures.others;
      volume = rw inserted (ap (λ n. n + c.args.spot.size) c.self.invariant.volume ∙ sym r.volume);
      none_kept = c.self.invariant.none_kept;
      places_room = c.self.invariant.places_room;
    }

pub returns-in-Err : goal.returns-in-Err
returns-in-Err c =
    let at = goal.at.returns-in-Err c in
    let r = joined at.After-insert (room at.In-Err) in
    let inserted : c.insert.new.self.items
    ≡ insert c.self.inside.order.items c.in-Err.place c.new_entry-added.result =
    rw c.unwrap.ensures at c.insert.ensures.items in
    let digests = r.digests (digest_in c.self.inside.digests.items)
    (digest_in c.put_digest-in-Err.new.digests.items) c.put_digest-in-Err.ensures.others
    ∙ ap (fin.insert (digests_of c.self.inside.digests.items c.self.inside.entries.slots
    c.self.inside.order.items) c.args.name.now) c.put_digest-in-Err.ensures.here in
    record {
      only = rw (inserted, ← c.self.view_is) (λ i. record {
        names = c.self.inside.names;
        cap = c.self.inside.names;
        now = r.now i;
        kept = r.kept i;
        keys = r.keys i;
        digests = digests i;
        kept_digests = r.kept_digests (digest_in c.self.inside.kept_digests.items) i;
      });
      live = λ live. absurd (let there = rw (← c.self.view_is) at live in
          let never = rw (absent at.In-Err) at there in cc);
      table = rw inserted (table r.sound c.self.invariant.room.limit (omega arith)
          c.put_digest-in-Err.ensures.list c.self.invariant.kept_digests);
    }

pub put_digest-requires-clause-entry : goal.put_digest-requires-clause-entry
put_digest-requires-clause-entry c =
    (changed (goal.at.put_digest-requires-clause-entry c).After-put_spot).there

pub put_digest-requires-in-Err-clause-entry : goal.put_digest-requires-in-Err-clause-entry
put_digest-requires-in-Err-clause-entry c =
    let at = goal.at.put_digest-requires-in-Err-clause-entry c in
    (joined at.After-insert (room at.In-Err)).there

pub put_digest-requires-clause-list : goal.put_digest-requires-clause-list
put_digest-requires-clause-list c = rw c.put_spot.ensures.capacity c.self.invariant.digests

pub put_digest-requires-in-Err-clause-list : goal.put_digest-requires-in-Err-clause-list
put_digest-requires-in-Err-clause-list c = rw c.new_entry-added.ensures.capacity c.self.invariant.digests
