use Rattle.std.proofs.Common.{◌≡◌, refl, ap, ◌∙◌, arith}
use Rattle.std.proofs.lemmas.Cmp.{nat_list_cmp_total}
use Rattle.std.specs.FinMap.{nat_cmp-IsAntisymmetric, slice_cmp-IsAntisymmetric}
use Rattle.slot_codec.specs.Names.{name_cmp}
use Rattle.extent_table.specs.Parts.{now_of, spot_at, spot_or_zero, spots_of, keys_of, digest_in, digests_of}
use Rattle.extent_table.proofs.MapLemmas.{remove_none}
use Rattle.extent_table.proofs.SideLemmas.{rising_names, get_in_gap}
use Rattle.extent_table.proofs.FoundLemmas.{Found, found_key, some_key, get_found}
use Rattle.extent_table.proofs.ChangeLemmas.{Removed, removed}
use Rattle.extent_table.proofs.DigestLemmas.{agree_more}
use Rattle.extent_table.proofs.TableLemmas.{table}
use Rattle.extent_table.proofs.load.BulkLoad.remove.Goals as goal
use Rattle.extent_table.proofs.load.BulkLoad.remove.Goals.{After-clear_spot}

pub search-requires-clause-rising : goal.search-requires-clause-rising
search-requires-clause-rising c = rw c.deref.ensures.value (rising_names c.self.invariant.sound.now)

-- where the name stands, and what is left without it
abbrev found : (c : After-clear_spot) → Found now_of c.self.inside.entries.slots c.self.inside.order.items
    c.args.name.now c.index-key.result.now
found c = found_key now_of c.deref.ensures.value c.in-Ok.ensures.within c.in-Ok.ensures.found
    c.index-key.ensures

changed : (c : After-clear_spot) → Removed c.self.inside.names c.self.inside.entries.slots
    c.clear_spot.new.entries.slots c.self.inside.order.items c.self.inside.kept_order.items c.in-Ok.place
    c.index-key.result.now c.args.name.now
changed c = removed c.self.invariant.sound (found c) c.clear_spot.ensures.edit

pub spot_at-before-requires : goal.spot_at-before-requires
spot_at-before-requires c = some_key c.self.invariant.sound.now
    (found_key now_of c.deref.ensures.value c.in-Ok.ensures.within c.in-Ok.ensures.found c.index-key.ensures)

pub invariant_of-self : goal.invariant_of-self
invariant_of-self c =
    let r = changed (goal.at.invariant_of-self c).After-clear_spot in
    let before : (spot_at now_of c.self.inside.entries.slots c.index-key.result.now).size
    ≡ c.spot_at-before.result.size = ap (λ x. (spot_or_zero x).size) c.spot_at-before.ensures in
    record {
      sound = rw c.remove.ensures.items r.sound;
      room = rw (c.clear_spot.ensures.capacity, c.remove.ensures.capacity) c.self.invariant.room;
      digests = rw c.clear_spot.ensures.capacity c.self.invariant.digests;
      kept_digests = rw c.clear_spot.ensures.capacity c.self.invariant.kept_digests;
      agree = agree_more c.self.invariant.agree c.clear_spot.ensures.noted;
      volume = rw c.remove.ensures.items (omega (arith, before, r.volume, c.self.invariant.volume));
      none_kept = c.self.invariant.none_kept;
      places_room = c.self.invariant.places_room;
    }

pub returns-in-Ok : goal.returns-in-Ok
returns-in-Ok c =
    let at = (goal.at.returns-in-Ok c).After-clear_spot in
    let r = changed at in
    let there = get_found c.self.invariant.sound.now (found at) ∙ c.spot_at-before.ensures in
    record {
      there = rw (← c.self.view_is, there) (λ _. refl, λ _. refl);
      only = rw (c.remove.ensures.items, ← c.self.view_is) (λ i. record {
        names = c.self.inside.names;
        cap = c.self.inside.names;
        now = r.now i;
        kept = r.kept i;
        keys = r.keys i;
        digests = r.digests (digest_in c.self.inside.digests.items) i;
        kept_digests = r.kept_digests (digest_in c.self.inside.kept_digests.items) i;
      });
      table = rw c.remove.ensures.items (table r.sound c.self.invariant.room.limit (omega arith)
          c.self.invariant.digests c.self.invariant.kept_digests);
    }

-- where the name isn't there, nothing changes
pub returns-in-Err : goal.returns-in-Err
returns-in-Err c =
    let slots = c.self.inside.entries.slots in
    let order = c.self.inside.order.items in
    let below = rw c.deref.ensures.value at c.in-Err.ensures.below in
    let above = rw c.deref.ensures.value at c.in-Err.ensures.above in
    let apart = slice_cmp-IsAntisymmetric nat_cmp-IsAntisymmetric in
    let absent = get_in_gap c.self.invariant.sound.now c.args.name.now below above (spot_at now_of slots) in
    let keyless = get_in_gap c.self.invariant.sound.now c.args.name.now below above (λ k. k) in
    let digestless = get_in_gap c.self.invariant.sound.now c.args.name.now below above
    (digest_in c.self.inside.digests.items) in
    let now = remove_none name_cmp nat_list_cmp_total apart (spots_of now_of slots order) c.args.name.now
    absent in
    let keys = remove_none name_cmp nat_list_cmp_total apart (keys_of slots order) c.args.name.now keyless in
    let digests = remove_none name_cmp nat_list_cmp_total apart
    (digests_of c.self.inside.digests.items slots order) c.args.name.now digestless in
    record {
      there = rw (← c.self.view_is, absent) (λ t. absurd (cc), λ some. absurd (cc));
      only = rw (← c.self.view_is, now, keys, digests) refl;
      table = rw (← c.self.view_is) (table c.self.invariant.sound c.self.invariant.room.limit (omega arith)
          c.self.invariant.digests c.self.invariant.kept_digests);
    }
