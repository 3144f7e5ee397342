use Rattle.std.proofs.Common.{◌≡◌, ℕ, length, refl, sym, ap, ◌∙◌, arith}
use Rattle.extent_table.specs.Extents.{Extents}
use Rattle.extent_table.specs.Parts.{now_of, kept_of, digest_in, digests_of, IsSound}
use Rattle.extent_table.specs.Parts.{at as entry_at}
use Rattle.extent_table.specs.Relaid.{AreRelaid}
use Rattle.extent_table.proofs.DigestLemmas.{list_copied}
use Rattle.extent_table.proofs.RelaidLemmas.{kept_as_now, maps_go, sound_goes, spots_go, volume_goes}
use Rattle.extent_table.proofs.SettleLemmas.{copied_order}
use Rattle.extent_table.proofs.SideLemmas.{some_of_now, some_of_kept}
use Rattle.extent_table.proofs.TableLemmas.{table}
use Rattle.extent_table.proofs.table.Table.lay_out.Goals as goal
use Rattle.extent_table.proofs.table.Table.lay_out.Goals.{After-self, After-unwrap}

-- what stands was kept
kept : (c : After-self) → (k : ℕ)
    → kept_of (entry_at c.self.inside.entries.slots k) ≡ now_of (entry_at c.self.inside.entries.slots k)
kept c = kept_as_now c.self.invariant.sound
    (ap (λ (e : Extents). e.kept) c.self.view_is ∙ c.requires.kept
    ∙ sym (ap (λ (e : Extents). e.now) c.self.view_is))

copied : (c : After-unwrap) → c.extend_from_slice.new.self.items ≡ c.lay_out.new.to.items
copied c = copied_order c.unwrap.ensures c.clear.ensures.items c.deref-5.ensures.value
    c.extend_from_slice.ensures.items

relaid : (c : After-unwrap) → AreRelaid (length c.self.inside.order.items) c.self.inside.entries.slots
    c.lay_out.new.entries.slots c.self.inside.order.items c.lay_out.new.to.items
relaid c = rw c.deref.ensures.value at c.lay_out.ensures.relaid

sound : (c : After-unwrap) → ((k : ℕ) → kept_of (entry_at c.self.inside.entries.slots k)
    ≡ now_of (entry_at c.self.inside.entries.slots k))
    → IsSound c.self.inside.names c.lay_out.new.entries.slots c.lay_out.new.to.items c.lay_out.new.to.items
sound c all =
    let s = c.self.invariant.sound in
    sound_goes (relaid c) s.now s.entries s.now_room all

carried : (c : After-unwrap) → digests_of c.carry_digests.new.carried.items c.lay_out.new.entries.slots
    c.lay_out.new.to.items
    ≡ digests_of c.self.inside.digests.items c.self.inside.entries.slots c.self.inside.order.items
carried c = maps_go (relaid c) (digest_in c.self.inside.digests.items)
    (digest_in c.carry_digests.new.carried.items)
    (λ i lt. (rw (c.deref-2.ensures.value, c.deref-3.ensures.value, c.deref-4.ensures.value)
    at c.carry_digests.ensures.carried) i (omega (arith, lt, (relaid c).long)))

pub lay_out-requires-clause-kept : goal.lay_out-requires-clause-kept
lay_out-requires-clause-kept c = kept (goal.at.lay_out-requires-clause-kept c).After-self

pub place_all-requires-clause-order : goal.place_all-requires-clause-order
place_all-requires-clause-order c =
    let at = goal.at.place_all-requires-clause-order c in
    rw (c.deref-7.ensures.value ∙ copied at.After-unwrap) (sound at.After-unwrap (kept at.After-self)).now

pub place_all-requires-clause-entries : goal.place_all-requires-clause-entries
place_all-requires-clause-entries c =
    let at = goal.at.place_all-requires-clause-entries c in
    (sound at.After-unwrap (kept at.After-self)).entries

pub invariant_of-self : goal.invariant_of-self
invariant_of-self c =
    let at = goal.at.invariant_of-self c in
    let all = kept at.After-self in
    let same = copied at.After-unwrap in
    let r = relaid at.After-unwrap in
    let copy : c.copy_digests.new.to.items ≡ c.carry_digests.new.carried.items =
    c.copy_digests.ensures.items ∙ c.deref-6.ensures.value in
    record {
      cap = c.self.invariant.cap;
      sound = rw same (sound at.After-unwrap all);
      same_order = λ _. same;
      room = record {
        limit = c.self.invariant.room.limit;
        entries = rw c.lay_out.ensures.capacity c.self.invariant.room.entries;
        small = rw c.lay_out.ensures.capacity c.self.invariant.room.small;
        order = omega (
          arith,
          c.clear.ensures.capacity,
          c.extend_from_slice.ensures.capacity,
          c.self.invariant.room.order,
        );
        kept_order = rw c.lay_out.ensures.to_capacity c.self.invariant.room.kept_order;
      };
      digests = rw c.lay_out.ensures.capacity (list_copied c.self.invariant.digests
          (rw c.lay_out.ensures.capacity at c.carry_digests.ensures.list)
          copy c.copy_digests.ensures.capacity);
      kept_digests = c.carry_digests.ensures.list;
      agree = record { same = λ k none. ap (λ xs. digest_in xs k) copy };
      volume = rw same (c.self.invariant.volume
          ∙ sym (volume_goes r now_of now_of c.self.invariant.sound.now (λ k. refl) some_of_now));
      kept_volume = c.self.invariant.volume
          ∙ sym (volume_goes r now_of kept_of c.self.invariant.sound.now all some_of_kept);
      places = c.place_all.ensures.places;
      places_room = rw c.place_all.ensures.capacity c.self.invariant.places_room;
    }

pub returns : goal.returns
returns c =
    let at = goal.at.returns c in
    let all = kept at.After-self in
    let same = copied at.After-unwrap in
    let r = relaid at.After-unwrap in
    let s = c.self.invariant.sound in
    let digests = carried at.After-unwrap in
    let copy : c.copy_digests.new.to.items ≡ c.carry_digests.new.carried.items =
    c.copy_digests.ensures.items ∙ c.deref-6.ensures.value in
    record {
      now = rw (same, ← c.self.view_is) (spots_go r now_of now_of s.now (λ k. refl) some_of_now);
      kept = rw (← c.self.view_is) (spots_go r now_of kept_of s.now all some_of_kept);
      digests = rw (same, copy, ← c.self.view_is) digests;
      kept_digests = rw (← c.self.view_is) digests;
      names = ap (λ (e : Extents). e.names) c.self.view_is;
      cap = ap (λ (e : Extents). e.cap) c.self.view_is;
      table = rw same (table (sound at.After-unwrap all) c.self.invariant.room.limit c.self.invariant.cap
          (list_copied c.self.invariant.digests
          (rw c.lay_out.ensures.capacity at c.carry_digests.ensures.list)
          copy c.copy_digests.ensures.capacity) c.carry_digests.ensures.list);
    }
