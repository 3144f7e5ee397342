use Rattle.std.proofs.Common.{◌≡◌, ◌<◌, ℕ, length, get_or, Err, Ok, Result, refl, subst, ap, ◌∙◌}
use Rattle.std.specs.Prelude.{IfErr, IfOk}
use Rattle.std.specs.Result.{IsOk}
use Rattle.std.specs.FinMap as fin
use Rattle.extent_table.specs.Inside.{extents_of}
use Rattle.extent_table.specs.Parts.{at, name_of, now_of, spot_at, digest_in, digests_of}
use Rattle.extent_table.proofs.ChangeLemmas.{renewed}
use Rattle.extent_table.proofs.FoundLemmas.{Found, found_key, live_key}
use Rattle.extent_table.proofs.SideLemmas.{get_in_gap, rising_names}
use Rattle.extent_table.proofs.DigestLemmas.{agree_put}
use Rattle.extent_table.proofs.TableLemmas.{table}
use Rattle.extent_table.proofs.table.Table.renew.Goals as goal
use Rattle.extent_table.proofs.table.Table.renew.Goals.{After-index-key}

pub search-requires-clause-rising : goal.search-requires-clause-rising
search-requires-clause-rising c = rw c.deref.ensures.value (rising_names c.self.invariant.sound.now)

-- a search that can't fail
succeeds : (r : Result ℕ ℕ) {P Q : ℕ → Type 0} → IfErr r P → IfErr r Q → ((i : ℕ) → P i → Q i → ⊥) → IsOk r
succeeds (Ok i) p q never = refl
succeeds (Err i) p q never = absurd (never i p q)

pub unwrap-place-requires : goal.unwrap-place-requires
unwrap-place-requires c =
    let live = rw (← c.self.view_is) at c.requires.live in
    succeeds c.search.result c.search.ensures.below c.search.ensures.above (λ i below above.
    let none = get_in_gap c.self.invariant.sound.now c.args.name.now (rw c.deref.ensures.value at below)
    (rw c.deref.ensures.value at above) (spot_at now_of c.self.inside.entries.slots) in
    let never = rw none at live in cc)

-- where the name stands
found : (c : After-index-key) → Found now_of c.self.inside.entries.slots c.self.inside.order.items
    c.args.name.now c.index-key.result.now
found c =
    let order = c.deref.result.now in
    let within = subst (λ r. IfOk r (λ i. i < length order)) c.unwrap-place.ensures c.search.ensures.within in
    let named = subst (λ r. IfOk r (λ i. name_of (at c.self.inside.entries.slots (get_or order i 0))
    ≡ c.args.name.now)) c.unwrap-place.ensures c.search.ensures.found in
    found_key now_of c.deref.ensures.value within named c.index-key.ensures

pub mark-requires : goal.mark-requires
mark-requires c = live_key c.self.invariant.sound.now (found (goal.at.mark-requires c).After-index-key)

pub put_digest-requires-clause-entry : goal.put_digest-requires-clause-entry
put_digest-requires-clause-entry c = rw c.mark.ensures.slots (live_key c.self.invariant.sound.now
    (found (goal.at.put_digest-requires-clause-entry c).After-index-key))

pub put_digest-requires-clause-list : goal.put_digest-requires-clause-list
put_digest-requires-clause-list c = rw c.mark.ensures.capacity c.self.invariant.digests

pub invariant_of-self : goal.invariant_of-self
invariant_of-self c = record {
  cap = c.self.invariant.cap;
  sound = rw c.mark.ensures.slots c.self.invariant.sound;
  same_order = c.self.invariant.same_order;
  room = rw c.mark.ensures.capacity c.self.invariant.room;
  digests = c.put_digest.ensures.list;
  kept_digests = rw c.mark.ensures.capacity c.self.invariant.kept_digests;
  agree = agree_put c.self.invariant.agree c.mark.ensures.noted c.put_digest.ensures.others;
  volume = rw c.mark.ensures.slots c.self.invariant.volume;
  kept_volume = rw c.mark.ensures.slots c.self.invariant.kept_volume;
  places = rw c.mark.ensures.slots c.self.invariant.places;
  places_room = c.self.invariant.places_room;
}

pub returns-clause-only : goal.returns-clause-only
returns-clause-only c =
    let digests = renewed c.self.invariant.sound.now (found (goal.at.returns-clause-only c).After-index-key)
    (digest_in c.self.inside.digests.items) (digest_in c.put_digest.new.digests.items)
    c.put_digest.ensures.others
    ∙ ap (fin.insert (digests_of c.self.inside.digests.items c.self.inside.entries.slots
    c.self.inside.order.items) c.args.name.now) c.put_digest.ensures.here in
    rw (c.mark.ensures.slots, ← c.self.view_is) (λ i. record (extents_of c.self.inside) {
      digests = digests i;
    })

pub returns-clause-table : goal.returns-clause-table
returns-clause-table c = rw c.mark.ensures.slots (table c.self.invariant.sound c.self.invariant.room.limit
    c.self.invariant.cap c.put_digest.ensures.list c.self.invariant.kept_digests)
