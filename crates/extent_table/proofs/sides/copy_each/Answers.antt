use Rattle.std.proofs.Common.{◌≡◌, ◌∙◌, length, get_or, Some, ap, refl, sym, arith}
use Rattle.std.specs.Prelude.{is_some, count_by}
use Rattle.slab.specs.Slab.{get}
use Rattle.extent_table.proofs.EntriesLemmas.{read_some}
use Rattle.extent_table.proofs.RelaidLemmas.{relaid_none, relaid_more}
use Rattle.extent_table.proofs.sides.copy_each.Goals as goal

pub keys-init : goal.keys-init
keys-init c = record {
  relaid = rw (c.requires.none, c.requires.empty) relaid_none;
  count = ap (count_by is_some) c.requires.none;
  capacity = refl;
  to_capacity = refl;
}

pub insert_reserved-at-requires : goal.insert_reserved-at-requires
insert_reserved-at-requires c = omega (
  arith,
  c.keys.invariant.count,
  c.keys.invariant.capacity,
  c.keys-test.true,
  c.requires.room,
)

pub overflow_cast-at : goal.overflow_cast-at
overflow_cast-at c = omega (
  arith,
  c.insert_reserved-at.ensures.key_in_range,
  c.insert_reserved-at.ensures.capacity,
  c.keys.invariant.capacity,
  c.requires.small,
)

pub push_reserved-requires : goal.push_reserved-requires
push_reserved-requires c = omega (
  arith,
  c.keys.invariant.relaid.long,
  c.keys.invariant.to_capacity,
  c.keys.to.ok.0,
  c.keys-test.true,
  c.requires.to_room,
)

pub keys-preserved : goal.keys-preserved
keys-preserved c =
    let was : get c.args.standing.now (get_or c.args.from.now c.keys.key-index 0)
    ≡ Some c.copied-copy.result =
    read_some c.get.ensures c.unwrap.ensures ∙ ap (λ s. Some s) (sym c.copied-copy.ensures) in
    record {
      relaid = rw c.push_reserved.ensures.items
          (relaid_more c.keys.invariant.relaid c.insert_reserved-at.result
          (λ i lt. c.requires.there i (omega (arith, lt, c.keys-test.true)))
          c.insert_reserved-at.ensures.was_vacant c.insert_reserved-at.new.self.slots c.copied-copy.result
          c.insert_reserved-at.ensures.updates.changed c.insert_reserved-at.ensures.updates.others was);
      count = omega (arith, c.insert_reserved-at.ensures.len, c.keys.invariant.count);
      capacity = c.insert_reserved-at.ensures.capacity ∙ c.keys.invariant.capacity;
      to_capacity = c.push_reserved.ensures.capacity ∙ c.keys.invariant.to_capacity;
    }

pub returns-clause-relaid : goal.returns-clause-relaid
returns-clause-relaid c =
    let all : c.keys.key-index ≡ length c.args.from.now =
    omega (arith, c.keys-test.false, c.keys.auto.key-index-end) in
    rw all at c.keys.invariant.relaid

pub returns-clause-capacity : goal.returns-clause-capacity
returns-clause-capacity c = c.keys.invariant.capacity
