use Rattle.std.proofs.Common.{◌≡◌, ◌+◌, rules, arith, sym, IsTrue}
use Rattle.std.proofs.lemmas.Grind.{common_steps}
use Rattle.byte_ranges.specs.Ranges.{bytes_at}
use Rattle.sha2.specs.Sha256.{sha256}
use Rattle.disk_face.proofs.FrameLaws.{Unchanged-trans}
use Rattle.store_model.proofs.RenewLaws.{ends_within, entry_is, only_digests, renewed_next, renewed_table}
use Rattle.store_core.proofs.renew.renew_all.Goals as goal

pub overflow_add-base : goal.overflow_add-base
overflow_add-base g c =
    let there = entry_is c.names.table.now c.names.n c.in_order-name.result.1 c.in_order-name.result.2
    c.in_order-name.ensures.entry in
    let range = c.names.invariant.table.now_in_range c.in_order-name.result.1 c.in_order-name.result.2
    there in
    omega (arith, c.requires.low, range.0)

pub digest_at-requires-clause-range : goal.digest_at-requires-clause-range
digest_at-requires-clause-range g c =
    let there = entry_is c.names.table.now c.names.n c.in_order-name.result.1 c.in_order-name.result.2
    c.in_order-name.ensures.entry in
    let range = c.names.invariant.table.now_in_range c.in_order-name.result.1 c.in_order-name.result.2
    there in
    omega (arith, c.requires.low, range.0, range.1)

pub digest_at-requires-clause-within : goal.digest_at-requires-clause-within
digest_at-requires-clause-within g c told =
    let first : IsTrue (g.D.Disk.state c.args.disk.now).tells =
    grind (arith, c.names.invariant.frame.stays.told) in
    let ends = ends_within c.args.table.now c.names.table c.names.n c.in_order-name.result.1
    c.in_order-name.result.2 c.names.invariant.only c.in_order-name.ensures.entry c.args.base
    (g.D.Disk.state c.args.disk.now).file (c.requires.within first) in
    rw (c.names.invariant.frame.same_file first) ends

pub names-preserved : goal.names-preserved
names-preserved g c = record {
  only = only_digests c.args.table.now c.names.table c.names.n c.in_order-name.result.1
      c.in_order-name.result.2 c.names.invariant.only c.in_order-name.ensures.entry c.renew.new.self
      c.in_ok-digest.digest c.renew.ensures.only;
  table = c.renew.ensures.table;
  renewed = λ told.
      let here : IsTrue (g.D.Disk.state c.names.disk).tells =
      grind (arith, c.names.invariant.frame.stays.told) in
      let spot = c.in_order-name.result.2 in
      let is : c.in_ok-digest.digest
      ≡ sha256 (bytes_at (g.D.Disk.state c.names.disk).file (c.args.base + spot.place) spot.size) =
      search (rules, here, c.digest_at.ensures.digest) in
      renewed_next c.args.table.now c.names.table c.names.n c.in_order-name.result.1 spot
      c.names.invariant.only c.in_order-name.ensures.entry c.renew.new.self c.in_ok-digest.digest
      c.renew.ensures.only c.args.base (g.D.Disk.state c.args.disk.now).file
      (c.names.invariant.renewed told) (rw (sym (c.names.invariant.frame.same_file told)) is);
  end = c.names.invariant.end;
  room = grind (arith, common_steps);
  frame = Unchanged-trans c.names.invariant.frame c.digest_at.ensures.frame;
  calm = search rules;
}

pub returns-clause-digests : goal.returns-clause-digests
returns-clause-digests g c told = renewed_table c.args.base (g.D.Disk.state c.args.disk.now).file
    c.args.table.now c.names.table c.names.n c.names.invariant.only c.names.invariant.table
    (omega (arith, c.names.invariant.end)) (c.names.invariant.renewed told)
