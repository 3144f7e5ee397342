use Rattle.std.proofs.Common.{◌<◌, ◌+◌, arith, ap, length, subst, sym, take, ◌∙◌}
use Rattle.size_class.specs.Classes.{class_of}
use Rattle.extent_table.specs.Extents.{records_of}
use Rattle.table_check.proofs.LiveLaws.{VolumesSoFar, volumes_added, volumes_none, volumes_same, volumes_small}
use Rattle.table_check.proofs.NumberLaws.{small_sizes}
use Rattle.table_check.specs.Placed.{ranked}
use Rattle.table_check.proofs.room.volumes_of.Goals as goal
use Rattle.table_check.proofs.room.volumes_of.Goals.{then-s-gt0, else-s-gt0}

pub records-init : goal.records-init
records-init c = volumes_none

pub overflow_add-volumes : goal.overflow_add-volumes
overflow_add-volumes c =
    let e = c.args.table.now in
    let count = c.count-rank-end.ensures in
    omega (
      arith,
      volumes_small (records_of e.now) c.records.rank (omega arith) c.records.volumes c.records.invariant
          (omega arith) (small_sizes e count.table) c.class_at.result c.class_at.ensures.small,
      c.spot_at-s.ensures.small,
    )

pub records-preserved : goal.records-preserved
records-preserved c =
    let rs = records_of c.args.table.now.now in
    let n = c.records.rank in
    let low : n < length rs = omega (arith, c.records-test.true, c.count-rank-end.ensures.value) in
    let r = ranked c.args.table.now n in
    elim c.if-s-gt0.branch [
      | then-s-gt0 w ↦
          subst (VolumesSoFar (take (n + 1) rs)) (sym w.volumes-is)
          (volumes_added rs n low c.records.volumes c.records.invariant w.class_at.result
          c.spot_at-s.result.size
          (w.class_at.ensures.same ∙ ap class_of c.spot_at-s.ensures.size) c.spot_at-s.ensures.size
          (omega (arith, w.if-s-gt0.true)) w.class_at.ensures.small)
      | else-s-gt0 w ↦
          subst (VolumesSoFar (take (n + 1) rs)) (sym w.volumes-is)
          (volumes_same rs n low c.records.volumes c.records.invariant
          (omega (arith, w.if-s-gt0.false, c.spot_at-s.ensures.size)))
    ]
