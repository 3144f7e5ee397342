use Rattle.std.proofs.Common.{arith, subst, sym, ◌<◌, ◌+◌, take}
use Rattle.extent_table.specs.Extents.{records_of}
use Rattle.table_check.specs.Live.{IsLive}
use Rattle.table_check.specs.Placed.{placed, ranked}
use Rattle.table_check.proofs.LiveLaws.{buffers_small, live_empty, live_more, live_none, payload_small, same_buffer, same_payload}
use Rattle.table_check.proofs.NumberLaws.{small_sizes}
use Rattle.table_check.proofs.balance.live_bytes.Goals as goal
use Rattle.table_check.proofs.balance.live_bytes.Goals.{then-s-gt0, else-s-gt0}

pub records-init : goal.records-init
records-init c = live_none (placed c.args.table.now c.args.frame.now)

pub add_to_payload-requires-clause-fits : goal.add_to_payload-requires-clause-fits
add_to_payload-requires-clause-fits c = λ d wide.
    let e = c.args.table.now in
    let count = c.count-rank-end.ensures in
    omega (
      arith,
      payload_small (placed e c.args.frame.now) (records_of e.now) c.records.rank (omega arith)
          c.records.live.payload c.records.live.buffers c.records.invariant (omega arith)
          (small_sizes e count.table) d wide,
      c.spot_at-s.ensures.small,
    )

pub add_to_buffers-requires-clause-fits : goal.add_to_buffers-requires-clause-fits
add_to_buffers-requires-clause-fits c = λ j d wide high.
    let e = c.args.table.now in
    let count = c.count-rank-end.ensures in
    omega (
      arith,
      buffers_small (placed e c.args.frame.now) (records_of e.now) c.records.rank (omega arith)
          c.records.live.payload c.records.live.buffers c.records.invariant (omega arith)
          (small_sizes e count.table) j d wide high,
      c.spot_at-s.ensures.small,
    )

pub records-preserved : goal.records-preserved
records-preserved c =
    let e = c.args.table.now in
    let f = c.args.frame.now in
    let rs = records_of e.now in
    let n = c.records.rank in
    let s = c.spot_at-s.result in
    let live = c.records.live in
    let low : n < c.count-rank-end.result = c.records-test.true in
    elim c.if-s-gt0.branch [
      | then-s-gt0 w ↦
          subst (λ after. IsLive (placed e f) (take (n + 1) rs) after.payload after.buffers) (sym w.live-is)
          (live_more (placed e f) rs n (omega (arith, c.count-rank-end.ensures.value)) live.payload
          live.buffers
          c.records.invariant w.add_to_payload.new.payload w.add_to_buffers.new.buffers
          w.add_to_payload.ensures.long w.add_to_buffers.ensures.full
          (λ d wide. omega (
            arith,
            w.add_to_payload.ensures.added d wide,
            same_payload f rs s (ranked e n) c.spot_at-s.ensures.place c.spot_at-s.ensures.size d,
          ))
          (λ j d wide high. omega (
            arith,
            w.add_to_buffers.ensures.added j d wide high,
            same_buffer f rs s (ranked e n) c.spot_at-s.ensures.place c.spot_at-s.ensures.size j d,
          )))
      | else-s-gt0 w ↦
          subst (λ after. IsLive (placed e f) (take (n + 1) rs) after.payload after.buffers) (sym w.live-is)
          (live_empty (placed e f) rs n (omega (arith, c.count-rank-end.ensures.value)) live.payload
          live.buffers
          c.records.invariant (omega (arith, w.if-s-gt0.false, c.spot_at-s.ensures.size)))
    ]
