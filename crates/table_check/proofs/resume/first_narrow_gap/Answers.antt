use Rattle.std.proofs.Common.{arith, ap, sym, subst, ◌∙◌, ◌≡◌, ◌+◌, ◌-◌, ◌≤◌, ◌<◌, ◌⊎◌, length}
use Rattle.std.specs.Prelude.{min, slice_index}
use Rattle.std.proofs.lemmas.Bool.{false≢true}
use Rattle.table_rules.specs.Tables.{end_of_record}
use Rattle.table_check.specs.Placed.{ranked}
use Rattle.table_check.proofs.SuffixLaws.{GapsSoFar, gaps_break, gaps_end, gaps_hold, gaps_none}
use Rattle.table_check.proofs.resume.first_narrow_gap.Goals as goal
use Rattle.table_check.proofs.resume.first_narrow_gap.Goals.{then-not-is_gap_wide, else-not-is_gap_wide}

pub records-init : goal.records-init
records-init c =
    let e = c.args.table.now in
    let f = c.args.frame.now in
    let order = c.args.order.now in
    subst (λ n. GapsSoFar e f order (length order) n 0) (sym c.count-least.ensures.value)
    (gaps_none e f order c.requires.order c.requires.apart)

pub records-preserved : goal.records-preserved
records-preserved c =
    let e = c.args.table.now in
    let f = c.args.frame.now in
    let order = c.args.order.now in
    let at = c.records.left - 1 in
    let bytes = c.records.above in
    let next : c.records.left ≡ at + 1 = omega (arith, c.records-test.true) in
    let low : at < length order = omega (arith, c.records.invariant.within, c.records-test.true) in
    let so_far = subst (λ k. GapsSoFar e f order k c.records.least bytes) next c.records.invariant in
    let r = ranked e (slice_index order at) in
    let place : c.spot_at-s.result.place ≡ r.place = c.spot_at-s.ensures.place
    ∙ ap (λ i. (ranked e i).place) c.from-rank.ensures in
    let size : c.spot_at-s.result.size ≡ r.size = c.spot_at-s.ensures.size
    ∙ ap (λ i. (ranked e i).size) c.from-rank.ensures in
    let end : c.spot_at-s.result.place + c.spot_at-s.result.size ≡ end_of_record r =
    omega (arith, place, size) in
    let small : r.size < 281474976710656 = omega (arith, size, c.spot_at-s.ensures.small) in
    let more : bytes + c.from-above.result ≡ bytes + r.size = omega (arith, size, c.from-above.ensures) in
    elim c.if-not-is_gap_wide.branch [
      | then-not-is_gap_wide w ↦
          subst (λ x. GapsSoFar e f order at x (bytes + c.from-above.result))
          (sym (w.least-is ∙ w.min-least.ensures ∙ ap (min c.records.least) c.from-rank.ensures))
          (gaps_break e f order c.requires.order c.requires.apart at c.records.least bytes
          (bytes + c.from-above.result) so_far low small more
          (λ holds. absurd (false≢true (sym w.if-not-is_gap_wide.true ∙ c.is_gap_wide.ensures.1
          (subst (λ x. (x + bytes ≡ f.header.wall) ⊎ (x + bytes + f.header.slack ≤ f.header.wall)) (sym end)
          holds)))))
      | else-not-is_gap_wide w ↦
          subst (λ x. GapsSoFar e f order at x (bytes + c.from-above.result)) (sym w.least-is)
          (gaps_hold e f order c.requires.order c.requires.apart at c.records.least bytes
          (bytes + c.from-above.result) so_far low small more
          (subst (λ x. (x + bytes ≡ f.header.wall) ⊎ (x + bytes + f.header.slack ≤ f.header.wall)) end
          (c.is_gap_wide.ensures.0 w.if-not-is_gap_wide.false)))
    ]

pub returns : goal.returns
returns c = gaps_end c.args.table.now c.args.frame.now c.args.order.now c.requires.order c.requires.apart
    c.records.left c.records.least c.records.above c.records.invariant c.records-test.false
