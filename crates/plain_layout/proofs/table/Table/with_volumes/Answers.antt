use Rattle.std.proofs.Common.{arith, ◌∙◌, subst, ap, ◌≡◌, ℕ}
use Rattle.std.specs.Prelude.{slice_set}
use Rattle.std.proofs.lemmas.List.{get_or_past}
use Rattle.segment_layout.specs.Books.{volumes_of_sizes}
use Rattle.segment_layout.proofs.BookLaws.{length-volumes_of_sizes}
use Rattle.segment_layout.proofs.SettleLaws.{TakenUpTo, taken_none, taken_more, taken_all}
use Rattle.table_rules.specs.Tables.{table_boundary, is_of, sizes}
use Rattle.plain_layout.specs.Plain.{placed}
use Rattle.plain_layout.proofs.SumSteps.{chosen_le, live_is_volume}
use Rattle.plain_layout.proofs.table.Table.with_volumes.Goals as goal

pub overflow_cast-caps : goal.overflow_cast-caps
overflow_cast-caps c = omega (
  arith,
  chosen_le (is_of c.classes.c) c.args.self.now.records.items,
  c.live-live.ensures.sum,
)

pub classes-init : goal.classes-init
classes-init c = taken_none c.table_boundary-boundary.result c.args.caps
    (volumes_of_sizes (sizes c.args.self.now.records.items)) (omega arith)

pub classes-preserved : goal.classes-preserved
classes-preserved c =
    let records = c.args.self.now.records.items in
    taken_more c.table_boundary-boundary.result c.classes.c c.live-live.result c.args.caps
    (volumes_of_sizes (sizes records)) c.classes.caps _ c.classes.invariant (omega arith) (omega arith)
    (c.live-live.ensures.sum ∙ live_is_volume c.classes.c records)
    (ap (λ (n : ℕ). slice_set c.classes.caps n c.live-live.result) c.from.ensures)

pub returns : goal.returns
returns c =
    let caps = c.args.caps in
    let records = c.args.self.now.records.items in
    let volumes = volumes_of_sizes (sizes records) in
    let b : c.table_boundary-boundary.result ≡ table_boundary
    (placed c.args.self.now) = c.table_boundary-boundary.ensures in
    let e : c.classes.c ≡ 32 = omega arith in
    let long = length-volumes_of_sizes (sizes records) in
    let taken = subst (λ b. TakenUpTo b 32 caps volumes c.classes.caps) b
    (subst (λ n. TakenUpTo c.table_boundary-boundary.result n caps volumes c.classes.caps) e
    c.classes.invariant) in
    taken_all 32 (table_boundary (placed c.args.self.now)) caps volumes c.classes.caps
    (record { full = omega arith; zero_above = λ d h. get_or_past caps d 0 (omega arith) })
    (record { full = long; zero_above = λ d h. get_or_past volumes d 0 (omega (arith, long)) })
    c.requires.boundary (omega arith) taken
