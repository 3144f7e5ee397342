use Rattle.std.proofs.Common.{arith, ap, ◌≡◌, ◌<◌, ◌≤◌, ℕ}
use Rattle.extent_table.specs.Extents.{Extents}
use Rattle.table_rules.specs.Rules.{apart_from_earlier, number_of}
use Rattle.table_rules.specs.Tables.{table_boundary}
use Rattle.table_check.specs.declared.frame.Frame.{Frame}
use Rattle.table_check.specs.Firsts.{HoldBelow}
use Rattle.table_check.specs.PlaceRules as places
use Rattle.table_check.specs.Placed.{placed}
use Rattle.table_check.specs.Tried.{named}
use Rattle.table_check.proofs.RuleLaws.{boundary_bounded}
use Rattle.table_check.proofs.check.first_of.Goals as goal

-- from the fifth rule on the boundary is one of a row
low : (table : Extents) (frame : Frame) (n m : ℕ) → n ≡ m → 4 < m → HoldBelow n (placed table frame)
    → table_boundary (placed table frame) ≤ 32
low table frame n m is late lower =
    omega (arith, boundary_bounded (placed table frame) n (omega (arith, is, late)) lower, frame.shape.few)

pub first_place-requires : goal.first_place-requires
first_place-requires c = record {
  boundary = λ late. low c.args.table.now c.args.frame.now (number_of (named c.args.rule))
      (number_of (places.named c.in-AtPlaces.rule)) (ap (λ r. number_of (named r)) c.in-AtPlaces.is) late
      c.requires.lower;
}

pub first_unbalanced-requires : goal.first_unbalanced-requires
first_unbalanced-requires c = record {
  boundary = low c.args.table.now c.args.frame.now (number_of (named c.args.rule)) 9
      (ap (λ r. number_of (named r)) c.in-Balanced.is) (omega arith) c.requires.lower;
}

pub first_without_room-requires-clause-boundary : goal.first_without_room-requires-clause-boundary
first_without_room-requires-clause-boundary c = low c.args.table.now c.args.frame.now
    (number_of (named c.args.rule)) 11 (ap (λ r. number_of (named r)) c.in-Room.is) (omega arith)
    c.requires.lower

pub first_misplaced-requires-clause-boundary : goal.first_misplaced-requires-clause-boundary
first_misplaced-requires-clause-boundary c = low c.args.table.now c.args.frame.now
    (number_of (named c.args.rule)) 12 (ap (λ r. number_of (named r)) c.in-Resume.is) (omega arith)
    c.requires.lower

pub first_misplaced-requires-clause-apart : goal.first_misplaced-requires-clause-apart
first_misplaced-requires-clause-apart c =
    let is : number_of (named c.args.rule) ≡ 12 = ap (λ r. number_of (named r)) c.in-Resume.is in
    c.requires.lower apart_from_earlier (omega (arith, is))
