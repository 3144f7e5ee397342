use Rattle.std.proofs.Common.{arith}
use Rattle.held_guard.proofs.JoinLaws.{in_order, joined}
use Rattle.held_guard.proofs.guard.Guard.freed.Goals as goal

pub returns-then-span-gt0-clause-joins : goal.returns-then-span-gt0-clause-joins
returns-then-span-gt0-clause-joins c =
    rw (← c.self.view_is, c.insert.ensures.spans) (λ some. joined c.self.inside.list.spans c.args.span
    c.place_of-place.result c.place_of-place.ensures.within)

pub returns-then-span-gt0-clause-order : goal.returns-then-span-gt0-clause-order
returns-then-span-gt0-clause-order c =
    let p = c.place_of-place in
    rw c.insert.ensures.spans (in_order c.self.inside.list.spans c.args.span p.result p.ensures.within
    c.self.invariant (omega arith) (rw (← c.self.view_is) at c.requires.apart) c.end.result c.end.ensures
    p.ensures.below p.ensures.above)
