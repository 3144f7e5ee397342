use Rattle.std.proofs.Common.{arith, ◌+◌, length}
use Rattle.held_guard.proofs.SearchLaws.{last_look}
use Rattle.held_guard.proofs.TouchLaws.{all_apart, any_shares, last_shares}
use Rattle.held_guard.proofs.guard.Guard.touches_in.Goals as goal

pub returns-then-begun-gt0-clause-shares : goal.returns-then-begun-gt0-clause-shares
returns-then-begun-gt0-clause-shares g c =
    let spans = c.self.inside.list.spans in
    let b = c.begun_before-begun in
    let e = c.end in
    rw (← c.self.view_is) (
      λ yes. any_shares spans c.self.invariant c.args.span e.result e.ensures b.result b.ensures.within
          b.ensures.below b.ensures.above (omega arith) c.look.result c.look.ensures.span
          (c.meets.ensures.shares.0 yes),
      λ any. c.meets.ensures.shares.1 (last_shares spans c.self.invariant c.args.span e.result e.ensures
          b.result b.ensures.within b.ensures.below b.ensures.above (omega arith) c.look.result
          c.look.ensures.span any),
    )

pub returns-then-begun-gt0-clause-apart : goal.returns-then-begun-gt0-clause-apart
returns-then-begun-gt0-clause-apart g c =
    let b = c.begun_before-begun in
    rw (← c.self.view_is) (λ no. all_apart c.self.inside.list.spans c.self.invariant c.args.span c.end.result
    c.end.ensures b.result b.ensures.within b.ensures.below b.ensures.above (omega arith) c.look.result
    c.look.ensures.span (c.meets.ensures.apart no))

pub returns-then-begun-gt0-clause-steps : goal.returns-then-begun-gt0-clause-steps
returns-then-begun-gt0-clause-steps g c =
    let s = c.begun_before-begun.ensures.steps in
    rw (← c.self.view_is) (
      s.0 + 1,
      omega (arith, s.1, c.look.ensures.step),
      last_look (length c.self.inside.list.spans) s.0 s.2,
    )
