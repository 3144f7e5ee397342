use Rattle.std.specs.Prelude.{◌≡◌, ◌++◌, ◌<◌, ℕ, List, length, Ok}
use Rattle.std.proofs.Common.{◌∙◌, ap, arith, sym}
use Rattle.std.proofs.lemmas.Bool.{cond-false, cond-true, le-ltb, lt-ltb}
use Rattle.store_model.specs.Lines.{line_of, lines_of, listing_of}
use Rattle.store_model.proofs.LineLaws.{copied_all, copied_more, copied_none, copied_short}
use Rattle.store_core.proofs.lines.copy_lines.Goals as goal

pub names-init : goal.names-init
names-init c = copied_none c.args.out.now c.args.table.now.now

pub overflow_sub-out : goal.overflow_sub-out
overflow_sub-out c = c.names.invariant.inside

pub returns-then-len-out-clause-answer : goal.returns-then-len-out-clause-answer
returns-then-len-out-clause-answer c =
    let name = c.in_order-name.result.1 in
    let spot = c.in_order-name.result.2 in
    let line : c.push_line.new.piece.items ≡ line_of (name, spot.size) =
    c.push_line.ensures ∙ ap (λ (xs : List ℕ). xs ++ line_of (name, spot.size)) c.clear.ensures in
    let all = length (lines_of (listing_of c.args.table.now.now)) in
    let short : length c.args.out.now < all =
    copied_short c.names.invariant name spot c.in_order-name.ensures.entry
    (omega (arith, c.if-len-out.true, c.len.ensures.value, ap length line)) in
    sym (cond-true _ _ _ (lt-ltb (length c.args.out.now) all short))

pub names-preserved : goal.names-preserved
names-preserved c =
    let name = c.in_order-name.result.1 in
    let spot = c.in_order-name.result.2 in
    let line : c.push_line.new.piece.items ≡ line_of (name, spot.size) =
    c.push_line.ensures ∙ ap (λ (xs : List ℕ). xs ++ line_of (name, spot.size)) c.clear.ensures in
    let copied : c.copy_from_slice.new.self ≡ c.push_line.new.piece.items =
    c.copy_from_slice.ensures.after ∙ c.as_slice.ensures.value in
    copied_more c.names.invariant name spot c.in_order-name.ensures.entry c.copy_from_slice.new.self
    c.len-in-names.result (copied ∙ line) (omega (arith, c.len-in-names.ensures.value, ap length copied))
    (omega (
      arith,
      c.if-len-out.false,
      c.names.invariant.inside,
      c.len.ensures.value,
      c.len-in-names.ensures.value,
    ))

pub returns-clause-answer : goal.returns-clause-answer
returns-clause-answer c =
    let all = copied_all c.names.invariant (omega arith) in
    let size = length (lines_of (listing_of c.args.table.now.now)) in
    ap Ok all.1 ∙ sym (cond-false _ _ _ (le-ltb (length c.args.out.now) size
    (omega (arith, all.1, c.names.invariant.inside, c.names.invariant.same))))

pub returns-clause-lines : goal.returns-clause-lines
returns-clause-lines c = (copied_all c.names.invariant (omega arith)).0
