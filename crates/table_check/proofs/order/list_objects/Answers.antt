use Rattle.std.proofs.Common.{arith, sym, ap, refl, ◌∙◌, ◌≡◌, true, false}
use Rattle.std.specs.Prelude.{vec_len}
use Rattle.std.proofs.lemmas.Bool.{le-ltb, lt-ltb}
use Rattle.table_check.specs.Orders.{has_bytes}
use Rattle.table_check.specs.Placed.{ranked}
use Rattle.table_check.proofs.RankLaws.{listed_no, listed_yes, passing_none}
use Rattle.table_check.proofs.order.list_objects.Goals as goal
use Rattle.table_check.proofs.order.list_objects.Goals.{then-spot_at-gt0, else-spot_at-gt0}

pub ranks-init : goal.ranks-init
ranks-init c = record {
  listed = c.clear.ensures.items ∙ sym (passing_none (has_bytes c.args.table.now));
  few = omega arith;
  capacity = refl;
}

pub ranks-preserved : goal.ranks-preserved
ranks-preserved c =
    let e = c.args.table.now in
    let n = c.ranks.rank in
    elim c.if-spot_at-gt0.branch [
      | then-spot_at-gt0 w ↦
          let is : has_bytes e n ≡ true = lt-ltb 0 (ranked e n).size
          (omega (arith, w.if-spot_at-gt0.true, c.spot_at.ensures.size)) in
          record {
            listed = listed_yes (has_bytes e) is
                (ap (λ v. v.items) w.order-is ∙ w.push_reserved.ensures.items)
                c.ranks.invariant.listed;
            few = omega (arith, ap vec_len w.order-is, w.push_reserved.ensures.len, c.ranks.invariant.few);
            capacity = ap (λ v. v.cap) w.order-is ∙ w.push_reserved.ensures.capacity
                ∙ c.ranks.invariant.capacity;
          }
      | else-spot_at-gt0 w ↦
          let isnt : has_bytes e n ≡ false = le-ltb 0 (ranked e n).size
          (omega (arith, w.if-spot_at-gt0.false, c.spot_at.ensures.size)) in
          record {
            listed = listed_no (has_bytes e) isnt (ap (λ v. v.items) w.order-is) c.ranks.invariant.listed;
            few = omega (arith, ap (λ v. vec_len v) w.order-is, c.ranks.invariant.few);
            capacity = ap (λ v. v.cap) w.order-is ∙ c.ranks.invariant.capacity;
          }
    ]
