use Rattle.std.proofs.Common.{arith, sym, ap, refl, ℕ, ◌∙◌, ◌≡◌, true, false}
use Rattle.std.specs.Prelude.{vec_len}
use Rattle.table_rules.specs.Tables.{is_below_wall}
use Rattle.table_check.specs.Placed.{placed, ranked}
use Rattle.table_check.proofs.RankLaws.{listed_no, listed_yes, passing_none}
use Rattle.table_check.proofs.order.list_below_wall.Goals as goal
use Rattle.table_check.proofs.order.list_below_wall.Goals.{then-is_below_wall, else-is_below_wall}

pub ranks-init : goal.ranks-init
ranks-init c = record {
  listed = c.clear.ensures.items ∙ sym (passing_none _);
  few = omega arith;
  capacity = refl;
}

pub ranks-preserved : goal.ranks-preserved
ranks-preserved c =
    let p = λ (i : ℕ). is_below_wall (placed c.args.table.now c.args.frame.now) (ranked c.args.table.now i) in
    let n = c.ranks.rank in
    elim c.if-is_below_wall.branch [
      | then-is_below_wall w ↦
          let is : p n ≡ true = sym c.is_below_wall.ensures ∙ w.if-is_below_wall.true in
          record {
            listed = listed_yes p is (ap (λ v. v.items) w.order-is ∙ w.push_reserved.ensures.items)
                c.ranks.invariant.listed;
            few = omega (arith, ap vec_len w.order-is, w.push_reserved.ensures.len, c.ranks.invariant.few);
            capacity = ap (λ v. v.cap) w.order-is ∙ w.push_reserved.ensures.capacity
                ∙ c.ranks.invariant.capacity;
          }
      | else-is_below_wall w ↦
          let isnt : p n ≡ false = sym c.is_below_wall.ensures ∙ w.if-is_below_wall.false in
          record {
            listed = listed_no p isnt (ap (λ v. v.items) w.order-is) c.ranks.invariant.listed;
            few = omega (arith, ap (λ v. vec_len v) w.order-is, c.ranks.invariant.few);
            capacity = ap (λ v. v.cap) w.order-is ∙ c.ranks.invariant.capacity;
          }
    ]
