-- Where a phase of a flush hands over to the next one, or to the end.
use Rattle.std.specs.Prelude.{◌≡◌, ℕ, ◌+◌, ◌*◌, ◌/◌, ◌<◌, ◌≤◌, List, refl}
use Rattle.std.proofs.Common.{arith, sym, subst}
use Rattle.disk_face.specs.States.{State}
use Rattle.extent_table.specs.Extents.{Extents}
use Rattle.placement_model.proofs.SaveCountLaws.{pays_for}
use Rattle.flush_model.specs.declared.item.Item.{Item}
use Rattle.flush_model.specs.Phases.{IsLaidWhole, IsLifted, IsPackedWhole, PaysFor, bytes_below}
use Rattle.flush_plan.specs.Lays.{End, HasSettled, KeepsLaying, Lay}
use Rattle.flush_plan.specs.Lifts.{KeepsLifting, Lift}
use Rattle.flush_plan.specs.Packs.{KeepsPacking, Pack, Packs}
use Rattle.flush_plan.specs.Shelves.{PlanFrame, phase_on}
use Rattle.flush_run.specs.FlushFrames.{FlushFrame}
use Rattle.flush_run.specs.HandsOn.{GoesNext, GoesToEnd}
use Rattle.flush_run.specs.Loops.{PacksPaid}
use Rattle.flush_run.specs.Parts.{HandsValue}
use Rattle.flush_run.specs.Shelved.{items_now, phase_now, shelf_of}
use Rattle.flush_run.specs.Phases.{GoesOn, KeepsIn, LowIn, PaidIn, PaidInPack, course_in, items_in, rank_of}
use Rattle.flush_run.specs.declared.phase.Phase.{Phase}
use Rattle.flush_run.specs.declared.phase.Phase.TheVariants as phases
use Rattle.flush_run.proofs.BeginLaws.{goes_in, lays_paid, run_paid}
use Rattle.flush_run.proofs.PaidLaws.{lays_end, packs_end}
use Rattle.flush_run.proofs.ShelvedLaws.{items_same, phase_same}

module _ (C : ℕ) (e : Extents) where
  pub lift_hands : (v : Lift) (w : Pack) → KeepsLifting C v (items_now v.course e)
      → IsLifted (phase_now v.course e) → w.course ≡ v.course
      → ((items : List Item) → KeepsLifting C v items → IsLifted (phase_on v.course items)
      → KeepsPacking C w items)
      → ((items : List Item) → KeepsLifting C v items → IsLifted (phase_on v.course items)
      → PaysFor (phase_on w.course items) (bytes_below (phase_on w.course items)))
      → GoesNext {C = C} (phases.Lift v) (phases.Pack w) e
  lift_hands v w lifting end course keeps pays =
      let same = sym (items_same v.course w.course e course) in
      record {
        course = course;
        next = refl;
        keeps = subst (KeepsPacking C w) same (keeps _ lifting end);
        pays = λ first. subst (λ items. PaysFor (phase_on w.course items)
            (bytes_below (phase_on w.course items))) same (pays _ lifting end);
      }

  pub pack_hands : (v : Pack) (w : Lay) → Packs C v (items_now v.course e) (shelf_of e)
      → IsPackedWhole (phase_now v.course e) → w.course ≡ v.course
      → ((items : List Item) → Packs C v items (shelf_of e) → IsPackedWhole (phase_on v.course items)
      → KeepsLaying C w items)
      → GoesNext {C = C} (phases.Pack v) (phases.Lay w) e
  pack_hands v w packs end course keeps = record {
    course = course;
    next = refl;
    keeps = subst (KeepsLaying C w) (sym (items_same v.course w.course e course)) (keeps _ packs end);
    pays = λ first. tt;
  }

  pub lay_hands : (v : Lay) (w : End) → KeepsLaying C v (items_now v.course e)
      → IsLaidWhole (phase_now v.course e) → w.course ≡ v.course
      → ((items : List Item) → KeepsLaying C v items → IsLaidWhole (phase_on v.course items)
      → HasSettled C w items)
      → GoesToEnd {C = C} (phases.Lay v) w e
  lay_hands v w laying end course settled = record {
    course = course;
    last = refl;
    settled = subst (HasSettled C w) (sym (items_same v.course w.course e course)) (settled _ laying end);
  }

-- ---- what holds behind it

low_on : {C : ℕ} (s0 s : Phase C) (e : Extents) → rank_of s ≡ rank_of s0 + 1 → LowIn s e
low_on s0 (phases.Lift w) e next = absurd (omega (arith, next))
low_on s0 (phases.Pack w) e next = tt
low_on s0 (phases.Lay w) e next = tt

pub hand_goes : {C : ℕ} (s0 s : Phase C) {f : FlushFrame} {x : HandsValue} {d : State} → GoesOn f s0 x d
    → GoesNext s0 s x.table → GoesOn f s x d
hand_goes s0 s {x = x} on h = record {
  goes = goes_in on.goes refl refl
      (phase_same (course_in s0) (course_in s) x.table x.table h.course refl refl);
  low = low_on s0 s x.table h.next;
}

-- where Lift ended, the slack pays for the saves of Pack and of Lay
pays_in_pack : {C : ℕ} {f : FlushFrame} (v : Lift) (w : Pack) {x : HandsValue} {d : State}
    → GoesOn {C = C} f (phases.Lift v) x d → KeepsLifting C v (items_now v.course x.table)
    → w.course ≡ v.course → PaysFor (phase_now w.course x.table) (bytes_below (phase_now w.course x.table))
    → (q : ℕ) → PaidIn {C = C} q (phases.Lift v) x → PaidIn {C = C} q (phases.Pack w) x
pays_in_pack v w {x} on keeps course pays q paid =
    let p = phase_now v.course x.table in
    let same = phase_same v.course w.course x.table x.table course refl refl in
    let here : PaysFor p (bytes_below p) = subst (λ r. PaysFor r (bytes_below r)) same pays in
    let some = on.goes.hands.block.divisor_low in
    subst (λ r. PaidInPack q x r) (sym same) (record {
      pay = bytes_below p / p.k + 1;
      total = bytes_below p;
      paid = subst (λ n. PacksPaid (bytes_below p / p.k + 1) (bytes_below p) n x p) paid
          (run_paid x p on.low keeps.lifting here);
      enough = pays_for p.k (bytes_below p) (omega (arith, on.goes.hands.divisor, some));
    })

-- where Pack ended, they were fewer than k
pays_in_lay : (C : ℕ) (v : Pack) (w : Lay) {x : HandsValue} → w.course ≡ v.course → (q : ℕ)
    → PaidIn {C = C} q (phases.Pack v) x → PaidIn {C = C} q (phases.Lay w) x
pays_in_lay C v w {x} course q paid =
    let same = phase_same v.course w.course x.table x.table course refl refl in
    let high = packs_end v.course.k paid.pay paid.total q x (phase_now v.course x.table) paid.paid
    paid.enough in
    record {
      pay = paid.pay;
      total = paid.total;
      mid = x.in_use.sequence;
      packed = subst (λ (c : PlanFrame). x.in_use.sequence < q + c.k) (sym course) high;
      paid = lays_paid x (phase_now v.course x.table) (phase_now w.course x.table) paid.pay paid.total q
          paid.paid same;
      enough = subst (λ (c : PlanFrame). paid.total < c.k * paid.pay) (sym course) paid.enough;
    }

pub hand_pays : {C : ℕ} (s0 s : Phase C) {f : FlushFrame} {x : HandsValue} {d : State} → GoesOn f s0 x d
    → KeepsIn s0 (items_in s0 x.table) → GoesNext s0 s x.table → (q : ℕ) → PaidIn q s0 x → PaidIn q s x
hand_pays {C} (phases.Lift v) (phases.Pack w) on keeps h q paid =
    pays_in_pack {C = C} v w on keeps h.course (h.pays refl) q paid
hand_pays {C} (phases.Pack v) (phases.Lay w) on keeps h q paid = pays_in_lay C v w h.course q paid
hand_pays (phases.Lift v) (phases.Lift w) on keeps h q paid = absurd (omega (arith, h.next))
hand_pays (phases.Lift v) (phases.Lay w) on keeps h q paid = absurd (omega (arith, h.next))
hand_pays (phases.Pack v) (phases.Lift w) on keeps h q paid = absurd (omega (arith, h.next))
hand_pays (phases.Pack v) (phases.Pack w) on keeps h q paid = absurd (omega (arith, h.next))
hand_pays (phases.Lay v) (phases.Lift w) on keeps h q paid = absurd (omega (arith, h.next))
hand_pays (phases.Lay v) (phases.Pack w) on keeps h q paid = absurd (omega (arith, h.next))
hand_pays (phases.Lay v) (phases.Lay w) on keeps h q paid = absurd (omega (arith, h.next))

-- one save more is paid too: in all at most twice k
pub paid_more : {C : ℕ} (s : Phase C) {f : FlushFrame} (x : HandsValue) {d : State} → GoesOn f s x d → (q : ℕ)
    → PaidIn q s x → x.in_use.sequence + 1 ≤ q + 2 * x.in_use.block.k
paid_more (phases.Lift v) x on q paid = omega (arith, paid, on.goes.hands.block.divisor_low)
paid_more (phases.Pack v) x on q paid =
    let n = packs_end v.course.k paid.pay paid.total q x (phase_now v.course x.table) paid.paid
    paid.enough in
    omega (arith, n, on.goes.hands.divisor)
paid_more (phases.Lay v) x on q paid =
    let n = lays_end v.course.k paid.pay paid.total paid.mid x (phase_now v.course x.table) paid.paid
    paid.enough in
    omega (arith, n, paid.packed, on.goes.hands.divisor)
