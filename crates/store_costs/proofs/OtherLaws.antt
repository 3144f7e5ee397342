-- A keep and a refused change leave the ledger and the book, and going back doesn't raise the potential.
use Rattle.std.specs.Prelude.{◌≡◌, ℕ, ◌≤◌, true, Option, Some, None, Result, Ok, Err, IsNone, IsSome, OnErr, OnOk, refl}
use Rattle.std.proofs.Common.{arith, sym, ap, subst}
use Rattle.disk_face.specs.States as disk
use Rattle.map_model.specs.Requests as ask
use Rattle.map_model.specs.Requests.{Change}
use Rattle.move_cost.specs.Costs.{potential}
use Rattle.cost_laws.proofs.CellLaws.{potential_rises}
use Rattle.cost_laws.proofs.PaidLaws.{paid_back}
use Rattle.store_model.specs.declared.answers.Refusal.{Refusal}
use Rattle.store_model.specs.declared.answers.Done.{Done}
use Rattle.store_model.specs.Answers.{refused_by}
use Rattle.store_model.specs.Changing.{IsChange}
use Rattle.store_model.specs.Connection.{StoreValue}
use Rattle.store_model.specs.Keeps.{IsKeep, kept_now}
use Rattle.store_model.specs.Stores.{IsStore}
use Rattle.store_costs.specs.Calls.{gone_back}
use Rattle.store_costs.specs.Paid.{HasPaid, MovesNothing, StepIsPaidFor}
use Rattle.store_costs.proofs.ChangeLaws.{no_rise, same_moves_nothing}
use Rattle.store_costs.proofs.WeighedLaws.{none_fell}

-- ---- keep, and refusals

kept_nothing : (old new : StoreValue) → new ≡ kept_now old → MovesNothing old new
kept_nothing old new is = record {
  moved = ap (λ (s : StoreValue). s.moved) is;
  asked = ap (λ (s : StoreValue). s.asked) is;
  book = ap (λ (s : StoreValue). s.book) is;
  divisor = ap (λ (s : StoreValue). s.in_use.block.k) is;
}

broken_nothing : (old new : StoreValue) → new ≡ record old { is_broken = true } → MovesNothing old new
broken_nothing old new is = record {
  moved = ap (λ (s : StoreValue). s.moved) is;
  asked = ap (λ (s : StoreValue). s.asked) is;
  book = ap (λ (s : StoreValue). s.book) is;
  divisor = ap (λ (s : StoreValue). s.in_use.block.k) is;
}

either_nothing : (old new : StoreValue) (r : Result Done Refusal) → OnOk r (new ≡ kept_now old)
    → OnErr r (new ≡ record old { is_broken = true }) → MovesNothing old new
either_nothing old new (Ok done) kept failed = kept_nothing old new kept
either_nothing old new (Err why) kept failed = broken_nothing old new failed

pub keep_moves_nothing : {C : ℕ} (old new : StoreValue) (before now : disk.State)
    (result : Result Done Refusal)
    → IsKeep C old new before now result → MovesNothing old new
keep_moves_nothing old new before now result call = by (refused_by old ask.keep) refl
  where
    by : (o : Option Refusal) → refused_by old ask.keep ≡ o → MovesNothing old new
    by None is =
        let served = call.kept (subst (λ (x : Option Refusal). IsNone x) (sym is) refl) in
        either_nothing old new result served.value served.failed
    by (Some why) is = same_moves_nothing old new
        (call.refused (subst (λ (x : Option Refusal). IsSome x) (sym is) refl)).same_store

pub refused_moves_nothing : {C : ℕ} (c : Change) (old new : StoreValue) (before now : disk.State)
    (result : Result Done Refusal) → IsChange C c old new before now result
    → IsSome (refused_by old (ask.change c)) → MovesNothing old new
refused_moves_nothing c old new before now result call refused =
    same_moves_nothing old new (call.refused refused).same_store

-- ---- going back

pub back_has_less : {C : ℕ} (s : StoreValue) (cost : ℕ → ℕ) → IsStore C s
    → potential C cost s.in_use.block.k s.kept_book.grid ≤ potential C cost s.in_use.block.k s.book.grid
back_has_less {C} s cost h =
    potential_rises C s.in_use.block.k cost s.kept_book.grid s.book.grid (none_fell s h)

pub back_pays : {C : ℕ} (s : StoreValue) (cost : ℕ → ℕ) → IsStore C s → StepIsPaidFor C cost s (gone_back s)
back_pays {C} s cost h = omega (arith, no_rise C cost s.moved s.moved refl, back_has_less s cost h)

pub back_has_paid : {C : ℕ} (s : StoreValue) (cost : ℕ → ℕ) (first : ℕ) → IsStore C s → HasPaid C cost first s
    → HasPaid C cost first (gone_back s)
back_has_paid {C} s cost first h paid = record {
  full = paid.full;
  paid = paid_back C s.in_use.block.k cost first s.moved s.asked s.kept_book.grid s.book.grid (none_fell s h)
      paid.paid;
}
