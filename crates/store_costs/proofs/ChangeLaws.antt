-- A put or a removal that doesn't answer that the disk failed is paid for.
use Rattle.std.specs.Prelude.{◌≡◌, ℕ, ◌*◌, ◌⊎◌, true, false, not, ◌-◌, List, length, Option, Some, None, option_map, Result, Ok, IsNone, IsSome, OnOk, slice_index, refl}
use Rattle.std.proofs.Common.{arith, sym, ◌∙◌, ap, subst, inl, inr}
use Rattle.std.proofs.lemmas.Bool.{cases_Bool, cases_lt}
use Rattle.std.proofs.lemmas.List.{get_or_past}
use Rattle.byte_ranges.proofs.ListLaws.{length-map_below}
use Rattle.disk_face.specs.States as disk
use Rattle.size_class.specs.Classes.{width}
use Rattle.map_model.specs.Requests as ask
use Rattle.map_model.specs.Requests.{Change}
use Rattle.segment_layout.specs.Books.{Book, is_quiet}
use Rattle.placement_model.specs.Reads.{read_at}
use Rattle.cost_laws.specs.Paid.{IsPaid}
use Rattle.segment_layout.proofs.SumLaws.{sum_below_zero}
use Rattle.move_cost.specs.Costs.{IsCost, potential, rate, weigh}
use Rattle.cost_laws.specs.Moves.{next_grid, rise}
use Rattle.cost_laws.proofs.MoveLaws.{rise-index}
use Rattle.store_model.specs.declared.answers.Refusal.{Refusal}
use Rattle.store_model.specs.declared.answers.Done.{Done}
use Rattle.store_model.specs.Answers.{AnswersChange, facts_at, is_disk_fault, refusal_for, refused_by}
use Rattle.store_model.specs.Changes.{ChangesQuietly}
use Rattle.store_model.specs.Changing.{IsChange}
use Rattle.store_model.specs.Connection.{StoreValue, limits_of}
use Rattle.store_model.specs.Flushes.{ChangesByFlush, IsFlush}
use Rattle.store_model.specs.Quiet.{charges_of}
use Rattle.store_model.specs.States.{refusal}
use Rattle.store_model.specs.Stores.{IsStore}
use Rattle.store_model.proofs.ReadingLaws.{whole_if_served}
use Rattle.store_costs.specs.Calls.{IsSound}
use Rattle.store_costs.specs.Paid.{HasOpenLedger, HasPaid, MovesNothing, StepIsPaidFor}
use Rattle.store_costs.proofs.MadeLaws.{IsNext, flush_divisor, flush_grid, flush_next, next_has_paid, next_pays, quiet_divisor, quiet_grid, quiet_next}
use Rattle.store_costs.proofs.WeighedLaws.{in_zeros, zeros}

-- ---- where nothing is moved

pub no_rise : (C : ℕ) (cost : ℕ → ℕ) (row new : List ℕ) → new ≡ row → weigh C cost (rise row new) ≡ 0
no_rise C cost row new same = sum_below_zero C (λ d. slice_index (rise row new) d * rate C cost d) (λ d low.
    let z : 0 * rate C cost d ≡ 0 = omega arith in
    ap (λ x. x * rate C cost d) (none d) ∙ z)
  where
    none : (d : ℕ) → slice_index (rise row new) d ≡ 0
    none d = elim (cases_lt d width) [
      | inl low ↦ omega (arith, rise-index row new d low, ap (λ xs. slice_index xs d) same)
      | inr high ↦ get_or_past (rise row new) d 0
          (omega (arith, high, length-map_below (λ e. slice_index new e - slice_index row e) width))
    ]

pub nothing_pays : (C : ℕ) (cost : ℕ → ℕ) (old new : StoreValue) → MovesNothing old new
    → StepIsPaidFor C cost old new
nothing_pays C cost old new n =
    let k = old.in_use.block.k in
    omega (
      arith,
      no_rise C cost old.moved new.moved n.moved,
      ap (λ (b : Book). potential C cost k b.grid) n.book,
    )

pub nothing_has_paid : (C : ℕ) (cost : ℕ → ℕ) (first : ℕ) (old new : StoreValue) → MovesNothing old new
    → HasPaid C cost first old → HasPaid C cost first new
nothing_has_paid C cost first old new n paid = record {
  full = ap length n.asked ∙ paid.full;
  paid = subst (λ (k : ℕ). IsPaid C k cost first new.moved new.asked new.book.grid) (sym n.divisor)
      (subst (λ (b : Book). IsPaid C old.in_use.block.k cost first new.moved new.asked b.grid) (sym n.book)
      (subst (λ (row : List ℕ). IsPaid C old.in_use.block.k cost first row new.asked old.book.grid)
      (sym n.moved)
      (subst (λ (row : List ℕ). IsPaid C old.in_use.block.k cost first old.moved row old.book.grid)
      (sym n.asked) paid.paid)));
}

pub same_moves_nothing : (old new : StoreValue) → new ≡ old → MovesNothing old new
same_moves_nothing old new same = record {
  moved = ap (λ (s : StoreValue). s.moved) same;
  asked = ap (λ (s : StoreValue). s.asked) same;
  book = ap (λ (s : StoreValue). s.book) same;
  divisor = ap (λ (s : StoreValue). s.in_use.block.k) same;
}

-- ---- what a call comes to

-- The change was served, and is done.
record IsServed (c : Change) (old : StoreValue) (result : Result Done Refusal) : Type 0 where
  whole : old.is_broken ≡ false
  served : IsNone (refused_by old (ask.change c))
  done : Done
  is_ok : result ≡ Ok done

-- what holds of an Ok, where there is one
pub at_ok : {P : Type 0} (r : Result Done Refusal) (done : Done) → r ≡ Ok done → OnOk r P → P
at_ok {P} r done is p = subst (λ (x : Result Done Refusal). OnOk x P) is p

module _ {C : ℕ} (c : Change) (old new : StoreValue) (before now : disk.State) (result : Result Done Refusal)
    (call : IsChange C c old new before now result) (fine : is_disk_fault result ≡ false) where
  abbrev why_not : Option Refusal
  why_not = refused_by old (ask.change c)

  refused_or_served : (new ≡ old) ⊎ IsServed c old result
  refused_or_served = by why_not refl call.answer
    where
      by : (o : Option Refusal) → why_not ≡ o → AnswersChange (is_quiet (charges_of old c)) o result
          → (new ≡ old) ⊎ IsServed c old result
      by (Some why) is answer =
          inl (call.refused (subst (λ (x : Option Refusal). IsSome x) (sym is) refl)).same_store
      by None is answer = elim answer as (λ _. (new ≡ old) ⊎ IsServed c old result) [
        | inl ok ↦ inr (record {
          whole = whole_if_served old.is_broken
              (option_map refusal_for
              (refusal (limits_of old) (facts_at old (ask.change c)) (ask.change c))) is;
          served = subst (λ (x : Option Refusal). IsNone x) (sym is) refl;
          done = record { kept = not (is_quiet (charges_of old c)) };
          is_ok = ok;
        })
        | inr failed ↦ absurd (let bad : false ≡ true = sym fine ∙ ap is_disk_fault failed in cc)
      ]

  quiet_value : is_quiet (charges_of old c) ≡ true → IsServed c old result → ChangesQuietly C c old new
  quiet_value quiet s = at_ok result s.done s.is_ok (call.quiet s.served quiet).value

  module _ (sound : IsSound C old) (full : length old.asked ≡ width) (low : HasOpenLedger new) (cost : ℕ → ℕ)
      (is : IsCost C cost) where
    -- ---- a quiet change

    quiet_served : is_quiet (charges_of old c) ≡ true → IsServed c old result → StepIsPaidFor C cost old new
    quiet_served quiet s =
        let h = sound s.whole in
        let v = quiet_value quiet s in
        next_pays old h 0 (zeros old h) (in_zeros old h) c new
        (quiet_next old h 0 (zeros old h) (in_zeros old h) c new quiet v full low) cost is
        (quiet_grid old h 0 (zeros old h) (in_zeros old h) c new quiet v)

    quiet_session : is_quiet (charges_of old c) ≡ true → IsServed c old result → (first : ℕ)
        → HasPaid C cost first old → HasPaid C cost first new
    quiet_session quiet s first paid =
        let h = sound s.whole in
        let v = quiet_value quiet s in
        next_has_paid old h 0 (zeros old h) (in_zeros old h) c new
        (quiet_next old h 0 (zeros old h) (in_zeros old h) c new quiet v full low) cost is first
        (quiet_grid old h 0 (zeros old h) (in_zeros old h) c new quiet v)
        (quiet_divisor old h 0 (zeros old h) (in_zeros old h) c new quiet v) paid

    -- ---- a flush, by the map that a file of zeros gives where the objects stand

    module _ (needs_flush : is_quiet (charges_of old c) ≡ false) (s : IsServed c old result) where
      abbrev h : IsStore C old
      h = sound s.whole

      f : IsFlush C c old new before now result
      f = call.flush s.served needs_flush

      v : ChangesByFlush c old new
      v = at_ok result s.done s.is_ok f.value

      n : IsNext (read_at 0 (zeros old h) old.now) c old new
      n = flush_next old h 0 (zeros old h) (in_zeros old h) c new needs_flush before now result f v full low

      grid : new.book.grid ≡ next_grid old.in_use.block.k (read_at 0 (zeros old h) old.now) old.book c
      grid = flush_grid old h 0 (zeros old h) (in_zeros old h) c new needs_flush before now result f v

      flush_served : StepIsPaidFor C cost old new
      flush_served = next_pays old h 0 (zeros old h) (in_zeros old h) c new n cost is grid

      flush_session : (first : ℕ) → HasPaid C cost first old → HasPaid C cost first new
      flush_session first paid =
          next_has_paid old h 0 (zeros old h) (in_zeros old h) c new n cost is first grid
          (flush_divisor old h 0 (zeros old h) (in_zeros old h) c new needs_flush before now result f v) paid

    -- ---- each change

    pub change_pays : StepIsPaidFor C cost old new
    change_pays = elim refused_or_served as (λ _. StepIsPaidFor C cost old new) [
      | inl same ↦ nothing_pays C cost old new (same_moves_nothing old new same)
      | inr s ↦ elim (cases_Bool (is_quiet (charges_of old c))) as (λ _. StepIsPaidFor C cost old new) [
        | inl quiet ↦ quiet_served quiet s
        | inr needs_flush ↦ flush_served needs_flush s
      ]
    ]

    pub change_has_paid : (first : ℕ) → HasPaid C cost first old → HasPaid C cost first new
    change_has_paid first paid = elim refused_or_served as (λ _. HasPaid C cost first new) [
      | inl same ↦ nothing_has_paid C cost first old new (same_moves_nothing old new same) paid
      | inr s ↦ elim (cases_Bool (is_quiet (charges_of old c))) as (λ _. HasPaid C cost first new) [
        | inl quiet ↦ quiet_session quiet s first paid
        | inr needs_flush ↦ flush_session needs_flush s first paid
      ]
    ]
