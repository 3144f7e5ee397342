-- What a change that was made moves is paid for, on any disk, by the book that it leads to.
use Rattle.std.specs.Prelude.{◌≡◌, ℕ, true, false, List, ◌++◌, length, Result, Ok, slice_index}
use Rattle.std.proofs.Common.{arith, sym, ◌∙◌, ap, subst}
use Rattle.std.specs.FinMap as fin
use Rattle.disk_face.specs.States as disk
use Rattle.size_class.specs.Classes.{width}
use Rattle.slot_codec.specs.Choice as choice
use Rattle.slot_codec.specs.declared.codec.SuperBlock.{SuperBlock}
use Rattle.map_model.specs.Maps.{Map}
use Rattle.map_model.specs.Requests.{Change, changed}
use Rattle.segment_layout.specs.Books.{Book, Charged, is_quiet, new_item, next_book, trigger, with_digests}
use Rattle.segment_layout.specs.Shapes.{boundary_of}
use Rattle.placement_model.specs.Reads.{EndWithin, read_at}
use Rattle.table_rules.specs.Opening.{Opens, placed_table}
use Rattle.table_rules.specs.Tables.{book_of}
use Rattle.move_cost.specs.Costs.{IsCost}
use Rattle.cost_laws.specs.Moves.{MovesNext, next_grid, rise}
use Rattle.cost_laws.specs.Paid.{ArePaid, AsksNext, IsPaid, IsWeighed}
use Rattle.cost_laws.proofs.PaidLaws.{cheap_call, paid_next}
use Rattle.cost_laws.proofs.PotentialPays.{grid_of_quiet, next_boundary_is, next_quiet_is}
use Rattle.flush_run.specs.Calls.{IsOpenRow}
use Rattle.store_model.specs.declared.answers.Refusal.{Refusal}
use Rattle.store_model.specs.declared.answers.Done.{Done}
use Rattle.store_model.specs.Changes.{ChangesQuietly}
use Rattle.store_model.specs.Connection.{StoreValue}
use Rattle.store_model.specs.Flushes.{ChangesByFlush, IsFlush}
use Rattle.store_model.specs.Quiet.{asked_after, charges_of, sizes_at}
use Rattle.store_model.specs.Stores.{IsStore}
use Rattle.store_costs.specs.Paid.{HasOpenLedger, HasPaid, StepIsPaidFor}
use Rattle.store_costs.proofs.AskedLaws.{asks_next, length-all_added}
use Rattle.store_costs.proofs.WeighedLaws.{same_charges, sized_now, weighed_now}

-- a file opens to one book
pub one_book : {classes size_max : ℕ} {file : List ℕ} {m n : Map} {b c : Book}
    → Opens classes size_max file m b → Opens classes size_max file n c → b ≡ c
one_book {classes} {size_max} {file} x y =
    let one : x.table ≡ y.table =
    (let both : Ok x.table ≡ Ok y.table = sym x.opens.read ∙ y.opens.read in cc) in
    x.opens.same_book
    ∙ ap (λ (t : choice.SlotTable). with_digests t.digests
    (book_of (placed_table classes size_max file t))) one
    ∙ sym y.opens.same_book

-- What a change did to a store's ledger, by the map that a file gives where the objects stood.
pub record IsNext (m : Map) (c : Change) (old new : StoreValue) : Type 0 where
  pub moves : MovesNext (next_book old.in_use.block.k m old.book c) (changed c m) old.moved new.moved
  pub asks : AsksNext m c old.asked new.asked
  pub full : length new.asked ≡ length old.asked

module _ {C : ℕ} (old : StoreValue) (h : IsStore C old) (base : ℕ) (file : List ℕ)
    (within : EndWithin base file old.now) (c : Change) where
  abbrev k : ℕ
  k = old.in_use.block.k

  abbrev m : Map
  m = read_at base file old.now

  is_next_quiet : (next_book k m old.book c).quiet ≡ is_quiet (charges_of old c)
  is_next_quiet = next_quiet_is k m old.book c ∙ ap is_quiet (same_charges old h base file within c)

  asks_for : (new : StoreValue) → new.asked ≡ asked_after old c → length old.asked ≡ width
      → IsOpenRow new.asked
      → AsksNext m c old.asked new.asked
  asks_for new asked full low = subst (AsksNext m c old.asked) (sym asked)
      (asks_next old m (sized_now old h base file within) c full (subst IsOpenRow asked low))

  as_long : (new : StoreValue) → new.asked ≡ asked_after old c → length new.asked ≡ length old.asked
  as_long new asked = ap length asked
      ∙ length-all_added old.asked (sizes_at (fin.get old.now c.name) ++ new_item c)

  -- ---- a quiet change

  module _ (new : StoreValue) (quiet : is_quiet (charges_of old c) ≡ true)
      (v : ChangesQuietly C c old new) where
    pub quiet_next : length old.asked ≡ width → HasOpenLedger new → IsNext m c old new
    quiet_next full low =
        let asked : new.asked ≡ asked_after old c = ap (λ (s : StoreValue). s.asked) v.rest in
        record {
          moves = record {
            quiet = λ q d. ap (λ (s : StoreValue). slice_index s.moved d) v.rest;
            flush = λ needs_flush. absurd (let bad : false ≡ true = sym needs_flush ∙ is_next_quiet
                ∙ quiet in cc);
          };
          asks = asks_for new asked full low.asked;
          full = as_long new asked;
        }

    pub quiet_grid : new.book.grid ≡ next_grid k m old.book c
    quiet_grid =
        let same = same_charges old h base file within c in
        ap (λ (s : StoreValue). s.book.grid) v.rest
        ∙ sym (grid_of_quiet k m old.book c (ap is_quiet same ∙ quiet) ∙ ap (λ (x : Charged). x.grid) same)

    pub quiet_divisor : new.in_use.block.k ≡ k
    quiet_divisor = ap (λ (s : StoreValue). s.in_use.block.k) v.rest

  -- ---- a flush

  module _ (new : StoreValue) (needs_flush : is_quiet (charges_of old c) ≡ false) (before now : disk.State)
      (result : Result Done Refusal) (f : IsFlush C c old new before now result)
      (v : ChangesByFlush c old new) where
    pub flush_next : length old.asked ≡ width → HasOpenLedger new → IsNext m c old new
    flush_next full low =
        let boundary : (next_book k m old.book c).boundary
        ≡ boundary_of (charges_of old c).grid (trigger (charges_of old c)) =
        next_boundary_is k m old.book c
        ∙ ap (λ (x : Charged). boundary_of x.grid (trigger x)) (same_charges old h base file within c) in
        record {
          moves = record {
            quiet = λ q. absurd (let bad : true ≡ false = sym q ∙ is_next_quiet ∙ needs_flush in cc);
            flush = λ _. record {
              later = f.most.later low.moved;
              below = λ d lower. f.lower d (omega (arith, lower, boundary));
              above = f.few_by_size m (sized_now old h base file within);
            };
          };
          asks = asks_for new v.asked full low.asked;
          full = as_long new v.asked;
        }

    pub flush_grid : new.book.grid ≡ next_grid k m old.book c
    flush_grid = ap (λ (b : Book). b.grid) (v.book m (sized_now old h base file within))

    pub flush_divisor : new.in_use.block.k ≡ k
    flush_divisor = ap (λ (b : SuperBlock). b.k) v.same_block

  -- ---- what is paid for

  module _ (new : StoreValue) (n : IsNext m c old new) (cost : ℕ → ℕ) (is : IsCost C cost) where
    w : IsWeighed C k cost m old.book
    w = weighed_now old h base file within cost is

    pub next_paid : ArePaid C k cost (rise old.moved new.moved) (rise old.asked new.asked) old.book.grid
        (next_grid k m old.book c)
    next_paid = cheap_call C k cost m old.book c w old.moved new.moved old.asked new.asked n.moves n.asks

    pub next_pays : new.book.grid ≡ next_grid k m old.book c → StepIsPaidFor C cost old new
    next_pays grid = subst
        (ArePaid C k cost (rise old.moved new.moved) (rise old.asked new.asked) old.book.grid)
        (sym grid) next_paid

    pub next_has_paid : (first : ℕ) → new.book.grid ≡ next_grid k m old.book c → new.in_use.block.k ≡ k
        → HasPaid C cost first old → HasPaid C cost first new
    next_has_paid first grid divisor paid = record {
      full = n.full ∙ paid.full;
      paid =
          let next : IsPaid C k cost first new.moved new.asked (next_grid k m old.book c) =
          paid_next C k cost m old.book c w first old.moved new.moved old.asked new.asked n.moves n.asks
          paid.paid in
          subst (λ (n : ℕ). IsPaid C n cost first new.moved new.asked new.book.grid) (sym divisor)
          (subst (IsPaid C k cost first new.moved new.asked) (sym grid) next);
    }
