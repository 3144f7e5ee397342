-- What a store moved is paid for as it is opened, and after each of its calls.
use Rattle.std.specs.Prelude.{◌≡◌, ℕ, zero, suc, ◌+◌, ◌-◌, ◌*◌, ◌≤◌, List, [], ◌∷◌, ◌++◌, length, replicate, take, Ok, refl}
use Rattle.std.proofs.Common.{arith, sym, ◌∙◌, ap, subst, inl, inr}
use Rattle.disk_face.specs.States as disk
use Rattle.size_class.specs.Classes.{width, zero_grid, zero_row}
use Rattle.size_class.specs.declared.TheConstants.{SIZE_MAX}
use Rattle.size_class.proofs.ClassLaws.{length-zero_row}
use Rattle.slot_codec.specs.Choice as choice
use Rattle.slot_pair.specs.Formats.{HasFirstTable, first_header, first_table}
use Rattle.segment_layout.specs.Books.{Book}
use Rattle.segment_layout.specs.Shapes.{settled_grid}
use Rattle.table_rules.specs.Opening.{Opens, placed_table}
use Rattle.table_rules.specs.Tables.{book_of}
use Rattle.move_cost.specs.Costs.{IsCost, factor, potential, weigh}
use Rattle.cost_laws.specs.Paid.{IsPaid}
use Rattle.cost_laws.specs.Sessions.{IsPaidFor}
use Rattle.cost_laws.proofs.PaidLaws.{paid_first, potential_none}
use Rattle.store_model.specs.Connection.{IsOver, StoreValue, kept_map}
use Rattle.store_model.specs.Opened.{IsFresh, IsOpened}
use Rattle.store_model.specs.States.{State}
use Rattle.store_model.specs.Stores.{IsStore}
use Rattle.store_costs.specs.Calls.{IsCall, Session}
use Rattle.store_costs.specs.Paid.{HasPaid, account_of}
use Rattle.store_costs.proofs.ChangeLaws.{change_has_paid, nothing_has_paid, same_moves_nothing}
use Rattle.store_costs.proofs.MadeLaws.{one_book}
use Rattle.store_costs.proofs.OtherLaws.{back_has_less, back_has_paid, keep_moves_nothing}
use Rattle.store_costs.proofs.WeighedLaws.{kept_by_file, none_fell, weighed_by_file}

-- ---- as a session begins

pub opened_has_paid : (C : ℕ) (cost : ℕ → ℕ) (s : StoreValue) → IsFresh C s
    → HasPaid C cost (potential C cost s.in_use.block.k s.book.grid) s
opened_has_paid C cost s fresh =
    let k = s.in_use.block.k in
    let first = potential C cost k s.book.grid in
    record {
      full = subst (λ (row : List ℕ). length row ≡ width) (sym fresh.asked) length-zero_row;
      paid = subst (λ (row : List ℕ). IsPaid C k cost first row s.asked s.book.grid) (sym fresh.moved)
          (subst (λ (row : List ℕ). IsPaid C k cost first zero_row row s.book.grid) (sym fresh.asked)
          (paid_first C k cost s.book.grid));
    }

-- the first header has taken nothing of any buffer
first_rows : (z : List ℕ) (n b : ℕ) → b ≤ n → take b (replicate n z) ++ replicate (n - b) z ≡ replicate n z
first_rows z n zero low =
    let all : n - 0 ≡ n = omega arith in
    ap (λ (x : ℕ). replicate x z) all
first_rows z zero (suc b) low = absurd (omega (arith, low))
first_rows z (suc n) (suc b) low =
    let left : suc n - suc b ≡ n - b = omega arith in
    ap (λ (x : ℕ). z ∷ (take b (replicate n z) ++ replicate x z)) left
    ∙ ap (λ (rows : List (List ℕ)). z ∷ rows) (first_rows z n b (omega (arith, low)))

first_grid : first_header.used ≡ zero_grid
unfolding first_header zero_grid zero_row
first_grid = refl

settled_nothing : (C : ℕ) → C ≤ width → settled_grid C zero_grid ≡ zero_grid
unfolding zero_grid
settled_nothing C low = first_rows zero_row width C low

its_grid : (C : ℕ) (file : List ℕ) (k names : ℕ)
    → (book_of (placed_table C SIZE_MAX file (first_table k names))).grid ≡ settled_grid C first_header.used
unfolding first_header
its_grid C file k names = refl

none_taken : (C : ℕ) (file : List ℕ) (k names : ℕ) → C ≤ width
    → (book_of (placed_table C SIZE_MAX file (first_table k names))).grid ≡ zero_grid
none_taken C file k names low = its_grid C file k names ∙ ap (settled_grid C) first_grid
    ∙ settled_nothing C low

-- a store that nothing was put in yet has no potential
pub formatted_has_paid : (C : ℕ) (cost : ℕ → ℕ) (k names : ℕ) (s : StoreValue) (file now : List ℕ)
    → HasFirstTable k names file → IsFresh C s → IsOpened C file now s → HasPaid C cost 0 s
formatted_has_paid C cost k names s file now first fresh o =
    let divisor = s.in_use.block.k in
    let one : o.table ≡ first_table k names =
    (let both : Ok o.table ≡ Ok (first_table k names) = sym o.found.read ∙ first.table in cc) in
    let grid : s.book.grid ≡ zero_grid =
    ap (λ (t : State). t.book.grid) o.state ∙ ap (λ (b : Book). b.grid) o.found.same_book
    ∙ ap (λ (t : choice.SlotTable). (book_of (placed_table C SIZE_MAX file t)).grid) one
    ∙ none_taken C file k names fresh.store.now.few in
    let none : potential C cost divisor s.book.grid ≡ 0 =
    ap (potential C cost divisor) grid ∙ potential_none C divisor cost in
    subst (λ (n : ℕ). HasPaid C cost n s) none (opened_has_paid C cost s fresh)

-- ---- after each call

module _ {D : Type 0} (state : D → disk.State) (C : ℕ) (cost : ℕ → ℕ) (is : IsCost C cost) where
  pub call_has_paid : (first : ℕ) (old new : StoreValue) → IsCall state C old new → HasPaid C cost first old
      → HasPaid C cost first new
  call_has_paid first old new call paid = elim call as (λ _. HasPaid C cost first new) [
    | inl x ↦ change_has_paid x.c old new (state x.before) (state x.now) x.result x.counted.call
        x.counted.fine x.counted.sound x.counted.full x.counted.counts cost is first paid
    | inr others ↦ elim others as (λ _. HasPaid C cost first new) [
      | inl x ↦ nothing_has_paid C cost first old new
          (keep_moves_nothing old new (state x.before) (state x.now) x.result x.call) paid
      | inr rest ↦ elim rest as (λ _. HasPaid C cost first new) [
        | inl x ↦ subst (λ (s : StoreValue). HasPaid C cost first s) (sym x.back)
            (back_has_paid old cost first x.store paid)
        | inr same ↦ nothing_has_paid C cost first old new (same_moves_nothing old new same) paid
      ]
    ]
  ]

  pub calls_have_paid : (first : ℕ) (s : StoreValue) (between : List StoreValue) (t : StoreValue)
      → Session state C s between t
      → HasPaid C cost first s → HasPaid C cost first t
  calls_have_paid first s [] t session paid = subst (λ (x : StoreValue). HasPaid C cost first x)
      (sym session) paid
  calls_have_paid first s (mid ∷ rest) t session paid =
      calls_have_paid first mid rest t session.1 (call_has_paid first s mid session.0 paid)

  pub session_pays : (s : StoreValue) (between : List StoreValue) (t : StoreValue) → IsFresh C s
      → Session state C s between t
      → HasPaid C cost (potential C cost s.in_use.block.k s.book.grid) t
  session_pays s between t fresh session =
      calls_have_paid (potential C cost s.in_use.block.k s.book.grid) s between t session
      (opened_has_paid C cost s fresh)

  -- so all that was asked of a newly formatted file pays for all that was moved
  pub formatted_pays : (k names : ℕ) (s : StoreValue) (file now : List ℕ) (between : List StoreValue)
      (t : StoreValue)
      → HasFirstTable k names file → IsFresh C s → IsOpened C file now s → Session state C s between t
      → weigh C cost t.moved ≤ factor t.in_use.block.k * weigh C cost t.asked
  formatted_pays k names s file now between t first fresh o session =
      let paid = calls_have_paid 0 s between t session
      (formatted_has_paid C cost k names s file now first fresh o) in
      omega (arith, paid.paid)

-- ---- at any time

pub in_all : (C : ℕ) (cost : ℕ → ℕ) (first : ℕ) (s : StoreValue) → HasPaid C cost first s
    → weigh C cost s.moved ≤ factor s.in_use.block.k * weigh C cost s.asked + first
in_all C cost first s paid = omega (arith, paid.paid)

pub both_books_paid : (C : ℕ) (cost : ℕ → ℕ) (first : ℕ) (s : StoreValue) (file : List ℕ) → IsCost C cost
    → IsStore C s → IsOver C s file → HasPaid C cost first s
    → IsPaidFor C s.in_use.block.k cost first (account_of s file)
both_books_paid C cost first s file is h over paid = record {
  weighed = weighed_by_file s file cost h over is;
  kept_weighed = kept_by_file s file cost h over is;
  rises = none_fell s h;
  paid = paid.paid;
}

-- ---- one session after another

-- a store that is opened on the file of an earlier one begins with the book of its checkpoint
pub opened_again : (C : ℕ) (s t : StoreValue) (file now : List ℕ) → IsOver C s file → IsOpened C file now t
    → t.book ≡ s.kept_book
opened_again C s t file now over o =
    let found : Opens C SIZE_MAX file o.m o.b = record { table = o.table; opens = o.found } in
    let saved : Opens C SIZE_MAX file (kept_map s file) s.kept_book =
    record { table = over.table; opens = over.checkpoint.opens } in
    ap (λ (x : State). x.book) o.state ∙ one_book found saved

pub sessions_add : (C : ℕ) (cost : ℕ → ℕ) (first : ℕ) (s t : StoreValue) → IsStore C s
    → HasPaid C cost first s
    → t.in_use.block.k ≡ s.in_use.block.k
    → HasPaid C cost (potential C cost s.in_use.block.k s.kept_book.grid) t
    → weigh C cost s.moved + weigh C cost t.moved + potential C cost t.in_use.block.k t.book.grid
    ≤ factor s.in_use.block.k * (weigh C cost s.asked + weigh C cost t.asked) + first
sessions_add C cost first s t h paid same later =
    let k = s.in_use.block.k in
    let last : weigh C cost t.moved + potential C cost t.in_use.block.k t.book.grid
    ≤ factor k * weigh C cost t.asked + potential C cost k s.kept_book.grid =
    omega (arith, later.paid, ap (λ (n : ℕ). factor n * weigh C cost t.asked) same) in
    omega (arith, paid.paid, last, back_has_less s cost h)
