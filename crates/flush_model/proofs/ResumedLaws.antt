-- The numbers of a flush that goes on after it was interrupted.
use Rattle.std.specs.Prelude.{◌≡◌, ℕ, ◌+◌, ◌^◌, ◌<◌, ◌≤◌, List, slice_index, Contains, refl}
use Rattle.std.proofs.Common.{arith, sym, ◌∙◌, inl, inr}
use Rattle.std.proofs.lemmas.Bool.{cases_lt}
use Rattle.size_class.specs.Classes.{IsRow, width}
use Rattle.segment_layout.specs.Shapes.{start_of}
use Rattle.flush_model.specs.declared.item.Item.{Item}
use Rattle.flush_model.specs.declared.item.Numbers.{Numbers}
use Rattle.flush_model.specs.Phases.{AreObjects, IsPacking, PlanState, phase_of}
use Rattle.flush_model.specs.Plans.{AreBelow, AreSmall, ItemsCanResume, class_total, laid_length, segments_length}
use Rattle.flush_model.specs.Resumed.{numbers_again}
use Rattle.flush_model.proofs.PhaseLaws.{packing_resumes}
use Rattle.flush_model.proofs.PlaceLaws.{segments_same, totals_low}
use Rattle.flush_model.proofs.SettledLaws.{class_total_none}

module _ (C k : ℕ) (caps : List ℕ) (b wall slack : ℕ) (items : List Item) (fits : C ≤ width) (low : b < C)
    (objects : AreObjects b items) (can : ItemsCanResume k (numbers_again k caps b wall slack items) items)
    (classes : AreBelow C items) (small : AreSmall (numbers_again k caps b wall slack items) items) where
  abbrev n : Numbers
  n = numbers_again k caps b wall slack items

  abbrev p : PlanState
  p = phase_of k caps n 0 items

  packing : IsPacking p
  packing = packing_resumes p objects can (record {
    boundary = omega (arith, low, fits);
    start = refl;
    end = refl;
  }) (omega arith)

  pub totals_again : (it : Item) → Contains items it → class_total items it.class < 2 ^ 64
  totals_again = totals_low C p fits packing classes small

  module _ (volumes : List ℕ) (row : IsRow C volumes)
      (totals : (c : ℕ) → c < C → slice_index volumes c ≡ class_total items c) where
    pub length_again : segments_length k (slice_index volumes) b width ≡ laid_length k items b width
    length_again = segments_same k (slice_index volumes) (class_total items) b width each
      where
        each : (d : ℕ) → b ≤ d → d < width → slice_index volumes d ≡ class_total items d
        each d from under = elim (cases_lt d C) [
          | inl has ↦ totals d has
          | inr past ↦ row.zero_above d past
              ∙ sym (class_total_none items d (λ it there e. omega (arith, classes it there, e, past)))
        ]

    pub end_fits_again : start_of k caps b + segments_length k (slice_index volumes) b width < 2 ^ 64
    end_fits_again = omega (arith, can.wall, small.0, length_again)
