-- The numbers of a flush don't depend on the order in which its items are counted.
use Rattle.std.specs.Prelude.{◌≡◌, ℕ, ◌+◌, ◌/◌, max, List, ◌∷◌, Contains, IsPermutation, filter, refl}
use Rattle.std.proofs.Common.{arith, ap}
use Rattle.std.proofs.lemmas.List.Sorted.{Contains-permutation, IsPermutation-sym, sum_by-IsPermutation}
use Rattle.std.proofs.lemmas.List.Sums.{sum_by-cons}
use Rattle.size_class.specs.Classes.{width}
use Rattle.segment_layout.specs.Shapes.{end_of, start_of}
use Rattle.flush_model.specs.declared.item.Item.{Item}
use Rattle.flush_model.specs.Phases.{CanFlush}
use Rattle.flush_model.specs.Plans.{class_total, in_class, laid_length, numbers_of, object_of, stands_in_payload, total}
use Rattle.flush_model.proofs.FinalLaws.{class_total_is}
use Rattle.flush_model.proofs.LargestLaws.{largest-permuted}
use Rattle.flush_model.proofs.PlaceLaws.{segments_same}
use Rattle.flush_model.proofs.SortLaws.{apart_permuted, total_permuted}
use Rattle.flush_model.proofs.SumLaws.{same_numbers}

module _ (xs ys : List Item) (same : IsPermutation xs ys) where
  back : (it : Item) → Contains ys it → Contains xs it
  back it has = Contains-permutation ys xs it (IsPermutation-sym xs ys same) has

  pub flush_permuted : (k : ℕ) (caps : List ℕ) (b : ℕ) → CanFlush k caps b xs → CanFlush k caps b ys
  flush_permuted k caps b flush = record {
    classes = flush.classes;
    apart = apart_permuted xs ys same flush.apart;
    some = λ it has. flush.some it (back it has);
    class = λ it has. flush.class it (back it has);
    from = λ it has. flush.from it (back it has);
    stands = λ it has. flush.stands it (back it has);
  }

  class_with : (size d : ℕ) → class_total (object_of size ∷ ys) d ≡ class_total (object_of size ∷ xs) d
  class_with size d = omega (
    arith,
    class_total_is (object_of size ∷ ys) d,
    class_total_is (object_of size ∷ xs) d,
    sum_by-cons (in_class d) (object_of size) ys,
    sum_by-cons (in_class d) (object_of size) xs,
    sum_by-IsPermutation (in_class d) xs ys same,
  )

  -- the new layout is as long, and so all numbers are the same
  laid_with : (k size b : ℕ)
      → laid_length k (object_of size ∷ ys) b width ≡ laid_length k (object_of size ∷ xs) b width
  laid_with k size b = segments_same k (class_total (object_of size ∷ ys))
      (class_total (object_of size ∷ xs)) b width (λ d low high. class_with size d)

  pub numbers_permuted : (k : ℕ) (caps : List ℕ) (b pending : ℕ)
      → numbers_of k caps b ys pending ≡ numbers_of k caps b xs pending
  numbers_permuted k caps b pending =
      same_numbers (numbers_of k caps b ys pending) (numbers_of k caps b xs pending) refl refl wall slack
      reach end
    where
      end : (numbers_of k caps b ys pending).end ≡ (numbers_of k caps b xs pending).end
      end = ap (λ x. start_of k caps b + x) (laid_with k pending b)

      payload : total (filter (stands_in_payload k caps) ys) ≡ total (filter (stands_in_payload k caps) xs)
      payload = total_permuted xs ys same (stands_in_payload k caps)

      slack : (numbers_of k caps b ys pending).slack ≡ (numbers_of k caps b xs pending).slack
      slack = omega (arith, largest-permuted pending xs ys same, ap (λ x. x / k) payload)

      wall : (numbers_of k caps b ys pending).wall ≡ (numbers_of k caps b xs pending).wall
      wall = omega (arith, ap (max (end_of k caps)) end, slack)

      reach : (numbers_of k caps b ys pending).reach ≡ (numbers_of k caps b xs pending).reach
      reach = omega (arith, wall, payload, sum_by-IsPermutation (λ (it : Item). it.size) xs ys same)
