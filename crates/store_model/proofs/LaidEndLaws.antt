-- The end of a layout: its book is balanced, so that it is in proportion to the bytes that it holds, and
-- these are few.
use Rattle.std.specs.Prelude.{◌≡◌, ℕ, ◌+◌, ◌-◌, ◌*◌, ◌≤◌, false, T, List, [], ◌∷◌, map, replicate, slice_index_or, refl}
use Rattle.std.proofs.Common.{arith, sym, subst}
use Rattle.std.proofs.Math.Nat.{le_of_mul-le-mul_left, mul-le-mul_left, mul-le-mul_right}
use Rattle.std.proofs.lemmas.List.{length-replicate}
use Rattle.std.specs.Ordering.{is_eq, is_lt}
use Rattle.std.specs.declared.cmp.Ordering.{Ordering}
use Rattle.std.specs.declared.cmp.Ordering.TheVariants.{Less, Equal, Greater}
use Rattle.std.specs.FinMap as fin
use Rattle.std.specs.FinMap.Entries.{below_all, is_sorted}
use Rattle.size_class.specs.declared.TheConstants.{SIZE_MAX}
use Rattle.slot_codec.specs.Names.{name_cmp}
use Rattle.segment_layout.specs.Bounds.{Tight}
use Rattle.segment_layout.specs.Balance.{IsBalanced}
use Rattle.segment_layout.specs.Shapes.{end_of}
use Rattle.segment_layout.proofs.TightLaws.{tight}
use Rattle.table_rules.specs.Objects.{HaveDistinctNames, IsAbsent, LieWithin}
use Rattle.table_rules.specs.Tables.{no_record}
use Rattle.table_rules.proofs.FileLaws.{balanced_of_table}
use Rattle.extent_table.specs.declared.spot.Spot.{Spot}
use Rattle.extent_table.specs.Extents.{Spots, record_of, records_of, volume_of}
use Rattle.extent_table.proofs.ExtentLaws.{records_of-all}
use Rattle.placement_model.specs.LaidOut.{IsLaidOut, shown_book}
use Rattle.placement_model.specs.Laid.{settled_table}
use Rattle.placement_model.specs.Limits.{most_bytes}
use Rattle.placement_model.specs.Reads.{AreNamed, EndWithin, read_at}
use Rattle.map_model.proofs.MapLaws.{first_of_both, second_of_both}
use Rattle.placement_model.proofs.LaidOutLaws.{full_rows, laid_places, laid_within}
use Rattle.placement_model.proofs.ReadLaws.{spot_of_record}
use Rattle.placement_model.proofs.ShownLaws.{book_shown}
use Rattle.placement_model.proofs.VolumeLaws.{volume_small}
use Rattle.store_model.proofs.SizedLaws.{sized_read, sized_volume}

-- ---- the names of records differ

less_not_tied : (o : Ordering) → T (is_lt o) → is_eq o ≡ false
less_not_tied Less is = refl
less_not_tied Equal is = absurd is
less_not_tied Greater is = refl

absent : (q : List ℕ) (es : List (List ℕ × Spot)) → T (below_all name_cmp q es)
    → IsAbsent q (map record_of es)
absent q [] low = tt
absent q (e ∷ es) low = (
  less_not_tied (name_cmp q e.0) (first_of_both (is_lt (name_cmp q e.0)) (below_all name_cmp q es) low),
  absent q es (second_of_both (is_lt (name_cmp q e.0)) (below_all name_cmp q es) low),
)

differ : (es : List (List ℕ × Spot)) → T (is_sorted name_cmp es) → HaveDistinctNames (map record_of es)
differ [] sorted = tt
differ (e ∷ es) sorted = (
  absent e.0 es (first_of_both (below_all name_cmp e.0 es) (is_sorted name_cmp es) sorted),
  differ es (second_of_both (below_all name_cmp e.0 es) (is_sorted name_cmp es) sorted),
)

pub names_differ_all : (spots : Spots) → AreNamed spots → HaveDistinctNames (records_of spots)
names_differ_all spots named = subst HaveDistinctNames (sym (records_of-all spots named))
    (differ (fin.entries spots) (fin.entries_sorted spots))

-- records lie where their spots do
pub records_lie : (base : ℕ) (file : List ℕ) (spots : Spots) → AreNamed spots → EndWithin base file spots
    → LieWithin base file (records_of spots)
records_lie base file spots named within i low =
    let s = spot_of_record spots named i low in
    omega (
      arith,
      within (slice_index_or (records_of spots) i no_record).name s.spot s.is,
      s.same_place,
      s.same_size,
    )

-- ---- the end

-- where the longest layout ends, or before
abbrev pub most_end : ℕ
most_end = 3 * most_bytes

module _ (classes size_max k : ℕ) (caps : List ℕ) (grid : List (List ℕ)) (spots : Spots)
    (h : IsLaidOut classes size_max k caps grid spots) where
  -- the book that a layout shows of its objects is balanced
  pub shown_balanced : (base : ℕ) (file : List ℕ) → EndWithin base file spots
      → IsBalanced k (read_at base file spots) (shown_book classes size_max k caps grid spots)
  shown_balanced base file within =
      subst (IsBalanced k (read_at base file spots)) (book_shown classes size_max k caps grid spots h)
      (balanced_of_table (settled_table classes size_max k caps grid spots) base file
      (full_rows classes size_max k caps grid spots h) (laid_places classes size_max k caps grid spots h)
      h.few
      (names_differ_all spots h.named) (records_lie base file spots h.named within))

  -- a file of zeros is long enough
  abbrev pub blank : List ℕ
  blank = replicate (end_of k caps) 0

  pub in_blank : EndWithin 0 blank spots
  in_blank = laid_within classes size_max k caps grid spots h 0 blank
      (omega (arith, length-replicate {A = ℕ} (end_of k caps) 0))

  pub laid_tight : (k - 1) * end_of k caps ≤ (k + 1) * volume_of spots
  laid_tight =
      let bound : Tight k (end_of k caps) (read_at 0 blank spots) = tight k (read_at 0 blank spots)
      (shown_book classes size_max k caps grid spots) (shown_balanced 0 blank in_blank) in
      subst (λ (v : ℕ). (k - 1) * end_of k caps ≤ (k + 1) * v)
      (sized_volume (read_at 0 blank spots) spots (sized_read 0 blank spots h.named in_blank)) bound

  -- it ends at most at three times its bytes
  laid_end : 2 ≤ k → end_of k caps ≤ 3 * volume_of spots
  laid_end low =
      let v = volume_of spots in
      let most : k + 1 ≤ 3 * (k - 1) = omega (arith, low) in
      le_of_mul-le-mul_left {m = end_of k caps} {n = 3 * v} {k = k - 1}
      (omega (arith, laid_tight, mul-le-mul_right v most)) (omega (arith, low))

  -- a layout of few objects ends here, or before
  pub end_small : (names : ℕ) → 2 ≤ k → names ≤ 65536 → size_max ≤ SIZE_MAX → fin.len spots ≤ names
      → end_of k caps ≤ most_end
  end_small names low most small few = omega (
    arith,
    laid_end low,
    volume_small classes size_max k caps grid spots h names few,
    mul-le-mul_right size_max most,
    mul-le-mul_left 65536 small,
  )
