-- The first line of a dump: it is short, has no newline, and tells of a layout that ends below 2^47.
use Rattle.std.specs.Prelude.{◌≡◌, ◌⊎◌, ℕ, zero, suc, ◌+◌, ◌*◌, ◌^◌, ◌<◌, ◌≤◌, List, [], ◌∷◌, ◌++◌, codes, flat_map, length, slice_index, take, refl}
use Rattle.std.proofs.Common.{arith, ap, sym, ◌∙◌, inl, inr, subst, append_assoc, length-append}
use Rattle.std.proofs.Math.Nat.{mul-le-mul_right}
use Rattle.std.proofs.lemmas.Bool.{cases_lt}
use Rattle.std.proofs.lemmas.List.Sums.{sum_by_more}
use Rattle.std.specs.Fmt.{decimal}
use Rattle.size_class.specs.declared.TheConstants.{CLASSES}
use Rattle.size_class.specs.Classes.{width, zero_grid}
use Rattle.size_class.proofs.ClassLaws.{power_rises, zero_grid-cell}
use Rattle.segment_layout.specs.Shapes.{IsShape, buffer_of, end_of, start_of}
use Rattle.segment_layout.proofs.LayoutLaws.{taken_nothing}
use Rattle.segment_layout.proofs.ShapeLaws.{buffer_of-le, end_of-rest}
use Rattle.ask_text.proofs.Cuts.{cut_once, lacks-append, lacks-decimal}
use Rattle.ask_lines.specs.Lines.{Lacks}
use Rattle.ask_lines.proofs.LineLaws.{no_front}
use Rattle.load_stream.specs.Loaded.{TellsTooMany}
use Rattle.dump_stream.specs.Heads.{IsHead, TellsNothing, head_line, room_of, volume_text}
use Rattle.dump_stream.specs.Loading.{BeginsNone}
use Rattle.dump_stream.proofs.CutLaws.{AreNumbers}
use Rattle.dump_stream.proofs.HeadLaws.{volume_numbers}
use Rattle.dump_stream.proofs.WriteLaws.{few_digits, few_volume_digits, room_in, volumes_one}

none_taken : (vs : List ℕ) → take 0 vs ≡ []
none_taken [] = refl
none_taken (v ∷ vs) = refl

numbers_lack : (vs : List ℕ) → AreNumbers vs → Lacks 10 (flat_map volume_text vs)
numbers_lack [] small = tt
numbers_lack (v ∷ vs) small =
    lacks-append 10 (volume_text v) (flat_map volume_text vs)
    (lacks-append 10 (codes " ") (decimal v) ((λ is. omega (arith, is)), tt)
    (lacks-decimal 10 (omega arith) v small.0))
    (numbers_lack vs small.1)

module _ {C count : ℕ} {vs : List ℕ} (few : C ≤ width) (h : IsHead C count vs) where
  volumes_short : (c : ℕ) → c ≤ C → 10 + length (flat_map volume_text (take c vs)) ≤ room_of c
  volumes_short zero low = omega (
    arith,
    ap (λ (xs : List ℕ). length (flat_map volume_text xs))
        (none_taken vs),
  )
  volumes_short (suc c) low =
      let v = slice_index vs c in
      let one : suc c ≡ c + 1 = omega arith in
      omega (
        arith,
        ap (λ n. length (flat_map volume_text (take n vs))) one,
        ap length (volumes_one c vs (omega (arith, low, few, h.row.full))),
        length-append (flat_map volume_text (take c vs)) (codes " " ++ decimal v),
        length-append (codes " ") (decimal v),
        volumes_short c (omega (arith, low)),
        few_volume_digits count c v h.few (omega (arith, low, few)) (h.bounds c (omega (arith, low))),
        ap room_of one,
      )

  pub head_short : length (head_line C count vs) < 512
  head_short = omega (
    arith,
    length-append (codes "dump " ++ decimal count) (flat_map volume_text (take C vs)),
    length-append (codes "dump ") (decimal count),
    few_digits count h.few,
    volumes_short C (omega arith),
    room_in C few,
  )

  pub head_lacks : Lacks 10 (head_line C count vs)
  head_lacks = lacks-append 10 (codes "dump " ++ decimal count) (flat_map volume_text (take C vs))
      (lacks-append 10 (codes "dump ") (decimal count) (
        (λ is. omega (arith, is)),
        (
          (λ is. omega (arith, is)),
          (
            (λ is. omega (arith, is)),
            ((λ is. omega (arith, is)), ((λ is. omega (arith, is)), tt)),
          ),
        ),
      )
      (lacks-decimal 10 (omega arith) count (omega (arith, h.few))))
      (numbers_lack (take C vs) (volume_numbers few h))

head_text : (C count : ℕ) (vs rest : List ℕ) → head_line C count vs ++ codes "\n" ++ rest
    ≡ head_line C count vs ++ 10 ∷ rest
head_text C count vs rest = append_assoc (head_line C count vs) (codes "\n") rest

-- there is no newline among the first bytes
pub no_first : (C : ℕ) → C ≤ width → (input line now : List ℕ) → Lacks 10 line → input ≡ line ++ now
    → (512 ≤ length line) ⊎ (now ≡ []) → BeginsNone C input
no_first C few input line now lacks is far count b =
    let whole : line ++ now ≡ head_line C count b.volumes ++ 10 ∷ b.rest =
    sym is ∙ b.whole ∙ head_text C count b.volumes b.rest in
    no_front line now (head_line C count b.volumes) b.rest lacks (short far whole) whole
  where
    short : (512 ≤ length line) ⊎ (now ≡ []) → line ++ now ≡ head_line C count b.volumes ++ 10 ∷ b.rest
        → length (head_line C count b.volumes) < length line
    short (inl long) w = omega (arith, long, head_short few b.head)
    short (inr none) w = omega (
      arith,
      ap length w,
      length-append line now,
      ap length none,
      length-append (head_line C count b.volumes) (10 ∷ b.rest),
    )

-- the line tells nothing
pub no_head : (C : ℕ) → C ≤ width → (input line now : List ℕ) → Lacks 10 line → input ≡ line ++ 10 ∷ now
    → TellsNothing C line → BeginsNone C input
no_head C few input line now lacks is none count b =
    let cut = cut_once 10 line (head_line C count b.volumes) now b.rest lacks (head_lacks few b.head)
    (sym is ∙ b.whole ∙ head_text C count b.volumes b.rest) in
    none count b.volumes (record { same = cut.0; head = b.head })

-- ---- the layout

powers : (c : ℕ) → 2 ^ (c + 1 + 1) ≡ 2 * 2 ^ (c + 1)
powers c = let e : c + 1 + 1 ≡ suc (c + 1) = omega arith in ap (λ n. 2 ^ n) e ∙ omega arith

module _ {C count : ℕ} {vs : List ℕ} (k : ℕ) (few : C ≤ width) (h : IsHead C count vs) where
  starts_low : (c : ℕ) → c ≤ C → start_of k vs c ≤ 131072 * 2 ^ (c + 1)
  starts_low zero low = omega (arith, ap (end_of k) (none_taken vs))
  starts_low (suc c) low =
      let v = slice_index vs c in
      let one : suc c ≡ c + 1 = omega arith in
      let most : v ≤ 65536 * 2 ^ (c + 1) =
      omega (arith, h.bounds c (omega (arith, low)), mul-le-mul_right (2 ^ (c + 1)) h.few) in
      omega (
        arith,
        ap (λ n. start_of k vs n) one,
        ap (λ n. 131072 * 2 ^ (n + 1)) one,
        sum_by_more (λ v. v + buffer_of k v) vs c 0 (omega (arith, low, few, h.row.full)),
        buffer_of-le k v,
        most,
        starts_low c (omega (arith, low)),
        powers c,
      )

  pub shape_of_head : 2 ≤ k → k ≤ 64 → C ≤ CLASSES → IsShape C k vs zero_grid
  shape_of_head low high classes = record {
    k_low = low;
    k_high = high;
    caps_high = λ c. small c;
    rows = λ j. omega (arith, taken_nothing zero_grid j (zero_grid-cell j));
    lower = λ j c _. zero_grid-cell j c;
  }
    where
      small : (c : ℕ) → slice_index vs c < 2 ^ 48
      small c = elim (cases_lt c C) [
        | inr past ↦ omega (arith, h.row.zero_above c past)
        | inl within ↦ omega (
          arith,
          h.bounds c within,
          mul-le-mul_right (2 ^ (c + 1)) h.few,
          power_rises (c + 1) CLASSES (omega (arith, within, classes)),
        )
      ]

  pub end_of_head : C ≤ CLASSES → end_of k vs < 2 ^ 47
  end_of_head classes = omega (
    arith,
    end_of-rest k vs C h.row.zero_above,
    starts_low C (omega arith),
    power_rises (C + 1) 28 (omega (arith, classes)),
  )

-- ---- more objects than names

pub too_many : (names : ℕ) (input rest : List ℕ) (count n : ℕ) (volumes : List ℕ)
    → IsHead CLASSES count volumes → input ≡ head_line CLASSES count volumes ++ 10 ∷ rest → names < count
    → count ≡ n → TellsTooMany names input n
too_many names input rest count n volumes head is more same = subst (TellsTooMany names input) same (record {
  begins = record {
    volumes = volumes;
    rest = rest;
    head = head;
    whole = is ∙ sym (append_assoc (head_line CLASSES count volumes) (codes "\n") rest);
  };
  more = more;
})
