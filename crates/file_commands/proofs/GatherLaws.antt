-- Lines that are gathered one after another, and put in pieces.
use Rattle.std.specs.Prelude.{◌≡◌, ℕ, ◌+◌, ◌-◌, ◌<◌, ◌≤◌, List, [], ◌∷◌, ◌++◌, length, take, drop, flat_map, slice_get, slice_index_or, Some, Result, Ok, Err}
use Rattle.std.proofs.Common.{arith, ap, sym, ◌∙◌, append_assoc, length-append, subst}
use Rattle.std.proofs.Math.Seq.{take-append-add}
use Rattle.std.proofs.lemmas.Grind.{flat_map-append}
use Rattle.std.proofs.lemmas.List.{append-nil, take-append-drop, take-append-le, take_all, take_more}
use Rattle.std.proofs.lemmas.Option.{get_or_from_slice_get, slice_get-get_or, slice_get_within}
use Rattle.byte_ranges.specs.Lists.{below}
use Rattle.byte_ranges.proofs.ListLaws.{below_at, length-below}
use Rattle.disk_face.specs.Streams.{Puts}
use Rattle.command_face.specs.declared.stop.StopReason.{StopReason}
use Rattle.file_commands.specs.Texts.{Gathers}

-- bytes that are gathered alone
pub pushed : (put piece after bytes : List ℕ) → after ≡ piece ++ bytes
    → Gathers put piece put after bytes (Ok tt)
pushed put piece after bytes is = record {
  all = (ap (λ (xs : List ℕ). put ++ xs) is, omega arith);
  front = tt;
}

-- a front of a front, where more was put since
module _ {put piece mid gathered x : List ℕ} (first : Gathers put piece mid gathered x (Ok tt)) where
  both : (more : List ℕ) → mid ++ (gathered ++ more) ≡ put ++ (piece ++ (x ++ more))
  both more = sym (append_assoc mid gathered more)
      ∙ ap (λ (xs : List ℕ). xs ++ more) first.all.0
      ∙ append_assoc put (piece ++ x) more
      ∙ ap (λ (xs : List ℕ). put ++ xs) (append_assoc piece x more)

  -- a front of what comes next is a front of all
  pub front_after : (more after : List ℕ) → (n : ℕ) × (n ≤ length (gathered ++ more))
      × (after ≡ mid ++ take n (gathered ++ more))
      → (m : ℕ) × (m ≤ length (piece ++ (x ++ more))) × (after ≡ put ++ take m (piece ++ (x ++ more)))
  front_after more after (n, low, is) =
      let m = length mid + n - length put in
      let size : length mid + length (gathered ++ more) ≡ length put + length (piece ++ (x ++ more)) =
      sym (length-append mid (gathered ++ more)) ∙ ap length (both more)
      ∙ length-append put (piece ++ (x ++ more)) in (
        m,
        omega (arith, first.all.1, low, size),
        is ∙ sym (take-append-add mid (gathered ++ more) n)
            ∙ ap (take (length mid + n)) (both more)
            ∙ ap (λ i. take i (put ++ (piece ++ (x ++ more))))
            (let e : length mid + n ≡ length put + m = omega (arith, first.all.1) in e)
            ∙ take-append-add put (piece ++ (x ++ more)) m,
      )

  pub gathered_then : {after piece_after y : List ℕ} (end : Result (Unit {0}) StopReason)
      → Gathers mid gathered after piece_after y end → Gathers put piece after piece_after (x ++ y) end
  gathered_then {after} {piece_after} {y} (Ok u) second = record {
    all = (second.all.0 ∙ both y, omega (arith, first.all.1, second.all.1));
    front = tt;
  }
  gathered_then {after} {piece_after} {y} (Err e) second = record {
    all = tt;
    front = front_after y after second.front;
  }

  -- the rest is put
  pub gathered_put : {after : List ℕ} (end : Result (Unit {0}) StopReason) → Puts mid after gathered end
      → Puts put after (piece ++ x) end
  gathered_put {after} (Ok u) puts = record { all = puts.all ∙ first.all.0; front = tt }
  gathered_put {after} (Err e) puts = record {
    all = tt;
    front =
        subst (λ (xs : List ℕ). (m : ℕ) × (m ≤ length (piece ++ xs)) × (after ≡ put ++ take m (piece ++ xs)))
        (append-nil x)
        (front_after [] after
        (subst (λ (xs : List ℕ). (n : ℕ) × (n ≤ length xs) × (after ≡ mid ++ take n xs))
        (sym (append-nil gathered)) puts.front));
  }

-- where the sink failed, a front was put of more bytes too
pub stopped_before : {put piece after piece_after x : List ℕ} (y : List ℕ) (why : StopReason)
    → Gathers put piece after piece_after x (Err why) → Gathers put piece after piece_after (x ++ y) (Err why)
stopped_before {put} {piece} {after} {piece_after} {x} y why first = record {
  all = tt;
  front = (
    first.front.0,
    omega (arith, first.front.1, length-append (piece ++ x) y, ap length (append_assoc piece x y)),
    first.front.2
        ∙ ap (λ (xs : List ℕ). put ++ xs)
        (sym (take-append-le first.front.0 (piece ++ x) y first.front.1)
        ∙ ap (take first.front.0) (append_assoc piece x y)),
  );
}

pub stopped_put : {put after piece_after x : List ℕ} (y : List ℕ) (why : StopReason)
    → Gathers put [] after piece_after x (Err why) → Puts {T = Unit {0}} put after (x ++ y) (Err why)
stopped_put y why first = record { all = tt; front = (stopped_before y why first).front }

-- ---- the lines of a list

module _ {A : Type 0} (line : A → List ℕ) (xs : List A) where
  lines_more : (n : ℕ) (x : A) → slice_get xs n ≡ Some x
      → flat_map line (take (n + 1) xs) ≡ flat_map line (take n xs) ++ line x
  lines_more n x is =
      let low : n < length xs = slice_get_within xs n x is in
      let one : slice_index_or xs n x ≡ x = get_or_from_slice_get xs n x x is in
      ap (flat_map line) (take_more xs n x low)
      ∙ flat_map-append line (take n xs) (slice_index_or xs n x ∷ [])
      ∙ ap (λ (ys : List ℕ). flat_map line (take n xs) ++ ys)
      (ap (λ (e : A). flat_map line (e ∷ [])) one ∙ append-nil (line x))

  -- one line more, once there is room for it
  pub line_more : {put piece mid gathered next room after : List ℕ} (n : ℕ) (x : A)
      → Gathers put piece mid gathered (flat_map line (take n xs)) (Ok tt)
      → Gathers mid gathered next room [] (Ok tt) → after ≡ room ++ line x → slice_get xs n ≡ Some x
      → Gathers put piece next after (flat_map line (take (n + 1) xs)) (Ok tt)
  line_more {put} {piece} {mid} {gathered} {next} {room} {after} n x so_far moved added there =
      subst (λ ys. Gathers put piece next after ys (Ok tt))
      (ap (λ (ys : List ℕ). ys ++ line x) (append-nil (flat_map line (take n xs)))
      ∙ sym (lines_more n x there))
      (gathered_then (gathered_then so_far (Ok tt) moved) (Ok tt) (pushed next room after (line x) added))

  -- the sink failed before a line
  pub line_stopped : {put piece mid gathered next room : List ℕ} (n : ℕ) (why : StopReason)
      → Gathers put piece mid gathered (flat_map line (take n xs)) (Ok tt)
      → Gathers mid gathered next room [] (Err why)
      → Gathers put piece next room (flat_map line xs) (Err why)
  line_stopped {put} {piece} {mid} {gathered} {next} {room} n why so_far moved =
      subst (λ ys. Gathers put piece next room ys (Err why))
      (ap (λ (ys : List ℕ). ys ++ flat_map line (drop n xs)) (append-nil (flat_map line (take n xs)))
      ∙ sym (flat_map-append line (take n xs) (drop n xs))
      ∙ ap (flat_map line) (take-append-drop n xs))
      (stopped_before (flat_map line (drop n xs)) why (gathered_then so_far (Err why) moved))

  -- all lines are there
  pub lines_all : {put piece mid gathered : List ℕ} (n : ℕ) → length xs ≤ n
      → Gathers put piece mid gathered (flat_map line (take n xs)) (Ok tt)
      → Gathers put piece mid gathered (flat_map line xs) (Ok tt)
  lines_all {put} {piece} {mid} {gathered} n end so_far =
      subst (λ ys. Gathers put piece mid gathered (flat_map line ys) (Ok tt)) (take_all n xs end) so_far

-- ---- the numbers from 0 on

pub got_below : (n i : ℕ) → i < n → slice_get (below n) i ≡ Some i
got_below n i h = slice_get-get_or (below n) i 0 (omega (arith, h, length-below n)) ∙ ap Some (below_at n i h)
