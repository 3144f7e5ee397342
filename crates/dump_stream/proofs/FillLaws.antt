-- A line, an object and a newline in a buffer, one behind another and behind what is held.
use Rattle.std.specs.Prelude.{◌≡◌, ℕ, ◌+◌, ◌-◌, ◌<◌, List, [], ◌∷◌, ◌++◌, length, take, drop, slice_set}
use Rattle.std.proofs.Common.{arith, ap, sym, ◌∙◌, append_assoc, length-drop}
use Rattle.std.proofs.lemmas.List.{length-take-le, take_more_set}
use Rattle.std.proofs.lemmas.Slice.{between-put_mid, take-put_mid, take-put_mid_below}
use borrow.Rule.Slice.PartMut.{put_mid, same_len_mid}

module _ (buf line copied part : List ℕ) (held size : ℕ) (room : held + length line + size < length buf)
    (same : copied ≡ line) where
  abbrev n : ℕ
  n = held + length line

  abbrev j : ℕ
  j = n - held

  abbrev k : ℕ
  k = n + size - n

  -- the buffer with the line in its place
  abbrev before : List ℕ
  before = put_mid held j buf copied

  line_long : length (take j (drop held buf)) ≡ length line
  line_long = length-take-le j (drop held buf) (omega (arith, length-drop held buf, room)) ∙ omega arith

  before_long : length before ≡ length buf
  before_long = same_len_mid held j buf copied (ap length same ∙ sym line_long)

  -- the part that is read into
  pub part_long : length (take k (drop n before)) ≡ size
  part_long = length-take-le k (drop n before) (omega (arith, length-drop n before, before_long, room))
      ∙ omega arith

  module _ (read : length part ≡ length (take k (drop n before))) where
    long : length part ≡ size
    long = read ∙ part_long

    pub part_is : take k (drop n (put_mid n k before part)) ≡ part
    part_is = between-put_mid n k before part (n + size) (omega (arith, before_long, room))
        (omega (arith, long))

    put_long : n + size < length (put_mid n k before part)
    put_long = omega (
      arith,
      same_len_mid n k before part read,
      before_long,
      room,
    )

    -- what is held stays
    pub held_stays : take held (put_mid n k before part) ≡ take held buf
    held_stays =
        take-put_mid_below n k before part held (omega arith) (omega (arith, before_long, room))
        ∙ take-put_mid_below held j buf copied held (omega arith) (omega (arith, room))

    pub filled : take (n + size + 1) (slice_set (put_mid n k before part) (n + size) 10)
        ≡ take held buf ++ (line ++ (part ++ 10 ∷ []))
    filled =
        take_more_set (put_mid n k before part) (n + size) 10 put_long
        ∙ ap (λ (xs : List ℕ). xs ++ 10 ∷ []) (take-put_mid n k before part (n + size) (omega (arith, long))
        (omega (arith, before_long, room))
        ∙ ap (λ (xs : List ℕ). xs ++ part) (take-put_mid held j buf copied n (omega (arith, ap length same))
        (omega (arith, room))
        ∙ ap (λ (xs : List ℕ). take held buf ++ xs) same))
        ∙ append_assoc (take held buf ++ line) part (10 ∷ [])
        ∙ append_assoc (take held buf) line (part ++ 10 ∷ [])
