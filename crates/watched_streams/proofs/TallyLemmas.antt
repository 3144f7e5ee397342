-- The first line of a reply that announces an object or a list is that of no other reply; and newlines are
-- counted from the last byte on.
use Rattle.std.proofs.Common.{◌≡◌, ◌∙◌, ◌<◌, ◌+◌, ◌^◌, ◌++◌, ℕ, List, [], ◌∷◌, ◌-◌, ◌≤◌, Bool, length, take, drop, take-append-drop, get_or, ap, sym, arith, if◌then◌else◌, nat_eq}
use Rattle.std.proofs.Math.Seq.{drop-length}
use Rattle.std.proofs.lemmas.List.{append_cancel_left, append_cancel_right, at_drop_more}
use Rattle.std.proofs.lemmas.Fmt.{decimal_injective}
use Rattle.std.specs.Fmt.{decimal}
use Rattle.std.specs.Prelude.{codes}
use Rattle.ask_text.specs.Replies.{IsTold, first_line}
use Rattle.ask_text.specs.declared.reply.Reply.{Reply}
use Rattle.ask_text.specs.declared.reply.Reply.TheVariants as head
use Rattle.disk_face.specs.Counts.{counted}
use Rattle.watched_streams.specs.Tallies.{lines_in, tallied}
use Rattle.watched_streams.specs.declared.tally.Tally.{Tally}

-- the first byte, or 0
abbrev first : List ℕ → ℕ
first xs = get_or xs 0 0

-- two lines of the same words in front have the same number
same_number : (front : List ℕ) (m n : ℕ) → m < 2 ^ 64 → n < 2 ^ 64
    → front ++ decimal m ++ codes "\n" ≡ front ++ decimal n ++ codes "\n" → m ≡ n
same_number front m n m_fits n_fits is =
    decimal_injective m n m_fits n_fits (append_cancel_left front (decimal m) (decimal n)
    (append_cancel_right (front ++ decimal m) (front ++ decimal n) (codes "\n") is))

pub data_alone : (size : ℕ) (r : Reply) → size < 2 ^ 64 → IsTold r
    → codes "data " ++ decimal size ++ codes "\n" ≡ first_line r → r ≡ head.Data size
data_alone size head.Ok fits told is = absurd (omega (arith, ap first is))
data_alone size head.Kept fits told is = absurd (omega (arith, ap first is))
data_alone size (head.Data n) fits told is =
    ap head.Data (sym (same_number (codes "data ") size n fits told is))
data_alone size (head.Refused why) fits told is = absurd (omega (arith, ap first is))
data_alone size (head.List n) fits told is = absurd (omega (arith, ap first is))
data_alone size (head.Stat a b c d) fits told is = absurd (omega (arith, ap first is))

pub list_alone : (count : ℕ) (r : Reply) → count < 2 ^ 64 → IsTold r
    → codes "list " ++ decimal count ++ codes "\n" ≡ first_line r → r ≡ head.List count
list_alone count head.Ok fits told is = absurd (omega (arith, ap first is))
list_alone count head.Kept fits told is = absurd (omega (arith, ap first is))
list_alone count (head.Data n) fits told is = absurd (omega (arith, ap first is))
list_alone count (head.Refused why) fits told is = absurd (omega (arith, ap first is))
list_alone count (head.List n) fits told is =
    ap head.List (sym (same_number (codes "list ") count n fits told is))
list_alone count (head.Stat a b c d) fits told is = absurd (omega (arith, ap first is))

-- what is counted once a line announced an object, or a list
pub data_told : (is_back : Bool) (t : Tally) (size due : ℕ) (r : Reply) → size < 2 ^ 64 → IsTold r
    → codes "data " ++ decimal size ++ codes "\n" ≡ first_line r → due ≡ counted size 1
    → record t { due = due } ≡ tallied is_back r t
data_told is_back t size due r fits told is due_is =
    ap (λ d. record t { due = d }) due_is
    ∙ ap (λ x. tallied is_back x t) (sym (data_alone size r fits told is))

pub list_told : (is_back : Bool) (t : Tally) (count : ℕ) (r : Reply) → count < 2 ^ 64 → IsTold r
    → codes "list " ++ decimal count ++ codes "\n" ≡ first_line r
    → record t { lines = count } ≡ tallied is_back r t
list_told is_back t count r fits told is = ap (λ x. tallied is_back x t) (sym
    (list_alone count r fits told is))

-- the newlines from the byte before on
pub lines_before : (xs : List ℕ) (at : ℕ) (b : Bool) → 0 < at → at ≤ length xs
    → nat_eq (get_or xs (at - 1) 0) 10 ≡ b
    → lines_in (drop (at - 1) xs) ≡ (if b then 1 else 0) + lines_in (drop at xs)
unfolding lines_in
lines_before xs at b some within is =
    at_drop_more lines_in xs (at - 1) 0 (omega arith)
    ∙ (λ i. (if is i then 1 else 0) + lines_in (drop (same i) xs))
  where
    same : at - 1 + 1 ≡ at
    same = omega (arith, some)

pub lines_none : (xs : List ℕ) → 0 ≡ lines_in (drop (length xs) xs)
unfolding lines_in
lines_none xs = ap lines_in (sym (drop-length xs))

-- bytes that end with a newline are those before it and the newline
pub cut_line : (line digits : List ℕ) → digits ≡ take (length line - 1) line
    → drop (length line - 1) line ≡ 10 ∷ []
    → line ≡ digits ++ 10 ∷ []
cut_line line digits front back =
    sym (take-append-drop (length line - 1) line) ∙ (λ i. sym front i ++ back i)
