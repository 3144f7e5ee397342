-- A part of what stands at a position.
use Rattle.std.proofs.Common.{◌≡◌, ◌∙◌, ap, arith, length-take-le, subst, sym, ◌++◌, ◌+◌, ◌-◌, ◌<◌, ◌≤◌, length, ℕ, List}
use Rattle.std.specs.Prelude.{min, take}
use Rattle.std.proofs.Math.Seq.{take-append_seam}
use Rattle.byte_ranges.specs.Ranges.{bytes_at}
use Rattle.byte_ranges.proofs.RangeLaws.{bytes_at-within, length-bytes_at}

-- so many bytes that were copied from within it to the front of memory, with others behind them
pub part_copied : (file before out rest : List ℕ) (at size from n : ℕ) → at + size ≤ length file
    → n ≡ min (size - from) (length before) → 0 < n → out ≡ bytes_at file (at + from) (length (take n before))
    → take n (out ++ rest) ≡ bytes_at (bytes_at file at size) from n
part_copied file before out rest at size from n within count some copied =
    let inside : from + n ≤ size = omega (arith, count, some) in
    let fits : length (take n before) ≡ n = length-take-le n before (omega (arith, count)) in
    let whole : out ≡ bytes_at file (at + from) n = copied ∙ ap (bytes_at file (at + from)) fits in
    let there : length out ≡ n =
    ap length whole ∙ length-bytes_at file (at + from) n (omega (arith, inside, within)) in
    subst (λ (m : ℕ). take m (out ++ rest) ≡ out) there (take-append_seam out rest) ∙ whole
    ∙ sym (bytes_at-within file at size from n inside)
