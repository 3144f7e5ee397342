-- A text spells one list of calls: they are read off its front, one after another.
use Rattle.std.proofs.Common.{◌≡◌, ◌∙◌, ap, sym, refl, arith, ℕ, zero, suc, List, [], ◌∷◌, ◌++◌, length, take, drop}
use Rattle.std.specs.Prelude.{◌+◌, ◌==◌, if◌then◌else◌}
use Rattle.std.specs.Int.{w64, from_le_bytes}
use Rattle.std.proofs.lemmas.List.{append_assoc, append-nil}
use Rattle.std.proofs.lemmas.Nat.{from_le_bytes-to_le_bytes_8}
use Rattle.std.proofs.Math.Seq.{drop-append_seam, take-append_seam}
use Rattle.disk_history.specs.Changes.{RecordedCall}
use Rattle.disk_history.specs.Changes.RecordedCall.{Sized, Synced, Wrote}
use Rattle.lent_disk.specs.Calls.{FitEntries, FitsEntry, number, spelled, text_of}

abbrev call_of : ℕ → ℕ → List ℕ → RecordedCall
call_of kind at bytes = if kind == 1 then Wrote at bytes else if kind == 2 then Sized at else Synced

abbrev read_number : List ℕ → ℕ
read_number bytes = from_le_bytes w64 (take 8 bytes)

-- what is read of a text by so many entries, before what was read already
abbrev reads : ℕ → List RecordedCall → List ℕ → List RecordedCall
reads zero read text = read
reads (suc left) read [] = read
reads (suc left) read (kind ∷ rest) =
    reads left (call_of kind (read_number rest) (take (read_number (drop 8 rest)) (drop 16 rest)) ∷ read)
    (drop (read_number (drop 8 rest)) (drop 16 rest))

reads_none : (left : ℕ) (read : List RecordedCall) → reads left read [] ≡ read
reads_none zero read = refl
reads_none (suc left) read = refl

reads_entry : (call : RecordedCall) (left : ℕ) (read : List RecordedCall) (more : List ℕ) → FitsEntry call
    → reads (suc left) read (spelled call ++ more) ≡ reads left (call ∷ read) more
reads_entry (Wrote at bytes) left read more fits =
    ap (λ n. reads left (Wrote (from_le_bytes w64 (number at)) (take n (bytes ++ more)) ∷ read)
    (drop n (bytes ++ more))) (from_le_bytes-to_le_bytes_8 (length bytes) fits.1)
    ∙ ap (λ x. reads left (Wrote x (take (length bytes) (bytes ++ more)) ∷ read)
    (drop (length bytes) (bytes ++ more))) (from_le_bytes-to_le_bytes_8 at fits.0)
    ∙ ap (λ x. reads left (Wrote at x ∷ read) (drop (length bytes) (bytes ++ more)))
    (take-append_seam bytes more)
    ∙ ap (reads left (Wrote at bytes ∷ read)) (drop-append_seam bytes more)
reads_entry (Sized n) left read more fits =
    ap (λ x. reads left (Sized x ∷ read) more) (from_le_bytes-to_le_bytes_8 n fits)
reads_entry Synced left read more fits = refl

reads_text : (calls : List RecordedCall) (left : ℕ) (read : List RecordedCall) (more : List ℕ)
    → FitEntries calls
    → reads (length calls + left) read (text_of calls ++ more) ≡ reads left (calls ++ read) more
reads_text [] left read more fits = ap (λ n. reads n read more) (omega arith)
reads_text (call ∷ earlier) left read more fits =
    ap (reads (length (call ∷ earlier) + left) read) (append_assoc (text_of earlier) (spelled call) more)
    ∙ ap (λ n. reads n read (text_of earlier ++ (spelled call ++ more))) (omega arith)
    ∙ reads_text earlier (suc left) read (spelled call ++ more) fits.1
    ∙ reads_entry call left (earlier ++ read) more fits.0

-- what was read already stays behind
reads_behind : (left : ℕ) (read : List RecordedCall) (text : List ℕ)
    → reads left read text ≡ reads left [] text ++ read
reads_behind zero read text = refl
reads_behind (suc left) read [] = refl
reads_behind (suc left) read (kind ∷ rest) =
    let call : RecordedCall =
    call_of kind (read_number rest) (take (read_number (drop 8 rest)) (drop 16 rest)) in
    let after : List ℕ = drop (read_number (drop 8 rest)) (drop 16 rest) in
    reads_behind left (call ∷ read) after
    ∙ sym (append_assoc (reads left [] after) (call ∷ []) read)
    ∙ ap (λ x. x ++ read) (sym (reads_behind left (call ∷ []) after))

-- a text is read as its calls
read_whole : (calls : List RecordedCall) (left : ℕ) → FitEntries calls
    → reads (length calls + left) [] (text_of calls) ≡ calls
read_whole calls left fits =
    ap (reads (length calls + left) []) (sym (append-nil (text_of calls)))
    ∙ reads_text calls left [] [] fits ∙ reads_none left (calls ++ []) ∙ append-nil calls

pub one_list : (a b : List RecordedCall) → FitEntries a → FitEntries b → text_of a ≡ text_of b → a ≡ b
one_list a b fit_a fit_b same =
    sym (read_whole a (length b) fit_a)
    ∙ ap (reads (length a + length b) []) same
    ∙ ap (λ n. reads n [] (text_of b)) (omega arith)
    ∙ read_whole b (length a) fit_b

-- a front that is a text spells the oldest of the calls
pub front_is_oldest : (a b : List RecordedCall) (more : List ℕ) → FitEntries a → FitEntries b
    → text_of b ≡ text_of a ++ more → (later : List RecordedCall) × b ≡ later ++ a
front_is_oldest a b more fit_a fit_b same = (
  reads (length b) [] more,
  sym (read_whole b (length a) fit_b)
      ∙ ap (reads (length b + length a) []) same
      ∙ ap (λ n. reads n [] (text_of a ++ more)) (omega arith)
      ∙ reads_text a (length b) [] more fit_a
      ∙ ap (λ read. reads (length b) read more) (append-nil a)
      ∙ reads_behind (length b) a more,
)
