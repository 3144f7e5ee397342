-- No two histories have one word.
use Rattle.std.proofs.Common.{◌≡◌, ◌∙◌, ap, sym, refl, arith, ℕ, List, [], ◌∷◌, ◌++◌, length, take, drop}
use Rattle.std.specs.Prelude.{slice_index}
use Rattle.std.proofs.Math.Seq.{drop-append_seam, take-append_seam}
use Rattle.disk_history.specs.Changes.{RecordedCall, Stamped}
use Rattle.disk_history.specs.Changes.RecordedCall.{Sized, Synced, Wrote}
use Rattle.disk_history.specs.Histories.{History}
use Rattle.lent_disk.specs.Disks.{word_in}
use Rattle.lent_disk.specs.Notings.{Noting}
use Rattle.lent_disk.specs.Words.{call_word, calls_word, word_of}

at : (i : ℕ) {xs ys : List ℕ} → xs ≡ ys → slice_index xs i ≡ slice_index ys i
at i e = ap (λ l. slice_index l i) e

-- two lists of one length, with what follows each
fronts : (a b x y : List ℕ) → length a ≡ length b → a ++ x ≡ b ++ y → (a ≡ b) × (x ≡ y)
fronts a b x y long e = (
  sym (take-append_seam a x) ∙ ap (λ n. take n (a ++ x)) long ∙ ap (take (length b)) e ∙ take-append_seam b y,
  sym (drop-append_seam a x) ∙ ap (λ n. drop n (a ++ x)) long ∙ ap (drop (length b)) e ∙ drop-append_seam b y,
)

same_call : (c d : RecordedCall) (x y : List ℕ) → call_word c x ≡ call_word d y → (c ≡ d) × (x ≡ y)
same_call (Wrote p a) (Wrote q b) x y e =
    let f : (a ≡ b) × (x ≡ y) = fronts a b x y (at 2 e) (ap (drop 3) e) in
    (ap (λ n. Wrote n a) (at 1 e) ∙ ap (Wrote q) f.0, f.1)
same_call (Wrote p a) (Sized m) x y e = absurd (omega (arith, at 0 e))
same_call (Wrote p a) Synced x y e = absurd (omega (arith, at 0 e))
same_call (Sized n) (Wrote q b) x y e = absurd (omega (arith, at 0 e))
same_call (Sized n) (Sized m) x y e = (ap Sized (at 1 e), ap (drop 2) e)
same_call (Sized n) Synced x y e = absurd (omega (arith, at 0 e))
same_call Synced (Wrote q b) x y e = absurd (omega (arith, at 0 e))
same_call Synced (Sized m) x y e = absurd (omega (arith, at 0 e))
same_call Synced Synced x y e = (refl, ap (drop 1) e)

same_calls : (xs ys : List Stamped) → calls_word xs ≡ calls_word ys → xs ≡ ys
same_calls [] [] e = refl
same_calls [] (y ∷ ys) e = absurd (omega (arith, ap length e))
same_calls (x ∷ xs) [] e = absurd (omega (arith, ap length e))
same_calls (x ∷ xs) (y ∷ ys) e =
    let f : (x.change ≡ y.change) × (calls_word xs ≡ calls_word ys) =
    same_call x.change y.change (calls_word xs) (calls_word ys) (ap (drop 1) e) in
    ap (λ n. record { began = n; change = x.change } ∷ xs) (at 0 e)
    ∙ ap (λ c. record { began = y.began; change = c } ∷ xs) f.0
    ∙ ap (λ l. y ∷ l) (same_calls xs ys f.1)

pub same_history : (g h : History) → word_of g ≡ word_of h → g ≡ h
same_history g h e =
    let f : (g.base ≡ h.base) × (calls_word g.calls ≡ calls_word h.calls) =
    fronts g.base h.base (calls_word g.calls) (calls_word h.calls) (at 2 e) (ap (drop 3) e) in
    same_parts f.0 (same_calls g.calls h.calls f.1) (at 0 e) (at 1 e)
  where
    same_parts : {a b : History} → a.base ≡ b.base → a.calls ≡ b.calls → a.turn ≡ b.turn → a.faults ≡ b.faults
        → a ≡ b
    same_parts b c t f i = record { base = b i; calls = c i; turn = t i; faults = f i }

-- what stays over each call
pub same_words : (a b : Noting) → word_in a ≡ word_in b
    → (a.start ≡ b.start) × ((a.room ≡ b.room) × (a.log_room ≡ b.log_room))
same_words a b e = (
  same_history a.start b.start (ap (drop 2) e),
  (ap (λ w. slice_index w 0) e, ap (λ w. slice_index w 1) e),
)
