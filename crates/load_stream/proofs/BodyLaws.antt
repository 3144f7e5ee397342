-- An object that is read and written piece by piece.
use Rattle.std.specs.Prelude.{◌≡◌, ℕ, ◌+◌, ◌≤◌, List, [], ◌∷◌, ◌++◌, length, IsTrue, refl, take, drop}
use Rattle.std.proofs.Common.{arith, ap, sym, ◌∙◌, append-nil, append_assoc, length-append}
use Rattle.byte_ranges.specs.Ranges.{overwritten}
use Rattle.byte_ranges.proofs.RangeLaws.{length-overwritten, overwritten-pieces}
use Rattle.std.proofs.lemmas.List.{take-append-drop}
use Rattle.disk_face.specs.States.{State}
use Rattle.load_stream.specs.Steps.{WritesObject}

overwritten-nothing : (file : List ℕ) (at : ℕ) → overwritten file at [] ≡ file
overwritten-nothing file at =
    ap (λ (xs : List ℕ). xs ++ drop (at + 0) file) (append-nil (take at file))
    ∙ ap (λ (n : ℕ). take at file ++ drop n file) (let e : at + 0 ≡ at = omega arith in e)
    ∙ take-append-drop at file

-- nothing yet
pub body_none : (told : Type 0) (at : ℕ) (input : List ℕ) (s : State) → WritesObject told at 0 input input s s
body_none told at input s = record {
  object = [];
  long = refl;
  whole = λ t. refl;
  written = λ t. sym (overwritten-nothing s.file at);
}

-- one piece more
pub body_more : (told : Type 0) (at size done n : ℕ) (input mid rest : List ℕ) (first old new : State)
    → done + n ≤ size → (IsTrue first.tells → at + size ≤ length first.file)
    → (IsTrue first.tells → IsTrue old.tells)
    → WritesObject told at done input mid first old → WritesObject told (at + done) n mid rest old new
    → WritesObject told at (done + n) input rest first new
body_more told at size done n input mid rest first old new upto within tells a b = record {
  object = a.object ++ b.object;
  long = omega (arith, length-append a.object b.object, a.long, b.long);
  whole = λ t. a.whole t ∙ ap (λ (xs : List ℕ). a.object ++ xs) (b.whole t)
      ∙ sym (append_assoc a.object b.object rest);
  written = λ t.
      b.written (tells t) ∙ ap (λ (f : List ℕ). overwritten f (at + done) b.object) (a.written t)
      ∙ ap (λ (p : ℕ). overwritten (overwritten first.file at a.object) (at + p) b.object) (sym a.long)
      ∙ (overwritten-pieces first.file at a.object b.object
      (omega (arith, a.long, b.long, upto, within t)));
}

-- the file keeps its length
pub body_long : (told : Type 0) (at size done : ℕ) (input rest : List ℕ) (first now : State) → done ≤ size
    → at + size ≤ length first.file → IsTrue first.tells → WritesObject told at done input rest first now
    → length now.file ≡ length first.file
body_long told at size done input rest first now upto within t a =
    ap length (a.written t) ∙ length-overwritten first.file at a.object (omega (arith, a.long, upto, within))

-- the same, where what is told is told there too
pub body_as : (told other : Type 0) (at m n : ℕ) (input rest : List ℕ) (first now : State) → (told → other)
    → m ≡ n → WritesObject other at m input rest first now → WritesObject told at n input rest first now
body_as told other at m n input rest first now on same a = record {
  object = a.object;
  long = a.long ∙ same;
  whole = λ t. a.whole (on t);
  written = a.written;
}

-- two fronts of one length are one
same_front : (o p x y : List ℕ) → length o ≡ length p → o ++ x ≡ p ++ y → x ≡ y
same_front [] [] x y same h = h
same_front [] (b ∷ p) x y same h = absurd (omega (arith, same))
same_front (a ∷ o) [] x y same h = absurd (omega (arith, same))
same_front (a ∷ o) (b ∷ p) x y same h =
    same_front o p x y (omega (arith, same)) (let e : o ++ x ≡ p ++ y = cc in e)

-- the newline is missing
pub body_without : (told : Type 0) (at size : ℕ) (input mid : List ℕ) (first now : State) → told
    → WritesObject told at size input mid first now → ((rest : List ℕ) → mid ≡ 10 ∷ rest → ⊥)
    → (object behind : List ℕ) → length object ≡ size → input ≡ object ++ 10 ∷ behind → ⊥
body_without told at size input mid first now t a none object behind long h =
    none behind (same_front a.object object mid (10 ∷ behind) (a.long ∙ sym long) (sym (a.whole t) ∙ h))
