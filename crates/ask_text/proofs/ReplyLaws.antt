-- The first line of a reply is that of one reply alone.
use Rattle.std.proofs.Common.{◌≡◌, ℕ, ◌<◌, ◌^◌, List, ◌∷◌, [], ◌++◌, get_or, refl, sym, ap, ◌∙◌, arith}
use Rattle.std.proofs.lemmas.Fmt.{decimal_injective}
use Rattle.std.proofs.lemmas.Grind.{common_steps}
use Rattle.std.proofs.lemmas.List.{append_cancel_left, append_cancel_right}
use Rattle.std.specs.Fmt.{decimal}
use Rattle.std.specs.Prelude.{codes}
use Rattle.ask_text.proofs.Cuts.{cut_once, lacks-decimal}
use Rattle.ask_text.specs.Replies.{IsTold, first_line, word_of}
use Rattle.ask_text.specs.declared.reply.Reply.{Reply}
use Rattle.ask_text.specs.declared.reply.Reply.TheVariants as head
use Rattle.ask_text.specs.declared.reply.RefusedWord.{RefusedWord}
use Rattle.ask_text.specs.declared.reply.RefusedWord.TheVariants as word

-- the byte at a place, or 0
abbrev byte : ℕ → List ℕ → ℕ
byte i xs = get_or xs i 0

word_one : (v w : RefusedWord) → word_of v ≡ word_of w → v ≡ w
word_one word.Name word.Name h = refl
word_one word.Size word.Size h = refl
word_one word.Missing word.Missing h = refl
word_one word.Damaged word.Damaged h = refl
word_one word.Full word.Full h = refl
word_one word.Worn word.Worn h = refl
word_one _ _ h = absurd (omega (arith, ap (byte 0) h))

-- between a text and a newline stands one thing
between : (front a b : List ℕ) → front ++ a ++ codes "\n" ≡ front ++ b ++ codes "\n" → a ≡ b
between front a b h =
    append_cancel_left front a b (append_cancel_right (front ++ a) (front ++ b) (codes "\n") h)

stat_is : (a b c d : ℕ) → first_line (head.Stat a b c d)
    ≡ codes "stat " ++ (decimal a ++ 32 ∷ (decimal b ++ 32 ∷ (decimal c ++ 32 ∷ (decimal d ++ 10 ∷ []))))
stat_is a b c d = grind (arith, common_steps)

number_one : (c m n : ℕ) (s t : List ℕ) → c < 48 → m < 2 ^ 64 → n < 2 ^ 64
    → decimal m ++ c ∷ s ≡ decimal n ++ c ∷ t
    → (m ≡ n) × (s ≡ t)
number_one c m n s t low f g h =
    let cut = cut_once c (decimal m) (decimal n) s t (lacks-decimal c low m f) (lacks-decimal c low n g) h in
    (decimal_injective m n f g cut.0, cut.1)

pub first_line_one : (r s : Reply) → IsTold r → IsTold s → first_line r ≡ first_line s → r ≡ s
first_line_one head.Ok head.Ok f g h = refl
first_line_one head.Kept head.Kept f g h = refl
first_line_one (head.Data m) (head.Data n) f g h =
    ap head.Data (decimal_injective m n f g (between (codes "data ") (decimal m) (decimal n) h))
first_line_one (head.Refused v) (head.Refused w) f g h =
    ap head.Refused (word_one v w (between (codes "refused ") (word_of v) (word_of w) h))
first_line_one (head.List m) (head.List n) f g h =
    ap head.List (decimal_injective m n f g (between (codes "list ") (decimal m) (decimal n) h))
first_line_one (head.Stat a b c d) (head.Stat i j k l) f g h =
    let whole = append_cancel_left (codes "stat ") _ _ (sym (stat_is a b c d) ∙ h ∙ stat_is i j k l) in
    let one = number_one 32 a i _ _ (omega arith) f.0 g.0 whole in
    let two = number_one 32 b j _ _ (omega arith) f.1 g.1 one.1 in
    let three = number_one 32 c k _ _ (omega arith) f.2 g.2 two.1 in
    let four = number_one 10 d l _ _ (omega arith) f.3 g.3 three.1 in
    λ i. head.Stat (one.0 i) (two.0 i) (three.0 i) (four.0 i)
first_line_one head.Ok head.Kept f g h = absurd (omega (arith, ap (byte 2) h))
first_line_one head.Kept head.Ok f g h = absurd (omega (arith, ap (byte 2) h))
first_line_one _ _ f g h = absurd (omega (arith, ap (byte 0) h))
