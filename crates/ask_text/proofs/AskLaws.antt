-- A line asks for one thing, is short, and has no newline.
use Rattle.std.proofs.Common.{◌≡◌, ℕ, ◌≤◌, ◌&&◌, List, ◌∷◌, ◌++◌, length, length-append, get_or, refl, sym, ap, ◌∙◌, arith}
use Rattle.std.proofs.lemmas.Bool.{and_parts, leb-true}
use Rattle.std.proofs.lemmas.Fmt.{decimal_injective, length-decimal-le}
use Rattle.std.proofs.lemmas.List.{append_cancel_left}
use Rattle.std.specs.Fmt.{decimal}
use Rattle.std.specs.List.{list_all}
use Rattle.std.specs.Prelude.{Err, IfErr, IfOk, Ok, Result, codes, nat_le, nat_lt}
use Rattle.slot_codec.specs.Names.{is_name_byte}
use Rattle.ask_text.proofs.AskLemmas.{put_line}
use Rattle.ask_text.proofs.Cuts.{Lacks, cut_once, lacks-append, lacks-decimal, lacks-greater, lacks-word}
use Rattle.ask_text.specs.Asks.{AsksFor, IsAsk, IsBare, line_of}
use Rattle.ask_text.specs.Words.{IsWord}
use Rattle.ask_text.specs.declared.ask.Ask.{Ask}
use Rattle.ask_text.specs.declared.ask.Ask.TheVariants as ask
use Rattle.ask_text.specs.declared.ask.LineFault.{LineFault}

-- the first byte, or 0
abbrev first : List ℕ → ℕ
first xs = get_or xs 0 0

pub line_one : (a b : Ask) → IsAsk a → IsAsk b → line_of a ≡ line_of b → a ≡ b
line_one (ask.Put n k) (ask.Put m l) c d h =
    let e : n ++ 32 ∷ decimal k ≡ m ++ 32 ∷ decimal l =
    append_cancel_left (codes "put ") _ _ (sym (put_line n k) ∙ h ∙ put_line m l)
    in
    let r = cut_once 32 n m (decimal k) (decimal l) (lacks-word 32 (omega arith) n c.0)
    (lacks-word 32 (omega arith) m d.0) e
    in
    let name : n ≡ m = r.0 in
    let size : k ≡ l = decimal_injective k l (omega (arith, c.1)) (omega (arith, d.1)) r.1 in
    cc
line_one (ask.Get n) (ask.Get m) c d h = ap ask.Get (append_cancel_left (codes "get ") n m h)
line_one (ask.Old n) (ask.Old m) c d h = ap ask.Old (append_cancel_left (codes "old ") n m h)
line_one (ask.Del n) (ask.Del m) c d h = ap ask.Del (append_cancel_left (codes "del ") n m h)
line_one ask.Keep ask.Keep c d h = refl
line_one ask.Back ask.Back c d h = refl
line_one ask.List ask.List c d h = refl
line_one ask.Stat ask.Stat c d h = refl
line_one _ _ c d h = absurd (omega (arith, ap first h))

pub asks_one : (line : List ℕ) (a b : Ask) → AsksFor line a → AsksFor line b → a ≡ b
asks_one line a b p q = line_one a b p.1 q.1 (sym p.0 ∙ q.0)

-- where a line asks for nothing that is bare, and a fault is answered of one that asks for nothing else,
-- what is answered is what is asked for
pub read_again : (line : List ℕ) (r : Result Ask LineFault) → ((a : Ask) → AsksFor line a → IsBare a → ⊥)
    → IfOk r (λ a. AsksFor line a) → IfErr r (λ _. (a : Ask) → AsksFor line a → IsBare a)
    → (a : Ask) → AsksFor line a → r ≡ Ok a
read_again line (Ok b) none read fault a asks = ap Ok (asks_one line b a read asks)
read_again line (Err e) none read fault a asks = absurd (none a asks (fault a asks))

-- a word has 255 bytes at most
word_short : (name : List ℕ) → IsWord name → length name ≤ 255
word_short name h =
    let parts = and_parts (nat_lt 0 (length name) && nat_le (length name) 255) (list_all is_name_byte name) h
    in
    leb-true (length name) 255 (and_parts (nat_lt 0 (length name)) (nat_le (length name) 255) parts.0).1

pub line_short : (a : Ask) → IsAsk a → length (line_of a) ≤ 270
line_short (ask.Put n k) c = omega (
  arith,
  ap length (put_line n k),
  length-append n (32 ∷ decimal k),
  word_short n c.0,
  length-decimal-le 10 k (omega (arith, c.1)),
)
line_short (ask.Get n) c = omega (arith, word_short n c)
line_short (ask.Old n) c = omega (arith, word_short n c)
line_short (ask.Del n) c = omega (arith, word_short n c)
line_short ask.Keep c = omega arith
line_short ask.Back c = omega arith
line_short ask.List c = omega arith
line_short ask.Stat c = omega arith

named : (verb name : List ℕ) → Lacks 10 verb → IsWord name → Lacks 10 (verb ++ name)
named verb name lacks word = lacks-append 10 verb name lacks (lacks-word 10 (omega arith) name word)

pub lacks-line : (a : Ask) → IsAsk a → Lacks 10 (line_of a)
lacks-line (ask.Put n k) c =
    lacks-append 10 (codes "put " ++ n ++ codes " ") (decimal k)
    (lacks-append 10 (codes "put " ++ n) (codes " ")
    (named (codes "put ") n (lacks-greater 10 (codes "put ") refl) c.0)
    (lacks-greater 10 (codes " ") refl))
    (lacks-decimal 10 (omega arith) k (omega (arith, c.1)))
lacks-line (ask.Get n) c = named (codes "get ") n (lacks-greater 10 (codes "get ") refl) c
lacks-line (ask.Old n) c = named (codes "old ") n (lacks-greater 10 (codes "old ") refl) c
lacks-line (ask.Del n) c = named (codes "del ") n (lacks-greater 10 (codes "del ") refl) c
lacks-line ask.Keep c = lacks-greater 10 (codes "keep") refl
lacks-line ask.Back c = lacks-greater 10 (codes "back") refl
lacks-line ask.List c = lacks-greater 10 (codes "list") refl
lacks-line ask.Stat c = lacks-greater 10 (codes "stat") refl
