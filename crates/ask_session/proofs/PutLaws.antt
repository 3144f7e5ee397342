-- Texts that are put one after another.
use Rattle.std.specs.Prelude.{◌≡◌, ℕ, true, false, List, [], ◌∷◌, ◌++◌, length, take, drop, Result, Ok, Err, refl}
use Rattle.std.proofs.Common.{arith, ap, sym, ◌∙◌, subst, append_assoc, append-nil, length-append}
use Rattle.std.proofs.lemmas.List.{take-append-drop}
use Rattle.disk_face.specs.Streams.{Puts}
use Rattle.ask_text.specs.declared.ends.End.{End}
use Rattle.ask_text.specs.declared.ends.End.TheVariants as ends
use Rattle.ask_session.specs.Serving.{IsFront, PutsText, is_disk, is_disk_fault}

-- a text after another
pub puts_then : {T : Type 0} (xs ys a b c : List ℕ) (result : Result T End)
    → (is_disk_fault result ≡ true → ys ≡ [] → ⊥) → b ≡ a ++ xs
    → PutsText ys b c result → PutsText (xs ++ ys) a c result
puts_then xs ys a b c (Ok x) some first then = record {
  all = then.all ∙ ap (λ (zs : List ℕ). zs ++ ys) first ∙ append_assoc a xs ys;
  front = tt;
}
puts_then xs ys a b c (Err end) some first then =
    let f : IsFront ys b c (is_disk end) = then.front in record {
      all = tt;
      front = record {
        put = xs ++ f.put;
        rest = f.rest;
        given = f.given ∙ ap (λ (zs : List ℕ). zs ++ f.put) first ∙ append_assoc a xs f.put;
        whole = ap (λ (zs : List ℕ). xs ++ zs) f.whole ∙ sym (append_assoc xs f.put f.rest);
        some = λ cut none. absurd (some cut (f.whole ∙ ap (λ (zs : List ℕ). zs ++ f.rest) (f.some cut none)
            ∙ none));
      };
    }

-- a text that the sink cut off, before another
pub puts_cut : {T U : Type 0} (xs ys a b : List ℕ) (end : End) → end ≡ ends.Sink
    → PutsText {T = T} xs a b (Err end)
    → PutsText {T = U} (xs ++ ys) a b (Err end)
puts_cut xs ys a b end sink then =
    let f : IsFront xs a b (is_disk end) = then.front in
    let calm : is_disk end ≡ false = ap is_disk sink in record {
      all = tt;
      front = record {
        put = f.put;
        rest = f.rest ++ ys;
        given = f.given;
        whole = ap (λ (zs : List ℕ). zs ++ ys) f.whole ∙ append_assoc f.put f.rest ys;
        some = λ cut none. absurd (let e : true ≡ false = sym cut ∙ calm in cc);
      };
    }

-- a front of bytes was put before a newline
pub puts_front : {T U E : Type 0} (xs a b : List ℕ) (fault : E) (end : End) → Puts {T = T} a b xs (Err fault)
    → PutsText {T = U} (xs ++ 10 ∷ []) a b (Err end)
puts_front xs a b fault end puts =
    let f = puts.front in record {
      all = tt;
      front = record {
        put = take f.0 xs;
        rest = drop f.0 xs ++ 10 ∷ [];
        given = f.2;
        whole = ap (λ (zs : List ℕ). zs ++ 10 ∷ []) (sym (take-append-drop f.0 xs))
            ∙ append_assoc (take f.0 xs) (drop f.0 xs) (10 ∷ []);
        some = λ cut none. absurd (omega (arith, ap length none, length-append (drop f.0 xs) (10 ∷ [])));
      };
    }

-- nothing was put
pub puts_none : {T : Type 0} (xs a b : List ℕ) (end : End) → b ≡ a → PutsText {T = T} xs a b (Err end)
puts_none xs a b end same = record {
  all = tt;
  front = record {
    put = [];
    rest = xs;
    given = same ∙ sym (append-nil a);
    whole = refl;
    some = λ cut none. refl;
  };
}

pub puts_as : {T : Type 0} (xs ys a b : List ℕ) (result : Result T End) → xs ≡ ys → PutsText xs a b result
    → PutsText ys a b result
puts_as xs ys a b result same puts = subst (λ (zs : List ℕ). PutsText zs a b result) same puts

-- a front of a text was put, since the sink failed
pub puts_sink : {T U E : Type 0} (xs a b : List ℕ) (fault : E) → Puts {T = T} a b xs (Err fault)
    → PutsText {T = U} xs a b (Err ends.Sink)
puts_sink xs a b fault puts =
    let f = puts.front in
    record {
      all = tt;
      front = record {
        put = take f.0 xs;
        rest = drop f.0 xs;
        given = f.2;
        whole = sym (take-append-drop f.0 xs);
        some = λ cut none. absurd (cc);
      };
    }
