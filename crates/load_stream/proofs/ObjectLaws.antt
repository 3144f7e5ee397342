-- The next object: its text stands there whole, or no object that may stand there does.
use Rattle.std.specs.Prelude.{◌≡◌, ℕ, ◌<◌, List, ◌∷◌, ◌++◌, Option, length}
use Rattle.std.proofs.Common.{arith, ap, sym, ◌∙◌, subst}
use Rattle.slot_codec.specs.Names.{IsName}
use Rattle.map_model.specs.Weights.{Entry}
use Rattle.ask_text.specs.declared.ask.Ask.TheVariants as line
use Rattle.ask_text.specs.Asks.{line_of}
use Rattle.dump_stream.specs.Dumps.{object_text}
use Rattle.load_stream.specs.Steps.{NoneStands, StandsNext}
use Rattle.load_stream.proofs.NextLaws.{put_one, put_text}
use Rattle.ask_text.proofs.InputLaws.{named_word}

module _ (last : Option (List ℕ)) (volumes filled : List ℕ) (input mid : List ℕ) (name : List ℕ) (size : ℕ)
    (named : IsName name) (small : size < 4294967296)
    (is : input ≡ line_of (line.Put name size) ++ 10 ∷ mid) where
  -- an object that may stand there has this name, this size, and these bytes
  same_line : (e : Entry) (behind : List ℕ) → StandsNext last volumes filled e.0 (length e.1)
      → input ≡ object_text e ++ behind
      → (line.Put name size ≡ line.Put e.0 (length e.1)) × (mid ≡ e.1 ++ 10 ∷ behind)
  same_line e behind s h = put_one (line.Put name size) input mid (named_word name named, small) is e behind
      s.named (omega (arith, s.small)) h

  same_size : (e : Entry) → line.Put name size ≡ line.Put e.0 (length e.1) → size ≡ length e.1
  same_size e same = cc

  same_name : (e : Entry) → line.Put name size ≡ line.Put e.0 (length e.1) → name ≡ e.0
  same_name e same = cc

  -- none stands there, where one with this line can't
  pub none_fits : (StandsNext last volumes filled name size → ⊥) → NoneStands last volumes filled input
  none_fits none e behind s h =
      let same = (same_line e behind s h).0 in
      none (subst (λ (n : List ℕ). StandsNext last volumes filled n size) (sym (same_name e same))
      (subst (λ (n : ℕ). StandsNext last volumes filled e.0 n) (sym (same_size e same)) s))

  -- none stands there, where the bytes aren't there
  pub none_whole : ((object behind : List ℕ) → length object ≡ size → mid ≡ object ++ 10 ∷ behind → ⊥)
      → NoneStands last volumes filled input
  none_whole none e behind s h =
      let same = same_line e behind s h in none e.1 behind (sym (same_size e same.0)) same.1

-- the line and the bytes are the text of an object
pub whole_text : (input mid rest object name : List ℕ) (size : ℕ)
    → input ≡ line_of (line.Put name size) ++ 10 ∷ mid → mid ≡ object ++ 10 ∷ rest → length object ≡ size
    → input ≡ object_text (name, object) ++ rest
whole_text input mid rest object name size is body long =
    is ∙ ap (λ (xs : List ℕ). line_of (line.Put name size) ++ 10 ∷ xs) body
    ∙ ap (λ (n : ℕ). line_of (line.Put name n) ++ 10 ∷ (object ++ 10 ∷ rest)) (sym long)
    ∙ sym (put_text (name, object) rest)
