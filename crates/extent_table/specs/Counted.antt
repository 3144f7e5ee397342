-- How many changes of each kind there are, and which of the two parts tells them. These laws stand here, and
-- not in proofs, since what an impl says of its ghost members may name specs alone.
use Rattle.std.specs.Prelude.{◌≡◌, ◌⊎◌, ℕ, zero, suc, ◌≤◌, ◌==◌, true, false, cond, not, ◌&&◌, List, [], ◌∷◌, ◌++◌, length, Option, Some, None, refl}
use Rattle.std.proofs.Common.{ap, ◌∙◌, inl, inr, arith}
use mathlib.Core.Logic.{⊎_elim}
use Rattle.std.specs.FinMap as fin
use Rattle.slot_codec.specs.Changes.{AreFew, Change, moves_of, gone_of, puts_of}
use Rattle.slot_codec.specs.Changes.Change.{same, moved, gone, put}
use Rattle.slot_codec.specs.Rows.{Rows, rows_of}
use Rattle.slot_codec.specs.declared.codec.Record.{Record}
use Rattle.extent_table.specs.Deltas.{changes_between, is_same_object, kept_change, kept_changes, new_change, new_changes}

-- ---- what the two parts of the changes tell

-- what moved and what is gone is told in the first part
moves_first : (now : Rows) (rank : ℕ) (rs : List Record) (more : List Change) → moves_of more ≡ []
    → moves_of (kept_changes now rank rs ++ more) ≡ moves_of (kept_changes now rank rs)
moves_first now rank [] more none = none
moves_first now rank (r ∷ rs) more none =
    elim (kept_change rank r (fin.get now r.name)) as
    (λ c. moves_of (c ∷ kept_changes now (suc rank) rs ++ more)
    ≡ moves_of (c ∷ kept_changes now (suc rank) rs)) [
      | same ↦ moves_first now (suc rank) rs more none
      | moved n place ↦ ap (λ xs. (n, place) ∷ xs) (moves_first now (suc rank) rs more none)
      | gone name ↦ moves_first now (suc rank) rs more none
      | put s ↦ moves_first now (suc rank) rs more none
    ]

gone_first : (now : Rows) (rank : ℕ) (rs : List Record) (more : List Change) → gone_of more ≡ []
    → gone_of (kept_changes now rank rs ++ more) ≡ gone_of (kept_changes now rank rs)
gone_first now rank [] more none = none
gone_first now rank (r ∷ rs) more none =
    elim (kept_change rank r (fin.get now r.name)) as
    (λ c. gone_of (c ∷ kept_changes now (suc rank) rs ++ more)
    ≡ gone_of (c ∷ kept_changes now (suc rank) rs)) [
      | same ↦ gone_first now (suc rank) rs more none
      | moved n place ↦ gone_first now (suc rank) rs more none
      | gone name ↦ ap (λ xs. name ∷ xs) (gone_first now (suc rank) rs more none)
      | put s ↦ gone_first now (suc rank) rs more none
    ]

no_put : (rank : ℕ) (r : Record) (o : Option Record) (more : List Change)
    → puts_of (kept_change rank r o ∷ more) ≡ puts_of more
no_put rank r None more = refl
no_put rank r (Some s) more = elim (is_same_object r s && not (r.place == s.place)) as
    (λ b. puts_of (cond b (moved rank s.place) same ∷ more) ≡ puts_of more) [ true ↦ refl | false ↦ refl ]

-- what is put in the second
puts_last : (now : Rows) (rank : ℕ) (rs : List Record) (more : List Change)
    → puts_of (kept_changes now rank rs ++ more) ≡ puts_of more
puts_last now rank [] more = refl
puts_last now rank (r ∷ rs) more = no_put rank r (fin.get now r.name) (kept_changes now (suc rank) rs ++ more)
    ∙ puts_last now (suc rank) rs more

-- of a record of now nothing else is told
module _ (before : Rows) where
  of_new : (o : Option Record) (s : Record) → (new_change o s ≡ put s) ⊎ (new_change o s ≡ same)
  of_new None s = inl refl
  of_new (Some r) s = elim (is_same_object r s) as
      (λ b. (cond b same (put s) ≡ put s) ⊎ (cond b same (put s) ≡ same))
      [ true ↦ inr refl | false ↦ inl refl ]

  no_moves : (rs : List Record) → moves_of (new_changes before rs) ≡ []
  no_moves [] = refl
  no_moves (s ∷ rs) =
      ⊎_elim
      (λ is. rw is (no_moves rs))
      (λ is. rw is (no_moves rs))
      (of_new (fin.get before s.name) s)

  no_gone : (rs : List Record) → gone_of (new_changes before rs) ≡ []
  no_gone [] = refl
  no_gone (s ∷ rs) =
      ⊎_elim
      (λ is. rw is (no_gone rs))
      (λ is. rw is (no_gone rs))
      (of_new (fin.get before s.name) s)

  few_puts : (rs : List Record) → length (puts_of (new_changes before rs)) ≤ length rs
  few_puts [] = omega arith
  few_puts (s ∷ rs) =
      ⊎_elim
      (λ is. rw is (omega (arith, few_puts rs)))
      (λ is. rw is (omega (arith, few_puts rs)))
      (of_new (fin.get before s.name) s)

few_moves : (now : Rows) (rank : ℕ) (rs : List Record)
    → length (moves_of (kept_changes now rank rs)) ≤ length rs
few_moves now rank [] = omega arith
few_moves now rank (r ∷ rs) =
    let rest = few_moves now (suc rank) rs in
    elim (kept_change rank r (fin.get now r.name)) as
    (λ c. length (moves_of (c ∷ kept_changes now (suc rank) rs)) ≤ suc (length rs)) [
      | same ↦ omega (arith, rest)
      | moved n place ↦ omega (arith, rest)
      | gone name ↦ omega (arith, rest)
      | put s ↦ omega (arith, rest)
    ]

few_gone : (now : Rows) (rank : ℕ) (rs : List Record)
    → length (gone_of (kept_changes now rank rs)) ≤ length rs
few_gone now rank [] = omega arith
few_gone now rank (r ∷ rs) =
    let rest = few_gone now (suc rank) rs in
    elim (kept_change rank r (fin.get now r.name)) as
    (λ c. length (gone_of (c ∷ kept_changes now (suc rank) rs)) ≤ suc (length rs)) [
      | same ↦ omega (arith, rest)
      | moved n place ↦ omega (arith, rest)
      | gone name ↦ omega (arith, rest)
      | put s ↦ omega (arith, rest)
    ]

module _ (before now : List Record) where
  abbrev pub kept_part : List Change
  kept_part = kept_changes (rows_of now) zero before

  abbrev pub new_part : List Change
  new_part = new_changes (rows_of before) now

  pub moves_are : moves_of (changes_between before now) ≡ moves_of kept_part
  moves_are = moves_first (rows_of now) zero before new_part (no_moves (rows_of before) now)

  pub gone_are : gone_of (changes_between before now) ≡ gone_of kept_part
  gone_are = gone_first (rows_of now) zero before new_part (no_gone (rows_of before) now)

  pub puts_are : puts_of (changes_between before now) ≡ puts_of new_part
  puts_are = puts_last (rows_of now) zero before new_part

  -- they are no more than an entry can have
  pub changes_between-few : AreFew before now (changes_between before now)
  changes_between-few = record {
    moved = rw moves_are (few_moves (rows_of now) zero before);
    gone = rw gone_are (few_gone (rows_of now) zero before);
    puts = rw puts_are (few_puts (rows_of before) now);
  }
