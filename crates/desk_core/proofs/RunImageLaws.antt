-- What a crash may leave of a desk in a run: lists of desks that grow at their end.
use Rattle.std.specs.Prelude.{◌≡◌, ◌⊎◌, ℕ, List, [], ◌∷◌, ◌++◌, Option, Some, None, refl}
use Rattle.std.proofs.Common.{subst, inl, inr}
use Rattle.desk_model.specs.Desks.{Desk, Flush, last_desk}
use Rattle.desk_core.specs.Images.{Checkpoint, IsDeskImage, OpensTo, SomeDesk, kept_of, settled_before, settled_of}
use Rattle.desk_core.proofs.ImageLaws.{settled_none, settled_some}

some_more : (P : Desk → Type 0) (ds : List Desk) (t : Desk) → SomeDesk P ds → SomeDesk P (ds ++ t ∷ [])
some_more P [] t some = absurd some
some_more P (d ∷ ds) t (inl is) = inl is
some_more P (d ∷ ds) t (inr some) = inr (some_more P ds t some)

some_last : (P : Desk → Type 0) (ds : List Desk) (t : Desk) → P t → SomeDesk P (ds ++ t ∷ [])
some_last P [] t is = inl is
some_last P (d ∷ ds) t is = inr (some_last P ds t is)

-- the checkpoint that is settled before the next event
pub settled_more : (k : Checkpoint) (d : Desk) (ds : List Desk) (t : Desk)
    → settled_before k d (ds ++ t ∷ []) ≡ settled_of (settled_before k d ds) (last_desk d ds)
settled_more k d [] t = refl
settled_more k d (u ∷ ds) t = settled_more (settled_of k d) u ds t

-- the one that a desk has settled is the one before or that of its state
settled_either : (C : ℕ) (k : Checkpoint) (d : Desk) (image : List ℕ) → OpensTo C (settled_of k d) image
    → OpensTo C k image ⊎ OpensTo C (kept_of d.state) image
settled_either C k d image is = by d.hand refl
  where
    by : (o : Option Flush) → d.hand ≡ o → OpensTo C k image ⊎ OpensTo C (kept_of d.state) image
    by None e = inr (subst (λ (x : Checkpoint). OpensTo C x image) (settled_none k d e) is)
    by (Some f) e = inl (subst (λ (x : Checkpoint). OpensTo C x image) (settled_some k d f e) is)

-- so it is one of the run
pub settled_in : (C : ℕ) (k : Checkpoint) (d : Desk) (ds : List Desk) (image : List ℕ)
    → OpensTo C (settled_of (settled_before k d ds) (last_desk d ds)) image → IsDeskImage C k d ds image
settled_in C k d [] image is = inl is
settled_in C k d (u ∷ ds) image is = elim (settled_in C (settled_of k d) u ds image is)
    as (λ _. IsDeskImage C k d (u ∷ ds) image) [
      | inl one ↦ elim (settled_either C (settled_of k d) u image one)
          as (λ _. IsDeskImage C k d (u ∷ ds) image) [ inl old ↦ inl old | inr new ↦ inr (inl new) ]
      | inr some ↦ inr (inr some)
    ]

-- an image of a run is one of the run with an event more
pub images_more : (C : ℕ) (k : Checkpoint) (d : Desk) (ds : List Desk) (t : Desk) (image : List ℕ)
    → IsDeskImage C k d ds image → IsDeskImage C k d (ds ++ t ∷ []) image
images_more C k d ds t image (inl is) = inl is
images_more C k d ds t image (inr some) =
    inr (some_more (λ u. OpensTo C (kept_of u.state) image) ds t some)

-- and so is what is left in that event
pub image_last : (C : ℕ) (k : Checkpoint) (d : Desk) (ds : List Desk) (t : Desk) (image : List ℕ)
    → OpensTo C (settled_of (settled_before k d ds) (last_desk d ds)) image
    ⊎ OpensTo C (kept_of t.state) image → IsDeskImage C k d (ds ++ t ∷ []) image
image_last C k d ds t image (inl is) = images_more C k d ds t image (settled_in C k d ds image is)
image_last C k d ds t image (inr is) =
    inr (some_last (λ u. OpensTo C (kept_of u.state) image) ds t is)
