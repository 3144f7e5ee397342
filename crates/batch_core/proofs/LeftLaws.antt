-- The maps that a batch leaves while it is done.
use Rattle.std.specs.Prelude.{◌≡◌, ℕ, Bool, true, List, [], ◌∷◌, ◌++◌, Some, None, refl}
use Rattle.std.proofs.Common.{ap, sym, ◌∙◌, subst, inl, inr}
use Rattle.std.specs.FinMap as fin
use Rattle.map_model.specs.Maps.{Map}
use Rattle.map_model.specs.Requests.{Change}
use Rattle.map_model.proofs.MapLaws.{get-insert_here, remove-insert}
use Rattle.batch_model.specs.Batches.{IsBatch, Rises, applied, batch_name}
use Rattle.batch_model.specs.Fits.{misfit}
use Rattle.batch_model.specs.Views.{IsView, unbatched}
use Rattle.batch_model.proofs.AppliedLaws.{remove-absent}
use Rattle.batch_model.proofs.FitLaws.{counts_misfit, fits_again, misfit_counts}
use Rattle.batch_model.proofs.ViewLaws.{front_parts, leaves_batch, view_done, view_half}
use Rattle.batch_core.specs.Doing.{Batch, IsBatchMap, half_done}

pub viewed_as_done : (b : Batch) (m : Map) → IsBatch b.text b.changes → fin.get b.map batch_name ≡ None
    → IsBatchMap b m → IsView m (applied b.changes b.map)
viewed_as_done b m batch free (inl half) =
    subst (λ (n : Map). IsView n (applied b.changes b.map)) (sym half.3)
    (subst (λ (cs : List Change). IsView (half_done b half.0) (applied cs b.map)) (sym half.2)
    (view_half b.text half.0 half.1 b.map (subst (λ (cs : List Change). IsBatch b.text cs) half.2 batch)
    free))
viewed_as_done b m batch free (inr all) = subst (λ (n : Map). IsView n (applied b.changes b.map)) (sym all)
    (view_done b.changes b.map batch.parts free)

-- a map after all changes keeps none
none_kept : (b : Batch) (m : Map) (text : List ℕ) → IsBatch b.text b.changes
    → fin.get b.map batch_name ≡ None → m ≡ applied b.changes b.map → fin.get m batch_name ≡ Some text → ⊥
none_kept b m text batch free all there =
    let e : None ≡ Some text = sym (ap (λ (n : Map). fin.get n batch_name) all
    ∙ leaves_batch b.changes b.map batch.parts ∙ free) ∙ there in cc

pub kept_is_batch : (b : Batch) (m : Map) (text : List ℕ) → IsBatch b.text b.changes
    → fin.get b.map batch_name ≡ None → IsBatchMap b m → fin.get m batch_name ≡ Some text
    → IsBatch text b.changes
kept_is_batch b m text batch free (inr all) there = absurd (none_kept b m text batch free all there)
kept_is_batch b m text batch free (inl half) there =
    let same : b.text ≡ text = let e : Some b.text ≡ Some text =
    sym (ap (λ (n : Map). fin.get n batch_name) half.3
    ∙ get-insert_here (applied half.0 b.map) batch_name b.text) ∙ there in cc in
    subst (λ (t : List ℕ). IsBatch t b.changes) same batch

-- a batch that fits a map, or fits it again, fits each map again that some of it was done to
fits_once_more : (again : Bool) (cap : ℕ) (m : Map) (done left : List Change) → Rises (done ++ left)
    → misfit again cap m (done ++ left) ≡ None → misfit true cap (applied done m) (done ++ left) ≡ None
fits_once_more again cap m [] [] rises none = refl
fits_once_more again cap m [] (c ∷ left) rises none = counts_misfit cap m (c ∷ left)
    (misfit_counts again cap m c left none)
fits_once_more again cap m (c ∷ done) left rises none =
    counts_misfit cap (applied (c ∷ done) m) (c ∷ (done ++ left))
    (fits_again cap m (c ∷ done) left rises (misfit_counts again cap m c (done ++ left) none))

pub kept_fits : (again : Bool) (b : Batch) (m : Map) (text : List ℕ) (cap : ℕ) → IsBatch b.text b.changes
    → fin.get b.map batch_name ≡ None → misfit again cap b.map b.changes ≡ None → IsBatchMap b m
    → fin.get m batch_name ≡ Some text → misfit true cap (unbatched m) b.changes ≡ None
kept_fits again b m text cap batch free fits (inr all) there =
    absurd (none_kept b m text batch free all there)
kept_fits again b m text cap batch free fits (inl half) there =
    let whole = subst (λ (cs : List Change). IsBatch b.text cs) half.2 batch in
    let absent : fin.get (applied half.0 b.map) batch_name ≡ None =
    leaves_batch half.0 b.map (front_parts half.0 half.1 whole.parts) ∙ free in
    let bare : unbatched m ≡ applied half.0 b.map = ap unbatched half.3
    ∙ remove-insert (applied half.0 b.map) batch_name b.text
    ∙ remove-absent (applied half.0 b.map) batch_name absent in
    subst (λ (n : Map). misfit true cap n b.changes ≡ None) (sym bare)
    (subst (λ (cs : List Change). misfit true cap (applied half.0 b.map) cs ≡ None) (sym half.2)
    (fits_once_more again cap b.map half.0 half.1 whole.rises
    (subst (λ (cs : List Change). misfit again cap b.map cs ≡ None) half.2 fits)))
