-- The view of a map in which a batch is kept, of which some changes were done.
use Rattle.std.specs.Prelude.{◌≡◌, ℕ, false, List, [], ◌∷◌, ◌++◌, Option, Some, None, refl}
use Rattle.std.proofs.Common.{ap, sym, ◌∙◌, subst, inl, inr}
use Rattle.std.specs.FinMap as fin
use Rattle.std.specs.List.{AllByRecursion}
use Rattle.map_model.specs.Maps.{Map}
use Rattle.map_model.specs.Requests.{Change}
use Rattle.map_model.specs.Weights.{same_name}
use Rattle.map_model.proofs.MapLaws.{get-insert_here, remove-insert}
use Rattle.batch_model.specs.Batches.{IsBatch, IsPart, applied, batch_name}
use Rattle.batch_model.specs.Views.{IsView, IsViewBy, unbatched}
use Rattle.batch_model.proofs.AppliedLaws.{applied-again, get-applied, leaves_other, remove-absent}
use Rattle.batch_model.proofs.TextLaws.{batch_one}

-- ---- one view

by_one : (o : Option (List ℕ)) (m v w : Map) → IsViewBy o m v → IsViewBy o m w → v ≡ w
by_one None m v w a b = a ∙ sym b
by_one (Some text) m v w (inl a) (inl b) = a.same
    ∙ ap (λ (cs : List Change). applied cs (unbatched m)) (batch_one text a.changes b.changes a.batch b.batch)
    ∙ sym b.same
by_one (Some text) m v w (inl a) (inr b) = absurd (b.0 a.changes a.batch)
by_one (Some text) m v w (inr a) (inl b) = absurd (a.0 b.changes b.batch)
by_one (Some text) m v w (inr a) (inr b) = a.1 ∙ sym b.1

pub view_one : (m v w : Map) → IsView m v → IsView m w → v ≡ w
view_one m v w = by_one (fin.get m batch_name) m v w

-- ---- maps without a batch

pub view_bare : (m : Map) → fin.get m batch_name ≡ None → IsView m m
view_bare m none = subst (λ (o : Option (List ℕ)). IsViewBy o m m) (sym none) refl

-- ---- maps with one

-- no part of a batch is of the batch's own name
pub apart : (changes : List Change) → AllByRecursion IsPart changes
    → AllByRecursion (λ c. same_name batch_name c.name ≡ false) changes
apart [] parts = tt
apart (c ∷ changes) parts = (parts.0.other, apart changes parts.1)

pub front_parts : (a b : List Change) → AllByRecursion IsPart (a ++ b) → AllByRecursion IsPart a
front_parts [] b parts = tt
front_parts (c ∷ a) b parts = (parts.0, front_parts a b parts.1)

pub leaves_batch : (changes : List Change) (m : Map) → AllByRecursion IsPart changes
    → fin.get (applied changes m) batch_name ≡ fin.get m batch_name
leaves_batch changes m parts = get-applied changes m batch_name
    ∙ leaves_other changes batch_name (apart changes parts) (fin.get m batch_name)

-- the batch that is kept in a map of which some changes were done
pub view_half : (text : List ℕ) (done left : List Change) (m : Map) → IsBatch text (done ++ left)
    → fin.get m batch_name ≡ None
    → IsView (fin.insert (applied done m) batch_name text) (applied (done ++ left) m)
view_half text done left m batch none =
    let x = applied done m in
    let absent : fin.get x batch_name ≡ None = leaves_batch done m (front_parts done left batch.parts)
    ∙ none in
    let bare : unbatched (fin.insert x batch_name text) ≡ x = remove-insert x batch_name text
    ∙ remove-absent x batch_name absent in
    subst (λ (o : Option (List ℕ)). IsViewBy o (fin.insert x batch_name text) (applied (done ++ left) m))
    (sym (get-insert_here x batch_name text))
    (inl (record {
      changes = done ++ left;
      batch = batch;
      same = sym (applied-again done left m) ∙ ap (applied (done ++ left)) (sym bare);
    }))

-- and once the batch is gone
pub view_done : (changes : List Change) (m : Map) → AllByRecursion IsPart changes
    → fin.get m batch_name ≡ None → IsView (applied changes m) (applied changes m)
view_done changes m parts none = view_bare (applied changes m) (leaves_batch changes m parts ∙ none)
