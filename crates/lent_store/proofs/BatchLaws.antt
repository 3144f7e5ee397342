-- What a batch leaves of a file whose calls it has noted.
use Rattle.std.proofs.Common.{◌≡◌, ◌∙◌, refl, subst, sym, inl, inr, Bool, true, false, ℕ, List}
use Rattle.std.specs.Prelude.{◌<◌, ◌-◌, ◌^◌, Result, Ok, Err}
use Rattle.std.proofs.lemmas.Bool.{false≢true}
use Rattle.disk_face.specs.Frames.{Unchanged}
use Rattle.disk_history.specs.Histories.{MayLeave}
use Rattle.size_class.specs.declared.TheConstants.{CLASSES}
use Rattle.map_model.specs.Requests.{Change}
use Rattle.store_model.specs.Changes.{NothingChanged}
use Rattle.store_model.specs.Connection.{RestsOnTable, SameOnTable, StoreValue, base_of}
use Rattle.batch_core.specs.Answers.{Applies, Finishes, is_begun, is_disk, is_disk_fault, kept_text}
use Rattle.batch_core.specs.declared.fault.BatchFault.{BatchFault}
use Rattle.batch_model.specs.Batches.{IsBatch}
use Rattle.lent_store.specs.Batched.{IsBatchImage, batch_for, batch_kept, begun_on, ended_on}
use Rattle.lent_store.specs.Embedded.{Embedded, disk_before, disk_of}
use Rattle.lent_store.specs.Noted.{IsNoted, RestsOnKept, StopsAt}
use Rattle.lent_store.proofs.StopLaws.{stops}
use Rattle.lent_store.proofs.Cases.{by_bool, or_right}

module _ (old new : Embedded) (noted : IsNoted old new) (low : old.noting.history.turn < 2 ^ 64 - 1) where
  pub stopped_apply : (text : List ℕ) (changes : List Change) (result : Result Bool BatchFault)
      → Applies CLASSES text (begun_on old) (ended_on new) result → IsBatch text changes → RestsOnKept old
      → StopsAt old new (IsBatchImage (batch_for old text changes) old)
  stopped_apply text changes result is batch rests = by_bool (is_begun result)
      (λ begun. stops old new noted low _ (IsBatchImage (batch_for old text changes) old) (λ image p. inr p)
      ((is.begun begun refl changes batch).left rests))
      (λ none. stops old new noted low (MayLeave old.noting.history)
      (IsBatchImage (batch_for old text changes) old) (λ image p. inl p) (is.same none).same_disk.since)

  pub stopped_finish : (changes : List Change) (result : Result Bool BatchFault)
      → Finishes CLASSES (begun_on old) (ended_on new) result → IsBatch (kept_text (begun_on old)) changes
      → RestsOnKept old → StopsAt old new (IsBatchImage (batch_kept old changes) old)
  stopped_finish changes result is batch rests = by_bool (is_begun result)
      (λ begun. stops old new noted low _ (IsBatchImage (batch_kept old changes) old) (λ image p. inr p)
      ((is.begun begun refl changes batch).left rests))
      (λ none. stops old new noted low (MayLeave old.noting.history)
      (IsBatchImage (batch_kept old changes) old) (λ image p. inl p) (is.same none).same_disk.since)

-- nothing changed
unchanged_rests : (old new : Embedded) → new.store ≡ old.store → Unchanged (disk_before old) (disk_of new)
    → RestsOnKept old → RestsOnKept new
unchanged_rests old new same_store same_disk rests =
    subst (λ (s : StoreValue). RestsOnTable (base_of s) s.kept (disk_of new)) (sym same_store)
    (λ image may. subst (λ file. SameOnTable (base_of old.store) old.store.kept file image)
    (sym (same_disk.same_file refl)) (rests image (same_disk.images image may)))

same_rests : (old new : Embedded) → NothingChanged old.store new.store (disk_before old) (disk_of new)
    → RestsOnKept old → RestsOnKept new
same_rests old new same rests = unchanged_rests old new same.same_store same.same_disk rests

pub apply_rests : (text : List ℕ) (old new : Embedded) (result : Result Bool BatchFault)
    → Applies CLASSES text (begun_on old) (ended_on new) result → new.store.is_broken ≡ false
    → RestsOnKept old → RestsOnKept new
apply_rests text old new (Ok true) is whole rests =
    let fit = is.answer.0.2 in ((is.begun refl refl fit.changes fit.batch).done refl).rests rests
apply_rests text old new (Ok false) is whole rests = same_rests old new (is.same refl) rests
apply_rests text old new (Err why) is whole rests =
    same_rests old new (is.same (or_right old.store.is_broken (is_disk_fault {T = Bool} (Err why))
    (sym is.broken ∙ whole))) rests

pub finish_rests : (old new : Embedded) (result : Result Bool BatchFault)
    → Finishes CLASSES (begun_on old) (ended_on new) result → new.store.is_broken ≡ false
    → RestsOnKept old → RestsOnKept new
finish_rests old new (Ok true) is whole rests =
    let fit = (is.judged refl).1 in ((is.begun refl refl fit.changes fit.batch).done refl).rests rests
finish_rests old new (Ok false) is whole rests = same_rests old new (is.same refl) rests
finish_rests old new (Err why) is whole rests = by_bool (is_disk why)
    (λ failed. elim (is.broken.failed failed) as (λ _. RestsOnKept new) [
      | inl broken ↦ absurd (false≢true (sym whole ∙ broken))
      | inr same ↦ unchanged_rests old new same.0 same.1 rests
    ])
    (λ calm. same_rests old new (is.same calm) rests)
