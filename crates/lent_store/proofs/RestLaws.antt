-- A store over a file in memory rests on its last checkpoint.
use Rattle.std.proofs.Common.{ap, rules, ◌≡◌, ◌∙◌, refl, subst, sym, inl, inr, Bool, true, false, ℕ, List}
use Rattle.std.specs.Prelude.{Option, Some, None, IsSome, IsNone, IsTrue, Ok, Err, OnOk, Result}
use Rattle.std.proofs.lemmas.Bool.{false≢true}
use Rattle.disk_face.specs.States as disk
use Rattle.disk_face.proofs.ImageLaws.{image_synced}
use Rattle.size_class.specs.declared.TheConstants.{CLASSES}
use Rattle.lent_disk.specs.Disks.{lent_state}
use Rattle.lent_disk.specs.Notings.{lent}
use Rattle.map_model.specs.Requests as ask
use Rattle.map_model.specs.Requests.{Change}
use Rattle.segment_layout.specs.Books.{is_quiet}
use Rattle.store_model.specs.declared.answers.Begun.{Begun}
use Rattle.store_model.specs.declared.answers.Done.{Done}
use Rattle.store_model.specs.declared.answers.Refusal.{Refusal}
use Rattle.store_model.specs.Answers.{AnswersChange, is_disk_fault, refused_by}
use Rattle.store_model.specs.Begins.{AnswersBegin, BeginsChange}
use Rattle.store_model.specs.Changes.{NothingChanged}
use Rattle.store_model.specs.Changing.{IsChange}
use Rattle.store_model.specs.Keeps.{KeepsNow}
use Rattle.store_model.specs.Upgrades.{Upgrades, idle_answer}
use Rattle.store_model.specs.Connection.{RestsOnTable, SameOnTable, StoreValue, base_of}
use Rattle.store_model.specs.Opened.{IsOpening, SameOnFound}
use Rattle.store_model.specs.Quiet.{charges_of}
use Rattle.lent_store.specs.Embedded.{Embedded, disk_of}
use Rattle.lent_store.specs.Noted.{RestsOnKept}
use Rattle.lent_store.proofs.Cases.{by_cases, by_bool, by_option, or_right}
use Rattle.store_model.proofs.OpeningLaws.{alike_itself}

pub opened_rests : (file : List ℕ) (room log_room : ℕ) (s : Embedded)
    → IsOpening CLASSES (lent_state (lent file room log_room)) (disk_of s) (Ok s.store) → RestsOnKept s
opened_rests file room log_room s is =
    let o = is.opened refl in
    (is.found refl o.table o.m o.b o.found).rests (λ image may.
    subst (SameOnFound o.table file) (sym (image_synced file image may)) (alike_itself o.table file))

none_of : {A : Type 0} (o : Option A) → IsNone o → o ≡ None
none_of None h = refl
none_of (Some x) h = absurd (search rules)

-- an answer of a change that is served is Ok, where the disk didn't fail
served_ok : {P : Type 0} (quiet : Bool) (result : Result Done Refusal) → AnswersChange quiet None result
    → is_disk_fault result ≡ false → OnOk result P → P
served_ok quiet (Ok done) answer calm p = p
served_ok quiet (Err refused) (inl e) calm p = absurd (search rules)
served_ok quiet (Err refused) (inr e) calm p = absurd (false≢true (sym calm ∙ ap is_disk_fault e))

-- and so is one of a begin
begun_ok : {P : Type 0} (quiet : Bool) (result : Result Begun Refusal) → AnswersBegin quiet None result
    → is_disk_fault result ≡ false → OnOk result P → P
begun_ok quiet (Ok begun) answer calm p = p
begun_ok quiet (Err refused) (inl e) calm p = absurd (search rules)
begun_ok quiet (Err refused) (inr e) calm p = absurd (false≢true (sym calm ∙ ap is_disk_fault e))

module _ {old new : StoreValue} {a d : disk.State} (told : IsTrue a.tells) where
  refused_rests : NothingChanged old new a d → RestsOnTable (base_of old) old.kept a
      → RestsOnTable (base_of new) new.kept d
  refused_rests same rests =
      subst (λ (s : StoreValue). RestsOnTable (base_of s) s.kept d) (sym same.same_store)
      (λ image may. subst (λ file. SameOnTable (base_of old) old.kept file image)
      (sym (same.same_disk.same_file told)) (rests image (same.same_disk.images image may)))

  pub change_rests : (c : Change) (result : Result Done Refusal) → IsChange CLASSES c old new a d result
      → new.is_broken ≡ false → RestsOnTable (base_of old) old.kept a → RestsOnTable (base_of new) new.kept d
  change_rests c result is whole rests = by_cases (refused_by old (ask.change c))
      (λ h. refused_rests (is.refused h) rests)
      (λ h. by_bool (is_quiet (charges_of old c)) (λ q. quiet_rests h q) (λ q. flush_rests h q))
    where
      calm : is_disk_fault result ≡ false
      calm = or_right old.is_broken (is_disk_fault result) (sym is.broken ∙ whole)

      answers : IsNone (refused_by old (ask.change c))
          → AnswersChange (is_quiet (charges_of old c)) None result
      answers h = subst (λ o. AnswersChange (is_quiet (charges_of old c)) o result)
          (none_of (refused_by old (ask.change c)) h) is.answer

      quiet_rests : IsNone (refused_by old (ask.change c)) → is_quiet (charges_of old c) ≡ true
          → RestsOnTable (base_of new) new.kept d
      quiet_rests h q =
          let value = served_ok (is_quiet (charges_of old c)) result (answers h) calm (is.quiet h q).value in
          subst (λ (s : StoreValue). RestsOnTable (base_of s) s.kept d) (sym value.rest)
          ((is.quiet h q).rests told rests)

      flush_rests : IsNone (refused_by old (ask.change c)) → is_quiet (charges_of old c) ≡ false
          → RestsOnTable (base_of new) new.kept d
      flush_rests h q = served_ok (is_quiet (charges_of old c)) result (answers h) calm
          ((is.flush h q).on_table told)

  pub keep_rests : (result : Result Done Refusal)
      → (IsSome (refused_by old ask.keep) → NothingChanged old new a d)
      → (IsNone (refused_by old ask.keep) → KeepsNow CLASSES old new a d result)
      → new.is_broken ≡ false → RestsOnTable (base_of old) old.kept a → RestsOnTable (base_of new) new.kept d
  keep_rests result refused kept whole rests = by_cases (refused_by old ask.keep)
      (λ h. refused_rests (refused h) rests) (λ h. by_result result (kept h))
    where
      by_result : (r : Result Done Refusal) → KeepsNow CLASSES old new a d r
          → RestsOnTable (base_of new) new.kept d
      by_result (Ok done) k = k.on_table told
      by_result (Err why) k = absurd (false≢true (sym whole ∙ ap (λ (s : StoreValue). s.is_broken) k.failed))

  pub upgrade_rests : (result : Result Done Refusal) → (IsSome (idle_answer old) → NothingChanged old new a d)
      → (idle_answer old ≡ None → Upgrades CLASSES old new a d result) → new.is_broken ≡ false
      → RestsOnTable (base_of old) old.kept a → RestsOnTable (base_of new) new.kept d
  upgrade_rests result idle upgrades whole rests = by_option (idle_answer old)
      (λ h. refused_rests (idle h) rests) (λ none. by_result result (upgrades none))
    where
      by_result : (r : Result Done Refusal) → Upgrades CLASSES old new a d r
          → RestsOnTable (base_of new) new.kept d
      by_result (Ok done) u = u.on_table told
      by_result (Err why) u = absurd (false≢true (sym whole ∙ ap (λ (s : StoreValue). s.is_broken) u.failed))

  -- a begin that leaves no flush in hand
  pub begin_rests : (c : Change) (result : Result Begun Refusal) → BeginsChange CLASSES c old new a d result
      → new.is_broken ≡ false → new.in_hand ≡ None → RestsOnTable (base_of old) old.kept a
      → RestsOnTable (base_of new) new.kept d
  begin_rests c result is whole idle rests = by_cases (refused_by old (ask.change c))
      (λ h. refused_rests (is.refused h) rests)
      (λ h. by_bool (is_quiet (charges_of old c)) (λ q. quiet_rests h q) (λ q. no_flush h q))
    where
      calm : is_disk_fault result ≡ false
      calm = or_right old.is_broken (is_disk_fault result) (sym is.broken ∙ whole)

      answers : IsNone (refused_by old (ask.change c))
          → AnswersBegin (is_quiet (charges_of old c)) None result
      answers h = subst (λ o. AnswersBegin (is_quiet (charges_of old c)) o result)
          (none_of (refused_by old (ask.change c)) h) is.answer

      quiet_rests : IsNone (refused_by old (ask.change c)) → is_quiet (charges_of old c) ≡ true
          → RestsOnTable (base_of new) new.kept d
      quiet_rests h q =
          let value = begun_ok (is_quiet (charges_of old c)) result (answers h) calm (is.quiet h q).value in
          subst (λ (s : StoreValue). RestsOnTable (base_of s) s.kept d) (sym value.rest)
          ((is.quiet h q).rests told rests)

      no_flush : IsNone (refused_by old (ask.change c)) → is_quiet (charges_of old c) ≡ false
          → RestsOnTable (base_of new) new.kept d
      no_flush h q =
          let held = begun_ok (is_quiet (charges_of old c)) result (answers h) calm (is.flush h q).holds in
          absurd (let bad : None ≡ Some held.0 = sym idle ∙ held.1.is in cc)
