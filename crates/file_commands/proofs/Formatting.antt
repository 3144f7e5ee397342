-- What is left of an empty file that is formatted.
use Rattle.std.specs.Prelude.{◌≡◌, ℕ, List, [], length, IsTrue}
use Rattle.std.proofs.Common.{◌∙◌, ap, arith, inl, subst, sym}
use Rattle.std.proofs.lemmas.List.{nil_from_length}
use Rattle.disk_face.specs.Counts.{counted}
use Rattle.disk_face.specs.Frames.{Unchanged, Untouched}
use Rattle.disk_face.specs.Moments.{Leaves, Only, Rests}
use Rattle.disk_face.specs.States.{State}
use Rattle.disk_face.proofs.MomentLaws.{Leaves-trans, Leaves-weaken}
use Rattle.slot_pair.proofs.FormatLaws.{short_is_none}
use Rattle.slot_pair.specs.Formats.{HasFirstTable, IsNoStoreOrEmpty, formatted_file}
use Rattle.file_commands.specs.Formatting.{Formats, IsEmptyStore, IsFormatted, IsNoneOrEmpty}
use Rattle.dump_stream.proofs.FirstLaws.{first_opens}
use Rattle.file_commands.proofs.EmptyLaws.{none_or_empty}
use Rattle.disk_face.proofs.FrameLaws.{untouched}

-- an empty file that rests leaves no bytes, which are no store
rests_empty : (s : State) → length s.file ≡ 0 → Rests s → Only [] s.may_leave
rests_empty s empty rests = λ image is. rests image is ∙ nil_from_length s.file empty

none_of_empty : (k names : ℕ) (image : List ℕ) → image ≡ [] → IsNoneOrEmpty k names image
none_of_empty k names image empty = inl (short_is_none image (omega (arith, ap length empty)))

-- it was formatted
pub formatted_now : {a b : State} (k names : ℕ) → b.file ≡ formatted_file k names
    → HasFirstTable k names b.file → Rests b → b.turn ≡ counted a.turn 10 → IsFormatted k names a b
formatted_now {a} {b} k names file table rests calls =
    let store : IsEmptyStore k names b.file =
    record { table = table; opens = first_opens k names b.file table } in
    record {
      file = file;
      store = store;
      rests = rests;
      left = λ image may. subst (λ (f : List ℕ). IsEmptyStore k names f) (sym (rests image may)) store;
      calls = calls;
    }

pub formats_now : {a b : State} (k names : ℕ) (done : Type 0) → length a.file ≡ 0
    → IsNoStoreOrEmpty k names b.file → (Only [] a.may_leave → Leaves a b (IsNoStoreOrEmpty k names))
    → (done → IsFormatted k names a b) → Formats k names a b done
formats_now {a} {b} k names done empty stopped leaves formatted = record {
  stopped = none_or_empty k names b.file stopped;
  images = λ rests. Leaves-weaken (IsNoneOrEmpty k names) (λ image is. none_or_empty k names image is)
      (leaves (rests_empty a empty rests));
  formatted = formatted;
}

pub formats_later : {a b c : State} (k names : ℕ) (done : Type 0) → Untouched a b → IsTrue a.tells
    → length a.file ≡ 0 → Formats k names b c done → Formats k names a c done
formats_later {a} k names done same told empty formats = record {
  stopped = formats.stopped;
  images = λ rests. Leaves-trans
      (Leaves-weaken (IsNoneOrEmpty k names)
      (λ image is. none_of_empty k names image (rests_empty a empty rests image is)) same.since)
      (formats.images (λ image is. rests image (same.images image is) ∙ sym (same.same_file told)));
  formatted = λ is. let whole = formats.formatted is in record {
    file = whole.file;
    store = whole.store;
    rests = whole.rests;
    left = whole.left;
    calls = whole.calls ∙ ap (λ turn. counted turn 10) same.same_turn;
  };
}
