-- What a read of an object leaves.
use Rattle.std.specs.Prelude.{◌≡◌, ◌⊎◌, ◌+◌, ℕ, Bool, true, false, List, length, Option, Some, Result, Err, IfErr, IfOk, IsNone, IsSome, IsTrue, OnOk}
use Rattle.disk_face.specs.Streams.{Puts, SinkState}
use Rattle.segment_layout.specs.Books.{differs}
use Rattle.store_model.specs.declared.answers.Refusal.{Refusal}
use Rattle.store_model.specs.declared.answers.Refusal.TheVariants as why

-- What a sink was given: nothing where the read is refused; else a head and the object, or a front of them
-- where a device failed. That a disk tells its content is known of these bytes, and not of their number: so
-- many of the head, and as many as the answer says.
pub record GivesObject (refused : Option Refusal) (tells : Bool) (bytes before now : List ℕ) (of_head : ℕ)
    (result : Result ℕ Refusal) : Type 0 where
  pub none : IsSome refused → now ≡ before
  pub damaged : result ≡ Err why.Damaged → now ≡ before
  pub front : IsNone refused → IsTrue tells → Puts before now bytes result
  pub number : IfOk result (λ n. length now ≡ length before + of_head + n)

-- Bytes were judged by the digest that they are to have: at Ok they don't differ from it, and where they are
-- damaged they do.
pub record IsJudged {T : Type 0} (digest : Option (List ℕ)) (bytes : List ℕ) (result : Result T Refusal)
    : Type 0 where
  pub fine : OnOk result (differs digest (Some bytes) ≡ false)
  pub damaged : result ≡ Err why.Damaged → differs digest (Some bytes) ≡ true

-- why a read stops that isn't refused for what is asked
abbrev pub StopsARead : Refusal → Type 0
StopsARead refused = (refused ≡ why.Disk) ⊎ (refused ≡ why.Sink) ⊎ (refused ≡ why.Damaged)

-- They were judged before any of them was put: where they differ from the digest, nothing was put.
pub record PutsJudged {T : Type 0} (tells : Bool) (digest : Option (List ℕ)) (bytes : List ℕ)
    (before now : SinkState) (result : Result T Refusal) : Type 0 where
  pub judged : IsTrue tells → IsJudged digest bytes result
  pub clean : IsTrue tells → differs digest (Some bytes) ≡ true → now ≡ before
  pub none : result ≡ Err why.Damaged → now ≡ before
  pub only : IfErr result StopsARead
