-- What was put, and which status comes of it.
use Rattle.std.specs.Prelude.{◌≡◌, ◌⊎◌, ◌≤◌, ℕ, List, ◌++◌, length, Result, Ok, Err, OnErr, OnOk}
use Rattle.command_face.specs.declared.status.TheConstants.{DONE}
use Rattle.command_face.specs.declared.stop.StopReason.{StopReason}
use Rattle.command_face.specs.declared.stop.StopReason.TheVariants as stop
use Rattle.std.proofs.Common.{arith, ap, sym, ◌∙◌, inl, inr}
use Rattle.disk_face.specs.Counts.{HasCause, Rose}
use Rattle.std.proofs.lemmas.List.{take_all}
use Rattle.disk_face.specs.Streams.{Puts, SinkState}
use Rattle.command_face.specs.Outcomes.{IsFront, PutsLast, status_at}

-- all bytes are a front of them
pub Puts-front : {T E : Type 0} (before now bytes : List ℕ) (result : Result T E)
    → Puts before now bytes result → IsFront before now bytes
Puts-front before now bytes (Ok x) puts = (
  length bytes,
  omega arith,
  puts.all
      ∙ ap (λ (xs : List ℕ). before ++ xs) (sym (take_all (length bytes) bytes (omega arith))),
)
Puts-front before now bytes (Err e) puts = puts.front

-- bytes that were put, told by the count of the sink's faults
pub put_last : {T E : Type 0} (old new : SinkState) (bytes : List ℕ) (result : Result T E)
    → Puts old.given new.given bytes result → HasCause old.faults new.faults result
    → PutsLast old.given new.given bytes (Rose old.faults new.faults)
put_last old new bytes result puts cause = record {
  front = Puts-front old.given new.given bytes result puts;
  whole = whole_of result puts cause.rose;
}
  where
    whole_of : {T E : Type 0} (r : Result T E) → Puts old.given new.given bytes r
        → OnErr r (Rose old.faults new.faults)
        → (new.given ≡ old.given ++ bytes) ⊎ Rose old.faults new.faults
    whole_of (Ok x) p rose = inl p.all
    whole_of (Err e) p rose = inr rose

-- a count that rose later has risen since before
pub later_rose : {between now : List ℕ} {line : List ℕ} (a b n : ℕ) → a ≤ b
    → PutsLast between now line (Rose b n) → PutsLast between now line (Rose a n)
later_rose {between} {now} {line} a b n later last = record {
  front = last.front;
  whole = elim last.whole as (λ x. (now ≡ between ++ line) ⊎ Rose a n) [
    | inl is ↦ inl is
    | inr rose ↦ inr (omega (arith, rose, later))
  ];
}

pub calm_by : {P : Type 0} (end : Result (Unit {0}) StopReason) → OnOk end P → status_at end ≡ DONE → P
calm_by (Ok x) calm is = calm
calm_by (Err stop.Words) calm is = absurd (omega (arith, is))
calm_by _ calm is = absurd (omega (arith, is))
