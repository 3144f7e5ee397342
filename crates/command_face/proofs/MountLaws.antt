-- What every command that needs its file promises where that isn't mounted.
use Rattle.std.specs.Prelude.{◌≡◌, ◌≤◌, ℕ, List, [], Result, Err, refl}
use Rattle.std.proofs.Common.{arith, sym, subst, inl, inr, append-nil}
use Rattle.disk_face.specs.Counts.{Rose}
use Rattle.disk_face.specs.States.{State}
use Rattle.disk_face.specs.Frames.{AfterMount}
use Rattle.disk_face.specs.Streams.{SinkState}
use Rattle.command_face.specs.Mounting.{IsNotThere}
use Rattle.command_face.specs.Layers.{Answers}
use Rattle.command_face.specs.declared.stop.StopReason.{StopReason}
use Rattle.command_face.specs.declared.stop.StopReason.TheVariants as stop

module _ (file : List ℕ) (old new : State) (mount : AfterMount old new)
    (later : old.faults ≤ new.faults) where
  abbrev IsOut : StopReason → Type 0
  IsOut why = IsNotThere file old new (why ≡ stop.Disk) (why ≡ stop.NoFile)

  -- it is one of two reasons
  either : (P : StopReason → Type 0) → (why : StopReason) → IsOut why
      → (Rose old.faults new.faults → P stop.Disk) → (new.faults ≡ old.faults → P stop.NoFile) → P why
  either P why is disk gone = elim is as (λ _. P why) [
    | inl failed ↦ subst P (sym failed.0) (disk failed.2)
    | inr absent ↦ subst P (sym absent.0) (gone absent.2)
  ]

  -- nothing is put
  module _ (answer : Result (List ℕ) StopReason → Type 0) (out : SinkState) where
    pub answers : (why : StopReason) → IsOut why → Answers answer out out (Err why)
    answers why is = either (λ (w : StopReason). Answers answer out out (Err w)) why is
        (λ rose. record {
          bytes = [];
          ends = inr refl;
          puts = λ told. record { all = tt; front = (0, omega arith, sym (append-nil out.given)) };
        })
        (λ calm. record {
          bytes = [];
          ends = refl;
          puts = λ told. record { all = tt; front = (0, omega arith, sym (append-nil out.given)) };
        })
