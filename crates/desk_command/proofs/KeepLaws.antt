-- What a desk keeps of its devices, by how it ended.
use Rattle.std.specs.Prelude.{◌≡◌, ◌≢◌, ℕ, false, Result, Ok, Err, refl}
use Rattle.std.proofs.Common.{arith, ap, sym, ◌∙◌, subst}
use Rattle.std.proofs.lemmas.Bool.{false≢true}
use Rattle.disk_face.specs.Writes.{KeepsDisk}
use Rattle.disk_face.proofs.FrameLaws.{Stays-trans}
use Rattle.size_class.specs.declared.TheConstants.{CLASSES}
use Rattle.slot_pair.specs.Finding.{HasDiskCause}
use Rattle.ask_text.specs.declared.ends.End.{End}
use Rattle.ask_text.specs.declared.ends.End.TheVariants as ends
use Rattle.ask_text.specs.declared.ends.Turn.TheVariants as turn
use Rattle.ask_session.specs.Outside.{Held, Outside, Seen, outside_of}
use Rattle.ask_session.specs.Inputs.{is_source_fault}
use Rattle.command_face.specs.Layers.{HasCausesAt}
use Rattle.command_face.specs.declared.stop.StopReason.TheVariants as stop
use Rattle.desk_core.specs.Benches.{Bench}
use Rattle.desk_core.specs.Runs.{EndsIn, HasPlayed}
use Rattle.desk_core.specs.Turns.{KeepsBench}
use Rattle.served_file.specs.Ends.{end_of}

-- ---- how it ends, and why

pub ends_disk : (why : End) (n : ℕ) → end_of why n ≡ Err stop.Disk → why ≡ ends.Disk
ends_disk ends.End n is = absurd (cc)
ends_disk ends.Line n is = absurd (cc)
ends_disk ends.Disk n is = refl
ends_disk ends.Source n is = absurd (cc)
ends_disk ends.Sink n is = absurd (cc)
ends_disk ends.Budget n is = absurd (cc)

pub ends_sink : (why : End) (n : ℕ) → end_of why n ≡ Err stop.Sink → why ≡ ends.Sink
ends_sink ends.End n is = absurd (cc)
ends_sink ends.Line n is = absurd (cc)
ends_sink ends.Disk n is = absurd (cc)
ends_sink ends.Source n is = absurd (cc)
ends_sink ends.Sink n is = refl
ends_sink ends.Budget n is = absurd (cc)

pub ends_source : (why : End) (n : ℕ) → end_of why n ≡ Err stop.Source → why ≡ ends.Source
ends_source ends.End n is = absurd (cc)
ends_source ends.Line n is = absurd (cc)
ends_source ends.Disk n is = absurd (cc)
ends_source ends.Source n is = refl
ends_source ends.Sink n is = absurd (cc)
ends_source ends.Budget n is = absurd (cc)

pub ends_well : (why : End) (n : ℕ) → end_of why n ≡ Ok tt → why ≡ ends.End
ends_well ends.End n is = refl
ends_well ends.Line n is = absurd (cc)
ends_well ends.Disk n is = absurd (cc)
ends_well ends.Source n is = absurd (cc)
ends_well ends.Sink n is = absurd (cc)
ends_well ends.Budget n is = absurd (cc)

-- no source failed, but where the desk ended for that
source_calm : (why : End) → why ≢ ends.Source → is_source_fault {T = Unit {0}} (Err why) ≡ false
source_calm ends.End other = refl
source_calm ends.Line other = refl
source_calm ends.Disk other = refl
source_calm ends.Source other = absurd (other refl)
source_calm ends.Sink other = refl
source_calm ends.Budget other = refl

-- ---- the last turn

module _ {D I O : Type 0} (seen : Seen D I O) (n : ℕ) (old b new : Bench) (first mid now : Held D I O) where
  abbrev o0 : Outside
  o0 = outside_of seen first

  abbrev o1 : Outside
  o1 = outside_of seen mid

  abbrev o2 : Outside
  o2 = outside_of seen now

  abbrev Keeps : End → Type 0
  Keeps why = KeepsBench CLASSES b new o1 o2 (turn.Ended why)

  module _ (ran : HasPlayed CLASSES old b o0 o1 n) where
    -- no turn ended it
    keeps_same : KeepsBench CLASSES b b o1 o1 (turn.Ended ends.Budget)
    keeps_same = record {
      readable = ran.readable;
      broken = λ bad. absurd (false≢true (sym ran.unbroken ∙ bad));
      block = λ calm. refl;
      frame = record {
        no_turn_back = omega arith;
        stays = record { ready = ran.frame.stays.ready; told = refl; images_told = refl; same_mount = refl };
      };
      told = refl;
      source_cause = record { later = omega arith; rose = λ is. absurd (false≢true is); calm = λ is. refl };
      disk_cause = record { later = omega arith; rose = λ is. absurd (cc); calm = λ is. refl };
      sink_cause = record { later = omega arith; rose = λ is. absurd (cc); calm = λ is. refl; told = refl };
    }

    keeps_budget : new ≡ b → now.disk ≡ mid.disk → now.source ≡ mid.source → now.sink ≡ mid.sink
        → Keeps ends.Budget
    keeps_budget bench disk source sink =
        subst (λ (x : Bench). KeepsBench CLASSES b x o1 o2 (turn.Ended ends.Budget)) (sym bench)
        (subst (λ (h : Held D I O). KeepsBench CLASSES b b o1 (outside_of seen h) (turn.Ended ends.Budget))
        (λ i. record { disk = sym disk i; source = sym source i; sink = sym sink i }) keeps_same)

    pub last_keeps : (why : End) → EndsIn CLASSES n b new o1 o2 why
        → (why ≡ ends.Budget → now.disk ≡ mid.disk) → (why ≡ ends.Budget → now.source ≡ mid.source)
        → (why ≡ ends.Budget → now.sink ≡ mid.sink) → Keeps why
    last_keeps ends.End x disk source sink = x.keeps
    last_keeps ends.Line x disk source sink = x.keeps
    last_keeps ends.Disk x disk source sink = x.keeps
    last_keeps ends.Source x disk source sink = x.keeps
    last_keeps ends.Sink x disk source sink = x.keeps
    last_keeps ends.Budget x disk source sink = keeps_budget x.1 (disk refl) (source refl) (sink refl)

    -- ---- the whole run

    module _ (why : End) (keeps : Keeps why) where
      pub frame_ran : KeepsDisk o0.disk o2.disk
      frame_ran = record {
        no_turn_back = omega (arith, ran.frame.no_turn_back, keeps.frame.no_turn_back);
        stays = Stays-trans ran.frame.stays keeps.frame.stays;
      }

      pub causes_ran : (m : ℕ) → HasCausesAt o0.disk o2.disk o0.sink o2.sink (end_of why m)
      causes_ran m = record {
        later = omega (arith, ran.disk_calm, keeps.disk_cause.later);
        rose = λ is. omega (
          arith,
          ran.disk_calm,
          keeps.disk_cause.rose (ap (λ (e : End). Err e) (ends_disk why m is)),
        );
        calm = λ other. keeps.disk_cause.calm (λ is. other (failed_disk is)) ∙ ran.disk_calm;
        sink_later = omega (arith, ran.sink_calm, keeps.sink_cause.later);
        sink_rose = λ is. omega (
          arith,
          ran.sink_calm,
          keeps.sink_cause.rose (ap (λ (e : End). Err e) (ends_sink why m is)),
        );
        sink_calm = λ done. keeps.sink_cause.calm (λ is. not_sink done is) ∙ ran.sink_calm;
        sink_told = keeps.sink_cause.told ∙ ran.sink_told;
      }
        where
          failed_disk : ◌≡◌ {A = Result (Unit {0}) End} (Err why) (Err ends.Disk)
              → end_of why m ≡ Err stop.Disk
          failed_disk is = let e : why ≡ ends.Disk = cc in ap (λ (w : End). end_of w m) e

          not_sink : end_of why m ≡ Ok tt → ◌≡◌ {A = Result (Unit {0}) End} (Err why) (Err ends.Sink) → ⊥
          not_sink done is =
              let a : why ≡ ends.End = ends_well why m done in
              let e : why ≡ ends.Sink = cc in
              let f : ends.End ≡ ends.Sink = sym a ∙ e in
              absurd (cc)

      pub source_ran : (m : ℕ) → HasDiskCause stop.Source o0.source.faults o2.source.faults (end_of why m)
      source_ran m = record {
        later = omega (arith, ran.source_calm, keeps.source_cause.later);
        rose = λ is. omega (
          arith,
          ran.source_calm,
          keeps.source_cause.rose (ap (λ (e : End). is_source_fault {T = Unit {0}} (Err e))
              (ends_source why m is)),
        );
        calm = λ other. keeps.source_cause.calm (source_calm why (λ is. other (ap (λ (w : End). end_of w m)
            is))) ∙ ran.source_calm;
      }
