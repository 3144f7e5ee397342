-- All jobs of a work, and its summary.
use Rattle.std.specs.Prelude.{◌≡◌, ℕ, ◌+◌, ◌-◌, ◌*◌, ◌/◌, ◌^◌, ◌≤◌, List, [], length, slice_index, IsTrue}
use Rattle.std.proofs.Common.{arith, ap, sym, ◌∙◌, subst, append-nil}
use Rattle.std.specs.FinMap as fin
use Rattle.disk_face.specs.States as disk
use Rattle.slot_codec.specs.declared.codec.SuperBlock.{SuperBlock}
use Rattle.map_model.specs.Maps.{volume}
use Rattle.map_model.specs.Requests.{Request}
use Rattle.segment_layout.specs.Books.{book_end}
use Rattle.store_model.proofs.SizedLaws.{sized_volume}
use Rattle.move_cost.specs.Costs.{IsCost, factor, flat, linear, potential, seek}
use Rattle.move_cost.specs.Lawful.{flat_is, linear_is, seek_is}
use Rattle.store_model.specs.Connection.{IsOver, StoreValue, base_of, state_of}
use Rattle.store_model.specs.States.{State}
use Rattle.store_model.proofs.OverLaws.{kept_image}
use Rattle.store_model.proofs.StoreLaws.{now_lies}
use Rattle.store_costs.proofs.SessionLaws.{in_all}
use Rattle.store_costs.proofs.WeighedLaws.{sized_now}
use Rattle.ask_session.specs.Runs.{OpensToKept, last_state}
use Rattle.rand_pcg.specs.Lcg.{started, increment_of}
use Rattle.rand_pcg.specs.Pcg.{multiplier_64}
use Rattle.work_maker.specs.Jobs.{jobs as jobs_of}
use Rattle.work_maker.proofs.ListLaws.{how_many}
use Rattle.work_session.specs.Counts.{asked_in, calls_in}
use Rattle.work_session.specs.Jobs.{HasTally, IsWorking}
use Rattle.work_session.specs.Works.{ArePaidLines, CountsOf, EndsAt, HasDone, HasWorked, IsLine, IsPaidLine, LinesOf}
use Rattle.work_session.specs.declared.summary.Cost.{Cost}
use Rattle.work_session.specs.declared.summary.Summary.{Summary}
use Rattle.work_session.specs.declared.tally.Tally.{Tally}
use Rattle.work_session.proofs.CallLaws.{calls_by_weight, linear_weighs}
use Rattle.placement_model.proofs.EntryLaws.{len-read_at}

-- how many jobs a number has
pub jobs_long : (number count names : ℕ) → length (jobs_of number count names) ≡ count + 1
jobs_long number count names =
    how_many names 1 count (started 64 multiplier_64 number (increment_of 64 1))

module _ {classes : ℕ} (old new : StoreValue) (jobs : List Request) (a d : disk.State) (t : Tally)
    (x : Summary)
    (w : IsWorking classes old new jobs [] a d t) (tally : HasTally t (length jobs) x) (end : EndsAt new x)
    (lines : LinesOf classes new.moved new.asked x) (zeros : (c : ℕ) → classes ≤ c
    → slice_index new.moved c ≡ 0)
  where
    pub all_jobs : jobs ≡ w.jobs
    all_jobs = w.split ∙ append-nil w.jobs

    abbrev start : State
    start = state_of old a.file

    abbrev last : State
    last = last_state start w.states

    abbrev k : ℕ
    k = old.in_use.block.k

    told_d : IsTrue a.tells → IsTrue d.tells
    told_d told = subst IsTrue (sym w.ran.frame.stays.told) told

    pub over : IsTrue a.tells → IsOver classes new d.file
    over told = w.ran.over.over w.ran.unbroken (told_d told)

    same_divisor : new.in_use.block.k ≡ k
    same_divisor = ap (λ (u : SuperBlock). u.k) w.ran.block

    pub counts : IsTrue a.tells → CountsOf k w.replies last x
    counts told =
        let h = w.counts told in
        let newest = w.ran.newest told in
        record {
          ok = tally.ok ∙ h.ok;
          kept = tally.kept ∙ h.kept;
          read = tally.read ∙ h.read;
          refused = tally.refused ∙ h.refused;
          names = end.names ∙ sym (len-read_at (base_of new) d.file new.now w.ran.sound.now.named)
              ∙ ap (λ (s : State). fin.len s.map) newest;
          bytes = end.bytes ∙ sym (sized_volume (state_of new d.file).map new.now
              (sized_now new w.ran.sound (base_of new) d.file (now_lies new d.file w.ran.sound (over told))))
              ∙ ap (λ (s : State). volume s.map) newest;
          long = end.long ∙ ap (λ (n : ℕ). book_end n new.book) same_divisor
              ∙ ap (λ (s : State). book_end k s.book) newest;
        }

    paid_line : (cost : ℕ → ℕ) → IsCost classes cost → (line : Cost)
        → IsLine classes cost new.moved new.asked line → IsPaidLine classes cost k old.book.grid line
    paid_line cost is line h =
        subst (λ (n : ℕ). line.moved
        ≤ factor n * line.asked + potential classes cost k old.book.grid) same_divisor
        (omega (
          arith,
          in_all classes cost (potential classes cost k old.book.grid) new (w.ledger.paid cost is),
          h.moved,
          ap (λ (n : ℕ). factor new.in_use.block.k * n) h.asked,
        ))

    pub paid : ArePaidLines classes k old.book.grid x
    paid = record {
      by_linear = paid_line linear (linear_is classes) x.linear lines.by_linear;
      by_flat = paid_line flat (flat_is classes) x.flat lines.by_flat;
      by_seek = paid_line seek (seek_is classes) x.seek lines.by_seek;
    }

    abbrev pub has_done : HasDone classes old jobs a d x
    has_done = record {
      new = new;
      replies = w.replies;
      states = w.states;
      ran = subst (λ (rs : List Request). HasWorked classes old new rs w.replies w.states a d)
          (sym all_jobs) w.ran;
      requests = tally.all;
      few = omega (arith, w.few, tally.ok, tally.kept, tally.refused, tally.all, ap length all_jobs);
      counts = counts;
      ends = end;
      lines = lines;
      same = ap (λ (n : ℕ). n * 2 ^ (classes - 1)) lines.all
          ∙ linear_weighs classes w.ran.sound.now.few new.moved ∙ sym lines.by_linear.moved;
      asked = λ told e. w.ledger.asked told e
          ∙ ap (λ (rs : List Request). asked_in start rs w.replies w.states e) (sym all_jobs);
      paid = paid;
      calls = λ told. omega (
        arith,
        w.ledger.calls told,
        calls_by_weight classes w.ran.sound.now.few new.moved zeros,
        ap (λ (n : ℕ). n / 2 ^ (classes - 1)) lines.by_flat.moved,
        ap (λ (n : ℕ). n / 65536) lines.all,
        ap (λ (rs : List Request). calls_in start rs w.replies w.states) all_jobs,
      );
      opens = λ told. subst (λ (s : State). OpensToKept classes s d.file) (w.ran.newest told)
          (record { table = (over told).table; opens = (over told).checkpoint.opens });
      all = λ told rests image may. subst (λ (s : State). OpensToKept classes s image) (w.ran.newest told)
          (kept_image new w.ran.sound d.file (over told) image (w.ran.rests told rests image may)).opens;
    }
