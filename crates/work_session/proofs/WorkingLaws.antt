-- Jobs that were done and counted, one after another.
use Rattle.std.specs.Prelude.{ℕ, ◌+◌, ◌≤◌, List, [], ◌∷◌, ◌++◌, length, Ok, Err, IsTrue, refl}
use Rattle.std.proofs.Common.{arith, ap, sym, ◌∙◌, subst, append_assoc, length-append}
use Rattle.disk_face.specs.States as disk
use Rattle.map_model.specs.Requests.{Request}
use Rattle.store_model.specs.Connection.{IsConnected, StoreValue, state_of}
use Rattle.store_model.specs.Opened.{IsFresh}
use Rattle.ask_text.specs.declared.reply.Reply as text
use Rattle.ask_text.specs.declared.ends.End.{End}
use Rattle.ask_session.specs.Serving.{reply_at}
use Rattle.work_session.specs.Jobs.{Does, IsWorking, no_tally, tally_with}
use Rattle.work_session.specs.Works.{HasStopped}
use Rattle.work_session.specs.declared.tally.Tally.{Tally}
use Rattle.work_session.proofs.LedgerLaws.{full_row, ledger_more, ledger_none, tally_few, tally_more, tally_read}
use Rattle.work_session.proofs.WorkLaws.{work_stopped, worked_more, worked_none}

abbrev pub working_none : {classes : ℕ} (s : StoreValue) (all : List Request) (a : disk.State)
    → IsFresh classes s → IsConnected classes s a → IsTrue a.is_ready
    → IsWorking classes s s all all a a no_tally
working_none {classes} s all a fresh over ready = record {
  jobs = [];
  replies = [];
  states = [];
  split = refl;
  ran = worked_none s a fresh.whole fresh.store over ready;
  counts = λ told. record { ok = refl; kept = refl; read = refl; refused = refl };
  few = omega arith;
  read_few = omega arith;
  ledger = ledger_none s a fresh;
}

module _ {classes : ℕ} (old mid new : StoreValue) (all left : List Request) (r : Request) (a b d : disk.State)
    (t : Tally) (x : IsWorking classes old mid all (r ∷ left) a b t) where
  -- so many jobs are done at most
  pub few_jobs : length x.jobs + 1 ≤ length all
  few_jobs = omega (arith, ap length x.split, length-append x.jobs (r ∷ left))

  pub told_b : IsTrue a.tells → IsTrue b.tells
  told_b told = subst IsTrue (sym x.ran.frame.stays.told) told

  module _ (head : text.Reply) (does : Does classes r mid new b d (Ok head)) (few : length all
      ≤ 1000001) where
    abbrev pub working_more : IsWorking classes old new all left a d (tally_with t head)
    working_more = record {
      jobs = x.jobs ++ r ∷ [];
      replies = x.replies ++ reply_at mid b.file r ∷ [];
      states = x.states ++ state_of new d.file ∷ [];
      split = x.split ∙ sym (append_assoc x.jobs (r ∷ []) left);
      ran = worked_more old mid a b x.jobs x.replies x.states x.ran r new d head does.serves does.sound
          does.cause.later;
      counts = λ told. tally_more x.replies (reply_at mid b.file r) head t (x.counts told)
          (does.replied (told_b told));
      few = omega (arith, tally_few t head, x.few, length-append x.jobs (r ∷ []));
      read_few = omega (arith, tally_read t head, x.read_few, does.small, length-append x.jobs (r ∷ []));
      ledger = ledger_more old mid new a b d x.jobs x.replies x.states x.ledger told_b x.ran.chain
          x.ran.newest r (does.charges (full_row old mid a b x.jobs x.replies x.states x.ledger))
          (omega (arith, few_jobs, few));
    }

  pub working_stopped : (end : End) → Does classes r mid new b d (Err end) → HasStopped classes old all a d
  working_stopped end does =
      work_stopped old mid a b x.jobs x.replies x.states x.ran r new d (Err end) does.serves does.cause
      (ap (λ (x : End). Err x) does.only) all left x.split
