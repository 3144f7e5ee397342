-- A cache and its disk go on together.
use Rattle.std.specs.Prelude.{◌≡◌, ℕ, Bool, true, false, List, Option, Some, None, Result, IsNone, IsSome, IsTrue}
use Rattle.std.proofs.Common.{rules, sym, subst}
use Rattle.disk_face.specs.States as disk
use Rattle.disk_face.specs.Frames.{Stays}
use Rattle.map_model.specs.Requests as ask
use Rattle.map_model.specs.Requests.{Change}
use Rattle.size_class.specs.declared.TheConstants.{CLASSES}
use Rattle.store_model.specs.declared.answers.Refusal.{Refusal}
use Rattle.store_model.specs.declared.answers.Done.{Done}
use Rattle.store_model.specs.Changes.{IsQuietChange, NothingChanged}
use Rattle.store_model.specs.Changing.{IsChange}
use Rattle.store_model.specs.Flushes.{IsFlush}
use Rattle.store_model.specs.Connection.{IsConnected, IsOver, limits_of, state_of}
use Rattle.store_model.specs.States.{served}
use Rattle.read_cache.specs.CacheValues.{CacheValue}
use Rattle.read_cache.specs.Coherence.{IsCoherent, IsHeld}
use Rattle.read_cache.proofs.CoherenceLaws.{all_stay}
use Rattle.cache_rows.specs.Served.{MayGoOn}

module _ (old new : CacheValue) (before now : disk.State) (h : MayGoOn old before)
    (coherent : IsCoherent new.store new.list.pairs now) where
  on : Stays before now → IsConnected CLASSES new.store now → MayGoOn new now
  on stays over = record {
    ready = stays.ready;
    over = over;
    coherent = coherent;
  }

  -- after a put or a removal, whatever comes of it
  pub after_change : (c : Change) (result : Result Done Refusal)
      → IsChange CLASSES c old.store new.store before now result → MayGoOn new now
  after_change c result x = on (stays _ _ x.refused x.quiet x.flush) x.over
    where
      stays : (refused : Option Refusal) (is_quiet : Bool)
          → (IsSome refused → NothingChanged old.store new.store before now)
          → (IsNone refused → is_quiet ≡ true
          → IsQuietChange CLASSES c old.store new.store before now result)
          → (IsNone refused → is_quiet ≡ false → IsFlush CLASSES c old.store new.store before now result)
          → Stays before now
      stays (Some why) is_quiet is_refused quiet flush = (is_refused (search rules)).same_disk.stays
      stays None true is_refused quiet flush = (quiet (search rules) (search rules)).frame.stays
      stays None false is_refused quiet flush = (flush (search rules) (search rules)).frame.stays

-- the same cache over a disk that tells the same
pub over_alike : (c : CacheValue) (before now : disk.State) → MayGoOn c before → IsTrue now.is_ready
    → now.tells ≡ before.tells → now.file ≡ before.file → MayGoOn c now
over_alike c before now h ready tells file = record {
  ready = ready;
  over = record {
    idle = h.over.idle;
    over = λ whole told. subst (λ (x : List ℕ). IsOver CLASSES c.store x) (sym file)
        (h.over.over whole (subst IsTrue tells told));
  };
  coherent = λ whole. all_stay (IsHeld c.store before) (IsHeld c.store now) c.list.pairs (λ e is. record {
    long = is.long;
    answered = λ told. subst (λ (x : List ℕ). (served (limits_of c.store) (state_of c.store x)
        (ask.get e.0)).reply ≡ ask.found e.1) (sym file) (is.answered (subst IsTrue tells told));
  }) (h.coherent whole);
}
