-- Texts that are gathered one after another, and what was put of them.
use Rattle.std.specs.Prelude.{◌≡◌, ℕ, List, [], ◌++◌, take, Bool, false, Option, Some, Result, Err, Ok, IsTrue}
use Rattle.std.proofs.Common.{ap, sym, ◌∙◌, append_assoc, append-nil, subst}
use Rattle.disk_face.specs.Streams.{Puts, SinkState}
use Rattle.segment_layout.specs.Books.{differs}
use Rattle.dump_stream.specs.Dumping.{Front, Gathers, GathersIfSound, PutsIfSound}
use Rattle.dump_stream.specs.declared.putting.DumpFault.{DumpFault}
use Rattle.dump_stream.specs.declared.putting.DumpFault.TheVariants as faults
use Rattle.dump_stream.proofs.PutLaws.{front_then, front_wider, put_then}

-- one fault, whatever would have been answered without it
abbrev pub failed : (T : Type 0) → DumpFault → Result T DumpFault
failed T why = Err why

pub failed_same : (S T : Type 0) (why other : DumpFault) → failed S why ≡ failed S other
    → failed T why ≡ failed T other
failed_same S T why other is = let same : why ≡ other = cc in ap (failed T) same

-- ---- behind what was gathered

module _ (held first before mid left : List ℕ) (gathered : Gathers held first before mid left) where
  whole : (text : List ℕ) → gathered.moved ++ (left ++ text) ≡ held ++ (first ++ text)
  whole text =
      sym (append_assoc gathered.moved left text)
      ∙ ap (λ (s : List ℕ). s ++ text) gathered.rest
      ∙ append_assoc held first text

  -- one text more
  pub gathers_then : (text now next : List ℕ) → Gathers left text mid now next
      → Gathers held (first ++ text) before now next
  gathers_then text now next more = record {
    moved = gathered.moved ++ more.moved;
    put = more.put ∙ ap (λ (s : List ℕ). s ++ more.moved) gathered.put
        ∙ append_assoc before gathered.moved more.moved;
    rest = append_assoc gathered.moved more.moved next
        ∙ ap (λ (s : List ℕ). gathered.moved ++ s) more.rest ∙ whole text;
  }

  -- a front of what is held and one text more was put
  pub gathers_front : (text now : List ℕ) → Front mid now (left ++ text)
      → Front before now (held ++ (first ++ text))
  gathers_front text now f = subst (Front before now) (whole text)
      (front_then before mid now gathered.moved (left ++ text) gathered.put f)

  -- what is held was put
  pub gathers_stop : (now : List ℕ) → now ≡ mid ++ left → now ≡ before ++ (held ++ first)
  gathers_stop now is =
      is ∙ ap (λ (s : List ℕ). s ++ left) gathered.put
      ∙ append_assoc before gathered.moved left
      ∙ ap (λ (s : List ℕ). before ++ s) gathered.rest

  -- or a front of it
  pub gathers_end : {T E : Type 0} (now : List ℕ) (end : Result T E) → Puts mid now left end
      → Puts before now (held ++ first) end
  gathers_end now end p = subst (λ (s : List ℕ). Puts before now s end) gathered.rest
      (put_then before mid now gathered.moved left end gathered.put p)

-- ---- one object

module _ (spoilt : Bool) (held text : List ℕ) (before now : SinkState) (buffer : List ℕ) where
  -- a device failed when a front of what was held was put
  pub cut_in_held : {T : Type 0} (why : DumpFault) → ((failed T why ≡ Err faults.Damaged) → ⊥)
      → (IsTrue before.tells → Front before.given now.given held)
      → GathersIfSound spoilt held text before now buffer (Err why)
  cut_in_held {T} why other front = record {
    gathers = λ told. tt;
    front = λ told isnt. front_wider before.given now.given held text (front told);
    stops = λ told is. absurd (other (failed_same ℕ T why faults.Damaged is));
    damaged = λ is. absurd (other (failed_same ℕ T why faults.Damaged is));
    sound = tt;
  }

  -- it is held behind what was
  pub held_behind : (n : ℕ) → spoilt ≡ false → now.given ≡ before.given → take n buffer ≡ held ++ text
      → GathersIfSound spoilt held text before now buffer (Ok n)
  held_behind n sound none is = record {
    gathers = λ told. record { moved = []; put = none ∙ sym (append-nil before.given); rest = is };
    front = λ told isnt. tt;
    stops = λ told is. absurd (cc);
    damaged = λ is. absurd (cc);
    sound = sound;
  }

-- it is put at once, where nothing is held, and there comes a fault
module _ (digest : Option (List ℕ)) (object text : List ℕ) (before now : SinkState) (buffer : List ℕ) where
  pub large_cut : {T : Type 0} (why : DumpFault) → PutsIfSound {T = T} digest object text before now (Err why)
      → GathersIfSound (differs digest (Some object)) [] text before now buffer (Err why)
  large_cut {T} why x = record {
    gathers = λ told. tt;
    front = λ told isnt. (x.puts told (λ is. isnt (failed_same T ℕ why faults.Damaged is))).front;
    stops = λ told is. x.nothing (failed_same ℕ T why faults.Damaged is) ∙ sym (append-nil before.given);
    damaged = λ is. x.damaged (failed_same ℕ T why faults.Damaged is);
    sound = tt;
  }

-- behind what was put to make room
module _ (spoilt : Bool) (held left text : List ℕ) (before mid now : SinkState) (buffer : List ℕ)
    (same_told : mid.tells ≡ before.tells)
    (moved : IsTrue before.tells → Gathers held [] before.given mid.given left) where
  there : IsTrue before.tells → IsTrue mid.tells
  there told = subst IsTrue (sym same_told) told

  pub behind : (result : Result ℕ DumpFault) → GathersIfSound spoilt left text mid now buffer result
      → GathersIfSound spoilt held text before now buffer result
  behind (Ok n) x = record {
    gathers = λ told. gathers_then held [] before.given mid.given left (moved told) text now.given
        (take n buffer) (x.gathers (there told));
    front = λ told isnt. tt;
    stops = λ told is. absurd (cc);
    damaged = λ is. absurd (cc);
    sound = x.sound;
  }
  behind (Err why) x = record {
    gathers = λ told. tt;
    front = λ told isnt. gathers_front held [] before.given mid.given left (moved told) text now.given
        (x.front (there told) isnt);
    stops = λ told is. gathers_stop held [] before.given mid.given left (moved told) now.given
        (x.stops (there told) is) ∙ ap (λ (s : List ℕ). before.given ++ s) (append-nil held);
    damaged = x.damaged;
    sound = tt;
  }
