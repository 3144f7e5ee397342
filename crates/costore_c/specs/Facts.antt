-- What a handle tells of its store, and of the next name.
use Rattle.std.specs.Prelude.{◌≡◌, ◌<◌, ◌≤◌, ℤ, ℕ, pos, true, false, List, length, take, drop, Option, Some, None, Result, Ok, Err}
use Rattle.map_model.specs.Requests as ask
use Rattle.store_model.specs.declared.answers.Refusal.{Refusal}
use Rattle.store_model.specs.declared.answers.Refusal.TheVariants as why
use Rattle.store_model.specs.Above.{first_above, next_answer}
use Rattle.store_model.specs.Answers.{refused_by}
use Rattle.store_model.specs.Facts.{facts_of}
use Rattle.store_model.specs.Lines.{listing_of}
use Rattle.lent_store.specs.Embedded.{Embedded, file_in}
use Rattle.costore_c.specs.Answers.{refusal_code, short_code}
use Rattle.costore_c.specs.declared.names.Info.{Info}

-- what there is to tell of a store: its own facts, how long its file is, and how long it may be
abbrev pub info_of : Embedded → Info
info_of e =
    let facts = facts_of e.store in
    record {
      version = facts.version;
      k = facts.k;
      names = facts.names;
      names_most = facts.cap;
      live = facts.live;
      bytes = facts.bytes;
      kept = facts.kept_live;
      kept_bytes = facts.kept_bytes;
      sequence = facts.sequence;
      file = length (file_in e);
      room = e.noting.room;
      moves_left = facts.moves_left;
      bytes_left = facts.bytes_left;
    }

-- it was told; a broken store tells nothing
pub record Informs (before now : Info) (e : Embedded) (code : ℤ) : Type 0 where
  pub broken : e.store.is_broken ≡ true → (code ≡ refusal_code why.Broken) × (now ≡ before)
  pub told : e.store.is_broken ≡ false → (code ≡ pos 0) × (now ≡ info_of e)

-- memory of a caller: bytes, and two numbers
pub record Named : Type 0 where
  pub out : List ℕ
  pub length : ℕ
  pub size : ℕ

abbrev pub named : List ℕ → ℕ → ℕ → Named
named out length size = record { out = out; length = length; size = size }

-- A name was copied to the front of memory, and its length and the size of its object written; or it is
-- longer, and nothing was.
pub record Passes (name : List ℕ) (bytes : ℕ) (before now : Named) (code : ℤ) : Type 0 where
  pub fits : length name ≤ length before.out → (code ≡ pos 0) × (take (length name) now.out ≡ name)
      × (drop (length name) now.out ≡ drop (length name) before.out) × (now.length ≡ length name)
      × (now.size ≡ bytes)
  pub long : length before.out < length name → (code ≡ short_code) × (now ≡ before)

-- so the next name, if there is one
abbrev pub PassesNext : Result (Option (List ℕ × ℕ)) Refusal → Named → Named → ℤ → Type 0
PassesNext (Ok (Some e)) before now code = Passes e.0 e.1 before now code
PassesNext (Ok None) before now code = (code ≡ refusal_code why.Missing) × (now ≡ before)
PassesNext (Err refused) before now code = (code ≡ refusal_code refused) × (now ≡ before)

-- that of a store
abbrev pub Names : List ℕ → Named → Named → Embedded → ℤ → Type 0
Names above before now e code = PassesNext (next_answer (refused_by e.store ask.list)
    (first_above above (listing_of e.store.now))) before now code
