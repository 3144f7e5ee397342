-- Books with digests: what a layout shows of objects, and what is given as the digest of an object.
use Rattle.std.specs.Prelude.{◌≡◌, ℕ, ◌≤◌, List, Option, Some, None, option_map, IfSome}
use Rattle.std.specs.FinMap as fin
use Rattle.sha2.specs.Sha256.{sha256}
use Rattle.slot_codec.specs.Spelling.{cap}
use Rattle.size_class.specs.declared.TheConstants.{SIZE_MAX}
use Rattle.map_model.specs.Maps.{Map}
use Rattle.map_model.specs.Requests.{changed}
use Rattle.segment_layout.specs.Books.{Book, with_digests}
use Rattle.extent_table.specs.Extents.{Extents, Spots}
use Rattle.placement_model.specs.LaidOut.{shown_book}

-- the book that a layout shows, with digests
abbrev pub digested_book : ℕ → ℕ → List ℕ → List (List ℕ) → Spots → Option Map → Book
digested_book classes k caps grid spots digests = with_digests digests
    (shown_book classes SIZE_MAX k caps grid spots)

-- the digest of a name, if there are digests
abbrev pub digest_of : Option Map → List ℕ → Option (List ℕ)
digest_of None name = None
digest_of (Some digests) name = fin.get digests name

-- As many names may be live as a table of version 2 has records, and no more are; and the digests are those
-- that were kept.
pub record IsNarrowed (names : ℕ) (e : Extents) : Type 0 where
  pub cap : e.cap ≡ cap names 2
  pub few : fin.len e.now ≤ e.cap
  pub kept : e.digests ≡ e.kept_digests

-- where there are digests, an object's is its SHA-256
abbrev pub IsDigestFor : Option Map → List ℕ → List ℕ → Type 0
IsDigestFor digests object digest = IfSome digests (λ _. digest ≡ sha256 object)

-- digests once a name is given one
abbrev pub digests_with : List ℕ → List ℕ → Option Map → Option Map
digests_with name digest digests = option_map (changed (record { name = name; object = Some digest }))
    digests
