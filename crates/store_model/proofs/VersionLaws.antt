-- The rules of a table don't speak of its version, its sequence and its count.
use Rattle.std.specs.Prelude.{◌≡◌, ℕ, ◌≤◌, nat_lt, if◌then◌else◌, length, refl}
use Rattle.std.proofs.Common.{subst, sym}
use Rattle.slot_codec.specs.declared.codec.Kind.{Kind}
use Rattle.slot_codec.specs.declared.codec.Kind.TheVariants.{Settled, Moving}
use Rattle.table_rules.specs.Tables.{TableInLayout, last_end, nth, end_of_record}
use Rattle.table_rules.proofs.HeaderLaws.{places_renumbered}
use Rattle.table_rules.specs.Rules.{IsMore, IsValid, KeepsPlaces, KindFits}

-- a table with another version, sequence and count in its header
abbrev versioned : ℕ → ℕ → ℕ → TableInLayout → TableInLayout
versioned v q n t = record t { header = record t.header { version = v; sequence = q; count = n } }

places_versioned : (v q n : ℕ) (t : TableInLayout) → KeepsPlaces t → KeepsPlaces (versioned v q n t)
places_versioned v q n t p = places_renumbered v q n t.data_len t p

front_versioned : (v q n : ℕ) (t : TableInLayout) (kind : Kind) → KindFits t kind
    → KindFits (versioned v q n t) kind
front_versioned v q n t Settled h = h
front_versioned v q n t Moving h = h

end_versioned : (v q n : ℕ) (t : TableInLayout) (kind : Kind)
    → last_end (versioned v q n t) kind ≡ last_end t kind
end_versioned v q n t Settled = refl
end_versioned v q n t Moving = refl

more_versioned : (v q n : ℕ) (t : TableInLayout) (kind : Kind) → IsMore t kind
    → IsMore (versioned v q n t) kind
more_versioned v q n t Settled h = h
more_versioned v q n t Moving h = record {
  room = record { wall = h.room.wall; slack = h.room.slack };
  places = λ i low. record {
    side = (h.places i low).side;
    order = (h.places i low).order;
    gap = (h.places i low).gap;
  };
}

pub valid_as : (v q n : ℕ) (t : TableInLayout) → IsValid t → IsValid (versioned v q n t)
valid_as v q n t h = (
  record {
    places = places_versioned v q n t h.0.places;
    within = λ i low. subst (λ x. (if nat_lt i (length t.records) then end_of_record (nth t i) else x)
        ≤ t.data_len) (sym (end_versioned v q n t t.header.kind)) (h.0.within i low);
    front = front_versioned v q n t t.header.kind h.0.front;
  },
  more_versioned v q n t t.header.kind h.1,
)
