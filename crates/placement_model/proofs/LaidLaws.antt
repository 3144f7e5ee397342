-- The rules of a table don't speak of its version, its sequence, its count and the length of the data part
-- beyond what it needs.
use Rattle.std.specs.Prelude.{◌≡◌, ℕ, ◌≤◌, nat_lt, if◌then◌else◌, length, refl}
use Rattle.std.proofs.Common.{subst, sym}
use Rattle.slot_codec.specs.declared.codec.Kind.{Kind}
use Rattle.slot_codec.specs.declared.codec.Kind.TheVariants.{Settled, Moving}
use Rattle.table_rules.specs.Tables.{TableInLayout, last_end, nth, end_of_record}
use Rattle.table_rules.specs.Rules.{KeepsPlaces, CanResume, IsMore, IsValid, KindFits}
use Rattle.table_rules.proofs.HeaderLaws.{places_renumbered}
use Rattle.placement_model.specs.Laid.{in_version, numbered}

-- the same table with another version, another sequence and another count
abbrev stamped : ℕ → ℕ → ℕ → TableInLayout → TableInLayout
stamped v q n t = record t { header = record t.header { version = v; sequence = q; count = n } }

places_stamped : (v q n : ℕ) (t : TableInLayout) → KeepsPlaces t → KeepsPlaces (stamped v q n t)
places_stamped v q n t p = places_renumbered v q n t.data_len t p

front_stamped : (v q n : ℕ) (t : TableInLayout) (kind : Kind) → KindFits t kind
    → KindFits (stamped v q n t) kind
front_stamped v q n t Settled h = h
front_stamped v q n t Moving h = h

end_stamped : (v q n : ℕ) (t : TableInLayout) (kind : Kind)
    → last_end (stamped v q n t) kind ≡ last_end t kind
end_stamped v q n t Settled = refl
end_stamped v q n t Moving = refl

resume_stamped : (v q n : ℕ) (t : TableInLayout) → CanResume t → CanResume (stamped v q n t)
resume_stamped v q n t r = record {
  room = record { wall = r.room.wall; slack = r.room.slack };
  places = λ i h. record {
    side = (r.places i h).side;
    order = (r.places i h).order;
    gap = (r.places i h).gap;
  };
}

more_stamped : (v q n : ℕ) (t : TableInLayout) (kind : Kind) → IsMore t kind → IsMore (stamped v q n t) kind
more_stamped v q n t Settled h = h
more_stamped v q n t Moving h = resume_stamped v q n t h

valid_stamped : (v q n : ℕ) (t : TableInLayout) → IsValid t → IsValid (stamped v q n t)
valid_stamped v q n t valid = (
  record {
    places = places_stamped v q n t valid.0.places;
    within = λ i h. subst (λ x. (if nat_lt i (length t.records) then end_of_record (nth t i) else x)
        ≤ t.data_len) (sym (end_stamped v q n t t.header.kind)) (valid.0.within i h);
    front = front_stamped v q n t t.header.kind valid.0.front;
  },
  more_stamped v q n t t.header.kind valid.1,
)

pub valid_numbered : (q n : ℕ) (t : TableInLayout) → IsValid t → IsValid (numbered q n t)
valid_numbered q n t valid = valid_stamped t.header.version q n t valid

pub valid_versioned : (v : ℕ) (t : TableInLayout) → IsValid t
    → IsValid (record t { header = in_version v t.header })
valid_versioned v t valid = valid_stamped v t.header.sequence t.header.count t valid
