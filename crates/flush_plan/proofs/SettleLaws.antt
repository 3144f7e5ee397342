-- What Lay leaves at its end.
use Rattle.std.specs.Prelude.{ℕ, List}
use Rattle.size_class.specs.Classes.{IsRow}
use Rattle.flush_model.specs.declared.item.Item.{Item}
use Rattle.flush_model.specs.Phases.{IsLaidWhole}
use Rattle.flush_model.specs.Settlements.{KeepsSettled}
use Rattle.flush_model.proofs.SettledLaws.{ends, placed, volumes_below}
use Rattle.flush_plan.specs.Shelves.{phase_on}
use Rattle.flush_plan.specs.Lays.{End, HasSettled, KeepsLaying, Lay, settlement_on}

module _ (C : ℕ) (v : Lay) (items : List Item) (keeps : KeepsLaying C v items)
    (whole : IsLaidWhole (phase_on v.course items)) (caps : IsRow C v.course.caps) (row : IsRow C v.volumes)
  where
    abbrev end_of : End
    end_of = record { course = v.course; volumes = v.volumes }

    settled : KeepsSettled C (phase_on v.course items) v.volumes
    settled = record {
      fits = keeps.fits;
      laying = keeps.laying;
      laid = whole;
      classes = keeps.classes;
      totals = keeps.totals;
    }

    pub lay_settles : HasSettled C end_of items
    lay_settles =
        let s = settlement_on end_of items in
        record {
          laying = keeps.laying;
          laid = whole;
          totals = keeps.totals;
          below = volumes_below C s settled caps row;
          placed = placed C s settled caps row;
          end = ends C s settled caps row;
        }
