use Rattle.std.proofs.Common.{arith, ◌∙◌}
use Rattle.size_class.specs.declared.TheConstants.{SIZE_MAX}
use Rattle.segment_layout.specs.Layouts.{caps_of, divisor_of, grid_of}
use Rattle.store_model.proofs.OutcomeLaws.{outcome_class, outcome_grid, outcome_placed, outcome_quiet, small_at, trigger_low}
use Rattle.store_model.proofs.charge.charge_change.Goals as goal

pub returns : goal.returns
returns g c =
    let gone = c.charge_gone-gone.ensures in
    let new = c.charge_new-place.ensures in
    let kept = gone.frame in
    let grid = grid_of c.args.layout.now in
    let after = grid_of c.charge_new-place.new.layout in
    let old = c.args.old in
    let size = c.args.size in
    let place = c.charge_new-place.result in
    let least = outcome_class grid after old size place kept.divisor kept.caps gone.grid gone.quiet new.place
    c.size_of.ensures c.or_missed-first.ensures c.is_some.ensures c.or_missed-class.ensures in
    record {
      charged = record {
        same_grid = outcome_grid grid after old size place kept.divisor kept.caps gone.grid gone.quiet
            new.place;
        gone_found = gone.quiet;
        new_place = outcome_placed grid after old size place kept.divisor kept.caps gone.grid gone.quiet
            new.place;
        quiet = outcome_quiet grid after old size place kept.divisor kept.caps gone.grid gone.quiet new.place;
        least = least;
        in_use = λ needs_flush. omega (
          arith,
          least,
          trigger_low (divisor_of c.args.layout.now) (caps_of c.args.layout.now) grid old size
              g.row.C SIZE_MAX c.requires.wide
              (small_at c.args.old SIZE_MAX c.requires.old_small) c.requires.small needs_flush,
        );
        divisor = new.frame.divisor ∙ kept.divisor;
        same_caps = new.frame.caps ∙ kept.caps;
      };
    }
