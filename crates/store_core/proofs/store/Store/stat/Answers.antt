use Rattle.std.proofs.Common.{◌∙◌, ap}
use Rattle.std.specs.FinMap as fin
use Rattle.extent_table.specs.Extents.{volume_of}
use Rattle.store_model.specs.Connection.{StoreValue}
use Rattle.store_model.proofs.StepLaws.{stat_step}
use Rattle.store_core.proofs.LentLaws.{lent_rest}
use Rattle.store_core.proofs.store.Store.stat.Goals as goal

pub returns-clause-step : goal.returns-clause-step
returns-clause-step g c file over =
    let rest = lent_rest c.self.inside c.args.self.now _ c.self.view_is
    c.self.invariant c.requires.idle c.deref-hands.ensures in
    stat_step c.args.self.now file _ _ _ _
    (c.is_broken.ensures.sound c.if-is_broken.false c.requires.idle) over
    (c.count.ensures.value ∙ ap (λ (s : StoreValue). fin.len s.now) rest.view)
    (c.volume.ensures ∙ ap (λ (s : StoreValue). volume_of s.now) rest.view)
    (c.kept_count.ensures ∙ ap (λ (s : StoreValue). fin.len s.kept) rest.view)
    (c.kept_volume.ensures ∙ ap (λ (s : StoreValue). volume_of s.kept) rest.view)
