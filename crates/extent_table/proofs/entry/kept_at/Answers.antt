use Rattle.std.proofs.Common.{◌≡◌, IsSome, get_or, None, ap, sym, subst, ◌∙◌}
use Rattle.extent_table.specs.declared.kept.Kept.TheVariants.{Same, New, Old}
use Rattle.extent_table.specs.Kept.{kept_in}
use Rattle.extent_table.specs.Entries.{entry_of}
use Rattle.extent_table.specs.Parts.{now_of, kept_of}
use Rattle.extent_table.proofs.EntriesLemmas.{kept_of_same, kept_of_new, kept_of_old}
use Rattle.extent_table.proofs.SeenLemmas.{seen}
use Rattle.extent_table.proofs.entry.kept_at.Goals as goal

pub returns-in-Same : goal.returns-in-Same
returns-in-Same c =
    let there = seen c.entries.inside c.entries.view_is c.args.key in
    let record_is : kept_in c.entries.inside.kept.items c.args.key ≡ Same =
    sym (c.read.ensures ∙ ap (λ k. kept_in k c.args.key) c.deref.ensures.value) ∙ c.in-Same.is in
    c.now_at.ensures ∙ ap now_of there ∙ sym (kept_of_same _ _ record_is) ∙ sym (ap kept_of there)

pub returns-in-New : goal.returns-in-New
returns-in-New c =
    let there = seen c.entries.inside c.entries.view_is c.args.key in
    let record_is : kept_in c.entries.inside.kept.items c.args.key ≡ New =
    sym (c.read.ensures ∙ ap (λ k. kept_in k c.args.key) c.deref.ensures.value) ∙ c.in-New.is in
    let name = get_or c.entries.inside.standing.slots c.args.key None in
    sym (ap kept_of there ∙ ap (λ x. kept_of (entry_of x name))
    record_is ∙ kept_of_new _)

pub returns-in-Old : goal.returns-in-Old
returns-in-Old c =
    let there = seen c.entries.inside c.entries.view_is c.args.key in
    let record_is : kept_in c.entries.inside.kept.items c.args.key ≡ Old c.in-Old.spot =
    sym (c.read.ensures ∙ ap (λ k. kept_in k c.args.key) c.deref.ensures.value) ∙ c.in-Old.is in
    let name = get_or c.entries.inside.standing.slots c.args.key None in
    let same = there ∙ ap (λ x. entry_of x name) record_is in
    sym (ap kept_of same ∙ kept_of_old c.in-Old.spot _ (subst (λ e. IsSome e) same c.requires))
