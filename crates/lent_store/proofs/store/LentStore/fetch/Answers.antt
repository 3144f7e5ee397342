use Rattle.std.proofs.Common.{◌≡◌, ◌∙◌, false, lit<, refl, subst, sym, length, take, List, ℕ}
use Rattle.std.specs.Prelude.{Err, IfOk, Ok, if◌then◌else◌}
use Rattle.lent_disk.specs.Notings.{content}
use Rattle.store_model.specs.declared.answers.Refusal.TheVariants as why
use Rattle.store_model.specs.Answers.{size_at}
use Rattle.store_model.specs.Readings.{asks_for, is_damaged_read, object_read, spot_read}
use Rattle.store_model.specs.Connection.{state_of}
use Rattle.lent_store.specs.Embedded.{Embedded, file_in}
use Rattle.lent_store.specs.Readings.{CanCopy, object_answer}
use Rattle.lent_store.proofs.CopyLaws.{fetched, found_at}
use Rattle.lent_store.proofs.ViewLaws.{readable_seen}
use Rattle.lent_store.proofs.store.LentStore.fetch.Goals as goal

pub fetch-requires : goal.fetch-requires
fetch-requires c =
    let s = c.self.inside.store in
    let n = c.self.inside.disk in
    let r = asks_for c.args.moment c.args.name.now in
    let same : c.of-view.result.room.now.file ≡ content n = c.of-view.ensures.file ∙ c.room.ensures in
    let fits = subst (λ (e : Embedded). CanCopy e r (length c.args.out.now)) (sym c.self.view_is)
    c.requires.fits in (
      lit< tt,
      (
        refl,
        (
          readable_seen s n c.of-view.result.room.now.file c.of-view.result.refused same c.self.invariant,
          fits.fits,
        ),
      ),
    )

pub returns-clause-answer : goal.returns-clause-answer
returns-clause-answer c =
    let s = c.self.inside.store in
    let n = c.self.inside.disk in
    let r = asks_for c.args.moment c.args.name.now in
    let same : c.of-view.result.room.now.file ≡ content n = c.of-view.ensures.file ∙ c.room.ensures in
    let fits = subst (λ (e : Embedded). CanCopy e r (length c.args.out.now)) (sym c.self.view_is)
    c.requires.fits in
    let f = c.fetch.ensures in
    subst (λ (e : Embedded). c.fetch.result ≡ object_answer e r) c.self.view_is
    (subst (λ (file : List ℕ). c.fetch.result ≡ (if is_damaged_read (state_of s file) r then Err why.Damaged
    else Ok (size_at (spot_read s r)))) same
    (fetched s c.of-view.result.room.now.file c.args.moment c.args.name.now fits.served fits.standing
    c.fetch.new.disk.room.now.file c.of-view.result.refused c.fetch.new.disk.refused c.of-view.ensures.none
    c.fetch.result f.frame f.disk_cause f.answer f.judged))

pub returns-clause-object : goal.returns-clause-object
returns-clause-object c =
    let s = c.self.inside.store in
    let r = asks_for c.args.moment c.args.name.now in
    let same : c.of-view.result.room.now.file ≡ content c.self.inside.disk =
    c.of-view.ensures.file ∙ c.room.ensures in
    let fits = subst (λ (e : Embedded). CanCopy e r (length c.args.out.now)) (sym c.self.view_is)
    c.requires.fits in
    let found = found_at s c.args.moment c.args.name.now fits.served fits.standing in
    let whole : s.is_broken ≡ false = found.1.whole in
    subst (λ (e : Embedded). IfOk c.fetch.result (λ n. take n c.fetch.new.out
    ≡ object_read (state_of e.store (file_in e)) r)) c.self.view_is
    (subst (λ (file : List ℕ). IfOk c.fetch.result (λ n. take n c.fetch.new.out
    ≡ object_read (state_of s file) r)) same (c.fetch.ensures.fetched whole refl))
