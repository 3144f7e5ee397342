use Rattle.std.proofs.Common.{◌≡◌, arith, false, rules, subst, ◌≤◌, ◌<◌}
use Rattle.std.specs.Prelude.{Err}
use Rattle.std.proofs.lemmas.Bool.{lt-ltb}
use Rattle.store_model.specs.declared.answers.Refusal.TheVariants as why
use Rattle.store_model.specs.Answers.{refused_by, size_at}
use Rattle.store_model.specs.Readings.{asks_for, spot_read}
use Rattle.store_model.proofs.AnsweredLaws.{number_refused, number_served}
use Rattle.lent_store.specs.Embedded.{Embedded}
use Rattle.lent_store.specs.Readings.{CanCopy, read_answer}
use Rattle.lent_store.proofs.CopyLaws.{refused_answer, short_answer}
use Rattle.lent_store.proofs.store.LentStore.fits.Goals as goal

pub returns-then-size-room-clause-refused : goal.returns-then-size-room-clause-refused
returns-then-size-room-clause-refused c =
    let s = c.self.inside.store in
    let r = asks_for c.args.moment c.args.name.now in
    let size = size_at (spot_read s r) in
    let served = number_served (refused_by s r) size c.in-Ok.size c.in-Ok.ensures in
    let more : c.args.room < c.in-Ok.size = search rules in
    subst (λ (e : Embedded). read_answer e r c.args.room ≡ Err why.Sink) c.self.view_is
    (short_answer (record { store = s; noting = c.self.inside.disk }) r c.args.room served.0
    (lt-ltb c.args.room size (omega (arith, more, served.1))))

pub returns-else-size-room-clause-fits : goal.returns-else-size-room-clause-fits
returns-else-size-room-clause-fits c =
    let s = c.self.inside.store in
    let r = asks_for c.args.moment c.args.name.now in
    let size = size_at (spot_read s r) in
    let served = number_served (refused_by s r) size c.in-Ok.size c.in-Ok.ensures in
    let least : c.in-Ok.size ≤ c.args.room = search rules in
    let whole : c.is_broken.result ≡ false = search rules in
    subst (λ (e : Embedded). CanCopy e r c.args.room) c.self.view_is (record {
      served = served.0;
      fits = omega (arith, least, served.1);
      standing = c.is_broken.ensures.standing whole;
      sound = c.is_broken.ensures.sound whole;
    })

pub returns-in-Err-clause-refused : goal.returns-in-Err-clause-refused
returns-in-Err-clause-refused c =
    let s = c.self.inside.store in
    let r = asks_for c.args.moment c.args.name.now in
    subst (λ (e : Embedded). read_answer e r c.args.room ≡ Err c.in-Err.refusal) c.self.view_is
    (refused_answer (record { store = s; noting = c.self.inside.disk }) r c.args.room c.in-Err.refusal
    (number_refused (refused_by s r) (size_at (spot_read s r)) c.in-Err.refusal c.in-Err.ensures))
