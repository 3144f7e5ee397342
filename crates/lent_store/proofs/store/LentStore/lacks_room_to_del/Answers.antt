use Rattle.std.proofs.Common.{ap, subst, Err}
use Rattle.map_model.specs.Requests as ask
use Rattle.store_model.specs.Answers.{refused_by}
use Rattle.store_model.specs.Plans.{AcceptsName}
use Rattle.store_model.specs.Connection.{StoreValue}
use Rattle.store_model.specs.Quiet.{del_of}
use Rattle.lent_store.specs.Embedded.{Embedded}
use Rattle.lent_store.proofs.RoomLaws.{unserved_lacks}
use Rattle.lent_store.proofs.store.LentStore.lacks_room_to_del.Goals as goal

pub returns-in-Err : goal.returns-in-Err
returns-in-Err c =
    let change = del_of c.args.name.now in
    unserved_lacks c.args.self.now change c.args.name.now c.in-Err.field-0
    (subst (λ (s : StoreValue). AcceptsName (refused_by s (ask.change change)) c.args.name.now
    (Err c.in-Err.field-0)) (ap (λ (e : Embedded). e.store) c.self.view_is) c.in-Err.ensures.answer)
