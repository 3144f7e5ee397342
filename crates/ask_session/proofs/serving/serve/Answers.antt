use Rattle.std.proofs.Common.{◌≡◌, List, ℕ, ap, sym, ◌∙◌}
use Rattle.store_model.specs.Quiet.{del_of, put_of}
use Rattle.map_model.specs.Requests as request
use Rattle.store_model.specs.declared.answers.Moment.TheVariants as moment
use Rattle.ask_session.proofs.KindLaws.{back_is, del_is, get_is, keep_is, list_is, old_is, put_is, stat_is}
use Rattle.ask_session.proofs.ReadReplyLaws.{list_replies, object_replies}
use Rattle.ask_session.proofs.ReplyLaws.{replied_as}
use Rattle.ask_session.proofs.serving.serve.Goals as goal

pub returns-in-Keep : goal.returns-in-Keep
returns-in-Keep g c r asked body =
    replied_as (keep_is r (asked ∙ c.in-Keep.is)) c.serve_keep.ensures.answers c.put_answer-in-Keep.ensures

pub returns-in-Back : goal.returns-in-Back
returns-in-Back g c r asked body =
    replied_as (back_is r (asked ∙ c.in-Back.is)) c.serve_back.ensures c.put_answer-in-Back.ensures

pub returns-in-Stat : goal.returns-in-Stat
returns-in-Stat g c r asked body =
    replied_as (stat_is r (asked ∙ c.in-Stat.is)) c.serve_stat.ensures c.put_answer-in-Stat.ensures

pub returns-in-Del : goal.returns-in-Del
returns-in-Del g c r asked body =
    let is : r ≡ request.change (del_of c.as_bytes-in-Del.result.now) = del_is r c.in-Del.name (asked
    ∙ c.in-Del.is)
    ∙ ap (λ (n : List ℕ). request.change (del_of n)) (sym c.as_bytes-in-Del.ensures.value) in
    replied_as is c.serve_del.ensures c.put_answer-in-Del.ensures

pub returns-in-Put : goal.returns-in-Put
returns-in-Put g c r asked body =
    let p = put_is r c.in-Put.name c.args.body.now c.in-Put.size (asked ∙ c.in-Put.is) body in
    let is : r ≡ request.change (put_of c.as_bytes.result.now p.object) = p.is
    ∙ ap (λ (n : List ℕ). request.change (put_of n p.object)) (sym c.as_bytes.ensures.value) in
    replied_as is (c.serve_sized.ensures p.object p.long p.held) c.put_answer.ensures

pub returns-in-Get : goal.returns-in-Get
returns-in-Get g c r asked body =
    let name = c.as_bytes-in-Get.result.now in
    object_replies moment.Now name c.can_serve.ensures (get_is r c.in-Get.name (asked ∙ c.in-Get.is)
    ∙ ap request.get (sym c.as_bytes-in-Get.ensures.value)) c.serve_object.ensures

pub returns-in-Old : goal.returns-in-Old
returns-in-Old g c r asked body =
    let name = c.as_bytes-in-Old.result.now in
    object_replies moment.Kept name c.can_serve.ensures (old_is r c.in-Old.name (asked ∙ c.in-Old.is)
    ∙ ap request.old (sym c.as_bytes-in-Old.ensures.value)) c.serve_object-in-Old.ensures

pub returns-in-List : goal.returns-in-List
returns-in-List g c r asked body =
    list_replies c.can_serve.ensures (list_is r (asked ∙ c.in-List.is)) c.serve_list.ensures
