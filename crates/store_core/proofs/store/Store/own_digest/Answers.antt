use Rattle.std.specs.Prelude.{Option}
use Rattle.std.proofs.Common.{◌∙◌, ap, refl, subst}
use Rattle.map_model.specs.Maps.{Map}
use Rattle.store_model.specs.Connection.{StoreValue}
use Rattle.store_model.specs.Digested.{IsDigestFor}
use Rattle.store_model.proofs.DigestLaws.{digest_given}
use Rattle.store_model.specs.Inside.{kept_of}
use Rattle.store_core.proofs.LentLaws.{beside, lent_is}
use Rattle.store_core.proofs.store.Store.own_digest.Goals as goal

pub returns : goal.returns
returns g c = record {
  own =
      let is_lent = lent_is c.self.inside c.deref.ensures refl in
      let view_is = ap kept_of is_lent ∙ beside c.self.inside c.args.self.now c.self.view_is in
      subst (λ (ds : Option Map). IsDigestFor ds c.args.bytes.now c.digest_of.result)
      (ap (λ (x : StoreValue). x.book.digests) view_is)
      (digest_given c.deref.result.now.version c.deref.result.now.table.digests c.args.bytes.now
      c.digest_of.result c.digest_of.ensures.own);
}
