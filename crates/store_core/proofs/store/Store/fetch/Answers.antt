use Rattle.std.specs.Prelude.{◌≡◌, List, ℕ, IfOk, Option, take}
use Rattle.std.proofs.Common.{ap, arith, lit<, subst, sym}
use Rattle.store_model.specs.Answers.{size_at}
use Rattle.store_model.specs.Readings.{asks_for, digest_read}
use Rattle.store_model.specs.Reads.{IsJudged}
use Rattle.placement_model.specs.Reads.{object_at}
use Rattle.store_model.specs.Connection.{base_of}
use Rattle.store_model.proofs.ReadLaws.{found_in_range, found_object, found_within}
use Rattle.store_model.proofs.ReadingLaws.{is_found, named_if}
use Rattle.store_core.proofs.store.Store.fetch.Goals as goal

pub fetch_spot-requires : goal.fetch_spot-requires
fetch_spot-requires g c =
    let s = c.args.self.now in
    let name = c.args.name.now in
    let m = c.args.moment in
    let f = is_found s (asks_for m name) c.in-Ok.spot c.in-Ok.ensures.answer c.in-Ok.ensures.standing in (
      lit< tt,
      (
        c.requires.ready,
        (
          f.stands,
          (
            found_in_range s f.stands m name c.in-Ok.spot f.there,
            (
              omega (arith, c.requires.room, ap size_at f.there),
              λ told. found_within s (g.D.Disk.state c.args.disk.now) f.stands f.whole
                  (c.in-Ok.ensures.sound f.whole) c.requires.over told m name c.in-Ok.spot f.there,
            ),
          ),
        ),
      ),
    )

pub returns-in-Ok-clause-fetched : goal.returns-in-Ok-clause-fetched
returns-in-Ok-clause-fetched g c whole told =
    let s = c.args.self.now in
    let name = c.args.name.now in
    let m = c.args.moment in
    let f = is_found s (asks_for m name) c.in-Ok.spot c.in-Ok.ensures.answer c.in-Ok.ensures.standing in
    subst (λ (b : List ℕ). IfOk c.fetch_spot.result (λ n. take n c.fetch_spot.new.out ≡ b))
    (sym (found_object s (g.D.Disk.state c.args.disk.now).file f.stands m name c.in-Ok.spot f.there))
    (c.fetch_spot.ensures.fetched told)

pub returns-in-Ok-clause-judged : goal.returns-in-Ok-clause-judged
returns-in-Ok-clause-judged g c whole told none =
    let s = c.args.self.now in
    let name = c.args.name.now in
    let m = c.args.moment in
    let file = (g.D.Disk.state c.args.disk.now).file in
    let f = is_found s (asks_for m name) c.in-Ok.spot c.in-Ok.ensures.answer c.in-Ok.ensures.standing in
    let digest = c.digest_of_object-digest.ensures.read (named_if s m name f.served f.whole) in
    subst (λ (b : List ℕ). IsJudged (digest_read s (asks_for m name)) b c.fetch_spot.result)
    (sym (found_object s file f.stands m name c.in-Ok.spot f.there))
    (subst (λ (d : Option (List ℕ)). IsJudged d (object_at (base_of s) file c.in-Ok.spot)
    c.fetch_spot.result) digest (c.fetch_spot.ensures.judged told))
