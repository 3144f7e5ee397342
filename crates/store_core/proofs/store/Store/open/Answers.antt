use Rattle.std.specs.Prelude.{◌≡◌, Err, IsTrue, List, Result, ℕ}
use Rattle.std.proofs.Common.{◌∙◌, lit<, rules, subst, sym}
use Rattle.slot_codec.specs.declared.codec.Kind.TheVariants as kind
use Rattle.reopen.specs.Loads.{IsLoadedFrom, unboxed}
use Rattle.reopen.specs.declared.fault.OpenFault.{OpenFault}
use Rattle.store_model.specs.Connection.{StoreValue}
use Rattle.store_model.specs.Opened.{IsOpening}
use Rattle.store_model.proofs.OpeningLaws.{opening_then, refused_reading}
use Rattle.store_core.proofs.store.Store.open.Goals as goal

pub returns-in_err-found : goal.returns-in_err-found
returns-in_err-found g c =
    let a = g.D.Disk.state c.args.disk.now in
    let d = g.D.Disk.state c.load_state.new.disk in
    let is : c.from_residual.result ≡ Err c.in_err-found.field-0.0 = search rules in
    subst (λ (r : Result StoreValue OpenFault). IsOpening g.row.C a d r) (sym is)
    (refused_reading g.row.C a d c.in_err-found.field-0.0 c.load_state.ensures.frame
    c.in_err-found.ensures.refused c.in_err-found.ensures.cause)

pub returns-in-Settled : goal.returns-in-Settled
returns-in-Settled g c = opening_then c.load_state.ensures.frame
    (c.in_ok-found.ensures.cause.calm (λ is. absurd (cc))) c.open_still.result c.open_still.ensures

pub returns-in-Moving : goal.returns-in-Moving
returns-in-Moving g c = opening_then c.load_state.ensures.frame
    (c.in_ok-found.ensures.cause.calm (λ is. absurd (cc))) c.open_moving.result c.open_moving.ensures

pub open_moving-requires : goal.open_moving-requires
open_moving-requires g c =
    let a = g.D.Disk.state c.args.disk.now in
    let d = g.D.Disk.state c.load_state.new.disk in
    let x = unboxed c.in_ok-found.found in
    let moving : x.header.kind ≡ kind.Moving = search rules in (
      lit< tt,
      (
        lit< tt,
        (
          c.load_state.ensures.frame.stays.ready,
          (
            c.requires.fits,
            (
              c.requires.wide,
              (
                c.in_ok-found.ensures.loaded,
                (
                  moving,
                  λ told.
                      let was : IsTrue a.tells = sym c.load_state.ensures.frame.stays.told ∙ told in
                      subst (λ (f : List ℕ). IsLoadedFrom f x)
                      (sym (c.load_state.ensures.frame.same_file was)) (c.in_ok-found.ensures.opened was),
                ),
              ),
            ),
          ),
        ),
      ),
    )

pub open_still-requires : goal.open_still-requires
open_still-requires g c =
    let a = g.D.Disk.state c.args.disk.now in
    let d = g.D.Disk.state c.load_state.new.disk in
    let x = unboxed c.in_ok-found.found in
    let still : x.header.kind ≡ kind.Settled = search rules in (
      lit< tt,
      (
        lit< tt,
        (
          c.load_state.ensures.frame.stays.ready,
          (
            c.requires.fits,
            (
              c.requires.wide,
              (
                c.in_ok-found.ensures.loaded,
                (
                  still,
                  λ told.
                      let was : IsTrue a.tells = sym c.load_state.ensures.frame.stays.told ∙ told in
                      subst (λ (f : List ℕ). IsLoadedFrom f x)
                      (sym (c.load_state.ensures.frame.same_file was)) (c.in_ok-found.ensures.opened was),
                ),
              ),
            ),
          ),
        ),
      ),
    )
