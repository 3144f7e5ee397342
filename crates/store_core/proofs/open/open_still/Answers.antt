use Rattle.std.specs.Prelude.{◌≡◌, ◌+◌, IsTrue, Ok}
use Rattle.std.proofs.Common.{◌∙◌, arith, ap, lit<, sym, subst}
use Rattle.reopen.specs.Loads.{unboxed}
use Rattle.extent_table.specs.Extents.{digests_seen}
use Rattle.segment_layout.specs.Layouts.{caps_of, divisor_of, grid_of}
use Rattle.segment_layout.specs.declared.layout.Layout.{Layout}
use Rattle.segment_layout.specs.Shapes.{end_of}
use Rattle.slot_codec.specs.Reading.{is_version}
use Rattle.slot_codec.specs.Spelling.{cap, head_len}
use Rattle.slot_codec.specs.declared.codec.Header.{Header}
use Rattle.store_model.specs.Connection.{opened_store}
use Rattle.store_model.specs.Opened.{IsOpening}
use Rattle.store_model.proofs.OpeningLaws.{no_memory}
use Rattle.store_model.proofs.StillStoreLaws.{still_laid}
use Rattle.store_model.proofs.StillLaws.{still_done, still_failed}
use Rattle.store_core.proofs.open.open_still.Goals as goal

pub store_in-requires : goal.store_in-requires
store_in-requires g c =
    let r = c.requires in
    let same = ap (λ (h : Header). h.version) c.deref-2.ensures in
    let x = unboxed c.args.found in (
      lit< tt,
      (
        lit< tt,
        (
          r.fits,
          (
            r.wide,
            (
              r.loads.ranges,
              (
                r.loads.same_block,
                (
                  sym r.loads.kept,
                  (
                    r.loads.room,
                    (
                      subst (λ v. IsTrue (is_version v)) (sym same) r.loads.version,
                      (
                        λ two. record {
                          cap = r.loads.cap ∙ ap (λ v. cap x.block.names v) (sym same ∙ two);
                          few = r.loads.few;
                          kept = sym r.loads.kept_digests;
                        },
                        (r.loads.divisor, (still_laid x r.loads r.still r.fits r.wide).valid),
                      ),
                    ),
                  ),
                ),
              ),
            ),
          ),
        ),
      ),
    )

pub returns-in-Ok-cut_to : goal.returns-in-Ok-cut_to
returns-in-Ok-cut_to g c =
    let r = c.requires in
    let x = unboxed c.args.found in
    let a = g.D.Disk.state c.args.disk.now in
    let d = g.D.Disk.state c.cut_to.new.disk in
    let is : c.head_len.result + c.end-end.result
    ≡ head_len x.block.names + end_of x.block.k (caps_of x.layout) =
    omega (
      arith,
      c.head_len.ensures,
      c.end-end.ensures.place,
      ap (λ (l : Layout g.row.C). end_of (divisor_of l) (caps_of l)) c.deref.ensures,
      ap (λ k. end_of k (caps_of x.layout)) r.loads.divisor,
    ) in
    let seen = ap (λ (h : Header). opened_store g.row.C x.slots x.table.now
    (digests_seen h.version x.table.digests) (caps_of x.layout) (grid_of x.layout)) c.deref-2.ensures in
    subst (λ s. IsOpening g.row.C a d (Ok s)) (sym (c.in-Ok.ensures ∙ seen))
    (still_done x r.loads r.still r.fits r.wide _ is a d r.from c.in-Ok-cut_to.ensures.short
    c.cut_to.ensures.frame c.in-Ok-cut_to.field-0 c.in-Ok-cut_to.ensures.cut c.in-Ok-cut_to.ensures.cause)

pub returns-in-Err : goal.returns-in-Err
returns-in-Err g c =
    let r = c.requires in
    let x = unboxed c.args.found in
    let a = g.D.Disk.state c.args.disk.now in
    let d = g.D.Disk.state c.cut_to.new.disk in
    let is : c.head_len.result + c.end-end.result
    ≡ head_len x.block.names + end_of x.block.k (caps_of x.layout) =
    omega (
      arith,
      c.head_len.ensures,
      c.end-end.ensures.place,
      ap (λ (l : Layout g.row.C). end_of (divisor_of l) (caps_of l)) c.deref.ensures,
      ap (λ k. end_of k (caps_of x.layout)) r.loads.divisor,
    ) in
    still_failed x r.loads r.still r.fits r.wide _ is a d r.from c.in-Err.ensures.short
    c.cut_to.ensures.frame
    c.in-Err.field-0 c.in-Err.ensures.cut c.in-Err.ensures.cause

pub returns-in_default : goal.returns-in_default
returns-in_default g c = no_memory g.row.C (g.D.Disk.state c.args.disk.now) c.requires.ready
