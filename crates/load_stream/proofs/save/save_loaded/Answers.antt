use Rattle.std.proofs.Common.{◌≡◌, ◌≤◌, ◌∙◌, List, ℕ, length, arith, rules, ap, subst, sym}
use Rattle.slot_codec.specs.declared.codec.Header.{Header}
use Rattle.slot_codec.proofs.CapLaws.{cap-one}
use Rattle.slot_codec.specs.Choice.{InUse}
use Rattle.slot_codec.specs.Spelling.{cap}
use Rattle.segment_layout.specs.Layouts.{caps_of}
use Rattle.extent_table.specs.Extents.{rolled}
use Rattle.extent_table.proofs.ExtentLaws.{records_of-few}
use Rattle.extent_table.proofs.SaveLaws.{rolled_in_range}
use Rattle.placement_model.specs.Laid.{in_version, settled_header}
use Rattle.flush_run.proofs.RolledLaws.{rolled_count}
use Rattle.load_stream.proofs.SaveLaws.{save_images, save_opens, save_stopped}
use Rattle.load_stream.proofs.WeightLaws.{save_asked}
use Rattle.load_stream.proofs.save.save_loaded.Goals as goal

pub save-requires-clause-save : goal.save-requires-clause-save
save-requires-clause-save g c =
    let e = c.args.table.now in
    let version : c.settled_header-header.result.version ≡ 1 =
    ap (λ (h : Header). h.version) c.settled_header-header.ensures.header in
    let room : cap c.of-pair.result.block.names c.settled_header-header.result.version ≡ c.args.block.names =
    ap (λ (v : ℕ). cap c.of-pair.result.block.names v) version
    ∙ ap (λ (u : InUse). cap u.block.names 1) c.of-pair.ensures ∙ cap-one c.args.block.names in
    record {
      fresh = search rules;
      version = search rules;
      ranges = c.settled_header-header.ensures.ranges;
      records = rolled_in_range e c.requires.table;
      count = subst (λ (n : ℕ). length (rolled e.now e.digests) ≤ n) (sym room)
          (omega (arith, rolled_count e.now e.digests, records_of-few e.now, c.requires.few));
    }

pub returns-in_err-save-clause-stopped : goal.returns-in_err-save-clause-stopped
returns-in_err-save-clause-stopped g c told l =
    let p = c.args.plan.now in
    save_stopped c.args.block.k c.args.block.names p p.layout.caps.shape c.args.table.now
    c.requires.table (g.D.Disk.state c.args.disk.now)
    (g.D.Disk.state c.save.new.disk) l c.of-pair.result c.settled_header-header.result c.of-pair.ensures
    (c.settled_header-header.ensures.header
    ∙ ap (λ (x : List (List ℕ)). in_version 1 (settled_header (caps_of p.layout) x)) c.requires.grid)
    (c.save.ensures.left told)

pub returns-clause-stopped : goal.returns-clause-stopped
returns-clause-stopped g c told l =
    let p = c.args.plan.now in
    save_stopped c.args.block.k c.args.block.names p p.layout.caps.shape c.args.table.now
    c.requires.table (g.D.Disk.state c.args.disk.now)
    (g.D.Disk.state c.save.new.disk) l c.of-pair.result c.settled_header-header.result c.of-pair.ensures
    (c.settled_header-header.ensures.header
    ∙ ap (λ (x : List (List ℕ)). in_version 1 (settled_header (caps_of p.layout) x)) c.requires.grid)
    (c.save.ensures.left told)

pub returns-in_err-save-clause-images : goal.returns-in_err-save-clause-images
returns-in_err-save-clause-images g c told l had =
    let p = c.args.plan.now in
    save_images c.args.block.k c.args.block.names p p.layout.caps.shape c.args.table.now
    c.requires.table (g.D.Disk.state c.args.disk.now)
    (g.D.Disk.state c.save.new.disk) l c.of-pair.result c.settled_header-header.result c.of-pair.ensures
    (c.settled_header-header.ensures.header
    ∙ ap (λ (x : List (List ℕ)). in_version 1 (settled_header (caps_of p.layout) x)) c.requires.grid)
    (c.save.ensures.left told) had

pub returns-clause-images : goal.returns-clause-images
returns-clause-images g c told l had =
    let p = c.args.plan.now in
    save_images c.args.block.k c.args.block.names p p.layout.caps.shape c.args.table.now
    c.requires.table (g.D.Disk.state c.args.disk.now)
    (g.D.Disk.state c.save.new.disk) l c.of-pair.result c.settled_header-header.result c.of-pair.ensures
    (c.settled_header-header.ensures.header
    ∙ ap (λ (x : List (List ℕ)). in_version 1 (settled_header (caps_of p.layout) x)) c.requires.grid)
    (c.save.ensures.left told) had

pub returns-clause-saved : goal.returns-clause-saved
returns-clause-saved g c told l =
    let p = c.args.plan.now in
    save_opens c.args.block.k c.args.block.names p p.layout.caps.shape c.args.table.now
    c.requires.table (g.D.Disk.state c.args.disk.now)
    (g.D.Disk.state c.save.new.disk) l c.of-pair.result c.settled_header-header.result c.of-pair.ensures
    (c.settled_header-header.ensures.header
    ∙ ap (λ (x : List (List ℕ)). in_version 1 (settled_header (caps_of p.layout) x)) c.requires.grid)
    (c.save.ensures.left told) (c.in_ok-save.ensures.done told)

pub returns-in_err-save-clause-asks : goal.returns-in_err-save-clause-asks
returns-in_err-save-clause-asks g c = save_asked _ c.args.table.now (g.D.Disk.state c.args.disk.now)
    (g.D.Disk.state c.save.new.disk)
    (ap (λ (h : Header). h.version) c.settled_header-header.ensures.header) c.save.ensures.asks

pub returns-clause-asks : goal.returns-clause-asks
returns-clause-asks g c = save_asked _ c.args.table.now (g.D.Disk.state c.args.disk.now)
    (g.D.Disk.state c.save.new.disk)
    (ap (λ (h : Header). h.version) c.settled_header-header.ensures.header) c.save.ensures.asks
