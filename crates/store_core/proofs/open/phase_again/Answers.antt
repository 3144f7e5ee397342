use Rattle.std.proofs.Common.{ap, lit<, refl, subst, sym, ◌∙◌}
use Rattle.std.specs.Prelude.{◌≡◌, ℕ, ◌<◌, ◌≤◌, ◌^◌, IsPermutation}
use Rattle.std.proofs.lemmas.List.Sorted.{IsPermutation-refl}
use Rattle.size_class.specs.declared.TheConstants.{SIZE_MAX}
use Rattle.slot_codec.specs.declared.codec.Kind.TheVariants as kind
use Rattle.reopen.specs.Loads.{KeepsLoaded, unboxed}
use Rattle.reopen.specs.declared.state.Loaded.{Loaded}
use Rattle.flush_run.specs.Shelved.{phase_now}
use Rattle.store_model.specs.Resuming.{PacksAgain}
use Rattle.segment_layout.specs.Layouts.{caps_of, divisor_of}
use Rattle.flush_model.specs.Phases.{phase_of}
use Rattle.flush_run.specs.Hands.{suffix_items}
use Rattle.flush_plan.specs.Packs.{KeepsPacking}
use Rattle.flush_plan.specs.Shelves.{PlanFrame, course_of}
use Rattle.store_model.proofs.MovingLaws.{can_go_on, front}
use Rattle.store_core.proofs.open.phase_again.Goals as goal

-- what is asked, of a state that is the same
record Again {C : ℕ} (x : Loaded C) : Type 0 where
  pub loads : KeepsLoaded x
  pub moving : x.header.kind ≡ kind.Moving
  pub fits : C ≤ 32
  pub wide : SIZE_MAX < 2 ^ C

read_again : {C : ℕ} (x y : Loaded C) → x ≡ y → KeepsLoaded y → y.header.kind ≡ kind.Moving → C ≤ 32
    → SIZE_MAX < 2 ^ C → Again x
read_again x y same loads moving fits wide = record {
  loads = subst (λ z. KeepsLoaded z) (sym same) loads;
  moving = subst (λ (z : Loaded _). z.header.kind ≡ kind.Moving) (sym same) moving;
  fits = fits;
  wide = wide;
}

pub numbers_again-numbers-requires : goal.numbers_again-numbers-requires
numbers_again-numbers-requires g c =
    let x = record (unboxed c.args.found.now) {
      layout = c.deref-layout.result.now;
      header = c.deref-header.result.now;
    } in
    let same : x ≡ unboxed c.args.found.now = λ i. record (unboxed c.args.found.now) {
      layout = c.deref-layout.ensures i;
      header = c.deref-header.ensures i;
    } in
    let r = read_again x (unboxed c.args.found.now) same c.requires.loads c.requires.moving c.requires.fits
    c.requires.wide in (
      lit< tt,
      (
        r.fits,
        (
          front x r.loads r.moving r.fits r.wide r.loads.data_len r.loads.valid,
          (
            suffix_items x.header.boundary x.table,
            can_go_on x r.loads r.moving r.fits r.wide r.loads.data_len r.loads.valid _ refl,
          ),
        ),
      ),
    )

pub resume-requires : goal.resume-requires
resume-requires g c =
    let x = record (unboxed c.args.found.now) {
      layout = c.deref-layout.result.now;
      header = c.deref-header.result.now;
    } in
    let same : x ≡ unboxed c.args.found.now = λ i. record (unboxed c.args.found.now) {
      layout = c.deref-layout.ensures i;
      header = c.deref-header.ensures i;
    } in
    let r = read_again x (unboxed c.args.found.now) same c.requires.loads c.requires.moving c.requires.fits
    c.requires.wide in
    let can = can_go_on x r.loads r.moving r.fits r.wide r.loads.data_len r.loads.valid in
    let found = c.numbers_again-numbers.ensures (suffix_items x.header.boundary x.table) (can _ refl).on in (
      lit< tt,
      (
        lit< tt,
        (
          r.fits,
          (
            subst (λ (n : ℕ). n < g.row.C) (sym (ap (λ m. m.boundary) found))
                (front x r.loads r.moving r.fits r.wide r.loads.data_len r.loads.valid),
            (suffix_items x.header.boundary x.table, can _ found),
          ),
        ),
      ),
    )

pub returns-clause-again : goal.returns-clause-again
returns-clause-again g c =
    let x = record (unboxed c.args.found.now) {
      layout = c.deref-layout.result.now;
      header = c.deref-header.result.now;
    } in
    let same : x ≡ unboxed c.args.found.now = λ i. record (unboxed c.args.found.now) {
      layout = c.deref-layout.ensures i;
      header = c.deref-header.ensures i;
    } in
    let r = read_again x (unboxed c.args.found.now) same c.requires.loads c.requires.moving c.requires.fits
    c.requires.wide in
    let k = divisor_of x.layout in
    let caps = caps_of x.layout in
    let items = suffix_items x.header.boundary x.table in
    let can = can_go_on x r.loads r.moving r.fits r.wide r.loads.data_len r.loads.valid in
    let found = c.numbers_again-numbers.ensures items (can _ refl).on in
    let course = c.resume.ensures.course ∙ ap (λ n. course_of k caps n 0) found in
    let now = suffix_items c.resume.result.course.numbers.boundary x.table in
    subst (λ y. PacksAgain y (phase_now c.resume.result.course c.args.found.now.table)) same (record {
      value = ap (λ (q : PlanFrame). phase_of q.k q.caps q.numbers q.pending now) course;
      items = subst (λ (b : ℕ). IsPermutation items (suffix_items b x.table))
          (sym (ap (λ (q : PlanFrame). q.numbers.boundary) course)) (IsPermutation-refl items);
    })

pub returns-clause-keeps : goal.returns-clause-keeps
returns-clause-keeps g c =
    let x = record (unboxed c.args.found.now) {
      layout = c.deref-layout.result.now;
      header = c.deref-header.result.now;
    } in
    let same : x ≡ unboxed c.args.found.now = λ i. record (unboxed c.args.found.now) {
      layout = c.deref-layout.ensures i;
      header = c.deref-header.ensures i;
    } in
    let r = read_again x (unboxed c.args.found.now) same c.requires.loads c.requires.moving c.requires.fits
    c.requires.wide in
    let k = divisor_of x.layout in
    let caps = caps_of x.layout in
    let items = suffix_items x.header.boundary x.table in
    let can = can_go_on x r.loads r.moving r.fits r.wide r.loads.data_len r.loads.valid in
    let found = c.numbers_again-numbers.ensures items (can _ refl).on in
    let course = c.resume.ensures.course ∙ ap (λ n. course_of k caps n 0) found in
    subst (λ (b : ℕ). KeepsPacking g.row.C c.resume.result (suffix_items b x.table))
    (sym (ap (λ (q : PlanFrame). q.numbers.boundary) course)) (c.resume.ensures.keeps items (can _ found))
