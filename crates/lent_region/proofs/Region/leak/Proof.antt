-- `leak` lends the bytes behind the pointer for as long as the caller asks.
use Rattle.std.proofs.Common.{◌≡◌, ℕ, ◌*◌, ◌^◌, ◌<◌, List, [], ◌∷◌, ◌++◌, length, refl, sym, subst, arith, w64, MutBor}
use base.Fraction.{full_share}
use base.Stored.{coded_list}
use mir.Syntax.{named}
use mir.Val.{Val, vint, vptr, vstruct, vcons, vnil, of_list}
use base.Logic.{SProp, ent, id⊢, never}
use base.Fml.{Lft, ftrue, fsep, flft, fauth}
use prog.Wp.{Env, WpFn}
use types.Logic.{Logic, sem}
use contract.Running.{tables}
use types.Kit.{Item, Goal, Seq, ‵, raw, ◌⊛◌, at_ret, ◌$◌, ◌∵◌, !, qed, by, move, keep, drop, use1, use2, split, join, rewrite, fsplit, fjoin, fpick, fpack, feq_l, feq_i, flt_l, suffices, done}
use types.Part.{whole, sub, agg}
use types.Run.{stop, fld, of_opd, and_then, no_more, first, blocks, exec, returns, enter}
use types.ByLocal.{alloc_all, pass_all, free_all, look_at, get, get_in, sets, sets_last, env}
use types.SemTy.{Arr, cells}
use types.Tokens.{name_new, bor_new}
use seplogic.Ra.Ura.{Ura}
use denote.Array.{Array}
use denote.Builtin.{u8}
use denote.Exit.{yes}
use denote.FollowSlice.{slice_of}
use denote.Index.{whole_in}
use denote.Memory.{mem, part_at}
use denote.RattleType.{RattleType, owns}
use denote.RawPtr.{Ptr, block_ptr, ptr_val, lies_at, in_a_block}
use denote.RawPtr.Bytes.{bytes, bytes_apart}
use denote.Signature.{types_at, plain}
use denote.Slice.{MutSlice, slice_val}
use denote.Steps.{nothing}
use denote.Triple.Walked.{Stays, stay_dropped, walk_of, ends_at}
use Rattle.std.proofs.alloc.Calls.{Goes-blank}
use Rattle.std.proofs.mem.Facts.{says_two}
use Rattle.std.proofs.raw_atomic.Walks.{proved_at}
use Rattle.std.proofs.VecSteps.Shapes.{after}
use Rattle.lent_region.specs.contracts.Region as region
use Rattle.lent_region.specs.contracts.Region.leak.{ended, clauses}
use Rattle.lent_region.specs.contracts.Region.leak.Key.{name as #self}
use Rattle.lent_region.proofs.Region.leak.Statement.{statement}
use Rattle.lent_region.proofs.Region.leak.Code as code

abbrev Region : RattleType
Region = region.the_row

-- a region's machine value is its pointer and its count, and it owns the bytes there
module _ {M : Type 1} {𝓤 : Ura M} {𝓛 : Logic 𝓤} {K : Type 0} {Γ : List (Item 𝓤)} {G : Goal 𝓤 𝓛.H} where
  region_out : K → (d : Region.Denot) (vs : List Val)
      → ((b o : ℕ) → d.at ≡ block_ptr b o → vs ≡ slice_val (b, o) d.len ∷ [] → d.len < 2 ^ 64
      → Seq K 𝓛 (‵ (part_at (Array u8 d.len) full_share d.bytes b o) ∷ Γ) G)
      → Seq K 𝓛 (‵ (Region.own_val d vs) ∷ Γ) G
  region_out t d vs k =
      fsplit t $ fpick t (λ vss. fsplit t $ feq_l t (λ ev. fsplit t $ feq_l t (λ ep. fsplit t $ fsplit t $
      feq_l t (λ el. flt_l t (λ lt. drop t $
      in_a_block t d.at (λ p. lies_at (Array u8 d.len) full_share p d.bytes) (id⊢ 𝓤 (never 𝓤))
      (λ b o e. k b o e
      (subst (λ (p : Ptr). vs ≡ vstruct (of_list (ptr_val p ∷ vint w64 d.len ∷ [])) ∷ []) e
      (subst (λ (ws : List Val). vs ≡ vstruct (of_list (ptr_val d.at ∷ (ws ++ []))) ∷ []) el
      (subst (λ (ps : List Val). vs ≡ vstruct (of_list (ps ++ (vss.1.0 ++ []))) ∷ []) ep ev))) lt))))))

pub leak_spec : {M : Type 1} → statement M
leak_spec 𝓤 𝓛 𝓜 𝓡 wired =
    let H = 𝓛.H in let 𝓣 = tables 𝓤 H 𝓜 𝓡 𝓡.env in let c = clauses 𝓛 𝓜.mem 𝓡.returns in
    let hs : Stays ended.signature.params ended.kept = (stay_dropped (plain (λ _. Region)) yes, tt) in
    proved_at 𝓛 ended hs c 𝓜 𝓡 (Goes-blank 𝓛 1 (plain (λ _. Region)) yes (λ κs x f. tt), tt)
    #self code.function (code.unfolded 𝓤 H 𝓜 𝓡 wired) (λ z are.
    let κ = z.0.0.0 in let d = z.0.3.0 in let xs = d.bytes in
    let Post : Val → SProp 𝓤 = (walk_of 𝓛 ended hs c).post z in
    let Run : List Val → SProp 𝓤 = λ ws. WpFn 𝓤 H 𝓣.C 𝓣.Λ code.function ws Post in
    let All = Arr (mem u8) (length xs) in
    qed 𝓛 (((‵ (flft κ z.0.1.0) ⊛ ‵ ftrue) ⊛ ‵ (owns (types_at ended.signature.params z.0.0) z.0.3 z.0.4))
    ∷ raw ((c z.0.0 z.0.3).requires z.1) ∷ []) ∵
    split ! $ move ! (1 ∷ []) $ fsplit ! $ region_out ! d z.0.4.0 (λ b o e ws lt.
    use1 𝓛 (‵ (fsep (base.Fml.feq ℕ (length xs) d.len) (bytes full_share xs b o)))
    (bytes_apart 𝓛 full_share d.len xs b o) $
    fsplit ! $ feq_l ! (λ same.
    let w : Val = slice_val (b, o) d.len in
    let fits = d.fits in
    let roomy : length xs < 2 ^ 64 = subst (λ (n : ℕ). n < 2 ^ 64) (sym same) lt in
    let below : length xs < 2 ^ 63 = subst (λ (n : ℕ). n < 2 ^ 63) (sym same) fits in
    let fitting : length xs * 1 < 2 ^ 63 = omega arith in
    suffices ! (Run (w ∷ [])) (subst (λ (us : List Val). ent 𝓤 (Run (w ∷ [])) (Run us))
    (sym (λ i. ws i ++ [])) (id⊢ 𝓤 (Run (w ∷ [])))) $
    enter ! 𝓣.C 𝓣.Λ code.function (w ∷ []) Post $
    alloc_all ! (λ l. pass_all ! refl ((tt, (tt, (record { fits = lt }, tt))), tt) $
    let En : Env 𝓤 H = env code.function.locals l in
    sets ! (of_opd ! (get_in ! (fld ! refl (stop !)) (sub ! 0 refl (whole !)))) refl (tt, tt) $
    sets ! (of_opd ! (get_in ! (fld ! refl (stop !)) (sub ! 1 refl (whole !)))) refl
    (tt, record { fits = lt }) $
    first ! $ blocks ! $
    sets_last ! (agg ! (and_then ! (get ! refl) (and_then ! (get ! refl) (no_more !))))
    refl (tt, (tt, (record { fits = lt }, tt))) $
    exec ! 𝓣.C 𝓣.Λ En (after 3 code.function.body) (at_ret En Post) $
    -- [the bytes; true; the tokens; the requires; the locals]
    use1 𝓛 (‵ (cells (mem u8) xs b o)) (whole_in 𝓛 u8 xs b o) $
    feq_i ! ℕ (length xs) (length xs) refl $ fjoin ! $
    name_new ! tt ((coded_list u8.coded).code xs) (λ γ. move ! (2 ∷ 1 ∷ []) $ fjoin ! $
    fpack ! (List ℕ) (λ ys. fsep (All.own_at ys b o) (fauth γ (All.coded.code ys))) xs $ bor_new ! tt κ $
    sets ! (of_opd ! (get ! refl)) refl (tt, (tt, (record { fits = lt }, tt))) $
    let r : (MutSlice (named 0) κ u8).Denot = record { ref_ptr = (b, o); ghost_name = γ; now = xs } in
    move ! (2 ∷ 0 ∷ []) $
    use2 𝓛 (‵ ((MutSlice (named 0) κ u8).own_val r (slice_val (b, o) (length xs) ∷ [])))
    (slice_of 𝓛 u8 (named 0) κ b o γ xs (roomy, fitting)) $
    rewrite ! 0 (λ (j : ℕ). ‵ ((MutSlice (named 0) κ u8).own_val r (slice_val (b, o) j ∷ []))) same refl $
    returns ! (look_at ! 0 refl) $ free_all ! refl $
    -- [the slice; what comes back at its end; true; the tokens; the requires]
    keep ! (3 ∷ 0 ∷ []) $
    suffices ! _ (ends_at 𝓛 ended hs c z w r (tt, tt) (tt, tt)) $ says_two ! (refl, same) $
    nothing ! $ nothing ! $ fjoin ! $ move ! (0 ∷ 2 ∷ []) $ join ! $
    move ! (1 ∷ 0 ∷ []) $ join ! $ done !)))))
