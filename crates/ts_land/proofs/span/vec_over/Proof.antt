-- `vec_over` hands the span to `lodge`. Assumes `Logic`.
use Rattle.atomic_table.proofs.Names.{◌≡◌, ◌^◌, ◌<◌, List, [], ◌∷◌, length, refl, sym, ap, ◌∙◌, w64, a_type, Val, vint, vptr, inst_fn, SProp, emp, ‵, raw, ◌⊛◌, some, given, later, at_ret, ◌$◌, ◌∵◌, !, qed, by, move, keep, drop, split, fsplit, fjoin, join, pick, learn, use0, use1, use2, rewrite, await, of_opd, no_more, and_then, first, blocks, exec, returns, enter, alloc_all, pass_all, free_all, look_at, get, sets, lands_last, env, tables, no, yes, RattleType, owns, types_at, plain, Ptr, ptr_val, RawPtr, nothing, param, layouts, Stays, stay_dropped, walk_of, Goes-dropped, fact, fact_i, heard, usize, uint_vals, uint_Tells, flft, ftrue, ◌⊑◌, calls_at_last}
use Rattle.atomic_table.proofs.Walks.{proved, leaves}
use Rattle.atomic_table.proofs.Calls.{fm}
use denote.RawPtr.{rawptr_vals, rawptr_Tells, in_a_block}
use base.Logic.{id⊢, never}
use types.Kit.{regoal, prop}
use prog.Wp.{WpFn}
use mir.Syntax.{seq, assign, place, rv_opd, copy, return}
use denote.Steps.{only}
use Rattle.std.proofs.Common.{Vec, subst}
use Rattle.std.proofs.mem.Param.{El, el_x}
use Rattle.bytes.proofs.Walks.{Good, tells}
use Rattle.std_alloc.specs.declared.vec.lodged.Lodged.{Lodged}
use Rattle.std_alloc.proofs.vec.lodge.Met as callee
use Rattle.ts_land.specs.Ownership.{span_owns}
use Rattle.ts_land.specs.contracts.span.Span as spans
use Rattle.ts_land.proofs.Spans.{token_val, token_told}
use Rattle.ts_land.proofs.Lodging.{LodgedVec, lodging-laws, Lodges, at_lodge, IsLodged, lodge_goes, lodge_gives}
use Rattle.ts_land.specs.contracts.span.vec_over.{ended, clauses}
use Rattle.ts_land.specs.contracts.span.vec_over.Key.{name as #self}
use Rattle.ts_land.proofs.span.vec_over.Statement.{statement}
use Rattle.ts_land.proofs.span.vec_over.Code as code

pub vec_over_spec : {M : Type 1} → statement M
vec_over_spec 𝓤 𝓛 𝓜 𝓡 wired T L =
    let H = 𝓛.H in let 𝓣 = tables 𝓤 H 𝓜 𝓡 𝓡.env in let R : RattleType = param 0 T in
    let E : El = record { row = T; laws = L } in let En = ended T in let c = clauses T 𝓛 𝓜.mem 𝓡.returns in
    let inst = layouts (a_type ∷ []) (T, tt) in let fn = inst_fn inst code.function in
    let closed = code.unfolded 𝓤 H 𝓜 𝓡 wired (T, tt) in let Rs : RattleType = spans.the_row R in
    let met = callee.met 𝓤 𝓛 𝓜 𝓡 (code.calls-std_alloc::vec::lodge 𝓡.env wired) T L in
    let hs : Stays En.signature.params En.kept = (stay_dropped (plain (λ _. RawPtr)) yes, (stay_dropped (plain (λ _. usize)) yes, (stay_dropped (plain (λ _. Rs)) no, tt))) in
    proved 𝓛 En hs c 𝓜 𝓡 (Goes-dropped 𝓛 1 (plain (λ _. RawPtr)) yes (λ κs x f. refl), (Goes-dropped 𝓛 1 (plain (λ _. usize)) yes (λ κs x f. refl), (Goes-dropped 𝓛 1 (plain (λ _. Rs)) no (λ κs x f. refl), tt))) (#self inst) fn closed
    (λ κs. (
      rawptr_vals,
      (
        uint_vals w64,
        (
          (λ _. token_val ∷
              []),
          tt,
        ),
      ),
    )) (λ κs. (rawptr_Tells, (uint_Tells w64, ((λ x vs so. token_told R vs so.0), tt)))) (λ κs qs bounds a gh are.
    let κ = κs.0 in let q = qs.0 in let n = a.1.0 in let x : Rs.Denot = a.1.1.0 in
    let xs : List (el_x E) = x.items in let Hs : RattleType = LodgedVec E in
    let y : (walk_of 𝓛 En hs c).Ghost = ((κs, qs, bounds, a, (ptr_val a.0 ∷ [], (vint w64 n ∷ [], (token_val ∷ [], tt)))), gh) in
    let Post : Val → SProp 𝓤 = (walk_of 𝓛 En hs c).post y in
    let Asked : Type 0 = (x.ptr ≡ a.0) × (length xs ≡ n) × (n < 2 ^ 63) in
    qed 𝓛 ((((‵ (flft κ q) ⊛ ‵ ftrue) ⊛ ‵ (owns (types_at En.signature.params κs) a y.0.4)) ∷ raw (fact 𝓤 (κ ⊑ T.lives)) ∷ raw (fact 𝓤 Asked) ∷ [])) ∵
    move ! (1 ∷ 2 ∷ 0 ∷ []) $ heard ! (κ ⊑ T.lives) (λ le. heard ! Asked (λ asked. split ! $ split ! $ move ! (2 ∷ 0 ∷ []) $ fsplit ! $ drop ! $
    fsplit ! $ drop ! $ fsplit ! $ fsplit ! $ drop ! $ move ! (0 ∷ 2 ∷ []) $ keep ! (0 ∷ 1 ∷ []) $
    rewrite ! 0 (λ (r : Ptr). ‵ (span_owns R r xs)) asked.0 refl $
    in_a_block ! a.0 (λ r. span_owns R r xs) (qed 𝓛 (‵ (span_owns R denote.RawPtr.null_ptr xs) ∷ []) ∵ fsplit ! $ drop ! $
    by ! (id⊢ 𝓤 (never 𝓤))) (λ b o at.
    let w = at_lodge E 𝓛 𝓜.mem 𝓡.returns κ q b o n xs in let Ls = Lodges E 𝓛 𝓜.mem 𝓡.returns κ q in
    regoal ! (λ (v : Val). prop (WpFn 𝓤 H 𝓣.C 𝓣.Λ fn (v ∷ vint w64 n ∷ token_val ∷ []) Post)) (ap ptr_val at) refl $
    enter ! 𝓣.C 𝓣.Λ fn (vptr b o ∷ vint w64 n ∷ token_val ∷ []) Post $
    alloc_all ! (λ l. pass_all ! refl ((tt, tt), ((tt, record { fits = are.1.0.1 }), ((tt, (tt, tt)), tt))) $
    first ! $ blocks ! $ use2 𝓛 (raw (Ls.pre w)) (lodge_goes E 𝓛 𝓜.mem 𝓡.returns κ q b o n xs le asked.1 asked.2) $
    calls_at_last ! (fm 𝓛 𝓜 𝓡) Ls met w (and_then ! (get ! refl) (and_then ! (get ! refl) (and_then ! (get ! refl) (no_more !)))) (λ v.
    use1 𝓛 (later (some (λ (r : Vec (el_x E) Lodged). given (IsLodged E 𝓛 𝓜.mem 𝓡.returns κ q b o n xs r) (‵ (Hs.own_val r (v ∷
    [])) ⊛ ‵ (flft κ q))))) (lodge_gives E 𝓛 𝓜.mem 𝓡.returns κ q b o n xs v) $
    await ! tt $ pick ! (λ r. learn ! (λ is. split ! $ tells ! Hs (lodging-laws E) r (v ∷ []) (λ u same good.
    let fine : Good Hs v = subst (Good Hs) (sym (ap only same)) good in
    rewrite ! 0 (λ (z : Val). ‵ (Hs.own_val r (z ∷ []))) (sym (ap only same)) refl $ lands_last ! refl fine $
    exec ! 𝓣.C 𝓣.Λ (env fn.locals l) (seq (assign (place 0 []) (rv_opd (copy (place 4 [])))) return) (at_ret (env fn.locals l) Post) $
    sets ! (of_opd ! (get ! refl)) refl fine $
    let Told : Type 0 = (r.items ≡ xs) × (r.len ≡ n) × (r.ptr ≡ a.0) × (r.cap ≡ n) in
    use0 𝓛 (raw (fact 𝓤 Told)) (fact_i 𝓤 Told (emp 𝓤) (is.0, is.1, is.3 ∙ sym at, is.2)) $ nothing ! $ nothing ! $ fjoin ! $ nothing ! $ fjoin ! $
    nothing ! $ fjoin ! $
    nothing ! $ move ! (4 ∷ 0 ∷ []) $ join ! $
    returns ! (look_at ! 0 refl) $ free_all ! refl $ keep ! (0 ∷ 1 ∷ 3 ∷ 2 ∷ []) $
    by ! (leaves 𝓛 En hs c y v r (tt, (tt, (tt, tt))) (tt, (tt, (tt, tt)))))))))))))
