-- `put_back` gives the values to the owner that waits for them. Assumes `Logic`.
use Rattle.atomic_table.proofs.Names.{◌≡◌, List, [], ◌∷◌, ◌++◌, length, refl, sym, ◌∙◌, subst, a_type, dcons, dnil, Val, inst_fn, SProp, emp, ‵, raw, ◌⊛◌, ◌$◌, ◌∵◌, !, qed, by, move, keep, drop, split, fsplit, fjoin, fpick, feq_l, feq_i, rewrite, use0, use1, use2, of_opd, returns, enter, stop, fld, sub, whole, alloc_all, pass_all, free_all, look_at, get, get_in, sets, tables, no, RattleType, owns, types_at, plain, Ptr, nothing, param, bounded, Stays, alive, stay_dropped, walk_of, Goes-dropped, fact, fact_i, heard, fsep, ◌⊑◌, ℕ, apply∗, all_e, sem}
use Rattle.atomic_table.proofs.Walks.{proved_at, leaves}
use Rattle.std.proofs.alloc.Calls.{Goes-blank}
use types.Kit.{regoal, prop}
use prog.Wp.{WpFn}
use base.Fml.{feq, fwand}
use denote.Laws.{Typed}
use denote.Param.Laws.{Laws, param_laws}
use Rattle.std.specs.Vec.{with_items}
use Rattle.std.proofs.lemmas.List.{with_items_is}
use Rattle.bytes.proofs.Walks.{plainly, one, one_had}
use Rattle.std_alloc.specs.contracts.vec.Vec as V
use Rattle.std_alloc.proofs.vec.Vec.TheLaws as vec_laws
use Rattle.ts_land.specs.Ownership.{span_owns}
use Rattle.ts_land.specs.contracts.span.Span as spans
use Rattle.ts_land.specs.contracts.owner.Owner as owners
use Rattle.ts_land.proofs.Spans.{token_val, token_told}
use Rattle.ts_land.specs.contracts.owner.put_back.{ended, clauses}
use Rattle.ts_land.specs.contracts.owner.put_back.Key.{name as #self}
use Rattle.ts_land.proofs.owner.put_back.Statement.{statement}
use Rattle.ts_land.proofs.owner.put_back.Code as code

pub put_back_spec : {M : Type 1} → statement M
put_back_spec 𝓤 𝓛 𝓜 𝓡 wired T A LT LA g d dd _ _ =
    let H = 𝓛.H in let 𝓣 = tables 𝓤 H 𝓜 𝓡 𝓡.env in let R : RattleType = param 0 T in
    let P : RattleType = param 1 A in let En = ended T A g d dd in let c = clauses T A g d dd 𝓛 𝓜.mem 𝓡.returns in
    let inst = bounded (a_type ∷ a_type ∷ []) (T, (A, tt)) (dcons d (dcons dd dnil)) in
    let fn = inst_fn inst code.function in let Rs : RattleType = spans.the_row R in
    let S : RattleType = owners.the_row R P g in let Vr : RattleType = V.the_row R P g in
    let VL : Laws Vr = vec_laws.the_row_laws R P g (param_laws 0 T LT) (param_laws 1 A LA) in
    let hs : Stays En.signature.params En.kept = (stay_dropped (plain (λ _. Rs)) no, (stay_dropped (plain (λ _. S)) no, tt)) in
    proved_at 𝓛 En hs c 𝓜 𝓡 (Goes-dropped 𝓛 2 (plain (λ _. Rs)) no (λ κs x f. refl), (Goes-blank 𝓛 2 (plain (λ _. S)) no (λ κs x f. tt), tt)) (#self inst) fn (code.unfolded 𝓤 H 𝓜 𝓡 wired (T, (A, tt)) d dd) (λ y are.
    let a = y.0.3 in let vss = y.0.4 in let xs : List T.Denot = a.0.items in
    let e : S.Denot = a.1.0 in let Post : Val → SProp 𝓤 = (walk_of 𝓛 En hs c).post y in
    let Asked : Type 0 = (a.0.ptr ≡ e.ptr) × (length xs ≡ e.len) in let is₀ : vss.0 ≡ token_val ∷ [] = token_told R vss.0 are.0.0 in
    qed 𝓛 ((raw (alive 𝓛 En.signature y.0.0 y.0.1) ⊛ ‵ (owns (types_at En.signature.params y.0.0) a vss)) ∷ raw (fact 𝓤 (y.0.0.0 ⊑ T.lives)) ∷
    raw (fact 𝓤 (y.0.0.1.0 ⊑ A.lives)) ∷ raw (fact 𝓤 Asked) ∷ []) ∵
    move ! (3 ∷ 0 ∷ []) $ heard ! Asked (λ asked. split ! $ move ! (1 ∷ []) $ fsplit ! $ fsplit ! $ drop ! $ move ! (1 ∷ []) $ fsplit ! $ fsplit ! $
    fpick ! (λ typed. drop ! $ fpick ! (λ v. fsplit ! $ feq_l ! (λ len.
    let Given = λ (ys : List T.Denot). fsep (feq ℕ (length ys) e.len) (span_owns R e.ptr ys) in
    let Whole = λ (ys : List T.Denot). (plainly (Vr ∷ [])).own_val (with_items v.vec ys, tt) vss.1.0 in
    use1 𝓛 (‵ (fwand (Given xs) (Whole xs))) (all_e 𝓤 (λ ys. sem 𝓛 (fwand (Given ys) (Whole ys))) xs) $ move ! (2 ∷ []) $
    rewrite ! 0 (λ (p : Ptr). ‵ (span_owns R p xs)) asked.0 refl $ feq_i ! ℕ (length xs) e.len asked.1 $ fjoin ! $
    use2 𝓛 (‵ (Whole xs)) (apply∗ 𝓤 (sem 𝓛 (Given xs)) (sem 𝓛 (Whole xs))) $
    one_had ! Vr VL (with_items v.vec xs) vss.1.0 (λ u is₁ good. move ! (1 ∷ []) $ drop ! $
    regoal ! (λ (us : List Val). prop (WpFn 𝓤 H 𝓣.C 𝓣.Λ fn (us ++ (vss.1.0 ++ [])) Post)) is₀ refl $
    regoal ! (λ (us : List Val). prop (WpFn 𝓤 H 𝓣.C 𝓣.Λ fn ((token_val ∷ []) ++ (us ++ [])) Post)) is₁ refl $
    enter ! 𝓣.C 𝓣.Λ fn (token_val ∷ one u ∷ []) Post $ alloc_all ! (λ l. pass_all ! refl ((tt, (tt, tt)), ((subst (Typed S.mir) is₁ typed).0, tt)) $
    sets ! (of_opd ! (get_in ! (fld ! refl (stop !)) (sub ! 0 refl (whole !)))) refl good $ sets ! (of_opd ! (get ! refl)) refl good $
    let Told : Type 0 = (with_items v.vec xs).items ≡ xs in
    use0 𝓛 (raw (fact 𝓤 Told)) (fact_i 𝓤 Told (emp 𝓤) (with_items_is v.vec xs (asked.1 ∙ sym len))) $ nothing ! $ nothing ! $ fjoin ! $ nothing ! $
    fjoin ! $
    returns ! (look_at ! 0 refl) $ free_all ! refl $ keep ! (3 ∷ 0 ∷ 2 ∷ 1 ∷ []) $
    by ! (leaves 𝓛 En hs c y u (with_items v.vec xs) (tt, (tt, tt)) (tt, (tt, tt))))))))))
