-- `take_out` takes the values out, and leaves the owner. Assumes `Logic`.
use Rattle.atomic_table.proofs.Names.{◌≡◌, ◌<◌, List, [], ◌∷◌, ◌++◌, refl, a_type, dcons, dnil, Val, inst_fn, SProp, emp, ‵, raw, ◌⊛◌, ◌$◌, ◌∵◌, !, qed, by, move, keep, split, fsplit, fjoin, fpack, use0, use1, of_opd, no_more, and_then, returns, enter, alloc_all, pass_all, free_all, look_at, get, sets, agg, tables, no, RattleType, owns, types_at, plain, nothing, param, bounded, Stays, alive, stay_dropped, walk_of, fact, fact_i, heard, ftrue, ◌⊑◌}
use Rattle.atomic_table.proofs.Walks.{proved_at, leaves}
use Rattle.std.proofs.alloc.Calls.{Goes-blank}
use types.Kit.{regoal, prop}
use prog.Wp.{WpFn}
use denote.Laws.{Typed}
use denote.Param.{layout}
use denote.Param.Laws.{Laws, param_laws}
use denote.Struct.Struct.{as_fields}
use Rattle.bytes.proofs.Walks.{one, two, tells, two_made}
use Rattle.std_alloc.specs.contracts.vec.Vec as V
use Rattle.std_alloc.proofs.vec.Vec.TheLaws as vec_laws
use Rattle.ts_land.specs.Ownership.{span_owns}
use Rattle.ts_land.specs.contracts.span.Span as spans
use Rattle.ts_land.specs.contracts.owner.Owner as owners
use Rattle.ts_land.proofs.Spans.{token_val, Token, token_made}
use Rattle.ts_land.proofs.Vecs.{carve}
use Rattle.ts_land.specs.contracts.owner.take_out.{ended, clauses}
use Rattle.ts_land.specs.contracts.owner.take_out.Key.{name as #self}
use Rattle.ts_land.proofs.owner.take_out.Statement.{statement}
use Rattle.ts_land.proofs.owner.take_out.Code as code

pub take_out_spec : {M : Type 1} → statement M
take_out_spec 𝓤 𝓛 𝓜 𝓡 wired T A LT LA g d dd _ _ =
    let H = 𝓛.H in let 𝓣 = tables 𝓤 H 𝓜 𝓡 𝓡.env in let R : RattleType = param 0 T in
    let P : RattleType = param 1 A in let En = ended T A g d dd in let c = clauses T A g d dd 𝓛 𝓜.mem 𝓡.returns in
    let inst = bounded (a_type ∷ a_type ∷ []) (T, (A, tt)) (dcons d (dcons dd dnil)) in
    let fn = inst_fn inst code.function in let Rs : RattleType = spans.the_row R in
    let S : RattleType = owners.the_row R P g in let Vr : RattleType = V.the_row R P g in
    let VL : Laws Vr = vec_laws.the_row_laws R P g (param_laws 0 T LT) (param_laws 1 A LA) in
    let hs : Stays En.signature.params En.kept = (stay_dropped (plain (λ _. Vr)) no, tt) in
    proved_at 𝓛 En hs c 𝓜 𝓡 (Goes-blank 𝓛 2 (plain (λ _. Vr)) no (λ κs x f. tt), tt) (#self inst) fn (code.unfolded 𝓤 H 𝓜 𝓡 wired (T, (A, tt)) d dd) (λ y are.
    let v : Vr.Denot = y.0.3.0 in let vss = y.0.4 in let Post : Val → SProp 𝓤 = (walk_of 𝓛 En hs c).post y in
    let e : S.Denot = record { ptr = v.ptr; len = v.len } in let r : Rs.Denot = record { marker = record {}; ptr = v.ptr; items = v.items } in
    let Told : Type 0 = (r.ptr ≡ v.ptr) × (r.items ≡ v.items) × (e.ptr ≡ v.ptr) × (e.len ≡ v.len) in
    qed 𝓛 ((raw (alive 𝓛 En.signature y.0.0 y.0.1) ⊛ ‵ (owns (types_at En.signature.params y.0.0) y.0.3 vss)) ∷ raw (fact 𝓤 (y.0.0.0 ⊑ T.lives)) ∷
    raw (fact 𝓤 (y.0.0.1.0 ⊑ A.lives)) ∷ raw (fact 𝓤 (0 < v.len)) ∷ []) ∵
    move ! (3 ∷ 0 ∷ []) $ heard ! (0 < v.len) (λ some. split ! $ move ! (1 ∷ []) $ fsplit ! $
    tells ! Vr VL v vss.0 (λ u same good. move ! (0 ∷ 2 ∷ []) $ keep ! (0 ∷ 1 ∷ []) $
    let inner = as_fields ((layout Vr) ∷ []) (u ∷ []) (good, tt) in
    use1 𝓛 (‵ (span_owns R v.ptr v.items) ⊛ ‵ (owners.the_own R P g e (one u ∷ []))) (carve R P g 𝓛 v u some) $ split ! $
    use0 𝓛 (‵ ((Token R).own_val (tt, tt) (token_val ∷ []))) (token_made R 𝓛) $ fjoin ! $ move ! (1 ∷ []) $ nothing ! $
    fpack ! (Typed S.mir (one u ∷ [])) (λ _. ftrue) (inner, tt) $ fjoin ! $ move ! (1 ∷ 0 ∷ []) $
    two_made ! Rs S r e token_val (one u) $
    regoal ! (λ (us : List Val). prop (WpFn 𝓤 H 𝓣.C 𝓣.Λ fn (us ++ []) Post)) same refl $
    enter ! 𝓣.C 𝓣.Λ fn (u ∷ []) Post $ alloc_all ! (λ l. pass_all ! refl (good, tt) $
    sets ! (agg ! (no_more !)) refl (tt, tt) $ sets ! (agg ! (and_then ! (get ! refl) (no_more !))) refl (tt, (tt, tt)) $
    sets ! (of_opd ! (get ! refl)) refl good $ sets ! (agg ! (and_then ! (get ! refl) (no_more !))) refl inner $
    sets ! (agg ! (and_then ! (get ! refl) (and_then ! (get ! refl) (no_more !)))) refl (as_fields (layout Rs ∷ layout S ∷ []) (token_val ∷ one u ∷
    []) ((tt, (tt, tt)), (inner, tt))) $
    use0 𝓛 (raw (fact 𝓤 Told)) (fact_i 𝓤 Told (emp 𝓤) (refl, refl, refl, refl)) $ nothing ! $ nothing ! $ fjoin ! $
    returns ! (look_at ! 0 refl) $ free_all ! refl $ keep ! (3 ∷ 0 ∷ 2 ∷ 1 ∷ []) $
    by ! (leaves 𝓛 En hs c y (two token_val (one u)) (r, e) ((tt, (tt, (tt, (tt, tt)))), tt) (tt, tt))))))
