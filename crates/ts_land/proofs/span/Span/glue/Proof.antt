-- `glue` joins two spans. Assumes `Logic`.
use Rattle.atomic_table.proofs.Names.{◌≡◌, ◌*◌, [], ◌∷◌, length, refl, a_type, Val, inst_fn, SProp, emp, ‵, raw, ◌⊛◌, ◌$◌, ◌∵◌, !, qed, by, move, keep, drop, split, fsplit, fjoin, use0, use2, no_more, and_then, returns, enter, alloc_all, pass_all, free_all, look_at, get, sets, agg, tables, no, RattleType, owns, types_at, plain, nothing, param, layouts, alive, Stays, stay_dropped, walk_of, Goes-dropped, fact, fact_i, heard, ◌⊑◌}
use Rattle.atomic_table.proofs.Walks.{proved, leaves}
use Rattle.std.proofs.Common.{◌++◌, ◌+◌, ◌^◌, ◌<◌}
use denote.RawPtr.{◌+ₚ◌}
use Rattle.std.proofs.mem.Param.{El}
use Rattle.std.specs.Mem.{type_size}
use Rattle.ts_land.specs.Ownership.{span_owns}
use Rattle.ts_land.specs.contracts.span.Span as spans
use Rattle.ts_land.proofs.Spans.{token_val, Token, token_told, token_made, glue}
use Rattle.ts_land.specs.contracts.span.Span.glue.{ended, clauses}
use Rattle.ts_land.specs.contracts.span.Span.glue.Key.{name as #self}
use Rattle.ts_land.proofs.span.Span.glue.Statement.{statement}
use Rattle.ts_land.proofs.span.Span.glue.Code as code

pub glue_spec : {M : Type 1} → statement M
glue_spec 𝓤 𝓛 𝓜 𝓡 wired T L =
    let H = 𝓛.H in let 𝓣 = tables 𝓤 H 𝓜 𝓡 𝓡.env in let R : RattleType = param 0 T in
    let E : El = record { row = T; laws = L } in let En = ended T in let c = clauses T 𝓛 𝓜.mem 𝓡.returns in
    let inst = layouts (a_type ∷ []) (T, tt) in let fn = inst_fn inst code.function in
    let closed = code.unfolded 𝓤 H 𝓜 𝓡 wired (T, tt) in let Rs : RattleType = spans.the_row R in
    let hs : Stays En.signature.params En.kept = (stay_dropped (plain (λ _. Rs)) no, (stay_dropped (plain (λ _. Rs)) no, tt)) in
    proved 𝓛 En hs c 𝓜 𝓡 (Goes-dropped 𝓛 1 (plain (λ _. Rs)) no (λ κs x f. refl), (Goes-dropped 𝓛 1 (plain (λ _. Rs)) no (λ κs x f. refl), tt)) (#self inst) fn closed
    (λ κs. (
      (λ _. token_val ∷ []),
      (
        (λ _. token_val ∷
            []),
        tt,
      ),
    )) (λ κs. ((λ x vs so. token_told R vs so.0), ((λ x vs so. token_told R vs so.0), tt))) (λ κs qs bounds a gh are.
    let x : Rs.Denot = a.0 in let z : Rs.Denot = a.1.0 in let s = type_size R in
    let y : (walk_of 𝓛 En hs c).Ghost = ((κs, qs, bounds, a, (token_val ∷ [], (token_val ∷ [], tt))), gh) in
    let Post : Val → SProp 𝓤 = (walk_of 𝓛 En hs c).post y in
    let r : Rs.Denot = record { marker = record {}; ptr = x.ptr; items = x.items ++ z.items } in
    let Told : Type 0 = (r.ptr ≡ x.ptr) × (r.items ≡ x.items ++ z.items) in
    let Beside : Type 0 = z.ptr ≡ x.ptr +ₚ length x.items * s in let Fits : Type 0 = (length x.items + length z.items) * s < 2 ^ 63 in
    qed 𝓛 ((raw (alive 𝓛 En.signature κs qs) ⊛ ‵ (owns (types_at En.signature.params κs) a y.0.4)) ∷ raw (fact 𝓤 (κs.0 ⊑ T.lives)) ∷
    raw (fact 𝓤 Beside) ∷ raw (fact 𝓤 Fits) ∷ []) ∵
    move ! (2 ∷ 3 ∷ 0 ∷ []) $ heard ! Beside (λ beside. heard ! Fits (λ fits. split ! $ move ! (1 ∷ []) $ fsplit ! $ fsplit ! $ drop ! $
    move ! (1 ∷ []) $ fsplit ! $ fsplit ! $ drop ! $ move ! (2 ∷ 0 ∷ []) $
    use2 𝓛 (‵ (span_owns R x.ptr (x.items ++ z.items))) (glue E 𝓛 x.ptr z.ptr x.items z.items beside fits) $
    use0 𝓛 (‵ ((Token R).own_val (tt, tt) (token_val ∷ []))) (token_made R 𝓛) $ fjoin ! $
    enter ! 𝓣.C 𝓣.Λ fn (token_val ∷ token_val ∷ []) Post $ alloc_all ! (λ l. pass_all ! refl ((tt, (tt, tt)), ((tt, (tt, tt)), tt)) $
    sets ! (agg ! (no_more !)) refl (tt, tt) $ sets ! (agg ! (and_then ! (get ! refl) (no_more !))) refl (tt, (tt, tt)) $
    use0 𝓛 (raw (fact 𝓤 Told)) (fact_i 𝓤 Told (emp 𝓤) (refl, refl)) $ nothing ! $ nothing ! $ fjoin ! $ nothing ! $ fjoin ! $
    returns ! (look_at ! 0 refl) $ free_all ! refl $ keep ! (4 ∷ 0 ∷ 2 ∷ 1 ∷ []) $
    by ! (leaves 𝓛 En hs c y token_val r (tt, (tt, tt)) (tt, (tt, tt)))))))
