-- `span_of` takes the span back from `dislodge`. Assumes `Logic`.
use Rattle.atomic_table.proofs.Names.{◌≡◌, ◌^◌, ◌<◌, List, [], ◌∷◌, ◌++◌, refl, w64, a_type, Val, vint, inst_fn, SProp, emp, ‵, raw, ◌⊛◌, given, later, ◌$◌, ◌∵◌, !, qed, by, move, keep, split, fsplit, fjoin, join, learn, use0, use1, use2, await, of_opd, no_more, and_then, returns, enter, alloc_all, pass_all, free_all, look_at, get, sets, lands_as, agg, tables, no, RattleType, owns, types_at, plain, nothing, param, layouts, Stays, stay_dropped, walk_of, Goes-dropped, fact, fact_i, heard, flft, ftrue, ◌⊑◌, calls_at}
use Rattle.atomic_table.proofs.Walks.{proved_at, leaves}
use Rattle.atomic_table.proofs.Calls.{fm}
use types.Kit.{regoal, prop}
use prog.Wp.{WpFn}
use Rattle.std.proofs.mem.Param.{El}
use Rattle.bytes.proofs.Walks.{tells}
use Rattle.std_alloc.proofs.vec.lodged.Vec+T+Lodged.dislodge.Met as callee
use Rattle.ts_land.specs.Ownership.{span_owns}
use Rattle.ts_land.specs.contracts.span.Span as spans
use Rattle.ts_land.proofs.Spans.{token_val, Token, token_made}
use Rattle.ts_land.proofs.Lodging.{LodgedVec, lodging-laws, Dislodges, at_dislodge, dislodge_goes, dislodge_gives}
use Rattle.ts_land.specs.contracts.span.span_of.{ended, clauses}
use Rattle.ts_land.specs.contracts.span.span_of.Key.{name as #self}
use Rattle.ts_land.proofs.span.span_of.Statement.{statement}
use Rattle.ts_land.proofs.span.span_of.Code as code

pub span_of_spec : {M : Type 1} → statement M
span_of_spec 𝓤 𝓛 𝓜 𝓡 wired T L =
    let H = 𝓛.H in let 𝓣 = tables 𝓤 H 𝓜 𝓡 𝓡.env in let R : RattleType = param 0 T in
    let E : El = record { row = T; laws = L } in let En = ended T in let c = clauses T 𝓛 𝓜.mem 𝓡.returns in
    let inst = layouts (a_type ∷ []) (T, tt) in let fn = inst_fn inst code.function in
    let closed = code.unfolded 𝓤 H 𝓜 𝓡 wired (T, tt) in let Rs : RattleType = spans.the_row R in let Hs : RattleType = LodgedVec E in
    let met = callee.met 𝓤 𝓛 𝓜 𝓡 (code.calls-std_alloc::vec::lodged::Vec+T+Lodged::dislodge 𝓡.env wired) T L in
    let hs : Stays En.signature.params En.kept = (stay_dropped (plain (λ _. Hs)) no, tt) in
    proved_at 𝓛 En hs c 𝓜 𝓡 (Goes-dropped 𝓛 1 (plain (λ _. Hs)) no (λ κs x f. refl), tt) (#self inst) fn closed (λ y are.
    let κ = y.0.0.0 in let q = y.0.1.0 in let d = y.0.3.0 in let vss = y.0.4 in let Post : Val → SProp 𝓤 = (walk_of 𝓛 En hs c).post y in
    let Ds = Dislodges E 𝓛 𝓜.mem 𝓡.returns κ q in let r : Rs.Denot = record { marker = record {}; ptr = d.ptr; items = d.items } in
    let Told : Type 0 = (r.ptr ≡ d.ptr) × (r.items ≡ d.items) in
    qed 𝓛 (((‵ (flft κ q) ⊛ ‵ ftrue) ⊛ ‵ (owns (types_at En.signature.params y.0.0) y.0.3 vss)) ∷ raw (fact 𝓤 (κ ⊑ T.lives)) ∷
    raw (fact 𝓤 (d.cap ≡ d.len)) ∷ []) ∵
    move ! (1 ∷ 2 ∷ []) $ heard ! (κ ⊑ T.lives) (λ le. heard ! (d.cap ≡ d.len) (λ full. split ! $ split ! $ move ! (2 ∷ []) $ fsplit ! $
    tells ! Hs (lodging-laws E) d vss.0 (λ u same good. move ! (0 ∷ 2 ∷ []) $ keep ! (0 ∷ 1 ∷ []) $
    regoal ! (λ (us : List Val). prop (WpFn 𝓤 H 𝓣.C 𝓣.Λ fn (us ++ []) Post)) same refl $
    enter ! 𝓣.C 𝓣.Λ fn (u ∷ []) Post $ alloc_all ! (λ l. pass_all ! refl (good, tt) $
    sets ! (of_opd ! (get ! refl)) refl good $
    use2 𝓛 (raw (Ds.pre (at_dislodge E 𝓛 𝓜.mem 𝓡.returns κ q d u))) (dislodge_goes E 𝓛 𝓜.mem 𝓡.returns κ q d u le) $
    calls_at ! (fm 𝓛 𝓜 𝓡) Ds met (at_dislodge E 𝓛 𝓜.mem 𝓡.returns κ q d u) (and_then ! (get ! refl) (no_more !)) (λ w.
    use1 𝓛 (later (given ((w ≡ vint w64 d.len) × (d.len < 2 ^ 64)) (‵ (span_owns R d.ptr d.items) ⊛ ‵ (flft κ q)))) (dislodge_gives E 𝓛 𝓜.mem 𝓡.returns κ q d u full w) $ await ! tt $ learn ! (λ got. split ! $
    lands_as ! got.0 refl (tt, record { fits = got.1 }) $
    sets ! (agg ! (no_more !)) refl (tt, tt) $ sets ! (agg ! (and_then ! (get ! refl) (no_more !))) refl (tt, (tt, tt)) $
    use0 𝓛 (‵ ((Token R).own_val (tt, tt) (token_val ∷ []))) (token_made R 𝓛) $ fjoin ! $
    use0 𝓛 (raw (fact 𝓤 Told)) (fact_i 𝓤 Told (emp 𝓤) (refl, refl)) $ nothing ! $ nothing ! $ fjoin ! $ nothing ! $ move ! (4 ∷ 0 ∷ []) $ join ! $
    returns ! (look_at ! 0 refl) $ free_all ! refl $ keep ! (0 ∷ 1 ∷ 3 ∷ 2 ∷ []) $ by ! (leaves 𝓛 En hs c y token_val r (tt, tt) (tt, tt)))))))))
