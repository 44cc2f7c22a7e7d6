-- `cut` splits the span. Assumes `Logic`.
use Rattle.atomic_table.proofs.Names.{◌≡◌, ◌≤◌, ◌*◌, [], ◌∷◌, length, refl, w64, a_type, Val, vint, inst_fn, SProp, emp, ‵, raw, ◌⊛◌, ◌$◌, ◌∵◌, !, qed, by, move, keep, split, fsplit, fjoin, join, use0, use1, no_more, and_then, returns, enter, alloc_all, pass_all, free_all, look_at, get, sets, agg, tables, no, yes, RattleType, owns, types_at, plain, nothing, param, layouts, alive, Stays, stay_dropped, walk_of, Goes-dropped, fact, fact_i, heard, usize, uint_vals, uint_Tells, ◌⊑◌}
use Rattle.atomic_table.proofs.Walks.{proved, leaves}
use Rattle.std.proofs.Common.{take, drop as rest}
use denote.RawPtr.{◌+ₚ◌}
use Rattle.std.proofs.mem.Param.{El}
use Rattle.std.specs.Mem.{type_size}
use Rattle.bytes.proofs.Walks.{two, two_made}
use Rattle.ts_land.specs.Ownership.{span_owns}
use Rattle.ts_land.specs.contracts.span.Span as spans
use Rattle.ts_land.proofs.Spans.{token_val, Token, token_told, token_made, cut}
use Rattle.ts_land.specs.contracts.span.Span.cut.{ended, clauses}
use Rattle.ts_land.specs.contracts.span.Span.cut.Key.{name as #self}
use Rattle.ts_land.proofs.span.Span.cut.Statement.{statement}
use Rattle.ts_land.proofs.span.Span.cut.Code as code

pub cut_spec : {M : Type 1} → statement M
cut_spec 𝓤 𝓛 𝓜 𝓡 wired T L =
    let H = 𝓛.H in let 𝓣 = tables 𝓤 H 𝓜 𝓡 𝓡.env in let R : RattleType = param 0 T in
    let E : El = record { row = T; laws = L } in let En = ended T in let c = clauses T 𝓛 𝓜.mem 𝓡.returns in
    let inst = layouts (a_type ∷ []) (T, tt) in let fn = inst_fn inst code.function in
    let closed = code.unfolded 𝓤 H 𝓜 𝓡 wired (T, tt) in let Rs : RattleType = spans.the_row R in
    let hs : Stays En.signature.params En.kept = (stay_dropped (plain (λ _. Rs)) no, (stay_dropped (plain (λ _. usize)) yes, tt)) in
    proved 𝓛 En hs c 𝓜 𝓡 (Goes-dropped 𝓛 1 (plain (λ _. Rs)) no (λ κs x f. refl), (Goes-dropped 𝓛 1 (plain (λ _. usize)) yes (λ κs x f. refl), tt)) (#self inst) fn closed
    (λ κs. ((λ _. token_val ∷ []), (uint_vals w64, tt))) (λ κs. ((λ x vs so. token_told R vs so.0), (uint_Tells w64, tt))) (λ κs qs bounds a gh are.
    let x : Rs.Denot = a.0 in let n = a.1.0 in let s = type_size R in
    let y : (walk_of 𝓛 En hs c).Ghost = ((κs, qs, bounds, a, (token_val ∷ [], (vint w64 n ∷ [], tt))), gh) in
    let Post : Val → SProp 𝓤 = (walk_of 𝓛 En hs c).post y in
    let front : Rs.Denot = record { marker = record {}; ptr = x.ptr; items = take n x.items } in
    let back : Rs.Denot = record { marker = record {}; ptr = x.ptr +ₚ n * s; items = rest n x.items } in
    let Front : Type 0 = (front.ptr ≡ x.ptr) × (front.items ≡ take n x.items) in
    let Back : Type 0 = (back.ptr ≡ x.ptr +ₚ n * s) × (back.items ≡ rest n x.items) in
    qed 𝓛 ((raw (alive 𝓛 En.signature κs qs) ⊛ ‵ (owns (types_at En.signature.params κs) a y.0.4)) ∷ raw (fact 𝓤 (κs.0 ⊑ T.lives)) ∷
    raw (fact 𝓤 (n ≤ length x.items)) ∷ []) ∵
    move ! (2 ∷ 0 ∷ []) $ heard ! (n ≤ length x.items) (λ le. split ! $ move ! (1 ∷ []) $ fsplit ! $ fsplit ! $ move ! (1 ∷ 3 ∷ []) $
    keep ! (0 ∷ 1 ∷ []) $
    use1 𝓛 (‵ (span_owns R x.ptr (take n x.items)) ⊛ ‵ (span_owns R (x.ptr +ₚ n * s) (rest n x.items))) (cut E 𝓛 x.ptr n x.items le) $ split ! $
    use0 𝓛 (‵ ((Token R).own_val (tt, tt) (token_val ∷ []))) (token_made R 𝓛) $ move ! (0 ∷ 1 ∷ []) $ fjoin ! $ move ! (1 ∷ []) $
    use0 𝓛 (‵ ((Token R).own_val (tt, tt) (token_val ∷ []))) (token_made R 𝓛) $ fjoin ! $ move ! (1 ∷ 0 ∷ []) $
    two_made ! Rs Rs front back token_val token_val $
    enter ! 𝓣.C 𝓣.Λ fn (token_val ∷ vint w64 n ∷ []) Post $
    alloc_all ! (λ l. pass_all ! refl ((tt, (tt, tt)), ((tt, record { fits = are.1.0.1 }), tt)) $
    sets ! (agg ! (no_more !)) refl (tt, tt) $ sets ! (agg ! (and_then ! (get ! refl) (no_more !))) refl (tt, (tt, tt)) $
    sets ! (agg ! (no_more !)) refl (tt, tt) $ sets ! (agg ! (and_then ! (get ! refl) (no_more !))) refl (tt, (tt, tt)) $
    sets ! (agg ! (and_then ! (get ! refl) (and_then ! (get ! refl) (no_more !)))) refl (tt, ((tt, tt), ((tt, tt), tt))) $
    use0 𝓛 (raw (fact 𝓤 Back)) (fact_i 𝓤 Back (emp 𝓤) (refl, refl)) $ use0 𝓛 (raw (fact 𝓤 Front)) (fact_i 𝓤 Front (emp 𝓤) (refl, refl)) $ join ! $
    nothing ! $ nothing ! $ fjoin ! $ nothing ! $ fjoin ! $
    returns ! (look_at ! 0 refl) $ free_all ! refl $ keep ! (3 ∷ 0 ∷ 2 ∷ 1 ∷ []) $
    by ! (leaves 𝓛 En hs c y (two token_val token_val) (front, back) (tt, (tt, tt)) (tt, (tt, tt))))))
