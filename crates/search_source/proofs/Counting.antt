-- Numbers as they are counted, and what does not depend on more.
use Rattle.std.proofs.Common.{◌≡◌, ℕ, zero, suc, ◌+◌, ◌<◌, ◌≤◌, Bool, true, false, List, [], ◌∷◌, ◌++◌, length, take, drop, min, refl, ap, sym, ◌∙◌, subst, arith}
use Rattle.std.specs.List.{concat}
use Rattle.ts_outside.specs.Count.{count_end}
use Rattle.packet_forms.specs.declared.forms.Form.{Form}
use Rattle.packet_forms.specs.Stripped.{lead}
use Rattle.packet_search.specs.Rule.{gives, stays, past}
use Rattle.packet_search.specs.Search.{Found, Searched, with_found, found_here, left_after, search_from, packets_in}
use Rattle.packet_search.proofs.Stands.{here-true, here-false, after-true, after-false}
use Rattle.search_source.specs.declared.gap.Gap.{Gap}
use Rattle.search_source.specs.Gaps.{counted, gap_before, gaps_from}
use Rattle.search_source.specs.Coming.{Coming, coming_of}

min-more : (n m k top : ℕ) → min n top ≡ min m top → min (n + k) top ≡ min (m + k) top
min-more n m k top same = omega arith

min-twice : (n top : ℕ) → min (min n top) top ≡ min n top
min-twice n top = omega arith

min-small : (n top : ℕ) → n ≤ top → min n top ≡ n
min-small n top few = omega arith

pub counted-small : (n : ℕ) → n ≤ count_end → counted n ≡ n
counted-small n few = min-small n count_end few

pub counted-twice : (n : ℕ) → counted (counted n) ≡ counted n
counted-twice n = min-twice n count_end

pub counted-more : (n m k : ℕ) → counted n ≡ counted m → counted (n + k) ≡ counted (m + k)
counted-more n m k same = min-more n m k count_end same

counted-next : (n m : ℕ) → counted n ≡ counted m → counted (suc n) ≡ counted (suc m)
counted-next n m same =
    let a : suc n ≡ n + 1 = omega arith in
    let b : m + 1 ≡ suc m = omega arith in
    ap counted a ∙ counted-more n m 1 same ∙ ap counted b

-- the gap before a packet, where there is one
pub gap-some : (number left : ℕ) → 0 < left → gap_before number left ≡ record { before = counted number; bytes = counted left } ∷ []
unfolding gap_before
gap-some number zero some = absurd (omega arith)
gap-some number (suc left) some = refl

pub gap-none : (number left : ℕ) → left ≡ 0 → gap_before number left ≡ []
unfolding gap_before
gap-none number zero none = refl
gap-none number (suc left) none = absurd (omega arith)

gap-number : (n m left : ℕ) → counted n ≡ counted m → gap_before n left ≡ gap_before m left
unfolding gap_before
gap-number n m zero same = refl
gap-number n m (suc left) same = ap (λ (b : ℕ). let g : Gap = record { before = b; bytes = counted (suc left) } in g ∷ []) same

min-none : (n top : ℕ) → 0 < top → min n top ≡ 0 → n ≡ 0
min-none n top some is = omega arith

counted-none : (n : ℕ) → counted n ≡ 0 → n ≡ 0
counted-none n is = min-none n count_end (omega arith) is

gap-left : (number l m : ℕ) → counted l ≡ counted m → gap_before number l ≡ gap_before number m
unfolding gap_before
gap-left number zero m same = sym (gap-none number m (counted-none m (sym same)))
gap-left number (suc l) zero same = absurd (let none : suc l ≡ 0 = counted-none (suc l) same in omega arith)
gap-left number (suc l) (suc m) same = ap (λ (b : ℕ). let g : Gap = record { before = counted number; bytes = b } in g ∷ []) same

-- gaps depend on numbers as they are counted alone
pub gaps-number : (n m : ℕ) (found : List Found) → counted n ≡ counted m → gaps_from n found ≡ gaps_from m found
unfolding gaps_from
gaps-number n m [] same = refl
gaps-number n m (each ∷ found) same =
    ap (λ (g : List Gap). g ++ gaps_from (suc n) found) (gap-number n m each.left_out same)
    ∙ ap (λ (g : List Gap). gap_before m each.left_out ++ g) (gaps-number (suc n) (suc m) found (counted-next n m same))

-- what is found in both is the same but for numbers that are counted alike
pub record SameFound (number : ℕ) (a b : Searched) : Type 0 where
  pub packets : packets_in a.found ≡ packets_in b.found
  pub gaps : gaps_from number a.found ≡ gaps_from number b.found
  pub long : length a.found ≡ length b.found
  pub behind : counted a.behind ≡ counted b.behind

-- one step of that
same-step : (form : Form) (near : Bool) (l m number x : ℕ) (bytes : List ℕ) (b : Bool) → gives form near (x ∷ bytes) ≡ b → counted l ≡ counted m
    → ((p q k : ℕ) → counted p ≡ counted q
    → SameFound k (search_from form (past form near (x ∷ bytes)) (stays form near (x ∷ bytes)) p bytes) (search_from form (past form near (x ∷ bytes)) (stays form near (x ∷ bytes)) q bytes))
    → SameFound number
    (with_found (found_here form near l (x ∷ bytes)) (search_from form (past form near (x ∷ bytes)) (stays form near (x ∷ bytes)) (left_after form near l (x ∷ bytes)) bytes))
    (with_found (found_here form near m (x ∷ bytes)) (search_from form (past form near (x ∷ bytes)) (stays form near (x ∷ bytes)) (left_after form near m (x ∷ bytes)) bytes))
unfolding gaps_from
same-step form near l m number x bytes false is same later =
    let X : List ℕ = x ∷ bytes in
    let n : ℕ = suc (past form near X) in
    let A : Searched = search_from form (past form near X) (stays form near X) (left_after form near l X) bytes in
    let B : Searched = search_from form (past form near X) (stays form near X) (left_after form near m X) bytes in
    let rest : SameFound number A B =
    later (left_after form near l X) (left_after form near m X) number
    (ap counted (after-false form near l X is) ∙ counted-more l m n same ∙ sym (ap counted (after-false form near m X is))) in
    subst (λ (f : List Found). SameFound number (with_found f A) (with_found (found_here form near m X) B)) (sym (here-false form near l X is))
    (subst (λ (f : List Found). SameFound number (with_found [] A) (with_found f B)) (sym (here-false form near m X is))
    (record { packets = rest.packets; gaps = rest.gaps; long = rest.long; behind = rest.behind }))
same-step form near l m number x bytes true is same later =
    let X : List ℕ = x ∷ bytes in
    let p : List ℕ = take 188 (drop (lead form) X) in
    let A : Searched = search_from form (past form near X) (stays form near X) (left_after form near l X) bytes in
    let B : Searched = search_from form (past form near X) (stays form near X) (left_after form near m X) bytes in
    let rest : SameFound (suc number) A B =
    later (left_after form near l X) (left_after form near m X) (suc number)
    (ap counted (after-true form near l X is ∙ sym (after-true form near m X is))) in
    subst (λ (f : List Found). SameFound number (with_found f A) (with_found (found_here form near m X) B)) (sym (here-true form near l X is))
    (subst (λ (f : List Found). SameFound number (with_found (record { left_out = l; packet = p } ∷ []) A) (with_found f B)) (sym (here-true form near m X is))
    (record {
      packets = ap (λ (r : List (List ℕ)). p ∷ r) rest.packets;
      gaps = ap (λ (g : List Gap). g ++ gaps_from (suc number) A.found) (gap-left number l m same) ∙ ap (λ (g : List Gap). gap_before number m ++ g) rest.gaps;
      long = ap suc rest.long;
      behind = rest.behind;
    }))

-- how many bytes were left out before counts as it is counted
pub same-left : (form : Form) (skip : ℕ) (near : Bool) (l m number : ℕ) (bytes : List ℕ) → counted l ≡ counted m
    → SameFound number (search_from form skip near l bytes) (search_from form skip near m bytes)
unfolding search_from
same-left form zero near l m number [] same = record { packets = refl; gaps = refl; long = refl; behind = same }
same-left form (suc n) near l m number [] same = record { packets = refl; gaps = refl; long = refl; behind = same }
same-left form (suc n) near l m number (x ∷ bytes) same = same-left form n near l m number bytes same
same-left form zero near l m number (x ∷ bytes) same =
    same-step form near l m number x bytes (gives form near (x ∷ bytes)) refl same
    (λ p q k alike. same-left form (past form near (x ∷ bytes)) (stays form near (x ∷ bytes)) p q k bytes alike)

-- what comes of both
pub coming-is : (b c : List ℕ) (g h : List Gap) (p q e f : ℕ) → b ≡ c → g ≡ h → p ≡ q → e ≡ f
    → (let left : Coming = record { bytes = b; gaps = g; packets = p; behind = e } in left) ≡ (let right : Coming = record { bytes = c; gaps = h; packets = q; behind = f } in right)
coming-is b c g h p q e f bytes gaps packets behind =
    ap (λ (l : List ℕ). let r : Coming = record { bytes = l; gaps = g; packets = p; behind = e } in r) bytes
    ∙ ap (λ (l : List Gap). let r : Coming = record { bytes = c; gaps = l; packets = p; behind = e } in r) gaps
    ∙ ap (λ (n : ℕ). let r : Coming = record { bytes = c; gaps = h; packets = n; behind = e } in r) packets
    ∙ ap (λ (n : ℕ). let r : Coming = record { bytes = c; gaps = h; packets = q; behind = n } in r) behind

pub coming-same : (number : ℕ) (a b : Searched) → SameFound number a b → coming_of number a ≡ coming_of number b
coming-same number a b same =
    coming-is _ _ _ _ _ _ _ _ (ap (λ (l : List (List ℕ)). concat l) same.packets) same.gaps (ap (λ (n : ℕ). counted (number + n)) same.long) same.behind
