-- Gaps that are kept: with those that come they are all, and those that come are before packets that were not given.
use Rattle.std.proofs.Common.{◌≡◌, ℕ, zero, suc, ◌+◌, ◌*◌, ◌<◌, ◌≤◌, ◌^◌, Bool, true, false, List, [], ◌∷◌, ◌++◌, Option, None, Some, length, take, drop, replicate, min, refl, ap, sym, ◌∙◌, subst, arith, append_assoc, length-append, length-drop, length-take, unwrap_or}
use Rattle.std.specs.List.{concat, AllByRecursion}
use Rattle.std.proofs.lemmas.List.{length-replicate, drop_all}
use Rattle.std.specs.Option.{option_map}
use Rattle.ts_outside.specs.Told.{before, told_length}
use Rattle.ts_outside.specs.Source.{SourceView, Origin}
use Rattle.ts_outside.specs.Count.{count_end}
use Rattle.packet_forms.specs.declared.forms.Form.{Form}
use Rattle.packet_forms.specs.Stripped.{lead, unit}
use Rattle.packet_search.specs.Search.{Found, search_from, search, packets_in}
use Rattle.packet_search.specs.Standing.{StandIn}
use Rattle.packet_search.proofs.Stands.{stand}
use Rattle.packet_search.proofs.Units.{unit-holds, whole-has}
use Rattle.search_source.specs.declared.gap.Gap.{Gap}
use Rattle.search_source.specs.Gaps.{counted, gap_before, gaps_from}
use Rattle.search_source.specs.Coming.{Coming, ungiven, found_in, coming_from}
use Rattle.search_source.specs.SearchView.{SearchView, plain}
use Rattle.search_source.specs.Kept.{beside, all_beside, with_gaps, KeptThrough, KeptTo, GapsTo, KeptOf}
use Rattle.search_source.specs.Since.{Rising}
use Rattle.search_source.proofs.Counting.{counted-small}
use Rattle.search_source.proofs.Through.{same-units}

-- gaps that come one behind another
gaps-both : (first second : List Gap) (coming : Option Coming) → with_gaps first (with_gaps second coming) ≡ with_gaps (first ++ second) coming
gaps-both first second None = refl
gaps-both first second (Some c) =
    ap (λ (g : List Gap). let d : Coming = record { bytes = c.bytes; gaps = g; packets = c.packets; behind = c.behind } in Some d) (sym (append_assoc first second c.gaps))

-- at the end the gap that was noted last is kept too
come-first : (noted : List Gap) (next : List ℕ → Coming) (left : Option (List ℕ))
    → beside (option_map (λ rest. ungiven [] noted (next rest)) left) ≡ with_gaps noted (beside (option_map next left))
come-first noted next None = refl
come-first noted next (Some rest) = refl

pub keeps-last : (gaps noted more : List Gap) (next : List ℕ → Coming) (left : Option (List ℕ)) (all : Option Coming) → more ≡ gaps ++ noted
    → all ≡ with_gaps gaps (beside (option_map (λ rest. ungiven [] noted (next rest)) left))
    → all ≡ with_gaps more (beside (option_map next left))
keeps-last gaps noted more next left all more_is kept =
    kept
    ∙ ap (with_gaps gaps) (come-first noted next left)
    ∙ gaps-both gaps noted (beside (option_map next left))
    ∙ ap (λ (g : List Gap). with_gaps g (beside (option_map next left))) (sym more_is)

-- gaps from a packet on are before it or a later one
gap-before-from : (number left_out : ℕ) (least : ℕ) → least ≤ counted number → AllByRecursion (λ (gap : Gap). least ≤ gap.before) (gap_before number left_out)
unfolding gap_before
gap-before-from number zero least few = tt
gap-before-from number (suc n) least few = (few, tt)

counted-le : (n m top : ℕ) → n ≤ m → min n top ≤ min m top
counted-le n m top few = omega arith

all-both : {T : Type 0} (P : T → Type 0) (a b : List T) → AllByRecursion P a → AllByRecursion P b → AllByRecursion P (a ++ b)
all-both P [] b first second = second
all-both P (x ∷ a) b first second = (first.0, all-both P a b first.1 second)

gaps-from-on : (number least : ℕ) (found : List Found) → least ≤ counted number → AllByRecursion (λ (gap : Gap). least ≤ gap.before) (gaps_from number found)
unfolding gaps_from
gaps-from-on number least [] few = tt
gaps-from-on number least (each ∷ found) few =
    let next : counted number ≤ counted (suc number) = counted-le number (suc number) count_end (omega arith) in
    all-both (λ (gap : Gap). least ≤ gap.before) (gap_before number each.left_out) (gaps_from (suc number) found)
    (gap-before-from number each.left_out least few)
    (gaps-from-on (suc number) least found (omega arith))

all-weaker : (P Q : Gap → Type 0) (gaps : List Gap) → ((gap : Gap) → P gap → Q gap) → AllByRecursion P gaps → AllByRecursion Q gaps
all-weaker P Q [] weaker all = tt
all-weaker P Q (gap ∷ gaps) weaker all = (weaker gap all.0, all-weaker P Q gaps weaker all.1)

-- the packets that are found have 188 bytes each, and all stand in the bytes
taken-long : (n : ℕ) (bytes : List ℕ) → n + 188 ≤ length bytes → length (take 188 (drop n bytes)) ≡ 188
taken-long n bytes has = omega (arith, length-take 188 (drop n bytes), length-drop n bytes)

stands-long : (form : Form) (found : List Found) (behind : ℕ) (bytes : List ℕ) → StandIn form found behind bytes
    → length (concat (packets_in found)) ≡ 188 * length found
stands-long form [] behind bytes stands = refl
stands-long form (each ∷ found) behind bytes stands =
    let has = whole-has form (drop each.left_out bytes) stands.0 in
    let first : length each.packet ≡ 188 = ap length stands.1 ∙ taken-long (lead form) (drop each.left_out bytes) has.0 in
    let rest : length (concat (packets_in found)) ≡ 188 * length found = stands-long form found behind (drop (each.left_out + unit form) bytes) stands.2 in
    omega (arith, length-append each.packet (concat (packets_in found)))

stands-fit : (form : Form) (found : List Found) (behind : ℕ) (bytes : List ℕ) → StandIn form found behind bytes → 188 * length found ≤ length bytes
stands-fit form [] behind bytes stands = omega arith
stands-fit form (each ∷ found) behind bytes stands =
    let has = whole-has form (drop each.left_out bytes) stands.0 in
    let unit_has : lead form + 188 ≤ unit form = unit-holds form in
    let rest : 188 * length found ≤ length (drop (each.left_out + unit form) bytes) = stands-fit form found behind (drop (each.left_out + unit form) bytes) stands.2 in
    omega (arith, length-drop each.left_out bytes, length-drop (each.left_out + unit form) bytes)

-- so many found, of all bytes of a file and of some of them
found-long : (form : Form) (near : Bool) (left : ℕ) (bytes : List ℕ)
    → length (concat (packets_in (search_from form 0 near left bytes).found)) ≡ 188 * length (search_from form 0 near left bytes).found
found-long form near left bytes =
    let searched = search_from form 0 near left bytes in
    stands-long form searched.found searched.behind (replicate left 0 ++ bytes) (stand form 0 near left (replicate left 0) bytes (length-replicate left 0))

found-fit : (form : Form) (bytes : List ℕ) → 188 * length (search_from form 0 true 0 bytes).found ≤ length bytes
found-fit form bytes =
    let searched = search_from form 0 true 0 bytes in
    stands-fit form searched.found searched.behind bytes (stand form 0 true 0 [] bytes refl)

-- numbers that are counted alike
counted-same : (n m top : ℕ) → min (0 + n) top ≡ min m top → n < top → m ≡ n
counted-same n m top same few = omega arith

-- the gaps that come are before packets of which no byte was given
number-past : (all number later given begun : ℕ) → 188 * all ≡ given + (begun + 188 * later) → number + later ≡ all → given ≤ 188 * number
number-past all number later given begun sizes same = omega arith

pub behind-from : (form : Form) (due tail : ℕ) (near : Bool) (left number : ℕ) (bytes file given : List ℕ) → length file < 2 ^ 63
    → (found_in form file).bytes ≡ given ++ (coming_from form due tail near left number bytes).bytes
    → (found_in form file).packets ≡ (coming_from form due tail near left number bytes).packets
    → AllByRecursion (λ (gap : Gap). length given ≤ 188 * gap.before) (coming_from form due tail near left number bytes).gaps
unfolding coming_from search
behind-from form due tail near left number bytes file given small bytes_are packets_are =
    let all : List Found = (search_from form 0 true 0 file).found in
    let later : List Found = (search_from form 0 near left (drop (due + tail) bytes)).found in
    let long : length (concat (packets_in all)) ≡ 188 * length all = found-long form true 0 file in
    let long_later : length (concat (packets_in later)) ≡ 188 * length later = found-long form near left (drop (due + tail) bytes) in
    let fit : 188 * length all ≤ length file = found-fit form file in
    let begun : List ℕ = take due bytes in
    let sum : length (concat (packets_in all)) ≡ length given + (length begun + length (concat (packets_in later))) =
    ap length bytes_are ∙ length-append given (begun ++ concat (packets_in later))
    ∙ ap (λ (n : ℕ). length given + n) (length-append begun (concat (packets_in later))) in
    let sizes : 188 * length all ≡ length given + (length begun + 188 * length later) = omega arith in
    let few : length all < count_end = omega arith in
    let same : number + length later ≡ length all = counted-same (length all) (number + length later) count_end packets_are few in
    let past : length given ≤ 188 * number = number-past (length all) number (length later) (length given) (length begun) sizes same in
    let known : number ≤ count_end = omega arith in
    all-weaker (λ (gap : Gap). number ≤ gap.before) (λ (gap : Gap). length given ≤ 188 * gap.before) (gaps_from number later)
    (λ gap more. omega arith)
    (gaps-from-on number number later (let e : counted number ≡ number = counted-small number known in omega arith))

-- where all bytes of packets were given, no gap comes any more
none-found : (number : ℕ) (found : List Found) → length found ≡ 0 → gaps_from number found ≡ []
unfolding gaps_from
none-found number [] none = refl
none-found number (each ∷ found) none = absurd (omega arith)

pub none-left : (form : Form) (due tail : ℕ) (near : Bool) (left number : ℕ) (bytes file given : List ℕ)
    → (found_in form file).bytes ≡ given ++ (coming_from form due tail near left number bytes).bytes → length (found_in form file).bytes ≤ length given
    → (coming_from form due tail near left number bytes).gaps ≡ []
unfolding coming_from search
none-left form due tail near left number bytes file given bytes_are all =
    let later : List Found = (search_from form 0 near left (drop (due + tail) bytes)).found in
    let long_later : length (concat (packets_in later)) ≡ 188 * length later = found-long form near left (drop (due + tail) bytes) in
    let begun : List ℕ = take due bytes in
    let sum : length (found_in form file).bytes ≡ length given + (length begun + length (concat (packets_in later))) =
    ap length bytes_are ∙ length-append given (begun ++ concat (packets_in later))
    ∙ ap (λ (n : ℕ). length given + n) (length-append begun (concat (packets_in later))) in
    none-found number later (omega (arith, sum, all, long_later))

-- gaps rise with the packets behind them
one-rising : (number least left_out : ℕ) (rest : List Gap) → least ≤ counted number → Rising least rest → Rising (counted number) rest → Rising least (gap_before number left_out ++ rest)
unfolding gap_before
one-rising number least zero rest few behind from = behind
one-rising number least (suc n) rest few behind from = (few, from)

rising-from : (number least : ℕ) (found : List Found) → least ≤ counted number → Rising least (gaps_from number found)
unfolding gaps_from
rising-from number least [] few = tt
rising-from number least (each ∷ found) few =
    let next : counted number ≤ counted (suc number) = counted-le number (suc number) count_end (omega arith) in
    one-rising number least each.left_out (gaps_from (suc number) found) few
    (rising-from (suc number) least found (omega (arith, few, next))) (rising-from (suc number) (counted number) found next)

pub gaps-rise : (form : Form) (file : List ℕ) → Rising 0 (found_in form file).gaps
gaps-rise form file = rising-from 0 0 (search form file).found (omega arith)

kept-from : (form : Form) (due tail : ℕ) (near : Bool) (left number : ℕ) (bytes file given : List ℕ) (gaps : List Gap) → length file < 2 ^ 63
    → (found_in form file).bytes ≡ given ++ (coming_from form due tail near left number bytes).bytes
    → (found_in form file).packets ≡ (coming_from form due tail near left number bytes).packets
    → (found_in form file).gaps ≡ gaps ++ (coming_from form due tail near left number bytes).gaps
    → KeptOf form file given gaps
kept-from form due tail near left number bytes file given gaps small bytes_are packets_are gaps_are =
    record {
      later = (coming_from form due tail near left number bytes).gaps;
      all_are = gaps_are;
      behind = behind-from form due tail near left number bytes file given small bytes_are packets_are;
    }

-- where the file is told
kept-told : (form : Form) (file given : List ℕ) (gaps : List Gap) (due tail : ℕ) (near : Bool) (left number : ℕ) (hand : List ℕ) (noted : List Gap) (inner : Option (List ℕ)) → length file < 2 ^ 63
    → Some (found_in form file).bytes ≡ before given (option_map (λ (c : Coming). c.bytes) (option_map (λ rest. ungiven [] noted (coming_from form due tail near left number (hand ++ rest))) inner))
    → all_beside form (Some file) ≡ with_gaps gaps (beside (option_map (λ rest. coming_from form due tail near left number (hand ++ rest)) inner))
    → KeptOf form file given gaps
kept-told form file given gaps due tail near left number hand noted None small bytes_are kept = absurd cc
kept-told form file given gaps due tail near left number hand noted (Some rest) small bytes_are kept =
    let none : Coming = record { bytes = []; gaps = []; packets = 0; behind = 0 } in
    kept-from form due tail near left number (hand ++ rest) file given gaps small
    (ap (λ (o : Option (List ℕ)). unwrap_or o []) bytes_are)
    (ap (λ (o : Option Coming). (unwrap_or o none).packets) kept)
    (ap (λ (o : Option Coming). (unwrap_or o none).gaps) kept)

pub kept-of : (form : Form) (file given : List ℕ) (gaps : List Gap) (old : SourceView) (new : SearchView) (inner : SourceView)
    → old.left ≡ Some (found_in form file).bytes → old.origin ≡ record { unit = 6 * unit form; bytes = Some file }
    → old.left ≡ before given (plain new).left → old.origin ≡ new.origin → length file < 2 ^ 63
    → KeptThrough new inner false gaps → KeptOf form file given gaps
kept-of form file given gaps old new inner left_is origin_is moved same small kept =
    let through = kept.through in
    let units : 6 * unit form ≡ 6 * unit through.form = sym (ap (λ (o : Origin). o.unit) origin_is) ∙ ap (λ (o : Origin). o.unit) same ∙ through.unit_is in
    let told : new.origin.bytes ≡ Some file = sym (ap (λ (o : Origin). o.bytes) same) ∙ ap (λ (o : Origin). o.bytes) origin_is in
    let form_is : through.form ≡ form = sym (same-units form through.form units) in
    kept-told form file given gaps through.due through.tail through.near through.left through.number through.hand through.noted inner.left small
    (sym left_is ∙ moved ∙ ap (λ (o : Option Coming). before given (option_map (λ (c : Coming). c.bytes) o)) through.coming
    ∙ ap (λ (f : Form). before given (option_map (λ (c : Coming). c.bytes) (option_map (λ rest. ungiven [] through.noted (coming_from f through.due through.tail through.near through.left through.number (through.hand ++ rest))) inner.left))) form_is)
    (subst (λ (f : Form). all_beside f (Some file) ≡ with_gaps gaps (beside (option_map (λ rest. coming_from f through.due through.tail through.near through.left through.number (through.hand ++ rest)) inner.left))) form_is
    (ap (all_beside through.form) (sym told) ∙ kept.kept refl))

-- how far the search came in a file that is told
gaps-from-here : (form : Form) (number : ℕ) (near : Bool) (left : ℕ) (here file : List ℕ) (gaps : List Gap) → length file < 2 ^ 63
    → (found_in form file).packets ≡ counted (number + length (search_from form 0 near left here).found)
    → (found_in form file).gaps ≡ gaps ++ gaps_from number (search_from form 0 near left here).found
    → AllByRecursion (λ (gap : Gap). number ≤ gap.before) (gaps_from number (search_from form 0 near left here).found)
unfolding search
gaps-from-here form number near left here file gaps small packets_are gaps_are =
    let all : List Found = (search_from form 0 true 0 file).found in
    let later : List Found = (search_from form 0 near left here).found in
    let fit : 188 * length all ≤ length file = found-fit form file in
    let few : length all < count_end = omega arith in
    let same : number + length later ≡ length all = counted-same (length all) (number + length later) count_end packets_are few in
    let known : number ≤ count_end = omega arith in
    gaps-from-on number number later (let e : counted number ≡ number = counted-small number known in omega arith)

-- no byte is in hand or to come
nothing-here : (due tail : ℕ) (hand rest : List ℕ) → hand ≡ [] → length rest ≡ 0 → drop (due + tail) (hand ++ rest) ≡ []
nothing-here due tail hand [] none short = ap (λ (h : List ℕ). drop (due + tail) (h ++ [])) none ∙ drop_all (due + tail) [] (omega arith)
nothing-here due tail hand (byte ∷ rest) none short = absurd (omega arith)

gaps-told : (form : Form) (due tail : ℕ) (near : Bool) (left number : ℕ) (hand file : List ℕ) (gaps : List Gap) (behind : ℕ) (over : Bool) (inner : Option (List ℕ)) → length file < 2 ^ 63
    → counted left ≡ behind → (over ≡ true → (hand ≡ []) × (told_length inner ≡ 0))
    → all_beside form (Some file) ≡ with_gaps gaps (beside (option_map (λ rest. coming_from form due tail near left number (hand ++ rest)) inner))
    → GapsTo form file gaps number behind over
unfolding coming_from search_from gaps_from
gaps-told form due tail near left number hand file gaps behind over None small behind_is over_is kept = absurd cc
gaps-told form due tail near left number hand file gaps behind over (Some rest) small behind_is over_is kept =
    let none : Coming = record { bytes = []; gaps = []; packets = 0; behind = 0 } in
    let here : List ℕ = drop (due + tail) (hand ++ rest) in
    let packets_are = ap (λ (o : Option Coming). (unwrap_or o none).packets) kept in
    let gaps_are = ap (λ (o : Option Coming). (unwrap_or o none).gaps) kept in
    let behind_of : (found_in form file).behind ≡ counted (search_from form 0 near left here).behind = ap (λ (o : Option Coming). (unwrap_or o none).behind) kept in
    record {
      later = gaps_from number (search_from form 0 near left here).found;
      all_are = gaps_are;
      not_begun = gaps-from-here form number near left here file gaps small packets_are gaps_are;
      over_is = λ is.
          let nothing : here ≡ [] = nothing-here due tail hand rest (over_is is).0 (over_is is).1 in (
            ap (λ (h : List ℕ). gaps_from number (search_from form 0 near left h).found) nothing,
            behind_of ∙ ap (λ (h : List ℕ). counted (search_from form 0 near left h).behind) nothing ∙ behind_is,
          );
    }

-- the same of the end alone, whichever gaps were kept
pub behind-told : (form : Form) (due tail : ℕ) (near : Bool) (left number : ℕ) (noted : List Gap) (hand file : List ℕ) (behind : ℕ) (inner : Option (List ℕ))
    → counted left ≡ behind → (hand ≡ []) × (told_length inner ≡ 0)
    → Some (found_in form file).behind ≡ option_map (λ (c : Coming). c.behind) (option_map (λ rest. ungiven [] noted (coming_from form due tail near left number (hand ++ rest))) inner)
    → (found_in form file).behind ≡ behind
unfolding coming_from search_from
behind-told form due tail near left number noted hand file behind None behind_is over same = absurd cc
behind-told form due tail near left number noted hand file behind (Some rest) behind_is over same =
    let nothing : drop (due + tail) (hand ++ rest) ≡ [] = nothing-here due tail hand rest over.0 over.1 in
    ap (λ (o : Option ℕ). unwrap_or o 0) same
    ∙ ap (λ (h : List ℕ). counted (search_from form 0 near left h).behind) nothing ∙ behind_is

pub gaps-to : (form : Form) (file : List ℕ) (gaps : List Gap) (number behind : ℕ) (over : Bool) (new : SearchView) (inner : SourceView)
    → new.origin ≡ record { unit = 6 * unit form; bytes = Some file } → length file < 2 ^ 63 → KeptTo new inner false gaps number behind over → GapsTo form file gaps number behind over
gaps-to form file gaps number behind over new inner origin_is small to =
    let through = to.kept.through in
    let told : new.origin.bytes ≡ Some file = ap (λ (o : Origin). o.bytes) origin_is in
    let form_is : through.form ≡ form = sym (same-units form through.form (sym (ap (λ (o : Origin). o.unit) origin_is) ∙ through.unit_is)) in
    subst (λ (n : ℕ). GapsTo form file gaps n behind over) to.number_is
    (gaps-told form through.due through.tail through.near through.left through.number through.hand file gaps behind over inner.left small to.behind_is to.over_is
    (subst (λ (f : Form). all_beside f (Some file) ≡ with_gaps gaps (beside (option_map (λ rest. coming_from f through.due through.tail through.near through.left through.number (through.hand ++ rest)) inner.left))) form_is
    (ap (all_beside through.form) (sym told) ∙ to.kept.kept refl)))
