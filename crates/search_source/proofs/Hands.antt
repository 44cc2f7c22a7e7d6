-- Bytes in hand, and what comes of them.
use Rattle.std.proofs.Common.{inl, inr, ◌≡◌, ℕ, suc, ◌+◌, ◌-◌, ◌*◌, ◌<◌, ◌≤◌, Bool, zero, true, false, nat_lt, if◌then◌else◌, Option, List, [], ◌∷◌, ◌++◌, length, take, drop, min, option_to_list, refl, ap, sym, ◌∙◌, arith, append_assoc, append-nil, length-append, length-drop, length-take-le, take-add}
use Rattle.std.specs.List.{concat}
use Rattle.std.proofs.lemmas.Bool.{ltb-false}
use Rattle.std.proofs.lemmas.List.{drop-take, drop-drop, drop-append-le, take-append-le, drop_min, take_at}
use Rattle.ts_outside.specs.Count.{count_end, raised}
use Rattle.packet_forms.specs.declared.forms.Form.{Form}
use Rattle.packet_forms.specs.declared.forms.Form.TheVariants.{Ts, M2ts, Rs204}
use Rattle.packet_forms.specs.Stripped.{lead, unit}
use Rattle.packet_search.specs.Rule.{gives, in_row}
use Rattle.packet_search.specs.Search.{Searched, with_found, search_from, packets_in}
use Rattle.packet_search.specs.Settled.{IsEnough}
use Rattle.packet_search.proofs.Units.{unit-holds, gives-more, gives-whole, whole-has, row-begins, row-more}
use Rattle.packet_search.proofs.Runs.{gives-row, fewer, row-long}
use Rattle.packet_search.proofs.Steps.{step-given}
use Rattle.search_source.specs.declared.gap.Gap.{Gap}
use Rattle.search_source.specs.declared.finder.Finder.{Finder}
use Rattle.search_source.specs.Gaps.{counted, gap_before, gaps_from}
use Rattle.search_source.specs.Coming.{Coming, ungiven, coming_of, coming_from, coming, hand_of}
use Rattle.search_source.proofs.Counting.{counted-twice, counted-more, gap-none, gaps-number, same-left, coming-is, coming-same}

-- without so many at the front
pub hand-less : (from have count : ℕ) (items : List ℕ) → count ≤ have → take (have - count) (drop (from + count) items) ≡ drop count (take have (drop from items))
hand-less from have count items few =
    let sum : count + (have - count) ≡ have = omega arith in
    ap (take (have - count)) (sym (drop-drop count from items))
    ∙ sym (drop-take count (have - count) (drop from items))
    ∙ ap (λ (n : ℕ). drop count (take n (drop from items))) sum

-- how many they are
pub hand-long : (from have size : ℕ) (items : List ℕ) → length items ≡ size → from + have ≤ size → length (take have (drop from items)) ≡ have
hand-long from have size items long fits = length-take-le have (drop from items) (omega (arith, length-drop from items))

pub hand-has : (finder : Finder) → length (hand_of finder) ≡ finder.have
hand-has finder = hand-long finder.from finder.have finder.room.len finder.room.items (sym finder.room.ok.0) finder.within

-- what comes of a finder, told by its parts
pub coming-new : (new : Finder) (form : Form) (due tail : ℕ) (near : Bool) (left number : ℕ) (noted : Option Gap) (hand more : List ℕ)
    → new.form ≡ form → new.due ≡ due → new.tail ≡ tail → new.near ≡ near → new.left ≡ left → new.number ≡ number → new.noted ≡ noted → hand_of new ≡ hand
    → ungiven [] (option_to_list noted) (coming_from form due tail near left number (hand ++ more)) ≡ coming new more
coming-new new form due tail near left number noted hand more f d t n l m o h =
    ap (λ (x : Option Gap). ungiven [] (option_to_list x) (coming_from form due tail near left number (hand ++ more))) (sym o)
    ∙ ap (λ (x : Form). ungiven [] (option_to_list new.noted) (coming_from x due tail near left number (hand ++ more))) (sym f)
    ∙ ap (λ (x : ℕ). ungiven [] (option_to_list new.noted) (coming_from new.form x tail near left number (hand ++ more))) (sym d)
    ∙ ap (λ (x : ℕ). ungiven [] (option_to_list new.noted) (coming_from new.form new.due x near left number (hand ++ more))) (sym t)
    ∙ ap (λ (x : Bool). ungiven [] (option_to_list new.noted) (coming_from new.form new.due new.tail x left number (hand ++ more))) (sym n)
    ∙ ap (λ (x : ℕ). ungiven [] (option_to_list new.noted) (coming_from new.form new.due new.tail new.near x number (hand ++ more))) (sym l)
    ∙ ap (λ (x : ℕ). ungiven [] (option_to_list new.noted) (coming_from new.form new.due new.tail new.near new.left x (hand ++ more))) (sym m)
    ∙ ap (λ (x : List ℕ). ungiven [] (option_to_list new.noted) (coming_from new.form new.due new.tail new.near new.left new.number (x ++ more))) (sym h)

-- where no packet is begun
pub none-begun : (form : Form) (due tail : ℕ) (near : Bool) (left number : ℕ) (bytes : List ℕ) → due ≡ 0 → tail ≡ 0
    → coming_from form due tail near left number bytes ≡ coming_of number (search_from form 0 near left bytes)
unfolding coming_from
none-begun form due tail near left number bytes none short =
    ap (λ (d : ℕ). ungiven (take d bytes) [] (coming_of number (search_from form 0 near left (drop (d + tail) bytes)))) none
    ∙ ap (λ (t : ℕ). ungiven [] [] (coming_of number (search_from form 0 near left (drop (0 + t) bytes)))) short

-- the tail is left out
pub tail-left : (form : Form) (due tail : ℕ) (near : Bool) (left number : ℕ) (hand more : List ℕ) → due ≡ 0 → tail ≤ length hand
    → coming_from form due tail near left number (hand ++ more) ≡ coming_from form 0 0 near left number (drop tail hand ++ more)
unfolding coming_from
tail-left form due tail near left number hand more none fits =
    let same : 0 + tail ≡ tail = omega arith in
    ap (λ (d : ℕ). ungiven (take d (hand ++ more)) [] (coming_of number (search_from form 0 near left (drop (d + tail) (hand ++ more))))) none
    ∙ ap (λ (n : ℕ). ungiven [] [] (coming_of number (search_from form 0 near left (drop n (hand ++ more))))) same
    ∙ ap (λ (l : List ℕ). ungiven [] [] (coming_of number (search_from form 0 near left l))) (drop-append-le tail hand more fits)

-- bytes are left out, and counted
pub seek-left : (form : Form) (due tail : ℕ) (near beside : Bool) (left number out total : ℕ) (hand rest more : List ℕ) → due ≡ 0 → tail ≡ 0
    → search_from form 0 near left (hand ++ more) ≡ search_from form 0 beside (left + out) (rest ++ more) → total ≡ counted (left + out)
    → coming_from form due tail near left number (hand ++ more) ≡ coming_from form 0 0 beside total number (rest ++ more)
seek-left form due tail near beside left number out total hand rest more none short passed total_is =
    let alike : counted (left + out) ≡ counted total = sym (ap counted total_is ∙ counted-twice (left + out)) in
    let zero_is : 0 ≡ 0 = omega arith in
    none-begun form due tail near left number (hand ++ more) none short
    ∙ ap (coming_of number) passed
    ∙ coming-same number _ _ (same-left form 0 beside (left + out) total number (rest ++ more) alike)
    ∙ sym (none-begun form 0 0 beside total number (rest ++ more) zero_is zero_is)

-- a packet is begun that is at the front
enough-gives : (form : Form) (near : Bool) (hand more : List ℕ) → gives form near hand ≡ true → IsEnough form (length hand) more → gives form near (hand ++ more) ≡ true
enough-gives form near hand more is (inl six) = gives-more form near hand more six ∙ is
enough-gives form near hand more is (inr end) = ap (λ (l : List ℕ). gives form near (hand ++ l)) end ∙ ap (gives form near) (append-nil hand) ∙ is

enough-drops : (form : Form) (hand more : List ℕ) → IsEnough form (length hand) more → drop (min (unit form) (length hand)) (hand ++ more) ≡ drop (unit form) (hand ++ more)
enough-drops form hand more (inl six) =
    let all : min (unit form) (length hand) ≡ unit form = omega arith in
    ap (λ (n : ℕ). drop n (hand ++ more)) all
enough-drops form hand more (inr end) =
    let none : hand ++ more ≡ hand = ap (λ (l : List ℕ). hand ++ l) end ∙ append-nil hand in
    ap (drop (min (unit form) (length hand))) none ∙ drop_min (unit form) hand ∙ ap (drop (unit form)) (sym none)

sum-next : (number next k top : ℕ) → min next top ≡ min (suc number) top → min (number + suc k) top ≡ min (next + k) top
sum-next number next k top same = omega arith

-- what comes of a packet and of those behind it, the first with its gap
begun-of : (number next left : ℕ) (packet : List ℕ) (rest : Searched) → counted next ≡ counted (suc number)
    → coming_of number (with_found (record { left_out = left; packet = packet } ∷ []) rest)
    ≡ ungiven [] (gap_before number left) (ungiven packet [] (coming_of next rest))
unfolding gaps_from
begun-of number next left packet rest same =
    coming-is (packet ++ concat (packets_in rest.found)) (packet ++ concat (packets_in rest.found))
    (gap_before number left ++ gaps_from (suc number) rest.found) (gap_before number left ++ gaps_from next rest.found)
    (counted (number + suc (length rest.found))) (counted (next + length rest.found))
    (counted rest.behind) (counted rest.behind)
    refl
    (ap (λ (g : List Gap). gap_before number left ++ g) (gaps-number (suc number) next rest.found (sym same)))
    (sum-next number next (length rest.found) count_end same)
    refl

-- the packet at the front is begun, and its gap noted
pub take-left : (form : Form) (due tail : ℕ) (near : Bool) (left number next now size : ℕ) (hand more : List ℕ) → due ≡ 0 → tail ≡ 0
    → gives form near hand ≡ true → IsEnough form (length hand) more → size ≡ min (unit form) (length hand) → now ≡ size - lead form - 188
    → counted next ≡ counted (suc number)
    → coming_from form due tail near left number (hand ++ more)
    ≡ ungiven [] (gap_before number left) (coming_from form 188 now true 0 next (drop (lead form) hand ++ more))
unfolding coming_from
take-left form due tail near left number next now size hand more none short is enough size_is now_is same =
    let b : List ℕ = hand ++ more in
    let l : ℕ = lead form in
    let has = whole-has form hand (gives-whole form near hand is) in
    let long : l + 188 ≤ length hand = has.0 in
    let some : 0 < length b = omega (arith, length-append hand more) in
    let few : l ≤ length hand = omega arith in
    let there : drop l hand ++ more ≡ drop l b = sym (drop-append-le l hand more few) in
    let sum : l + (188 + now) ≡ min (unit form) (length hand) = omega (arith, unit-holds form) in
    let rest : drop (188 + now) (drop l b) ≡ drop (unit form) b =
    drop-drop (188 + now) l b ∙ ap (λ (n : ℕ). drop n b) sum ∙ enough-drops form hand more enough in
    none-begun form due tail near left number b none short
    ∙ ap (coming_of number) (step-given form near left b some (enough-gives form near hand more is enough))
    ∙ begun-of number next left (take 188 (drop l b)) (search_from form 0 true 0 (drop (unit form) b)) same
    ∙ ap (λ (m : List ℕ). ungiven [] (gap_before number left) (ungiven (take 188 (drop l b)) [] (coming_of next (search_from form 0 true 0 m)))) (sym rest)
    ∙ ap (λ (m : List ℕ). ungiven [] (gap_before number left) (ungiven (take 188 m) [] (coming_of next (search_from form 0 true 0 (drop (188 + now) m))))) (sym there)

-- what was noted goes before
pub noted-more : (first second : List Gap) (rest : Coming) → ungiven [] first (ungiven [] second rest) ≡ ungiven [] (first ++ second) rest
noted-more first second rest =
    ap (λ (g : List Gap). let c : Coming = record { bytes = rest.bytes; gaps = g; packets = rest.packets; behind = rest.behind } in c) (sym (append_assoc first second rest.gaps))

-- bytes of a packet are given
pub give-left : (form : Form) (due tail n : ℕ) (near : Bool) (left number : ℕ) (hand more : List ℕ) → n ≤ due → n ≤ length hand
    → coming_from form due tail near left number (hand ++ more) ≡ ungiven (take n hand) [] (coming_from form (due - n) tail near left number (drop n hand ++ more))
unfolding coming_from
give-left form due tail n near left number hand more few fits =
    let b : List ℕ = hand ++ more in
    let Y : List ℕ = drop n hand ++ more in
    let sum : n + (due - n) ≡ due = omega arith in
    let all : n + (due - n + tail) ≡ due + tail = omega arith in
    let front : take due b ≡ take n hand ++ take (due - n) Y =
    ap (λ (k : ℕ). take k b) (sym sum) ∙ take-add n (due - n) b
    ∙ ap (λ (m : List ℕ). m ++ take (due - n) (drop n b)) (take-append-le n hand more fits)
    ∙ ap (λ (m : List ℕ). take n hand ++ take (due - n) m) (drop-append-le n hand more fits) in
    let behind : drop (due + tail) b ≡ drop (due - n + tail) Y =
    ap (λ (k : ℕ). drop k b) (sym all) ∙ sym (drop-drop (due - n + tail) n b) ∙ ap (drop (due - n + tail)) (drop-append-le n hand more fits) in
    let C : Coming = coming_of number (search_from form 0 near left (drop (due - n + tail) Y)) in
    ap (λ (m : List ℕ). ungiven (take due b) [] (coming_of number (search_from form 0 near left m))) behind
    ∙ ap (λ (m : List ℕ). ungiven m [] C) front
    ∙ ap (λ (l : List ℕ). let c : Coming = record { bytes = l; gaps = C.gaps; packets = C.packets; behind = C.behind } in c) (append_assoc (take n hand) (take (due - n) Y) C.bytes)

-- what is in the caller's places
pub placed : (n : ℕ) (copied rest hand source : List ℕ) → copied ≡ source → source ≡ take n hand → n ≤ length hand → take n (copied ++ rest) ≡ take n hand
placed n copied rest hand source copied_is source_is few =
    let is : copied ≡ take n hand = copied_is ∙ source_is in
    let long : length copied ≡ n = ap (λ (l : List ℕ). length l) is ∙ length-take-le n hand few in
    take_at copied rest n long ∙ is

-- the number of the next packet, as it is counted
min-raised : (n top : ℕ) (b : Bool) → nat_lt n top ≡ b → min (if b then n + 1 else n) top ≡ min (suc n) top
min-raised n top true is = (let e : min (n + 1) top ≡ min (suc n) top = omega arith in e)
min-raised n top false is =
    let all : top ≤ n = ltb-false n top is in
    omega arith

pub counted-raised : (n : ℕ) → counted (raised n) ≡ counted (suc n)
counted-raised n = min-raised n count_end (nat_lt n count_end) refl

-- ---- packets in a row, with no byte between them

-- a unit is its packet alone
plain-lead : (form : Form) → unit form ≡ 188 → lead form ≡ 0
plain-lead Ts plain = refl
plain-lead M2ts plain = absurd (omega arith)
plain-lead Rs204 plain = refl

-- they are all in hand, with the four units behind them
row-size : (form : Form) (count : ℕ) (hand : List ℕ) → unit form ≡ 188 → in_row form (count + 4) hand ≡ true → (count + 4) * 188 ≤ length hand
row-size form count hand plain row =
    let u : ℕ = unit form in
    let more : count + 4 ≡ suc (count + 3) = omega arith in
    let long : (count + 3) * u + (lead form + 188) ≤ length hand = row-long form (count + 3) hand (ap (λ (k : ℕ). in_row form k hand) (sym more) ∙ row) in
    let wide : (count + 3) * u ≡ (count + 3) * 188 = ap (λ (k : ℕ). (count + 3) * k) plain in
    omega arith

pub row-fits : (form : Form) (count : ℕ) (hand : List ℕ) → unit form ≡ 188 → in_row form (count + 4) hand ≡ true → count * 188 ≤ length hand
row-fits form count hand plain row = omega (arith, row-size form count hand plain row)

-- what comes depends on the number as it is counted alone
coming-number : (number next : ℕ) (found : Searched) → counted number ≡ counted next → coming_of number found ≡ coming_of next found
coming-number number next found same =
    coming-is _ _ _ _ _ _ _ _ refl (gaps-number number next found.found same) (counted-more number next (length found.found) same) refl

-- bytes that are given in two parts
given-more : (first second : List ℕ) (rest : Coming) → ungiven first [] (ungiven second [] rest) ≡ ungiven (first ++ second) [] rest
given-more first second rest =
    ap (λ (l : List ℕ). let c : Coming = record { bytes = l; gaps = rest.gaps; packets = rest.packets; behind = rest.behind } in c) (sym (append_assoc first second rest.bytes))

-- what comes of them
row-comes : (form : Form) (count number next : ℕ) (bytes : List ℕ) → unit form ≡ 188 → in_row form (count + 4) bytes ≡ true → counted next ≡ counted (number + count)
    → coming_of number (search_from form 0 true 0 bytes) ≡ ungiven (take (count * 188) bytes) [] (coming_of next (search_from form 0 true 0 (drop (count * 188) bytes)))
row-comes form zero number next bytes plain row same =
    let none : number + 0 ≡ number = omega arith in
    coming-number number next (search_from form 0 true 0 bytes) (sym (same ∙ ap counted none))
row-comes form (suc count) number next bytes plain row same =
    let more : suc count + 4 ≡ suc (count + 4) = omega arith in
    let all : in_row form (suc (count + 4)) bytes ≡ true = ap (λ (k : ℕ). in_row form k bytes) (sym more) ∙ row in
    let five : in_row form 5 bytes ≡ true = fewer form 5 (suc count + 4) bytes (omega arith) row in
    let is : gives form true bytes ≡ true = gives-row form true bytes five in
    let has = whole-has form bytes (gives-whole form true bytes is) in
    let long : lead form + 188 ≤ length bytes = has.0 in
    let some : 0 < length bytes = omega arith in
    let packet : List ℕ = take 188 bytes in
    let rest : List ℕ = drop 188 bytes in
    let behind : in_row form (count + 4) rest ≡ true = ap (λ (n : ℕ). in_row form (count + 4) (drop n bytes)) (sym plain) ∙ (row-begins form (count + 4) bytes all).1 in
    let sum : suc number + count ≡ number + suc count = omega arith in
    let size : 188 + count * 188 ≡ suc count * 188 = omega arith in
    let later : Searched = search_from form 0 true 0 rest in
    let end : Coming = coming_of next (search_from form 0 true 0 (drop (count * 188) rest)) in
    ap (coming_of number)
    (step-given form true 0 bytes some is
    ∙ ap (λ (n : ℕ). with_found (record { left_out = 0; packet = take 188 (drop n bytes) } ∷ []) (search_from form 0 true 0 (drop (unit form) bytes))) (plain-lead form plain)
    ∙ ap (λ (n : ℕ). with_found (record { left_out = 0; packet = packet } ∷ []) (search_from form 0 true 0 (drop n bytes))) plain)
    ∙ begun-of number (suc number) 0 packet later refl
    ∙ ap (λ (g : List Gap). ungiven [] g (ungiven packet [] (coming_of (suc number) later))) (gap-none number 0 refl)
    ∙ ap (ungiven packet []) (row-comes form count (suc number) next rest plain behind (same ∙ ap counted (sym sum)))
    ∙ given-more packet (take (count * 188) rest) end
    ∙ ap (λ (l : List ℕ). ungiven l [] end) (sym (take-add 188 (count * 188) bytes) ∙ ap (λ (n : ℕ). take n bytes) size)
    ∙ ap (λ (l : List ℕ). ungiven (take (suc count * 188) bytes) [] (coming_of next (search_from form 0 true 0 l))) (drop-drop (count * 188) 188 bytes ∙ ap (λ (n : ℕ). drop n bytes) size)

-- they are given at once
pub row-left : (form : Form) (due tail : ℕ) (near : Bool) (left number next count : ℕ) (hand more : List ℕ) → due ≡ 0 → tail ≡ 0 → near ≡ true → left ≡ 0
    → unit form ≡ 188 → in_row form (count + 4) hand ≡ true → counted next ≡ counted (number + count)
    → coming_from form due tail near left number (hand ++ more) ≡ ungiven (take (count * 188) hand) [] (coming_from form due tail near left next (drop (count * 188) hand ++ more))
row-left form due tail near left number next count hand more none short is_near nothing plain row same =
    let b : List ℕ = hand ++ more in
    let n : ℕ = count * 188 in
    let size : (count + 4) * 188 ≤ length hand = row-size form count hand plain row in
    let fits : n ≤ length hand = omega arith in
    let wide : (count + 4) * unit form ≡ (count + 4) * 188 = ap (λ (k : ℕ). (count + 4) * k) plain in
    let long : in_row form (count + 4) b ≡ true = row-more form (count + 4) hand more (omega arith) ∙ row in
    none-begun form due tail near left number b none short
    ∙ ap (λ (k : Bool). coming_of number (search_from form 0 k left b)) is_near
    ∙ ap (λ (k : ℕ). coming_of number (search_from form 0 true k b)) nothing
    ∙ row-comes form count number next b plain long same
    ∙ ap (λ (l : List ℕ). ungiven l [] (coming_of next (search_from form 0 true 0 (drop n b)))) (take-append-le n hand more fits)
    ∙ ap (λ (l : List ℕ). ungiven (take n hand) [] (coming_of next (search_from form 0 true 0 l))) (drop-append-le n hand more fits)
    ∙ ap (λ (k : ℕ). ungiven (take n hand) [] (coming_of next (search_from form 0 true k (drop n hand ++ more)))) (sym nothing)
    ∙ ap (λ (k : Bool). ungiven (take n hand) [] (coming_of next (search_from form 0 k left (drop n hand ++ more)))) (sym is_near)
    ∙ ap (ungiven (take n hand) []) (sym (none-begun form due tail near left next (drop n hand ++ more) none short))
