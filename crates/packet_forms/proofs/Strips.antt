-- What is left of bytes without those before and after packets: of two parts, within a packet, between packets.
use Rattle.std.proofs.Common.{◌⊎◌, inl, inr, ◌≡◌, ℕ, suc, ◌+◌, ◌-◌, ◌%◌, ◌<◌, ◌≤◌, Bool, true, false, if◌then◌else◌, ◌&&◌, nat_le, nat_lt, List, [], ◌∷◌, ◌++◌, length, take, drop, min, refl, ap, sym, ◌∙◌, subst, arith, append_assoc, append-nil, length-append, length-take-le, length-drop, length-take, replicate, take-add}
use Rattle.std.proofs.lemmas.Bool.{cases_lt}
use Rattle.std.proofs.lemmas.Bool.Decides.{nat_tests}
use Rattle.std.specs.List.{copy_within}
use Rattle.std.proofs.Math.Seq.{paste}
use Rattle.std.proofs.lemmas.List.Edits.{take-paste, drop-paste}
use Rattle.std.proofs.lemmas.List.{take-append-drop, take_at, drop-drop, length-replicate, nil_from_length}
use Rattle.packet_forms.specs.declared.forms.Form.{Form}
use Rattle.packet_forms.specs.declared.forms.Form.TheVariants.{Ts, M2ts, Rs204}
use Rattle.packet_forms.specs.Stripped.{lead, unit, is_of_packet, byte_of_packet, stripped_from, stripped, packet_bytes, to_packet, in_packet}

-- of two parts
pub stripped-append : (form : Form) (i : ℕ) (a b : List ℕ) → stripped_from form i (a ++ b) ≡ stripped_from form i a ++ stripped_from form (i + length a) b
unfolding stripped_from
stripped-append form i [] b = ap (λ (n : ℕ). stripped_from form n b) (omega arith)
stripped-append form i (x ∷ a) b =
    let next : suc i + length a ≡ i + length (x ∷ a) = omega arith in
    ap (λ (l : List ℕ). byte_of_packet form i x ++ l)
    (stripped-append form (suc i) a b ∙ ap (λ (n : ℕ). stripped_from form (suc i) a ++ stripped_from form n b) next)
    ∙ sym (append_assoc (byte_of_packet form i x) (stripped_from form (suc i) a) (stripped_from form (i + length (x ∷ a)) b))

-- of two parts of a file
pub stripped-parts : (form : Form) (a b : List ℕ) → stripped form (a ++ b) ≡ stripped form a ++ stripped_from form (length a) b
stripped-parts form a b = stripped-append form 0 a b ∙ ap (λ (n : ℕ). stripped form a ++ stripped_from form n b) (omega arith)

-- the place within a unit decides
same-place : (form : Form) (i j : ℕ) → i % unit form ≡ j % unit form → suc i % unit form ≡ suc j % unit form
same-place Ts i j same = omega arith
same-place M2ts i j same = omega arith
same-place Rs204 i j same = omega arith

pub stripped-place : (form : Form) (i j : ℕ) (bytes : List ℕ) → i % unit form ≡ j % unit form → stripped_from form i bytes ≡ stripped_from form j bytes
unfolding stripped_from
stripped-place form i j [] same = refl
stripped-place form i j (x ∷ bytes) same =
    let head : byte_of_packet form i x ≡ byte_of_packet form j x =
    ap (λ (p : ℕ). if nat_le (lead form) p && nat_lt p (lead form + 188) then x ∷ [] else []) same in
    ap (λ (l : List ℕ). l ++ stripped_from form (suc i) bytes) head
    ∙ ap (λ (l : List ℕ). byte_of_packet form j x ++ l) (stripped-place form (suc i) (suc j) bytes (same-place form i j same))

-- before the last byte of a gap the gap continues
gap-next : (form : Form) (i : ℕ) → 0 < to_packet form (i % unit form) → to_packet form (suc i % unit form) + 1 ≡ to_packet form (i % unit form)
gap-next Ts i some = grind (arith, nat_tests)
gap-next M2ts i some = grind (arith, nat_tests)
gap-next Rs204 i some = grind (arith, nat_tests)

gap-out : (form : Form) (i : ℕ) → 0 < to_packet form (i % unit form) → is_of_packet form i ≡ false
gap-out Ts i some = grind (arith, nat_tests)
gap-out M2ts i some = grind (arith, nat_tests)
gap-out Rs204 i some = grind (arith, nat_tests)

-- bytes between packets are left out
pub stripped-between : (form : Form) (i : ℕ) (bytes : List ℕ) → length bytes ≤ to_packet form (i % unit form) → stripped_from form i bytes ≡ []
unfolding stripped_from
stripped-between form i [] few = refl
stripped-between form i (x ∷ bytes) few =
    let some : 0 < to_packet form (i % unit form) = omega arith in
    let next : to_packet form (suc i % unit form) + 1 ≡ to_packet form (i % unit form) = gap-next form i some in
    ap (λ (kept : Bool). (if kept then x ∷ [] else []) ++ stripped_from form (suc i) bytes) (gap-out form i some)
    ∙ stripped-between form (suc i) bytes (omega arith)

-- before the last byte of a packet the packet continues
packet-next : (form : Form) (i : ℕ) → 1 < in_packet form (i % unit form) → in_packet form (suc i % unit form) + 1 ≡ in_packet form (i % unit form)
packet-next Ts i some = grind (arith, nat_tests)
packet-next M2ts i some = grind (arith, nat_tests)
packet-next Rs204 i some = grind (arith, nat_tests)

packet-in : (form : Form) (i : ℕ) → 0 < in_packet form (i % unit form) → is_of_packet form i ≡ true
packet-in Ts i some = grind (arith, nat_tests)
packet-in M2ts i some = grind (arith, nat_tests)
packet-in Rs204 i some = grind (arith, nat_tests)

-- bytes of one packet stay
pub stripped-within : (form : Form) (i : ℕ) (bytes : List ℕ) → length bytes ≤ in_packet form (i % unit form) → stripped_from form i bytes ≡ bytes
unfolding stripped_from
stripped-within form i [] few = refl
stripped-within form i (x ∷ []) few =
    let some : 0 < in_packet form (i % unit form) = omega arith in
    ap (λ (kept : Bool). (if kept then x ∷ [] else []) ++ []) (packet-in form i some)
stripped-within form i (x ∷ y ∷ bytes) few =
    let more : 1 < in_packet form (i % unit form) = omega arith in
    let some : 0 < in_packet form (i % unit form) = omega arith in
    let next : in_packet form (suc i % unit form) + 1 ≡ in_packet form (i % unit form) = packet-next form i more in
    ap (λ (kept : Bool). (if kept then x ∷ [] else []) ++ stripped_from form (suc i) (y ∷ bytes)) (packet-in form i some)
    ∙ ap (λ (l : List ℕ). x ∷ l) (stripped-within form (suc i) (y ∷ bytes) (omega arith))

-- bytes read so far, those up to the next packet, and some of this packet
pub stripped-more : (form : Form) (at from before count : ℕ) (all : List ℕ) → from + before + count ≤ length all
    → before ≤ to_packet form ((at + from) % unit form) → count ≤ in_packet form ((at + (from + before)) % unit form)
    → stripped_from form at (take (from + before + count) all) ≡ stripped_from form at (take from all) ++ take count (drop (from + before) all)
stripped-more form at from before count all fits gap some =
    let A : List ℕ = take from all in
    let B : List ℕ = take before (drop from all) in
    let C : List ℕ = take count (drop (from + before) all) in
    let long_a : length A ≡ from = length-take-le from all (omega arith) in
    let long_b : length B ≡ before = length-take-le before (drop from all) (omega (arith, length-drop from all)) in
    let long_c : length C ≡ count = length-take-le count (drop (from + before) all) (omega (arith, length-drop (from + before) all)) in
    let parts : take (from + before + count) all ≡ A ++ (B ++ C) =
    take-add (from + before) count all ∙ ap (λ (l : List ℕ). l ++ C) (take-add from before all) ∙ append_assoc A B C in
    let none : stripped_from form (at + length A) B ≡ [] =
    stripped-between form (at + length A) B
    (subst (λ (n : ℕ). length B ≤ to_packet form ((at + n) % unit form)) (sym long_a) (subst (λ (n : ℕ). n ≤ to_packet form ((at + from) % unit form)) (sym long_b) gap)) in
    let place : at + length A + length B ≡ at + (from + before) = omega arith in
    let all_c : stripped_from form (at + length A + length B) C ≡ C =
    subst (λ (n : ℕ). stripped_from form n C ≡ C) (sym place)
    (stripped-within form (at + (from + before)) C (subst (λ (n : ℕ). n ≤ in_packet form ((at + (from + before)) % unit form)) (sym long_c) some)) in
    ap (stripped_from form at) parts
    ∙ stripped-append form at A (B ++ C)
    ∙ ap (λ (l : List ℕ). stripped_from form at A ++ l)
    (stripped-append form (at + length A) B C ∙ ap (λ (l : List ℕ). l ++ stripped_from form (at + length A + length B) C) none ∙ all_c)

-- a round of moving bytes to the front
pub strips-more : (form : Form) (at from to before count : ℕ) (all old new : List ℕ) → to ≤ from → from + before + count ≤ length old → length old ≡ length all
    → before ≤ to_packet form ((at + from) % unit form) → count ≤ in_packet form ((at + (from + before)) % unit form)
    → take to old ≡ stripped_from form at (take from all) → drop from old ≡ drop from all
    → new ≡ copy_within old (from + before) (from + before + count) to
    → (take (to + count) new ≡ stripped_from form at (take (from + before + count) all)) × (drop (from + before + count) new ≡ drop (from + before + count) all)
strips-more form at from to before count all old new behind fits same gap some front rest is =
    let few : from + before + count - (from + before) ≡ count = omega arith in
    let moved : new ≡ paste old to (drop (from + before) old) count = is ∙ ap (paste old to (drop (from + before) old)) few in
    let room : to ≤ length old = omega arith in
    let there : count ≤ length (drop (from + before) old) = omega (arith, length-drop (from + before) old) in
    let begin : drop (from + before) old ≡ drop (from + before) all =
    sym (drop-drop before from old) ∙ ap (drop before) rest ∙ drop-drop before from all in
    let later : to + count + (from + before - to) ≡ from + before + count = omega arith in
    let ends : from + (before + count) ≡ from + before + count = omega arith in
    let after_new : drop (to + count) new ≡ drop (to + count) old = ap (drop (to + count)) moved ∙ drop-paste old to (drop (from + before) old) count room there in (
      ap (take (to + count)) moved ∙ take-paste old to (drop (from + before) old) count room there
          ∙ ap (λ (l : List ℕ). l ++ take count (drop (from + before) old)) front
          ∙ ap (λ (l : List ℕ). stripped_from form at (take from all) ++ take count l) begin
          ∙ sym (stripped-more form at from before count all (omega arith) gap some),
      ap (λ (n : ℕ). drop n new) (sym later) ∙ sym (drop-drop (from + before - to) (to + count) new)
          ∙ ap (drop (from + before - to)) after_new
          ∙ drop-drop (from + before - to) (to + count) old ∙ ap (λ (n : ℕ). drop n old) (later ∙ sym ends)
          ∙ sym (drop-drop (before + count) from old) ∙ ap (drop (before + count)) rest
          ∙ drop-drop (before + count) from all ∙ ap (λ (n : ℕ). drop n all) ends,
    )

-- of no bytes nothing is left
pub stripped-nil : (form : Form) (i : ℕ) → stripped_from form i [] ≡ []
unfolding stripped_from
stripped-nil form i = refl

-- how many bytes of packets are among so many of a file
count-next : (form : Form) (n : ℕ) → packet_bytes form (suc n) ≡ packet_bytes form n + (if is_of_packet form n then 1 else 0)
count-next Ts n = grind (arith, nat_tests)
count-next M2ts n = grind (arith, nat_tests)
count-next Rs204 n = grind (arith, nat_tests)

length-one : (kept : Bool) (x : ℕ) → length (if kept then x ∷ [] else []) ≡ (if kept then 1 else 0)
length-one true x = refl
length-one false x = refl

regroup : (a b c : ℕ) → a + (b + c) ≡ a + b + c
regroup a b c = omega arith

-- the length of stripped bytes
pub length-stripped_from : (form : Form) (i : ℕ) (bytes : List ℕ) → packet_bytes form i + length (stripped_from form i bytes) ≡ packet_bytes form (i + length bytes)
unfolding stripped_from
length-stripped_from form i [] = let e : i + 0 ≡ i = omega arith in let z : packet_bytes form i + 0 ≡ packet_bytes form i = omega arith in z ∙ ap (packet_bytes form) (sym e)
length-stripped_from form i (x ∷ bytes) =
    let one : length (byte_of_packet form i x) ≡ (if is_of_packet form i then 1 else 0) = length-one (is_of_packet form i) x in
    let next : packet_bytes form (suc i) ≡ packet_bytes form i + (if is_of_packet form i then 1 else 0) = count-next form i in
    let both : length (byte_of_packet form i x ++ stripped_from form (suc i) bytes) ≡ length (byte_of_packet form i x) + length (stripped_from form (suc i) bytes) =
    length-append (byte_of_packet form i x) (stripped_from form (suc i) bytes) in
    let rest : packet_bytes form (suc i) + length (stripped_from form (suc i) bytes) ≡ packet_bytes form (suc i + length bytes) = length-stripped_from form (suc i) bytes in
    let ends : packet_bytes form (suc i + length bytes) ≡ packet_bytes form (i + length (x ∷ bytes)) = ap (packet_bytes form) (omega arith) in
    (let sum : packet_bytes form i + length (byte_of_packet form i x ++ stripped_from form (suc i) bytes) ≡ packet_bytes form (suc i) + length (stripped_from form (suc i) bytes) =
    ap (λ (n : ℕ). packet_bytes form i + n) both ∙ regroup (packet_bytes form i) (length (byte_of_packet form i x)) (length (stripped_from form (suc i) bytes)) ∙ ap (λ (n : ℕ). packet_bytes form i + n + length (stripped_from form (suc i) bytes)) one ∙ ap (λ (n : ℕ). n + length (stripped_from form (suc i) bytes)) (sym next) in sum)
    ∙ rest ∙ ends

-- after the bytes before a packet comes one of it
behind-gap : (form : Form) (i : ℕ) → is_of_packet form (i + to_packet form (i % unit form)) ≡ true
behind-gap Ts i = grind (arith, nat_tests)
behind-gap M2ts i = grind (arith, nat_tests)
behind-gap Rs204 i = grind (arith, nat_tests)

-- bytes are stripped of some
pub some-raw : (form : Form) (i : ℕ) (bytes : List ℕ) → (raw : List ℕ) × (stripped_from form i raw ≡ bytes)
unfolding stripped_from
some-raw form i [] = ([], refl)
some-raw form i (x ∷ bytes) =
    let gap : List ℕ = replicate (to_packet form (i % unit form)) 0 in
    let long : length gap ≡ to_packet form (i % unit form) = length-replicate (to_packet form (i % unit form)) 0 in
    let none : stripped_from form i gap ≡ [] = stripped-between form i gap (omega arith) in
    let rest = some-raw form (suc (i + length gap)) bytes in
    let inside : is_of_packet form (i + length gap) ≡ true = subst (λ (n : ℕ). is_of_packet form (i + n) ≡ true) (sym long) (behind-gap form i) in (
      gap ++ x ∷ rest.0,
      stripped-append form i gap (x ∷ rest.0)
          ∙ ap (λ (l : List ℕ). l ++ stripped_from form (i + length gap) (x ∷ rest.0)) none
          ∙ ap (λ (kept : Bool). (if kept then x ∷ [] else []) ++ stripped_from form (suc (i + length gap)) rest.0) inside
          ∙ ap (λ (l : List ℕ). x ∷ l) rest.1,
    )

-- of a unit what is before its packet, the packet and what is after it, as far as each is there
part-before : (form : Form) (a n : ℕ) → a ≡ min (lead form) n → a ≤ to_packet form (0 % unit form)
part-before Ts a n is = omega arith
part-before M2ts a n is = omega arith
part-before Rs204 a n is = omega arith

part-of-packet : (form : Form) (a b n : ℕ) → a ≡ min (lead form) n → b ≡ min 188 (n - lead form) → b ≤ in_packet form (a % unit form)
part-of-packet Ts a b n is_a is_b = grind (arith, nat_tests)
part-of-packet M2ts a b n is_a is_b = grind (arith, nat_tests)
part-of-packet Rs204 a b n is_a is_b = grind (arith, nat_tests)

part-behind : (form : Form) (a b c n : ℕ) → a ≡ min (lead form) n → b ≡ min 188 (n - lead form) → c ≡ n - lead form - 188 → n ≤ unit form → c ≤ to_packet form ((a + b) % unit form)
part-behind Ts a b c n is_a is_b is_c few = omega arith
part-behind M2ts a b c n is_a is_b is_c few = grind (arith, nat_tests)
part-behind Rs204 a b c n is_a is_b is_c few = grind (arith, nat_tests)

-- of at most one unit the bytes of its packet
one-unit : (form : Form) (head : List ℕ) → length head ≤ unit form → stripped_from form 0 head ≡ take 188 (drop (lead form) head)
one-unit form head few =
    let A : List ℕ = take (lead form) head in
    let B : List ℕ = take 188 (drop (lead form) head) in
    let C : List ℕ = drop 188 (drop (lead form) head) in
    let long_a : length A ≡ min (lead form) (length head) = length-take (lead form) head in
    let long_b : length B ≡ min 188 (length head - lead form) = length-take 188 (drop (lead form) head) ∙ ap (min 188) (length-drop (lead form) head) in
    let long_c : length C ≡ length head - lead form - 188 = length-drop 188 (drop (lead form) head) ∙ ap (λ (n : ℕ). n - 188) (length-drop (lead form) head) in
    let parts : head ≡ A ++ (B ++ C) =
    sym (take-append-drop (lead form) head) ∙ ap (λ (l : List ℕ). A ++ l) (sym (take-append-drop 188 (drop (lead form) head))) in
    ap (stripped_from form 0) parts ∙ stripped-parts form A (B ++ C)
    ∙ ap (λ (l : List ℕ). l ++ stripped_from form (length A) (B ++ C)) (stripped-between form 0 A (part-before form (length A) (length head) long_a))
    ∙ stripped-append form (length A) B C
    ∙ ap (λ (l : List ℕ). l ++ stripped_from form (length A + length B) C)
    (stripped-within form (length A) B (part-of-packet form (length A) (length B) (length head) long_a long_b))
    ∙ ap (λ (l : List ℕ). B ++ l)
    (stripped-between form (length A + length B) C (part-behind form (length A) (length B) (length C) (length head) long_a long_b long_c few))
    ∙ append-nil B

-- after a whole unit the next one begins
whole-unit : (form : Form) → unit form % unit form ≡ 0 % unit form
whole-unit Ts = refl
whole-unit M2ts = refl
whole-unit Rs204 = refl

behind-unit-where : (form : Form) (bytes : List ℕ) (n : ℕ) → n ≡ min (unit form) (length bytes) → (length bytes < unit form) ⊎ (unit form ≤ length bytes)
    → stripped_from form n (drop (unit form) bytes) ≡ stripped_from form 0 (drop (unit form) bytes)
behind-unit-where form bytes n is (inl short) =
    let none : drop (unit form) bytes ≡ [] = nil_from_length (drop (unit form) bytes) (omega (arith, length-drop (unit form) bytes)) in
    ap (stripped_from form n) none ∙ stripped-nil form n ∙ sym (stripped-nil form 0) ∙ ap (stripped_from form 0) (sym none)
behind-unit-where form bytes n is (inr long) =
    let e : n ≡ unit form = omega arith in
    stripped-place form n 0 (drop (unit form) bytes) (ap (λ (m : ℕ). m % unit form) e ∙ whole-unit form)

behind-unit : (form : Form) (bytes : List ℕ) (n : ℕ) → n ≡ min (unit form) (length bytes)
    → stripped_from form n (drop (unit form) bytes) ≡ stripped_from form 0 (drop (unit form) bytes)
behind-unit form bytes n is = behind-unit-where form bytes n is (cases_lt (length bytes) (unit form))

-- of no bytes none is of a packet
no-bytes : (form : Form) → packet_bytes form 0 ≡ 0
no-bytes Ts = refl
no-bytes M2ts = refl
no-bytes Rs204 = refl

-- in the words of units: of the first unit the bytes of its packet, and what is left of those after it
pub stripped-unit : (form : Form) (bytes : List ℕ) → stripped form bytes ≡ take 188 (drop (lead form) (take (unit form) bytes)) ++ stripped form (drop (unit form) bytes)
stripped-unit form bytes =
    let few : length (take (unit form) bytes) ≤ unit form = omega (arith, length-take (unit form) bytes) in
    ap (stripped_from form 0) (sym (take-append-drop (unit form) bytes))
    ∙ stripped-parts form (take (unit form) bytes) (drop (unit form) bytes)
    ∙ ap (λ (l : List ℕ). l ++ stripped_from form (length (take (unit form) bytes)) (drop (unit form) bytes)) (one-unit form (take (unit form) bytes) few)
    ∙ ap (λ (l : List ℕ). take 188 (drop (lead form) (take (unit form) bytes)) ++ l) (behind-unit form bytes (length (take (unit form) bytes)) (length-take (unit form) bytes))

-- the length of a file's stripped bytes
pub length-stripped : (form : Form) (bytes : List ℕ) → length (stripped form bytes) ≡ packet_bytes form (length bytes)
length-stripped form bytes =
    let zero_is : packet_bytes form 0 ≡ 0 = no-bytes form in
    let counted : packet_bytes form 0 + length (stripped_from form 0 bytes) ≡ packet_bytes form (0 + length bytes) = length-stripped_from form 0 bytes in
    let same : packet_bytes form (0 + length bytes) ≡ packet_bytes form (length bytes) = ap (packet_bytes form) (omega arith) in
    omega arith

-- the first bytes of a file, stripped, are the first of its stripped bytes
pub stripped-take : (form : Form) (n : ℕ) (bytes : List ℕ) → stripped form (take n bytes) ≡ take (packet_bytes form (length (take n bytes))) (stripped form bytes)
stripped-take form n bytes =
    let front : List ℕ = take n bytes in
    sym (ap (λ (l : List ℕ). take (packet_bytes form (length front)) (stripped_from form 0 l)) (sym (take-append-drop n bytes))
    ∙ ap (take (packet_bytes form (length front))) (stripped-parts form front (drop n bytes))
    ∙ take_at (stripped_from form 0 front) (stripped_from form (length front) (drop n bytes)) (packet_bytes form (length front)) (length-stripped form front))

-- a byte between packets brings the next packet nearer
gap-step : (form : Form) (i : ℕ) → is_of_packet form i ≡ false → to_packet form (suc i % unit form) + 1 ≡ to_packet form (i % unit form)
gap-step Ts i out = grind (arith, nat_tests)
gap-step M2ts i out = grind (arith, nat_tests)
gap-step Rs204 i out = grind (arith, nat_tests)

-- where nothing is left nothing was kept
none-of-byte : (kept : Bool) (x : ℕ) (rest : List ℕ) → (if kept then x ∷ [] else []) ++ rest ≡ [] → (kept ≡ false) × (rest ≡ [])
none-of-byte true x rest e = absurd cc
none-of-byte false x rest e = (refl, e)

joined : (a n b d m : ℕ) → m ≡ n + 1 → a + n ≡ b → b + 1 ≡ d → a + m ≡ d
joined a n b d m long one two = omega arith

-- bytes of which none is of a packet, wherever they are in a file
gap-nears : (form : Form) (i : ℕ) (bytes : List ℕ) → stripped_from form i bytes ≡ [] → to_packet form ((i + length bytes) % unit form) + length bytes ≡ to_packet form (i % unit form)
unfolding stripped_from
gap-nears form i [] none =
    let e : i + 0 ≡ i = omega arith in
    let z : to_packet form (i % unit form) + 0 ≡ to_packet form (i % unit form) = omega arith in
    ap (λ (n : ℕ). to_packet form (n % unit form) + 0) e ∙ z
gap-nears form i (x ∷ bytes) none =
    let parts = none-of-byte (is_of_packet form i) x (stripped_from form (suc i) bytes) none in
    let rest : to_packet form ((suc i + length bytes) % unit form) + length bytes ≡ to_packet form (suc i % unit form) = gap-nears form (suc i) bytes parts.1 in
    let step : to_packet form (suc i % unit form) + 1 ≡ to_packet form (i % unit form) = gap-step form i parts.0 in
    let e : i + length (x ∷ bytes) ≡ suc i + length bytes = omega arith in
    ap (λ (n : ℕ). to_packet form (n % unit form) + length (x ∷ bytes)) e ∙ joined (to_packet form ((suc i + length bytes) % unit form)) (length bytes) (to_packet form (suc i % unit form)) (to_packet form (i % unit form)) (length (x ∷ bytes)) (omega arith) rest step

-- a place is one of a unit, also after some more bytes
pub in-unit : (form : Form) (n : ℕ) → n % unit form < unit form
in-unit Ts n = omega arith
in-unit M2ts n = omega arith
in-unit Rs204 n = omega arith

pub place-in-unit : (form : Form) (at : ℕ) → at < unit form → at % unit form ≡ at
place-in-unit Ts at few = omega arith
place-in-unit M2ts at few = omega arith
place-in-unit Rs204 at few = omega arith

pub place-add : (form : Form) (n k : ℕ) → (n % unit form + k) % unit form ≡ (n + k) % unit form
place-add Ts n k = omega arith
place-add M2ts n k = omega arith
place-add Rs204 n k = omega arith

-- bytes of which none is of a packet bring the next packet nearer
pub to_packet-nears : (form : Form) (at : ℕ) (bytes : List ℕ) → at < unit form → stripped_from form at bytes ≡ []
    → to_packet form ((at + length bytes) % unit form) + length bytes ≡ to_packet form at
to_packet-nears form at bytes few none = gap-nears form at bytes none ∙ ap (to_packet form) (place-in-unit form at few)

-- two parts of which the first ends at a place
pub stripped-behind : (form : Form) (at : ℕ) (a b : List ℕ) → stripped_from form at (a ++ b) ≡ stripped_from form at a ++ stripped_from form ((at + length a) % unit form) b
stripped-behind form at a b =
    stripped-append form at a b
    ∙ ap (λ (l : List ℕ). stripped_from form at a ++ l)
    (stripped-place form (at + length a) ((at + length a) % unit form) b (sym (place-in-unit form ((at + length a) % unit form) (in-unit form (at + length a)))))

-- the length of the unit gives the form
pub same-form : (form other : Form) → unit form ≡ unit other → form ≡ other
same-form Ts Ts e = refl
same-form Ts M2ts e = absurd (omega arith)
same-form Ts Rs204 e = absurd (omega arith)
same-form M2ts Ts e = absurd (omega arith)
same-form M2ts M2ts e = refl
same-form M2ts Rs204 e = absurd (omega arith)
same-form Rs204 Ts e = absurd (omega arith)
same-form Rs204 M2ts e = absurd (omega arith)
same-form Rs204 Rs204 e = refl

-- a plain file stays
pub stripped-ts : (i : ℕ) (bytes : List ℕ) → stripped_from Ts i bytes ≡ bytes
unfolding stripped_from
stripped-ts i [] = refl
stripped-ts i (x ∷ bytes) =
    let inside : is_of_packet Ts i ≡ true = grind (arith, nat_tests) in
    ap (λ (kept : Bool). (if kept then x ∷ [] else []) ++ stripped_from Ts (suc i) bytes) inside ∙ ap (λ (l : List ℕ). x ∷ l) (stripped-ts (suc i) bytes)
