-- One part taken: what waits then, and what is to come after the part that is remembered then.
use Rattle.std.proofs.Common.{◌≡◌, ℕ, ◌+◌, ◌%◌, ◌≤◌, ◌<◌, Bool, true, false, not, ◌&&◌, ◌==◌, nat_le, List, [], ◌∷◌, ◌++◌, length, take, drop, Option, Some, None, refl, sym, ◌∙◌, ap, arith, append_assoc, append-nil, inl, inr, length-drop}
use Rattle.std.specs.List.{flat_map}
use Rattle.std.proofs.lemmas.Bool.Decides.{leb_tells, nat_tests}
use Rattle.std.specs.Option.{option_map, option_to_list}
use Rattle.ts_demux.proofs.Choice.{if_true, if_false, true_or_false, and_true, and_false_first, not_of_false}
use Rattle.ts_demux.proofs.Runs.{following, all_stretches-invalid, all_stretches-plain, all_stretches-unit, following-plain, following-unit, following-stops}
use Rattle.monitor_crcs.proofs.Remembering.{told_left, others_after, told-remembered, told-first, others-repeat, others-next}
use Rattle.monitor_crcs.proofs.Little.{told_after-nothing}
use Rattle.ts_demux.specs.Part.{Part, body_of, pointer_of, is_invalid, repeats}
use Rattle.ts_demux.specs.Cut.{is_whole_in_front}
use Rattle.ts_demux.specs.Counters.{goes_on_after}
use Rattle.monitor_crcs.specs.WrongCrcs.{told_in, told_of_parts}
use Rattle.monitor_crcs.specs.Reader.{part_of, told_after, Takes, EndsAtJump, HoldsLittle, IsAtRest}
use Rattle.monitor_crcs.specs.declared.reader.PieceReader.{PieceReader}

equal_numbers : (a b : ℕ) → (a == b) ≡ true → a ≡ b
equal_numbers a b e = grind (arith, nat_tests)

-- the remembered part before some parts
abbrev behind : Option ℕ → Bool → List ℕ → List Part → List ℕ
behind last is_open bytes ps = told_of_parts (option_to_list (option_map (part_of is_open bytes) last) ++ ps)

and_false : (a b : Bool) → b ≡ false → (a && b) ≡ false
and_false true b e = e
and_false false b e = refl

repeat_after :
    (last : Option ℕ) (is_open : Bool) (bytes : List ℕ) (p : Part) (ps : List Part) →
    repeats last p.counter ≡ true → behind last is_open bytes (p ∷ ps) ≡ behind last is_open bytes ps
repeat_after None is_open bytes p ps e = cc
repeat_after (Some counter) is_open bytes p ps e =
    let same : counter ≡ p.counter = equal_numbers counter p.counter e in
    let o : others_after counter (p ∷ ps) ≡ others_after counter ps = others-repeat p ps counter e ∙ ap (λ n. others_after n ps) (sym same) in
    told-remembered is_open bytes counter (p ∷ ps)
    ∙ ap (λ t. told_after is_open bytes (following counter t) ++ told_left t) o
    ∙ sym (told-remembered is_open bytes counter ps)

pub takes-repeat :
    (r : PieceReader) (p : Part) (before : List ℕ) → repeats r.last p.counter ≡ true → Takes r r p before before
takes-repeat r p before e =
    record {
      told = λ rest. ap (λ t. before ++ t) (repeat_after r.last r.is_open r.unfinished.items p rest e);
      grows = omega arith;
    }

-- a part that is no duplicate ends or continues the stretch, which is given up at a jump
front :
    (last : Option ℕ) (old_open mid_open : Bool) (old_bytes mid_bytes : List ℕ) (p : Part) (ps : List Part) (lead : List ℕ) →
    repeats last p.counter ≡ false → is_whole_in_front old_bytes ≡ false →
    (goes_on_after last p.counter ≡ true → mid_open ≡ old_open) →
    (goes_on_after last p.counter ≡ true → mid_bytes ≡ old_bytes) →
    (goes_on_after last p.counter ≡ false → mid_open ≡ false) →
    ((counter : ℕ) → (p.counter == (counter + 1) % 16) ≡ true → following counter (p ∷ others_after p.counter ps) ≡ lead) →
    behind last old_open old_bytes (p ∷ ps) ≡ told_after mid_open mid_bytes lead ++ told_left (p ∷ others_after p.counter ps)
front None old_open mid_open old_bytes mid_bytes p ps lead n w o b e l =
    let closed : told_after mid_open mid_bytes lead ≡ [] = if_false mid_open (told_in (mid_bytes ++ lead)) [] (e refl) in
    told-first p ps ∙ ap (λ t. t ++ told_left (p ∷ others_after p.counter ps)) (sym closed)
front (Some counter) old_open mid_open old_bytes mid_bytes p ps lead n w o b e l =
    let others = others_after p.counter ps in
    let open_on = told-remembered old_open old_bytes counter (p ∷ ps) in
    let next : others_after counter (p ∷ ps) ≡ p ∷ others = others-next p ps counter n in
    let s : behind (Some counter) old_open old_bytes (p ∷ ps) ≡ told_after old_open old_bytes (following counter (p ∷ others)) ++ told_left (p ∷ others) =
    open_on ∙ ap (λ t. told_after old_open old_bytes (following counter t) ++ told_left t) next in
    elim (true_or_false (p.counter == (counter + 1) % 16)) as (λ _. behind (Some counter) old_open old_bytes (p ∷ ps) ≡ told_after mid_open mid_bytes lead ++ told_left (p ∷ others)) [
      | inl g ↦
          (let f : told_after old_open old_bytes (following counter (p ∷ others)) ≡ told_after mid_open mid_bytes lead =
          ap (λ t. told_after old_open old_bytes t) (l counter g)
          ∙ ap (λ t. told_after t old_bytes lead) (sym (o g))
          ∙ ap (λ t. told_after mid_open t lead) (sym (b g)) in
          s ∙ ap (λ t. t ++ told_left (p ∷ others)) f)
      | inr g ↦
          (let stop : following counter (p ∷ others) ≡ [] = following-stops counter (p ∷ others) (and_false (not (is_invalid p)) (p.counter == (counter + 1) % 16) g) in
          let nothing : told_after old_open old_bytes (following counter (p ∷ others)) ≡ [] = ap (λ t. told_after old_open old_bytes t) stop ∙ told_after-nothing old_open old_bytes w in
          let closed : told_after mid_open mid_bytes lead ≡ [] = if_false mid_open (told_in (mid_bytes ++ lead)) [] (e g) in
          s ∙ ap (λ t. t ++ told_left (p ∷ others)) (nothing ∙ sym closed))
    ]

-- what is to come after a part that is remembered now
back :
    (last : Option ℕ) (is_open : Bool) (bytes : List ℕ) (counter : ℕ) (ps : List Part) → last ≡ Some counter →
    behind last is_open bytes ps ≡ told_after is_open bytes (following counter (others_after counter ps)) ++ told_left (others_after counter ps)
back last is_open bytes counter ps e =
    ap (λ l. behind l is_open bytes ps) e ∙ told-remembered is_open bytes counter ps

-- what of a stretch that may be given up comes with no more bytes
mid_nothing :
    (last : Option ℕ) (old_open mid_open : Bool) (old_bytes mid_bytes : List ℕ) (counter : ℕ) →
    is_whole_in_front old_bytes ≡ false →
    (goes_on_after last counter ≡ true → mid_open ≡ old_open) →
    (goes_on_after last counter ≡ true → mid_bytes ≡ old_bytes) →
    (goes_on_after last counter ≡ false → mid_open ≡ false) →
    told_after mid_open mid_bytes [] ≡ []
mid_nothing last old_open mid_open old_bytes mid_bytes counter w o b e =
    elim (true_or_false (goes_on_after last counter)) as (λ _. told_after mid_open mid_bytes [] ≡ []) [
      | inl g ↦
          (ap (λ t. told_after t mid_bytes []) (o g) ∙ ap (λ t. told_after old_open t []) (b g) ∙ told_after-nothing old_open old_bytes w)
      | inr g ↦ if_false mid_open (told_in (mid_bytes ++ [])) [] (e g)
    ]

not_of_true : (a : Bool) → a ≡ true → not a ≡ false
not_of_true true e = refl
not_of_true false e = cc

-- from "before and what is cut" to "after and what is to come"
join_up :
    (before after cut_old cut_new left : List ℕ) → before ++ cut_old ≡ after ++ cut_new →
    before ++ (cut_old ++ left) ≡ after ++ (cut_new ++ left)
join_up before after cut_old cut_new left e =
    sym (append_assoc before cut_old left) ∙ ap (λ t. t ++ left) e ∙ append_assoc after cut_new left

plain_is_valid : (p : Part) → p.unit_start ≡ false → is_invalid p ≡ false
plain_is_valid p e = and_false_first p.unit_start (nat_le (length p.payload) (pointer_of p)) e

pub takes-plain :
    (old mid new : PieceReader) (p : Part) (before after : List ℕ) →
    repeats old.last p.counter ≡ false → is_whole_in_front old.unfinished.items ≡ false →
    EndsAtJump old mid p.counter → p.unit_start ≡ false → new.last ≡ mid.last →
    ((more : List ℕ) → before ++ told_after mid.is_open mid.unfinished.items (p.payload ++ more) ≡ after ++ told_after new.is_open new.unfinished.items more) →
    length before ≤ length after → Takes old new p before after
takes-plain old mid new p before after n w jump plain same goes grows =
    record {
      told = λ rest.
          (let others = others_after p.counter rest in
          let f = following p.counter others in
          let valid = plain_is_valid p plain in
          let body : body_of p ≡ p.payload = if_false p.unit_start (drop 1 p.payload) p.payload plain in
          let lead : (counter : ℕ) → (p.counter == (counter + 1) % 16) ≡ true → following counter (p ∷ others) ≡ p.payload ++ f =
          λ counter g. following-plain counter p others (and_true (not (is_invalid p)) (p.counter == (counter + 1) % 16) (not_of_false (is_invalid p) valid) g) valid plain ∙ ap (λ t. t ++ f) body in
          let a = front old.last old.is_open mid.is_open old.unfinished.items mid.unfinished.items p rest (p.payload ++ f) n w jump.same_open jump.same_bytes jump.ends lead in
          let r : told_left (p ∷ others) ≡ told_left others = ap (flat_map told_in) (all_stretches-plain p others valid plain) in
          let b = back new.last new.is_open new.unfinished.items p.counter rest (same ∙ jump.last) in
          ap (λ t. before ++ t) (a ∙ ap (λ t. told_after mid.is_open mid.unfinished.items (p.payload ++ f) ++ t) r)
          ∙ join_up before after (told_after mid.is_open mid.unfinished.items (p.payload ++ f)) (told_after new.is_open new.unfinished.items f) (told_left others) (goes f)
          ∙ ap (λ t. after ++ t) (sym b));
      grows = grows;
    }

unit_is_valid : (p : Part) → pointer_of p < length p.payload → is_invalid p ≡ false
unit_is_valid p h =
    and_false p.unit_start (nat_le (length p.payload) (pointer_of p))
    (elim (leb_tells (length p.payload) (pointer_of p)) as (λ _. nat_le (length p.payload) (pointer_of p) ≡ false) [ inl l ↦ absurd (omega (arith, l.1)) | inr l ↦ l.0 ])

unit_is_invalid : (p : Part) → p.unit_start ≡ true → length p.payload ≤ pointer_of p → is_invalid p ≡ true
unit_is_invalid p e h =
    and_true p.unit_start (nat_le (length p.payload) (pointer_of p)) e
    (elim (leb_tells (length p.payload) (pointer_of p)) as (λ _. nat_le (length p.payload) (pointer_of p) ≡ true) [ inl l ↦ l.0 | inr l ↦ absurd (omega (arith, l.1)) ])

pub takes-unit :
    (old mid ended new : PieceReader) (p : Part) (before between after : List ℕ) →
    repeats old.last p.counter ≡ false → is_whole_in_front old.unfinished.items ≡ false →
    EndsAtJump old mid p.counter → p.unit_start ≡ true → pointer_of p < length p.payload →
    new.last ≡ mid.last → is_whole_in_front ended.unfinished.items ≡ false →
    ((more : List ℕ) → before ++ told_after mid.is_open mid.unfinished.items (take (pointer_of p) (drop 1 p.payload) ++ more) ≡ between ++ told_after ended.is_open ended.unfinished.items more) →
    ((more : List ℕ) → between ++ told_in (drop (pointer_of p) (drop 1 p.payload) ++ more) ≡ after ++ told_after new.is_open new.unfinished.items more) →
    length before ≤ length after → Takes old new p before after
takes-unit old mid ended new p before between after n w jump unit pointed same little goes begins grows =
    record {
      told = λ rest.
          (let others = others_after p.counter rest in
          let f = following p.counter others in
          let valid = unit_is_valid p pointed in
          let body : body_of p ≡ drop 1 p.payload = if_true p.unit_start (drop 1 p.payload) p.payload unit in
          let first = take (pointer_of p) (drop 1 p.payload) in
          let next = drop (pointer_of p) (drop 1 p.payload) in
          let within : pointer_of p ≤ length (body_of p) = omega (arith, ap length body, length-drop 1 p.payload) in
          let lead : (counter : ℕ) → (p.counter == (counter + 1) % 16) ≡ true → following counter (p ∷ others) ≡ first =
          λ counter g. following-unit counter p others (and_true (not (is_invalid p)) (p.counter == (counter + 1) % 16) (not_of_false (is_invalid p) valid) g) valid unit within ∙ ap (take (pointer_of p)) body in
          let a = front old.last old.is_open mid.is_open old.unfinished.items mid.unfinished.items p rest first n w jump.same_open jump.same_bytes jump.ends lead in
          let r : told_left (p ∷ others) ≡ told_in (next ++ f) ++ told_left others =
          ap (flat_map told_in) (all_stretches-unit p others valid unit within) ∙ ap (λ t. told_in (drop (pointer_of p) t ++ f) ++ told_left others) body in
          let b = back new.last new.is_open new.unfinished.items p.counter rest (same ∙ jump.last) in
          let nothing = told_after-nothing ended.is_open ended.unfinished.items little in
          let ends : before ++ told_after mid.is_open mid.unfinished.items first ≡ between ++ [] =
          ap (λ t. before ++ told_after mid.is_open mid.unfinished.items t) (sym (append-nil first)) ∙ goes [] ∙ ap (λ t. between ++ t) nothing in
          ap (λ t. before ++ t) (a ∙ ap (λ t. told_after mid.is_open mid.unfinished.items first ++ t) r)
          ∙ join_up before between (told_after mid.is_open mid.unfinished.items first) [] (told_in (next ++ f) ++ told_left others) ends
          ∙ join_up between after (told_in (next ++ f)) (told_after new.is_open new.unfinished.items f) (told_left others) (begins f)
          ∙ ap (λ t. after ++ t) (sym b));
      grows = grows;
    }

pub takes-invalid :
    (old mid new : PieceReader) (p : Part) (before : List ℕ) →
    repeats old.last p.counter ≡ false → is_whole_in_front old.unfinished.items ≡ false →
    EndsAtJump old mid p.counter → p.unit_start ≡ true → length p.payload ≤ pointer_of p →
    new.last ≡ mid.last → new.is_open ≡ false → Takes old new p before before
takes-invalid old mid new p before n w jump unit past same closed =
    record {
      told = λ rest.
          (let others = others_after p.counter rest in
          let f = following p.counter others in
          let invalid = unit_is_invalid p unit past in
          let lead : (counter : ℕ) → (p.counter == (counter + 1) % 16) ≡ true → following counter (p ∷ others) ≡ [] =
          λ counter g. following-stops counter (p ∷ others) (and_false_first (not (is_invalid p)) (p.counter == (counter + 1) % 16) (not_of_true (is_invalid p) invalid)) in
          let a = front old.last old.is_open mid.is_open old.unfinished.items mid.unfinished.items p rest [] n w jump.same_open jump.same_bytes jump.ends lead in
          let nothing = mid_nothing old.last old.is_open mid.is_open old.unfinished.items mid.unfinished.items p.counter w jump.same_open jump.same_bytes jump.ends in
          let r : told_left (p ∷ others) ≡ told_left others = ap (flat_map told_in) (all_stretches-invalid p others invalid) in
          let b = back new.last new.is_open new.unfinished.items p.counter rest (same ∙ jump.last) in
          let c : told_after new.is_open new.unfinished.items f ≡ [] = if_false new.is_open (told_in (new.unfinished.items ++ f)) [] closed in
          ap (λ t. before ++ t) (a ∙ ap (λ t. t ++ told_left (p ∷ others)) nothing ∙ r ∙ sym (b ∙ ap (λ t. t ++ told_left others) c)));
      grows = omega arith;
    }

pub rest-after : (r : PieceReader) (counter : ℕ) → r.last ≡ Some counter → counter < 16 → HoldsLittle r → IsAtRest r
rest-after r counter e h little =
    record {
      little = little;
      counter = λ other f. (let g : Some counter ≡ Some other = sym e ∙ f in let same : counter ≡ other = cc in omega arith);
      begun = λ f. (let g : Some counter ≡ None = sym e ∙ f in cc);
    }
