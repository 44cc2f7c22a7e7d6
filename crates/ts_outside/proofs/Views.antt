-- How steps on known lists and on what is seen of sources, sinks and desks chain.
use Rattle.std.proofs.Common.{◌≡◌, ℕ, ◌+◌, ◌-◌, ◌<◌, ◌≤◌, List, [], ◌++◌, Option, None, Some, refl, ap, subst, sym, ◌∙◌, append_assoc, append-nil, length, take, drop, arith, length-drop}
use Rattle.std.proofs.Math.Seq.{take-add, take-append-add}
use Rattle.std.proofs.lemmas.List.{take_all, take-append-le}
use Rattle.std.proofs.lemmas.Grind.{common_steps}
use Rattle.std.proofs.lemmas.Bool.Decides.{nat_tests}
use borrow.Rule.Slice.PartMut.{put_mid, post_of}
use Rattle.ts_outside.specs.Count.{HasCause, raised, count_end}
use Rattle.ts_outside.specs.Told.{before, grown}
use Rattle.ts_outside.specs.Source.{SourceView, unread}
use Rattle.ts_outside.specs.Sink.{SinkView, took}
use Rattle.ts_outside.specs.Desk.{DeskView, reports}

-- a list to which nothing was added
pub grown-nil : {T : Type 0} (o : Option (List T)) → grown o [] ≡ o
grown-nil None = refl
grown-nil (Some l) = ap Some (append-nil l)

-- two parts added one after the other
pub grown-grown : {T : Type 0} (o : Option (List T)) (a b : List T) → grown (grown o a) b ≡ grown o (a ++ b)
grown-grown None a b = refl
grown-grown (Some l) a b = ap Some (append_assoc l a b)

-- nothing before a list
pub before-nil : {T : Type 0} (o : Option (List T)) → before [] o ≡ o
before-nil None = refl
before-nil (Some l) = refl

-- two parts taken one after the other
pub before-before : {T : Type 0} (a b : List T) (o : Option (List T)) → before a (before b o) ≡ before (a ++ b) o
before-before a b None = refl
before-before a b (Some l) = ap Some (sym (append_assoc a b l))

-- a sink that took nothing
pub took-nil : (s : SinkView) → took s [] ≡ s
took-nil s = ap (λ (o : Option (List ℕ)). record s { taken = o }) (grown-nil s.taken)

-- a sink that took two parts
pub took-took : (s : SinkView) (a b : List ℕ) → took (took s a) b ≡ took s (a ++ b)
took-took s a b = ap (λ (o : Option (List ℕ)). record s { taken = o }) (grown-grown s.taken a b)

-- a source of which nothing was read
pub unread-nil : (s : SourceView) → unread [] s ≡ s
unread-nil s = ap (λ (o : Option (List ℕ)). record s { left = o }) (before-nil s.left)

-- a source of which two parts were read
pub unread-unread : (a b : List ℕ) (s : SourceView) → unread a (unread b s) ≡ unread (a ++ b) s
unread-unread a b s = ap (λ (o : Option (List ℕ)). record s { left = o }) (before-before a b s.left)

-- a desk that reported nothing
pub reports-nil : (d : DeskView) → reports d [] ≡ d
reports-nil d = ap (λ (o : Option (List ℕ)). record d { reported = o }) (grown-nil d.reported)

-- a desk that reported two parts
pub reports-reports : (d : DeskView) (a b : List ℕ) → reports (reports d a) b ≡ reports d (a ++ b)
reports-reports d a b = ap (λ (o : Option (List ℕ)). record d { reported = o }) (grown-grown d.reported a b)

-- the first i members, and then some of those after them
pub take-more : (i n : ℕ) (l : List ℕ) → take i l ++ take n (take (length l - i) (drop i l)) ≡ take (i + n) l
take-more i n l =
    let all : length (drop i l) ≤ length l - i = omega (arith, length-drop i l) in
    ap (λ (rest : List ℕ). take i l ++ take n rest) (take_all (length l - i) (drop i l) all) ∙ sym (take-add i n l)

-- the first members of a list after a read into its part after the first a: those a, and the first of what was read
pub take-filled : (a k n : ℕ) (l part : List ℕ) → a ≤ length l → n ≤ length part → take (a + n) (put_mid a k l part) ≡ take a l ++ take n part
take-filled a k n l part fits few =
    let long : length (take a l) ≡ a = grind (arith, common_steps) in
    subst (λ (m : ℕ). take (m + n) (put_mid a k l part) ≡ take a l ++ take n part) long
    (take-append-add (take a l) (part ++ post_of a k l) n
    ∙ ap (λ (rest : List ℕ). take a l ++ rest) (take-append-le n part (post_of a k l) few))

-- a count never falls by a fault
pub raised-le : (n : ℕ) → n ≤ raised n
raised-le n = grind (arith, nat_tests)

-- a count rises by a fault where it is not the greatest
pub raised-lt : (n : ℕ) → n < count_end → n < raised n
raised-lt n h = grind (arith, nat_tests)

-- one more fault is a cause
pub HasCause-raised : (n : ℕ) → HasCause n (raised n)
HasCause-raised n = record { not_fallen = raised-le n; rose = raised-lt n }

-- a cause stays one where the count has not fallen before
pub HasCause-after : (a b c : ℕ) → a ≤ b → HasCause b c → HasCause a c
HasCause-after a b c first cause =
    let later : b ≤ c = cause.not_fallen in
    let rose : b < count_end → b < c = cause.rose in
    record { not_fallen = omega arith; rose = λ (h : a < count_end). grind arith }

-- a cause stays one where the count does not fall after it
pub HasCause-before : (a b c : ℕ) → HasCause a b → b ≤ c → HasCause a c
HasCause-before a b c cause behind =
    let first : a ≤ b = cause.not_fallen in
    let rose : a < count_end → a < b = cause.rose in
    record { not_fallen = omega arith; rose = λ (h : a < count_end). omega arith }

-- what the tactics take to chain steps
pub ruleset views = (grown-nil, grown-grown, before-nil, before-before, took-nil, took-took, unread-nil, unread-unread, reports-nil, reports-reports, take-more, take-filled, raised-le, raised-lt, HasCause-raised)
