-- Lemmas on schedules: how turns change, and what a value stands for after one packet more.
use Rattle.std.proofs.Common.{◌≡◌, ℕ, zero, suc, ◌+◌, ◌≤◌, ◌<◌, Bool, true, false, List, [], ◌∷◌, ◌++◌, length, drop, Option, None, Some, refl, sym, ◌∙◌, ap, arith, append-nil, append_assoc, rules, subst}
use Rattle.std.specs.Prelude.{if◌then◌else◌, slice_get, slice_set, is_some, unwrap_or}
use Rattle.std.specs.List.{All}
use Rattle.std.specs.Option.{option_map_or}
use Rattle.std.proofs.lemmas.Bool.{eq-eqb, ne_eqb}
use Rattle.std.proofs.lemmas.List.{drop-drop, length-set}
use Rattle.std.proofs.lemmas.List.Elements.{All-cons}
use Rattle.std.proofs.lemmas.List.Sums.{count_by-le-length, sum_by-cons}
use Rattle.std.proofs.lemmas.Option.{slice_get_past}
use Rattle.ts_packetize.specs.Cycle.{due, first_row}
use Rattle.plug_inject.specs.Contents.{Group}
use Rattle.plug_inject.specs.Schedule.{begins, chosen, coming, given_after, last_begun, mark_of, next_group, next_section, packets_at, section_after, times_begun, turns_from}
use Rattle.plug_inject.specs.Scheduled.{IsComing, Scheduled, begun_turn, first_turn, turns_with}
use Rattle.plug_inject.specs.declared.schedule.Schedule.{Schedule}
use Rattle.plug_inject.specs.declared.turn.Turn.{Turn}

-- the turn of a group with these marks, by whether the newest of them begins a section of it
turn-of : ℕ → ℕ → List (Option ℕ) → Turn
turn-of distance place marks = record { distance = distance; last = last_begun place marks; count = times_begun place marks }

turn-met : ℕ → ℕ → List (Option ℕ) → Bool → Turn
turn-met distance place marks met = record {
  distance = distance;
  last = if met then Some (length marks) else last_begun place marks;
  count = (if met then 1 else 0) + times_begun place marks;
}

turn-more : (distance place : ℕ) (mark : Option ℕ) (marks : List (Option ℕ)) → turn-of distance place (mark ∷ marks) ≡ turn-met distance place marks (begins place mark)
unfolding last_begun turn-of turn-met
turn-more distance place mark marks =
    ap (λ (n : ℕ). record { distance = distance; last = if begins place mark then Some (length marks) else last_begun place marks; count = n })
    (sum_by-cons (λ (m : Option ℕ). if begins place m then 1 else 0) mark marks)

turn-kept : (distance place : ℕ) (mark : Option ℕ) (marks : List (Option ℕ)) → begins place mark ≡ false → turn-of distance place (mark ∷ marks) ≡ turn-of distance place marks
unfolding turn-of turn-met
turn-kept distance place mark marks e =
    let same : 0 + times_begun place marks ≡ times_begun place marks = omega arith in
    turn-more distance place mark marks ∙ ap (turn-met distance place marks) e
    ∙ ap (λ (n : ℕ). record { distance = distance; last = last_begun place marks; count = n }) same

turn-begun : (distance place : ℕ) (mark : Option ℕ) (marks : List (Option ℕ)) → begins place mark ≡ true → turn-of distance place (mark ∷ marks) ≡ begun_turn (length marks) (turn-of distance place marks)
unfolding turn-of turn-met
turn-begun distance place mark marks e =
    let more : 1 + times_begun place marks ≡ suc (times_begun place marks) = omega arith in
    turn-more distance place mark marks ∙ ap (turn-met distance place marks) e
    ∙ ap (λ (n : ℕ). record { distance = distance; last = Some (length marks); count = n }) more

-- a packet that continues a section changes no turn
pub turns-none : (place : ℕ) (some : List Group) (marks : List (Option ℕ)) → turns_from place some (None ∷ marks) ≡ turns_from place some marks
unfolding turns_from turn-of
turns-none place [] marks = refl
turns-none place (group ∷ others) marks =
    ap (λ (t : Turn). t ∷ turns_from (suc place) others (None ∷ marks)) (turn-kept group.distance place None marks refl)
    ∙ ap (λ (ts : List Turn). turn-of group.distance place marks ∷ ts) (turns-none (suc place) others marks)

-- one that begins a section of an earlier group changes no turn of the later ones
turns-earlier : (earlier place : ℕ) (some : List Group) (marks : List (Option ℕ)) → earlier < place → turns_from place some (Some earlier ∷ marks) ≡ turns_from place some marks
unfolding turns_from turn-of
turns-earlier earlier place [] marks lt = refl
turns-earlier earlier place (group ∷ others) marks lt =
    ap (λ (t : Turn). t ∷ turns_from (suc place) others (Some earlier ∷ marks)) (turn-kept group.distance place (Some earlier) marks (ne_eqb earlier place (λ e. absurd (omega (arith, e, lt)))))
    ∙ ap (λ (ts : List Turn). turn-of group.distance place marks ∷ ts) (turns-earlier earlier (suc place) others marks (omega arith))

-- one turn more in front
with-front : (number place : ℕ) (turn : Turn) (turns : List Turn) (found : Option Turn)
    → option_map_or (λ (t : Turn). turn ∷ slice_set turns place (begun_turn number t)) found (turn ∷ turns)
    ≡ turn ∷ option_map_or (λ (t : Turn). slice_set turns place (begun_turn number t)) found turns
with-front number place turn turns None = refl
with-front number place turn turns (Some t) = refl

-- one that begins a section of a group changes its turn
pub turns-begun : (place base : ℕ) (some : List Group) (marks : List (Option ℕ)) → turns_with place (length marks) (turns_from base some marks) ≡ turns_from base some (Some (base + place) ∷ marks)
unfolding turns_from turn-of
turns-begun place base [] marks = refl
turns-begun zero base (group ∷ others) marks =
    let here : base ≡ base + 0 = omega arith in
    ap (λ (t : Turn). t ∷ turns_from (suc base) others marks) (sym (turn-begun group.distance base (Some base) marks (eq-eqb base base refl)))
    ∙ ap (λ (ts : List Turn). turn-of group.distance base (Some base ∷ marks) ∷ ts) (sym (turns-earlier base (suc base) others marks (omega arith)))
    ∙ ap (λ (p : ℕ). turns_from base (group ∷ others) (Some p ∷ marks)) here
turns-begun (suc place) base (group ∷ others) marks =
    let next : suc base + place ≡ base + suc place = omega arith in
    let other : begins base (Some (base + suc place)) ≡ false = ne_eqb (base + suc place) base (λ e. absurd (omega (arith, e))) in
    with-front (length marks) place (turn-of group.distance base marks) (turns_from (suc base) others marks) (slice_get (turns_from (suc base) others marks) place)
    ∙ ap (λ (ts : List Turn). turn-of group.distance base marks ∷ ts) (turns-begun place (suc base) others marks ∙ ap (λ (p : ℕ). turns_from (suc base) others (Some p ∷ marks)) next)
    ∙ ap (λ (t : Turn). t ∷ turns_from (suc base) others (Some (base + suc place) ∷ marks)) (sym (turn-kept group.distance base (Some (base + suc place)) marks other))

with-length-at : (place number : ℕ) (turns : List Turn) (found : Option Turn)
    → length turns ≡ length (option_map_or (λ (t : Turn). slice_set turns place (begun_turn number t)) found turns)
with-length-at place number turns None = refl
with-length-at place number turns (Some t) = sym (length-set turns place (begun_turn number t))

-- a changed turn leaves as many
pub with-length : (place number : ℕ) (turns : List Turn) → length turns ≡ length (turns_with place number turns)
with-length place number turns = with-length-at place number turns (slice_get turns place)

-- no section was begun more often than packets were put in
pub counts-few : (number base : ℕ) (some : List Group) (marks : List (Option ℕ)) → length marks ≤ number → All (λ (turn : Turn). turn.count ≤ number) (turns_from base some marks)
unfolding turns_from turn-of
counts-few number base [] marks le = search rules
counts-few number base (group ∷ others) marks le =
    let few : times_begun base marks ≤ length marks = count_by-le-length (begins base) marks in
    All-cons (λ (turn : Turn). turn.count ≤ number) (turn-of group.distance base marks) (turns_from (suc base) others marks) (let fits : times_begun base marks ≤ number = omega (arith, few, le) in fits)
    (counts-few number (suc base) others marks le)

-- the turn of a group tells how many of its sections were begun
pub times-at : (place base : ℕ) (some : List Group) (marks : List (Option ℕ))
    → section_after some place (option_map_or (λ (turn : Turn). turn.count) (slice_get (turns_from base some marks) place) 0)
    ≡ section_after some place (times_begun (base + place) marks)
unfolding turns_from turn-of
times-at place base [] marks = refl
times-at zero base (group ∷ others) marks =
    let here : base ≡ base + 0 = omega arith in ap (λ (p : ℕ). section_after (group ∷ others) 0 (times_begun p marks)) here
times-at (suc place) base (group ∷ others) marks =
    let next : suc base + place ≡ base + suc place = omega arith in
    times-at place (suc base) others marks ∙ ap (λ (p : ℕ). section_after others place (times_begun p marks)) next

-- each packet that was put in has a mark
pub marks-given : (some : List Group) (number : ℕ) → length (given_after some number).marks ≡ number
unfolding given_after
marks-given some zero = refl
marks-given some (suc number) = ap suc (marks-given some number)

-- what is left of a section comes first
left-first : (left next : List (List ℕ)) (place : ℕ) → is_some (first_row left) ≡ true → (due left next ≡ left) × (mark_of left place ≡ None)
left-first [] next place e = absurd cc
left-first (row ∷ rows) next place e = (refl, refl)

none-left : (left next : List (List ℕ)) (place : ℕ) → is_some (first_row left) ≡ false → (due left next ≡ next) × (mark_of left place ≡ Some place)
none-left [] next place e = (refl, refl)
none-left (row ∷ rows) next place e = absurd cc

-- the packet at a place is the first of what is left from there on
at-place : (rows : List (List ℕ)) (n : ℕ) → first_row (drop n rows) ≡ slice_get rows n
at-place [] zero = refl
at-place [] (suc n) = refl
at-place (row ∷ rows) zero = refl
at-place (row ∷ rows) (suc n) = at-place rows n

-- before the first packet
pub first-scheduled : (s : Schedule) → s.turns.items ≡ turns_from 0 s.groups.items [] → s.group ≡ length s.groups.items → s.packet ≡ 0 → Scheduled s 0
unfolding given_after
first-scheduled s turns at first = record {
  turns = turns;
  left = sym (
      ap (λ (n : ℕ). drop n (packets_at s.groups.items s.group s.section)) first
      ∙ ap (λ (found : Option Group). option_map_or (λ (group : Group). unwrap_or (slice_get group.sections s.section) []) found [])
      (slice_get_past s.groups.items s.group (let past : length s.groups.items ≤ s.group = omega (arith, at) in past))
      );
  few = omega (arith, first);
}

-- one group more has its turn, and in the end all have theirs
pub turns-more : (turns : List Turn) (place : ℕ) (group : Group) (rest : List Group)
    → (turns ++ first_turn group ∷ []) ++ turns_from (place + 1) rest [] ≡ turns ++ turns_from place (group ∷ rest) []
unfolding turns_from last_begun
turns-more turns place group rest =
    let next : place + 1 ≡ suc place = omega arith in
    append_assoc turns (first_turn group ∷ []) (turns_from (place + 1) rest [])
    ∙ ap (λ (p : ℕ). turns ++ (first_turn group ∷ turns_from p rest [])) next

pub turns-end : (turns : List Turn) (place : ℕ) → turns ≡ turns ++ turns_from place [] []
unfolding turns_from
turns-end turns place = sym (append-nil turns)

-- a packet is left of the section that is being given
pub still-coming : (s : Schedule) (number : ℕ) → Scheduled s number → is_some (slice_get (packets_at s.groups.items s.group s.section) s.packet) ≡ true → IsComing s number
unfolding given_after
still-coming s number stands some =
    let groups = s.groups.items in
    let given = given_after groups number in
    let left : is_some (first_row given.left) ≡ true =
    ap (λ (rows : List (List ℕ)). is_some (first_row rows)) stands.left
    ∙ ap (λ (row : Option (List ℕ)). is_some row) (at-place (packets_at groups s.group s.section) s.packet) ∙ some in
    let told = left-first given.left (next_section groups given) (next_group groups given) left in
    record {
      turns = stands.turns ∙ sym (turns-none 0 groups given.marks) ∙ ap (λ (mark : Option ℕ). turns_from 0 groups (mark ∷ given.marks)) (sym told.1);
      coming = told.0 ∙ stands.left;
      few = stands.few;
    }

-- none is left of it, and the next one begins
pub begun-coming : (s t : Schedule) (number place times : ℕ) → Scheduled s number
    → is_some (slice_get (packets_at s.groups.items s.group s.section) s.packet) ≡ false
    → place ≡ chosen s.turns.items number
    → times ≡ option_map_or (λ (turn : Turn). turn.count) (slice_get s.turns.items place) 0
    → t.groups.items ≡ s.groups.items → t.turns.items ≡ turns_with place number s.turns.items
    → t.group ≡ place → t.section ≡ section_after s.groups.items place times → t.packet ≡ 0
    → IsComing t number
unfolding given_after
begun-coming s t number place times stands none choice counted same turned at section first =
    let groups = s.groups.items in
    let given = given_after groups number in
    let left : is_some (first_row given.left) ≡ false =
    ap (λ (rows : List (List ℕ)). is_some (first_row rows)) stands.left
    ∙ ap (λ (row : Option (List ℕ)). is_some row) (at-place (packets_at groups s.group s.section) s.packet) ∙ none in
    let told = none-left given.left (next_section groups given) (next_group groups given) left in
    let group : place ≡ next_group groups given =
    choice ∙ ap (λ (ts : List Turn). chosen ts number) stands.turns ∙ ap (λ (n : ℕ). chosen (turns_from 0 groups given.marks) n) (sym (marks-given groups number)) in
    let from_none : 0 + place ≡ place = omega arith in
    let turns : t.turns.items ≡ turns_from 0 groups (Some place ∷ given.marks) =
    turned ∙ ap (λ (n : ℕ). turns_with place n s.turns.items) (sym (marks-given groups number))
    ∙ ap (λ (ts : List Turn). turns_with place (length given.marks) ts) stands.turns ∙ turns-begun place 0 groups given.marks
    ∙ ap (λ (p : ℕ). turns_from 0 groups (Some p ∷ given.marks)) from_none in
    let own : section_after groups place times ≡ section_after groups place (times_begun place given.marks) =
    ap (λ (n : ℕ). section_after groups place n) (counted ∙ ap (λ (ts : List Turn). option_map_or (λ (turn : Turn). turn.count) (slice_get ts place) 0) stands.turns)
    ∙ times-at place 0 groups given.marks ∙ ap (λ (p : ℕ). section_after groups place (times_begun p given.marks)) from_none in
    let rows : next_section groups given ≡ packets_at groups t.group t.section =
    ap (λ (p : ℕ). packets_at groups p (section_after groups p (times_begun p given.marks))) (sym group)
    ∙ ap (λ (n : ℕ). packets_at groups place n) (sym own ∙ sym section)
    ∙ ap (λ (p : ℕ). packets_at groups p t.section) (sym at) in
    let mark : Some place ≡ mark_of given.left (next_group groups given) = ap (λ (p : ℕ). Some p) group ∙ sym told.1 in
    record {
      turns = turns ∙ ap (λ (m : Option ℕ). turns_from 0 groups (m ∷ given.marks)) mark
          ∙ ap (λ (gs : List Group). turns_from 0 gs (given_after gs (suc number)).marks) (sym same);
      coming = ap (λ (gs : List Group). coming gs (given_after gs number)) same ∙ told.0 ∙ rows
          ∙ ap (λ (n : ℕ). drop n (packets_at groups t.group t.section)) (sym first)
          ∙ ap (λ (gs : List Group). drop t.packet (packets_at gs t.group t.section)) (sym same);
      few = omega (arith, first);
    }

-- the next packet is the first that is coming
pub row-coming : (s : Schedule) (groups : List Group) (number : ℕ) → IsComing s number → s.groups.items ≡ groups
    → slice_get (packets_at s.groups.items s.group s.section) s.packet ≡ first_row (coming groups (given_after groups number))
row-coming s groups number is same =
    sym (at-place (packets_at s.groups.items s.group s.section) s.packet) ∙ ap (λ (rows : List (List ℕ)). first_row rows) (sym is.coming)
    ∙ ap (λ (gs : List Group). first_row (coming gs (given_after gs number))) same

-- no packet came
no-row : (rows : List (List ℕ)) → first_row rows ≡ None → drop 1 rows ≡ rows
no-row [] e = refl
no-row (row ∷ rows) e = absurd cc

pub none-given : (s : Schedule) (number : ℕ) → IsComing s number → slice_get (packets_at s.groups.items s.group s.section) s.packet ≡ None → Scheduled s (number + 1)
unfolding given_after
none-given s number is none =
    let rows = packets_at s.groups.items s.group s.section in
    let next : suc number ≡ number + 1 = omega arith in
    subst (λ (n : ℕ). Scheduled s n) next (record {
      turns = is.turns;
      left = ap (λ (ps : List (List ℕ)). drop 1 ps) is.coming ∙ no-row (drop s.packet rows) (at-place rows s.packet ∙ none);
      few = omega (arith, is.few);
    })

-- a packet came
pub one-given : (s t : Schedule) (number : ℕ) → IsComing s number → t.groups.items ≡ s.groups.items → t.turns.items ≡ s.turns.items
    → t.group ≡ s.group → t.section ≡ s.section → t.packet ≡ s.packet + 1 → Scheduled t (number + 1)
unfolding given_after
one-given s t number is same turned at section more =
    let groups = s.groups.items in
    let next : suc number ≡ number + 1 = omega arith in
    let rows : drop 1 (coming groups (given_after groups number)) ≡ drop t.packet (packets_at groups t.group t.section) =
    ap (λ (ps : List (List ℕ)). drop 1 ps) is.coming ∙ drop-drop 1 s.packet (packets_at groups s.group s.section)
    ∙ ap (λ (n : ℕ). drop n (packets_at groups s.group s.section)) (sym more)
    ∙ ap (λ (g : ℕ). drop t.packet (packets_at groups g s.section)) (sym at)
    ∙ ap (λ (n : ℕ). drop t.packet (packets_at groups t.group n)) (sym section) in
    subst (λ (n : ℕ). Scheduled t n) next (record {
      turns = turned ∙ is.turns ∙ ap (λ (gs : List Group). turns_from 0 gs (given_after gs (suc number)).marks) (sym same);
      left = ap (λ (gs : List Group). drop 1 (coming gs (given_after gs number))) same ∙ rows ∙ ap (λ (gs : List Group). drop t.packet (packets_at gs t.group t.section)) (sym same);
      few = omega (arith, is.few, more);
    })
