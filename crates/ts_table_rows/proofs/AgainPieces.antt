-- The bodies of the sections of a table: each can be read again, and joined they are the body of the table.
use Rattle.std.proofs.Common.{◌≡◌, ℕ, ◌+◌, ◌≤◌, Bool, true, false, List, [], ◌∷◌, ◌++◌, length, map, refl, sym, ap, ◌∙◌, subst, arith, append-nil, length-append}
use Rattle.std.specs.Prelude.{Option, Some, None, Ok, All, nat_lt, nat_le, if◌then◌else◌}
use Rattle.std.specs.List.{flat_map, list_all}
use Rattle.std.proofs.lemmas.Bool.{and_parts, and_from, ltb-false, cond_both, false≢true}
use Rattle.std.proofs.lemmas.List.Elements.{All-head, All-tail, All-nil, All-cons, All-append}
use Rattle.ts_bits.specs.TaggedBody.{TaggedBody, IsDescriptor, descriptor_bytes, loop_bytes}
use Rattle.ts_fields.specs.Layout.{Held}
use Rattle.ts_table_rows.specs.declared.layout.LoopForm.{LoopForm}
use Rattle.ts_table_rows.specs.declared.layout.LoopForm.TheVariants.{Absent, Counted, ToEnd}
use Rattle.ts_table_rows.specs.TablePages.{ItemPage, TablePage}
use Rattle.ts_table_rows.specs.TableValues.{ItemHolding, BodyHolding, no_body, joined}
use Rattle.ts_table_rows.specs.TableFitting.{DescriptorsFit, item_fits, items_fit, own_fit, body_fits}
use Rattle.ts_table_rows.specs.Filling.{pieces, total, join, Each, AllFit}
use Rattle.ts_table_rows.specs.BodySpelling.{item_row, body_row}
use Rattle.ts_table_rows.specs.TableSections.{Thing, own_thing, item_thing, things, owns_in, items_in, piece_body, thing_size, length_with, empty_length, room_in, first_large, plus, above, unless_large, body_rows}
use Rattle.ts_table_rows.proofs.SizeLemmas.{SpelledBits}
use Rattle.ts_table_rows.proofs.GreedyLemmas.{pieces_join, pieces_fit}
use Rattle.ts_table_rows.proofs.NumberLemmas.{FitBody, body_parts}
use Rattle.ts_table_rows.proofs.RunLemmas.{joined-none}
use Rattle.ts_table_rows.proofs.FitLemmas.{own-append, items-append}
use Rattle.ts_table_rows.proofs.BodyLemmas.{piece_rows, row-size, owns-things, items-things, unless-ok, plus-none, above-none, some_none}
use Rattle.ts_table_rows.proofs.AgainBody.{Serves}

-- ---- things that a section can hold

abbrev ThingServes : TablePage → Thing → Type 0
ThingServes p (own_thing d) = (own_fit p.loop_form (d ∷ []) ≡ true) × IsDescriptor d
ThingServes p (item_thing x) = (items_fit p.items (x ∷ []) ≡ true) × All (λ d. IsDescriptor d) x.descriptors

own-parts : (form : LoopForm) (d : TaggedBody) (ds : List TaggedBody) → own_fit form (d ∷ ds) ≡ true → (own_fit form (d ∷ []) ≡ true) × (own_fit form ds ≡ true)
own-parts Absent d ds fit = cc
own-parts Counted d ds fit = (refl, refl)
own-parts ToEnd d ds fit = (refl, refl)

items-parts : (i : Option ItemPage) (x : ItemHolding) (xs : List ItemHolding) → items_fit i (x ∷ xs) ≡ true → (items_fit i (x ∷ []) ≡ true) × (items_fit i xs ≡ true)
items-parts None x xs fit = cc
items-parts (Some i) x xs fit =
    let parts = and_parts (item_fits i x) (list_all (item_fits i) xs) fit in
    (and_from (item_fits i x) true parts.0 refl, parts.1)

things-serve : (p : TablePage) (ds : List TaggedBody) (xs : List ItemHolding) → own_fit p.loop_form ds ≡ true → items_fit p.items xs ≡ true → All (λ d. IsDescriptor d) ds → All (λ x. All (λ d. IsDescriptor d) x.descriptors) xs → All (λ t. ThingServes p t) (map own_thing ds ++ map item_thing xs)
things-serve p [] [] own items some described = All-nil (λ t. ThingServes p t)
things-serve p [] (x ∷ xs) own items some described =
    let parts = items-parts p.items x xs items in
    All-cons (λ t. ThingServes p t) (item_thing x) (map item_thing xs) (parts.0, All-head (λ y. All (λ d. IsDescriptor d) y.descriptors) x xs described)
    (things-serve p [] xs own parts.1 some (All-tail (λ y. All (λ d. IsDescriptor d) y.descriptors) x xs described))
things-serve p (d ∷ ds) xs own items some described =
    let parts = own-parts p.loop_form d ds own in
    All-cons (λ t. ThingServes p t) (own_thing d) (map own_thing ds ++ map item_thing xs) (parts.0, All-head (λ d. IsDescriptor d) d ds some)
    (things-serve p ds xs parts.1 items (All-tail (λ d. IsDescriptor d) d ds some) described)

-- the contents of a piece of them
record PieceServes (p : TablePage) (piece : List Thing) : Type 0 where
  own : own_fit p.loop_form (owns_in piece) ≡ true
  items : items_fit p.items (items_in piece) ≡ true
  owned : All (λ d. IsDescriptor d) (owns_in piece)
  described : All (λ x. All (λ d. IsDescriptor d) x.descriptors) (items_in piece)

own-none : (form : LoopForm) → own_fit form [] ≡ true
own-none Absent = refl
own-none Counted = refl
own-none ToEnd = refl

items-none : (i : Option ItemPage) → items_fit i [] ≡ true
items-none None = refl
items-none (Some i) = refl

piece-serves : (p : TablePage) (piece : List Thing) → All (λ t. ThingServes p t) piece → PieceServes p piece
piece-serves p [] all = record {
  own = own-none p.loop_form;
  items = items-none p.items;
  owned = All-nil (λ d. IsDescriptor d);
  described = All-nil (λ x. All (λ d. IsDescriptor d) x.descriptors);
}
piece-serves p (own_thing d ∷ piece) all =
    let here : ThingServes p (own_thing d) = All-head (λ t. ThingServes p t) (own_thing d) piece all in
    let more = piece-serves p piece (All-tail (λ t. ThingServes p t) (own_thing d) piece all) in
    record {
      own = own-append p.loop_form (d ∷ []) (owns_in piece) here.0 more.own;
      items = more.items;
      owned = All-cons (λ d. IsDescriptor d) d (owns_in piece) here.1 more.owned;
      described = more.described;
    }
piece-serves p (item_thing x ∷ piece) all =
    let here : ThingServes p (item_thing x) = All-head (λ t. ThingServes p t) (item_thing x) piece all in
    let more = piece-serves p piece (All-tail (λ t. ThingServes p t) (item_thing x) piece all) in
    record {
      own = more.own;
      items = items-append p.items (x ∷ []) (items_in piece) here.0 more.items;
      owned = more.owned;
      described = All-cons (λ x. All (λ d. IsDescriptor d) x.descriptors) x (items_in piece) here.1 more.described;
    }

-- what holds of all things holds of those of each piece
pieces_keep : {A : Type 0} (P : A → Type 0) (size : A → ℕ) (room used : ℕ) (hand xs : List A) → All P hand → All P xs → All (λ q. All P q) (pieces size room used hand xs)
unfolding pieces
pieces_keep P size room used hand [] held all = All-cons (λ q. All P q) hand [] held (All-nil (λ q. All P q))
pieces_keep P size room used hand (x ∷ xs) held all = cond_both (nat_le (used + size x) room) _ _ (All (λ q. All P q))
    (λ small. pieces_keep P size room (used + size x) (hand ++ x ∷ []) xs (All-append P hand (x ∷ []) held (All-cons P x [] (All-head P x xs all) (All-nil P))) (All-tail P x xs all))
    (λ large.
    All-cons (λ q. All P q) hand (pieces size room (size x) (x ∷ []) xs) held
    (pieces_keep P size room (size x) (x ∷ []) xs (All-cons P x [] (All-head P x xs all) (All-nil P)) (All-tail P x xs all)))

-- there is always a piece
abbrev HasFirst : {A : Type 0} → List (List A) → Type 0
HasFirst {A = A} ps = (q : List A) × (qs : List (List A)) × (ps ≡ q ∷ qs)

first_is : {A : Type 0} (size : A → ℕ) (room used : ℕ) (hand xs : List A) → HasFirst (pieces size room used hand xs)
unfolding pieces
first_is size room used hand [] = (hand, [], refl)
first_is size room used hand (x ∷ xs) =
    cond_both (nat_le (used + size x) room) (pieces size room (used + size x) (hand ++ x ∷ []) xs) (hand ∷ pieces size room (size x) (x ∷ []) xs) HasFirst
    (λ small. first_is size room (used + size x) (hand ++ x ∷ []) xs)
    (λ large. (hand, pieces size room (size x) (x ∷ []) xs, refl))

-- ---- how long a section is

piece-total : (p : TablePage) (piece : List Thing) → length (loop_bytes (owns_in piece)) + length (flat_map (item_row p.items) (items_in piece)) ≡ total (thing_size p) piece
piece-total p [] = refl
piece-total p (own_thing d ∷ piece) = omega (arith, length-append (descriptor_bytes d) (loop_bytes (owns_in piece)), piece-total p piece)
piece-total p (item_thing x ∷ piece) = omega (arith, length-append (item_row p.items x) (flat_map (item_row p.items) (items_in piece)), piece-total p piece)

piece-room : SpelledBits → (p : TablePage) (values : List Held) (piece : List Thing) → total (thing_size p) piece ≤ room_in p values → empty_length p values ≤ p.most → length_with p (piece_body values piece) ≤ p.most
piece-room laws p values piece inside least = omega (arith, row-size laws p values (piece_rows p.items piece), piece-total p piece)

each_small : (p : TablePage) (room : ℕ) (xs : List Thing) → first_large p room xs ≡ None → Each (thing_size p) room xs
each_small p room [] none = tt
each_small p room (x ∷ xs) none =
    cond_both (nat_lt room (thing_size p x)) _ _ (λ o. o ≡ None → (thing_size p x ≤ room) × Each (thing_size p) room xs)
    (λ large is. absurd (some_none (thing_size p x) is))
    (λ small later. (ltb-false room (thing_size p x) small, each_small p room xs later)) none

pieces-serve : SpelledBits → (p : TablePage) (values : List Held) (ps : List (List Thing)) → empty_length p values ≤ p.most → AllFit (thing_size p) (room_in p values) ps → All (λ q. All (λ t. ThingServes p t) q) ps → All (λ c. Serves p values c) (map (piece_body values) ps)
pieces-serve laws p values [] least inside all = All-nil (λ c. Serves p values c)
pieces-serve laws p values (q ∷ ps) least inside all =
    let here = piece-serves p q (All-head (λ q. All (λ t. ThingServes p t) q) q ps all) in
    let one : Serves p values (piece_body values q) = record {
      same = refl;
      own = here.own;
      items = here.items;
      owned = here.owned;
      described = here.described;
      room = piece-room laws p values q inside.0 least;
    } in
    All-cons (λ c. Serves p values c) (piece_body values q) (map (piece_body values) ps) one
    (pieces-serve laws p values ps least inside.1 (All-tail (λ q. All (λ t. ThingServes p t) q) q ps all))

-- ---- bodies joined

abbrev pub join_bodies : List BodyHolding → BodyHolding
join_bodies [] = no_body
join_bodies (c ∷ cs) = joined c (join_bodies cs)

owns-append : (a b : List Thing) → owns_in (a ++ b) ≡ owns_in a ++ owns_in b
owns-append [] b = refl
owns-append (own_thing d ∷ a) b = ap (λ l. d ∷ l) (owns-append a b)
owns-append (item_thing x ∷ a) b = owns-append a b

items-in-append : (a b : List Thing) → items_in (a ++ b) ≡ items_in a ++ items_in b
items-in-append [] b = refl
items-in-append (own_thing d ∷ a) b = items-in-append a b
items-in-append (item_thing x ∷ a) b = ap (λ l. x ∷ l) (items-in-append a b)

abbrev holding : List Held → List TaggedBody → List ItemHolding → BodyHolding
holding vs ds xs = record { values = vs; descriptors = ds; items = xs }

body-append : (values : List Held) (a b : List Thing) → joined (piece_body values a) (piece_body values b) ≡ piece_body values (a ++ b)
body-append values a b =
    ap (λ ds. holding values ds (items_in a ++ items_in b)) (sym (owns-append a b)) ∙ ap (λ xs. holding values (owns_in (a ++ b)) xs) (sym (items-in-append a b))

bodies-joined : (values : List Held) (q : List Thing) (ps : List (List Thing)) → join_bodies (map (piece_body values) (q ∷ ps)) ≡ piece_body values (join (q ∷ ps))
bodies-joined values q [] = joined-none (piece_body values q) ∙ ap (piece_body values) (sym (append-nil q))
bodies-joined values q (r ∷ ps) = ap (joined (piece_body values q)) (bodies-joined values r ps) ∙ body-append values q (join (r ∷ ps))

things-body : (b : BodyHolding) → piece_body b.values (things b) ≡ b
things-body b =
    ap (λ ds. holding b.values ds (items_in (things b))) (owns-things b.descriptors b.items) ∙ ap (λ xs. holding b.values b.descriptors xs) (items-things b.descriptors b.items)

-- ---- the bodies of a table

pub record Bodies (p : TablePage) (b : BodyHolding) (rows : List (List ℕ)) : Type 0 where
  pub first : BodyHolding
  pub others : List BodyHolding
  pub are : rows ≡ map (body_row p) (first ∷ others)
  pub serve : All (λ c. Serves p b.values c) (first ∷ others)
  pub whole : join_bodies (first ∷ others) ≡ b
  pub one : p.single ≡ true → others ≡ []

single-bodies : (p : TablePage) (b : BodyHolding) (rows : List (List ℕ)) → FitBody p b → DescriptorsFit b → unless_large (above p.most (length_with p b)) (map (body_row p) (b ∷ [])) ≡ Ok rows → Bodies p b rows
single-bodies p b rows fit some is =
    let parts = unless-ok (above p.most (length_with p b)) (map (body_row p) (b ∷ [])) rows is in
    let one : Serves p b.values b = record {
      same = refl;
      own = fit.own;
      items = fit.items;
      owned = some.own;
      described = some.items;
      room = above-none p.most (length_with p b) parts.0;
    } in
    record {
      first = b;
      others = [];
      are = sym parts.1;
      serve = All-cons (λ c. Serves p b.values c) b [] one (All-nil (λ c. Serves p b.values c));
      whole = joined-none b;
      one = λ single. refl;
    }

several-bodies : SpelledBits → (p : TablePage) (b : BodyHolding) (rows : List (List ℕ)) → p.single ≡ false → FitBody p b → DescriptorsFit b → empty_length p b.values ≤ p.most
    → unless_large (plus (empty_length p b.values) (first_large p (room_in p b.values) (things b))) (map (body_row p) (map (piece_body b.values) (pieces (thing_size p) (room_in p b.values) 0 [] (things b)))) ≡ Ok rows → Bodies p b rows
several-bodies laws p b rows several fit some least is =
    let room : ℕ = room_in p b.values in
    let ps : List (List Thing) = pieces (thing_size p) room 0 [] (things b) in
    let parts = unless-ok (plus (empty_length p b.values) (first_large p room (things b))) (map (body_row p) (map (piece_body b.values) ps)) rows is in
    let each = each_small p room (things b) (plus-none (empty_length p b.values) (first_large p room (things b)) parts.0) in
    let inside : AllFit (thing_size p) room ps = pieces_fit (thing_size p) room 0 [] (things b) each refl (omega arith) in
    let all = pieces_keep (λ t. ThingServes p t) (thing_size p) room 0 [] (things b) (All-nil (λ t. ThingServes p t)) (things-serve p b.descriptors b.items fit.own fit.items some.own some.items) in
    let serve = pieces-serve laws p b.values ps least inside all in
    let first = first_is (thing_size p) room 0 [] (things b) in
    let same : map (piece_body b.values) ps ≡ piece_body b.values first.0 ∷ map (piece_body b.values) first.1 = ap (map (piece_body b.values)) first.2 in
    record {
      first = piece_body b.values first.0;
      others = map (piece_body b.values) first.1;
      are = sym parts.1 ∙ ap (map (body_row p)) same;
      serve = subst (All (λ c. Serves p b.values c)) same serve;
      whole = bodies-joined b.values first.0 first.1 ∙ ap (λ qs. piece_body b.values (join qs)) (sym first.2) ∙ ap (piece_body b.values) (pieces_join (thing_size p) room 0 [] (things b)) ∙ things-body b;
      one = λ single. absurd (false≢true (sym several ∙ single));
    }

-- both sides of a choice in a refusal and in the bodies
by_kind : {P : Type 0} (f : BodyHolding → List ℕ) (single large : Bool) (n m : Option ℕ) (least : ℕ) (us vs : List BodyHolding) (rows : List (List ℕ)) → (single ≡ true → unless_large n (map f us) ≡ Ok rows → P) → (single ≡ false → large ≡ false → unless_large m (map f vs) ≡ Ok rows → P)
    → unless_large (if single then n else (if large then Some least else m)) (map f (if single then us else vs)) ≡ Ok rows → P
by_kind f true large n m least us vs rows one several is = one refl is
by_kind f false true n m least us vs rows one several is = cc
by_kind f false false n m least us vs rows one several is = several refl refl is

pub bodies-of : SpelledBits → (p : TablePage) (b : BodyHolding) (rows : List (List ℕ)) → body_fits p b ≡ true → DescriptorsFit b → body_rows p b ≡ Ok rows → Bodies p b rows
unfolding body_rows
bodies-of laws p b rows fits some is =
    let fit = body_parts p b fits in
    by_kind (body_row p) p.single (nat_lt p.most (empty_length p b.values)) _ _ (empty_length p b.values) _ _ rows
    (λ single read. single-bodies p b rows fit some read)
    (λ several small read. several-bodies laws p b rows several fit some (ltb-false p.most (empty_length p b.values) small) read) is
