-- Each step of the ring keeps its rule.
use Rattle.std.proofs.Common.{◌≡◌, ◌≢◌, ◌⊎◌, inl, inr, ⊎_elim, ℕ, zero, suc, ◌+◌, ◌<◌, ◌≤◌, List, [], ◌∷◌, ◌++◌, length, set, slice_index, ◌==◌, ne_eqb, eq-eqb, if◌then◌else◌, append-nil, Bool, true, false, true≢false, sym, refl, ap, ◌∙◌, subst, arith}
use mathlib.Core.Option.{none, some, some-injective, some-ne-none}
use lib.ListN.{get_elem?}
use prog.Atomic.{either}
use Rattle.atomic_table.specs.Table as table
use Rattle.atomic_table.specs.Table.{Step, Act, takes, gives, keeps, Allows}
use Rattle.atomic_table.proofs.Lists.{at_set, set_again, set_else, at_longer}
use Rattle.window_ring.specs.declared.view.Key.{Key}
use Rattle.chain_core.specs.Machine.{Visit, Allowed}
use Rattle.chain_core.specs.ChainRun.{state_after}
use Rattle.window_ring.specs.declared.state.State.{State}
use Rattle.window_ring.specs.declared.view.View.{View}
use Rattle.window_ring.specs.declared.view.Holding.{Holding}
use Rattle.window_ring.specs.Views.{NoneOf, Since, holding, at_rest, within, root_view, spent_view}
use Rattle.chain_model.specs.Each.{Each}
use Rattle.window_ring.specs.Stands.{visit_in, Stands}
use Rattle.window_ring.specs.Turns.{Knows, IsFree, IsTaken, Kept, Takes, Leaves, turned_away}

-- a fact about every view, after one of them has changed
all_set : (F : ℕ → View → Type 0) (views : List View) (id : ℕ) (w : View) → F id w → ((j : ℕ) (u : View) → j ≢ id → get_elem? views j ≡ some u → F j u)
    → (j : ℕ) (u : View) → get_elem? (set views id w) j ≡ some u → F j u
all_set F views id w mine others j u e = ⊎_elim (λ (x : (j ≡ id) × (w ≡ u)). subst (λ (y : ℕ × View). F y.0 y.1) (λ i. (sym x.0 i, x.1 i)) mine)
    (λ (x : (j ≢ id) × (get_elem? views j ≡ some u)). others j u x.0 x.1) (at_set views id j w u e)

each_map : {F G : Holding → Type 0} (hs : List Holding) → ((h : Holding) → F h → G h) → Each F hs → Each G hs
each_map [] f t = tt
each_map (h ∷ hs) f t = (f h t.0, each_map hs f t.1)

at_here : {A : Type 0} (l : List A) (i : ℕ) (a b : A) → get_elem? l i ≡ some a → get_elem? (set l i b) i ≡ some b
at_here [] i a b e = absurd (some-ne-none a (sym e))
at_here (x ∷ xs) zero a b e = refl
at_here (x ∷ xs) (suc i) a b e = at_here xs i a b e

not_true : (b : Bool) → (b ≡ true → ⊥) → b ≡ false
not_true true n = absurd (n refl)
not_true false n = refl

not_inside : (u : View) → (u.inside ≡ true → ⊥) → u.inside ≡ false
not_inside u n = not_true u.inside n

false≢true : false ≡ true → ⊥
false≢true e = true≢false (sym e)

module _ (key : Key) (id k : ℕ) (seen : List Visit) (busy : List ℕ) (st : Step State) where
  abbrev rest : View
  rest = at_rest key k seen busy

  -- the turn is taken, or found held by another stage
  pub take : k ≤ suc key.plan.plugins → Allows (Kept key) 1 id (rest, []) 0 (λ n. either (n == 0) (k + 1) n) (Takes st (rest, []))
  take stage s kept long at small = ⊎_elim (λ free. taken free) (λ held. found held) kept.turn
    where
      Goal : Type 0
      Goal = (w : View) × (a : Act State) × table.Valid s.homes [] a × Kept key (table.stepped s 0 (either (slice_index s.words 0 == 0) (k + 1) (slice_index s.words 0)) id [] w a) × Takes st (rest, []) (slice_index s.words 0) (w, table.carried_after [] a)

      mine : Knows key kept.history kept.owner kept.root kept.made id rest
      mine = kept.knows id rest at

      entered : View
      entered = within key k seen kept.history

      taken : IsFree key s kept.history → Goal
      taken free =
          let one : k + 1 ≡ suc k = omega arith in (
            entered,
            takes 0 free.value,
            ap (λ hs. get_elem? hs 0) free.home,
            record {
              history = kept.history;
              owner = kept.owner;
              root = kept.root;
              made = kept.made;
              run = kept.run;
              seated = kept.seated;
              knows = all_set (Knows key kept.history kept.owner kept.root kept.made) s.views id entered (record { held = mine.held; is_root = λ f. absurd (false≢true f) }) (λ j u n e. kept.knows j u e);
              turn = inr record {
                k = k;
                stage = stage;
                word = ap (λ ws. set ws 0 (either (slice_index ws 0 == 0) (k + 1) (slice_index ws 0))) free.word ∙ ap (λ n. n ∷ []) one;
                home = ap (λ hs. set hs 0 none) free.home;
                inside = all_set (λ j u. u.inside ≡ true → (j ≡ kept.owner k) × (u.at ≡ kept.history)) s.views id entered (λ _. (sym mine.held.0.0, refl)) (λ j u n e t. absurd (true≢false (sym t ∙ free.outside j u e)));
                seated = mine.held.0.1;
                by = (entered, ap (λ j. get_elem? (set s.views id entered) j) mine.held.0.0 ∙ at_here s.views id rest entered at, refl);
              };
            },
            inl (ap (λ ws. slice_index ws 0) free.word, record { history = kept.history; value = free.value; carries = refl; view = refl; stands = free.stands; run = kept.run; since = (mine.held.0.2, tt) }),
          )

      found : IsTaken key s kept.history kept.owner kept.made → Goal
      found held =
          let n : ℕ = slice_index s.words 0 in
          let is : n ≡ suc held.k = ap (λ ws. slice_index ws 0) held.word in
          let other : (n == 0) ≡ false = ne_eqb n 0 (λ e. omega (arith, is, e)) in
          let here : get_elem? s.words 0 ≡ some n = ap (λ ws. get_elem? ws 0) held.word ∙ ap some (sym is) in
          let words : set s.words 0 (either (n == 0) (k + 1) n) ≡ s.words = ap (λ b. set s.words 0 (either b (k + 1) n)) other ∙ set_again s.words 0 n here in
          let away : View = turned_away rest held.k in
          let apart : kept.owner held.k ≢ id = λ e. false≢true (ap (λ (u : View). u.inside) (some-injective rest held.by.0 (sym at ∙ ap (get_elem? s.views) (sym e) ∙ held.by.1)) ∙ held.by.2) in (
            away,
            keeps,
            tt,
            record {
              history = kept.history;
              owner = kept.owner;
              root = kept.root;
              made = kept.made;
              run = kept.run;
              seated = kept.seated;
              knows = all_set (Knows key kept.history kept.owner kept.root kept.made) s.views id away (record { held = mine.held; is_root = λ f. absurd (false≢true f) }) (λ j u n e. kept.knows j u e);
              turn = inr record {
                k = held.k;
                stage = held.stage;
                word = words ∙ held.word;
                home = held.home;
                inside = all_set (λ j u. u.inside ≡ true → (j ≡ kept.owner held.k) × (u.at ≡ kept.history)) s.views id away (λ t. absurd (false≢true t)) (λ j u n e t. held.inside j u e t);
                seated = held.seated;
                by = (held.by.0, set_else s.views id (kept.owner held.k) away apart ∙ held.by.1, held.by.2);
              };
            },
            inr record {
              holder = held.k;
              told = refl;
              is = is;
              stage = held.stage;
              another = ((λ e. apart (ap kept.owner (sym e) ∙ mine.held.0.0)), tt);
            },
          )

-- the turn is left: the visit is one event of the run, and the last one
module _ (key : Key) (id k : ℕ) (seen history : List Visit) (value : State) (st : Step State) where
  abbrev inside : View
  inside = within key k seen history

  pub leave : (visit_in key.plan value).stage ≡ k → Stands key value (visit_in key.plan value ∷ history) → Allowed key.plan (state_after key.plan history) (visit_in key.plan value)
      → Allows (Kept key) 1 id (inside, (0, value) ∷ []) 0 (λ _. 0) (λ n. Leaves st (inside, (0, value) ∷ []) 0)
  leave is stands allowed s kept long at small = ⊎_elim (λ free. absurd (true≢false (free.outside id inside at))) (λ held. left held) kept.turn
    where
      visit : Visit
      visit = visit_in key.plan value

      w : View
      w = at_rest key visit.stage (visit ∷ history) []

      mine : Knows key kept.history kept.owner kept.root kept.made id inside
      mine = kept.knows id inside at

      left : IsTaken key s kept.history kept.owner kept.made
          → (w : View) × (a : Act State) × table.Valid s.homes ((0, value) ∷ []) a × Kept key (table.stepped s 0 0 id ((0, value) ∷ []) w a) × Leaves st (inside, (0, value) ∷ []) 0 (w, table.carried_after ((0, value) ∷ []) a)
      left held =
          let same : history ≡ kept.history = (held.inside id inside at refl).1 in
          let owned : kept.owner visit.stage ≡ id = ap kept.owner is ∙ mine.held.0.0 in
          let now : List Visit = visit ∷ kept.history in
          let more : (j : ℕ) (u : View) → j ≢ id → Knows key kept.history kept.owner kept.root kept.made j u → Knows key now kept.owner kept.root kept.made j u =
          λ j u apart old. record {
            held = each_map u.held (λ h t. (t.0, t.1, (visit ∷ t.2.0, ((λ e. apart (sym t.0 ∙ ap kept.owner (sym e) ∙ owned)), t.2.1), ap (λ l. visit ∷ l) t.2.2))) old.held;
            is_root = old.is_root;
          } in (
            w,
            gives,
            tt,
            record {
              history = now;
              owner = kept.owner;
              root = kept.root;
              made = kept.made;
              run = (kept.run, subst (λ h. Allowed key.plan (state_after key.plan h) visit) same allowed);
              seated = (subst (λ j. j < kept.made) (sym is) mine.held.0.1, kept.seated);
              knows = all_set (Knows key now kept.owner kept.root kept.made) s.views id w
                  (record { held = ((owned, subst (λ j. j < kept.made) (sym is) mine.held.0.1, ([], tt, ap (λ l. visit ∷ l) (sym same))), tt); is_root = λ f. absurd (false≢true f) })
                  (λ j u n e. more j u n (kept.knows j u e));
              turn = inl record {
                word = ap (λ ws. set ws 0 0) held.word;
                value = value;
                home = ap (λ hs. set hs 0 (some value)) held.home;
                stands = subst (λ h. Stands key value (visit ∷ h)) same stands;
                outside = all_set (λ j u. u.inside ≡ false) s.views id w refl
                    (λ j u n e. not_inside u (λ t. n ((held.inside j u e t).0 ∙ sym (held.inside id inside at refl).0)));
              };
            },
            record { value = value; carried = refl; left = refl },
          )

-- a number's owner, when one of them changes
abbrev owner_with : (ℕ → ℕ) → ℕ → ℕ → ℕ → ℕ
owner_with owner k id j = if j == k then id else owner j

with_here : (owner : ℕ → ℕ) (k id j : ℕ) → j ≡ k → owner_with owner k id j ≡ id
with_here owner k id j e = ap (λ b. if b then id else owner j) (eq-eqb j k e)

with_else : (owner : ℕ → ℕ) (k id j : ℕ) → j ≢ k → owner_with owner k id j ≡ owner j
with_else owner k id j n = ap (λ b. if b then id else owner j) (ne_eqb j k n)

at_end : {A : Type 0} (l : List A) (a b : A) (j : ℕ) → get_elem? (l ++ a ∷ []) j ≡ some b → ((get_elem? l j ≡ some b) × (j < length l)) ⊎ ((a ≡ b) × (j ≡ length l))
at_end [] a b zero e = inr (some-injective a b e, refl)
at_end [] a b (suc j) e = absurd (some-ne-none b (sym e))
at_end (x ∷ xs) a b zero e = inl (e, omega arith)
at_end (x ∷ xs) a b (suc j) e = ⊎_elim (λ t. let lt = t.1 in inl (t.0, omega arith)) (λ t. inr (t.0, ap suc t.1)) (at_end xs a b j e)

none_above : (made : ℕ) (vs : List Visit) → Each (λ (v : Visit). v.stage < made) vs → NoneOf made vs
none_above made [] t = tt
none_above made (v ∷ vs) t = ((λ e. let lt = t.0 in omega (arith, e, lt)), none_above made vs t.1)

each_weaker : (made : ℕ) (vs : List Visit) → Each (λ (v : Visit). v.stage < made) vs → Each (λ (v : Visit). v.stage < made + 1) vs
each_weaker made [] t = tt
each_weaker made (v ∷ vs) t = (let lt = t.0 in omega (arith, lt), each_weaker made vs t.1)

-- a stage's seat is split from the root
module _ (key : Key) (id made : ℕ) (held : List Holding) where
  abbrev root : View
  root = root_view key made held

  abbrev further : View
  further = root_view key (made + 1) held

  abbrev fresh : View
  fresh = at_rest key made [] []

  pub split : table.Splits (Kept key) id root further fresh
  split s kept at =
      let mine = kept.knows id root at in
      let made_is : made ≡ kept.made = (mine.is_root refl).1 in
      let views = set s.views id further in
      let seat : ℕ = length views in
      let owner = owner_with kept.owner kept.made seat in
      let stays : (k : ℕ) → k < kept.made → owner k ≡ kept.owner k = λ k lt. with_else kept.owner kept.made seat k (λ e. omega (arith, e, lt)) in
      let next : kept.made + 1 ≡ made + 1 = ap (λ n. n + 1) (sym made_is) in
      let New = Knows key kept.history owner id (made + 1) in
      let more : (j : ℕ) (u : View) (hs : List Holding) → Each (λ (h : Holding). (kept.owner h.stage ≡ j) × (h.stage < kept.made) × Since h.stage h.seen kept.history) hs → Each (λ (h : Holding). (owner h.stage ≡ j) × (h.stage < made + 1) × Since h.stage h.seen kept.history) hs =
      λ j u hs t. each_map hs (λ h x. (with_else kept.owner kept.made seat h.stage (let lt = x.1 in λ e. omega (arith, e, lt)) ∙ x.0, (let lt = x.1 in omega (arith, lt, made_is)), x.2)) t in
      let old : (j : ℕ) (u : View) → get_elem? views j ≡ some u → New j u =
      all_set New s.views id further (record { held = more id further held mine.held; is_root = λ _. (refl, refl) })
      (λ j u n e. let k = kept.knows j u e in record { held = more j u u.held k.held; is_root = λ t. absurd (n ((k.is_root t).0 ∙ sym (mine.is_root refl).0)) }) in
      let Inside : ℕ → View → Type 0 = λ j u. u.inside ≡ true → get_elem? s.views j ≡ some u in
      let was : (j : ℕ) (u : View) → get_elem? views j ≡ some u → Inside j u = all_set Inside s.views id further (λ t. absurd (false≢true t)) (λ j u n e _. e) in
      let busy : (j : ℕ) (u : View) → get_elem? (views ++ fresh ∷ []) j ≡ some u → u.inside ≡ true → get_elem? s.views j ≡ some u =
      λ j u e t. ⊎_elim (λ x. was j u x.0 t) (λ x. absurd (false≢true (ap (λ (y : View). y.inside) x.0 ∙ t))) (at_end views fresh u j e) in
      record {
        history = kept.history;
        owner = owner;
        root = id;
        made = made + 1;
        run = kept.run;
        seated = subst (λ n. Each (λ (v : Visit). v.stage < n) kept.history) next (each_weaker kept.made kept.history kept.seated);
        knows = λ j u e. ⊎_elim (λ x. old j u x.0)
            (λ x. subst (λ (y : ℕ × View). New y.0 y.1) (λ i. (sym x.1 i, x.0 i))
            (record { held = ((with_here kept.owner kept.made seat made made_is, omega arith, (kept.history, none_above made kept.history (subst (λ n. Each (λ (v : Visit). v.stage < n) kept.history) (sym made_is) kept.seated), sym (append-nil kept.history))), tt); is_root = λ f. absurd (false≢true f) })) (at_end views fresh u j e);
        turn = ⊎_elim (λ free. inl record {
          word = free.word;
          value = free.value;
          home = free.home;
          stands = free.stands;
          outside = λ j u e. not_inside u (λ t. true≢false (sym t ∙ free.outside j u (busy j u e t)));
        })
            (λ taken. inr record {
              k = taken.k;
              stage = taken.stage;
              word = taken.word;
              home = taken.home;
              inside = λ j u e t. let x = taken.inside j u (busy j u e t) t in (x.0 ∙ sym (stays taken.k taken.seated), x.1);
              seated = let lt = taken.seated in omega (arith, lt, made_is);
              by = (
                taken.by.0,
                ap (get_elem? (views ++ fresh ∷ [])) (stays taken.k taken.seated)
                    ∙ at_longer views (fresh ∷ []) (kept.owner taken.k) taken.by.0 (set_else s.views id (kept.owner taken.k) further
                    (λ e. false≢true (ap (λ (u : View). u.inside) (some-injective root taken.by.0 (sym at ∙ ap (get_elem? s.views) (sym e) ∙ taken.by.1)) ∙ taken.by.2)) ∙ taken.by.1),
                taken.by.2,
              );
            }) kept.turn;
      }

-- what one seat owns goes to another
abbrev owner_moved : (ℕ → ℕ) → ℕ → ℕ → ℕ → ℕ
owner_moved owner from to j = if owner j == from then to else owner j

moved_here : (owner : ℕ → ℕ) (from to j : ℕ) → owner j ≡ from → owner_moved owner from to j ≡ to
moved_here owner from to j e = ap (λ b. if b then to else owner j) (eq-eqb (owner j) from e)

moved_else : (owner : ℕ → ℕ) (from to j : ℕ) → owner j ≢ from → owner_moved owner from to j ≡ owner j
moved_else owner from to j n = ap (λ b. if b then to else owner j) (ne_eqb (owner j) from n)

-- a stage's seat at rest is joined into the root
module _ (key : Key) (id made : ℕ) (held : List Holding) (other k : ℕ) (seen : List Visit) (busy : List ℕ) where
  abbrev first : View
  first = root_view key made held

  abbrev both : View
  both = root_view key made (holding k seen ∷ held)

  abbrev gone : View
  gone = at_rest key k seen busy

  pub join : table.Joins (Kept key) id first other gone both spent_view
  join s kept at apart at' =
      let mine = kept.knows id first at in
      let was : get_elem? s.views other ≡ some gone = sym (set_else s.views id other both apart) ∙ at' in
      let theirs = kept.knows other gone was in
      let owner = owner_moved kept.owner other id in
      let views = set (set s.views id both) other spent_view in
      let New = Knows key kept.history owner kept.root kept.made in
      let more : (j : ℕ) (hs : List Holding) → j ≢ other → Each (λ (h : Holding). (kept.owner h.stage ≡ j) × (h.stage < kept.made) × Since h.stage h.seen kept.history) hs → Each (λ (h : Holding). (owner h.stage ≡ j) × (h.stage < kept.made) × Since h.stage h.seen kept.history) hs =
      λ j hs n t. each_map hs (λ h x. (moved_else kept.owner other id h.stage (λ e. n (sym x.0 ∙ e)) ∙ x.0, x.1, x.2)) t in
      let Old : ℕ → View → Type 0 = λ j u. j ≢ other → New j u in
      let old : (j : ℕ) (u : View) → get_elem? (set s.views id both) j ≡ some u → Old j u =
      all_set Old s.views id both
      (λ n. record { held = ((moved_here kept.owner other id k theirs.held.0.0, theirs.held.0.1, theirs.held.0.2), more id held n mine.held); is_root = λ _. mine.is_root refl })
      (λ j u m e n. let x = kept.knows j u e in record { held = more j u.held n x.held; is_root = x.is_root }) in
      let Inside : ℕ → View → Type 0 = λ j u. u.inside ≡ true → (j ≢ other) × (get_elem? s.views j ≡ some u) in
      let busy : (j : ℕ) (u : View) → get_elem? views j ≡ some u → Inside j u =
      all_set Inside (set s.views id both) other spent_view (λ t. absurd (false≢true t))
      (λ j u n e t. (n, all_set (λ j u. u.inside ≡ true → get_elem? s.views j ≡ some u) s.views id both (λ t. absurd (false≢true t)) (λ j u n e _. e) j u e t)) in
      record {
        history = kept.history;
        owner = owner;
        root = kept.root;
        made = kept.made;
        run = kept.run;
        seated = kept.seated;
        knows = all_set New (set s.views id both) other spent_view (record { held = tt; is_root = λ f. absurd (false≢true f) }) (λ j u n e. old j u e n);
        turn = ⊎_elim (λ free. inl record {
          word = free.word;
          value = free.value;
          home = free.home;
          stands = free.stands;
          outside = λ j u e. not_inside u (λ t. true≢false (sym t ∙ free.outside j u (busy j u e t).1));
        })
            (λ taken. let stays : kept.owner taken.k ≢ other = λ e. false≢true (ap (λ (u : View). u.inside) (some-injective gone taken.by.0 (sym was ∙ ap (get_elem? s.views) (sym e) ∙ taken.by.1)) ∙ taken.by.2) in
            let lasts : kept.owner taken.k ≢ id = λ e. false≢true (ap (λ (u : View). u.inside) (some-injective first taken.by.0 (sym at ∙ ap (get_elem? s.views) (sym e) ∙ taken.by.1)) ∙ taken.by.2) in
            let same = moved_else kept.owner other id taken.k stays in
            inr record {
              k = taken.k;
              stage = taken.stage;
              word = taken.word;
              home = taken.home;
              inside = λ j u e t. let b = busy j u e t in let x = taken.inside j u b.1 t in (x.0 ∙ sym same, x.1);
              seated = taken.seated;
              by = (taken.by.0, ap (get_elem? views) same ∙ set_else (set s.views id both) other (kept.owner taken.k) spent_view stays ∙ set_else s.views id (kept.owner taken.k) both lasts ∙ taken.by.1, taken.by.2);
            }) kept.turn;
      }

-- once every stage's seat is joined into the root, the value stands for the run
pub closes : (key : Key) (s : table.State State View) (id made : ℕ) (held : List Holding) → (kept : Kept key s) → get_elem? s.views id ≡ some (root_view key made held)
    → ((k : ℕ) → k ≤ suc key.plan.plugins → (h : Holding) × (h.stage ≡ k) × (kept.owner k ≡ id))
    → IsFree key s kept.history
closes key s id made held kept at all = ⊎_elim (λ free. free)
    (λ taken. absurd (false≢true (ap (λ (u : View). u.inside) (some-injective (root_view key made held) taken.by.0 (sym at ∙ ap (get_elem? s.views) (sym (all taken.k taken.stage).2) ∙ taken.by.1)) ∙ taken.by.2))) kept.turn
