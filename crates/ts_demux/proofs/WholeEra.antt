-- The sections of a complete era are a whole run.
use Rattle.std.proofs.Common.{◌≡◌, ℕ, ◌+◌, ◌<◌, Bool, true, false, ◌&&◌, ◌==◌, List, [], ◌∷◌, ◌++◌, length, get_or, zero, suc, Option, Some, None, is_some, find, refl, sym, ◌∙◌, ap, arith, inl, inr, Result, Ok, Err, IfOk, IfErr, not, All, subst, replicate}
use Rattle.std.specs.List.{list_all, filter_map}
use Rattle.std.specs.Result.{result_ok}
use Rattle.std.proofs.lemmas.Bool.{eqb-true}
use Rattle.std.proofs.lemmas.List.FromFn.{get_or-map-range_with_len, length-map-range_with_len}
use Rattle.std.proofs.lemmas.List.Elements.{All-head, All-tail}
use Rattle.ts_section.specs.SectionFields.{number_of, last_number_of}
use Rattle.ts_section.specs.SectionRun.{IsTableRun, IsRunFault}
use Rattle.ts_section.specs.declared.fault.RunFault.{RunFault}
use Rattle.ts_demux.proofs.Choice.{if_true, if_false, true_or_false, and_true, and_false_first, not_of_false}
use Rattle.ts_demux.proofs.FirstsLemmas.{firsts-push, is_complete-push, firsts-nil, is_complete-nil}
use Rattle.ts_demux.specs.Firsts.{with_first}
use Rattle.ts_demux.specs.Era.{IsEra, Belongs, AllBelong}
use Rattle.ts_demux.specs.declared.era.Era.{Era}
use Rattle.ts_demux.specs.Tables.{first_numbered, firsts, is_complete, table_of, completed}

module _ {X : Type 0} where
  abbrev values : List (Option X) → List X
  values xs = filter_map (λ first. first) xs

  length-values : (xs : List (Option X)) → list_all is_some xs ≡ true → length (values xs) ≡ length xs
  length-values [] e = refl
  length-values (None ∷ xs) e = cc
  length-values (Some x ∷ xs) e = ap suc (length-values xs e)

  get_or-values : (xs : List (Option X)) (k : ℕ) (d : X) → list_all is_some xs ≡ true → k < length xs → get_or xs k None ≡ Some (get_or (values xs) k d)
  get_or-values [] k d e h = absurd (omega arith)
  get_or-values (None ∷ xs) k d e h = cc
  get_or-values (Some x ∷ xs) zero d e h = refl
  get_or-values (Some x ∷ xs) (suc k) d e h = get_or-values xs k d e (omega arith)

  find_passes : (test : X → Bool) (xs : List X) (y : X) → find test xs ≡ Some y → test y ≡ true
  find_passes test [] y e = cc
  find_passes test (x ∷ xs) y e =
      elim (true_or_false (test x)) as (λ _. test y ≡ true) [
        | inl t ↦ (let f : Some x ≡ Some y = sym (if_true (test x) (Some x) (find test xs) t) ∙ e in let g : x ≡ y = cc in ap test (sym g) ∙ t)
        | inr t ↦ find_passes test xs y (sym (if_false (test x) (Some x) (find test xs) t) ∙ e)
      ]

  find_holds : (P : X → Type 0) (test : X → Bool) (xs : List X) (y : X) → All P xs → find test xs ≡ Some y → P y
  find_holds P test [] y all e = absurd (nothing_found e)
    where
      nothing_found : None ≡ Some y → ⊥
      nothing_found f = cc
  find_holds P test (x ∷ xs) y all e =
      elim (true_or_false (test x)) as (λ _. P y) [
        | inl t ↦ (let f : Some x ≡ Some y = sym (if_true (test x) (Some x) (find test xs) t) ∙ e in let g : x ≡ y = cc in subst P g (All-head P x xs all))
        | inr t ↦ find_holds P test xs y (All-tail P x xs all) (sym (if_false (test x) (Some x) (find test xs) t) ∙ e)
      ]

-- the section of a number in a complete era
member_of :
    (s : List ℕ) (era : List (List ℕ)) (last k : ℕ) → All (λ x. Belongs s x) era → is_complete last era ≡ true → k < last + 1 →
    (number_of (get_or (table_of last era) k []) ≡ k) × Belongs s (get_or (table_of last era) k [])
unfolding firsts
member_of s era last k all e h =
    let slots = firsts last era in
    let y = get_or (table_of last era) k [] in
    let l : length slots ≡ last + 1 = length-map-range_with_len (first_numbered era) 0 (last + 1) in
    let at : get_or slots k None ≡ Some y = get_or-values slots k [] e (omega arith) in
    let here : get_or slots k None ≡ first_numbered era k = get_or-map-range_with_len (first_numbered era) 0 (last + 1) k k None h (omega arith) in
    let found : first_numbered era k ≡ Some y = sym here ∙ at in
    (eqb-true (number_of y) k (find_passes (λ x. number_of x == k) era y found), find_holds (λ x. Belongs s x) (λ x. number_of x == k) era y all found)

length-table : (era : List (List ℕ)) (last : ℕ) → is_complete last era ≡ true → length (table_of last era) ≡ last + 1
unfolding firsts
length-table era last e = length-values (firsts last era) e ∙ length-map-range_with_len (first_numbered era) 0 (last + 1)

is_run :
    (s : List ℕ) (last : ℕ) (t : List (List ℕ)) → last ≡ last_number_of s → length t ≡ last + 1 →
    ((k : ℕ) → k < last + 1 → (number_of (get_or t k []) ≡ k) × Belongs s (get_or t k [])) → IsTableRun t
is_run s last [] e l members = absurd (omega arith)
is_run s last (x ∷ rest) e l members =
    let first = (members 0 (omega arith)).1 in
    inr (
      (λ k h. (let m = members k (omega arith) in let own = m.1 in
          record {
            together = own.together;
            same_id = own.same_id ∙ sym first.same_id;
            same_extension = own.same_extension ∙ sym first.same_extension;
            same_version = own.same_version ∙ sym first.same_version;
            same_current = own.same_current ∙ sym first.same_current;
            same_last = own.same_last ∙ sym first.same_last;
            numbered = m.0;
            counted = omega (arith, first.same_last);
          })),
      omega (arith, first.same_last),
    )

pub table_is_run :
    (s : List ℕ) (era : List (List ℕ)) (last : ℕ) → last ≡ last_number_of s → All (λ x. Belongs s x) era → is_complete last era ≡ true →
    IsTableRun (table_of last era)
table_is_run s era last e all c =
    is_run s last (table_of last era) e (length-table era last c) (λ k h. member_of s era last k all c h)

-- a whole run is accepted
pub run_accepted :
    (r : Result (List (List ℕ)) RunFault) (t : List (List ℕ)) → IfOk r (λ run. run ≡ t) → IfErr r (λ fault. IsRunFault t fault.place) →
    IsTableRun t → result_ok r ≡ Some t
run_accepted (Ok run) t same refused whole = ap Some same
run_accepted (Err fault) t same refused whole = absurd (refused.not_whole whole)

pub completed-yes :
    (era : List (List ℕ)) (s : List ℕ) → is_complete (last_number_of s) (era ++ s ∷ []) ≡ true → is_complete (last_number_of s) era ≡ false →
    completed era s ≡ Some (table_of (last_number_of s) (era ++ s ∷ []))
completed-yes era s now before =
    if_true (is_complete (last_number_of s) (era ++ s ∷ []) && not (is_complete (last_number_of s) era)) (Some (table_of (last_number_of s) (era ++ s ∷ []))) None
    (and_true (is_complete (last_number_of s) (era ++ s ∷ [])) (not (is_complete (last_number_of s) era)) now (not_of_false (is_complete (last_number_of s) era) before))

pub completed-not_yet : (era : List (List ℕ)) (s : List ℕ) → is_complete (last_number_of s) (era ++ s ∷ []) ≡ false → completed era s ≡ None
completed-not_yet era s now =
    if_false (is_complete (last_number_of s) (era ++ s ∷ []) && not (is_complete (last_number_of s) era)) (Some (table_of (last_number_of s) (era ++ s ∷ []))) None
    (and_false_first (is_complete (last_number_of s) (era ++ s ∷ [])) (not (is_complete (last_number_of s) era)) now)

-- what an era keeps with one section more
slots_are :
    (e : Era) (era : List (List ℕ)) (s : List ℕ) (place : ℕ) (slots : List (Option (List ℕ))) →
    IsEra e era → e.given ≡ false → place ≡ number_of s → slots ≡ with_first place s e.firsts.items → slots ≡ firsts e.last (era ++ s ∷ [])
slots_are e era s place slots is waits p k =
    k ∙ ap (λ n. with_first n s e.firsts.items) p ∙ ap (with_first (number_of s) s) (is.kept waits) ∙ sym (firsts-push e.last era s)

pub era-given :
    (e new : Era) (era : List (List ℕ)) (s : List ℕ) → IsEra e era → e.given ≡ true → new.last ≡ e.last → new.given ≡ e.given →
    IsEra new (era ++ s ∷ [])
era-given e new era s is had last same =
    let given : new.given ≡ true = same ∙ had in
    record {
      given = given ∙ sym (is_complete-push new.last era s (ap (λ n. is_complete n era) last ∙ sym is.given ∙ had));
      kept = λ waits. (let f : true ≡ false = sym given ∙ waits in cc);
    }

pub era-open :
    (e new : Era) (era : List (List ℕ)) (s : List ℕ) (place : ℕ) (slots : List (Option (List ℕ))) →
    e.given ≡ false → place ≡ number_of s → slots ≡ with_first place s e.firsts.items → list_all is_some slots ≡ false →
    new.last ≡ e.last → new.given ≡ false → new.firsts.items ≡ slots →
    IsEra e era → IsEra new (era ++ s ∷ [])
era-open e new era s place slots waits p k all last given kept is =
    let f = slots_are e era s place slots is waits p k in
    let c : is_complete new.last (era ++ s ∷ []) ≡ false = ap (λ n. is_complete n (era ++ s ∷ [])) last ∙ ap (list_all is_some) (sym f) ∙ all in
    record {
      given = given ∙ sym c;
      kept = λ o. kept ∙ f ∙ ap (λ n. firsts n (era ++ s ∷ [])) (sym last);
    }

pub era-full :
    (e new : Era) (era : List (List ℕ)) (s : List ℕ) (place : ℕ) (slots : List (Option (List ℕ))) →
    e.given ≡ false → place ≡ number_of s → slots ≡ with_first place s e.firsts.items → list_all is_some slots ≡ true →
    new.last ≡ e.last → new.given ≡ true →
    IsEra e era → IsEra new (era ++ s ∷ [])
era-full e new era s place slots waits p k all last given is =
    let f = slots_are e era s place slots is waits p k in
    let c : is_complete new.last (era ++ s ∷ []) ≡ true = ap (λ n. is_complete n (era ++ s ∷ [])) last ∙ ap (list_all is_some) (sym f) ∙ all in
    record {
      given = given ∙ sym c;
      kept = λ o. (let g : true ≡ false = sym given ∙ o in cc);
    }

pub table-open :
    (e : Era) (era : List (List ℕ)) (s : List ℕ) (place : ℕ) (slots : List (Option (List ℕ))) →
    e.given ≡ false → place ≡ number_of s → slots ≡ with_first place s e.firsts.items → list_all is_some slots ≡ false →
    e.last ≡ last_number_of s → IsEra e era → None ≡ completed era s
table-open e era s place slots waits p k all last is =
    let f = slots_are e era s place slots is waits p k in
    let c : is_complete (last_number_of s) (era ++ s ∷ []) ≡ false = ap (λ n. is_complete n (era ++ s ∷ [])) (sym last) ∙ ap (list_all is_some) (sym f) ∙ all in
    sym (completed-not_yet era s c)

pub table-full :
    (e : Era) (era : List (List ℕ)) (s : List ℕ) (place : ℕ) (slots : List (Option (List ℕ))) (sections : List (List ℕ)) (r : Result (List (List ℕ)) RunFault) (given : Option (List (List ℕ))) →
    e.given ≡ false → place ≡ number_of s → slots ≡ with_first place s e.firsts.items → list_all is_some slots ≡ true →
    e.last ≡ last_number_of s → sections ≡ filter_map (λ first. first) slots →
    IfOk r (λ run. run ≡ sections) → IfErr r (λ fault. IsRunFault sections fault.place) → given ≡ result_ok r →
    IsEra e era → AllBelong s era → given ≡ completed era s
table-full e era s place slots sections r given waits p k all last kept same refused ok is belong =
    let f = slots_are e era s place slots is waits p k in
    let c : is_complete e.last (era ++ s ∷ []) ≡ true = ap (list_all is_some) (sym f) ∙ all in
    let now : is_complete (last_number_of s) (era ++ s ∷ []) ≡ true = ap (λ n. is_complete n (era ++ s ∷ [])) (sym last) ∙ c in
    let before : is_complete (last_number_of s) era ≡ false = ap (λ n. is_complete n era) (sym last) ∙ sym is.given ∙ waits in
    let table : sections ≡ table_of e.last (era ++ s ∷ []) = kept ∙ ap (filter_map (λ first. first)) f in
    let whole : IsTableRun sections = subst IsTableRun (sym table) (table_is_run s (era ++ s ∷ []) e.last last belong c) in
    ok ∙ run_accepted r sections same refused whole ∙ ap Some table ∙ ap (λ n. Some (table_of n (era ++ s ∷ []))) last ∙ sym (completed-yes era s now before)

pub era-fresh : (e : Era) (last : ℕ) → e.last ≡ last → e.given ≡ false → e.firsts.items ≡ replicate (last + 1) None → IsEra e []
era-fresh e last l given kept =
    record {
      given = given ∙ sym (is_complete-nil e.last);
      kept = λ w. kept ∙ sym (firsts-nil last) ∙ ap (λ n. firsts n []) (sym l);
    }
