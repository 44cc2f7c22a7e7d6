-- What is seen of a source that finds packets, from step to step.
use Rattle.std.proofs.Common.{◌≡◌, ℕ, ◌+◌, ◌*◌, ◌≤◌, Bool, true, List, [], ◌++◌, Option, None, Some, length, drop, option_to_list, refl, ap, sym, ◌∙◌, subst, arith, append_assoc, append-nil, length-append}
use Rattle.std.specs.Option.{option_map, IfSome}
use Rattle.std.proofs.lemmas.List.{take_all, drop_all, nil_from_length}
use Rattle.packet_forms.specs.declared.forms.Form.{Form}
use Rattle.packet_forms.specs.Stripped.{unit}
use Rattle.packet_search.specs.Search.{Searched, search_from}
use Rattle.ts_outside.specs.Told.{before, told_length}
use Rattle.ts_outside.specs.Source.{SourceView}
use Rattle.search_source.specs.declared.gap.Gap.{Gap}
use Rattle.search_source.specs.declared.finder.Finder.{Finder}
use Rattle.search_source.specs.Gaps.{counted, gaps_from}
use Rattle.search_source.specs.Coming.{Coming, ungiven, coming_of, coming_from, coming, hand_of}
use Rattle.search_source.specs.SearchView.{SearchView, plain, unsearched, search_view, IsAtEnd}
use Rattle.search_source.proofs.Hands.{hand-has}

-- bytes that are given one behind another
both-given : (first second : List ℕ) (coming : Option Coming)
    → option_map (ungiven first []) (option_map (ungiven second []) coming) ≡ option_map (ungiven (first ++ second) []) coming
both-given first second None = refl
both-given first second (Some c) =
    ap (λ (l : List ℕ). let d : Coming = record { bytes = l; gaps = c.gaps; packets = c.packets; behind = c.behind } in Some d) (sym (append_assoc first second c.bytes))

pub seen-both : (first second : List ℕ) (view : SearchView) → unsearched first [] (unsearched second [] view) ≡ unsearched (first ++ second) [] view
seen-both first second view =
    ap (λ (o : Option Coming). let v : SearchView = record { coming = o; faults = view.faults; origin = view.origin } in v) (both-given first second view.coming)

-- what was forgotten is no byte
plain-noted : (gaps : List Gap) (coming : Option Coming)
    → option_map (λ (c : Coming). c.bytes) (option_map (ungiven [] gaps) coming) ≡ option_map (λ (c : Coming). c.bytes) coming
plain-noted gaps None = refl
plain-noted gaps (Some c) = refl

pub plain-forgotten : (gaps : List Gap) (view : SearchView) → plain (unsearched [] gaps view) ≡ plain view
plain-forgotten gaps view =
    ap (λ (o : Option (List ℕ)). let s : SourceView = record { left = o; faults = view.faults; origin = view.origin } in s) (plain-noted gaps view.coming)

-- nothing is given
none-given : (coming : Option Coming) → option_map (ungiven [] []) coming ≡ coming
none-given None = refl
none-given (Some c) = refl

pub seen-none : (view : SearchView) → unsearched [] [] view ≡ view
seen-none view = ap (λ (o : Option Coming). let v : SearchView = record { coming = o; faults = view.faults; origin = view.origin } in v) (none-given view.coming)

-- bytes are given
pub coming-given : (old new : List ℕ → Coming) (bytes : List ℕ) (gaps : List Gap) (ended : Bool) (left : Option (List ℕ)) → (ended ≡ true → told_length left ≡ 0)
    → ((more : List ℕ) → (ended ≡ true → more ≡ []) → old more ≡ ungiven bytes gaps (new more)) → option_map old left ≡ option_map (ungiven bytes gaps) (option_map new left)
coming-given old new bytes gaps ended None told given = refl
coming-given old new bytes gaps ended (Some l) told given = ap Some (given l (λ end. nil_from_length l (told end)))

pub view-given : (old new : Finder) (first now other : SourceView) (bytes : List ℕ) (gaps : List Gap) (ended : Bool) → (ended ≡ true → told_length now.left ≡ 0) → new.form ≡ old.form → other ≡ now
    → ((more : List ℕ) → (ended ≡ true → more ≡ []) → coming old more ≡ ungiven bytes gaps (coming new more))
    → search_view old first now ≡ unsearched bytes gaps (search_view new first other)
view-given old new first now other bytes gaps ended told form same given =
    ap (λ (o : Option Coming). let v : SearchView = record { coming = o; faults = now.faults; origin = record { unit = 6 * unit old.form; bytes = first.left } } in v)
    (coming-given (coming old) (coming new) bytes gaps ended now.left told given)
    ∙ ap (λ (f : Form). let v : SearchView = record { coming = option_map (ungiven bytes gaps) (option_map (coming new) now.left); faults = now.faults; origin = record { unit = 6 * unit f; bytes = first.left } } in v) (sym form)
    ∙ ap (λ (s : SourceView). unsearched bytes gaps (search_view new first s)) (sym same)

-- how many are left
pub told-less : (old new : Option (List ℕ)) (bytes : List ℕ) → old ≡ before bytes new → told_length new ≤ told_length old
told-less old None bytes moved = omega arith
told-less old (Some l) bytes moved =
    let e : told_length old ≡ length (bytes ++ l) = ap told_length moved in
    omega (arith, length-append bytes l)

pub told-none : (old : Option (List ℕ)) → IfSome old (λ l. l ≡ []) → told_length old ≡ 0
told-none None none = refl
told-none (Some l) none = ap (λ (m : List ℕ). length m) none

-- of nothing nothing comes
none-of : (form : Form) (near : Bool) (left : ℕ) → search_from form 0 near left [] ≡ record { found = []; behind = left }
unfolding search_from
none-of form near left = refl

coming-none : (form : Form) (due tail : ℕ) (near : Bool) (left number : ℕ)
    → coming_from form due tail near left number [] ≡ record { bytes = []; gaps = []; packets = counted number; behind = counted left }
unfolding coming_from gaps_from
coming-none form due tail near left number =
    let same : number + 0 ≡ number = omega arith in
    ap (λ (l : List ℕ). ungiven l [] (coming_of number (search_from form 0 near left (drop (due + tail) [])))) (take_all due [] (omega arith))
    ∙ ap (λ (l : List ℕ). ungiven [] [] (coming_of number (search_from form 0 near left l))) (drop_all (due + tail) [] (omega arith))
    ∙ ap (λ (s : Searched). ungiven [] [] (coming_of number s)) (none-of form near left)
    ∙ ap (λ (n : ℕ). let c : Coming = record { bytes = []; gaps = []; packets = counted n; behind = counted left } in c) same

-- at the end
pub at-end : (finder : Finder) (left : Option (List ℕ)) → finder.have ≡ 0 → told_length left ≡ 0 → IsAtEnd finder (option_map (coming finder) left)
at-end finder None none end = tt
at-end finder (Some l) none end =
    let hand : hand_of finder ≡ [] = nil_from_length (hand_of finder) (hand-has finder ∙ none) in
    let rest : l ≡ [] = nil_from_length l end in
    ap (coming finder) rest
    ∙ ap (λ (m : List ℕ). ungiven [] (option_to_list finder.noted) (coming_from finder.form finder.due finder.tail finder.near finder.left finder.number (m ++ []))) hand
    ∙ ap (ungiven [] (option_to_list finder.noted)) (coming-none finder.form finder.due finder.tail finder.near finder.left finder.number)
    ∙ ap (λ (g : List Gap). let c : Coming = record { bytes = []; gaps = g; packets = counted finder.number; behind = counted finder.left } in c) (append-nil (option_to_list finder.noted))

pub no-bytes : (finder : Finder) (coming : Option Coming) → IsAtEnd finder coming → IfSome (option_map (λ (c : Coming). c.bytes) coming) (λ l. l ≡ [])
no-bytes finder None end = tt
no-bytes finder (Some c) end = ap (λ (d : Coming). d.bytes) end

-- so a source that is at its end had no byte left
pub ended-none : (old view : SearchView) (noted : List Gap) (finder : Finder) → old ≡ unsearched [] noted view → IsAtEnd finder view.coming → IfSome (plain old).left (λ l. l ≡ [])
ended-none old view noted finder same end =
    subst (λ (s : SourceView). IfSome s.left (λ l. l ≡ [])) (sym (ap plain same ∙ plain-forgotten noted view)) (no-bytes finder view.coming end)

-- a round that gave nothing
pub seen-round : (old mid new : SearchView) (noted : List Gap) (bytes : List ℕ) → old ≡ unsearched [] noted mid → mid ≡ unsearched bytes [] new → bytes ≡ [] → old ≡ unsearched [] noted new
seen-round old mid new noted bytes same gave none =
    same ∙ ap (unsearched [] noted) (gave ∙ ap (λ (l : List ℕ). unsearched l [] new) none ∙ seen-none new)
