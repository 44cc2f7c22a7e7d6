-- Lemmas on lines after lines.
use Rattle.std.proofs.Common.{◌≡◌, ℕ, ◌+◌, ◌<◌, List, [], ◌∷◌, ◌++◌, length, take, map, ap, ap₂, sym, ◌∙◌, refl, Bool, true, false, append_assoc, append-nil, Option, None, Some, get_or, ◌==◌, if◌then◌else◌}
use Rattle.std.specs.Prelude.{cond}
use Rattle.std.proofs.lemmas.Bool.{ne_eqb}
use Rattle.std.specs.List.{cons_option, count_by, filter_map, flat_map, fold}
use Rattle.std.proofs.lemmas.Grind.{flat_map-append}
use Rattle.std.proofs.lemmas.List.{map-append, take_more}
use Rattle.std.proofs.lemmas.List.Elements.{filter_map-append}
use Rattle.std.proofs.lemmas.List.Sums.{fold-append, sum_by_push}
use Rattle.ts_table_rows.specs.TableValues.{TableHolding}
use Rattle.ts_psi.specs.PatTables.{network_items, pat_held, service_item}
use Rattle.ts_psi.specs.declared.pat.Pat.{Pat}
use Rattle.ts_psi.specs.declared.pat.PatService.{PatService}
use Rattle.plugin_trait.specs.declared.line.Line.{Line}
use Rattle.plugin_trait.specs.PlacedLines.{placed_at}
use Rattle.plugin_notes.specs.PidPackets.{numbers_below}
use Rattle.plugin_notes.proofs.PidLemmas.{numbers_below_more, placed_at-append}
use Rattle.plug_info_texts.proofs.LineLemmas.{flat_more}
use Rattle.plug_psi.specs.InForce.{service_in, services_in}
use Rattle.plug_info_texts.specs.InfoTexts.{component_tail}
use Rattle.plug_info_texts.specs.declared.pid_numbers.PidNumbers.{PidNumbers}
use Rattle.plug_info_texts.specs.declared.scene.Scene.{Scene}

-- lines after lines
pub pushed_after : (cut : ℕ) (lines first second : List Line) (xs ys : List (List ℕ)) → first ≡ lines ++ placed_at cut xs → second ≡ first ++ placed_at cut ys
    → second ≡ lines ++ placed_at cut (xs ++ ys)
pushed_after cut lines first second xs ys a b =
    b ∙ (ap (λ (ls : List Line). ls ++ placed_at cut ys) a
    ∙ (append_assoc lines (placed_at cut xs) (placed_at cut ys)
    ∙ ap (λ (ls : List Line). lines ++ ls) (sym (placed_at-append cut xs ys))))

pub fold_below_more : {X : Type 0} (f : X → ℕ → X) (x : X) (n : ℕ) → f (fold f x (numbers_below n)) n ≡ fold f x (numbers_below (n + 1))
fold_below_more f x n = sym (fold-append f x (numbers_below n) (n ∷ [])) ∙ ap (fold f x) (sym (numbers_below_more n))

-- the services of a PAT: its entries without the network's
pub pat_services : (pat : Pat) → services_in (Some (pat_held pat)) ≡ filter_map service_in (map service_item pat.services)
pat_services pat = elim pat.network_pid as (λ n. filter_map service_in (network_items n ++ map service_item pat.services) ≡ filter_map service_in (map service_item pat.services)) [
  | None ↦ refl
  | Some pid ↦ refl
]

-- the services with one more entry
pub services_more : (entries : List PatService) (i : ℕ) (entry : PatService) (service : ℕ × ℕ) → i < length entries → entry ≡ get_or entries i entry
    → service_in (service_item entry) ≡ Some service
    → filter_map service_in (map service_item (take (i + 1) entries)) ≡ filter_map service_in (map service_item (take i entries)) ++ service ∷ []
services_more entries i entry service lt entry_is its =
    ap (λ (es : List PatService). filter_map service_in (map service_item es)) (take_more entries i entry lt ∙ ap (λ (e : PatService). take i entries ++ e ∷ []) (sym entry_is))
    ∙ (ap (filter_map service_in) (map-append service_item (take i entries) (entry ∷ []))
    ∙ (filter_map-append service_in (map service_item (take i entries)) (map service_item (entry ∷ []))
    ∙ ap (λ (o : Option (ℕ × ℕ)). filter_map service_in (map service_item (take i entries)) ++ cons_option o []) its))

-- the lines with one more number
pub lines_more : (cut : ℕ) (f : ℕ → List (List ℕ)) (n : ℕ) (before lines lines_new : List Line) → lines ≡ before ++ placed_at cut (flat_map f (numbers_below n))
    → lines_new ≡ lines ++ placed_at cut (f n) → lines_new ≡ before ++ placed_at cut (flat_map f (numbers_below (n + 1)))
lines_more cut f n before lines lines_new so_far pushed =
    pushed_after cut before lines lines_new (flat_map f (numbers_below n)) (f n) so_far pushed ∙ ap (λ (ts : List (List ℕ)). before ++ placed_at cut ts) (flat_more f n)

-- the lines with one more item
pub map_more : {X : Type 0} (cut : ℕ) (f : X → List ℕ) (xs : List X) (i : ℕ) (x : X) (before lines lines_new : List Line) (text : List ℕ) → i < length xs → x ≡ get_or xs i x
    → text ≡ f x → lines ≡ before ++ placed_at cut (map f (take i xs)) → lines_new ≡ lines ++ placed_at cut (text ∷ [])
    → lines_new ≡ before ++ placed_at cut (map f (take (i + 1) xs))
map_more cut f xs i x before lines lines_new text lt x_is text_is so_far pushed =
    pushed_after cut before lines lines_new (map f (take i xs)) (text ∷ []) so_far pushed
    ∙ ap (λ (ts : List (List ℕ)). before ++ placed_at cut ts)
    (ap (λ (t : List ℕ). map f (take i xs) ++ t ∷ []) (text_is ∙ ap f x_is)
    ∙ (sym (map-append f (take i xs) (get_or xs i x ∷ [])) ∙ ap (map f) (sym (take_more xs i x lt))))

-- the lines of the services with one more entry
pub services_lines_more : (cut : ℕ) (f : ℕ × ℕ → List (List ℕ)) (entries : List PatService) (i : ℕ) (entry : PatService) (service : ℕ × ℕ) (before lines lines_new : List Line)
    → i < length entries → entry ≡ get_or entries i entry → service_in (service_item entry) ≡ Some service
    → lines ≡ before ++ placed_at cut (flat_map f (filter_map service_in (map service_item (take i entries)))) → lines_new ≡ lines ++ placed_at cut (f service)
    → lines_new ≡ before ++ placed_at cut (flat_map f (filter_map service_in (map service_item (take (i + 1) entries))))
services_lines_more cut f entries i entry service before lines lines_new lt entry_is its so_far pushed =
    let those = filter_map service_in (map service_item (take i entries)) in
    pushed_after cut before lines lines_new (flat_map f those) (f service) so_far pushed
    ∙ ap (λ (ts : List (List ℕ)). before ++ placed_at cut ts)
    (ap (λ (ts : List (List ℕ)). flat_map f those ++ ts) (sym (append-nil (f service)))
    ∙ (sym (flat_map-append f those (service ∷ [])) ∙ ap (flat_map f) (sym (services_more entries i entry service lt entry_is its))))

-- the number of services of a kind, with one more entry
pub users_more : (kind : ℕ × ℕ → Bool) (entries : List PatService) (i : ℕ) (entry : PatService) (service : ℕ × ℕ) (users one : ℕ)
    → i < length entries → entry ≡ get_or entries i entry → service_in (service_item entry) ≡ Some service
    → users ≡ count_by kind (filter_map service_in (map service_item (take i entries))) → one ≡ cond (kind service) 1 0
    → users + one ≡ count_by kind (filter_map service_in (map service_item (take (i + 1) entries)))
users_more kind entries i entry service users one lt entry_is its so_far one_is =
    ap₂ (λ (a b : ℕ). a + b) so_far one_is
    ∙ (sym (sum_by_push (λ (s : ℕ × ℕ). cond (kind s) 1 0) (filter_map service_in (map service_item (take i entries))) service)
    ∙ ap (count_by kind) (sym (services_more entries i entry service lt entry_is its)))

-- the services of a PAT that is in force
pub services_are : (pat : Pat) (held : Option TableHolding) → Some (pat_held pat) ≡ held → filter_map service_in (map service_item pat.services) ≡ services_in held
services_are pat held is = sym (pat_services pat) ∙ ap services_in is

-- three texts, each of which is known
pub three_parts : (a b c a_new b_new c_new : List ℕ) → a ≡ a_new → b ≡ b_new → c ≡ c_new → a ++ (b ++ c) ≡ a_new ++ (b_new ++ c_new)
three_parts a b c a_new b_new c_new p q r = ap₂ (λ x y. x ++ y) p (ap₂ (λ x y. x ++ y) q r)

-- a map of a map
pub map_map : {X Y Z : Type 0} (f : Y → Z) (g : X → Y) (xs : List X) → map (λ x. f (g x)) xs ≡ map f (map g xs)
map_map f g [] = refl
map_map f g (x ∷ xs) = ap (λ zs. f (g x) ∷ zs) (map_map f g xs)

-- six lists of lines, one after another
pub six_pushed : (cut : ℕ) (lines a b c d e f : List Line) (stream : List ℕ) (xs ns ys zs us : List (List ℕ)) → a ≡ lines ++ placed_at cut (stream ∷ []) → b ≡ a ++ placed_at cut xs
    → c ≡ b ++ placed_at cut ns → d ≡ c ++ placed_at cut ys → e ≡ d ++ placed_at cut zs → f ≡ e ++ placed_at cut us
    → f ≡ lines ++ placed_at cut ((stream ∷ xs) ++ (ns ++ (ys ++ (zs ++ us))))
six_pushed cut lines a b c d e f stream xs ns ys zs us p q n r s t =
    pushed_after cut lines b f (stream ∷ xs) (ns ++ (ys ++ (zs ++ us))) (pushed_after cut lines a b (stream ∷ []) xs p q)
    (pushed_after cut b c f ns (ys ++ (zs ++ us)) n (pushed_after cut c d f ys (zs ++ us) r (pushed_after cut d e f zs us s t)))

-- the end of a component's line, each part of which is known
pub tail_is : (scene scene_new : Scene) (numbers numbers_new : PidNumbers) (users users_new : ℕ) → scene ≡ scene_new → numbers ≡ numbers_new → users ≡ users_new
    → component_tail scene numbers users ≡ component_tail scene_new numbers_new users_new
tail_is scene scene_new numbers numbers_new users users_new a b c =
    ap (λ (s : Scene). component_tail s numbers users) a
    ∙ (ap (λ (n : PidNumbers). component_tail scene_new n users) b ∙ ap (component_tail scene_new numbers_new) c)

-- the text of two numbers that differ
pub if_other : (pat sdt : ℕ) (made text : List ℕ) → (pat ≡ sdt → ⊥) → made ≡ text → made ∷ [] ≡ (if pat == sdt then [] else text ∷ [])
if_other pat sdt made text other is =
    ap (λ (t : List ℕ). t ∷ []) is ∙ sym (ap (λ (b : Bool). if b then [] else text ∷ []) (ne_eqb pat sdt other))

-- what there is where a condition holds
pub shown_is : {X : Type 0} (b : Bool) (numbers numbers_new : PidNumbers) (xs : List X) → Some numbers ≡ (if b then Some numbers_new else None)
    → ((if b then xs else []) ≡ xs) × (numbers ≡ numbers_new)
shown_is true numbers numbers_new xs is = (refl, cc)
shown_is false numbers numbers_new xs is = cc
