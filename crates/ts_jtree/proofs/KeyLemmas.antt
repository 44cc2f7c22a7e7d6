-- Keys of elements.
use Rattle.std.proofs.Common.{◌≡◌, ℕ, ◌+◌, ◌<◌, ◌≤◌, Bool, true, false, List, [], ◌∷◌, ◌++◌, length, take, drop, refl, sym, ap, ◌∙◌, get_or}
use Rattle.std.specs.Prelude.{bytes_eq, not, String, string_bytes, Ok, Err}
use Rattle.std.specs.declared.alloc.Global.{Global}
use Rattle.std.proofs.lemmas.Slice.Eq.{bytes_eq-Decides}
use Rattle.std.proofs.lemmas.List.{take-append-drop, drop_all}
use Rattle.std.proofs.Math.Seq.{take-append_seam, drop-append_seam}
use Rattle.serde_json.specs.Data.{Members}
use Rattle.serde_json.specs.declared.value.Value.{Value}
use Rattle.serde_json.specs.View.{members_view}
use Rattle.ts_fields.specs.declared.field.Field.{Field}
use Rattle.ts_fields.specs.Layout.{Row, row, rows_of}
use Rattle.ts_jtree.specs.declared.fault.JsonKind.TheVariants.{UnknownKey}
use Rattle.ts_jtree.specs.declared.fault.ReadRefusal.{ReadRefusal}
use Rattle.ts_jtree.specs.declared.fault.ReadRefusal.TheVariants.{Json, NoMemory}
use Rattle.ts_jtree.specs.Elements.{names_field, names_some, is_known, keys_known}
use Rattle.ts_jtree.specs.Faults.{Reading, Stops, IsRefusal}
use Rattle.ts_jtree.proofs.RowLemmas.{rows_left}

differ_by : (xs ys : List ℕ) (b : Bool) → bytes_eq xs ys ≡ b → (xs ≡ ys → ⊥) → b ≡ false
differ_by xs ys true e other = absurd (other ((bytes_eq-Decides xs ys).0 e))
differ_by xs ys false e other = refl

other_front : (key name word : List ℕ) → (take (length name) key ≡ name → ⊥) → false ≡ bytes_eq key (name ++ word)
other_front key name word other = sym (differ_by key (name ++ word) _ refl (λ same.
    other (ap (take (length name)) same ∙ take-append_seam name word)))

same_front : (key name word : List ℕ) (b : Bool) → take (length name) key ≡ name
    → bytes_eq (drop (length name) key) word ≡ b → b ≡ bytes_eq key (name ++ word)
same_front key name word true front back =
    let joined : key ≡ (name ++ word) =
    sym (take-append-drop (length name) key) ∙ ap (λ l. l ++ drop (length name) key) front
    ∙ ap (λ l. name ++ l) ((bytes_eq-Decides (drop (length name) key) word).0 back) in
    sym ((bytes_eq-Decides key (name ++ word)).1 joined)
same_front key name word false front back =
    sym (differ_by key (name ++ word) _ refl (λ same.
    let e : drop (length name) key ≡ word = ap (drop (length name)) same ∙ drop-append_seam name word in
    let t = (bytes_eq-Decides (drop (length name) key) word).1 e in cc))

-- a key that begins otherwise than the name, and one that begins with it
pub front_differs : (key name word front name_bytes : List ℕ) → front ≡ take (length name) key → name_bytes ≡ name
    → true ≡ not (bytes_eq front name_bytes) → false ≡ bytes_eq key (name ++ word)
front_differs key name word front name_bytes front_is name_is apart = other_front key name word (λ same.
    let equal = (bytes_eq-Decides front name_bytes).1 (front_is ∙ same ∙ sym name_is) in
    let e : true ≡ not true = apart ∙ ap not equal in cc)

not_false : (b : Bool) → false ≡ not b → b ≡ true
not_false true is = refl
not_false false is = cc

pub front_agrees : (key name suffix front name_bytes back word : List ℕ) (b : Bool) → front ≡ take (length name) key
    → name_bytes ≡ name → false ≡ not (bytes_eq front name_bytes) → back ≡ drop (length name) key
    → word ≡ suffix → b ≡ bytes_eq back word → b ≡ bytes_eq key (name ++ suffix)
front_agrees key name suffix front name_bytes back word b front_is name_is alike back_is word_is b_is =
    let equal : front ≡ name_bytes = (bytes_eq-Decides front name_bytes).0 (not_false (bytes_eq front name_bytes) alike) in
    same_front key name suffix b (sym front_is ∙ equal ∙ name_is) (sym (b_is ∙ rw (back_is, word_is) refl))

-- the rows one after another: the next names the key, or does not, or there is none
pub named_here : (fields : List Field) (i : ℕ) (d : Field) (ms : Members) (key : List ℕ) (whole : Bool)
    → i < length fields → names_some (rows_of (drop i fields)) ms key ≡ whole
    → names_field (get_or fields i d).kind (row (get_or fields i d)).name ms key ≡ true → true ≡ whole
named_here fields i d ms key whole inside so_far here = let e = rw (rows_left fields i d inside, here) at so_far in e

pub named_later : (fields : List Field) (i : ℕ) (d : Field) (ms : Members) (key : List ℕ) (whole : Bool)
    → i < length fields → names_some (rows_of (drop i fields)) ms key ≡ whole
    → names_field (get_or fields i d).kind (row (get_or fields i d)).name ms key ≡ false
    → names_some (rows_of (drop (i + 1) fields)) ms key ≡ whole
named_later fields i d ms key whole inside so_far here = let e = rw (rows_left fields i d inside, here) at so_far in e

pub named_nowhere : (fields : List Field) (i : ℕ) (ms : Members) (key : List ℕ) (whole : Bool)
    → length fields ≤ i → names_some (rows_of (drop i fields)) ms key ≡ whole → false ≡ whole
named_nowhere fields i ms key whole all so_far =
    let none : drop i fields ≡ [] = drop_all i fields all in let e = rw none at so_far in e

-- the keys one after another
pub keys_go_on : (rs : List Row) (ms : Members) (first : String Global × Value)
    (more : List (String Global × Value)) (whole : Reading (List ℕ))
    → keys_known rs ms (members_view (first ∷ more)) ≡ whole → is_known rs ms (string_bytes first.0) ≡ true
    → keys_known rs ms (members_view more) ≡ whole
unfolding keys_known
keys_go_on rs ms first more whole so_far known = let e = rw known at so_far in e

pub keys_stop : (refusal : ReadRefusal) (rs : List Row) (ms : Members) (first : String Global × Value)
    (more : List (String Global × Value)) (whole : Reading (List ℕ))
    → keys_known rs ms (members_view (first ∷ more)) ≡ whole → is_known rs ms (string_bytes first.0) ≡ false
    → IsRefusal refusal (string_bytes first.0) UnknownKey → Stops refusal whole
unfolding keys_known
keys_stop (Json fault) rs ms first more whole so_far unknown is = sym so_far ∙ rw unknown (ap Err (sym is))
keys_stop NoMemory rs ms first more whole so_far unknown is = tt

pub keys_done : (rs : List Row) (ms : Members) (whole : Reading (List ℕ))
    → keys_known rs ms (members_view []) ≡ whole → whole ≡ Ok []
unfolding keys_known
keys_done rs ms whole so_far = sym so_far
