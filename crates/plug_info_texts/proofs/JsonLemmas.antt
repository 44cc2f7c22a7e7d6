-- Lemmas on lists of items in JSON, and on the parts of objects.
use Rattle.std.proofs.Common.{◌≡◌, ℕ, ◌<◌, ◌+◌, List, [], ◌∷◌, ◌++◌, length, take, drop, ap, ap₂, sym, ◌∙◌, refl, true≢false, eqb, false, append_assoc, append-nil, None, get_or, codes}
use Rattle.std.specs.Fmt.{decimal}
use Rattle.std.specs.List.{flat_map, starts_with}
use Rattle.std.specs.Str.Pattern.{FindsTextPrefix, StripsPrefix}
use Rattle.std.proofs.lemmas.Grind.{flat_map-append}
use Rattle.std.proofs.lemmas.List.{take_more}
use Rattle.std.proofs.lemmas.Str.Pattern.{starts_text}
use Rattle.plug_info_texts.specs.InfoJson.{after_comma, joined}

-- items without the first comma
dropped : (texts : List (List ℕ)) → drop 1 (flat_map after_comma texts) ≡ joined texts
dropped [] = refl
dropped (text ∷ texts) = refl

pub stripped : (s x : List ℕ) (texts : List (List ℕ)) → StripsPrefix (FindsTextPrefix (codes ",")) s x → s ≡ flat_map after_comma texts → x ≡ joined texts
stripped s x texts h is =
    let one : h.0 ≡ 1 = h.1.0 in
    h.2 ∙ (ap (λ (k : ℕ). drop k s) one ∙ (ap (drop 1) is ∙ dropped texts))

pub unstripped : (s : List ℕ) (texts : List (List ℕ)) → FindsTextPrefix (codes ",") s None → s ≡ flat_map after_comma texts → s ≡ joined texts
unstripped s [] h is = is
unstripped s (text ∷ texts) h is =
    absurd (true≢false (sym (starts_text false (codes ",") s h ∙ ap (λ (z : List ℕ). starts_with eqb z (codes ",")) is)))

-- a `flat_map` of a `flat_map`
pub flat_flat : {X Y Z : Type 0} (g : Y → List Z) (f : X → List Y) (xs : List X) → flat_map (λ x. flat_map g (f x)) xs ≡ flat_map g (flat_map f xs)
flat_flat g f [] = refl
flat_flat g f (x ∷ xs) = ap (λ zs. flat_map g (f x) ++ zs) (flat_flat g f xs) ∙ sym (flat_map-append g (f x) (flat_map f xs))

-- a text with one more item
pub item_more : {X : Type 0} (f : X → List ℕ) (xs ys : List X) (x : X) (old now new item : List ℕ) → ys ≡ xs ++ x ∷ [] → item ≡ f x → now ≡ old ++ flat_map f xs
    → new ≡ now ++ item → new ≡ old ++ flat_map f ys
item_more f xs ys x old now new item more item_is so_far pushed =
    pushed ∙ (ap₂ (λ (a b : List ℕ). a ++ b) so_far item_is
    ∙ (append_assoc old (flat_map f xs) (f x)
    ∙ ap (λ (zs : List ℕ). old ++ zs) (ap (λ (zs : List ℕ). flat_map f xs ++ zs) (sym (append-nil (f x)))
    ∙ (sym (flat_map-append f xs (x ∷ [])) ∙ ap (flat_map f) (sym more)))))

pub taken_more : {X : Type 0} (xs : List X) (i : ℕ) (x : X) → i < length xs → x ≡ get_or xs i x → take (i + 1) xs ≡ take i xs ++ x ∷ []
taken_more xs i x lt x_is = take_more xs i x lt ∙ ap (λ y. take i xs ++ y ∷ []) (sym x_is)

-- the first half of the stream's object, each part of which is known
abbrev pub head_parts : ℕ → ℕ → List ℕ → List ℕ → List ℕ
head_parts packets bytes id rate = codes "{\"packets\":" ++ (decimal packets ++ (codes ",\"bytes\":" ++ (decimal bytes
    ++ (codes ",\"transport_stream_id\":" ++ (id ++ (codes ",\"bitrate\":" ++ rate))))))

pub head_is : (packets bytes bytes_new : ℕ) (id id_new rate rate_new : List ℕ) → bytes ≡ bytes_new → id ≡ id_new → rate ≡ rate_new
    → head_parts packets bytes id rate ≡ head_parts packets bytes_new id_new rate_new
head_is packets bytes bytes_new id id_new rate rate_new a b c =
    ap (λ (n : ℕ). head_parts packets n id rate) a
    ∙ (ap (λ (x : List ℕ). head_parts packets bytes_new x rate) b ∙ ap (head_parts packets bytes_new id_new) c)

-- the head of a component's object, whose name is known
abbrev pub kind_parts : ℕ → ℕ → List ℕ → List ℕ
kind_parts pid kind name = codes "{\"pid\":" ++ (decimal pid ++ (codes ",\"stream_type\":" ++ (decimal kind ++ (codes ",\"stream_type_name\":" ++ name))))

-- the end of a service's object, each part of which is known
abbrev pub end_parts : ℕ → List ℕ → List ℕ → List ℕ → List ℕ
end_parts pmt pcr portion components = codes ",\"pmt\":" ++ (decimal pmt ++ (codes ",\"pcr\":" ++ (pcr
    ++ (codes "," ++ (portion ++ (codes ",\"components\":" ++ (components ++ codes "}")))))))

pub end_is : (pmt : ℕ) (pcr pcr_new portion portion_new components : List ℕ) → pcr ≡ pcr_new → portion ≡ portion_new
    → end_parts pmt pcr portion components ≡ end_parts pmt pcr_new portion_new components
end_is pmt pcr pcr_new portion portion_new components a b =
    ap (λ (x : List ℕ). end_parts pmt x portion components) a ∙ ap (λ (x : List ℕ). end_parts pmt pcr_new x components) b
