-- Lemmas on texts that grow, and on the parts of lines.
use Rattle.std.proofs.Common.{◌≡◌, ℕ, ◌+◌, List, [], ◌∷◌, ◌++◌, ap, sym, ◌∙◌, append-nil, codes}
use Rattle.std.specs.Fmt.{decimal}
use Rattle.std.specs.Prelude.{fold}
use Rattle.std.specs.List.{flat_map}
use Rattle.std.proofs.lemmas.Grind.{flat_map-append}
use Rattle.std.proofs.lemmas.List.Sums.{fold-append}
use Rattle.plug_info_texts.specs.Marks.{with_new}
use Rattle.plugin_notes.specs.PidPackets.{numbers_below}
use Rattle.plugin_notes.proofs.PidLemmas.{numbers_below_more}

-- a `flat_map` over the numbers below one more
pub flat_more : {X : Type 0} (f : ℕ → List X) (n : ℕ) → flat_map f (numbers_below n) ++ f n ≡ flat_map f (numbers_below (n + 1))
flat_more f n =
    ap (λ xs. flat_map f (numbers_below n) ++ xs) (sym (append-nil (f n)))
    ∙ (sym (flat_map-append f (numbers_below n) (n ∷ [])) ∙ ap (flat_map f) (sym (numbers_below_more n)))

-- texts, of equal ones the first, with those of one more number
pub new_more : (f : ℕ → List (List ℕ)) (n : ℕ) (old now new : List (List ℕ)) → now ≡ fold with_new old (flat_map f (numbers_below n))
    → new ≡ fold with_new now (f n) → new ≡ fold with_new old (flat_map f (numbers_below (n + 1)))
new_more f n old now new so_far pushed =
    pushed ∙ (ap (λ (texts : List (List ℕ)). fold with_new texts (f n)) so_far
    ∙ (sym (fold-append with_new old (flat_map f (numbers_below n)) (f n)) ∙ ap (fold with_new old) (flat_more f n)))

-- the first half of the stream's line, each part of which is known
head_parts : ℕ → ℕ → List ℕ → List ℕ → List ℕ
head_parts packets bytes id rate = codes "stream packets " ++ (decimal packets ++ (codes " bytes " ++ (decimal bytes
    ++ (codes " transport_stream_id " ++ (id ++ (codes " bitrate " ++ rate))))))

pub head_is : (packets bytes bytes_new : ℕ) (id id_new rate rate_new : List ℕ) → bytes ≡ bytes_new → id ≡ id_new → rate ≡ rate_new
    → codes "stream packets " ++ (decimal packets ++ (codes " bytes " ++ (decimal bytes ++ (codes " transport_stream_id " ++ (id ++ (codes " bitrate " ++ rate))))))
    ≡ codes "stream packets " ++ (decimal packets ++ (codes " bytes " ++ (decimal bytes_new ++ (codes " transport_stream_id " ++ (id_new ++ (codes " bitrate " ++ rate_new))))))
unfolding head_parts
head_is packets bytes bytes_new id id_new rate rate_new a b c =
    ap (λ (n : ℕ). head_parts packets n id rate) a
    ∙ (ap (λ (x : List ℕ). head_parts packets bytes_new x rate) b ∙ ap (head_parts packets bytes_new id_new) c)

-- the head of a component's line, whose name is known
abbrev pub kind_parts : ℕ → ℕ → ℕ → List ℕ → List ℕ
kind_parts pid service kind name = codes "component " ++ (decimal pid ++ (codes " service " ++ (decimal service ++ (codes " stream_type " ++ (decimal kind
    ++ (codes " (" ++ (name ++ codes ")")))))))
