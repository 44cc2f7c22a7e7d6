-- Lemmas on the parts of a component's object.
use Rattle.std.proofs.Common.{◌≡◌, ℕ, List, ◌++◌, ap, ◌∙◌, codes}

-- what it has in front of its packets, each part of which is known
abbrev pub mark_parts : List ℕ → List ℕ → List ℕ → List ℕ → List ℕ
mark_parts languages codecs audio cas = codes ",\"languages\":" ++ (languages ++ (codes ",\"codecs\":" ++ (codecs
    ++ (codes ",\"audio_type\":" ++ (audio ++ (codes ",\"ca\":" ++ (cas ++ codes ",")))))))

pub marks_are : (languages languages_new codecs codecs_new audio audio_new cas cas_new : List ℕ) → languages ≡ languages_new → codecs ≡ codecs_new → audio ≡ audio_new
    → cas ≡ cas_new → mark_parts languages codecs audio cas ≡ mark_parts languages_new codecs_new audio_new cas_new
marks_are languages languages_new codecs codecs_new audio audio_new cas cas_new a b c d =
    ap (λ (x : List ℕ). mark_parts x codecs audio cas) a
    ∙ (ap (λ (x : List ℕ). mark_parts languages_new x audio cas) b
    ∙ (ap (λ (x : List ℕ). mark_parts languages_new codecs_new x cas) c ∙ ap (mark_parts languages_new codecs_new audio_new) d))
