-- The search for a name among pairs of a name and its bytes.
use Rattle.std.proofs.Common.{◌≡◌, ℕ, ◌+◌, ◌<◌, suc, List, ◌∷◌, Bool, true, false, if◌then◌else◌, ap, sym, ◌∙◌, length, drop, get_or, drop-cons, add-one}
use Rattle.std.specs.Str.{bytes_eq}
use Rattle.ts_outside.specs.Desk.{file_of}

-- one step of the search: the pair at i, and then those after it
pub file_of-step : (files : List (List ℕ × List ℕ)) (i : ℕ) (name : List ℕ) (file : List ℕ × List ℕ) → i < length files → file ≡ get_or files i file → file_of (drop i files) name ≡ (if bytes_eq file.0 name then file.1 else file_of (drop (i + 1) files) name)
file_of-step files i name file within is =
    rw (add-one i)
    (ap (λ (l : List (List ℕ × List ℕ)). file_of l name)
    (drop-cons files i file within ∙ ap (λ (f : List ℕ × List ℕ). f ∷ drop (suc i) files) (sym is)))

-- the search ends at a pair of the name
pub file_of-here : (files : List (List ℕ × List ℕ)) (i : ℕ) (name text : List ℕ) (file : List ℕ × List ℕ) → i < length files → file ≡ get_or files i file → text ≡ file.0 → true ≡ bytes_eq text name → file_of (drop i files) name ≡ file.1
file_of-here files i name text file within is same found =
    file_of-step files i name file within is
    ∙ ap (λ (b : Bool). if b then file.1 else file_of (drop (i + 1) files) name) (sym (found ∙ ap (λ (t : List ℕ). bytes_eq t name) same))

-- the search continues after a pair of another name
pub file_of-past : (files : List (List ℕ × List ℕ)) (i : ℕ) (name text : List ℕ) (file : List ℕ × List ℕ) → i < length files → file ≡ get_or files i file → text ≡ file.0 → false ≡ bytes_eq text name → file_of (drop i files) name ≡ file_of (drop (i + 1) files) name
file_of-past files i name text file within is same found =
    file_of-step files i name file within is
    ∙ ap (λ (b : Bool). if b then file.1 else file_of (drop (i + 1) files) name) (sym (found ∙ ap (λ (t : List ℕ). bytes_eq t name) same))
