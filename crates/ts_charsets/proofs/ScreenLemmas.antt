-- One character more on a screen.
use Rattle.std.proofs.Common.{◌≡◌, ℕ, ◌+◌, ◌<◌, ◌≤◌, List, [], ◌∷◌, ◌++◌, length, drop, get_or, drop-cons, add-one, refl, sym, ◌∙◌, append_assoc, append-nil}
use Rattle.std.proofs.lemmas.List.{drop_all}
use Rattle.ts_charsets.specs.ShownTexts.{screen_char, screen_chars}

char_left : (xs : List ℕ) (i d : ℕ) → i < length xs → drop i xs ≡ get_or xs i d ∷ drop (i + 1) xs
char_left xs i d inside = rw (add-one, drop-cons xs i d) refl

pub screen_more : (front new xs : List ℕ) (i d c : ℕ) → i < length xs → c ≡ get_or xs i d
    → new ≡ front ++ screen_char c → front ++ screen_chars (drop i xs) ≡ screen_chars xs
    → new ++ screen_chars (drop (i + 1) xs) ≡ screen_chars xs
screen_more front new xs i d c inside c_is is so_far =
    let e = rw (char_left xs i d inside, ← c_is) at so_far in
    rw is (append_assoc front (screen_char c) (screen_chars (drop (i + 1) xs)) ∙ e)

pub screen_done : (front xs : List ℕ) (i : ℕ) → length xs ≤ i → front ++ screen_chars (drop i xs) ≡ screen_chars xs
    → front ≡ screen_chars xs
screen_done front xs i past so_far =
    let none : drop i xs ≡ [] = drop_all i xs past in
    sym (append-nil front) ∙ (rw none at so_far)
