-- For the code: what a place is, test by test.
use Rattle.std.proofs.Common.{◌≡◌, ℕ, Bool, true, false, not, ◌&&◌, ◌||◌, List, drop, ap, ◌∙◌}
use Rattle.std.proofs.lemmas.Bool.{and_left, and_right, or_from}
use Rattle.packet_forms.specs.declared.forms.Form.{Form}
use Rattle.packet_forms.specs.Stripped.{unit}
use Rattle.packet_search.specs.Rule.{is_whole, in_row, is_cut, gives, stays}

pub gives-far : (form : Form) (near : Bool) (bytes : List ℕ) → in_row form 5 bytes ≡ false → near ≡ false → gives form near bytes ≡ false
unfolding gives
gives-far form near bytes row far =
    or_from (in_row form 5 bytes) (near && (is_whole form bytes && not (is_cut form bytes))) row (and_left near (is_whole form bytes && not (is_cut form bytes)) far)

pub gives-part : (form : Form) (near : Bool) (bytes : List ℕ) → in_row form 5 bytes ≡ false → is_whole form bytes ≡ false → gives form near bytes ≡ false
unfolding gives
gives-part form near bytes row part =
    or_from (in_row form 5 bytes) (near && (is_whole form bytes && not (is_cut form bytes))) row
    (and_right near (is_whole form bytes && not (is_cut form bytes)) (and_left (is_whole form bytes) (not (is_cut form bytes)) part))

pub gives-else : (form : Form) (near : Bool) (bytes : List ℕ) → in_row form 5 bytes ≡ false → near ≡ true → is_whole form bytes ≡ true
    → gives form near bytes ≡ not (is_cut form bytes)
unfolding gives
gives-else form near bytes row is whole =
    ap (λ (t : Bool). t || (near && (is_whole form bytes && not (is_cut form bytes)))) row
    ∙ ap (λ (t : Bool). false || (t && (is_whole form bytes && not (is_cut form bytes)))) is
    ∙ ap (λ (t : Bool). false || (true && (t && not (is_cut form bytes)))) whole

pub stays-far : (form : Form) (near : Bool) (bytes : List ℕ) → gives form near bytes ≡ false → near ≡ false → stays form near bytes ≡ false
unfolding stays
stays-far form near bytes none far =
    or_from (gives form near bytes) (near && (is_whole form (drop (unit form) bytes) && not (is_cut form bytes))) none
    (and_left near (is_whole form (drop (unit form) bytes) && not (is_cut form bytes)) far)

pub stays-part : (form : Form) (near : Bool) (bytes : List ℕ) → gives form near bytes ≡ false → is_whole form (drop (unit form) bytes) ≡ false → stays form near bytes ≡ false
unfolding stays
stays-part form near bytes none part =
    or_from (gives form near bytes) (near && (is_whole form (drop (unit form) bytes) && not (is_cut form bytes))) none
    (and_right near (is_whole form (drop (unit form) bytes) && not (is_cut form bytes)) (and_left (is_whole form (drop (unit form) bytes)) (not (is_cut form bytes)) part))

pub stays-else : (form : Form) (near : Bool) (bytes : List ℕ) → gives form near bytes ≡ false → near ≡ true → is_whole form (drop (unit form) bytes) ≡ true
    → stays form near bytes ≡ not (is_cut form bytes)
unfolding stays
stays-else form near bytes none is whole =
    ap (λ (t : Bool). t || (near && (is_whole form (drop (unit form) bytes) && not (is_cut form bytes)))) none
    ∙ ap (λ (t : Bool). false || (t && (is_whole form (drop (unit form) bytes) && not (is_cut form bytes)))) is
    ∙ ap (λ (t : Bool). false || (true && (t && not (is_cut form bytes)))) whole
