-- The settings of `pmt`, part by part.
use Rattle.std.proofs.Common.{◌≡◌, ◌∙◌, ℕ, Bool, true, false, List, Option, refl, ap}
use Rattle.std.specs.Prelude.{◌&&◌, codes}
use Rattle.clap.specs.Walk.{Row}
use Rattle.plugin_options.specs.Options.{has_flag, has_value}
use Rattle.plug_edit.specs.EditWords.{number_found}
use Rattle.plug_edit.specs.PmtWords.{drops_agree, places_agree, pmt_together}
use Rattle.plug_edit.specs.Versions.{versions_agree}
use Rattle.plug_edit.specs.declared.limits.TheConstants.{LAST_VERSION}
use Rattle.plug_edit.specs.declared.pmt_changes.PmtChanges.{PmtChanges}
use Rattle.plug_edit.specs.declared.pmt_conf.EditPmtConf.{EditPmtConf}
use Rattle.plug_edit.specs.declared.pmt_place.PmtPlace.{PmtPlace}

abbrev pub changes_with : List (ℕ × ℕ) → List (ℕ × ℕ) → List (ℕ × List ℕ) → List (ℕ × ℕ) → List ℕ → List (ℕ × List ℕ) → PmtChanges
changes_with a b c d e f = record { remove_descriptor = a; remove_pid_descriptor = b; language = c; add_ca = d; add_descriptor = e; add_pid_descriptor = f }

-- equal parts make equal changes
pub same_changes : {a a' b b' d d' : List (ℕ × ℕ)} {c c' f f' : List (ℕ × List ℕ)} {e e' : List ℕ} → a ≡ a' → b ≡ b' → c ≡ c' → d ≡ d' → e ≡ e' → f ≡ f' →
    changes_with a b c d e f ≡ changes_with a' b' c' d' e' f'
same_changes {a} {a'} {b} {b'} {d} {d'} {c} {c'} {f} {f'} {e} {e'} h1 h2 h3 h4 h5 h6 =
    ap (λ x. changes_with x b c d e f) h1 ∙ ap (λ x. changes_with a' x c d e f) h2 ∙ ap (λ x. changes_with a' b' x d e f) h3
    ∙ ap (λ x. changes_with a' b' c' x e f) h4 ∙ ap (λ x. changes_with a' b' c' d' x f) h5 ∙ ap (changes_with a' b' c' d' e') h6

abbrev pub conf_with : PmtPlace → List (ℕ × ℕ) → List (ℕ × ℕ) → List (ℕ × ℕ) → Option ℕ → PmtChanges → Bool → Bool → Option ℕ → Bool → EditPmtConf
conf_with a b c d e f g h i j = record { place = a; add_pid = b; remove_pid = c; move_pid = d; pcr_pid = e; changes = f; drop = g; stuffing = h; new_version = i; increment_version = j }

-- equal parts make equal settings
pub same_conf : {a a' : PmtPlace} {b b' c c' d d' : List (ℕ × ℕ)} {e e' i i' : Option ℕ} {f f' : PmtChanges} {g g' h h' j j' : Bool} →
    a ≡ a' → b ≡ b' → c ≡ c' → d ≡ d' → e ≡ e' → f ≡ f' → g ≡ g' → h ≡ h' → i ≡ i' → j ≡ j' →
    conf_with a b c d e f g h i j ≡ conf_with a' b' c' d' e' f' g' h' i' j'
same_conf {a} {a'} {b} {b'} {c} {c'} {d} {d'} {e} {e'} {i} {i'} {f} {f'} {g} {g'} {h} {h'} {j} {j'} h1 h2 h3 h4 h5 h6 h7 h8 h9 h10 =
    ap (λ x. conf_with x b c d e f g h i j) h1 ∙ ap (λ x. conf_with a' x c d e f g h i j) h2 ∙ ap (λ x. conf_with a' b' x d e f g h i j) h3
    ∙ ap (λ x. conf_with a' b' c' x e f g h i j) h4 ∙ ap (λ x. conf_with a' b' c' d' x f g h i j) h5 ∙ ap (λ x. conf_with a' b' c' d' e' x g h i j) h6
    ∙ ap (λ x. conf_with a' b' c' d' e' f' x h i j) h7 ∙ ap (λ x. conf_with a' b' c' d' e' f' g' x i j) h8 ∙ ap (λ x. conf_with a' b' c' d' e' f' g' h' x j) h9
    ∙ ap (conf_with a' b' c' d' e' f' g' h' i') h10

left-holds : (a b : Bool) → (a && b) ≡ true → a ≡ true
left-holds true b h = refl
left-holds false b h = cc

right-holds : (a b : Bool) → (a && b) ≡ true → b ≡ true
right-holds true b h = h
right-holds false b h = cc

-- what can be given together has one option of the version at most
pub together_versions : (found : List Row) → pmt_together found ≡ true → versions_agree (number_found (codes "new-version") LAST_VERSION found) (has_flag (codes "increment-version") found) ≡ true
together_versions found h =
    let versions = versions_agree (number_found (codes "new-version") LAST_VERSION found) (has_flag (codes "increment-version") found) in
    let drops = drops_agree (has_value (codes "remove-pid") found) (has_flag (codes "drop") found) (has_flag (codes "stuffing") found) in
    left-holds versions drops (right-holds (places_agree found) (versions && drops) h)
