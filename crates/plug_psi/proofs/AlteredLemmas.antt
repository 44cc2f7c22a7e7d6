-- The tables that an edit alters, with those of one packet more.
use Rattle.std.proofs.Common.{◌≡◌, ℕ, ◌&&◌, ◌||◌, not, Bool, true, false, List, [], ◌∷◌, ◌++◌, refl, sym, ◌∙◌, ap}
use Rattle.std.specs.Prelude.{bytes_eq}
use Rattle.std.proofs.lemmas.List.Folds.{list_any-append}
use Rattle.std.proofs.lemmas.Slice.Eq.{bytes_eq-Decides}
use Rattle.ts_demux.specs.TablesOn.{Completes, tables_on}
use Rattle.ts_demux.proofs.TablesAfter.{no_tables}
use Rattle.plug_psi.specs.AlteredTables.{alters, alters_one, same_sections}
use Rattle.plug_psi.specs.Edits.{Change, carried, same}

both : (a b : Bool) → a ≡ true → b ≡ true → (a && b) ≡ true
both true b e f = f
both false b e f = e

same-itself : (sections : List (List ℕ)) → same_sections sections sections ≡ true
same-itself [] = refl
same-itself (section ∷ sections) =
    both (bytes_eq section section) (same_sections sections sections) ((bytes_eq-Decides section section).1 refl) (same-itself sections)

-- a table that is carried as it is, is not altered
pub not-altered : (edit : List (List ℕ) → Change) (run : List (List ℕ)) → edit run ≡ same → false ≡ alters edit run
not-altered edit run e = sym (ap (λ change. not (same_sections (carried run change) run)) e ∙ ap not (same-itself run))

-- before the first packet none came
pub none-altered : (edit : List (List ℕ) → Change) (pid : ℕ) (altered : Bool) → altered ≡ false → altered ≡ alters_one edit (tables_on pid [])
none-altered edit pid altered e = e ∙ sym (ap (alters_one edit) (no_tables pid))

-- one was altered before, or is among those that a packet completes
pub altered-more :
    (edit : List (List ℕ) → Change) (before altered : Bool) (pid : ℕ) (taken : List (List ℕ)) (packet : List ℕ) (tables : List (List (List ℕ))) →
    altered ≡ (before || alters_one edit tables) → before ≡ alters_one edit (tables_on pid taken) → Completes pid taken packet tables →
    altered ≡ alters_one edit (tables_on pid (taken ++ packet ∷ []))
altered-more edit before altered pid taken packet tables e told completes =
    e ∙ ap (λ b. b || alters_one edit tables) told
    ∙ sym (list_any-append (alters edit) (tables_on pid taken) tables)
    ∙ sym (ap (alters_one edit) completes)
