-- The contents, one packet more.
use Rattle.std.proofs.Common.{◌≡◌, ℕ, List, [], ◌∷◌, ◌++◌, fold, map, sym, ◌∙◌, ap}
use Rattle.std.proofs.lemmas.List.Sums.{fold-append}
use Rattle.indexmap.specs.IndexMap.{values}
use Rattle.ts_demux.specs.TablesOn.{Completes, tables_on}
use Rattle.ts_demux.proofs.TablesAfter.{no_tables}
use Rattle.plug_psi.specs.Contents.{Entry, with_table, entries_of, contents_of}
use Rattle.plug_psi.specs.ContentsState.{HasContents}
use Rattle.plug_psi.specs.declared.contents.Contents.{Contents}

pub kept-new : (entries : List Entry) (pid : ℕ) → entries ≡ [] → entries ≡ entries_of (tables_on pid [])
unfolding entries_of
kept-new entries pid e = e ∙ sym (ap (fold with_table []) (no_tables pid))

-- the tables of a packet are kept after those that were kept before
pub kept-more :
    (old new : List Entry) (tables : List (List (List ℕ))) (pid : ℕ) (taken : List (List ℕ)) (packet : List ℕ) → new ≡ fold with_table old tables →
    old ≡ entries_of (tables_on pid taken) → Completes pid taken packet tables → new ≡ entries_of (tables_on pid (taken ++ packet ∷ []))
unfolding entries_of
kept-more old new tables pid taken packet kept before completes =
    kept ∙ ap (λ entries. fold with_table entries tables) before
    ∙ sym (fold-append with_table [] (tables_on pid taken) tables)
    ∙ sym (ap (fold with_table []) completes)

-- the tables that are kept are the contents
pub contents-kept : (contents : Contents) (pid : ℕ) (taken : List (List ℕ)) → HasContents contents pid taken → values contents.tables ≡ contents_of pid taken
unfolding contents_of
contents-kept contents pid taken has = ap (map (λ entry. entry.1)) has
