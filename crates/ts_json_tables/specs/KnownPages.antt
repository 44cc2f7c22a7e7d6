-- The tables that have an element of their own.
-- ISO/IEC 13818-1, 2.4.4, and ETSI EN 300 468, 5.2. A known table has one line in `table_pages`.
use Rattle.std.specs.Prelude.{ℕ, List, [], ◌∷◌, bytes_eq, find, Option}
use Rattle.ts_table_rows.specs.TablePages.{TablePage, has_id}
use Rattle.ts_table_pages.specs.PsiPages.{pat_page, cat_page, pmt_page}
use Rattle.ts_table_pages.specs.SiPages.{nit_page, bat_page, sdt_page}
use Rattle.ts_table_pages.specs.EitPages.{eit_page}

-- their pages
abbrev pub table_pages : List TablePage
table_pages =
    pat_page ∷ cat_page ∷ pmt_page ∷ nit_page ∷ bat_page ∷ sdt_page ∷ eit_page ∷ []

-- the page with an element name
abbrev pub page_named : List ℕ → Option TablePage
page_named name = find (λ p. bytes_eq name p.name) table_pages

-- the page with a table_id
abbrev pub page_with_id : ℕ → Option TablePage
page_with_id id = find (λ p. has_id p.ids id) table_pages
