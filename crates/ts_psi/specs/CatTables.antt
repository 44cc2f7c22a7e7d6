-- A CAT as a table.
-- ISO/IEC 13818-1, 2.4.4.6: the bits where others have table_id_extension are reserved.
use Rattle.std.specs.Prelude.{ℕ, List, [], None, Result, Ok}
use Rattle.ts_table_rows.specs.TableValues.{TableHolding}
use Rattle.ts_table_rows.specs.RunReading.{FirstBroken, read_run, ◌>>=◌}
use Rattle.ts_table_pages.specs.PsiPages.{cat_page}
use Rattle.ts_psi.specs.declared.cat.Cat.{Cat}

-- a CAT as a table, with reserved bits as ones
abbrev pub cat_held : Cat → TableHolding
cat_held c = record {
  head = record { table_id = 0x01; extension = 0xFFFF; version = c.version; current = c.current; numbers = None };
  body = record { values = []; descriptors = c.descriptors; items = [] };
}

-- a table as that of a CAT, with the bits of table_id_extension as ones
abbrev pub cat_table : TableHolding → TableHolding
cat_table t = record {
  head = record { table_id = 0x01; extension = 0xFFFF; version = t.head.version; current = t.head.current; numbers = None };
  body = record { values = []; descriptors = t.body.descriptors; items = [] };
}

-- the CAT of a run, or the first rule that it breaks
abbrev pub read_cat : List (List ℕ) → Result TableHolding FirstBroken
read_cat run = do
  t ← read_run cat_page run
  Ok (cat_table t)
