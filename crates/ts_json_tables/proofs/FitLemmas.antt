-- What a table that fits its page has.
use Rattle.std.proofs.Common.{◌≡◌, ◌<◌, true, false}
use Rattle.std.specs.Prelude.{is_some, nat_lt}
use Rattle.std.proofs.lemmas.Bool.{ltb-true}
use Rattle.ts_fields.specs.Fitting.{fits}
use Rattle.ts_table_rows.specs.BodySpelling.{common_values, head_values}
use Rattle.ts_table_rows.specs.TableFitting.{body_fits, head_fits, items_fit, numbers_fit, own_fit, table_fits, values_fit, zeros_from}
use Rattle.ts_table_rows.specs.TablePages.{TablePage, has_id}
use Rattle.ts_table_rows.specs.TableValues.{TableHolding}
use Rattle.ts_json_tables.proofs.StepLemmas.{both}

pub record Parts (p : TablePage) (t : TableHolding) : Type 0 where
  pub id : has_id p.ids t.head.table_id ≡ true
  pub valid_id : t.head.table_id < 255
  pub extension : t.head.extension < 65536
  pub version : t.head.version < 32
  pub numbers : numbers_fit p.keeps_numbers t.head.numbers ≡ true
  pub common : fits p.common (common_values p t.body.values) ≡ true
  pub others : fits p.head (head_values p t.body.values) ≡ true
  pub own : own_fit p.loop_form t.body.descriptors ≡ true
  pub items : items_fit p.items t.body.items ≡ true
  pub zeros : is_some (zeros_from p.one_zero false t.body.items) ≡ true

pub fit_parts : (p : TablePage) (t : TableHolding) → table_fits p t ≡ true → Parts p t
fit_parts p t fit =
    let whole = both (head_fits p t.head) (body_fits p t.body) fit in
    let a = both (has_id p.ids t.head.table_id) _ whole.0 in
    let b = both (nat_lt t.head.table_id 255) _ a.1 in
    let c = both (nat_lt t.head.extension 65536) _ b.1 in
    let d = both (nat_lt t.head.version 32) (numbers_fit p.keeps_numbers t.head.numbers) c.1 in
    let e = both (values_fit p t.body.values) _ whole.1 in
    let f = both (fits p.common (common_values p t.body.values)) (fits p.head (head_values p t.body.values)) e.0 in
    let g = both (own_fit p.loop_form t.body.descriptors) _ e.1 in
    let h = both (items_fit p.items t.body.items) (is_some (zeros_from p.one_zero false t.body.items)) g.1 in
    record {
      id = a.0;
      valid_id = ltb-true t.head.table_id 255 b.0;
      extension = ltb-true t.head.extension 65536 c.0;
      version = ltb-true t.head.version 32 d.0;
      numbers = d.1;
      common = f.0;
      others = f.1;
      own = g.0;
      items = h.0;
      zeros = h.1;
    }
