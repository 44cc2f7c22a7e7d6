-- An EIT fits its layout.
use Rattle.std.proofs.Common.{◌≡◌, ℕ, ◌<◌, ◌≤◌, true, false, map, ap, arith}
use Rattle.std.specs.Prelude.{◌||◌, is_some, nat_le, nat_lt}
use Rattle.std.specs.List.{list_all}
use Rattle.std.proofs.lemmas.Bool.{and_from, le-leb, lt-ltb}
use Rattle.ts_table_rows.specs.TableFitting.{item_fits, head_fits, body_fits, table_fits, values_fit}
use Rattle.ts_table_rows.specs.TablePages.{has_id}
use Rattle.ts_table_rows.proofs.ListLemmas.{zeros_free}
use Rattle.ts_table_pages.specs.EitPages.{event_page, eit_page}
use Rattle.ts_eit.specs.EitTables.{event_item, eit_held}
use Rattle.ts_eit.specs.declared.eit.Eit.{Eit}

id_fits : (id : ℕ) → 0x4E ≤ id → id ≤ 0x6F → has_id eit_page.ids id ≡ true
id_fits id low high = ap (λ b. b || false) (and_from (nat_le 0x4E id) (nat_le id 0x6F) (le-leb 0x4E id low) (le-leb id 0x6F high))

eit_head_fits : (e : Eit) → e.service_id < 65536 → e.last < 256 → head_fits eit_page (eit_held e).head ≡ true
eit_head_fits e service last =
    and_from (has_id eit_page.ids e.table_id) _ (id_fits e.table_id e.first_id e.last_id)
    (and_from (nat_lt e.table_id 255) _ (lt-ltb e.table_id 255 (below e.table_id e.last_id))
    (and_from (nat_lt e.service_id 65536) _ (lt-ltb e.service_id 65536 service)
    (and_from (nat_lt e.version 32) _ (lt-ltb e.version 32 e.version_in_range)
    (and_from (nat_le e.number e.last) (nat_lt e.last 256) (le-leb e.number e.last e.number_in_range) (lt-ltb e.last 256 last)))))
  where
    below : (id : ℕ) → id ≤ 0x6F → id < 255
    below id high = omega arith

pub eit_fits : (e : Eit) → e.service_id < 65536 → e.last < 256 → values_fit eit_page (eit_held e).body.values ≡ true → list_all (item_fits event_page) (map event_item e.events) ≡ true → table_fits eit_page (eit_held e) ≡ true
eit_fits e service last values items =
    and_from (head_fits eit_page (eit_held e).head) (body_fits eit_page (eit_held e).body) (eit_head_fits e service last)
    (and_from (values_fit eit_page (eit_held e).body.values) _ values
    (and_from (list_all (item_fits event_page) (map event_item e.events)) _ items (ap is_some (zeros_free false (map event_item e.events)))))
