-- NIT, BAT and SDT fit their layouts.
use Rattle.std.proofs.Common.{◌≡◌, ℕ, ◌^◌, ◌<◌, Bool, true, false, List, [], ◌∷◌, map, refl, ap}
use Rattle.std.specs.Prelude.{◌&&◌, is_some, nat_lt, None}
use Rattle.std.specs.List.{list_all}
use Rattle.std.proofs.lemmas.Bool.{and_from, lt-ltb}
use Rattle.ts_fields.specs.Layout.{Held, number}
use Rattle.ts_fields.specs.Fitting.{fits}
use Rattle.ts_table_rows.specs.TableValues.{ItemHolding}
use Rattle.ts_table_rows.specs.TableFitting.{item_fits, zeros_from, head_fits, body_fits, table_fits, values_fit}
use Rattle.ts_table_rows.proofs.ListLemmas.{zeros_free}
use Rattle.ts_table_pages.specs.SiPages.{network_rows, stream_page, service_page, nit_page, bat_page, sdt_page}
use Rattle.ts_si.specs.SiTables.{nit_id, sdt_id, stream_item, service_item, nit_held, bat_held, sdt_held}
use Rattle.ts_si.specs.declared.nit.Nit.{Nit}
use Rattle.ts_si.specs.declared.bat.Bat.{Bat}
use Rattle.ts_si.specs.declared.sdt.Sdt.{Sdt}

zeros_some : (xs : List ItemHolding) → is_some (zeros_from false false xs) ≡ true
zeros_some xs = ap is_some (zeros_free false xs)

-- the numbers of a head
numbers_fit_in : (extension version : ℕ) → extension < 65536 → version < 32 → (nat_lt extension 65536 && (nat_lt version 32 && true)) ≡ true
numbers_fit_in extension version small in_range =
    and_from (nat_lt extension 65536) (nat_lt version 32 && true) (lt-ltb extension 65536 small)
    (and_from (nat_lt version 32) true (lt-ltb version 32 in_range) refl)

nit_head_fits : (actual : Bool) (extension version : ℕ) (current : Bool) → extension < 65536 → version < 32
    → head_fits nit_page (record { table_id = nit_id actual; extension = extension; version = version; current = current; numbers = None }) ≡ true
nit_head_fits true extension version current small in_range = numbers_fit_in extension version small in_range
nit_head_fits false extension version current small in_range = numbers_fit_in extension version small in_range

sdt_head_fits : (actual : Bool) (extension version : ℕ) (current : Bool) → extension < 65536 → version < 32
    → head_fits sdt_page (record { table_id = sdt_id actual; extension = extension; version = version; current = current; numbers = None }) ≡ true
sdt_head_fits true extension version current small in_range = numbers_fit_in extension version small in_range
sdt_head_fits false extension version current small in_range = numbers_fit_in extension version small in_range

-- the items of the body of a NIT or a BAT
streams_fit : (xs : List ItemHolding) → list_all (item_fits stream_page) xs ≡ true → (list_all (item_fits stream_page) xs && is_some (zeros_from false false xs)) ≡ true
streams_fit xs items = and_from (list_all (item_fits stream_page) xs) _ items (zeros_some xs)

pub nit_fits : (n : Nit) → n.network_id < 65536 → n.version < 32 → list_all (item_fits stream_page) (map stream_item n.streams) ≡ true → table_fits nit_page (nit_held n) ≡ true
unfolding fits
nit_fits n network version items =
    and_from (head_fits nit_page (nit_held n).head) (body_fits nit_page (nit_held n).body) (nit_head_fits n.actual n.network_id n.version n.current network version)
    (streams_fit (map stream_item n.streams) items)

pub bat_fits : (b : Bat) → b.bouquet_id < 65536 → b.version < 32 → list_all (item_fits stream_page) (map stream_item b.streams) ≡ true → table_fits bat_page (bat_held b) ≡ true
unfolding fits
bat_fits b bouquet version items =
    and_from (head_fits bat_page (bat_held b).head) (body_fits bat_page (bat_held b).body) (numbers_fit_in b.bouquet_id b.version bouquet version)
    (streams_fit (map stream_item b.streams) items)

original_fits : (id : ℕ) → id < 65536 → values_fit sdt_page (number id ∷ []) ≡ true
unfolding fits
original_fits id small = and_from (nat_lt id (2 ^ 16) && true) true (and_from (nat_lt id (2 ^ 16)) true (lt-ltb id (2 ^ 16) small) refl) refl

pub sdt_fits : (s : Sdt) → s.stream_id < 65536 → s.original_id < 65536 → s.version < 32 → list_all (item_fits service_page) (map service_item s.services) ≡ true → table_fits sdt_page (sdt_held s) ≡ true
sdt_fits s stream original version items =
    and_from (head_fits sdt_page (sdt_held s).head) (body_fits sdt_page (sdt_held s).body) (sdt_head_fits s.actual s.stream_id s.version s.current stream version)
    (and_from (values_fit sdt_page (number s.original_id ∷ [])) _ (original_fits s.original_id original)
    (and_from (list_all (item_fits service_page) (map service_item s.services)) _ items (zeros_some (map service_item s.services))))

pub no_values : (values : List Held) → fits network_rows values ≡ true → values ≡ []
unfolding fits
no_values [] ok = refl
no_values (v ∷ values) ok = cc
