use Rattle.std.proofs.Common.{◌∙◌, ap, sym}
use Rattle.std.specs.List.{list_any}
use Rattle.std.specs.Prelude.{if◌then◌else◌}
use Rattle.plug_edit.specs.SdtEdit.{edited_sdt, has_id}
use Rattle.ts_si.specs.SiTables.{sdt_held, service_item}
use Rattle.plug_rename.specs.Renaming.{if_it_fits}
use Rattle.plug_rename.proofs.ItemLemmas.{any-seen}
use Rattle.plug_rename.proofs.SettingLemmas.{valid-texts}
use Rattle.plug_rename.proofs.sdt_names.with_texts.Goals as goal

pub edit_sdt-requires : goal.edit_sdt-requires
edit_sdt-requires c = valid-texts c.args.conf.now c.requires

pub returns-then-not-has_service : goal.returns-then-not-has_service
returns-then-not-has_service c =
    let conf = c.args.conf.now in
    let table = sdt_held c.args.sdt in
    let has = sym c.if-not-has_service.true ∙ c.has_service.ensures ∙ ap (λ all. list_any (λ service. has_id conf.service (service_item service)) all) c.as_slice.ensures
    ∙ any-seen (has_id conf.service) service_item c.args.sdt.services in
    ap (λ b. if b then if_it_fits (edited_sdt conf.texts table) table else table) has

pub returns : goal.returns
returns c =
    let conf = c.args.conf.now in
    let table = sdt_held c.args.sdt in
    let has = sym c.if-not-has_service.false ∙ c.has_service.ensures ∙ ap (λ all. list_any (λ service. has_id conf.service (service_item service)) all) c.as_slice.ensures
    ∙ any-seen (has_id conf.service) service_item c.args.sdt.services in
    c.in_ok-left.ensures
    ∙ ap (λ named. if_it_fits named table) (c.in_ok-named.ensures ∙ ap (λ sdt. edited_sdt conf.texts (sdt_held sdt)) c.in_ok-copy.ensures)
    ∙ ap (λ b. if b then if_it_fits (edited_sdt conf.texts table) table else table) has
