use Rattle.std.proofs.Common.{[], ◌∷◌, ◌∙◌, ap}
use Rattle.ts_fields.specs.Layout.{number}
use Rattle.ts_table_rows.specs.RowWords.{flag}
use Rattle.plug_rename.proofs.ItemLemmas.{held, item-as}
use Rattle.plug_rename.proofs.sdt_names.service_as.Goals as goal

pub returns : goal.returns
returns c =
    let s = c.args.held in
    let values = flag s.schedule ∷ flag s.present ∷ number s.running ∷ flag s.free_ca ∷ [] in
    ap (λ own. held own values s.descriptors) c.number_after.ensures.tells ∙ item-as c.args.service c.args.id s.service_id values s.descriptors
