use Rattle.std.proofs.Common.{refl}
use Rattle.plug_rename.specs.RenameActions.{is_edited}
use Rattle.plug_rename.specs.Renaming.{eit_edit}
use Rattle.plug_rename.proofs.EditLemmas.{first-nits, first-sdts}
use Rattle.plug_rename.proofs.rename_editors.RenameEditors.new.Goals as goal

pub returns : goal.returns
returns c = record {
  valid = c.requires;
  same_service = refl;
  same_id = refl;
  sdts = first-sdts c.args.conf.now c.in_ok-sdt.sdt _ c.in_ok-sdt.ensures.edit c.in_ok-copy.ensures c.in_ok-sdt.ensures.fresh;
  pats = λ numbered. c.in_ok-pat.ensures;
  nits = first-nits c.args.conf.now c.in_ok-nit.nit _ c.in_ok-nit.ensures.edit refl refl c.in_ok-nit.ensures.fresh;
  eits = λ numbered. c.in_ok-eit.ensures (eit_edit c.args.conf.now);
  pmts = c.new-4.ensures (record { service = c.args.conf.now.service; id = c.args.conf.now.id }) (is_edited c.args.conf.now);
}
