use Rattle.serde_json.specs.View.{view}
use Rattle.ts_json_tables.proofs.ByteLemmas.{descr_told}
use Rattle.ts_json_tables.proofs.children.read_descr.Goals as goal

pub returns : goal.returns
returns c =
    descr_told c.written_rows_are_whole.ensures.bytes (view c.args.value.now) c.in_ok-descriptor.descriptor c.body-body.ensures.fits.bytes c.in_ok-descriptor.ensures
