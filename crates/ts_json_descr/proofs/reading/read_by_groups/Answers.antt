use Rattle.std.proofs.Common.{◌++◌, map, true}
use Rattle.std.specs.Prelude.{◌&&◌}
use Rattle.ts_fields.specs.Bodies.{page}
use Rattle.ts_fields.specs.Layout.{held, rows_of}
use Rattle.ts_fields.specs.SoundRows.{rows_sound}
use Rattle.ts_groups.specs.Groups.{chosen, groups_in}
use Rattle.ts_json_descr.proofs.StepLemmas.{both}
use Rattle.ts_json_descr.proofs.reading.read_by_groups.Goals as goal

pub read_alone-requires : goal.read_alone-requires
read_alone-requires c =
    let values = map held c.deref.result.now in
    let rs = rows_of c.args.layout.now.head.now ++ chosen (groups_in c.args.groups.now) values in
    let sound = c.chosen_page_is_sound.ensures (page c.args.layout.now) (groups_in c.args.groups.now) values c.requires in
    rw (c.deref-2.ensures.value, c.in_ok-rows.ensures) (both (rows_sound rs) true (both (rows_sound rs && true) true sound).0).0
