use Rattle.std.proofs.Common.{map, ap, false, ◌∙◌, subst}
use Rattle.std.specs.Prelude.{All}
use Rattle.std.proofs.lemmas.List.{map-id}
use Rattle.ts_bits.specs.TaggedBody.{TaggedBody, IsDescriptor}
use Rattle.ts_table_rows.specs.FilledRows.{thing_view, own_row}
use Rattle.ts_table_rows.proofs.FillLemmas.{map_one_more, map_all, All_one_more, All_all}
use Rattle.ts_table_rows.proofs.filling.own_rows.Goals as goal

pub loop-descriptor-preserved : goal.loop-descriptor-preserved
loop-descriptor-preserved c = record {
  written =
      map_one_more thing_view own_row (λ (d : TaggedBody). d) c.loop-descriptor.rows.items _ _ c.as_slice-list.result.now c.loop-descriptor.descriptor-index c.descriptor-item.result c.loop-descriptor-test.true c.descriptor-item.is c.in_ok-push.ensures.items
      (ap (λ b. (false, b)) c.in_ok-bytes.ensures.row) c.loop-descriptor.invariant.written;
  fit =
      All_one_more (λ d. IsDescriptor d) (λ (d : TaggedBody). d) c.as_slice-list.result.now c.loop-descriptor.descriptor-index c.descriptor-item.result c.loop-descriptor-test.true c.descriptor-item.is c.in_ok-bytes.ensures.fits c.loop-descriptor.invariant.fit;
}

pub returns-clause-rows : goal.returns-clause-rows
returns-clause-rows c =
    map_all thing_view own_row (λ (d : TaggedBody). d) c.loop-descriptor.rows.items c.as_slice-list.result.now c.loop-descriptor.descriptor-index c.loop-descriptor-test.false c.loop-descriptor.invariant.written
    ∙ ap (map own_row) (map-id c.as_slice-list.result.now ∙ c.as_slice-list.ensures)

pub returns-clause-fit : goal.returns-clause-fit
returns-clause-fit c =
    subst (All (λ d. IsDescriptor d)) (map-id c.as_slice-list.result.now ∙ c.as_slice-list.ensures)
    (All_all (λ d. IsDescriptor d) (λ (d : TaggedBody). d) c.as_slice-list.result.now c.loop-descriptor.descriptor-index c.loop-descriptor-test.false c.loop-descriptor.invariant.fit)
