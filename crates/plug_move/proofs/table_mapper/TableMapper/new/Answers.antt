use Rattle.std.proofs.Common.{ap, ◌∙◌}
use Rattle.plug_move.specs.RemapRule.{is_edited}
use Rattle.plug_move.proofs.table_mapper.TableMapper.new.Goals as goal

pub returns : goal.returns
returns c = record {
  working = c.unset.ensures;
  same_pairs = ap (λ t. t.0) (c.in_ok-table.ensures.ok ∙ c.in_ok-of.ensures);
  in_force = c.in_ok-force.ensures;
  cats_read = c.in_ok-cats.ensures;
  edits = c.new-4.ensures c.in_ok-table.table is_edited;
}
