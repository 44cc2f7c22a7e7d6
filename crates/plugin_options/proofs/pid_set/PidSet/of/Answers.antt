use Rattle.std.proofs.Common.{rules, ◌≡◌, false, slice_index_or, sym, ap, ◌∙◌}
use Rattle.plugin_options.specs.NumberSet.{has_number}
use Rattle.plugin_options.proofs.pid_set.PidSet.of.Goals as goal

pub invariant_of-result : goal.invariant_of-result
invariant_of-result c = λ pid below.
    let told : slice_index_or c.in_ok-table.table pid false ≡ has_number c.args.ranges.now pid = (let call = c.in_ok-table.ensures pid false below in search rules) in
    told ∙ ap (λ r. has_number r pid) (sym (c.of-ranges.ensures ∙ c.in_ok-from_slice.ensures.items ∙ c.as_slice.ensures.value))
