use Rattle.ts_json_descr.proofs.showing.generic_json.Goals as goal

pub returns : goal.returns
returns c = rw (c.deref.ensures.value, c.in_ok-values.ensures) at c.element_json.ensures
