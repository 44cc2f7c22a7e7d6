use Rattle.plug_every.proofs.maybe_every.MaybeEveryPlugin.steps.Goals as goal

pub returns-in-Plain-clause-makes : goal.returns-in-Plain-clause-makes
returns-in-Plain-clause-makes g c = rw c.in-Plain.is c.steps.ensures.makes

pub returns-in-Every-clause-makes : goal.returns-in-Every-clause-makes
returns-in-Every-clause-makes g c = rw c.in-Every.is (rw c.deref_mut.ensures.value at c.steps-in-Every.ensures.makes)
