use Rattle.ts_packet.proofs.LabelLemmas.{has_label-below, has_label-joined, has_label-more, has_label-none, same-labels, shared-from, shared-some}
use Rattle.ts_packet.proofs.label_laws.labels_are_a_set.Goals as goal

pub returns-clause-empty : goal.returns-clause-empty
returns-clause-empty c = has_label-none

pub returns-clause-more : goal.returns-clause-more
returns-clause-more c = has_label-more

pub returns-clause-both : goal.returns-clause-both
returns-clause-both c = has_label-joined

pub returns-clause-picked : goal.returns-clause-picked
returns-clause-picked c = has_label-below

pub returns-clause-shared : goal.returns-clause-shared
returns-clause-shared c = λ a b. (shared-some a b, λ w. shared-from a b w.0 w.1 w.2)

pub returns-clause-told : goal.returns-clause-told
returns-clause-told c = same-labels
