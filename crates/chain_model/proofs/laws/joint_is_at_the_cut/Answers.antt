use Rattle.chain_model.proofs.JointLaws.{joint-only, joint-always}
use Rattle.chain_model.proofs.laws.joint_is_at_the_cut.Goals as goal

pub returns-clause-only : goal.returns-clause-only
returns-clause-only c = joint-only

pub returns-clause-always : goal.returns-clause-always
returns-clause-always c = joint-always
