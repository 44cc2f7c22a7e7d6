use Rattle.serde_json.specs.View.{members_view}
use Rattle.std.proofs.Common.{sym}
use Rattle.ts_jtree.proofs.ShownLemmas.{none_put}
use Rattle.ts_jtree.proofs.shown.show_attribute.Goals as goal

pub returns-in-None : goal.returns-in-None
returns-in-None c =
    rw c.in-None.is (sym (none_put c.args.field.now.kind c.args.field.now.name.now (members_view c.args.members.now.entries)))
