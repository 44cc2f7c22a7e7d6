use Rattle.search_source.proofs.Hands.{hand-less}
use Rattle.search_source.proofs.finder.Finder.leave_out.Goals as goal

pub returns-clause-hand : goal.returns-clause-hand
returns-clause-hand c = hand-less c.args.self.now.from c.args.self.now.have c.args.count c.args.self.now.room.items c.requires.fits
