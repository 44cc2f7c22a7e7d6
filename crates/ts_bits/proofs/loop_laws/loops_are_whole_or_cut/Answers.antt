use Rattle.ts_bits.proofs.Loops.{written_again, was_written, was_cut}
use Rattle.ts_bits.proofs.loop_laws.loops_are_whole_or_cut.Goals as goal

pub returns-clause-again : goal.returns-clause-again
returns-clause-again c = λ ds. written_again ds

pub returns-clause-whole : goal.returns-clause-whole
returns-clause-whole c = λ row ds is. was_written row ds is

pub returns-clause-cut : goal.returns-clause-cut
returns-clause-cut c = λ row offset is. was_cut row offset is
