use Rattle.tabcomp_core.proofs.TablesTold.{text_told_again}
use Rattle.tabcomp_core.proofs.compile_laws.compiled_is_decompiled.Goals as goal

pub returns : goal.returns
returns c = text_told_again c.read_tables_are_valid.ensures c.sections_tell_their_table.ensures.told
