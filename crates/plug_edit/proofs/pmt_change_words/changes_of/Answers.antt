use Rattle.std.proofs.Common.{refl}
use Rattle.plug_edit.specs.PmtWords.{pmt_rows}
use Rattle.plugin_options.proofs.RefusalLemmas.{all_true, malformed}
use Rattle.plug_edit.proofs.PmtWordsLemmas.{same_changes}
use Rattle.plug_edit.proofs.WordsLemmas.{refused_for}
use Rattle.plug_edit.proofs.pmt_change_words.changes_of.Goals as goal

pub returns-in_err-remove_descriptor-clause-reads : goal.returns-in_err-remove_descriptor-clause-reads
returns-in_err-remove_descriptor-clause-reads c =
    refused_for _ _ _ _ _ c.from_residual.ensures.1 c.in_err-remove_descriptor.ensures.reads (malformed pmt_rows c.args.found.now 6 _ refl)

pub returns-in_err-remove_pid_descriptor-clause-reads : goal.returns-in_err-remove_pid_descriptor-clause-reads
returns-in_err-remove_pid_descriptor-clause-reads c =
    refused_for _ _ _ _ _ c.from_residual-in_err-remove_pid_descriptor.ensures.1 c.in_err-remove_pid_descriptor.ensures.reads (malformed pmt_rows c.args.found.now 7 _ refl)

pub returns-in_err-language-clause-reads : goal.returns-in_err-language-clause-reads
returns-in_err-language-clause-reads c =
    refused_for _ _ _ _ _ c.from_residual-in_err-language.ensures.1 c.in_err-language.ensures.reads (malformed pmt_rows c.args.found.now 8 _ refl)

pub returns-in_err-add_ca-clause-reads : goal.returns-in_err-add_ca-clause-reads
returns-in_err-add_ca-clause-reads c =
    refused_for _ _ _ _ _ c.from_residual-in_err-add_ca.ensures.1 c.in_err-add_ca.ensures.reads (malformed pmt_rows c.args.found.now 9 _ refl)

pub returns-in_err-add_descriptor-clause-reads : goal.returns-in_err-add_descriptor-clause-reads
returns-in_err-add_descriptor-clause-reads c =
    refused_for _ _ _ _ _ c.from_residual-in_err-add_descriptor.ensures.1 c.in_err-add_descriptor.ensures.reads (malformed pmt_rows c.args.found.now 10 _ refl)

pub returns-in_err-add_pid_descriptor-clause-reads : goal.returns-in_err-add_pid_descriptor-clause-reads
returns-in_err-add_pid_descriptor-clause-reads c =
    refused_for _ _ _ _ _ c.from_residual-in_err-add_pid_descriptor.ensures.1 c.in_err-add_pid_descriptor.ensures.reads (malformed pmt_rows c.args.found.now 11 _ refl)

pub returns-clause-reads : goal.returns-clause-reads
returns-clause-reads c = (
  all_true _ _ c.in_ok-remove_descriptor.ensures.reads.0 (all_true _ _ c.in_ok-remove_pid_descriptor.ensures.reads.0 (all_true _ _ c.in_ok-language.ensures.reads.0 (all_true _ _ c.in_ok-add_ca.ensures.reads.0 (all_true _ _ c.in_ok-add_descriptor.ensures.reads.0 (all_true _ _ c.in_ok-add_pid_descriptor.ensures.reads.0 refl))))),
  same_changes c.in_ok-remove_descriptor.ensures.reads.1 c.in_ok-remove_pid_descriptor.ensures.reads.1 c.in_ok-language.ensures.reads.1 c.in_ok-add_ca.ensures.reads.1 c.in_ok-add_descriptor.ensures.reads.1 c.in_ok-add_pid_descriptor.ensures.reads.1,
)
